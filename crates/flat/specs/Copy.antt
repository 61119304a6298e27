-- The flat form of what a copy answers, and with it what the copy leaves in the lent memory.
use Rattle.std.specs.Prelude.{ℕ, List, Result, Ok, Err}
use Rattle.copies.specs.Copies.{Left}
use Rattle.flat.specs.declared.structs.CopyAnswer.{CopyAnswer}
use Rattle.flat.specs.Flat.{no_refusal, flat_copy_refusal}
use Rattle.flat.specs.Scheduler.{no_scheduler, flat_scheduler}
use Rattle.copies.specs.declared.Copied.{Copied}
use Rattle.copies.specs.declared.refusal.Refusal.{Refusal}

abbrev pub flat_copied : Result Copied Refusal → CopyAnswer
flat_copied (Ok m) = record { refusal = no_refusal; scheduler = flat_scheduler m.scheduler; n = m.portion.len; remainder = m.portion.remainder }
flat_copied (Err e) = record { refusal = flat_copy_refusal e; scheduler = no_scheduler; n = 0; remainder = 0 }

pub record CopyAnswerLeft : Type 0 where
  pub answer : CopyAnswer
  pub memory : List ℕ

abbrev pub copy_answer_left : CopyAnswer → List ℕ → CopyAnswerLeft
copy_answer_left a m = record { answer = a; memory = m }

abbrev pub flat_left : Left → CopyAnswerLeft
flat_left x = copy_answer_left (flat_copied x.answer) x.memory
