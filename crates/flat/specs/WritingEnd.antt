-- What a host's writing end and counter stand for, and the flat forms of the answers that are one. Of a copy, what it leaves in
-- the lent memory with it.
use Rattle.std.specs.Prelude.{ℕ, List, Result, Ok, Err}
use Rattle.ends.specs.declared.writing_end.WrittenCounter as ends_counter
use Rattle.ends.specs.declared.writing_end.WritingEnd as ends_end
use Rattle.ends.specs.Ends.{writing_end, WroteLeft}
use Rattle.flat.specs.declared.structs.WroteAnswer.{WroteAnswer}
use Rattle.flat.specs.declared.structs.WrittenCounter.{WrittenCounter}
use Rattle.flat.specs.declared.structs.WrittenCounterAnswer.{WrittenCounterAnswer}
use Rattle.flat.specs.declared.structs.WritingEnd.{WritingEnd}
use Rattle.flat.specs.declared.structs.WritingEndAnswer.{WritingEndAnswer}
use Rattle.flat.specs.Flat.{no_refusal, flat_end_refusal}
use Rattle.flat.specs.Scheduler.{scheduler_at, no_scheduler, flat_scheduler}
use Rattle.ends.specs.declared.writing_end.Wrote.{Wrote}
use Rattle.ends.specs.declared.refusal.Refusal.{Refusal}

abbrev pub written_counter_at : WrittenCounter → ends_counter.WrittenCounter
written_counter_at c = record { 0 = record { 0 = c.counter } }

abbrev pub writing_end_at : WritingEnd → ends_end.WritingEnd
writing_end_at e = writing_end (scheduler_at e.scheduler)

abbrev pub no_writing_end : WritingEnd
no_writing_end = record { scheduler = no_scheduler }

abbrev pub flat_writing_end : ends_end.WritingEnd → WritingEnd
flat_writing_end e = record { scheduler = flat_scheduler e.scheduler }

abbrev pub flat_writing_end_answer : Result ends_end.WritingEnd Refusal → WritingEndAnswer
flat_writing_end_answer (Ok e) = record { refusal = no_refusal; end = flat_writing_end e }
flat_writing_end_answer (Err r) = record { refusal = flat_end_refusal r; end = no_writing_end }

abbrev pub flat_written_counter : Result ends_counter.WrittenCounter Refusal → WrittenCounterAnswer
flat_written_counter (Ok c) = record { refusal = no_refusal; counter = record { counter = c.0.0 } }
flat_written_counter (Err r) = record { refusal = flat_end_refusal r; counter = record { counter = 0 } }

abbrev pub flat_wrote : Result Wrote Refusal → WroteAnswer
flat_wrote (Ok m) = record { refusal = no_refusal; end = flat_writing_end m.end; n = m.portion.len; remainder = m.portion.remainder }
flat_wrote (Err r) = record { refusal = flat_end_refusal r; end = no_writing_end; n = 0; remainder = 0 }

pub record WroteAnswerLeft : Type 0 where
  pub answer : WroteAnswer
  pub memory : List ℕ

abbrev pub wrote_answer_left : WroteAnswer → List ℕ → WroteAnswerLeft
wrote_answer_left a m = record { answer = a; memory = m }

abbrev pub flat_wrote_left : WroteLeft → WroteAnswerLeft
flat_wrote_left x = wrote_answer_left (flat_wrote x.answer) x.memory
