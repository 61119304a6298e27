-- What a host's reading end and counter stand for, and the flat forms of the answers that are one. Of a copy, what it leaves in
-- the lent memory with it.
use Rattle.std.specs.Prelude.{ℕ, List, Result, Ok, Err}
use Rattle.ends.specs.declared.reading_end.ReadCounter as ends_counter
use Rattle.ends.specs.declared.reading_end.ReadingEnd as ends_end
use Rattle.ends.specs.Ends.{reading_end, GotLeft}
use Rattle.flat.specs.declared.structs.GotAnswer.{GotAnswer}
use Rattle.flat.specs.declared.structs.ReadCounter.{ReadCounter}
use Rattle.flat.specs.declared.structs.ReadCounterAnswer.{ReadCounterAnswer}
use Rattle.flat.specs.declared.structs.ReadingEnd.{ReadingEnd}
use Rattle.flat.specs.declared.structs.ReadingEndAnswer.{ReadingEndAnswer}
use Rattle.flat.specs.Flat.{no_refusal, flat_end_refusal}
use Rattle.flat.specs.Scheduler.{scheduler_at, no_scheduler, flat_scheduler}
use Rattle.ends.specs.declared.reading_end.Got.{Got}
use Rattle.ends.specs.declared.refusal.Refusal.{Refusal}

abbrev pub read_counter_at : ReadCounter → ends_counter.ReadCounter
read_counter_at c = record { 0 = record { 0 = c.counter } }

abbrev pub reading_end_at : ReadingEnd → ends_end.ReadingEnd
reading_end_at e = reading_end (scheduler_at e.scheduler)

abbrev pub no_reading_end : ReadingEnd
no_reading_end = record { scheduler = no_scheduler }

abbrev pub flat_reading_end : ends_end.ReadingEnd → ReadingEnd
flat_reading_end e = record { scheduler = flat_scheduler e.scheduler }

abbrev pub flat_reading_end_answer : Result ends_end.ReadingEnd Refusal → ReadingEndAnswer
flat_reading_end_answer (Ok e) = record { refusal = no_refusal; end = flat_reading_end e }
flat_reading_end_answer (Err r) = record { refusal = flat_end_refusal r; end = no_reading_end }

abbrev pub flat_read_counter : Result ends_counter.ReadCounter Refusal → ReadCounterAnswer
flat_read_counter (Ok c) = record { refusal = no_refusal; counter = record { counter = c.0.0 } }
flat_read_counter (Err r) = record { refusal = flat_end_refusal r; counter = record { counter = 0 } }

abbrev pub flat_got : Result Got Refusal → GotAnswer
flat_got (Ok m) = record { refusal = no_refusal; end = flat_reading_end m.end; n = m.portion.len; remainder = m.portion.remainder }
flat_got (Err r) = record { refusal = flat_end_refusal r; end = no_reading_end; n = 0; remainder = 0 }

pub record GotAnswerLeft : Type 0 where
  pub answer : GotAnswer
  pub memory : List ℕ

abbrev pub got_answer_left : GotAnswer → List ℕ → GotAnswerLeft
got_answer_left a m = record { answer = a; memory = m }

abbrev pub flat_got_left : GotLeft → GotAnswerLeft
flat_got_left x = got_answer_left (flat_got x.answer) x.memory
