-- The six calls of the two ends as a host makes them through the exports: its record goes in flat, and what comes out it reads back.
use Rattle.std.specs.Prelude.{ℕ, cond, List, eqb, Result, Ok, Err}
use Rattle.copies.specs.declared.refusal.Refusal.TheVariants.{Scheduler, RingMemory}
use Rattle.ends.specs.Ends.{WroteLeft, GotLeft}
use Rattle.ends.specs.Plain.{Calls}
use Rattle.ends.specs.declared.reading_end.ReadCounter as ends_read
use Rattle.ends.specs.declared.refusal.Refusal as ends
use Rattle.ends.specs.declared.refusal.Refusal.TheVariants.{Copy, RanBack}
use Rattle.ends.specs.declared.writing_end.WrittenCounter as ends_written
use Rattle.flat.specs.Back.{portion_at}
use Rattle.flat.specs.ReadingEnd.{read_counter_at, reading_end_at, flat_reading_end, GotAnswerLeft}
use Rattle.flat.specs.Refusal.{scheduler_refusal_at}
use Rattle.flat.specs.WritingEnd.{written_counter_at, writing_end_at, flat_writing_end, WroteAnswerLeft}
use Rattle.flat.specs.declared.structs.GotAnswer.{GotAnswer}
use Rattle.flat.specs.declared.structs.ReadCounter.{ReadCounter}
use Rattle.flat.specs.declared.structs.ReadCounterAnswer.{ReadCounterAnswer}
use Rattle.flat.specs.declared.structs.ReadingEnd.{ReadingEnd}
use Rattle.flat.specs.declared.structs.ReadingEndAnswer.{ReadingEndAnswer}
use Rattle.flat.specs.declared.structs.Refusal.{Refusal}
use Rattle.flat.specs.declared.structs.WritingEnd.{WritingEnd}
use Rattle.flat.specs.declared.structs.WritingEndAnswer.{WritingEndAnswer}
use Rattle.flat.specs.declared.structs.WrittenCounter.{WrittenCounter}
use Rattle.flat.specs.declared.structs.WrittenCounterAnswer.{WrittenCounterAnswer}
use Rattle.flat.specs.declared.structs.WroteAnswer.{WroteAnswer}
use Rattle.ends.specs.declared.reading_end.Got.{Got}
use Rattle.ends.specs.declared.writing_end.Wrote.{Wrote}
use Rattle.ends.specs.declared.writing_end.WritingEnd as ends_writingend
use Rattle.ends.specs.declared.reading_end.ReadingEnd as ends_readingend

-- the six exports, as functions
pub record FlatCalls : Type 0 where
  pub write : WritingEnd → List ℕ → List ℕ → WroteAnswerLeft
  pub read : ReadingEnd → List ℕ → List ℕ → GotAnswerLeft
  pub send_w : WritingEnd → WrittenCounterAnswer
  pub send_r : ReadingEnd → ReadCounterAnswer
  pub take_w : WritingEnd → ReadCounter → WritingEndAnswer
  pub take_r : ReadingEnd → WrittenCounter → ReadingEndAnswer

-- ---- what a host reads in an answer: where the number is 0 the end, the counter, the amount, and else the refusal
unfoldable pub end_refusal_at : Refusal → ends.Refusal
end_refusal_at e =
    cond (eqb e.number 9) (Copy RingMemory)
    (cond (eqb e.number 10) RanBack
    (Copy (Scheduler (scheduler_refusal_at e))))

abbrev pub by_number : {A : Type 0} → Refusal → A → (ends.Refusal → A) → A
by_number r x refused = cond (eqb r.number 0) x (refused (end_refusal_at r))

abbrev pub wrote_at : WroteAnswer → Result Wrote ends.Refusal
wrote_at z = by_number z.refusal (Ok (record { end = writing_end_at z.end; portion = portion_at z.n z.remainder })) Err

abbrev pub got_at : GotAnswer → Result Got ends.Refusal
got_at z = by_number z.refusal (Ok (record { end = reading_end_at z.end; portion = portion_at z.n z.remainder })) Err

-- with a copy, what it left in the lent memory
abbrev pub wrote_left_at : WroteAnswerLeft → WroteLeft
wrote_left_at x = record { answer = wrote_at x.answer; memory = x.memory }

abbrev pub got_left_at : GotAnswerLeft → GotLeft
got_left_at x = record { answer = got_at x.answer; memory = x.memory }

abbrev pub written_at : WrittenCounterAnswer → Result ends_written.WrittenCounter ends.Refusal
written_at z = by_number z.refusal (Ok (written_counter_at z.counter)) Err

abbrev pub read_at : ReadCounterAnswer → Result ends_read.ReadCounter ends.Refusal
read_at z = by_number z.refusal (Ok (read_counter_at z.counter)) Err

abbrev pub writing_at : WritingEndAnswer → Result ends_writingend.WritingEnd ends.Refusal
writing_at z = by_number z.refusal (Ok (writing_end_at z.end)) Err

abbrev pub reading_at : ReadingEndAnswer → Result ends_readingend.ReadingEnd ends.Refusal
reading_at z = by_number z.refusal (Ok (reading_end_at z.end)) Err

-- ---- the counters as a host passes them on: each by its own name, so that one kind is never handed in for the other
abbrev pub written_in : ends_written.WrittenCounter → WrittenCounter
written_in c = record { counter = c.0.0 }

abbrev pub read_in : ends_read.ReadCounter → ReadCounter
read_in c = record { counter = c.0.0 }

-- the ends of a host, in the words of `ends`
abbrev pub hosted : FlatCalls → Calls
hosted f =
    record {
      write = λ e ring src. wrote_left_at (f.write (flat_writing_end e) ring src);
      read = λ e ring dst. got_left_at (f.read (flat_reading_end e) ring dst);
      send_w = λ e. written_at (f.send_w (flat_writing_end e));
      send_r = λ e. read_at (f.send_r (flat_reading_end e));
      take_w = λ e n. writing_at (f.take_w (flat_writing_end e) (read_in n));
      take_r = λ e n. reading_at (f.take_r (flat_reading_end e) (written_in n));
    }
