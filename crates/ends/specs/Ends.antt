-- What the calls of the two ends answer.
use Rattle.std.specs.Prelude.{ℕ, cond, List, ltb, Result, Ok, Err}
use Rattle.operations.specs.declared.operation.OperationType.TheVariants.{Read, Write}
use Rattle.sched.specs.declared.scheduler.RingBufferScheduler.{RingBufferScheduler}
use Rattle.sched.specs.Scheduler.{sound_of, data_in, space_in, counter_answer_of, with_counter_of}
use Rattle.copies.specs.declared.refusal.Refusal.TheVariants.{Scheduler}
use Rattle.copies.specs.Copies.{write_of, read_of}
use Rattle.ends.specs.declared.refusal.Refusal.TheVariants.{Copy, RanBack}
use Rattle.ends.specs.declared.writing_end.WrittenCounter.{WrittenCounter}
use Rattle.ends.specs.declared.writing_end.WritingEnd.{WritingEnd}
use Rattle.ends.specs.declared.reading_end.ReadCounter.{ReadCounter}
use Rattle.ends.specs.declared.reading_end.ReadingEnd.{ReadingEnd}
use Rattle.copies.specs.declared.Copied.{Copied}
use Rattle.operations.specs.declared.counter.Counter.{Counter}
use Rattle.ends.specs.declared.reading_end.Got.{Got}
use Rattle.ends.specs.declared.writing_end.Wrote.{Wrote}
use Rattle.ends.specs.declared.refusal.Refusal as ends
use Rattle.copies.specs.declared.refusal.Refusal as copies
use Rattle.operations.specs.declared.refusal.Refusal.{Refusal}

abbrev pub writing_end : RingBufferScheduler → WritingEnd
writing_end s = record { scheduler = s }

abbrev pub reading_end : RingBufferScheduler → ReadingEnd
reading_end s = record { scheduler = s }

-- ---- making one: 1 to 5, and 20 of a record
abbrev pub writing_end_from : Result RingBufferScheduler Refusal → Result WritingEnd ends.Refusal
writing_end_from (Ok s) = Ok (writing_end s)
writing_end_from (Err e) = Err (Copy (Scheduler e))

abbrev pub writing_end_of : RingBufferScheduler → Result WritingEnd ends.Refusal
writing_end_of s = writing_end_from (sound_of s)

abbrev pub reading_end_from : Result RingBufferScheduler Refusal → Result ReadingEnd ends.Refusal
reading_end_from (Ok s) = Ok (reading_end s)
reading_end_from (Err e) = Err (Copy (Scheduler e))

abbrev pub reading_end_of : RingBufferScheduler → Result ReadingEnd ends.Refusal
reading_end_of s = reading_end_from (sound_of s)

-- ---- writing and reading: the copy, with what it leaves in the lent memory
pub record WroteLeft : Type 0 where
  pub answer : Result Wrote ends.Refusal
  pub memory : List ℕ

abbrev pub wrote_left : Result Wrote ends.Refusal → List ℕ → WroteLeft
wrote_left a m = record { answer = a; memory = m }

abbrev pub wrote_from : Result Copied copies.Refusal → Result Wrote ends.Refusal
wrote_from (Ok m) = Ok (record { end = writing_end m.scheduler; portion = m.portion })
wrote_from (Err e) = Err (Copy e)

abbrev pub wrote_of : WritingEnd → List ℕ → List ℕ → WroteLeft
wrote_of e ring src = wrote_left (wrote_from (write_of e.scheduler ring src).answer) (write_of e.scheduler ring src).memory

pub record GotLeft : Type 0 where
  pub answer : Result Got ends.Refusal
  pub memory : List ℕ

abbrev pub got_left : Result Got ends.Refusal → List ℕ → GotLeft
got_left a m = record { answer = a; memory = m }

abbrev pub got_from : Result Copied copies.Refusal → Result Got ends.Refusal
got_from (Ok m) = Ok (record { end = reading_end m.scheduler; portion = m.portion })
got_from (Err e) = Err (Copy e)

abbrev pub got_of : ReadingEnd → List ℕ → List ℕ → GotLeft
got_of e ring dst = got_left (got_from (read_of e.scheduler ring dst).answer) (read_of e.scheduler ring dst).memory

-- ---- sending its own counter
abbrev pub written_sent_from : Result Counter Refusal → Result WrittenCounter ends.Refusal
written_sent_from (Ok c) = Ok (record { 0 = c })
written_sent_from (Err e) = Err (Copy (Scheduler e))

abbrev pub written_sent_of : WritingEnd → Result WrittenCounter ends.Refusal
written_sent_of e = written_sent_from (counter_answer_of e.scheduler Write)

abbrev pub read_sent_from : Result Counter Refusal → Result ReadCounter ends.Refusal
read_sent_from (Ok c) = Ok (record { 0 = c })
read_sent_from (Err e) = Err (Copy (Scheduler e))

abbrev pub read_sent_of : ReadingEnd → Result ReadCounter ends.Refusal
read_sent_of e = read_sent_from (counter_answer_of e.scheduler Read)

-- ---- taking the other's: the refusal of the own record, or of that with the new counter; then 10 where the space of a writing end,
-- or the data of a reading end, would shrink
unfoldable pub take_read_from : RingBufferScheduler → Result RingBufferScheduler Refusal → Result WritingEnd ends.Refusal
take_read_from s (Ok u) = cond (ltb (space_in u) (space_in s)) (Err RanBack) (Ok (writing_end u))
take_read_from s (Err e) = Err (Copy (Scheduler e))

abbrev pub take_read_of : WritingEnd → ReadCounter → Result WritingEnd ends.Refusal
take_read_of e c = take_read_from e.scheduler (with_counter_of e.scheduler Read c.0)

unfoldable pub take_written_from : RingBufferScheduler → Result RingBufferScheduler Refusal → Result ReadingEnd ends.Refusal
take_written_from s (Ok u) = cond (ltb (data_in u) (data_in s)) (Err RanBack) (Ok (reading_end u))
take_written_from s (Err e) = Err (Copy (Scheduler e))

abbrev pub take_written_of : ReadingEnd → WrittenCounter → Result ReadingEnd ends.Refusal
take_written_of e c = take_written_from e.scheduler (with_counter_of e.scheduler Write c.0)
