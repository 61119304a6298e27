-- The kind with plain counters: docs/PAPER.md, "Sending and taking".
use Rattle.std.specs.Prelude.{ℕ, ◌≤◌, ◌<◌, ◌≡◌, List, length, Result, Ok, Err}
use Rattle.sched.specs.declared.scheduler.RingBufferScheduler.{RingBufferScheduler}
use Rattle.sched.specs.Promise as promise
use Rattle.ends.specs.declared.writing_end.WrittenCounter.{WrittenCounter}
use Rattle.ends.specs.declared.writing_end.WritingEnd.{WritingEnd}
use Rattle.ends.specs.declared.reading_end.ReadCounter.{ReadCounter}
use Rattle.ends.specs.declared.reading_end.ReadingEnd.{ReadingEnd}
use Rattle.ends.specs.Refusal.{number_of}
use Rattle.ends.specs.Ends.{writing_end, reading_end, WroteLeft, wrote_of, GotLeft, got_of, written_sent_of, read_sent_of, take_read_of, take_written_of}
use Rattle.ends.specs.World.{Kind, Copied, Taken, Sent, sent, unsent, done, refused, HoldsFrom}
use Rattle.ends.specs.declared.reading_end.Got.{Got}
use Rattle.ends.specs.declared.writing_end.Wrote.{Wrote}
use Rattle.ends.specs.declared.refusal.Refusal.{Refusal}

-- an answer of a call as one of the world's; a refused call leaves the caller's record as it was
abbrev pub copied_w : WritingEnd → Result Wrote Refusal → List ℕ → Copied WritingEnd
copied_w e (Ok m) memory = record { answer = done m.portion.len; end = m.end; memory = memory }
copied_w e (Err r) memory = record { answer = refused (number_of r); end = e; memory = memory }

abbrev pub copied_r : ReadingEnd → Result Got Refusal → List ℕ → Copied ReadingEnd
copied_r e (Ok m) memory = record { answer = done m.portion.len; end = m.end; memory = memory }
copied_r e (Err r) memory = record { answer = refused (number_of r); end = e; memory = memory }

abbrev pub sent_w : Result WrittenCounter Refusal → Sent WrittenCounter
sent_w (Ok c) = sent c
sent_w (Err r) = unsent (number_of r)

abbrev pub sent_r : Result ReadCounter Refusal → Sent ReadCounter
sent_r (Ok c) = sent c
sent_r (Err r) = unsent (number_of r)

abbrev pub taken_w : WritingEnd → Result WritingEnd Refusal → Taken WritingEnd
taken_w e (Ok f) = record { answer = done 0; end = f }
taken_w e (Err r) = record { answer = refused (number_of r); end = e }

abbrev pub taken_r : ReadingEnd → Result ReadingEnd Refusal → Taken ReadingEnd
taken_r e (Ok f) = record { answer = done 0; end = f }
taken_r e (Err r) = record { answer = refused (number_of r); end = e }

-- the six calls of the two ends, as functions: a call's answer, and what it leaves in the memory that it may change
pub record Calls : Type 0 where
  pub write : WritingEnd → List ℕ → List ℕ → WroteLeft
  pub read : ReadingEnd → List ℕ → List ℕ → GotLeft
  pub send_w : WritingEnd → Result WrittenCounter Refusal
  pub send_r : ReadingEnd → Result ReadCounter Refusal
  pub take_w : WritingEnd → ReadCounter → Result WritingEnd Refusal
  pub take_r : ReadingEnd → WrittenCounter → Result ReadingEnd Refusal

-- A note's age is how many bytes its sender had moved. Notes come in order, so none is old, and no copy is left aside.
abbrev pub kind_of : Calls → Kind
kind_of c =
    record {
      Writer = WritingEnd;
      Reader = ReadingEnd;
      NoteW = WrittenCounter;
      NoteR = ReadCounter;
      write = λ e ring src. copied_w e (c.write e ring src).answer (c.write e ring src).memory;
      read = λ e ring dst. copied_r e (c.read e ring dst).answer (c.read e ring dst).memory;
      send_w = λ e. sent_w (c.send_w e);
      send_r = λ e. sent_r (c.send_r e);
      take_w = λ e n. taken_w e (c.take_w e n);
      take_r = λ e n. taken_r e (c.take_r e n);
      sched_w = λ e. e.scheduler;
      sched_r = λ e. e.scheduler;
      Holds = RingBufferScheduler;
      holds_w = λ e. e.scheduler;
      holds_r = λ e. e.scheduler;
      Age = ℕ;
      age_w = λ e n. n;
      age_r = λ e n. n;
      Older = λ a b. a < b;
      Delivered = λ heard age. heard ≤ age;
      old = λ heard age. 10;
      AsideW = λ e n k. ⊥;
      AsideR = λ e n k. ⊥;
    }

-- the definitions that the contracts cite
abbrev pub definitions : Calls
definitions =
    record { write = wrote_of; read = got_of; send_w = written_sent_of; send_r = read_sent_of; take_w = take_read_of; take_r = take_written_of }

abbrev pub plain : Kind
plain = kind_of definitions

-- Demand 3 of these calls: a writing and a reading end, whose records pass every test, start empty, with one length and equal
-- counters, over memory of that length
abbrev pub Demand3-of : Calls → Type 0
Demand3-of c =
    (s : RingBufferScheduler) (ring : List ℕ) → promise.Taken s → s.items_written ≡ s.items_read → length ring ≡ s.buf_len →
    HoldsFrom (kind_of c) (writing_end s) (reading_end s) ring
