-- When each number refuses a call of an end, with which values, and what the call promises beside: in other words than those
-- of the definitions. An end that is made or sends has the scheduler's table for its own, 1 to 5 and 20, and a copy that of `copies`.
use Rattle.std.specs.Prelude.{ℕ, ◌≤◌, ◌<◌, ◌≡◌, List, [], Result, Ok, Err}
use Rattle.operations.specs.declared.counter.Counter.{Counter}
use Rattle.operations.specs.declared.operation.OperationType.{OperationType}
use Rattle.operations.specs.declared.operation.OperationType.TheVariants.{Read, Write}
use Rattle.sched.specs.declared.scheduler.RingBufferScheduler.{RingBufferScheduler}
use Rattle.sched.specs.Promise.{Built, Replaced}
use Rattle.sched.specs.Scheduler.{IsSound, greatest_in}
use Rattle.sched.specs.Given.{GivenCounters, Given, GivenWith}
use Rattle.copies.specs.Given.{Verdict, verdict, Exactly}
use Rattle.copies.specs.Promises.{Writes, Reads}
use Rattle.ends.specs.declared.refusal.Refusal.{Refusal}
use Rattle.ends.specs.declared.writing_end.WrittenCounter.{WrittenCounter}
use Rattle.ends.specs.declared.writing_end.WritingEnd.{WritingEnd}
use Rattle.ends.specs.declared.reading_end.ReadCounter.{ReadCounter}
use Rattle.ends.specs.declared.reading_end.ReadingEnd.{ReadingEnd}
use Rattle.ends.specs.Refusal.{number_of, values_of}
use Rattle.ends.specs.declared.reading_end.Got.{Got}
use Rattle.ends.specs.declared.writing_end.Wrote.{Wrote}

-- ---- taking a counter c of the type that the other end does, where the end with the record s does t: the record is tested, then the
-- one with the new counter, and then whether the space of a writing end, or the data of a reading end, would shrink
module _ (s : RingBufferScheduler) (t other : OperationType) (c : Counter) where
  pub data GivenTake : ℕ → List ℕ → Type 0 where
    takes : IsSound s → (u : RingBufferScheduler) → Replaced s other c u → greatest_in s t ≤ greatest_in u t → GivenTake 0 []
    by_record : {k : ℕ} {vs : List ℕ} → 0 < k → GivenWith s other c k vs → GivenTake k vs
    given_10 : IsSound s → (u : RingBufferScheduler) → Replaced s other c u → greatest_in u t < greatest_in s t → GivenTake 10 []

-- ---- the verdict in an answer, whatever it is of
abbrev pub refused_by : Refusal → Verdict
refused_by e = verdict (number_of e) (values_of e)

abbrev pub of_end : {A : Type 0} → Result A Refusal → Verdict
of_end (Ok e) = verdict 0 []
of_end (Err e) = refused_by e

-- ---- a copy keeps what one of `copies` does; a refused one changes nothing
abbrev pub EndWrites : WritingEnd → List ℕ → List ℕ → Result Wrote Refusal → List ℕ → Type 0
EndWrites e ring src (Ok m) memory = Writes e.scheduler ring src (Ok m.portion) m.end.scheduler memory
EndWrites e ring src (Err r) memory = memory ≡ ring

abbrev pub EndReads : ReadingEnd → List ℕ → List ℕ → Result Got Refusal → List ℕ → Type 0
EndReads e ring dst (Ok m) memory = Reads e.scheduler ring dst (Ok m.portion) m.end.scheduler memory
EndReads e ring dst (Err r) memory = memory ≡ dst

-- ---- an end is made of a length and two counters, or of a record that passes, and holds it
abbrev pub BuiltW : ℕ → Counter → Counter → Result WritingEnd Refusal → Type 0
BuiltW l w r z = Exactly (GivenCounters l w r) (of_end z) × ((e : WritingEnd) → z ≡ Ok e → Built l w r e.scheduler)

abbrev pub BuiltR : ℕ → Counter → Counter → Result ReadingEnd Refusal → Type 0
BuiltR l w r z = Exactly (GivenCounters l w r) (of_end z) × ((e : ReadingEnd) → z ≡ Ok e → Built l w r e.scheduler)

abbrev pub MadeW : RingBufferScheduler → Result WritingEnd Refusal → Type 0
MadeW s z = Exactly (Given s) (of_end z) × ((e : WritingEnd) → z ≡ Ok e → e.scheduler ≡ s)

abbrev pub MadeR : RingBufferScheduler → Result ReadingEnd Refusal → Type 0
MadeR s z = Exactly (Given s) (of_end z) × ((e : ReadingEnd) → z ≡ Ok e → e.scheduler ≡ s)

-- ---- it sends its own counter
abbrev pub SentW : WritingEnd → Result WrittenCounter Refusal → Type 0
SentW e z = Exactly (Given e.scheduler) (of_end z) × ((c : WrittenCounter) → z ≡ Ok c → c.0 ≡ e.scheduler.items_written)

abbrev pub SentR : ReadingEnd → Result ReadCounter Refusal → Type 0
SentR e z = Exactly (Given e.scheduler) (of_end z) × ((c : ReadCounter) → z ≡ Ok c → c.0 ≡ e.scheduler.items_read)

-- ---- and puts the other's in its place
abbrev pub TookW : WritingEnd → ReadCounter → Result WritingEnd Refusal → Type 0
TookW e c z = Exactly (GivenTake e.scheduler Write Read c.0) (of_end z) × ((f : WritingEnd) → z ≡ Ok f → Replaced e.scheduler Read c.0 f.scheduler)

abbrev pub TookR : ReadingEnd → WrittenCounter → Result ReadingEnd Refusal → Type 0
TookR e c z = Exactly (GivenTake e.scheduler Read Write c.0) (of_end z) × ((f : ReadingEnd) → z ≡ Ok f → Replaced e.scheduler Write c.0 f.scheduler)
