-- Which part overflowed (P3), of the export that hands in an answer: by the numbers that a host is told. When a header or a body overflows stands in
-- the receiver's specs/Overflow.antt.
use Rattle.std.specs.Prelude.{ℕ, ◌<◌, ◌≡◌, List, ◌≢◌}
use Rattle.operations.specs.declared.operation.OperationType.TheVariants.{Read}
use Rattle.sched.specs.declared.scheduler.RingBufferScheduler.{RingBufferScheduler}
use Rattle.sched.specs.Scheduler.{data_in, offset_in}
use Rattle.copies.specs.Promises.{number_at}
use Rattle.states.specs.Promise.{AByte}
use Rattle.states.specs.declared.answer.Answer.{Answer}
use Rattle.receiver.specs.Overflow.{HeaderOverflows, BodyOverflows}
use Rattle.flat.specs.Scheduler.{scheduler_at}
use Rattle.flat.specs.declared.structs.Call.{Call}
use Rattle.flat.specs.declared.structs.Failure.{Failure}
use Rattle.flat.specs.declared.structs.Outcome.{Outcome}
use Rattle.flat.specs.declared.structs.Phase.{Phase}
use Rattle.flat.specs.declared.structs.StepAnswer.{StepAnswer}

-- a read into some bytes, of a stream that is normal or draining and has no data at hand, takes a byte, and that is 0
pub record HearsAt (c : Call) (a : Answer) : Type 0 where
  pub waits : c.phase.kind ≡ 0
  pub live : c.receiver.state.kind < 2
  pub some : c.phase.dst_len ≢ 0
  pub empty : data_in (scheduler_at c.receiver.scheduler) ≡ 0
  pub byte : AByte a c.phase.max_new_fds
  pub zero : a.value ≡ 0

-- the violation of this number, with the bytes needed and the room
abbrev pub IsViolation : Failure → ℕ → ℕ → ℕ → Type 0
IsViolation f k needed room = (f.kind ≡ 1) × (f.value ≡ k) × (f.needed ≡ needed) × (f.room ≡ room)

-- an outcome that is it, with no descriptors beside
abbrev pub FailsBy : Outcome → ℕ → ℕ → ℕ → Type 0
FailsBy o k needed room = (o.kind ≡ 2) × (o.fds ≡ 0) × IsViolation o.failure k needed room

-- a call has ended with it, or will whatever comes of the shutdown
pub data EndsBy (p : Phase) (k needed room : ℕ) : Type 0 where
  has_ended : p.kind ≡ 3 → FailsBy p.outcome k needed room → EndsBy p k needed room
  will_end : p.kind ≡ 2 → p.ending.told ≡ 0 → FailsBy p.ending.outcome k needed room → EndsBy p k needed room

-- what becomes of the call, where the answer is accepted, with the header at the read offset of this ring
module _ (c : Call) (ring : List ℕ) (z : StepAnswer) where
  abbrev s : RingBufferScheduler
  s = scheduler_at c.receiver.scheduler

  abbrev pub ToldAt : ℕ → ℕ → ℕ → Type 0
  ToldAt = EndsBy z.call.phase

  abbrev pub OfHeaderAt : ℕ → ℕ → Type 0
  OfHeaderAt = HeaderOverflows c.receiver.scheduler.buf_len

  abbrev pub OfBodyAt : ℕ → ℕ → Type 0
  OfBodyAt = BodyOverflows c.receiver.scheduler.buf_len (number_at c.receiver.scheduler.buf_len ring (offset_in s Read).0)

  pub record TellsOverflowAt : Type 0 where
    pub header_only : (needed room : ℕ) → ToldAt 2 needed room → OfHeaderAt needed room
    pub header_always : (needed room : ℕ) → OfHeaderAt needed room → ToldAt 2 needed room
    pub body_only : (needed room : ℕ) → ToldAt 5 needed room → OfBodyAt needed room
    pub body_always : (needed room : ℕ) → OfBodyAt needed room → ToldAt 5 needed room
    -- the scheduler is what it was, and a stream that was normal is terminated by what is told
    pub put_back : (k needed room : ℕ) → ToldAt k needed room → z.call.receiver.scheduler ≡ c.receiver.scheduler
    pub stored : (k needed room : ℕ) → ToldAt k needed room → c.receiver.state.kind ≡ 0 → (z.call.receiver.state.kind ≡ 2) × IsViolation z.call.receiver.state.failure k needed room
