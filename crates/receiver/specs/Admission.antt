-- The tests before every call of the receiver: 1 to 5 and 20, then 9 where the ring is looked at, then 12 with place 0 where a stored errno
-- does not fit.
use Rattle.std.specs.Prelude.{Bool, true, false, Result, Ok, Err, Option, Some, None, ℕ, ⊤}
use Rattle.sched.specs.declared.scheduler.RingBufferScheduler.{RingBufferScheduler}
use Rattle.sched.specs.Scheduler.{sound_of}
use Rattle.copies.specs.declared.refusal.Refusal.TheVariants.{Scheduler}
use Rattle.copies.specs.Copies.{ready_of}
use Rattle.states.specs.State.{fits_state}
use Rattle.receiver.specs.declared.receiver.ReceiverState.{ReceiverState}
use Rattle.states.specs.declared.refusal.Refusal.TheVariants.{Copy, Misfit}
use Rattle.copies.specs.declared.refusal.Refusal as copies
use Rattle.states.specs.declared.refusal.Refusal as states
use Rattle.operations.specs.declared.refusal.Refusal.{Refusal}

-- 1 to 5 and 20
abbrev pub sound_ready : Result RingBufferScheduler Refusal → Result RingBufferScheduler copies.Refusal
sound_ready (Ok s) = Ok s
sound_ready (Err e) = Err (Scheduler e)

-- then 9, of a ring that is looked at
abbrev pub ready_with : Option ℕ → RingBufferScheduler → Result RingBufferScheduler copies.Refusal
ready_with None s = sound_ready (sound_of s)
ready_with (Some n) s = ready_of s n

-- then 12 with place 0
abbrev pub admission_from : Result RingBufferScheduler copies.Refusal → Bool → Result ⊤ states.Refusal
admission_from (Ok s) true = Ok tt
admission_from (Ok s) false = Err (Misfit 0)
admission_from (Err e) fits = Err (Copy e)

abbrev pub admission_of : ReceiverState → Option ℕ → Result ⊤ states.Refusal
admission_of q m = admission_from (ready_with m q.scheduler) (fits_state q.state)
