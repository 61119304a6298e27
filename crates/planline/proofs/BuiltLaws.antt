-- What a scheduler that passes its tests is asked is what the one that was tested is.
use Prim.Native.Nat.{ℕ}
use mathlib.Core.Path.{◌≡◌, ap}
use Rattle.std.proofs.Common.{Ok, Err}
use Rattle.operations.specs.declared.operation.OperationType.{OperationType}
use Rattle.operations.specs.declared.refusal.Refusal.{Refusal}
use Rattle.sched.specs.declared.scheduler.RingBufferScheduler.{RingBufferScheduler}
use Rattle.sched.specs.Scheduler.{sound_of, schedule_of}
use Rattle.sched.proofs.Laws.{sound_both}

module _ (s : RingBufferScheduler) (t : OperationType) (m : ℕ) where
  pub scheduled_is : {u : RingBufferScheduler} → Ok u ≡ sound_of s → schedule_of u t m ≡ schedule_of s t m
  scheduled_is {u} p = ap (λ (x : RingBufferScheduler). schedule_of x t m) (sound_both u s p).1

  pub scheduled_refused : {e : Refusal} → Err e ≡ sound_of s → Err e ≡ schedule_of s t m
  scheduled_refused p = rw (← p)
