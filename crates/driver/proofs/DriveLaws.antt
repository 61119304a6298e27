-- Laws of driving: how a case of the phase, of the outcome and of the answer picks its case.
use Rattle.std.proofs.Common.{Result, Err}
use Prim.Native.Nat.{ℕ}
use mathlib.Core.Path.{◌≡◌}
use mathlib.Core.List.{List}
use Rattle.sched.specs.declared.scheduler.RingBufferScheduler.{RingBufferScheduler}
use Rattle.driver.specs.Drive.{ended_by, ended_in, ended_for, Delivery, delivery, delivered_for, delivered_by, delivery_for}
use Rattle.receiver.specs.declared.call.Phase.{Phase}
use Rattle.receiver.specs.declared.call.Call.{Call}
use Rattle.receiver.specs.declared.receiver.Came.{Came}
use Rattle.states.specs.declared.refusal.Refusal.{Refusal}
use Rattle.receiver.specs.declared.receiver.Ended.{Ended}

pub ended_by_lem : (c : Call) (i : ℕ) (ph : Phase) → c.phase ≡ ph → (r : Result Ended Refusal) → r ≡ ended_by ph c i → r ≡ ended_in c i
ended_by_lem c i ph e r p = cc

-- what a call has come to
module _ (x y : Result Call Refusal) (e : x ≡ y) where
  pub ended_for_lem : (i : ℕ) (r : Result Ended Refusal) → r ≡ ended_for y i → r ≡ ended_for x i
  ended_for_lem i r p = cc

  pub delivered_for_lem : (i : ℕ) (ring dst : List ℕ) (r : Delivery) → r ≡ delivery_for y i ring dst → r ≡ delivery_for x i ring dst
  delivered_for_lem i ring dst r p = cc

module _ (s : RingBufferScheduler) (ring dst left : List ℕ) where
  pub delivered_by_lem : (o x : Came) → o ≡ x → left ≡ delivered_for x s ring dst → left ≡ delivered_for o s ring dst
  delivered_by_lem o x e p = cc

-- a refusal leaves the destination as it was
module _ (s : RingBufferScheduler) (ring dst : List ℕ) (e : Result Ended Refusal) where
  pub not_delivered : (r : Refusal) → e ≡ Err r → delivery (Err r) dst ≡ delivered_by e s ring dst
  not_delivered r p = cc
