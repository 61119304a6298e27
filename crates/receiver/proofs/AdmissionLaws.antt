-- What a record that passed its tests is, and that a sound record whose errno fits passes them.
use Rattle.std.proofs.Common.{Result, Ok, Err, Option, Some, None, ℕ}
use Prim.Native.Nat.{ℕ}
use mathlib.Core.Path.{◌≡◌, refl, sym, ap, ◌∙◌}
use mathlib.Core.Bool.{Bool, cond, true, false}
use borrow.Author.Tests.{eq-eqb}
use Rattle.sched.proofs.Laws.{sound_both, sound_is}
use Rattle.sched.specs.declared.scheduler.RingBufferScheduler.{RingBufferScheduler}
use Rattle.sched.specs.Scheduler.{IsSound, sound_of}
use Rattle.copies.specs.declared.refusal.Refusal.TheVariants.{RingMemory}
use Rattle.copies.specs.Copies.{ready_from, ready_of}
use Rattle.receiver.proofs.AnsweredLaws.{ready_sound}
use Rattle.receiver.specs.Admission.{sound_ready, ready_with, admission_from, admission_of}
use Rattle.states.specs.State.{fits_state}
use Rattle.receiver.specs.declared.receiver.ReceiverState.{ReceiverState}
use Rattle.copies.specs.declared.refusal.Refusal as copies
use Rattle.operations.specs.declared.refusal.Refusal.{Refusal}

-- both tests were passed
both : (x : Result RingBufferScheduler copies.Refusal) (b : Bool) → Ok tt ≡ admission_from x b → ((s : RingBufferScheduler) × (x ≡ Ok s)) × (b ≡ true)
both (Ok s) true p = ((s, refl), refl)
both (Ok s) false p = cc
both (Err e) b p = cc

module _ (q : ReceiverState) where
  sound_by : (u : RingBufferScheduler) (c : Result RingBufferScheduler Refusal) → sound_of q.scheduler ≡ c → sound_ready c ≡ Ok u → IsSound q.scheduler
  sound_by u (Ok s) e p = (sound_both s q.scheduler (sym e)).0
  sound_by u (Err r) e p = cc

  pub passed_sized : (n : ℕ) → Ok tt ≡ admission_of q (Some n) → n ≡ q.scheduler.buf_len
  passed_sized n p = let k = both (ready_of q.scheduler n) (fits_state q.state) p in (ready_sound q.scheduler k.0.0 n (sym k.0.1)).1

  pub passed_sound : (m : Option ℕ) → Ok tt ≡ admission_of q m → IsSound q.scheduler
  passed_sound (Some n) p = let k = both (ready_of q.scheduler n) (fits_state q.state) p in (ready_sound q.scheduler k.0.0 n (sym k.0.1)).0
  passed_sound None p =
      let k = both (sound_ready (sound_of q.scheduler)) (fits_state q.state) p in
      sound_by k.0.0 (sound_of q.scheduler) refl k.0.1

  pub passed_fits : (m : Option ℕ) → Ok tt ≡ admission_of q m → fits_state q.state ≡ true
  passed_fits m p = (both (ready_with m q.scheduler) (fits_state q.state) p).1

-- a sound record is ready over memory of its length
pub sized_ready : (s : RingBufferScheduler) → IsSound s → (n : ℕ) → n ≡ s.buf_len → ready_of s n ≡ Ok s
unfolding ready_from
sized_ready s h n e = ap (ready_from n) (sym (sound_is s h)) ∙ ap (λ (b : Bool). cond b (Ok s) (Err RingMemory)) (eq-eqb n s.buf_len e)
