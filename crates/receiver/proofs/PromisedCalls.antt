-- What is promised of a call's phase and of a new receiver, of the attached contracts.
use Rattle.std.proofs.Common.{Result, Ok, Err}
use mathlib.Core.Path.{◌≡◌, refl, sym, ap, subst, ◌∙◌}
use mathlib.Core.Bool.{true, false}
use Rattle.modular.proofs.Saying.{Keeps}
use Rattle.sched.specs.declared.scheduler.RingBufferScheduler.{RingBufferScheduler}
use Rattle.sched.specs.Given.{Given}
use Rattle.sched.specs.Scheduler.{sound_of}
use Rattle.sched.proofs.Laws.{sound_both}
use Rattle.copies.specs.Given.{Exactly, of_scheduler}
use Rattle.copies.proofs.Promised.{checks, checked_given}
use Rattle.states.proofs.AnswerSays.{interrupted_says}
use Rattle.receiver.proofs.Says.{ReceiverState-new-says, is_over_says, retries_says}
use Rattle.receiver.specs.Call.{is_over, retries_in}
use Rattle.receiver.specs.Given.{of_receiver}
use Rattle.receiver.specs.Receiver.{receiver_from}
use Rattle.states.specs.declared.answer.Answer.{Answer}
use Rattle.receiver.specs.declared.call.Phase.{Phase}
use Rattle.receiver.specs.declared.call.Phase.TheVariants as phase
use Rattle.receiver.specs.declared.receiver.Outcome.{Outcome}
use Rattle.states.specs.declared.state.OperationalState.TheVariants.{Normal}
use Rattle.receiver.proofs.receiver.ReceiverState.new.Kinds as new_kinds
use Rattle.receiver.proofs.receiver.ReceiverState.new.Reads as new
use Rattle.receiver.proofs.call.Call.is_over.Kinds as is_over_kinds
use Rattle.receiver.proofs.call.Call.is_over.Reads as is_over_lem
use Rattle.receiver.proofs.call.Call.retries.Kinds as retries_kinds
use Rattle.receiver.proofs.call.Call.retries.Reads as retries
use Rattle.receiver.specs.declared.receiver.ReceiverState.{ReceiverState}
use Rattle.states.specs.declared.refusal.Refusal as states
use Rattle.operations.specs.declared.refusal.Refusal.{Refusal}

-- ---- a call that is over is finished; what an interruption is waited out by
finished_only : (ph : Phase) → is_over ph ≡ true → (o : Outcome) × (ph ≡ phase.Finished o)
finished_only (phase.Finished o) e = (o, refl)
finished_only (phase.Receive w) e = cc
finished_only (phase.Send batch x) e = cc
finished_only (phase.Shutdown x) e = cc

pub is_over_promised : Keeps 0 is_over_kinds.ps is_over_kinds.r is_over_lem.Learnt
    (λ κs a z. (z ≡ true → (o : Outcome) × (a.0.phase ≡ phase.Finished o)) × ((o : Outcome) → a.0.phase ≡ phase.Finished o → z ≡ true))
is_over_promised κs a z p =
    let e = is_over_says κs a z p.0 p.1 in
    ((λ h. finished_only a.0.phase (sym e ∙ h)), (λ o h. e ∙ ap is_over h))

abbrev Waits : Phase → Type 0
Waits (phase.Receive w) = Unit {0}
Waits (phase.Send batch e) = Unit {0}
Waits (phase.Shutdown e) = ⊥
Waits (phase.Finished o) = ⊥

retries_by : (ph : Phase) (x : Answer) → (retries_in ph x ≡ true → Waits ph × (x.kind ≡ 2) × (x.value ≡ 4)) × (Waits ph → (x.kind ≡ 2) × (x.value ≡ 4) → retries_in ph x ≡ true)
retries_by (phase.Receive w) x = ((λ h. let k = (interrupted_says x).0 h in (tt, k.0, k.1)), (λ w h. (interrupted_says x).1 h))
retries_by (phase.Send batch e) x = ((λ h. let k = (interrupted_says x).0 h in (tt, k.0, k.1)), (λ w h. (interrupted_says x).1 h))
retries_by (phase.Shutdown e) x = ((λ h. cc), (λ w h. absurd w))
retries_by (phase.Finished o) x = ((λ h. cc), (λ w h. absurd w))

-- an interruption, by a receive and by a send alone
pub retries_promised : Keeps 0 retries_kinds.ps retries_kinds.r retries.Learnt
    (λ κs a z. (z ≡ true → Waits a.0.phase × (a.1.0.kind ≡ 2) × (a.1.0.value ≡ 4)) × (Waits a.0.phase → (a.1.0.kind ≡ 2) × (a.1.0.value ≡ 4) → z ≡ true))
retries_promised κs a z p =
    let e = retries_says κs a z p.0 p.1 in
    let k = retries_by a.0.phase a.1.0 in
    ((λ h. k.0 (sym e ∙ h)), (λ w h. e ∙ k.1 w h))

-- ---- a new receiver: 1 to 5 and 20, then this scheduler, normal, with nothing pending, not shut down
module _ (s : RingBufferScheduler) where
  abbrev Fresh : Result ReceiverState states.Refusal → Type 0
  Fresh (Ok q) = (q.scheduler ≡ s) × (q.state ≡ Normal) × (q.pending_ack_count ≡ 0) × (q.notification_socket_shutdown_issued ≡ false)
  Fresh (Err r) = Unit {0}

  fresh : (c : Result RingBufferScheduler Refusal) → sound_of s ≡ c → Fresh (receiver_from c)
  fresh (Ok u) e = ((sound_both u s (sym e)).1, refl, refl, refl)
  fresh (Err r) e = tt

  same_verdict : (c : Result RingBufferScheduler Refusal) → of_scheduler c ≡ of_receiver (receiver_from c)
  same_verdict (Ok u) = refl
  same_verdict (Err r) = refl

pub new_promised : Keeps 0 new_kinds.ps new_kinds.r new.Learnt (λ κs a z. Exactly (Given a.0) (of_receiver z) × Fresh a.0 z)
new_promised κs a z p =
    subst (λ (x : Result ReceiverState states.Refusal). Exactly (Given a.0) (of_receiver x) × Fresh a.0 x) (sym (ReceiverState-new-says κs a z p.0 p.1))
    (subst (Exactly (Given a.0)) (same_verdict a.0 (sound_of a.0)) (checked_given a.0 (sound_of a.0) (checks a.0)), fresh a.0 (sound_of a.0) refl)
