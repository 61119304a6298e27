-- Which part overflowed, of the export: whatever its contract allows keeps specs/PromiseOverflow.antt. It is the receiver's theorem, told flat.
use Rattle.std.proofs.Common.{Result, Ok, Err}
use Prim.Native.Nat.{ℕ, ◌<◌}
use mathlib.Core.Path.{◌≡◌, refl, sym, ap, subst, ◌∙◌}
use mathlib.Core.Bool.{Bool, cond, true, false}
use mathlib.Core.List.{List}
use mathlib.Core.Logic.{◌≢◌}
use native.Mathlib.Omega.{arith}
use lib.Dec.{eqb}
use borrow.Author.Tests.{eqb-false}
use Rattle.modular.proofs.Saying.{Keeps}
use Rattle.states.proofs.PromisedValues.{number_of_lem}
use Rattle.states.proofs.Rules.{numbered, numbers_are, number_2, number_5}
use Rattle.states.specs.Promise.{Numbered, violation_2, violation_5, Calm, normal, blocked_draining, blocked_terminated, Advanced, calm_by_calm, calm_by_draining, calm_by_terminated, terminated_stays, draining_stays, draining_by_draining, draining_by_terminated}
use Rattle.states.specs.declared.answer.Answer.{Answer}
use Rattle.states.specs.declared.state.Failure.{Failure}
use Rattle.states.specs.declared.state.Failure.TheVariants.{Io, Protocol}
use Rattle.states.specs.declared.state.OperationalState.{OperationalState}
use Rattle.states.specs.declared.state.OperationalState.TheVariants.{Normal, Draining, Terminated}
use Rattle.states.specs.declared.state.Violation.{Violation}
use Rattle.receiver.proofs.PromisedOverflow.{overflow_promised}
use Rattle.receiver.specs.Call.{answered_of}
use Rattle.receiver.specs.Cases.{Goes}
use Rattle.receiver.specs.Overflow as machine
use Rattle.receiver.specs.Promise.{nothing_more, with_descriptors}
use Rattle.receiver.specs.declared.call.Call as receiver_call
use Rattle.receiver.specs.declared.call.Phase.{Phase}
use Rattle.receiver.specs.declared.call.Phase.TheVariants as phase
use Rattle.receiver.specs.declared.receiver.Beside.{Beside}
use Rattle.receiver.specs.declared.receiver.Came.{Came}
use Rattle.receiver.specs.declared.receiver.Came.TheVariants as came
use Rattle.flat.specs.Call.{call_at, phase_at, wanted_at, flat_phase, flat_step}
use Rattle.flat.specs.Failure.{failure_at, flat_failure}
use Rattle.flat.specs.Counter.{bool_number}
use Rattle.flat.specs.Outcome.{flat_came}
use Rattle.flat.specs.Scheduler.{flat_scheduler}
use Rattle.flat.specs.State.{state_at, flat_state}
use Rattle.flat.specs.declared.structs.Call.{Call}
use Rattle.flat.specs.declared.structs.Phase as flat
use Rattle.flat.specs.declared.structs.State.{State}
use Rattle.flat.specs.declared.structs.StepAnswer.{StepAnswer}
use Rattle.stripring.proofs.SaysReceiver.{call_answered_says}
use Rattle.stripring.specs.PromiseOverflow.{HearsAt, IsViolation, FailsBy, EndsBy, has_ended, will_end, TellsOverflowAt}
use Rattle.stripring.proofs.call.stripring_call_answered.Kinds as call_answered_kinds
use Rattle.stripring.proofs.call.stripring_call_answered.Reads as call_answered
use Rattle.states.specs.declared.refusal.Refusal.{Refusal}

-- ---- a violation that a call ends with, and its numbers
module _ (k n r : ℕ) where
  renumbered : (v : Violation) (a b c : ℕ) → Numbered v a b c → a ≡ k → b ≡ n → c ≡ r → Numbered v k n r
  renumbered v a b c h p q s = subst (λ (m : ℕ). Numbered v m n r) p (subst (λ (m : ℕ). Numbered v a m r) q (subst (λ (m : ℕ). Numbered v a b m) s h))

  -- what a flat outcome tells
  outcome_is : (x : Came) (b : Beside) → FailsBy (flat_came x b) k n r → (v : Violation) × Numbered v k n r × (x ≡ came.Failed (Protocol v)) × (b ≡ nothing_more)
  outcome_is (came.Read m) b h = absurd (omega (arith, h.0))
  outcome_is came.Done b h = absurd (omega (arith, h.0))
  outcome_is (came.Failed (Io e)) b h = absurd (omega (arith, h.2.0))
  outcome_is (came.Failed (Protocol v)) b h = let i = h.2 in (v, renumbered v _ _ _ (numbered v) i.1 i.2 i.3, refl, ap with_descriptors h.1)

  drops : (b : Bool) → bool_number b ≡ 0 → b ≡ false
  drops true p = absurd (omega (arith, p))
  drops false p = refl

  module _ (v : Violation) (x : Came) (b : Beside) (p : x ≡ came.Failed (Protocol v)) (q : b ≡ nothing_more) where
    ended : machine.EndsWith (Protocol v) (phase.Finished (record { came = x; beside = b }))
    ended = rw (p, q) machine.has_ended

    ending : (t : Bool) → t ≡ false → machine.EndsWith (Protocol v) (phase.Shutdown (record { outcome = record { came = x; beside = b }; told = t }))
    ending t d = rw (p, q, d) machine.will_end

  ends_flat : (ph : Phase) → EndsBy (flat_phase ph) k n r → (v : Violation) × Numbered v k n r × machine.EndsWith (Protocol v) ph
  ends_flat (phase.Receive w) (has_ended p h) = absurd (omega (arith, p))
  ends_flat (phase.Receive w) (will_end p t h) = absurd (omega (arith, p))
  ends_flat (phase.Send m e) (has_ended p h) = absurd (omega (arith, p))
  ends_flat (phase.Send m e) (will_end p t h) = absurd (omega (arith, p))
  ends_flat (phase.Shutdown e) (has_ended p h) = absurd (omega (arith, p))
  ends_flat (phase.Shutdown e) (will_end p t h) =
      let i = outcome_is e.outcome.came e.outcome.beside h in (i.0, i.1, ending i.0 _ _ i.2 i.3 e.told (drops e.told t))
  ends_flat (phase.Finished o) (has_ended p h) = let i = outcome_is o.came o.beside h in (i.0, i.1, ended i.0 _ _ i.2 i.3)
  ends_flat (phase.Finished o) (will_end p t h) = absurd (omega (arith, p))

  module _ (v : Violation) (num : Numbered v k n r) where
    is_violation : IsViolation (flat_failure (Protocol v)) k n r
    is_violation = let i = numbers_are v k n r num in (refl, sym i.0, sym i.1, sym i.2)

    flat_ends : (ph : Phase) → machine.EndsWith (Protocol v) ph → EndsBy (flat_phase ph) k n r
    flat_ends _ machine.has_ended = has_ended refl (refl, refl, is_violation)
    flat_ends _ machine.will_end = will_end refl refl (refl, refl, is_violation)

    flat_stored : (st : OperationalState) → st ≡ Terminated (Protocol v) → ((flat_state st).kind ≡ 2) × IsViolation (flat_state st).failure k n r
    flat_stored st p = subst (λ (x : OperationalState). ((flat_state x).kind ≡ 2) × IsViolation (flat_state x).failure k n r) (sym p) (refl, is_violation)

-- ---- the call that a host hands in
module _ (s : State) where
  normal_at : s.kind ≡ 0 → state_at s ≡ Normal
  unfolding state_at
  normal_at p = rw p

  live_at : s.kind < 2 → (f : Failure) → state_at s ≢ Terminated f
  unfolding state_at
  live_at l f = by (eqb s.kind 0) refl (eqb s.kind 1) refl
    where
      by : (x : Bool) → eqb s.kind 0 ≡ x → (y : Bool) → eqb s.kind 1 ≡ y → cond x Normal (cond y (Draining (failure_at s.failure)) (Terminated (failure_at s.failure))) ≢ Terminated f
      by true p y q e = cc
      by false p true q e = cc
      by false p false q e = omega (arith, l, eqb-false s.kind 0 p, eqb-false s.kind 1 q)

waits_at : (p : flat.Phase) → p.kind ≡ 0 → phase_at p ≡ phase.Receive (wanted_at p)
unfolding phase_at
waits_at p e = rw e

hears_at : (c : Call) (a : Answer) → HearsAt c a → machine.Hears (call_at c) a
hears_at c a h = record { wanted = wanted_at c.phase; waits = waits_at c.phase h.waits; live = live_at c.receiver.state h.live; some = h.some; empty = h.empty; byte = h.byte; zero = h.zero }

-- a normal state is terminated by a violation
not_calm : (v : Violation) (to : OperationalState) → Calm to → to ≢ Terminated (Protocol v)
not_calm v _ normal e = cc
not_calm v _ blocked_draining e = cc
not_calm v _ blocked_terminated e = cc

advanced_is : (v : Violation) (s to st : OperationalState) → Advanced s to st → s ≡ Normal → to ≡ Terminated (Protocol v) → st ≡ Terminated (Protocol v)
advanced_is v _ _ _ (calm_by_calm a b) p q = absurd (not_calm v _ b q)
advanced_is v _ _ _ (calm_by_draining a b) p q = cc
advanced_is v _ _ _ (calm_by_terminated a b) p q = q
advanced_is v _ _ _ (terminated_stays a) p q = cc
advanced_is v _ _ _ (draining_stays a b) p q = cc
advanced_is v _ _ _ (draining_by_draining a b d) p q = cc
advanced_is v _ _ _ (draining_by_terminated a b d) p q = cc

-- ---- the export
module _ (c : Call) (ring : List ℕ) where
  at_face : (e : receiver_call.Call) → machine.TellsOverflow (call_at c) ring e → TellsOverflowAt c ring (flat_step (Ok e))
  at_face e t =
      record {
        header_only = λ n r x. let i = ends_flat 2 n r e.phase x in t.header_only n r (subst (λ (v : Violation). machine.EndsWith (Protocol v) e.phase) (number_2 _ 2 n r i.1 refl) i.2);
        header_always = λ n r x. flat_ends 2 n r _ violation_2 e.phase (t.header_always n r x);
        body_only = λ n r x. let i = ends_flat 5 n r e.phase x in t.body_only n r (subst (λ (v : Violation). machine.EndsWith (Protocol v) e.phase) (number_5 _ 5 n r i.1 refl) i.2);
        body_always = λ n r x. flat_ends 5 n r _ violation_5 e.phase (t.body_always n r x);
        put_back = λ k n r x. let i = ends_flat k n r e.phase x in ap flat_scheduler (t.put_back i.0 i.2);
        stored = λ k n r x p.
            let i = ends_flat k n r e.phase x in
            flat_stored k n r i.0 i.1 e.receiver.state (advanced_is i.0 _ _ _ (t.stored i.0 i.2) (normal_at c.receiver.state p) refl);
      }

  by_step : (x : Result receiver_call.Call Refusal) → Goes (machine.TellsOverflow (call_at c) ring) x → (flat_step x).refusal.number ≡ 0 → TellsOverflowAt c ring (flat_step x)
  by_step (Ok e) t p = at_face e t
  by_step (Err r) t p = absurd (omega (arith, number_of_lem r, p))

pub call_answered_overflow : Keeps 1 call_answered_kinds.ps call_answered_kinds.r call_answered.Learnt
    (λ κs a z. HearsAt a.0 a.1.1.0 → z.refusal.number ≡ 0 → TellsOverflowAt a.0 a.1.0.now z)
call_answered_overflow κs a z (ws, p) h n =
    let c = call_at a.0 in
    let x = answered_of c a.1.0.now a.1.1.0 a.1.1.1.0 in
    let e : z ≡ flat_step x = call_answered_says κs a z ws p in
    let t = overflow_promised κs (c, (a.1.0, (a.1.1.0, (a.1.1.1.0, tt)))) x ((tt, (tt, (tt, (tt, tt)))), refl) (hears_at a.0 a.1.1.0 h) in
    subst (TellsOverflowAt a.0 a.1.0.now) (sym e) (by_step a.0 a.1.0.now x t (ap (λ (y : StepAnswer). y.refusal.number) (sym e) ∙ n))
