-- Answers at their place, and advancing a state: whatever an attached contract allows keeps the promises of specs/Promise.antt.
use Rattle.std.proofs.Common.{Ok, Err}
use mathlib.Core.Path.{◌≡◌, refl, sym, subst, ◌∙◌}
use mathlib.Core.Bool.{Bool, true, false}
use mathlib.Core.Logic.{◌≢◌}
use native.Mathlib.Omega.{arith}
use Rattle.modular.proofs.Saying.{Keeps}
use Rattle.states.proofs.AnswerSays.{state_fits, received_says, sent_says, shut_says, interrupted_says}
use Rattle.states.proofs.Rules.{batch_rule, advance_rule}
use Rattle.states.proofs.Says.{advance_state_towards_termination_says, is_interruption_says, batch_of_says, received_says as received_is, sent_says as sent_is, shut_says as shut_is}
use Rattle.states.specs.Promise.{Batch, Stored, Advanced, SaysReceived, SaysSent, SaysShut}
use Rattle.states.specs.State.{fits_state, advance_in, tested_state}
use Rattle.states.specs.declared.refusal.Refusal.TheVariants.{Misfit}
use Rattle.states.specs.declared.state.OperationalState.{OperationalState}
use Rattle.states.proofs.answer.Answer.is_interruption.Kinds as is_interruption_kinds
use Rattle.states.proofs.answer.Answer.is_interruption.Reads as is_interruption
use Rattle.states.proofs.answer.Answer.received.Kinds as received_kinds
use Rattle.states.proofs.answer.Answer.received.Reads as received_reads
use Rattle.states.proofs.answer.batch_of.Kinds as batch_of_kinds
use Rattle.states.proofs.answer.batch_of.Reads as batch_of_lem
use Rattle.states.proofs.answer.Answer.sent.Kinds as sent_kinds
use Rattle.states.proofs.answer.Answer.sent.Reads as sent_reads
use Rattle.states.proofs.answer.Answer.shut.Kinds as shut_kinds
use Rattle.states.proofs.answer.Answer.shut.Reads as shut_reads
use Rattle.states.proofs.state.OperationalState.advance_state_towards_termination.Kinds as advance_kinds
use Rattle.states.proofs.state.OperationalState.advance_state_towards_termination.Reads as advance

-- ---- answers at their place
pub received_promised : Keeps 0 received_kinds.ps received_kinds.r received_reads.Learnt (λ κs a z. SaysReceived a.0 a.1.0 z)
received_promised κs a z p = subst (SaysReceived a.0 a.1.0) (sym (received_is κs a z p.0 p.1)) (received_says a.0 a.1.0)

pub batch_promised : Keeps 0 batch_of_kinds.ps batch_of_kinds.r batch_of_lem.Learnt (λ κs a z. (a.0 ≢ 0 → Batch a.0 z) × (a.0 ≡ 0 → z ≡ 0))
batch_promised κs a z p = rw (batch_of_says κs a z p.0 p.1) (batch_rule a.0, λ e. omega arith)

pub sent_promised : Keeps 0 sent_kinds.ps sent_kinds.r sent_reads.Learnt (λ κs a z. SaysSent a.0 a.1.0 z)
sent_promised κs a z p = subst (SaysSent a.0 a.1.0) (sym (sent_is κs a z p.0 p.1)) (sent_says a.0 a.1.0)

pub shut_promised : Keeps 0 shut_kinds.ps shut_kinds.r shut_reads.Learnt (λ κs a z. SaysShut a.0 z)
shut_promised κs a z p = subst (SaysShut a.0) (sym (shut_is κs a z p.0 p.1)) (shut_says a.0)

pub interruption_promised : Keeps 0 is_interruption_kinds.ps is_interruption_kinds.r is_interruption.Learnt
    (λ κs a z. (z ≡ true → (a.0.kind ≡ 2) × (a.0.value ≡ 4)) × ((a.0.kind ≡ 2) × (a.0.value ≡ 4) → z ≡ true))
interruption_promised κs a z p =
    subst (λ (x : Bool). (x ≡ true → (a.0.kind ≡ 2) × (a.0.value ≡ 4)) × ((a.0.kind ≡ 2) × (a.0.value ≡ 4) → x ≡ true)) (sym (is_interruption_says κs a z p.0 p.1)) (interrupted_says a.0)

-- ---- states: 12 with place 0 exactly where one that is handed in does not fit, and else the rule
module _ (s to : OperationalState) where
  advances : (b c : Bool) → fits_state s ≡ b → fits_state to ≡ c →
      (Stored s → Stored to → (x : OperationalState) × (tested_state b (tested_state c (Ok (advance_in s to))) ≡ Ok x) × Advanced s to x) ×
      ((Stored s × Stored to → ⊥) → tested_state b (tested_state c (Ok (advance_in s to))) ≡ Err (Misfit 0))
  advances true true e f = ((λ h k. (advance_in s to, refl, advance_rule s to)), (λ no. absurd (no ((state_fits s true e).0 refl, (state_fits to true f).0 refl))))
  advances true false e f = ((λ h k. absurd ((state_fits to false f).1 refl k)), (λ no. refl))
  advances false c e f = ((λ h k. absurd ((state_fits s false e).1 refl h)), (λ no. refl))

pub advance_promised : Keeps 0 advance_kinds.ps advance_kinds.r advance.Learnt
    (λ κs a z. (Stored a.0 → Stored a.1.0 → (x : OperationalState) × (z ≡ Ok x) × Advanced a.0 a.1.0 x) × ((Stored a.0 × Stored a.1.0 → ⊥) → z ≡ Err (Misfit 0)))
advance_promised κs a z p =
    let e = advance_state_towards_termination_says κs a z p.0 p.1 in
    let k = advances a.0 a.1.0 (fits_state a.0) (fits_state a.1.0) refl refl in
    ((λ h l. let x = k.0 h l in (x.0, e ∙ x.1, x.2)), (λ f. e ∙ k.1 f))
