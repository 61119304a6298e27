-- What the calls of states and failures promise, of the attached contracts. 12 with place 0 is given exactly where a state or failure that
-- is handed in does not fit.
use Rattle.std.proofs.Common.{Ok, Err, Option, Some, None}
use mathlib.Core.Path.{◌≡◌, refl, sym, ap, subst, ◌∙◌}
use mathlib.Core.Bool.{Bool, true, false}
use Rattle.modular.proofs.Saying.{Keeps}
use Rattle.states.proofs.AnswerSays.{failure_fits, state_fits}
use Rattle.states.proofs.Rules.{advance_rule, reason_rule, normalized, holds_rule, carries_rule, errno_rule}
use Rattle.states.proofs.Says.{fits_says, cached_failure_says, advance_says, failure_says, with_failure_says, with_potential_failure_says, OperationalState-normalize-says, Failure-normalize-says, advance_failure_towards_error_says, is_errno_says}
use Rattle.states.specs.Promise.{Advanced, FailureFits, Stored, Reason, Normalized, Holds, Carries}
use Rattle.states.specs.State.{fits_failure, fits_state, failure_in, with_failure_in, normalize_in, towards_error_in, tested_failure, tested_state, tested_potential, with_potential_from, with_failure_of}
use Rattle.states.specs.declared.refusal.Refusal.TheVariants.{Misfit}
use Rattle.states.specs.declared.state.Failure.{Failure}
use Rattle.states.specs.declared.state.Failure.TheVariants.{Io}
use Rattle.states.specs.declared.state.OperationalState.{OperationalState}
use Rattle.states.specs.declared.state.OperationalState.TheVariants.{Normal}
use Rattle.states.proofs.state.OperationalState.fits.Kinds as fits_kinds
use Rattle.states.proofs.state.OperationalState.fits.Reads as fits
use Rattle.states.proofs.state.OperationalState.cached_failure.Kinds as cached_failure_kinds
use Rattle.states.proofs.state.OperationalState.cached_failure.Reads as cached_failure
use Rattle.states.proofs.state.OperationalState.advance.Kinds as advance_kinds
use Rattle.states.proofs.state.OperationalState.advance.Reads as advance
use Rattle.states.proofs.state.OperationalState.failure.Kinds as failure_kinds
use Rattle.states.proofs.state.OperationalState.failure.Reads as failure
use Rattle.states.proofs.state.OperationalState.with_failure.Kinds as with_failure_kinds
use Rattle.states.proofs.state.OperationalState.with_failure.Reads as with_failure
use Rattle.states.proofs.state.OperationalState.with_potential_failure.Kinds as with_potential_kinds
use Rattle.states.proofs.state.OperationalState.with_potential_failure.Reads as with_potential
use Rattle.states.proofs.state.OperationalState.normalize.Kinds as normalize_kinds
use Rattle.states.proofs.state.OperationalState.normalize.Reads as normalize
use Rattle.states.proofs.state.Failure.normalize.Kinds as failure_normalize_kinds
use Rattle.states.proofs.state.Failure.normalize.Reads as failure_normalize
use Rattle.states.proofs.state.Failure.advance_failure_towards_error.Kinds as towards_error_kinds
use Rattle.states.proofs.state.Failure.advance_failure_towards_error.Reads as towards_error
use Rattle.states.proofs.state.Failure.is_errno.Kinds as is_errno_kinds
use Rattle.states.proofs.state.Failure.is_errno.Reads as is_errno_lem

-- ---- states
module _ (s : OperationalState) where
  held : (b : Bool) → fits_state s ≡ b → (Stored s → (f : Option Failure) × (tested_potential b (Ok (failure_in s)) ≡ Ok f) × Holds s f) × ((Stored s → ⊥) → tested_potential b (Ok (failure_in s)) ≡ Err (Misfit 0))
  held true e = ((λ h. (failure_in s, refl, holds_rule s)), (λ no. absurd (no ((state_fits s true e).0 refl))))
  held false e = ((λ h. absurd ((state_fits s false e).1 refl h)), (λ no. refl))

  calms : (b : Bool) → fits_state s ≡ b → (Stored s → (x : OperationalState) × (tested_state b (Ok (normalize_in s)) ≡ Ok x) × Normalized s x) × ((Stored s → ⊥) → tested_state b (Ok (normalize_in s)) ≡ Err (Misfit 0))
  calms true e = ((λ h. (normalize_in s, refl, normalized s)), (λ no. absurd (no ((state_fits s true e).0 refl))))
  calms false e = ((λ h. absurd ((state_fits s false e).1 refl h)), (λ no. refl))

  carried : (f : Failure) (b c : Bool) → fits_state s ≡ b → fits_failure f ≡ c →
      (Stored s → FailureFits f → (x : OperationalState) × (tested_state b (tested_state c (Ok (with_failure_in s f))) ≡ Ok x) × Carries s f x) × ((Stored s × FailureFits f → ⊥) → tested_state b (tested_state c (Ok (with_failure_in s f))) ≡ Err (Misfit 0))
  carried f true true e g = ((λ h k. (with_failure_in s f, refl, carries_rule s f)), (λ no. absurd (no ((state_fits s true e).0 refl, (failure_fits f true g).0 refl))))
  carried f true false e g = ((λ h k. absurd ((failure_fits f false g).1 refl k)), (λ no. refl))
  carried f false c e g = ((λ h k. absurd ((state_fits s false e).1 refl h)), (λ no. refl))

pub failure_promised : Keeps 0 failure_kinds.ps failure_kinds.r failure.Learnt
    (λ κs a z. (Stored a.0 → (f : Option Failure) × (z ≡ Ok f) × Holds a.0 f) × ((Stored a.0 → ⊥) → z ≡ Err (Misfit 0)))
failure_promised κs a z p =
    let e = failure_says κs a z p.0 p.1 in
    let k = held a.0 (fits_state a.0) refl in
    ((λ h. let x = k.0 h in (x.0, e ∙ x.1, x.2)), (λ no. e ∙ k.1 no))

pub normalize_promised : Keeps 0 normalize_kinds.ps normalize_kinds.r normalize.Learnt
    (λ κs a z. (Stored a.0 → (x : OperationalState) × (z ≡ Ok x) × Normalized a.0 x) × ((Stored a.0 → ⊥) → z ≡ Err (Misfit 0)))
normalize_promised κs a z p =
    let e = OperationalState-normalize-says κs a z p.0 p.1 in
    let k = calms a.0 (fits_state a.0) refl in
    ((λ h. let x = k.0 h in (x.0, e ∙ x.1, x.2)), (λ no. e ∙ k.1 no))

pub with_failure_promised : Keeps 0 with_failure_kinds.ps with_failure_kinds.r with_failure.Learnt
    (λ κs a z. (Stored a.0 → FailureFits a.1.0 → (x : OperationalState) × (z ≡ Ok x) × Carries a.0 a.1.0 x) × ((Stored a.0 × FailureFits a.1.0 → ⊥) → z ≡ Err (Misfit 0)))
with_failure_promised κs a z p =
    let e = with_failure_says κs a z p.0 p.1 in
    let k = carried a.0 a.1.0 (fits_state a.0) (fits_failure a.1.0) refl refl in
    ((λ h l. let x = k.0 h l in (x.0, e ∙ x.1, x.2)), (λ no. e ∙ k.1 no))

-- ---- failures
module _ (f : Failure) where
  same : (b : Bool) → fits_failure f ≡ b → (FailureFits f → tested_failure b (Ok f) ≡ Ok f) × ((FailureFits f → ⊥) → tested_failure b (Ok f) ≡ Err (Misfit 0))
  same true e = ((λ h. refl), (λ no. absurd (no ((failure_fits f true e).0 refl))))
  same false e = ((λ h. absurd ((failure_fits f false e).1 refl h)), (λ no. refl))

  reasons : (g : Failure) (b c : Bool) → fits_failure f ≡ b → fits_failure g ≡ c →
      (FailureFits f → FailureFits g → (x : Failure) × (tested_failure b (tested_failure c (Ok (towards_error_in f g))) ≡ Ok x) × Reason f g x) × ((FailureFits f × FailureFits g → ⊥) → tested_failure b (tested_failure c (Ok (towards_error_in f g))) ≡ Err (Misfit 0))
  reasons g true true e k = ((λ h l. (towards_error_in f g, refl, reason_rule f g)), (λ no. absurd (no ((failure_fits f true e).0 refl, (failure_fits g true k).0 refl))))
  reasons g true false e k = ((λ h l. absurd ((failure_fits g false k).1 refl l)), (λ no. refl))
  reasons g false c e k = ((λ h l. absurd ((failure_fits f false e).1 refl h)), (λ no. refl))

pub failure_normalize_promised : Keeps 0 failure_normalize_kinds.ps failure_normalize_kinds.r failure_normalize.Learnt
    (λ κs a z. (FailureFits a.0 → z ≡ Ok a.0) × ((FailureFits a.0 → ⊥) → z ≡ Err (Misfit 0)))
failure_normalize_promised κs a z p =
    let e = Failure-normalize-says κs a z p.0 p.1 in
    let k = same a.0 (fits_failure a.0) refl in
    ((λ h. e ∙ k.0 h), (λ no. e ∙ k.1 no))

pub towards_error_promised : Keeps 0 towards_error_kinds.ps towards_error_kinds.r towards_error.Learnt
    (λ κs a z. (FailureFits a.0 → FailureFits a.1.0 → (x : Failure) × (z ≡ Ok x) × Reason a.0 a.1.0 x) × ((FailureFits a.0 × FailureFits a.1.0 → ⊥) → z ≡ Err (Misfit 0)))
towards_error_promised κs a z p =
    let e = advance_failure_towards_error_says κs a z p.0 p.1 in
    let k = reasons a.0 a.1.0 (fits_failure a.0) (fits_failure a.1.0) refl refl in
    ((λ h l. let x = k.0 h l in (x.0, e ∙ x.1, x.2)), (λ no. e ∙ k.1 no))

pub is_errno_promised : Keeps 0 is_errno_kinds.ps is_errno_kinds.r is_errno_lem.Learnt (λ κs a z. (z ≡ true → a.0 ≡ Io a.1.0) × (a.0 ≡ Io a.1.0 → z ≡ true))
is_errno_promised κs a z p =
    let e = is_errno_says κs a z p.0 p.1 in
    let k = errno_rule a.0 a.1.0 in
    ((λ h. k.0 (sym e ∙ h)), (λ h. e ∙ k.1 h))

-- ---- a state with a failure, or with none: Normal
module _ (s : OperationalState) where
  potential_by : (b : Bool) → fits_state s ≡ b → (p : Option Failure) →
      (Stored s → p ≡ None → tested_state b (with_potential_from s p) ≡ Ok Normal) × (Stored s → (f : Failure) → p ≡ Some f → tested_state b (with_potential_from s p) ≡ with_failure_of s f) ×
      ((Stored s → ⊥) → tested_state b (with_potential_from s p) ≡ Err (Misfit 0))
  potential_by true e p = ((λ h n. ap (with_potential_from s) n), (λ h f k. ap (with_potential_from s) k), (λ no. absurd (no ((state_fits s true e).0 refl))))
  potential_by false e p = ((λ h n. absurd ((state_fits s false e).1 refl h)), (λ h f k. absurd ((state_fits s false e).1 refl h)), (λ no. refl))

-- with none it is Normal, and with one what `with_failure` answers
pub with_potential_failure_promised : Keeps 0 with_potential_kinds.ps with_potential_kinds.r with_potential.Learnt
    (λ κs a z. (Stored a.0 → a.1.0 ≡ None → z ≡ Ok Normal) × (Stored a.0 → (f : Failure) → a.1.0 ≡ Some f → z ≡ with_failure_of a.0 f) × ((Stored a.0 → ⊥) → z ≡ Err (Misfit 0)))
with_potential_failure_promised κs a z p =
    let e = with_potential_failure_says κs a z p.0 p.1 in
    let k = potential_by a.0 (fits_state a.0) refl a.1.0 in
    ((λ h n. e ∙ k.0 h n), (λ h f m. e ∙ k.1 h f m), (λ no. e ∙ k.2 no))

-- ---- the untested forms, of any state: fitting, what it holds, and advancing
pub fits_promised : Keeps 0 fits_kinds.ps fits_kinds.r fits.Learnt (λ κs a z. (z ≡ true → Stored a.0) × (z ≡ false → Stored a.0 → ⊥))
fits_promised κs a z p = state_fits a.0 z (sym (fits_says κs a z p.0 p.1))

pub cached_failure_promised : Keeps 0 cached_failure_kinds.ps cached_failure_kinds.r cached_failure.Learnt (λ κs a z. Holds a.0 z)
cached_failure_promised κs a z p = subst (Holds a.0) (sym (cached_failure_says κs a z p.0 p.1)) (holds_rule a.0)

pub advance_promised : Keeps 0 advance_kinds.ps advance_kinds.r advance.Learnt (λ κs a z. Advanced a.0 a.1.0 z)
advance_promised κs a z p = subst (Advanced a.0 a.1.0) (sym (advance_says κs a z p.0 p.1)) (advance_rule a.0 a.1.0)
