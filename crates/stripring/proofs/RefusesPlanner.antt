-- "Given exactly when", 1, 2, 14 to 19 and 39, of every export of the planner: whatever its attached contract allows carries a refusal exactly
-- when the planner's table gives it, of the host's numbers.
use Rattle.std.specs.Bool.{⊤}
use Rattle.std.proofs.Common.{Result, Ok, Err, ℕ}
use Prim.Native.Nat.{ℕ}
use mathlib.Core.Path.{refl, ap}
use mathlib.Core.List.{List}
use Rattle.modular.proofs.Saying.{Keeps}
use Rattle.planner.proofs.Refuses as refuses
use Rattle.planner.specs.Check.{check_of}
use Rattle.planner.specs.Given.{Told, Exactly, GivenSizes, GivenPlan, GivenCheck, of_planner}
use Rattle.planner.specs.Plan.{propose_of}
use Rattle.planner.specs.Strips.{outline_of}
use Rattle.flat.specs.Back.{RefusalStands}
use Rattle.flat.specs.Planner.{flat_outlined, flat_proposed, flat_verdict}
use Rattle.flat.specs.declared.structs.Refusal.{Refusal}
use Rattle.flat.proofs.SentLaws.{accepted}
use Rattle.flat.proofs.SentPlanner.{planner_refusal}
use Rattle.stripring.specs.Given.{GivenAt}
use Rattle.stripring.proofs.GivenLaws.{given}
use Rattle.stripring.proofs.SaysPlanner.{planner_outline_says, planner_propose_says, planner_check_says}
use Rattle.stripring.proofs.plan.stripring_planner_outline.Kinds as outline_kinds
use Rattle.stripring.proofs.plan.stripring_planner_outline.Reads as outline
use Rattle.stripring.proofs.plan.stripring_planner_propose.Kinds as propose_kinds
use Rattle.stripring.proofs.plan.stripring_planner_propose.Reads as propose
use Rattle.stripring.proofs.plan.stripring_planner_check.Kinds as check_kinds
use Rattle.stripring.proofs.plan.stripring_planner_check.Reads as check
use Rattle.planner.specs.declared.strips.Strips.{Strips}
use Rattle.planner.specs.declared.refusal.Refusal as planner

-- ---- of each kind of answer, and any table
module _ {G : ℕ → List ℕ → Type 0} where
  given_so : (r : Refusal) (t : Told) → RefusalStands r t.number t.values → Exactly G t → GivenAt G r
  given_so r t p g =
      given r t.number t.values p g.only (λ k vs h. (ap (λ (u : Told). u.number) (g.always k vs h), ap (λ (u : Told). u.values) (g.always k vs h)))

  outlined_given : (x : Result Strips planner.Refusal) → Exactly G (of_planner x) → GivenAt G (flat_outlined x).refusal
  outlined_given (Ok o) g = given_so _ (of_planner {A = Strips} (Ok o)) accepted g
  outlined_given (Err e) g = given_so _ (of_planner {A = Strips} (Err e)) (planner_refusal e) g

  proposed_given : (x : Result ℕ planner.Refusal) → Exactly G (of_planner x) → GivenAt G (flat_proposed x).refusal
  proposed_given (Ok n) g = given_so _ (of_planner {A = ℕ} (Ok n)) accepted g
  proposed_given (Err e) g = given_so _ (of_planner {A = ℕ} (Err e)) (planner_refusal e) g

  verdict_given : (x : Result ⊤ planner.Refusal) → Exactly G (of_planner x) → GivenAt G (flat_verdict x)
  verdict_given (Ok tt) g = given_so _ (of_planner {A = ⊤} (Ok tt)) accepted g
  verdict_given (Err e) g = given_so _ (of_planner {A = ⊤} (Err e)) (planner_refusal e) g

-- ---- of the exports
pub planner_outline_refuses : Keeps 0 outline_kinds.ps outline_kinds.r outline.Learnt (λ κs a z. GivenAt (GivenSizes a.0 a.1.0 a.1.1.0) z.refusal)
planner_outline_refuses κs a z (ws, p) =
    let x = outline_of a.0 a.1.0 a.1.1.0 in
    rw (planner_outline_says κs a z ws p) (outlined_given x (refuses.outline_refuses tt a x (ws, refl)))

pub planner_propose_refuses : Keeps 1 propose_kinds.ps propose_kinds.r propose.Learnt (λ κs a z. GivenAt (GivenPlan a.0 a.1.0 a.1.1.0 a.1.1.1.0.now) z.refusal)
planner_propose_refuses κs a z (ws, p) =
    let x = propose_of a.0 a.1.0 a.1.1.0 a.1.1.1.0.now in
    rw (planner_propose_says κs a z ws p).0 (proposed_given x.answer (refuses.propose_refuses κs a x.answer ((tt, (tt, (tt, (x.plan, tt)))), refl)))

pub planner_check_refuses : Keeps 1 check_kinds.ps check_kinds.r check.Learnt (λ κs a z. GivenAt (GivenCheck a.0 a.1.0 a.1.1.0 a.1.1.1.0.now) z)
planner_check_refuses κs a z (ws, p) =
    let x = check_of a.0 a.1.0 a.1.1.0 a.1.1.1.0.now in
    rw (planner_check_says κs a z ws p) (verdict_given x (refuses.check_refuses κs a x (ws, refl)))
