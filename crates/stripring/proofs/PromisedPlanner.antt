-- What is promised of the planner's exports, in the words of specs/PromisePlanner.antt: every outcome that an attached contract allows
-- keeps it, because it is the flat form of what the planner's call promises.
use Rattle.std.specs.Bool.{⊤}
use Rattle.std.proofs.Common.{Result, Ok, Err, ℕ}
use Prim.Native.Nat.{ℕ, ◌*◌, ◌≤◌}
use mathlib.Core.Path.{◌≡◌, refl, sym, ap, ◌∙◌}
use mathlib.Core.List.{List}
use lib.ListN.{take}
use native.Mathlib.Omega.{arith}
use contract.Lifetimes.{Lfts}
use denote.Triple.Clauses.{Lasts, at_exit}
use borrow.Fn.Kinds.{Dens, ended_of}
use Rattle.copies.proofs.Promised.{KeepsLeft}
use Rattle.modular.proofs.Saying.{Allows, Keeps}
use Rattle.sched.specs.Scheduler.{Sized}
use Rattle.planner.proofs.Promised as promised
use Rattle.planner.proofs.PromisedPlans as plans
use Rattle.planner.proofs.PromisedValues.{number_some}
use Rattle.planner.specs.Check.{check_of}
use Rattle.planner.specs.Given.{Told, of_planner}
use Rattle.planner.specs.Plan.{Proposal, propose_of}
use Rattle.planner.specs.Promise.{runs_in, Bounded, IsPlan, Proposes, Outlines}
use Rattle.planner.specs.Promise as promise
use Rattle.planner.specs.Strips.{outline_of}
use Rattle.flat.specs.Planner.{flat_outlined, flat_proposed, flat_verdict}
use Rattle.flat.specs.declared.structs.ProposeAnswer.{ProposeAnswer}
use Rattle.flat.specs.declared.structs.Refusal.{Refusal}
use Rattle.stripring.specs.PromisePlanner.{OutlinesAt, ProposesAt, ChecksAt, FifteenAt}
use Rattle.stripring.specs.PromisePlanner as face
use Rattle.stripring.proofs.SaysPlanner.{planner_outline_says, planner_propose_says, planner_check_says}
use Rattle.stripring.proofs.plan.stripring_planner_outline.Kinds as outline_kinds
use Rattle.stripring.proofs.plan.stripring_planner_outline.Reads as outline
use Rattle.stripring.proofs.plan.stripring_planner_propose.Kinds as propose_kinds
use Rattle.stripring.proofs.plan.stripring_planner_propose.Reads as propose
use Rattle.stripring.proofs.plan.stripring_planner_check.Kinds as check_kinds
use Rattle.stripring.proofs.plan.stripring_planner_check.Reads as check
use Rattle.planner.specs.declared.strips.Strips.{Strips}
use Rattle.planner.specs.declared.refusal.Refusal as planner

-- ---- of each kind of answer
module _ (rows bytes L : ℕ) where
  outlines_at : (x : Result Strips planner.Refusal) → Outlines rows bytes L x → OutlinesAt rows bytes L (flat_outlined x)
  outlines_at (Ok o) h = face.tells refl h
  outlines_at (Err e) h = face.refused (number_some e) refl refl refl

  proposes_at : (plan after : List ℕ) (x : Result ℕ planner.Refusal) → Proposes rows bytes L plan x after → ProposesAt rows bytes L plan (flat_proposed x) after
  proposes_at plan after x (promise.refuses e) = face.refused (number_some e) refl refl
  proposes_at plan after x (promise.runs n _ p q t w l r) = face.runs refl (promise.runs n after p q t w l r)

  zero_accepts : (x : Result ⊤ planner.Refusal) → (flat_verdict x).number ≡ 0 → x ≡ Ok tt
  zero_accepts (Ok tt) e = refl
  zero_accepts (Err r) e = absurd (omega (arith, number_some r, e))

  checks_at : (plan : List ℕ) (x : Result ⊤ planner.Refusal) → (x ≡ Ok tt → IsPlan rows bytes L plan) × (IsPlan rows bytes L plan → x ≡ Ok tt) → ChecksAt rows bytes L plan (flat_verdict x)
  checks_at plan x (f, g) = record { only = λ e. f (zero_accepts x e); always = λ p. ap (λ (v : Result ⊤ planner.Refusal). (flat_verdict v).number) (g p) }

  fifteen_at : (z : Refusal) (t : Told) → z.number ≡ t.number → plans.Fifteen rows bytes L t → FifteenAt rows bytes L z
  fifteen_at z t e (f, g) = record { only = λ q. f (sym e ∙ q); always = λ n. e ∙ g n }

outlined_number : (x : Result Strips planner.Refusal) → (flat_outlined x).refusal.number ≡ (of_planner x).number
outlined_number (Ok o) = refl
outlined_number (Err e) = refl

proposed_number : (x : Result ℕ planner.Refusal) → (flat_proposed x).refusal.number ≡ (of_planner x).number
proposed_number (Ok n) = refl
proposed_number (Err e) = refl

verdict_number : (x : Result ⊤ planner.Refusal) → (flat_verdict x).number ≡ (of_planner x).number
verdict_number (Ok tt) = refl
verdict_number (Err e) = refl

-- ---- of the exports
pub planner_outline_promised : Keeps 0 outline_kinds.ps outline_kinds.r outline.Learnt (λ κs a z. OutlinesAt a.0 a.1.0 a.1.1.0 z)
planner_outline_promised κs a z (ws, p) =
    let x = outline_of a.0 a.1.0 a.1.1.0 in
    rw (planner_outline_says κs a z ws p) (outlines_at a.0 a.1.0 a.1.1.0 x (promised.outline_promised tt a x (ws, refl)))

pub planner_propose_promised : KeepsLeft 1 propose_kinds.ps propose_kinds.r propose.Learnt
    (λ κs a z ws. ProposesAt a.0 a.1.0 a.1.1.0 a.1.1.1.0.now z ws.1.1.1.0)
planner_propose_promised κs a z ws p =
    let x = propose_of a.0 a.1.0 a.1.1.0 a.1.1.1.0.now in
    let left = planner_propose_says κs a z ws p in
    rw (left.0, left.1) (proposes_at a.0 a.1.0 a.1.1.0 a.1.1.1.0.now x.plan x.answer (promised.propose_promised κs a x.answer (tt, (tt, (tt, (x.plan, tt)))) refl))

pub planner_check_promised : Keeps 1 check_kinds.ps check_kinds.r check.Learnt
    (λ κs a z. Sized a.1.1.0 → Bounded a.0 a.1.0 → ChecksAt a.0 a.1.0 a.1.1.0 a.1.1.1.0.now z)
planner_check_promised κs a z (ws, p) s b =
    let x = check_of a.0 a.1.0 a.1.1.0 a.1.1.1.0.now in
    rw (planner_check_says κs a z ws p) (checks_at a.0 a.1.0 a.1.1.0 a.1.1.1.0.now x (plans.check_promised κs a x (ws, refl) s b))

-- ---- the plan that one export proposes is accepted by the other, and no plan that is accepted has fewer runs
runs_told : (x : Result ℕ planner.Refusal) → (flat_proposed x).refusal.number ≡ 0 → x ≡ Ok (flat_proposed x).count
runs_told (Ok n) e = refl
runs_told (Err r) e = absurd (omega (arith, number_some r, e))

module _
    (κs : Lfts 1)
    (a : Dens κs propose_kinds.ps)
    (z : ProposeAnswer)
    (ws : Lasts (ended_of 1 propose_kinds.ps propose_kinds.r) κs a)
    (q : propose.Learnt κs a z (at_exit (ended_of 1 propose_kinds.ps propose_kinds.r) κs a ws))
    (made : z.refusal.number ≡ 0)
    (ηs : Lfts 1)
    (b : Dens ηs check_kinds.ps)
    (same : (b.0 ≡ a.0) × (b.1.0 ≡ a.1.0) × (b.1.1.0 ≡ a.1.1.0))
    (y : Refusal)
    (c : Allows 1 check_kinds.ps check_kinds.r check.Learnt ηs b y)
  where
    abbrev proposal : Proposal
    proposal = propose_of a.0 a.1.0 a.1.1.0 a.1.1.1.0.now

    abbrev judged : Result ⊤ planner.Refusal
    judged = check_of b.0 b.1.0 b.1.1.0 b.1.1.1.0.now

    left : (z ≡ flat_proposed proposal.answer) × (ws ≡ (tt, (tt, (tt, (proposal.plan, tt)))))
    left = planner_propose_says κs a z ws q

    told : y ≡ flat_verdict judged
    told = planner_check_says ηs b y c.0 c.1

    proposed_runs : proposal.answer ≡ Ok z.count
    proposed_runs = rw left.0 (runs_told proposal.answer (rw left.0 at made))

    pub planner_own_plan_accepted : b.1.1.1.0.now ≡ take (2 * z.count) ws.1.1.1.0 → y.number ≡ 0
    planner_own_plan_accepted p =
        let there : b.1.1.1.0.now ≡ take (2 * z.count) proposal.plan = rw left.1 at p in
        let accepted : judged ≡ Ok tt = plans.own_plan_accepted κs a proposal.answer (tt, (tt, (tt, (proposal.plan, tt)))) refl z.count proposed_runs ηs b same judged (c.0, refl) there in
        ap (λ (r : Refusal). r.number) told ∙ ap (λ (v : Result ⊤ planner.Refusal). (flat_verdict v).number) accepted

    pub planner_accepted_not_fewer : y.number ≡ 0 → z.count ≤ runs_in b.1.1.1.0.now
    planner_accepted_not_fewer e =
        plans.accepted_not_fewer κs a proposal.answer (tt, (tt, (tt, (proposal.plan, tt)))) refl z.count proposed_runs ηs b same judged (c.0, refl)
        (zero_accepts b.0 b.1.0 b.1.1.0 judged (sym (ap (λ (r : Refusal). r.number) told) ∙ e))

-- ---- 15, of each
pub planner_outline_15 : Keeps 0 outline_kinds.ps outline_kinds.r outline.Learnt
    (λ κs a z. Sized a.1.1.0 → Bounded a.0 a.1.0 → FifteenAt a.0 a.1.0 a.1.1.0 z.refusal)
planner_outline_15 κs a z (ws, p) s b =
    let x = outline_of a.0 a.1.0 a.1.1.0 in
    rw (planner_outline_says κs a z ws p) (fifteen_at a.0 a.1.0 a.1.1.0 _ (of_planner x) (outlined_number x) (plans.outline_15 tt a x (ws, refl) s b))

pub planner_propose_15 : Keeps 1 propose_kinds.ps propose_kinds.r propose.Learnt
    (λ κs a z. Sized a.1.1.0 → Bounded a.0 a.1.0 → FifteenAt a.0 a.1.0 a.1.1.0 z.refusal)
planner_propose_15 κs a z (ws, p) s b =
    let x = propose_of a.0 a.1.0 a.1.1.0 a.1.1.1.0.now in
    rw (planner_propose_says κs a z ws p).0 (fifteen_at a.0 a.1.0 a.1.1.0 _ (of_planner x.answer) (proposed_number x.answer) (plans.propose_15 κs a x.answer ((tt, (tt, (tt, (x.plan, tt)))), refl) s b))

pub planner_check_15 : Keeps 1 check_kinds.ps check_kinds.r check.Learnt
    (λ κs a z. Sized a.1.1.0 → Bounded a.0 a.1.0 → FifteenAt a.0 a.1.0 a.1.1.0 z)
planner_check_15 κs a z (ws, p) s b =
    let x = check_of a.0 a.1.0 a.1.1.0 a.1.1.1.0.now in
    rw (planner_check_says κs a z ws p) (fifteen_at a.0 a.1.0 a.1.1.0 _ (of_planner x) (verdict_number x) (plans.check_15 κs a x (ws, refl) s b))
