-- What each export of the planner says: whatever its attached contract allows is the flat form of this definition, and what it leaves in the
-- lent plan is this one.
use mathlib.Core.Path.{ap}
use Rattle.modular.proofs.Saying.{Says, Leaves}
use Rattle.planner.specs.Check.{check_of}
use Rattle.planner.specs.Plan.{propose_of}
use Rattle.planner.specs.Strips.{outline_of}
use Rattle.flat.specs.Planner.{ProposeAnswerLeft, flat_outlined, flat_proposed, flat_verdict}
use Rattle.stripring.proofs.plan.stripring_planner_outline.Kinds as outline_kinds
use Rattle.stripring.proofs.plan.stripring_planner_outline.Reads as outline
use Rattle.stripring.proofs.plan.stripring_planner_propose.Kinds as propose_kinds
use Rattle.stripring.proofs.plan.stripring_planner_propose.Reads as propose
use Rattle.stripring.proofs.plan.stripring_planner_check.Kinds as check_kinds
use Rattle.stripring.proofs.plan.stripring_planner_check.Reads as check

pub planner_outline_says : Says 0 outline_kinds.ps outline_kinds.r outline.Learnt (λ κs a. flat_outlined (outline_of a.0 a.1.0 a.1.1.0))
planner_outline_says κs a z ws p = p

pub planner_propose_says : Leaves 1 propose_kinds.ps propose_kinds.r propose.Learnt
    (λ κs a. flat_proposed (propose_of a.0 a.1.0 a.1.1.0 a.1.1.1.0.now).answer)
    (λ κs a. (tt, (tt, (tt, ((propose_of a.0 a.1.0 a.1.1.0 a.1.1.1.0.now).plan, tt)))))
planner_propose_says κs a z ws p = (ap (λ (x : ProposeAnswerLeft). x.answer) p, ap (λ (x : ProposeAnswerLeft). (tt, (tt, (tt, (x.plan, tt))))) p)

pub planner_check_says : Says 1 check_kinds.ps check_kinds.r check.Learnt (λ κs a. flat_verdict (check_of a.0 a.1.0 a.1.1.0 a.1.1.1.0.now))
planner_check_says κs a z ws p = p
