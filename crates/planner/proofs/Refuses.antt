-- Each number is given exactly when specs/Given.antt says so, of the calls: of every outcome that an attached contract allows.
use Rattle.modular.proofs.Saying.{Keeps}
use Rattle.planner.specs.Given.{Exactly, GivenSizes, GivenPlan, GivenCheck, of_planner}
use Rattle.planner.proofs.GivenCheck.{check_given}
use Rattle.planner.proofs.GivenPlan.{outline_given, plan_given}
use Rattle.planner.proofs.Says.{outline_says, propose_says, check_says}
use Rattle.planner.proofs.strips.outline.Kinds as outline_kinds
use Rattle.planner.proofs.strips.outline.Reads as outline
use Rattle.planner.proofs.plan.propose.Kinds as propose_kinds
use Rattle.planner.proofs.plan.propose.Reads as propose
use Rattle.planner.proofs.verdict.check.Kinds as check_kinds
use Rattle.planner.proofs.verdict.check.Reads as check

pub outline_refuses : Keeps 0 outline_kinds.ps outline_kinds.r outline.Learnt (λ κs a z. Exactly (GivenSizes a.0 a.1.0 a.1.1.0) (of_planner z))
outline_refuses κs a z (ws, p) = rw (outline_says κs a z ws p) (outline_given a.0 a.1.0 a.1.1.0)

pub propose_refuses : Keeps 1 propose_kinds.ps propose_kinds.r propose.Learnt (λ κs a z. Exactly (GivenPlan a.0 a.1.0 a.1.1.0 a.1.1.1.0.now) (of_planner z))
propose_refuses κs a z (ws, p) = rw (propose_says κs a z ws p).0 (plan_given a.0 a.1.0 a.1.1.0 a.1.1.1.0.now)

pub check_refuses : Keeps 1 check_kinds.ps check_kinds.r check.Learnt (λ κs a z. Exactly (GivenCheck a.0 a.1.0 a.1.1.0 a.1.1.1.0.now) (of_planner z))
check_refuses κs a z (ws, p) = rw (check_says κs a z ws p) (check_given a.0 a.1.0 a.1.1.0 a.1.1.1.0.now)
