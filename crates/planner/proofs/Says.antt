-- What each public call says: whatever its attached contract allows is this definition of its arguments, the lent plan's last contents
-- with it. With specs/ these lines are what a reader must believe of this crate.
use mathlib.Core.Path.{ap}
use Rattle.modular.proofs.Saying.{Says, Leaves}
use Rattle.operations.specs.Refusal.{packed}
use Rattle.planner.specs.Check.{check_of}
use Rattle.planner.specs.Plan.{Proposal, propose_of}
use Rattle.planner.specs.Refusal.{number_of, values_of, from_scheduler}
use Rattle.planner.specs.Strips.{outline_of}
use Rattle.planner.proofs.strips.outline.Kinds as outline_kinds
use Rattle.planner.proofs.strips.outline.Reads as outline
use Rattle.planner.proofs.plan.propose.Kinds as propose_kinds
use Rattle.planner.proofs.plan.propose.Reads as propose
use Rattle.planner.proofs.verdict.check.Kinds as check_kinds
use Rattle.planner.proofs.verdict.check.Reads as check
use Rattle.planner.proofs.refusal.RefusalFromSchedRefusal.from.Kinds as from_scheduler_kinds
use Rattle.planner.proofs.refusal.RefusalFromSchedRefusal.from.Reads as from_scheduler_lem
use Rattle.planner.proofs.refusal.Refusal.number.Kinds as number_kinds
use Rattle.planner.proofs.refusal.Refusal.number.Reads as number
use Rattle.planner.proofs.refusal.Refusal.values.Kinds as values_kinds
use Rattle.planner.proofs.refusal.Refusal.values.Reads as values

-- ---- rows, bytes a row, L, and a lent plan
pub outline_says : Says 0 outline_kinds.ps outline_kinds.r outline.Learnt (λ κs a. outline_of a.0 a.1.0 a.1.1.0)
outline_says κs a z ws p = p

pub propose_says :
    Leaves 1 propose_kinds.ps propose_kinds.r propose.Learnt
    (λ κs a. (propose_of a.0 a.1.0 a.1.1.0 a.1.1.1.0.now).answer)
    (λ κs a. (tt, (tt, (tt, ((propose_of a.0 a.1.0 a.1.1.0 a.1.1.1.0.now).plan, tt)))))
propose_says κs a z ws p = (ap (λ (x : Proposal). x.answer) p, ap (λ (x : Proposal). (tt, (tt, (tt, (x.plan, tt))))) p)

pub check_says : Says 1 check_kinds.ps check_kinds.r check.Learnt (λ κs a. check_of a.0 a.1.0 a.1.1.0 a.1.1.1.0.now)
check_says κs a z ws p = p

-- ---- a refusal of the scheduler, and refusals in numbers
pub from_scheduler_says : Says 0 from_scheduler_kinds.ps from_scheduler_kinds.r from_scheduler_lem.Learnt (λ κs a. from_scheduler a.0)
from_scheduler_says κs a z ws p = p

pub number_says : Says 0 number_kinds.ps number_kinds.r number.Learnt (λ κs a. number_of a.0)
number_says κs a z ws p = p

pub values_says : Says 0 values_kinds.ps values_kinds.r values.Learnt (λ κs a. packed (values_of a.0))
values_says κs a z ws p = p
