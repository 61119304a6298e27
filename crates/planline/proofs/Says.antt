-- What each public call says, in the order of the paper: whatever its attached contract allows is this definition of its
-- arguments, the lent memory's last contents with it. With specs/ these lines are what a reader must believe of this crate.
use Prim.Native.Nat.{ℕ}
use mathlib.Core.Path.{ap}
use mathlib.Core.List.{List}
use Rattle.modular.proofs.Saying.{Says, Leaves, Decides, leaves_decides}
use Rattle.lines.specs.Answer.{Step}
use Rattle.lines.specs.Text.{Filled, filled, append_of}
use Rattle.planline.specs.Cut.{line_text, reached, step_of, last_of}
use Rattle.planline.specs.Plan.{plan_of, from_planner, from_scheduler}
use Rattle.planline.specs.Ring.{parse_of}
use Rattle.planline.specs.Strips.{parse_strips_of}
use Rattle.planline.specs.Text.{longest}
use Rattle.planline.proofs.ring.parse.Kinds as parse_kinds
use Rattle.planline.proofs.ring.parse.Reads as parse
use Rattle.planline.proofs.strips.parse_strips.Kinds as parse_strips_kinds
use Rattle.planline.proofs.strips.parse_strips.Reads as parse_strips
use Rattle.planline.proofs.plan.plan_line.Kinds as plan_line_kinds
use Rattle.planline.proofs.plan.plan_line.Reads as plan_line
use Rattle.planline.proofs.plan.PlanErrorFromPlannerRefusal.from.Kinds as from_planner_kinds
use Rattle.planline.proofs.plan.PlanErrorFromPlannerRefusal.from.Reads as from_planner_lem
use Rattle.planline.proofs.plan.PlanErrorFromSchedRefusal.from.Kinds as from_scheduler_kinds
use Rattle.planline.proofs.plan.PlanErrorFromSchedRefusal.from.Reads as from_scheduler_lem
use Rattle.planline.proofs.text.append.Kinds as append_kinds
use Rattle.planline.proofs.text.append.Reads as append
use Rattle.planline.proofs.cut.answer_next.Kinds as answer_next_kinds
use Rattle.planline.proofs.cut.answer_next.Reads as answer_next
use Rattle.planline.proofs.cut.answer_last.Kinds as answer_last_kinds
use Rattle.planline.proofs.cut.answer_last.Reads as answer_last

-- ---- a line and its answer
pub parse_says : Says 1 parse_kinds.ps parse_kinds.r parse.Learnt (λ κs a. parse_of a.0.now)
parse_says κs a z ws p = p

pub parse_strips_says : Says 1 parse_strips_kinds.ps parse_strips_kinds.r parse_strips.Learnt (λ κs a. parse_strips_of a.0.now)
parse_strips_says κs a z ws p = p

pub plan_line_says : Says 1 plan_line_kinds.ps plan_line_kinds.r plan_line.Learnt (λ κs a. plan_of a.0 a.1.0.now)
plan_line_says κs a z ws p = p

pub from_planner_says : Says 0 from_planner_kinds.ps from_planner_kinds.r from_planner_lem.Learnt (λ κs a. from_planner a.0)
from_planner_says κs a z ws p = p

pub from_scheduler_says : Says 0 from_scheduler_kinds.ps from_scheduler_kinds.r from_scheduler_lem.Learnt (λ κs a. from_scheduler a.0)
from_scheduler_says κs a z ws p = p

-- ---- the answer as text, in a lent buffer
pub append_says :
    Leaves 2 append_kinds.ps append_kinds.r append.Learnt
    (λ κs a. (append_of longest (line_text a.0 a.1.0.now) (filled a.1.1.1.0 a.1.1.0.now)).at)
    (λ κs a. (tt, (tt, ((append_of longest (line_text a.0 a.1.0.now) (filled a.1.1.1.0 a.1.1.0.now)).bytes, (tt, tt)))))
append_says κs a z ws p = (ap (λ (x : Filled). x.at) p, ap (λ (x : Filled). (tt, (tt, (x.bytes, (tt, tt))))) p)

-- ---- the lines of an input that comes in pieces
-- what a step leaves in the two lent buffers
abbrev lent : Step → Unit {0} × (List ℕ × (Unit {0} × (Unit {0} × (Unit {0} × (List ℕ × (Unit {0} × Unit {0}))))))
lent s = (tt, (s.held.bytes, (tt, (tt, (tt, (s.out.bytes, (tt, tt)))))))

pub answer_next_says :
    Leaves 3 answer_next_kinds.ps answer_next_kinds.r answer_next.Learnt
    (λ κs a. reached (step_of a.0 (filled a.1.1.0 a.1.0.now) a.1.1.1.1.0 a.1.1.1.0.now (filled a.1.1.1.1.1.1.0 a.1.1.1.1.1.0.now)))
    (λ κs a. lent (step_of a.0 (filled a.1.1.0 a.1.0.now) a.1.1.1.1.0 a.1.1.1.0.now (filled a.1.1.1.1.1.1.0 a.1.1.1.1.1.0.now)))
answer_next_says κs a z ws p = (ap reached p, ap lent p)

pub answer_last_says :
    Leaves 2 answer_last_kinds.ps answer_last_kinds.r answer_last.Learnt
    (λ κs a. (last_of a.0 (filled a.1.1.0 a.1.0.now) (filled a.1.1.1.1.0 a.1.1.1.0.now)).at)
    (λ κs a. (tt, (tt, (tt, ((last_of a.0 (filled a.1.1.0 a.1.0.now) (filled a.1.1.1.1.0 a.1.1.1.0.now)).bytes, (tt, tt))))))
answer_last_says κs a z ws p = (ap (λ (x : Filled). x.at) p, ap (λ (x : Filled). (tt, (tt, (tt, (x.bytes, (tt, tt)))))) p)

-- ---- so each contract decides the outcome: any two that it allows are equal, lent memory included. Here for one of them
append_decided : Decides 2 append_kinds.ps append_kinds.r append.Learnt
append_decided = leaves_decides 2 append_kinds.ps append_kinds.r append.Learnt _ _ append_says
