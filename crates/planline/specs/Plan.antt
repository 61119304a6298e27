-- The answer to a line, by what is asked.
use Rattle.std.specs.Prelude.{ℕ, cond, List, ltb, length, Result, Err}
use Rattle.operations.specs.declared.refusal.Refusal as scheduler
use Rattle.planner.specs.declared.refusal.Refusal as planner
use Rattle.planner.specs.declared.refusal.Refusal.TheVariants.{Scheduler}
use Rattle.planline.specs.declared.plan.Plan.{Plan}
use Rattle.planline.specs.declared.plan.PlanError.{PlanError}
use Rattle.planline.specs.declared.plan.PlanError.TheVariants.{Bad, Refused}
use Rattle.planline.specs.declared.plan.Question.{Question}
use Rattle.planline.specs.declared.plan.Question.TheVariants as question
use Rattle.planline.specs.Ring.{parse_of, plan_from}
use Rattle.planline.specs.Strips.{parse_strips_of, strips_from}

abbrev pub answer_to : Question → List ℕ → Result Plan PlanError
answer_to question.Ring xs = plan_from (parse_of xs)
answer_to question.Strips xs = strips_from (parse_strips_of xs)

-- a line over 120 bytes is bad, whatever it says
unfoldable pub plan_of : Question → List ℕ → Result Plan PlanError
plan_of q xs = cond (ltb 120 (length xs)) (Err Bad) (answer_to q xs)

-- a line is refused with what the planner refuses, as it is; and what the scheduler refuses, the planner refuses with it
abbrev pub from_planner : planner.Refusal → PlanError
from_planner e = Refused e

abbrev pub from_scheduler : scheduler.Refusal → PlanError
from_scheduler e = Refused (Scheduler e)
