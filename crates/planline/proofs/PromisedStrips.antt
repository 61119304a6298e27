-- What is promised of a line that asks the planner, and of what either question is refused with, of the calls: every outcome that an
-- attached contract allows keeps it.
use mathlib.Core.Path.{◌≡◌, refl, sym, ap, ◌∙◌}
use Rattle.modular.proofs.Saying.{Allows, Keeps}
use Rattle.operations.specs.Refusal as sched
use Rattle.planner.specs.declared.refusal.Refusal.{Refusal}
use Rattle.planner.specs.Refusal as planner
use Rattle.std.specs.Prelude.{Some}
use Rattle.std.proofs.Common.{Result, Ok, Err}
use Rattle.planner.specs.declared.strips.Strips.{Strips}
use Rattle.planner.proofs.Says.{outline_says}
use Rattle.planner.proofs.outline.Kinds as outline_kinds
use Rattle.planner.proofs.outline.Reads as outline
use Rattle.planline.specs.declared.plan.Plan.TheVariants as plan
use Rattle.planline.specs.declared.plan.PlanError.TheVariants.{Bad, Refused}
use Rattle.planline.specs.declared.plan.Question.{Question}
use Rattle.planline.specs.declared.plan.Question.TheVariants as question
use Rattle.planline.specs.declared.strips.AskedStrips.{AskedStrips}
use Rattle.planline.specs.Plan.{plan_of}
use Rattle.planline.specs.Promise.{StripsLine, RefusedWith}
use Rattle.planline.specs.Strips.{parse_strips_of, strips_after}
use Rattle.planline.proofs.Printing.{told_is}
use Rattle.planline.proofs.Says.{parse_strips_says, plan_line_says, from_planner_says, from_scheduler_says}
use Rattle.planline.proofs.StripsLines.{strips_parsed, parsed_strips, strips_planned, strips_else_bad}
use Rattle.planline.proofs.plan.plan_line.Kinds as plan_line_kinds
use Rattle.planline.proofs.plan.plan_line.Reads as plan_line
use Rattle.planline.proofs.plan.PlanErrorFromPlannerRefusal.from.Kinds as from_planner_kinds
use Rattle.planline.proofs.plan.PlanErrorFromPlannerRefusal.from.Reads as from_planner
use Rattle.planline.proofs.plan.PlanErrorFromSchedRefusal.from.Kinds as from_scheduler_kinds
use Rattle.planline.proofs.plan.PlanErrorFromSchedRefusal.from.Reads as from_scheduler
use Rattle.planline.proofs.strips.parse_strips.Kinds as parse_strips_kinds
use Rattle.planline.proofs.strips.parse_strips.Reads as parse_strips

-- ---- a line is read exactly when it is one, as what it asks
pub parse_strips_promised :
    Keeps 1 parse_strips_kinds.ps parse_strips_kinds.r parse_strips.Learnt
    (λ κs a z. (x : AskedStrips) → (StripsLine a.0.now x → z ≡ Some x) × (z ≡ Some x → StripsLine a.0.now x))
parse_strips_promised κs a z q x = (λ l. said ∙ strips_parsed a.0.now x l, λ e. parsed_strips a.0.now x (sym said ∙ e))
  where
    said : z ≡ parse_strips_of a.0.now
    said = parse_strips_says κs a z q.0 q.1

-- its answer is what the planner's call answers to that, a refusal as the planner's, and `bad` where it is no line
abbrev pub Outlines : AskedStrips → Result Strips Refusal → Type 0
Outlines x y = Allows 0 outline_kinds.ps outline_kinds.r outline.Learnt tt (x.rows, (x.row_bytes, (x.buf_len, tt))) y

pub plan_line_strips_promised :
    Keeps 1 plan_line_kinds.ps plan_line_kinds.r plan_line.Learnt
    (λ κs a z.
    a.0 ≡ question.Strips →
    ((x : AskedStrips) → StripsLine a.1.0.now x →
    ((o : Strips) → Outlines x (Ok o) → z ≡ Ok (plan.Strips o)) × ((e : Refusal) → Outlines x (Err e) → z ≡ Err (Refused e)))
    × (((x : AskedStrips) → StripsLine a.1.0.now x → ⊥) → z ≡ Err Bad))
plan_line_strips_promised κs a z q strips =
    (λ x l. (λ o r. planned x l (Ok o) r, λ e r. planned x l (Err e) r), λ n. said ∙ strips_else_bad a.1.0.now n)
  where
    said : z ≡ plan_of question.Strips a.1.0.now
    said = plan_line_says κs a z q.0 q.1 ∙ ap (λ (y : Question). plan_of y a.1.0.now) strips

    planned : (x : AskedStrips) → StripsLine a.1.0.now x → (y : Result Strips Refusal) → Outlines x y → z ≡ strips_after y
    planned x l y r = said ∙ strips_planned a.1.0.now x l ∙ ap strips_after (sym (outline_says tt _ y r.0 r.1))

-- ---- a refusal of the planner or of the scheduler keeps its number and its values, and no line is bad by it
pub from_planner_promised : Keeps 0 from_planner_kinds.ps from_planner_kinds.r from_planner.Learnt (λ κs a z. RefusedWith (planner.number_of a.0) (planner.values_of a.0) z)
from_planner_promised κs a z q = rw (from_planner_says κs a z q.0 q.1) (told_is a.0, refl)

pub from_scheduler_promised : Keeps 0 from_scheduler_kinds.ps from_scheduler_kinds.r from_scheduler.Learnt (λ κs a z. RefusedWith (sched.number_of a.0) (sched.values_of a.0) z)
from_scheduler_promised κs a z q = rw (from_scheduler_says κs a z q.0 q.1) (refl, refl)
