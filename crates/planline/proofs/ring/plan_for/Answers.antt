-- The scheduler that is built of the counters is asked.
use mathlib.Core.Path.{◌≡◌, ap, ◌∙◌}
use Rattle.std.proofs.Common.{rules, Err}
use Rattle.planner.specs.declared.refusal.Refusal.TheVariants.{Scheduler}
use Rattle.planline.specs.declared.plan.PlanError.TheVariants.{Refused}
use Rattle.planline.specs.Ring.{plan_after}
use Rattle.planline.proofs.BuiltLaws.{scheduled_is}
use Rattle.planline.proofs.ring.plan_for.Goals as goal

pub returns-in_err-scheduled : goal.returns-in_err-scheduled
returns-in_err-scheduled c =
    let a = c.args.asked in
    let told : c.from_residual-in_err-scheduled.result ≡ Err (Refused (Scheduler c.in_err-scheduled.field-0.0)) = search rules in
    told ∙ ap plan_after (c.in_err-scheduled.ensures ∙ scheduled_is _ a.typ a.max_len c.in_ok-s.ensures)

pub returns : goal.returns
returns c =
    let a = c.args.asked in
    ap plan_after (c.in_ok-scheduled.ensures ∙ scheduled_is _ a.typ a.max_len c.in_ok-s.ensures)
