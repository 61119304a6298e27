-- By the plan, or why there is none.
use mathlib.Core.Path.{◌≡◌}
use mathlib.Core.List.{[], ◌∷◌}
use Rattle.lines.specs.Decimal.{decimal}
use Rattle.lines.proofs.TextLaws.{stores_put, stores_then}
use Rattle.planline.specs.declared.plan.Plan.TheVariants as plan
use Rattle.planline.specs.declared.plan.PlanError.TheVariants.{Bad, Refused}
use Rattle.planline.specs.Text.{plan_text}
use Rattle.planline.proofs.text.put_plan.Goals as goal

pub returns-in-Err-Bad : goal.returns-in-Err-Bad
unfolding plan_text
returns-in-Err-Bad c =
    let e : c.in-Err-Bad.field-0 ≡ Bad = rw c.in-Err-Bad.is at c.in-Err-Bad.field-0-is in
    rw (c.in-Err-Bad.is, e) (stores_put _ c.put.ensures)

pub returns-in-Err-Refused : goal.returns-in-Err-Refused
unfolding plan_text
returns-in-Err-Refused c =
    let e : c.in-Err-Refused.field-0 ≡ Refused c.in-Err-Refused.e = rw c.in-Err-Refused.is at c.in-Err-Refused.field-0-is in
    rw (c.in-Err-Refused.is, e, ← c.number.ensures)
    (stores_then (stores_put (114 ∷ 101 ∷ 102 ∷ 117 ∷ 115 ∷ 101 ∷ 100 ∷ 32 ∷ []) c.put-number.ensures) (stores_then (stores_put (decimal c.number.result) c.put_decimal-end.ensures) (stores_put (10 ∷ []) c.put-in-Err-Refused.ensures)))

pub returns-in-Ok-Operations : goal.returns-in-Ok-Operations
unfolding plan_text
returns-in-Ok-Operations c =
    let e : c.in-Ok-Operations.field-0 ≡ plan.Operations c.in-Ok-Operations.list = rw c.in-Ok-Operations.is at c.in-Ok-Operations.field-0-is in
    rw (c.in-Ok-Operations.is, e)
    (stores_then (stores_put (111 ∷ 107 ∷ 32 ∷ []) c.put-count.ensures) (stores_then c.put_list-end.ensures (stores_put (10 ∷ []) c.put-in-Ok-Operations.ensures)))

pub returns-in-Ok-Strips : goal.returns-in-Ok-Strips
unfolding plan_text
returns-in-Ok-Strips c =
    let e : c.in-Ok-Strips.field-0 ≡ plan.Strips c.in-Ok-Strips.strips = rw c.in-Ok-Strips.is at c.in-Ok-Strips.field-0-is in
    rw (c.in-Ok-Strips.is, e)
    (stores_then (stores_put (111 ∷ 107 ∷ 32 ∷ []) c.put-count-in-Ok-Strips.ensures) (stores_then c.put_strips-end.ensures (stores_put (10 ∷ []) c.put-in-Ok-Strips.ensures)))
