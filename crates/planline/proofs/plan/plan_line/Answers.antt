-- As who is asked answers; a line that is too long needs no answer (`plan_long` on the function).
use mathlib.Core.Path.{sym, ap, ◌∙◌}
use native.Mathlib.Omega.{arith}
use Rattle.planline.specs.declared.plan.Question.{Question}
use Rattle.planline.specs.Plan.{answer_to}
use Rattle.planline.proofs.PlanLaws.{plan_short}
use Rattle.planline.proofs.plan.plan_line.Goals as goal

pub returns-in-Ring : goal.returns-in-Ring
returns-in-Ring c =
    let a = c.args in
    c.plan_ring.ensures ∙ ap (λ (q : Question). answer_to q a.line.now) (sym c.in-Ring.is) ∙ plan_short a.question a.line.now (omega arith)

pub returns-in-Strips : goal.returns-in-Strips
returns-in-Strips c =
    let a = c.args in
    c.plan_strips.ensures ∙ ap (λ (q : Question). answer_to q a.line.now) (sym c.in-Strips.is) ∙ plan_short a.question a.line.now (omega arith)
