-- The text where there is room, or nothing.
use Prim.Native.Nat.{◌+◌}
use mathlib.Core.Path.{◌≡◌, sym, ap, ◌∙◌}
use mathlib.Core.Bool.{true}
use lib.ListN.{length}
use native.Mathlib.Omega.{arith}
use borrow.Author.Tests.{leb-true}
use Rattle.lines.specs.Text.{filled, has_room, append_of}
use Rattle.lines.proofs.TextLaws.{append_room, append_full}
use Rattle.std.proofs.Common.{Result}
use Rattle.planline.specs.declared.plan.Plan.{Plan}
use Rattle.planline.specs.declared.plan.PlanError.{PlanError}
use Rattle.planline.specs.Cut.{line_text}
use Rattle.planline.specs.Text.{plan_text, longest}
use Rattle.planline.proofs.TextLaws.{plan_text_short}
use Rattle.planline.proofs.text.append.Goals as goal

pub returns-then-has_room : goal.returns-then-has_room
returns-then-has_room c =
    let a = c.args in
    let plan = c.plan_line in
    let room : has_room longest (filled a.at a.out.now) ≡ true = sym c.has_room.ensures ∙ c.if-has_room.true in
    append_room longest (plan_text plan.result) a.out.now c.put_plan.new.out a.at c.put_plan.result room
    (c.put_plan.ensures (omega (arith, leb-true (a.at + longest) (length a.out.now) room, plan_text_short plan.result)))
    ∙ ap (λ (p : Result Plan PlanError). append_of longest (plan_text p) (filled a.at a.out.now)) plan.ensures

pub returns : goal.returns
returns c =
    let a = c.args in
    append_full longest (line_text a.question a.line.now) a.out.now a.at (sym c.has_room.ensures ∙ c.if-has_room.false)
