-- The number, then the byte behind it.
use mathlib.Core.Path.{◌∙◌}
use native.Mathlib.Omega.{arith}
use Rattle.lines.proofs.FieldLaws.{space_there, space_other, space_end}
use Rattle.lines.proofs.field.spaced.Goals as goal

pub returns-in_err-get : goal.returns-in_err-get
returns-in_err-get c =
    let a = c.args in
    let r = c.in_ok-n.field-0 in
    let none = c.in_err-get.ensures.lookup in
    c.from_residual-in_err-get.ensures ∙ space_end a.line.now a.at r.n r.next c.in_ok-n.was c.number_at.ensures (omega arith)

pub returns-in-32 : goal.returns-in-32
returns-in-32 c =
    let a = c.args in
    let r = c.in_ok-n.field-0 in
    let there = c.in_ok-get.ensures.lookup in
    space_there a.line.now a.at r.n r.next c.in_ok-n.was c.number_at.ensures (omega arith) (omega arith)

pub returns-in_default : goal.returns-in_default
returns-in_default c =
    let a = c.args in
    let r = c.in_ok-n.field-0 in
    let there = c.in_ok-get.ensures.lookup in
    space_other a.line.now a.at r.n r.next c.in_ok-n.was c.number_at.ensures (omega arith) (λ e. omega arith)
