-- The number, then whether a byte is behind it.
use native.Mathlib.Omega.{arith}
use Rattle.lines.proofs.FieldLaws.{end_there, end_other}
use Rattle.lines.proofs.field.last.Goals as goal

pub returns-then-number-line : goal.returns-then-number-line
returns-then-number-line c =
    let a = c.args in
    let r = c.in_ok-number.number in
    end_other a.line.now a.at r.n r.next c.in_ok-number.was c.number_at.ensures (omega arith)

pub returns : goal.returns
returns c =
    let a = c.args in
    let r = c.in_ok-number.number in
    end_there a.line.now a.at r.n r.next c.in_ok-number.was c.number_at.ensures (omega arith)
