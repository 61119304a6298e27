-- By the first byte: none, 0, another digit, anything else.
use Prim.Native.Nat.{◌+◌}
use mathlib.Core.Path.{sym, ap, ◌∙◌}
use native.Mathlib.Omega.{arith}
use Rattle.lines.specs.Decimal.{number_in}
use Rattle.lines.proofs.DecimalLaws.{front_end, front_zero, front_digit, front_other, number_there}
use Rattle.lines.proofs.decimal.number_at.Goals as goal

pub returns-in_err-get : goal.returns-in_err-get
returns-in_err-get c =
    c.from_residual.ensures ∙ ap (number_in c.args.line.now) (sym (front_end c.args.line.now c.args.at (omega (arith, c.in_err-get.ensures.lookup))))

pub returns-in-48 : goal.returns-in-48
returns-in-48 c =
    let a = c.args in
    let there = c.in_ok-get.ensures.lookup in
    number_there a.line.now 0 (a.at + 1) (omega arith) ∙ ap (number_in a.line.now) (sym (front_zero a.line.now a.at (omega arith) (omega arith)))

pub returns-in-49-to-57 : goal.returns-in-49-to-57
returns-in-49-to-57 c =
    let a = c.args in
    let there = c.in_ok-get.ensures.lookup in
    c.digits_on.ensures ∙ ap (number_in a.line.now) (sym (front_digit a.line.now a.at (omega arith) (omega arith) (omega arith)))

pub returns-in_default : goal.returns-in_default
returns-in_default c =
    let a = c.args in
    let there = c.in_ok-get.ensures.lookup in
    ap (number_in a.line.now) (sym (front_other a.line.now a.at (omega arith) (λ p q. omega arith)))

pub returns-in_default-2 : goal.returns-in_default-2
returns-in_default-2 c =
    let a = c.args in
    let there = c.in_ok-get.ensures.lookup in
    ap (number_in a.line.now) (sym (front_other a.line.now a.at (omega arith) (λ p q. omega arith)))
