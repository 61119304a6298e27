-- By the bytes that are left: none, one, or two of which the second is a space or not.
use mathlib.Core.Path.{sym, ap, ◌∙◌}
use native.Mathlib.Omega.{arith}
use Rattle.planline.specs.Ring.{kind_of}
use Rattle.planline.proofs.RingLaws.{kind_end, kind_alone, kind_there, kind_other}
use Rattle.planline.proofs.ring.kind_at.Goals as goal

pub returns-in_err-letter : goal.returns-in_err-letter
returns-in_err-letter c =
    let none = c.in_err-letter.ensures.lookup in
    c.from_residual.ensures ∙ sym (kind_end c.args.line.now c.args.at (omega arith))

pub returns-in_err-get : goal.returns-in_err-get
returns-in_err-get c =
    let letter = c.in_ok-letter.ensures.lookup in
    let none = c.in_err-get.ensures.lookup in
    c.from_residual-in_err-get.ensures ∙ sym (kind_alone c.args.line.now c.args.at (omega arith) (omega arith))

pub returns-in-32 : goal.returns-in-32
returns-in-32 c =
    let letter = c.in_ok-letter.ensures.lookup in
    let space = c.in_ok-get.ensures.lookup in
    c.kind_of.ensures ∙ ap kind_of (omega arith) ∙ sym (kind_there c.args.line.now c.args.at (omega arith) (omega arith))

pub returns-in_default : goal.returns-in_default
returns-in_default c =
    let other = c.in_ok-get.ensures.lookup in
    sym (kind_other c.args.line.now c.args.at (omega arith) (λ e. omega arith))
