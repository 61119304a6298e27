-- A contained number is its own remainder. One that is not contained is at least the modulus, which so is not the full
-- range, and its raw number is no zero divisor.
use Rattle.std.proofs.Common.{◌<◌, sym, ◌∙◌, mod-eq_of_lt, arith, ltb-false, ltb-true}
use Rattle.modular.specs.Modulus.{whole_of}
use Rattle.modular.proofs.Laws.{whole_pos, whole_above}
use Rattle.modular.proofs.Modulus.new_number.Goals as goal

pub returns-then-contains : goal.returns-then-contains
returns-then-contains c =
    let v = c.args.value in
    let m = whole_of c.args.self in
    let l : v < m = omega (arith, ltb-true, sym c.contains.ensures ∙ c.if-contains.true) in
    sym (mod-eq_of_lt l)

pub nonzero_rem-result : goal.nonzero_rem-result
nonzero_rem-result c =
    omega (arith, whole_above 64 _ c.args.value (omega arith) (ltb-false _ _ (sym c.contains.ensures ∙ c.if-contains.false)))

pub returns : goal.returns
returns c =
    rw (whole_pos 64 _ (whole_above 64 _ c.args.value (omega arith) (ltb-false _ _ (sym c.contains.ensures ∙ c.if-contains.false))))
