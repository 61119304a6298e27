-- At the full range the wrapping difference; else the reduced numbers' difference, or the modulus less it turned round.
use Rattle.std.proofs.Common.{sym, mod-lt, arith}
use Rattle.modular.proofs.Laws.{whole_zero, whole_pos, whole_some, wrapped_sub, sub_not_below, sub_below}
use Rattle.modular.proofs.Modulus.sub.Goals as goal

pub returns-then-m-eq0 : goal.returns-then-m-eq0
returns-then-m-eq0 c =
    rw (whole_zero 64 _ c.if-m-eq0.true) (wrapped_sub _ _ _ c.ranges.a.fits c.ranges.b.fits)

pub overflow_sub-result-else-y-x-2 : goal.overflow_sub-result-else-y-x-2
overflow_sub-result-else-y-x-2 c =
    let s = c.args in
    omega (arith, whole_pos 64 _ c.if-m-eq0.false, mod-lt s.b (whole_some 64 s.self.0))

pub returns-then-y-x : goal.returns-then-y-x
returns-then-y-x c =
    sub_not_below _ _ _ _ _ (whole_some 64 _) c.new_number-x.ensures c.new_number-y.ensures c.if-y-x.true

pub returns-else-y-x : goal.returns-else-y-x
returns-else-y-x c =
    sub_below _ _ _ _ _ (whole_some 64 _) c.new_number-x.ensures c.new_number-y.ensures _ (sym (whole_pos 64 _ c.if-m-eq0.false)) c.if-y-x.false
