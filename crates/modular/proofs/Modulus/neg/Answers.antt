-- At the full range the wrapping difference from 0; else 0 of 0, and the modulus less the reduced number.
use Rattle.std.proofs.Common.{sym, mod-lt, arith}
use Rattle.modular.proofs.Laws.{whole_zero, whole_pos, whole_some, wrapped_neg, neg_zero, neg_pos}
use Rattle.modular.proofs.Modulus.neg.Goals as goal

pub returns-then-m-eq0 : goal.returns-then-m-eq0
returns-then-m-eq0 c =
    rw (whole_zero 64 _ c.if-m-eq0.true) (wrapped_neg _ _ c.ranges.value.fits)

pub overflow_sub-result : goal.overflow_sub-result
overflow_sub-result c =
    let s = c.args in
    omega (arith, whole_pos 64 _ c.if-m-eq0.false, mod-lt s.value (whole_some 64 s.self.0))

pub returns-then-v-eq0 : goal.returns-then-v-eq0
returns-then-v-eq0 c =
    let s = c.args in
    omega (arith, neg_zero _ s.value _ (whole_some 64 s.self.0) c.new_number-v.ensures c.if-v-eq0.true)

pub returns-else-v-eq0 : goal.returns-else-v-eq0
returns-else-v-eq0 c =
    neg_pos _ _ _ (whole_some 64 _) c.new_number-v.ensures _ (sym (whole_pos 64 _ c.if-m-eq0.false)) c.if-v-eq0.false
