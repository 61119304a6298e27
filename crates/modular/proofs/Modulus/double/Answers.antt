-- The full range and what is above 2^63 have no double; below or at 2^63 the wrapped sum is the raw number of twice the modulus.
use Rattle.std.proofs.Common.{refl, arith}
use Rattle.modular.proofs.Laws.{whole_zero, whole_pos, double_none, double_sum}
use Rattle.modular.proofs.Modulus.double.Goals as goal

pub returns-then-m-eq0 : goal.returns-then-m-eq0
returns-then-m-eq0 c = double_none 64 _ (omega (arith, whole_zero 64 _ c.if-m-eq0.true))

pub returns-then-m-gt9223372036854775808 : goal.returns-then-m-gt9223372036854775808
returns-then-m-gt9223372036854775808 c = double_none 64 _ (omega (arith, whole_pos 64 _ c.if-m-eq0.false))

pub returns : goal.returns
returns c =
    double_sum 64 _ _ (whole_pos 64 _ c.if-m-eq0.false) (omega arith) refl
