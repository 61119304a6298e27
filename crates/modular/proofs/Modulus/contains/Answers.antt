-- Raw 0 stands for 2^64, above every number; any other raw number stands for itself.
use Rattle.std.proofs.Common.{lt-ltb, eq-eqb}
use Rattle.modular.proofs.Laws.{whole_zero, whole_pos}
use Rattle.modular.proofs.Modulus.contains.Goals as goal

pub returns-then-self-eq0 : goal.returns-then-self-eq0
returns-then-self-eq0 c = rw (eq-eqb _ _ c.if-self-eq0.true, whole_zero 64 _ c.if-self-eq0.true, lt-ltb _ _ c.ranges.v.fits)

pub returns-else-self-eq0 : goal.returns-else-self-eq0
returns-else-self-eq0 c = simp (whole_pos 64 _ c.if-self-eq0.false)
