-- The two cases of the definition.
use Rattle.modular.proofs.Laws.{try_none, try_some}
use Rattle.modular.proofs.Modulus.try_new.Goals as goal

pub returns-then-modulus-eq0 : goal.returns-then-modulus-eq0
returns-then-modulus-eq0 c = try_none _ c.if-modulus-eq0.true

pub returns : goal.returns
returns c = try_some _ c.if-modulus-eq0.false
