-- Only raw 0 stands for a number that 64 bits cannot hold.
use Rattle.std.proofs.Common.{arith}
use Rattle.modular.proofs.Laws.{modulus_none, modulus_some}
use Rattle.modular.proofs.Modulus.modulus.Goals as goal

pub returns-then-self-eq0 : goal.returns-then-self-eq0
returns-then-self-eq0 c = modulus_none _ c.if-self-eq0.true

pub returns : goal.returns
returns c = modulus_some _ (omega arith) c.if-self-eq0.false
