-- Each turn is a bit of the quotient, clear or set.
use native.Mathlib.Omega.{arith}
use Rattle.planner.proofs.QuotientLaws.{at_start, bit_clear, bit_set, at_end}
use Rattle.planner.proofs.quotient.divided.Goals as goal

pub loop-part-init : goal.loop-part-init
loop-part-init c = at_start _ _ (omega arith)

pub loop-part-preserved-then-remainder-part : goal.loop-part-preserved-then-remainder-part
loop-part-preserved-then-remainder-part c = bit_set c.loop-part.invariant (omega arith) (omega arith)

pub loop-part-preserved : goal.loop-part-preserved
loop-part-preserved c = bit_clear c.loop-part.invariant (omega arith) (omega arith)

pub returns : goal.returns
returns c = at_end c.loop-part.invariant (omega arith)
