-- What is divided is the quotient so far by the part, and what remains. Each turn halves the part.
use Rattle.planner.proofs.QuotientLaws.{Divided}
use Rattle.planner.proofs.quotient.divided.Given as goal

abbrev pub invariant-loop-part : goal.invariant-loop-part
invariant-loop-part l = Divided l.n l.by l.quotient l.remainder l.part

abbrev pub decreases-loop-part : goal.decreases-loop-part
decreases-loop-part l = l.part
