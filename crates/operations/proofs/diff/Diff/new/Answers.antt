-- The two cases of the definition.
use borrow.Author.Tests.{eq-eqb, ne_eqb}
use Rattle.operations.specs.Diff.{diff_of}
use Rattle.operations.proofs.diff.Diff.new.Goals as goal

pub returns-then-old-new : goal.returns-then-old-new
unfolding diff_of
returns-then-old-new c = rw (eq-eqb _ _ c.if-old-new.true)

pub returns : goal.returns
unfolding diff_of
returns c = rw (ne_eqb _ _ c.if-old-new.false)
