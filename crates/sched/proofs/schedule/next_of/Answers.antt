-- No operation of 0 items.
use Rattle.std.proofs.Common.{eq-eqb, ne_eqb}
use Rattle.sched.specs.Scheduler.{some_of}
use Rattle.sched.proofs.schedule.next_of.Goals as goal

pub returns-then-portion-eq0 : goal.returns-then-portion-eq0
unfolding some_of
returns-then-portion-eq0 c = rw (eq-eqb _ _ c.if-portion-eq0.true)

pub returns : goal.returns
unfolding some_of
returns c = rw (ne_eqb _ _ c.if-portion-eq0.false, c.new.ensures)
