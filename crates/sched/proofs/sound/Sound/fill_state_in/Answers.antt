-- By the data: none, all of the length, or between.
use Rattle.std.proofs.Common.{arith, eq-eqb, ne_eqb}
use Rattle.sched.specs.Scheduler.{data_in, fill_state_in}
use Rattle.sched.proofs.sound.Sound.fill_state_in.Goals as goal

pub returns-then-data-eq0 : goal.returns-then-data-eq0
unfolding fill_state_in
returns-then-data-eq0 c = rw (eq-eqb (data_in c.args.self) 0 (omega arith))

pub returns-then-data-self : goal.returns-then-data-self
unfolding fill_state_in
returns-then-data-self c = rw (← c.data_in-data.ensures, ne_eqb _ _ c.if-data-eq0.false, ← c.self.view_is, eq-eqb _ _ c.if-data-self.true)

pub returns : goal.returns
unfolding fill_state_in
returns c = rw (← c.data_in-data.ensures, ne_eqb _ _ c.if-data-eq0.false, ← c.self.view_is, ne_eqb _ _ c.if-data-self.false)
