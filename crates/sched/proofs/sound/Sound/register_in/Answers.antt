-- 6 above the greatest length; else the scheduler after it.
use Rattle.std.proofs.Common.{le-ltb, lt-ltb}
use Rattle.sched.specs.Scheduler.{register_in}
use Rattle.sched.proofs.sound.Sound.register_in.Goals as goal

pub returns-then-len-greatest : goal.returns-then-len-greatest
unfolding register_in
returns-then-len-greatest c = rw (← c.greatest-greatest.ensures.0, lt-ltb _ _ c.if-len-greatest.true)

pub returns : goal.returns
unfolding register_in
returns c = rw (← c.greatest-greatest.ensures.0, le-ltb _ _ c.if-len-greatest.false, c.advanced_in.ensures)
