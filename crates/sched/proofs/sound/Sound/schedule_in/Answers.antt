-- The two operations that are asked of what there is before the buffer's end and behind it.
use Rattle.std.proofs.Common.{subst}
use Rattle.sched.specs.Scheduler.{IsSound}
use Rattle.sched.proofs.ScheduleLaws.{schedule_by_ends}
use Rattle.sched.proofs.sound.Sound.schedule_in.Goals as goal

pub returns : goal.returns
returns c =
    schedule_by_ends c.args.self (subst IsSound c.self.view_is c.self.invariant) _ _
    _ (rw (c.greatest.ensures.0, c.self.view_is, c.offset-off.ensures) at c.portion_of-there.ensures)
    _ (rw (c.portion_of.ensures, c.offset-off.ensures) at c.next_of-first.ensures)
    _ (rw c.portion_of-2.ensures at c.next_of-second.ensures)
    _ c.both_of.ensures
