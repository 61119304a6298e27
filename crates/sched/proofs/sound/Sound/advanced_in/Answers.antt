-- The operation's counter goes on, the other stays, and the fill is the data that is there then.
use Rattle.std.proofs.Common.{ap, arith}
use Rattle.sched.specs.Scheduler.{record_of}
use Rattle.sched.proofs.RegisterLaws.{read_fill, write_fill, advanced_sound}
use Rattle.sched.proofs.sound.Sound.advanced_in.Goals.{in-Read, in-Write}
use Rattle.sched.proofs.sound.Sound.advanced_in.Goals as goal

pub returns : goal.returns
returns c =
    elim c.match-op.branch [
      | in-Read w ↦ rw (w.scheduler-is, w.from_numbers-scheduler.ensures, w.later_of-later.ensures, ← c.self.view_is, w.in-Read.is)
          (ap (record_of _ _ _) (omega (arith, read_fill _ c.self.invariant c.args.n c.args.op (rw (← c.self.view_is) at c.requires) w.in-Read.is)))
      | in-Write w ↦ rw (w.scheduler-is, w.from_numbers-scheduler-in-Write.ensures, w.later_of-later-in-Write.ensures, ← c.self.view_is, w.in-Write.is)
          (ap (record_of _ _ _) (omega (arith, write_fill _ c.self.invariant c.args.n c.args.op (rw (← c.self.view_is) at c.requires) w.in-Write.is)))
    ]

pub invariant_of-result : goal.invariant_of-result
invariant_of-result c =
    rw (returns c, ← c.self.view_is) (advanced_sound _ c.self.invariant _ _ (rw (← c.self.view_is) at c.requires))
