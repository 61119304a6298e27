-- The difference, wrapped, or where the read counter is the greater one 2L more.
use Rattle.std.proofs.Common.{refl}
use Rattle.sched.proofs.CounterLaws.{not_below, below}
use Rattle.sched.proofs.counter.data_of.Goals as goal

pub returns-then-read-written : goal.returns-then-read-written
returns-then-read-written c =
    let h = c.requires in
    not_below _ _ _ _ h.0 h.1 h.2 refl c.if-read-written.true

pub returns : goal.returns
returns c =
    let h = c.requires in
    below _ _ _ _ h.0 h.1 h.2 refl _ _ c.if-read-written.false c.doubled.ensures refl
