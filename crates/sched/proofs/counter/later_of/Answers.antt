-- Up to the last counter the sum itself, beyond it the sum less 2L, wrapped.
use Rattle.std.proofs.Common.{refl, arith}
use Rattle.sched.proofs.CounterLaws.{up_to_last, beyond_last}
use Rattle.sched.proofs.counter.later_of.Goals as goal

pub returns-then-n-left : goal.returns-then-n-left
returns-then-n-left c =
    let h = c.requires in
    up_to_last _ _ _ _ h.0 h.1 h.2 refl (omega arith)

pub returns : goal.returns
returns c =
    let h = c.requires in
    beyond_last _ _ _ _ h.0 h.1 h.2 refl _ _ (omega arith) c.doubled.ensures refl
