-- The paper's number of a refusal, and the values that it carries.
use Rattle.std.specs.Prelude.{ℕ, List, []}
use Rattle.operations.specs.declared.refusal.Refusal as scheduler
use Rattle.operations.specs.Refusal as sched
use Rattle.copies.specs.declared.refusal.Refusal.{Refusal}
use Rattle.copies.specs.declared.refusal.Refusal.TheVariants.{Scheduler, RingMemory}

abbrev pub number_of : Refusal → ℕ
number_of (Scheduler e) = sched.number_of e
number_of RingMemory = 9

abbrev pub values_of : Refusal → List ℕ
values_of (Scheduler e) = sched.values_of e
values_of RingMemory = []

-- a copy is refused with what the scheduler refuses, as it is
abbrev pub from_scheduler : scheduler.Refusal → Refusal
from_scheduler e = Scheduler e
