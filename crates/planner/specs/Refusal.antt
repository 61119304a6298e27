-- The paper's number of a refusal, and the values that it carries.
use Rattle.std.specs.Prelude.{ℕ, List, [], ◌∷◌}
use Rattle.operations.specs.declared.refusal.Refusal as scheduler
use Rattle.operations.specs.Refusal as sched
use Rattle.planner.specs.declared.refusal.Refusal.{Refusal}
use Rattle.planner.specs.declared.refusal.Refusal.TheVariants.{Scheduler, SizeOutOfBounds, NoPlan, EmptyRun, RunOutOfPlace, RunTooLong, RowsLeft, PlanTooShort}

abbrev pub number_of : Refusal → ℕ
number_of (Scheduler e) = sched.number_of e
number_of (SizeOutOfBounds rows bytes) = 14
number_of (NoPlan bytes L) = 15
number_of (EmptyRun k) = 16
number_of (RunOutOfPlace k) = 17
number_of (RunTooLong k) = 18
number_of (RowsLeft at) = 19
number_of (PlanTooShort needed lent) = 39

-- runs are counted from 0
abbrev pub values_of : Refusal → List ℕ
values_of (Scheduler e) = sched.values_of e
values_of (SizeOutOfBounds rows bytes) = rows ∷ bytes ∷ []
values_of (NoPlan bytes L) = bytes ∷ L ∷ []
values_of (EmptyRun k) = k ∷ []
values_of (RunOutOfPlace k) = k ∷ []
values_of (RunTooLong k) = k ∷ []
values_of (RowsLeft at) = at ∷ []
values_of (PlanTooShort needed lent) = needed ∷ lent ∷ []

-- the planner refuses with what the scheduler refuses, as it is
abbrev pub from_scheduler : scheduler.Refusal → Refusal
from_scheduler e = Scheduler e
