-- Of the calls that tell a refusal in numbers: its number is the paper's, and never 0, which tells of none; its values are read back whole.
use Prim.Native.Nat.{◌<◌}
use mathlib.Core.Path.{◌≡◌, refl}
use native.Mathlib.Omega.{arith}
use Rattle.modular.proofs.Saying.{Keeps}
use Rattle.operations.specs.Refusal.{packed, unpacked}
use Rattle.operations.specs.Refusal as sched
use Rattle.operations.proofs.Given as operations
use Rattle.operations.proofs.PromisedValues as operations_values
use Rattle.planner.specs.declared.refusal.Refusal.{Refusal}
use Rattle.planner.specs.declared.refusal.Refusal.TheVariants.{Scheduler, SizeOutOfBounds, NoPlan, EmptyRun, RunOutOfPlace, RunTooLong, RowsLeft, PlanTooShort}
use Rattle.planner.specs.Refusal.{number_of, values_of}
use Rattle.planner.proofs.Says.{from_scheduler_says, number_says, values_says}
use Rattle.planner.proofs.refusal.RefusalFromSchedRefusal.from.Kinds as from_scheduler_kinds
use Rattle.planner.proofs.refusal.RefusalFromSchedRefusal.from.Reads as from_scheduler
use Rattle.planner.proofs.refusal.Refusal.number.Kinds as number_kinds
use Rattle.planner.proofs.refusal.Refusal.number.Reads as number
use Rattle.planner.proofs.refusal.Refusal.values.Kinds as values_kinds
use Rattle.planner.proofs.refusal.Refusal.values.Reads as values

pub number_some : (e : Refusal) → 0 < number_of e
number_some (Scheduler e) = operations.number_some e
number_some (SizeOutOfBounds rows bytes) = omega arith
number_some (NoPlan bytes L) = omega arith
number_some (EmptyRun k) = omega arith
number_some (RunOutOfPlace k) = omega arith
number_some (RunTooLong k) = omega arith
number_some (RowsLeft row) = omega arith
number_some (PlanTooShort needed lent) = omega arith

pub values_back : (e : Refusal) → unpacked (packed (values_of e)) ≡ values_of e
values_back (Scheduler e) = operations_values.values_back e
values_back (SizeOutOfBounds rows bytes) = refl
values_back (NoPlan bytes L) = refl
values_back (EmptyRun k) = refl
values_back (RunOutOfPlace k) = refl
values_back (RunTooLong k) = refl
values_back (RowsLeft row) = refl
values_back (PlanTooShort needed lent) = refl

pub number_promised : Keeps 0 number_kinds.ps number_kinds.r number.Learnt (λ κs a z. (z ≡ number_of a.0) × (0 < z))
number_promised κs a z q = rw (number_says κs a z q.0 q.1) (refl, number_some a.0)

pub values_promised : Keeps 0 values_kinds.ps values_kinds.r values.Learnt (λ κs a z. unpacked z ≡ values_of a.0)
values_promised κs a z q = rw (values_says κs a z q.0 q.1) (values_back a.0)

-- a refusal of the scheduler keeps both
pub from_scheduler_promised : Keeps 0 from_scheduler_kinds.ps from_scheduler_kinds.r from_scheduler.Learnt (λ κs a z. (number_of z ≡ sched.number_of a.0) × (values_of z ≡ sched.values_of a.0))
from_scheduler_promised κs a z q = rw (from_scheduler_says κs a z q.0 q.1) (refl, refl)
