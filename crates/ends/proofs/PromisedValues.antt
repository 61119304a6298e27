-- Of the calls that tell a refusal in numbers: its number is the paper's, and never 0, which tells of none; its values are read back whole.
use Prim.Native.Nat.{◌<◌}
use mathlib.Core.Path.{◌≡◌, refl}
use native.Mathlib.Omega.{arith}
use Rattle.modular.proofs.Saying.{Keeps}
use Rattle.operations.specs.Refusal.{packed, unpacked}
use Rattle.operations.specs.Refusal as scheduler
use Rattle.copies.specs.Refusal as copy
use Rattle.copies.proofs.PromisedValues as copies
use Rattle.ends.specs.declared.refusal.Refusal.{Refusal}
use Rattle.ends.specs.declared.refusal.Refusal.TheVariants.{Copy, RanBack}
use Rattle.ends.specs.Refusal.{number_of, values_of}
use Rattle.ends.proofs.Says.{from_copy_says, from_scheduler_says, Refusal-number-says, values_says}
use Rattle.ends.proofs.refusal.RefusalFromCopiesRefusal.from.Kinds as from_copy_kinds
use Rattle.ends.proofs.refusal.RefusalFromCopiesRefusal.from.Reads as from_copy
use Rattle.ends.proofs.refusal.RefusalFromSchedRefusal.from.Kinds as from_scheduler_kinds
use Rattle.ends.proofs.refusal.RefusalFromSchedRefusal.from.Reads as from_scheduler
use Rattle.ends.proofs.refusal.Refusal.number.Kinds as Refusal-number-kinds
use Rattle.ends.proofs.refusal.Refusal.number.Reads as Refusal-number
use Rattle.ends.proofs.refusal.Refusal.values.Kinds as values_kinds
use Rattle.ends.proofs.refusal.Refusal.values.Reads as values

pub number_some : (e : Refusal) → 0 < number_of e
number_some (Copy e) = copies.number_some e
number_some RanBack = omega arith

pub values_back : (e : Refusal) → unpacked (packed (values_of e)) ≡ values_of e
values_back (Copy e) = copies.values_back e
values_back RanBack = refl

pub number_promised : Keeps 0 Refusal-number-kinds.ps Refusal-number-kinds.r Refusal-number.Learnt (λ κs a z. (z ≡ number_of a.0) × (0 < z))
number_promised κs a z q = rw (Refusal-number-says κs a z q.0 q.1) (refl, number_some a.0)

pub values_promised : Keeps 0 values_kinds.ps values_kinds.r values.Learnt (λ κs a z. unpacked z ≡ values_of a.0)
values_promised κs a z q = rw (values_says κs a z q.0 q.1) (values_back a.0)

-- a refusal of a copy or of the scheduler keeps both
pub from_copy_promised : Keeps 0 from_copy_kinds.ps from_copy_kinds.r from_copy.Learnt (λ κs a z. (number_of z ≡ copy.number_of a.0) × (values_of z ≡ copy.values_of a.0))
from_copy_promised κs a z q = rw (from_copy_says κs a z q.0 q.1) (refl, refl)

pub from_scheduler_promised : Keeps 0 from_scheduler_kinds.ps from_scheduler_kinds.r from_scheduler.Learnt (λ κs a z. (number_of z ≡ scheduler.number_of a.0) × (values_of z ≡ scheduler.values_of a.0))
from_scheduler_promised κs a z q = rw (from_scheduler_says κs a z q.0 q.1) (refl, refl)
