-- Of the calls that tell a refusal in numbers: its number is the paper's, and never 0, which tells of none; its values are read back whole;
-- and of a violation in numbers, told and read back.
use Prim.Native.Nat.{ℕ, ◌<◌}
use mathlib.Core.Path.{◌≡◌, refl}
use native.Mathlib.Omega.{arith}
use Rattle.modular.proofs.Saying.{Keeps}
use Rattle.operations.specs.Refusal.{packed, unpacked}
use Rattle.operations.specs.Refusal as scheduler
use Rattle.copies.specs.Refusal as copy
use Rattle.copies.proofs.PromisedValues as copies
use Rattle.states.specs.declared.refusal.Refusal.{Refusal}
use Rattle.states.specs.declared.refusal.Refusal.TheVariants.{Copy, AnswerMissing, Misfit, PendingFull}
use Rattle.states.specs.Promise.{Behind, Numbered, violation_2, violation_5, ReadBack}
use Rattle.states.specs.Refusal.{number_of, values_of}
use Rattle.states.proofs.Rules.{behind_rule, numbered, read_back}
use Rattle.states.proofs.Says.{from_copy_says, from_scheduler_says, Refusal-number-says, values_says, of_header_says, of_body_says, Violation-number-says, overflow_says, of_number_says}
use Rattle.states.proofs.refusal.RefusalFromCopiesRefusal.from.Kinds as from_copy_kinds
use Rattle.states.proofs.refusal.RefusalFromCopiesRefusal.from.Reads as from_copy
use Rattle.states.proofs.refusal.RefusalFromSchedRefusal.from.Kinds as from_scheduler_kinds
use Rattle.states.proofs.refusal.RefusalFromSchedRefusal.from.Reads as from_scheduler
use Rattle.states.proofs.refusal.Refusal.number.Kinds as Refusal-number-kinds
use Rattle.states.proofs.refusal.Refusal.number.Reads as Refusal-number
use Rattle.states.proofs.refusal.Refusal.values.Kinds as values_kinds
use Rattle.states.proofs.refusal.Refusal.values.Reads as values
use Rattle.states.proofs.state.Violation.number.Kinds as Violation-number-kinds
use Rattle.states.proofs.state.Violation.number.Reads as Violation-number
use Rattle.states.proofs.state.Violation.of_header.Kinds as of_header_kinds
use Rattle.states.proofs.state.Violation.of_header.Reads as of_header
use Rattle.states.proofs.state.Violation.of_body.Kinds as of_body_kinds
use Rattle.states.proofs.state.Violation.of_body.Reads as of_body
use Rattle.states.proofs.state.Violation.overflow.Kinds as overflow_kinds
use Rattle.states.proofs.state.Violation.overflow.Reads as overflow
use Rattle.states.proofs.state.Violation.of_number.Kinds as of_number_kinds
use Rattle.states.proofs.state.Violation.of_number.Reads as of_number

pub number_of_lem : (r : Refusal) → 0 < number_of r
number_of_lem (Copy e) = copies.number_some e
number_of_lem AnswerMissing = omega arith
number_of_lem (Misfit place) = omega arith
number_of_lem PendingFull = omega arith

pub values_back : (e : Refusal) → unpacked (packed (values_of e)) ≡ values_of e
values_back (Copy e) = copies.values_back e
values_back AnswerMissing = refl
values_back (Misfit place) = refl
values_back PendingFull = refl

pub number_promised : Keeps 0 Refusal-number-kinds.ps Refusal-number-kinds.r Refusal-number.Learnt (λ κs a z. (z ≡ number_of a.0) × (0 < z))
number_promised κs a z q = rw (Refusal-number-says κs a z q.0 q.1) (refl, number_of_lem a.0)

pub values_promised : Keeps 0 values_kinds.ps values_kinds.r values.Learnt (λ κs a z. unpacked z ≡ values_of a.0)
values_promised κs a z q = rw (values_says κs a z q.0 q.1) (values_back a.0)

-- a refusal of a copy or of the scheduler keeps both
pub from_copy_promised : Keeps 0 from_copy_kinds.ps from_copy_kinds.r from_copy.Learnt (λ κs a z. (number_of z ≡ copy.number_of a.0) × (values_of z ≡ copy.values_of a.0))
from_copy_promised κs a z q = rw (from_copy_says κs a z q.0 q.1) (refl, refl)

pub from_scheduler_promised : Keeps 0 from_scheduler_kinds.ps from_scheduler_kinds.r from_scheduler.Learnt (λ κs a z. (number_of z ≡ scheduler.number_of a.0) × (values_of z ≡ scheduler.values_of a.0))
from_scheduler_promised κs a z q = rw (from_scheduler_says κs a z q.0 q.1) (refl, refl)

-- which part has no room: 8 bytes of L, or so many of what the header leaves
pub of_header_promised : Keeps 0 of_header_kinds.ps of_header_kinds.r of_header.Learnt (λ κs a z. Numbered z 2 8 a.0)
of_header_promised κs a z q = rw (of_header_says κs a z q.0 q.1) violation_2

pub of_body_promised : Keeps 0 of_body_kinds.ps of_body_kinds.r of_body.Learnt (λ κs a z. (room : ℕ) × Numbered z 5 a.1.0 room × Behind a.0 room)
of_body_promised κs a z q = rw (of_body_says κs a z q.0 q.1) (_, violation_5, behind_rule a.0)

pub violation_promised : Keeps 0 Violation-number-kinds.ps Violation-number-kinds.r Violation-number.Learnt (λ κs a z. (needed : ℕ) × (room : ℕ) × Numbered a.0 z needed room)
violation_promised κs a z q = rw (Violation-number-says κs a z q.0 q.1) (_, _, numbered a.0)

pub overflow_promised : Keeps 0 overflow_kinds.ps overflow_kinds.r overflow.Learnt (λ κs a z. (k : ℕ) × Numbered a.0 k z.needed z.room)
overflow_promised κs a z q = rw (overflow_says κs a z q.0 q.1) (_, numbered a.0)

pub of_number_promised : Keeps 0 of_number_kinds.ps of_number_kinds.r of_number.Learnt (λ κs a z. ReadBack a.1.0.needed a.1.0.room a.0 z)
of_number_promised κs a z q = rw (of_number_says κs a z q.0 q.1) (read_back a.0 a.1.0)
