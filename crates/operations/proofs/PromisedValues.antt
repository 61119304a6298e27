-- Of the calls that tell a refusal in numbers: its number is the paper's, and never 0, which tells of none; its values are read back whole.
use Prim.Native.Nat.{◌<◌}
use mathlib.Core.Path.{◌≡◌, refl}
use mathlib.Core.List.{[], ◌∷◌}
use Rattle.modular.proofs.Saying.{Keeps}
use Rattle.operations.specs.declared.refusal.Refusal.{Refusal}
use Rattle.operations.specs.declared.refusal.Refusal.TheVariants.{ZeroBufferLength, BufferTooLarge, ItemsWrittenOutOfBounds, ItemsReadOutofBounds, DataAvailOutOfBounds, OperationTooLarge, OperationTooLong, InconsistentOperationType, HeldFillWrong}
use Rattle.operations.specs.Given.{TypeNumber}
use Rattle.operations.specs.Refusal.{number_of, values_of, packed, unpacked}
use Rattle.operations.proofs.Given.{number_some, type_number_lem}
use Rattle.operations.proofs.Says.{OperationType-number-says, Refusal-number-says, values_says, none_says, one_says, two_says, three_says}
use Rattle.operations.proofs.operation.OperationType.number.Kinds as OperationType-number-kinds
use Rattle.operations.proofs.operation.OperationType.number.Reads as OperationType-number
use Rattle.operations.proofs.refusal.Refusal.number.Kinds as Refusal-number-kinds
use Rattle.operations.proofs.refusal.Refusal.number.Reads as Refusal-number
use Rattle.operations.proofs.refusal.Refusal.values.Kinds as values_kinds
use Rattle.operations.proofs.refusal.Refusal.values.Reads as values
use Rattle.operations.proofs.values.Values.none.Kinds as none_kinds
use Rattle.operations.proofs.values.Values.none.Reads as none
use Rattle.operations.proofs.values.Values.one.Kinds as one_kinds
use Rattle.operations.proofs.values.Values.one.Reads as one
use Rattle.operations.proofs.values.Values.two.Kinds as two_kinds
use Rattle.operations.proofs.values.Values.two.Reads as two
use Rattle.operations.proofs.values.Values.three.Kinds as three_kinds
use Rattle.operations.proofs.values.Values.three.Reads as three

-- no refusal has more than three values
pub values_back : (e : Refusal) → unpacked (packed (values_of e)) ≡ values_of e
values_back ZeroBufferLength = refl
values_back (BufferTooLarge l) = refl
values_back (ItemsWrittenOutOfBounds l w) = refl
values_back (ItemsReadOutofBounds l r) = refl
values_back (DataAvailOutOfBounds l w r) = refl
values_back (OperationTooLarge t n greatest) = refl
values_back (OperationTooLong excess) = refl
values_back InconsistentOperationType = refl
values_back HeldFillWrong = refl

pub number_promised : Keeps 0 Refusal-number-kinds.ps Refusal-number-kinds.r Refusal-number.Learnt (λ κs a z. (z ≡ number_of a.0) × (0 < z))
number_promised κs a z q = rw (Refusal-number-says κs a z q.0 q.1) (refl, number_some a.0)

pub values_promised : Keeps 0 values_kinds.ps values_kinds.r values.Learnt (λ κs a z. unpacked z ≡ values_of a.0)
values_promised κs a z q = rw (values_says κs a z q.0 q.1) (values_back a.0)

pub type_number_promised : Keeps 0 OperationType-number-kinds.ps OperationType-number-kinds.r OperationType-number.Learnt (λ κs a z. TypeNumber a.0 z)
type_number_promised κs a z q = rw (OperationType-number-says κs a z q.0 q.1) (type_number_lem a.0)

-- ---- values that are put together
pub none_promised : Keeps 0 none_kinds.ps none_kinds.r none.Learnt (λ κs a z. unpacked z ≡ [])
none_promised κs a z q = rw (none_says κs a z q.0 q.1)

pub one_promised : Keeps 0 one_kinds.ps one_kinds.r one.Learnt (λ κs a z. unpacked z ≡ a.0 ∷ [])
one_promised κs a z q = rw (one_says κs a z q.0 q.1)

pub two_promised : Keeps 0 two_kinds.ps two_kinds.r two.Learnt (λ κs a z. unpacked z ≡ a.0 ∷ a.1.0 ∷ [])
two_promised κs a z q = rw (two_says κs a z q.0 q.1)

pub three_promised : Keeps 0 three_kinds.ps three_kinds.r three.Learnt (λ κs a z. unpacked z ≡ a.0 ∷ a.1.0 ∷ a.1.1.0 ∷ [])
three_promised κs a z q = rw (three_says κs a z q.0 q.1)
