-- The paper's number of each refusal, and its extra values in the paper's order. A type is 0 for a read and 1 for a write.
use Rattle.std.specs.Prelude.{ℕ, List, [], ◌∷◌, length, get_or, take}
use Rattle.operations.specs.declared.operation.OperationType.{OperationType}
use Rattle.operations.specs.declared.operation.OperationType.TheVariants.{Read, Write}
use Rattle.operations.specs.declared.refusal.Refusal.{Refusal}
use Rattle.operations.specs.declared.refusal.Refusal.TheVariants.{ZeroBufferLength, BufferTooLarge, ItemsWrittenOutOfBounds, ItemsReadOutofBounds, DataAvailOutOfBounds, OperationTooLarge, OperationTooLong, InconsistentOperationType, HeldFillWrong}
use Rattle.operations.specs.declared.values.Values.{Values}

abbrev pub type_number : OperationType → ℕ
type_number Read = 0
type_number Write = 1

abbrev pub number_of : Refusal → ℕ
number_of ZeroBufferLength = 1
number_of (BufferTooLarge l) = 2
number_of (ItemsWrittenOutOfBounds l w) = 3
number_of (ItemsReadOutofBounds l r) = 4
number_of (DataAvailOutOfBounds l w r) = 5
number_of (OperationTooLarge t n greatest) = 6
number_of (OperationTooLong excess) = 7
number_of InconsistentOperationType = 8
number_of HeldFillWrong = 20

abbrev pub values_of : Refusal → List ℕ
values_of ZeroBufferLength = []
values_of (BufferTooLarge l) = l ∷ []
values_of (ItemsWrittenOutOfBounds l w) = l ∷ w.0 ∷ []
values_of (ItemsReadOutofBounds l r) = l ∷ r.0 ∷ []
values_of (DataAvailOutOfBounds l w r) = l ∷ w.0 ∷ r.0 ∷ []
values_of (OperationTooLarge t n greatest) = type_number t ∷ n ∷ greatest ∷ []
values_of (OperationTooLong excess) = excess ∷ []
values_of InconsistentOperationType = []
values_of HeldFillWrong = []

-- ---- a list of at most three numbers as a struct, and back
abbrev pub packed : List ℕ → Values
packed vs = record { len = length vs; a = get_or vs 0 0; b = get_or vs 1 0; c = get_or vs 2 0 }

abbrev pub unpacked : Values → List ℕ
unpacked v = take v.len (v.a ∷ v.b ∷ v.c ∷ [])
