-- What each public call says, in the order of the paper: whatever its attached contract allows is this definition of its
-- arguments. With specs/ these lines are what a reader must believe of this crate.
use mathlib.Core.List.{[], ◌∷◌}
use Rattle.modular.proofs.Saying.{Says}
use Rattle.operations.specs.Diff.{diff_of, is_same_of, is_different_of, old_value_of, new_value_of}
use Rattle.operations.specs.List.{sound_list_of, cumulative_length_of, cumulative_offsets_of, outside_ranges_of}
use Rattle.operations.specs.Operation.{operation_of, default_operation}
use Rattle.operations.specs.Portion.{portion_of}
use Rattle.operations.specs.Refusal.{type_number, number_of, values_of, packed}
use Rattle.operations.proofs.operation.ScheduledOperation.new.Kinds as ScheduledOperation-new-kinds
use Rattle.operations.proofs.operation.ScheduledOperation.new.Reads as ScheduledOperation-new
use Rattle.operations.proofs.operation.ScheduledOperationDefault.default.Kinds as default_kinds
use Rattle.operations.proofs.operation.ScheduledOperationDefault.default.Reads as default
use Rattle.operations.proofs.portion.portion_of.Kinds as portion_of_kinds
use Rattle.operations.proofs.portion.portion_of.Reads as portion_of_lem
use Rattle.operations.proofs.list.AtMostTwo+ScheduledOperation.try_new.Kinds as ScheduledOperations-try-new-kinds
use Rattle.operations.proofs.list.AtMostTwo+ScheduledOperation.try_new.Reads as ScheduledOperations-try-new
use Rattle.operations.proofs.list.AtMostTwo+ScheduledOperation.container.Kinds as container_kinds
use Rattle.operations.proofs.list.AtMostTwo+ScheduledOperation.container.Reads as container
use Rattle.operations.proofs.list.AtMostTwo+ScheduledOperation.into_container.Kinds as into_container_kinds
use Rattle.operations.proofs.list.AtMostTwo+ScheduledOperation.into_container.Reads as into_container
use Rattle.operations.proofs.list.AtMostTwo+ScheduledOperation.cumulative_operation_length.Kinds as cumulative_operation_length_kinds
use Rattle.operations.proofs.list.AtMostTwo+ScheduledOperation.cumulative_operation_length.Reads as cumulative_operation_length
use Rattle.operations.proofs.list.AtMostTwo+ScheduledOperation.with_cumulative_offset.Kinds as with_cumulative_offset_kinds
use Rattle.operations.proofs.list.AtMostTwo+ScheduledOperation.with_cumulative_offset.Reads as with_cumulative_offset
use Rattle.operations.proofs.list.AtMostTwo+ScheduledOperation.with_outside_buffer_range.Kinds as with_outside_buffer_range_kinds
use Rattle.operations.proofs.list.AtMostTwo+ScheduledOperation.with_outside_buffer_range.Reads as with_outside_buffer_range
use Rattle.operations.proofs.diff.Diff.new.Kinds as Diff-new-kinds
use Rattle.operations.proofs.diff.Diff.new.Reads as Diff-new
use Rattle.operations.proofs.diff.Diff.is_same.Kinds as is_same_kinds
use Rattle.operations.proofs.diff.Diff.is_same.Reads as is_same
use Rattle.operations.proofs.diff.Diff.is_different.Kinds as is_different_kinds
use Rattle.operations.proofs.diff.Diff.is_different.Reads as is_different
use Rattle.operations.proofs.diff.Diff.old_value.Kinds as old_value_kinds
use Rattle.operations.proofs.diff.Diff.old_value.Reads as old_value
use Rattle.operations.proofs.diff.Diff.new_value.Kinds as new_value_kinds
use Rattle.operations.proofs.diff.Diff.new_value.Reads as new_value
use Rattle.operations.proofs.operation.OperationType.number.Kinds as OperationType-number-kinds
use Rattle.operations.proofs.operation.OperationType.number.Reads as OperationType-number
use Rattle.operations.proofs.refusal.Refusal.number.Kinds as Refusal-number-kinds
use Rattle.operations.proofs.refusal.Refusal.number.Reads as Refusal-number
use Rattle.operations.proofs.refusal.Refusal.values.Kinds as values_kinds
use Rattle.operations.proofs.refusal.Refusal.values.Reads as values
use Rattle.operations.proofs.values.Values.none.Kinds as none_kinds
use Rattle.operations.proofs.values.Values.none.Reads as none
use Rattle.operations.proofs.values.Values.one.Kinds as one_kinds
use Rattle.operations.proofs.values.Values.one.Reads as one
use Rattle.operations.proofs.values.Values.two.Kinds as two_kinds
use Rattle.operations.proofs.values.Values.two.Reads as two
use Rattle.operations.proofs.values.Values.three.Kinds as three_kinds
use Rattle.operations.proofs.values.Values.three.Reads as three

pub ScheduledOperation-new-says : Says 0 ScheduledOperation-new-kinds.ps ScheduledOperation-new-kinds.r ScheduledOperation-new.Learnt (λ κs a. operation_of a.0 a.1.0 a.1.1.0)
ScheduledOperation-new-says κs a z ws p = p

pub default_says : Says 0 default_kinds.ps default_kinds.r default.Learnt (λ κs a. default_operation)
default_says κs a z ws p = p

pub portion_of_says : Says 0 portion_of_kinds.ps portion_of_kinds.r portion_of_lem.Learnt (λ κs a. portion_of a.0 a.1.0)
portion_of_says κs a z ws p = p

-- ---- the two-place list
pub ScheduledOperations-try-new-says : Says 0 ScheduledOperations-try-new-kinds.ps ScheduledOperations-try-new-kinds.r ScheduledOperations-try-new.Learnt (λ κs a. sound_list_of a.0)
ScheduledOperations-try-new-says κs a z ws p = p

pub container_says : Says 0 container_kinds.ps container_kinds.r container.Learnt (λ κs a. sound_list_of a.0)
container_says κs a z ws p = p

pub into_container_says : Says 0 into_container_kinds.ps into_container_kinds.r into_container.Learnt (λ κs a. sound_list_of a.0)
into_container_says κs a z ws p = p

pub cumulative_operation_length_says : Says 0 cumulative_operation_length_kinds.ps cumulative_operation_length_kinds.r cumulative_operation_length.Learnt (λ κs a. cumulative_length_of a.0)
cumulative_operation_length_says κs a z ws p = p

pub with_cumulative_offset_says : Says 0 with_cumulative_offset_kinds.ps with_cumulative_offset_kinds.r with_cumulative_offset.Learnt (λ κs a. cumulative_offsets_of a.0)
with_cumulative_offset_says κs a z ws p = p

pub with_outside_buffer_range_says : Says 0 with_outside_buffer_range_kinds.ps with_outside_buffer_range_kinds.r with_outside_buffer_range.Learnt (λ κs a. outside_ranges_of a.0)
with_outside_buffer_range_says κs a z ws p = p

-- ---- `Diff`
pub Diff-new-says : Says 0 Diff-new-kinds.ps Diff-new-kinds.r Diff-new.Learnt (λ κs a. diff_of a.0 a.1.0)
Diff-new-says κs a z ws p = p

pub is_same_says : Says 0 is_same_kinds.ps is_same_kinds.r is_same.Learnt (λ κs a. is_same_of a.0)
is_same_says κs a z ws p = p

pub is_different_says : Says 0 is_different_kinds.ps is_different_kinds.r is_different.Learnt (λ κs a. is_different_of a.0)
is_different_says κs a z ws p = p

pub old_value_says : Says 0 old_value_kinds.ps old_value_kinds.r old_value.Learnt (λ κs a. old_value_of a.0)
old_value_says κs a z ws p = p

pub new_value_says : Says 0 new_value_kinds.ps new_value_kinds.r new_value.Learnt (λ κs a. new_value_of a.0)
new_value_says κs a z ws p = p

-- ---- refusals in numbers
pub Refusal-number-says : Says 0 Refusal-number-kinds.ps Refusal-number-kinds.r Refusal-number.Learnt (λ κs a. number_of a.0)
Refusal-number-says κs a z ws p = p

pub values_says : Says 0 values_kinds.ps values_kinds.r values.Learnt (λ κs a. packed (values_of a.0))
values_says κs a z ws p = p

pub OperationType-number-says : Says 0 OperationType-number-kinds.ps OperationType-number-kinds.r OperationType-number.Learnt (λ κs a. type_number a.0)
OperationType-number-says κs a z ws p = p

pub none_says : Says 0 none_kinds.ps none_kinds.r none.Learnt (λ κs a. packed [])
none_says κs a z ws p = p

pub one_says : Says 0 one_kinds.ps one_kinds.r one.Learnt (λ κs a. packed (a.0 ∷ []))
one_says κs a z ws p = p

pub two_says : Says 0 two_kinds.ps two_kinds.r two.Learnt (λ κs a. packed (a.0 ∷ a.1.0 ∷ []))
two_says κs a z ws p = p

pub three_says : Says 0 three_kinds.ps three_kinds.r three.Learnt (λ κs a. packed (a.0 ∷ a.1.0 ∷ a.1.1.0 ∷ []))
three_says κs a z ws p = p
