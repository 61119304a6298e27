-- What each export of the lists, operations, blocks, differences and moduli says, in the order of the C header; see SaysEnds.antt.
use Prim.Native.Nat.{◌%◌}
use Rattle.modular.proofs.Saying.{Says}
use Rattle.modular.specs.Modulus.{add_mod, contains_of, double_at, full_range, is_full_range_of, modulus_of, neg_mod, sub_mod, try_new_number_of, try_new_of, whole_of}
use Rattle.sched.specs.Block.{block_of}
use Rattle.operations.specs.Diff.{diff_of, is_different_of, is_same_of, new_value_of, old_value_of}
use Rattle.operations.specs.List.{cumulative_length_of, cumulative_offsets_of, outside_ranges_of, sound_list_of}
use Rattle.operations.specs.Operation.{default_operation, operation_of}
use Rattle.flat.specs.Block.{bit_at, block_type_at, flat_block}
use Rattle.flat.specs.Counter.{flat_amount}
use Rattle.flat.specs.Diff.{diff_at, flat_diff}
use Rattle.flat.specs.List.{flat_operations_answer, flat_ranges_answer, flat_starts_answer, operations_at}
use Rattle.flat.specs.Modulus.{flat_modulus, flat_number, modulus_at}
use Rattle.flat.specs.Operation.{flat_operation, type_at}
use Rattle.stripring.proofs.list.stripring_operations_try_new.Kinds as operations_try_new_kinds
use Rattle.stripring.proofs.list.stripring_operations_try_new.Reads as operations_try_new
use Rattle.stripring.proofs.list.stripring_operations_container.Kinds as operations_container_kinds
use Rattle.stripring.proofs.list.stripring_operations_container.Reads as operations_container
use Rattle.stripring.proofs.list.stripring_operations_into_container.Kinds as operations_into_container_kinds
use Rattle.stripring.proofs.list.stripring_operations_into_container.Reads as operations_into_container
use Rattle.stripring.proofs.list.stripring_operations_cumulative_operation_length.Kinds as operations_cumulative_operation_length_kinds
use Rattle.stripring.proofs.list.stripring_operations_cumulative_operation_length.Reads as operations_cumulative_operation_length
use Rattle.stripring.proofs.list.stripring_operations_with_cumulative_offset.Kinds as operations_with_cumulative_offset_kinds
use Rattle.stripring.proofs.list.stripring_operations_with_cumulative_offset.Reads as operations_with_cumulative_offset
use Rattle.stripring.proofs.list.stripring_operations_with_outside_buffer_range.Kinds as operations_with_outside_buffer_range_kinds
use Rattle.stripring.proofs.list.stripring_operations_with_outside_buffer_range.Reads as operations_with_outside_buffer_range
use Rattle.stripring.proofs.operation.stripring_operation_new.Kinds as operation_new_kinds
use Rattle.stripring.proofs.operation.stripring_operation_new.Reads as operation_new
use Rattle.stripring.proofs.operation.stripring_operation_default.Kinds as operation_default_kinds
use Rattle.stripring.proofs.operation.stripring_operation_default.Reads as operation_default
use Rattle.stripring.proofs.block.stripring_block_new.Kinds as block_new_kinds
use Rattle.stripring.proofs.block.stripring_block_new.Reads as block_new
use Rattle.stripring.proofs.diff.stripring_diff_new.Kinds as diff_new_kinds
use Rattle.stripring.proofs.diff.stripring_diff_new.Reads as diff_new
use Rattle.stripring.proofs.diff.stripring_diff_is_same.Kinds as diff_is_same_kinds
use Rattle.stripring.proofs.diff.stripring_diff_is_same.Reads as diff_is_same
use Rattle.stripring.proofs.diff.stripring_diff_is_different.Kinds as diff_is_different_kinds
use Rattle.stripring.proofs.diff.stripring_diff_is_different.Reads as diff_is_different
use Rattle.stripring.proofs.diff.stripring_diff_old_value.Kinds as diff_old_value_kinds
use Rattle.stripring.proofs.diff.stripring_diff_old_value.Reads as diff_old_value
use Rattle.stripring.proofs.diff.stripring_diff_new_value.Kinds as diff_new_value_kinds
use Rattle.stripring.proofs.diff.stripring_diff_new_value.Reads as diff_new_value
use Rattle.stripring.proofs.modulus.stripring_modulus_new_full_range.Kinds as modulus_new_full_range_kinds
use Rattle.stripring.proofs.modulus.stripring_modulus_new_full_range.Reads as modulus_new_full_range
use Rattle.stripring.proofs.modulus.stripring_modulus_try_new.Kinds as modulus_try_new_kinds
use Rattle.stripring.proofs.modulus.stripring_modulus_try_new.Reads as modulus_try_new
use Rattle.stripring.proofs.modulus.stripring_modulus_is_full_range.Kinds as modulus_is_full_range_kinds
use Rattle.stripring.proofs.modulus.stripring_modulus_is_full_range.Reads as modulus_is_full_range
use Rattle.stripring.proofs.modulus.stripring_modulus_modulus.Kinds as modulus_modulus_kinds
use Rattle.stripring.proofs.modulus.stripring_modulus_modulus.Reads as modulus_modulus
use Rattle.stripring.proofs.modulus.stripring_modulus_contains.Kinds as modulus_contains_kinds
use Rattle.stripring.proofs.modulus.stripring_modulus_contains.Reads as modulus_contains
use Rattle.stripring.proofs.modulus.stripring_modulus_double.Kinds as modulus_double_kinds
use Rattle.stripring.proofs.modulus.stripring_modulus_double.Reads as modulus_double
use Rattle.stripring.proofs.modulus.stripring_modulus_new_number.Kinds as modulus_new_number_kinds
use Rattle.stripring.proofs.modulus.stripring_modulus_new_number.Reads as modulus_new_number
use Rattle.stripring.proofs.modulus.stripring_modulus_try_new_number.Kinds as modulus_try_new_number_kinds
use Rattle.stripring.proofs.modulus.stripring_modulus_try_new_number.Reads as modulus_try_new_number
use Rattle.stripring.proofs.modulus.stripring_modulus_neg.Kinds as modulus_neg_kinds
use Rattle.stripring.proofs.modulus.stripring_modulus_neg.Reads as modulus_neg
use Rattle.stripring.proofs.modulus.stripring_modulus_sub.Kinds as modulus_sub_kinds
use Rattle.stripring.proofs.modulus.stripring_modulus_sub.Reads as modulus_sub
use Rattle.stripring.proofs.modulus.stripring_modulus_add.Kinds as modulus_add_kinds
use Rattle.stripring.proofs.modulus.stripring_modulus_add.Reads as modulus_add

-- ---- lists, operations and blocks
pub operations_try_new_says : Says 0 operations_try_new_kinds.ps operations_try_new_kinds.r operations_try_new.Learnt (λ κs a. flat_operations_answer (sound_list_of (operations_at a.0)))
operations_try_new_says κs a z ws p = p

pub operations_container_says : Says 0 operations_container_kinds.ps operations_container_kinds.r operations_container.Learnt (λ κs a. flat_operations_answer (sound_list_of (operations_at a.0)))
operations_container_says κs a z ws p = p

pub operations_into_container_says : Says 0 operations_into_container_kinds.ps operations_into_container_kinds.r operations_into_container.Learnt (λ κs a. flat_operations_answer (sound_list_of (operations_at a.0)))
operations_into_container_says κs a z ws p = p

pub operations_cumulative_operation_length_says : Says 0 operations_cumulative_operation_length_kinds.ps operations_cumulative_operation_length_kinds.r operations_cumulative_operation_length.Learnt (λ κs a. flat_amount (cumulative_length_of (operations_at a.0)))
operations_cumulative_operation_length_says κs a z ws p = p

pub operations_with_cumulative_offset_says : Says 0 operations_with_cumulative_offset_kinds.ps operations_with_cumulative_offset_kinds.r operations_with_cumulative_offset.Learnt (λ κs a. flat_starts_answer (cumulative_offsets_of (operations_at a.0)))
operations_with_cumulative_offset_says κs a z ws p = p

pub operations_with_outside_buffer_range_says : Says 0 operations_with_outside_buffer_range_kinds.ps operations_with_outside_buffer_range_kinds.r operations_with_outside_buffer_range.Learnt (λ κs a. flat_ranges_answer (outside_ranges_of (operations_at a.0)))
operations_with_outside_buffer_range_says κs a z ws p = p

pub operation_new_says : Says 0 operation_new_kinds.ps operation_new_kinds.r operation_new.Learnt (λ κs a. flat_operation (operation_of (type_at a.0) (record { 0 = a.1.0 }) a.1.1.0))
operation_new_says κs a z ws p = p

pub operation_default_says : Says 0 operation_default_kinds.ps operation_default_kinds.r operation_default.Learnt (λ κs a. flat_operation default_operation)
operation_default_says κs a z ws p = p

pub block_new_says : Says 0 block_new_kinds.ps block_new_kinds.r block_new.Learnt (λ κs a. flat_block (block_of (block_type_at a.0) (bit_at a.1.0) (record { 0 = a.1.1.0 }) a.1.1.1.0))
block_new_says κs a z ws p = p

-- ---- differences
pub diff_new_says : Says 0 diff_new_kinds.ps diff_new_kinds.r diff_new.Learnt (λ κs a. flat_diff (diff_of a.0 a.1.0))
diff_new_says κs a z ws p = p

pub diff_is_same_says : Says 0 diff_is_same_kinds.ps diff_is_same_kinds.r diff_is_same.Learnt (λ κs a. is_same_of (diff_at a.0))
diff_is_same_says κs a z ws p = p

pub diff_is_different_says : Says 0 diff_is_different_kinds.ps diff_is_different_kinds.r diff_is_different.Learnt (λ κs a. is_different_of (diff_at a.0))
diff_is_different_says κs a z ws p = p

pub diff_old_value_says : Says 0 diff_old_value_kinds.ps diff_old_value_kinds.r diff_old_value.Learnt (λ κs a. old_value_of (diff_at a.0))
diff_old_value_says κs a z ws p = p

pub diff_new_value_says : Says 0 diff_new_value_kinds.ps diff_new_value_kinds.r diff_new_value.Learnt (λ κs a. new_value_of (diff_at a.0))
diff_new_value_says κs a z ws p = p

-- ---- moduli
pub modulus_new_full_range_says : Says 0 modulus_new_full_range_kinds.ps modulus_new_full_range_kinds.r modulus_new_full_range.Learnt (λ κs a. full_range.0)
modulus_new_full_range_says κs a z ws p = p

pub modulus_try_new_says : Says 0 modulus_try_new_kinds.ps modulus_try_new_kinds.r modulus_try_new.Learnt (λ κs a. flat_modulus (try_new_of a.0))
modulus_try_new_says κs a z ws p = p

pub modulus_is_full_range_says : Says 0 modulus_is_full_range_kinds.ps modulus_is_full_range_kinds.r modulus_is_full_range.Learnt (λ κs a. is_full_range_of (modulus_at a.0))
modulus_is_full_range_says κs a z ws p = p

pub modulus_modulus_says : Says 0 modulus_modulus_kinds.ps modulus_modulus_kinds.r modulus_modulus.Learnt (λ κs a. flat_number (modulus_of (modulus_at a.0)))
modulus_modulus_says κs a z ws p = p

pub modulus_contains_says : Says 0 modulus_contains_kinds.ps modulus_contains_kinds.r modulus_contains.Learnt (λ κs a. contains_of (modulus_at a.0) a.1.0)
modulus_contains_says κs a z ws p = p

pub modulus_double_says : Says 0 modulus_double_kinds.ps modulus_double_kinds.r modulus_double.Learnt (λ κs a. flat_modulus (double_at 64 (modulus_at a.0)))
modulus_double_says κs a z ws p = p

pub modulus_new_number_says : Says 0 modulus_new_number_kinds.ps modulus_new_number_kinds.r modulus_new_number.Learnt (λ κs a. a.1.0 % whole_of (modulus_at a.0))
modulus_new_number_says κs a z ws p = p

pub modulus_try_new_number_says : Says 0 modulus_try_new_number_kinds.ps modulus_try_new_number_kinds.r modulus_try_new_number.Learnt (λ κs a. flat_number (try_new_number_of (modulus_at a.0) a.1.0))
modulus_try_new_number_says κs a z ws p = p

pub modulus_neg_says : Says 0 modulus_neg_kinds.ps modulus_neg_kinds.r modulus_neg.Learnt (λ κs a. neg_mod (whole_of (modulus_at a.0)) a.1.0)
modulus_neg_says κs a z ws p = p

pub modulus_sub_says : Says 0 modulus_sub_kinds.ps modulus_sub_kinds.r modulus_sub.Learnt (λ κs a. sub_mod (whole_of (modulus_at a.0)) a.1.0 a.1.1.0)
modulus_sub_says κs a z ws p = p

pub modulus_add_says : Says 0 modulus_add_kinds.ps modulus_add_kinds.r modulus_add.Learnt (λ κs a. add_mod (whole_of (modulus_at a.0)) a.1.0 a.1.1.0)
modulus_add_says κs a z ws p = p
