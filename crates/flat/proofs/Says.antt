-- What each conversion says: whatever its attached contract allows is this definition of its arguments.
use Rattle.modular.proofs.Saying.{Says}
use Rattle.flat.specs.Block.{bit_at, block_type_at, flat_block, flat_block_answer, flat_blocks, flat_fill_state, flat_layout}
use Rattle.flat.specs.Call.{call_at, flat_step}
use Rattle.flat.specs.Copy.{flat_copied}
use Rattle.flat.specs.Counter.{flat_amount, flat_bool, flat_counter, flat_offset}
use Rattle.flat.specs.Diff.{diff_at, flat_diff}
use Rattle.flat.specs.Failure.{failure_at, flat_failure_answer, flat_potential_failure, potential_failure_at}
use Rattle.flat.specs.Flat.{flat_end_refusal, no_refusal}
use Rattle.flat.specs.List.{flat_operations_answer, flat_schedule, flat_ranges_answer, flat_starts_answer, operations_at}
use Rattle.flat.specs.Modulus.{flat_modulus, flat_number}
use Rattle.flat.specs.Operation.{flat_next, flat_operation, operation_at, type_at}
use Rattle.flat.specs.ReadingEnd.{flat_got, flat_read_counter, flat_reading_end, flat_reading_end_answer, read_counter_at, reading_end_at}
use Rattle.flat.specs.Receiver.{flat_ended, flat_receiver_answer, receiver_at}
use Rattle.flat.specs.Scheduler.{flat_checked, scheduler_at}
use Rattle.flat.specs.State.{flat_state_answer, state_at}
use Rattle.flat.specs.WritingEnd.{flat_writing_end, flat_writing_end_answer, flat_written_counter, flat_wrote, writing_end_at, written_counter_at}
use Rattle.flat.proofs.block.block_type.Kinds as block_type_kinds
use Rattle.flat.proofs.block.block_type.Reads as block_type
use Rattle.flat.proofs.block.bit.Kinds as bit_kinds
use Rattle.flat.proofs.block.bit.Reads as bit
use Rattle.flat.proofs.block.flat_block.Kinds as flat_block_kinds
use Rattle.flat.proofs.block.flat_block.Reads as flat_block_lem
use Rattle.flat.proofs.block.flat_block_answer.Kinds as flat_block_answer_kinds
use Rattle.flat.proofs.block.flat_block_answer.Reads as flat_block_answer_lem
use Rattle.flat.proofs.block.flat_blocks.Kinds as flat_blocks_kinds
use Rattle.flat.proofs.block.flat_blocks.Reads as flat_blocks_lem
use Rattle.flat.proofs.block.flat_layout.Kinds as flat_layout_kinds
use Rattle.flat.proofs.block.flat_layout.Reads as flat_layout_lem
use Rattle.flat.proofs.block.flat_fill_state.Kinds as flat_fill_state_kinds
use Rattle.flat.proofs.block.flat_fill_state.Reads as flat_fill_state_lem
use Rattle.flat.proofs.call.call.Kinds as call_kinds
use Rattle.flat.proofs.call.call.Reads as call
use Rattle.flat.proofs.call.flat_step.Kinds as flat_step_kinds
use Rattle.flat.proofs.call.flat_step.Reads as flat_step_lem
use Rattle.flat.proofs.copy.flat_copied.Kinds as flat_copied_kinds
use Rattle.flat.proofs.copy.flat_copied.Reads as flat_copied_lem
use Rattle.flat.proofs.counter.flat_counter.Kinds as flat_counter_kinds
use Rattle.flat.proofs.counter.flat_counter.Reads as flat_counter_lem
use Rattle.flat.proofs.counter.flat_offset.Kinds as flat_offset_kinds
use Rattle.flat.proofs.counter.flat_offset.Reads as flat_offset_lem
use Rattle.flat.proofs.counter.flat_amount.Kinds as flat_amount_kinds
use Rattle.flat.proofs.counter.flat_amount.Reads as flat_amount_lem
use Rattle.flat.proofs.counter.flat_bool.Kinds as flat_bool_kinds
use Rattle.flat.proofs.counter.flat_bool.Reads as flat_bool_lem
use Rattle.flat.proofs.diff.diff.Kinds as diff_kinds
use Rattle.flat.proofs.diff.diff.Reads as diff
use Rattle.flat.proofs.diff.flat_diff.Kinds as flat_diff_kinds
use Rattle.flat.proofs.diff.flat_diff.Reads as flat_diff_lem
use Rattle.flat.proofs.failure.failure.Kinds as failure_kinds
use Rattle.flat.proofs.failure.failure.Reads as failure
use Rattle.flat.proofs.failure.potential_failure.Kinds as potential_failure_kinds
use Rattle.flat.proofs.failure.potential_failure.Reads as potential_failure
use Rattle.flat.proofs.failure.flat_failure_answer.Kinds as flat_failure_answer_kinds
use Rattle.flat.proofs.failure.flat_failure_answer.Reads as flat_failure_answer_lem
use Rattle.flat.proofs.failure.flat_potential_failure.Kinds as flat_potential_failure_kinds
use Rattle.flat.proofs.failure.flat_potential_failure.Reads as flat_potential_failure_lem
use Rattle.flat.proofs.list.operations.Kinds as operations_kinds
use Rattle.flat.proofs.list.operations.Reads as operations
use Rattle.flat.proofs.list.flat_schedule.Kinds as flat_schedule_kinds
use Rattle.flat.proofs.list.flat_schedule.Reads as flat_schedule_lem
use Rattle.flat.proofs.list.flat_operations_answer.Kinds as flat_operations_answer_kinds
use Rattle.flat.proofs.list.flat_operations_answer.Reads as flat_operations_answer_lem
use Rattle.flat.proofs.list.flat_starts_answer.Kinds as flat_starts_answer_kinds
use Rattle.flat.proofs.list.flat_starts_answer.Reads as flat_starts_answer_lem
use Rattle.flat.proofs.list.flat_ranges_answer.Kinds as flat_ranges_answer_kinds
use Rattle.flat.proofs.list.flat_ranges_answer.Reads as flat_ranges_answer_lem
use Rattle.flat.proofs.modulus.flat_modulus.Kinds as flat_modulus_kinds
use Rattle.flat.proofs.modulus.flat_modulus.Reads as flat_modulus_lem
use Rattle.flat.proofs.modulus.flat_number.Kinds as flat_number_kinds
use Rattle.flat.proofs.modulus.flat_number.Reads as flat_number_lem
use Rattle.flat.proofs.operation.operation_type.Kinds as operation_type_kinds
use Rattle.flat.proofs.operation.operation_type.Reads as operation_type
use Rattle.flat.proofs.operation.operation.Kinds as operation_kinds
use Rattle.flat.proofs.operation.operation.Reads as operation
use Rattle.flat.proofs.operation.flat_operation.Kinds as flat_operation_kinds
use Rattle.flat.proofs.operation.flat_operation.Reads as flat_operation_lem
use Rattle.flat.proofs.operation.flat_next.Kinds as flat_next_kinds
use Rattle.flat.proofs.operation.flat_next.Reads as flat_next_lem
use Rattle.flat.proofs.reading_end.read_counter.Kinds as read_counter_kinds
use Rattle.flat.proofs.reading_end.read_counter.Reads as read_counter_lem
use Rattle.flat.proofs.reading_end.reading_end.Kinds as reading_end_kinds
use Rattle.flat.proofs.reading_end.reading_end.Reads as reading_end_lem
use Rattle.flat.proofs.reading_end.flat_reading_end.Kinds as flat_reading_end_kinds
use Rattle.flat.proofs.reading_end.flat_reading_end.Reads as flat_reading_end_lem
use Rattle.flat.proofs.reading_end.flat_reading_end_answer.Kinds as flat_reading_end_answer_kinds
use Rattle.flat.proofs.reading_end.flat_reading_end_answer.Reads as flat_reading_end_answer_lem
use Rattle.flat.proofs.reading_end.flat_got.Kinds as flat_got_kinds
use Rattle.flat.proofs.reading_end.flat_got.Reads as flat_got_lem
use Rattle.flat.proofs.reading_end.flat_read_counter.Kinds as flat_read_counter_kinds
use Rattle.flat.proofs.reading_end.flat_read_counter.Reads as flat_read_counter_lem
use Rattle.flat.proofs.receiver_record.receiver_state.Kinds as receiver_state_kinds
use Rattle.flat.proofs.receiver_record.receiver_state.Reads as receiver_state
use Rattle.flat.proofs.receiver_record.flat_receiver_answer.Kinds as flat_receiver_answer_kinds
use Rattle.flat.proofs.receiver_record.flat_receiver_answer.Reads as flat_receiver_answer_lem
use Rattle.flat.proofs.receiver_record.flat_ended.Kinds as flat_ended_kinds
use Rattle.flat.proofs.receiver_record.flat_ended.Reads as flat_ended_lem
use Rattle.flat.proofs.refusal.no_refusal.Kinds as no_refusal_kinds
use Rattle.flat.proofs.refusal.no_refusal.Reads as no_refusal_lem
use Rattle.flat.proofs.refusal.flat_end_refusal.Kinds as flat_end_refusal_kinds
use Rattle.flat.proofs.refusal.flat_end_refusal.Reads as flat_end_refusal_lem
use Rattle.flat.proofs.scheduler.scheduler.Kinds as scheduler_kinds
use Rattle.flat.proofs.scheduler.scheduler.Reads as scheduler
use Rattle.flat.proofs.scheduler.flat_checked.Kinds as flat_checked_kinds
use Rattle.flat.proofs.scheduler.flat_checked.Reads as flat_checked_lem
use Rattle.flat.proofs.state.state.Kinds as state_kinds
use Rattle.flat.proofs.state.state.Reads as state
use Rattle.flat.proofs.state.flat_state_answer.Kinds as flat_state_answer_kinds
use Rattle.flat.proofs.state.flat_state_answer.Reads as flat_state_answer_lem
use Rattle.flat.proofs.writing_end.written_counter.Kinds as written_counter_kinds
use Rattle.flat.proofs.writing_end.written_counter.Reads as written_counter_lem
use Rattle.flat.proofs.writing_end.writing_end.Kinds as writing_end_kinds
use Rattle.flat.proofs.writing_end.writing_end.Reads as writing_end_lem
use Rattle.flat.proofs.writing_end.flat_writing_end.Kinds as flat_writing_end_kinds
use Rattle.flat.proofs.writing_end.flat_writing_end.Reads as flat_writing_end_lem
use Rattle.flat.proofs.writing_end.flat_writing_end_answer.Kinds as flat_writing_end_answer_kinds
use Rattle.flat.proofs.writing_end.flat_writing_end_answer.Reads as flat_writing_end_answer_lem
use Rattle.flat.proofs.writing_end.flat_wrote.Kinds as flat_wrote_kinds
use Rattle.flat.proofs.writing_end.flat_wrote.Reads as flat_wrote_lem
use Rattle.flat.proofs.writing_end.flat_written_counter.Kinds as flat_written_counter_kinds
use Rattle.flat.proofs.writing_end.flat_written_counter.Reads as flat_written_counter_lem

-- ---- block.rt
pub block_type_says : Says 0 block_type_kinds.ps block_type_kinds.r block_type.Learnt (λ κs a. block_type_at a.0)
block_type_says κs a z ws p = p

pub bit_says : Says 0 bit_kinds.ps bit_kinds.r bit.Learnt (λ κs a. bit_at a.0)
bit_says κs a z ws p = p

pub flat_block_says : Says 0 flat_block_kinds.ps flat_block_kinds.r flat_block_lem.Learnt (λ κs a. flat_block a.0)
flat_block_says κs a z ws p = p

pub flat_block_answer_says : Says 0 flat_block_answer_kinds.ps flat_block_answer_kinds.r flat_block_answer_lem.Learnt (λ κs a. flat_block_answer a.0)
flat_block_answer_says κs a z ws p = p

pub flat_blocks_says : Says 0 flat_blocks_kinds.ps flat_blocks_kinds.r flat_blocks_lem.Learnt (λ κs a. flat_blocks a.0)
flat_blocks_says κs a z ws p = p

pub flat_layout_says : Says 0 flat_layout_kinds.ps flat_layout_kinds.r flat_layout_lem.Learnt (λ κs a. flat_layout a.0)
flat_layout_says κs a z ws p = p

pub flat_fill_state_says : Says 0 flat_fill_state_kinds.ps flat_fill_state_kinds.r flat_fill_state_lem.Learnt (λ κs a. flat_fill_state a.0)
flat_fill_state_says κs a z ws p = p

-- ---- call.rt
pub call_says : Says 0 call_kinds.ps call_kinds.r call.Learnt (λ κs a. call_at a.0)
call_says κs a z ws p = p

pub flat_step_says : Says 0 flat_step_kinds.ps flat_step_kinds.r flat_step_lem.Learnt (λ κs a. flat_step a.0)
flat_step_says κs a z ws p = p

-- ---- copy.rt
pub flat_copied_says : Says 0 flat_copied_kinds.ps flat_copied_kinds.r flat_copied_lem.Learnt (λ κs a. flat_copied a.0)
flat_copied_says κs a z ws p = p

-- ---- counter.rt
pub flat_counter_says : Says 0 flat_counter_kinds.ps flat_counter_kinds.r flat_counter_lem.Learnt (λ κs a. flat_counter a.0)
flat_counter_says κs a z ws p = p

pub flat_offset_says : Says 0 flat_offset_kinds.ps flat_offset_kinds.r flat_offset_lem.Learnt (λ κs a. flat_offset a.0)
flat_offset_says κs a z ws p = p

pub flat_amount_says : Says 0 flat_amount_kinds.ps flat_amount_kinds.r flat_amount_lem.Learnt (λ κs a. flat_amount a.0)
flat_amount_says κs a z ws p = p

pub flat_bool_says : Says 0 flat_bool_kinds.ps flat_bool_kinds.r flat_bool_lem.Learnt (λ κs a. flat_bool a.0)
flat_bool_says κs a z ws p = p

-- ---- diff.rt
pub diff_says : Says 0 diff_kinds.ps diff_kinds.r diff.Learnt (λ κs a. diff_at a.0)
diff_says κs a z ws p = p

pub flat_diff_says : Says 0 flat_diff_kinds.ps flat_diff_kinds.r flat_diff_lem.Learnt (λ κs a. flat_diff a.0)
flat_diff_says κs a z ws p = p

-- ---- failure.rt
pub failure_says : Says 0 failure_kinds.ps failure_kinds.r failure.Learnt (λ κs a. failure_at a.0)
failure_says κs a z ws p = p

pub potential_failure_says : Says 0 potential_failure_kinds.ps potential_failure_kinds.r potential_failure.Learnt (λ κs a. potential_failure_at a.0 a.1.0)
potential_failure_says κs a z ws p = p

pub flat_failure_answer_says : Says 0 flat_failure_answer_kinds.ps flat_failure_answer_kinds.r flat_failure_answer_lem.Learnt (λ κs a. flat_failure_answer a.0)
flat_failure_answer_says κs a z ws p = p

pub flat_potential_failure_says : Says 0 flat_potential_failure_kinds.ps flat_potential_failure_kinds.r flat_potential_failure_lem.Learnt (λ κs a. flat_potential_failure a.0)
flat_potential_failure_says κs a z ws p = p

-- ---- list.rt
pub operations_says : Says 0 operations_kinds.ps operations_kinds.r operations.Learnt (λ κs a. operations_at a.0)
operations_says κs a z ws p = p

pub flat_schedule_says : Says 0 flat_schedule_kinds.ps flat_schedule_kinds.r flat_schedule_lem.Learnt (λ κs a. flat_schedule a.0)
flat_schedule_says κs a z ws p = p

pub flat_operations_answer_says : Says 0 flat_operations_answer_kinds.ps flat_operations_answer_kinds.r flat_operations_answer_lem.Learnt (λ κs a. flat_operations_answer a.0)
flat_operations_answer_says κs a z ws p = p

pub flat_starts_answer_says : Says 0 flat_starts_answer_kinds.ps flat_starts_answer_kinds.r flat_starts_answer_lem.Learnt (λ κs a. flat_starts_answer a.0)
flat_starts_answer_says κs a z ws p = p

pub flat_ranges_answer_says : Says 0 flat_ranges_answer_kinds.ps flat_ranges_answer_kinds.r flat_ranges_answer_lem.Learnt (λ κs a. flat_ranges_answer a.0)
flat_ranges_answer_says κs a z ws p = p

-- ---- modulus.rt
pub flat_modulus_says : Says 0 flat_modulus_kinds.ps flat_modulus_kinds.r flat_modulus_lem.Learnt (λ κs a. flat_modulus a.0)
flat_modulus_says κs a z ws p = p

pub flat_number_says : Says 0 flat_number_kinds.ps flat_number_kinds.r flat_number_lem.Learnt (λ κs a. flat_number a.0)
flat_number_says κs a z ws p = p

-- ---- operation.rt
pub operation_type_says : Says 0 operation_type_kinds.ps operation_type_kinds.r operation_type.Learnt (λ κs a. type_at a.0)
operation_type_says κs a z ws p = p

pub operation_says : Says 0 operation_kinds.ps operation_kinds.r operation.Learnt (λ κs a. operation_at a.0)
operation_says κs a z ws p = p

pub flat_operation_says : Says 0 flat_operation_kinds.ps flat_operation_kinds.r flat_operation_lem.Learnt (λ κs a. flat_operation a.0)
flat_operation_says κs a z ws p = p

pub flat_next_says : Says 0 flat_next_kinds.ps flat_next_kinds.r flat_next_lem.Learnt (λ κs a. flat_next a.0)
flat_next_says κs a z ws p = p

-- ---- reading_end.rt
pub read_counter_says : Says 0 read_counter_kinds.ps read_counter_kinds.r read_counter_lem.Learnt (λ κs a. read_counter_at a.0)
read_counter_says κs a z ws p = p

pub reading_end_says : Says 0 reading_end_kinds.ps reading_end_kinds.r reading_end_lem.Learnt (λ κs a. reading_end_at a.0)
reading_end_says κs a z ws p = p

pub flat_reading_end_says : Says 0 flat_reading_end_kinds.ps flat_reading_end_kinds.r flat_reading_end_lem.Learnt (λ κs a. flat_reading_end a.0)
flat_reading_end_says κs a z ws p = p

pub flat_reading_end_answer_says : Says 0 flat_reading_end_answer_kinds.ps flat_reading_end_answer_kinds.r flat_reading_end_answer_lem.Learnt (λ κs a. flat_reading_end_answer a.0)
flat_reading_end_answer_says κs a z ws p = p

pub flat_got_says : Says 0 flat_got_kinds.ps flat_got_kinds.r flat_got_lem.Learnt (λ κs a. flat_got a.0)
flat_got_says κs a z ws p = p

pub flat_read_counter_says : Says 0 flat_read_counter_kinds.ps flat_read_counter_kinds.r flat_read_counter_lem.Learnt (λ κs a. flat_read_counter a.0)
flat_read_counter_says κs a z ws p = p

-- ---- receiver_record.rt
pub receiver_state_says : Says 0 receiver_state_kinds.ps receiver_state_kinds.r receiver_state.Learnt (λ κs a. receiver_at a.0)
receiver_state_says κs a z ws p = p

pub flat_receiver_answer_says : Says 0 flat_receiver_answer_kinds.ps flat_receiver_answer_kinds.r flat_receiver_answer_lem.Learnt (λ κs a. flat_receiver_answer a.0)
flat_receiver_answer_says κs a z ws p = p

pub flat_ended_says : Says 0 flat_ended_kinds.ps flat_ended_kinds.r flat_ended_lem.Learnt (λ κs a. flat_ended a.0)
flat_ended_says κs a z ws p = p

-- ---- refusal.rt
pub no_refusal_says : Says 0 no_refusal_kinds.ps no_refusal_kinds.r no_refusal_lem.Learnt (λ κs a. no_refusal)
no_refusal_says κs a z ws p = p

pub flat_end_refusal_says : Says 0 flat_end_refusal_kinds.ps flat_end_refusal_kinds.r flat_end_refusal_lem.Learnt (λ κs a. flat_end_refusal a.0)
flat_end_refusal_says κs a z ws p = p

-- ---- scheduler.rt
pub scheduler_says : Says 0 scheduler_kinds.ps scheduler_kinds.r scheduler.Learnt (λ κs a. scheduler_at a.0)
scheduler_says κs a z ws p = p

pub flat_checked_says : Says 0 flat_checked_kinds.ps flat_checked_kinds.r flat_checked_lem.Learnt (λ κs a. flat_checked a.0)
flat_checked_says κs a z ws p = p

-- ---- state.rt
pub state_says : Says 0 state_kinds.ps state_kinds.r state.Learnt (λ κs a. state_at a.0)
state_says κs a z ws p = p

pub flat_state_answer_says : Says 0 flat_state_answer_kinds.ps flat_state_answer_kinds.r flat_state_answer_lem.Learnt (λ κs a. flat_state_answer a.0)
flat_state_answer_says κs a z ws p = p

-- ---- writing_end.rt
pub written_counter_says : Says 0 written_counter_kinds.ps written_counter_kinds.r written_counter_lem.Learnt (λ κs a. written_counter_at a.0)
written_counter_says κs a z ws p = p

pub writing_end_says : Says 0 writing_end_kinds.ps writing_end_kinds.r writing_end_lem.Learnt (λ κs a. writing_end_at a.0)
writing_end_says κs a z ws p = p

pub flat_writing_end_says : Says 0 flat_writing_end_kinds.ps flat_writing_end_kinds.r flat_writing_end_lem.Learnt (λ κs a. flat_writing_end a.0)
flat_writing_end_says κs a z ws p = p

pub flat_writing_end_answer_says : Says 0 flat_writing_end_answer_kinds.ps flat_writing_end_answer_kinds.r flat_writing_end_answer_lem.Learnt (λ κs a. flat_writing_end_answer a.0)
flat_writing_end_answer_says κs a z ws p = p

pub flat_wrote_says : Says 0 flat_wrote_kinds.ps flat_wrote_kinds.r flat_wrote_lem.Learnt (λ κs a. flat_wrote a.0)
flat_wrote_says κs a z ws p = p

pub flat_written_counter_says : Says 0 flat_written_counter_kinds.ps flat_written_counter_kinds.r flat_written_counter_lem.Learnt (λ κs a. flat_written_counter a.0)
flat_written_counter_says κs a z ws p = p
