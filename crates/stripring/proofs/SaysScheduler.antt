-- What each export of the scheduler says, in the order of the C header; see SaysEnds.antt.
use Rattle.modular.proofs.Saying.{Says}
use Rattle.operations.specs.declared.operation.OperationType.TheVariants.{Read, Write}
use Rattle.sched.specs.Scheduler.{block0_from, block1_from, block2_from, blocks_of, buf_len_of, counter_answer_of, fill_state_of, greatest_of, is_positive_from, is_zero_from, layout_of, len_from, next_block_of, next_of, off_from, offset_answer_of, register_list_of, register_of, schedule_of, scheduler_of, sound_of, with_counter_of}
use Rattle.flat.specs.Block.{flat_block_answer, flat_blocks, flat_fill_state, flat_layout}
use Rattle.flat.specs.Counter.{flat_amount, flat_bool, flat_counter, flat_offset}
use Rattle.flat.specs.List.{flat_schedule, operations_at}
use Rattle.flat.specs.Operation.{flat_next, operation_at, type_at}
use Rattle.flat.specs.Scheduler.{flat_checked, max_buf_len, scheduler_at}
use Rattle.stripring.proofs.scheduler.stripring_scheduler_max_buf_len.Kinds as max_buf_len_kinds
use Rattle.stripring.proofs.scheduler.stripring_scheduler_max_buf_len.Reads as max_buf_len_lem
use Rattle.stripring.proofs.scheduler.stripring_scheduler_try_new.Kinds as try_new_kinds
use Rattle.stripring.proofs.scheduler.stripring_scheduler_try_new.Reads as try_new
use Rattle.stripring.proofs.scheduler.stripring_scheduler_try_from_counters.Kinds as try_from_counters_kinds
use Rattle.stripring.proofs.scheduler.stripring_scheduler_try_from_counters.Reads as try_from_counters
use Rattle.stripring.proofs.scheduler.stripring_scheduler_try_with_counter.Kinds as try_with_counter_kinds
use Rattle.stripring.proofs.scheduler.stripring_scheduler_try_with_counter.Reads as try_with_counter
use Rattle.stripring.proofs.scheduler.stripring_scheduler_demand_soundness.Kinds as demand_soundness_kinds
use Rattle.stripring.proofs.scheduler.stripring_scheduler_demand_soundness.Reads as demand_soundness
use Rattle.stripring.proofs.scheduler.stripring_scheduler_try_register_read.Kinds as try_register_read_kinds
use Rattle.stripring.proofs.scheduler.stripring_scheduler_try_register_read.Reads as try_register_read
use Rattle.stripring.proofs.scheduler.stripring_scheduler_try_register_write.Kinds as try_register_write_kinds
use Rattle.stripring.proofs.scheduler.stripring_scheduler_try_register_write.Reads as try_register_write
use Rattle.stripring.proofs.scheduler.stripring_scheduler_try_register_operation_manually.Kinds as try_register_operation_manually_kinds
use Rattle.stripring.proofs.scheduler.stripring_scheduler_try_register_operation_manually.Reads as try_register_operation_manually
use Rattle.stripring.proofs.scheduler.stripring_scheduler_try_register_operation.Kinds as try_register_operation_kinds
use Rattle.stripring.proofs.scheduler.stripring_scheduler_try_register_operation.Reads as try_register_operation
use Rattle.stripring.proofs.scheduler.stripring_scheduler_try_register_operations.Kinds as try_register_operations_kinds
use Rattle.stripring.proofs.scheduler.stripring_scheduler_try_register_operations.Reads as try_register_operations
use Rattle.stripring.proofs.scheduler.stripring_scheduler_items_read.Kinds as items_read_kinds
use Rattle.stripring.proofs.scheduler.stripring_scheduler_items_read.Reads as items_read
use Rattle.stripring.proofs.scheduler.stripring_scheduler_items_written.Kinds as items_written_kinds
use Rattle.stripring.proofs.scheduler.stripring_scheduler_items_written.Reads as items_written
use Rattle.stripring.proofs.scheduler.stripring_scheduler_operation_counter.Kinds as operation_counter_kinds
use Rattle.stripring.proofs.scheduler.stripring_scheduler_operation_counter.Reads as operation_counter
use Rattle.stripring.proofs.scheduler.stripring_scheduler_read_off.Kinds as read_off_kinds
use Rattle.stripring.proofs.scheduler.stripring_scheduler_read_off.Reads as read_off
use Rattle.stripring.proofs.scheduler.stripring_scheduler_write_off.Kinds as write_off_kinds
use Rattle.stripring.proofs.scheduler.stripring_scheduler_write_off.Reads as write_off
use Rattle.stripring.proofs.scheduler.stripring_scheduler_operation_offset.Kinds as operation_offset_kinds
use Rattle.stripring.proofs.scheduler.stripring_scheduler_operation_offset.Reads as operation_offset
use Rattle.stripring.proofs.scheduler.stripring_scheduler_buf_len.Kinds as buf_len_kinds
use Rattle.stripring.proofs.scheduler.stripring_scheduler_buf_len.Reads as buf_len
use Rattle.stripring.proofs.scheduler.stripring_scheduler_is_zero_sized.Kinds as is_zero_sized_kinds
use Rattle.stripring.proofs.scheduler.stripring_scheduler_is_zero_sized.Reads as is_zero_sized
use Rattle.stripring.proofs.scheduler.stripring_scheduler_data_avail.Kinds as data_avail_kinds
use Rattle.stripring.proofs.scheduler.stripring_scheduler_data_avail.Reads as data_avail
use Rattle.stripring.proofs.scheduler.stripring_scheduler_space_avail.Kinds as space_avail_kinds
use Rattle.stripring.proofs.scheduler.stripring_scheduler_space_avail.Reads as space_avail
use Rattle.stripring.proofs.scheduler.stripring_scheduler_max_operation_len.Kinds as max_operation_len_kinds
use Rattle.stripring.proofs.scheduler.stripring_scheduler_max_operation_len.Reads as max_operation_len
use Rattle.stripring.proofs.scheduler.stripring_scheduler_fill_state.Kinds as fill_state_kinds
use Rattle.stripring.proofs.scheduler.stripring_scheduler_fill_state.Reads as fill_state
use Rattle.stripring.proofs.scheduler.stripring_scheduler_is_empty.Kinds as is_empty_kinds
use Rattle.stripring.proofs.scheduler.stripring_scheduler_is_empty.Reads as is_empty
use Rattle.stripring.proofs.scheduler.stripring_scheduler_is_full.Kinds as is_full_kinds
use Rattle.stripring.proofs.scheduler.stripring_scheduler_is_full.Reads as is_full
use Rattle.stripring.proofs.scheduler.stripring_scheduler_is_nonempty.Kinds as is_nonempty_kinds
use Rattle.stripring.proofs.scheduler.stripring_scheduler_is_nonempty.Reads as is_nonempty
use Rattle.stripring.proofs.scheduler.stripring_scheduler_is_nonfull.Kinds as is_nonfull_kinds
use Rattle.stripring.proofs.scheduler.stripring_scheduler_is_nonfull.Reads as is_nonfull
use Rattle.stripring.proofs.schedule.stripring_scheduler_layout.Kinds as layout_kinds
use Rattle.stripring.proofs.schedule.stripring_scheduler_layout.Reads as layout
use Rattle.stripring.proofs.schedule.stripring_scheduler_blocks.Kinds as blocks_kinds
use Rattle.stripring.proofs.schedule.stripring_scheduler_blocks.Reads as blocks
use Rattle.stripring.proofs.schedule.stripring_scheduler_block_0.Kinds as block_0_kinds
use Rattle.stripring.proofs.schedule.stripring_scheduler_block_0.Reads as block_0
use Rattle.stripring.proofs.schedule.stripring_scheduler_block_1.Kinds as block_1_kinds
use Rattle.stripring.proofs.schedule.stripring_scheduler_block_1.Reads as block_1
use Rattle.stripring.proofs.schedule.stripring_scheduler_block_2.Kinds as block_2_kinds
use Rattle.stripring.proofs.schedule.stripring_scheduler_block_2.Reads as block_2
use Rattle.stripring.proofs.schedule.stripring_scheduler_block_0_off.Kinds as block_0_off_kinds
use Rattle.stripring.proofs.schedule.stripring_scheduler_block_0_off.Reads as block_0_off
use Rattle.stripring.proofs.schedule.stripring_scheduler_block_1_off.Kinds as block_1_off_kinds
use Rattle.stripring.proofs.schedule.stripring_scheduler_block_1_off.Reads as block_1_off
use Rattle.stripring.proofs.schedule.stripring_scheduler_block_2_off.Kinds as block_2_off_kinds
use Rattle.stripring.proofs.schedule.stripring_scheduler_block_2_off.Reads as block_2_off
use Rattle.stripring.proofs.schedule.stripring_scheduler_block_0_len.Kinds as block_0_len_kinds
use Rattle.stripring.proofs.schedule.stripring_scheduler_block_0_len.Reads as block_0_len
use Rattle.stripring.proofs.schedule.stripring_scheduler_block_1_len.Kinds as block_1_len_kinds
use Rattle.stripring.proofs.schedule.stripring_scheduler_block_1_len.Reads as block_1_len
use Rattle.stripring.proofs.schedule.stripring_scheduler_block_2_len.Kinds as block_2_len_kinds
use Rattle.stripring.proofs.schedule.stripring_scheduler_block_2_len.Reads as block_2_len
use Rattle.stripring.proofs.schedule.stripring_scheduler_next_operation_block.Kinds as next_operation_block_kinds
use Rattle.stripring.proofs.schedule.stripring_scheduler_next_operation_block.Reads as next_operation_block
use Rattle.stripring.proofs.schedule.stripring_scheduler_next_read_block.Kinds as next_read_block_kinds
use Rattle.stripring.proofs.schedule.stripring_scheduler_next_read_block.Reads as next_read_block
use Rattle.stripring.proofs.schedule.stripring_scheduler_next_write_block.Kinds as next_write_block_kinds
use Rattle.stripring.proofs.schedule.stripring_scheduler_next_write_block.Reads as next_write_block
use Rattle.stripring.proofs.schedule.stripring_scheduler_schedule_next_contiguous_operation.Kinds as schedule_next_contiguous_operation_kinds
use Rattle.stripring.proofs.schedule.stripring_scheduler_schedule_next_contiguous_operation.Reads as schedule_next_contiguous_operation
use Rattle.stripring.proofs.schedule.stripring_scheduler_schedule_next_read.Kinds as schedule_next_read_kinds
use Rattle.stripring.proofs.schedule.stripring_scheduler_schedule_next_read.Reads as schedule_next_read
use Rattle.stripring.proofs.schedule.stripring_scheduler_schedule_next_write.Kinds as schedule_next_write_kinds
use Rattle.stripring.proofs.schedule.stripring_scheduler_schedule_next_write.Reads as schedule_next_write
use Rattle.stripring.proofs.schedule.stripring_scheduler_schedule_contiguous_operations.Kinds as schedule_contiguous_operations_kinds
use Rattle.stripring.proofs.schedule.stripring_scheduler_schedule_contiguous_operations.Reads as schedule_contiguous_operations
use Rattle.stripring.proofs.schedule.stripring_scheduler_schedule_reads.Kinds as schedule_reads_kinds
use Rattle.stripring.proofs.schedule.stripring_scheduler_schedule_reads.Reads as schedule_reads
use Rattle.stripring.proofs.schedule.stripring_scheduler_schedule_writes.Kinds as schedule_writes_kinds
use Rattle.stripring.proofs.schedule.stripring_scheduler_schedule_writes.Reads as schedule_writes

-- ---- the record and its checks
pub max_buf_len_says : Says 0 max_buf_len_kinds.ps max_buf_len_kinds.r max_buf_len_lem.Learnt (λ κs a. max_buf_len)
max_buf_len_says κs a z ws p = p

pub try_new_says : Says 0 try_new_kinds.ps try_new_kinds.r try_new.Learnt (λ κs a. flat_checked (sound_of (scheduler_of a.0 (record { 0 = 0 }) (record { 0 = 0 }))))
try_new_says κs a z ws p = p

pub try_from_counters_says : Says 0 try_from_counters_kinds.ps try_from_counters_kinds.r try_from_counters.Learnt (λ κs a. flat_checked (sound_of (scheduler_of a.0 (record { 0 = a.1.0 }) (record { 0 = a.1.1.0 }))))
try_from_counters_says κs a z ws p = p

pub try_with_counter_says : Says 0 try_with_counter_kinds.ps try_with_counter_kinds.r try_with_counter.Learnt (λ κs a. flat_checked (with_counter_of (scheduler_at a.0) (type_at a.1.0) (record { 0 = a.1.1.0 })))
try_with_counter_says κs a z ws p = p

pub demand_soundness_says : Says 0 demand_soundness_kinds.ps demand_soundness_kinds.r demand_soundness.Learnt (λ κs a. flat_checked (sound_of (scheduler_at a.0)))
demand_soundness_says κs a z ws p = p

-- ---- registering
pub try_register_read_says : Says 0 try_register_read_kinds.ps try_register_read_kinds.r try_register_read.Learnt (λ κs a. flat_checked (register_of (scheduler_at a.0) Read a.1.0))
try_register_read_says κs a z ws p = p

pub try_register_write_says : Says 0 try_register_write_kinds.ps try_register_write_kinds.r try_register_write.Learnt (λ κs a. flat_checked (register_of (scheduler_at a.0) Write a.1.0))
try_register_write_says κs a z ws p = p

pub try_register_operation_manually_says : Says 0 try_register_operation_manually_kinds.ps try_register_operation_manually_kinds.r try_register_operation_manually.Learnt (λ κs a. flat_checked (register_of (scheduler_at a.0) (type_at a.1.0) a.1.1.0))
try_register_operation_manually_says κs a z ws p = p

pub try_register_operation_says : Says 0 try_register_operation_kinds.ps try_register_operation_kinds.r try_register_operation.Learnt (λ κs a. flat_checked (register_of (scheduler_at a.0) (operation_at a.1.0).typ (operation_at a.1.0).len))
try_register_operation_says κs a z ws p = p

pub try_register_operations_says : Says 0 try_register_operations_kinds.ps try_register_operations_kinds.r try_register_operations.Learnt (λ κs a. flat_checked (register_list_of (scheduler_at a.0) (operations_at a.1.0)))
try_register_operations_says κs a z ws p = p

-- ---- counters and offsets
pub items_read_says : Says 0 items_read_kinds.ps items_read_kinds.r items_read.Learnt (λ κs a. flat_counter (counter_answer_of (scheduler_at a.0) Read))
items_read_says κs a z ws p = p

pub items_written_says : Says 0 items_written_kinds.ps items_written_kinds.r items_written.Learnt (λ κs a. flat_counter (counter_answer_of (scheduler_at a.0) Write))
items_written_says κs a z ws p = p

pub operation_counter_says : Says 0 operation_counter_kinds.ps operation_counter_kinds.r operation_counter.Learnt (λ κs a. flat_counter (counter_answer_of (scheduler_at a.0) (type_at a.1.0)))
operation_counter_says κs a z ws p = p

pub read_off_says : Says 0 read_off_kinds.ps read_off_kinds.r read_off.Learnt (λ κs a. flat_offset (offset_answer_of (scheduler_at a.0) Read))
read_off_says κs a z ws p = p

pub write_off_says : Says 0 write_off_kinds.ps write_off_kinds.r write_off.Learnt (λ κs a. flat_offset (offset_answer_of (scheduler_at a.0) Write))
write_off_says κs a z ws p = p

pub operation_offset_says : Says 0 operation_offset_kinds.ps operation_offset_kinds.r operation_offset.Learnt (λ κs a. flat_offset (offset_answer_of (scheduler_at a.0) (type_at a.1.0)))
operation_offset_says κs a z ws p = p

pub buf_len_says : Says 0 buf_len_kinds.ps buf_len_kinds.r buf_len.Learnt (λ κs a. flat_amount (buf_len_of (scheduler_at a.0)))
buf_len_says κs a z ws p = p

pub is_zero_sized_says : Says 0 is_zero_sized_kinds.ps is_zero_sized_kinds.r is_zero_sized.Learnt (λ κs a. flat_bool (is_zero_from (buf_len_of (scheduler_at a.0))))
is_zero_sized_says κs a z ws p = p

-- ---- data, space and fill state
pub data_avail_says : Says 0 data_avail_kinds.ps data_avail_kinds.r data_avail.Learnt (λ κs a. flat_amount (greatest_of (scheduler_at a.0) Read))
data_avail_says κs a z ws p = p

pub space_avail_says : Says 0 space_avail_kinds.ps space_avail_kinds.r space_avail.Learnt (λ κs a. flat_amount (greatest_of (scheduler_at a.0) Write))
space_avail_says κs a z ws p = p

pub max_operation_len_says : Says 0 max_operation_len_kinds.ps max_operation_len_kinds.r max_operation_len.Learnt (λ κs a. flat_amount (greatest_of (scheduler_at a.0) (type_at a.1.0)))
max_operation_len_says κs a z ws p = p

pub fill_state_says : Says 0 fill_state_kinds.ps fill_state_kinds.r fill_state.Learnt (λ κs a. flat_fill_state (fill_state_of (scheduler_at a.0)))
fill_state_says κs a z ws p = p

pub is_empty_says : Says 0 is_empty_kinds.ps is_empty_kinds.r is_empty.Learnt (λ κs a. flat_bool (is_zero_from (greatest_of (scheduler_at a.0) Read)))
is_empty_says κs a z ws p = p

pub is_full_says : Says 0 is_full_kinds.ps is_full_kinds.r is_full.Learnt (λ κs a. flat_bool (is_zero_from (greatest_of (scheduler_at a.0) Write)))
is_full_says κs a z ws p = p

pub is_nonempty_says : Says 0 is_nonempty_kinds.ps is_nonempty_kinds.r is_nonempty.Learnt (λ κs a. flat_bool (is_positive_from (greatest_of (scheduler_at a.0) Read)))
is_nonempty_says κs a z ws p = p

pub is_nonfull_says : Says 0 is_nonfull_kinds.ps is_nonfull_kinds.r is_nonfull.Learnt (λ κs a. flat_bool (is_positive_from (greatest_of (scheduler_at a.0) Write)))
is_nonfull_says κs a z ws p = p

-- ---- layout and blocks
pub layout_says : Says 0 layout_kinds.ps layout_kinds.r layout.Learnt (λ κs a. flat_layout (layout_of (scheduler_at a.0)))
layout_says κs a z ws p = p

pub blocks_says : Says 0 blocks_kinds.ps blocks_kinds.r blocks.Learnt (λ κs a. flat_blocks (blocks_of (scheduler_at a.0)))
blocks_says κs a z ws p = p

pub block_0_says : Says 0 block_0_kinds.ps block_0_kinds.r block_0.Learnt (λ κs a. flat_block_answer (block0_from (blocks_of (scheduler_at a.0))))
block_0_says κs a z ws p = p

pub block_1_says : Says 0 block_1_kinds.ps block_1_kinds.r block_1.Learnt (λ κs a. flat_block_answer (block1_from (blocks_of (scheduler_at a.0))))
block_1_says κs a z ws p = p

pub block_2_says : Says 0 block_2_kinds.ps block_2_kinds.r block_2.Learnt (λ κs a. flat_block_answer (block2_from (blocks_of (scheduler_at a.0))))
block_2_says κs a z ws p = p

pub block_0_off_says : Says 0 block_0_off_kinds.ps block_0_off_kinds.r block_0_off.Learnt (λ κs a. flat_offset (off_from (block0_from (blocks_of (scheduler_at a.0)))))
block_0_off_says κs a z ws p = p

pub block_1_off_says : Says 0 block_1_off_kinds.ps block_1_off_kinds.r block_1_off.Learnt (λ κs a. flat_offset (off_from (block1_from (blocks_of (scheduler_at a.0)))))
block_1_off_says κs a z ws p = p

pub block_2_off_says : Says 0 block_2_off_kinds.ps block_2_off_kinds.r block_2_off.Learnt (λ κs a. flat_offset (off_from (block2_from (blocks_of (scheduler_at a.0)))))
block_2_off_says κs a z ws p = p

pub block_0_len_says : Says 0 block_0_len_kinds.ps block_0_len_kinds.r block_0_len.Learnt (λ κs a. flat_amount (len_from (block0_from (blocks_of (scheduler_at a.0)))))
block_0_len_says κs a z ws p = p

pub block_1_len_says : Says 0 block_1_len_kinds.ps block_1_len_kinds.r block_1_len.Learnt (λ κs a. flat_amount (len_from (block1_from (blocks_of (scheduler_at a.0)))))
block_1_len_says κs a z ws p = p

pub block_2_len_says : Says 0 block_2_len_kinds.ps block_2_len_kinds.r block_2_len.Learnt (λ κs a. flat_amount (len_from (block2_from (blocks_of (scheduler_at a.0)))))
block_2_len_says κs a z ws p = p

pub next_operation_block_says : Says 0 next_operation_block_kinds.ps next_operation_block_kinds.r next_operation_block.Learnt (λ κs a. flat_block_answer (next_block_of (scheduler_at a.0) (type_at a.1.0)))
next_operation_block_says κs a z ws p = p

pub next_read_block_says : Says 0 next_read_block_kinds.ps next_read_block_kinds.r next_read_block.Learnt (λ κs a. flat_block_answer (next_block_of (scheduler_at a.0) Read))
next_read_block_says κs a z ws p = p

pub next_write_block_says : Says 0 next_write_block_kinds.ps next_write_block_kinds.r next_write_block.Learnt (λ κs a. flat_block_answer (next_block_of (scheduler_at a.0) Write))
next_write_block_says κs a z ws p = p

-- ---- scheduling
pub schedule_next_contiguous_operation_says : Says 0 schedule_next_contiguous_operation_kinds.ps schedule_next_contiguous_operation_kinds.r schedule_next_contiguous_operation.Learnt (λ κs a. flat_next (next_of (scheduler_at a.0) (type_at a.1.0) a.1.1.0))
schedule_next_contiguous_operation_says κs a z ws p = p

pub schedule_next_read_says : Says 0 schedule_next_read_kinds.ps schedule_next_read_kinds.r schedule_next_read.Learnt (λ κs a. flat_next (next_of (scheduler_at a.0) Read a.1.0))
schedule_next_read_says κs a z ws p = p

pub schedule_next_write_says : Says 0 schedule_next_write_kinds.ps schedule_next_write_kinds.r schedule_next_write.Learnt (λ κs a. flat_next (next_of (scheduler_at a.0) Write a.1.0))
schedule_next_write_says κs a z ws p = p

pub schedule_contiguous_operations_says : Says 0 schedule_contiguous_operations_kinds.ps schedule_contiguous_operations_kinds.r schedule_contiguous_operations.Learnt (λ κs a. flat_schedule (schedule_of (scheduler_at a.0) (type_at a.1.0) a.1.1.0))
schedule_contiguous_operations_says κs a z ws p = p

pub schedule_reads_says : Says 0 schedule_reads_kinds.ps schedule_reads_kinds.r schedule_reads.Learnt (λ κs a. flat_schedule (schedule_of (scheduler_at a.0) Read a.1.0))
schedule_reads_says κs a z ws p = p

pub schedule_writes_says : Says 0 schedule_writes_kinds.ps schedule_writes_kinds.r schedule_writes.Learnt (λ κs a. flat_schedule (schedule_of (scheduler_at a.0) Write a.1.0))
schedule_writes_says κs a z ws p = p
