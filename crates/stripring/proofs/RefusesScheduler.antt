-- "Given exactly when", 1 to 8, of every export of the scheduler and of its lists: whatever its attached contract allows carries a
-- refusal exactly when the paper's table gives it, of what the host's numbers stand for.
use mathlib.Core.Path.{refl}
use Rattle.modular.proofs.Saying.{Keeps}
use Rattle.operations.proofs.Refuses as lists
use Rattle.sched.proofs.Refuses as refuses
use Rattle.operations.specs.declared.operation.OperationType.TheVariants.{Read, Write}
use Rattle.operations.specs.Given.{GivenList}
use Rattle.sched.specs.Given.{GivenCounters, Given, GivenWith, GivenOperations, GivenRegister}
use Rattle.operations.specs.List.{cumulative_length_of, cumulative_offsets_of, outside_ranges_of, sound_list_of}
use Rattle.sched.specs.Scheduler.{block0_from, block1_from, block2_from, blocks_of, buf_len_of, counter_answer_of, fill_state_of, greatest_of, is_positive_from, is_zero_from, layout_of, len_from, next_block_of, next_of, off_from, offset_answer_of, register_list_of, register_of, schedule_of, scheduler_of, sound_of, with_counter_of}
use Rattle.flat.specs.List.{operations_at}
use Rattle.flat.specs.Operation.{operation_at, type_at}
use Rattle.flat.specs.Scheduler.{scheduler_at}
use Rattle.stripring.specs.Given.{GivenAt}
use Rattle.stripring.proofs.GivenLaws.{checked_given, counter_given, offset_given, amount_given, bool_given, fill_given, layout_given, blocks_given, block_given, next_given, schedule_given, operations_given, starts_given, ranges_given}
use Rattle.stripring.proofs.SaysScheduler.{try_new_says, try_from_counters_says, try_with_counter_says, demand_soundness_says, try_register_read_says, try_register_write_says, try_register_operation_manually_says, try_register_operation_says, try_register_operations_says, items_read_says, items_written_says, operation_counter_says, read_off_says, write_off_says, operation_offset_says, buf_len_says, is_zero_sized_says, data_avail_says, space_avail_says, max_operation_len_says, fill_state_says, is_empty_says, is_full_says, is_nonempty_says, is_nonfull_says, layout_says, blocks_says, block_0_says, block_1_says, block_2_says, block_0_off_says, block_1_off_says, block_2_off_says, block_0_len_says, block_1_len_says, block_2_len_says, next_operation_block_says, next_read_block_says, next_write_block_says, schedule_next_contiguous_operation_says, schedule_next_read_says, schedule_next_write_says, schedule_contiguous_operations_says, schedule_reads_says, schedule_writes_says}
use Rattle.stripring.proofs.SaysValues.{operations_try_new_says, operations_container_says, operations_into_container_says, operations_cumulative_operation_length_says, operations_with_cumulative_offset_says, operations_with_outside_buffer_range_says}
use Rattle.stripring.proofs.scheduler.stripring_scheduler_try_new.Kinds as try_new_kinds
use Rattle.stripring.proofs.scheduler.stripring_scheduler_try_new.Reads as try_new
use Rattle.stripring.proofs.scheduler.stripring_scheduler_try_from_counters.Kinds as try_from_counters_kinds
use Rattle.stripring.proofs.scheduler.stripring_scheduler_try_from_counters.Reads as try_from_counters
use Rattle.stripring.proofs.scheduler.stripring_scheduler_try_with_counter.Kinds as try_with_counter_kinds
use Rattle.stripring.proofs.scheduler.stripring_scheduler_try_with_counter.Reads as try_with_counter
use Rattle.stripring.proofs.scheduler.stripring_scheduler_demand_soundness.Kinds as demand_soundness_kinds
use Rattle.stripring.proofs.scheduler.stripring_scheduler_demand_soundness.Reads as demand_soundness
use Rattle.stripring.proofs.scheduler.stripring_scheduler_try_register_read.Kinds as try_register_read_kinds
use Rattle.stripring.proofs.scheduler.stripring_scheduler_try_register_read.Reads as try_register_read
use Rattle.stripring.proofs.scheduler.stripring_scheduler_try_register_write.Kinds as try_register_write_kinds
use Rattle.stripring.proofs.scheduler.stripring_scheduler_try_register_write.Reads as try_register_write
use Rattle.stripring.proofs.scheduler.stripring_scheduler_try_register_operation_manually.Kinds as try_register_operation_manually_kinds
use Rattle.stripring.proofs.scheduler.stripring_scheduler_try_register_operation_manually.Reads as try_register_operation_manually
use Rattle.stripring.proofs.scheduler.stripring_scheduler_try_register_operation.Kinds as try_register_operation_kinds
use Rattle.stripring.proofs.scheduler.stripring_scheduler_try_register_operation.Reads as try_register_operation
use Rattle.stripring.proofs.scheduler.stripring_scheduler_try_register_operations.Kinds as try_register_operations_kinds
use Rattle.stripring.proofs.scheduler.stripring_scheduler_try_register_operations.Reads as try_register_operations
use Rattle.stripring.proofs.scheduler.stripring_scheduler_items_read.Kinds as items_read_kinds
use Rattle.stripring.proofs.scheduler.stripring_scheduler_items_read.Reads as items_read
use Rattle.stripring.proofs.scheduler.stripring_scheduler_items_written.Kinds as items_written_kinds
use Rattle.stripring.proofs.scheduler.stripring_scheduler_items_written.Reads as items_written
use Rattle.stripring.proofs.scheduler.stripring_scheduler_operation_counter.Kinds as operation_counter_kinds
use Rattle.stripring.proofs.scheduler.stripring_scheduler_operation_counter.Reads as operation_counter
use Rattle.stripring.proofs.scheduler.stripring_scheduler_read_off.Kinds as read_off_kinds
use Rattle.stripring.proofs.scheduler.stripring_scheduler_read_off.Reads as read_off
use Rattle.stripring.proofs.scheduler.stripring_scheduler_write_off.Kinds as write_off_kinds
use Rattle.stripring.proofs.scheduler.stripring_scheduler_write_off.Reads as write_off
use Rattle.stripring.proofs.scheduler.stripring_scheduler_operation_offset.Kinds as operation_offset_kinds
use Rattle.stripring.proofs.scheduler.stripring_scheduler_operation_offset.Reads as operation_offset
use Rattle.stripring.proofs.scheduler.stripring_scheduler_buf_len.Kinds as buf_len_kinds
use Rattle.stripring.proofs.scheduler.stripring_scheduler_buf_len.Reads as buf_len
use Rattle.stripring.proofs.scheduler.stripring_scheduler_is_zero_sized.Kinds as is_zero_sized_kinds
use Rattle.stripring.proofs.scheduler.stripring_scheduler_is_zero_sized.Reads as is_zero_sized
use Rattle.stripring.proofs.scheduler.stripring_scheduler_data_avail.Kinds as data_avail_kinds
use Rattle.stripring.proofs.scheduler.stripring_scheduler_data_avail.Reads as data_avail
use Rattle.stripring.proofs.scheduler.stripring_scheduler_space_avail.Kinds as space_avail_kinds
use Rattle.stripring.proofs.scheduler.stripring_scheduler_space_avail.Reads as space_avail
use Rattle.stripring.proofs.scheduler.stripring_scheduler_max_operation_len.Kinds as max_operation_len_kinds
use Rattle.stripring.proofs.scheduler.stripring_scheduler_max_operation_len.Reads as max_operation_len
use Rattle.stripring.proofs.scheduler.stripring_scheduler_fill_state.Kinds as fill_state_kinds
use Rattle.stripring.proofs.scheduler.stripring_scheduler_fill_state.Reads as fill_state
use Rattle.stripring.proofs.scheduler.stripring_scheduler_is_empty.Kinds as is_empty_kinds
use Rattle.stripring.proofs.scheduler.stripring_scheduler_is_empty.Reads as is_empty
use Rattle.stripring.proofs.scheduler.stripring_scheduler_is_full.Kinds as is_full_kinds
use Rattle.stripring.proofs.scheduler.stripring_scheduler_is_full.Reads as is_full
use Rattle.stripring.proofs.scheduler.stripring_scheduler_is_nonempty.Kinds as is_nonempty_kinds
use Rattle.stripring.proofs.scheduler.stripring_scheduler_is_nonempty.Reads as is_nonempty
use Rattle.stripring.proofs.scheduler.stripring_scheduler_is_nonfull.Kinds as is_nonfull_kinds
use Rattle.stripring.proofs.scheduler.stripring_scheduler_is_nonfull.Reads as is_nonfull
use Rattle.stripring.proofs.schedule.stripring_scheduler_layout.Kinds as layout_kinds
use Rattle.stripring.proofs.schedule.stripring_scheduler_layout.Reads as layout
use Rattle.stripring.proofs.schedule.stripring_scheduler_blocks.Kinds as blocks_kinds
use Rattle.stripring.proofs.schedule.stripring_scheduler_blocks.Reads as blocks
use Rattle.stripring.proofs.schedule.stripring_scheduler_block_0.Kinds as block_0_kinds
use Rattle.stripring.proofs.schedule.stripring_scheduler_block_0.Reads as block_0
use Rattle.stripring.proofs.schedule.stripring_scheduler_block_1.Kinds as block_1_kinds
use Rattle.stripring.proofs.schedule.stripring_scheduler_block_1.Reads as block_1
use Rattle.stripring.proofs.schedule.stripring_scheduler_block_2.Kinds as block_2_kinds
use Rattle.stripring.proofs.schedule.stripring_scheduler_block_2.Reads as block_2
use Rattle.stripring.proofs.schedule.stripring_scheduler_block_0_off.Kinds as block_0_off_kinds
use Rattle.stripring.proofs.schedule.stripring_scheduler_block_0_off.Reads as block_0_off
use Rattle.stripring.proofs.schedule.stripring_scheduler_block_1_off.Kinds as block_1_off_kinds
use Rattle.stripring.proofs.schedule.stripring_scheduler_block_1_off.Reads as block_1_off
use Rattle.stripring.proofs.schedule.stripring_scheduler_block_2_off.Kinds as block_2_off_kinds
use Rattle.stripring.proofs.schedule.stripring_scheduler_block_2_off.Reads as block_2_off
use Rattle.stripring.proofs.schedule.stripring_scheduler_block_0_len.Kinds as block_0_len_kinds
use Rattle.stripring.proofs.schedule.stripring_scheduler_block_0_len.Reads as block_0_len
use Rattle.stripring.proofs.schedule.stripring_scheduler_block_1_len.Kinds as block_1_len_kinds
use Rattle.stripring.proofs.schedule.stripring_scheduler_block_1_len.Reads as block_1_len
use Rattle.stripring.proofs.schedule.stripring_scheduler_block_2_len.Kinds as block_2_len_kinds
use Rattle.stripring.proofs.schedule.stripring_scheduler_block_2_len.Reads as block_2_len
use Rattle.stripring.proofs.schedule.stripring_scheduler_next_operation_block.Kinds as next_operation_block_kinds
use Rattle.stripring.proofs.schedule.stripring_scheduler_next_operation_block.Reads as next_operation_block
use Rattle.stripring.proofs.schedule.stripring_scheduler_next_read_block.Kinds as next_read_block_kinds
use Rattle.stripring.proofs.schedule.stripring_scheduler_next_read_block.Reads as next_read_block
use Rattle.stripring.proofs.schedule.stripring_scheduler_next_write_block.Kinds as next_write_block_kinds
use Rattle.stripring.proofs.schedule.stripring_scheduler_next_write_block.Reads as next_write_block
use Rattle.stripring.proofs.schedule.stripring_scheduler_schedule_next_contiguous_operation.Kinds as schedule_next_contiguous_operation_kinds
use Rattle.stripring.proofs.schedule.stripring_scheduler_schedule_next_contiguous_operation.Reads as schedule_next_contiguous_operation
use Rattle.stripring.proofs.schedule.stripring_scheduler_schedule_next_read.Kinds as schedule_next_read_kinds
use Rattle.stripring.proofs.schedule.stripring_scheduler_schedule_next_read.Reads as schedule_next_read
use Rattle.stripring.proofs.schedule.stripring_scheduler_schedule_next_write.Kinds as schedule_next_write_kinds
use Rattle.stripring.proofs.schedule.stripring_scheduler_schedule_next_write.Reads as schedule_next_write
use Rattle.stripring.proofs.schedule.stripring_scheduler_schedule_contiguous_operations.Kinds as schedule_contiguous_operations_kinds
use Rattle.stripring.proofs.schedule.stripring_scheduler_schedule_contiguous_operations.Reads as schedule_contiguous_operations
use Rattle.stripring.proofs.schedule.stripring_scheduler_schedule_reads.Kinds as schedule_reads_kinds
use Rattle.stripring.proofs.schedule.stripring_scheduler_schedule_reads.Reads as schedule_reads
use Rattle.stripring.proofs.schedule.stripring_scheduler_schedule_writes.Kinds as schedule_writes_kinds
use Rattle.stripring.proofs.schedule.stripring_scheduler_schedule_writes.Reads as schedule_writes
use Rattle.stripring.proofs.list.stripring_operations_try_new.Kinds as operations_try_new_kinds
use Rattle.stripring.proofs.list.stripring_operations_try_new.Reads as operations_try_new
use Rattle.stripring.proofs.list.stripring_operations_container.Kinds as operations_container_kinds
use Rattle.stripring.proofs.list.stripring_operations_container.Reads as operations_container
use Rattle.stripring.proofs.list.stripring_operations_into_container.Kinds as operations_into_container_kinds
use Rattle.stripring.proofs.list.stripring_operations_into_container.Reads as operations_into_container
use Rattle.stripring.proofs.list.stripring_operations_cumulative_operation_length.Kinds as operations_cumulative_operation_length_kinds
use Rattle.stripring.proofs.list.stripring_operations_cumulative_operation_length.Reads as operations_cumulative_operation_length
use Rattle.stripring.proofs.list.stripring_operations_with_cumulative_offset.Kinds as operations_with_cumulative_offset_kinds
use Rattle.stripring.proofs.list.stripring_operations_with_cumulative_offset.Reads as operations_with_cumulative_offset
use Rattle.stripring.proofs.list.stripring_operations_with_outside_buffer_range.Kinds as operations_with_outside_buffer_range_kinds
use Rattle.stripring.proofs.list.stripring_operations_with_outside_buffer_range.Reads as operations_with_outside_buffer_range

-- ---- the record and its checks
pub try_new_refuses : Keeps 0 try_new_kinds.ps try_new_kinds.r try_new.Learnt (λ κs a z. GivenAt (GivenCounters a.0 (record { 0 = 0 }) (record { 0 = 0 })) z.refusal)
try_new_refuses κs a z (ws, p) = rw (try_new_says κs a z ws p) (checked_given (sound_of (scheduler_of a.0 (record { 0 = 0 }) (record { 0 = 0 }))) (refuses.try_new_refuses tt (a.0, tt) (sound_of (scheduler_of a.0 (record { 0 = 0 }) (record { 0 = 0 }))) ((tt, tt), refl)))

pub try_from_counters_refuses : Keeps 0 try_from_counters_kinds.ps try_from_counters_kinds.r try_from_counters.Learnt (λ κs a z. GivenAt (GivenCounters a.0 (record { 0 = a.1.0 }) (record { 0 = a.1.1.0 })) z.refusal)
try_from_counters_refuses κs a z (ws, p) = rw (try_from_counters_says κs a z ws p) (checked_given (sound_of (scheduler_of a.0 (record { 0 = a.1.0 }) (record { 0 = a.1.1.0 }))) (refuses.try_from_counters_refuses tt (a.0, (record { 0 = a.1.0 }, (record { 0 = a.1.1.0 }, tt))) (sound_of (scheduler_of a.0 (record { 0 = a.1.0 }) (record { 0 = a.1.1.0 }))) ((tt, (tt, (tt, tt))), refl)))

pub try_with_counter_refuses : Keeps 0 try_with_counter_kinds.ps try_with_counter_kinds.r try_with_counter.Learnt (λ κs a z. GivenAt (GivenWith (scheduler_at a.0) (type_at a.1.0) (record { 0 = a.1.1.0 })) z.refusal)
try_with_counter_refuses κs a z (ws, p) = rw (try_with_counter_says κs a z ws p) (checked_given (with_counter_of (scheduler_at a.0) (type_at a.1.0) (record { 0 = a.1.1.0 })) (refuses.try_with_counter_refuses tt (scheduler_at a.0, (type_at a.1.0, (record { 0 = a.1.1.0 }, tt))) (with_counter_of (scheduler_at a.0) (type_at a.1.0) (record { 0 = a.1.1.0 })) ((tt, (tt, (tt, tt))), refl)))

pub demand_soundness_refuses : Keeps 0 demand_soundness_kinds.ps demand_soundness_kinds.r demand_soundness.Learnt (λ κs a z. GivenAt (Given (scheduler_at a.0)) z.refusal)
demand_soundness_refuses κs a z (ws, p) = rw (demand_soundness_says κs a z ws p) (checked_given (sound_of (scheduler_at a.0)) (refuses.demand_soundness_refuses tt (scheduler_at a.0, tt) (sound_of (scheduler_at a.0)) ((tt, tt), refl)))

-- ---- registering
pub try_register_read_refuses : Keeps 0 try_register_read_kinds.ps try_register_read_kinds.r try_register_read.Learnt (λ κs a z. GivenAt (GivenRegister (scheduler_at a.0) Read a.1.0) z.refusal)
try_register_read_refuses κs a z (ws, p) = rw (try_register_read_says κs a z ws p) (checked_given (register_of (scheduler_at a.0) Read a.1.0) (refuses.try_register_read_refuses tt (scheduler_at a.0, (a.1.0, tt)) (register_of (scheduler_at a.0) Read a.1.0) ((tt, (tt, tt)), refl)))

pub try_register_write_refuses : Keeps 0 try_register_write_kinds.ps try_register_write_kinds.r try_register_write.Learnt (λ κs a z. GivenAt (GivenRegister (scheduler_at a.0) Write a.1.0) z.refusal)
try_register_write_refuses κs a z (ws, p) = rw (try_register_write_says κs a z ws p) (checked_given (register_of (scheduler_at a.0) Write a.1.0) (refuses.try_register_write_refuses tt (scheduler_at a.0, (a.1.0, tt)) (register_of (scheduler_at a.0) Write a.1.0) ((tt, (tt, tt)), refl)))

pub try_register_operation_manually_refuses : Keeps 0 try_register_operation_manually_kinds.ps try_register_operation_manually_kinds.r try_register_operation_manually.Learnt (λ κs a z. GivenAt (GivenRegister (scheduler_at a.0) (type_at a.1.0) a.1.1.0) z.refusal)
try_register_operation_manually_refuses κs a z (ws, p) = rw (try_register_operation_manually_says κs a z ws p) (checked_given (register_of (scheduler_at a.0) (type_at a.1.0) a.1.1.0) (refuses.try_register_operation_manually_refuses tt (scheduler_at a.0, (type_at a.1.0, (a.1.1.0, tt))) (register_of (scheduler_at a.0) (type_at a.1.0) a.1.1.0) ((tt, (tt, (tt, tt))), refl)))

pub try_register_operation_refuses : Keeps 0 try_register_operation_kinds.ps try_register_operation_kinds.r try_register_operation.Learnt (λ κs a z. GivenAt (GivenRegister (scheduler_at a.0) (operation_at a.1.0).typ (operation_at a.1.0).len) z.refusal)
try_register_operation_refuses κs a z (ws, p) = rw (try_register_operation_says κs a z ws p) (checked_given (register_of (scheduler_at a.0) (operation_at a.1.0).typ (operation_at a.1.0).len) (refuses.try_register_operation_refuses tt (scheduler_at a.0, (operation_at a.1.0, tt)) (register_of (scheduler_at a.0) (operation_at a.1.0).typ (operation_at a.1.0).len) ((tt, (tt, tt)), refl)))

pub try_register_operations_refuses : Keeps 0 try_register_operations_kinds.ps try_register_operations_kinds.r try_register_operations.Learnt (λ κs a z. GivenAt (GivenOperations (scheduler_at a.0) (operations_at a.1.0)) z.refusal)
try_register_operations_refuses κs a z (ws, p) = rw (try_register_operations_says κs a z ws p) (checked_given (register_list_of (scheduler_at a.0) (operations_at a.1.0)) (refuses.try_register_operations_refuses tt (scheduler_at a.0, (operations_at a.1.0, tt)) (register_list_of (scheduler_at a.0) (operations_at a.1.0)) ((tt, (tt, tt)), refl)))

-- ---- counters and offsets
pub items_read_refuses : Keeps 0 items_read_kinds.ps items_read_kinds.r items_read.Learnt (λ κs a z. GivenAt (Given (scheduler_at a.0)) z.refusal)
items_read_refuses κs a z (ws, p) = rw (items_read_says κs a z ws p) (counter_given (counter_answer_of (scheduler_at a.0) Read) (refuses.items_read_refuses tt (scheduler_at a.0, tt) (counter_answer_of (scheduler_at a.0) Read) ((tt, tt), refl)))

pub items_written_refuses : Keeps 0 items_written_kinds.ps items_written_kinds.r items_written.Learnt (λ κs a z. GivenAt (Given (scheduler_at a.0)) z.refusal)
items_written_refuses κs a z (ws, p) = rw (items_written_says κs a z ws p) (counter_given (counter_answer_of (scheduler_at a.0) Write) (refuses.items_written_refuses tt (scheduler_at a.0, tt) (counter_answer_of (scheduler_at a.0) Write) ((tt, tt), refl)))

pub operation_counter_refuses : Keeps 0 operation_counter_kinds.ps operation_counter_kinds.r operation_counter.Learnt (λ κs a z. GivenAt (Given (scheduler_at a.0)) z.refusal)
operation_counter_refuses κs a z (ws, p) = rw (operation_counter_says κs a z ws p) (counter_given (counter_answer_of (scheduler_at a.0) (type_at a.1.0)) (refuses.operation_counter_refuses tt (scheduler_at a.0, (type_at a.1.0, tt)) (counter_answer_of (scheduler_at a.0) (type_at a.1.0)) ((tt, (tt, tt)), refl)))

pub read_off_refuses : Keeps 0 read_off_kinds.ps read_off_kinds.r read_off.Learnt (λ κs a z. GivenAt (Given (scheduler_at a.0)) z.refusal)
read_off_refuses κs a z (ws, p) = rw (read_off_says κs a z ws p) (offset_given (offset_answer_of (scheduler_at a.0) Read) (refuses.read_off_refuses tt (scheduler_at a.0, tt) (offset_answer_of (scheduler_at a.0) Read) ((tt, tt), refl)))

pub write_off_refuses : Keeps 0 write_off_kinds.ps write_off_kinds.r write_off.Learnt (λ κs a z. GivenAt (Given (scheduler_at a.0)) z.refusal)
write_off_refuses κs a z (ws, p) = rw (write_off_says κs a z ws p) (offset_given (offset_answer_of (scheduler_at a.0) Write) (refuses.write_off_refuses tt (scheduler_at a.0, tt) (offset_answer_of (scheduler_at a.0) Write) ((tt, tt), refl)))

pub operation_offset_refuses : Keeps 0 operation_offset_kinds.ps operation_offset_kinds.r operation_offset.Learnt (λ κs a z. GivenAt (Given (scheduler_at a.0)) z.refusal)
operation_offset_refuses κs a z (ws, p) = rw (operation_offset_says κs a z ws p) (offset_given (offset_answer_of (scheduler_at a.0) (type_at a.1.0)) (refuses.operation_offset_refuses tt (scheduler_at a.0, (type_at a.1.0, tt)) (offset_answer_of (scheduler_at a.0) (type_at a.1.0)) ((tt, (tt, tt)), refl)))

pub buf_len_refuses : Keeps 0 buf_len_kinds.ps buf_len_kinds.r buf_len.Learnt (λ κs a z. GivenAt (Given (scheduler_at a.0)) z.refusal)
buf_len_refuses κs a z (ws, p) = rw (buf_len_says κs a z ws p) (amount_given (buf_len_of (scheduler_at a.0)) (refuses.buf_len_refuses tt (scheduler_at a.0, tt) (buf_len_of (scheduler_at a.0)) ((tt, tt), refl)))

pub is_zero_sized_refuses : Keeps 0 is_zero_sized_kinds.ps is_zero_sized_kinds.r is_zero_sized.Learnt (λ κs a z. GivenAt (Given (scheduler_at a.0)) z.refusal)
is_zero_sized_refuses κs a z (ws, p) = rw (is_zero_sized_says κs a z ws p) (bool_given (is_zero_from (buf_len_of (scheduler_at a.0))) (refuses.is_zero_sized_refuses tt (scheduler_at a.0, tt) (is_zero_from (buf_len_of (scheduler_at a.0))) ((tt, tt), refl)))

-- ---- data, space and fill state
pub data_avail_refuses : Keeps 0 data_avail_kinds.ps data_avail_kinds.r data_avail.Learnt (λ κs a z. GivenAt (Given (scheduler_at a.0)) z.refusal)
data_avail_refuses κs a z (ws, p) = rw (data_avail_says κs a z ws p) (amount_given (greatest_of (scheduler_at a.0) Read) (refuses.data_avail_refuses tt (scheduler_at a.0, tt) (greatest_of (scheduler_at a.0) Read) ((tt, tt), refl)))

pub space_avail_refuses : Keeps 0 space_avail_kinds.ps space_avail_kinds.r space_avail.Learnt (λ κs a z. GivenAt (Given (scheduler_at a.0)) z.refusal)
space_avail_refuses κs a z (ws, p) = rw (space_avail_says κs a z ws p) (amount_given (greatest_of (scheduler_at a.0) Write) (refuses.space_avail_refuses tt (scheduler_at a.0, tt) (greatest_of (scheduler_at a.0) Write) ((tt, tt), refl)))

pub max_operation_len_refuses : Keeps 0 max_operation_len_kinds.ps max_operation_len_kinds.r max_operation_len.Learnt (λ κs a z. GivenAt (Given (scheduler_at a.0)) z.refusal)
max_operation_len_refuses κs a z (ws, p) = rw (max_operation_len_says κs a z ws p) (amount_given (greatest_of (scheduler_at a.0) (type_at a.1.0)) (refuses.max_operation_len_refuses tt (scheduler_at a.0, (type_at a.1.0, tt)) (greatest_of (scheduler_at a.0) (type_at a.1.0)) ((tt, (tt, tt)), refl)))

pub fill_state_refuses : Keeps 0 fill_state_kinds.ps fill_state_kinds.r fill_state.Learnt (λ κs a z. GivenAt (Given (scheduler_at a.0)) z.refusal)
fill_state_refuses κs a z (ws, p) = rw (fill_state_says κs a z ws p) (fill_given (fill_state_of (scheduler_at a.0)) (refuses.fill_state_refuses tt (scheduler_at a.0, tt) (fill_state_of (scheduler_at a.0)) ((tt, tt), refl)))

pub is_empty_refuses : Keeps 0 is_empty_kinds.ps is_empty_kinds.r is_empty.Learnt (λ κs a z. GivenAt (Given (scheduler_at a.0)) z.refusal)
is_empty_refuses κs a z (ws, p) = rw (is_empty_says κs a z ws p) (bool_given (is_zero_from (greatest_of (scheduler_at a.0) Read)) (refuses.is_empty_refuses tt (scheduler_at a.0, tt) (is_zero_from (greatest_of (scheduler_at a.0) Read)) ((tt, tt), refl)))

pub is_full_refuses : Keeps 0 is_full_kinds.ps is_full_kinds.r is_full.Learnt (λ κs a z. GivenAt (Given (scheduler_at a.0)) z.refusal)
is_full_refuses κs a z (ws, p) = rw (is_full_says κs a z ws p) (bool_given (is_zero_from (greatest_of (scheduler_at a.0) Write)) (refuses.is_full_refuses tt (scheduler_at a.0, tt) (is_zero_from (greatest_of (scheduler_at a.0) Write)) ((tt, tt), refl)))

pub is_nonempty_refuses : Keeps 0 is_nonempty_kinds.ps is_nonempty_kinds.r is_nonempty.Learnt (λ κs a z. GivenAt (Given (scheduler_at a.0)) z.refusal)
is_nonempty_refuses κs a z (ws, p) = rw (is_nonempty_says κs a z ws p) (bool_given (is_positive_from (greatest_of (scheduler_at a.0) Read)) (refuses.is_nonempty_refuses tt (scheduler_at a.0, tt) (is_positive_from (greatest_of (scheduler_at a.0) Read)) ((tt, tt), refl)))

pub is_nonfull_refuses : Keeps 0 is_nonfull_kinds.ps is_nonfull_kinds.r is_nonfull.Learnt (λ κs a z. GivenAt (Given (scheduler_at a.0)) z.refusal)
is_nonfull_refuses κs a z (ws, p) = rw (is_nonfull_says κs a z ws p) (bool_given (is_positive_from (greatest_of (scheduler_at a.0) Write)) (refuses.is_nonfull_refuses tt (scheduler_at a.0, tt) (is_positive_from (greatest_of (scheduler_at a.0) Write)) ((tt, tt), refl)))

-- ---- layout and blocks
pub layout_refuses : Keeps 0 layout_kinds.ps layout_kinds.r layout.Learnt (λ κs a z. GivenAt (Given (scheduler_at a.0)) z.refusal)
layout_refuses κs a z (ws, p) = rw (layout_says κs a z ws p) (layout_given (layout_of (scheduler_at a.0)) (refuses.layout_refuses tt (scheduler_at a.0, tt) (layout_of (scheduler_at a.0)) ((tt, tt), refl)))

pub blocks_refuses : Keeps 0 blocks_kinds.ps blocks_kinds.r blocks.Learnt (λ κs a z. GivenAt (Given (scheduler_at a.0)) z.refusal)
blocks_refuses κs a z (ws, p) = rw (blocks_says κs a z ws p) (blocks_given (blocks_of (scheduler_at a.0)) (refuses.blocks_refuses tt (scheduler_at a.0, tt) (blocks_of (scheduler_at a.0)) ((tt, tt), refl)))

pub block_0_refuses : Keeps 0 block_0_kinds.ps block_0_kinds.r block_0.Learnt (λ κs a z. GivenAt (Given (scheduler_at a.0)) z.refusal)
block_0_refuses κs a z (ws, p) = rw (block_0_says κs a z ws p) (block_given (block0_from (blocks_of (scheduler_at a.0))) (refuses.block_0_refuses tt (scheduler_at a.0, tt) (block0_from (blocks_of (scheduler_at a.0))) ((tt, tt), refl)))

pub block_1_refuses : Keeps 0 block_1_kinds.ps block_1_kinds.r block_1.Learnt (λ κs a z. GivenAt (Given (scheduler_at a.0)) z.refusal)
block_1_refuses κs a z (ws, p) = rw (block_1_says κs a z ws p) (block_given (block1_from (blocks_of (scheduler_at a.0))) (refuses.block_1_refuses tt (scheduler_at a.0, tt) (block1_from (blocks_of (scheduler_at a.0))) ((tt, tt), refl)))

pub block_2_refuses : Keeps 0 block_2_kinds.ps block_2_kinds.r block_2.Learnt (λ κs a z. GivenAt (Given (scheduler_at a.0)) z.refusal)
block_2_refuses κs a z (ws, p) = rw (block_2_says κs a z ws p) (block_given (block2_from (blocks_of (scheduler_at a.0))) (refuses.block_2_refuses tt (scheduler_at a.0, tt) (block2_from (blocks_of (scheduler_at a.0))) ((tt, tt), refl)))

pub block_0_off_refuses : Keeps 0 block_0_off_kinds.ps block_0_off_kinds.r block_0_off.Learnt (λ κs a z. GivenAt (Given (scheduler_at a.0)) z.refusal)
block_0_off_refuses κs a z (ws, p) = rw (block_0_off_says κs a z ws p) (offset_given (off_from (block0_from (blocks_of (scheduler_at a.0)))) (refuses.block_0_off_refuses tt (scheduler_at a.0, tt) (off_from (block0_from (blocks_of (scheduler_at a.0)))) ((tt, tt), refl)))

pub block_1_off_refuses : Keeps 0 block_1_off_kinds.ps block_1_off_kinds.r block_1_off.Learnt (λ κs a z. GivenAt (Given (scheduler_at a.0)) z.refusal)
block_1_off_refuses κs a z (ws, p) = rw (block_1_off_says κs a z ws p) (offset_given (off_from (block1_from (blocks_of (scheduler_at a.0)))) (refuses.block_1_off_refuses tt (scheduler_at a.0, tt) (off_from (block1_from (blocks_of (scheduler_at a.0)))) ((tt, tt), refl)))

pub block_2_off_refuses : Keeps 0 block_2_off_kinds.ps block_2_off_kinds.r block_2_off.Learnt (λ κs a z. GivenAt (Given (scheduler_at a.0)) z.refusal)
block_2_off_refuses κs a z (ws, p) = rw (block_2_off_says κs a z ws p) (offset_given (off_from (block2_from (blocks_of (scheduler_at a.0)))) (refuses.block_2_off_refuses tt (scheduler_at a.0, tt) (off_from (block2_from (blocks_of (scheduler_at a.0)))) ((tt, tt), refl)))

pub block_0_len_refuses : Keeps 0 block_0_len_kinds.ps block_0_len_kinds.r block_0_len.Learnt (λ κs a z. GivenAt (Given (scheduler_at a.0)) z.refusal)
block_0_len_refuses κs a z (ws, p) = rw (block_0_len_says κs a z ws p) (amount_given (len_from (block0_from (blocks_of (scheduler_at a.0)))) (refuses.block_0_len_refuses tt (scheduler_at a.0, tt) (len_from (block0_from (blocks_of (scheduler_at a.0)))) ((tt, tt), refl)))

pub block_1_len_refuses : Keeps 0 block_1_len_kinds.ps block_1_len_kinds.r block_1_len.Learnt (λ κs a z. GivenAt (Given (scheduler_at a.0)) z.refusal)
block_1_len_refuses κs a z (ws, p) = rw (block_1_len_says κs a z ws p) (amount_given (len_from (block1_from (blocks_of (scheduler_at a.0)))) (refuses.block_1_len_refuses tt (scheduler_at a.0, tt) (len_from (block1_from (blocks_of (scheduler_at a.0)))) ((tt, tt), refl)))

pub block_2_len_refuses : Keeps 0 block_2_len_kinds.ps block_2_len_kinds.r block_2_len.Learnt (λ κs a z. GivenAt (Given (scheduler_at a.0)) z.refusal)
block_2_len_refuses κs a z (ws, p) = rw (block_2_len_says κs a z ws p) (amount_given (len_from (block2_from (blocks_of (scheduler_at a.0)))) (refuses.block_2_len_refuses tt (scheduler_at a.0, tt) (len_from (block2_from (blocks_of (scheduler_at a.0)))) ((tt, tt), refl)))

pub next_operation_block_refuses : Keeps 0 next_operation_block_kinds.ps next_operation_block_kinds.r next_operation_block.Learnt (λ κs a z. GivenAt (Given (scheduler_at a.0)) z.refusal)
next_operation_block_refuses κs a z (ws, p) = rw (next_operation_block_says κs a z ws p) (block_given (next_block_of (scheduler_at a.0) (type_at a.1.0)) (refuses.next_operation_block_refuses tt (scheduler_at a.0, (type_at a.1.0, tt)) (next_block_of (scheduler_at a.0) (type_at a.1.0)) ((tt, (tt, tt)), refl)))

pub next_read_block_refuses : Keeps 0 next_read_block_kinds.ps next_read_block_kinds.r next_read_block.Learnt (λ κs a z. GivenAt (Given (scheduler_at a.0)) z.refusal)
next_read_block_refuses κs a z (ws, p) = rw (next_read_block_says κs a z ws p) (block_given (next_block_of (scheduler_at a.0) Read) (refuses.next_read_block_refuses tt (scheduler_at a.0, tt) (next_block_of (scheduler_at a.0) Read) ((tt, tt), refl)))

pub next_write_block_refuses : Keeps 0 next_write_block_kinds.ps next_write_block_kinds.r next_write_block.Learnt (λ κs a z. GivenAt (Given (scheduler_at a.0)) z.refusal)
next_write_block_refuses κs a z (ws, p) = rw (next_write_block_says κs a z ws p) (block_given (next_block_of (scheduler_at a.0) Write) (refuses.next_write_block_refuses tt (scheduler_at a.0, tt) (next_block_of (scheduler_at a.0) Write) ((tt, tt), refl)))

-- ---- scheduling
pub schedule_next_contiguous_operation_refuses : Keeps 0 schedule_next_contiguous_operation_kinds.ps schedule_next_contiguous_operation_kinds.r schedule_next_contiguous_operation.Learnt (λ κs a z. GivenAt (Given (scheduler_at a.0)) z.refusal)
schedule_next_contiguous_operation_refuses κs a z (ws, p) = rw (schedule_next_contiguous_operation_says κs a z ws p) (next_given (next_of (scheduler_at a.0) (type_at a.1.0) a.1.1.0) (refuses.schedule_next_contiguous_operation_refuses tt (scheduler_at a.0, (type_at a.1.0, (a.1.1.0, tt))) (next_of (scheduler_at a.0) (type_at a.1.0) a.1.1.0) ((tt, (tt, (tt, tt))), refl)))

pub schedule_next_read_refuses : Keeps 0 schedule_next_read_kinds.ps schedule_next_read_kinds.r schedule_next_read.Learnt (λ κs a z. GivenAt (Given (scheduler_at a.0)) z.refusal)
schedule_next_read_refuses κs a z (ws, p) = rw (schedule_next_read_says κs a z ws p) (next_given (next_of (scheduler_at a.0) Read a.1.0) (refuses.schedule_next_read_refuses tt (scheduler_at a.0, (a.1.0, tt)) (next_of (scheduler_at a.0) Read a.1.0) ((tt, (tt, tt)), refl)))

pub schedule_next_write_refuses : Keeps 0 schedule_next_write_kinds.ps schedule_next_write_kinds.r schedule_next_write.Learnt (λ κs a z. GivenAt (Given (scheduler_at a.0)) z.refusal)
schedule_next_write_refuses κs a z (ws, p) = rw (schedule_next_write_says κs a z ws p) (next_given (next_of (scheduler_at a.0) Write a.1.0) (refuses.schedule_next_write_refuses tt (scheduler_at a.0, (a.1.0, tt)) (next_of (scheduler_at a.0) Write a.1.0) ((tt, (tt, tt)), refl)))

pub schedule_contiguous_operations_refuses : Keeps 0 schedule_contiguous_operations_kinds.ps schedule_contiguous_operations_kinds.r schedule_contiguous_operations.Learnt (λ κs a z. GivenAt (Given (scheduler_at a.0)) z.refusal)
schedule_contiguous_operations_refuses κs a z (ws, p) = rw (schedule_contiguous_operations_says κs a z ws p) (schedule_given (schedule_of (scheduler_at a.0) (type_at a.1.0) a.1.1.0) (refuses.schedule_contiguous_operations_refuses tt (scheduler_at a.0, (type_at a.1.0, (a.1.1.0, tt))) (schedule_of (scheduler_at a.0) (type_at a.1.0) a.1.1.0) ((tt, (tt, (tt, tt))), refl)))

pub schedule_reads_refuses : Keeps 0 schedule_reads_kinds.ps schedule_reads_kinds.r schedule_reads.Learnt (λ κs a z. GivenAt (Given (scheduler_at a.0)) z.refusal)
schedule_reads_refuses κs a z (ws, p) = rw (schedule_reads_says κs a z ws p) (schedule_given (schedule_of (scheduler_at a.0) Read a.1.0) (refuses.schedule_reads_refuses tt (scheduler_at a.0, (a.1.0, tt)) (schedule_of (scheduler_at a.0) Read a.1.0) ((tt, (tt, tt)), refl)))

pub schedule_writes_refuses : Keeps 0 schedule_writes_kinds.ps schedule_writes_kinds.r schedule_writes.Learnt (λ κs a z. GivenAt (Given (scheduler_at a.0)) z.refusal)
schedule_writes_refuses κs a z (ws, p) = rw (schedule_writes_says κs a z ws p) (schedule_given (schedule_of (scheduler_at a.0) Write a.1.0) (refuses.schedule_writes_refuses tt (scheduler_at a.0, (a.1.0, tt)) (schedule_of (scheduler_at a.0) Write a.1.0) ((tt, (tt, tt)), refl)))

-- ---- lists
pub operations_try_new_refuses : Keeps 0 operations_try_new_kinds.ps operations_try_new_kinds.r operations_try_new.Learnt (λ κs a z. GivenAt (GivenList (operations_at a.0)) z.refusal)
operations_try_new_refuses κs a z (ws, p) = rw (operations_try_new_says κs a z ws p) (operations_given (sound_list_of (operations_at a.0)) (lists.ScheduledOperations-try-new-refuses tt (operations_at a.0, tt) (sound_list_of (operations_at a.0)) ((tt, tt), refl)))

pub operations_container_refuses : Keeps 0 operations_container_kinds.ps operations_container_kinds.r operations_container.Learnt (λ κs a z. GivenAt (GivenList (operations_at a.0)) z.refusal)
operations_container_refuses κs a z (ws, p) = rw (operations_container_says κs a z ws p) (operations_given (sound_list_of (operations_at a.0)) (lists.container_refuses tt (operations_at a.0, tt) (sound_list_of (operations_at a.0)) ((tt, tt), refl)))

pub operations_into_container_refuses : Keeps 0 operations_into_container_kinds.ps operations_into_container_kinds.r operations_into_container.Learnt (λ κs a z. GivenAt (GivenList (operations_at a.0)) z.refusal)
operations_into_container_refuses κs a z (ws, p) = rw (operations_into_container_says κs a z ws p) (operations_given (sound_list_of (operations_at a.0)) (lists.into_container_refuses tt (operations_at a.0, tt) (sound_list_of (operations_at a.0)) ((tt, tt), refl)))

pub operations_cumulative_operation_length_refuses : Keeps 0 operations_cumulative_operation_length_kinds.ps operations_cumulative_operation_length_kinds.r operations_cumulative_operation_length.Learnt (λ κs a z. GivenAt (GivenList (operations_at a.0)) z.refusal)
operations_cumulative_operation_length_refuses κs a z (ws, p) = rw (operations_cumulative_operation_length_says κs a z ws p) (amount_given (cumulative_length_of (operations_at a.0)) (lists.cumulative_operation_length_refuses tt (operations_at a.0, tt) (cumulative_length_of (operations_at a.0)) ((tt, tt), refl)))

pub operations_with_cumulative_offset_refuses : Keeps 0 operations_with_cumulative_offset_kinds.ps operations_with_cumulative_offset_kinds.r operations_with_cumulative_offset.Learnt (λ κs a z. GivenAt (GivenList (operations_at a.0)) z.refusal)
operations_with_cumulative_offset_refuses κs a z (ws, p) = rw (operations_with_cumulative_offset_says κs a z ws p) (starts_given (cumulative_offsets_of (operations_at a.0)) (lists.with_cumulative_offset_refuses tt (operations_at a.0, tt) (cumulative_offsets_of (operations_at a.0)) ((tt, tt), refl)))

pub operations_with_outside_buffer_range_refuses : Keeps 0 operations_with_outside_buffer_range_kinds.ps operations_with_outside_buffer_range_kinds.r operations_with_outside_buffer_range.Learnt (λ κs a z. GivenAt (GivenList (operations_at a.0)) z.refusal)
operations_with_outside_buffer_range_refuses κs a z (ws, p) = rw (operations_with_outside_buffer_range_says κs a z ws p) (ranges_given (outside_ranges_of (operations_at a.0)) (lists.with_outside_buffer_range_refuses tt (operations_at a.0, tt) (outside_ranges_of (operations_at a.0)) ((tt, tt), refl)))
