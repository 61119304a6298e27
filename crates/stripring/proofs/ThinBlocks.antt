-- Thin.antt, of the scheduler: blocks and scheduling; of its lists, operations, blocks and differences, in the order of the C header.
use mathlib.Core.Path.{sym, ap, ◌∙◌}
use Rattle.flat.specs.Block.{bit_at, block_type_at, flat_block, flat_block_answer, flat_blocks, flat_layout}
use Rattle.flat.specs.Counter.{flat_amount, flat_offset}
use Rattle.flat.specs.Diff.{diff_at, flat_diff}
use Rattle.flat.specs.List.{flat_operations_answer, flat_schedule, flat_ranges_answer, flat_starts_answer, operations_at}
use Rattle.flat.specs.Operation.{flat_next, flat_operation, type_at}
use Rattle.flat.specs.Scheduler.{scheduler_at}
use Rattle.stripring.proofs.Thin.{Thin}
use Rattle.stripring.proofs.schedule.stripring_scheduler_layout.Kinds as layout_kinds
use Rattle.stripring.proofs.schedule.stripring_scheduler_layout.Reads as layout
use Rattle.sched.proofs.scheduler.RingBufferScheduler.layout.Kinds as lib_layout_kinds
use Rattle.sched.proofs.scheduler.RingBufferScheduler.layout.Reads as lib_layout
use Rattle.stripring.proofs.schedule.stripring_scheduler_blocks.Kinds as blocks_kinds
use Rattle.stripring.proofs.schedule.stripring_scheduler_blocks.Reads as blocks
use Rattle.sched.proofs.scheduler.RingBufferScheduler.blocks.Kinds as lib_blocks_kinds
use Rattle.sched.proofs.scheduler.RingBufferScheduler.blocks.Reads as lib_blocks
use Rattle.stripring.proofs.schedule.stripring_scheduler_block_0.Kinds as block_0_kinds
use Rattle.stripring.proofs.schedule.stripring_scheduler_block_0.Reads as block_0
use Rattle.sched.proofs.scheduler.RingBufferScheduler.block_0.Kinds as lib_block_0_kinds
use Rattle.sched.proofs.scheduler.RingBufferScheduler.block_0.Reads as lib_block_0
use Rattle.stripring.proofs.schedule.stripring_scheduler_block_1.Kinds as block_1_kinds
use Rattle.stripring.proofs.schedule.stripring_scheduler_block_1.Reads as block_1
use Rattle.sched.proofs.scheduler.RingBufferScheduler.block_1.Kinds as lib_block_1_kinds
use Rattle.sched.proofs.scheduler.RingBufferScheduler.block_1.Reads as lib_block_1
use Rattle.stripring.proofs.schedule.stripring_scheduler_block_2.Kinds as block_2_kinds
use Rattle.stripring.proofs.schedule.stripring_scheduler_block_2.Reads as block_2
use Rattle.sched.proofs.scheduler.RingBufferScheduler.block_2.Kinds as lib_block_2_kinds
use Rattle.sched.proofs.scheduler.RingBufferScheduler.block_2.Reads as lib_block_2
use Rattle.stripring.proofs.schedule.stripring_scheduler_block_0_off.Kinds as block_0_off_kinds
use Rattle.stripring.proofs.schedule.stripring_scheduler_block_0_off.Reads as block_0_off
use Rattle.sched.proofs.scheduler.RingBufferScheduler.block_0_off.Kinds as lib_block_0_off_kinds
use Rattle.sched.proofs.scheduler.RingBufferScheduler.block_0_off.Reads as lib_block_0_off
use Rattle.stripring.proofs.schedule.stripring_scheduler_block_1_off.Kinds as block_1_off_kinds
use Rattle.stripring.proofs.schedule.stripring_scheduler_block_1_off.Reads as block_1_off
use Rattle.sched.proofs.scheduler.RingBufferScheduler.block_1_off.Kinds as lib_block_1_off_kinds
use Rattle.sched.proofs.scheduler.RingBufferScheduler.block_1_off.Reads as lib_block_1_off
use Rattle.stripring.proofs.schedule.stripring_scheduler_block_2_off.Kinds as block_2_off_kinds
use Rattle.stripring.proofs.schedule.stripring_scheduler_block_2_off.Reads as block_2_off
use Rattle.sched.proofs.scheduler.RingBufferScheduler.block_2_off.Kinds as lib_block_2_off_kinds
use Rattle.sched.proofs.scheduler.RingBufferScheduler.block_2_off.Reads as lib_block_2_off
use Rattle.stripring.proofs.schedule.stripring_scheduler_block_0_len.Kinds as block_0_len_kinds
use Rattle.stripring.proofs.schedule.stripring_scheduler_block_0_len.Reads as block_0_len
use Rattle.sched.proofs.scheduler.RingBufferScheduler.block_0_len.Kinds as lib_block_0_len_kinds
use Rattle.sched.proofs.scheduler.RingBufferScheduler.block_0_len.Reads as lib_block_0_len
use Rattle.stripring.proofs.schedule.stripring_scheduler_block_1_len.Kinds as block_1_len_kinds
use Rattle.stripring.proofs.schedule.stripring_scheduler_block_1_len.Reads as block_1_len
use Rattle.sched.proofs.scheduler.RingBufferScheduler.block_1_len.Kinds as lib_block_1_len_kinds
use Rattle.sched.proofs.scheduler.RingBufferScheduler.block_1_len.Reads as lib_block_1_len
use Rattle.stripring.proofs.schedule.stripring_scheduler_block_2_len.Kinds as block_2_len_kinds
use Rattle.stripring.proofs.schedule.stripring_scheduler_block_2_len.Reads as block_2_len
use Rattle.sched.proofs.scheduler.RingBufferScheduler.block_2_len.Kinds as lib_block_2_len_kinds
use Rattle.sched.proofs.scheduler.RingBufferScheduler.block_2_len.Reads as lib_block_2_len
use Rattle.stripring.proofs.schedule.stripring_scheduler_next_operation_block.Kinds as next_operation_block_kinds
use Rattle.stripring.proofs.schedule.stripring_scheduler_next_operation_block.Reads as next_operation_block
use Rattle.sched.proofs.scheduler.RingBufferScheduler.next_operation_block.Kinds as lib_next_operation_block_kinds
use Rattle.sched.proofs.scheduler.RingBufferScheduler.next_operation_block.Reads as lib_next_operation_block
use Rattle.stripring.proofs.schedule.stripring_scheduler_next_read_block.Kinds as next_read_block_kinds
use Rattle.stripring.proofs.schedule.stripring_scheduler_next_read_block.Reads as next_read_block
use Rattle.sched.proofs.scheduler.RingBufferScheduler.next_read_block.Kinds as lib_next_read_block_kinds
use Rattle.sched.proofs.scheduler.RingBufferScheduler.next_read_block.Reads as lib_next_read_block
use Rattle.stripring.proofs.schedule.stripring_scheduler_next_write_block.Kinds as next_write_block_kinds
use Rattle.stripring.proofs.schedule.stripring_scheduler_next_write_block.Reads as next_write_block
use Rattle.sched.proofs.scheduler.RingBufferScheduler.next_write_block.Kinds as lib_next_write_block_kinds
use Rattle.sched.proofs.scheduler.RingBufferScheduler.next_write_block.Reads as lib_next_write_block
use Rattle.stripring.proofs.schedule.stripring_scheduler_schedule_next_contiguous_operation.Kinds as schedule_next_contiguous_operation_kinds
use Rattle.stripring.proofs.schedule.stripring_scheduler_schedule_next_contiguous_operation.Reads as schedule_next_contiguous_operation
use Rattle.sched.proofs.scheduler.RingBufferScheduler.schedule_next_contiguous_operation.Kinds as lib_schedule_next_contiguous_operation_kinds
use Rattle.sched.proofs.scheduler.RingBufferScheduler.schedule_next_contiguous_operation.Reads as lib_schedule_next_contiguous_operation
use Rattle.stripring.proofs.schedule.stripring_scheduler_schedule_next_read.Kinds as schedule_next_read_kinds
use Rattle.stripring.proofs.schedule.stripring_scheduler_schedule_next_read.Reads as schedule_next_read
use Rattle.sched.proofs.scheduler.RingBufferScheduler.schedule_next_read.Kinds as lib_schedule_next_read_kinds
use Rattle.sched.proofs.scheduler.RingBufferScheduler.schedule_next_read.Reads as lib_schedule_next_read
use Rattle.stripring.proofs.schedule.stripring_scheduler_schedule_next_write.Kinds as schedule_next_write_kinds
use Rattle.stripring.proofs.schedule.stripring_scheduler_schedule_next_write.Reads as schedule_next_write
use Rattle.sched.proofs.scheduler.RingBufferScheduler.schedule_next_write.Kinds as lib_schedule_next_write_kinds
use Rattle.sched.proofs.scheduler.RingBufferScheduler.schedule_next_write.Reads as lib_schedule_next_write
use Rattle.stripring.proofs.schedule.stripring_scheduler_schedule_contiguous_operations.Kinds as schedule_contiguous_operations_kinds
use Rattle.stripring.proofs.schedule.stripring_scheduler_schedule_contiguous_operations.Reads as schedule_contiguous_operations
use Rattle.sched.proofs.scheduler.RingBufferScheduler.schedule_contiguous_operations.Kinds as lib_schedule_contiguous_operations_kinds
use Rattle.sched.proofs.scheduler.RingBufferScheduler.schedule_contiguous_operations.Reads as lib_schedule_contiguous_operations
use Rattle.stripring.proofs.schedule.stripring_scheduler_schedule_reads.Kinds as schedule_reads_kinds
use Rattle.stripring.proofs.schedule.stripring_scheduler_schedule_reads.Reads as schedule_reads
use Rattle.sched.proofs.scheduler.RingBufferScheduler.schedule_reads.Kinds as lib_schedule_reads_kinds
use Rattle.sched.proofs.scheduler.RingBufferScheduler.schedule_reads.Reads as lib_schedule_reads
use Rattle.stripring.proofs.schedule.stripring_scheduler_schedule_writes.Kinds as schedule_writes_kinds
use Rattle.stripring.proofs.schedule.stripring_scheduler_schedule_writes.Reads as schedule_writes
use Rattle.sched.proofs.scheduler.RingBufferScheduler.schedule_writes.Kinds as lib_schedule_writes_kinds
use Rattle.sched.proofs.scheduler.RingBufferScheduler.schedule_writes.Reads as lib_schedule_writes
use Rattle.stripring.proofs.list.stripring_operations_try_new.Kinds as operations_try_new_kinds
use Rattle.stripring.proofs.list.stripring_operations_try_new.Reads as operations_try_new
use Rattle.operations.proofs.list.AtMostTwo+ScheduledOperation.try_new.Kinds as lib_operations_try_new_kinds
use Rattle.operations.proofs.list.AtMostTwo+ScheduledOperation.try_new.Reads as lib_operations_try_new
use Rattle.stripring.proofs.list.stripring_operations_container.Kinds as operations_container_kinds
use Rattle.stripring.proofs.list.stripring_operations_container.Reads as operations_container
use Rattle.operations.proofs.list.AtMostTwo+ScheduledOperation.container.Kinds as lib_operations_container_kinds
use Rattle.operations.proofs.list.AtMostTwo+ScheduledOperation.container.Reads as lib_operations_container
use Rattle.stripring.proofs.list.stripring_operations_into_container.Kinds as operations_into_container_kinds
use Rattle.stripring.proofs.list.stripring_operations_into_container.Reads as operations_into_container
use Rattle.operations.proofs.list.AtMostTwo+ScheduledOperation.into_container.Kinds as lib_operations_into_container_kinds
use Rattle.operations.proofs.list.AtMostTwo+ScheduledOperation.into_container.Reads as lib_operations_into_container
use Rattle.stripring.proofs.list.stripring_operations_cumulative_operation_length.Kinds as operations_cumulative_operation_length_kinds
use Rattle.stripring.proofs.list.stripring_operations_cumulative_operation_length.Reads as operations_cumulative_operation_length
use Rattle.operations.proofs.list.AtMostTwo+ScheduledOperation.cumulative_operation_length.Kinds as lib_operations_cumulative_operation_length_kinds
use Rattle.operations.proofs.list.AtMostTwo+ScheduledOperation.cumulative_operation_length.Reads as lib_operations_cumulative_operation_length
use Rattle.stripring.proofs.list.stripring_operations_with_cumulative_offset.Kinds as operations_with_cumulative_offset_kinds
use Rattle.stripring.proofs.list.stripring_operations_with_cumulative_offset.Reads as operations_with_cumulative_offset
use Rattle.operations.proofs.list.AtMostTwo+ScheduledOperation.with_cumulative_offset.Kinds as lib_operations_with_cumulative_offset_kinds
use Rattle.operations.proofs.list.AtMostTwo+ScheduledOperation.with_cumulative_offset.Reads as lib_operations_with_cumulative_offset
use Rattle.stripring.proofs.list.stripring_operations_with_outside_buffer_range.Kinds as operations_with_outside_buffer_range_kinds
use Rattle.stripring.proofs.list.stripring_operations_with_outside_buffer_range.Reads as operations_with_outside_buffer_range
use Rattle.operations.proofs.list.AtMostTwo+ScheduledOperation.with_outside_buffer_range.Kinds as lib_operations_with_outside_buffer_range_kinds
use Rattle.operations.proofs.list.AtMostTwo+ScheduledOperation.with_outside_buffer_range.Reads as lib_operations_with_outside_buffer_range
use Rattle.stripring.proofs.operation.stripring_operation_new.Kinds as operation_new_kinds
use Rattle.stripring.proofs.operation.stripring_operation_new.Reads as operation_new
use Rattle.operations.proofs.operation.ScheduledOperation.new.Kinds as lib_operation_new_kinds
use Rattle.operations.proofs.operation.ScheduledOperation.new.Reads as lib_operation_new
use Rattle.stripring.proofs.operation.stripring_operation_default.Kinds as operation_default_kinds
use Rattle.stripring.proofs.operation.stripring_operation_default.Reads as operation_default
use Rattle.operations.proofs.operation.ScheduledOperationDefault.default.Kinds as lib_operation_default_kinds
use Rattle.operations.proofs.operation.ScheduledOperationDefault.default.Reads as lib_operation_default
use Rattle.stripring.proofs.block.stripring_block_new.Kinds as block_new_kinds
use Rattle.stripring.proofs.block.stripring_block_new.Reads as block_new
use Rattle.sched.proofs.block.Block.new.Kinds as lib_block_new_kinds
use Rattle.sched.proofs.block.Block.new.Reads as lib_block_new
use Rattle.stripring.proofs.diff.stripring_diff_new.Kinds as diff_new_kinds
use Rattle.stripring.proofs.diff.stripring_diff_new.Reads as diff_new
use Rattle.operations.proofs.diff.Diff.new.Kinds as lib_diff_new_kinds
use Rattle.operations.proofs.diff.Diff.new.Reads as lib_diff_new
use Rattle.stripring.proofs.diff.stripring_diff_is_same.Kinds as diff_is_same_kinds
use Rattle.stripring.proofs.diff.stripring_diff_is_same.Reads as diff_is_same
use Rattle.operations.proofs.diff.Diff.is_same.Kinds as lib_diff_is_same_kinds
use Rattle.operations.proofs.diff.Diff.is_same.Reads as lib_diff_is_same
use Rattle.stripring.proofs.diff.stripring_diff_is_different.Kinds as diff_is_different_kinds
use Rattle.stripring.proofs.diff.stripring_diff_is_different.Reads as diff_is_different
use Rattle.operations.proofs.diff.Diff.is_different.Kinds as lib_diff_is_different_kinds
use Rattle.operations.proofs.diff.Diff.is_different.Reads as lib_diff_is_different
use Rattle.stripring.proofs.diff.stripring_diff_old_value.Kinds as diff_old_value_kinds
use Rattle.stripring.proofs.diff.stripring_diff_old_value.Reads as diff_old_value
use Rattle.operations.proofs.diff.Diff.old_value.Kinds as lib_diff_old_value_kinds
use Rattle.operations.proofs.diff.Diff.old_value.Reads as lib_diff_old_value
use Rattle.stripring.proofs.diff.stripring_diff_new_value.Kinds as diff_new_value_kinds
use Rattle.stripring.proofs.diff.stripring_diff_new_value.Reads as diff_new_value
use Rattle.operations.proofs.diff.Diff.new_value.Kinds as lib_diff_new_value_kinds
use Rattle.operations.proofs.diff.Diff.new_value.Reads as lib_diff_new_value

pub layout_thin : Thin 0 layout_kinds.ps layout_kinds.r layout.Learnt lib_layout_kinds.ps lib_layout_kinds.r lib_layout.Learnt (λ κs a. (scheduler_at a.0, tt)) (λ κs x. flat_layout x)
layout_thin κs a z (ws, p) x (us, q) = p ∙ ap flat_layout (sym q)

pub blocks_thin : Thin 0 blocks_kinds.ps blocks_kinds.r blocks.Learnt lib_blocks_kinds.ps lib_blocks_kinds.r lib_blocks.Learnt (λ κs a. (scheduler_at a.0, tt)) (λ κs x. flat_blocks x)
blocks_thin κs a z (ws, p) x (us, q) = p ∙ ap flat_blocks (sym q)

pub block_0_thin : Thin 0 block_0_kinds.ps block_0_kinds.r block_0.Learnt lib_block_0_kinds.ps lib_block_0_kinds.r lib_block_0.Learnt (λ κs a. (scheduler_at a.0, tt)) (λ κs x. flat_block_answer x)
block_0_thin κs a z (ws, p) x (us, q) = p ∙ ap flat_block_answer (sym q)

pub block_1_thin : Thin 0 block_1_kinds.ps block_1_kinds.r block_1.Learnt lib_block_1_kinds.ps lib_block_1_kinds.r lib_block_1.Learnt (λ κs a. (scheduler_at a.0, tt)) (λ κs x. flat_block_answer x)
block_1_thin κs a z (ws, p) x (us, q) = p ∙ ap flat_block_answer (sym q)

pub block_2_thin : Thin 0 block_2_kinds.ps block_2_kinds.r block_2.Learnt lib_block_2_kinds.ps lib_block_2_kinds.r lib_block_2.Learnt (λ κs a. (scheduler_at a.0, tt)) (λ κs x. flat_block_answer x)
block_2_thin κs a z (ws, p) x (us, q) = p ∙ ap flat_block_answer (sym q)

pub block_0_off_thin : Thin 0 block_0_off_kinds.ps block_0_off_kinds.r block_0_off.Learnt lib_block_0_off_kinds.ps lib_block_0_off_kinds.r lib_block_0_off.Learnt (λ κs a. (scheduler_at a.0, tt)) (λ κs x. flat_offset x)
block_0_off_thin κs a z (ws, p) x (us, q) = p ∙ ap flat_offset (sym q)

pub block_1_off_thin : Thin 0 block_1_off_kinds.ps block_1_off_kinds.r block_1_off.Learnt lib_block_1_off_kinds.ps lib_block_1_off_kinds.r lib_block_1_off.Learnt (λ κs a. (scheduler_at a.0, tt)) (λ κs x. flat_offset x)
block_1_off_thin κs a z (ws, p) x (us, q) = p ∙ ap flat_offset (sym q)

pub block_2_off_thin : Thin 0 block_2_off_kinds.ps block_2_off_kinds.r block_2_off.Learnt lib_block_2_off_kinds.ps lib_block_2_off_kinds.r lib_block_2_off.Learnt (λ κs a. (scheduler_at a.0, tt)) (λ κs x. flat_offset x)
block_2_off_thin κs a z (ws, p) x (us, q) = p ∙ ap flat_offset (sym q)

pub block_0_len_thin : Thin 0 block_0_len_kinds.ps block_0_len_kinds.r block_0_len.Learnt lib_block_0_len_kinds.ps lib_block_0_len_kinds.r lib_block_0_len.Learnt (λ κs a. (scheduler_at a.0, tt)) (λ κs x. flat_amount x)
block_0_len_thin κs a z (ws, p) x (us, q) = p ∙ ap flat_amount (sym q)

pub block_1_len_thin : Thin 0 block_1_len_kinds.ps block_1_len_kinds.r block_1_len.Learnt lib_block_1_len_kinds.ps lib_block_1_len_kinds.r lib_block_1_len.Learnt (λ κs a. (scheduler_at a.0, tt)) (λ κs x. flat_amount x)
block_1_len_thin κs a z (ws, p) x (us, q) = p ∙ ap flat_amount (sym q)

pub block_2_len_thin : Thin 0 block_2_len_kinds.ps block_2_len_kinds.r block_2_len.Learnt lib_block_2_len_kinds.ps lib_block_2_len_kinds.r lib_block_2_len.Learnt (λ κs a. (scheduler_at a.0, tt)) (λ κs x. flat_amount x)
block_2_len_thin κs a z (ws, p) x (us, q) = p ∙ ap flat_amount (sym q)

pub next_operation_block_thin : Thin 0 next_operation_block_kinds.ps next_operation_block_kinds.r next_operation_block.Learnt lib_next_operation_block_kinds.ps lib_next_operation_block_kinds.r lib_next_operation_block.Learnt (λ κs a. (scheduler_at a.0, (type_at a.1.0, tt))) (λ κs x. flat_block_answer x)
next_operation_block_thin κs a z (ws, p) x (us, q) = p ∙ ap flat_block_answer (sym q)

pub next_read_block_thin : Thin 0 next_read_block_kinds.ps next_read_block_kinds.r next_read_block.Learnt lib_next_read_block_kinds.ps lib_next_read_block_kinds.r lib_next_read_block.Learnt (λ κs a. (scheduler_at a.0, tt)) (λ κs x. flat_block_answer x)
next_read_block_thin κs a z (ws, p) x (us, q) = p ∙ ap flat_block_answer (sym q)

pub next_write_block_thin : Thin 0 next_write_block_kinds.ps next_write_block_kinds.r next_write_block.Learnt lib_next_write_block_kinds.ps lib_next_write_block_kinds.r lib_next_write_block.Learnt (λ κs a. (scheduler_at a.0, tt)) (λ κs x. flat_block_answer x)
next_write_block_thin κs a z (ws, p) x (us, q) = p ∙ ap flat_block_answer (sym q)

pub schedule_next_contiguous_operation_thin : Thin 0 schedule_next_contiguous_operation_kinds.ps schedule_next_contiguous_operation_kinds.r schedule_next_contiguous_operation.Learnt lib_schedule_next_contiguous_operation_kinds.ps lib_schedule_next_contiguous_operation_kinds.r lib_schedule_next_contiguous_operation.Learnt (λ κs a. (scheduler_at a.0, (type_at a.1.0, (a.1.1.0, tt)))) (λ κs x. flat_next x)
schedule_next_contiguous_operation_thin κs a z (ws, p) x (us, q) = p ∙ ap flat_next (sym q)

pub schedule_next_read_thin : Thin 0 schedule_next_read_kinds.ps schedule_next_read_kinds.r schedule_next_read.Learnt lib_schedule_next_read_kinds.ps lib_schedule_next_read_kinds.r lib_schedule_next_read.Learnt (λ κs a. (scheduler_at a.0, (a.1.0, tt))) (λ κs x. flat_next x)
schedule_next_read_thin κs a z (ws, p) x (us, q) = p ∙ ap flat_next (sym q)

pub schedule_next_write_thin : Thin 0 schedule_next_write_kinds.ps schedule_next_write_kinds.r schedule_next_write.Learnt lib_schedule_next_write_kinds.ps lib_schedule_next_write_kinds.r lib_schedule_next_write.Learnt (λ κs a. (scheduler_at a.0, (a.1.0, tt))) (λ κs x. flat_next x)
schedule_next_write_thin κs a z (ws, p) x (us, q) = p ∙ ap flat_next (sym q)

pub schedule_contiguous_operations_thin : Thin 0 schedule_contiguous_operations_kinds.ps schedule_contiguous_operations_kinds.r schedule_contiguous_operations.Learnt lib_schedule_contiguous_operations_kinds.ps lib_schedule_contiguous_operations_kinds.r lib_schedule_contiguous_operations.Learnt (λ κs a. (scheduler_at a.0, (type_at a.1.0, (a.1.1.0, tt)))) (λ κs x. flat_schedule x)
schedule_contiguous_operations_thin κs a z (ws, p) x (us, q) = p ∙ ap flat_schedule (sym q)

pub schedule_reads_thin : Thin 0 schedule_reads_kinds.ps schedule_reads_kinds.r schedule_reads.Learnt lib_schedule_reads_kinds.ps lib_schedule_reads_kinds.r lib_schedule_reads.Learnt (λ κs a. (scheduler_at a.0, (a.1.0, tt))) (λ κs x. flat_schedule x)
schedule_reads_thin κs a z (ws, p) x (us, q) = p ∙ ap flat_schedule (sym q)

pub schedule_writes_thin : Thin 0 schedule_writes_kinds.ps schedule_writes_kinds.r schedule_writes.Learnt lib_schedule_writes_kinds.ps lib_schedule_writes_kinds.r lib_schedule_writes.Learnt (λ κs a. (scheduler_at a.0, (a.1.0, tt))) (λ κs x. flat_schedule x)
schedule_writes_thin κs a z (ws, p) x (us, q) = p ∙ ap flat_schedule (sym q)

pub operations_try_new_thin : Thin 0 operations_try_new_kinds.ps operations_try_new_kinds.r operations_try_new.Learnt lib_operations_try_new_kinds.ps lib_operations_try_new_kinds.r lib_operations_try_new.Learnt (λ κs a. (operations_at a.0, tt)) (λ κs x. flat_operations_answer x)
operations_try_new_thin κs a z (ws, p) x (us, q) = p ∙ ap flat_operations_answer (sym q)

pub operations_container_thin : Thin 0 operations_container_kinds.ps operations_container_kinds.r operations_container.Learnt lib_operations_container_kinds.ps lib_operations_container_kinds.r lib_operations_container.Learnt (λ κs a. (operations_at a.0, tt)) (λ κs x. flat_operations_answer x)
operations_container_thin κs a z (ws, p) x (us, q) = p ∙ ap flat_operations_answer (sym q)

pub operations_into_container_thin : Thin 0 operations_into_container_kinds.ps operations_into_container_kinds.r operations_into_container.Learnt lib_operations_into_container_kinds.ps lib_operations_into_container_kinds.r lib_operations_into_container.Learnt (λ κs a. (operations_at a.0, tt)) (λ κs x. flat_operations_answer x)
operations_into_container_thin κs a z (ws, p) x (us, q) = p ∙ ap flat_operations_answer (sym q)

pub operations_cumulative_operation_length_thin : Thin 0 operations_cumulative_operation_length_kinds.ps operations_cumulative_operation_length_kinds.r operations_cumulative_operation_length.Learnt lib_operations_cumulative_operation_length_kinds.ps lib_operations_cumulative_operation_length_kinds.r lib_operations_cumulative_operation_length.Learnt (λ κs a. (operations_at a.0, tt)) (λ κs x. flat_amount x)
operations_cumulative_operation_length_thin κs a z (ws, p) x (us, q) = p ∙ ap flat_amount (sym q)

pub operations_with_cumulative_offset_thin : Thin 0 operations_with_cumulative_offset_kinds.ps operations_with_cumulative_offset_kinds.r operations_with_cumulative_offset.Learnt lib_operations_with_cumulative_offset_kinds.ps lib_operations_with_cumulative_offset_kinds.r lib_operations_with_cumulative_offset.Learnt (λ κs a. (operations_at a.0, tt)) (λ κs x. flat_starts_answer x)
operations_with_cumulative_offset_thin κs a z (ws, p) x (us, q) = p ∙ ap flat_starts_answer (sym q)

pub operations_with_outside_buffer_range_thin : Thin 0 operations_with_outside_buffer_range_kinds.ps operations_with_outside_buffer_range_kinds.r operations_with_outside_buffer_range.Learnt lib_operations_with_outside_buffer_range_kinds.ps lib_operations_with_outside_buffer_range_kinds.r lib_operations_with_outside_buffer_range.Learnt (λ κs a. (operations_at a.0, tt)) (λ κs x. flat_ranges_answer x)
operations_with_outside_buffer_range_thin κs a z (ws, p) x (us, q) = p ∙ ap flat_ranges_answer (sym q)

pub operation_new_thin : Thin 0 operation_new_kinds.ps operation_new_kinds.r operation_new.Learnt lib_operation_new_kinds.ps lib_operation_new_kinds.r lib_operation_new.Learnt (λ κs a. (type_at a.0, (record { 0 = a.1.0 }, (a.1.1.0, tt)))) (λ κs x. flat_operation x)
operation_new_thin κs a z (ws, p) x (us, q) = p ∙ ap flat_operation (sym q)

pub operation_default_thin : Thin 0 operation_default_kinds.ps operation_default_kinds.r operation_default.Learnt lib_operation_default_kinds.ps lib_operation_default_kinds.r lib_operation_default.Learnt (λ κs a. tt) (λ κs x. flat_operation x)
operation_default_thin κs a z (ws, p) x (us, q) = p ∙ ap flat_operation (sym q)

pub block_new_thin : Thin 0 block_new_kinds.ps block_new_kinds.r block_new.Learnt lib_block_new_kinds.ps lib_block_new_kinds.r lib_block_new.Learnt (λ κs a. (block_type_at a.0, (bit_at a.1.0, (record { 0 = a.1.1.0 }, (a.1.1.1.0, tt))))) (λ κs x. flat_block x)
block_new_thin κs a z (ws, p) x (us, q) = p ∙ ap flat_block (sym q)

pub diff_new_thin : Thin 0 diff_new_kinds.ps diff_new_kinds.r diff_new.Learnt lib_diff_new_kinds.ps lib_diff_new_kinds.r lib_diff_new.Learnt (λ κs a. (a.0, (a.1.0, tt))) (λ κs x. flat_diff x)
diff_new_thin κs a z (ws, p) x (us, q) = p ∙ ap flat_diff (sym q)

pub diff_is_same_thin : Thin 0 diff_is_same_kinds.ps diff_is_same_kinds.r diff_is_same.Learnt lib_diff_is_same_kinds.ps lib_diff_is_same_kinds.r lib_diff_is_same.Learnt (λ κs a. (diff_at a.0, tt)) (λ κs x. x)
diff_is_same_thin κs a z (ws, p) x (us, q) = p ∙ sym q

pub diff_is_different_thin : Thin 0 diff_is_different_kinds.ps diff_is_different_kinds.r diff_is_different.Learnt lib_diff_is_different_kinds.ps lib_diff_is_different_kinds.r lib_diff_is_different.Learnt (λ κs a. (diff_at a.0, tt)) (λ κs x. x)
diff_is_different_thin κs a z (ws, p) x (us, q) = p ∙ sym q

pub diff_old_value_thin : Thin 0 diff_old_value_kinds.ps diff_old_value_kinds.r diff_old_value.Learnt lib_diff_old_value_kinds.ps lib_diff_old_value_kinds.r lib_diff_old_value.Learnt (λ κs a. (diff_at a.0, tt)) (λ κs x. x)
diff_old_value_thin κs a z (ws, p) x (us, q) = p ∙ sym q

pub diff_new_value_thin : Thin 0 diff_new_value_kinds.ps diff_new_value_kinds.r diff_new_value.Learnt lib_diff_new_value_kinds.ps lib_diff_new_value_kinds.r lib_diff_new_value.Learnt (λ κs a. (diff_at a.0, tt)) (λ κs x. x)
diff_new_value_thin κs a z (ws, p) x (us, q) = p ∙ sym q
