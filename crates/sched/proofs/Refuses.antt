-- "Given exactly when", 1 to 8, of every call that can refuse: whatever its attached contract allows is refused with a number
-- and values exactly when the paper's table says so.
use Rattle.modular.proofs.Saying.{Keeps}
use Rattle.operations.specs.declared.operation.OperationType.TheVariants.{Read, Write}
use Rattle.operations.specs.Given.{Exactly, of_result}
use Rattle.sched.specs.Given.{GivenCounters, Given, GivenWith, GivenRegister, GivenOperations}
use Rattle.sched.proofs.Given.{counters_exactly, record_exactly, with_exactly, tested_exactly, register_exactly}
use Rattle.sched.proofs.GivenLists.{operations_exactly}
use Rattle.sched.proofs.Says.{try_new_says, try_from_counters_says, try_with_counter_says, demand_soundness_says, buf_len_says, is_zero_sized_says, items_read_says, items_written_says, operation_counter_says, read_off_says, write_off_says, operation_offset_says, data_avail_says, space_avail_says, max_operation_len_says, fill_state_says, is_empty_says, is_full_says, is_nonempty_says, is_nonfull_says, layout_says, blocks_says, block_0_says, block_1_says, block_2_says, block_0_off_says, block_1_off_says, block_2_off_says, block_0_len_says, block_1_len_says, block_2_len_says, next_operation_block_says, next_read_block_says, next_write_block_says, schedule_next_contiguous_operation_says, schedule_next_read_says, schedule_next_write_says, schedule_contiguous_operations_says, schedule_reads_says, schedule_writes_says, try_register_read_says, try_register_write_says, try_register_operation_manually_says, try_register_operation_says, try_register_operations_says, schedule_and_register_says}
use Rattle.sched.proofs.scheduler.RingBufferScheduler.try_new.Kinds as try_new_kinds
use Rattle.sched.proofs.scheduler.RingBufferScheduler.try_new.Reads as try_new
use Rattle.sched.proofs.scheduler.RingBufferScheduler.try_from_counters.Kinds as try_from_counters_kinds
use Rattle.sched.proofs.scheduler.RingBufferScheduler.try_from_counters.Reads as try_from_counters
use Rattle.sched.proofs.scheduler.RingBufferScheduler.try_with_counter.Kinds as try_with_counter_kinds
use Rattle.sched.proofs.scheduler.RingBufferScheduler.try_with_counter.Reads as try_with_counter
use Rattle.sched.proofs.scheduler.RingBufferScheduler.demand_soundness.Kinds as demand_soundness_kinds
use Rattle.sched.proofs.scheduler.RingBufferScheduler.demand_soundness.Reads as demand_soundness
use Rattle.sched.proofs.scheduler.RingBufferScheduler.buf_len.Kinds as buf_len_kinds
use Rattle.sched.proofs.scheduler.RingBufferScheduler.buf_len.Reads as buf_len
use Rattle.sched.proofs.scheduler.RingBufferScheduler.is_zero_sized.Kinds as is_zero_sized_kinds
use Rattle.sched.proofs.scheduler.RingBufferScheduler.is_zero_sized.Reads as is_zero_sized
use Rattle.sched.proofs.scheduler.RingBufferScheduler.items_read.Kinds as items_read_kinds
use Rattle.sched.proofs.scheduler.RingBufferScheduler.items_read.Reads as items_read
use Rattle.sched.proofs.scheduler.RingBufferScheduler.items_written.Kinds as items_written_kinds
use Rattle.sched.proofs.scheduler.RingBufferScheduler.items_written.Reads as items_written
use Rattle.sched.proofs.scheduler.RingBufferScheduler.operation_counter.Kinds as operation_counter_kinds
use Rattle.sched.proofs.scheduler.RingBufferScheduler.operation_counter.Reads as operation_counter
use Rattle.sched.proofs.scheduler.RingBufferScheduler.read_off.Kinds as read_off_kinds
use Rattle.sched.proofs.scheduler.RingBufferScheduler.read_off.Reads as read_off
use Rattle.sched.proofs.scheduler.RingBufferScheduler.write_off.Kinds as write_off_kinds
use Rattle.sched.proofs.scheduler.RingBufferScheduler.write_off.Reads as write_off
use Rattle.sched.proofs.scheduler.RingBufferScheduler.operation_offset.Kinds as operation_offset_kinds
use Rattle.sched.proofs.scheduler.RingBufferScheduler.operation_offset.Reads as operation_offset
use Rattle.sched.proofs.scheduler.RingBufferScheduler.data_avail.Kinds as data_avail_kinds
use Rattle.sched.proofs.scheduler.RingBufferScheduler.data_avail.Reads as data_avail
use Rattle.sched.proofs.scheduler.RingBufferScheduler.space_avail.Kinds as space_avail_kinds
use Rattle.sched.proofs.scheduler.RingBufferScheduler.space_avail.Reads as space_avail
use Rattle.sched.proofs.scheduler.RingBufferScheduler.max_operation_len.Kinds as max_operation_len_kinds
use Rattle.sched.proofs.scheduler.RingBufferScheduler.max_operation_len.Reads as max_operation_len
use Rattle.sched.proofs.scheduler.RingBufferScheduler.fill_state.Kinds as fill_state_kinds
use Rattle.sched.proofs.scheduler.RingBufferScheduler.fill_state.Reads as fill_state
use Rattle.sched.proofs.scheduler.RingBufferScheduler.is_empty.Kinds as is_empty_kinds
use Rattle.sched.proofs.scheduler.RingBufferScheduler.is_empty.Reads as is_empty
use Rattle.sched.proofs.scheduler.RingBufferScheduler.is_full.Kinds as is_full_kinds
use Rattle.sched.proofs.scheduler.RingBufferScheduler.is_full.Reads as is_full
use Rattle.sched.proofs.scheduler.RingBufferScheduler.is_nonempty.Kinds as is_nonempty_kinds
use Rattle.sched.proofs.scheduler.RingBufferScheduler.is_nonempty.Reads as is_nonempty
use Rattle.sched.proofs.scheduler.RingBufferScheduler.is_nonfull.Kinds as is_nonfull_kinds
use Rattle.sched.proofs.scheduler.RingBufferScheduler.is_nonfull.Reads as is_nonfull
use Rattle.sched.proofs.scheduler.RingBufferScheduler.layout.Kinds as layout_kinds
use Rattle.sched.proofs.scheduler.RingBufferScheduler.layout.Reads as layout
use Rattle.sched.proofs.scheduler.RingBufferScheduler.blocks.Kinds as blocks_kinds
use Rattle.sched.proofs.scheduler.RingBufferScheduler.blocks.Reads as blocks
use Rattle.sched.proofs.scheduler.RingBufferScheduler.block_0.Kinds as block_0_kinds
use Rattle.sched.proofs.scheduler.RingBufferScheduler.block_0.Reads as block_0
use Rattle.sched.proofs.scheduler.RingBufferScheduler.block_1.Kinds as block_1_kinds
use Rattle.sched.proofs.scheduler.RingBufferScheduler.block_1.Reads as block_1
use Rattle.sched.proofs.scheduler.RingBufferScheduler.block_2.Kinds as block_2_kinds
use Rattle.sched.proofs.scheduler.RingBufferScheduler.block_2.Reads as block_2
use Rattle.sched.proofs.scheduler.RingBufferScheduler.block_0_off.Kinds as block_0_off_kinds
use Rattle.sched.proofs.scheduler.RingBufferScheduler.block_0_off.Reads as block_0_off
use Rattle.sched.proofs.scheduler.RingBufferScheduler.block_1_off.Kinds as block_1_off_kinds
use Rattle.sched.proofs.scheduler.RingBufferScheduler.block_1_off.Reads as block_1_off
use Rattle.sched.proofs.scheduler.RingBufferScheduler.block_2_off.Kinds as block_2_off_kinds
use Rattle.sched.proofs.scheduler.RingBufferScheduler.block_2_off.Reads as block_2_off
use Rattle.sched.proofs.scheduler.RingBufferScheduler.block_0_len.Kinds as block_0_len_kinds
use Rattle.sched.proofs.scheduler.RingBufferScheduler.block_0_len.Reads as block_0_len
use Rattle.sched.proofs.scheduler.RingBufferScheduler.block_1_len.Kinds as block_1_len_kinds
use Rattle.sched.proofs.scheduler.RingBufferScheduler.block_1_len.Reads as block_1_len
use Rattle.sched.proofs.scheduler.RingBufferScheduler.block_2_len.Kinds as block_2_len_kinds
use Rattle.sched.proofs.scheduler.RingBufferScheduler.block_2_len.Reads as block_2_len
use Rattle.sched.proofs.scheduler.RingBufferScheduler.next_operation_block.Kinds as next_operation_block_kinds
use Rattle.sched.proofs.scheduler.RingBufferScheduler.next_operation_block.Reads as next_operation_block
use Rattle.sched.proofs.scheduler.RingBufferScheduler.next_read_block.Kinds as next_read_block_kinds
use Rattle.sched.proofs.scheduler.RingBufferScheduler.next_read_block.Reads as next_read_block
use Rattle.sched.proofs.scheduler.RingBufferScheduler.next_write_block.Kinds as next_write_block_kinds
use Rattle.sched.proofs.scheduler.RingBufferScheduler.next_write_block.Reads as next_write_block
use Rattle.sched.proofs.scheduler.RingBufferScheduler.schedule_next_contiguous_operation.Kinds as schedule_next_contiguous_operation_kinds
use Rattle.sched.proofs.scheduler.RingBufferScheduler.schedule_next_contiguous_operation.Reads as schedule_next_contiguous_operation
use Rattle.sched.proofs.scheduler.RingBufferScheduler.schedule_next_read.Kinds as schedule_next_read_kinds
use Rattle.sched.proofs.scheduler.RingBufferScheduler.schedule_next_read.Reads as schedule_next_read
use Rattle.sched.proofs.scheduler.RingBufferScheduler.schedule_next_write.Kinds as schedule_next_write_kinds
use Rattle.sched.proofs.scheduler.RingBufferScheduler.schedule_next_write.Reads as schedule_next_write
use Rattle.sched.proofs.scheduler.RingBufferScheduler.schedule_contiguous_operations.Kinds as schedule_contiguous_operations_kinds
use Rattle.sched.proofs.scheduler.RingBufferScheduler.schedule_contiguous_operations.Reads as schedule_contiguous_operations
use Rattle.sched.proofs.scheduler.RingBufferScheduler.schedule_reads.Kinds as schedule_reads_kinds
use Rattle.sched.proofs.scheduler.RingBufferScheduler.schedule_reads.Reads as schedule_reads
use Rattle.sched.proofs.scheduler.RingBufferScheduler.schedule_writes.Kinds as schedule_writes_kinds
use Rattle.sched.proofs.scheduler.RingBufferScheduler.schedule_writes.Reads as schedule_writes
use Rattle.sched.proofs.scheduler.RingBufferScheduler.try_register_read.Kinds as try_register_read_kinds
use Rattle.sched.proofs.scheduler.RingBufferScheduler.try_register_read.Reads as try_register_read
use Rattle.sched.proofs.scheduler.RingBufferScheduler.try_register_write.Kinds as try_register_write_kinds
use Rattle.sched.proofs.scheduler.RingBufferScheduler.try_register_write.Reads as try_register_write
use Rattle.sched.proofs.scheduler.RingBufferScheduler.try_register_operation_manually.Kinds as try_register_operation_manually_kinds
use Rattle.sched.proofs.scheduler.RingBufferScheduler.try_register_operation_manually.Reads as try_register_operation_manually
use Rattle.sched.proofs.scheduler.RingBufferScheduler.try_register_operation.Kinds as try_register_operation_kinds
use Rattle.sched.proofs.scheduler.RingBufferScheduler.try_register_operation.Reads as try_register_operation
use Rattle.sched.proofs.scheduler.RingBufferScheduler.try_register_operations.Kinds as try_register_operations_kinds
use Rattle.sched.proofs.scheduler.RingBufferScheduler.try_register_operations.Reads as try_register_operations
use Rattle.sched.proofs.scheduler.RingBufferScheduler.schedule_and_register.Kinds as schedule_and_register_kinds
use Rattle.sched.proofs.scheduler.RingBufferScheduler.schedule_and_register.Reads as schedule_and_register

-- ---- a length and counters: 1 to 5
pub try_new_refuses : Keeps 0 try_new_kinds.ps try_new_kinds.r try_new.Learnt (λ κs a z. Exactly (GivenCounters a.0 (record { 0 = 0 }) (record { 0 = 0 })) (of_result z))
try_new_refuses κs a z q = rw (try_new_says κs a z q.0 q.1) (counters_exactly a.0 (record { 0 = 0 }) (record { 0 = 0 }))

pub try_from_counters_refuses : Keeps 0 try_from_counters_kinds.ps try_from_counters_kinds.r try_from_counters.Learnt (λ κs a z. Exactly (GivenCounters a.0 a.1.0 a.1.1.0) (of_result z))
try_from_counters_refuses κs a z q = rw (try_from_counters_says κs a z q.0 q.1) (counters_exactly a.0 a.1.0 a.1.1.0)

-- ---- a record: then 20
pub demand_soundness_refuses : Keeps 0 demand_soundness_kinds.ps demand_soundness_kinds.r demand_soundness.Learnt (λ κs a z. Exactly (Given a.0) (of_result z))
demand_soundness_refuses κs a z q = rw (demand_soundness_says κs a z q.0 q.1) (record_exactly a.0)

pub try_with_counter_refuses : Keeps 0 try_with_counter_kinds.ps try_with_counter_kinds.r try_with_counter.Learnt (λ κs a z. Exactly (GivenWith a.0 a.1.0 a.1.1.0) (of_result z))
try_with_counter_refuses κs a z q = rw (try_with_counter_says κs a z q.0 q.1) (with_exactly a.0 a.1.1.0 a.1.0)

-- ---- every call that asks something of a record: the same
pub buf_len_refuses : Keeps 0 buf_len_kinds.ps buf_len_kinds.r buf_len.Learnt (λ κs a z. Exactly (Given a.0) (of_result z))
buf_len_refuses κs a z q = rw (buf_len_says κs a z q.0 q.1) (tested_exactly a.0 _ (λ u p. rw p) (λ e p. rw p))

pub is_zero_sized_refuses : Keeps 0 is_zero_sized_kinds.ps is_zero_sized_kinds.r is_zero_sized.Learnt (λ κs a z. Exactly (Given a.0) (of_result z))
is_zero_sized_refuses κs a z q = rw (is_zero_sized_says κs a z q.0 q.1) (tested_exactly a.0 _ (λ u p. rw p) (λ e p. rw p))

pub items_read_refuses : Keeps 0 items_read_kinds.ps items_read_kinds.r items_read.Learnt (λ κs a z. Exactly (Given a.0) (of_result z))
items_read_refuses κs a z q = rw (items_read_says κs a z q.0 q.1) (tested_exactly a.0 _ (λ u p. rw p) (λ e p. rw p))

pub items_written_refuses : Keeps 0 items_written_kinds.ps items_written_kinds.r items_written.Learnt (λ κs a z. Exactly (Given a.0) (of_result z))
items_written_refuses κs a z q = rw (items_written_says κs a z q.0 q.1) (tested_exactly a.0 _ (λ u p. rw p) (λ e p. rw p))

pub operation_counter_refuses : Keeps 0 operation_counter_kinds.ps operation_counter_kinds.r operation_counter.Learnt (λ κs a z. Exactly (Given a.0) (of_result z))
operation_counter_refuses κs a z q = rw (operation_counter_says κs a z q.0 q.1) (tested_exactly a.0 _ (λ u p. rw p) (λ e p. rw p))

pub read_off_refuses : Keeps 0 read_off_kinds.ps read_off_kinds.r read_off.Learnt (λ κs a z. Exactly (Given a.0) (of_result z))
read_off_refuses κs a z q = rw (read_off_says κs a z q.0 q.1) (tested_exactly a.0 _ (λ u p. rw p) (λ e p. rw p))

pub write_off_refuses : Keeps 0 write_off_kinds.ps write_off_kinds.r write_off.Learnt (λ κs a z. Exactly (Given a.0) (of_result z))
write_off_refuses κs a z q = rw (write_off_says κs a z q.0 q.1) (tested_exactly a.0 _ (λ u p. rw p) (λ e p. rw p))

pub operation_offset_refuses : Keeps 0 operation_offset_kinds.ps operation_offset_kinds.r operation_offset.Learnt (λ κs a z. Exactly (Given a.0) (of_result z))
operation_offset_refuses κs a z q = rw (operation_offset_says κs a z q.0 q.1) (tested_exactly a.0 _ (λ u p. rw p) (λ e p. rw p))

pub data_avail_refuses : Keeps 0 data_avail_kinds.ps data_avail_kinds.r data_avail.Learnt (λ κs a z. Exactly (Given a.0) (of_result z))
data_avail_refuses κs a z q = rw (data_avail_says κs a z q.0 q.1) (tested_exactly a.0 _ (λ u p. rw p) (λ e p. rw p))

pub space_avail_refuses : Keeps 0 space_avail_kinds.ps space_avail_kinds.r space_avail.Learnt (λ κs a z. Exactly (Given a.0) (of_result z))
space_avail_refuses κs a z q = rw (space_avail_says κs a z q.0 q.1) (tested_exactly a.0 _ (λ u p. rw p) (λ e p. rw p))

pub max_operation_len_refuses : Keeps 0 max_operation_len_kinds.ps max_operation_len_kinds.r max_operation_len.Learnt (λ κs a z. Exactly (Given a.0) (of_result z))
max_operation_len_refuses κs a z q = rw (max_operation_len_says κs a z q.0 q.1) (tested_exactly a.0 _ (λ u p. rw p) (λ e p. rw p))

pub fill_state_refuses : Keeps 0 fill_state_kinds.ps fill_state_kinds.r fill_state.Learnt (λ κs a z. Exactly (Given a.0) (of_result z))
fill_state_refuses κs a z q = rw (fill_state_says κs a z q.0 q.1) (tested_exactly a.0 _ (λ u p. rw p) (λ e p. rw p))

pub is_empty_refuses : Keeps 0 is_empty_kinds.ps is_empty_kinds.r is_empty.Learnt (λ κs a z. Exactly (Given a.0) (of_result z))
is_empty_refuses κs a z q = rw (is_empty_says κs a z q.0 q.1) (tested_exactly a.0 _ (λ u p. rw p) (λ e p. rw p))

pub is_full_refuses : Keeps 0 is_full_kinds.ps is_full_kinds.r is_full.Learnt (λ κs a z. Exactly (Given a.0) (of_result z))
is_full_refuses κs a z q = rw (is_full_says κs a z q.0 q.1) (tested_exactly a.0 _ (λ u p. rw p) (λ e p. rw p))

pub is_nonempty_refuses : Keeps 0 is_nonempty_kinds.ps is_nonempty_kinds.r is_nonempty.Learnt (λ κs a z. Exactly (Given a.0) (of_result z))
is_nonempty_refuses κs a z q = rw (is_nonempty_says κs a z q.0 q.1) (tested_exactly a.0 _ (λ u p. rw p) (λ e p. rw p))

pub is_nonfull_refuses : Keeps 0 is_nonfull_kinds.ps is_nonfull_kinds.r is_nonfull.Learnt (λ κs a z. Exactly (Given a.0) (of_result z))
is_nonfull_refuses κs a z q = rw (is_nonfull_says κs a z q.0 q.1) (tested_exactly a.0 _ (λ u p. rw p) (λ e p. rw p))

pub layout_refuses : Keeps 0 layout_kinds.ps layout_kinds.r layout.Learnt (λ κs a z. Exactly (Given a.0) (of_result z))
layout_refuses κs a z q = rw (layout_says κs a z q.0 q.1) (tested_exactly a.0 _ (λ u p. rw p) (λ e p. rw p))

pub blocks_refuses : Keeps 0 blocks_kinds.ps blocks_kinds.r blocks.Learnt (λ κs a z. Exactly (Given a.0) (of_result z))
blocks_refuses κs a z q = rw (blocks_says κs a z q.0 q.1) (tested_exactly a.0 _ (λ u p. rw p) (λ e p. rw p))

pub block_0_refuses : Keeps 0 block_0_kinds.ps block_0_kinds.r block_0.Learnt (λ κs a z. Exactly (Given a.0) (of_result z))
block_0_refuses κs a z q = rw (block_0_says κs a z q.0 q.1) (tested_exactly a.0 _ (λ u p. rw p) (λ e p. rw p))

pub block_1_refuses : Keeps 0 block_1_kinds.ps block_1_kinds.r block_1.Learnt (λ κs a z. Exactly (Given a.0) (of_result z))
block_1_refuses κs a z q = rw (block_1_says κs a z q.0 q.1) (tested_exactly a.0 _ (λ u p. rw p) (λ e p. rw p))

pub block_2_refuses : Keeps 0 block_2_kinds.ps block_2_kinds.r block_2.Learnt (λ κs a z. Exactly (Given a.0) (of_result z))
block_2_refuses κs a z q = rw (block_2_says κs a z q.0 q.1) (tested_exactly a.0 _ (λ u p. rw p) (λ e p. rw p))

pub block_0_off_refuses : Keeps 0 block_0_off_kinds.ps block_0_off_kinds.r block_0_off.Learnt (λ κs a z. Exactly (Given a.0) (of_result z))
block_0_off_refuses κs a z q = rw (block_0_off_says κs a z q.0 q.1) (tested_exactly a.0 _ (λ u p. rw p) (λ e p. rw p))

pub block_1_off_refuses : Keeps 0 block_1_off_kinds.ps block_1_off_kinds.r block_1_off.Learnt (λ κs a z. Exactly (Given a.0) (of_result z))
block_1_off_refuses κs a z q = rw (block_1_off_says κs a z q.0 q.1) (tested_exactly a.0 _ (λ u p. rw p) (λ e p. rw p))

pub block_2_off_refuses : Keeps 0 block_2_off_kinds.ps block_2_off_kinds.r block_2_off.Learnt (λ κs a z. Exactly (Given a.0) (of_result z))
block_2_off_refuses κs a z q = rw (block_2_off_says κs a z q.0 q.1) (tested_exactly a.0 _ (λ u p. rw p) (λ e p. rw p))

pub block_0_len_refuses : Keeps 0 block_0_len_kinds.ps block_0_len_kinds.r block_0_len.Learnt (λ κs a z. Exactly (Given a.0) (of_result z))
block_0_len_refuses κs a z q = rw (block_0_len_says κs a z q.0 q.1) (tested_exactly a.0 _ (λ u p. rw p) (λ e p. rw p))

pub block_1_len_refuses : Keeps 0 block_1_len_kinds.ps block_1_len_kinds.r block_1_len.Learnt (λ κs a z. Exactly (Given a.0) (of_result z))
block_1_len_refuses κs a z q = rw (block_1_len_says κs a z q.0 q.1) (tested_exactly a.0 _ (λ u p. rw p) (λ e p. rw p))

pub block_2_len_refuses : Keeps 0 block_2_len_kinds.ps block_2_len_kinds.r block_2_len.Learnt (λ κs a z. Exactly (Given a.0) (of_result z))
block_2_len_refuses κs a z q = rw (block_2_len_says κs a z q.0 q.1) (tested_exactly a.0 _ (λ u p. rw p) (λ e p. rw p))

pub next_operation_block_refuses : Keeps 0 next_operation_block_kinds.ps next_operation_block_kinds.r next_operation_block.Learnt (λ κs a z. Exactly (Given a.0) (of_result z))
next_operation_block_refuses κs a z q = rw (next_operation_block_says κs a z q.0 q.1) (tested_exactly a.0 _ (λ u p. rw p) (λ e p. rw p))

pub next_read_block_refuses : Keeps 0 next_read_block_kinds.ps next_read_block_kinds.r next_read_block.Learnt (λ κs a z. Exactly (Given a.0) (of_result z))
next_read_block_refuses κs a z q = rw (next_read_block_says κs a z q.0 q.1) (tested_exactly a.0 _ (λ u p. rw p) (λ e p. rw p))

pub next_write_block_refuses : Keeps 0 next_write_block_kinds.ps next_write_block_kinds.r next_write_block.Learnt (λ κs a z. Exactly (Given a.0) (of_result z))
next_write_block_refuses κs a z q = rw (next_write_block_says κs a z q.0 q.1) (tested_exactly a.0 _ (λ u p. rw p) (λ e p. rw p))

pub schedule_next_contiguous_operation_refuses : Keeps 0 schedule_next_contiguous_operation_kinds.ps schedule_next_contiguous_operation_kinds.r schedule_next_contiguous_operation.Learnt (λ κs a z. Exactly (Given a.0) (of_result z))
schedule_next_contiguous_operation_refuses κs a z q = rw (schedule_next_contiguous_operation_says κs a z q.0 q.1) (tested_exactly a.0 _ (λ u p. rw p) (λ e p. rw p))

pub schedule_next_read_refuses : Keeps 0 schedule_next_read_kinds.ps schedule_next_read_kinds.r schedule_next_read.Learnt (λ κs a z. Exactly (Given a.0) (of_result z))
schedule_next_read_refuses κs a z q = rw (schedule_next_read_says κs a z q.0 q.1) (tested_exactly a.0 _ (λ u p. rw p) (λ e p. rw p))

pub schedule_next_write_refuses : Keeps 0 schedule_next_write_kinds.ps schedule_next_write_kinds.r schedule_next_write.Learnt (λ κs a z. Exactly (Given a.0) (of_result z))
schedule_next_write_refuses κs a z q = rw (schedule_next_write_says κs a z q.0 q.1) (tested_exactly a.0 _ (λ u p. rw p) (λ e p. rw p))

pub schedule_contiguous_operations_refuses : Keeps 0 schedule_contiguous_operations_kinds.ps schedule_contiguous_operations_kinds.r schedule_contiguous_operations.Learnt (λ κs a z. Exactly (Given a.0) (of_result z))
schedule_contiguous_operations_refuses κs a z q = rw (schedule_contiguous_operations_says κs a z q.0 q.1) (tested_exactly a.0 _ (λ u p. rw p) (λ e p. rw p))

pub schedule_reads_refuses : Keeps 0 schedule_reads_kinds.ps schedule_reads_kinds.r schedule_reads.Learnt (λ κs a z. Exactly (Given a.0) (of_result z))
schedule_reads_refuses κs a z q = rw (schedule_reads_says κs a z q.0 q.1) (tested_exactly a.0 _ (λ u p. rw p) (λ e p. rw p))

pub schedule_writes_refuses : Keeps 0 schedule_writes_kinds.ps schedule_writes_kinds.r schedule_writes.Learnt (λ κs a z. Exactly (Given a.0) (of_result z))
schedule_writes_refuses κs a z q = rw (schedule_writes_says κs a z q.0 q.1) (tested_exactly a.0 _ (λ u p. rw p) (λ e p. rw p))

pub schedule_and_register_refuses : Keeps 0 schedule_and_register_kinds.ps schedule_and_register_kinds.r schedule_and_register.Learnt (λ κs a z. Exactly (Given a.0) (of_result z))
schedule_and_register_refuses κs a z q = rw (schedule_and_register_says κs a z q.0 q.1) (tested_exactly a.0 _ (λ u p. rw p) (λ e p. rw p))

-- ---- registering: then 6
pub try_register_read_refuses : Keeps 0 try_register_read_kinds.ps try_register_read_kinds.r try_register_read.Learnt (λ κs a z. Exactly (GivenRegister a.0 Read a.1.0) (of_result z))
try_register_read_refuses κs a z q = rw (try_register_read_says κs a z q.0 q.1) (register_exactly a.0 Read a.1.0)

pub try_register_write_refuses : Keeps 0 try_register_write_kinds.ps try_register_write_kinds.r try_register_write.Learnt (λ κs a z. Exactly (GivenRegister a.0 Write a.1.0) (of_result z))
try_register_write_refuses κs a z q = rw (try_register_write_says κs a z q.0 q.1) (register_exactly a.0 Write a.1.0)

pub try_register_operation_manually_refuses : Keeps 0 try_register_operation_manually_kinds.ps try_register_operation_manually_kinds.r try_register_operation_manually.Learnt (λ κs a z. Exactly (GivenRegister a.0 a.1.0 a.1.1.0) (of_result z))
try_register_operation_manually_refuses κs a z q = rw (try_register_operation_manually_says κs a z q.0 q.1) (register_exactly a.0 a.1.0 a.1.1.0)

pub try_register_operation_refuses : Keeps 0 try_register_operation_kinds.ps try_register_operation_kinds.r try_register_operation.Learnt (λ κs a z. Exactly (GivenRegister a.0 a.1.0.typ a.1.0.len) (of_result z))
try_register_operation_refuses κs a z q = rw (try_register_operation_says κs a z q.0 q.1) (register_exactly a.0 a.1.0.typ a.1.0.len)

pub try_register_operations_refuses : Keeps 0 try_register_operations_kinds.ps try_register_operations_kinds.r try_register_operations.Learnt (λ κs a z. Exactly (GivenOperations a.0 a.1.0) (of_result z))
try_register_operations_refuses κs a z q = rw (try_register_operations_says κs a z q.0 q.1) (operations_exactly a.0 a.1.0)
