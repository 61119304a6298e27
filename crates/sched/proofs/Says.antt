-- What each public call says, in the order of the paper: whatever its attached contract allows is this definition of its
-- arguments. With specs/ these lines are what a reader must believe of this crate.
use Rattle.std.proofs.Common.{refl, min}
use Rattle.modular.proofs.Saying.{Says, Decides, says_decides}
use Rattle.operations.specs.declared.operation.OperationType.TheVariants.{Read, Write}
use Rattle.sched.specs.Block.{block_of}
use Rattle.sched.specs.Scheduler.{record_of, scheduler_of, sound_of, with_counter_of, buf_len_of, counter_answer_of, offset_answer_of, greatest_of, is_zero_from, is_positive_from, fill_state_of, layout_of, blocks_of, block0_from, block1_from, block2_from, off_from, len_from, next_block_of, next_of, schedule_of, register_of, register_list_of, move_of, greatest_in, offset_in, advanced_in}
use Rattle.sched.proofs.scheduler.RingBufferScheduler.try_new.Kinds as try_new_kinds
use Rattle.sched.proofs.scheduler.RingBufferScheduler.try_new.Reads as try_new
use Rattle.sched.proofs.scheduler.RingBufferScheduler.try_from_counters.Kinds as try_from_counters_kinds
use Rattle.sched.proofs.scheduler.RingBufferScheduler.try_from_counters.Reads as try_from_counters
use Rattle.sched.proofs.scheduler.RingBufferScheduler.try_with_counter.Kinds as try_with_counter_kinds
use Rattle.sched.proofs.scheduler.RingBufferScheduler.try_with_counter.Reads as try_with_counter
use Rattle.sched.proofs.scheduler.RingBufferScheduler.from_numbers.Kinds as from_numbers_kinds
use Rattle.sched.proofs.scheduler.RingBufferScheduler.from_numbers.Reads as from_numbers
use Rattle.sched.proofs.scheduler.RingBufferScheduler.demand_soundness.Kinds as demand_soundness_kinds
use Rattle.sched.proofs.scheduler.RingBufferScheduler.demand_soundness.Reads as demand_soundness
use Rattle.sched.proofs.scheduler.RingBufferScheduler.buf_len.Kinds as buf_len_kinds
use Rattle.sched.proofs.scheduler.RingBufferScheduler.buf_len.Reads as buf_len
use Rattle.sched.proofs.scheduler.RingBufferScheduler.is_zero_sized.Kinds as is_zero_sized_kinds
use Rattle.sched.proofs.scheduler.RingBufferScheduler.is_zero_sized.Reads as is_zero_sized
use Rattle.sched.proofs.scheduler.RingBufferScheduler.items_read.Kinds as items_read_kinds
use Rattle.sched.proofs.scheduler.RingBufferScheduler.items_read.Reads as items_read
use Rattle.sched.proofs.scheduler.RingBufferScheduler.items_written.Kinds as items_written_kinds
use Rattle.sched.proofs.scheduler.RingBufferScheduler.items_written.Reads as items_written
use Rattle.sched.proofs.scheduler.RingBufferScheduler.operation_counter.Kinds as operation_counter_kinds
use Rattle.sched.proofs.scheduler.RingBufferScheduler.operation_counter.Reads as operation_counter
use Rattle.sched.proofs.scheduler.RingBufferScheduler.read_off.Kinds as read_off_kinds
use Rattle.sched.proofs.scheduler.RingBufferScheduler.read_off.Reads as read_off
use Rattle.sched.proofs.scheduler.RingBufferScheduler.write_off.Kinds as write_off_kinds
use Rattle.sched.proofs.scheduler.RingBufferScheduler.write_off.Reads as write_off
use Rattle.sched.proofs.scheduler.RingBufferScheduler.operation_offset.Kinds as operation_offset_kinds
use Rattle.sched.proofs.scheduler.RingBufferScheduler.operation_offset.Reads as operation_offset
use Rattle.sched.proofs.scheduler.RingBufferScheduler.data_avail.Kinds as data_avail_kinds
use Rattle.sched.proofs.scheduler.RingBufferScheduler.data_avail.Reads as data_avail
use Rattle.sched.proofs.scheduler.RingBufferScheduler.space_avail.Kinds as space_avail_kinds
use Rattle.sched.proofs.scheduler.RingBufferScheduler.space_avail.Reads as space_avail
use Rattle.sched.proofs.scheduler.RingBufferScheduler.max_operation_len.Kinds as max_operation_len_kinds
use Rattle.sched.proofs.scheduler.RingBufferScheduler.max_operation_len.Reads as max_operation_len
use Rattle.sched.proofs.scheduler.RingBufferScheduler.fill_state.Kinds as fill_state_kinds
use Rattle.sched.proofs.scheduler.RingBufferScheduler.fill_state.Reads as fill_state
use Rattle.sched.proofs.scheduler.RingBufferScheduler.is_empty.Kinds as is_empty_kinds
use Rattle.sched.proofs.scheduler.RingBufferScheduler.is_empty.Reads as is_empty
use Rattle.sched.proofs.scheduler.RingBufferScheduler.is_full.Kinds as is_full_kinds
use Rattle.sched.proofs.scheduler.RingBufferScheduler.is_full.Reads as is_full
use Rattle.sched.proofs.scheduler.RingBufferScheduler.is_nonempty.Kinds as is_nonempty_kinds
use Rattle.sched.proofs.scheduler.RingBufferScheduler.is_nonempty.Reads as is_nonempty
use Rattle.sched.proofs.scheduler.RingBufferScheduler.is_nonfull.Kinds as is_nonfull_kinds
use Rattle.sched.proofs.scheduler.RingBufferScheduler.is_nonfull.Reads as is_nonfull
use Rattle.sched.proofs.scheduler.RingBufferScheduler.layout.Kinds as layout_kinds
use Rattle.sched.proofs.scheduler.RingBufferScheduler.layout.Reads as layout
use Rattle.sched.proofs.scheduler.RingBufferScheduler.blocks.Kinds as blocks_kinds
use Rattle.sched.proofs.scheduler.RingBufferScheduler.blocks.Reads as blocks
use Rattle.sched.proofs.scheduler.RingBufferScheduler.block_0.Kinds as block_0_kinds
use Rattle.sched.proofs.scheduler.RingBufferScheduler.block_0.Reads as block_0
use Rattle.sched.proofs.scheduler.RingBufferScheduler.block_1.Kinds as block_1_kinds
use Rattle.sched.proofs.scheduler.RingBufferScheduler.block_1.Reads as block_1
use Rattle.sched.proofs.scheduler.RingBufferScheduler.block_2.Kinds as block_2_kinds
use Rattle.sched.proofs.scheduler.RingBufferScheduler.block_2.Reads as block_2
use Rattle.sched.proofs.scheduler.RingBufferScheduler.block_0_off.Kinds as block_0_off_kinds
use Rattle.sched.proofs.scheduler.RingBufferScheduler.block_0_off.Reads as block_0_off
use Rattle.sched.proofs.scheduler.RingBufferScheduler.block_1_off.Kinds as block_1_off_kinds
use Rattle.sched.proofs.scheduler.RingBufferScheduler.block_1_off.Reads as block_1_off
use Rattle.sched.proofs.scheduler.RingBufferScheduler.block_2_off.Kinds as block_2_off_kinds
use Rattle.sched.proofs.scheduler.RingBufferScheduler.block_2_off.Reads as block_2_off
use Rattle.sched.proofs.scheduler.RingBufferScheduler.block_0_len.Kinds as block_0_len_kinds
use Rattle.sched.proofs.scheduler.RingBufferScheduler.block_0_len.Reads as block_0_len
use Rattle.sched.proofs.scheduler.RingBufferScheduler.block_1_len.Kinds as block_1_len_kinds
use Rattle.sched.proofs.scheduler.RingBufferScheduler.block_1_len.Reads as block_1_len
use Rattle.sched.proofs.scheduler.RingBufferScheduler.block_2_len.Kinds as block_2_len_kinds
use Rattle.sched.proofs.scheduler.RingBufferScheduler.block_2_len.Reads as block_2_len
use Rattle.sched.proofs.scheduler.RingBufferScheduler.next_operation_block.Kinds as next_operation_block_kinds
use Rattle.sched.proofs.scheduler.RingBufferScheduler.next_operation_block.Reads as next_operation_block
use Rattle.sched.proofs.scheduler.RingBufferScheduler.next_read_block.Kinds as next_read_block_kinds
use Rattle.sched.proofs.scheduler.RingBufferScheduler.next_read_block.Reads as next_read_block
use Rattle.sched.proofs.scheduler.RingBufferScheduler.next_write_block.Kinds as next_write_block_kinds
use Rattle.sched.proofs.scheduler.RingBufferScheduler.next_write_block.Reads as next_write_block
use Rattle.sched.proofs.block.Block.new.Kinds as Block-new-kinds
use Rattle.sched.proofs.block.Block.new.Reads as Block-new
use Rattle.sched.proofs.scheduler.RingBufferScheduler.schedule_next_contiguous_operation.Kinds as schedule_next_contiguous_operation_kinds
use Rattle.sched.proofs.scheduler.RingBufferScheduler.schedule_next_contiguous_operation.Reads as schedule_next_contiguous_operation
use Rattle.sched.proofs.scheduler.RingBufferScheduler.schedule_next_read.Kinds as schedule_next_read_kinds
use Rattle.sched.proofs.scheduler.RingBufferScheduler.schedule_next_read.Reads as schedule_next_read
use Rattle.sched.proofs.scheduler.RingBufferScheduler.schedule_next_write.Kinds as schedule_next_write_kinds
use Rattle.sched.proofs.scheduler.RingBufferScheduler.schedule_next_write.Reads as schedule_next_write
use Rattle.sched.proofs.scheduler.RingBufferScheduler.schedule_contiguous_operations.Kinds as schedule_contiguous_operations_kinds
use Rattle.sched.proofs.scheduler.RingBufferScheduler.schedule_contiguous_operations.Reads as schedule_contiguous_operations
use Rattle.sched.proofs.scheduler.RingBufferScheduler.schedule_reads.Kinds as schedule_reads_kinds
use Rattle.sched.proofs.scheduler.RingBufferScheduler.schedule_reads.Reads as schedule_reads
use Rattle.sched.proofs.scheduler.RingBufferScheduler.schedule_writes.Kinds as schedule_writes_kinds
use Rattle.sched.proofs.scheduler.RingBufferScheduler.schedule_writes.Reads as schedule_writes
use Rattle.sched.proofs.scheduler.RingBufferScheduler.try_register_read.Kinds as try_register_read_kinds
use Rattle.sched.proofs.scheduler.RingBufferScheduler.try_register_read.Reads as try_register_read
use Rattle.sched.proofs.scheduler.RingBufferScheduler.try_register_write.Kinds as try_register_write_kinds
use Rattle.sched.proofs.scheduler.RingBufferScheduler.try_register_write.Reads as try_register_write
use Rattle.sched.proofs.scheduler.RingBufferScheduler.try_register_operation_manually.Kinds as try_register_operation_manually_kinds
use Rattle.sched.proofs.scheduler.RingBufferScheduler.try_register_operation_manually.Reads as try_register_operation_manually
use Rattle.sched.proofs.scheduler.RingBufferScheduler.try_register_operation.Kinds as try_register_operation_kinds
use Rattle.sched.proofs.scheduler.RingBufferScheduler.try_register_operation.Reads as try_register_operation
use Rattle.sched.proofs.scheduler.RingBufferScheduler.try_register_operations.Kinds as try_register_operations_kinds
use Rattle.sched.proofs.scheduler.RingBufferScheduler.try_register_operations.Reads as try_register_operations
use Rattle.sched.proofs.scheduler.RingBufferScheduler.schedule_and_register.Kinds as schedule_and_register_kinds
use Rattle.sched.proofs.scheduler.RingBufferScheduler.schedule_and_register.Reads as schedule_and_register
use Rattle.sched.proofs.sound.Sound.greatest.Kinds as greatest_kinds
use Rattle.sched.proofs.sound.Sound.greatest.Reads as greatest
use Rattle.sched.proofs.sound.Sound.offset.Kinds as offset_kinds
use Rattle.sched.proofs.sound.Sound.offset.Reads as offset
use Rattle.sched.proofs.sound.Sound.moved.Kinds as moved_kinds
use Rattle.sched.proofs.sound.Sound.moved.Reads as moved
use Rattle.sched.specs.Chunk.{body_fits}
use Rattle.sched.proofs.chunk.body_fits.Kinds as body_fits_kinds
use Rattle.sched.proofs.chunk.body_fits.Reads as body_fits_lem

-- ---- the record and its checks
pub try_new_says : Says 0 try_new_kinds.ps try_new_kinds.r try_new.Learnt (λ κs a. sound_of (scheduler_of a.0 (record { 0 = 0 }) (record { 0 = 0 })))
try_new_says κs a z ws p = p

pub try_from_counters_says : Says 0 try_from_counters_kinds.ps try_from_counters_kinds.r try_from_counters.Learnt (λ κs a. sound_of (scheduler_of a.0 a.1.0 a.1.1.0))
try_from_counters_says κs a z ws p = p

pub from_numbers_says : Says 0 from_numbers_kinds.ps from_numbers_kinds.r from_numbers.Learnt (λ κs a. record_of a.0 a.1.0 a.1.1.0 a.1.1.1.0)
from_numbers_says κs a z ws p = p

pub try_with_counter_says : Says 0 try_with_counter_kinds.ps try_with_counter_kinds.r try_with_counter.Learnt (λ κs a. with_counter_of a.0 a.1.0 a.1.1.0)
try_with_counter_says κs a z ws p = p

pub demand_soundness_says : Says 0 demand_soundness_kinds.ps demand_soundness_kinds.r demand_soundness.Learnt (λ κs a. sound_of a.0)
demand_soundness_says κs a z ws p = p

-- ---- counters, offsets, data and space
pub buf_len_says : Says 0 buf_len_kinds.ps buf_len_kinds.r buf_len.Learnt (λ κs a. buf_len_of a.0)
buf_len_says κs a z ws p = p

pub is_zero_sized_says : Says 0 is_zero_sized_kinds.ps is_zero_sized_kinds.r is_zero_sized.Learnt (λ κs a. is_zero_from (buf_len_of a.0))
is_zero_sized_says κs a z ws p = p

pub items_read_says : Says 0 items_read_kinds.ps items_read_kinds.r items_read.Learnt (λ κs a. counter_answer_of a.0 Read)
items_read_says κs a z ws p = p

pub items_written_says : Says 0 items_written_kinds.ps items_written_kinds.r items_written.Learnt (λ κs a. counter_answer_of a.0 Write)
items_written_says κs a z ws p = p

pub operation_counter_says : Says 0 operation_counter_kinds.ps operation_counter_kinds.r operation_counter.Learnt (λ κs a. counter_answer_of a.0 a.1.0)
operation_counter_says κs a z ws p = p

pub read_off_says : Says 0 read_off_kinds.ps read_off_kinds.r read_off.Learnt (λ κs a. offset_answer_of a.0 Read)
read_off_says κs a z ws p = p

pub write_off_says : Says 0 write_off_kinds.ps write_off_kinds.r write_off.Learnt (λ κs a. offset_answer_of a.0 Write)
write_off_says κs a z ws p = p

pub operation_offset_says : Says 0 operation_offset_kinds.ps operation_offset_kinds.r operation_offset.Learnt (λ κs a. offset_answer_of a.0 a.1.0)
operation_offset_says κs a z ws p = p

pub data_avail_says : Says 0 data_avail_kinds.ps data_avail_kinds.r data_avail.Learnt (λ κs a. greatest_of a.0 Read)
data_avail_says κs a z ws p = p

pub space_avail_says : Says 0 space_avail_kinds.ps space_avail_kinds.r space_avail.Learnt (λ κs a. greatest_of a.0 Write)
space_avail_says κs a z ws p = p

pub max_operation_len_says : Says 0 max_operation_len_kinds.ps max_operation_len_kinds.r max_operation_len.Learnt (λ κs a. greatest_of a.0 a.1.0)
max_operation_len_says κs a z ws p = p

-- ---- blocks, layout, fill state
pub fill_state_says : Says 0 fill_state_kinds.ps fill_state_kinds.r fill_state.Learnt (λ κs a. fill_state_of a.0)
fill_state_says κs a z ws p = p

pub is_empty_says : Says 0 is_empty_kinds.ps is_empty_kinds.r is_empty.Learnt (λ κs a. is_zero_from (greatest_of a.0 Read))
is_empty_says κs a z ws p = p

pub is_full_says : Says 0 is_full_kinds.ps is_full_kinds.r is_full.Learnt (λ κs a. is_zero_from (greatest_of a.0 Write))
is_full_says κs a z ws p = p

pub is_nonempty_says : Says 0 is_nonempty_kinds.ps is_nonempty_kinds.r is_nonempty.Learnt (λ κs a. is_positive_from (greatest_of a.0 Read))
is_nonempty_says κs a z ws p = p

pub is_nonfull_says : Says 0 is_nonfull_kinds.ps is_nonfull_kinds.r is_nonfull.Learnt (λ κs a. is_positive_from (greatest_of a.0 Write))
is_nonfull_says κs a z ws p = p

pub layout_says : Says 0 layout_kinds.ps layout_kinds.r layout.Learnt (λ κs a. layout_of a.0)
layout_says κs a z ws p = p

pub blocks_says : Says 0 blocks_kinds.ps blocks_kinds.r blocks.Learnt (λ κs a. blocks_of a.0)
blocks_says κs a z ws p = p

pub block_0_says : Says 0 block_0_kinds.ps block_0_kinds.r block_0.Learnt (λ κs a. block0_from (blocks_of a.0))
block_0_says κs a z ws p = p

pub block_1_says : Says 0 block_1_kinds.ps block_1_kinds.r block_1.Learnt (λ κs a. block1_from (blocks_of a.0))
block_1_says κs a z ws p = p

pub block_2_says : Says 0 block_2_kinds.ps block_2_kinds.r block_2.Learnt (λ κs a. block2_from (blocks_of a.0))
block_2_says κs a z ws p = p

pub block_0_off_says : Says 0 block_0_off_kinds.ps block_0_off_kinds.r block_0_off.Learnt (λ κs a. off_from (block0_from (blocks_of a.0)))
block_0_off_says κs a z ws p = p

pub block_1_off_says : Says 0 block_1_off_kinds.ps block_1_off_kinds.r block_1_off.Learnt (λ κs a. off_from (block1_from (blocks_of a.0)))
block_1_off_says κs a z ws p = p

pub block_2_off_says : Says 0 block_2_off_kinds.ps block_2_off_kinds.r block_2_off.Learnt (λ κs a. off_from (block2_from (blocks_of a.0)))
block_2_off_says κs a z ws p = p

pub block_0_len_says : Says 0 block_0_len_kinds.ps block_0_len_kinds.r block_0_len.Learnt (λ κs a. len_from (block0_from (blocks_of a.0)))
block_0_len_says κs a z ws p = p

pub block_1_len_says : Says 0 block_1_len_kinds.ps block_1_len_kinds.r block_1_len.Learnt (λ κs a. len_from (block1_from (blocks_of a.0)))
block_1_len_says κs a z ws p = p

pub block_2_len_says : Says 0 block_2_len_kinds.ps block_2_len_kinds.r block_2_len.Learnt (λ κs a. len_from (block2_from (blocks_of a.0)))
block_2_len_says κs a z ws p = p

pub next_operation_block_says : Says 0 next_operation_block_kinds.ps next_operation_block_kinds.r next_operation_block.Learnt (λ κs a. next_block_of a.0 a.1.0)
next_operation_block_says κs a z ws p = p

pub next_read_block_says : Says 0 next_read_block_kinds.ps next_read_block_kinds.r next_read_block.Learnt (λ κs a. next_block_of a.0 Read)
next_read_block_says κs a z ws p = p

pub next_write_block_says : Says 0 next_write_block_kinds.ps next_write_block_kinds.r next_write_block.Learnt (λ κs a. next_block_of a.0 Write)
next_write_block_says κs a z ws p = p

pub Block-new-says : Says 0 Block-new-kinds.ps Block-new-kinds.r Block-new.Learnt (λ κs a. block_of a.0 a.1.0 a.1.1.0 a.1.1.1.0)
Block-new-says κs a z ws p = p

-- ---- scheduling
pub schedule_next_contiguous_operation_says : Says 0 schedule_next_contiguous_operation_kinds.ps schedule_next_contiguous_operation_kinds.r schedule_next_contiguous_operation.Learnt (λ κs a. next_of a.0 a.1.0 a.1.1.0)
schedule_next_contiguous_operation_says κs a z ws p = p

pub schedule_next_read_says : Says 0 schedule_next_read_kinds.ps schedule_next_read_kinds.r schedule_next_read.Learnt (λ κs a. next_of a.0 Read a.1.0)
schedule_next_read_says κs a z ws p = p

pub schedule_next_write_says : Says 0 schedule_next_write_kinds.ps schedule_next_write_kinds.r schedule_next_write.Learnt (λ κs a. next_of a.0 Write a.1.0)
schedule_next_write_says κs a z ws p = p

pub schedule_contiguous_operations_says : Says 0 schedule_contiguous_operations_kinds.ps schedule_contiguous_operations_kinds.r schedule_contiguous_operations.Learnt (λ κs a. schedule_of a.0 a.1.0 a.1.1.0)
schedule_contiguous_operations_says κs a z ws p = p

pub schedule_reads_says : Says 0 schedule_reads_kinds.ps schedule_reads_kinds.r schedule_reads.Learnt (λ κs a. schedule_of a.0 Read a.1.0)
schedule_reads_says κs a z ws p = p

pub schedule_writes_says : Says 0 schedule_writes_kinds.ps schedule_writes_kinds.r schedule_writes.Learnt (λ κs a. schedule_of a.0 Write a.1.0)
schedule_writes_says κs a z ws p = p

-- ---- registering
pub try_register_read_says : Says 0 try_register_read_kinds.ps try_register_read_kinds.r try_register_read.Learnt (λ κs a. register_of a.0 Read a.1.0)
try_register_read_says κs a z ws p = p

pub try_register_write_says : Says 0 try_register_write_kinds.ps try_register_write_kinds.r try_register_write.Learnt (λ κs a. register_of a.0 Write a.1.0)
try_register_write_says κs a z ws p = p

pub try_register_operation_manually_says : Says 0 try_register_operation_manually_kinds.ps try_register_operation_manually_kinds.r try_register_operation_manually.Learnt (λ κs a. register_of a.0 a.1.0 a.1.1.0)
try_register_operation_manually_says κs a z ws p = p

pub try_register_operation_says : Says 0 try_register_operation_kinds.ps try_register_operation_kinds.r try_register_operation.Learnt (λ κs a. register_of a.0 a.1.0.typ a.1.0.len)
try_register_operation_says κs a z ws p = p

pub try_register_operations_says : Says 0 try_register_operations_kinds.ps try_register_operations_kinds.r try_register_operations.Learnt (λ κs a. register_list_of a.0 a.1.0)
try_register_operations_says κs a z ws p = p

pub schedule_and_register_says : Says 0 schedule_and_register_kinds.ps schedule_and_register_kinds.r schedule_and_register.Learnt (λ κs a. move_of a.0 a.1.0 a.1.1.0)
schedule_and_register_says κs a z ws p = p

-- ---- so each contract decides the outcome: any two that it allows are equal. Here for one of them
schedule_reads_decided : Decides 0 schedule_reads_kinds.ps schedule_reads_kinds.r schedule_reads.Learnt
schedule_reads_decided = says_decides 0 schedule_reads_kinds.ps schedule_reads_kinds.r schedule_reads.Learnt _ (λ κs a ws ws'. refl) schedule_reads_says

-- ---- of a sound scheduler, which is not tested again
pub greatest_says : Says 0 greatest_kinds.ps greatest_kinds.r greatest.Learnt (λ κs a. greatest_in a.0 a.1.0)
greatest_says κs a z ws p = p.0

pub offset_says : Says 0 offset_kinds.ps offset_kinds.r offset.Learnt (λ κs a. offset_in a.0 a.1.0)
offset_says κs a z ws p = p

pub moved_says : Says 0 moved_kinds.ps moved_kinds.r moved.Learnt (λ κs a. advanced_in a.0 a.1.0 (min a.1.1.0 (greatest_in a.0 a.1.0)))
moved_says κs a z ws p = p

-- ---- the bound of a body
pub body_fits_says : Says 0 body_fits_kinds.ps body_fits_kinds.r body_fits_lem.Learnt (λ κs a. body_fits a.0 a.1.0)
body_fits_says κs a z ws p = p
