-- Thin.antt, of the scheduler: its record, counters, data and space, in the order of the C header.
use mathlib.Core.Path.{sym, ap, ◌∙◌}
use Rattle.flat.specs.Block.{flat_fill_state}
use Rattle.flat.specs.Counter.{flat_amount, flat_bool, flat_counter, flat_offset}
use Rattle.flat.specs.List.{operations_at}
use Rattle.flat.specs.Operation.{operation_at, type_at}
use Rattle.flat.specs.Scheduler.{flat_checked, scheduler_at}
use Rattle.stripring.proofs.Thin.{Thin}
use Rattle.stripring.proofs.scheduler.stripring_scheduler_try_new.Kinds as try_new_kinds
use Rattle.stripring.proofs.scheduler.stripring_scheduler_try_new.Reads as try_new
use Rattle.sched.proofs.scheduler.RingBufferScheduler.try_new.Kinds as lib_try_new_kinds
use Rattle.sched.proofs.scheduler.RingBufferScheduler.try_new.Reads as lib_try_new
use Rattle.stripring.proofs.scheduler.stripring_scheduler_try_from_counters.Kinds as try_from_counters_kinds
use Rattle.stripring.proofs.scheduler.stripring_scheduler_try_from_counters.Reads as try_from_counters
use Rattle.stripring.proofs.scheduler.stripring_scheduler_try_with_counter.Kinds as try_with_counter_kinds
use Rattle.stripring.proofs.scheduler.stripring_scheduler_try_with_counter.Reads as try_with_counter
use Rattle.sched.proofs.scheduler.RingBufferScheduler.try_from_counters.Kinds as lib_try_from_counters_kinds
use Rattle.sched.proofs.scheduler.RingBufferScheduler.try_from_counters.Reads as lib_try_from_counters
use Rattle.sched.proofs.scheduler.RingBufferScheduler.try_with_counter.Kinds as lib_try_with_counter_kinds
use Rattle.sched.proofs.scheduler.RingBufferScheduler.try_with_counter.Reads as lib_try_with_counter
use Rattle.stripring.proofs.scheduler.stripring_scheduler_demand_soundness.Kinds as demand_soundness_kinds
use Rattle.stripring.proofs.scheduler.stripring_scheduler_demand_soundness.Reads as demand_soundness
use Rattle.sched.proofs.scheduler.RingBufferScheduler.demand_soundness.Kinds as lib_demand_soundness_kinds
use Rattle.sched.proofs.scheduler.RingBufferScheduler.demand_soundness.Reads as lib_demand_soundness
use Rattle.stripring.proofs.scheduler.stripring_scheduler_try_register_read.Kinds as try_register_read_kinds
use Rattle.stripring.proofs.scheduler.stripring_scheduler_try_register_read.Reads as try_register_read
use Rattle.sched.proofs.scheduler.RingBufferScheduler.try_register_read.Kinds as lib_try_register_read_kinds
use Rattle.sched.proofs.scheduler.RingBufferScheduler.try_register_read.Reads as lib_try_register_read
use Rattle.stripring.proofs.scheduler.stripring_scheduler_try_register_write.Kinds as try_register_write_kinds
use Rattle.stripring.proofs.scheduler.stripring_scheduler_try_register_write.Reads as try_register_write
use Rattle.sched.proofs.scheduler.RingBufferScheduler.try_register_write.Kinds as lib_try_register_write_kinds
use Rattle.sched.proofs.scheduler.RingBufferScheduler.try_register_write.Reads as lib_try_register_write
use Rattle.stripring.proofs.scheduler.stripring_scheduler_try_register_operation_manually.Kinds as try_register_operation_manually_kinds
use Rattle.stripring.proofs.scheduler.stripring_scheduler_try_register_operation_manually.Reads as try_register_operation_manually
use Rattle.sched.proofs.scheduler.RingBufferScheduler.try_register_operation_manually.Kinds as lib_try_register_operation_manually_kinds
use Rattle.sched.proofs.scheduler.RingBufferScheduler.try_register_operation_manually.Reads as lib_try_register_operation_manually
use Rattle.stripring.proofs.scheduler.stripring_scheduler_try_register_operation.Kinds as try_register_operation_kinds
use Rattle.stripring.proofs.scheduler.stripring_scheduler_try_register_operation.Reads as try_register_operation
use Rattle.sched.proofs.scheduler.RingBufferScheduler.try_register_operation.Kinds as lib_try_register_operation_kinds
use Rattle.sched.proofs.scheduler.RingBufferScheduler.try_register_operation.Reads as lib_try_register_operation
use Rattle.stripring.proofs.scheduler.stripring_scheduler_try_register_operations.Kinds as try_register_operations_kinds
use Rattle.stripring.proofs.scheduler.stripring_scheduler_try_register_operations.Reads as try_register_operations
use Rattle.sched.proofs.scheduler.RingBufferScheduler.try_register_operations.Kinds as lib_try_register_operations_kinds
use Rattle.sched.proofs.scheduler.RingBufferScheduler.try_register_operations.Reads as lib_try_register_operations
use Rattle.stripring.proofs.scheduler.stripring_scheduler_items_read.Kinds as items_read_kinds
use Rattle.stripring.proofs.scheduler.stripring_scheduler_items_read.Reads as items_read
use Rattle.sched.proofs.scheduler.RingBufferScheduler.items_read.Kinds as lib_items_read_kinds
use Rattle.sched.proofs.scheduler.RingBufferScheduler.items_read.Reads as lib_items_read
use Rattle.stripring.proofs.scheduler.stripring_scheduler_items_written.Kinds as items_written_kinds
use Rattle.stripring.proofs.scheduler.stripring_scheduler_items_written.Reads as items_written
use Rattle.sched.proofs.scheduler.RingBufferScheduler.items_written.Kinds as lib_items_written_kinds
use Rattle.sched.proofs.scheduler.RingBufferScheduler.items_written.Reads as lib_items_written
use Rattle.stripring.proofs.scheduler.stripring_scheduler_operation_counter.Kinds as operation_counter_kinds
use Rattle.stripring.proofs.scheduler.stripring_scheduler_operation_counter.Reads as operation_counter
use Rattle.sched.proofs.scheduler.RingBufferScheduler.operation_counter.Kinds as lib_operation_counter_kinds
use Rattle.sched.proofs.scheduler.RingBufferScheduler.operation_counter.Reads as lib_operation_counter
use Rattle.stripring.proofs.scheduler.stripring_scheduler_read_off.Kinds as read_off_kinds
use Rattle.stripring.proofs.scheduler.stripring_scheduler_read_off.Reads as read_off
use Rattle.sched.proofs.scheduler.RingBufferScheduler.read_off.Kinds as lib_read_off_kinds
use Rattle.sched.proofs.scheduler.RingBufferScheduler.read_off.Reads as lib_read_off
use Rattle.stripring.proofs.scheduler.stripring_scheduler_write_off.Kinds as write_off_kinds
use Rattle.stripring.proofs.scheduler.stripring_scheduler_write_off.Reads as write_off
use Rattle.sched.proofs.scheduler.RingBufferScheduler.write_off.Kinds as lib_write_off_kinds
use Rattle.sched.proofs.scheduler.RingBufferScheduler.write_off.Reads as lib_write_off
use Rattle.stripring.proofs.scheduler.stripring_scheduler_operation_offset.Kinds as operation_offset_kinds
use Rattle.stripring.proofs.scheduler.stripring_scheduler_operation_offset.Reads as operation_offset
use Rattle.sched.proofs.scheduler.RingBufferScheduler.operation_offset.Kinds as lib_operation_offset_kinds
use Rattle.sched.proofs.scheduler.RingBufferScheduler.operation_offset.Reads as lib_operation_offset
use Rattle.stripring.proofs.scheduler.stripring_scheduler_buf_len.Kinds as buf_len_kinds
use Rattle.stripring.proofs.scheduler.stripring_scheduler_buf_len.Reads as buf_len
use Rattle.sched.proofs.scheduler.RingBufferScheduler.buf_len.Kinds as lib_buf_len_kinds
use Rattle.sched.proofs.scheduler.RingBufferScheduler.buf_len.Reads as lib_buf_len
use Rattle.stripring.proofs.scheduler.stripring_scheduler_is_zero_sized.Kinds as is_zero_sized_kinds
use Rattle.stripring.proofs.scheduler.stripring_scheduler_is_zero_sized.Reads as is_zero_sized
use Rattle.sched.proofs.scheduler.RingBufferScheduler.is_zero_sized.Kinds as lib_is_zero_sized_kinds
use Rattle.sched.proofs.scheduler.RingBufferScheduler.is_zero_sized.Reads as lib_is_zero_sized
use Rattle.stripring.proofs.scheduler.stripring_scheduler_data_avail.Kinds as data_avail_kinds
use Rattle.stripring.proofs.scheduler.stripring_scheduler_data_avail.Reads as data_avail
use Rattle.sched.proofs.scheduler.RingBufferScheduler.data_avail.Kinds as lib_data_avail_kinds
use Rattle.sched.proofs.scheduler.RingBufferScheduler.data_avail.Reads as lib_data_avail
use Rattle.stripring.proofs.scheduler.stripring_scheduler_space_avail.Kinds as space_avail_kinds
use Rattle.stripring.proofs.scheduler.stripring_scheduler_space_avail.Reads as space_avail
use Rattle.sched.proofs.scheduler.RingBufferScheduler.space_avail.Kinds as lib_space_avail_kinds
use Rattle.sched.proofs.scheduler.RingBufferScheduler.space_avail.Reads as lib_space_avail
use Rattle.stripring.proofs.scheduler.stripring_scheduler_max_operation_len.Kinds as max_operation_len_kinds
use Rattle.stripring.proofs.scheduler.stripring_scheduler_max_operation_len.Reads as max_operation_len
use Rattle.sched.proofs.scheduler.RingBufferScheduler.max_operation_len.Kinds as lib_max_operation_len_kinds
use Rattle.sched.proofs.scheduler.RingBufferScheduler.max_operation_len.Reads as lib_max_operation_len
use Rattle.stripring.proofs.scheduler.stripring_scheduler_fill_state.Kinds as fill_state_kinds
use Rattle.stripring.proofs.scheduler.stripring_scheduler_fill_state.Reads as fill_state
use Rattle.sched.proofs.scheduler.RingBufferScheduler.fill_state.Kinds as lib_fill_state_kinds
use Rattle.sched.proofs.scheduler.RingBufferScheduler.fill_state.Reads as lib_fill_state
use Rattle.stripring.proofs.scheduler.stripring_scheduler_is_empty.Kinds as is_empty_kinds
use Rattle.stripring.proofs.scheduler.stripring_scheduler_is_empty.Reads as is_empty
use Rattle.sched.proofs.scheduler.RingBufferScheduler.is_empty.Kinds as lib_is_empty_kinds
use Rattle.sched.proofs.scheduler.RingBufferScheduler.is_empty.Reads as lib_is_empty
use Rattle.stripring.proofs.scheduler.stripring_scheduler_is_full.Kinds as is_full_kinds
use Rattle.stripring.proofs.scheduler.stripring_scheduler_is_full.Reads as is_full
use Rattle.sched.proofs.scheduler.RingBufferScheduler.is_full.Kinds as lib_is_full_kinds
use Rattle.sched.proofs.scheduler.RingBufferScheduler.is_full.Reads as lib_is_full
use Rattle.stripring.proofs.scheduler.stripring_scheduler_is_nonempty.Kinds as is_nonempty_kinds
use Rattle.stripring.proofs.scheduler.stripring_scheduler_is_nonempty.Reads as is_nonempty
use Rattle.sched.proofs.scheduler.RingBufferScheduler.is_nonempty.Kinds as lib_is_nonempty_kinds
use Rattle.sched.proofs.scheduler.RingBufferScheduler.is_nonempty.Reads as lib_is_nonempty
use Rattle.stripring.proofs.scheduler.stripring_scheduler_is_nonfull.Kinds as is_nonfull_kinds
use Rattle.stripring.proofs.scheduler.stripring_scheduler_is_nonfull.Reads as is_nonfull
use Rattle.sched.proofs.scheduler.RingBufferScheduler.is_nonfull.Kinds as lib_is_nonfull_kinds
use Rattle.sched.proofs.scheduler.RingBufferScheduler.is_nonfull.Reads as lib_is_nonfull

pub try_new_thin : Thin 0 try_new_kinds.ps try_new_kinds.r try_new.Learnt lib_try_new_kinds.ps lib_try_new_kinds.r lib_try_new.Learnt (λ κs a. (a.0, tt)) (λ κs x. flat_checked x)
try_new_thin κs a z (ws, p) x (us, q) = p ∙ ap flat_checked (sym q)

pub try_from_counters_thin : Thin 0 try_from_counters_kinds.ps try_from_counters_kinds.r try_from_counters.Learnt lib_try_from_counters_kinds.ps lib_try_from_counters_kinds.r lib_try_from_counters.Learnt (λ κs a. (a.0, (record { 0 = a.1.0 }, (record { 0 = a.1.1.0 }, tt)))) (λ κs x. flat_checked x)
try_from_counters_thin κs a z (ws, p) x (us, q) = p ∙ ap flat_checked (sym q)

pub try_with_counter_thin : Thin 0 try_with_counter_kinds.ps try_with_counter_kinds.r try_with_counter.Learnt lib_try_with_counter_kinds.ps lib_try_with_counter_kinds.r lib_try_with_counter.Learnt (λ κs a. (scheduler_at a.0, (type_at a.1.0, (record { 0 = a.1.1.0 }, tt)))) (λ κs x. flat_checked x)
try_with_counter_thin κs a z (ws, p) x (us, q) = p ∙ ap flat_checked (sym q)

pub demand_soundness_thin : Thin 0 demand_soundness_kinds.ps demand_soundness_kinds.r demand_soundness.Learnt lib_demand_soundness_kinds.ps lib_demand_soundness_kinds.r lib_demand_soundness.Learnt (λ κs a. (scheduler_at a.0, tt)) (λ κs x. flat_checked x)
demand_soundness_thin κs a z (ws, p) x (us, q) = p ∙ ap flat_checked (sym q)

pub try_register_read_thin : Thin 0 try_register_read_kinds.ps try_register_read_kinds.r try_register_read.Learnt lib_try_register_read_kinds.ps lib_try_register_read_kinds.r lib_try_register_read.Learnt (λ κs a. (scheduler_at a.0, (a.1.0, tt))) (λ κs x. flat_checked x)
try_register_read_thin κs a z (ws, p) x (us, q) = p ∙ ap flat_checked (sym q)

pub try_register_write_thin : Thin 0 try_register_write_kinds.ps try_register_write_kinds.r try_register_write.Learnt lib_try_register_write_kinds.ps lib_try_register_write_kinds.r lib_try_register_write.Learnt (λ κs a. (scheduler_at a.0, (a.1.0, tt))) (λ κs x. flat_checked x)
try_register_write_thin κs a z (ws, p) x (us, q) = p ∙ ap flat_checked (sym q)

pub try_register_operation_manually_thin : Thin 0 try_register_operation_manually_kinds.ps try_register_operation_manually_kinds.r try_register_operation_manually.Learnt lib_try_register_operation_manually_kinds.ps lib_try_register_operation_manually_kinds.r lib_try_register_operation_manually.Learnt (λ κs a. (scheduler_at a.0, (type_at a.1.0, (a.1.1.0, tt)))) (λ κs x. flat_checked x)
try_register_operation_manually_thin κs a z (ws, p) x (us, q) = p ∙ ap flat_checked (sym q)

pub try_register_operation_thin : Thin 0 try_register_operation_kinds.ps try_register_operation_kinds.r try_register_operation.Learnt lib_try_register_operation_kinds.ps lib_try_register_operation_kinds.r lib_try_register_operation.Learnt (λ κs a. (scheduler_at a.0, (operation_at a.1.0, tt))) (λ κs x. flat_checked x)
try_register_operation_thin κs a z (ws, p) x (us, q) = p ∙ ap flat_checked (sym q)

pub try_register_operations_thin : Thin 0 try_register_operations_kinds.ps try_register_operations_kinds.r try_register_operations.Learnt lib_try_register_operations_kinds.ps lib_try_register_operations_kinds.r lib_try_register_operations.Learnt (λ κs a. (scheduler_at a.0, (operations_at a.1.0, tt))) (λ κs x. flat_checked x)
try_register_operations_thin κs a z (ws, p) x (us, q) = p ∙ ap flat_checked (sym q)

pub items_read_thin : Thin 0 items_read_kinds.ps items_read_kinds.r items_read.Learnt lib_items_read_kinds.ps lib_items_read_kinds.r lib_items_read.Learnt (λ κs a. (scheduler_at a.0, tt)) (λ κs x. flat_counter x)
items_read_thin κs a z (ws, p) x (us, q) = p ∙ ap flat_counter (sym q)

pub items_written_thin : Thin 0 items_written_kinds.ps items_written_kinds.r items_written.Learnt lib_items_written_kinds.ps lib_items_written_kinds.r lib_items_written.Learnt (λ κs a. (scheduler_at a.0, tt)) (λ κs x. flat_counter x)
items_written_thin κs a z (ws, p) x (us, q) = p ∙ ap flat_counter (sym q)

pub operation_counter_thin : Thin 0 operation_counter_kinds.ps operation_counter_kinds.r operation_counter.Learnt lib_operation_counter_kinds.ps lib_operation_counter_kinds.r lib_operation_counter.Learnt (λ κs a. (scheduler_at a.0, (type_at a.1.0, tt))) (λ κs x. flat_counter x)
operation_counter_thin κs a z (ws, p) x (us, q) = p ∙ ap flat_counter (sym q)

pub read_off_thin : Thin 0 read_off_kinds.ps read_off_kinds.r read_off.Learnt lib_read_off_kinds.ps lib_read_off_kinds.r lib_read_off.Learnt (λ κs a. (scheduler_at a.0, tt)) (λ κs x. flat_offset x)
read_off_thin κs a z (ws, p) x (us, q) = p ∙ ap flat_offset (sym q)

pub write_off_thin : Thin 0 write_off_kinds.ps write_off_kinds.r write_off.Learnt lib_write_off_kinds.ps lib_write_off_kinds.r lib_write_off.Learnt (λ κs a. (scheduler_at a.0, tt)) (λ κs x. flat_offset x)
write_off_thin κs a z (ws, p) x (us, q) = p ∙ ap flat_offset (sym q)

pub operation_offset_thin : Thin 0 operation_offset_kinds.ps operation_offset_kinds.r operation_offset.Learnt lib_operation_offset_kinds.ps lib_operation_offset_kinds.r lib_operation_offset.Learnt (λ κs a. (scheduler_at a.0, (type_at a.1.0, tt))) (λ κs x. flat_offset x)
operation_offset_thin κs a z (ws, p) x (us, q) = p ∙ ap flat_offset (sym q)

pub buf_len_thin : Thin 0 buf_len_kinds.ps buf_len_kinds.r buf_len.Learnt lib_buf_len_kinds.ps lib_buf_len_kinds.r lib_buf_len.Learnt (λ κs a. (scheduler_at a.0, tt)) (λ κs x. flat_amount x)
buf_len_thin κs a z (ws, p) x (us, q) = p ∙ ap flat_amount (sym q)

pub is_zero_sized_thin : Thin 0 is_zero_sized_kinds.ps is_zero_sized_kinds.r is_zero_sized.Learnt lib_is_zero_sized_kinds.ps lib_is_zero_sized_kinds.r lib_is_zero_sized.Learnt (λ κs a. (scheduler_at a.0, tt)) (λ κs x. flat_bool x)
is_zero_sized_thin κs a z (ws, p) x (us, q) = p ∙ ap flat_bool (sym q)

pub data_avail_thin : Thin 0 data_avail_kinds.ps data_avail_kinds.r data_avail.Learnt lib_data_avail_kinds.ps lib_data_avail_kinds.r lib_data_avail.Learnt (λ κs a. (scheduler_at a.0, tt)) (λ κs x. flat_amount x)
data_avail_thin κs a z (ws, p) x (us, q) = p ∙ ap flat_amount (sym q)

pub space_avail_thin : Thin 0 space_avail_kinds.ps space_avail_kinds.r space_avail.Learnt lib_space_avail_kinds.ps lib_space_avail_kinds.r lib_space_avail.Learnt (λ κs a. (scheduler_at a.0, tt)) (λ κs x. flat_amount x)
space_avail_thin κs a z (ws, p) x (us, q) = p ∙ ap flat_amount (sym q)

pub max_operation_len_thin : Thin 0 max_operation_len_kinds.ps max_operation_len_kinds.r max_operation_len.Learnt lib_max_operation_len_kinds.ps lib_max_operation_len_kinds.r lib_max_operation_len.Learnt (λ κs a. (scheduler_at a.0, (type_at a.1.0, tt))) (λ κs x. flat_amount x)
max_operation_len_thin κs a z (ws, p) x (us, q) = p ∙ ap flat_amount (sym q)

pub fill_state_thin : Thin 0 fill_state_kinds.ps fill_state_kinds.r fill_state.Learnt lib_fill_state_kinds.ps lib_fill_state_kinds.r lib_fill_state.Learnt (λ κs a. (scheduler_at a.0, tt)) (λ κs x. flat_fill_state x)
fill_state_thin κs a z (ws, p) x (us, q) = p ∙ ap flat_fill_state (sym q)

pub is_empty_thin : Thin 0 is_empty_kinds.ps is_empty_kinds.r is_empty.Learnt lib_is_empty_kinds.ps lib_is_empty_kinds.r lib_is_empty.Learnt (λ κs a. (scheduler_at a.0, tt)) (λ κs x. flat_bool x)
is_empty_thin κs a z (ws, p) x (us, q) = p ∙ ap flat_bool (sym q)

pub is_full_thin : Thin 0 is_full_kinds.ps is_full_kinds.r is_full.Learnt lib_is_full_kinds.ps lib_is_full_kinds.r lib_is_full.Learnt (λ κs a. (scheduler_at a.0, tt)) (λ κs x. flat_bool x)
is_full_thin κs a z (ws, p) x (us, q) = p ∙ ap flat_bool (sym q)

pub is_nonempty_thin : Thin 0 is_nonempty_kinds.ps is_nonempty_kinds.r is_nonempty.Learnt lib_is_nonempty_kinds.ps lib_is_nonempty_kinds.r lib_is_nonempty.Learnt (λ κs a. (scheduler_at a.0, tt)) (λ κs x. flat_bool x)
is_nonempty_thin κs a z (ws, p) x (us, q) = p ∙ ap flat_bool (sym q)

pub is_nonfull_thin : Thin 0 is_nonfull_kinds.ps is_nonfull_kinds.r is_nonfull.Learnt lib_is_nonfull_kinds.ps lib_is_nonfull_kinds.r lib_is_nonfull.Learnt (λ κs a. (scheduler_at a.0, tt)) (λ κs x. flat_bool x)
is_nonfull_thin κs a z (ws, p) x (us, q) = p ∙ ap flat_bool (sym q)
