-- The held fill, of the calls: every record that an accepted call answers holds the data between its counters, and no test
-- refuses it, 20 among them. One that is built of counters holds these, and is refused as they are.
use Rattle.std.proofs.Common.{◌≡◌, ℕ, sym, refl, ap, ◌∙◌, subst, Result, Ok, Err}
use Rattle.operations.proofs.Answered.{err_not_ok}
use Rattle.modular.proofs.Saying.{Keeps}
use Rattle.operations.specs.Given.{number_in, of_result}
use Rattle.operations.specs.declared.counter.Counter.{Counter}
use Rattle.operations.specs.Lists.{ScheduledOperations}
use Rattle.operations.specs.declared.operation.OperationType.{OperationType}
use Rattle.operations.specs.declared.operation.OperationType.TheVariants.{Read, Write}
use Rattle.operations.specs.declared.refusal.Refusal.{Refusal}
use Rattle.sched.specs.declared.register.Move.{Move}
use Rattle.sched.specs.declared.scheduler.RingBufferScheduler.{RingBufferScheduler}
use Rattle.sched.specs.Counter.{data_of}
use Rattle.sched.specs.Given.{Passes}
use Rattle.sched.specs.Promise.{Taken, Built, Replaced, MovedBy, MovedByList, by_none, by_one, by_two}
use Rattle.sched.specs.Scheduler.{record_of, scheduler_of, Counted, IsSound, sound_of, data_in, with_counter_of, register_of, move_in, move_of}
use Rattle.sched.proofs.Counting.{taken_sound, sound_taken, registered_moved, list_moved}
use Rattle.sched.proofs.Given.{record_exactly}
use Rattle.sched.proofs.Laws.{sound_counted, sound_both, sound_is}
use Rattle.sched.proofs.RegisterLaws.{move_of_lem}
use Rattle.sched.proofs.PromisedMoves.{move_keeps}
use Rattle.sched.proofs.Says.{try_new_says, try_from_counters_says, from_numbers_says, try_with_counter_says, demand_soundness_says, try_register_read_says, try_register_write_says, try_register_operation_manually_says, try_register_operation_says, try_register_operations_says, schedule_and_register_says}
use Rattle.sched.proofs.scheduler.RingBufferScheduler.try_new.Kinds as try_new_kinds
use Rattle.sched.proofs.scheduler.RingBufferScheduler.try_new.Reads as try_new
use Rattle.sched.proofs.scheduler.RingBufferScheduler.try_from_counters.Kinds as try_from_counters_kinds
use Rattle.sched.proofs.scheduler.RingBufferScheduler.try_from_counters.Reads as try_from_counters
use Rattle.sched.proofs.scheduler.RingBufferScheduler.from_numbers.Kinds as from_numbers_kinds
use Rattle.sched.proofs.scheduler.RingBufferScheduler.from_numbers.Reads as from_numbers
use Rattle.sched.proofs.scheduler.RingBufferScheduler.try_with_counter.Kinds as try_with_counter_kinds
use Rattle.sched.proofs.scheduler.RingBufferScheduler.try_with_counter.Reads as try_with_counter
use Rattle.sched.proofs.scheduler.RingBufferScheduler.demand_soundness.Kinds as demand_soundness_kinds
use Rattle.sched.proofs.scheduler.RingBufferScheduler.demand_soundness.Reads as demand_soundness
use Rattle.sched.proofs.scheduler.RingBufferScheduler.try_register_read.Kinds as try_register_read_kinds
use Rattle.sched.proofs.scheduler.RingBufferScheduler.try_register_read.Reads as try_register_read
use Rattle.sched.proofs.scheduler.RingBufferScheduler.try_register_write.Kinds as try_register_write_kinds
use Rattle.sched.proofs.scheduler.RingBufferScheduler.try_register_write.Reads as try_register_write
use Rattle.sched.proofs.scheduler.RingBufferScheduler.try_register_operation_manually.Kinds as try_register_operation_manually_kinds
use Rattle.sched.proofs.scheduler.RingBufferScheduler.try_register_operation_manually.Reads as try_register_operation_manually
use Rattle.sched.proofs.scheduler.RingBufferScheduler.try_register_operation.Kinds as try_register_operation_kinds
use Rattle.sched.proofs.scheduler.RingBufferScheduler.try_register_operation.Reads as try_register_operation
use Rattle.sched.proofs.scheduler.RingBufferScheduler.try_register_operations.Kinds as try_register_operations_kinds
use Rattle.sched.proofs.scheduler.RingBufferScheduler.try_register_operations.Reads as try_register_operations
use Rattle.sched.proofs.scheduler.RingBufferScheduler.schedule_and_register.Kinds as schedule_and_register_kinds
use Rattle.sched.proofs.scheduler.RingBufferScheduler.schedule_and_register.Reads as schedule_and_register

-- ---- over the definitions
pub passes : (s : RingBufferScheduler) → IsSound s → Passes s
passes s h =
    record {
      held = h.held;
      taken = sound_taken s h;
      never = λ k vs g. sym ((record_exactly s).always k vs g).0 ∙ ap (λ (c : Result RingBufferScheduler Refusal). number_in (of_result c)) (sym (sound_is s h));
    }

pub moved_sound : (s : RingBufferScheduler) (t : OperationType) (n : ℕ) (u : RingBufferScheduler) → MovedBy s t n u → IsSound u
moved_sound s Read n u m = m.sound
moved_sound s Write n u m = m.sound

list_sound : (s u : RingBufferScheduler) {ops : ScheduledOperations} → IsSound s → MovedByList s ops u → IsSound u
list_sound s u h by_none = h
list_sound s u h (by_one {a} m) = moved_sound s a.typ a.len u m
list_sound s u h (by_two {a} {b} v m n) = moved_sound v b.typ b.len u n

taken_passes : (u : RingBufferScheduler) → Taken u → Passes u
taken_passes u t = passes u (taken_sound u t)

checked_sound : (s u : RingBufferScheduler) → sound_of s ≡ Ok u → IsSound u
checked_sound s u p = let b : IsSound s × (u ≡ s) = sound_both u s (sym p) in rw b.1 b.0

pub built : (l : ℕ) (w r : Counter) (u : RingBufferScheduler) → sound_of (scheduler_of l w r) ≡ Ok u → Built l w r u
built l w r u p =
    let b : IsSound (scheduler_of l w r) × (u ≡ scheduler_of l w r) = sound_both u (scheduler_of l w r) (sym p) in
    rw b.1 (record { length = refl; written = refl; read = refl; taken = sound_taken (scheduler_of l w r) b.0 })

-- and is determined by these
pub built_is : (l : ℕ) (w r : Counter) (u : RingBufferScheduler) → Built l w r u → u ≡ scheduler_of l w r
built_is l w r u b =
    let d : data_in u ≡ data_of l w r = λ i. data_of (b.length i) (b.written i) (b.read i) in
    let f : u.fill ≡ data_of l w r = (taken_sound u b.taken).held ∙ d in
    λ i. record_of (b.length i) (b.written i) (b.read i) (f i)

pub built_counted : (l : ℕ) (w r : Counter) (u : RingBufferScheduler) → Built l w r u → Counted l w r
built_counted l w r u b = sound_counted (scheduler_of l w r) (subst IsSound (built_is l w r u b) (taken_sound u b.taken))

pub replaced : (s : RingBufferScheduler) (t : OperationType) (c : Counter) (u : RingBufferScheduler) → with_counter_of s t c ≡ Ok u → IsSound s × Replaced s t c u
replaced s t c u p = go (sound_of s) refl t p
  where
    of_sound : (h : IsSound s) (t : OperationType) → with_counter_of s t c ≡ Ok u → Replaced s t c u
    of_sound h Read p = built s.buf_len s.items_written c u (rw (← sound_is s h) at p)
    of_sound h Write p = built s.buf_len c s.items_read u (rw (← sound_is s h) at p)

    go : (x : Result RingBufferScheduler Refusal) → sound_of s ≡ x → (t : OperationType) → with_counter_of s t c ≡ Ok u → IsSound s × Replaced s t c u
    go (Ok v) q t p = let h : IsSound s = (sound_both v s (sym q)).0 in (h, of_sound h t p)
    go (Err e) q t p = err_not_ok e u (rw q at p)

registered_passes : (s : RingBufferScheduler) (t : OperationType) (n : ℕ) (u : RingBufferScheduler) → register_of s t n ≡ Ok u → Passes u
registered_passes s t n u p = passes u (moved_sound s t n u (registered_moved s t n u p).1)

move_passes : (s : RingBufferScheduler) (t : OperationType) (m : ℕ) (v : Move) → Ok v ≡ move_of s t m → Passes v.scheduler
move_passes s t m v p =
    let b : IsSound s × (v ≡ move_in s t m) = move_of_lem s t m v p in
    rw b.1 (passes (move_in s t m).scheduler (moved_sound s t (move_in s t m).portion.len (move_in s t m).scheduler (move_keeps s b.0 t m).registered))

-- ---- what is built
pub from_numbers_promised : Keeps 0 from_numbers_kinds.ps from_numbers_kinds.r from_numbers.Learnt (λ κs a z. (z.buf_len ≡ a.0) × (z.items_written ≡ a.1.0) × (z.items_read ≡ a.1.1.0) × (z.fill ≡ a.1.1.1.0))
from_numbers_promised κs a z q = rw (from_numbers_says κs a z q.0 q.1) (refl, refl, refl, refl)

pub try_new_promised : Keeps 0 try_new_kinds.ps try_new_kinds.r try_new.Learnt (λ κs a z. (u : RingBufferScheduler) → z ≡ Ok u → Built a.0 (record { 0 = 0 }) (record { 0 = 0 }) u)
try_new_promised κs a z q u e = built a.0 (record { 0 = 0 }) (record { 0 = 0 }) u (sym (try_new_says κs a z q.0 q.1) ∙ e)

pub try_from_counters_promised : Keeps 0 try_from_counters_kinds.ps try_from_counters_kinds.r try_from_counters.Learnt (λ κs a z. (u : RingBufferScheduler) → z ≡ Ok u → Built a.0 a.1.0 a.1.1.0 u)
try_from_counters_promised κs a z q u e = built a.0 a.1.0 a.1.1.0 u (sym (try_from_counters_says κs a z q.0 q.1) ∙ e)

pub try_with_counter_promised : Keeps 0 try_with_counter_kinds.ps try_with_counter_kinds.r try_with_counter.Learnt (λ κs a z. (u : RingBufferScheduler) → z ≡ Ok u → IsSound a.0 × Replaced a.0 a.1.0 a.1.1.0 u)
try_with_counter_promised κs a z q u e = replaced a.0 a.1.0 a.1.1.0 u (sym (try_with_counter_says κs a z q.0 q.1) ∙ e)

-- ---- what is answered passes every test
pub try_new_passes : Keeps 0 try_new_kinds.ps try_new_kinds.r try_new.Learnt (λ κs a z. (u : RingBufferScheduler) → z ≡ Ok u → Passes u)
try_new_passes κs a z q u e = taken_passes u (try_new_promised κs a z q u e).taken

pub try_from_counters_passes : Keeps 0 try_from_counters_kinds.ps try_from_counters_kinds.r try_from_counters.Learnt (λ κs a z. (u : RingBufferScheduler) → z ≡ Ok u → Passes u)
try_from_counters_passes κs a z q u e = taken_passes u (try_from_counters_promised κs a z q u e).taken

pub try_with_counter_passes : Keeps 0 try_with_counter_kinds.ps try_with_counter_kinds.r try_with_counter.Learnt (λ κs a z. (u : RingBufferScheduler) → z ≡ Ok u → Passes u)
try_with_counter_passes κs a z q u e = taken_passes u (try_with_counter_promised κs a z q u e).1.taken

pub demand_soundness_passes : Keeps 0 demand_soundness_kinds.ps demand_soundness_kinds.r demand_soundness.Learnt (λ κs a z. (u : RingBufferScheduler) → z ≡ Ok u → Passes u)
demand_soundness_passes κs a z q u e = passes u (checked_sound a.0 u (sym (demand_soundness_says κs a z q.0 q.1) ∙ e))

pub try_register_read_passes : Keeps 0 try_register_read_kinds.ps try_register_read_kinds.r try_register_read.Learnt (λ κs a z. (u : RingBufferScheduler) → z ≡ Ok u → Passes u)
try_register_read_passes κs a z q u e = registered_passes a.0 Read a.1.0 u (sym (try_register_read_says κs a z q.0 q.1) ∙ e)

pub try_register_write_passes : Keeps 0 try_register_write_kinds.ps try_register_write_kinds.r try_register_write.Learnt (λ κs a z. (u : RingBufferScheduler) → z ≡ Ok u → Passes u)
try_register_write_passes κs a z q u e = registered_passes a.0 Write a.1.0 u (sym (try_register_write_says κs a z q.0 q.1) ∙ e)

pub try_register_operation_manually_passes : Keeps 0 try_register_operation_manually_kinds.ps try_register_operation_manually_kinds.r try_register_operation_manually.Learnt (λ κs a z. (u : RingBufferScheduler) → z ≡ Ok u → Passes u)
try_register_operation_manually_passes κs a z q u e = registered_passes a.0 a.1.0 a.1.1.0 u (sym (try_register_operation_manually_says κs a z q.0 q.1) ∙ e)

pub try_register_operation_passes : Keeps 0 try_register_operation_kinds.ps try_register_operation_kinds.r try_register_operation.Learnt (λ κs a z. (u : RingBufferScheduler) → z ≡ Ok u → Passes u)
try_register_operation_passes κs a z q u e = registered_passes a.0 a.1.0.typ a.1.0.len u (sym (try_register_operation_says κs a z q.0 q.1) ∙ e)

pub try_register_operations_passes : Keeps 0 try_register_operations_kinds.ps try_register_operations_kinds.r try_register_operations.Learnt (λ κs a z. (u : RingBufferScheduler) → z ≡ Ok u → Passes u)
try_register_operations_passes κs a z q u e = let m = list_moved a.0 a.1.0 u (sym (try_register_operations_says κs a z q.0 q.1) ∙ e) in passes u (list_sound a.0 u m.0 m.1)

pub schedule_and_register_passes : Keeps 0 schedule_and_register_kinds.ps schedule_and_register_kinds.r schedule_and_register.Learnt (λ κs a z. (v : Move) → z ≡ Ok v → Passes v.scheduler)
schedule_and_register_passes κs a z q v e = move_passes a.0 a.1.0 a.1.1.0 v (sym e ∙ schedule_and_register_says κs a z q.0 q.1)
