-- The held fill, of the exports: the record that one answers which does not refuse passes every test, 20 among them, by its own four
-- fields. So who only hands on what was answered is never refused with 20.
use Rattle.std.proofs.Common.{Result, Ok, Err}
use mathlib.Core.Path.{◌≡◌, refl}
use native.Mathlib.Omega.{arith}
use Rattle.modular.proofs.Saying.{Keeps}
use Rattle.operations.proofs.Given.{number_some}
use Rattle.sched.specs.declared.scheduler.RingBufferScheduler.{RingBufferScheduler}
use Rattle.sched.specs.Given.{Passes}
use Rattle.sched.specs.Scheduler.{scheduler_of}
use Rattle.sched.proofs.PromisedFill as sched
use Rattle.copies.specs.Copies.{write_of, read_of}
use Rattle.copies.proofs.PromisedFill.{HoldingIn}
use Rattle.copies.proofs.PromisedFill as copies
use Rattle.copies.proofs.PromisedValues.{number_some as copy_some}
use Rattle.ends.specs.Ends.{writing_end_of, reading_end_of, wrote_of, got_of, take_read_of, take_written_of}
use Rattle.ends.proofs.PromisedFill.{HoldingW, HoldingR, WroteHolding, GotHolding}
use Rattle.ends.proofs.PromisedFill as ends
use Rattle.ends.proofs.PromisedValues.{number_some as end_some}
use Rattle.flat.specs.declared.structs.Scheduler.{Scheduler}
use Rattle.flat.specs.Copy.{flat_copied}
use Rattle.flat.specs.List.{operations_at}
use Rattle.flat.specs.Operation.{type_at, operation_at}
use Rattle.flat.specs.ReadingEnd.{read_counter_at, reading_end_at, flat_reading_end_answer, flat_got}
use Rattle.flat.specs.Scheduler.{scheduler_at, flat_checked}
use Rattle.flat.specs.WritingEnd.{written_counter_at, writing_end_at, flat_writing_end_answer, flat_wrote}
use Rattle.stripring.proofs.SaysScheduler.{try_new_says, try_from_counters_says, try_with_counter_says, demand_soundness_says, try_register_read_says, try_register_write_says, try_register_operation_manually_says, try_register_operation_says, try_register_operations_says}
use Rattle.stripring.proofs.SaysEnds.{writing_end_new_says, writing_end_from_counters_says, writing_end_from_scheduler_says, writing_end_take_says, reading_end_new_says, reading_end_from_counters_says, reading_end_from_scheduler_says, reading_end_take_says, writing_end_write_says, reading_end_read_says, copies_write_says, copies_read_says}
use Rattle.stripring.proofs.scheduler.stripring_scheduler_try_new.Kinds as try_new_kinds
use Rattle.stripring.proofs.scheduler.stripring_scheduler_try_new.Reads as try_new
use Rattle.stripring.proofs.scheduler.stripring_scheduler_try_from_counters.Kinds as try_from_counters_kinds
use Rattle.stripring.proofs.scheduler.stripring_scheduler_try_from_counters.Reads as try_from_counters
use Rattle.stripring.proofs.scheduler.stripring_scheduler_try_with_counter.Kinds as try_with_counter_kinds
use Rattle.stripring.proofs.scheduler.stripring_scheduler_try_with_counter.Reads as try_with_counter
use Rattle.stripring.proofs.scheduler.stripring_scheduler_demand_soundness.Kinds as demand_soundness_kinds
use Rattle.stripring.proofs.scheduler.stripring_scheduler_demand_soundness.Reads as demand_soundness
use Rattle.stripring.proofs.scheduler.stripring_scheduler_try_register_read.Kinds as try_register_read_kinds
use Rattle.stripring.proofs.scheduler.stripring_scheduler_try_register_read.Reads as try_register_read
use Rattle.stripring.proofs.scheduler.stripring_scheduler_try_register_write.Kinds as try_register_write_kinds
use Rattle.stripring.proofs.scheduler.stripring_scheduler_try_register_write.Reads as try_register_write
use Rattle.stripring.proofs.scheduler.stripring_scheduler_try_register_operation_manually.Kinds as try_register_operation_manually_kinds
use Rattle.stripring.proofs.scheduler.stripring_scheduler_try_register_operation_manually.Reads as try_register_operation_manually
use Rattle.stripring.proofs.scheduler.stripring_scheduler_try_register_operation.Kinds as try_register_operation_kinds
use Rattle.stripring.proofs.scheduler.stripring_scheduler_try_register_operation.Reads as try_register_operation
use Rattle.stripring.proofs.scheduler.stripring_scheduler_try_register_operations.Kinds as try_register_operations_kinds
use Rattle.stripring.proofs.scheduler.stripring_scheduler_try_register_operations.Reads as try_register_operations
use Rattle.stripring.proofs.writing_end.stripring_writing_end_new.Kinds as writing_end_new_kinds
use Rattle.stripring.proofs.writing_end.stripring_writing_end_new.Reads as writing_end_new
use Rattle.stripring.proofs.writing_end.stripring_writing_end_from_counters.Kinds as writing_end_from_counters_kinds
use Rattle.stripring.proofs.writing_end.stripring_writing_end_from_counters.Reads as writing_end_from_counters
use Rattle.stripring.proofs.writing_end.stripring_writing_end_from_scheduler.Kinds as writing_end_from_scheduler_kinds
use Rattle.stripring.proofs.writing_end.stripring_writing_end_from_scheduler.Reads as writing_end_from_scheduler
use Rattle.stripring.proofs.writing_end.stripring_writing_end_take.Kinds as writing_end_take_kinds
use Rattle.stripring.proofs.writing_end.stripring_writing_end_take.Reads as writing_end_take
use Rattle.stripring.proofs.reading_end.stripring_reading_end_new.Kinds as reading_end_new_kinds
use Rattle.stripring.proofs.reading_end.stripring_reading_end_new.Reads as reading_end_new
use Rattle.stripring.proofs.reading_end.stripring_reading_end_from_counters.Kinds as reading_end_from_counters_kinds
use Rattle.stripring.proofs.reading_end.stripring_reading_end_from_counters.Reads as reading_end_from_counters
use Rattle.stripring.proofs.reading_end.stripring_reading_end_from_scheduler.Kinds as reading_end_from_scheduler_kinds
use Rattle.stripring.proofs.reading_end.stripring_reading_end_from_scheduler.Reads as reading_end_from_scheduler
use Rattle.stripring.proofs.reading_end.stripring_reading_end_take.Kinds as reading_end_take_kinds
use Rattle.stripring.proofs.reading_end.stripring_reading_end_take.Reads as reading_end_take
use Rattle.stripring.proofs.writing_end.stripring_writing_end_write.Kinds as writing_end_write_kinds
use Rattle.stripring.proofs.writing_end.stripring_writing_end_write.Reads as writing_end_write
use Rattle.stripring.proofs.reading_end.stripring_reading_end_read.Kinds as reading_end_read_kinds
use Rattle.stripring.proofs.reading_end.stripring_reading_end_read.Reads as reading_end_read
use Rattle.stripring.proofs.copy.stripring_copies_write.Kinds as copies_write_kinds
use Rattle.stripring.proofs.copy.stripring_copies_write.Reads as copies_write
use Rattle.stripring.proofs.copy.stripring_copies_read.Kinds as copies_read_kinds
use Rattle.stripring.proofs.copy.stripring_copies_read.Reads as copies_read
use Rattle.copies.specs.declared.Copied.{Copied}
use Rattle.ends.specs.declared.reading_end.Got.{Got}
use Rattle.ends.specs.declared.reading_end.ReadingEnd.{ReadingEnd}
use Rattle.ends.specs.declared.writing_end.WritingEnd.{WritingEnd}
use Rattle.ends.specs.declared.writing_end.Wrote.{Wrote}
use Rattle.copies.specs.declared.refusal.Refusal as by_copies
use Rattle.ends.specs.declared.refusal.Refusal as by_ends
use Rattle.operations.specs.declared.refusal.Refusal.{Refusal}

abbrev pub PassesAt : Scheduler → Type 0
PassesAt f = Passes (record { buf_len = f.buf_len; items_written = record { 0 = f.items_written }; items_read = record { 0 = f.items_read }; fill = f.fill })

-- ---- an answer that refuses has a number
of_checked_lem : (c : Result RingBufferScheduler Refusal) → ((u : RingBufferScheduler) → c ≡ Ok u → Passes u) → (flat_checked c).refusal.number ≡ 0 → PassesAt (flat_checked c).scheduler
of_checked_lem (Ok u) h q = h u refl
of_checked_lem (Err e) h q = absurd (omega (arith, number_some e, q))

of_copied_lem : (c : Result Copied by_copies.Refusal) → HoldingIn c → (flat_copied c).refusal.number ≡ 0 → PassesAt (flat_copied c).scheduler
of_copied_lem (Ok m) h q = h
of_copied_lem (Err e) h q = absurd (omega (arith, copy_some e, q))

of_writing : (c : Result WritingEnd by_ends.Refusal) → HoldingW c → (flat_writing_end_answer c).refusal.number ≡ 0 → PassesAt (flat_writing_end_answer c).end.scheduler
of_writing (Ok e) h q = h
of_writing (Err r) h q = absurd (omega (arith, end_some r, q))

of_reading : (c : Result ReadingEnd by_ends.Refusal) → HoldingR c → (flat_reading_end_answer c).refusal.number ≡ 0 → PassesAt (flat_reading_end_answer c).end.scheduler
of_reading (Ok e) h q = h
of_reading (Err r) h q = absurd (omega (arith, end_some r, q))

of_wrote_lem : (c : Result Wrote by_ends.Refusal) → WroteHolding c → (flat_wrote c).refusal.number ≡ 0 → PassesAt (flat_wrote c).end.scheduler
of_wrote_lem (Ok m) h q = h
of_wrote_lem (Err r) h q = absurd (omega (arith, end_some r, q))

of_got_lem : (c : Result Got by_ends.Refusal) → GotHolding c → (flat_got c).refusal.number ≡ 0 → PassesAt (flat_got c).end.scheduler
of_got_lem (Ok m) h q = h
of_got_lem (Err r) h q = absurd (omega (arith, end_some r, q))

-- ---- the scheduler
pub try_new_passes : Keeps 0 try_new_kinds.ps try_new_kinds.r try_new.Learnt (λ κs a z. z.refusal.number ≡ 0 → PassesAt z.scheduler)
try_new_passes κs a z (ws, p) = rw (try_new_says κs a z ws p) (of_checked_lem _ (sched.try_new_passes tt (a.0, tt) _ ((tt, tt), refl)))

pub try_from_counters_passes : Keeps 0 try_from_counters_kinds.ps try_from_counters_kinds.r try_from_counters.Learnt (λ κs a z. z.refusal.number ≡ 0 → PassesAt z.scheduler)
try_from_counters_passes κs a z (ws, p) = rw (try_from_counters_says κs a z ws p) (of_checked_lem _ (sched.try_from_counters_passes tt (a.0, (record { 0 = a.1.0 }, (record { 0 = a.1.1.0 }, tt))) _ ((tt, (tt, (tt, tt))), refl)))

pub try_with_counter_passes : Keeps 0 try_with_counter_kinds.ps try_with_counter_kinds.r try_with_counter.Learnt (λ κs a z. z.refusal.number ≡ 0 → PassesAt z.scheduler)
try_with_counter_passes κs a z (ws, p) = rw (try_with_counter_says κs a z ws p) (of_checked_lem _ (sched.try_with_counter_passes tt (scheduler_at a.0, (type_at a.1.0, (record { 0 = a.1.1.0 }, tt))) _ ((tt, (tt, (tt, tt))), refl)))

pub demand_soundness_passes : Keeps 0 demand_soundness_kinds.ps demand_soundness_kinds.r demand_soundness.Learnt (λ κs a z. z.refusal.number ≡ 0 → PassesAt z.scheduler)
demand_soundness_passes κs a z (ws, p) = rw (demand_soundness_says κs a z ws p) (of_checked_lem _ (sched.demand_soundness_passes tt (scheduler_at a.0, tt) _ ((tt, tt), refl)))

pub try_register_read_passes : Keeps 0 try_register_read_kinds.ps try_register_read_kinds.r try_register_read.Learnt (λ κs a z. z.refusal.number ≡ 0 → PassesAt z.scheduler)
try_register_read_passes κs a z (ws, p) = rw (try_register_read_says κs a z ws p) (of_checked_lem _ (sched.try_register_read_passes tt (scheduler_at a.0, (a.1.0, tt)) _ ((tt, (tt, tt)), refl)))

pub try_register_write_passes : Keeps 0 try_register_write_kinds.ps try_register_write_kinds.r try_register_write.Learnt (λ κs a z. z.refusal.number ≡ 0 → PassesAt z.scheduler)
try_register_write_passes κs a z (ws, p) = rw (try_register_write_says κs a z ws p) (of_checked_lem _ (sched.try_register_write_passes tt (scheduler_at a.0, (a.1.0, tt)) _ ((tt, (tt, tt)), refl)))

pub try_register_operation_manually_passes : Keeps 0 try_register_operation_manually_kinds.ps try_register_operation_manually_kinds.r try_register_operation_manually.Learnt (λ κs a z. z.refusal.number ≡ 0 → PassesAt z.scheduler)
try_register_operation_manually_passes κs a z (ws, p) = rw (try_register_operation_manually_says κs a z ws p) (of_checked_lem _ (sched.try_register_operation_manually_passes tt (scheduler_at a.0, (type_at a.1.0, (a.1.1.0, tt))) _ ((tt, (tt, (tt, tt))), refl)))

pub try_register_operation_passes : Keeps 0 try_register_operation_kinds.ps try_register_operation_kinds.r try_register_operation.Learnt (λ κs a z. z.refusal.number ≡ 0 → PassesAt z.scheduler)
try_register_operation_passes κs a z (ws, p) = rw (try_register_operation_says κs a z ws p) (of_checked_lem _ (sched.try_register_operation_passes tt (scheduler_at a.0, (operation_at a.1.0, tt)) _ ((tt, (tt, tt)), refl)))

pub try_register_operations_passes : Keeps 0 try_register_operations_kinds.ps try_register_operations_kinds.r try_register_operations.Learnt (λ κs a z. z.refusal.number ≡ 0 → PassesAt z.scheduler)
try_register_operations_passes κs a z (ws, p) = rw (try_register_operations_says κs a z ws p) (of_checked_lem _ (sched.try_register_operations_passes tt (scheduler_at a.0, (operations_at a.1.0, tt)) _ ((tt, (tt, tt)), refl)))

-- ---- the ends
pub writing_end_new_passes : Keeps 0 writing_end_new_kinds.ps writing_end_new_kinds.r writing_end_new.Learnt (λ κs a z. z.refusal.number ≡ 0 → PassesAt z.end.scheduler)
writing_end_new_passes κs a z (ws, p) = rw (writing_end_new_says κs a z ws p) (of_writing (writing_end_of (scheduler_of a.0 (record { 0 = 0 }) (record { 0 = 0 }))) (ends.WritingEnd-new-passes tt (a.0, tt) (writing_end_of (scheduler_of a.0 (record { 0 = 0 }) (record { 0 = 0 }))) ((tt, tt), refl)))

pub writing_end_from_counters_passes : Keeps 0 writing_end_from_counters_kinds.ps writing_end_from_counters_kinds.r writing_end_from_counters.Learnt (λ κs a z. z.refusal.number ≡ 0 → PassesAt z.end.scheduler)
writing_end_from_counters_passes κs a z (ws, p) = rw (writing_end_from_counters_says κs a z ws p) (of_writing (writing_end_of (scheduler_of a.0 (record { 0 = a.1.0 }) (record { 0 = a.1.1.0 }))) (ends.WritingEnd-from-counters-passes tt (a.0, (record { 0 = a.1.0 }, (record { 0 = a.1.1.0 }, tt))) (writing_end_of (scheduler_of a.0 (record { 0 = a.1.0 }) (record { 0 = a.1.1.0 }))) ((tt, (tt, (tt, tt))), refl)))

pub writing_end_from_scheduler_passes : Keeps 0 writing_end_from_scheduler_kinds.ps writing_end_from_scheduler_kinds.r writing_end_from_scheduler.Learnt (λ κs a z. z.refusal.number ≡ 0 → PassesAt z.end.scheduler)
writing_end_from_scheduler_passes κs a z (ws, p) = rw (writing_end_from_scheduler_says κs a z ws p) (of_writing (writing_end_of (scheduler_at a.0)) (ends.WritingEnd-from-scheduler-passes tt (scheduler_at a.0, tt) (writing_end_of (scheduler_at a.0)) ((tt, tt), refl)))

pub writing_end_take_passes : Keeps 0 writing_end_take_kinds.ps writing_end_take_kinds.r writing_end_take.Learnt (λ κs a z. z.refusal.number ≡ 0 → PassesAt z.end.scheduler)
writing_end_take_passes κs a z (ws, p) = rw (writing_end_take_says κs a z ws p) (of_writing (take_read_of (writing_end_at a.0) (read_counter_at a.1.0)) (ends.WritingEnd-take-passes tt (writing_end_at a.0, (read_counter_at a.1.0, tt)) (take_read_of (writing_end_at a.0) (read_counter_at a.1.0)) ((tt, (tt, tt)), refl)))

pub reading_end_new_passes : Keeps 0 reading_end_new_kinds.ps reading_end_new_kinds.r reading_end_new.Learnt (λ κs a z. z.refusal.number ≡ 0 → PassesAt z.end.scheduler)
reading_end_new_passes κs a z (ws, p) = rw (reading_end_new_says κs a z ws p) (of_reading (reading_end_of (scheduler_of a.0 (record { 0 = 0 }) (record { 0 = 0 }))) (ends.ReadingEnd-new-passes tt (a.0, tt) (reading_end_of (scheduler_of a.0 (record { 0 = 0 }) (record { 0 = 0 }))) ((tt, tt), refl)))

pub reading_end_from_counters_passes : Keeps 0 reading_end_from_counters_kinds.ps reading_end_from_counters_kinds.r reading_end_from_counters.Learnt (λ κs a z. z.refusal.number ≡ 0 → PassesAt z.end.scheduler)
reading_end_from_counters_passes κs a z (ws, p) = rw (reading_end_from_counters_says κs a z ws p) (of_reading (reading_end_of (scheduler_of a.0 (record { 0 = a.1.0 }) (record { 0 = a.1.1.0 }))) (ends.ReadingEnd-from-counters-passes tt (a.0, (record { 0 = a.1.0 }, (record { 0 = a.1.1.0 }, tt))) (reading_end_of (scheduler_of a.0 (record { 0 = a.1.0 }) (record { 0 = a.1.1.0 }))) ((tt, (tt, (tt, tt))), refl)))

pub reading_end_from_scheduler_passes : Keeps 0 reading_end_from_scheduler_kinds.ps reading_end_from_scheduler_kinds.r reading_end_from_scheduler.Learnt (λ κs a z. z.refusal.number ≡ 0 → PassesAt z.end.scheduler)
reading_end_from_scheduler_passes κs a z (ws, p) = rw (reading_end_from_scheduler_says κs a z ws p) (of_reading (reading_end_of (scheduler_at a.0)) (ends.ReadingEnd-from-scheduler-passes tt (scheduler_at a.0, tt) (reading_end_of (scheduler_at a.0)) ((tt, tt), refl)))

pub reading_end_take_passes : Keeps 0 reading_end_take_kinds.ps reading_end_take_kinds.r reading_end_take.Learnt (λ κs a z. z.refusal.number ≡ 0 → PassesAt z.end.scheduler)
reading_end_take_passes κs a z (ws, p) = rw (reading_end_take_says κs a z ws p) (of_reading (take_written_of (reading_end_at a.0) (written_counter_at a.1.0)) (ends.ReadingEnd-take-passes tt (reading_end_at a.0, (written_counter_at a.1.0, tt)) (take_written_of (reading_end_at a.0) (written_counter_at a.1.0)) ((tt, (tt, tt)), refl)))

pub writing_end_write_passes : Keeps 2 writing_end_write_kinds.ps writing_end_write_kinds.r writing_end_write.Learnt (λ κs a z. z.refusal.number ≡ 0 → PassesAt z.end.scheduler)
writing_end_write_passes κs a z (ws, p) =
    rw (writing_end_write_says κs a z ws p).0
    (of_wrote_lem (wrote_of (writing_end_at a.0) a.1.0.now a.1.1.0.now).answer (ends.WritingEnd-write-passes κs (writing_end_at a.0, (a.1.0, (a.1.1.0, tt))) (wrote_of (writing_end_at a.0) a.1.0.now a.1.1.0.now).answer (tt, ((wrote_of (writing_end_at a.0) a.1.0.now a.1.1.0.now).memory, (tt, tt))) refl))

pub reading_end_read_passes : Keeps 2 reading_end_read_kinds.ps reading_end_read_kinds.r reading_end_read.Learnt (λ κs a z. z.refusal.number ≡ 0 → PassesAt z.end.scheduler)
reading_end_read_passes κs a z (ws, p) =
    rw (reading_end_read_says κs a z ws p).0
    (of_got_lem (got_of (reading_end_at a.0) a.1.0.now a.1.1.0.now).answer (ends.ReadingEnd-read-passes κs (reading_end_at a.0, (a.1.0, (a.1.1.0, tt))) (got_of (reading_end_at a.0) a.1.0.now a.1.1.0.now).answer (tt, (tt, ((got_of (reading_end_at a.0) a.1.0.now a.1.1.0.now).memory, tt))) refl))

-- ---- copies
pub copies_write_passes : Keeps 2 copies_write_kinds.ps copies_write_kinds.r copies_write.Learnt (λ κs a z. z.refusal.number ≡ 0 → PassesAt z.scheduler)
copies_write_passes κs a z (ws, p) =
    rw (copies_write_says κs a z ws p).0
    (of_copied_lem (write_of (scheduler_at a.0) a.1.0.now a.1.1.0.now).answer (copies.write_passes κs (scheduler_at a.0, (a.1.0, (a.1.1.0, tt))) (write_of (scheduler_at a.0) a.1.0.now a.1.1.0.now).answer (tt, ((write_of (scheduler_at a.0) a.1.0.now a.1.1.0.now).memory, (tt, tt))) refl))

pub copies_read_passes : Keeps 2 copies_read_kinds.ps copies_read_kinds.r copies_read.Learnt (λ κs a z. z.refusal.number ≡ 0 → PassesAt z.scheduler)
copies_read_passes κs a z (ws, p) =
    rw (copies_read_says κs a z ws p).0
    (of_copied_lem (read_of (scheduler_at a.0) a.1.0.now a.1.1.0.now).answer (copies.read_passes κs (scheduler_at a.0, (a.1.0, (a.1.1.0, tt))) (read_of (scheduler_at a.0) a.1.0.now a.1.1.0.now).answer (tt, (tt, ((read_of (scheduler_at a.0) a.1.0.now a.1.1.0.now).memory, tt))) refl))
