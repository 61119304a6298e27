-- "Given exactly when", 1 to 5, 20, 9 and 10, of every export of the ends and of the copies: whatever its attached contract allows carries a
-- refusal exactly when the paper's table gives it, of what the host's numbers stand for.
use mathlib.Core.Path.{refl}
use lib.ListN.{length}
use Rattle.modular.proofs.Saying.{Keeps}
use Rattle.operations.specs.declared.operation.OperationType.TheVariants.{Read, Write}
use Rattle.sched.specs.Given.{GivenCounters, Given}
use Rattle.sched.specs.Scheduler.{scheduler_of}
use Rattle.copies.specs.Copies.{write_of, read_of}
use Rattle.copies.specs.Given.{GivenCopy}
use Rattle.copies.proofs.Promised as copy
use Rattle.ends.specs.Ends.{writing_end_of, reading_end_of, wrote_of, got_of, written_sent_of, read_sent_of, take_read_of, take_written_of}
use Rattle.ends.specs.Promises.{GivenTake}
use Rattle.ends.proofs.Promised as promised
use Rattle.stripring.specs.Given.{GivenAt}
use Rattle.flat.specs.ReadingEnd.{read_counter_at, reading_end_at}
use Rattle.flat.specs.Scheduler.{scheduler_at}
use Rattle.flat.specs.WritingEnd.{written_counter_at, writing_end_at}
use Rattle.stripring.proofs.GivenLaws.{copied_given, writing_given, wrote_given, written_given, reading_given, got_given, read_given}
use Rattle.stripring.proofs.SaysEnds.{writing_end_new_says, writing_end_from_counters_says, writing_end_from_scheduler_says, writing_end_write_says, writing_end_send_says, writing_end_take_says, reading_end_new_says, reading_end_from_counters_says, reading_end_from_scheduler_says, reading_end_read_says, reading_end_send_says, reading_end_take_says, copies_write_says, copies_read_says}
use Rattle.stripring.proofs.writing_end.stripring_writing_end_new.Kinds as writing_end_new_kinds
use Rattle.stripring.proofs.writing_end.stripring_writing_end_new.Reads as writing_end_new
use Rattle.stripring.proofs.writing_end.stripring_writing_end_from_counters.Kinds as writing_end_from_counters_kinds
use Rattle.stripring.proofs.writing_end.stripring_writing_end_from_counters.Reads as writing_end_from_counters
use Rattle.stripring.proofs.writing_end.stripring_writing_end_from_scheduler.Kinds as writing_end_from_scheduler_kinds
use Rattle.stripring.proofs.writing_end.stripring_writing_end_from_scheduler.Reads as writing_end_from_scheduler
use Rattle.stripring.proofs.writing_end.stripring_writing_end_write.Kinds as writing_end_write_kinds
use Rattle.stripring.proofs.writing_end.stripring_writing_end_write.Reads as writing_end_write
use Rattle.stripring.proofs.writing_end.stripring_writing_end_send.Kinds as writing_end_send_kinds
use Rattle.stripring.proofs.writing_end.stripring_writing_end_send.Reads as writing_end_send
use Rattle.stripring.proofs.writing_end.stripring_writing_end_take.Kinds as writing_end_take_kinds
use Rattle.stripring.proofs.writing_end.stripring_writing_end_take.Reads as writing_end_take
use Rattle.stripring.proofs.reading_end.stripring_reading_end_new.Kinds as reading_end_new_kinds
use Rattle.stripring.proofs.reading_end.stripring_reading_end_new.Reads as reading_end_new
use Rattle.stripring.proofs.reading_end.stripring_reading_end_from_counters.Kinds as reading_end_from_counters_kinds
use Rattle.stripring.proofs.reading_end.stripring_reading_end_from_counters.Reads as reading_end_from_counters
use Rattle.stripring.proofs.reading_end.stripring_reading_end_from_scheduler.Kinds as reading_end_from_scheduler_kinds
use Rattle.stripring.proofs.reading_end.stripring_reading_end_from_scheduler.Reads as reading_end_from_scheduler
use Rattle.stripring.proofs.reading_end.stripring_reading_end_read.Kinds as reading_end_read_kinds
use Rattle.stripring.proofs.reading_end.stripring_reading_end_read.Reads as reading_end_read
use Rattle.stripring.proofs.reading_end.stripring_reading_end_send.Kinds as reading_end_send_kinds
use Rattle.stripring.proofs.reading_end.stripring_reading_end_send.Reads as reading_end_send
use Rattle.stripring.proofs.reading_end.stripring_reading_end_take.Kinds as reading_end_take_kinds
use Rattle.stripring.proofs.reading_end.stripring_reading_end_take.Reads as reading_end_take
use Rattle.stripring.proofs.copy.stripring_copies_write.Kinds as copies_write_kinds
use Rattle.stripring.proofs.copy.stripring_copies_write.Reads as copies_write
use Rattle.stripring.proofs.copy.stripring_copies_read.Kinds as copies_read_kinds
use Rattle.stripring.proofs.copy.stripring_copies_read.Reads as copies_read

-- ---- the writing end
pub writing_end_new_refuses : Keeps 0 writing_end_new_kinds.ps writing_end_new_kinds.r writing_end_new.Learnt (λ κs a z. GivenAt (GivenCounters a.0 (record { 0 = 0 }) (record { 0 = 0 })) z.refusal)
writing_end_new_refuses κs a z (ws, p) = rw (writing_end_new_says κs a z ws p) (writing_given (writing_end_of (scheduler_of a.0 (record { 0 = 0 }) (record { 0 = 0 }))) (promised.WritingEnd-new-promised tt (a.0, tt) (writing_end_of (scheduler_of a.0 (record { 0 = 0 }) (record { 0 = 0 }))) ((tt, tt), refl)).0)

pub writing_end_from_counters_refuses : Keeps 0 writing_end_from_counters_kinds.ps writing_end_from_counters_kinds.r writing_end_from_counters.Learnt (λ κs a z. GivenAt (GivenCounters a.0 (record { 0 = a.1.0 }) (record { 0 = a.1.1.0 })) z.refusal)
writing_end_from_counters_refuses κs a z (ws, p) = rw (writing_end_from_counters_says κs a z ws p) (writing_given (writing_end_of (scheduler_of a.0 (record { 0 = a.1.0 }) (record { 0 = a.1.1.0 }))) (promised.WritingEnd-from-counters-promised tt (a.0, (record { 0 = a.1.0 }, (record { 0 = a.1.1.0 }, tt))) (writing_end_of (scheduler_of a.0 (record { 0 = a.1.0 }) (record { 0 = a.1.1.0 }))) ((tt, (tt, (tt, tt))), refl)).0)

pub writing_end_from_scheduler_refuses : Keeps 0 writing_end_from_scheduler_kinds.ps writing_end_from_scheduler_kinds.r writing_end_from_scheduler.Learnt (λ κs a z. GivenAt (Given (scheduler_at a.0)) z.refusal)
writing_end_from_scheduler_refuses κs a z (ws, p) = rw (writing_end_from_scheduler_says κs a z ws p) (writing_given (writing_end_of (scheduler_at a.0)) (promised.WritingEnd-from-scheduler-promised tt (scheduler_at a.0, tt) (writing_end_of (scheduler_at a.0)) ((tt, tt), refl)).0)

pub writing_end_write_refuses : Keeps 2 writing_end_write_kinds.ps writing_end_write_kinds.r writing_end_write.Learnt (λ κs a z. GivenAt (GivenCopy (writing_end_at a.0).scheduler (length a.1.0.now)) z.refusal)
writing_end_write_refuses κs a z (ws, p) = rw (writing_end_write_says κs a z ws p).0 (wrote_given (wrote_of (writing_end_at a.0) a.1.0.now a.1.1.0.now).answer (promised.WritingEnd-write-promised κs (writing_end_at a.0, (a.1.0, (a.1.1.0, tt))) (wrote_of (writing_end_at a.0) a.1.0.now a.1.1.0.now).answer (tt, ((wrote_of (writing_end_at a.0) a.1.0.now a.1.1.0.now).memory, (tt, tt))) refl).0)

pub writing_end_send_refuses : Keeps 0 writing_end_send_kinds.ps writing_end_send_kinds.r writing_end_send.Learnt (λ κs a z. GivenAt (Given (writing_end_at a.0).scheduler) z.refusal)
writing_end_send_refuses κs a z (ws, p) = rw (writing_end_send_says κs a z ws p) (written_given (written_sent_of (writing_end_at a.0)) (promised.WritingEnd-send-promised tt (writing_end_at a.0, tt) (written_sent_of (writing_end_at a.0)) ((tt, tt), refl)).0)

pub writing_end_take_refuses : Keeps 0 writing_end_take_kinds.ps writing_end_take_kinds.r writing_end_take.Learnt (λ κs a z. GivenAt (GivenTake (writing_end_at a.0).scheduler Write Read (read_counter_at a.1.0).0) z.refusal)
writing_end_take_refuses κs a z (ws, p) = rw (writing_end_take_says κs a z ws p) (writing_given (take_read_of (writing_end_at a.0) (read_counter_at a.1.0)) (promised.WritingEnd-take-promised tt (writing_end_at a.0, (read_counter_at a.1.0, tt)) (take_read_of (writing_end_at a.0) (read_counter_at a.1.0)) ((tt, (tt, tt)), refl)).0)

-- ---- the reading end
pub reading_end_new_refuses : Keeps 0 reading_end_new_kinds.ps reading_end_new_kinds.r reading_end_new.Learnt (λ κs a z. GivenAt (GivenCounters a.0 (record { 0 = 0 }) (record { 0 = 0 })) z.refusal)
reading_end_new_refuses κs a z (ws, p) = rw (reading_end_new_says κs a z ws p) (reading_given (reading_end_of (scheduler_of a.0 (record { 0 = 0 }) (record { 0 = 0 }))) (promised.ReadingEnd-new-promised tt (a.0, tt) (reading_end_of (scheduler_of a.0 (record { 0 = 0 }) (record { 0 = 0 }))) ((tt, tt), refl)).0)

pub reading_end_from_counters_refuses : Keeps 0 reading_end_from_counters_kinds.ps reading_end_from_counters_kinds.r reading_end_from_counters.Learnt (λ κs a z. GivenAt (GivenCounters a.0 (record { 0 = a.1.0 }) (record { 0 = a.1.1.0 })) z.refusal)
reading_end_from_counters_refuses κs a z (ws, p) = rw (reading_end_from_counters_says κs a z ws p) (reading_given (reading_end_of (scheduler_of a.0 (record { 0 = a.1.0 }) (record { 0 = a.1.1.0 }))) (promised.ReadingEnd-from-counters-promised tt (a.0, (record { 0 = a.1.0 }, (record { 0 = a.1.1.0 }, tt))) (reading_end_of (scheduler_of a.0 (record { 0 = a.1.0 }) (record { 0 = a.1.1.0 }))) ((tt, (tt, (tt, tt))), refl)).0)

pub reading_end_from_scheduler_refuses : Keeps 0 reading_end_from_scheduler_kinds.ps reading_end_from_scheduler_kinds.r reading_end_from_scheduler.Learnt (λ κs a z. GivenAt (Given (scheduler_at a.0)) z.refusal)
reading_end_from_scheduler_refuses κs a z (ws, p) = rw (reading_end_from_scheduler_says κs a z ws p) (reading_given (reading_end_of (scheduler_at a.0)) (promised.ReadingEnd-from-scheduler-promised tt (scheduler_at a.0, tt) (reading_end_of (scheduler_at a.0)) ((tt, tt), refl)).0)

pub reading_end_read_refuses : Keeps 2 reading_end_read_kinds.ps reading_end_read_kinds.r reading_end_read.Learnt (λ κs a z. GivenAt (GivenCopy (reading_end_at a.0).scheduler (length a.1.0.now)) z.refusal)
reading_end_read_refuses κs a z (ws, p) = rw (reading_end_read_says κs a z ws p).0 (got_given (got_of (reading_end_at a.0) a.1.0.now a.1.1.0.now).answer (promised.ReadingEnd-read-promised κs (reading_end_at a.0, (a.1.0, (a.1.1.0, tt))) (got_of (reading_end_at a.0) a.1.0.now a.1.1.0.now).answer (tt, (tt, ((got_of (reading_end_at a.0) a.1.0.now a.1.1.0.now).memory, tt))) refl).0)

pub reading_end_send_refuses : Keeps 0 reading_end_send_kinds.ps reading_end_send_kinds.r reading_end_send.Learnt (λ κs a z. GivenAt (Given (reading_end_at a.0).scheduler) z.refusal)
reading_end_send_refuses κs a z (ws, p) = rw (reading_end_send_says κs a z ws p) (read_given (read_sent_of (reading_end_at a.0)) (promised.ReadingEnd-send-promised tt (reading_end_at a.0, tt) (read_sent_of (reading_end_at a.0)) ((tt, tt), refl)).0)

pub reading_end_take_refuses : Keeps 0 reading_end_take_kinds.ps reading_end_take_kinds.r reading_end_take.Learnt (λ κs a z. GivenAt (GivenTake (reading_end_at a.0).scheduler Read Write (written_counter_at a.1.0).0) z.refusal)
reading_end_take_refuses κs a z (ws, p) = rw (reading_end_take_says κs a z ws p) (reading_given (take_written_of (reading_end_at a.0) (written_counter_at a.1.0)) (promised.ReadingEnd-take-promised tt (reading_end_at a.0, (written_counter_at a.1.0, tt)) (take_written_of (reading_end_at a.0) (written_counter_at a.1.0)) ((tt, (tt, tt)), refl)).0)

-- ---- copies
pub copies_write_refuses : Keeps 2 copies_write_kinds.ps copies_write_kinds.r copies_write.Learnt (λ κs a z. GivenAt (GivenCopy (scheduler_at a.0) (length a.1.0.now)) z.refusal)
copies_write_refuses κs a z (ws, p) =
    rw (copies_write_says κs a z ws p).0 (copied_given (write_of (scheduler_at a.0) a.1.0.now a.1.1.0.now).answer (copy.written_given (scheduler_at a.0) a.1.0.now a.1.1.0.now))

pub copies_read_refuses : Keeps 2 copies_read_kinds.ps copies_read_kinds.r copies_read.Learnt (λ κs a z. GivenAt (GivenCopy (scheduler_at a.0) (length a.1.0.now)) z.refusal)
copies_read_refuses κs a z (ws, p) =
    rw (copies_read_says κs a z ws p).0 (copied_given (read_of (scheduler_at a.0) a.1.0.now a.1.1.0.now).answer (copy.got_given (scheduler_at a.0) a.1.0.now a.1.1.0.now))
