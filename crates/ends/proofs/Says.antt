-- What each public call says, in the order of the paper: whatever its attached contract allows is this definition of its
-- arguments, and what it leaves in the lent memory is this one.
use mathlib.Core.Path.{ap}
use Rattle.modular.proofs.Saying.{Says, Leaves}
use Rattle.operations.specs.Refusal.{packed}
use Rattle.sched.specs.Scheduler.{scheduler_of}
use Rattle.ends.specs.Refusal.{number_of, values_of, from_copy, from_scheduler}
use Rattle.ends.specs.Ends.{writing_end_of, reading_end_of, WroteLeft, wrote_of, GotLeft, got_of, written_sent_of, read_sent_of, take_read_of, take_written_of}
use Rattle.ends.proofs.writing_end.WritingEnd.new.Kinds as WritingEnd-new-kinds
use Rattle.ends.proofs.writing_end.WritingEnd.new.Reads as WritingEnd-new
use Rattle.ends.proofs.writing_end.WritingEnd.from_counters.Kinds as WritingEnd-from-counters-kinds
use Rattle.ends.proofs.writing_end.WritingEnd.from_counters.Reads as WritingEnd-from-counters
use Rattle.ends.proofs.writing_end.WritingEnd.from_scheduler.Kinds as WritingEnd-from-scheduler-kinds
use Rattle.ends.proofs.writing_end.WritingEnd.from_scheduler.Reads as WritingEnd-from-scheduler
use Rattle.ends.proofs.reading_end.ReadingEnd.new.Kinds as ReadingEnd-new-kinds
use Rattle.ends.proofs.reading_end.ReadingEnd.new.Reads as ReadingEnd-new
use Rattle.ends.proofs.reading_end.ReadingEnd.from_counters.Kinds as ReadingEnd-from-counters-kinds
use Rattle.ends.proofs.reading_end.ReadingEnd.from_counters.Reads as ReadingEnd-from-counters
use Rattle.ends.proofs.reading_end.ReadingEnd.from_scheduler.Kinds as ReadingEnd-from-scheduler-kinds
use Rattle.ends.proofs.reading_end.ReadingEnd.from_scheduler.Reads as ReadingEnd-from-scheduler
use Rattle.ends.proofs.writing_end.WritingEnd.write.Kinds as WritingEnd-write-kinds
use Rattle.ends.proofs.writing_end.WritingEnd.write.Reads as WritingEnd-write
use Rattle.ends.proofs.reading_end.ReadingEnd.read.Kinds as ReadingEnd-read-kinds
use Rattle.ends.proofs.reading_end.ReadingEnd.read.Reads as ReadingEnd-read
use Rattle.ends.proofs.writing_end.WritingEnd.send.Kinds as WritingEnd-send-kinds
use Rattle.ends.proofs.writing_end.WritingEnd.send.Reads as WritingEnd-send
use Rattle.ends.proofs.reading_end.ReadingEnd.send.Kinds as ReadingEnd-send-kinds
use Rattle.ends.proofs.reading_end.ReadingEnd.send.Reads as ReadingEnd-send
use Rattle.ends.proofs.writing_end.WritingEnd.take.Kinds as WritingEnd-take-kinds
use Rattle.ends.proofs.writing_end.WritingEnd.take.Reads as WritingEnd-take
use Rattle.ends.proofs.reading_end.ReadingEnd.take.Kinds as ReadingEnd-take-kinds
use Rattle.ends.proofs.reading_end.ReadingEnd.take.Reads as ReadingEnd-take
use Rattle.ends.proofs.refusal.RefusalFromCopiesRefusal.from.Kinds as from_copy_kinds
use Rattle.ends.proofs.refusal.RefusalFromCopiesRefusal.from.Reads as from_copy_lem
use Rattle.ends.proofs.refusal.RefusalFromSchedRefusal.from.Kinds as from_scheduler_kinds
use Rattle.ends.proofs.refusal.RefusalFromSchedRefusal.from.Reads as from_scheduler_lem
use Rattle.ends.proofs.refusal.Refusal.number.Kinds as Refusal-number-kinds
use Rattle.ends.proofs.refusal.Refusal.number.Reads as Refusal-number
use Rattle.ends.proofs.refusal.Refusal.values.Kinds as values_kinds
use Rattle.ends.proofs.refusal.Refusal.values.Reads as values

-- ---- made
pub WritingEnd-new-says : Says 0 WritingEnd-new-kinds.ps WritingEnd-new-kinds.r WritingEnd-new.Learnt (λ κs a. writing_end_of (scheduler_of a.0 (record { 0 = 0 }) (record { 0 = 0 })))
WritingEnd-new-says κs a z ws p = p

pub WritingEnd-from-counters-says : Says 0 WritingEnd-from-counters-kinds.ps WritingEnd-from-counters-kinds.r WritingEnd-from-counters.Learnt (λ κs a. writing_end_of (scheduler_of a.0 a.1.0 a.1.1.0))
WritingEnd-from-counters-says κs a z ws p = p

pub WritingEnd-from-scheduler-says : Says 0 WritingEnd-from-scheduler-kinds.ps WritingEnd-from-scheduler-kinds.r WritingEnd-from-scheduler.Learnt (λ κs a. writing_end_of a.0)
WritingEnd-from-scheduler-says κs a z ws p = p

pub ReadingEnd-new-says : Says 0 ReadingEnd-new-kinds.ps ReadingEnd-new-kinds.r ReadingEnd-new.Learnt (λ κs a. reading_end_of (scheduler_of a.0 (record { 0 = 0 }) (record { 0 = 0 })))
ReadingEnd-new-says κs a z ws p = p

pub ReadingEnd-from-counters-says : Says 0 ReadingEnd-from-counters-kinds.ps ReadingEnd-from-counters-kinds.r ReadingEnd-from-counters.Learnt (λ κs a. reading_end_of (scheduler_of a.0 a.1.0 a.1.1.0))
ReadingEnd-from-counters-says κs a z ws p = p

pub ReadingEnd-from-scheduler-says : Says 0 ReadingEnd-from-scheduler-kinds.ps ReadingEnd-from-scheduler-kinds.r ReadingEnd-from-scheduler.Learnt (λ κs a. reading_end_of a.0)
ReadingEnd-from-scheduler-says κs a z ws p = p

-- ---- copies: the end, the ring, the source or the destination
pub WritingEnd-write-says : Leaves 2 WritingEnd-write-kinds.ps WritingEnd-write-kinds.r WritingEnd-write.Learnt
    (λ κs a. (wrote_of a.0 a.1.0.now a.1.1.0.now).answer)
    (λ κs a. (tt, ((wrote_of a.0 a.1.0.now a.1.1.0.now).memory, (tt, tt))))
WritingEnd-write-says κs a z ws p = (ap (λ (x : WroteLeft). x.answer) p, ap (λ (x : WroteLeft). (tt, (x.memory, (tt, tt)))) p)

pub ReadingEnd-read-says : Leaves 2 ReadingEnd-read-kinds.ps ReadingEnd-read-kinds.r ReadingEnd-read.Learnt
    (λ κs a. (got_of a.0 a.1.0.now a.1.1.0.now).answer)
    (λ κs a. (tt, (tt, ((got_of a.0 a.1.0.now a.1.1.0.now).memory, tt))))
ReadingEnd-read-says κs a z ws p = (ap (λ (x : GotLeft). x.answer) p, ap (λ (x : GotLeft). (tt, (tt, (x.memory, tt)))) p)

-- ---- counters
pub WritingEnd-send-says : Says 0 WritingEnd-send-kinds.ps WritingEnd-send-kinds.r WritingEnd-send.Learnt (λ κs a. written_sent_of a.0)
WritingEnd-send-says κs a z ws p = p

pub ReadingEnd-send-says : Says 0 ReadingEnd-send-kinds.ps ReadingEnd-send-kinds.r ReadingEnd-send.Learnt (λ κs a. read_sent_of a.0)
ReadingEnd-send-says κs a z ws p = p

pub WritingEnd-take-says : Says 0 WritingEnd-take-kinds.ps WritingEnd-take-kinds.r WritingEnd-take.Learnt (λ κs a. take_read_of a.0 a.1.0)
WritingEnd-take-says κs a z ws p = p

pub ReadingEnd-take-says : Says 0 ReadingEnd-take-kinds.ps ReadingEnd-take-kinds.r ReadingEnd-take.Learnt (λ κs a. take_written_of a.0 a.1.0)
ReadingEnd-take-says κs a z ws p = p

-- ---- a refusal of a copy or of the scheduler, and refusals in numbers
pub from_copy_says : Says 0 from_copy_kinds.ps from_copy_kinds.r from_copy_lem.Learnt (λ κs a. from_copy a.0)
from_copy_says κs a z ws p = p

pub from_scheduler_says : Says 0 from_scheduler_kinds.ps from_scheduler_kinds.r from_scheduler_lem.Learnt (λ κs a. from_scheduler a.0)
from_scheduler_says κs a z ws p = p

pub Refusal-number-says : Says 0 Refusal-number-kinds.ps Refusal-number-kinds.r Refusal-number.Learnt (λ κs a. number_of a.0)
Refusal-number-says κs a z ws p = p

pub values_says : Says 0 values_kinds.ps values_kinds.r values.Learnt (λ κs a. packed (values_of a.0))
values_says κs a z ws p = p
