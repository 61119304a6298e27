-- What each export of the ends and of the copies says, in the order of the C header: whatever its attached contract allows is the
-- flat form of this definition of what the host's numbers stand for, and what it leaves in the lent memory is this one.
use Prim.Native.Nat.{ℕ}
use mathlib.Core.Path.{◌≡◌, ap}
use mathlib.Core.List.{List}
use Rattle.modular.proofs.Saying.{Says, Leaves}
use Rattle.copies.specs.Copies.{read_of, write_of}
use Rattle.ends.specs.Ends.{got_of, reading_end_of, read_sent_of, take_read_of, take_written_of, writing_end_of, written_sent_of, wrote_of}
use Rattle.sched.specs.Scheduler.{scheduler_of}
use Rattle.flat.specs.Copy.{CopyAnswerLeft, flat_copied}
use Rattle.flat.specs.declared.structs.MovedAnswer.{MovedAnswer}
use Rattle.flat.specs.declared.structs.ReadCounter.{ReadCounter}
use Rattle.flat.specs.declared.structs.ReadingEnd.{ReadingEnd}
use Rattle.flat.specs.declared.structs.Refusal.{Refusal}
use Rattle.flat.specs.declared.structs.WritingEnd.{WritingEnd}
use Rattle.flat.specs.declared.structs.WrittenCounter.{WrittenCounter}
use Rattle.stripring.specs.InPlace.{moved_wrote, writer_after, WriteInPlace, writer_refusal, writer_took, TakeReadInPlace, moved_got, reader_after, ReadInPlace, reader_refusal, reader_took, TakeWrittenInPlace}
use Rattle.flat.specs.ReadingEnd.{flat_got, flat_read_counter, flat_reading_end_answer, GotAnswerLeft, read_counter_at, reading_end_at}
use Rattle.flat.specs.Scheduler.{scheduler_at}
use Rattle.flat.specs.WritingEnd.{flat_writing_end_answer, flat_written_counter, flat_wrote, writing_end_at, written_counter_at, WroteAnswerLeft}
use Rattle.stripring.proofs.writing_end.stripring_writing_end_new.Kinds as writing_end_new_kinds
use Rattle.stripring.proofs.writing_end.stripring_writing_end_new.Reads as writing_end_new
use Rattle.stripring.proofs.writing_end.stripring_writing_end_from_counters.Kinds as writing_end_from_counters_kinds
use Rattle.stripring.proofs.writing_end.stripring_writing_end_from_counters.Reads as writing_end_from_counters
use Rattle.stripring.proofs.writing_end.stripring_writing_end_from_scheduler.Kinds as writing_end_from_scheduler_kinds
use Rattle.stripring.proofs.writing_end.stripring_writing_end_from_scheduler.Reads as writing_end_from_scheduler
use Rattle.stripring.proofs.writing_end.stripring_writing_end_write.Kinds as writing_end_write_kinds
use Rattle.stripring.proofs.writing_end.stripring_writing_end_write.Reads as writing_end_write
use Rattle.stripring.proofs.writing_end.stripring_writing_end_send.Kinds as writing_end_send_kinds
use Rattle.stripring.proofs.writing_end.stripring_writing_end_send.Reads as writing_end_send
use Rattle.stripring.proofs.writing_end.stripring_writing_end_take.Kinds as writing_end_take_kinds
use Rattle.stripring.proofs.writing_end.stripring_writing_end_take.Reads as writing_end_take
use Rattle.stripring.proofs.reading_end.stripring_reading_end_new.Kinds as reading_end_new_kinds
use Rattle.stripring.proofs.reading_end.stripring_reading_end_new.Reads as reading_end_new
use Rattle.stripring.proofs.reading_end.stripring_reading_end_from_counters.Kinds as reading_end_from_counters_kinds
use Rattle.stripring.proofs.reading_end.stripring_reading_end_from_counters.Reads as reading_end_from_counters
use Rattle.stripring.proofs.reading_end.stripring_reading_end_from_scheduler.Kinds as reading_end_from_scheduler_kinds
use Rattle.stripring.proofs.reading_end.stripring_reading_end_from_scheduler.Reads as reading_end_from_scheduler
use Rattle.stripring.proofs.reading_end.stripring_reading_end_read.Kinds as reading_end_read_kinds
use Rattle.stripring.proofs.reading_end.stripring_reading_end_read.Reads as reading_end_read
use Rattle.stripring.proofs.reading_end.stripring_reading_end_send.Kinds as reading_end_send_kinds
use Rattle.stripring.proofs.reading_end.stripring_reading_end_send.Reads as reading_end_send
use Rattle.stripring.proofs.reading_end.stripring_reading_end_take.Kinds as reading_end_take_kinds
use Rattle.stripring.proofs.reading_end.stripring_reading_end_take.Reads as reading_end_take
use Rattle.stripring.proofs.copy.stripring_copies_write.Kinds as copies_write_kinds
use Rattle.stripring.proofs.copy.stripring_copies_write.Reads as copies_write
use Rattle.stripring.proofs.copy.stripring_copies_read.Kinds as copies_read_kinds
use Rattle.stripring.proofs.copy.stripring_copies_read.Reads as copies_read

-- ---- the writing end
pub writing_end_new_says : Says 0 writing_end_new_kinds.ps writing_end_new_kinds.r writing_end_new.Learnt (λ κs a. flat_writing_end_answer (writing_end_of (scheduler_of a.0 (record { 0 = 0 }) (record { 0 = 0 }))))
writing_end_new_says κs a z ws p = p

pub writing_end_from_counters_says : Says 0 writing_end_from_counters_kinds.ps writing_end_from_counters_kinds.r writing_end_from_counters.Learnt (λ κs a. flat_writing_end_answer (writing_end_of (scheduler_of a.0 (record { 0 = a.1.0 }) (record { 0 = a.1.1.0 }))))
writing_end_from_counters_says κs a z ws p = p

pub writing_end_from_scheduler_says : Says 0 writing_end_from_scheduler_kinds.ps writing_end_from_scheduler_kinds.r writing_end_from_scheduler.Learnt (λ κs a. flat_writing_end_answer (writing_end_of (scheduler_at a.0)))
writing_end_from_scheduler_says κs a z ws p = p

pub writing_end_write_says : Leaves 2 writing_end_write_kinds.ps writing_end_write_kinds.r writing_end_write.Learnt
    (λ κs a. flat_wrote (wrote_of (writing_end_at a.0) a.1.0.now a.1.1.0.now).answer)
    (λ κs a. (tt, ((wrote_of (writing_end_at a.0) a.1.0.now a.1.1.0.now).memory, (tt, tt))))
writing_end_write_says κs a z ws p = (ap (λ (x : WroteAnswerLeft). x.answer) p, ap (λ (x : WroteAnswerLeft). (tt, (x.memory, (tt, tt)))) p)

pub writing_end_send_says : Says 0 writing_end_send_kinds.ps writing_end_send_kinds.r writing_end_send.Learnt (λ κs a. flat_written_counter (written_sent_of (writing_end_at a.0)))
writing_end_send_says κs a z ws p = p

pub writing_end_take_says : Says 0 writing_end_take_kinds.ps writing_end_take_kinds.r writing_end_take.Learnt (λ κs a. flat_writing_end_answer (take_read_of (writing_end_at a.0) (read_counter_at a.1.0)))
writing_end_take_says κs a z ws p = p

-- ---- the reading end
pub reading_end_new_says : Says 0 reading_end_new_kinds.ps reading_end_new_kinds.r reading_end_new.Learnt (λ κs a. flat_reading_end_answer (reading_end_of (scheduler_of a.0 (record { 0 = 0 }) (record { 0 = 0 }))))
reading_end_new_says κs a z ws p = p

pub reading_end_from_counters_says : Says 0 reading_end_from_counters_kinds.ps reading_end_from_counters_kinds.r reading_end_from_counters.Learnt (λ κs a. flat_reading_end_answer (reading_end_of (scheduler_of a.0 (record { 0 = a.1.0 }) (record { 0 = a.1.1.0 }))))
reading_end_from_counters_says κs a z ws p = p

pub reading_end_from_scheduler_says : Says 0 reading_end_from_scheduler_kinds.ps reading_end_from_scheduler_kinds.r reading_end_from_scheduler.Learnt (λ κs a. flat_reading_end_answer (reading_end_of (scheduler_at a.0)))
reading_end_from_scheduler_says κs a z ws p = p

pub reading_end_read_says : Leaves 2 reading_end_read_kinds.ps reading_end_read_kinds.r reading_end_read.Learnt
    (λ κs a. flat_got (got_of (reading_end_at a.0) a.1.0.now a.1.1.0.now).answer)
    (λ κs a. (tt, (tt, ((got_of (reading_end_at a.0) a.1.0.now a.1.1.0.now).memory, tt))))
reading_end_read_says κs a z ws p = (ap (λ (x : GotAnswerLeft). x.answer) p, ap (λ (x : GotAnswerLeft). (tt, (tt, (x.memory, tt)))) p)

pub reading_end_send_says : Says 0 reading_end_send_kinds.ps reading_end_send_kinds.r reading_end_send.Learnt (λ κs a. flat_read_counter (read_sent_of (reading_end_at a.0)))
reading_end_send_says κs a z ws p = p

pub reading_end_take_says : Says 0 reading_end_take_kinds.ps reading_end_take_kinds.r reading_end_take.Learnt (λ κs a. flat_reading_end_answer (take_written_of (reading_end_at a.0) (written_counter_at a.1.0)))
reading_end_take_says κs a z ws p = p

-- ---- copies: the scheduler, the ring, the source or the destination
pub copies_write_says : Leaves 2 copies_write_kinds.ps copies_write_kinds.r copies_write.Learnt
    (λ κs a. flat_copied (write_of (scheduler_at a.0) a.1.0.now a.1.1.0.now).answer)
    (λ κs a. (tt, ((write_of (scheduler_at a.0) a.1.0.now a.1.1.0.now).memory, (tt, tt))))
copies_write_says κs a z ws p = (ap (λ (x : CopyAnswerLeft). x.answer) p, ap (λ (x : CopyAnswerLeft). (tt, (x.memory, (tt, tt)))) p)

pub copies_read_says : Leaves 2 copies_read_kinds.ps copies_read_kinds.r copies_read.Learnt
    (λ κs a. flat_copied (read_of (scheduler_at a.0) a.1.0.now a.1.1.0.now).answer)
    (λ κs a. (tt, (tt, ((read_of (scheduler_at a.0) a.1.0.now a.1.1.0.now).memory, tt))))
copies_read_says κs a z ws p = (ap (λ (x : CopyAnswerLeft). x.answer) p, ap (λ (x : CopyAnswerLeft). (tt, (tt, (x.memory, tt)))) p)

-- ---- in place: the toolchain reads no such contract, so each cites one predicate of its outcome
pub writing_end_write_in_place_says : (e : WritingEnd) (ring src : List ℕ) (r : MovedAnswer) (after : WritingEnd) (memory : List ℕ) → WriteInPlace e ring src r after memory →
    (r ≡ moved_wrote (wrote_of (writing_end_at e) ring src).answer) × (after ≡ writer_after e (wrote_of (writing_end_at e) ring src).answer) × (memory ≡ (wrote_of (writing_end_at e) ring src).memory)
writing_end_write_in_place_says e ring src r after memory p = p

pub writing_end_take_in_place_says : (e : WritingEnd) (c : ReadCounter) (r : Refusal) (after : WritingEnd) → TakeReadInPlace e c r after →
    (r ≡ writer_refusal (take_read_of (writing_end_at e) (read_counter_at c))) × (after ≡ writer_took e (take_read_of (writing_end_at e) (read_counter_at c)))
writing_end_take_in_place_says e c r after p = p

pub reading_end_read_in_place_says : (e : ReadingEnd) (ring dst : List ℕ) (r : MovedAnswer) (after : ReadingEnd) (memory : List ℕ) → ReadInPlace e ring dst r after memory →
    (r ≡ moved_got (got_of (reading_end_at e) ring dst).answer) × (after ≡ reader_after e (got_of (reading_end_at e) ring dst).answer) × (memory ≡ (got_of (reading_end_at e) ring dst).memory)
reading_end_read_in_place_says e ring dst r after memory p = p

pub reading_end_take_in_place_says : (e : ReadingEnd) (c : WrittenCounter) (r : Refusal) (after : ReadingEnd) → TakeWrittenInPlace e c r after →
    (r ≡ reader_refusal (take_written_of (reading_end_at e) (written_counter_at c))) × (after ≡ reader_took e (take_written_of (reading_end_at e) (written_counter_at c)))
reading_end_take_in_place_says e c r after p = p
