-- Of the calls in place: whatever the attached contract of the call by value allows, the call in place tells, and leaves in the host's
-- struct and in the memory. So what is promised of the one holds of the other.
use Rattle.std.proofs.Common.{Result, Ok, Err}
use Prim.Native.Nat.{ℕ}
use mathlib.Core.Path.{◌≡◌, ap}
use mathlib.Core.List.{List}
use native.Mathlib.Omega.{arith}
use Rattle.copies.proofs.Promised.{KeepsLeft}
use Rattle.modular.proofs.Saying.{Keeps}
use Rattle.operations.proofs.Given.{number_some}
use Rattle.copies.specs.declared.refusal.Refusal.TheVariants as copies
use Rattle.ends.specs.declared.refusal.Refusal as ends_refusal
use Rattle.ends.specs.declared.refusal.Refusal.TheVariants.{Copy, RanBack}
use Rattle.ends.specs.Refusal.{number_of}
use Rattle.ends.specs.Ends.{wrote_of, got_of, take_read_of, take_written_of}
use Rattle.flat.specs.declared.structs.MovedAnswer.{MovedAnswer}
use Rattle.flat.specs.declared.structs.ReadingEnd.{ReadingEnd}
use Rattle.flat.specs.declared.structs.Refusal.{Refusal}
use Rattle.flat.specs.declared.structs.WritingEnd.{WritingEnd}
use Rattle.stripring.specs.InPlace.{moved_wrote, writer_after, WriteInPlace, writer_refusal, writer_took, TakeReadInPlace, moved_got, reader_after, ReadInPlace, reader_refusal, reader_took, TakeWrittenInPlace}
use Rattle.stripring.specs.PromiseInPlace.{AsByValue}
use Rattle.flat.specs.ReadingEnd.{read_counter_at, reading_end_at, flat_got, flat_reading_end_answer}
use Rattle.flat.specs.WritingEnd.{written_counter_at, writing_end_at, flat_wrote, flat_writing_end_answer}
use Rattle.stripring.proofs.SaysEnds.{writing_end_write_says, writing_end_take_says, reading_end_read_says, reading_end_take_says, writing_end_write_in_place_says, writing_end_take_in_place_says, reading_end_read_in_place_says, reading_end_take_in_place_says}
use Rattle.stripring.proofs.writing_end.stripring_writing_end_write.Kinds as write_kinds
use Rattle.stripring.proofs.writing_end.stripring_writing_end_write.Reads as write
use Rattle.stripring.proofs.writing_end.stripring_writing_end_take.Kinds as writing_take_kinds
use Rattle.stripring.proofs.writing_end.stripring_writing_end_take.Reads as writing_take
use Rattle.stripring.proofs.reading_end.stripring_reading_end_read.Kinds as read_kinds
use Rattle.stripring.proofs.reading_end.stripring_reading_end_read.Reads as read
use Rattle.stripring.proofs.reading_end.stripring_reading_end_take.Kinds as reading_take_kinds
use Rattle.stripring.proofs.reading_end.stripring_reading_end_take.Reads as reading_take
use Rattle.ends.specs.declared.reading_end.Got.{Got}
use Rattle.ends.specs.declared.writing_end.Wrote.{Wrote}
use Rattle.ends.specs.declared.writing_end.WritingEnd as ends_writingend
use Rattle.ends.specs.declared.reading_end.ReadingEnd as ends_readingend

-- no refusal has the number 0
refused : {A : Type 0} (e : ends_refusal.Refusal) → number_of e ≡ 0 → A
refused (Copy (copies.Scheduler e)) z = absurd (omega (arith, number_some e))
refused (Copy copies.RingMemory) z = absurd (omega arith)
refused RanBack z = absurd (omega arith)

-- ---- the writing end, by the two cases of the answer
as_wrote : (e : WritingEnd) (z : Result Wrote ends_refusal.Refusal) (r : MovedAnswer) (after : WritingEnd) → r ≡ moved_wrote z → after ≡ writer_after e z → AsByValue e (flat_wrote z).refusal (flat_wrote z).end r.refusal after × (r.n ≡ (flat_wrote z).n) × (r.remainder ≡ (flat_wrote z).remainder)
as_wrote e (Ok m) r after p q = (record { same = ap (λ (x : MovedAnswer). x.refusal) p; stored = λ z. q; kept = λ l. absurd (omega (arith, l)) }, ap (λ (x : MovedAnswer). x.n) p, ap (λ (x : MovedAnswer). x.remainder) p)
as_wrote e (Err x) r after p q = (record { same = ap (λ (y : MovedAnswer). y.refusal) p; stored = λ z. refused x z; kept = λ l. q }, ap (λ (y : MovedAnswer). y.n) p, ap (λ (y : MovedAnswer). y.remainder) p)

as_writer_took : (e : WritingEnd) (z : Result ends_writingend.WritingEnd ends_refusal.Refusal) (r : Refusal) (after : WritingEnd) → r ≡ writer_refusal z → after ≡ writer_took e z → AsByValue e (flat_writing_end_answer z).refusal (flat_writing_end_answer z).end r after
as_writer_took e (Ok f) r after p q = record { same = p; stored = λ z. q; kept = λ l. absurd (omega (arith, l)) }
as_writer_took e (Err x) r after p q = record { same = p; stored = λ z. refused x z; kept = λ l. q }

pub writing_end_write_in_place_promised : KeepsLeft 2 write_kinds.ps write_kinds.r write.Learnt
    (λ κs a z ws. (r : MovedAnswer) (after : WritingEnd) (memory : List ℕ) → WriteInPlace a.0 a.1.0.now a.1.1.0.now r after memory →
    (AsByValue a.0 z.refusal z.end r.refusal after × (r.n ≡ z.n) × (r.remainder ≡ z.remainder)) × (memory ≡ ws.1.0))
writing_end_write_in_place_promised κs a z ws p r after memory l =
    let q = writing_end_write_says κs a z ws p in
    let m = writing_end_write_in_place_says a.0 a.1.0.now a.1.1.0.now r after memory l in
    rw (q.0, q.1) (as_wrote a.0 (wrote_of (writing_end_at a.0) a.1.0.now a.1.1.0.now).answer r after m.0 m.1, m.2)

pub writing_end_take_in_place_promised : Keeps 0 writing_take_kinds.ps writing_take_kinds.r writing_take.Learnt (λ κs a z. (r : Refusal) (after : WritingEnd) → TakeReadInPlace a.0 a.1.0 r after → AsByValue a.0 z.refusal z.end r after)
writing_end_take_in_place_promised κs a z (ws, p) r after l =
    let m = writing_end_take_in_place_says a.0 a.1.0 r after l in
    rw (writing_end_take_says κs a z ws p) (as_writer_took a.0 (take_read_of (writing_end_at a.0) (read_counter_at a.1.0)) r after m.0 m.1)

-- ---- the reading end, by the two cases of the answer
as_got : (e : ReadingEnd) (z : Result Got ends_refusal.Refusal) (r : MovedAnswer) (after : ReadingEnd) → r ≡ moved_got z → after ≡ reader_after e z → AsByValue e (flat_got z).refusal (flat_got z).end r.refusal after × (r.n ≡ (flat_got z).n) × (r.remainder ≡ (flat_got z).remainder)
as_got e (Ok m) r after p q = (record { same = ap (λ (x : MovedAnswer). x.refusal) p; stored = λ z. q; kept = λ l. absurd (omega (arith, l)) }, ap (λ (x : MovedAnswer). x.n) p, ap (λ (x : MovedAnswer). x.remainder) p)
as_got e (Err x) r after p q = (record { same = ap (λ (y : MovedAnswer). y.refusal) p; stored = λ z. refused x z; kept = λ l. q }, ap (λ (y : MovedAnswer). y.n) p, ap (λ (y : MovedAnswer). y.remainder) p)

as_reader_took : (e : ReadingEnd) (z : Result ends_readingend.ReadingEnd ends_refusal.Refusal) (r : Refusal) (after : ReadingEnd) → r ≡ reader_refusal z → after ≡ reader_took e z → AsByValue e (flat_reading_end_answer z).refusal (flat_reading_end_answer z).end r after
as_reader_took e (Ok f) r after p q = record { same = p; stored = λ z. q; kept = λ l. absurd (omega (arith, l)) }
as_reader_took e (Err x) r after p q = record { same = p; stored = λ z. refused x z; kept = λ l. q }

pub reading_end_read_in_place_promised : KeepsLeft 2 read_kinds.ps read_kinds.r read.Learnt
    (λ κs a z ws. (r : MovedAnswer) (after : ReadingEnd) (memory : List ℕ) → ReadInPlace a.0 a.1.0.now a.1.1.0.now r after memory →
    (AsByValue a.0 z.refusal z.end r.refusal after × (r.n ≡ z.n) × (r.remainder ≡ z.remainder)) × (memory ≡ ws.1.1.0))
reading_end_read_in_place_promised κs a z ws p r after memory l =
    let q = reading_end_read_says κs a z ws p in
    let m = reading_end_read_in_place_says a.0 a.1.0.now a.1.1.0.now r after memory l in
    rw (q.0, q.1) (as_got a.0 (got_of (reading_end_at a.0) a.1.0.now a.1.1.0.now).answer r after m.0 m.1, m.2)

pub reading_end_take_in_place_promised : Keeps 0 reading_take_kinds.ps reading_take_kinds.r reading_take.Learnt (λ κs a z. (r : Refusal) (after : ReadingEnd) → TakeWrittenInPlace a.0 a.1.0 r after → AsByValue a.0 z.refusal z.end r after)
reading_end_take_in_place_promised κs a z (ws, p) r after l =
    let m = reading_end_take_in_place_says a.0 a.1.0 r after l in
    rw (reading_end_take_says κs a z ws p) (as_reader_took a.0 (take_written_of (reading_end_at a.0) (written_counter_at a.1.0)) r after m.0 m.1)
