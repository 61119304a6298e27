-- Of the calls over a lent end: whatever the attached contract of the call by value allows, the lent one tells, and leaves in the end and in
-- the memory. So what is promised of the one holds of the other.
use Rattle.std.specs.Bool.{⊤}
use Rattle.std.proofs.Common.{Result, Ok, Err}
use Prim.Native.Nat.{ℕ}
use mathlib.Core.Path.{◌≡◌}
use mathlib.Core.List.{List}
use Rattle.copies.proofs.Promised.{KeepsLeft}
use Rattle.modular.proofs.Saying.{Keeps}
use Rattle.ends.specs.declared.reading_end.ReadingEnd.{ReadingEnd}
use Rattle.ends.specs.declared.writing_end.WritingEnd.{WritingEnd}
use Rattle.ends.specs.Ends.{wrote_of, got_of, take_read_of, take_written_of}
use Rattle.lent.specs.Lent.{told_wrote, writer_after, WriteLeaves, told_got, reader_after, ReadLeaves, taken_of_writing, writer_took, TakeReadLeaves, taken_of_reading, reader_took, TakeWrittenLeaves}
use Rattle.lent.specs.Promise.{AsWrote, AsGot, AsTookRead, AsTookWritten}
use Rattle.lent.proofs.Says.{write_lent_says, read_lent_says, take_read_lent_says, take_written_lent_says}
use Rattle.ends.proofs.Says.{WritingEnd-write-says, ReadingEnd-read-says, WritingEnd-take-says, ReadingEnd-take-says}
use Rattle.ends.proofs.writing_end.WritingEnd.write.Kinds as write_kinds
use Rattle.ends.proofs.writing_end.WritingEnd.write.Reads as write
use Rattle.ends.proofs.reading_end.ReadingEnd.read.Kinds as read_kinds
use Rattle.ends.proofs.reading_end.ReadingEnd.read.Reads as read
use Rattle.ends.proofs.writing_end.WritingEnd.take.Kinds as take_w_kinds
use Rattle.ends.proofs.writing_end.WritingEnd.take.Reads as take_w
use Rattle.ends.proofs.reading_end.ReadingEnd.take.Kinds as take_r_kinds
use Rattle.ends.proofs.reading_end.ReadingEnd.take.Reads as take_r
use Rattle.ends.specs.declared.reading_end.Got.{Got}
use Rattle.operations.specs.declared.portion.Portion.{Portion}
use Rattle.ends.specs.declared.writing_end.Wrote.{Wrote}
use Rattle.ends.specs.declared.refusal.Refusal.{Refusal}

-- by the two cases of the answer
as_wrote : (e : WritingEnd) (z : Result Wrote Refusal) (r : Result Portion Refusal) (after : WritingEnd) → r ≡ told_wrote z → after ≡ writer_after e z → AsWrote e z r after
as_wrote e (Ok m) r after p q = (p, q)
as_wrote e (Err x) r after p q = (p, q)

as_got : (e : ReadingEnd) (z : Result Got Refusal) (r : Result Portion Refusal) (after : ReadingEnd) → r ≡ told_got z → after ≡ reader_after e z → AsGot e z r after
as_got e (Ok m) r after p q = (p, q)
as_got e (Err x) r after p q = (p, q)

as_took_read : (e : WritingEnd) (z : Result WritingEnd Refusal) (r : Result ⊤ Refusal) (after : WritingEnd) → r ≡ taken_of_writing z → after ≡ writer_took e z → AsTookRead e z r after
as_took_read e (Ok f) r after p q = (p, q)
as_took_read e (Err x) r after p q = (p, q)

as_took_written : (e : ReadingEnd) (z : Result ReadingEnd Refusal) (r : Result ⊤ Refusal) (after : ReadingEnd) → r ≡ taken_of_reading z → after ≡ reader_took e z → AsTookWritten e z r after
as_took_written e (Ok f) r after p q = (p, q)
as_took_written e (Err x) r after p q = (p, q)

pub write_lent_promised : KeepsLeft 2 write_kinds.ps write_kinds.r write.Learnt
    (λ κs a z ws. (r : Result Portion Refusal) (after : WritingEnd) (memory : List ℕ) → WriteLeaves a.0 a.1.0.now a.1.1.0.now r after memory → AsWrote a.0 z r after × (memory ≡ ws.1.0))
write_lent_promised κs a z ws p r after memory l =
    let q = WritingEnd-write-says κs a z ws p in
    let m = write_lent_says a.0 a.1.0.now a.1.1.0.now r after memory l in
    rw (q.0, q.1) (as_wrote a.0 (wrote_of a.0 a.1.0.now a.1.1.0.now).answer r after m.0 m.1, m.2)

pub read_lent_promised : KeepsLeft 2 read_kinds.ps read_kinds.r read.Learnt
    (λ κs a z ws. (r : Result Portion Refusal) (after : ReadingEnd) (memory : List ℕ) → ReadLeaves a.0 a.1.0.now a.1.1.0.now r after memory → AsGot a.0 z r after × (memory ≡ ws.1.1.0))
read_lent_promised κs a z ws p r after memory l =
    let q = ReadingEnd-read-says κs a z ws p in
    let m = read_lent_says a.0 a.1.0.now a.1.1.0.now r after memory l in
    rw (q.0, q.1) (as_got a.0 (got_of a.0 a.1.0.now a.1.1.0.now).answer r after m.0 m.1, m.2)

pub take_read_lent_promised : Keeps 0 take_w_kinds.ps take_w_kinds.r take_w.Learnt (λ κs a z. (r : Result ⊤ Refusal) (after : WritingEnd) → TakeReadLeaves a.0 a.1.0 r after → AsTookRead a.0 z r after)
take_read_lent_promised κs a z (ws, p) r after l =
    let m = take_read_lent_says a.0 a.1.0 r after l in
    rw (WritingEnd-take-says κs a z ws p) (as_took_read a.0 (take_read_of a.0 a.1.0) r after m.0 m.1)

pub take_written_lent_promised : Keeps 0 take_r_kinds.ps take_r_kinds.r take_r.Learnt (λ κs a z. (r : Result ⊤ Refusal) (after : ReadingEnd) → TakeWrittenLeaves a.0 a.1.0 r after → AsTookWritten a.0 z r after)
take_written_lent_promised κs a z (ws, p) r after l =
    let m = take_written_lent_says a.0 a.1.0 r after l in
    rw (ReadingEnd-take-says κs a z ws p) (as_took_written a.0 (take_written_of a.0 a.1.0) r after m.0 m.1)
