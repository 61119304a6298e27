-- What each call over a lent end says. The toolchain reads no such contract, so each cites one predicate of its outcome.
use Rattle.std.specs.Bool.{⊤}
use Rattle.std.proofs.Common.{Result}
use Prim.Native.Nat.{ℕ}
use mathlib.Core.Path.{◌≡◌}
use mathlib.Core.List.{List}
use Rattle.ends.specs.declared.reading_end.ReadCounter.{ReadCounter}
use Rattle.ends.specs.declared.reading_end.ReadingEnd.{ReadingEnd}
use Rattle.ends.specs.declared.writing_end.WrittenCounter.{WrittenCounter}
use Rattle.ends.specs.declared.writing_end.WritingEnd.{WritingEnd}
use Rattle.lent.specs.Lent.{told_wrote, writer_after, WriteLeaves, told_got, reader_after, ReadLeaves, taken_of_writing, writer_took, TakeReadLeaves, taken_of_reading, reader_took, TakeWrittenLeaves}
use Rattle.ends.specs.Ends.{wrote_of, got_of, take_read_of, take_written_of}
use Rattle.operations.specs.declared.portion.Portion.{Portion}
use Rattle.ends.specs.declared.refusal.Refusal.{Refusal}

pub write_lent_says : (e : WritingEnd) (ring src : List ℕ) (r : Result Portion Refusal) (after : WritingEnd) (memory : List ℕ) → WriteLeaves e ring src r after memory →
    (r ≡ told_wrote (wrote_of e ring src).answer) × (after ≡ writer_after e (wrote_of e ring src).answer) × (memory ≡ (wrote_of e ring src).memory)
write_lent_says e ring src r after memory p = p

pub read_lent_says : (e : ReadingEnd) (ring dst : List ℕ) (r : Result Portion Refusal) (after : ReadingEnd) (memory : List ℕ) → ReadLeaves e ring dst r after memory →
    (r ≡ told_got (got_of e ring dst).answer) × (after ≡ reader_after e (got_of e ring dst).answer) × (memory ≡ (got_of e ring dst).memory)
read_lent_says e ring dst r after memory p = p

pub take_read_lent_says : (e : WritingEnd) (c : ReadCounter) (r : Result ⊤ Refusal) (after : WritingEnd) → TakeReadLeaves e c r after →
    (r ≡ taken_of_writing (take_read_of e c)) × (after ≡ writer_took e (take_read_of e c))
take_read_lent_says e c r after p = p

pub take_written_lent_says : (e : ReadingEnd) (c : WrittenCounter) (r : Result ⊤ Refusal) (after : ReadingEnd) → TakeWrittenLeaves e c r after →
    (r ≡ taken_of_reading (take_written_of e c)) × (after ≡ reader_took e (take_written_of e c))
take_written_lent_says e c r after p = p
