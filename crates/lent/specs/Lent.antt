-- What a call over a lent end tells, and what it leaves in the end and in the lent memory: those of the call by value.
use Rattle.std.specs.Prelude.{ℕ, ◌≡◌, List, Result, Ok, Err, ⊤}
use Rattle.ends.specs.declared.reading_end.ReadCounter.{ReadCounter}
use Rattle.ends.specs.declared.reading_end.ReadingEnd.{ReadingEnd}
use Rattle.ends.specs.declared.writing_end.WrittenCounter.{WrittenCounter}
use Rattle.ends.specs.declared.writing_end.WritingEnd.{WritingEnd}
use Rattle.ends.specs.Ends.{wrote_of, got_of, take_read_of, take_written_of}
use Rattle.ends.specs.declared.reading_end.Got.{Got}
use Rattle.operations.specs.declared.portion.Portion.{Portion}
use Rattle.ends.specs.declared.writing_end.Wrote.{Wrote}
use Rattle.ends.specs.declared.refusal.Refusal.{Refusal}

-- ---- writing and reading
abbrev pub told_wrote : Result Wrote Refusal → Result Portion Refusal
told_wrote (Ok m) = Ok m.portion
told_wrote (Err r) = Err r

-- the end after: the answer's, or the old one where the call is refused
abbrev pub writer_after : WritingEnd → Result Wrote Refusal → WritingEnd
writer_after e (Ok m) = m.end
writer_after e (Err r) = e

abbrev pub WriteLeaves : WritingEnd → List ℕ → List ℕ → Result Portion Refusal → WritingEnd → List ℕ → Type 0
WriteLeaves e ring src r after memory =
    (r ≡ told_wrote (wrote_of e ring src).answer) × (after ≡ writer_after e (wrote_of e ring src).answer) × (memory ≡ (wrote_of e ring src).memory)

abbrev pub told_got : Result Got Refusal → Result Portion Refusal
told_got (Ok m) = Ok m.portion
told_got (Err r) = Err r

abbrev pub reader_after : ReadingEnd → Result Got Refusal → ReadingEnd
reader_after e (Ok m) = m.end
reader_after e (Err r) = e

abbrev pub ReadLeaves : ReadingEnd → List ℕ → List ℕ → Result Portion Refusal → ReadingEnd → List ℕ → Type 0
ReadLeaves e ring dst r after memory =
    (r ≡ told_got (got_of e ring dst).answer) × (after ≡ reader_after e (got_of e ring dst).answer) × (memory ≡ (got_of e ring dst).memory)

-- ---- taking the other end's counter
abbrev pub taken_of_writing : Result WritingEnd Refusal → Result ⊤ Refusal
taken_of_writing (Ok f) = Ok tt
taken_of_writing (Err r) = Err r

abbrev pub writer_took : WritingEnd → Result WritingEnd Refusal → WritingEnd
writer_took e (Ok f) = f
writer_took e (Err r) = e

abbrev pub TakeReadLeaves : WritingEnd → ReadCounter → Result ⊤ Refusal → WritingEnd → Type 0
TakeReadLeaves e c r after = (r ≡ taken_of_writing (take_read_of e c)) × (after ≡ writer_took e (take_read_of e c))

abbrev pub taken_of_reading : Result ReadingEnd Refusal → Result ⊤ Refusal
taken_of_reading (Ok f) = Ok tt
taken_of_reading (Err r) = Err r

abbrev pub reader_took : ReadingEnd → Result ReadingEnd Refusal → ReadingEnd
reader_took e (Ok f) = f
reader_took e (Err r) = e

abbrev pub TakeWrittenLeaves : ReadingEnd → WrittenCounter → Result ⊤ Refusal → ReadingEnd → Type 0
TakeWrittenLeaves e c r after = (r ≡ taken_of_reading (take_written_of e c)) × (after ≡ reader_took e (take_written_of e c))
