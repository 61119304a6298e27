-- What a call that changes a host's end in place tells, and what it leaves in the host's struct and in the lent memory: those of the call by
-- value, in their flat forms. Where the call is refused the struct keeps its bits.
use Rattle.std.specs.Prelude.{ℕ, ◌≡◌, List, Result, Ok, Err}
use Rattle.ends.specs.Ends.{wrote_of, got_of, take_read_of, take_written_of}
use Rattle.flat.specs.declared.structs.MovedAnswer.{MovedAnswer}
use Rattle.flat.specs.declared.structs.ReadCounter.{ReadCounter}
use Rattle.flat.specs.declared.structs.ReadingEnd.{ReadingEnd}
use Rattle.flat.specs.declared.structs.Refusal.{Refusal}
use Rattle.flat.specs.declared.structs.WritingEnd.{WritingEnd}
use Rattle.flat.specs.declared.structs.WrittenCounter.{WrittenCounter}
use Rattle.flat.specs.Flat.{no_refusal, flat_end_refusal}
use Rattle.flat.specs.ReadingEnd.{read_counter_at, reading_end_at, flat_reading_end}
use Rattle.flat.specs.WritingEnd.{written_counter_at, writing_end_at, flat_writing_end}
use Rattle.ends.specs.declared.reading_end.Got.{Got}
use Rattle.ends.specs.declared.writing_end.Wrote.{Wrote}
use Rattle.ends.specs.declared.writing_end.WritingEnd as ends_writingend
use Rattle.ends.specs.declared.refusal.Refusal as ends
use Rattle.ends.specs.declared.reading_end.ReadingEnd as ends_readingend

-- ---- the writing end
abbrev pub moved_wrote : Result Wrote ends.Refusal → MovedAnswer
moved_wrote (Ok m) = record { refusal = no_refusal; n = m.portion.len; remainder = m.portion.remainder }
moved_wrote (Err r) = record { refusal = flat_end_refusal r; n = 0; remainder = 0 }

abbrev pub writer_after : WritingEnd → Result Wrote ends.Refusal → WritingEnd
writer_after e (Ok m) = flat_writing_end m.end
writer_after e (Err r) = e

abbrev pub WriteInPlace : WritingEnd → List ℕ → List ℕ → MovedAnswer → WritingEnd → List ℕ → Type 0
WriteInPlace e ring src r after memory =
    (r ≡ moved_wrote (wrote_of (writing_end_at e) ring src).answer) × (after ≡ writer_after e (wrote_of (writing_end_at e) ring src).answer) × (memory ≡ (wrote_of (writing_end_at e) ring src).memory)

abbrev pub writer_refusal : Result ends_writingend.WritingEnd ends.Refusal → Refusal
writer_refusal (Ok f) = no_refusal
writer_refusal (Err r) = flat_end_refusal r

abbrev pub writer_took : WritingEnd → Result ends_writingend.WritingEnd ends.Refusal → WritingEnd
writer_took e (Ok f) = flat_writing_end f
writer_took e (Err r) = e

abbrev pub TakeReadInPlace : WritingEnd → ReadCounter → Refusal → WritingEnd → Type 0
TakeReadInPlace e c r after = (r ≡ writer_refusal (take_read_of (writing_end_at e) (read_counter_at c))) × (after ≡ writer_took e (take_read_of (writing_end_at e) (read_counter_at c)))

-- ---- the reading end
abbrev pub moved_got : Result Got ends.Refusal → MovedAnswer
moved_got (Ok m) = record { refusal = no_refusal; n = m.portion.len; remainder = m.portion.remainder }
moved_got (Err r) = record { refusal = flat_end_refusal r; n = 0; remainder = 0 }

abbrev pub reader_after : ReadingEnd → Result Got ends.Refusal → ReadingEnd
reader_after e (Ok m) = flat_reading_end m.end
reader_after e (Err r) = e

abbrev pub ReadInPlace : ReadingEnd → List ℕ → List ℕ → MovedAnswer → ReadingEnd → List ℕ → Type 0
ReadInPlace e ring dst r after memory =
    (r ≡ moved_got (got_of (reading_end_at e) ring dst).answer) × (after ≡ reader_after e (got_of (reading_end_at e) ring dst).answer) × (memory ≡ (got_of (reading_end_at e) ring dst).memory)

abbrev pub reader_refusal : Result ends_readingend.ReadingEnd ends.Refusal → Refusal
reader_refusal (Ok f) = no_refusal
reader_refusal (Err r) = flat_end_refusal r

abbrev pub reader_took : ReadingEnd → Result ends_readingend.ReadingEnd ends.Refusal → ReadingEnd
reader_took e (Ok f) = flat_reading_end f
reader_took e (Err r) = e

abbrev pub TakeWrittenInPlace : ReadingEnd → WrittenCounter → Refusal → ReadingEnd → Type 0
TakeWrittenInPlace e c r after = (r ≡ reader_refusal (take_written_of (reading_end_at e) (written_counter_at c))) × (after ≡ reader_took e (take_written_of (reading_end_at e) (written_counter_at c)))
