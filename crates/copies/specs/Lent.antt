-- What a copy over a lent scheduler tells, and what it leaves in the record and in the lent memory.
use Rattle.std.specs.Prelude.{ℕ, ◌≡◌, List, Result, Ok, Err}
use Rattle.sched.specs.declared.scheduler.RingBufferScheduler.{RingBufferScheduler}
use Rattle.copies.specs.Copies.{Left, write_of, read_of}
use Rattle.copies.specs.declared.Copied.{Copied}
use Rattle.operations.specs.declared.portion.Portion.{Portion}
use Rattle.copies.specs.declared.refusal.Refusal.{Refusal}

abbrev pub told_of : Result Copied Refusal → Result Portion Refusal
told_of (Ok m) = Ok m.portion
told_of (Err e) = Err e

-- the record after: the answer's, or the old one where the copy is refused
abbrev pub record_after : RingBufferScheduler → Result Copied Refusal → RingBufferScheduler
record_after s (Ok m) = m.scheduler
record_after s (Err e) = s

-- what is told, the record and the memory are those of a copy by value of the record s
abbrev pub LentLeaves : RingBufferScheduler → Left → Result Portion Refusal → RingBufferScheduler → List ℕ → Type 0
LentLeaves s by_value r after memory = (r ≡ told_of by_value.answer) × (after ≡ record_after s by_value.answer) × (memory ≡ by_value.memory)

abbrev pub WriteLeaves : RingBufferScheduler → List ℕ → List ℕ → Result Portion Refusal → RingBufferScheduler → List ℕ → Type 0
WriteLeaves s ring src r after memory = LentLeaves s (write_of s ring src) r after memory

abbrev pub ReadLeaves : RingBufferScheduler → List ℕ → List ℕ → Result Portion Refusal → RingBufferScheduler → List ℕ → Type 0
ReadLeaves s ring dst r after memory = LentLeaves s (read_of s ring dst) r after memory
