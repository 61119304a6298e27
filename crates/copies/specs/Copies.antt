-- What a copy answers, and what it leaves in the lent memory.
use Rattle.std.specs.Prelude.{ℕ, ◌+◌, cond, List, ◌++◌, eqb, length, take, drop, Result, Ok, Err}
use Rattle.operations.specs.declared.operation.OperationType.TheVariants.{Read, Write}
use Rattle.sched.specs.declared.register.Move.{Move}
use Rattle.sched.specs.declared.scheduler.RingBufferScheduler.{RingBufferScheduler}
use Rattle.sched.specs.Scheduler.{sound_of, move_in}
use Rattle.copies.specs.declared.refusal.Refusal.TheVariants.{Scheduler, RingMemory}
use Rattle.copies.specs.Ring.{put, get}
use Rattle.copies.specs.declared.Copied.{Copied}
use Rattle.copies.specs.declared.refusal.Refusal as copies
use Rattle.operations.specs.declared.refusal.Refusal.{Refusal}

-- 1 to 5 and 20, then 9 where the lent ring memory is not L bytes
unfoldable pub ready_from : ℕ → Result RingBufferScheduler Refusal → Result RingBufferScheduler copies.Refusal
ready_from n (Ok s) = cond (eqb n s.buf_len) (Ok s) (Err RingMemory)
ready_from n (Err e) = Err (Scheduler e)

abbrev pub ready_of : RingBufferScheduler → ℕ → Result RingBufferScheduler copies.Refusal
ready_of s n = ready_from n (sound_of s)

-- what a copy leaves: its answer, which holds the record, and the lent memory that it may change
pub record Left : Type 0 where
  pub answer : Result Copied copies.Refusal
  pub memory : List ℕ

abbrev pub left : Result Copied copies.Refusal → List ℕ → Left
left a m = record { answer = a; memory = m }

-- what a move comes to, once its bytes are copied: how many were moved and how many left over are the scheduler's
abbrev pub from_move : Move → Copied
from_move m = record { scheduler = m.scheduler; portion = m.portion }

abbrev pub moved_by : Move → Result Copied copies.Refusal
moved_by m = Ok (from_move m)

-- a write moves the front of the source to the cells from the offset on
abbrev pub write_by : Move → ℕ → List ℕ → List ℕ → Left
write_by m l ring src = left (moved_by m) (put l ring m.off.0 (take m.portion.len src))

abbrev pub write_in : RingBufferScheduler → List ℕ → List ℕ → Left
write_in s ring src = write_by (move_in s Write (length src)) s.buf_len ring src

-- a read moves the bytes in the cells from the offset on to the front of the destination, the rest of which stays
abbrev pub read_by : Move → ℕ → List ℕ → List ℕ → Left
read_by m l ring dst = left (moved_by m) (get l ring m.off.0 m.portion.len ++ drop m.portion.len dst)

abbrev pub read_in : RingBufferScheduler → List ℕ → List ℕ → Left
read_in s ring dst = read_by (move_in s Read (length dst)) s.buf_len ring dst

-- a refused copy leaves the memory as it was
abbrev pub write_from : List ℕ → List ℕ → Result RingBufferScheduler copies.Refusal → Left
write_from ring src (Ok s) = write_in s ring src
write_from ring src (Err e) = left (Err e) ring

abbrev pub read_from : List ℕ → List ℕ → Result RingBufferScheduler copies.Refusal → Left
read_from ring dst (Ok s) = read_in s ring dst
read_from ring dst (Err e) = left (Err e) dst

abbrev pub write_of : RingBufferScheduler → List ℕ → List ℕ → Left
write_of s ring src = write_from ring src (ready_of s (length ring))

abbrev pub read_of : RingBufferScheduler → List ℕ → List ℕ → Left
read_of s ring dst = read_from ring dst (ready_of s (length ring))

-- ---- the parts of a copy
abbrev pub part : List ℕ → ℕ → ℕ → List ℕ
part xs a n = take n (drop a xs)

abbrev pub pasted : List ℕ → ℕ → List ℕ → List ℕ
pasted xs at bs = take at xs ++ (bs ++ drop (at + length bs) xs)
