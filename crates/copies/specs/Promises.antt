-- What a copy promises of the memory before and after it, in other words than those of its definition.
use Rattle.std.specs.Prelude.{ℕ, ◌+◌, ◌*◌, ◌%◌, ◌^◌, ◌<◌, min, ◌≡◌, ◌≢◌, List, length, get_or, take, drop, Result, Ok, Err}
use Rattle.operations.specs.declared.operation.OperationType.TheVariants.{Read, Write}
use Rattle.operations.specs.declared.portion.Portion.{Portion}
use Rattle.operations.specs.Promise.{LeftOver}
use Rattle.sched.specs.declared.scheduler.RingBufferScheduler.{RingBufferScheduler}
use Rattle.sched.specs.Promise.{MovedBy}
use Rattle.sched.specs.Scheduler.{greatest_in, offset_in}
use Rattle.copies.specs.declared.refusal.Refusal.{Refusal}
use Rattle.copies.specs.Ring.{get}
use Rattle.copies.specs.declared.Copied.{Copied}

-- ---- numbers
-- the cell k of a ring of length L
abbrev pub cell : ℕ → List ℕ → ℕ → ℕ
cell L ring k = get_or ring (k % L) 0

-- the number in the eight cells from k on, most significant first
abbrev pub number_at : ℕ → List ℕ → ℕ → ℕ
number_at L ring k =
    cell L ring k * 2 ^ 56 + cell L ring (k + 1) * 2 ^ 48 + cell L ring (k + 2) * 2 ^ 40 + cell L ring (k + 3) * 2 ^ 32
    + cell L ring (k + 4) * 2 ^ 24 + cell L ring (k + 5) * 2 ^ 16 + cell L ring (k + 6) * 2 ^ 8 + cell L ring (k + 7)

-- ---- copies
-- of a ring of l places none but the n places from `at` on are changed
abbrev pub OnlyCells : ℕ → ℕ → ℕ → List ℕ → List ℕ → Type 0
OnlyCells l at n old new = (length new ≡ length old) × ((k : ℕ) → ((j : ℕ) → j < n → k ≢ (at + j) % l) → get_or new k 0 ≡ get_or old k 0)

-- past its first n bytes a destination stays
abbrev pub OnlyFront : ℕ → List ℕ → List ℕ → Type 0
OnlyFront n old new = (length new ≡ length old) × (drop n new ≡ drop n old)

-- these bytes stand in the ring of l places from `at` on, one in each cell
abbrev pub CellsOf : ℕ → List ℕ → ℕ → List ℕ → Type 0
CellsOf l ring at bytes = (j : ℕ) → j < length bytes → get_or bytes j 0 ≡ get_or ring ((at + j) % l) 0

module _ (s : RingBufferScheduler) (ring : List ℕ) where
  -- A write is refused, and changes neither the scheduler nor the memory. Or it moves exactly the smaller of what is asked and
  -- the greatest length, which is what is registered, and leaves the others over; the front of the source then stands in its cells,
  -- and no other changed.
  pub data Writes (src : List ℕ) : Result Portion Refusal → RingBufferScheduler → List ℕ → Type 0 where
    refuses : (e : Refusal) → Writes src (Err e) s ring
    moves : (n : Portion) (after : RingBufferScheduler) (memory : List ℕ) →
        n.len ≡ min (length src) (greatest_in s Write) →
        LeftOver (length src) (greatest_in s Write) n.len n.remainder →
        MovedBy s Write n.len after →
        get s.buf_len memory (offset_in s Write).0 n.len ≡ take n.len src →
        OnlyCells s.buf_len (offset_in s Write).0 n.len ring memory →
        Writes src (Ok n) after memory

  -- A read likewise: the front of the destination then holds what stands in its cells, and the rest of it stays.
  pub data Reads (dst : List ℕ) : Result Portion Refusal → RingBufferScheduler → List ℕ → Type 0 where
    refuses : (e : Refusal) → Reads dst (Err e) s dst
    moves : (n : Portion) (after : RingBufferScheduler) (memory : List ℕ) →
        n.len ≡ min (length dst) (greatest_in s Read) →
        LeftOver (length dst) (greatest_in s Read) n.len n.remainder →
        MovedBy s Read n.len after →
        take n.len memory ≡ get s.buf_len ring (offset_in s Read).0 n.len →
        OnlyFront n.len dst memory →
        Reads dst (Ok n) after memory

-- so of an answer by value, which holds the record after and the portion; a refused one leaves the record
abbrev pub CopyWrites : RingBufferScheduler → List ℕ → List ℕ → Result Copied Refusal → List ℕ → Type 0
CopyWrites s ring src (Ok m) memory = Writes s ring src (Ok m.portion) m.scheduler memory
CopyWrites s ring src (Err e) memory = Writes s ring src (Err e) s memory

abbrev pub CopyReads : RingBufferScheduler → List ℕ → List ℕ → Result Copied Refusal → List ℕ → Type 0
CopyReads s ring dst (Ok m) memory = Reads s ring dst (Ok m.portion) m.scheduler memory
CopyReads s ring dst (Err e) memory = Reads s ring dst (Err e) s memory
