-- A header and its number; a header and a body, registered one after the other.
use Prim.Native.Nat.{ℕ, ◌+◌, ◌≤◌, min}
use mathlib.Core.Path.{◌≡◌, ap, ◌∙◌}
use native.Mathlib.Omega.{arith}
use mathlib.Core.Bool.{true}
use mathlib.Core.List.{List}
use lib.ListN.{length}
use Rattle.sched.proofs.Laws.{offset_lt}
use Rattle.sched.proofs.RegisterLaws.{advanced_greatest, advanced_sound}
use Rattle.operations.specs.declared.counter.Offset.{Offset}
use Rattle.operations.specs.declared.operation.OperationType.{OperationType}
use Rattle.operations.specs.declared.operation.OperationType.TheVariants.{Read, Write}
use Rattle.sched.specs.declared.scheduler.RingBufferScheduler.{RingBufferScheduler}
use Rattle.sched.specs.Scheduler.{IsSound, data_in, space_in, greatest_in, offset_in, advanced_in}
use Rattle.sched.specs.Chunk.{body_fits}
use Rattle.sched.proofs.ChunkLaws.{fits_by}
use Rattle.copies.specs.Number.{number_from, big_endian_of}
use Rattle.copies.specs.Ring.{get}
use Rattle.copies.proofs.NumberLaws.{inside}

-- what is there is moved whole
all_of : (s : RingBufferScheduler) (t : OperationType) (n : ℕ) → n ≤ greatest_in s t → advanced_in s t (min n (greatest_in s t)) ≡ advanced_in s t n
all_of s t n l = ap (advanced_in s t) (omega (arith, l))

module _ (s : RingBufferScheduler) (h : IsSound s) (g : 8 ≤ space_in s) where
  pub written : IsSound (advanced_in s Write 8)
  written = advanced_sound s h 8 Write g

  more : data_in (advanced_in s Write 8) ≡ data_in s + 8
  more = omega (arith, advanced_greatest s h 8 Write g, h.within, written.within)

  pub readable : 8 ≤ data_in (advanced_in s Write 8)
  readable = omega (arith, more)

  pub read : IsSound (advanced_in (advanced_in s Write 8) Read 8)
  read = advanced_sound (advanced_in s Write 8) written 8 Read readable

  same : data_in (advanced_in (advanced_in s Write 8) Read 8) ≡ data_in s
  same = omega (arith, advanced_greatest (advanced_in s Write 8) written 8 Read readable, more)

  pub room : (n : ℕ) → n + 8 ≤ space_in s → n ≤ space_in (advanced_in (advanced_in s Write 8) Read 8)
  room n l = omega (arith, same, g)

  pub announced : (n : ℕ) → n + 8 ≤ space_in s → IsSound (advanced_in (advanced_in (advanced_in s Write 8) Read 8) Write n)
  announced n l = advanced_sound (advanced_in (advanced_in s Write 8) Read 8) read n Write (room n l)

  -- so none of the three is cut short
  pub moves_header : advanced_in s Write (min 8 (space_in s)) ≡ advanced_in s Write 8
  moves_header = all_of s Write 8 g

  pub moves_reading : advanced_in (advanced_in s Write 8) Read (min 8 (data_in (advanced_in s Write 8))) ≡ advanced_in (advanced_in s Write 8) Read 8
  moves_reading = all_of (advanced_in s Write 8) Read 8 readable

  pub moves_body : (n : ℕ) → body_fits (space_in s) n ≡ true → advanced_in (advanced_in (advanced_in s Write 8) Read 8) Write (min n (space_in (advanced_in (advanced_in s Write 8) Read 8))) ≡ advanced_in (advanced_in (advanced_in s Write 8) Read 8) Write n
  moves_body n f = all_of (advanced_in (advanced_in s Write 8) Read 8) Write n (room n (fits_by _ _ f))

  -- what was there, and the body
  pub holds : (n : ℕ) → n + 8 ≤ space_in s → data_in (advanced_in (advanced_in (advanced_in s Write 8) Read 8) Write n) ≡ data_in s + n
  holds n l =
      let k : data_in (advanced_in (advanced_in (advanced_in s Write 8) Read 8) Write n) ≡ data_in (advanced_in (advanced_in s Write 8) Read 8) + n =
      omega (arith, advanced_greatest (advanced_in (advanced_in s Write 8) Read 8) read n Write (room n l), room n l, read.within, (announced n l).within) in
      k ∙ ap (λ (d : ℕ). d + n) same

  pub held : (n : ℕ) → n + 8 ≤ space_in s → n ≤ data_in (advanced_in (advanced_in (advanced_in s Write 8) Read 8) Write n)
  held n l = omega (arith, holds n l)

-- the number at the read offset, which lies in the ring
module _ (s : RingBufferScheduler) (h : IsSound s) (ring : List ℕ) (l : length ring ≡ s.buf_len) where
  pub header_is : (o : Offset) → o ≡ offset_in s Read → (n : ℕ) → n ≡ big_endian_of ring o.0 → n ≡ number_from 0 (get s.buf_len ring (offset_in s Read).0 8)
  header_is o e n p =
      p ∙ ap (λ (x : Offset). big_endian_of ring x.0) e ∙ inside ring (offset_in s Read).0 (omega (arith, offset_lt s h Read, l)) ∙
      ap (λ (m : ℕ). number_from 0 (get m ring (offset_in s Read).0 8)) l

-- how a chunk is written into a sound ring: no step is cut short
pub ruleset chunk_moves = (moves_header, moves_reading, moves_body)
