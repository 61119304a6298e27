-- The rule keeps what specs/Promise.antt says of it: what a header says.
use Rattle.std.proofs.Common.{Result, Ok, Err}
use Prim.Native.Nat.{ℕ, ◌+◌, ◌/◌, ◌%◌, ◌^◌, ◌<◌, ◌≤◌}
use mathlib.Core.Path.{◌≡◌, refl, subst}
use mathlib.Core.Bool.{Bool, true, false}
use mathlib.Core.List.{List}
use native.Mathlib.Nat.{div-add-mod', mod-lt}
use native.Mathlib.Omega.{arith}
use lib.Dec.{eqb, ltb}
use borrow.Author.Tests.{eqb-true, eqb-false, ltb-true, ltb-false}
use Rattle.operations.specs.declared.operation.OperationType.TheVariants.{Read, Write}
use Rattle.sched.specs.declared.scheduler.RingBufferScheduler.{RingBufferScheduler}
use Rattle.sched.specs.Scheduler.{IsSound, data_in, space_in, offset_in, advanced_in}
use Rattle.sched.specs.Chunk.{body_fits}
use Rattle.sched.proofs.ChunkLaws.{fits_by, fits_not_by}
use Rattle.copies.specs.Number.{number_from}
use Rattle.copies.specs.Promises.{number_at}
use Rattle.copies.specs.Ring.{get}
use Rattle.copies.proofs.NumberLaws.{number_at_lem}
use Rattle.states.proofs.Rules.{behind_rule}
use Rattle.receiver.proofs.ChunkLaws.{holds}
use Rattle.receiver.specs.Promise.{Said, body, violates, Announces, no_room_for_a_header, format_unknown, length_0, too_long, accepted}
use Rattle.receiver.specs.Receiver.{header_in, announced_in}
use Rattle.states.specs.State.{behind_header, violation_number, overflow_in}
use Rattle.receiver.specs.declared.receiver.Beside.{Beside}
use Rattle.states.specs.declared.state.Failure.TheVariants.{Io, Protocol}
use Rattle.receiver.specs.declared.announcement.Announced.{Announced}
use Rattle.states.specs.declared.state.Failure.{Failure}

-- ---- announcements
abbrev pub said_by : Result Announced Failure → Said
said_by (Ok m) = body (data_in m.scheduler) m.beside
said_by (Err (Protocol v)) = violates (violation_number v) (overflow_in v).needed (overflow_in v).room
said_by (Err (Io e)) = violates 0 0 0

top_bits : (h : ℕ) → eqb (h / 2 ^ 62) 0 ≡ true → h < 2 ^ 62
top_bits h e = let l : h % 2 ^ 62 < 2 ^ 62 = mod-lt h (omega arith) in omega (arith, eqb-true (h / 2 ^ 62) 0 e, div-add-mod' h (2 ^ 62), l)

no_top_bits : (h : ℕ) → eqb (h / 2 ^ 62) 0 ≡ false → 2 ^ 62 ≤ h
no_top_bits h e = omega (arith, eqb-false (h / 2 ^ 62) 0 e, div-add-mod' h (2 ^ 62))

module _ (s : RingBufferScheduler) (sound : IsSound s) (empty : data_in s ≡ 0) (b : Beside) where
  abbrev L : ℕ
  L = s.buf_len

  free : space_in s ≡ L
  free = omega (arith, empty)

  -- the chunk's data is its body
  chunk_data : (g : 8 ≤ space_in s) (n : ℕ) (l : n + 8 ≤ space_in s) → data_in (advanced_in (advanced_in (advanced_in s Write 8) Read 8) Write n) ≡ n
  chunk_data g n l = omega (arith, holds s sound g n l, empty)

  header_says : (h : ℕ) → 8 ≤ space_in s → Announces L h b (said_by (header_in s b h))
  header_says h g = by (eqb (h / 2 ^ 62) 0) refl (eqb (h % 2 ^ 48) 0) refl (body_fits (space_in s) (h % 2 ^ 48)) refl
    where
      behind : behind_header (space_in s) + 8 ≡ space_in s
      behind = (behind_rule (space_in s)).0 g

      by : (x : Bool) → eqb (h / 2 ^ 62) 0 ≡ x → (y : Bool) → eqb (h % 2 ^ 48) 0 ≡ y → (z : Bool) → body_fits (space_in s) (h % 2 ^ 48) ≡ z → Announces L h b (said_by (header_in s b h))
      by false p y q z r = rw p (format_unknown (omega (arith, free, g)) (no_top_bits h p))
      by true p true q z r = rw (p, q) (length_0 (omega (arith, free, g)) (top_bits h p) (eqb-true _ _ q))
      by true p false q false r = rw (p, q, r) (too_long {room = behind_header (space_in s)} (omega (arith, free, behind)) (top_bits h p) (omega (arith, behind, fits_not_by (space_in s) (h % 2 ^ 48) r)))
      by true p false q true r =
          rw (p, q, r, chunk_data g (h % 2 ^ 48) (fits_by (space_in s) (h % 2 ^ 48) r))
          (accepted (top_bits h p) (omega (arith, eqb-false (h % 2 ^ 48) 0 q)) (omega (arith, free, fits_by (space_in s) (h % 2 ^ 48) r)))

  pub announcement_says : (ring : List ℕ) → Announces L (number_at L ring (offset_in s Read).0) b (said_by (announced_in ring s b))
  announcement_says ring = subst (λ (h : ℕ). Announces L h b (said_by (announced_in ring s b))) (number_at_lem L ring (offset_in s Read).0) (by (ltb (space_in s) 8) refl)
    where
      by : (x : Bool) → ltb (space_in s) 8 ≡ x → Announces L (number_from 0 (get L ring (offset_in s Read).0 8)) b (said_by (announced_in ring s b))
      by true p = rw p (no_room_for_a_header free (ltb-true (space_in s) 8 p))
      by false p = rw p (header_says (number_from 0 (get L ring (offset_in s Read).0 8)) (ltb-false _ _ p))
