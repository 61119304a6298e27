-- What the calls do to a record whose counters are positions seen modulo 2L: the positions w and r count all bytes since the
-- counters stood at c. All arithmetic modulo 2L is here; what is built on it speaks of positions alone.
use Rattle.std.proofs.Common.{Ok}
use Prim.Native.Nat.{ℕ, ◌+◌, ◌*◌, ◌-◌, ◌%◌, ◌^◌, ◌≤◌, ◌<◌, min}
use mathlib.Core.Path.{◌≡◌, refl}
use mathlib.Core.List.{List, ◌++◌}
use native.Mathlib.Nat.{mod-lt, mod-mod, mod-add-mod, mod-mod_of_dvd, dvd-mul_left, add_assoc}
use native.Mathlib.Omega.{arith}
use borrow.Author.Tests.{eq-eqb, le-ltb}
use lib.ListN.{length, take, drop}
use Rattle.modular.proofs.Laws.{sub_unique, add_is}
use Rattle.operations.specs.Portion.{portion_of}
use Rattle.sched.specs.declared.scheduler.RingBufferScheduler.{RingBufferScheduler}
use Rattle.sched.specs.Scheduler.{scheduler_of, IsSound, data_in, space_in}
use Rattle.sched.proofs.Laws.{sound_is}
use Rattle.copies.specs.Ring.{put, get}
use Rattle.copies.specs.Copies.{ready_from, left, write_of, read_of}
use Rattle.copies.proofs.Ring.{put_place, get_place}
use Rattle.ends.specs.Ends.{writing_end, reading_end, take_read_from, take_read_of, take_written_from, take_written_of}

-- the counter of a position
abbrev pub seen : ℕ → ℕ → ℕ → ℕ
seen l c p = (c + p) % (2 * l)

abbrev pub view : ℕ → ℕ → ℕ → ℕ → RingBufferScheduler
view l c w r = scheduler_of l (record { 0 = seen l c w }) (record { 0 = seen l c r })

-- a length, and two positions at most that length apart
pub record Near (l w r : ℕ) : Type 0 where
  pub pos : 0 < l
  pub top : l ≤ 2 ^ 63
  pub low : r ≤ w
  pub high : w ≤ r + l

-- a position n on
later : (l c p n : ℕ) → (seen l c p + n) % (2 * l) ≡ seen l c (p + n)
later l c p n = rw (mod-add-mod, add_assoc)

-- the place of a position
pub place : (l c p : ℕ) → seen l c p % l ≡ (c + p) % l
place l c p = mod-mod_of_dvd l (c + p) (dvd-mul_left l 2)

module _ (l c w r : ℕ) (h : Near l w r) where
  abbrev s : RingBufferScheduler
  s = view l c w r

  pub data_view : data_in (view l c w r) ≡ w - r
  data_view =
      let e : c + r + (w - r) ≡ c + w = omega arith in
      sub_unique (2 * l) (seen l c w) (seen l c r) (w - r) (omega arith) (omega arith) (rw (mod-add-mod, e, mod-mod))

  pub space_view : space_in (view l c w r) ≡ l - (w - r)
  space_view = rw data_view

  pub sound_view : IsSound (view l c w r)
  sound_view =
      record {
        sized = record { some = omega arith; fits = h.top };
        written = mod-lt (c + w) (omega arith);
        read = mod-lt (c + r) (omega arith);
        within = rw data_view (omega arith);
        held = refl;
      }

  pub write_view : (ring src : List ℕ) → length ring ≡ l →
      write_of (view l c w r) ring src ≡
      left (Ok (record { scheduler = view l c (w + min (length src) (l - (w - r))) r; portion = portion_of (length src) (l - (w - r)) }))
      (put l ring (c + w) (take (min (length src) (l - (w - r))) src))
  unfolding ready_from
  write_view ring src e =
      let n : ℕ = min (length src) (l - (w - r)) in
      rw (
        ← sound_is s sound_view,
        eq-eqb (length ring) l e,
        space_view,
        add_is (2 * l) (seen l c w) n,
        later l c w n,
        put_place l ring (seen l c w % l) (c + w) (take n src) (rw (mod-mod, place l c w)),
      )

  pub read_view : (ring dst : List ℕ) → length ring ≡ l →
      read_of (view l c w r) ring dst ≡
      left (Ok (record { scheduler = view l c w (r + min (length dst) (w - r)); portion = portion_of (length dst) (w - r) }))
      (get l ring (c + r) (min (length dst) (w - r)) ++ drop (min (length dst) (w - r)) dst)
  unfolding ready_from
  read_view ring dst e =
      let n : ℕ = min (length dst) (w - r) in
      rw (
        ← sound_is s sound_view,
        eq-eqb (length ring) l e,
        data_view,
        add_is (2 * l) (seen l c r) n,
        later l c r n,
        get_place l ring (seen l c r % l) (c + r) n (rw (mod-mod, place l c r)),
      )

-- a position that is not behind the last one heard is taken
module _ (l c w r p : ℕ) (h : Near l w r) where
  pub take_read_view : r ≤ p → p ≤ w → take_read_of (writing_end (view l c w r)) (record { 0 = record { 0 = seen l c p } }) ≡ Ok (writing_end (view l c w p))
  unfolding take_read_from
  take_read_view lo hi =
      let n : Near l w p = record { pos = h.pos; top = h.top; low = hi; high = omega arith } in
      rw (← sound_is (view l c w r) (sound_view l c w r h), ← sound_is (view l c w p) (sound_view l c w p n)) (
      rw (le-ltb (space_in (view l c w p)) (space_in (view l c w r)) (omega (arith, space_view l c w r h, space_view l c w p n)))
      )

  pub take_written_view : w ≤ p → p ≤ r + l → take_written_of (reading_end (view l c w r)) (record { 0 = record { 0 = seen l c p } }) ≡ Ok (reading_end (view l c p r))
  unfolding take_written_from
  take_written_view lo hi =
      let n : Near l p r = record { pos = h.pos; top = h.top; low = omega arith; high = hi } in
      rw (← sound_is (view l c w r) (sound_view l c w r h), ← sound_is (view l c p r) (sound_view l c p r n)) (
      rw (le-ltb (data_in (view l c p r)) (data_in (view l c w r)) (omega (arith, data_view l c w r h, data_view l c p r n)))
      )
