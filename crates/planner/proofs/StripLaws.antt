-- Strips of one height: where each begins, how many there are, and how many rows fit.
use Rattle.std.specs.Bool.{⊤}
use Rattle.std.proofs.Common.{Result, Ok}
use Prim.Native.Nat.{ℕ, ◌+◌, ◌-◌, ◌*◌, ◌/◌, ◌^◌, ◌≤◌, ◌<◌}
use mathlib.Core.Path.{◌≡◌, refl}
use mathlib.Core.Bool.{true, false}
use mathlib.Core.Logic.{⊎_elim}
use native.Mathlib.Nat.{le-div_iff_mul-le, mul-le-mul_right}
use native.Mathlib.Omega.{arith}
use Rattle.modular.proofs.Laws.{lt_or_le}
use Rattle.sched.specs.Chunk.{body_fits}
use Rattle.sched.proofs.ChunkLaws.{fits, fits_not}
use Rattle.planner.specs.declared.strips.Strips.{Strips}
use Rattle.planner.specs.Promise.{Fitting}
use Rattle.planner.specs.Sizes.{sizes_of}
use Rattle.planner.specs.Strips.{height_of, strips_of, outline_in, outline_from, outline_of, AreStrips}
use Rattle.planner.proofs.SizeLaws.{Tested, fit, no_ring, unbounded, no_plan, tested}
use Rattle.planner.specs.declared.refusal.Refusal.{Refusal}

below : (k n : ℕ) → k < n + 1 → k ≤ n
below k n l = omega arith

above : (k n : ℕ) → k ≤ n → k < n + 1
above k n l = omega arith

-- ---- of any height
module _ (rows height : ℕ) (tall : 1 ≤ height) (some : 1 ≤ rows) where
  -- strip k begins before the last row ends, and no other number of strips does
  pub begins : (k : ℕ) → k < strips_of rows height → k * height < rows
  begins k l = omega (arith, (le-div_iff_mul-le tall).0 (below _ _ l))

  pub begun : (k : ℕ) → k * height < rows → k < strips_of rows height
  begun k l = above _ _ ((le-div_iff_mul-le tall).1 (omega arith))

  pub reaches : rows ≤ strips_of rows height * height
  reaches = ⊎_elim (λ l. absurd (omega (arith, begun (strips_of rows height) l))) (λ l. l) (lt_or_le (strips_of rows height * height) rows)

-- ---- as tall as fits
module _ (rows bytes L : ℕ) (f : Fitting rows bytes L) where
  abbrev pub tallest : ℕ
  tallest = (L - 8) / bytes

  pub tallest_fits : (n : ℕ) → n ≤ tallest → n * bytes + 8 ≤ L
  tallest_fits n l = let h : n * bytes ≤ L - 8 = (le-div_iff_mul-le f.bounded.some_bytes).0 l in omega (arith, h, f.row)

  pub fits_tallest : (n : ℕ) → n * bytes + 8 ≤ L → n ≤ tallest
  fits_tallest n l = (le-div_iff_mul-le f.bounded.some_bytes).1 (omega (arith, l))

  pub tallest_some : 1 ≤ tallest
  tallest_some = fits_tallest 1 (omega (arith, f.row))

  -- where 2^16 rows fit, all rows of an image do
  pub all_fit : bytes ≤ (L - 8) / 2 ^ 16 → rows ≡ height_of rows bytes L
  all_fit l =
      let h : rows * bytes ≤ 2 ^ 16 * bytes = mul-le-mul_right bytes (omega (arith, f.bounded.most_rows)) in
      omega (arith, (le-div_iff_mul-le {k = bytes} {x = rows} {y = L - 8} f.bounded.some_bytes).1 (omega (arith, l, h)))

  -- of an image's rows, as many as the height and no more have room
  pub height_fits : (n : ℕ) → n ≤ height_of rows bytes L → body_fits L (n * bytes) ≡ true
  height_fits n l = fits L (n * bytes) (tallest_fits n (omega (arith, l)))

  pub height_fits_not : (n : ℕ) → n ≤ rows → height_of rows bytes L < n → body_fits L (n * bytes) ≡ false
  height_fits_not n most l = ⊎_elim (fits_not L (n * bytes)) (λ k. absurd (omega (arith, l, fits_tallest n k))) (lt_or_le L (n * bytes + 8))

  pub height_some : 1 ≤ height_of rows bytes L
  height_some = omega (arith, tallest_some, f.bounded.some_rows)

  -- ---- what an outline tells
  pub strips_are : AreStrips rows (outline_in rows (height_of rows bytes L))
  strips_are = record { most = f.bounded.most_rows; some = height_some; within = omega arith; is = refl }

pub outline_strips : (rows bytes L : ℕ) (o : Strips) → Ok o ≡ outline_of rows bytes L → AreStrips rows o
outline_strips rows bytes L o e = by (sizes_of rows bytes L) (tested rows bytes L) e
  where
    by : (z : Result ⊤ Refusal) → Tested rows bytes L z → Ok o ≡ outline_from rows bytes L z → AreStrips rows o
    by z (fit k) p = let same : outline_in rows (height_of rows bytes L) ≡ o = cc in rw same at (strips_are rows bytes L k)
    by z (no_ring r q) p = let n : ◌≡◌ {A = ℕ} 0 1 = cc in absurd (omega arith)
    by z (unbounded s q) p = let n : ◌≡◌ {A = ℕ} 0 1 = cc in absurd (omega arith)
    by z (no_plan s k q) p = let n : ◌≡◌ {A = ℕ} 0 1 = cc in absurd (omega arith)
