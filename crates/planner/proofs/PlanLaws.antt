-- The plan that is proposed is a plan, every run but the last is as tall as fits, and no plan has fewer runs.
use Prim.Native.Nat.{ℕ, zero, suc, ◌+◌, ◌-◌, ◌*◌, ◌/◌, ◌%◌, ◌≤◌, ◌<◌, min}
use mathlib.Core.Path.{◌≡◌, refl, sym, ap, ◌∙◌}
use mathlib.Core.Logic.{⊎_elim}
use mathlib.Core.List.{List, ◌∷◌}
use lib.ListN.{length, get_or}
use native.Mathlib.Nat.{add-zero, zero-add, suc-mul, zero-mul, div-add-mod', mod-lt}
use native.Mathlib.Omega.{arith}
use Rattle.modular.proofs.Laws.{lt_or_le}
use Rattle.planner.specs.Strips.{height_of, strips_of}
use Rattle.planner.specs.Plan.{runs_from}
use Rattle.planner.specs.Promise.{Fitting, runs_in, first_at, count_at, behind, IsPlan, Tall, Fewest}
use Rattle.planner.proofs.StripLaws.{begins, reaches, tallest, tallest_fits, fits_tallest, height_some}

-- ---- its numbers
module _ (height rows : ℕ) where
  pub runs_length : (m k : ℕ) → length (runs_from height rows k m) ≡ 2 * m
  unfolding runs_from
  runs_length zero k = refl
  runs_length (suc m) k = ap (λ (n : ℕ). suc (suc n)) (runs_length m (suc k)) ∙ omega arith

  runs_at :
      (m k j : ℕ) → j < m →
      (first_at (runs_from height rows k m) j ≡ (k + j) * height) × (count_at (runs_from height rows k m) j ≡ min height (rows - (k + j) * height))
  unfolding runs_from
  runs_at zero k j l = absurd (omega arith)
  runs_at (suc m) k zero l = rw add-zero (refl, refl)
  runs_at (suc m) k (suc j) l =
      let r = runs_at m (suc k) j (omega arith) in
      let plan : List ℕ = k * height ∷ min height (rows - k * height) ∷ runs_from height rows (suc k) m in
      let first : 2 * suc j ≡ suc (suc (2 * j)) = omega arith in
      let count : 2 * suc j + 1 ≡ suc (suc (2 * j + 1)) = omega arith in
      let run : suc k + j ≡ k + suc j = omega arith in (
        ap (λ (n : ℕ). get_or plan n 0) first ∙ r.0 ∙ ap (λ (n : ℕ). n * height) run,
        ap (λ (n : ℕ). get_or plan n 0) count ∙ r.1 ∙ ap (λ (n : ℕ). min height (rows - n * height)) run,
      )

module _ (rows bytes L : ℕ) (f : Fitting rows bytes L) where
  abbrev pub height : ℕ
  height = height_of rows bytes L

  abbrev pub strips : ℕ
  strips = strips_of rows height

  abbrev pub own : List ℕ
  own = runs_from height rows 0 strips

  pub own_runs : runs_in own ≡ strips
  own_runs = omega (arith, runs_length height rows strips 0)

  own_first : (k : ℕ) → k < strips → first_at own k ≡ k * height
  own_first k l = rw zero-add at (runs_at height rows strips 0 k l).0

  own_count : (k : ℕ) → k < strips → count_at own k ≡ min height (rows - k * height)
  own_count k l = rw zero-add at (runs_at height rows strips 0 k l).1

  begin : (k : ℕ) → k < strips → k * height < rows
  begin = begins rows height (height_some rows bytes L f) f.bounded.some_rows

  -- every run but the last has the whole height
  own_whole : (k : ℕ) → suc k < strips → count_at own k ≡ height
  own_whole k l = omega (arith, own_count k (omega arith), begin (suc k) l, suc-mul k height)

  own_behind : (k : ℕ) → k < strips → behind own k ≡ k * height
  own_behind zero l = sym (zero-mul height)
  own_behind (suc k) l = omega (arith, own_first k (omega arith), own_whole k l, suc-mul k height)

  own_end : behind own strips ≡ rows
  own_end =
      let k : ℕ = (rows - 1) / height in
      let last : strips ≡ suc k = omega arith in
      let low : k * height < rows = begin k (omega arith) in
      let high : rows ≤ suc k * height = rw last at (reaches rows height (height_some rows bytes L f) f.bounded.some_rows) in
      ap (behind own) last ∙ omega (arith, own_first k (omega arith), own_count k (omega arith), suc-mul k height)

  own_run : (k : ℕ) → k < runs_in own → k < strips
  own_run k l = omega (arith, l, own_runs)

  pub own_plan : IsPlan rows bytes L own
  own_plan =
      record {
        nonempty = λ k l. omega (arith, own_count k (own_run k l), begin k (own_run k l), height_some rows bytes L f);
        follow = λ k l. own_first k (own_run k l) ∙ sym (own_behind k (own_run k l));
        end = ap (behind own) own_runs ∙ own_end;
        fit = λ k l. tallest_fits rows bytes L f (count_at own k) (omega (arith, own_count k (own_run k l)));
      }

  pub own_tall : Tall bytes L own
  own_tall k l =
      let whole : count_at own k ≡ height = own_whole k (own_run (suc k) l) in
      let low : height < rows = omega (arith, begin (suc k) (own_run (suc k) l), suc-mul k height) in
      ⊎_elim (λ h. h) (λ h. absurd (omega (arith, whole, low, fits_tallest rows bytes L f (suc (count_at own k)) h)))
      (lt_or_le L (suc (count_at own k) * bytes + 8))

  -- ---- the outline's numbers
  pub own_height : count_at own 0 ≡ height
  own_height = omega (arith, own_count 0 (omega arith), zero-mul height)

  pub own_wholes : (k : ℕ) → suc k < runs_in own → count_at own k ≡ height
  own_wholes k l = own_whole k (own_run (suc k) l)

  pub own_last : (k : ℕ) → suc k ≡ runs_in own → count_at own k ≡ (rows - 1) % height + 1
  own_last k e =
      let is : k ≡ (rows - 1) / height = omega (arith, e, own_runs) in
      let part : (rows - 1) / height * height ≡ k * height = ap (λ (n : ℕ). n * height) (sym is) in
      omega (arith, own_count k (omega (arith, e, own_runs)), part, div-add-mod' (rows - 1) height, mod-lt (rows - 1) {m = height} (height_some rows bytes L f), begin k (omega (arith, e, own_runs)))

-- ---- the fewest
-- n strips as tall as fit reach the last row, so n strips that are no taller than the image do
few : (n rows tall height : ℕ) → 1 ≤ rows → rows ≤ n * tall → height ≡ min rows tall → rows ≤ n * height
few zero rows tall height some low e = absurd (omega (arith, zero-mul tall))
few (suc n) rows tall height some low e =
    ⊎_elim (λ h. let whole : height ≡ rows = omega arith in omega (arith, whole, suc-mul n height)) (λ h. let same : tall ≡ height = omega arith in rw same at low)
    (lt_or_le rows tall)

module _ (rows bytes L : ℕ) (f : Fitting rows bytes L) (plan : List ℕ) (p : IsPlan rows bytes L plan) where
  run_low : (k : ℕ) → k < runs_in plan → count_at plan k ≤ tallest rows bytes L f
  run_low k l = fits_tallest rows bytes L f (count_at plan k) (p.fit k l)

  -- k runs go no further than k strips as tall as fit
  behind_low : (k : ℕ) → k ≤ runs_in plan → behind plan k ≤ k * tallest rows bytes L f
  behind_low zero l = omega arith
  behind_low (suc k) l =
      omega (arith, p.follow k (omega arith), behind_low k (omega arith), run_low k (omega arith), suc-mul k (tallest rows bytes L f))

  rows_low : rows ≤ runs_in plan * height_of rows bytes L
  rows_low =
      few (runs_in plan) rows (tallest rows bytes L f) (height_of rows bytes L) f.bounded.some_rows
      (omega (arith, p.end, behind_low (runs_in plan) (omega arith))) refl

pub own_fewest : (rows bytes L : ℕ) → Fitting rows bytes L → Fewest rows bytes L (strips_of rows (height_of rows bytes L))
own_fewest rows bytes L f plan p =
    ⊎_elim
    (λ l.
    absurd (omega (arith, rows_low rows bytes L f plan p, begins rows (height_of rows bytes L) (height_some rows bytes L f) f.bounded.some_rows (runs_in plan) l)))
    (λ l. l)
    (lt_or_le (runs_in plan) (strips_of rows (height_of rows bytes L)))
