-- One turn of each loop, and its end: n runs, of which k are behind it.
use Rattle.std.specs.Bool.{⊤}
use Rattle.std.proofs.Common.{Result, Ok, Err}
use Prim.Native.Nat.{ℕ, zero, suc, ◌+◌, ◌-◌, ◌*◌, ◌≤◌, ◌<◌, min}
use mathlib.Core.Path.{◌≡◌, refl, ap, ◌∙◌}
use mathlib.Core.Bool.{Bool, true, false, cond}
use mathlib.Core.List.{List, ◌∷◌}
use lib.Dec.{eqb}
use lib.ListN.{set}
use lib.Seq.{sets}
use borrow.Author.Tests.{lt-ltb, le-ltb, ltb-true, ltb-false}
use native.Mathlib.Numerals.{add-one}
use native.Mathlib.Omega.{arith}
use Rattle.sched.specs.Chunk.{body_fits}
use Rattle.planner.specs.declared.refusal.Refusal.{Refusal}
use Rattle.planner.specs.declared.refusal.Refusal.TheVariants.{EmptyRun, RunOutOfPlace, RunTooLong, RowsLeft}
use Rattle.planner.specs.Check.{past_end, run_of, check_from}
use Rattle.planner.specs.Plan.{runs_from}
use Rattle.planner.specs.Promise.{first_at, count_at}

less : (k n : ℕ) → k < n → n - k ≡ suc (n - (k + 1))
less k n l = omega arith

-- ---- the runs that are put
module _ (height rows : ℕ) where
  put_two : (plan rest : List ℕ) (i at n : ℕ) → sets (set (set plan i at) (i + 1) n) (i + 2) rest ≡ sets plan i (at ∷ n ∷ rest)
  put_two plan rest i at n =
      let one : i + 1 ≡ suc i = omega arith in
      let two : i + 2 ≡ suc (suc i) = omega arith in
      ap (λ (j : ℕ). sets (set (set plan i at) j n) (i + 2) rest) one ∙ ap (λ (j : ℕ). sets (set (set plan i at) (suc i) n) j rest) two

  put_next : (k n at m : ℕ) → k < n → at ≡ k * height → m ≡ min height (rows - at) → at ∷ m ∷ runs_from height rows (k + 1) (n - (k + 1)) ≡ runs_from height rows k (n - k)
  unfolding runs_from
  put_next k n at m l e f = rw (less k n l, f, e, add-one k)

  pub put_run :
      (plan : List ℕ) (k n at m : ℕ) → k < n → at ≡ k * height → m ≡ min height (rows - at) →
      sets (set (set plan (2 * k) at) (2 * k + 1) m) (2 * (k + 1)) (runs_from height rows (k + 1) (n - (k + 1))) ≡ sets plan (2 * k) (runs_from height rows k (n - k))
  put_run plan k n at m l e f =
      let rest : List ℕ = runs_from height rows (k + 1) (n - (k + 1)) in
      let next : 2 * (k + 1) ≡ 2 * k + 2 = omega arith in
      ap (λ (j : ℕ). sets (set (set plan (2 * k) at) (2 * k + 1) m) j rest) next
      ∙ put_two plan rest (2 * k) at m
      ∙ ap (λ (runs : List ℕ). sets plan (2 * k) runs) (put_next k n at m l e f)

  pub put_end : (plan : List ℕ) (k n : ℕ) → n ≤ k → plan ≡ sets plan (2 * k) (runs_from height rows k (n - k))
  unfolding runs_from
  put_end plan k n l = let none : n - k ≡ zero = omega arith in rw none

-- ---- the runs that are checked
module _ (rows bytes L : ℕ) (plan : List ℕ) (at k n : ℕ) where
  abbrev run : Result ⊤ Refusal
  run = run_of rows bytes L at k (first_at plan k) (count_at plan k)

  pub check_good : k < n → Ok tt ≡ run → check_from rows bytes L plan (at + count_at plan k) (k + 1) (n - (k + 1)) ≡ check_from rows bytes L plan at k (n - k)
  unfolding check_from
  check_good l e = rw (less k n l, ← e, add-one k)

  pub check_bad : (e : Refusal) → k < n → Err e ≡ run → Err e ≡ check_from rows bytes L plan at k (n - k)
  unfolding check_from
  check_bad r l e = rw (less k n l, ← e)

  pub check_left : n ≤ k → at < rows → Err (RowsLeft at) ≡ check_from rows bytes L plan at k (n - k)
  unfolding check_from
  check_left l h = let none : n - k ≡ zero = omega arith in rw (none, lt-ltb at rows h)

  pub check_end : n ≤ k → rows ≤ at → Ok tt ≡ check_from rows bytes L plan at k (n - k)
  unfolding check_from
  check_end l h = let none : n - k ≡ zero = omega arith in rw (none, le-ltb at rows h)

-- ---- a run's end, as the check looks at it
module _ (rows row count : ℕ) (l : row ≤ rows) where
  pub past : past_end rows row count ≡ true → rows < row + count
  unfolding past_end
  past e = omega (arith, ltb-true)

  pub not_past : past_end rows row count ≡ false → row + count ≤ rows
  unfolding past_end
  not_past e = omega (arith, ltb-false)

-- a run that is accepted ends within the rows
pub run_within : (rows bytes L at k first count : ℕ) → at ≤ rows → Ok tt ≡ run_of rows bytes L at k first count → at + count ≤ rows
unfolding run_of
run_within rows bytes L at k first count l e = by (eqb count 0) (eqb first at) (past_end rows at count) refl (body_fits L (count * bytes)) e
  where
    by :
        (a b c : Bool) → past_end rows at count ≡ c → (d : Bool) →
        ◌≡◌ {A = Result ⊤ Refusal} (Ok tt) (cond a (Err (EmptyRun k)) (cond b (cond c (Err (RunOutOfPlace k)) (cond d (Ok tt) (Err (RunTooLong k)))) (Err (RunOutOfPlace k)))) →
        at + count ≤ rows
    by a b false p d q = not_past rows at count l p
    by true b true p d q = let z : ◌≡◌ {A = ℕ} 0 1 = cc in absurd (omega arith)
    by false true true p d q = let z : ◌≡◌ {A = ℕ} 0 1 = cc in absurd (omega arith)
    by false false true p d q = let z : ◌≡◌ {A = ℕ} 0 1 = cc in absurd (omega arith)
