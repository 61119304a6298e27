-- The ways that the check goes: every run is good and the last row is reached or not, or one run is the first that is not good.
use Rattle.std.specs.Bool.{⊤}
use Rattle.std.proofs.Common.{Result, Ok, Err}
use Prim.Native.Nat.{ℕ, zero, suc, ◌+◌, ◌*◌, ◌≤◌, ◌<◌}
use mathlib.Core.Path.{◌≡◌, refl, sym, ap, ◌∙◌}
use mathlib.Core.Bool.{Bool, true, false, cond}
use mathlib.Core.List.{List, [], ◌∷◌}
use mathlib.Core.Logic.{⊎_elim, inl, inr}
use lib.Dec.{eqb, ltb}
use borrow.Author.Tests.{eqb-true, eqb-false, ltb-true, ltb-false}
use native.Mathlib.Nat.{add-zero}
use native.Mathlib.Omega.{arith}
use Rattle.modular.proofs.Laws.{lt_or_le}
use Rattle.sched.specs.Chunk.{body_fits}
use Rattle.sched.proofs.ChunkLaws.{fits_by, fits_not_by}
use Rattle.planner.specs.declared.refusal.Refusal.{Refusal}
use Rattle.planner.specs.declared.refusal.Refusal.TheVariants.{EmptyRun, RunOutOfPlace, RunTooLong, RowsLeft}
use Rattle.planner.specs.Check.{past_end, run_of, or_else, check_from}
use Rattle.planner.specs.Given.{Good, Fault, fault_16, fault_17, fault_18}
use Rattle.planner.specs.Promise.{first_at, count_at, behind}
use Rattle.planner.specs.Refusal.{number_of, values_of}
use Rattle.planner.proofs.LoopLaws.{past, not_past}

module _ (rows bytes L : ℕ) (plan : List ℕ) where
  -- ---- one run
  data Ran (k : ℕ) : Result ⊤ Refusal → Type 0 where
    good : Good rows bytes L plan k → Ran k (Ok tt)
    bad : (e : Refusal) → Fault rows bytes L plan k (number_of e) → values_of e ≡ k ∷ [] → Ran k (Err e)

  ran : (k at : ℕ) → at ≡ behind plan k → at ≤ rows → Ran k (run_of rows bytes L at k (first_at plan k) (count_at plan k))
  unfolding run_of
  ran k at e l =
      by (eqb (count_at plan k) 0) refl (eqb (first_at plan k) at) refl (past_end rows at (count_at plan k)) refl (body_fits L (count_at plan k * bytes)) refl
    where
      by :
          (a : Bool) → eqb (count_at plan k) 0 ≡ a → (b : Bool) → eqb (first_at plan k) at ≡ b → (c : Bool) → past_end rows at (count_at plan k) ≡ c →
          (d : Bool) → body_fits L (count_at plan k * bytes) ≡ d →
          Ran k
          (cond a (Err (EmptyRun k))
          (cond b (cond c (Err (RunOutOfPlace k)) (cond d (Ok tt) (Err (RunTooLong k)))) (Err (RunOutOfPlace k))))
      by true p b q c r d s = bad (EmptyRun k) (fault_16 (eqb-true (count_at plan k) 0 p)) refl
      by false p false q c r d s = bad (RunOutOfPlace k) (fault_17 (omega (arith, eqb-false (count_at plan k) 0 p)) (inl (λ z. eqb-false (first_at plan k) at q (z ∙ sym e)))) refl
      by false p true q true r d s = bad (RunOutOfPlace k) (fault_17 (omega (arith, eqb-false (count_at plan k) 0 p)) (inr (omega (arith, e, past rows at (count_at plan k) l r)))) refl
      by false p true q false r false s =
          bad (RunTooLong k)
          (fault_18 (omega (arith, eqb-false (count_at plan k) 0 p)) (eqb-true (first_at plan k) at q ∙ e) (omega (arith, e, not_past rows at (count_at plan k) l r)) (fits_not_by L (count_at plan k * bytes) s))
          refl
      by false p true q false r true s =
          good
          (record {
            some = omega (arith, eqb-false (count_at plan k) 0 p);
            place = eqb-true (first_at plan k) at q ∙ e;
            within = omega (arith, e, not_past rows at (count_at plan k) l r);
            fits = fits_by L (count_at plan k * bytes) s;
          })

  -- ---- m runs from run k on
  abbrev pub AllGood : ℕ → ℕ → Type 0
  AllGood k n = (j : ℕ) → k ≤ j → j < n → Good rows bytes L plan j

  pub data Walked (k m : ℕ) : Result ⊤ Refusal → Type 0 where
    ends : AllGood k (k + m) → behind plan (k + m) ≡ rows → Walked k m (Ok tt)
    stops : AllGood k (k + m) → behind plan (k + m) < rows → Walked k m (Err (RowsLeft (behind plan (k + m))))
    faults : (i : ℕ) → k ≤ i → i < k + m → AllGood k i → (e : Refusal) → Fault rows bytes L plan i (number_of e) → values_of e ≡ i ∷ [] → Walked k m (Err e)

  -- one more in front
  also : (k n : ℕ) → Good rows bytes L plan k → AllGood (suc k) n → AllGood k n
  also k n g a j l h = ⊎_elim (λ p. a j p h) (λ p. let e : k ≡ j = omega arith in rw e at g) (lt_or_le k j)

  onwards : (k m : ℕ) (z : Result ⊤ Refusal) → Good rows bytes L plan k → Walked (suc k) m z → Walked k (suc m) z
  onwards k m z g w =
      let e : suc k + m ≡ k + suc m = omega arith in
      go z w e
    where
      go : (z : Result ⊤ Refusal) → Walked (suc k) m z → suc k + m ≡ k + suc m → Walked k (suc m) z
      go z (ends a p) e = ends (also k (k + suc m) g (rw e at a)) (rw e at p)
      go z (stops a p) e = rw e (stops (also k (k + suc m) g (rw e at a)) (rw e at p))
      go z (faults i l h a r f v) e = faults i (omega arith) (omega arith) (also k i g a) r f v

  pub walked : (m k at : ℕ) → at ≡ behind plan k → at ≤ rows → Walked k m (check_from rows bytes L plan at k m)
  unfolding check_from
  walked zero k at e l = by (ltb at rows) refl
    where
      here : behind plan (k + 0) ≡ at
      here = ap (behind plan) (add-zero k) ∙ sym e

      by : (b : Bool) → ltb at rows ≡ b → Walked k zero (cond b (Err (RowsLeft at)) (Ok tt))
      by true p = rw (← here) (stops (λ j g h. absurd (omega arith)) (omega (arith, here, ltb-true at rows p)))
      by false p = ends (λ j g h. absurd (omega arith)) (omega (arith, here, ltb-false at rows p))
  walked (suc m) k at e l = by (run_of rows bytes L at k (first_at plan k) (count_at plan k)) (ran k at e l) (walked m (suc k) (at + count_at plan k))
    where
      by :
          (z : Result ⊤ Refusal) → Ran k z →
          (at + count_at plan k ≡ behind plan (suc k) → at + count_at plan k ≤ rows → Walked (suc k) m (check_from rows bytes L plan (at + count_at plan k) (suc k) m)) →
          Walked k (suc m) (or_else z (check_from rows bytes L plan (at + count_at plan k) (suc k) m))
      by z (good g) rest = onwards k m _ g (rest (omega (arith, g.place)) (omega (arith, g.within)))
      by z (bad r f v) rest = faults k (omega arith) (omega arith) (λ j p q. absurd (omega arith)) r f v
