-- 16 to 19 are given exactly when specs/Given.antt says so, of the first run that is wrong: over the definitions.
use Rattle.std.specs.Bool.{⊤}
use Rattle.std.proofs.Common.{Result, Ok, Err}
use Prim.Native.Nat.{ℕ, zero, suc, ◌+◌, ◌-◌, ◌<◌, ◌≤◌}
use mathlib.Core.Path.{◌≡◌, refl, ap, ◌∙◌}
use mathlib.Core.List.{List, [], ◌∷◌}
use mathlib.Core.Logic.{⊎_elim}
use native.Mathlib.Nat.{zero-add}
use native.Mathlib.Omega.{arith}
use Rattle.modular.proofs.Laws.{lt_or_le}
use Rattle.planner.specs.Check.{check_in, checked_from, check_of}
use Rattle.planner.specs.Given.{told, Exactly, Good, Fault, fault_16, fault_17, fault_18, GivenCheck, by_sizes, bad_run, given_19, accepted, of_planner}
use Rattle.planner.specs.Promise.{Fitting, runs_in, behind, IsPlan}
use Rattle.planner.specs.Refusal.{number_of}
use Rattle.planner.specs.Sizes.{sizes_of}
use Rattle.planner.proofs.CheckLaws.{AllGood, Walked, ends, stops, faults, walked}
use Rattle.planner.proofs.GivenSizes.{of_sizes, sizes_only, sizes_always, fit_only, refused_not}
use Rattle.planner.proofs.PromisedValues.{number_some}
use Rattle.planner.proofs.SizeLaws.{Tested, tested}
use Rattle.planner.proofs.SizeLaws as size
use Rattle.planner.specs.declared.refusal.Refusal.{Refusal}

module _ (rows bytes L : ℕ) (plan : List ℕ) where
  -- ---- a run is good, or one of the three is wrong with it
  good_not : {k n : ℕ} → Good rows bytes L plan k → Fault rows bytes L plan k n → ⊥
  good_not g (fault_16 e) = omega (arith, g.some, e)
  good_not g (fault_17 s w) = ⊎_elim (λ h. h g.place) (λ h. omega (arith, g.within, h)) w
  good_not g (fault_18 s p w l) = omega (arith, g.fits, l)

  fault_one : {k m n : ℕ} → Fault rows bytes L plan k m → Fault rows bytes L plan k n → m ≡ n
  fault_one (fault_16 e) (fault_16 f) = refl
  fault_one (fault_16 e) (fault_17 s w) = absurd (omega (arith, e, s))
  fault_one (fault_16 e) (fault_18 s p w l) = absurd (omega (arith, e, s))
  fault_one (fault_17 s w) (fault_16 f) = absurd (omega (arith, f, s))
  fault_one (fault_17 s w) (fault_17 t v) = refl
  fault_one (fault_17 s w) (fault_18 t p v l) = absurd (⊎_elim (λ h. h p) (λ h. omega (arith, v, h)) w)
  fault_one (fault_18 t p v l) (fault_16 f) = absurd (omega (arith, f, t))
  fault_one (fault_18 t p v l) (fault_17 s w) = absurd (⊎_elim (λ h. h p) (λ h. omega (arith, v, h)) w)
  fault_one (fault_18 t p v l) (fault_18 s q w m) = refl

  -- ---- a plan is one whose runs are all good and reach the last row
  pub good_plan : ((j : ℕ) → j < runs_in plan → Good rows bytes L plan j) → behind plan (runs_in plan) ≡ rows → IsPlan rows bytes L plan
  good_plan a e =
      record { nonempty = λ k l. (a k l).some; follow = λ k l. (a k l).place; end = e; fit = λ k l. (a k l).fits }

  -- no run goes back
  onward : (p : IsPlan rows bytes L plan) (d k : ℕ) → k + d ≤ runs_in plan → behind plan k ≤ behind plan (k + d)
  onward p zero k l = let e : k + zero ≡ k = omega arith in rw e (omega arith)
  onward p (suc d) k l =
      let e : k + suc d ≡ suc (k + d) = omega arith in
      rw e (omega (arith, onward p d k (omega arith), p.follow (k + d) (omega arith)))

  pub plan_good : IsPlan rows bytes L plan → (k : ℕ) → k < runs_in plan → Good rows bytes L plan k
  plan_good p k l =
      let e : suc k + (runs_in plan - suc k) ≡ runs_in plan = omega arith in
      let low : behind plan (suc k) ≤ behind plan (runs_in plan) = rw e at (onward p (runs_in plan - suc k) (suc k) (omega arith)) in
      record { some = p.nonempty k l; place = p.follow k l; within = omega (arith, low, p.end, p.follow k l); fits = p.fit k l }

  -- ---- the verdict on a plan of sizes that fit
  module _ (f : Fitting rows bytes L) where
    abbrev Given : ℕ → List ℕ → Type 0
    Given = GivenCheck rows bytes L plan

    abbrev Before : ℕ → Type 0
    Before k = (j : ℕ) → j < k → Good rows bytes L plan j

    all_good : Before (runs_in plan) → behind plan (runs_in plan) ≡ rows → Exactly Given (told 0 [])
    all_good a e = record { only = accepted f (good_plan a e); always = λ n vs g. so g }
      where
        so : {n : ℕ} {vs : List ℕ} → Given n vs → told 0 [] ≡ told n vs
        so (by_sizes p g) = absurd (omega (arith, p, fit_only rows bytes L f g))
        so (bad_run {k} h l b w) = absurd (good_not (a k l) w)
        so (given_19 h b l) = absurd (omega (arith, e, l))
        so (accepted h p) = refl

    rows_left : Before (runs_in plan) → behind plan (runs_in plan) < rows → Exactly Given (told 19 (behind plan (runs_in plan) ∷ []))
    rows_left a l = record { only = given_19 f a l; always = λ n vs g. so g }
      where
        so : {n : ℕ} {vs : List ℕ} → Given n vs → told 19 (behind plan (runs_in plan) ∷ []) ≡ told n vs
        so (by_sizes p g) = absurd (omega (arith, p, fit_only rows bytes L f g))
        so (bad_run {k} h m b w) = absurd (good_not (a k m) w)
        so (given_19 h b m) = refl
        so (accepted h p) = absurd (omega (arith, l, p.end))

    one_bad : (i m : ℕ) → i < runs_in plan → Before i → Fault rows bytes L plan i m → Exactly Given (told m (i ∷ []))
    one_bad i m l a w = record { only = bad_run f l a w; always = λ n vs g. so g }
      where
        same : (k n : ℕ) → Before k → Fault rows bytes L plan k n → told m (i ∷ []) ≡ told n (k ∷ [])
        same k n b v =
            ⊎_elim (λ h. absurd (good_not (b i h) w))
            (λ h.
            ⊎_elim (λ g. absurd (good_not (a k g) v)) (λ g.
            let e : i ≡ k = omega arith in
            let f : m ≡ n = fault_one (rw e at w) v in
            ap (λ (x : ℕ). told m (x ∷ [])) e ∙ ap (λ (x : ℕ). told x (k ∷ [])) f) (lt_or_le k i))
            (lt_or_le i k)

        so : {n : ℕ} {vs : List ℕ} → Given n vs → told m (i ∷ []) ≡ told n vs
        so (by_sizes p g) = absurd (omega (arith, p, fit_only rows bytes L f g))
        so (bad_run {n} {k} h j b v) = same k n b v
        so (given_19 h b j) = absurd (good_not (b i l) w)
        so (accepted h p) = absurd (good_not (plan_good p i l) w)

    from : {k : ℕ} → AllGood rows bytes L plan 0 k → Before k
    from a j l = a j (omega arith) l

    walked_given : (z : Result ⊤ Refusal) → Walked rows bytes L plan 0 (runs_in plan) z → Exactly Given (of_planner z)
    walked_given z w = by z (0 + runs_in plan) (zero-add (runs_in plan)) w
      where
        by : (z : Result ⊤ Refusal) (n : ℕ) → 0 + runs_in plan ≡ runs_in plan → Walked rows bytes L plan 0 (runs_in plan) z → Exactly Given (of_planner z)
        by z n e (ends a p) = all_good (from (rw e at a)) (rw e at p)
        by z n e (stops a p) = rw e (rows_left (from (rw e at a)) (rw e at p))
        by z n e (faults i l h a r v w) = rw w (one_bad i (number_of r) (omega (arith, h, e)) (from a) v)

  pub check_given : Exactly (GivenCheck rows bytes L plan) (of_planner (check_of rows bytes L plan))
  check_given = by (sizes_of rows bytes L) (tested rows bytes L)
    where
      by : (z : Result ⊤ Refusal) → Tested rows bytes L z → Exactly (GivenCheck rows bytes L plan) (of_planner (checked_from rows bytes L plan z))
      by (Ok tt) (size.fit f) = walked_given f (check_in rows bytes L plan) (walked rows bytes L plan (runs_in plan) 0 0 refl (omega arith))
      by (Err e) t =
          record {
            only = by_sizes (number_some e) (sizes_only rows bytes L (Err e) t);
            always = λ n vs g. so g;
          }
        where
          so : {n : ℕ} {vs : List ℕ} → GivenCheck rows bytes L plan n vs → of_sizes (Err e) ≡ told n vs
          so (by_sizes p g) = sizes_always rows bytes L (Err e) t g
          so (bad_run f l a w) = absurd (refused_not rows bytes L e t f)
          so (given_19 f a l) = absurd (refused_not rows bytes L e t f)
          so (accepted f p) = absurd (refused_not rows bytes L e t f)
