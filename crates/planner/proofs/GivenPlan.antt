-- 39 is given exactly where the lent plan has no room for the fewest runs there are: over the definitions.
use Rattle.std.specs.Bool.{⊤}
use Rattle.std.proofs.Common.{Result, Ok, Err}
use Prim.Native.Nat.{ℕ, ◌<◌, ◌≤◌}
use mathlib.Core.Path.{◌≡◌, refl, sym, ap, subst}
use mathlib.Core.Bool.{Bool, true, false, cond}
use mathlib.Core.List.{List, [], ◌∷◌}
use lib.Dec.{ltb}
use lib.Seq.{sets}
use borrow.Author.Tests.{ltb-true, ltb-false}
use native.Mathlib.Omega.{arith}
use Rattle.planner.specs.declared.refusal.Refusal.TheVariants.{PlanTooShort}
use Rattle.planner.specs.Given.{told, Exactly, GivenSizes, GivenPlan, before_39, given_39, room, of_planner}
use Rattle.planner.specs.Plan.{Proposal, proposal, propose_in, propose_from, propose_of}
use Rattle.planner.specs.Promise.{Fitting, runs_in, IsPlan, Fewest}
use Rattle.planner.specs.Sizes.{sizes_of}
use Rattle.planner.specs.Strips.{outline_in, outline_from, outline_of}
use Rattle.planner.proofs.GivenSizes.{of_sizes, sizes_only, sizes_always, fit_only, refused_not}
use Rattle.planner.proofs.PlanLaws.{height, strips, own, own_runs, own_plan, own_fewest}
use Rattle.planner.proofs.PromisedValues.{number_some}
use Rattle.planner.proofs.SizeLaws.{Tested, tested}
use Rattle.planner.proofs.SizeLaws as size
use Rattle.planner.specs.declared.refusal.Refusal.{Refusal}

module _ (rows bytes L : ℕ) where
  -- ---- an outline is refused just where the sizes are
  same_outline : (z : Result ⊤ Refusal) → of_sizes z ≡ of_planner (outline_from rows bytes L z)
  same_outline (Ok tt) = refl
  same_outline (Err e) = refl

  pub outline_given : Exactly (GivenSizes rows bytes L) (of_planner (outline_of rows bytes L))
  outline_given =
      rw (← same_outline (sizes_of rows bytes L))
      (record {
        only = sizes_only rows bytes L (sizes_of rows bytes L) (tested rows bytes L);
        always = λ n vs g. sizes_always rows bytes L (sizes_of rows bytes L) (tested rows bytes L) g;
      })

  -- ---- a proposal
  -- two plans of the fewest runs have as many
  fewest_one : (m n : ℕ) (p q : List ℕ) → IsPlan rows bytes L p → runs_in p ≡ m → Fewest rows bytes L m → IsPlan rows bytes L q → runs_in q ≡ n → Fewest rows bytes L n → m ≡ n
  fewest_one m n p q a e f b g h = omega (arith, e, g, f q b, h p a)

  module _ (plan : List ℕ) (f : Fitting rows bytes L) where
    as_many : (other : List ℕ) → IsPlan rows bytes L other → Fewest rows bytes L (runs_in other) → runs_in other ≡ strips rows bytes L f
    as_many other p h = fewest_one (runs_in other) (strips rows bytes L f) other (own rows bytes L f) p refl h (own_plan rows bytes L f) (own_runs rows bytes L f) (own_fewest rows bytes L f)

    own_fewest_runs : Fewest rows bytes L (runs_in (own rows bytes L f))
    own_fewest_runs other p = omega (arith, own_runs rows bytes L f, own_fewest rows bytes L f other p)

    short : runs_in plan < strips rows bytes L f → Exactly (GivenPlan rows bytes L plan) (told 39 (strips rows bytes L f ∷ runs_in plan ∷ []))
    short l =
        record {
          only =
              subst (λ (m : ℕ). GivenPlan rows bytes L plan 39 (m ∷ runs_in plan ∷ [])) (own_runs rows bytes L f)
              (given_39 (own rows bytes L f) f (own_plan rows bytes L f) own_fewest_runs (omega (arith, l, own_runs rows bytes L f)));
          always = λ n vs g. so g;
        }
      where
        so : {n : ℕ} {vs : List ℕ} → GivenPlan rows bytes L plan n vs → told 39 (strips rows bytes L f ∷ runs_in plan ∷ []) ≡ told n vs
        so (before_39 p g) = absurd (omega (arith, p, fit_only rows bytes L f g))
        so (given_39 other h p w k) = ap (λ (m : ℕ). told 39 (m ∷ runs_in plan ∷ [])) (sym (as_many other p w))
        so (room other h p w k) = absurd (omega (arith, l, k, as_many other p w))

    long : strips rows bytes L f ≤ runs_in plan → Exactly (GivenPlan rows bytes L plan) (told 0 [])
    long l =
        record {
          only = room (own rows bytes L f) f (own_plan rows bytes L f) own_fewest_runs (omega (arith, l, own_runs rows bytes L f));
          always = λ n vs g. so g;
        }
      where
        so : {n : ℕ} {vs : List ℕ} → GivenPlan rows bytes L plan n vs → told 0 [] ≡ told n vs
        so (before_39 p g) = absurd (omega (arith, p, fit_only rows bytes L f g))
        so (given_39 other h p w k) = absurd (omega (arith, l, k, as_many other p w))
        so (room other h p w k) = refl

    fit_given : Exactly (GivenPlan rows bytes L plan) (of_planner (propose_in rows (outline_in rows (height rows bytes L f)) plan).answer)
    unfolding propose_in
    fit_given = by (sets plan 0 (own rows bytes L f)) (ltb (runs_in plan) (strips rows bytes L f)) refl
      where
        by :
            (after : List ℕ) (b : Bool) → ltb (runs_in plan) (strips rows bytes L f) ≡ b →
            Exactly (GivenPlan rows bytes L plan)
            (of_planner (cond {A = Proposal} b (proposal (Err (PlanTooShort (strips rows bytes L f) (runs_in plan))) plan) (proposal (Ok (strips rows bytes L f)) after)).answer)
        by after true e = short (ltb-true (runs_in plan) (strips rows bytes L f) e)
        by after false e = long (ltb-false (runs_in plan) (strips rows bytes L f) e)

  pub plan_given : (plan : List ℕ) → Exactly (GivenPlan rows bytes L plan) (of_planner (propose_of rows bytes L plan).answer)
  plan_given plan = by (sizes_of rows bytes L) (tested rows bytes L)
    where
      by : (z : Result ⊤ Refusal) → Tested rows bytes L z → Exactly (GivenPlan rows bytes L plan) (of_planner (propose_from rows plan (outline_from rows bytes L z)).answer)
      by (Ok tt) (size.fit f) = fit_given plan f
      by (Err e) t =
          record {
            only = before_39 (number_some e) (sizes_only rows bytes L (Err e) t);
            always = λ n vs g. so g;
          }
        where
          so : {n : ℕ} {vs : List ℕ} → GivenPlan rows bytes L plan n vs → of_sizes (Err e) ≡ told n vs
          so (before_39 p g) = sizes_always rows bytes L (Err e) t g
          so (given_39 other f p w k) = absurd (refused_not rows bytes L e t f)
          so (room other f p w k) = absurd (refused_not rows bytes L e t f)
