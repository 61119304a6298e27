-- When each number is given, and with which values; 0 where nothing is refused. docs/PAPER.md, "Strips".
use Rattle.std.specs.Prelude.{ℕ, ◌+◌, ◌*◌, ◌^◌, ◌≤◌, ◌<◌, ◌≡◌, ◌≢◌, ◌⊎◌, List, [], ◌∷◌, Result, Ok, Err}
use Rattle.sched.specs.Scheduler.{Sized}
use Rattle.planner.specs.Promise.{Bounded, Fitting, runs_in, first_at, count_at, behind, IsPlan, Fewest}
use Rattle.planner.specs.Refusal.{number_of, values_of}
use Rattle.planner.specs.declared.refusal.Refusal.{Refusal}

-- ---- what a caller is told: a number and its values
pub record Told : Type 0 where
  pub number : ℕ
  pub values : List ℕ

abbrev pub told : ℕ → List ℕ → Told
told n vs = record { number = n; values = vs }

-- `G` says when a number is given, with which values: it is given only then, and always then
pub record Exactly (G : ℕ → List ℕ → Type 0) (t : Told) : Type 0 where
  pub only : G t.number t.values
  pub always : (n : ℕ) (vs : List ℕ) → G n vs → t ≡ told n vs

abbrev pub of_planner : {A : Type 0} → Result A Refusal → Told
of_planner (Ok o) = told 0 []
of_planner (Err e) = told (number_of e) (values_of e)

module _ (rows bytes L : ℕ) where
  -- ---- the sizes: 1, 2, 14, 15, in this order
  pub data GivenSizes : ℕ → List ℕ → Type 0 where
    fit : Fitting rows bytes L → GivenSizes 0 []
    given_1 : L ≡ 0 → GivenSizes 1 []
    given_2 : 2 ^ 63 < L → GivenSizes 2 (L ∷ [])
    given_14 : Sized L → (Bounded rows bytes → ⊥) → GivenSizes 14 (rows ∷ bytes ∷ [])
    given_15 : Sized L → Bounded rows bytes → L < bytes + 8 → GivenSizes 15 (bytes ∷ L ∷ [])

  module _ (plan : List ℕ) where
    -- ---- a lent plan: 39 where it has no room for the fewest runs there are
    pub data GivenPlan : ℕ → List ℕ → Type 0 where
      before_39 : {n : ℕ} {vs : List ℕ} → 0 < n → GivenSizes n vs → GivenPlan n vs
      given_39 : (other : List ℕ) → Fitting rows bytes L → IsPlan rows bytes L other → Fewest rows bytes L (runs_in other) → runs_in plan < runs_in other → GivenPlan 39 (runs_in other ∷ runs_in plan ∷ [])
      room : (other : List ℕ) → Fitting rows bytes L → IsPlan rows bytes L other → Fewest rows bytes L (runs_in other) → runs_in other ≤ runs_in plan → GivenPlan 0 []

    -- ---- a checked plan: run k is as it should be, where those before it are; or what is wrong with it, in the order 16, 17, 18
    pub record Good (k : ℕ) : Type 0 where
      pub some : 0 < count_at plan k
      pub place : first_at plan k ≡ behind plan k
      pub within : behind plan k + count_at plan k ≤ rows
      pub fits : count_at plan k * bytes + 8 ≤ L

    pub data Fault (k : ℕ) : ℕ → Type 0 where
      fault_16 : count_at plan k ≡ 0 → Fault k 16
      fault_17 : 0 < count_at plan k → (first_at plan k ≢ behind plan k) ⊎ (rows < behind plan k + count_at plan k) → Fault k 17
      fault_18 : 0 < count_at plan k → first_at plan k ≡ behind plan k → behind plan k + count_at plan k ≤ rows → L < count_at plan k * bytes + 8 → Fault k 18

    -- the first run that is wrong, by its index; 19 where none is, with the row that is reached
    pub data GivenCheck : ℕ → List ℕ → Type 0 where
      by_sizes : {n : ℕ} {vs : List ℕ} → 0 < n → GivenSizes n vs → GivenCheck n vs
      bad_run : {n k : ℕ} → Fitting rows bytes L → k < runs_in plan → ((j : ℕ) → j < k → Good j) → Fault k n → GivenCheck n (k ∷ [])
      given_19 : Fitting rows bytes L → ((j : ℕ) → j < runs_in plan → Good j) → behind plan (runs_in plan) < rows → GivenCheck 19 (behind plan (runs_in plan) ∷ [])
      accepted : Fitting rows bytes L → IsPlan rows bytes L plan → GivenCheck 0 []
