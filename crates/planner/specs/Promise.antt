-- What a plan is, in one sentence, and what is promised of the calls. This file cites nothing of how they work: the code's definitions cite it,
-- for how a plan's numbers are read and which sizes are in bounds.
use Rattle.std.specs.Prelude.{ℕ, zero, suc, ◌+◌, ◌*◌, ◌/◌, ◌^◌, ◌≤◌, ◌<◌, ◌≡◌, List, length, get_or, take, drop, Result, Ok, Err}
use Rattle.sched.specs.Scheduler.{Sized}
use Rattle.planner.specs.declared.refusal.Refusal.{Refusal}
use Rattle.planner.specs.declared.strips.Strips.{Strips}

-- ---- the sizes that are not refused: 1 to 65535 rows, 1 to 2^20 bytes a row, and one row goes into the ring with its header
pub record Bounded (rows bytes : ℕ) : Type 0 where
  pub some_rows : 1 ≤ rows
  pub most_rows : rows ≤ 65535
  pub some_bytes : 1 ≤ bytes
  pub most_bytes : bytes ≤ 2 ^ 20

pub record Fitting (rows bytes L : ℕ) : Type 0 where
  pub sized : Sized L
  pub bounded : Bounded rows bytes
  pub row : bytes + 8 ≤ L

-- ---- a plan: numbers, two to a run, its first row and how many rows it has; one that is left over at the end is no run
abbrev pub runs_in : List ℕ → ℕ
runs_in plan = length plan / 2

abbrev pub first_at : List ℕ → ℕ → ℕ
first_at plan k = get_or plan (2 * k) 0

abbrev pub count_at : List ℕ → ℕ → ℕ
count_at plan k = get_or plan (2 * k + 1) 0

-- the row behind the first k runs: row 0, or the end of the last of them
abbrev pub behind : List ℕ → ℕ → ℕ
behind plan zero = 0
behind plan (suc k) = first_at plan k + count_at plan k

-- The runs are nonempty, start at row 0, follow one another, end at the last row, and each takes at most L bytes with its 8-byte header.
pub record IsPlan (rows bytes L : ℕ) (plan : List ℕ) : Type 0 where
  pub nonempty : (k : ℕ) → k < runs_in plan → 0 < count_at plan k
  pub follow : (k : ℕ) → k < runs_in plan → first_at plan k ≡ behind plan k
  pub end : behind plan (runs_in plan) ≡ rows
  pub fit : (k : ℕ) → k < runs_in plan → count_at plan k * bytes + 8 ≤ L

-- every run but the last is as tall as fits: one row more would not
abbrev pub Tall : ℕ → ℕ → List ℕ → Type 0
Tall bytes L plan = (k : ℕ) → suc k < runs_in plan → L < suc (count_at plan k) * bytes + 8

-- no plan has fewer runs
abbrev pub Fewest : ℕ → ℕ → ℕ → ℕ → Type 0
Fewest rows bytes L n = (other : List ℕ) → IsPlan rows bytes L other → n ≤ runs_in other

-- no plan exists at all
abbrev pub NoPlanExists : ℕ → ℕ → ℕ → Type 0
NoPlanExists rows bytes L = (plan : List ℕ) → IsPlan rows bytes L plan → ⊥

module _ (rows bytes L : ℕ) where
  -- ---- a proposal is refused, and leaves the lent plan as it was. Or its runs stand at the front, and the rest stays.
  pub data Proposes (plan : List ℕ) : Result ℕ Refusal → List ℕ → Type 0 where
    refuses : (e : Refusal) → Proposes plan (Err e) plan
    runs : (n : ℕ) (after : List ℕ) →
        IsPlan rows bytes L (take (2 * n) after) → runs_in (take (2 * n) after) ≡ n →
        Tall bytes L (take (2 * n) after) → Fewest rows bytes L n →
        length after ≡ length plan → drop (2 * n) after ≡ drop (2 * n) plan →
        Proposes plan (Ok n) after

  -- ---- an outline tells of a plan: how many runs it has, and the rows of each
  pub data Outlines : Result Strips Refusal → Type 0 where
    refuses : (e : Refusal) → Outlines (Err e)
    tells : (plan : List ℕ) (o : Strips) →
        IsPlan rows bytes L plan → Tall bytes L plan → Fewest rows bytes L (runs_in plan) →
        o.count ≡ runs_in plan → o.height ≡ count_at plan 0 →
        ((k : ℕ) → suc k < runs_in plan → count_at plan k ≡ o.height) →
        ((k : ℕ) → suc k ≡ runs_in plan → count_at plan k ≡ o.last) →
        Outlines (Ok o)
