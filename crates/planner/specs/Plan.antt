-- The plan that is proposed.
use Rattle.std.specs.Prelude.{ℕ, zero, suc, ◌-◌, ◌*◌, ◌≤◌, ◌<◌, min, cond, List, [], ◌∷◌, ltb, length, Result, Ok, Err}
use Rattle.std.proofs.lemmas.List.Edits.{sets}
use Rattle.planner.specs.declared.strips.Strips.{Strips}
use Rattle.planner.specs.declared.refusal.Refusal.TheVariants.{PlanTooShort}
use Rattle.planner.specs.Promise.{runs_in}
use Rattle.planner.specs.Strips.{outline_of}
use Rattle.planner.specs.declared.refusal.Refusal.{Refusal}

-- the runs from run k on, m of them: each has `height` rows, or all that are left
unfoldable pub runs_from : ℕ → ℕ → ℕ → ℕ → List ℕ
runs_from height rows k zero = []
runs_from height rows k (suc m) = k * height ∷ min height (rows - k * height) ∷ runs_from height rows (suc k) m

-- the answer, and what the plan then holds
pub record Proposal : Type 0 where
  pub answer : Result ℕ Refusal
  pub plan : List ℕ

abbrev pub proposal : Result ℕ Refusal → List ℕ → Proposal
proposal r plan = record { answer = r; plan = plan }

-- the runs at the front, or 39
unfoldable pub propose_in : ℕ → Strips → List ℕ → Proposal
propose_in rows o plan =
    cond (ltb (runs_in plan) o.count) (proposal (Err (PlanTooShort o.count (runs_in plan))) plan)
    (proposal (Ok o.count) (sets plan 0 (runs_from o.height rows 0 o.count)))

abbrev pub propose_from : ℕ → List ℕ → Result Strips Refusal → Proposal
propose_from rows plan (Ok o) = propose_in rows o plan
propose_from rows plan (Err e) = proposal (Err e) plan

abbrev pub propose_of : ℕ → ℕ → ℕ → List ℕ → Proposal
propose_of rows bytes L plan = propose_from rows plan (outline_of rows bytes L)

-- room for so many runs, each of which begins before the last row ends
pub record RoomFor (rows height count : ℕ) (plan : List ℕ) : Type 0 where
  pub most : rows ≤ 65535
  pub tall : height ≤ rows
  pub room : 2 * count ≤ length plan
  pub begins : (k : ℕ) → k < count → k * height < rows
