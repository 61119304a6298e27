-- "Given exactly when" at the face. `G` says when a number is given, and with which values, 0 and none where nothing is refused: the
-- tables of the libraries. A flat refusal is given so only then, and always then.
use Rattle.std.specs.Prelude.{ℕ, List, [], ◌∷◌, Option, Some, None}
use Rattle.states.specs.Promise.{FailureFits}
use Rattle.flat.specs.Back.{RefusalStands}
use Rattle.flat.specs.declared.structs.Refusal.{Refusal}
use Rattle.states.specs.declared.state.Failure.{Failure}

pub record GivenAt (G : ℕ → List ℕ → Type 0) (r : Refusal) : Type 0 where
  pub only : (k : ℕ) × (vs : List ℕ) × (p : RefusalStands r k vs) × G k vs
  pub always : (k : ℕ) (vs : List ℕ) → G k vs → RefusalStands r k vs

-- ---- the table of the calls of states and failures: 12 with place 0 where an errno that is handed in does not fit, and nothing else
pub data GivenStored (Fits : Type 0) : ℕ → List ℕ → Type 0 where
  fits : Fits → GivenStored Fits 0 []
  given_12_stored : (Fits → ⊥) → GivenStored Fits 12 (0 ∷ [])

-- a failure that is not there is not tested
abbrev pub PotentialFits : Option Failure → Type 0
PotentialFits (Some f) = FailureFits f
PotentialFits None = Unit {0}
