-- Numbers told by what their digits are worth, and not by how they are printed or read.
use Rattle.std.specs.Prelude.{ℕ, ◌+◌, ◌-◌, ◌*◌, ◌<◌, ◌≤◌, ◌≡◌, List, [], ◌∷◌}

-- what digits are worth behind the number so far
unfoldable pub worth : ℕ → List ℕ → ℕ
worth v [] = v
worth v (x ∷ xs) = worth (v * 10 + (x - 48)) xs

abbrev pub Digits : List ℕ → Type 0
Digits [] = Unit {0}
Digits (x ∷ xs) = ((48 ≤ x) × (x ≤ 57)) × Digits xs

-- at least one digit, and no leading zero but `0`
abbrev pub Plain : List ℕ → Type 0
Plain [] = ⊥
Plain (x ∷ []) = Unit {0}
Plain (x ∷ (y ∷ xs)) = 48 < x

pub record Numeral (xs : List ℕ) (n : ℕ) : Type 0 where
  pub digits : Digits xs
  pub plain : Plain xs
  pub is : worth 0 xs ≡ n
