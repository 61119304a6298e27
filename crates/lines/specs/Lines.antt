-- The lines of an input; and the same told the other way round, by what they are put together again.
use Rattle.std.specs.Prelude.{ℕ, ◌<◌, ◌≡◌, cond, List, [], ◌∷◌, ◌++◌, ◌⊎◌, eqb, length}

-- a last line without its line feed counts, unless it is empty
unfoldable pub last_lines : List ℕ → List (List ℕ)
last_lines [] = []
last_lines (x ∷ line) = (x ∷ line) ∷ []

-- the line so far, and the bytes behind it
unfoldable pub lines_from : List ℕ → List ℕ → List (List ℕ)
lines_from line [] = last_lines line
lines_from line (b ∷ bs) = cond (eqb b 10) (line ∷ lines_from [] bs) (lines_from (line ++ (b ∷ [])) bs)

abbrev pub lines_of : List ℕ → List (List ℕ)
lines_of xs = lines_from [] xs

unfoldable pub joined : List (List ℕ) → List ℕ
joined [] = []
joined (p ∷ ps) = p ++ joined ps

-- ---- put together again
-- a line feed behind each line
unfoldable pub together : List (List ℕ) → List ℕ
together [] = []
together (line ∷ lines) = line ++ (10 ∷ together lines)

-- no line holds a line feed
abbrev pub Clean : List ℕ → Type 0
Clean [] = Unit {0}
Clean (x ∷ xs) = (x ≡ 10 → ⊥) × Clean xs

abbrev pub AllClean : List (List ℕ) → Type 0
AllClean [] = Unit {0}
AllClean (line ∷ lines) = Clean line × AllClean lines

-- there is a last line, and it is not empty
abbrev pub LastSome : List (List ℕ) → Type 0
LastSome [] = ⊥
LastSome (line ∷ []) = 0 < length line
LastSome (line ∷ (more ∷ lines)) = LastSome (more ∷ lines)

-- the input, or the input with the line feed that its last line lacks
pub record LinesOf (xs : List ℕ) (lines : List (List ℕ)) : Type 0 where
  pub clean : AllClean lines
  pub again : (together lines ≡ xs) ⊎ ((together lines ≡ xs ++ (10 ∷ [])) × LastSome lines)
