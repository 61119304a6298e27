-- A number as a field of a line: with a space behind it, or as the last one.
use Rattle.std.specs.Prelude.{ℕ, cond, Option, List, [], ◌∷◌, eqb, drop}
use Rattle.lines.specs.declared.decimal.Number.{Number}
use Rattle.lines.specs.Decimal.{Front, some, none, number_front, number_in}

unfoldable pub space_then : ℕ → List ℕ → Front
space_then n [] = none
space_then n (x ∷ xs) = cond (eqb x 32) (some n xs) none

abbrev pub after_space : Front → Front
after_space (some n xs) = space_then n xs
after_space none = none

-- a number and a space
abbrev pub spaced_front : List ℕ → Front
spaced_front xs = after_space (number_front xs)

unfoldable pub end_then : ℕ → List ℕ → Front
end_then n [] = some n []
end_then n (x ∷ xs) = none

abbrev pub at_end : Front → Front
at_end (some n xs) = end_then n xs
at_end none = none

-- a number, and nothing behind it
abbrev pub last_front : List ℕ → Front
last_front xs = at_end (number_front xs)

-- ---- at an index of a line
abbrev pub spaced_at : List ℕ → ℕ → Option Number
spaced_at line at = number_in line (spaced_front (drop at line))

abbrev pub last_at : List ℕ → ℕ → Option Number
last_at line at = number_in line (last_front (drop at line))
