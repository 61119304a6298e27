-- A number's decimal form, as bytes: the fewest digits, so `0` alone begins with 0. And the number that bytes begin with.
use Rattle.std.specs.Prelude.{ℕ, zero, suc, ◌+◌, ◌-◌, ◌*◌, ◌/◌, ◌%◌, ◌^◌, Bool, false, cond, Option, Some, None, List, [], ◌∷◌, ◌++◌, ltb, leb, eqb, length, drop}
use Rattle.lines.specs.declared.decimal.Number.{Number}

-- of a number below 10^k
unfoldable pub digits_by : ℕ → ℕ → List ℕ
digits_by zero n = []
digits_by (suc k) n = cond (ltb n 10) ((48 + n) ∷ []) (digits_by k (n / 10) ++ ((48 + n % 10) ∷ []))

-- 20 digits hold every number below 2^64
unfoldable pub decimal : ℕ → List ℕ
decimal n = digits_by 20 n

-- a number, and the bytes behind it
pub data Front : Type 0 where
  some : ℕ → List ℕ → Front
  none : Front

unfoldable pub is_digit : ℕ → Bool
is_digit x = cond (leb 48 x) (leb x 57) false

-- the number so far, and behind it the digits that the bytes begin with; none from 2^64 on
unfoldable pub digits_on : ℕ → List ℕ → Front
digits_on v [] = some v []
digits_on v (x ∷ xs) =
    cond (is_digit x) (cond (ltb (v * 10 + (x - 48)) (2 ^ 64)) (digits_on (v * 10 + (x - 48)) xs) none) (some v (x ∷ xs))

-- a number that begins with 0 is 0
unfoldable pub number_front : List ℕ → Front
number_front [] = none
number_front (x ∷ xs) = cond (eqb x 48) (some 0 xs) (cond (is_digit x) (digits_on (x - 48) xs) none)

-- ---- at an index of a line
abbrev pub number : ℕ → ℕ → Number
number n next = record { n = n; next = next }

-- a number and the index behind it, as the bytes from there on; and back
abbrev pub front_in : Option Number → List ℕ → Front
front_in (Some r) line = some r.n (drop r.next line)
front_in None line = none

abbrev pub number_in : List ℕ → Front → Option Number
number_in line (some n rest) = Some (number n (length line - length rest))
number_in line none = None

abbrev pub number_at : List ℕ → ℕ → Option Number
number_at line at = number_in line (number_front (drop at line))
