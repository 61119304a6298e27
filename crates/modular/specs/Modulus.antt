-- Arithmetic modulo m over whole numbers, and what the calls of `Modulus` answer. A modulus of k bits is a whole number
-- from 1 to 2^k; 2^k, the full range, is stored as 0.
use Rattle.std.specs.Prelude.{ℕ, ◌+◌, ◌-◌, ◌*◌, ◌%◌, ◌^◌, Bool, cond, ◌==◌, nat_le, nat_lt, Option, Some, None}
use Rattle.modular.specs.declared.Modulus.{Modulus}

-- the whole number that a raw number of k bits stands for
unfoldable pub whole_at : ℕ → ℕ → ℕ
whole_at k raw = cond (raw == 0) (2 ^ k) raw

abbrev pub whole_of : Modulus → ℕ
whole_of m = whole_at 64 m.0

-- the raw number of k bits that stands for a whole modulus
unfoldable pub raw_at : ℕ → ℕ → ℕ
raw_at k whole = whole % 2 ^ k

abbrev pub full_range : Modulus
full_range = record { 0 = 0 }

-- a zero modulus is none
unfoldable pub try_new_of : ℕ → Option Modulus
try_new_of n = cond (n == 0) None (Some (record { 0 = n }))

abbrev pub is_full_range_of : Modulus → Bool
is_full_range_of m = whole_of m == 2 ^ 64

-- the full range has no number of 64 bits
unfoldable pub modulus_of : Modulus → Option ℕ
modulus_of m = cond (nat_lt (whole_of m) (2 ^ 64)) (Some (whole_of m)) None

-- twice the modulus, where that is at most the full range of k bits
unfoldable pub double_at : ℕ → Modulus → Option Modulus
double_at k m =
    cond (nat_le (2 * whole_at k m.0) (2 ^ k)) (Some (record { 0 = raw_at k (2 * whole_at k m.0) })) None

-- a number is contained when it is below the modulus
abbrev pub contains_of : Modulus → ℕ → Bool
contains_of m v = nat_lt v (whole_of m)

unfoldable pub try_new_number_of : Modulus → ℕ → Option ℕ
try_new_number_of m v = cond (contains_of m v) (Some v) None

-- the negation, the difference and the sum modulo m, of numbers that are reduced first
unfoldable pub neg_mod : ℕ → ℕ → ℕ
neg_mod m a = (m - a % m) % m

unfoldable pub sub_mod : ℕ → ℕ → ℕ → ℕ
sub_mod m a b = (a % m + (m - b % m)) % m

unfoldable pub add_mod : ℕ → ℕ → ℕ → ℕ
add_mod m a b = (a % m + b % m) % m
