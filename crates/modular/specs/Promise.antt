-- What a modulus and its arithmetic promise, in other words than the definitions: by cases, and by multiples of the modulus.
use Rattle.std.specs.Prelude.{◌≡◌, ℕ, ◌+◌, ◌*◌, ◌^◌, ◌<◌, ◌≤◌, Bool, true, false, Option, Some, None}
use Rattle.modular.specs.declared.Modulus.{Modulus}

-- the modulus that a raw number stands for
pub data Stands : ℕ → ℕ → Type 0 where
  full : Stands 0 (2 ^ 64)
  itself : {raw : ℕ} → 0 < raw → Stands raw raw

-- x and y differ by multiples of m
abbrev pub Congruent : ℕ → ℕ → ℕ → Type 0
Congruent m x y = (i j : ℕ) × (x + i * m ≡ y + j * m)

-- true exactly when v is below m
abbrev pub Below : Bool → ℕ → ℕ → Type 0
Below true v m = v < m
Below false v m = m ≤ v

-- the number itself where it is below m, else none
abbrev pub Within : Option ℕ → ℕ → ℕ → Type 0
Within (Some x) v m = (x ≡ v) × (v < m)
Within None v m = m ≤ v

-- the double stands for twice the modulus; none where that is above 2^64
abbrev pub Doubled : Option Modulus → ℕ → Type 0
Doubled (Some d) m = Stands d.0 (2 * m)
Doubled None m = 2 ^ 64 < 2 * m

-- a modulus of n; none for 0
abbrev pub Made : Option Modulus → ℕ → Type 0
Made (Some d) n = (d.0 ≡ n) × (0 < n)
Made None n = n ≡ 0

-- the number of a modulus that is not the full range
abbrev pub Told : Option ℕ → ℕ → Type 0
Told (Some v) m = (v ≡ m) × (m < 2 ^ 64)
Told None m = 2 ^ 64 ≤ m
