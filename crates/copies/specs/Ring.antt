-- Bytes in a ring of l places, at places that go on mod l.
use Rattle.std.specs.Prelude.{ℕ, zero, suc, ◌%◌, List, [], ◌∷◌, get_or, set}

-- the ring after these bytes were put at the place `at` and on
abbrev pub put : ℕ → List ℕ → ℕ → List ℕ → List ℕ
put l ring at [] = ring
put l ring at (b ∷ bs) = put l (set ring (at % l) b) (suc at) bs

-- the n bytes from the place `at` on
abbrev pub get : ℕ → List ℕ → ℕ → ℕ → List ℕ
get l ring at zero = []
get l ring at (suc n) = get_or ring (at % l) 0 ∷ get l ring (suc at) n
