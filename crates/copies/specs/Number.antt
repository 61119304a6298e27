-- Numbers in bytes, most significant first.
use Rattle.std.specs.Prelude.{ℕ, ◌+◌, ◌*◌, cond, List, [], ◌∷◌, ltb, length}
use Rattle.copies.specs.Ring.{get}

-- the number so far, and behind it these bytes
unfoldable pub number_from : ℕ → List ℕ → ℕ
number_from n [] = n
number_from n (b ∷ bs) = number_from (n * 256 + b) bs

-- eight bytes from a place on, round the memory; 0 for a place outside
unfoldable pub big_endian_of : List ℕ → ℕ → ℕ
big_endian_of bytes at = cond (ltb at (length bytes)) (number_from 0 (get (length bytes) bytes at 8)) 0
