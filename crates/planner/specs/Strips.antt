-- A plan in three numbers.
use Rattle.std.specs.Prelude.{ℕ, ◌+◌, ◌-◌, ◌/◌, ◌%◌, ◌≤◌, min, ◌≡◌, Result, Ok, Err, ⊤}
use Rattle.planner.specs.declared.strips.Strips.{Strips}
use Rattle.planner.specs.Sizes.{sizes_of}
use Rattle.planner.specs.declared.refusal.Refusal.{Refusal}

-- as many rows as fit beside the header, and no more than there are
abbrev pub height_of : ℕ → ℕ → ℕ → ℕ
height_of rows bytes L = min rows ((L - 8) / bytes)

-- how many strips of this height the rows make: the last row is in the last
abbrev pub strips_of : ℕ → ℕ → ℕ
strips_of rows height = (rows - 1) / height + 1

abbrev pub outline_in : ℕ → ℕ → Strips
outline_in rows height = record { count = strips_of rows height; height = height; last = (rows - 1) % height + 1 }

abbrev pub outline_from : ℕ → ℕ → ℕ → Result ⊤ Refusal → Result Strips Refusal
outline_from rows bytes L (Ok tt) = Ok (outline_in rows (height_of rows bytes L))
outline_from rows bytes L (Err e) = Err e

abbrev pub outline_of : ℕ → ℕ → ℕ → Result Strips Refusal
outline_of rows bytes L = outline_from rows bytes L (sizes_of rows bytes L)

-- ---- an outline of some image of so many rows
pub record AreStrips (rows : ℕ) (o : Strips) : Type 0 where
  pub most : rows ≤ 65535
  pub some : 1 ≤ o.height
  pub within : o.height ≤ rows
  pub is : o ≡ outline_in rows o.height
