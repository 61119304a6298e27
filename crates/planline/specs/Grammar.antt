-- The lines that ask the scheduler, by what they ask.
use Rattle.std.specs.Prelude.{ℕ, ◌^◌, ◌<◌, ◌≡◌, List}
use Rattle.planline.specs.declared.ring.Asked.{Asked}
use Rattle.planline.specs.Ring.{line_of}

-- every number is at most 2^64 - 1
pub record Fits (a : Asked) : Type 0 where
  pub buf : a.buf_len < 2 ^ 64
  pub written : a.written < 2 ^ 64
  pub read : a.read < 2 ^ 64
  pub max : a.max_len < 2 ^ 64

pub record WellFormed (xs : List ℕ) (a : Asked) : Type 0 where
  pub is : xs ≡ line_of a
  pub fits : Fits a
