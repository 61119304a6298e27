-- What is taken and left over: nothing is lost, and by whether all of it finds room.
use Prim.Native.Nat.{ℕ, ◌-◌, ◌<◌, ◌≤◌}
use mathlib.Core.Path.{◌≡◌}
use native.Mathlib.Omega.{arith}
use Rattle.operations.specs.Portion.{portion_of}
use Rattle.operations.specs.Promise.{LeftOver}

module _ (m r : ℕ) where
  -- nothing is lost
  pub left_over : LeftOver m r (portion_of m r).len (portion_of m r).remainder
  left_over =
      record {
        whole = omega arith;
        some_left = λ l. omega arith;
        only_then = λ l. omega arith;
        room_taken = λ l. omega arith;
      }

  -- by what is left over
  pub portion_fits : (portion_of m r).remainder ≡ 0 → (m ≤ r) × ((portion_of m r).len ≡ m)
  portion_fits z = (omega arith, omega arith)

  pub portion_over : ((portion_of m r).remainder ≡ 0 → ⊥) → (r < m) × ((portion_of m r).len ≡ r) × ((portion_of m r).remainder ≡ m - r)
  portion_over z = (omega (arith, z), omega (arith, z), omega (arith, z))
