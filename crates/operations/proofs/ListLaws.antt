-- Laws of the list's tests.
use Rattle.std.proofs.Common.{Ok, Err}
use Prim.Native.Nat.{ℕ, ◌+◌, ◌-◌, ◌^◌, ◌<◌, ◌≤◌}
use mathlib.Core.Path.{◌≡◌, refl}
use mathlib.Core.Bool.{Bool, cond, true, false, not}
use denote.Enum.Bare.{sameb}
use Rattle.operations.specs.contracts.operation.OperationType.{the_type}
use Rattle.operations.specs.declared.operation.OperationType.{OperationType}
use Rattle.operations.specs.declared.operation.OperationType.TheVariants.{Read, Write}
use lib.Dec.{ltb}
use borrow.Author.Tests.{ltb-false, lt-ltb, le-ltb}
use native.Mathlib.Omega.{arith}
use Rattle.operations.specs.declared.refusal.Refusal.TheVariants.{OperationTooLong, InconsistentOperationType}
use Rattle.operations.specs.declared.operation.ScheduledOperation.{ScheduledOperation}
use Rattle.operations.specs.Lists.{ScheduledOperations}
use Rattle.operations.specs.declared.list.AtMostTwo.TheVariants as list
use Rattle.operations.specs.List.{same_type_of, sound_two_of, sound_list_of, Summed}

-- ---- what `!=` of two types says
pub types_differ : (s t : OperationType) (x : Bool) → x ≡ not (sameb the_type s t) → x ≡ true → same_type_of s t ≡ false
types_differ Read Read x e f = cc
types_differ Read Write x e f = refl
types_differ Write Read x e f = refl
types_differ Write Write x e f = cc

pub types_agree : (s t : OperationType) (x : Bool) → x ≡ not (sameb the_type s t) → x ≡ false → same_type_of s t ≡ true
types_agree Read Read x e f = refl
types_agree Read Write x e f = cc
types_agree Write Read x e f = cc
types_agree Write Write x e f = refl

-- ---- the list's tests
module _ (a b : ScheduledOperation) where
  pub two_long : (room : ℕ) → room ≡ 2 ^ 64 - 1 - b.len → b.len < 2 ^ 64 → room < a.len → Err (OperationTooLong (a.len - room)) ≡ sound_two_of a b
  unfolding sound_two_of
  two_long room e f h =
      let l : 2 ^ 64 - 1 < a.len + b.len = omega arith in
      let x : a.len - room ≡ a.len + b.len - (2 ^ 64 - 1) = omega arith in
      rw (lt-ltb _ _ l, x)

  two_fits : (room : ℕ) → room ≡ 2 ^ 64 - 1 - b.len → b.len < 2 ^ 64 → a.len ≤ room → cond (same_type_of a.typ b.typ) (Ok (list.Two a b)) (Err InconsistentOperationType) ≡ sound_two_of a b
  unfolding sound_two_of
  two_fits room e f h =
      let l : a.len + b.len ≤ 2 ^ 64 - 1 = omega arith in
      rw (le-ltb _ _ l)

  pub two_fits_same : (room : ℕ) → room ≡ 2 ^ 64 - 1 - b.len → b.len < 2 ^ 64 → a.len ≤ room → same_type_of a.typ b.typ ≡ true → Ok (list.Two a b) ≡ sound_two_of a b
  two_fits_same room e f h q = rw q at (two_fits room e f h)

  pub two_fits_mixed : (room : ℕ) → room ≡ 2 ^ 64 - 1 - b.len → b.len < 2 ^ 64 → a.len ≤ room → same_type_of a.typ b.typ ≡ false → Err InconsistentOperationType ≡ sound_two_of a b
  two_fits_mixed room e f h q = rw q at (two_fits room e f h)

-- a list that passes them can be summed
pub summed : (l k : ScheduledOperations) → Ok l ≡ sound_list_of k → Summed l
unfolding sound_two_of
summed l list.None p = let e : l ≡ list.None = cc in rw e tt
summed l (list.One a) p = let e : l ≡ list.One a = cc in rw e tt
summed l (list.Two a b) p = go (ltb (2 ^ 64 - 1) (a.len + b.len)) refl (same_type_of a.typ b.typ) p
  where
    go : (x : Bool) → ltb (2 ^ 64 - 1) (a.len + b.len) ≡ x → (y : Bool) → Ok l ≡ cond x (Err (OperationTooLong (a.len + b.len - (2 ^ 64 - 1)))) (cond y (Ok (list.Two a b)) (Err InconsistentOperationType)) → Summed l
    go true q y p = cc
    go false q true p = let e : l ≡ list.Two a b = cc in rw e (omega (arith, ltb-false, q))
    go false q false p = cc

-- ---- 7 where the lengths of a list sum above 2^64 - 1, else 8 where its types differ
module _ (a b : ScheduledOperation) where
  pub too_long : 2 ^ 64 - 1 < a.len + b.len → sound_list_of (list.Two a b) ≡ Err (OperationTooLong (a.len + b.len - (2 ^ 64 - 1)))
  unfolding sound_two_of
  too_long l = rw (lt-ltb _ _ l)

  module _ (l : a.len + b.len ≤ 2 ^ 64 - 1) where
    pub inconsistent : same_type_of a.typ b.typ ≡ false → sound_list_of (list.Two a b) ≡ Err InconsistentOperationType
    unfolding sound_two_of
    inconsistent d = rw (le-ltb _ _ l, d)

    pub list_taken : same_type_of a.typ b.typ ≡ true → sound_list_of (list.Two a b) ≡ Ok (list.Two a b)
    unfolding sound_two_of
    list_taken d = rw (le-ltb _ _ l, d)
