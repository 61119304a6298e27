-- The paper's table of the numbers that refuse a list, 7 and 8: when each is given, and with which values. docs/PAPER.md, "The numbers".
use Rattle.std.specs.Prelude.{ℕ, ◌+◌, ◌-◌, ◌^◌, ◌<◌, ◌≤◌, ◌≡◌, List, [], ◌∷◌, Result, Ok, Err}
use Rattle.operations.specs.Lists.{ScheduledOperations}
use Rattle.operations.specs.declared.list.AtMostTwo.TheVariants as list
use Rattle.operations.specs.declared.operation.OperationType.{OperationType}
use Rattle.operations.specs.declared.operation.OperationType.TheVariants.{Read, Write}
use Rattle.operations.specs.declared.operation.ScheduledOperation.{ScheduledOperation}
use Rattle.operations.specs.declared.refusal.Refusal.{Refusal}
use Rattle.operations.specs.Refusal.{number_of, values_of}

-- ---- what a caller is told
pub data Verdict : Type 0 where
  accepted : Verdict
  refused : Refusal → Verdict

-- 0 where nothing is refused
abbrev pub number_in : Verdict → ℕ
number_in accepted = 0
number_in (refused e) = number_of e

abbrev pub values_in : Verdict → List ℕ
values_in accepted = []
values_in (refused e) = values_of e

-- `G` says when a number is given, with which values: it is given only then, and always then
pub record Exactly (G : ℕ → List ℕ → Type 0) (v : Verdict) : Type 0 where
  pub only : G (number_in v) (values_in v)
  pub always : (k : ℕ) (vs : List ℕ) → G k vs → (number_in v ≡ k) × (values_in v ≡ vs)

-- a type's number among the values
pub data TypeNumber : OperationType → ℕ → Type 0 where
  a_read : TypeNumber Read 0
  a_write : TypeNumber Write 1

-- ---- 7, then 8: a list of two. None and one are never refused
pub data GivenList : ScheduledOperations → ℕ → List ℕ → Type 0 where
  list_none : GivenList list.None 0 []
  list_one : {a : ScheduledOperation} → GivenList (list.One a) 0 []
  list_two : {a b : ScheduledOperation} → a.len + b.len ≤ 2 ^ 64 - 1 → a.typ ≡ b.typ → GivenList (list.Two a b) 0 []
  given_7 : {a b : ScheduledOperation} → 2 ^ 64 - 1 < a.len + b.len → GivenList (list.Two a b) 7 ((a.len + b.len - (2 ^ 64 - 1)) ∷ [])
  given_8 : {a b : ScheduledOperation} → a.len + b.len ≤ 2 ^ 64 - 1 → (a.typ ≡ b.typ → ⊥) → GivenList (list.Two a b) 8 []

-- ---- the verdict in an answer, whatever it is of
abbrev pub of_result : {A : Type 0} → Result A Refusal → Verdict
of_result (Ok n) = accepted
of_result (Err e) = refused e
