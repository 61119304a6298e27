-- The numbers 7 and 8 of a list are given exactly when the paper says so, over the definitions; `Refuses` states it of the calls.
use Rattle.std.proofs.Common.{Result, Ok, Err}
use Prim.Native.Nat.{ℕ, ◌^◌, ◌<◌, ◌+◌, ◌-◌, ◌≤◌}
use mathlib.Core.Path.{◌≡◌, refl, sym, ap, ◌∙◌}
use mathlib.Core.Bool.{Bool, true, false}
use mathlib.Core.List.{List, []}
use mathlib.Core.Logic.{⊎_elim}
use native.Mathlib.Omega.{arith}
use Rattle.modular.proofs.Laws.{lt_or_le}
use Rattle.operations.specs.declared.operation.OperationType.{OperationType}
use Rattle.operations.specs.declared.operation.OperationType.TheVariants.{Read, Write}
use Rattle.operations.specs.declared.refusal.Refusal.{Refusal}
use Rattle.operations.specs.declared.refusal.Refusal.TheVariants.{ZeroBufferLength, BufferTooLarge, ItemsWrittenOutOfBounds, ItemsReadOutofBounds, DataAvailOutOfBounds, OperationTooLarge, OperationTooLong, InconsistentOperationType, HeldFillWrong}
use Rattle.operations.specs.Given.{Verdict, accepted, refused, number_in, values_in, Exactly, TypeNumber, a_read, a_write, GivenList, list_none, list_one, list_two, given_7, given_8, of_result}
use Rattle.operations.specs.Refusal.{number_of, type_number}
use Rattle.operations.specs.Lists.{ScheduledOperations}
use Rattle.operations.specs.declared.list.AtMostTwo.TheVariants as list
use Rattle.operations.specs.declared.operation.ScheduledOperation.{ScheduledOperation}
use Rattle.operations.specs.List.{same_type_of, sound_list_of}
use Rattle.operations.proofs.ListLaws.{too_long, inconsistent, list_taken}

abbrev pub Told : Verdict → ℕ → List ℕ → Type 0
Told v k vs = (number_in v ≡ k) × (values_in v ≡ vs)

pub told : (v u : Verdict) → v ≡ u → Told v (number_in u) (values_in u)
told v u e = (ap number_in e, ap values_in e)

-- a verdict of 0 takes; and no refusal has the number 0
pub number_some : (e : Refusal) → 0 < number_of e
number_some ZeroBufferLength = omega arith
number_some (BufferTooLarge l) = omega arith
number_some (ItemsWrittenOutOfBounds l w) = omega arith
number_some (ItemsReadOutofBounds l r) = omega arith
number_some (DataAvailOutOfBounds l w r) = omega arith
number_some (OperationTooLarge t n greatest) = omega arith
number_some (OperationTooLong excess) = omega arith
number_some InconsistentOperationType = omega arith
number_some HeldFillWrong = omega arith

pub type_number_lem : (t : OperationType) → TypeNumber t (type_number t)
type_number_lem Read = a_read
type_number_lem Write = a_write

pub type_number_is : {t : OperationType} {no : ℕ} → TypeNumber t no → type_number t ≡ no
type_number_is a_read = refl
type_number_is a_write = refl

-- ---- 7, then 8
different : {A : Type 0} → true ≡ false → A
different p = cc

types_same : (t u : OperationType) → same_type_of t u ≡ true → t ≡ u
types_same Read Read p = refl
types_same Read Write p = different (sym p)
types_same Write Read p = different (sym p)
types_same Write Write p = refl

same_types : (t u : OperationType) → t ≡ u → same_type_of t u ≡ true
same_types t Read e = rw e
same_types t Write e = rw e

types_differ : (t u : OperationType) → (t ≡ u → ⊥) → same_type_of t u ≡ false
types_differ t u d = go (same_type_of t u) refl
  where
    go : (b : Bool) → same_type_of t u ≡ b → same_type_of t u ≡ false
    go true p = absurd (d (types_same t u p))
    go false p = p

abbrev pub of_list : ScheduledOperations → Verdict
of_list ops = of_result (sound_list_of ops)

pub list_only : (ops : ScheduledOperations) → GivenList ops (number_in (of_list ops)) (values_in (of_list ops))
list_only list.None = list_none
list_only (list.One a) = list_one
list_only (list.Two a b) = ⊎_elim (λ l. rw (ap of_result (too_long a b l)) (given_7 l)) (λ l. go l (same_type_of a.typ b.typ) refl) (lt_or_le (2 ^ 64 - 1) (a.len + b.len))
  where
    go : a.len + b.len ≤ 2 ^ 64 - 1 → (x : Bool) → same_type_of a.typ b.typ ≡ x → GivenList (list.Two a b) (number_in (of_list (list.Two a b))) (values_in (of_list (list.Two a b)))
    go l true p = rw (ap of_result (list_taken a b l p)) (list_two l (types_same a.typ b.typ p))
    go l false p = rw (ap of_result (inconsistent a b l p)) (given_8 l (λ e. different (sym (same_types a.typ b.typ e) ∙ p)))

list_always : {ops : ScheduledOperations} {k : ℕ} {vs : List ℕ} → GivenList ops k vs → Told (of_list ops) k vs
list_always list_none = (refl, refl)
list_always list_one = (refl, refl)
list_always (list_two {a} {b} l e) = told (of_list (list.Two a b)) accepted (ap of_result (list_taken a b l (same_types a.typ b.typ e)))
list_always (given_7 {a} {b} l) = told (of_list (list.Two a b)) (refused (OperationTooLong (a.len + b.len - (2 ^ 64 - 1)))) (ap of_result (too_long a b l))
list_always (given_8 {a} {b} l d) = told (of_list (list.Two a b)) (refused InconsistentOperationType) (ap of_result (inconsistent a b l (types_differ a.typ b.typ d)))

pub list_exactly : (ops : ScheduledOperations) → Exactly (GivenList ops) (of_result (sound_list_of ops))
list_exactly ops = record { only = list_only ops; always = λ k vs g. list_always g }

pub list_passed : (a b : ScheduledOperation) → GivenList (list.Two a b) 0 [] → sound_list_of (list.Two a b) ≡ Ok (list.Two a b)
list_passed a b (list_two l e) = list_taken a b l (same_types a.typ b.typ e)

-- a list that is taken is handed back
pub list_kept : (a b : ScheduledOperation) (ops : ScheduledOperations) → sound_list_of (list.Two a b) ≡ Ok ops → ops ≡ list.Two a b
list_kept a b ops p = go (list_only (list.Two a b)) (ap (λ (x : Result ScheduledOperations Refusal). number_in (of_result x)) p)
  where
    go : {k : ℕ} {vs : List ℕ} → GivenList (list.Two a b) k vs → k ≡ 0 → ops ≡ list.Two a b
    go (list_two l e) z = let q : Ok ops ≡ Ok (list.Two a b) = sym p ∙ list_taken a b l (same_types a.typ b.typ e) in cc
    go (given_7 l) z = absurd (omega arith)
    go (given_8 l d) z = absurd (omega arith)

-- a verdict on an answer that is refused just where the list's tests refuse
module _ (ops : ScheduledOperations) (v : Verdict) where
  same_list : (c : Result ScheduledOperations Refusal) → sound_list_of ops ≡ c → ((l : ScheduledOperations) → sound_list_of ops ≡ Ok l → v ≡ accepted) → ((e : Refusal) → sound_list_of ops ≡ Err e → v ≡ refused e) → of_result c ≡ v
  same_list (Ok l) p f g = sym (f l p)
  same_list (Err e) p f g = sym (g e p)

  pub listed_exactly :
      ((l : ScheduledOperations) → sound_list_of ops ≡ Ok l → v ≡ accepted) → ((e : Refusal) → sound_list_of ops ≡ Err e → v ≡ refused e) →
      Exactly (GivenList ops) v
  listed_exactly f g = rw (same_list (sound_list_of ops) refl f g) at (list_exactly ops)
