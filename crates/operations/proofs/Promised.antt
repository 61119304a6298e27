-- Of the calls on lists, differences and operations: every outcome that an attached contract allows is what `Promise` of specs/ says, in
-- other words than the definitions.
use Rattle.std.proofs.Common.{Result, Ok, Err}
use Prim.Native.Nat.{ℕ, ◌+◌}
use mathlib.Core.Path.{◌≡◌, refl, sym, ap, ◌∙◌}
use mathlib.Core.Bool.{Bool, cond, true, false}
use lib.Dec.{eqb}
use borrow.Author.Tests.{eqb-true, eqb-false}
use native.Mathlib.Omega.{arith}
use Rattle.modular.proofs.Saying.{Allows, Keeps}
use Rattle.operations.specs.declared.diff.Diff.{Diff}
use Rattle.operations.specs.declared.diff.Diff.TheVariants.{Same, Different}
use Rattle.operations.specs.Lists.{CumulativeOffsets, OutsideRanges, ScheduledOperations}
use Rattle.operations.specs.declared.list.AtMostTwo.TheVariants as list
use Rattle.operations.specs.declared.operation.OperationType.TheVariants.{Read}
use Rattle.operations.specs.declared.refusal.Refusal.{Refusal}
use Rattle.operations.specs.Diff.{diff_of, is_same_of, is_different_of, old_value_of, new_value_of}
use Rattle.operations.specs.List.{sound_list_of, listed, total_in, cumulative_length_of, cumulative_in, cumulative_offsets_of, outside_in, outside_ranges_of}
use Rattle.operations.specs.Promise.{LeftOver, StartsOf, starts_none, starts_one, starts_two, RangesOf, ranges_none, ranges_one, ranges_two, last_end, DiffOf}
use Rattle.operations.proofs.Given.{list_kept}
use Rattle.operations.proofs.PortionLaws.{left_over}
use Rattle.operations.proofs.Says.{ScheduledOperations-try-new-says, container_says, into_container_says, cumulative_operation_length_says, with_cumulative_offset_says, with_outside_buffer_range_says, Diff-new-says, is_same_says, is_different_says, old_value_says, new_value_says, ScheduledOperation-new-says, default_says, portion_of_says}
use Rattle.operations.proofs.portion.portion_of.Kinds as portion_of_kinds
use Rattle.operations.proofs.portion.portion_of.Reads as portion_of_lem
use Rattle.operations.proofs.list.AtMostTwo+ScheduledOperation.try_new.Kinds as list_try_new_kinds
use Rattle.operations.proofs.list.AtMostTwo+ScheduledOperation.try_new.Reads as list_try_new
use Rattle.operations.proofs.list.AtMostTwo+ScheduledOperation.container.Kinds as container_kinds
use Rattle.operations.proofs.list.AtMostTwo+ScheduledOperation.container.Reads as container
use Rattle.operations.proofs.list.AtMostTwo+ScheduledOperation.into_container.Kinds as into_container_kinds
use Rattle.operations.proofs.list.AtMostTwo+ScheduledOperation.into_container.Reads as into_container
use Rattle.operations.proofs.list.AtMostTwo+ScheduledOperation.cumulative_operation_length.Kinds as cumulative_operation_length_kinds
use Rattle.operations.proofs.list.AtMostTwo+ScheduledOperation.cumulative_operation_length.Reads as cumulative_operation_length
use Rattle.operations.proofs.list.AtMostTwo+ScheduledOperation.with_cumulative_offset.Kinds as with_cumulative_offset_kinds
use Rattle.operations.proofs.list.AtMostTwo+ScheduledOperation.with_cumulative_offset.Reads as with_cumulative_offset
use Rattle.operations.proofs.list.AtMostTwo+ScheduledOperation.with_outside_buffer_range.Kinds as with_outside_buffer_range_kinds
use Rattle.operations.proofs.list.AtMostTwo+ScheduledOperation.with_outside_buffer_range.Reads as with_outside_buffer_range
use Rattle.operations.proofs.diff.Diff.new.Kinds as Diff-new-kinds
use Rattle.operations.proofs.diff.Diff.new.Reads as Diff-new
use Rattle.operations.proofs.diff.Diff.is_same.Kinds as is_same_kinds
use Rattle.operations.proofs.diff.Diff.is_same.Reads as is_same
use Rattle.operations.proofs.diff.Diff.is_different.Kinds as is_different_kinds
use Rattle.operations.proofs.diff.Diff.is_different.Reads as is_different
use Rattle.operations.proofs.diff.Diff.old_value.Kinds as old_value_kinds
use Rattle.operations.proofs.diff.Diff.old_value.Reads as old_value
use Rattle.operations.proofs.diff.Diff.new_value.Kinds as new_value_kinds
use Rattle.operations.proofs.diff.Diff.new_value.Reads as new_value
use Rattle.operations.proofs.operation.ScheduledOperation.new.Kinds as ScheduledOperation-new-kinds
use Rattle.operations.proofs.operation.ScheduledOperation.new.Reads as ScheduledOperation-new
use Rattle.operations.proofs.operation.ScheduledOperationDefault.default.Kinds as default_kinds
use Rattle.operations.proofs.operation.ScheduledOperationDefault.default.Reads as default

-- ---- lists
-- a list that is taken is handed back as it is
same_list : (ops l : ScheduledOperations) → sound_list_of ops ≡ Ok l → l ≡ ops
same_list list.None l p = cc
same_list (list.One a) l p = cc
same_list (list.Two a b) l p = list_kept a b l p

-- what is answered of a list that is taken is of the list itself
module _ {A B : Type 0} (Of : B → A) (Refused : Refusal → A) (in_List : ScheduledOperations → B) (inject : (x y : B) → Of x ≡ Of y → x ≡ y) (refused : (e : Refusal) (x : B) → Refused e ≡ Of x → ⊥) where
  of_list_lem : (ops : ScheduledOperations) (x : B) → listed (sound_list_of ops) (λ l. Of (in_List l)) Refused ≡ Of x → x ≡ in_List ops
  of_list_lem ops x p = go (sound_list_of ops) refl
    where
      go : (y : Result ScheduledOperations Refusal) → sound_list_of ops ≡ y → x ≡ in_List ops
      go (Ok l) q =
          let e : Of (in_List l) ≡ Of x = rw q at p in
          inject x (in_List ops) (sym e ∙ ap (λ (k : ScheduledOperations). Of (in_List k)) (same_list ops l q))
      go (Err e) q = absurd (refused e x (rw q at p))

pub list_try_new_promised : Keeps 0 list_try_new_kinds.ps list_try_new_kinds.r list_try_new.Learnt (λ κs a z. (l : ScheduledOperations) → z ≡ Ok l → l ≡ a.0)
list_try_new_promised κs a z q l e = same_list a.0 l (sym (ScheduledOperations-try-new-says κs a z q.0 q.1) ∙ e)

pub container_promised : Keeps 0 container_kinds.ps container_kinds.r container.Learnt (λ κs a z. (l : ScheduledOperations) → z ≡ Ok l → l ≡ a.0)
container_promised κs a z q l e = same_list a.0 l (sym (container_says κs a z q.0 q.1) ∙ e)

pub into_container_promised : Keeps 0 into_container_kinds.ps into_container_kinds.r into_container.Learnt (λ κs a z. (l : ScheduledOperations) → z ≡ Ok l → l ≡ a.0)
into_container_promised κs a z q l e = same_list a.0 l (sym (into_container_says κs a z q.0 q.1) ∙ e)

starts_are : (ops : ScheduledOperations) → StartsOf ops (cumulative_in ops)
starts_are list.None = starts_none
starts_are (list.One a) = starts_one refl refl
starts_are (list.Two a b) = let e : a.len ≡ 0 + a.len = omega arith in starts_two refl refl refl e

ranges_are : (ops : ScheduledOperations) → RangesOf ops (outside_in ops)
ranges_are list.None = ranges_none
ranges_are (list.One a) = ranges_one (record { op = refl; starts = refl; ends = refl })
ranges_are (list.Two a b) =
    let e : a.len ≡ 0 + a.len = omega arith in
    ranges_two (record { op = refl; starts = refl; ends = refl }) (record { op = refl; starts = e; ends = ap (λ (n : ℕ). n + b.len) e })

ends_at : (ops : ScheduledOperations) → last_end (outside_in ops) ≡ total_in ops
ends_at list.None = refl
ends_at (list.One a) = omega arith
ends_at (list.Two a b) = omega arith

starts_of_lem : (ops : ScheduledOperations) (c : CumulativeOffsets) → cumulative_offsets_of ops ≡ Ok c → c ≡ cumulative_in ops
starts_of_lem = of_list_lem Ok Err cumulative_in (λ x y p. cc) (λ e x p. cc)

ranges_of_lem : (ops : ScheduledOperations) (c : OutsideRanges) → outside_ranges_of ops ≡ Ok c → c ≡ outside_in ops
ranges_of_lem = of_list_lem Ok Err outside_in (λ x y p. cc) (λ e x p. cc)

total_of : (ops : ScheduledOperations) (n : ℕ) → cumulative_length_of ops ≡ Ok n → n ≡ total_in ops
total_of = of_list_lem Ok Err total_in (λ x y p. cc) (λ e x p. cc)

pub starts_promised : Keeps 0 with_cumulative_offset_kinds.ps with_cumulative_offset_kinds.r with_cumulative_offset.Learnt (λ κs a z. (c : CumulativeOffsets) → z ≡ Ok c → StartsOf a.0 c)
starts_promised κs a z q c e = rw (starts_of_lem a.0 c (sym (with_cumulative_offset_says κs a z q.0 q.1) ∙ e)) (starts_are a.0)

pub ranges_promised : Keeps 0 with_outside_buffer_range_kinds.ps with_outside_buffer_range_kinds.r with_outside_buffer_range.Learnt (λ κs a z. (c : OutsideRanges) → z ≡ Ok c → RangesOf a.0 c)
ranges_promised κs a z q c e = rw (ranges_of_lem a.0 c (sym (with_outside_buffer_range_says κs a z q.0 q.1) ∙ e)) (ranges_are a.0)

-- the sum of the lengths is where the last range ends
pub length_promised :
    (ops : ScheduledOperations) (n : ℕ) → Allows 0 cumulative_operation_length_kinds.ps cumulative_operation_length_kinds.r cumulative_operation_length.Learnt tt (ops, tt) (Ok n) →
    (c : OutsideRanges) → Allows 0 with_outside_buffer_range_kinds.ps with_outside_buffer_range_kinds.r with_outside_buffer_range.Learnt tt (ops, tt) (Ok c) → n ≡ last_end c
length_promised ops n p c q =
    total_of ops n (sym (cumulative_operation_length_says tt (ops, tt) (Ok n) p.0 p.1)) ∙ sym (ends_at ops)
    ∙ ap last_end (sym (ranges_of_lem ops c (sym (with_outside_buffer_range_says tt (ops, tt) (Ok c) q.0 q.1))))

-- ---- `Diff`
diff_is : (old new : ℕ) → DiffOf old new (diff_of old new)
unfolding diff_of
diff_is old new = go (eqb old new) refl
  where
    go : (b : Bool) → eqb old new ≡ b → DiffOf old new (cond b (Same old) (Different old new))
    go true e = (refl, eqb-true old new e)
    go false e = (refl, refl, eqb-false old new e)

pub diff_promised : Keeps 0 Diff-new-kinds.ps Diff-new-kinds.r Diff-new.Learnt (λ κs a z. DiffOf a.0 a.1.0 z)
diff_promised κs a z q = rw (Diff-new-says κs a z q.0 q.1) (diff_is a.0 a.1.0)

abbrev pub DiffNew : ℕ → ℕ → Diff → Type 0
DiffNew old new d = Allows 0 Diff-new-kinds.ps Diff-new-kinds.r Diff-new.Learnt tt (old, (new, tt)) d

module _ (old new : ℕ) (d : Diff) (q : DiffNew old new d) where
  pub old_value_promised : (v : ℕ) → Allows 0 old_value_kinds.ps old_value_kinds.r old_value.Learnt tt (d, tt) v → v ≡ old
  old_value_promised v p = old_value_says tt (d, tt) v p.0 p.1 ∙ go d (diff_promised tt (old, (new, tt)) d q)
    where
      go : (x : Diff) → DiffOf old new x → old_value_of x ≡ old
      go (Same y) e = e.0
      go (Different y z) e = e.0

  pub new_value_promised : (v : ℕ) → Allows 0 new_value_kinds.ps new_value_kinds.r new_value.Learnt tt (d, tt) v → v ≡ new
  new_value_promised v p = new_value_says tt (d, tt) v p.0 p.1 ∙ go d (diff_promised tt (old, (new, tt)) d q)
    where
      go : (x : Diff) → DiffOf old new x → new_value_of x ≡ new
      go (Same y) e = e.1
      go (Different y z) e = e.1

  pub is_same_promised : Allows 0 is_same_kinds.ps is_same_kinds.r is_same.Learnt tt (d, tt) true → old ≡ new
  is_same_promised p = go d (diff_promised tt (old, (new, tt)) d q) (is_same_says tt (d, tt) true p.0 p.1)
    where
      go : (x : Diff) → DiffOf old new x → true ≡ is_same_of x → old ≡ new
      go (Same y) e f = sym e.0 ∙ e.1
      go (Different y z) e f = cc

  pub is_different_promised : Allows 0 is_different_kinds.ps is_different_kinds.r is_different.Learnt tt (d, tt) true → old ≡ new → ⊥
  is_different_promised p = go d (diff_promised tt (old, (new, tt)) d q) (is_different_says tt (d, tt) true p.0 p.1)
    where
      go : (x : Diff) → DiffOf old new x → true ≡ is_different_of x → old ≡ new → ⊥
      go (Same y) e f g = cc
      go (Different y z) e f g = e.2 (e.0 ∙ g ∙ sym e.1)

-- by the case, of any `Diff`
pub is_same_by_case : Keeps 0 is_same_kinds.ps is_same_kinds.r is_same.Learnt (λ κs a z. ((v : ℕ) → a.0 ≡ Same v → z ≡ true) × ((x y : ℕ) → a.0 ≡ Different x y → z ≡ false))
is_same_by_case κs a z q = (λ v e. is_same_says κs a z q.0 q.1 ∙ ap is_same_of e, λ x y e. is_same_says κs a z q.0 q.1 ∙ ap is_same_of e)

pub is_different_by_case : Keeps 0 is_different_kinds.ps is_different_kinds.r is_different.Learnt (λ κs a z. ((v : ℕ) → a.0 ≡ Same v → z ≡ false) × ((x y : ℕ) → a.0 ≡ Different x y → z ≡ true))
is_different_by_case κs a z q = (λ v e. is_different_says κs a z q.0 q.1 ∙ ap is_different_of e, λ x y e. is_different_says κs a z q.0 q.1 ∙ ap is_different_of e)

pub old_value_by_case : Keeps 0 old_value_kinds.ps old_value_kinds.r old_value.Learnt (λ κs a z. ((v : ℕ) → a.0 ≡ Same v → z ≡ v) × ((x y : ℕ) → a.0 ≡ Different x y → z ≡ x))
old_value_by_case κs a z q = (λ v e. old_value_says κs a z q.0 q.1 ∙ ap old_value_of e, λ x y e. old_value_says κs a z q.0 q.1 ∙ ap old_value_of e)

pub new_value_by_case : Keeps 0 new_value_kinds.ps new_value_kinds.r new_value.Learnt (λ κs a z. ((v : ℕ) → a.0 ≡ Same v → z ≡ v) × ((x y : ℕ) → a.0 ≡ Different x y → z ≡ y))
new_value_by_case κs a z q = (λ v e. new_value_says κs a z q.0 q.1 ∙ ap new_value_of e, λ x y e. new_value_says κs a z q.0 q.1 ∙ ap new_value_of e)

-- ---- parts that are put together
pub operation_new_promised : Keeps 0 ScheduledOperation-new-kinds.ps ScheduledOperation-new-kinds.r ScheduledOperation-new.Learnt (λ κs a z. (z.typ ≡ a.0) × (z.off ≡ a.1.0) × (z.len ≡ a.1.1.0))
operation_new_promised κs a z q = rw (ScheduledOperation-new-says κs a z q.0 q.1) (refl, refl, refl)

pub operation_default_promised : Keeps 0 default_kinds.ps default_kinds.r default.Learnt (λ κs a z. (z.typ ≡ Read) × (z.off.0 ≡ 0) × (z.len ≡ 0))
operation_default_promised κs a z q = rw (default_says κs a z q.0 q.1) (refl, refl, refl)

-- ---- portions
pub portion_promised : Keeps 0 portion_of_kinds.ps portion_of_kinds.r portion_of_lem.Learnt (λ κs a z. LeftOver a.0 a.1.0 z.len z.remainder)
portion_promised κs a z q = rw (portion_of_says κs a z q.0 q.1) (left_over a.0 a.1.0)
