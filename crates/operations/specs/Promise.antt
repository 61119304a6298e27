-- What portions, lists of operations and differences promise, told in other words than the definitions.
use Rattle.std.specs.Prelude.{ℕ, ◌+◌, ◌<◌, ◌≡◌}
use Rattle.operations.specs.declared.diff.Diff.{Diff}
use Rattle.operations.specs.declared.diff.Diff.TheVariants.{Same, Different}
use Rattle.operations.specs.declared.list.CumulativeOffset.{CumulativeOffset}
use Rattle.operations.specs.Lists.{CumulativeOffsets, OutsideRanges, ScheduledOperations}
use Rattle.operations.specs.declared.list.AtMostTwo.TheVariants as cumulative
use Rattle.operations.specs.declared.list.OutsideRange.{OutsideRange}
use Rattle.operations.specs.declared.operation.ScheduledOperation.{ScheduledOperation}

-- ---- portions: of what is asked so many are taken and the others left over; some are left exactly when more is asked than there is
-- room for, and then the room is taken whole
pub record LeftOver (asked room taken left : ℕ) : Type 0 where
  pub whole : asked ≡ taken + left
  pub some_left : room < asked → 0 < left
  pub only_then : 0 < left → room < asked
  pub room_taken : 0 < left → taken ≡ room

-- ---- lists: each operation once, in order, one behind the other in the linear buffer outside the ring
pub data StartsOf : ScheduledOperations → CumulativeOffsets → Type 0 where
  starts_none : StartsOf cumulative.None cumulative.None
  starts_one : {a : ScheduledOperation} {c : CumulativeOffset} → c.op ≡ a → c.start ≡ 0 → StartsOf (cumulative.One a) (cumulative.One c)
  starts_two : {a b : ScheduledOperation} {c d : CumulativeOffset} → c.op ≡ a → c.start ≡ 0 → d.op ≡ b → d.start ≡ c.start + a.len → StartsOf (cumulative.Two a b) (cumulative.Two c d)

pub record RangeOf (a : ScheduledOperation) (from : ℕ) (c : OutsideRange) : Type 0 where
  pub op : c.op ≡ a
  pub starts : c.start ≡ from
  pub ends : c.end ≡ from + a.len

pub data RangesOf : ScheduledOperations → OutsideRanges → Type 0 where
  ranges_none : RangesOf cumulative.None cumulative.None
  ranges_one : {a : ScheduledOperation} {c : OutsideRange} → RangeOf a 0 c → RangesOf (cumulative.One a) (cumulative.One c)
  ranges_two : {a b : ScheduledOperation} {c d : OutsideRange} → RangeOf a 0 c → RangeOf b c.end d → RangesOf (cumulative.Two a b) (cumulative.Two c d)

-- where the last range ends
abbrev pub last_end : OutsideRanges → ℕ
last_end cumulative.None = 0
last_end (cumulative.One c) = c.end
last_end (cumulative.Two c d) = d.end

-- ---- two values, the same or different
abbrev pub DiffOf : ℕ → ℕ → Diff → Type 0
DiffOf old new (Same v) = (v ≡ old) × (v ≡ new)
DiffOf old new (Different x y) = (x ≡ old) × (y ≡ new) × (x ≡ y → ⊥)
