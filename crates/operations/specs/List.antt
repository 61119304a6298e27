-- The two-place list of operations.
use Rattle.std.specs.Prelude.{ℕ, ◌+◌, ◌-◌, ◌^◌, ◌<◌, Bool, cond, true, false, ltb, Result, Ok, Err}
use Rattle.operations.specs.declared.operation.OperationType.{OperationType}
use Rattle.operations.specs.declared.operation.OperationType.TheVariants.{Read, Write}
use Rattle.operations.specs.declared.operation.ScheduledOperation.{ScheduledOperation}
use Rattle.operations.specs.Lists.{ScheduledOperations, CumulativeOffsets, OutsideRanges}
use Rattle.operations.specs.declared.list.AtMostTwo.TheVariants as cumulative
use Rattle.operations.specs.declared.list.CumulativeOffset.{CumulativeOffset}
use Rattle.operations.specs.declared.list.OutsideRange.{OutsideRange}
use Rattle.operations.specs.declared.refusal.Refusal.{Refusal}
use Rattle.operations.specs.declared.refusal.Refusal.TheVariants.{OperationTooLong, InconsistentOperationType}

abbrev pub same_type_of : OperationType → OperationType → Bool
same_type_of Read Read = true
same_type_of Read Write = false
same_type_of Write Read = false
same_type_of Write Write = true

-- the sum of the lengths
abbrev pub total_in : ScheduledOperations → ℕ
total_in cumulative.None = 0
total_in (cumulative.One a) = a.len
total_in (cumulative.Two a b) = a.len + b.len

-- 7 where the lengths sum above 2^64 - 1, with the excess; then 8 where the types differ
unfoldable pub sound_two_of : ScheduledOperation → ScheduledOperation → Result ScheduledOperations Refusal
sound_two_of a b =
    cond (ltb (2 ^ 64 - 1) (a.len + b.len)) (Err (OperationTooLong (a.len + b.len - (2 ^ 64 - 1))))
    (cond (same_type_of a.typ b.typ) (Ok (cumulative.Two a b)) (Err InconsistentOperationType))

abbrev pub sound_list_of : ScheduledOperations → Result ScheduledOperations Refusal
sound_list_of cumulative.None = Ok cumulative.None
sound_list_of (cumulative.One a) = Ok (cumulative.One a)
sound_list_of (cumulative.Two a b) = sound_two_of a b

-- what the calls answer: of a list that the tests take, else the tests' refusal
abbrev pub listed : {A : Type 0} → Result ScheduledOperations Refusal → (ScheduledOperations → A) → (Refusal → A) → A
listed (Ok ops) f g = f ops
listed (Err e) f g = g e

-- a list whose two lengths sum to a number of 64 bits
abbrev pub Summed : ScheduledOperations → Type 0
Summed cumulative.None = Unit {0}
Summed (cumulative.One a) = Unit {0}
Summed (cumulative.Two a b) = a.len + b.len < 2 ^ 64

abbrev pub cumulative_length_of : ScheduledOperations → Result ℕ Refusal
cumulative_length_of ops = listed (sound_list_of ops) (λ l. Ok (total_in l)) Err

-- each operation starts, outside the ring, where the lengths before it end
abbrev pub start_at : ℕ → ScheduledOperation → CumulativeOffset
start_at n a = record { start = n; op = a }

abbrev pub cumulative_in : ScheduledOperations → CumulativeOffsets
cumulative_in cumulative.None = cumulative.None
cumulative_in (cumulative.One a) = cumulative.One (start_at 0 a)
cumulative_in (cumulative.Two a b) = cumulative.Two (start_at 0 a) (start_at a.len b)

abbrev pub cumulative_offsets_of : ScheduledOperations → Result CumulativeOffsets Refusal
cumulative_offsets_of ops = listed (sound_list_of ops) (λ l. Ok (cumulative_in l)) Err

-- and ends its length on
abbrev pub range_at : ℕ → ScheduledOperation → OutsideRange
range_at n a = record { start = n; end = n + a.len; op = a }

abbrev pub outside_in : ScheduledOperations → OutsideRanges
outside_in cumulative.None = cumulative.None
outside_in (cumulative.One a) = cumulative.One (range_at 0 a)
outside_in (cumulative.Two a b) = cumulative.Two (range_at 0 a) (range_at a.len b)

abbrev pub outside_ranges_of : ScheduledOperations → Result OutsideRanges Refusal
outside_ranges_of ops = listed (sound_list_of ops) (λ l. Ok (outside_in l)) Err
