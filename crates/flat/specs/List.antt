-- What a host's list of operations stands for, and the flat forms of lists. The places that a list lacks are zeros.
use Rattle.std.specs.Prelude.{ℕ, cond, eqb, Result, Ok, Err}
use Rattle.operations.specs.Lists.{CumulativeOffsets, OutsideRanges, ScheduledOperations}
use Rattle.operations.specs.declared.list.AtMostTwo.TheVariants as cumulative
use Rattle.operations.specs.declared.list.OutsideRange.{OutsideRange}
use Rattle.flat.specs.declared.structs.Operation.{Operation}
use Rattle.flat.specs.declared.structs.Operations.{Operations}
use Rattle.flat.specs.declared.structs.OperationsAnswer.{OperationsAnswer}
use Rattle.flat.specs.declared.structs.Range.{Range}
use Rattle.flat.specs.declared.structs.Ranges.{Ranges}
use Rattle.flat.specs.declared.structs.RangesAnswer.{RangesAnswer}
use Rattle.flat.specs.declared.structs.Refusal.{Refusal}
use Rattle.flat.specs.declared.structs.ScheduleAnswer.{ScheduleAnswer}
use Rattle.flat.specs.declared.structs.StartsAnswer.{StartsAnswer}
use Rattle.flat.specs.Flat.{no_refusal, flat_refusal}
use Rattle.flat.specs.Operation.{operation_at, no_operation, flat_operation}
use Rattle.sched.specs.declared.schedule.Scheduled.{Scheduled}
use Rattle.operations.specs.declared.refusal.Refusal as sched

-- the first `count` of the two; a count above 1 is two
unfoldable pub operations_at : Operations → ScheduledOperations
operations_at ops =
    cond (eqb ops.count 0) cumulative.None
    (cond (eqb ops.count 1) (cumulative.One (operation_at ops.first))
    (cumulative.Two (operation_at ops.first) (operation_at ops.second)))

abbrev pub operations_of : ℕ → Operation → Operation → Operations
operations_of n x y = record { count = n; first = x; second = y }

abbrev pub flat_operations : ScheduledOperations → Operations
flat_operations cumulative.None = operations_of 0 no_operation no_operation
flat_operations (cumulative.One x) = operations_of 1 (flat_operation x) no_operation
flat_operations (cumulative.Two x y) = operations_of 2 (flat_operation x) (flat_operation y)

abbrev pub flat_operations_answer : Result ScheduledOperations sched.Refusal → OperationsAnswer
flat_operations_answer (Ok ops) = record { refusal = no_refusal; operations = flat_operations ops }
flat_operations_answer (Err e) = record { refusal = flat_refusal e; operations = flat_operations cumulative.None }

abbrev pub flat_schedule : Result Scheduled sched.Refusal → ScheduleAnswer
flat_schedule (Ok r) = record { refusal = no_refusal; operations = flat_operations r.operations; remainder = r.remainder }
flat_schedule (Err e) = record { refusal = flat_refusal e; operations = flat_operations cumulative.None; remainder = 0 }

abbrev pub starts_of : Refusal → ℕ → ℕ → Operation → ℕ → Operation → StartsAnswer
starts_of e n a x b y =
    record { refusal = e; count = n; first_start = a; first = x; second_start = b; second = y }

abbrev pub flat_starts : CumulativeOffsets → StartsAnswer
flat_starts cumulative.None = starts_of no_refusal 0 0 no_operation 0 no_operation
flat_starts (cumulative.One x) = starts_of no_refusal 1 x.start (flat_operation x.op) 0 no_operation
flat_starts (cumulative.Two x y) =
    starts_of no_refusal 2 x.start (flat_operation x.op) y.start (flat_operation y.op)

abbrev pub flat_starts_answer : Result CumulativeOffsets sched.Refusal → StartsAnswer
flat_starts_answer (Ok ops) = flat_starts ops
flat_starts_answer (Err e) = starts_of (flat_refusal e) 0 0 no_operation 0 no_operation

abbrev pub no_range : Range
no_range = record { start = 0; end = 0; op = no_operation }

abbrev pub flat_range : OutsideRange → Range
flat_range x = record { start = x.start; end = x.end; op = flat_operation x.op }

abbrev pub ranges_of : ℕ → Range → Range → Ranges
ranges_of n x y = record { count = n; first = x; second = y }

abbrev pub flat_ranges : OutsideRanges → Ranges
flat_ranges cumulative.None = ranges_of 0 no_range no_range
flat_ranges (cumulative.One x) = ranges_of 1 (flat_range x) no_range
flat_ranges (cumulative.Two x y) = ranges_of 2 (flat_range x) (flat_range y)

abbrev pub flat_ranges_answer : Result OutsideRanges sched.Refusal → RangesAnswer
flat_ranges_answer (Ok ops) = record { refusal = no_refusal; ranges = flat_ranges ops }
flat_ranges_answer (Err e) = record { refusal = flat_refusal e; ranges = flat_ranges cumulative.None }
