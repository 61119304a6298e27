-- The lists of at most two: of operations, and of operations with where they start, or start and end, outside the ring.
use Rattle.operations.specs.declared.list.AtMostTwo.{AtMostTwo}
use Rattle.operations.specs.declared.list.CumulativeOffset.{CumulativeOffset}
use Rattle.operations.specs.declared.list.OutsideRange.{OutsideRange}
use Rattle.operations.specs.declared.operation.ScheduledOperation.{ScheduledOperation}

abbrev pub ScheduledOperations : Type 0
ScheduledOperations = AtMostTwo ScheduledOperation

abbrev pub CumulativeOffsets : Type 0
CumulativeOffsets = AtMostTwo CumulativeOffset

abbrev pub OutsideRanges : Type 0
OutsideRanges = AtMostTwo OutsideRange
