-- An operation of a type, at an offset, of so many items.
use Rattle.std.specs.Prelude.{ℕ}
use Rattle.operations.specs.declared.counter.Offset.{Offset}
use Rattle.operations.specs.declared.operation.OperationType.{OperationType}
use Rattle.operations.specs.declared.operation.OperationType.TheVariants.{Read}
use Rattle.operations.specs.declared.operation.ScheduledOperation.{ScheduledOperation}

abbrev pub operation_of : OperationType → Offset → ℕ → ScheduledOperation
operation_of t a n = record { typ = t; off = a; len = n }

abbrev pub default_operation : ScheduledOperation
default_operation = operation_of Read (record { 0 = 0 }) 0
