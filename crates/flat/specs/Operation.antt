-- What a host's operation stands for, and the flat form of one.
use Rattle.std.specs.Prelude.{ℕ, cond, eqb, Result, Ok, Err, Option, Some, None}
use Rattle.operations.specs.declared.operation.OperationType.{OperationType}
use Rattle.operations.specs.declared.operation.OperationType.TheVariants.{Read, Write}
use Rattle.operations.specs.declared.operation.ScheduledOperation.{ScheduledOperation}
use Rattle.operations.specs.Operation.{operation_of}
use Rattle.operations.specs.Refusal.{type_number}
use Rattle.flat.specs.declared.structs.NextAnswer.{NextAnswer}
use Rattle.flat.specs.declared.structs.Operation.{Operation}
use Rattle.flat.specs.Flat.{no_refusal, flat_refusal}
use Rattle.sched.specs.declared.schedule.Next.{Next}
use Rattle.operations.specs.declared.refusal.Refusal.{Refusal}

-- 0 is a read, any other number a write
unfoldable pub type_at : ℕ → OperationType
type_at n = cond (eqb n 0) Read Write

abbrev pub operation_at : Operation → ScheduledOperation
operation_at o = operation_of (type_at o.typ) (record { 0 = o.off }) o.len

abbrev pub no_operation : Operation
no_operation = record { typ = 0; off = 0; len = 0 }

abbrev pub flat_operation : ScheduledOperation → Operation
flat_operation o = record { typ = type_number o.typ; off = o.off.0; len = o.len }

-- whether there is one, and it
abbrev pub some_in : Option ScheduledOperation → ℕ
some_in (Some o) = 1
some_in None = 0

abbrev pub operation_in : Option ScheduledOperation → Operation
operation_in (Some o) = flat_operation o
operation_in None = no_operation

abbrev pub flat_next : Result Next Refusal → NextAnswer
flat_next (Ok n) = record { refusal = no_refusal; some = some_in n.operation; operation = operation_in n.operation; remainder = n.remainder }
flat_next (Err e) = record { refusal = flat_refusal e; some = 0; operation = no_operation; remainder = 0 }
