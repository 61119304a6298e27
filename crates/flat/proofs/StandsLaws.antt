-- What goes out stands for what was flattened: specs/Stands.antt, of every flat form.
use Rattle.std.proofs.Common.{Option, Some, None, ℕ}
use mathlib.Core.Path.{refl}
use mathlib.Core.Bool.{Bool, true, false}
use Rattle.operations.specs.Refusal.{type_number}
use Rattle.sched.specs.declared.block.Bit.{Bit}
use Rattle.sched.specs.declared.block.Bit.TheVariants.{Zero, One}
use Rattle.sched.specs.declared.block.Block.{Block}
use Rattle.sched.specs.declared.block.BlockType.{BlockType}
use Rattle.sched.specs.declared.block.BlockType.TheVariants.{Free, Data}
use Rattle.sched.specs.declared.block.BufferFillState.{BufferFillState}
use Rattle.sched.specs.declared.block.BufferFillState.TheVariants.{Empty, Partial, Full}
use Rattle.sched.specs.declared.block.BufferLayout.{BufferLayout}
use Rattle.sched.specs.declared.block.BufferLayout.TheVariants.{DataFreeData, FreeDataFree}
use Rattle.operations.specs.declared.diff.Diff.{Diff}
use Rattle.operations.specs.declared.diff.Diff.TheVariants.{Same, Different}
use Rattle.operations.specs.declared.list.OutsideRange.{OutsideRange}
use Rattle.operations.specs.Lists.{OutsideRanges, ScheduledOperations}
use Rattle.operations.specs.declared.list.AtMostTwo.TheVariants as outside
use Rattle.operations.specs.declared.operation.OperationType.{OperationType}
use Rattle.operations.specs.declared.operation.OperationType.TheVariants.{Read, Write}
use Rattle.operations.specs.declared.operation.ScheduledOperation.{ScheduledOperation}
use Rattle.sched.specs.declared.scheduler.RingBufferScheduler.{RingBufferScheduler}
use Rattle.states.proofs.Rules.{numbered}
use Rattle.receiver.specs.declared.call.Call.{Call}
use Rattle.receiver.specs.declared.call.Ending.{Ending}
use Rattle.receiver.specs.declared.call.Phase.{Phase}
use Rattle.receiver.specs.declared.call.Phase.TheVariants.{Receive, Send, Shutdown, Finished}
use Rattle.receiver.specs.declared.receiver.Came.{Came}
use Rattle.receiver.specs.declared.receiver.Came.TheVariants as came
use Rattle.receiver.specs.declared.receiver.Outcome.{Outcome}
use Rattle.receiver.specs.declared.receiver.ReceiverState.{ReceiverState}
use Rattle.states.specs.declared.state.Failure.{Failure}
use Rattle.states.specs.declared.state.Failure.TheVariants.{Io, Protocol}
use Rattle.states.specs.declared.state.OperationalState.{OperationalState}
use Rattle.states.specs.declared.state.OperationalState.TheVariants.{Normal, Draining, Terminated}
use Rattle.flat.specs.Block.{block_type_number, bit_number, layout_number, fill_state_number, flat_block}
use Rattle.flat.specs.Call.{no_ending, no_call, flat_ending, flat_phase, flat_call}
use Rattle.flat.specs.Counter.{bool_number}
use Rattle.flat.specs.Diff.{flat_diff}
use Rattle.flat.specs.Failure.{no_failure, flat_failure}
use Rattle.flat.specs.List.{flat_operations, flat_range, flat_ranges}
use Rattle.flat.specs.Modulus.{flat_modulus, flat_number}
use Rattle.flat.specs.Operation.{flat_operation}
use Rattle.flat.specs.Outcome.{no_outcome, flat_came, flat_outcome}
use Rattle.flat.specs.Receiver.{no_receiver, flat_receiver}
use Rattle.flat.specs.Scheduler.{flat_scheduler}
use Rattle.flat.specs.Stands.{BesideStands, CameStands, BoolStands, TypeStands, BlockTypeStands, BitStands, LayoutStands, FillStands, ModulusStands, NumberStands, DiffStands, SchedulerStands, OperationStands, BlockStands, RangeStands, NoOutcome, NoEnding, NoReceiver, NoCall, OperationsStands, RangesStands, FailureStands, StateStands, ReceiverStands, OutcomeStands, EndingStands, PhaseStands, CallStands, NoFailure}
use Rattle.flat.specs.State.{flat_state}
use Rattle.modular.specs.declared.Modulus.{Modulus}

-- ---- the header's numbers
pub bool_stands : (b : Bool) → BoolStands (bool_number b) b
bool_stands false = refl
bool_stands true = refl

type_stands : (t : OperationType) → TypeStands (type_number t) t
type_stands Read = refl
type_stands Write = refl

block_type_stands : (t : BlockType) → BlockTypeStands (block_type_number t) t
block_type_stands Free = refl
block_type_stands Data = refl

bit_stands : (b : Bit) → BitStands (bit_number b) b
bit_stands Zero = refl
bit_stands One = refl

pub layout_stands : (l : BufferLayout) → LayoutStands (layout_number l) l
layout_stands DataFreeData = refl
layout_stands FreeDataFree = refl

pub fill_stands : (f : BufferFillState) → FillStands (fill_state_number f) f
fill_stands Empty = refl
fill_stands Partial = refl
fill_stands Full = refl

-- ---- moduli and differences
pub modulus_stands : (m : Option Modulus) → ModulusStands (flat_modulus m) m
modulus_stands (Some m) = (refl, refl)
modulus_stands None = (refl, refl)

pub number_stands : (n : Option ℕ) → NumberStands (flat_number n) n
number_stands (Some n) = (refl, refl)
number_stands None = (refl, refl)

pub diff_stands : (d : Diff) → DiffStands (flat_diff d) d
diff_stands (Same v) = (refl, refl, refl)
diff_stands (Different x y) = (refl, refl, refl)

-- ---- the scheduler, operations and blocks
pub scheduler_stands : (s : RingBufferScheduler) → SchedulerStands (flat_scheduler s) s
scheduler_stands s = (refl, refl, refl, refl)

pub operation_stands : (o : ScheduledOperation) → OperationStands (flat_operation o) o
operation_stands o = (type_stands o.typ, refl, refl)

pub block_stands : (b : Block) → BlockStands (flat_block b) b
block_stands b = (block_type_stands b.typ, bit_stands b.no, refl, refl)

range_stands : (x : OutsideRange) → RangeStands (flat_range x) x
range_stands x = (refl, refl, operation_stands x.op)

pub operations_stand : (ops : ScheduledOperations) → OperationsStands (flat_operations ops) ops
operations_stand outside.None = (refl, (refl, refl, refl), (refl, refl, refl))
operations_stand (outside.One x) = (refl, operation_stands x, (refl, refl, refl))
operations_stand (outside.Two x y) = (refl, operation_stands x, operation_stands y)

pub ranges_stand : (ops : OutsideRanges) → RangesStands (flat_ranges ops) ops
ranges_stand outside.None = (refl, (refl, refl, (refl, refl, refl)), (refl, refl, (refl, refl, refl)))
ranges_stand (outside.One x) = (refl, range_stands x, (refl, refl, (refl, refl, refl)))
ranges_stand (outside.Two x y) = (refl, range_stands x, range_stands y)

-- ---- the receiver, and a call of it
pub failure_zeros : NoFailure no_failure
failure_zeros = (refl, refl, refl, refl)

pub failure_stands : (f : Failure) → FailureStands (flat_failure f) f
failure_stands (Io e) = (refl, refl, refl, refl)
failure_stands (Protocol v) = (refl, numbered v)

pub state_stands : (s : OperationalState) → StateStands (flat_state s) s
state_stands Normal = (refl, failure_zeros)
state_stands (Draining f) = (refl, failure_stands f)
state_stands (Terminated f) = (refl, failure_stands f)

pub receiver_stands : (q : ReceiverState) → ReceiverStands (flat_receiver q) q
receiver_stands q = (scheduler_stands q.scheduler, state_stands q.state, refl, bool_stands q.notification_socket_shutdown_issued)

pub outcome_zeros : NoOutcome no_outcome
outcome_zeros = (refl, refl, refl, failure_zeros)

pub outcome_stands : (o : Outcome) → OutcomeStands (flat_outcome o) o
outcome_stands o = (came_stands o.came, came_beside o.came)
  where
    came_stands : (x : Came) → CameStands (flat_came x o.beside) x
    came_stands (came.Read n) = (refl, refl, failure_zeros)
    came_stands came.Done = (refl, refl, failure_zeros)
    came_stands (came.Failed f) = (refl, refl, failure_stands f)

    came_beside : (x : Came) → BesideStands (flat_came x o.beside) o.beside
    came_beside (came.Read n) = refl
    came_beside came.Done = refl
    came_beside (came.Failed f) = refl

ending_zeros : NoEnding no_ending
ending_zeros = (refl, outcome_zeros)

ending_stands : (e : Ending) → EndingStands (flat_ending e) e
ending_stands e = (bool_stands e.told, outcome_stands e.outcome)

phase_stands : (p : Phase) → PhaseStands (flat_phase p) p
phase_stands (Receive w) = (refl, refl, refl, refl, ending_zeros, outcome_zeros)
phase_stands (Send n e) = (refl, refl, refl, refl, ending_stands e, outcome_zeros)
phase_stands (Shutdown e) = (refl, refl, refl, refl, ending_stands e, outcome_zeros)
phase_stands (Finished o) = (refl, refl, refl, refl, ending_zeros, outcome_stands o)

pub call_stands : (c : Call) → CallStands (flat_call c) c
call_stands c = (receiver_stands c.receiver, scheduler_stands c.source, phase_stands c.phase)

pub receiver_zeros : NoReceiver no_receiver
receiver_zeros = ((refl, refl, refl, refl), refl, failure_zeros, refl, refl)

pub call_zeros : NoCall no_call
call_zeros = (receiver_zeros, (refl, refl, refl, refl), refl, refl, refl, refl, ending_zeros, outcome_zeros)
