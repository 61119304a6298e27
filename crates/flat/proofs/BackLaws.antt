-- Whatever goes out flat comes back in as it was: so a host drives a call in progress as the receiver itself would. That the fields
-- have the right names is in StandsLaws.antt.
use Rattle.std.proofs.Common.{Option, Some, None, ℕ}
use Prim.Native.Nat.{ℕ}
use mathlib.Core.Path.{◌≡◌, refl, ap}
use mathlib.Core.Bool.{Bool, true, false}
use mathlib.Core.List.{List}
use Rattle.operations.specs.Refusal.{type_number}
use Rattle.sched.specs.declared.block.Bit.{Bit}
use Rattle.sched.specs.declared.block.Bit.TheVariants.{Zero, One}
use Rattle.sched.specs.declared.block.Block.{Block}
use Rattle.sched.specs.declared.block.BlockType.{BlockType}
use Rattle.sched.specs.declared.block.BlockType.TheVariants.{Free, Data}
use Rattle.sched.specs.declared.block.BufferFillState.{BufferFillState}
use Rattle.sched.specs.declared.block.BufferFillState.TheVariants.{Empty, Partial, Full}
use Rattle.sched.specs.declared.block.BufferLayout.{BufferLayout}
use Rattle.sched.specs.declared.block.BufferLayout.TheVariants.{DataFreeData, FreeDataFree}
use Rattle.operations.specs.declared.diff.Diff.{Diff}
use Rattle.operations.specs.declared.diff.Diff.TheVariants.{Same, Different}
use Rattle.operations.specs.declared.list.CumulativeOffset.{CumulativeOffset}
use Rattle.operations.specs.Lists.{CumulativeOffsets, OutsideRanges, ScheduledOperations}
use Rattle.operations.specs.declared.list.AtMostTwo.TheVariants as starts
use Rattle.operations.specs.declared.list.OutsideRange.{OutsideRange}
use Rattle.operations.specs.declared.operation.ScheduledOperation.{ScheduledOperation}
use Rattle.sched.specs.declared.scheduler.RingBufferScheduler.{RingBufferScheduler}
use Rattle.ends.specs.declared.reading_end.ReadingEnd.{ReadingEnd}
use Rattle.ends.specs.declared.writing_end.WritingEnd.{WritingEnd}
use Rattle.operations.specs.declared.operation.OperationType.{OperationType}
use Rattle.operations.specs.declared.operation.OperationType.TheVariants.{Read, Write}
use Rattle.operations.specs.declared.refusal.Refusal as sched
use Rattle.operations.specs.declared.refusal.Refusal.TheVariants.{ZeroBufferLength, BufferTooLarge, ItemsWrittenOutOfBounds, ItemsReadOutofBounds, DataAvailOutOfBounds, OperationTooLarge, OperationTooLong, InconsistentOperationType, HeldFillWrong}
use Rattle.copies.specs.declared.refusal.Refusal.TheVariants.{Scheduler, RingMemory}
use Rattle.receiver.specs.Call.{answered_of}
use Rattle.states.specs.declared.answer.Answer.{Answer}
use Rattle.receiver.specs.declared.call.Call.{Call}
use Rattle.receiver.specs.declared.call.Ending.{Ending}
use Rattle.receiver.specs.declared.call.Phase.{Phase}
use Rattle.receiver.specs.declared.call.Phase.TheVariants as phase
use Rattle.receiver.specs.declared.receiver.Beside.{Beside}
use Rattle.receiver.specs.declared.receiver.Came.{Came}
use Rattle.receiver.specs.declared.receiver.Came.TheVariants as came
use Rattle.receiver.specs.declared.receiver.Outcome.{Outcome}
use Rattle.receiver.specs.declared.receiver.ReceiverState.{ReceiverState}
use Rattle.states.specs.declared.refusal.Refusal.{Refusal}
use Rattle.states.specs.declared.refusal.Refusal.TheVariants.{Copy, AnswerMissing, Misfit, PendingFull}
use Rattle.states.specs.declared.state.Failure.{Failure}
use Rattle.states.specs.declared.state.Failure.TheVariants.{Io, Protocol}
use Rattle.states.specs.declared.state.OperationalState.{OperationalState}
use Rattle.states.specs.declared.state.OperationalState.TheVariants.{Normal, Draining, Terminated}
use Rattle.states.proofs.Rules.{violation_back}
use Rattle.flat.specs.Back.{layout_at, fill_at, block_at, range_at, ranges_at, start_at, starts_at, modulus_back, number_back}
use Rattle.flat.specs.Block.{block_type_number, block_type_at, bit_number, bit_at, flat_block, layout_number, fill_state_number}
use Rattle.flat.specs.Call.{ending_at, flat_ending, phase_at, flat_phase, call_at, flat_call, flat_step}
use Rattle.flat.specs.Counter.{bool_number}
use Rattle.flat.specs.Diff.{diff_at, flat_diff}
use Rattle.flat.specs.Failure.{failure_at, flat_failure}
use Rattle.flat.specs.Flat.{flat_refusal, flat_receiver_refusal}
use Rattle.flat.specs.List.{operations_at, flat_operations, flat_starts, flat_range, flat_ranges}
use Rattle.flat.specs.Modulus.{flat_modulus, flat_number}
use Rattle.flat.specs.Operation.{type_at, operation_at, flat_operation}
use Rattle.flat.specs.Outcome.{came_at, outcome_at, flat_came, flat_outcome}
use Rattle.flat.specs.ReadingEnd.{reading_end_at, flat_reading_end}
use Rattle.flat.specs.Receiver.{yes_at, receiver_at, flat_receiver}
use Rattle.flat.specs.Refusal.{scheduler_refusal_at, receiver_refusal_at}
use Rattle.flat.specs.Scheduler.{scheduler_at, flat_scheduler}
use Rattle.flat.specs.State.{state_at, flat_state}
use Rattle.flat.specs.WritingEnd.{writing_end_at, flat_writing_end}
use Rattle.modular.specs.declared.Modulus.{Modulus}

-- ---- moduli and differences
pub modulus_back_lem : (m : Option Modulus) → modulus_back (flat_modulus m) ≡ m
unfolding modulus_back
modulus_back_lem (Some m) = refl
modulus_back_lem None = refl

pub number_back_lem : (n : Option ℕ) → number_back (flat_number n) ≡ n
unfolding number_back
number_back_lem (Some n) = refl
number_back_lem None = refl

pub diff_back : (d : Diff) → diff_at (flat_diff d) ≡ d
unfolding diff_at
diff_back (Same v) = refl
diff_back (Different x y) = refl

-- ---- the scheduler, the ends, operations, lists and blocks
pub scheduler_back : (s : RingBufferScheduler) → scheduler_at (flat_scheduler s) ≡ s
scheduler_back s = refl

pub writing_end_back : (e : WritingEnd) → writing_end_at (flat_writing_end e) ≡ e
writing_end_back e = refl

pub reading_end_back : (e : ReadingEnd) → reading_end_at (flat_reading_end e) ≡ e
reading_end_back e = refl

pub type_back : (t : OperationType) → type_at (type_number t) ≡ t
unfolding type_at
type_back Read = refl
type_back Write = refl

pub operation_back : (o : ScheduledOperation) → operation_at (flat_operation o) ≡ o
operation_back o = rw (type_back o.typ)

pub operations_back : (ops : ScheduledOperations) → operations_at (flat_operations ops) ≡ ops
unfolding operations_at
operations_back starts.None = refl
operations_back (starts.One x) = ap starts.One (operation_back x)
operations_back (starts.Two x y) = rw (operation_back x, operation_back y)

start_back : (x : CumulativeOffset) → start_at x.start (flat_operation x.op) ≡ x
start_back x = rw (operation_back x.op)

pub starts_back : (ops : CumulativeOffsets) → starts_at (flat_starts ops) ≡ ops
unfolding starts_at
starts_back starts.None = refl
starts_back (starts.One x) = ap starts.One (start_back x)
starts_back (starts.Two x y) = rw (start_back x, start_back y)

range_back : (x : OutsideRange) → range_at (flat_range x) ≡ x
range_back x = rw (operation_back x.op)

pub ranges_back : (ops : OutsideRanges) → ranges_at (flat_ranges ops) ≡ ops
unfolding ranges_at
ranges_back starts.None = refl
ranges_back (starts.One x) = ap starts.One (range_back x)
ranges_back (starts.Two x y) = rw (range_back x, range_back y)

block_type_back : (t : BlockType) → block_type_at (block_type_number t) ≡ t
unfolding block_type_at
block_type_back Free = refl
block_type_back Data = refl

bit_back : (b : Bit) → bit_at (bit_number b) ≡ b
unfolding bit_at
bit_back Zero = refl
bit_back One = refl

pub block_back : (b : Block) → block_at (flat_block b) ≡ b
block_back b = rw (block_type_back b.typ, bit_back b.no)

pub layout_back : (l : BufferLayout) → layout_at (layout_number l) ≡ l
unfolding layout_at
layout_back DataFreeData = refl
layout_back FreeDataFree = refl

pub fill_back : (f : BufferFillState) → fill_at (fill_state_number f) ≡ f
unfolding fill_at
fill_back Empty = refl
fill_back Partial = refl
fill_back Full = refl

-- ---- refusals, states, and a call in progress
pub scheduler_refusal_back : (e : sched.Refusal) → scheduler_refusal_at (flat_refusal e) ≡ e
unfolding scheduler_refusal_at
scheduler_refusal_back ZeroBufferLength = refl
scheduler_refusal_back (BufferTooLarge n) = refl
scheduler_refusal_back (ItemsWrittenOutOfBounds n w) = refl
scheduler_refusal_back (ItemsReadOutofBounds n r) = refl
scheduler_refusal_back (DataAvailOutOfBounds n w r) = refl
scheduler_refusal_back (OperationTooLarge t n top) = ap (λ (x : OperationType). OperationTooLarge x n top) (type_back t)
scheduler_refusal_back (OperationTooLong n) = refl
scheduler_refusal_back InconsistentOperationType = refl
scheduler_refusal_back HeldFillWrong = refl

-- none of the scheduler's is a number of another's
by_scheduler_lem : (e : sched.Refusal) → receiver_refusal_at (flat_refusal e) ≡ Copy (Scheduler (scheduler_refusal_at (flat_refusal e)))
unfolding receiver_refusal_at
by_scheduler_lem ZeroBufferLength = refl
by_scheduler_lem (BufferTooLarge n) = refl
by_scheduler_lem (ItemsWrittenOutOfBounds n w) = refl
by_scheduler_lem (ItemsReadOutofBounds n r) = refl
by_scheduler_lem (DataAvailOutOfBounds n w r) = refl
by_scheduler_lem (OperationTooLarge t n top) = refl
by_scheduler_lem (OperationTooLong n) = refl
by_scheduler_lem InconsistentOperationType = refl
by_scheduler_lem HeldFillWrong = refl

pub refusal_back : (e : Refusal) → receiver_refusal_at (flat_receiver_refusal e) ≡ e
unfolding receiver_refusal_at
refusal_back (Copy (Scheduler e)) = rw (by_scheduler_lem e, scheduler_refusal_back e)
refusal_back (Copy RingMemory) = refl
refusal_back AnswerMissing = refl
refusal_back (Misfit place) = refl
refusal_back PendingFull = refl

pub failure_back : (f : Failure) → failure_at (flat_failure f) ≡ f
unfolding failure_at
failure_back (Io e) = refl
failure_back (Protocol v) = ap Protocol (violation_back v)

pub state_back : (s : OperationalState) → state_at (flat_state s) ≡ s
unfolding state_at
state_back Normal = refl
state_back (Draining f) = ap Draining (failure_back f)
state_back (Terminated f) = ap Terminated (failure_back f)

pub outcome_back : (o : Outcome) → outcome_at (flat_outcome o) ≡ o
unfolding came_at
outcome_back o = by o.came o.beside
  where
    by : (x : Came) (b : Beside) → outcome_at (flat_came x b) ≡ record { came = x; beside = b }
    by (came.Read m) b = refl
    by came.Done b = refl
    by (came.Failed f) b = ap (λ (y : Failure). record { came = came.Failed y; beside = b }) (failure_back f)

pub yes_back : (b : Bool) → yes_at (bool_number b) ≡ b
yes_back true = refl
yes_back false = refl

ending_back : (e : Ending) → ending_at (flat_ending e) ≡ e
ending_back e = rw (yes_back e.told, outcome_back e.outcome)

phase_back : (p : Phase) → phase_at (flat_phase p) ≡ p
unfolding phase_at
phase_back (phase.Receive w) = refl
phase_back (phase.Send batch e) = ap (phase.Send batch) (ending_back e)
phase_back (phase.Shutdown e) = ap phase.Shutdown (ending_back e)
phase_back (phase.Finished o) = ap phase.Finished (outcome_back o)

pub receiver_back : (q : ReceiverState) → receiver_at (flat_receiver q) ≡ q
receiver_back q = rw (state_back q.state, yes_back q.notification_socket_shutdown_issued)

pub call_back : (c : Call) → call_at (flat_call c) ≡ c
call_back c = rw (receiver_back c.receiver, phase_back c.phase)

pub answered_flat : (c : Call) (ring : List ℕ) (a : Answer) (place : ℕ) →
    flat_step (answered_of (call_at (flat_call c)) ring a place) ≡ flat_step (answered_of c ring a place)
answered_flat c ring a place = ap (λ (x : Call). flat_step (answered_of x ring a place)) (call_back c)
