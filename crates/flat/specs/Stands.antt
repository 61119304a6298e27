-- Which flat struct stands for which value of the libraries: field by field, by the fields' own names, with the header's numbers. What
-- goes out must stand for what was flattened. So two fields that are exchanged both ways, where reading back still undoes
-- flattening, are refused all the same.
use Rattle.std.specs.Prelude.{ℕ, ◌≡◌, Bool, true, false, ◌≢◌, Option, Some, None}
use Rattle.sched.specs.declared.block.Bit.{Bit}
use Rattle.sched.specs.declared.block.Bit.TheVariants.{Zero, One}
use Rattle.sched.specs.declared.block.Block as sched_block
use Rattle.sched.specs.declared.block.BlockType.{BlockType}
use Rattle.sched.specs.declared.block.BlockType.TheVariants.{Free, Data}
use Rattle.sched.specs.declared.block.BufferFillState.{BufferFillState}
use Rattle.sched.specs.declared.block.BufferFillState.TheVariants.{Empty, Partial, Full}
use Rattle.sched.specs.declared.block.BufferLayout.{BufferLayout}
use Rattle.sched.specs.declared.block.BufferLayout.TheVariants.{DataFreeData, FreeDataFree}
use Rattle.operations.specs.declared.diff.Diff as sched_diff
use Rattle.operations.specs.declared.diff.Diff.TheVariants.{Same, Different}
use Rattle.operations.specs.declared.list.OutsideRange.{OutsideRange}
use Rattle.operations.specs.Lists.{OutsideRanges, ScheduledOperations}
use Rattle.operations.specs.declared.list.AtMostTwo.TheVariants as outside
use Rattle.operations.specs.declared.operation.OperationType.{OperationType}
use Rattle.operations.specs.declared.operation.OperationType.TheVariants.{Read, Write}
use Rattle.operations.specs.declared.operation.ScheduledOperation.{ScheduledOperation}
use Rattle.sched.specs.declared.scheduler.RingBufferScheduler.{RingBufferScheduler}
use Rattle.ends.specs.declared.reading_end.ReadCounter as ends_read
use Rattle.ends.specs.declared.reading_end.ReadingEnd as ends_reading
use Rattle.ends.specs.declared.writing_end.WrittenCounter as ends_written
use Rattle.ends.specs.declared.writing_end.WritingEnd as ends_writing
use Rattle.receiver.specs.declared.call.Call as receiver_call
use Rattle.receiver.specs.declared.call.Ending as receiver_ending
use Rattle.receiver.specs.declared.call.Phase as receiver_phase
use Rattle.receiver.specs.declared.call.Phase.TheVariants.{Receive, Send, Shutdown, Finished}
use Rattle.receiver.specs.declared.receiver.Beside.{Beside}
use Rattle.receiver.specs.declared.receiver.Came.{Came}
use Rattle.receiver.specs.declared.receiver.Came.TheVariants as came
use Rattle.receiver.specs.declared.receiver.Outcome as receiver_outcome
use Rattle.receiver.specs.declared.receiver.ReceiverState.{ReceiverState}
use Rattle.states.specs.declared.state.Failure as receiver_failure
use Rattle.states.specs.declared.state.Failure.TheVariants.{Io, Protocol}
use Rattle.states.specs.declared.state.OperationalState.{OperationalState}
use Rattle.states.specs.declared.state.OperationalState.TheVariants.{Normal, Draining, Terminated}
use Rattle.states.specs.Promise.{Numbered, ReadBack}
use Rattle.flat.specs.declared.structs.Block.{Block}
use Rattle.flat.specs.declared.structs.Call.{Call}
use Rattle.flat.specs.declared.structs.Diff.{Diff}
use Rattle.flat.specs.declared.structs.Ending.{Ending}
use Rattle.flat.specs.declared.structs.Failure.{Failure}
use Rattle.flat.specs.declared.structs.Operation.{Operation}
use Rattle.flat.specs.declared.structs.Operations.{Operations}
use Rattle.flat.specs.declared.structs.Outcome.{Outcome}
use Rattle.flat.specs.declared.structs.Phase.{Phase}
use Rattle.flat.specs.declared.structs.Range.{Range}
use Rattle.flat.specs.declared.structs.Ranges.{Ranges}
use Rattle.flat.specs.declared.structs.ReadCounter.{ReadCounter}
use Rattle.flat.specs.declared.structs.ReadingEnd.{ReadingEnd}
use Rattle.flat.specs.declared.structs.Receiver.{Receiver}
use Rattle.flat.specs.declared.structs.Scheduler.{Scheduler}
use Rattle.flat.specs.declared.structs.State.{State}
use Rattle.flat.specs.declared.structs.WritingEnd.{WritingEnd}
use Rattle.flat.specs.declared.structs.WrittenCounter.{WrittenCounter}
use Rattle.flat.specs.declared.modulus.OptionU64.{OptionU64}
use Rattle.modular.specs.declared.Modulus.{Modulus}

-- ---- the header's numbers
abbrev pub BoolStands : ℕ → Bool → Type 0
BoolStands n false = n ≡ 0
BoolStands n true = n ≡ 1

abbrev pub TypeStands : ℕ → OperationType → Type 0
TypeStands n Read = n ≡ 0
TypeStands n Write = n ≡ 1

abbrev pub BlockTypeStands : ℕ → BlockType → Type 0
BlockTypeStands n Free = n ≡ 0
BlockTypeStands n Data = n ≡ 1

abbrev pub BitStands : ℕ → Bit → Type 0
BitStands n Zero = n ≡ 0
BitStands n One = n ≡ 1

abbrev pub LayoutStands : ℕ → BufferLayout → Type 0
LayoutStands n DataFreeData = n ≡ 0
LayoutStands n FreeDataFree = n ≡ 1

abbrev pub FillStands : ℕ → BufferFillState → Type 0
FillStands n Empty = n ≡ 0
FillStands n Partial = n ≡ 1
FillStands n Full = n ≡ 2

-- ---- moduli and differences
abbrev pub ModulusStands : OptionU64 → Option Modulus → Type 0
ModulusStands f (Some m) = (f.some ≡ 1) × (f.value ≡ m.0)
ModulusStands f None = (f.some ≡ 0) × (f.value ≡ 0)

abbrev pub NumberStands : OptionU64 → Option ℕ → Type 0
NumberStands f (Some n) = (f.some ≡ 1) × (f.value ≡ n)
NumberStands f None = (f.some ≡ 0) × (f.value ≡ 0)

abbrev pub DiffStands : Diff → sched_diff.Diff → Type 0
DiffStands f (Same v) = (f.different ≡ 0) × (f.old ≡ v) × (f.new ≡ v)
DiffStands f (Different x y) = (f.different ≡ 1) × (f.old ≡ x) × (f.new ≡ y)

-- ---- the scheduler, operations and blocks
abbrev pub SchedulerStands : Scheduler → RingBufferScheduler → Type 0
SchedulerStands f s = (f.buf_len ≡ s.buf_len) × (f.items_written ≡ s.items_written.0) × (f.items_read ≡ s.items_read.0) × (f.fill ≡ s.fill)

abbrev pub OperationStands : Operation → ScheduledOperation → Type 0
OperationStands f o = TypeStands f.typ o.typ × (f.off ≡ o.off.0) × (f.len ≡ o.len)

abbrev pub BlockStands : Block → sched_block.Block → Type 0
BlockStands f b = BlockTypeStands f.typ b.typ × BitStands f.no b.no × (f.off ≡ b.off.0) × (f.len ≡ b.len)

abbrev pub RangeStands : Range → OutsideRange → Type 0
RangeStands f x = (f.start ≡ x.start) × (f.end ≡ x.end) × OperationStands f.op x.op

-- ---- zeros, where there is nothing
abbrev pub NoOperation : Operation → Type 0
NoOperation f = (f.typ ≡ 0) × (f.off ≡ 0) × (f.len ≡ 0)

abbrev pub NoRange : Range → Type 0
NoRange f = (f.start ≡ 0) × (f.end ≡ 0) × NoOperation f.op

abbrev pub NoScheduler : Scheduler → Type 0
NoScheduler f = (f.buf_len ≡ 0) × (f.items_written ≡ 0) × (f.items_read ≡ 0) × (f.fill ≡ 0)

abbrev pub NoBlock : Block → Type 0
NoBlock f = (f.typ ≡ 0) × (f.no ≡ 0) × (f.off ≡ 0) × (f.len ≡ 0)

abbrev pub NoFailure : Failure → Type 0
NoFailure f = (f.kind ≡ 0) × (f.value ≡ 0) × (f.needed ≡ 0) × (f.room ≡ 0)

abbrev pub NoOutcome : Outcome → Type 0
NoOutcome f = (f.kind ≡ 0) × (f.n ≡ 0) × (f.fds ≡ 0) × NoFailure f.failure

abbrev pub NoEnding : Ending → Type 0
NoEnding f = (f.told ≡ 0) × NoOutcome f.outcome

abbrev pub NoReceiver : Receiver → Type 0
NoReceiver f =
    NoScheduler f.scheduler × (f.state.kind ≡ 0) × NoFailure f.state.failure ×
    (f.pending_ack_count ≡ 0) × (f.notification_socket_shutdown_issued ≡ 0)

abbrev pub NoCall : Call → Type 0
NoCall f =
    NoReceiver f.receiver × NoScheduler f.source × (f.phase.kind ≡ 0) × (f.phase.max_new_fds ≡ 0) ×
    (f.phase.dst_len ≡ 0) × (f.phase.batch ≡ 0) × NoEnding f.phase.ending × NoOutcome f.phase.outcome

-- ---- lists: the first `count` of the two places
abbrev pub OperationsStands : Operations → ScheduledOperations → Type 0
OperationsStands f outside.None = (f.count ≡ 0) × NoOperation f.first × NoOperation f.second
OperationsStands f (outside.One x) = (f.count ≡ 1) × OperationStands f.first x × NoOperation f.second
OperationsStands f (outside.Two x y) = (f.count ≡ 2) × OperationStands f.first x × OperationStands f.second y

abbrev pub RangesStands : Ranges → OutsideRanges → Type 0
RangesStands f outside.None = (f.count ≡ 0) × NoRange f.first × NoRange f.second
RangesStands f (outside.One x) = (f.count ≡ 1) × RangeStands f.first x × NoRange f.second
RangesStands f (outside.Two x y) = (f.count ≡ 2) × RangeStands f.first x × RangeStands f.second y

-- ---- the ends and their counters
abbrev pub WritingEndStands : WritingEnd → ends_writing.WritingEnd → Type 0
WritingEndStands f e = SchedulerStands f.scheduler e.scheduler

abbrev pub ReadingEndStands : ReadingEnd → ends_reading.ReadingEnd → Type 0
ReadingEndStands f e = SchedulerStands f.scheduler e.scheduler

abbrev pub WrittenCounterStands : WrittenCounter → ends_written.WrittenCounter → Type 0
WrittenCounterStands f c = f.counter ≡ c.0.0

abbrev pub ReadCounterStands : ReadCounter → ends_read.ReadCounter → Type 0
ReadCounterStands f c = f.counter ≡ c.0.0

-- ---- the receiver, and a call of it. What a kind does not use is 0
abbrev pub FailureStands : Failure → receiver_failure.Failure → Type 0
FailureStands f (Io e) = (f.kind ≡ 0) × (f.value ≡ e) × (f.needed ≡ 0) × (f.room ≡ 0)
FailureStands f (Protocol v) = (f.kind ≡ 1) × Numbered v f.value f.needed f.room

-- and of a host's, which may have any kind and any number
abbrev pub FailureRead : Failure → receiver_failure.Failure → Type 0
FailureRead f (Io e) = (f.kind ≡ 0) × (f.value ≡ e)
FailureRead f (Protocol v) = (f.kind ≢ 0) × ReadBack f.needed f.room f.value v

abbrev pub StateStands : State → OperationalState → Type 0
StateStands f Normal = (f.kind ≡ 0) × NoFailure f.failure
StateStands f (Draining e) = (f.kind ≡ 1) × FailureStands f.failure e
StateStands f (Terminated e) = (f.kind ≡ 2) × FailureStands f.failure e

abbrev pub ReceiverStands : Receiver → ReceiverState → Type 0
ReceiverStands f q =
    SchedulerStands f.scheduler q.scheduler × StateStands f.state q.state ×
    (f.pending_ack_count ≡ q.pending_ack_count) × BoolStands f.notification_socket_shutdown_issued q.notification_socket_shutdown_issued

abbrev pub CameStands : Outcome → Came → Type 0
CameStands f (came.Read n) = (f.kind ≡ 0) × (f.n ≡ n) × NoFailure f.failure
CameStands f came.Done = (f.kind ≡ 1) × (f.n ≡ 0) × NoFailure f.failure
CameStands f (came.Failed e) = (f.kind ≡ 2) × (f.n ≡ 0) × FailureStands f.failure e

abbrev pub BesideStands : Outcome → Beside → Type 0
BesideStands f b = f.fds ≡ b.fds

abbrev pub OutcomeStands : Outcome → receiver_outcome.Outcome → Type 0
OutcomeStands f o = CameStands f o.came × BesideStands f o.beside

abbrev pub EndingStands : Ending → receiver_ending.Ending → Type 0
EndingStands f e = BoolStands f.told e.told × OutcomeStands f.outcome e.outcome

-- kind, then what a receive, a send and a shutdown wait with, then what came of it
abbrev pub PhaseStands : Phase → receiver_phase.Phase → Type 0
PhaseStands f (Receive w) =
    (f.kind ≡ 0) × (f.max_new_fds ≡ w.max_new_fds) × (f.dst_len ≡ w.dst_len) × (f.batch ≡ 0) × NoEnding f.ending × NoOutcome f.outcome
PhaseStands f (Send n e) =
    (f.kind ≡ 1) × (f.max_new_fds ≡ 0) × (f.dst_len ≡ 0) × (f.batch ≡ n) × EndingStands f.ending e × NoOutcome f.outcome
PhaseStands f (Shutdown e) =
    (f.kind ≡ 2) × (f.max_new_fds ≡ 0) × (f.dst_len ≡ 0) × (f.batch ≡ 0) × EndingStands f.ending e × NoOutcome f.outcome
PhaseStands f (Finished o) =
    (f.kind ≡ 3) × (f.max_new_fds ≡ 0) × (f.dst_len ≡ 0) × (f.batch ≡ 0) × NoEnding f.ending × OutcomeStands f.outcome o

abbrev pub CallStands : Call → receiver_call.Call → Type 0
CallStands f c = ReceiverStands f.receiver c.receiver × SchedulerStands f.source c.source × PhaseStands f.phase c.phase
