-- What an exported answer tells a host: refusal number 0 and a value, or the paper's number and values and zeros in every other field.
-- And what a host reads in it. Each answer struct says which of its fields stand for what.
use Rattle.std.specs.Prelude.{ℕ, ◌<◌, ◌≡◌, Bool, cond, List, [], ◌∷◌, eqb, get_or, Option, Some, None, Ok, Err}
use Rattle.sched.specs.Block.{block_of}
use Rattle.sched.specs.declared.block.Block as sched_block
use Rattle.sched.specs.declared.block.Blocks.{Blocks}
use Rattle.sched.specs.declared.block.BufferFillState.{BufferFillState}
use Rattle.sched.specs.declared.block.BufferFillState.TheVariants.{Empty, Partial, Full}
use Rattle.sched.specs.declared.block.BufferLayout.{BufferLayout}
use Rattle.sched.specs.declared.block.BufferLayout.TheVariants.{DataFreeData, FreeDataFree}
use Rattle.operations.specs.declared.list.CumulativeOffset.{CumulativeOffset}
use Rattle.operations.specs.Lists.{CumulativeOffsets, OutsideRanges, ScheduledOperations}
use Rattle.operations.specs.declared.list.AtMostTwo.TheVariants as starts
use Rattle.operations.specs.declared.list.OutsideRange.{OutsideRange}
use Rattle.operations.specs.declared.portion.Portion.{Portion}
use Rattle.sched.specs.declared.schedule.Next.{Next}
use Rattle.sched.specs.declared.schedule.Scheduled.{Scheduled}
use Rattle.sched.specs.declared.scheduler.RingBufferScheduler.{RingBufferScheduler}
use Rattle.ends.specs.declared.reading_end.ReadCounter as ends_read
use Rattle.ends.specs.declared.reading_end.ReadingEnd as ends_reading
use Rattle.ends.specs.declared.writing_end.WrittenCounter as ends_written
use Rattle.ends.specs.declared.writing_end.WritingEnd as ends_writing
use Rattle.receiver.specs.declared.call.Call as receiver_call
use Rattle.receiver.specs.declared.receiver.Outcome as receiver_outcome
use Rattle.receiver.specs.declared.receiver.ReceiverState.{ReceiverState}
use Rattle.states.specs.declared.state.Failure as receiver_failure
use Rattle.states.specs.declared.state.OperationalState.{OperationalState}
use Rattle.planner.specs.declared.strips.Strips.{Strips}
use Rattle.flat.specs.Block.{block_type_at, bit_at}
use Rattle.flat.specs.Call.{call_at}
use Rattle.flat.specs.Failure.{failure_at, potential_failure_at}
use Rattle.flat.specs.List.{operations_at}
use Rattle.flat.specs.Operation.{operation_at}
use Rattle.flat.specs.Outcome.{outcome_at}
use Rattle.flat.specs.ReadingEnd.{read_counter_at, reading_end_at}
use Rattle.flat.specs.Receiver.{yes_at, receiver_at}
use Rattle.flat.specs.Results.{Told}
use Rattle.flat.specs.Scheduler.{scheduler_at}
use Rattle.flat.specs.Stands.{BoolStands, LayoutStands, FillStands, SchedulerStands, OperationStands, BlockStands, NoOperation, NoScheduler, NoBlock, NoFailure, NoOutcome, NoReceiver, NoCall, OperationsStands, RangesStands, WritingEndStands, ReadingEndStands, WrittenCounterStands, ReadCounterStands, FailureStands, StateStands, ReceiverStands, OutcomeStands, CallStands}
use Rattle.flat.specs.State.{state_at}
use Rattle.flat.specs.WritingEnd.{written_counter_at, writing_end_at}
use Rattle.flat.specs.declared.structs.Block.{Block}
use Rattle.flat.specs.declared.structs.BlockAnswer.{BlockAnswer}
use Rattle.flat.specs.declared.structs.BlocksAnswer.{BlocksAnswer}
use Rattle.flat.specs.declared.structs.CopyAnswer.{CopyAnswer}
use Rattle.flat.specs.declared.structs.EndedAnswer.{EndedAnswer}
use Rattle.flat.specs.declared.structs.FailureAnswer.{FailureAnswer}
use Rattle.flat.specs.declared.structs.GotAnswer.{GotAnswer}
use Rattle.flat.specs.declared.structs.NextAnswer.{NextAnswer}
use Rattle.flat.specs.declared.structs.Operation.{Operation}
use Rattle.flat.specs.declared.structs.OperationsAnswer.{OperationsAnswer}
use Rattle.flat.specs.declared.structs.PotentialFailureAnswer.{PotentialFailureAnswer}
use Rattle.flat.specs.declared.structs.ProposeAnswer.{ProposeAnswer}
use Rattle.flat.specs.declared.structs.RangesAnswer.{RangesAnswer}
use Rattle.flat.specs.declared.structs.ReadCounterAnswer.{ReadCounterAnswer}
use Rattle.flat.specs.declared.structs.ReadingEndAnswer.{ReadingEndAnswer}
use Rattle.flat.specs.declared.structs.ReceiverAnswer.{ReceiverAnswer}
use Rattle.flat.specs.declared.structs.ScheduleAnswer.{ScheduleAnswer}
use Rattle.flat.specs.declared.structs.SchedulerAnswer.{SchedulerAnswer}
use Rattle.flat.specs.declared.structs.StartsAnswer.{StartsAnswer}
use Rattle.flat.specs.declared.structs.StateAnswer.{StateAnswer}
use Rattle.flat.specs.declared.structs.StepAnswer.{StepAnswer}
use Rattle.flat.specs.declared.structs.StripsAnswer.{StripsAnswer}
use Rattle.flat.specs.declared.structs.U64Answer.{U64Answer}
use Rattle.flat.specs.declared.structs.WritingEndAnswer.{WritingEndAnswer}
use Rattle.flat.specs.declared.structs.WrittenCounterAnswer.{WrittenCounterAnswer}
use Rattle.flat.specs.declared.structs.WroteAnswer.{WroteAnswer}
use Rattle.flat.specs.declared.structs.Range.{Range}
use Rattle.flat.specs.declared.structs.Ranges.{Ranges}
use Rattle.flat.specs.declared.structs.Refusal.{Refusal}
use Rattle.flat.specs.declared.modulus.OptionU64.{OptionU64}
use Rattle.modular.specs.declared.Modulus.{Modulus}
use Rattle.operations.specs.declared.operation.ScheduledOperation.{ScheduledOperation}

-- ---- every answer
-- the number, then the values in the paper's order; those that are lacking are 0, and none has more than three
abbrev pub RefusalStands : Refusal → ℕ → List ℕ → Type 0
RefusalStands r n [] = (r.number ≡ n) × (r.a ≡ 0) × (r.b ≡ 0) × (r.c ≡ 0)
RefusalStands r n (x ∷ []) = (r.number ≡ n) × (r.a ≡ x) × (r.b ≡ 0) × (r.c ≡ 0)
RefusalStands r n (x ∷ y ∷ []) = (r.number ≡ n) × (r.a ≡ x) × (r.b ≡ y) × (r.c ≡ 0)
RefusalStands r n (x ∷ y ∷ z ∷ []) = (r.number ≡ n) × (r.a ≡ x) × (r.b ≡ y) × (r.c ≡ z)
RefusalStands r n (x ∷ y ∷ z ∷ more ∷ vs) = ⊥

-- `Stands` and `read` are of the fields beside the refusal: what they stand for, and what a host reads in them
abbrev pub Sent : {A : Type 0} → Refusal → (A → Type 0) → Type 0 → A → Told A → Type 0
Sent r Stands zeros read (Ok x) = RefusalStands r 0 [] × Stands x × (read ≡ x)
Sent r Stands zeros read (Err e) = (0 < e.0) × RefusalStands r e.0 e.1 × zeros

-- what a host reads: the value where the number is 0, and else the number and its three values
unfoldable pub result_at : {A : Type 0} → Refusal → A → Told A
result_at r x = cond (eqb r.number 0) (Ok x) (Err (r.number, r.a ∷ r.b ∷ r.c ∷ []))

-- a result with its values made three
abbrev pub in_full : {A : Type 0} → Told A → Told A
in_full (Ok x) = Ok x
in_full (Err e) = Err (e.0, get_or e.1 0 0 ∷ get_or e.1 1 0 ∷ get_or e.1 2 0 ∷ [])

-- ---- the readers of what only goes out
unfoldable pub layout_at : ℕ → BufferLayout
layout_at n = cond (eqb n 0) DataFreeData FreeDataFree

unfoldable pub fill_at : ℕ → BufferFillState
fill_at n = cond (eqb n 0) Empty (cond (eqb n 1) Partial Full)

abbrev pub block_at : Block → sched_block.Block
block_at f = block_of (block_type_at f.typ) (bit_at f.no) (record { 0 = f.off }) f.len

unfoldable pub next_at : NextAnswer → Option ScheduledOperation
next_at z = cond (eqb z.some 0) None (Some (operation_at z.operation))

abbrev pub range_at : Range → OutsideRange
range_at f = record { start = f.start; end = f.end; op = operation_at f.op }

unfoldable pub ranges_at : Ranges → OutsideRanges
ranges_at f = cond (eqb f.count 0) starts.None (cond (eqb f.count 1) (starts.One (range_at f.first)) (starts.Two (range_at f.first) (range_at f.second)))

abbrev pub start_at : ℕ → Operation → CumulativeOffset
start_at n o = record { start = n; op = operation_at o }

unfoldable pub starts_at : StartsAnswer → CumulativeOffsets
starts_at z =
    cond (eqb z.count 0) starts.None
    (cond (eqb z.count 1) (starts.One (start_at z.first_start z.first))
    (starts.Two (start_at z.first_start z.first) (start_at z.second_start z.second)))

unfoldable pub modulus_back : OptionU64 → Option Modulus
modulus_back f = cond (eqb f.some 0) None (Some (record { 0 = f.value }))

unfoldable pub number_back : OptionU64 → Option ℕ
number_back f = cond (eqb f.some 0) None (Some f.value)

-- ---- one number
abbrev pub NumberSent : U64Answer → Told ℕ → Type 0
NumberSent z = Sent z.refusal (λ n. z.value ≡ n) (z.value ≡ 0) z.value

abbrev pub BoolSent : U64Answer → Told Bool → Type 0
BoolSent z = Sent z.refusal (BoolStands z.value) (z.value ≡ 0) (yes_at z.value)

abbrev pub LayoutSent : U64Answer → Told BufferLayout → Type 0
LayoutSent z = Sent z.refusal (LayoutStands z.value) (z.value ≡ 0) (layout_at z.value)

abbrev pub FillSent : U64Answer → Told BufferFillState → Type 0
FillSent z = Sent z.refusal (FillStands z.value) (z.value ≡ 0) (fill_at z.value)

-- ---- the scheduler's
abbrev pub SchedulerSent : SchedulerAnswer → Told RingBufferScheduler → Type 0
SchedulerSent z = Sent z.refusal (SchedulerStands z.scheduler) (NoScheduler z.scheduler) (scheduler_at z.scheduler)

abbrev pub BlockSent : BlockAnswer → Told sched_block.Block → Type 0
BlockSent z = Sent z.refusal (BlockStands z.block) (NoBlock z.block) (block_at z.block)

abbrev pub BlocksSent : BlocksAnswer → Told Blocks → Type 0
BlocksSent z =
    Sent z.refusal
    (λ x. BlockStands z.block_0 x.0 × BlockStands z.block_1 x.1 × BlockStands z.block_2 x.2)
    (NoBlock z.block_0 × NoBlock z.block_1 × NoBlock z.block_2)
    (record { 0 = block_at z.block_0; 1 = block_at z.block_1; 2 = block_at z.block_2 })

abbrev pub NextStands : NextAnswer → Option ScheduledOperation → Type 0
NextStands z None = (z.some ≡ 0) × NoOperation z.operation
NextStands z (Some o) = (z.some ≡ 1) × OperationStands z.operation o

abbrev pub NextSent : NextAnswer → Told Next → Type 0
NextSent z =
    Sent z.refusal
    (λ x. NextStands z x.operation × (z.remainder ≡ x.remainder))
    (NextStands z None × (z.remainder ≡ 0))
    (record { operation = next_at z; remainder = z.remainder })

abbrev pub OperationsSent : OperationsAnswer → Told ScheduledOperations → Type 0
OperationsSent z = Sent z.refusal (OperationsStands z.operations) (OperationsStands z.operations starts.None) (operations_at z.operations)

abbrev pub ScheduleSent : ScheduleAnswer → Told Scheduled → Type 0
ScheduleSent z =
    Sent z.refusal
    (λ x. OperationsStands z.operations x.operations × (z.remainder ≡ x.remainder))
    (OperationsStands z.operations starts.None × (z.remainder ≡ 0))
    (record { operations = operations_at z.operations; remainder = z.remainder })

abbrev pub RangesSent : RangesAnswer → Told OutsideRanges → Type 0
RangesSent z = Sent z.refusal (RangesStands z.ranges) (RangesStands z.ranges starts.None) (ranges_at z.ranges)

-- a start, and the operation that starts there
abbrev pub StartStands : ℕ → Operation → CumulativeOffset → Type 0
StartStands n f x = (n ≡ x.start) × OperationStands f x.op

abbrev pub NoStart : ℕ → Operation → Type 0
NoStart n f = (n ≡ 0) × NoOperation f

abbrev pub StartsStand : StartsAnswer → CumulativeOffsets → Type 0
StartsStand z starts.None = (z.count ≡ 0) × NoStart z.first_start z.first × NoStart z.second_start z.second
StartsStand z (starts.One x) = (z.count ≡ 1) × StartStands z.first_start z.first x × NoStart z.second_start z.second
StartsStand z (starts.Two x y) = (z.count ≡ 2) × StartStands z.first_start z.first x × StartStands z.second_start z.second y

abbrev pub StartsSent : StartsAnswer → Told CumulativeOffsets → Type 0
StartsSent z = Sent z.refusal (StartsStand z) (StartsStand z starts.None) (starts_at z)

-- ---- of the copies and the ends
abbrev pub portion_at : ℕ → ℕ → Portion
portion_at n k = record { len = n; remainder = k }

abbrev pub PortionStands : ℕ → ℕ → Portion → Type 0
PortionStands n k p = (n ≡ p.len) × (k ≡ p.remainder)

abbrev pub NoPortion : ℕ → ℕ → Type 0
NoPortion n k = (n ≡ 0) × (k ≡ 0)

abbrev pub CopySent : CopyAnswer → Told (RingBufferScheduler × Portion) → Type 0
CopySent z =
    Sent z.refusal
    (λ x. SchedulerStands z.scheduler x.0 × PortionStands z.n z.remainder x.1)
    (NoScheduler z.scheduler × NoPortion z.n z.remainder)
    (scheduler_at z.scheduler, portion_at z.n z.remainder)

abbrev pub WritingEndSent : WritingEndAnswer → Told ends_writing.WritingEnd → Type 0
WritingEndSent z = Sent z.refusal (WritingEndStands z.end) (NoScheduler z.end.scheduler) (writing_end_at z.end)

abbrev pub ReadingEndSent : ReadingEndAnswer → Told ends_reading.ReadingEnd → Type 0
ReadingEndSent z = Sent z.refusal (ReadingEndStands z.end) (NoScheduler z.end.scheduler) (reading_end_at z.end)

abbrev pub WroteSent : WroteAnswer → Told (ends_writing.WritingEnd × Portion) → Type 0
WroteSent z =
    Sent z.refusal
    (λ x. WritingEndStands z.end x.0 × PortionStands z.n z.remainder x.1)
    (NoScheduler z.end.scheduler × NoPortion z.n z.remainder)
    (writing_end_at z.end, portion_at z.n z.remainder)

abbrev pub GotSent : GotAnswer → Told (ends_reading.ReadingEnd × Portion) → Type 0
GotSent z =
    Sent z.refusal
    (λ x. ReadingEndStands z.end x.0 × PortionStands z.n z.remainder x.1)
    (NoScheduler z.end.scheduler × NoPortion z.n z.remainder)
    (reading_end_at z.end, portion_at z.n z.remainder)

abbrev pub WrittenSent : WrittenCounterAnswer → Told ends_written.WrittenCounter → Type 0
WrittenSent z = Sent z.refusal (WrittenCounterStands z.counter) (z.counter.counter ≡ 0) (written_counter_at z.counter)

abbrev pub ReadSent : ReadCounterAnswer → Told ends_read.ReadCounter → Type 0
ReadSent z = Sent z.refusal (ReadCounterStands z.counter) (z.counter.counter ≡ 0) (read_counter_at z.counter)

-- ---- the receiver's
abbrev pub FailureSent : FailureAnswer → Told receiver_failure.Failure → Type 0
FailureSent z = Sent z.refusal (FailureStands z.failure) (NoFailure z.failure) (failure_at z.failure)

abbrev pub PotentialStands : PotentialFailureAnswer → Option receiver_failure.Failure → Type 0
PotentialStands z None = (z.some ≡ 0) × NoFailure z.failure
PotentialStands z (Some f) = (z.some ≡ 1) × FailureStands z.failure f

abbrev pub PotentialSent : PotentialFailureAnswer → Told (Option receiver_failure.Failure) → Type 0
PotentialSent z = Sent z.refusal (PotentialStands z) (PotentialStands z None) (potential_failure_at z.some z.failure)

abbrev pub StateSent : StateAnswer → Told OperationalState → Type 0
StateSent z = Sent z.refusal (StateStands z.state) ((z.state.kind ≡ 0) × NoFailure z.state.failure) (state_at z.state)

abbrev pub ReceiverSent : ReceiverAnswer → Told ReceiverState → Type 0
ReceiverSent z = Sent z.refusal (ReceiverStands z.receiver) (NoReceiver z.receiver) (receiver_at z.receiver)

abbrev pub StepSent : StepAnswer → Told receiver_call.Call → Type 0
StepSent z = Sent z.refusal (CallStands z.call) (NoCall z.call) (call_at z.call)

abbrev pub EndedSent : EndedAnswer → Told (ReceiverState × receiver_outcome.Outcome × ℕ) → Type 0
EndedSent z =
    Sent z.refusal
    (λ x. ReceiverStands z.receiver x.0 × OutcomeStands z.outcome x.1 × (z.used ≡ x.2))
    (NoReceiver z.receiver × NoOutcome z.outcome × (z.used ≡ 0))
    (receiver_at z.receiver, outcome_at z.outcome, z.used)

-- ---- the planner's
abbrev pub StripsSent : StripsAnswer → Told Strips → Type 0
StripsSent z =
    Sent z.refusal
    (λ x. (z.count ≡ x.count) × (z.height ≡ x.height) × (z.last ≡ x.last))
    ((z.count ≡ 0) × (z.height ≡ 0) × (z.last ≡ 0))
    (record { count = z.count; height = z.height; last = z.last })

abbrev pub RunsSent : ProposeAnswer → Told ℕ → Type 0
RunsSent z = Sent z.refusal (λ n. z.count ≡ n) (z.count ≡ 0) z.count

abbrev pub VerdictSent : Refusal → Told (Unit {0}) → Type 0
VerdictSent z = Sent z (λ x. Unit {0}) (Unit {0}) tt
