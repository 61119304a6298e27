-- Every exported answer tells what was flattened, and read back it is that: specs/Back.antt, of each answer of the libraries.
use Rattle.std.proofs.Common.{Result, Ok, Err, Option, Some, None, ℕ, Bool}
use Prim.Native.Nat.{ℕ}
use mathlib.Core.Path.{◌≡◌, refl, ap}
use mathlib.Core.List.{List, [], ◌∷◌}
use native.Mathlib.Omega.{arith}
use borrow.Author.Tests.{ne_eqb}
use Rattle.operations.proofs.Given.{number_some as scheduler_refusal_some}
use Rattle.operations.specs.Refusal as of_sched
use Rattle.operations.specs.declared.list.AtMostTwo.TheVariants as offsets
use Rattle.operations.specs.declared.refusal.Refusal as sched
use Rattle.operations.specs.declared.refusal.Refusal.TheVariants.{ZeroBufferLength, BufferTooLarge, ItemsWrittenOutOfBounds, ItemsReadOutofBounds, DataAvailOutOfBounds, OperationTooLarge, OperationTooLong, InconsistentOperationType, HeldFillWrong}
use Rattle.copies.proofs.PromisedValues.{number_some as copy_refusal_some}
use Rattle.copies.specs.Refusal as of_copies
use Rattle.copies.specs.declared.refusal.Refusal as copies
use Rattle.copies.specs.declared.refusal.Refusal.TheVariants.{Scheduler, RingMemory}
use Rattle.ends.proofs.PromisedValues.{number_some as end_refusal_some}
use Rattle.ends.specs.Refusal as of_ends
use Rattle.ends.specs.declared.refusal.Refusal as ends
use Rattle.ends.specs.declared.refusal.Refusal.TheVariants as end
use Rattle.states.proofs.PromisedValues.{number_of_lem as receiver_refusal_some}
use Rattle.states.specs.Refusal as of_receiver_lem
use Rattle.states.specs.declared.refusal.Refusal as receiver
use Rattle.states.specs.declared.refusal.Refusal.TheVariants.{Copy, AnswerMissing, Misfit, PendingFull}
use Rattle.flat.specs.Back.{RefusalStands, Sent, result_at, in_full, next_at, SchedulerSent, NumberSent, BoolSent, LayoutSent, FillSent, BlockSent, BlocksSent, NextSent, OperationsSent, ScheduleSent, StartsSent, RangesSent, CopySent, WritingEndSent, WroteSent, WrittenSent, ReadingEndSent, GotSent, ReadSent, FailureSent, PotentialSent, StateSent, ReceiverSent, StepSent, EndedSent, StartsStand}
use Rattle.flat.specs.Block.{flat_layout, flat_fill_state, flat_block_answer, flat_blocks}
use Rattle.flat.specs.Call.{flat_step}
use Rattle.flat.specs.Copy.{flat_copied}
use Rattle.flat.specs.Counter.{flat_counter, flat_offset, flat_amount, flat_bool}
use Rattle.flat.specs.Failure.{potential_failure_at, flat_failure_answer, flat_potential_failure}
use Rattle.flat.specs.Flat.{no_refusal, flat_refusal, flat_copy_refusal, flat_end_refusal, flat_receiver_refusal}
use Rattle.flat.specs.List.{flat_operations_answer, flat_schedule, flat_starts_answer, flat_ranges_answer, starts_of}
use Rattle.flat.specs.Operation.{flat_next, no_operation}
use Rattle.flat.specs.ReadingEnd.{flat_reading_end_answer, flat_got, flat_read_counter}
use Rattle.flat.specs.Receiver.{flat_receiver_answer, flat_ended}
use Rattle.flat.specs.Results.{Told, told, told_of, by_scheduler, by_copy, by_end, by_receiver}
use Rattle.flat.specs.Scheduler.{flat_checked}
use Rattle.flat.specs.State.{flat_state_answer}
use Rattle.flat.specs.WritingEnd.{flat_writing_end_answer, flat_wrote, flat_written_counter}
use Rattle.flat.specs.declared.structs.Refusal.{Refusal}
use Rattle.flat.proofs.BackLaws.{scheduler_back, writing_end_back, reading_end_back, operation_back, operations_back, starts_back, ranges_back, block_back, layout_back, fill_back, yes_back, failure_back, state_back, outcome_back, receiver_back, call_back}
use Rattle.flat.proofs.StandsLaws.{bool_stands, layout_stands, fill_stands, scheduler_stands, operation_stands, operations_stand, ranges_stand, block_stands, failure_zeros, failure_stands, state_stands, receiver_stands, outcome_stands, outcome_zeros, call_stands, receiver_zeros, call_zeros}
use Rattle.sched.specs.declared.block.Block.{Block}
use Rattle.sched.specs.declared.block.Blocks.{Blocks}
use Rattle.sched.specs.declared.block.BufferFillState.{BufferFillState}
use Rattle.sched.specs.declared.block.BufferLayout.{BufferLayout}
use Rattle.receiver.specs.declared.call.Call.{Call}
use Rattle.copies.specs.declared.Copied.{Copied}
use Rattle.operations.specs.declared.counter.Counter.{Counter}
use Rattle.operations.specs.Lists.{CumulativeOffsets, OutsideRanges, ScheduledOperations}
use Rattle.receiver.specs.declared.receiver.Ended.{Ended}
use Rattle.states.specs.declared.state.Failure.{Failure}
use Rattle.ends.specs.declared.reading_end.Got.{Got}
use Rattle.sched.specs.declared.schedule.Next.{Next}
use Rattle.operations.specs.declared.counter.Offset.{Offset}
use Rattle.states.specs.declared.state.OperationalState.{OperationalState}
use Rattle.ends.specs.declared.reading_end.ReadCounter.{ReadCounter}
use Rattle.ends.specs.declared.reading_end.ReadingEnd.{ReadingEnd}
use Rattle.receiver.specs.declared.receiver.ReceiverState.{ReceiverState}
use Rattle.sched.specs.declared.scheduler.RingBufferScheduler.{RingBufferScheduler}
use Rattle.sched.specs.declared.schedule.Scheduled.{Scheduled}
use Rattle.operations.specs.declared.operation.ScheduledOperation.{ScheduledOperation}
use Rattle.ends.specs.declared.writing_end.WritingEnd.{WritingEnd}
use Rattle.ends.specs.declared.writing_end.WrittenCounter.{WrittenCounter}
use Rattle.ends.specs.declared.writing_end.Wrote.{Wrote}

-- ---- the refusals: the number, and the values in order
pub accepted : RefusalStands no_refusal 0 []
accepted = (refl, refl, refl, refl)

pub scheduler_refusal : (e : sched.Refusal) → RefusalStands (flat_refusal e) (of_sched.number_of e) (of_sched.values_of e)
scheduler_refusal ZeroBufferLength = (refl, refl, refl, refl)
scheduler_refusal (BufferTooLarge n) = (refl, refl, refl, refl)
scheduler_refusal (ItemsWrittenOutOfBounds n w) = (refl, refl, refl, refl)
scheduler_refusal (ItemsReadOutofBounds n r) = (refl, refl, refl, refl)
scheduler_refusal (DataAvailOutOfBounds n w r) = (refl, refl, refl, refl)
scheduler_refusal (OperationTooLarge t n top) = (refl, refl, refl, refl)
scheduler_refusal (OperationTooLong n) = (refl, refl, refl, refl)
scheduler_refusal InconsistentOperationType = (refl, refl, refl, refl)
scheduler_refusal HeldFillWrong = (refl, refl, refl, refl)

pub copy_refusal : (e : copies.Refusal) → RefusalStands (flat_copy_refusal e) (of_copies.number_of e) (of_copies.values_of e)
copy_refusal (Scheduler e) = scheduler_refusal e
copy_refusal RingMemory = (refl, refl, refl, refl)

pub end_refusal : (e : ends.Refusal) → RefusalStands (flat_end_refusal e) (of_ends.number_of e) (of_ends.values_of e)
end_refusal (end.Copy e) = copy_refusal e
end_refusal end.RanBack = (refl, refl, refl, refl)

pub receiver_refusal : (e : receiver.Refusal) → RefusalStands (flat_receiver_refusal e) (of_receiver_lem.number_of e) (of_receiver_lem.values_of e)
receiver_refusal (Copy e) = copy_refusal e
receiver_refusal AnswerMissing = (refl, refl, refl, refl)
receiver_refusal (Misfit place) = (refl, refl, refl, refl)
receiver_refusal PendingFull = (refl, refl, refl, refl)

no_starts : StartsStand (starts_of no_refusal 0 0 no_operation 0 no_operation) offsets.None
no_starts = (refl, (refl, (refl, refl, refl)), (refl, (refl, refl, refl)))

-- ---- of the scheduler
pub checked_sent : (x : Result RingBufferScheduler sched.Refusal) → SchedulerSent (flat_checked x) (told by_scheduler x)
checked_sent (Ok s) = (accepted, scheduler_stands s, scheduler_back s)
checked_sent (Err e) = (scheduler_refusal_some e, scheduler_refusal e, (refl, refl, refl, refl))

pub counter_sent : (x : Result Counter sched.Refusal) → NumberSent (flat_counter x) (told_of (λ c. c.0) by_scheduler x)
counter_sent (Ok c) = (accepted, refl, refl)
counter_sent (Err e) = (scheduler_refusal_some e, scheduler_refusal e, refl)

pub offset_sent : (x : Result Offset sched.Refusal) → NumberSent (flat_offset x) (told_of (λ off. off.0) by_scheduler x)
offset_sent (Ok off) = (accepted, refl, refl)
offset_sent (Err e) = (scheduler_refusal_some e, scheduler_refusal e, refl)

pub amount_sent : (x : Result ℕ sched.Refusal) → NumberSent (flat_amount x) (told by_scheduler x)
amount_sent (Ok n) = (accepted, refl, refl)
amount_sent (Err e) = (scheduler_refusal_some e, scheduler_refusal e, refl)

pub bool_sent : (x : Result Bool sched.Refusal) → BoolSent (flat_bool x) (told by_scheduler x)
bool_sent (Ok b) = (accepted, bool_stands b, yes_back b)
bool_sent (Err e) = (scheduler_refusal_some e, scheduler_refusal e, refl)

pub layout_sent : (x : Result BufferLayout sched.Refusal) → LayoutSent (flat_layout x) (told by_scheduler x)
layout_sent (Ok l) = (accepted, layout_stands l, layout_back l)
layout_sent (Err e) = (scheduler_refusal_some e, scheduler_refusal e, refl)

pub fill_sent : (x : Result BufferFillState sched.Refusal) → FillSent (flat_fill_state x) (told by_scheduler x)
fill_sent (Ok f) = (accepted, fill_stands f, fill_back f)
fill_sent (Err e) = (scheduler_refusal_some e, scheduler_refusal e, refl)

pub block_sent : (x : Result Block sched.Refusal) → BlockSent (flat_block_answer x) (told by_scheduler x)
block_sent (Ok b) = (accepted, block_stands b, block_back b)
block_sent (Err e) = (scheduler_refusal_some e, scheduler_refusal e, (refl, refl, refl, refl))

pub blocks_sent : (x : Result Blocks sched.Refusal) → BlocksSent (flat_blocks x) (told by_scheduler x)
blocks_sent (Ok b) = (accepted, (block_stands b.0, block_stands b.1, block_stands b.2), rw (block_back b.0, block_back b.1, block_back b.2))
blocks_sent (Err e) = (scheduler_refusal_some e, scheduler_refusal e, ((refl, refl, refl, refl), (refl, refl, refl, refl), (refl, refl, refl, refl)))

pub next_sent : (x : Result Next sched.Refusal) → NextSent (flat_next x) (told by_scheduler x)
unfolding next_at
next_sent (Ok n) = by n.operation
  where
    by : (o : Option ScheduledOperation) → NextSent (flat_next (Ok (record { operation = o; remainder = n.remainder }))) (Ok (record { operation = o; remainder = n.remainder }))
    by (Some o) = (accepted, ((refl, operation_stands o), refl), rw (operation_back o))
    by None = (accepted, ((refl, (refl, refl, refl)), refl), refl)
next_sent (Err e) = (scheduler_refusal_some e, scheduler_refusal e, ((refl, (refl, refl, refl)), refl))

pub operations_sent : (x : Result ScheduledOperations sched.Refusal) → OperationsSent (flat_operations_answer x) (told by_scheduler x)
operations_sent (Ok ops) = (accepted, operations_stand ops, operations_back ops)
operations_sent (Err e) = (scheduler_refusal_some e, scheduler_refusal e, operations_stand offsets.None)

pub schedule_sent : (x : Result Scheduled sched.Refusal) → ScheduleSent (flat_schedule x) (told by_scheduler x)
schedule_sent (Ok r) = (accepted, (operations_stand r.operations, refl), rw (operations_back r.operations))
schedule_sent (Err e) = (scheduler_refusal_some e, scheduler_refusal e, (operations_stand offsets.None, refl))

pub starts_sent : (x : Result CumulativeOffsets sched.Refusal) → StartsSent (flat_starts_answer x) (told by_scheduler x)
starts_sent (Ok offsets.None) = (accepted, no_starts, starts_back offsets.None)
starts_sent (Ok (offsets.One x)) = (accepted, (refl, (refl, operation_stands x.op), (refl, (refl, refl, refl))), starts_back (offsets.One x))
starts_sent (Ok (offsets.Two x y)) = (accepted, (refl, (refl, operation_stands x.op), (refl, operation_stands y.op)), starts_back (offsets.Two x y))
starts_sent (Err e) = (scheduler_refusal_some e, scheduler_refusal e, no_starts)

pub ranges_sent : (x : Result OutsideRanges sched.Refusal) → RangesSent (flat_ranges_answer x) (told by_scheduler x)
ranges_sent (Ok ops) = (accepted, ranges_stand ops, ranges_back ops)
ranges_sent (Err e) = (scheduler_refusal_some e, scheduler_refusal e, ranges_stand offsets.None)

-- ---- of the copies and the ends; with a record, how many bytes were moved and how many left over
pub copied_sent : (x : Result Copied copies.Refusal) → CopySent (flat_copied x) (told_of (λ m. (m.scheduler, m.portion)) by_copy x)
copied_sent (Ok m) = (accepted, (scheduler_stands m.scheduler, (refl, refl)), refl)
copied_sent (Err e) = (copy_refusal_some e, copy_refusal e, ((refl, refl, refl, refl), (refl, refl)))

pub writing_sent : (x : Result WritingEnd ends.Refusal) → WritingEndSent (flat_writing_end_answer x) (told by_end x)
writing_sent (Ok e) = (accepted, scheduler_stands e.scheduler, writing_end_back e)
writing_sent (Err e) = (end_refusal_some e, end_refusal e, (refl, refl, refl, refl))

pub wrote_sent : (x : Result Wrote ends.Refusal) → WroteSent (flat_wrote x) (told_of (λ m. (m.end, m.portion)) by_end x)
wrote_sent (Ok m) = (accepted, (scheduler_stands m.end.scheduler, (refl, refl)), refl)
wrote_sent (Err e) = (end_refusal_some e, end_refusal e, ((refl, refl, refl, refl), (refl, refl)))

pub written_sent : (x : Result WrittenCounter ends.Refusal) → WrittenSent (flat_written_counter x) (told by_end x)
written_sent (Ok c) = (accepted, refl, refl)
written_sent (Err e) = (end_refusal_some e, end_refusal e, refl)

pub reading_sent : (x : Result ReadingEnd ends.Refusal) → ReadingEndSent (flat_reading_end_answer x) (told by_end x)
reading_sent (Ok e) = (accepted, scheduler_stands e.scheduler, reading_end_back e)
reading_sent (Err e) = (end_refusal_some e, end_refusal e, (refl, refl, refl, refl))

pub got_sent : (x : Result Got ends.Refusal) → GotSent (flat_got x) (told_of (λ m. (m.end, m.portion)) by_end x)
got_sent (Ok m) = (accepted, (scheduler_stands m.end.scheduler, (refl, refl)), refl)
got_sent (Err e) = (end_refusal_some e, end_refusal e, ((refl, refl, refl, refl), (refl, refl)))

pub read_sent : (x : Result ReadCounter ends.Refusal) → ReadSent (flat_read_counter x) (told by_end x)
read_sent (Ok c) = (accepted, refl, refl)
read_sent (Err e) = (end_refusal_some e, end_refusal e, refl)

-- ---- of the receiver; with a receiver, what the call came to and how many answers it used
pub failure_sent : (x : Result Failure receiver.Refusal) → FailureSent (flat_failure_answer x) (told by_receiver x)
failure_sent (Ok f) = (accepted, failure_stands f, failure_back f)
failure_sent (Err e) = (receiver_refusal_some e, receiver_refusal e, failure_zeros)

pub potential_sent : (x : Result (Option Failure) receiver.Refusal) → PotentialSent (flat_potential_failure x) (told by_receiver x)
unfolding potential_failure_at
potential_sent (Ok (Some f)) = (accepted, (refl, failure_stands f), ap Some (failure_back f))
potential_sent (Ok None) = (accepted, (refl, failure_zeros), refl)
potential_sent (Err e) = (receiver_refusal_some e, receiver_refusal e, (refl, failure_zeros))

pub state_sent : (x : Result OperationalState receiver.Refusal) → StateSent (flat_state_answer x) (told by_receiver x)
state_sent (Ok s) = (accepted, state_stands s, state_back s)
state_sent (Err e) = (receiver_refusal_some e, receiver_refusal e, (refl, failure_zeros))

pub made_sent : (x : Result ReceiverState receiver.Refusal) → ReceiverSent (flat_receiver_answer x) (told by_receiver x)
made_sent (Ok q) = (accepted, receiver_stands q, receiver_back q)
made_sent (Err e) = (receiver_refusal_some e, receiver_refusal e, receiver_zeros)

pub step_sent : (x : Result Call receiver.Refusal) → StepSent (flat_step x) (told by_receiver x)
step_sent (Ok c) = (accepted, call_stands c, call_back c)
step_sent (Err e) = (receiver_refusal_some e, receiver_refusal e, call_zeros)

pub ended_sent : (x : Result Ended receiver.Refusal) → EndedSent (flat_ended x) (told_of (λ m. (m.receiver, m.outcome, m.used)) by_receiver x)
ended_sent (Ok m) = (accepted, (receiver_stands m.receiver, outcome_stands m.outcome, refl), rw (receiver_back m.receiver, outcome_back m.outcome))
ended_sent (Err e) = (receiver_refusal_some e, receiver_refusal e, (receiver_zeros, outcome_zeros, refl))

-- ---- what is sent so reads back as it was, in every answer
module _ {A : Type 0} (r : Refusal) (Stands : A → Type 0) (zeros : Type 0) (read : A) where
  values_back : (n : ℕ) (vs : List ℕ) → RefusalStands r n vs → ◌≡◌ {A = Told A} (Err (r.number, r.a ∷ r.b ∷ r.c ∷ [])) (in_full (Err (n, vs)))
  values_back n [] (p, a, b, c) = rw (p, a, b, c)
  values_back n (x ∷ []) (p, a, b, c) = rw (p, a, b, c)
  values_back n (x ∷ y ∷ []) (p, a, b, c) = rw (p, a, b, c)
  values_back n (x ∷ y ∷ z ∷ []) (p, a, b, c) = rw (p, a, b, c)
  values_back n (x ∷ y ∷ z ∷ more ∷ vs) never = absurd never

  number_back_lem : (n : ℕ) (vs : List ℕ) → RefusalStands r n vs → r.number ≡ n
  number_back_lem n [] p = p.0
  number_back_lem n (x ∷ []) p = p.0
  number_back_lem n (x ∷ y ∷ []) p = p.0
  number_back_lem n (x ∷ y ∷ z ∷ []) p = p.0
  number_back_lem n (x ∷ y ∷ z ∷ more ∷ vs) never = absurd never

  pub result_back : (t : Told A) → Sent r Stands zeros read t → result_at r read ≡ in_full t
  unfolding result_at
  result_back (Ok x) (p, s, q) = rw (p.0, q)
  result_back (Err e) (some, p, z) = rw (ne_eqb r.number 0 (λ q. omega (arith, number_back_lem e.0 e.1 p))) (values_back e.0 e.1 p)
