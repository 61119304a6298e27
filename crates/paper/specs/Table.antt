-- The rows of docs/PAPER.md, "The table", that have a name, under one statement. Each is of the call: of whatever the
-- contract attached to it allows on these arguments. Only the rows of 8 bits, which no call has, are of the definition.
use Rattle.std.specs.Prelude.{ℕ, ◌-◌, ◌+◌, ◌^◌, ◌≡◌, List, Result, Ok, Err, Option, Some, None}
use denote.Triple.Clauses.{Lasts, at_exit}
use borrow.Fn.Kinds.{ParamKind, ResultKind, Out, Dens, res_t, ended_of}
use Rattle.modular.specs.Modulus.{double_at, full_range}
use Rattle.modular.specs.declared.Modulus.{Modulus}
use Rattle.operations.specs.Operation.{operation_of}
use Rattle.operations.specs.Refusal.{number_of}
use Rattle.sched.specs.Scheduler.{record_of, scheduler_of}
use Rattle.sched.specs.declared.block.BufferFillState.TheVariants.{Full}
use Rattle.sched.specs.declared.block.BufferLayout.TheVariants.{DataFreeData}
use Rattle.operations.specs.declared.counter.Counter.{Counter}
use Rattle.operations.specs.Lists.{ScheduledOperations}
use Rattle.operations.specs.declared.list.AtMostTwo.TheVariants as list
use Rattle.operations.specs.declared.operation.OperationType.{OperationType}
use Rattle.operations.specs.declared.operation.OperationType.TheVariants.{Read, Write}
use Rattle.operations.specs.declared.operation.ScheduledOperation.{ScheduledOperation}
use Rattle.operations.specs.declared.refusal.Refusal.TheVariants.{DataAvailOutOfBounds, OperationTooLarge, HeldFillWrong}
use Rattle.sched.specs.declared.scheduler.RingBufferScheduler.{RingBufferScheduler}
use Rattle.copies.specs.declared.refusal.Refusal.TheVariants.{Scheduler}
use Rattle.copies.proofs.demand_ring_memory.Kinds as memory_kinds
use Rattle.copies.proofs.demand_ring_memory.Reads as memory
use Rattle.sched.proofs.scheduler.RingBufferScheduler.demand_soundness.Kinds as sound_kinds
use Rattle.sched.proofs.scheduler.RingBufferScheduler.demand_soundness.Reads as demand_soundness
use Rattle.sched.proofs.scheduler.RingBufferScheduler.try_from_counters.Kinds as made_kinds
use Rattle.sched.proofs.scheduler.RingBufferScheduler.try_from_counters.Reads as made
use Rattle.sched.proofs.scheduler.RingBufferScheduler.data_avail.Kinds as data_kinds
use Rattle.sched.proofs.scheduler.RingBufferScheduler.data_avail.Reads as data_avail
use Rattle.sched.proofs.scheduler.RingBufferScheduler.schedule_next_contiguous_operation.Kinds as next_kinds
use Rattle.sched.proofs.scheduler.RingBufferScheduler.schedule_next_contiguous_operation.Reads as schedule_next
use Rattle.sched.proofs.scheduler.RingBufferScheduler.schedule_contiguous_operations.Kinds as schedule_kinds
use Rattle.sched.proofs.scheduler.RingBufferScheduler.schedule_contiguous_operations.Reads as schedule
use Rattle.sched.proofs.scheduler.RingBufferScheduler.schedule_reads.Kinds as reads_kinds
use Rattle.sched.proofs.scheduler.RingBufferScheduler.schedule_reads.Reads as reads
use Rattle.sched.proofs.scheduler.RingBufferScheduler.fill_state.Kinds as fill_kinds
use Rattle.sched.proofs.scheduler.RingBufferScheduler.fill_state.Reads as fill_state
use Rattle.sched.proofs.scheduler.RingBufferScheduler.layout.Kinds as layout_kinds
use Rattle.sched.proofs.scheduler.RingBufferScheduler.layout.Reads as layout_call
use Rattle.sched.proofs.scheduler.RingBufferScheduler.operation_offset.Kinds as offset_kinds
use Rattle.sched.proofs.scheduler.RingBufferScheduler.operation_offset.Reads as operation_offset
use Rattle.sched.proofs.scheduler.RingBufferScheduler.try_register_write.Kinds as register_kinds
use Rattle.sched.proofs.scheduler.RingBufferScheduler.try_register_write.Reads as register
use Rattle.states.specs.declared.state.Failure.TheVariants.{Io}
use Rattle.states.specs.declared.state.OperationalState.{OperationalState}
use Rattle.states.specs.declared.state.OperationalState.TheVariants.{Draining, Terminated}
use Rattle.states.proofs.state.OperationalState.advance_state_towards_termination.Kinds as advance_kinds
use Rattle.states.proofs.state.OperationalState.advance_state_towards_termination.Reads as advance
use Rattle.operations.specs.declared.refusal.Refusal.{Refusal}

-- whatever the contract L allows as an answer to these arguments has P
abbrev Answers : (ps : List (ParamKind 0)) (r : ResultKind 0) → Out 0 ps r → Dens tt ps → ((res_t r tt).Denot → Type 0) → Type 0
Answers ps r L a P = (z : (res_t r tt).Denot) (ws : Lasts (ended_of 0 ps r) tt a) → L tt a z (at_exit (ended_of 0 ps r) tt a ws) → P z

-- L, written, read
abbrev pub ring : ℕ → ℕ → ℕ → RingBufferScheduler
ring l w r = scheduler_of l (record { 0 = w }) (record { 0 = r })

-- with this fill
abbrev pub holding : ℕ → ℕ → ℕ → ℕ → RingBufferScheduler
holding l w r n = record_of l (record { 0 = w }) (record { 0 = r }) n

abbrev pub counter : ℕ → Counter
counter c = record { 0 = c }

-- a read, a write of n from offset a on
abbrev pub read_at : ℕ → ℕ → ScheduledOperation
read_at a n = operation_of Read (record { 0 = a }) n

abbrev pub write_at : ℕ → ℕ → ScheduledOperation
write_at a n = operation_of Write (record { 0 = a }) n

abbrev pub of8 : ℕ → Modulus
of8 m = record { 0 = m }

-- the number that a record is refused with, 0 where it is sound
abbrev pub refused_with : Result RingBufferScheduler Refusal → ℕ
refused_with (Ok s) = 0
refused_with (Err e) = number_of e

-- `try_from_counters` refuses these counters with this number
abbrev Refuses : ℕ → ℕ → ℕ → ℕ → Type 0
Refuses l w r k = Answers made_kinds.ps made_kinds.r made.Learnt (l, (counter w, (counter r, tt))) (λ z. refused_with z ≡ k)

-- the offset of an operation is a
abbrev OffsetIs : RingBufferScheduler → OperationType → ℕ → Type 0
OffsetIs s t a = Answers offset_kinds.ps offset_kinds.r operation_offset.Learnt (s, (t, tt)) (λ z. z ≡ Ok (record { 0 = a }))

-- of m items asked, this operation is the next, or this is the list, and so many are left over
abbrev Next : RingBufferScheduler → OperationType → ℕ → Option ScheduledOperation → ℕ → Type 0
Next s t m o left = Answers next_kinds.ps next_kinds.r schedule_next.Learnt (s, (t, (m, tt))) (λ z. z ≡ Ok (record { operation = o; remainder = left }))

abbrev Schedules : RingBufferScheduler → OperationType → ℕ → ScheduledOperations → ℕ → Type 0
Schedules s t m ops left = Answers schedule_kinds.ps schedule_kinds.r schedule.Learnt (s, (t, (m, tt))) (λ z. z ≡ Ok (record { operations = ops; remainder = left }))

-- a state is advanced by another to this one
abbrev Advances : OperationalState → OperationalState → OperationalState → Type 0
Advances s by to = Answers advance_kinds.ps advance_kinds.r advance.Learnt (s, (by, tt)) (λ z. z ≡ Ok to)

pub record Table : Type 0 where
  pub rolled_over_data : Answers data_kinds.ps data_kinds.r data_avail.Learnt (ring (2 ^ 63) 5 (2 ^ 64 - 3), tt) (λ z. z ≡ Ok 8)
  pub rolled_over_read :
      Answers reads_kinds.ps reads_kinds.r reads.Learnt (ring (2 ^ 63) 5 (2 ^ 64 - 3), (8, tt))
      (λ z. z ≡ Ok (record { operations = list.Two (read_at (2 ^ 63 - 3) 3) (read_at 0 5); remainder = 0 }))
  pub too_long : Refuses (2 ^ 63 + 1) 0 0 2
  pub written_too_far : Refuses 10 20 20 3
  pub read_too_far : Refuses 10 0 20 4
  pub full : Answers fill_kinds.ps fill_kinds.r fill_state.Learnt (ring 10 10 0, tt) (λ z. z ≡ Ok Full)
  pub full_layout : Answers layout_kinds.ps layout_kinds.r layout_call.Learnt (ring 10 10 0, tt) (λ z. z ≡ Ok DataFreeData)
  pub overfull : Refuses 10 11 0 5
  pub held_fill_wrong : Answers sound_kinds.ps sound_kinds.r demand_soundness.Learnt (holding 10 7 3 5, tt) (λ z. z ≡ Err HeldFillWrong)
  pub held_fill_wrong_number : number_of HeldFillWrong ≡ 20
  pub held_fill : Answers data_kinds.ps data_kinds.r data_avail.Learnt (holding 10 7 3 4, tt) (λ z. z ≡ Ok 4)
  pub overfull_before_fill : Answers sound_kinds.ps sound_kinds.r demand_soundness.Learnt (holding 10 11 0 11, tt) (λ z. z ≡ Err (DataAvailOutOfBounds 10 (counter 11) (counter 0)))
  pub overfull_before_a_wrong_fill : Answers sound_kinds.ps sound_kinds.r demand_soundness.Learnt (holding 10 11 0 4, tt) (λ z. z ≡ Err (DataAvailOutOfBounds 10 (counter 11) (counter 0)))
  pub fill_before_memory : Answers memory_kinds.ps memory_kinds.r memory.Learnt (holding 10 7 3 5, (9, tt)) (λ z. z ≡ Err (Scheduler HeldFillWrong))
  pub built_fill : Answers made_kinds.ps made_kinds.r made.Learnt (10, (counter 0, (counter 11, tt))) (λ z. z ≡ Ok (holding 10 0 11 9))
  pub kept_fill : Answers register_kinds.ps register_kinds.r register.Learnt (holding 10 19 12 7, (3, tt)) (λ z. z ≡ Ok (holding 10 2 12 10))
  pub wrapped_data : Answers data_kinds.ps data_kinds.r data_avail.Learnt (ring 10 0 11, tt) (λ z. z ≡ Ok 9)
  pub offset_at_the_length : OffsetIs (ring 10 10 3) Write 0
  pub offset_at_the_top : OffsetIs (ring (2 ^ 63) (2 ^ 63 - 1) (2 ^ 64 - 1)) Read (2 ^ 63 - 1)
  pub sum_above_64_bits :
      Answers register_kinds.ps register_kinds.r register.Learnt (ring (2 ^ 63 - 1) (2 ^ 64 - 3) (2 ^ 64 - 3), (2 ^ 63 - 1, tt))
      (λ z. z ≡ Ok (ring (2 ^ 63 - 1) (2 ^ 63 - 2) (2 ^ 64 - 3)))
  pub next_of_9 : Next (ring 10 7 3) Write 9 (Some (write_at 7 3)) 6
  pub list_of_9 : Schedules (ring 10 7 3) Write 9 (list.Two (write_at 7 3) (write_at 0 3)) 3
  pub next_of_none : Next (ring 10 3 3) Read 4 None 4
  pub list_of_none : Schedules (ring 10 3 3) Read 4 list.None 4
  pub next_of_most : Next (ring 1 0 0) Write (2 ^ 64 - 1) (Some (write_at 0 1)) (2 ^ 64 - 2)
  pub list_of_most : Schedules (ring 1 0 0) Write (2 ^ 64 - 1) (list.One (write_at 0 1)) (2 ^ 64 - 2)
  pub write_of_4 :
      Answers register_kinds.ps register_kinds.r register.Learnt (ring 10 19 12, (4, tt)) (λ z. z ≡ Err (OperationTooLarge Write 4 3))
  pub write_of_4_number : number_of (OperationTooLarge Write 4 3) ≡ 6
  pub write_of_3 : Answers register_kinds.ps register_kinds.r register.Learnt (ring 10 19 12, (3, tt)) (λ z. z ≡ Ok (ring 10 2 12))
  pub double_of_100 : double_at 8 (of8 100) ≡ Some (of8 200)
  pub double_of_128 : double_at 8 (of8 128) ≡ Some full_range
  pub double_of_129 : double_at 8 (of8 129) ≡ None
  pub draining_by_blocked : Advances (Draining (Io 32)) (Terminated (Io 11)) (Draining (Io 32))
  pub draining_by_the_end : Advances (Draining (Io 5)) (Terminated (Io 32)) (Terminated (Io 5))
  pub terminated_11_by_draining : Advances (Terminated (Io 11)) (Draining (Io 5)) (Draining (Io 5))
