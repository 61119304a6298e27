-- Any bits that a host hands in stand for something, and here for what, number by number: also for the numbers that never go out, and whatever
-- stands in the fields that a kind does not use.
use Rattle.std.specs.Prelude.{ℕ, ◌<◌, ◌≡◌, true, false, Some, None}
use Rattle.sched.specs.declared.block.Bit.TheVariants.{Zero, One}
use Rattle.sched.specs.declared.block.BlockType.TheVariants.{Free, Data}
use Rattle.operations.specs.declared.diff.Diff.TheVariants.{Same, Different}
use Rattle.operations.specs.declared.list.AtMostTwo.TheVariants as list
use Rattle.operations.specs.declared.operation.OperationType.TheVariants.{Read, Write}
use Rattle.receiver.specs.declared.call.Phase.TheVariants.{Receive, Send, Shutdown, Finished}
use Rattle.receiver.specs.declared.receiver.Came.TheVariants as came
use Rattle.states.specs.declared.state.OperationalState.TheVariants.{Normal, Draining, Terminated}
use Rattle.flat.specs.Block.{block_type_at, bit_at}
use Rattle.flat.specs.Call.{ending_at, phase_at, call_at}
use Rattle.flat.specs.Diff.{diff_at}
use Rattle.flat.specs.Failure.{failure_at, potential_failure_at}
use Rattle.flat.specs.List.{operations_at}
use Rattle.flat.specs.Operation.{type_at, operation_at}
use Rattle.flat.specs.Outcome.{outcome_at}
use Rattle.flat.specs.Receiver.{yes_at, receiver_at}
use Rattle.flat.specs.ReadingEnd.{reading_end_at}
use Rattle.flat.specs.Scheduler.{scheduler_at}
use Rattle.flat.specs.Stands.{SchedulerStands, WritingEndStands, ReadingEndStands, FailureRead}
use Rattle.flat.specs.State.{state_at}
use Rattle.flat.specs.WritingEnd.{writing_end_at}
use Rattle.flat.specs.declared.structs.Call.{Call}
use Rattle.flat.specs.declared.structs.Diff.{Diff}
use Rattle.flat.specs.declared.structs.Ending.{Ending}
use Rattle.flat.specs.declared.structs.Failure.{Failure}
use Rattle.flat.specs.declared.structs.Operation.{Operation}
use Rattle.flat.specs.declared.structs.Operations.{Operations}
use Rattle.flat.specs.declared.structs.Outcome.{Outcome}
use Rattle.flat.specs.declared.structs.Phase.{Phase}
use Rattle.flat.specs.declared.structs.ReadingEnd.{ReadingEnd}
use Rattle.flat.specs.declared.structs.Receiver.{Receiver}
use Rattle.flat.specs.declared.structs.Scheduler.{Scheduler}
use Rattle.flat.specs.declared.structs.State.{State}
use Rattle.flat.specs.declared.structs.WritingEnd.{WritingEnd}

-- of two, 0 is the first and any other number the second
abbrev pub OfTwo : {A : Type 0} → (ℕ → A) → A → A → Type 0
OfTwo at x y = (at 0 ≡ x) × ((n : ℕ) → 0 < n → at n ≡ y)

pub record AnyBits : Type 0 where
  pub types : OfTwo type_at Read Write
  pub block_types : OfTwo block_type_at Free Data
  pub bits : OfTwo bit_at Zero One
  pub bools : OfTwo yes_at false true
  pub potentials : (f : Failure) → OfTwo (λ n. potential_failure_at n f) None (Some (failure_at f))
  pub differences : (d : Diff) → (d.different ≡ 0 → diff_at d ≡ Same d.old) × (0 < d.different → diff_at d ≡ Different d.old d.new)
  -- of several, any number past the last is the last
  pub lists : (ops : Operations) →
      (ops.count ≡ 0 → operations_at ops ≡ list.None) × (ops.count ≡ 1 → operations_at ops ≡ list.One (operation_at ops.first)) ×
      (1 < ops.count → operations_at ops ≡ list.Two (operation_at ops.first) (operation_at ops.second))
  pub states : (s : State) →
      (s.kind ≡ 0 → state_at s ≡ Normal) × (s.kind ≡ 1 → state_at s ≡ Draining (failure_at s.failure)) × (1 < s.kind → state_at s ≡ Terminated (failure_at s.failure))
  pub outcomes : (o : Outcome) →
      (o.kind ≡ 0 → (outcome_at o).came ≡ came.Read o.n) × (o.kind ≡ 1 → (outcome_at o).came ≡ came.Done) × (1 < o.kind → (outcome_at o).came ≡ came.Failed (failure_at o.failure))
  pub phases : (p : Phase) →
      (p.kind ≡ 0 → phase_at p ≡ Receive (record { max_new_fds = p.max_new_fds; dst_len = p.dst_len })) ×
      (p.kind ≡ 1 → phase_at p ≡ Send p.batch (ending_at p.ending)) × (p.kind ≡ 2 → phase_at p ≡ Shutdown (ending_at p.ending)) ×
      (2 < p.kind → phase_at p ≡ Finished (outcome_at p.outcome))
  -- a failure has any kind and any numbers
  pub failures : (f : Failure) → FailureRead f (failure_at f)
  -- field by field
  pub operations : (o : Operation) → operation_at o ≡ record { typ = type_at o.typ; off = record { 0 = o.off }; len = o.len }
  pub besides : (o : Outcome) → (outcome_at o).beside ≡ record { fds = o.fds }
  pub endings : (e : Ending) → ending_at e ≡ record { outcome = outcome_at e.outcome; told = yes_at e.told }
  pub schedulers : (s : Scheduler) → SchedulerStands s (scheduler_at s)
  pub writing_ends : (e : WritingEnd) → WritingEndStands e (writing_end_at e)
  pub reading_ends : (e : ReadingEnd) → ReadingEndStands e (reading_end_at e)
  pub receivers : (r : Receiver) →
      SchedulerStands r.scheduler (receiver_at r).scheduler × ((receiver_at r).state ≡ state_at r.state) × ((receiver_at r).pending_ack_count ≡ r.pending_ack_count) ×
      ((receiver_at r).notification_socket_shutdown_issued ≡ yes_at r.notification_socket_shutdown_issued)
  pub calls : (c : Call) → ((call_at c).receiver ≡ receiver_at c.receiver) × SchedulerStands c.source (call_at c).source × ((call_at c).phase ≡ phase_at c.phase)
