-- What each export of the receiver says, in the order of the C header; see SaysEnds.antt.
use Prim.Native.Nat.{ℕ}
use mathlib.Core.Path.{◌≡◌, ap}
use mathlib.Core.List.{List}
use Rattle.modular.proofs.Saying.{Says}
use Rattle.states.specs.declared.answer.Answer.{Answer}
use Rattle.receiver.specs.Call.{answered_of, begin_read_of, begin_service_of, begin_shutdown_of}
use Rattle.receiver.specs.Receiver.{receiver_of}
use Rattle.driver.specs.Run.{service_of, shutdown_of, read_impl_delivery, read_delivery}
use Rattle.states.specs.State.{advance_of, failure_of, normalize_failure_of, normalize_of, towards_error_of, with_failure_of, with_potential_failure_of}
use Rattle.flat.specs.Call.{call_at, flat_step}
use Rattle.flat.specs.Failure.{failure_at, flat_failure_answer, flat_potential_failure, potential_failure_at}
use Rattle.flat.specs.Receiver.{flat_ended, flat_receiver_answer, receiver_at}
use Rattle.stripring.specs.Run.{EndedAnswerLeft, FlatReadLeaves, FlatReadImplLeaves, FlatServiceLeaves, FlatShutdownLeaves}
use Rattle.flat.specs.Scheduler.{scheduler_at}
use Rattle.flat.specs.State.{flat_state_answer, state_at}
use Rattle.flat.specs.declared.structs.EndedAnswer.{EndedAnswer}
use Rattle.flat.specs.declared.structs.Receiver.{Receiver}
use Rattle.stripring.proofs.receiver_record.stripring_receiver_new.Kinds as receiver_new_kinds
use Rattle.stripring.proofs.receiver_record.stripring_receiver_new.Reads as receiver_new
use Rattle.stripring.proofs.call.stripring_call_begin_read.Kinds as call_begin_read_kinds
use Rattle.stripring.proofs.call.stripring_call_begin_read.Reads as call_begin_read
use Rattle.stripring.proofs.call.stripring_call_begin_service.Kinds as call_begin_service_kinds
use Rattle.stripring.proofs.call.stripring_call_begin_service.Reads as call_begin_service
use Rattle.stripring.proofs.call.stripring_call_begin_shutdown.Kinds as call_begin_shutdown_kinds
use Rattle.stripring.proofs.call.stripring_call_begin_shutdown.Reads as call_begin_shutdown
use Rattle.stripring.proofs.call.stripring_call_answered.Kinds as call_answered_kinds
use Rattle.stripring.proofs.call.stripring_call_answered.Reads as call_answered
use Rattle.stripring.proofs.state.stripring_state_failure.Kinds as state_failure_kinds
use Rattle.stripring.proofs.state.stripring_state_failure.Reads as state_failure
use Rattle.stripring.proofs.state.stripring_state_with_failure.Kinds as state_with_failure_kinds
use Rattle.stripring.proofs.state.stripring_state_with_failure.Reads as state_with_failure
use Rattle.stripring.proofs.state.stripring_state_with_potential_failure.Kinds as state_with_potential_failure_kinds
use Rattle.stripring.proofs.state.stripring_state_with_potential_failure.Reads as state_with_potential_failure
use Rattle.stripring.proofs.state.stripring_state_normalize.Kinds as state_normalize_kinds
use Rattle.stripring.proofs.state.stripring_state_normalize.Reads as state_normalize
use Rattle.stripring.proofs.state.stripring_state_advance_state_towards_termination.Kinds as state_advance_state_towards_termination_kinds
use Rattle.stripring.proofs.state.stripring_state_advance_state_towards_termination.Reads as state_advance_state_towards_termination
use Rattle.stripring.proofs.failure.stripring_failure_normalize.Kinds as failure_normalize_kinds
use Rattle.stripring.proofs.failure.stripring_failure_normalize.Reads as failure_normalize
use Rattle.stripring.proofs.failure.stripring_failure_advance_failure_towards_error.Kinds as failure_advance_failure_towards_error_kinds
use Rattle.stripring.proofs.failure.stripring_failure_advance_failure_towards_error.Reads as failure_advance_failure_towards_error

-- ---- the receiver, and its calls over a lent run: the toolchain reads no contract of those, so each cites one predicate of its outcome
pub receiver_new_says : Says 0 receiver_new_kinds.ps receiver_new_kinds.r receiver_new.Learnt (λ κs a. flat_receiver_answer (receiver_of (scheduler_at a.0)))
receiver_new_says κs a z ws p = p

pub receiver_read_with_fds_says : (r : Receiver) (ring dst : List ℕ) (top : ℕ) (answers : List Answer) (a : EndedAnswer) (left : List ℕ) → FlatReadLeaves r ring dst top answers a left →
    (a ≡ flat_ended (read_delivery (receiver_at r) ring dst top answers).answer) × (left ≡ (read_delivery (receiver_at r) ring dst top answers).memory)
receiver_read_with_fds_says r ring dst top answers a left p = (ap (λ (x : EndedAnswerLeft). x.answer) p, ap (λ (x : EndedAnswerLeft). x.memory) p)

pub receiver_read_with_fds_impl_says : (r : Receiver) (ring dst : List ℕ) (top : ℕ) (answers : List Answer) (a : EndedAnswer) (left : List ℕ) → FlatReadImplLeaves r ring dst top answers a left →
    (a ≡ flat_ended (read_impl_delivery (receiver_at r) ring dst top answers).answer) × (left ≡ (read_impl_delivery (receiver_at r) ring dst top answers).memory)
receiver_read_with_fds_impl_says r ring dst top answers a left p = (ap (λ (x : EndedAnswerLeft). x.answer) p, ap (λ (x : EndedAnswerLeft). x.memory) p)

pub receiver_service_chunk_acknowledgements_says : (r : Receiver) (answers : List Answer) (a : EndedAnswer) → FlatServiceLeaves r answers a → (a ≡ flat_ended (service_of (receiver_at r) answers))
receiver_service_chunk_acknowledgements_says r answers a p = p

pub receiver_shutdown_says : (r : Receiver) (answers : List Answer) (a : EndedAnswer) → FlatShutdownLeaves r answers a → (a ≡ flat_ended (shutdown_of (receiver_at r) answers))
receiver_shutdown_says r answers a p = p

-- ---- a call in progress
pub call_begin_read_says : Says 0 call_begin_read_kinds.ps call_begin_read_kinds.r call_begin_read.Learnt (λ κs a. flat_step (begin_read_of (receiver_at a.0) a.1.0 a.1.1.0 a.1.1.1.0))
call_begin_read_says κs a z ws p = p

pub call_begin_service_says : Says 0 call_begin_service_kinds.ps call_begin_service_kinds.r call_begin_service.Learnt (λ κs a. flat_step (begin_service_of (receiver_at a.0)))
call_begin_service_says κs a z ws p = p

pub call_begin_shutdown_says : Says 0 call_begin_shutdown_kinds.ps call_begin_shutdown_kinds.r call_begin_shutdown.Learnt (λ κs a. flat_step (begin_shutdown_of (receiver_at a.0)))
call_begin_shutdown_says κs a z ws p = p

pub call_answered_says : Says 1 call_answered_kinds.ps call_answered_kinds.r call_answered.Learnt (λ κs a. flat_step (answered_of (call_at a.0) a.1.0.now a.1.1.0 a.1.1.1.0))
call_answered_says κs a z ws p = p

-- ---- states and failures
pub state_failure_says : Says 0 state_failure_kinds.ps state_failure_kinds.r state_failure.Learnt (λ κs a. flat_potential_failure (failure_of (state_at a.0)))
state_failure_says κs a z ws p = p

pub state_with_failure_says : Says 0 state_with_failure_kinds.ps state_with_failure_kinds.r state_with_failure.Learnt (λ κs a. flat_state_answer (with_failure_of (state_at a.0) (failure_at a.1.0)))
state_with_failure_says κs a z ws p = p

pub state_with_potential_failure_says : Says 0 state_with_potential_failure_kinds.ps state_with_potential_failure_kinds.r state_with_potential_failure.Learnt (λ κs a. flat_state_answer (with_potential_failure_of (state_at a.0) (potential_failure_at a.1.0 a.1.1.0)))
state_with_potential_failure_says κs a z ws p = p

pub state_normalize_says : Says 0 state_normalize_kinds.ps state_normalize_kinds.r state_normalize.Learnt (λ κs a. flat_state_answer (normalize_of (state_at a.0)))
state_normalize_says κs a z ws p = p

pub state_advance_state_towards_termination_says : Says 0 state_advance_state_towards_termination_kinds.ps state_advance_state_towards_termination_kinds.r state_advance_state_towards_termination.Learnt (λ κs a. flat_state_answer (advance_of (state_at a.0) (state_at a.1.0)))
state_advance_state_towards_termination_says κs a z ws p = p

pub failure_normalize_says : Says 0 failure_normalize_kinds.ps failure_normalize_kinds.r failure_normalize.Learnt (λ κs a. flat_failure_answer (normalize_failure_of (failure_at a.0)))
failure_normalize_says κs a z ws p = p

pub failure_advance_failure_towards_error_says : Says 0 failure_advance_failure_towards_error_kinds.ps failure_advance_failure_towards_error_kinds.r failure_advance_failure_towards_error.Learnt (λ κs a. flat_failure_answer (towards_error_of (failure_at a.0) (failure_at a.1.0)))
failure_advance_failure_towards_error_says κs a z ws p = p
