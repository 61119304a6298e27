-- "Given exactly when", 1 to 5, 20, 9 and 11 to 13, of every export of the receiver, of a call in progress, and of states and failures:
-- whatever its attached contract allows carries a refusal exactly when the table gives it, of what the host's numbers stand for.
use Rattle.std.proofs.Common.{Result, Ok, Err, Option, Some, None}
use Prim.Native.Nat.{ℕ}
use mathlib.Core.Path.{◌≡◌, refl, sym, subst, ◌∙◌}
use mathlib.Core.List.{List, []}
use mathlib.Core.Logic.Dec
use mathlib.Core.Logic.{by_cases}
use lib.ListN.{length}
use Rattle.modular.proofs.Saying.{Keeps}
use Rattle.sched.specs.Given.{Given}
use Rattle.copies.specs.Given.{Exactly}
use Rattle.receiver.specs.Call.{answered_of, begin_read_of, begin_service_of, begin_shutdown_of}
use Rattle.receiver.specs.Given.{GivenAdmission, GivenAnswer, GivenRead}
use Rattle.states.specs.Promise.{FailureFits, Stored}
use Rattle.receiver.specs.Receiver.{receiver_of}
use Rattle.driver.specs.Drive.{end_of_stream_in}
use Rattle.driver.specs.Run.{service_of, shutdown_of, read_of, read_impl_delivery, read_delivery}
use Rattle.states.specs.State.{advance_of, failure_of, normalize_failure_of, normalize_of, towards_error_of, with_failure_of, with_potential_failure_of}
use Rattle.states.specs.declared.answer.Answer.{Answer}
use Rattle.receiver.specs.declared.receiver.ReceiverState.{ReceiverState}
use Rattle.states.specs.declared.state.OperationalState.{OperationalState}
use Rattle.states.specs.declared.state.OperationalState.TheVariants.{Normal}
use Rattle.receiver.proofs.Given as given
use Rattle.receiver.proofs.GivenAnswer as answer
use Rattle.states.proofs.Promised as promised
use Rattle.receiver.proofs.PromisedCalls as calls
use Rattle.states.proofs.PromisedStates as states
use Rattle.driver.proofs.Promised.{delivered}
use Rattle.flat.specs.Call.{call_at}
use Rattle.flat.specs.Failure.{failure_at, potential_failure_at}
use Rattle.stripring.specs.Given.{GivenAt, GivenStored, PotentialFits}
use Rattle.stripring.specs.GivenRun.{GivenRun, of_ended}
use Rattle.flat.specs.Receiver.{receiver_at}
use Rattle.stripring.specs.Run.{FlatReadImplLeaves, FlatReadLeaves, FlatServiceLeaves, FlatShutdownLeaves}
use Rattle.flat.specs.Scheduler.{scheduler_at}
use Rattle.flat.specs.State.{flat_state_answer, state_at}
use Rattle.flat.specs.declared.structs.EndedAnswer.{EndedAnswer}
use Rattle.flat.specs.declared.structs.Receiver.{Receiver}
use Rattle.stripring.proofs.GivenLaws.{made_given, step_given, ended_given, failure_decided, state_decided, failure_given, potential_given, state_given}
use Rattle.stripring.proofs.GivenRun.{run_exactly}
use Rattle.stripring.proofs.SaysReceiver.{receiver_new_says, receiver_read_with_fds_says, receiver_read_with_fds_impl_says, receiver_service_chunk_acknowledgements_says, receiver_shutdown_says, call_begin_read_says, call_begin_service_says, call_begin_shutdown_says, call_answered_says, state_failure_says, state_with_failure_says, state_with_potential_failure_says, state_normalize_says, state_advance_state_towards_termination_says, failure_normalize_says, failure_advance_failure_towards_error_says}
use Rattle.stripring.proofs.receiver_record.stripring_receiver_new.Kinds as receiver_new_kinds
use Rattle.stripring.proofs.receiver_record.stripring_receiver_new.Reads as receiver_new
use Rattle.stripring.proofs.call.stripring_call_begin_read.Kinds as call_begin_read_kinds
use Rattle.stripring.proofs.call.stripring_call_begin_read.Reads as call_begin_read
use Rattle.stripring.proofs.call.stripring_call_begin_service.Kinds as call_begin_service_kinds
use Rattle.stripring.proofs.call.stripring_call_begin_service.Reads as call_begin_service
use Rattle.stripring.proofs.call.stripring_call_begin_shutdown.Kinds as call_begin_shutdown_kinds
use Rattle.stripring.proofs.call.stripring_call_begin_shutdown.Reads as call_begin_shutdown
use Rattle.stripring.proofs.call.stripring_call_answered.Kinds as call_answered_kinds
use Rattle.stripring.proofs.call.stripring_call_answered.Reads as call_answered
use Rattle.stripring.proofs.state.stripring_state_failure.Kinds as state_failure_kinds
use Rattle.stripring.proofs.state.stripring_state_failure.Reads as state_failure
use Rattle.stripring.proofs.state.stripring_state_with_failure.Kinds as state_with_failure_kinds
use Rattle.stripring.proofs.state.stripring_state_with_failure.Reads as state_with_failure
use Rattle.stripring.proofs.state.stripring_state_with_potential_failure.Kinds as state_with_potential_failure_kinds
use Rattle.stripring.proofs.state.stripring_state_with_potential_failure.Reads as state_with_potential_failure
use Rattle.stripring.proofs.state.stripring_state_normalize.Kinds as state_normalize_kinds
use Rattle.stripring.proofs.state.stripring_state_normalize.Reads as state_normalize
use Rattle.stripring.proofs.state.stripring_state_advance_state_towards_termination.Kinds as state_advance_state_towards_termination_kinds
use Rattle.stripring.proofs.state.stripring_state_advance_state_towards_termination.Reads as state_advance_state_towards_termination
use Rattle.stripring.proofs.failure.stripring_failure_normalize.Kinds as failure_normalize_kinds
use Rattle.stripring.proofs.failure.stripring_failure_normalize.Reads as failure_normalize
use Rattle.stripring.proofs.failure.stripring_failure_advance_failure_towards_error.Kinds as failure_advance_failure_towards_error_kinds
use Rattle.stripring.proofs.failure.stripring_failure_advance_failure_towards_error.Reads as failure_advance_failure_towards_error
use Rattle.receiver.specs.declared.receiver.Ended.{Ended}
use Rattle.states.specs.declared.state.Failure.{Failure}
use Rattle.states.specs.declared.refusal.Refusal.{Refusal}

-- ---- the receiver and a call in progress
pub receiver_new_refuses : Keeps 0 receiver_new_kinds.ps receiver_new_kinds.r receiver_new.Learnt (λ κs a z. GivenAt (Given (scheduler_at a.0)) z.refusal)
receiver_new_refuses κs a z (ws, p) = rw (receiver_new_says κs a z ws p) (made_given (receiver_of (scheduler_at a.0)) (calls.new_promised tt (scheduler_at a.0, tt) (receiver_of (scheduler_at a.0)) ((tt, tt), refl)).0)

pub call_begin_read_refuses : Keeps 0 call_begin_read_kinds.ps call_begin_read_kinds.r call_begin_read.Learnt (λ κs a z. GivenAt (GivenRead (receiver_at a.0) a.1.0 a.1.1.1.0) z.refusal)
call_begin_read_refuses κs a z (ws, p) = rw (call_begin_read_says κs a z ws p) (step_given (begin_read_of (receiver_at a.0) a.1.0 a.1.1.0 a.1.1.1.0) (given.begin_read_given tt (receiver_at a.0, (a.1.0, (a.1.1.0, (a.1.1.1.0, tt)))) (begin_read_of (receiver_at a.0) a.1.0 a.1.1.0 a.1.1.1.0) ((tt, (tt, (tt, (tt, tt)))), refl)))

pub call_begin_service_refuses : Keeps 0 call_begin_service_kinds.ps call_begin_service_kinds.r call_begin_service.Learnt (λ κs a z. GivenAt (GivenAdmission (receiver_at a.0) None) z.refusal)
call_begin_service_refuses κs a z (ws, p) = rw (call_begin_service_says κs a z ws p) (step_given (begin_service_of (receiver_at a.0)) (given.begin_service_given tt (receiver_at a.0, tt) (begin_service_of (receiver_at a.0)) ((tt, tt), refl)))

pub call_begin_shutdown_refuses : Keeps 0 call_begin_shutdown_kinds.ps call_begin_shutdown_kinds.r call_begin_shutdown.Learnt (λ κs a z. GivenAt (GivenAdmission (receiver_at a.0) None) z.refusal)
call_begin_shutdown_refuses κs a z (ws, p) = rw (call_begin_shutdown_says κs a z ws p) (step_given (begin_shutdown_of (receiver_at a.0)) (given.begin_shutdown_given tt (receiver_at a.0, tt) (begin_shutdown_of (receiver_at a.0)) ((tt, tt), refl)))

pub call_answered_refuses : Keeps 1 call_answered_kinds.ps call_answered_kinds.r call_answered.Learnt (λ κs a z. GivenAt (GivenAnswer (call_at a.0) (length a.1.0.now) a.1.1.0 a.1.1.1.0) z.refusal)
call_answered_refuses κs a z (ws, p) = rw (call_answered_says κs a z ws p) (step_given (answered_of (call_at a.0) a.1.0.now a.1.1.0 a.1.1.1.0) (answer.answered_given κs (call_at a.0, (a.1.0, (a.1.1.0, (a.1.1.1.0, tt)))) (answered_of (call_at a.0) a.1.0.now a.1.1.0 a.1.1.1.0) ((tt, (tt, (tt, (tt, tt)))), refl)))

-- ---- states and failures: 12 with place 0
pub state_failure_refuses : Keeps 0 state_failure_kinds.ps state_failure_kinds.r state_failure.Learnt (λ κs a z. GivenAt (GivenStored (Stored (state_at a.0))) z.refusal)
state_failure_refuses κs a z (ws, p) =
    let k = states.failure_promised tt (state_at a.0, tt) (failure_of (state_at a.0)) ((tt, tt), refl) in
    rw (state_failure_says κs a z ws p) (potential_given (state_decided (state_at a.0)) (failure_of (state_at a.0)) (λ h. let y = k.0 h in (y.0, y.1)) k.1)

pub state_with_failure_refuses : Keeps 0 state_with_failure_kinds.ps state_with_failure_kinds.r state_with_failure.Learnt (λ κs a z. GivenAt (GivenStored (Stored (state_at a.0) × FailureFits (failure_at a.1.0))) z.refusal)
state_with_failure_refuses κs a z (ws, p) =
    let k = states.with_failure_promised tt (state_at a.0, (failure_at a.1.0, tt)) (with_failure_of (state_at a.0) (failure_at a.1.0)) ((tt, (tt, tt)), refl) in
    rw (state_with_failure_says κs a z ws p) (state_given (Dec.and (state_decided (state_at a.0)) (failure_decided (failure_at a.1.0))) (with_failure_of (state_at a.0) (failure_at a.1.0)) (λ h. let y = k.0 h.0 h.1 in (y.0, y.1)) k.1)

-- with no failure the state alone is tested
potential_refuses : (s : OperationalState) (p : Option Failure) → GivenAt (GivenStored (Stored s × PotentialFits p)) (flat_state_answer (with_potential_failure_of s p)).refusal
potential_refuses s None =
    let k = states.with_potential_failure_promised tt (s, (None, tt)) (with_potential_failure_of s None) ((tt, (tt, tt)), refl) in
    state_given (Dec.and (state_decided s) (yes tt)) (with_potential_failure_of s None) (λ h. (Normal, k.0 h.0 refl)) (λ unfit. k.2 (λ h. unfit (h, tt)))
potential_refuses s (Some f) =
    let k = states.with_potential_failure_promised tt (s, (Some f, tt)) (with_potential_failure_of s (Some f)) ((tt, (tt, tt)), refl) in
    let l = states.with_failure_promised tt (s, (f, tt)) (with_failure_of s f) ((tt, (tt, tt)), refl) in
    state_given (Dec.and (state_decided s) (failure_decided f)) (with_potential_failure_of s (Some f)) (λ h. let y = l.0 h.0 h.1 in (y.0, k.1 h.0 f refl ∙ y.1))
    (λ unfit. by_cases (state_decided s) (λ h. k.1 h f refl ∙ l.1 unfit) k.2)

pub state_with_potential_failure_refuses : Keeps 0 state_with_potential_failure_kinds.ps state_with_potential_failure_kinds.r state_with_potential_failure.Learnt (λ κs a z. GivenAt (GivenStored (Stored (state_at a.0) × PotentialFits (potential_failure_at a.1.0 a.1.1.0))) z.refusal)
state_with_potential_failure_refuses κs a z (ws, p) = rw (state_with_potential_failure_says κs a z ws p) (potential_refuses (state_at a.0) (potential_failure_at a.1.0 a.1.1.0))

pub state_normalize_refuses : Keeps 0 state_normalize_kinds.ps state_normalize_kinds.r state_normalize.Learnt (λ κs a z. GivenAt (GivenStored (Stored (state_at a.0))) z.refusal)
state_normalize_refuses κs a z (ws, p) =
    let k = states.normalize_promised tt (state_at a.0, tt) (normalize_of (state_at a.0)) ((tt, tt), refl) in
    rw (state_normalize_says κs a z ws p) (state_given (state_decided (state_at a.0)) (normalize_of (state_at a.0)) (λ h. let y = k.0 h in (y.0, y.1)) k.1)

pub state_advance_state_towards_termination_refuses : Keeps 0 state_advance_state_towards_termination_kinds.ps state_advance_state_towards_termination_kinds.r state_advance_state_towards_termination.Learnt (λ κs a z. GivenAt (GivenStored (Stored (state_at a.0) × Stored (state_at a.1.0))) z.refusal)
state_advance_state_towards_termination_refuses κs a z (ws, p) =
    let k = promised.advance_promised tt (state_at a.0, (state_at a.1.0, tt)) (advance_of (state_at a.0) (state_at a.1.0)) ((tt, (tt, tt)), refl) in
    rw (state_advance_state_towards_termination_says κs a z ws p) (state_given (Dec.and (state_decided (state_at a.0)) (state_decided (state_at a.1.0))) (advance_of (state_at a.0) (state_at a.1.0)) (λ h. let y = k.0 h.0 h.1 in (y.0, y.1)) k.1)

pub failure_normalize_refuses : Keeps 0 failure_normalize_kinds.ps failure_normalize_kinds.r failure_normalize.Learnt (λ κs a z. GivenAt (GivenStored (FailureFits (failure_at a.0))) z.refusal)
failure_normalize_refuses κs a z (ws, p) =
    let k = states.failure_normalize_promised tt (failure_at a.0, tt) (normalize_failure_of (failure_at a.0)) ((tt, tt), refl) in
    rw (failure_normalize_says κs a z ws p) (failure_given (failure_decided (failure_at a.0)) (normalize_failure_of (failure_at a.0)) (λ h. (failure_at a.0, k.0 h)) k.1)

pub failure_advance_failure_towards_error_refuses : Keeps 0 failure_advance_failure_towards_error_kinds.ps failure_advance_failure_towards_error_kinds.r failure_advance_failure_towards_error.Learnt (λ κs a z. GivenAt (GivenStored (FailureFits (failure_at a.0) × FailureFits (failure_at a.1.0))) z.refusal)
failure_advance_failure_towards_error_refuses κs a z (ws, p) =
    let k = states.towards_error_promised tt (failure_at a.0, (failure_at a.1.0, tt)) (towards_error_of (failure_at a.0) (failure_at a.1.0)) ((tt, (tt, tt)), refl) in
    rw (failure_advance_failure_towards_error_says κs a z ws p) (failure_given (Dec.and (failure_decided (failure_at a.0)) (failure_decided (failure_at a.1.0))) (towards_error_of (failure_at a.0) (failure_at a.1.0)) (λ h. let y = k.0 h.0 h.1 in (y.0, y.1)) k.1)

-- ---- over a run: the end of the stream that becomes a read of nothing is no refusal
turned : (e : Result Ended Refusal) → of_ended e ≡ of_ended (end_of_stream_in e)
turned (Ok m) = refl
turned (Err r) = refl

module _ (r : Receiver) (answers : List Answer) (z : EndedAnswer) where
  abbrev q : ReceiverState
  q = receiver_at r

  pub receiver_service_chunk_acknowledgements_refuses : FlatServiceLeaves r answers z → GivenAt (GivenRun (GivenAdmission (receiver_at r) None) (begin_service_of (receiver_at r)) [] answers) z.refusal
  receiver_service_chunk_acknowledgements_refuses p =
      let e = run_exactly [] answers (begin_service_of q) (given.begin_service_given tt (q, tt) (begin_service_of q) ((tt, tt), refl)) in
      rw (receiver_service_chunk_acknowledgements_says r answers z p)
      (ended_given (service_of q answers) e)

  pub receiver_shutdown_refuses : FlatShutdownLeaves r answers z → GivenAt (GivenRun (GivenAdmission (receiver_at r) None) (begin_shutdown_of (receiver_at r)) [] answers) z.refusal
  receiver_shutdown_refuses p =
      let e = run_exactly [] answers (begin_shutdown_of q) (given.begin_shutdown_given tt (q, tt) (begin_shutdown_of q) ((tt, tt), refl)) in
      rw (receiver_shutdown_says r answers z p)
      (ended_given (shutdown_of q answers) e)

  module _ (ring dst : List ℕ) (top : ℕ) (left : List ℕ) where
    abbrev pub GivenReading : ℕ → List ℕ → Type 0
    GivenReading = GivenRun (GivenRead (receiver_at r) (length ring) (length dst)) (begin_read_of (receiver_at r) (length ring) top (length dst)) ring answers

    reading_exactly : Exactly GivenReading (of_ended (read_impl_delivery q ring dst top answers).answer)
    reading_exactly =
        let x = begin_read_of q (length ring) top (length dst) in
        subst (λ (y : Result Ended Refusal). Exactly GivenReading (of_ended y)) (sym (delivered ring dst (read_of q ring (length dst) top answers)))
        (run_exactly ring answers x (given.begin_read_given tt (q, (length ring, (top, (length dst, tt)))) x ((tt, (tt, (tt, (tt, tt)))), refl)))

    pub receiver_read_with_fds_refuses : FlatReadLeaves r ring dst top answers z left → GivenAt GivenReading z.refusal
    receiver_read_with_fds_refuses p =
        rw (receiver_read_with_fds_says r ring dst top answers z left p).0
        (ended_given (read_delivery q ring dst top answers).answer (subst (Exactly GivenReading) (turned (read_impl_delivery q ring dst top answers).answer) reading_exactly))

    pub receiver_read_with_fds_impl_refuses : FlatReadImplLeaves r ring dst top answers z left → GivenAt GivenReading z.refusal
    receiver_read_with_fds_impl_refuses p = rw (receiver_read_with_fds_impl_says r ring dst top answers z left p).0 (ended_given (read_impl_delivery q ring dst top answers).answer reading_exactly)
