-- The machine: what a call in progress becomes with each answer. A call of the machine comes to a step: the call as it goes on, or
-- why it is refused, and then the call stays what it was.
use Rattle.std.specs.Prelude.{ℕ, ◌-◌, ◌^◌, ◌<◌, ◌≤◌, ◌≡◌, Bool, cond, true, false, List, eqb, length, Result, Ok, Err, Option, Some, None, ⊤}
use Rattle.operations.specs.declared.operation.OperationType.TheVariants.{Read}
use Rattle.sched.specs.declared.register.Move.{Move}
use Rattle.sched.specs.declared.scheduler.RingBufferScheduler.{RingBufferScheduler}
use Rattle.sched.specs.Scheduler.{data_in, move_in}
use Rattle.receiver.specs.Admission.{admission_of}
use Rattle.states.specs.Answer.{interrupted_of, received_of, sent_of, shut_of}
use Rattle.states.specs.State.{failure_in, is_errno, advance_in}
use Rattle.receiver.specs.Receiver.{read_outcome, failed_outcome, done_outcome, with_scheduler, with_state, with_pending, with_shutdown, batch_in, by_sent, none_beside, beside_byte, byte_in, handed_in}
use Rattle.states.specs.declared.answer.Answer.{Answer}
use Rattle.states.specs.declared.answer.Received.{Received}
use Rattle.states.specs.declared.answer.Received.TheVariants as received
use Rattle.states.specs.declared.answer.Shut.{Shut}
use Rattle.states.specs.declared.answer.Shut.TheVariants as shut
use Rattle.receiver.specs.declared.call.Call.{Call}
use Rattle.receiver.specs.declared.call.Ending.{Ending}
use Rattle.receiver.specs.declared.call.Phase.{Phase}
use Rattle.receiver.specs.declared.call.Phase.TheVariants as phase
use Rattle.receiver.specs.declared.call.Wanted.{Wanted}
use Rattle.receiver.specs.declared.going.Going.{Going}
use Rattle.receiver.specs.declared.receiver.Beside.{Beside}
use Rattle.receiver.specs.declared.receiver.Outcome.{Outcome}
use Rattle.receiver.specs.declared.receiver.ReceiverState.{ReceiverState}
use Rattle.states.specs.declared.refusal.Refusal.TheVariants.{Misfit, PendingFull}
use Rattle.states.specs.declared.state.Failure.{Failure}
use Rattle.states.specs.declared.state.Failure.TheVariants.{Io}
use Rattle.states.specs.declared.state.OperationalState.{OperationalState}
use Rattle.states.specs.declared.state.OperationalState.TheVariants.{Normal, Draining, Terminated}
use Rattle.receiver.specs.declared.announcement.Announced.{Announced}
use Rattle.states.specs.declared.refusal.Refusal.{Refusal}

abbrev pub call : ReceiverState → RingBufferScheduler → Phase → Call
call q s p = record { receiver = q; source = s; phase = p }

abbrev pub going : ReceiverState → RingBufferScheduler → Ending → Going
going q s e = record { receiver = q; source = s; ending = e }

abbrev pub finished_call : ReceiverState → RingBufferScheduler → Outcome → Call
finished_call q s o = call q s (phase.Finished o)

-- whatever comes on the way, or unless it fails
abbrev pub dropping : Outcome → Ending
dropping o = record { outcome = o; told = false }

abbrev pub telling : Outcome → Ending
telling o = record { outcome = o; told = true }

-- a failure is told or dropped
abbrev pub told_in : Failure → Ending → Ending
told_in f e = cond e.told (telling (failed_outcome f)) e

-- ---- shutting down
abbrev pub shut_or_finish_by : Bool → ReceiverState → RingBufferScheduler → Ending → Call
shut_or_finish_by true q s e = finished_call q s e.outcome
shut_or_finish_by false q s e = call q s (phase.Shutdown e)

abbrev pub shut_or_finish : ReceiverState → RingBufferScheduler → Ending → Call
shut_or_finish q s e = shut_or_finish_by q.notification_socket_shutdown_issued q s e

abbrev pub shutdown_by : OperationalState → ReceiverState → RingBufferScheduler → Ending → Call
shutdown_by Normal q s e = finished_call q s e.outcome
shutdown_by (Draining f) q s e = shut_or_finish q s e
shutdown_by (Terminated f) q s e = shut_or_finish q s e

abbrev pub shutdown_call : ReceiverState → RingBufferScheduler → Ending → Call
shutdown_call q s e = shutdown_by q.state q s e

abbrev pub advance_call : OperationalState → ReceiverState → RingBufferScheduler → Ending → Call
advance_call to q s e = shutdown_call (with_state q (advance_in q.state to)) s e

-- ---- acknowledgements
unfoldable pub flush_call : ReceiverState → RingBufferScheduler → Ending → Call
flush_call q s e = cond (eqb q.pending_ack_count 0) (finished_call q s e.outcome) (call q s (phase.Send (batch_in q) e))

abbrev pub service_call_by : Option Failure → ReceiverState → RingBufferScheduler → Ending → Call
service_call_by (Some f) q s e = finished_call q s (told_in f e).outcome
service_call_by None q s e = flush_call q s e

abbrev pub service_call : ReceiverState → RingBufferScheduler → Ending → Call
service_call q s e = service_call_by (failure_in q.state) q s e

-- a failure drains with that reason
abbrev pub drain_call : Failure → ReceiverState → RingBufferScheduler → Ending → Call
drain_call f q s e = advance_call (Draining f) q s (told_in f e)

-- no more is sent than is pending
abbrev pub Covered : ℕ → ReceiverState → Type 0
Covered n q = n ≤ q.pending_ack_count

abbrev pub sent_call : ℕ → ReceiverState → RingBufferScheduler → Ending → Call
sent_call n q s e = cond (eqb n 0) (drain_call (Io 5) q s e) (flush_call (with_pending q (q.pending_ack_count - n)) s e)

abbrev pub unsent_call : ℕ → ReceiverState → RingBufferScheduler → Ending → Call
unsent_call n q s e = cond (eqb n 11) (finished_call q s e.outcome) (drain_call (Io n) q s e)

-- an answer that the place cannot have is 12
abbrev pub after_send : ReceiverState → RingBufferScheduler → Ending → Answer → ℕ → Result Call Refusal
after_send q s e a place =
    by_sent (sent_of (batch_in q) a) (λ n. Ok (sent_call n q s e)) (λ n. Ok (unsent_call n q s e)) (Err (Misfit place))

abbrev pub after_shut : Shut → ReceiverState → RingBufferScheduler → Ending → ℕ → Result Call Refusal
after_shut shut.Done q s e place = Ok (finished_call (with_shutdown q) s e.outcome)
after_shut (shut.Failed n) q s e place = Ok (finished_call q s (told_in (Io n) e).outcome)
after_shut shut.Misfit q s e place = Err (Misfit place)

abbrev pub after_shutdown : ReceiverState → RingBufferScheduler → Ending → Answer → ℕ → Result Call Refusal
after_shutdown q s e a place = after_shut (shut_of a) q s e place

-- ---- reading
-- an acknowledgement more can be pending
abbrev pub Counts : ReceiverState → Type 0
Counts q = q.pending_ack_count < 2 ^ 64 - 1

-- as many as the scheduler moves, and its record after them
abbrev pub hand_out_by : Move → Beside → ReceiverState → Call
hand_out_by m b q = service_call (handed_in q m.scheduler) q.scheduler (dropping (read_outcome m.portion.len b))

abbrev pub hand_out_call : ℕ → Beside → ReceiverState → Call
hand_out_call asked b q = hand_out_by (move_in q.scheduler Read asked) b q

abbrev pub failed_call : Failure → ReceiverState → RingBufferScheduler → Call
failed_call f q s = advance_call (Terminated f) q s (dropping (failed_outcome f))

abbrev pub blocked_by : OperationalState → ReceiverState → RingBufferScheduler → Call
blocked_by Normal q s = finished_call q s (failed_outcome (Io 11))
blocked_by (Draining f) q s = failed_call f q s
blocked_by (Terminated f) q s = failed_call (Io 11) q s

abbrev pub blocked_call : ReceiverState → RingBufferScheduler → Call
blocked_call q s = blocked_by q.state q s

abbrev pub announced_call : Result Announced Failure → Wanted → ReceiverState → RingBufferScheduler → Call
announced_call (Ok m) w q s = hand_out_call w.dst_len m.beside (with_scheduler q m.scheduler)
announced_call (Err f) w q s = cond (is_errno f 11) (blocked_call q s) (failed_call f q s)

abbrev pub after_receive : ReceiverState → RingBufferScheduler → List ℕ → Received → Wanted → ℕ → Result Call Refusal
after_receive q s ring (received.Byte byte fds) w place = Ok (announced_call (byte_in ring q.scheduler byte (beside_byte fds)) w q s)
after_receive q s ring (received.Failed n) w place = Ok (announced_call (Err (Io n)) w q s)
after_receive q s ring received.Misfit w place = Err (Misfit place)

-- where a byte was received, the ring has the scheduler's length
abbrev pub ByteSized : Received → ℕ → ReceiverState → Type 0
ByteSized (received.Byte byte _) n q = n ≡ q.scheduler.buf_len
ByteSized (received.Failed e) n q = Unit {0}
ByteSized received.Misfit n q = Unit {0}

-- in order: the empty destination, 13, the announcement if there is no data
abbrev pub live_call : ReceiverState → Wanted → Result Call Refusal
live_call q w =
    cond (eqb w.dst_len 0) (Ok (finished_call q q.scheduler (read_outcome 0 none_beside)))
    (cond (eqb q.pending_ack_count (2 ^ 64 - 1)) (Err PendingFull)
    (cond (eqb (data_in q.scheduler) 0) (Ok (call q q.scheduler (phase.Receive w))) (Ok (hand_out_call w.dst_len none_beside q))))

abbrev pub read_by : OperationalState → ReceiverState → Wanted → Result Call Refusal
read_by Normal q w = live_call q w
read_by (Draining f) q w = live_call q w
read_by (Terminated f) q w = Ok (finished_call q q.scheduler (failed_outcome f))

abbrev pub read_call : ReceiverState → Wanted → Result Call Refusal
read_call q w = read_by q.state q w

-- ---- the beginnings: the tests, and then the rules
abbrev pub admitted_step : Result ⊤ Refusal → Result Call Refusal → Result Call Refusal
admitted_step (Ok tt) x = x
admitted_step (Err r) x = Err r

abbrev pub wanted : ℕ → ℕ → Wanted
wanted top asked = record { max_new_fds = top; dst_len = asked }

abbrev pub begin_read_of : ReceiverState → ℕ → ℕ → ℕ → Result Call Refusal
begin_read_of q n top asked = admitted_step (admission_of q (Some n)) (read_call q (wanted top asked))

abbrev pub begin_service_of : ReceiverState → Result Call Refusal
begin_service_of q = admitted_step (admission_of q None) (Ok (service_call q q.scheduler (telling done_outcome)))

abbrev pub begin_shutdown_of : ReceiverState → Result Call Refusal
begin_shutdown_of q = admitted_step (admission_of q None) (Ok (advance_call (Draining (Io 32)) q q.scheduler (telling done_outcome)))

-- ---- what a driver asks
-- a call that is over waits for nothing more
abbrev pub is_over : Phase → Bool
is_over (phase.Receive w) = false
is_over (phase.Send batch e) = false
is_over (phase.Shutdown e) = false
is_over (phase.Finished o) = true

abbrev pub over_of : Call → Bool
over_of c = is_over c.phase

-- an interruption is waited out by a receive and by a send; a shutdown is not tried again
abbrev pub retries_in : Phase → Answer → Bool
retries_in (phase.Receive w) a = interrupted_of a
retries_in (phase.Send batch e) a = interrupted_of a
retries_in (phase.Shutdown e) a = false
retries_in (phase.Finished o) a = false

abbrev pub retries_of : Call → Answer → Bool
retries_of c a = retries_in c.phase a

-- ---- the call after an answer
-- the ring is looked at where a byte was received, and only there
abbrev pub looks_by : Received → ℕ → Option ℕ
looks_by (received.Byte byte _) n = Some n
looks_by (received.Failed e) n = None
looks_by received.Misfit n = None

abbrev pub looks_at : Phase → Answer → ℕ → Option ℕ
looks_at (phase.Receive w) a n = looks_by (received_of w.max_new_fds a) n
looks_at (phase.Send batch e) a n = None
looks_at (phase.Shutdown e) a n = None
looks_at (phase.Finished o) a n = None

-- A phase can be made up, and so the rules are asked anew what the call waits for with this record. A call that the machine made is
-- what they say.
abbrev pub resumed_by : Phase → Call → Result Call Refusal
resumed_by (phase.Receive w) c = read_call c.receiver w
resumed_by (phase.Send batch e) c = Ok (service_call c.receiver c.source e)
resumed_by (phase.Shutdown e) c = Ok (shutdown_call c.receiver c.source e)
resumed_by (phase.Finished o) c = Ok c

abbrev pub resumed_of : Call → Result Call Refusal
resumed_of c = resumed_by c.phase c

-- where a receive is answered, an acknowledgement more can be pending, and the ring of a byte has been tested
abbrev pub StepsBy : Phase → ReceiverState → Answer → ℕ → Type 0
StepsBy (phase.Receive w) q a n = Counts q × ByteSized (received_of w.max_new_fds a) n q
StepsBy (phase.Send batch e) q a n = Unit {0}
StepsBy (phase.Shutdown e) q a n = Unit {0}
StepsBy (phase.Finished o) q a n = Unit {0}

abbrev pub Steps : Call → Answer → ℕ → Type 0
Steps c a n = StepsBy c.phase c.receiver a n

-- an interruption leaves it waiting; a shutdown is not tried again; a call that is over stays as it is
abbrev pub stepped_by : Phase → Call → List ℕ → Answer → ℕ → Result Call Refusal
stepped_by (phase.Receive w) c ring a place =
    cond (interrupted_of a) (Ok c) (after_receive c.receiver c.source ring (received_of w.max_new_fds a) w place)
stepped_by (phase.Send batch e) c ring a place = cond (interrupted_of a) (Ok c) (after_send c.receiver c.source e a place)
stepped_by (phase.Shutdown e) c ring a place = after_shutdown c.receiver c.source e a place
stepped_by (phase.Finished o) c ring a place = Ok c

abbrev pub stepped_of : Call → List ℕ → Answer → ℕ → Result Call Refusal
stepped_of c ring a place = stepped_by c.phase c ring a place

abbrev pub answered_from : Result Call Refusal → List ℕ → Answer → ℕ → Result Call Refusal
answered_from (Ok c) ring a place = stepped_of c ring a place
answered_from (Err r) ring a place = Err r

-- 1 to 5, 20, 9 where the ring is looked at, 12 with place 0, as of every call
abbrev pub answered_of : Call → List ℕ → Answer → ℕ → Result Call Refusal
answered_of c ring a place =
    admitted_step (admission_of c.receiver (looks_at c.phase a (length ring))) (answered_from (resumed_of c) ring a place)
