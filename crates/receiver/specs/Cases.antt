-- The machine, told again by cases and in other words than those of specs/Call.antt, so that a rule that is changed in its place is
-- seen. Records and calls are told field by field.
use Rattle.std.specs.Prelude.{ℕ, ◌+◌, ◌-◌, ◌^◌, ◌<◌, ◌≤◌, ◌≡◌, Bool, true, false, List, ◌≢◌, ◌⊎◌, Result, Ok, Err, Option, Some, None}
use Rattle.states.specs.Promise.{Numbered}
use Rattle.operations.specs.declared.operation.OperationType.TheVariants.{Read}
use Rattle.sched.specs.declared.scheduler.RingBufferScheduler.{RingBufferScheduler}
use Rattle.sched.specs.Promise.{ReadBy, WrittenBy}
use Rattle.sched.specs.Scheduler.{data_in, offset_in}
use Rattle.copies.specs.Promises.{number_at}
use Rattle.states.specs.Promise.{AByte, SaysReceived, SaysSent, SaysShut, Advanced, Holds}
use Rattle.states.specs.Promise.{Batch}
use Rattle.receiver.specs.Promise.{nothing_more, with_descriptors, Said, body, violates, Announces}
use Rattle.states.specs.declared.answer.Answer.{Answer}
use Rattle.states.specs.declared.answer.Received.{Received}
use Rattle.states.specs.declared.answer.Received.TheVariants as received
use Rattle.states.specs.declared.answer.Sent.{Sent}
use Rattle.states.specs.declared.answer.Sent.TheVariants as sent
use Rattle.states.specs.declared.answer.Shut.{Shut}
use Rattle.states.specs.declared.answer.Shut.TheVariants as shut
use Rattle.receiver.specs.declared.call.Call.{Call}
use Rattle.receiver.specs.declared.call.Ending.{Ending}
use Rattle.receiver.specs.declared.call.Phase.{Phase}
use Rattle.receiver.specs.declared.call.Phase.TheVariants as phase
use Rattle.receiver.specs.declared.call.Wanted.{Wanted}
use Rattle.receiver.specs.declared.receiver.Beside.{Beside}
use Rattle.receiver.specs.declared.receiver.Came.TheVariants as came
use Rattle.receiver.specs.declared.receiver.Outcome.{Outcome}
use Rattle.receiver.specs.declared.receiver.ReceiverState.{ReceiverState}
use Rattle.states.specs.declared.state.Failure.{Failure}
use Rattle.states.specs.declared.state.Failure.TheVariants.{Io, Protocol}
use Rattle.states.specs.declared.state.OperationalState.{OperationalState}
use Rattle.states.specs.declared.state.OperationalState.TheVariants.{Normal, Draining, Terminated}
use Rattle.states.specs.declared.state.Violation.{Violation}
use Rattle.states.specs.declared.refusal.Refusal.{Refusal}

abbrev a_record : RingBufferScheduler → OperationalState → ℕ → Bool → ReceiverState
a_record s st pending issued = record { scheduler = s; state = st; pending_ack_count = pending; notification_socket_shutdown_issued = issued }

abbrev a_call : ReceiverState → RingBufferScheduler → Phase → Call
a_call q s ph = record { receiver = q; source = s; phase = ph }

-- ---- what is answered
abbrev a_read : ℕ → Beside → Outcome
a_read n b = record { came = came.Read n; beside = b }

abbrev a_failure : Failure → Outcome
a_failure f = record { came = came.Failed f; beside = nothing_more }

abbrev all_done : Outcome
all_done = record { came = came.Done; beside = nothing_more }

abbrev drops : Outcome → Ending
drops o = record { outcome = o; told = false }

abbrev tells : Outcome → Ending
tells o = record { outcome = o; told = true }

-- a failure that is met on the way: told in place of the outcome, or dropped
pub data Meets : Option Failure → Ending → Ending → Type 0 where
  none_met : {e : Ending} → Meets None e e
  is_told : {f : Failure} {o : Outcome} → Meets (Some f) (tells o) (tells (a_failure f))
  is_dropped : {f : Failure} {o : Outcome} → Meets (Some f) (drops o) (drops o)

pub data ComesTo (e : Ending) : Outcome → Type 0 where
  its_own : ComesTo e e.outcome

module _ (q : ReceiverState) (s : RingBufferScheduler) (e : Ending) where
  -- ---- shutting down: asked for unless the state is Normal or one has succeeded before
  pub data Closes : Call → Type 0 where
    is_normal : {o : Outcome} → q.state ≡ Normal → ComesTo e o → Closes (a_call q s (phase.Finished o))
    shut_before : {o : Outcome} → q.notification_socket_shutdown_issued ≡ true → ComesTo e o → Closes (a_call q s (phase.Finished o))
    asks : q.state ≢ Normal → q.notification_socket_shutdown_issued ≡ false → Closes (a_call q s (phase.Shutdown e))

  -- ---- acknowledgements: sent until none is pending, unless a failure is stored
  pub data Flushes : Call → Type 0 where
    none_pending : {o : Outcome} → q.pending_ack_count ≡ 0 → ComesTo e o → Flushes (a_call q s (phase.Finished o))
    sends : {batch : ℕ} → Batch q.pending_ack_count batch → Flushes (a_call q s (phase.Send batch e))

  pub data Serves : Call → Type 0 where
    failed_before : {f : Failure} {ending : Ending} {o : Outcome} → Holds q.state (Some f) → Meets (Some f) e ending → ComesTo ending o → Serves (a_call q s (phase.Finished o))
    flushes : {c : Call} → Holds q.state None → Flushes c → Serves c

-- the state has advanced, and a failure was met or none
pub record Advances (to : OperationalState) (f : Option Failure) (q : ReceiverState) (s : RingBufferScheduler) (e : Ending) (c : Call) : Type 0 where
  pub state : OperationalState
  pub advanced : Advanced q.state to state
  pub ending : Ending
  pub met : Meets f e ending
  pub closes : Closes (a_record q.scheduler state q.pending_ack_count q.notification_socket_shutdown_issued) s ending c

module _ (q : ReceiverState) (s : RingBufferScheduler) (e : Ending) where
  -- none sent is failure 5; a send that blocks ends the servicing; any other failure drains
  pub data TakesSent : Sent → Call → Type 0 where
    none_went : {c : Call} → Advances (Draining (Io 5)) (Some (Io 5)) q s e c → TakesSent (sent.Sent 0) c
    some_went : {n left : ℕ} {c : Call} → 1 ≤ n → left + n ≡ q.pending_ack_count →
        Flushes (a_record q.scheduler q.state left q.notification_socket_shutdown_issued) s e c → TakesSent (sent.Sent n) c
    send_blocks : {o : Outcome} → ComesTo e o → TakesSent (sent.Failed 11) (a_call q s (phase.Finished o))
    send_fails : {n : ℕ} {c : Call} → n ≢ 11 → Advances (Draining (Io n)) (Some (Io n)) q s e c → TakesSent (sent.Failed n) c

  -- one that fails is not tried again
  pub data TakesShut : Shut → Call → Type 0 where
    is_shut : {o : Outcome} → ComesTo e o → TakesShut shut.Done (a_call (a_record q.scheduler q.state q.pending_ack_count true) s (phase.Finished o))
    is_not : {n : ℕ} {ending : Ending} {o : Outcome} → Meets (Some (Io n)) e ending → ComesTo ending o → TakesShut (shut.Failed n) (a_call q s (phase.Finished o))

-- ---- reading
-- bytes from the front of the data are handed out, and with the last of it one more acknowledgement is pending; what comes of the
-- servicing is dropped
pub data HandsOut (q : ReceiverState) (asked : ℕ) (b : Beside) : Call → Type 0 where
  a_part : {u : RingBufferScheduler} {c : Call} → asked < data_in q.scheduler → ReadBy q.scheduler asked u →
      Serves (a_record u q.state q.pending_ack_count q.notification_socket_shutdown_issued) q.scheduler (drops (a_read asked b)) c → HandsOut q asked b c
  all_of_it : {u : RingBufferScheduler} {c : Call} → data_in q.scheduler ≤ asked → ReadBy q.scheduler (data_in q.scheduler) u →
      Serves (a_record u q.state (q.pending_ack_count + 1) q.notification_socket_shutdown_issued) q.scheduler (drops (a_read (data_in q.scheduler) b)) c →
      HandsOut q asked b c

-- a failure terminates, and is answered whatever comes of the shutdown
abbrev pub Fails : Failure → ReceiverState → RingBufferScheduler → Call → Type 0
Fails f q s c = Advances (Terminated f) None q s (drops (a_failure f)) c

-- nothing to receive: 11 where the stream is normal; one that drains ends with the reason that it has
pub data Blocks (q : ReceiverState) (s : RingBufferScheduler) : Call → Type 0 where
  goes_on : q.state ≡ Normal → Blocks q s (a_call q s (phase.Finished (a_failure (Io 11))))
  is_drained : {f : Failure} {c : Call} → q.state ≡ Draining f → Fails f q s c → Blocks q s c

-- a chunk: 8 bytes of header and a body are written, and the header is read
pub record Chunk (s : RingBufferScheduler) (n : ℕ) (u : RingBufferScheduler) : Type 0 where
  pub headed : RingBufferScheduler
  pub heading : WrittenBy s 8 headed
  pub begun : RingBufferScheduler
  pub beginning : ReadBy headed 8 begun
  pub filling : WrittenBy begun n u

module _ (q : ReceiverState) (s : RingBufferScheduler) (ring : List ℕ) (w : Wanted) where
  -- the number in the eight cells from the read offset on, in the ring of this length
  abbrev pub Header : Beside → Said → Type 0
  Header b = Announces q.scheduler.buf_len (number_at q.scheduler.buf_len ring (offset_in q.scheduler Read).0) b

  -- the byte must be 0, and the header announces a body
  pub data TakesReceived : Received → Call → Type 0 where
    announces : {fds n : ℕ} {b : Beside} {u : RingBufferScheduler} {c : Call} → Header (with_descriptors fds) (body n b) → Chunk q.scheduler n u →
        HandsOut (a_record u q.state q.pending_ack_count q.notification_socket_shutdown_issued) w.dst_len b c → TakesReceived (received.Byte 0 fds) c
    header_violates : {fds k needed room : ℕ} {v : Violation} {c : Call} → Header (with_descriptors fds) (violates k needed room) → Numbered v k needed room → Fails (Protocol v) q s c → TakesReceived (received.Byte 0 fds) c
    byte_violates : {byte fds : ℕ} {v : Violation} {c : Call} → byte ≢ 0 → Numbered v 1 0 0 → Fails (Protocol v) q s c → TakesReceived (received.Byte byte fds) c
    receive_blocks : {c : Call} → Blocks q s c → TakesReceived (received.Failed 11) c
    receive_fails : {n : ℕ} {c : Call} → n ≢ 11 → Fails (Io n) q s c → TakesReceived (received.Failed n) c

-- ---- the beginnings, of a record that passed its tests
pub record Reading (q : ReceiverState) (asked : ℕ) : Type 0 where
  pub live : (f : Failure) → q.state ≢ Terminated f
  pub some : asked ≢ 0
  pub counts : q.pending_ack_count ≢ 2 ^ 64 - 1

-- at most so many descriptors, and so many bytes
abbrev pub a_want : ℕ → ℕ → Wanted
a_want top asked = record { max_new_fds = top; dst_len = asked }

pub data BeginsRead (q : ReceiverState) (w : Wanted) : Call → Type 0 where
  is_terminated : {f : Failure} → q.state ≡ Terminated f → BeginsRead q w (a_call q q.scheduler (phase.Finished (a_failure f)))
  none_asked : ((f : Failure) → q.state ≢ Terminated f) → w.dst_len ≡ 0 → BeginsRead q w (a_call q q.scheduler (phase.Finished (a_read 0 nothing_more)))
  awaits : Reading q w.dst_len → data_in q.scheduler ≡ 0 → BeginsRead q w (a_call q q.scheduler (phase.Receive w))
  holds_data : {c : Call} → Reading q w.dst_len → 1 ≤ data_in q.scheduler → HandsOut q w.dst_len nothing_more c → BeginsRead q w c

abbrev pub BeginsService : ReceiverState → Call → Type 0
BeginsService q c = Serves q q.scheduler (tells all_done) c

-- draining with 32, the end of the stream
abbrev pub BeginsShutdown : ReceiverState → Call → Type 0
BeginsShutdown q c = Advances (Draining (Io 32)) None q q.scheduler (tells all_done) c

-- ---- an answer
-- the ring is looked at where a byte was received, and only there
pub data Looks (a : Answer) (n : ℕ) : Phase → Option ℕ → Type 0 where
  at_a_byte : {w : Wanted} → AByte a w.max_new_fds → Looks a n (phase.Receive w) (Some n)
  at_no_byte : {w : Wanted} → (AByte a w.max_new_fds → ⊥) → Looks a n (phase.Receive w) None
  at_a_send : {batch : ℕ} {e : Ending} → Looks a n (phase.Send batch e) None
  at_a_shutdown : {e : Ending} → Looks a n (phase.Shutdown e) None
  at_the_end : {o : Outcome} → Looks a n (phase.Finished o) None

-- what the rules make of a call, whose phase may be made up, with this record
abbrev pub ResumesIn : Phase → Call → Call → Type 0
ResumesIn (phase.Receive w) c d = BeginsRead c.receiver w d
ResumesIn (phase.Send batch e) c d = Serves c.receiver c.source e d
ResumesIn (phase.Shutdown e) c d = Closes c.receiver c.source e d
ResumesIn (phase.Finished o) c d = d ≡ c

abbrev pub Resumes : Call → Call → Type 0
Resumes c d = ResumesIn c.phase c d

-- errno 4 is waited out, but by a shutdown
abbrev pub Interrupts : Answer → Type 0
Interrupts a = (a.kind ≡ 2) × (a.value ≡ 4)

-- what an answer makes of a call that waits for it
abbrev pub TakesIn : Phase → Call → List ℕ → Answer → Call → Type 0
TakesIn (phase.Receive w) d ring a c = (Interrupts a × (c ≡ d)) ⊎ ((Interrupts a → ⊥) × ((x : Received) × SaysReceived a w.max_new_fds x × TakesReceived d.receiver d.source ring w x c))
TakesIn (phase.Send batch e) d ring a c = (Interrupts a × (c ≡ d)) ⊎ ((Interrupts a → ⊥) × ((x : Sent) × SaysSent a batch x × TakesSent d.receiver d.source e x c))
TakesIn (phase.Shutdown e) d ring a c = (x : Shut) × SaysShut a x × TakesShut d.receiver d.source e x c
TakesIn (phase.Finished o) d ring a c = c ≡ d

abbrev pub Takes : Call → List ℕ → Answer → Call → Type 0
Takes d ring a c = TakesIn d.phase d ring a c

-- an answer is taken by what the rules make of the call
abbrev pub Answered : Call → List ℕ → Answer → Call → Type 0
Answered c ring a z = (d : Call) × Resumes c d × Takes d ring a z

-- ---- so of a step: where it is not refused
abbrev pub Goes : (Call → Type 0) → Result Call Refusal → Type 0
Goes P (Ok c) = P c
Goes P (Err r) = Unit {0}
