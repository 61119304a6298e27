-- The receiver's record, and the parts of its rules: what is made new, a batch, an announcement, bytes that are handed out.
use Rattle.std.specs.Prelude.{ℕ, ◌+◌, ◌/◌, ◌%◌, ◌^◌, Bool, cond, true, false, List, eqb, ltb, Result, Ok, Err}
use Rattle.operations.specs.declared.operation.OperationType.TheVariants.{Read, Write}
use Rattle.sched.specs.declared.scheduler.RingBufferScheduler.{RingBufferScheduler}
use Rattle.sched.specs.Chunk.{body_fits}
use Rattle.sched.specs.Scheduler.{sound_of, data_in, space_in, offset_in, advanced_in}
use Rattle.copies.specs.declared.refusal.Refusal.TheVariants.{Scheduler}
use Rattle.copies.specs.Number.{number_from}
use Rattle.copies.specs.Ring.{get}
use Rattle.states.specs.Answer.{batch_of}
use Rattle.states.specs.State.{header_overflow, body_overflow}
use Rattle.states.specs.declared.answer.Sent.{Sent}
use Rattle.states.specs.declared.answer.Sent.TheVariants as sent
use Rattle.receiver.specs.declared.receiver.Beside.{Beside}
use Rattle.receiver.specs.declared.receiver.Came.TheVariants as came
use Rattle.receiver.specs.declared.receiver.Outcome.{Outcome}
use Rattle.receiver.specs.declared.receiver.ReceiverState.{ReceiverState}
use Rattle.states.specs.declared.refusal.Refusal.TheVariants.{Copy}
use Rattle.states.specs.declared.state.Failure.{Failure}
use Rattle.states.specs.declared.state.Failure.TheVariants.{Protocol}
use Rattle.states.specs.declared.state.OperationalState.{OperationalState}
use Rattle.states.specs.declared.state.OperationalState.TheVariants.{Normal}
use Rattle.states.specs.declared.state.Violation.TheVariants.{InvalidChunkAnnouncement, UnknownHeader, InvalidChunkLength}
use Rattle.receiver.specs.declared.announcement.Announced.{Announced}
use Rattle.states.specs.declared.refusal.Refusal as states
use Rattle.operations.specs.declared.refusal.Refusal.{Refusal}

-- ---- the record
abbrev pub receiver : RingBufferScheduler → OperationalState → ℕ → Bool → ReceiverState
receiver s st pending issued =
    record { scheduler = s; state = st; pending_ack_count = pending; notification_socket_shutdown_issued = issued }

abbrev pub with_scheduler : ReceiverState → RingBufferScheduler → ReceiverState
with_scheduler q s = receiver s q.state q.pending_ack_count q.notification_socket_shutdown_issued

abbrev pub with_state : ReceiverState → OperationalState → ReceiverState
with_state q st = receiver q.scheduler st q.pending_ack_count q.notification_socket_shutdown_issued

abbrev pub with_pending : ReceiverState → ℕ → ReceiverState
with_pending q n = receiver q.scheduler q.state n q.notification_socket_shutdown_issued

abbrev pub with_shutdown : ReceiverState → ReceiverState
with_shutdown q = receiver q.scheduler q.state q.pending_ack_count true

-- ---- what a call answers
-- beside it: nothing, or the descriptors that came with a byte
abbrev pub none_beside : Beside
none_beside = record { fds = 0 }

abbrev pub beside_byte : ℕ → Beside
beside_byte fds = record { fds = fds }

-- something comes beside a read; the other outcomes carry nothing
abbrev pub read_outcome : ℕ → Beside → Outcome
read_outcome n b = record { came = came.Read n; beside = b }

abbrev pub done_outcome : Outcome
done_outcome = record { came = came.Done; beside = none_beside }

abbrev pub failed_outcome : Failure → Outcome
failed_outcome f = record { came = came.Failed f; beside = none_beside }

-- ---- making one
-- 1 to 5 and 20, then a stream that is normal, with nothing pending
abbrev pub receiver_from : Result RingBufferScheduler Refusal → Result ReceiverState states.Refusal
receiver_from (Ok s) = Ok (receiver s Normal 0 false)
receiver_from (Err e) = Err (Copy (Scheduler e))

abbrev pub receiver_of : RingBufferScheduler → Result ReceiverState states.Refusal
receiver_of s = receiver_from (sound_of s)

-- ---- acknowledgements
-- a batch of what is pending
abbrev pub batch_in : ReceiverState → ℕ
batch_in q = batch_of q.pending_ack_count

-- what a send says
abbrev pub by_sent : {X : Type 0} → Sent → (ℕ → X) → (ℕ → X) → X → X
by_sent (sent.Sent n) done failed misfit = done n
by_sent (sent.Failed e) done failed misfit = failed e
by_sent sent.Misfit done failed misfit = misfit

-- ---- an announcement
-- The header: 2 bits format, must be 0; 14 bits strip tag; 48 bits length, not 0. Header and body are registered as written, the
-- header is read; 8 bytes stay free behind the body. A violation leaves the scheduler as it was before the announcement.
abbrev pub header_in : RingBufferScheduler → Beside → ℕ → Result Announced Failure
header_in s b h =
    cond (eqb (h / 2 ^ 62) 0)
    (cond (eqb (h % 2 ^ 48) 0) (Err (Protocol InvalidChunkLength))
    (cond (body_fits (space_in s) (h % 2 ^ 48)) (Ok (record { scheduler = advanced_in (advanced_in (advanced_in s Write 8) Read 8) Write (h % 2 ^ 48); beside = b }))
    (Err (Protocol (body_overflow (space_in s) (h % 2 ^ 48))))))
    (Err (Protocol UnknownHeader))

abbrev pub announced_in : List ℕ → RingBufferScheduler → Beside → Result Announced Failure
announced_in ring s b =
    cond (ltb (space_in s) 8) (Err (Protocol (header_overflow (space_in s))))
    (header_in s b (number_from 0 (get s.buf_len ring (offset_in s Read).0 8)))

-- the byte must be 0
abbrev pub byte_in : List ℕ → RingBufferScheduler → ℕ → Beside → Result Announced Failure
byte_in ring s byte b = cond (eqb byte 0) (announced_in ring s b) (Err (Protocol InvalidChunkAnnouncement))

-- ---- a read
-- bytes are handed out; if no data is left, pending rises by 1
abbrev pub handed_in : ReceiverState → RingBufferScheduler → ReceiverState
handed_in q u = cond (eqb (data_in u) 0) (with_pending (with_scheduler q u) (q.pending_ack_count + 1)) (with_scheduler q u)
