-- What a host's receiver stands for, and the flat forms of the answers that hold one.
use Rattle.std.specs.Prelude.{ℕ, Bool, not, eqb, Result, Ok, Err}
use Rattle.receiver.specs.Receiver.{receiver}
use Rattle.receiver.specs.declared.receiver.ReceiverState.{ReceiverState}
use Rattle.flat.specs.declared.structs.EndedAnswer.{EndedAnswer}
use Rattle.flat.specs.declared.structs.Receiver.{Receiver}
use Rattle.flat.specs.declared.structs.ReceiverAnswer.{ReceiverAnswer}
use Rattle.flat.specs.Counter.{bool_number}
use Rattle.flat.specs.Flat.{no_refusal, flat_receiver_refusal}
use Rattle.flat.specs.Outcome.{no_outcome, flat_outcome}
use Rattle.flat.specs.Scheduler.{scheduler_at, no_scheduler, flat_scheduler}
use Rattle.flat.specs.State.{state_at, no_state, flat_state}
use Rattle.receiver.specs.declared.receiver.Ended.{Ended}
use Rattle.states.specs.declared.refusal.Refusal.{Refusal}

-- any number but 0 is yes
abbrev pub yes_at : ℕ → Bool
yes_at n = not (eqb n 0)

abbrev pub receiver_at : Receiver → ReceiverState
receiver_at r =
    receiver (scheduler_at r.scheduler) (state_at r.state) r.pending_ack_count (yes_at r.notification_socket_shutdown_issued)

abbrev pub no_receiver : Receiver
no_receiver = record { scheduler = no_scheduler; state = no_state; pending_ack_count = 0; notification_socket_shutdown_issued = 0 }

abbrev pub flat_receiver : ReceiverState → Receiver
flat_receiver q =
    record {
      scheduler = flat_scheduler q.scheduler;
      state = flat_state q.state;
      pending_ack_count = q.pending_ack_count;
      notification_socket_shutdown_issued = bool_number q.notification_socket_shutdown_issued;
    }

abbrev pub flat_receiver_answer : Result ReceiverState Refusal → ReceiverAnswer
flat_receiver_answer (Ok q) = record { refusal = no_refusal; receiver = flat_receiver q }
flat_receiver_answer (Err e) = record { refusal = flat_receiver_refusal e; receiver = no_receiver }

-- where it is refused every field but the refusal is 0
abbrev pub flat_ended : Result Ended Refusal → EndedAnswer
flat_ended (Ok m) = record { refusal = no_refusal; receiver = flat_receiver m.receiver; outcome = flat_outcome m.outcome; used = m.used }
flat_ended (Err e) = record { refusal = flat_receiver_refusal e; receiver = no_receiver; outcome = no_outcome; used = 0 }
