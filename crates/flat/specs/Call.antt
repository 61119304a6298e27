-- What a host's call stands for, and the flat form of one. What a kind of phase does not use is 0.
use Rattle.std.specs.Prelude.{ℕ, cond, eqb, Result, Ok, Err}
use Rattle.receiver.specs.Call as of_receiver_lem
use Rattle.receiver.specs.declared.call.Call as receiver_call
use Rattle.receiver.specs.declared.call.Ending as receiver_ending
use Rattle.receiver.specs.declared.call.Phase as receiver_phase
use Rattle.receiver.specs.declared.call.Phase.TheVariants.{Receive, Send, Shutdown, Finished}
use Rattle.receiver.specs.declared.call.Wanted.{Wanted}
use Rattle.flat.specs.declared.structs.Call.{Call}
use Rattle.flat.specs.declared.structs.Ending.{Ending}
use Rattle.flat.specs.declared.structs.Outcome.{Outcome}
use Rattle.flat.specs.declared.structs.Phase.{Phase}
use Rattle.flat.specs.declared.structs.StepAnswer.{StepAnswer}
use Rattle.flat.specs.Counter.{bool_number}
use Rattle.flat.specs.Flat.{no_refusal, flat_receiver_refusal}
use Rattle.flat.specs.Outcome.{outcome_at, no_outcome, flat_outcome}
use Rattle.flat.specs.Receiver.{yes_at, receiver_at, no_receiver, flat_receiver}
use Rattle.flat.specs.Scheduler.{scheduler_at, no_scheduler, flat_scheduler}
use Rattle.states.specs.declared.refusal.Refusal.{Refusal}

-- where `told` is 0 a failure is dropped
abbrev pub ending_at : Ending → receiver_ending.Ending
ending_at e = record { outcome = outcome_at e.outcome; told = yes_at e.told }

abbrev pub no_ending : Ending
no_ending = record { told = 0; outcome = no_outcome }

abbrev pub flat_ending : receiver_ending.Ending → Ending
flat_ending e = record { told = bool_number e.told; outcome = flat_outcome e.outcome }

abbrev pub wanted_at : Phase → Wanted
wanted_at p = of_receiver_lem.wanted p.max_new_fds p.dst_len

-- kinds 0 to 2 wait, any other is finished
unfoldable pub phase_at : Phase → receiver_phase.Phase
phase_at p =
    cond (eqb p.kind 0) (Receive (wanted_at p))
    (cond (eqb p.kind 1) (Send p.batch (ending_at p.ending))
    (cond (eqb p.kind 2) (Shutdown (ending_at p.ending))
    (Finished (outcome_at p.outcome))))

abbrev pub phase_of : ℕ → ℕ → ℕ → ℕ → Ending → Outcome → Phase
phase_of k top asked n e o = record { kind = k; max_new_fds = top; dst_len = asked; batch = n; ending = e; outcome = o }

abbrev pub no_phase : Phase
no_phase = phase_of 0 0 0 0 no_ending no_outcome

abbrev pub flat_phase : receiver_phase.Phase → Phase
flat_phase (Receive w) = phase_of 0 w.max_new_fds w.dst_len 0 no_ending no_outcome
flat_phase (Send n e) = phase_of 1 0 0 n (flat_ending e) no_outcome
flat_phase (Shutdown e) = phase_of 2 0 0 0 (flat_ending e) no_outcome
flat_phase (Finished o) = phase_of 3 0 0 0 no_ending (flat_outcome o)

abbrev pub call_at : Call → receiver_call.Call
call_at c = of_receiver_lem.call (receiver_at c.receiver) (scheduler_at c.source) (phase_at c.phase)

abbrev pub flat_call : receiver_call.Call → Call
flat_call c = record { receiver = flat_receiver c.receiver; source = flat_scheduler c.source; phase = flat_phase c.phase }

abbrev pub no_call : Call
no_call = record { receiver = no_receiver; source = no_scheduler; phase = no_phase }

-- where it is refused every field but the refusal is 0
abbrev pub flat_step : Result receiver_call.Call Refusal → StepAnswer
flat_step (Ok c) = record { refusal = no_refusal; call = flat_call c }
flat_step (Err r) = record { refusal = flat_receiver_refusal r; call = no_call }
