-- What a host's state stands for, and the flat forms of the answers that are one.
use Rattle.std.specs.Prelude.{cond, eqb, Result, Ok, Err}
use Rattle.states.specs.declared.state.OperationalState.{OperationalState}
use Rattle.states.specs.declared.state.OperationalState.TheVariants.{Normal, Draining, Terminated}
use Rattle.flat.specs.declared.structs.State.{State}
use Rattle.flat.specs.declared.structs.StateAnswer.{StateAnswer}
use Rattle.flat.specs.Failure.{failure_at, no_failure, flat_failure}
use Rattle.flat.specs.Flat.{no_refusal, flat_receiver_refusal}
use Rattle.states.specs.declared.refusal.Refusal.{Refusal}

-- kind 0 is normal, and its failure is not looked at; 1 is draining, any other terminated
unfoldable pub state_at : State → OperationalState
state_at s =
    cond (eqb s.kind 0) Normal
    (cond (eqb s.kind 1) (Draining (failure_at s.failure))
    (Terminated (failure_at s.failure)))

abbrev pub no_state : State
no_state = record { kind = 0; failure = no_failure }

abbrev pub flat_state : OperationalState → State
flat_state Normal = record { kind = 0; failure = no_failure }
flat_state (Draining f) = record { kind = 1; failure = flat_failure f }
flat_state (Terminated f) = record { kind = 2; failure = flat_failure f }

abbrev pub flat_state_answer : Result OperationalState Refusal → StateAnswer
flat_state_answer (Ok s) = record { refusal = no_refusal; state = flat_state s }
flat_state_answer (Err e) = record { refusal = flat_receiver_refusal e; state = no_state }
