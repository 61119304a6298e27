-- What a host's failure stands for, and the flat forms of the answers that are one.
use Rattle.std.specs.Prelude.{ℕ, cond, eqb, Result, Ok, Err, Option, Some, None}
use Rattle.states.specs.State.{violation_number, overflow_in, overflow_of, violation_at}
use Rattle.states.specs.declared.state.Overflow.{Overflow}
use Rattle.states.specs.declared.state.Failure as receiver_failure
use Rattle.states.specs.declared.state.Failure.TheVariants.{Io, Protocol}
use Rattle.flat.specs.declared.structs.Failure.{Failure}
use Rattle.flat.specs.declared.structs.FailureAnswer.{FailureAnswer}
use Rattle.flat.specs.declared.structs.PotentialFailureAnswer.{PotentialFailureAnswer}
use Rattle.flat.specs.Flat.{no_refusal, flat_receiver_refusal}
use Rattle.states.specs.declared.refusal.Refusal.{Refusal}

-- kind 0 is an errno, any other a violation, with any bytes needed and any room
unfoldable pub failure_at : Failure → receiver_failure.Failure
failure_at f = cond (eqb f.kind 0) (Io f.value) (Protocol (violation_at f.value (overflow_of f.needed f.room)))

-- where the number is 0 the failure is not looked at
unfoldable pub potential_failure_at : ℕ → Failure → Option receiver_failure.Failure
potential_failure_at n f = cond (eqb n 0) None (Some (failure_at f))

abbrev pub an_errno : ℕ → Failure
an_errno e = record { kind = 0; value = e; needed = 0; room = 0 }

abbrev pub a_violation : ℕ → Overflow → Failure
a_violation n o = record { kind = 1; value = n; needed = o.needed; room = o.room }

abbrev pub no_failure : Failure
no_failure = an_errno 0

abbrev pub flat_failure : receiver_failure.Failure → Failure
flat_failure (Io e) = an_errno e
flat_failure (Protocol v) = a_violation (violation_number v) (overflow_in v)

abbrev pub flat_failure_answer : Result receiver_failure.Failure Refusal → FailureAnswer
flat_failure_answer (Ok f) = record { refusal = no_refusal; failure = flat_failure f }
flat_failure_answer (Err e) = record { refusal = flat_receiver_refusal e; failure = no_failure }

abbrev pub flat_potential_failure : Result (Option receiver_failure.Failure) Refusal → PotentialFailureAnswer
flat_potential_failure (Ok (Some f)) = record { refusal = no_refusal; some = 1; failure = flat_failure f }
flat_potential_failure (Ok None) = record { refusal = no_refusal; some = 0; failure = no_failure }
flat_potential_failure (Err e) = record { refusal = flat_receiver_refusal e; some = 0; failure = no_failure }
