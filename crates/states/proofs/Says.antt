-- What each public call says, in the order of the paper: whatever its attached contract allows is this definition of its arguments.
use Rattle.modular.proofs.Saying.{Says}
use Rattle.operations.specs.Refusal.{packed}
use Rattle.states.specs.Answer.{batch_of, interrupted_of, received_of, sent_of, shut_of}
use Rattle.states.specs.Refusal.{number_of, values_of, from_copy, from_scheduler}
use Rattle.states.specs.State.{fits_state, failure_in, advance_in, header_overflow, body_overflow, violation_number, overflow_in, violation_at, is_errno, failure_of, with_failure_of, with_potential_failure_of, normalize_of, advance_of, normalize_failure_of, towards_error_of}
use Rattle.states.proofs.state.OperationalState.fits.Kinds as fits_kinds
use Rattle.states.proofs.state.OperationalState.fits.Reads as fits
use Rattle.states.proofs.state.OperationalState.cached_failure.Kinds as cached_failure_kinds
use Rattle.states.proofs.state.OperationalState.cached_failure.Reads as cached_failure
use Rattle.states.proofs.state.OperationalState.advance.Kinds as advance_kinds
use Rattle.states.proofs.state.OperationalState.advance.Reads as advance
use Rattle.states.proofs.state.OperationalState.failure.Kinds as failure_kinds
use Rattle.states.proofs.state.OperationalState.failure.Reads as failure
use Rattle.states.proofs.state.OperationalState.with_failure.Kinds as with_failure_kinds
use Rattle.states.proofs.state.OperationalState.with_failure.Reads as with_failure
use Rattle.states.proofs.state.OperationalState.with_potential_failure.Kinds as with_potential_failure_kinds
use Rattle.states.proofs.state.OperationalState.with_potential_failure.Reads as with_potential_failure
use Rattle.states.proofs.state.OperationalState.normalize.Kinds as OperationalState-normalize-kinds
use Rattle.states.proofs.state.OperationalState.normalize.Reads as OperationalState-normalize
use Rattle.states.proofs.state.OperationalState.advance_state_towards_termination.Kinds as advance_state_towards_termination_kinds
use Rattle.states.proofs.state.OperationalState.advance_state_towards_termination.Reads as advance_state_towards_termination
use Rattle.states.proofs.state.Failure.normalize.Kinds as Failure-normalize-kinds
use Rattle.states.proofs.state.Failure.normalize.Reads as Failure-normalize
use Rattle.states.proofs.state.Failure.advance_failure_towards_error.Kinds as advance_failure_towards_error_kinds
use Rattle.states.proofs.state.Failure.advance_failure_towards_error.Reads as advance_failure_towards_error
use Rattle.states.proofs.state.Failure.is_errno.Kinds as is_errno_kinds
use Rattle.states.proofs.state.Failure.is_errno.Reads as is_errno_lem
use Rattle.states.proofs.answer.Answer.is_interruption.Kinds as is_interruption_kinds
use Rattle.states.proofs.answer.Answer.is_interruption.Reads as is_interruption
use Rattle.states.proofs.answer.Answer.received.Kinds as received_kinds
use Rattle.states.proofs.answer.Answer.received.Reads as received
use Rattle.states.proofs.answer.batch_of.Kinds as batch_of_kinds
use Rattle.states.proofs.answer.batch_of.Reads as batch_of_lem
use Rattle.states.proofs.answer.Answer.sent.Kinds as sent_kinds
use Rattle.states.proofs.answer.Answer.sent.Reads as sent
use Rattle.states.proofs.answer.Answer.shut.Kinds as shut_kinds
use Rattle.states.proofs.answer.Answer.shut.Reads as shut
use Rattle.states.proofs.refusal.RefusalFromCopiesRefusal.from.Kinds as from_copy_kinds
use Rattle.states.proofs.refusal.RefusalFromCopiesRefusal.from.Reads as from_copy_lem
use Rattle.states.proofs.refusal.RefusalFromSchedRefusal.from.Kinds as from_scheduler_kinds
use Rattle.states.proofs.refusal.RefusalFromSchedRefusal.from.Reads as from_scheduler_lem
use Rattle.states.proofs.refusal.Refusal.number.Kinds as Refusal-number-kinds
use Rattle.states.proofs.refusal.Refusal.number.Reads as Refusal-number
use Rattle.states.proofs.refusal.Refusal.values.Kinds as values_kinds
use Rattle.states.proofs.refusal.Refusal.values.Reads as values
use Rattle.states.proofs.state.Violation.number.Kinds as Violation-number-kinds
use Rattle.states.proofs.state.Violation.number.Reads as Violation-number
use Rattle.states.proofs.state.Violation.of_header.Kinds as of_header_kinds
use Rattle.states.proofs.state.Violation.of_header.Reads as of_header
use Rattle.states.proofs.state.Violation.of_body.Kinds as of_body_kinds
use Rattle.states.proofs.state.Violation.of_body.Reads as of_body
use Rattle.states.proofs.state.Violation.overflow.Kinds as overflow_kinds
use Rattle.states.proofs.state.Violation.overflow.Reads as overflow
use Rattle.states.proofs.state.Violation.of_number.Kinds as of_number_kinds
use Rattle.states.proofs.state.Violation.of_number.Reads as of_number

-- ---- the states
pub fits_says : Says 0 fits_kinds.ps fits_kinds.r fits.Learnt (λ κs a. fits_state a.0)
fits_says κs a z ws p = p

pub cached_failure_says : Says 0 cached_failure_kinds.ps cached_failure_kinds.r cached_failure.Learnt (λ κs a. failure_in a.0)
cached_failure_says κs a z ws p = p

pub advance_says : Says 0 advance_kinds.ps advance_kinds.r advance.Learnt (λ κs a. advance_in a.0 a.1.0)
advance_says κs a z ws p = p

pub failure_says : Says 0 failure_kinds.ps failure_kinds.r failure.Learnt (λ κs a. failure_of a.0)
failure_says κs a z ws p = p

pub with_failure_says : Says 0 with_failure_kinds.ps with_failure_kinds.r with_failure.Learnt (λ κs a. with_failure_of a.0 a.1.0)
with_failure_says κs a z ws p = p

pub with_potential_failure_says : Says 0 with_potential_failure_kinds.ps with_potential_failure_kinds.r with_potential_failure.Learnt (λ κs a. with_potential_failure_of a.0 a.1.0)
with_potential_failure_says κs a z ws p = p

pub OperationalState-normalize-says : Says 0 OperationalState-normalize-kinds.ps OperationalState-normalize-kinds.r OperationalState-normalize.Learnt (λ κs a. normalize_of a.0)
OperationalState-normalize-says κs a z ws p = p

pub advance_state_towards_termination_says : Says 0 advance_state_towards_termination_kinds.ps advance_state_towards_termination_kinds.r advance_state_towards_termination.Learnt (λ κs a. advance_of a.0 a.1.0)
advance_state_towards_termination_says κs a z ws p = p

pub Failure-normalize-says : Says 0 Failure-normalize-kinds.ps Failure-normalize-kinds.r Failure-normalize.Learnt (λ κs a. normalize_failure_of a.0)
Failure-normalize-says κs a z ws p = p

pub advance_failure_towards_error_says : Says 0 advance_failure_towards_error_kinds.ps advance_failure_towards_error_kinds.r advance_failure_towards_error.Learnt (λ κs a. towards_error_of a.0 a.1.0)
advance_failure_towards_error_says κs a z ws p = p

pub is_errno_says : Says 0 is_errno_kinds.ps is_errno_kinds.r is_errno_lem.Learnt (λ κs a. is_errno a.0 a.1.0)
is_errno_says κs a z ws p = p

-- ---- the socket's answers, each at its place
pub is_interruption_says : Says 0 is_interruption_kinds.ps is_interruption_kinds.r is_interruption.Learnt (λ κs a. interrupted_of a.0)
is_interruption_says κs a z ws p = p

pub received_says : Says 0 received_kinds.ps received_kinds.r received.Learnt (λ κs a. received_of a.1.0 a.0)
received_says κs a z ws p = p

pub batch_of_says : Says 0 batch_of_kinds.ps batch_of_kinds.r batch_of_lem.Learnt (λ κs a. batch_of a.0)
batch_of_says κs a z ws p = p

pub sent_says : Says 0 sent_kinds.ps sent_kinds.r sent.Learnt (λ κs a. sent_of a.1.0 a.0)
sent_says κs a z ws p = p

pub shut_says : Says 0 shut_kinds.ps shut_kinds.r shut.Learnt (λ κs a. shut_of a.0)
shut_says κs a z ws p = p

-- ---- a refusal of a copy or of the scheduler; refusals and violations in numbers
pub from_copy_says : Says 0 from_copy_kinds.ps from_copy_kinds.r from_copy_lem.Learnt (λ κs a. from_copy a.0)
from_copy_says κs a z ws p = p

pub from_scheduler_says : Says 0 from_scheduler_kinds.ps from_scheduler_kinds.r from_scheduler_lem.Learnt (λ κs a. from_scheduler a.0)
from_scheduler_says κs a z ws p = p

pub Refusal-number-says : Says 0 Refusal-number-kinds.ps Refusal-number-kinds.r Refusal-number.Learnt (λ κs a. number_of a.0)
Refusal-number-says κs a z ws p = p

pub values_says : Says 0 values_kinds.ps values_kinds.r values.Learnt (λ κs a. packed (values_of a.0))
values_says κs a z ws p = p

pub of_header_says : Says 0 of_header_kinds.ps of_header_kinds.r of_header.Learnt (λ κs a. header_overflow a.0)
of_header_says κs a z ws p = p

pub of_body_says : Says 0 of_body_kinds.ps of_body_kinds.r of_body.Learnt (λ κs a. body_overflow a.0 a.1.0)
of_body_says κs a z ws p = p

pub Violation-number-says : Says 0 Violation-number-kinds.ps Violation-number-kinds.r Violation-number.Learnt (λ κs a. violation_number a.0)
Violation-number-says κs a z ws p = p

pub overflow_says : Says 0 overflow_kinds.ps overflow_kinds.r overflow.Learnt (λ κs a. overflow_in a.0)
overflow_says κs a z ws p = p

pub of_number_says : Says 0 of_number_kinds.ps of_number_kinds.r of_number.Learnt (λ κs a. violation_at a.0 a.1.0)
of_number_says κs a z ws p = p
