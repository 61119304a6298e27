-- Thin.antt, of the ends, the receiver and the moduli, in the order of the C header.
use mathlib.Core.Path.{sym, ap, ◌∙◌}
use Rattle.modular.specs.declared.Modulus.{Modulus}
use Rattle.flat.specs.Call.{call_at, flat_step}
use Rattle.flat.specs.Failure.{failure_at, flat_failure_answer, flat_potential_failure, potential_failure_at}
use Rattle.flat.specs.Modulus.{flat_modulus, flat_number, modulus_at}
use Rattle.flat.specs.ReadingEnd.{flat_read_counter, flat_reading_end_answer, read_counter_at, reading_end_at}
use Rattle.flat.specs.Receiver.{flat_receiver_answer, receiver_at}
use Rattle.flat.specs.Scheduler.{scheduler_at}
use Rattle.flat.specs.State.{flat_state_answer, state_at}
use Rattle.flat.specs.WritingEnd.{flat_writing_end_answer, flat_written_counter, writing_end_at, written_counter_at}
use Rattle.stripring.proofs.Thin.{Thin}
use Rattle.stripring.proofs.writing_end.stripring_writing_end_new.Kinds as writing_end_new_kinds
use Rattle.stripring.proofs.writing_end.stripring_writing_end_new.Reads as writing_end_new
use Rattle.ends.proofs.writing_end.WritingEnd.new.Kinds as lib_writing_end_new_kinds
use Rattle.ends.proofs.writing_end.WritingEnd.new.Reads as lib_writing_end_new
use Rattle.stripring.proofs.writing_end.stripring_writing_end_from_counters.Kinds as writing_end_from_counters_kinds
use Rattle.stripring.proofs.writing_end.stripring_writing_end_from_counters.Reads as writing_end_from_counters
use Rattle.ends.proofs.writing_end.WritingEnd.from_counters.Kinds as lib_writing_end_from_counters_kinds
use Rattle.ends.proofs.writing_end.WritingEnd.from_counters.Reads as lib_writing_end_from_counters
use Rattle.stripring.proofs.writing_end.stripring_writing_end_from_scheduler.Kinds as writing_end_from_scheduler_kinds
use Rattle.stripring.proofs.writing_end.stripring_writing_end_from_scheduler.Reads as writing_end_from_scheduler
use Rattle.ends.proofs.writing_end.WritingEnd.from_scheduler.Kinds as lib_writing_end_from_scheduler_kinds
use Rattle.ends.proofs.writing_end.WritingEnd.from_scheduler.Reads as lib_writing_end_from_scheduler
use Rattle.stripring.proofs.writing_end.stripring_writing_end_send.Kinds as writing_end_send_kinds
use Rattle.stripring.proofs.writing_end.stripring_writing_end_send.Reads as writing_end_send
use Rattle.ends.proofs.writing_end.WritingEnd.send.Kinds as lib_writing_end_send_kinds
use Rattle.ends.proofs.writing_end.WritingEnd.send.Reads as lib_writing_end_send
use Rattle.stripring.proofs.writing_end.stripring_writing_end_take.Kinds as writing_end_take_kinds
use Rattle.stripring.proofs.writing_end.stripring_writing_end_take.Reads as writing_end_take
use Rattle.ends.proofs.writing_end.WritingEnd.take.Kinds as lib_writing_end_take_kinds
use Rattle.ends.proofs.writing_end.WritingEnd.take.Reads as lib_writing_end_take
use Rattle.stripring.proofs.reading_end.stripring_reading_end_new.Kinds as reading_end_new_kinds
use Rattle.stripring.proofs.reading_end.stripring_reading_end_new.Reads as reading_end_new
use Rattle.ends.proofs.reading_end.ReadingEnd.new.Kinds as lib_reading_end_new_kinds
use Rattle.ends.proofs.reading_end.ReadingEnd.new.Reads as lib_reading_end_new
use Rattle.stripring.proofs.reading_end.stripring_reading_end_from_counters.Kinds as reading_end_from_counters_kinds
use Rattle.stripring.proofs.reading_end.stripring_reading_end_from_counters.Reads as reading_end_from_counters
use Rattle.ends.proofs.reading_end.ReadingEnd.from_counters.Kinds as lib_reading_end_from_counters_kinds
use Rattle.ends.proofs.reading_end.ReadingEnd.from_counters.Reads as lib_reading_end_from_counters
use Rattle.stripring.proofs.reading_end.stripring_reading_end_from_scheduler.Kinds as reading_end_from_scheduler_kinds
use Rattle.stripring.proofs.reading_end.stripring_reading_end_from_scheduler.Reads as reading_end_from_scheduler
use Rattle.ends.proofs.reading_end.ReadingEnd.from_scheduler.Kinds as lib_reading_end_from_scheduler_kinds
use Rattle.ends.proofs.reading_end.ReadingEnd.from_scheduler.Reads as lib_reading_end_from_scheduler
use Rattle.stripring.proofs.reading_end.stripring_reading_end_send.Kinds as reading_end_send_kinds
use Rattle.stripring.proofs.reading_end.stripring_reading_end_send.Reads as reading_end_send
use Rattle.ends.proofs.reading_end.ReadingEnd.send.Kinds as lib_reading_end_send_kinds
use Rattle.ends.proofs.reading_end.ReadingEnd.send.Reads as lib_reading_end_send
use Rattle.stripring.proofs.reading_end.stripring_reading_end_take.Kinds as reading_end_take_kinds
use Rattle.stripring.proofs.reading_end.stripring_reading_end_take.Reads as reading_end_take
use Rattle.ends.proofs.reading_end.ReadingEnd.take.Kinds as lib_reading_end_take_kinds
use Rattle.ends.proofs.reading_end.ReadingEnd.take.Reads as lib_reading_end_take
use Rattle.stripring.proofs.receiver_record.stripring_receiver_new.Kinds as receiver_new_kinds
use Rattle.stripring.proofs.receiver_record.stripring_receiver_new.Reads as receiver_new
use Rattle.receiver.proofs.receiver.ReceiverState.new.Kinds as lib_receiver_new_kinds
use Rattle.receiver.proofs.receiver.ReceiverState.new.Reads as lib_receiver_new
use Rattle.stripring.proofs.call.stripring_call_begin_read.Kinds as call_begin_read_kinds
use Rattle.stripring.proofs.call.stripring_call_begin_read.Reads as call_begin_read
use Rattle.receiver.proofs.call.Call.begin_read.Kinds as lib_call_begin_read_kinds
use Rattle.receiver.proofs.call.Call.begin_read.Reads as lib_call_begin_read
use Rattle.stripring.proofs.call.stripring_call_begin_service.Kinds as call_begin_service_kinds
use Rattle.stripring.proofs.call.stripring_call_begin_service.Reads as call_begin_service
use Rattle.receiver.proofs.call.Call.begin_service.Kinds as lib_call_begin_service_kinds
use Rattle.receiver.proofs.call.Call.begin_service.Reads as lib_call_begin_service
use Rattle.stripring.proofs.call.stripring_call_begin_shutdown.Kinds as call_begin_shutdown_kinds
use Rattle.stripring.proofs.call.stripring_call_begin_shutdown.Reads as call_begin_shutdown
use Rattle.receiver.proofs.call.Call.begin_shutdown.Kinds as lib_call_begin_shutdown_kinds
use Rattle.receiver.proofs.call.Call.begin_shutdown.Reads as lib_call_begin_shutdown
use Rattle.stripring.proofs.call.stripring_call_answered.Kinds as call_answered_kinds
use Rattle.stripring.proofs.call.stripring_call_answered.Reads as call_answered
use Rattle.receiver.proofs.call.Call.answered.Kinds as lib_call_answered_kinds
use Rattle.receiver.proofs.call.Call.answered.Reads as lib_call_answered
use Rattle.stripring.proofs.state.stripring_state_failure.Kinds as state_failure_kinds
use Rattle.stripring.proofs.state.stripring_state_failure.Reads as state_failure
use Rattle.states.proofs.state.OperationalState.failure.Kinds as lib_state_failure_kinds
use Rattle.states.proofs.state.OperationalState.failure.Reads as lib_state_failure
use Rattle.stripring.proofs.state.stripring_state_with_failure.Kinds as state_with_failure_kinds
use Rattle.stripring.proofs.state.stripring_state_with_failure.Reads as state_with_failure
use Rattle.states.proofs.state.OperationalState.with_failure.Kinds as lib_state_with_failure_kinds
use Rattle.states.proofs.state.OperationalState.with_failure.Reads as lib_state_with_failure
use Rattle.stripring.proofs.state.stripring_state_with_potential_failure.Kinds as state_with_potential_failure_kinds
use Rattle.stripring.proofs.state.stripring_state_with_potential_failure.Reads as state_with_potential_failure
use Rattle.states.proofs.state.OperationalState.with_potential_failure.Kinds as lib_state_with_potential_failure_kinds
use Rattle.states.proofs.state.OperationalState.with_potential_failure.Reads as lib_state_with_potential_failure
use Rattle.stripring.proofs.state.stripring_state_normalize.Kinds as state_normalize_kinds
use Rattle.stripring.proofs.state.stripring_state_normalize.Reads as state_normalize
use Rattle.states.proofs.state.OperationalState.normalize.Kinds as lib_state_normalize_kinds
use Rattle.states.proofs.state.OperationalState.normalize.Reads as lib_state_normalize
use Rattle.stripring.proofs.state.stripring_state_advance_state_towards_termination.Kinds as state_advance_state_towards_termination_kinds
use Rattle.stripring.proofs.state.stripring_state_advance_state_towards_termination.Reads as state_advance_state_towards_termination
use Rattle.states.proofs.state.OperationalState.advance_state_towards_termination.Kinds as lib_state_advance_state_towards_termination_kinds
use Rattle.states.proofs.state.OperationalState.advance_state_towards_termination.Reads as lib_state_advance_state_towards_termination
use Rattle.stripring.proofs.failure.stripring_failure_normalize.Kinds as failure_normalize_kinds
use Rattle.stripring.proofs.failure.stripring_failure_normalize.Reads as failure_normalize
use Rattle.states.proofs.state.Failure.normalize.Kinds as lib_failure_normalize_kinds
use Rattle.states.proofs.state.Failure.normalize.Reads as lib_failure_normalize
use Rattle.stripring.proofs.failure.stripring_failure_advance_failure_towards_error.Kinds as failure_advance_failure_towards_error_kinds
use Rattle.stripring.proofs.failure.stripring_failure_advance_failure_towards_error.Reads as failure_advance_failure_towards_error
use Rattle.states.proofs.state.Failure.advance_failure_towards_error.Kinds as lib_failure_advance_failure_towards_error_kinds
use Rattle.states.proofs.state.Failure.advance_failure_towards_error.Reads as lib_failure_advance_failure_towards_error
use Rattle.stripring.proofs.modulus.stripring_modulus_new_full_range.Kinds as modulus_new_full_range_kinds
use Rattle.stripring.proofs.modulus.stripring_modulus_new_full_range.Reads as modulus_new_full_range
use Rattle.modular.proofs.Modulus.new_full_range.Kinds as lib_modulus_new_full_range_kinds
use Rattle.modular.proofs.Modulus.new_full_range.Reads as lib_modulus_new_full_range
use Rattle.stripring.proofs.modulus.stripring_modulus_try_new.Kinds as modulus_try_new_kinds
use Rattle.stripring.proofs.modulus.stripring_modulus_try_new.Reads as modulus_try_new
use Rattle.modular.proofs.Modulus.try_new.Kinds as lib_modulus_try_new_kinds
use Rattle.modular.proofs.Modulus.try_new.Reads as lib_modulus_try_new
use Rattle.stripring.proofs.modulus.stripring_modulus_is_full_range.Kinds as modulus_is_full_range_kinds
use Rattle.stripring.proofs.modulus.stripring_modulus_is_full_range.Reads as modulus_is_full_range
use Rattle.modular.proofs.Modulus.is_full_range.Kinds as lib_modulus_is_full_range_kinds
use Rattle.modular.proofs.Modulus.is_full_range.Reads as lib_modulus_is_full_range
use Rattle.stripring.proofs.modulus.stripring_modulus_modulus.Kinds as modulus_modulus_kinds
use Rattle.stripring.proofs.modulus.stripring_modulus_modulus.Reads as modulus_modulus
use Rattle.modular.proofs.Modulus.modulus.Kinds as lib_modulus_modulus_kinds
use Rattle.modular.proofs.Modulus.modulus.Reads as lib_modulus_modulus
use Rattle.stripring.proofs.modulus.stripring_modulus_contains.Kinds as modulus_contains_kinds
use Rattle.stripring.proofs.modulus.stripring_modulus_contains.Reads as modulus_contains
use Rattle.modular.proofs.Modulus.contains.Kinds as lib_modulus_contains_kinds
use Rattle.modular.proofs.Modulus.contains.Reads as lib_modulus_contains
use Rattle.stripring.proofs.modulus.stripring_modulus_double.Kinds as modulus_double_kinds
use Rattle.stripring.proofs.modulus.stripring_modulus_double.Reads as modulus_double
use Rattle.modular.proofs.Modulus.double.Kinds as lib_modulus_double_kinds
use Rattle.modular.proofs.Modulus.double.Reads as lib_modulus_double
use Rattle.stripring.proofs.modulus.stripring_modulus_new_number.Kinds as modulus_new_number_kinds
use Rattle.stripring.proofs.modulus.stripring_modulus_new_number.Reads as modulus_new_number
use Rattle.modular.proofs.Modulus.new_number.Kinds as lib_modulus_new_number_kinds
use Rattle.modular.proofs.Modulus.new_number.Reads as lib_modulus_new_number
use Rattle.stripring.proofs.modulus.stripring_modulus_try_new_number.Kinds as modulus_try_new_number_kinds
use Rattle.stripring.proofs.modulus.stripring_modulus_try_new_number.Reads as modulus_try_new_number
use Rattle.modular.proofs.Modulus.try_new_number.Kinds as lib_modulus_try_new_number_kinds
use Rattle.modular.proofs.Modulus.try_new_number.Reads as lib_modulus_try_new_number
use Rattle.stripring.proofs.modulus.stripring_modulus_neg.Kinds as modulus_neg_kinds
use Rattle.stripring.proofs.modulus.stripring_modulus_neg.Reads as modulus_neg
use Rattle.modular.proofs.Modulus.neg.Kinds as lib_modulus_neg_kinds
use Rattle.modular.proofs.Modulus.neg.Reads as lib_modulus_neg
use Rattle.stripring.proofs.modulus.stripring_modulus_sub.Kinds as modulus_sub_kinds
use Rattle.stripring.proofs.modulus.stripring_modulus_sub.Reads as modulus_sub
use Rattle.modular.proofs.Modulus.sub.Kinds as lib_modulus_sub_kinds
use Rattle.modular.proofs.Modulus.sub.Reads as lib_modulus_sub
use Rattle.stripring.proofs.modulus.stripring_modulus_add.Kinds as modulus_add_kinds
use Rattle.stripring.proofs.modulus.stripring_modulus_add.Reads as modulus_add
use Rattle.modular.proofs.Modulus.add.Kinds as lib_modulus_add_kinds
use Rattle.modular.proofs.Modulus.add.Reads as lib_modulus_add

pub writing_end_new_thin : Thin 0 writing_end_new_kinds.ps writing_end_new_kinds.r writing_end_new.Learnt lib_writing_end_new_kinds.ps lib_writing_end_new_kinds.r lib_writing_end_new.Learnt (λ κs a. (a.0, tt)) (λ κs x. flat_writing_end_answer x)
writing_end_new_thin κs a z (ws, p) x (us, q) = p ∙ ap flat_writing_end_answer (sym q)

pub writing_end_from_counters_thin : Thin 0 writing_end_from_counters_kinds.ps writing_end_from_counters_kinds.r writing_end_from_counters.Learnt lib_writing_end_from_counters_kinds.ps lib_writing_end_from_counters_kinds.r lib_writing_end_from_counters.Learnt (λ κs a. (a.0, (record { 0 = a.1.0 }, (record { 0 = a.1.1.0 }, tt)))) (λ κs x. flat_writing_end_answer x)
writing_end_from_counters_thin κs a z (ws, p) x (us, q) = p ∙ ap flat_writing_end_answer (sym q)

pub writing_end_from_scheduler_thin : Thin 0 writing_end_from_scheduler_kinds.ps writing_end_from_scheduler_kinds.r writing_end_from_scheduler.Learnt lib_writing_end_from_scheduler_kinds.ps lib_writing_end_from_scheduler_kinds.r lib_writing_end_from_scheduler.Learnt (λ κs a. (scheduler_at a.0, tt)) (λ κs x. flat_writing_end_answer x)
writing_end_from_scheduler_thin κs a z (ws, p) x (us, q) = p ∙ ap flat_writing_end_answer (sym q)

pub writing_end_send_thin : Thin 0 writing_end_send_kinds.ps writing_end_send_kinds.r writing_end_send.Learnt lib_writing_end_send_kinds.ps lib_writing_end_send_kinds.r lib_writing_end_send.Learnt (λ κs a. (writing_end_at a.0, tt)) (λ κs x. flat_written_counter x)
writing_end_send_thin κs a z (ws, p) x (us, q) = p ∙ ap flat_written_counter (sym q)

pub writing_end_take_thin : Thin 0 writing_end_take_kinds.ps writing_end_take_kinds.r writing_end_take.Learnt lib_writing_end_take_kinds.ps lib_writing_end_take_kinds.r lib_writing_end_take.Learnt (λ κs a. (writing_end_at a.0, (read_counter_at a.1.0, tt))) (λ κs x. flat_writing_end_answer x)
writing_end_take_thin κs a z (ws, p) x (us, q) = p ∙ ap flat_writing_end_answer (sym q)

pub reading_end_new_thin : Thin 0 reading_end_new_kinds.ps reading_end_new_kinds.r reading_end_new.Learnt lib_reading_end_new_kinds.ps lib_reading_end_new_kinds.r lib_reading_end_new.Learnt (λ κs a. (a.0, tt)) (λ κs x. flat_reading_end_answer x)
reading_end_new_thin κs a z (ws, p) x (us, q) = p ∙ ap flat_reading_end_answer (sym q)

pub reading_end_from_counters_thin : Thin 0 reading_end_from_counters_kinds.ps reading_end_from_counters_kinds.r reading_end_from_counters.Learnt lib_reading_end_from_counters_kinds.ps lib_reading_end_from_counters_kinds.r lib_reading_end_from_counters.Learnt (λ κs a. (a.0, (record { 0 = a.1.0 }, (record { 0 = a.1.1.0 }, tt)))) (λ κs x. flat_reading_end_answer x)
reading_end_from_counters_thin κs a z (ws, p) x (us, q) = p ∙ ap flat_reading_end_answer (sym q)

pub reading_end_from_scheduler_thin : Thin 0 reading_end_from_scheduler_kinds.ps reading_end_from_scheduler_kinds.r reading_end_from_scheduler.Learnt lib_reading_end_from_scheduler_kinds.ps lib_reading_end_from_scheduler_kinds.r lib_reading_end_from_scheduler.Learnt (λ κs a. (scheduler_at a.0, tt)) (λ κs x. flat_reading_end_answer x)
reading_end_from_scheduler_thin κs a z (ws, p) x (us, q) = p ∙ ap flat_reading_end_answer (sym q)

pub reading_end_send_thin : Thin 0 reading_end_send_kinds.ps reading_end_send_kinds.r reading_end_send.Learnt lib_reading_end_send_kinds.ps lib_reading_end_send_kinds.r lib_reading_end_send.Learnt (λ κs a. (reading_end_at a.0, tt)) (λ κs x. flat_read_counter x)
reading_end_send_thin κs a z (ws, p) x (us, q) = p ∙ ap flat_read_counter (sym q)

pub reading_end_take_thin : Thin 0 reading_end_take_kinds.ps reading_end_take_kinds.r reading_end_take.Learnt lib_reading_end_take_kinds.ps lib_reading_end_take_kinds.r lib_reading_end_take.Learnt (λ κs a. (reading_end_at a.0, (written_counter_at a.1.0, tt))) (λ κs x. flat_reading_end_answer x)
reading_end_take_thin κs a z (ws, p) x (us, q) = p ∙ ap flat_reading_end_answer (sym q)

pub receiver_new_thin : Thin 0 receiver_new_kinds.ps receiver_new_kinds.r receiver_new.Learnt lib_receiver_new_kinds.ps lib_receiver_new_kinds.r lib_receiver_new.Learnt (λ κs a. (scheduler_at a.0, tt)) (λ κs x. flat_receiver_answer x)
receiver_new_thin κs a z (ws, p) x (us, q) = p ∙ ap flat_receiver_answer (sym q)

pub call_begin_read_thin : Thin 0 call_begin_read_kinds.ps call_begin_read_kinds.r call_begin_read.Learnt lib_call_begin_read_kinds.ps lib_call_begin_read_kinds.r lib_call_begin_read.Learnt (λ κs a. (receiver_at a.0, (a.1.0, (a.1.1.0, (a.1.1.1.0, tt))))) (λ κs x. flat_step x)
call_begin_read_thin κs a z (ws, p) x (us, q) = p ∙ ap flat_step (sym q)

pub call_begin_service_thin : Thin 0 call_begin_service_kinds.ps call_begin_service_kinds.r call_begin_service.Learnt lib_call_begin_service_kinds.ps lib_call_begin_service_kinds.r lib_call_begin_service.Learnt (λ κs a. (receiver_at a.0, tt)) (λ κs x. flat_step x)
call_begin_service_thin κs a z (ws, p) x (us, q) = p ∙ ap flat_step (sym q)

pub call_begin_shutdown_thin : Thin 0 call_begin_shutdown_kinds.ps call_begin_shutdown_kinds.r call_begin_shutdown.Learnt lib_call_begin_shutdown_kinds.ps lib_call_begin_shutdown_kinds.r lib_call_begin_shutdown.Learnt (λ κs a. (receiver_at a.0, tt)) (λ κs x. flat_step x)
call_begin_shutdown_thin κs a z (ws, p) x (us, q) = p ∙ ap flat_step (sym q)

pub call_answered_thin : Thin 1 call_answered_kinds.ps call_answered_kinds.r call_answered.Learnt lib_call_answered_kinds.ps lib_call_answered_kinds.r lib_call_answered.Learnt (λ κs a. (call_at a.0, (a.1.0, (a.1.1.0, (a.1.1.1.0, tt))))) (λ κs x. flat_step x)
call_answered_thin κs a z (ws, p) x (us, q) = p ∙ ap flat_step (sym q)

pub state_failure_thin : Thin 0 state_failure_kinds.ps state_failure_kinds.r state_failure.Learnt lib_state_failure_kinds.ps lib_state_failure_kinds.r lib_state_failure.Learnt (λ κs a. (state_at a.0, tt)) (λ κs x. flat_potential_failure x)
state_failure_thin κs a z (ws, p) x (us, q) = p ∙ ap flat_potential_failure (sym q)

pub state_with_failure_thin : Thin 0 state_with_failure_kinds.ps state_with_failure_kinds.r state_with_failure.Learnt lib_state_with_failure_kinds.ps lib_state_with_failure_kinds.r lib_state_with_failure.Learnt (λ κs a. (state_at a.0, (failure_at a.1.0, tt))) (λ κs x. flat_state_answer x)
state_with_failure_thin κs a z (ws, p) x (us, q) = p ∙ ap flat_state_answer (sym q)

pub state_with_potential_failure_thin : Thin 0 state_with_potential_failure_kinds.ps state_with_potential_failure_kinds.r state_with_potential_failure.Learnt lib_state_with_potential_failure_kinds.ps lib_state_with_potential_failure_kinds.r lib_state_with_potential_failure.Learnt (λ κs a. (state_at a.0, (potential_failure_at a.1.0 a.1.1.0, tt))) (λ κs x. flat_state_answer x)
state_with_potential_failure_thin κs a z (ws, p) x (us, q) = p ∙ ap flat_state_answer (sym q)

pub state_normalize_thin : Thin 0 state_normalize_kinds.ps state_normalize_kinds.r state_normalize.Learnt lib_state_normalize_kinds.ps lib_state_normalize_kinds.r lib_state_normalize.Learnt (λ κs a. (state_at a.0, tt)) (λ κs x. flat_state_answer x)
state_normalize_thin κs a z (ws, p) x (us, q) = p ∙ ap flat_state_answer (sym q)

pub state_advance_state_towards_termination_thin : Thin 0 state_advance_state_towards_termination_kinds.ps state_advance_state_towards_termination_kinds.r state_advance_state_towards_termination.Learnt lib_state_advance_state_towards_termination_kinds.ps lib_state_advance_state_towards_termination_kinds.r lib_state_advance_state_towards_termination.Learnt (λ κs a. (state_at a.0, (state_at a.1.0, tt))) (λ κs x. flat_state_answer x)
state_advance_state_towards_termination_thin κs a z (ws, p) x (us, q) = p ∙ ap flat_state_answer (sym q)

pub failure_normalize_thin : Thin 0 failure_normalize_kinds.ps failure_normalize_kinds.r failure_normalize.Learnt lib_failure_normalize_kinds.ps lib_failure_normalize_kinds.r lib_failure_normalize.Learnt (λ κs a. (failure_at a.0, tt)) (λ κs x. flat_failure_answer x)
failure_normalize_thin κs a z (ws, p) x (us, q) = p ∙ ap flat_failure_answer (sym q)

pub failure_advance_failure_towards_error_thin : Thin 0 failure_advance_failure_towards_error_kinds.ps failure_advance_failure_towards_error_kinds.r failure_advance_failure_towards_error.Learnt lib_failure_advance_failure_towards_error_kinds.ps lib_failure_advance_failure_towards_error_kinds.r lib_failure_advance_failure_towards_error.Learnt (λ κs a. (failure_at a.0, (failure_at a.1.0, tt))) (λ κs x. flat_failure_answer x)
failure_advance_failure_towards_error_thin κs a z (ws, p) x (us, q) = p ∙ ap flat_failure_answer (sym q)

pub modulus_new_full_range_thin : Thin 0 modulus_new_full_range_kinds.ps modulus_new_full_range_kinds.r modulus_new_full_range.Learnt lib_modulus_new_full_range_kinds.ps lib_modulus_new_full_range_kinds.r lib_modulus_new_full_range.Learnt (λ κs a. tt) (λ κs x. x.0)
modulus_new_full_range_thin κs a z (ws, p) x (us, q) = p ∙ ap (λ (m : Modulus). m.0) (sym q)

pub modulus_try_new_thin : Thin 0 modulus_try_new_kinds.ps modulus_try_new_kinds.r modulus_try_new.Learnt lib_modulus_try_new_kinds.ps lib_modulus_try_new_kinds.r lib_modulus_try_new.Learnt (λ κs a. (a.0, tt)) (λ κs x. flat_modulus x)
modulus_try_new_thin κs a z (ws, p) x (us, q) = p ∙ ap flat_modulus (sym q)

pub modulus_is_full_range_thin : Thin 0 modulus_is_full_range_kinds.ps modulus_is_full_range_kinds.r modulus_is_full_range.Learnt lib_modulus_is_full_range_kinds.ps lib_modulus_is_full_range_kinds.r lib_modulus_is_full_range.Learnt (λ κs a. (modulus_at a.0, tt)) (λ κs x. x)
modulus_is_full_range_thin κs a z (ws, p) x (us, q) = p ∙ sym q

pub modulus_modulus_thin : Thin 0 modulus_modulus_kinds.ps modulus_modulus_kinds.r modulus_modulus.Learnt lib_modulus_modulus_kinds.ps lib_modulus_modulus_kinds.r lib_modulus_modulus.Learnt (λ κs a. (modulus_at a.0, tt)) (λ κs x. flat_number x)
modulus_modulus_thin κs a z (ws, p) x (us, q) = p ∙ ap flat_number (sym q)

pub modulus_contains_thin : Thin 0 modulus_contains_kinds.ps modulus_contains_kinds.r modulus_contains.Learnt lib_modulus_contains_kinds.ps lib_modulus_contains_kinds.r lib_modulus_contains.Learnt (λ κs a. (modulus_at a.0, (a.1.0, tt))) (λ κs x. x)
modulus_contains_thin κs a z (ws, p) x (us, q) = p ∙ sym q

pub modulus_double_thin : Thin 0 modulus_double_kinds.ps modulus_double_kinds.r modulus_double.Learnt lib_modulus_double_kinds.ps lib_modulus_double_kinds.r lib_modulus_double.Learnt (λ κs a. (modulus_at a.0, tt)) (λ κs x. flat_modulus x)
modulus_double_thin κs a z (ws, p) x (us, q) = p ∙ ap flat_modulus (sym q)

pub modulus_new_number_thin : Thin 0 modulus_new_number_kinds.ps modulus_new_number_kinds.r modulus_new_number.Learnt lib_modulus_new_number_kinds.ps lib_modulus_new_number_kinds.r lib_modulus_new_number.Learnt (λ κs a. (modulus_at a.0, (a.1.0, tt))) (λ κs x. x)
modulus_new_number_thin κs a z (ws, p) x (us, q) = p ∙ sym q

pub modulus_try_new_number_thin : Thin 0 modulus_try_new_number_kinds.ps modulus_try_new_number_kinds.r modulus_try_new_number.Learnt lib_modulus_try_new_number_kinds.ps lib_modulus_try_new_number_kinds.r lib_modulus_try_new_number.Learnt (λ κs a. (modulus_at a.0, (a.1.0, tt))) (λ κs x. flat_number x)
modulus_try_new_number_thin κs a z (ws, p) x (us, q) = p ∙ ap flat_number (sym q)

pub modulus_neg_thin : Thin 0 modulus_neg_kinds.ps modulus_neg_kinds.r modulus_neg.Learnt lib_modulus_neg_kinds.ps lib_modulus_neg_kinds.r lib_modulus_neg.Learnt (λ κs a. (modulus_at a.0, (a.1.0, tt))) (λ κs x. x)
modulus_neg_thin κs a z (ws, p) x (us, q) = p ∙ sym q

pub modulus_sub_thin : Thin 0 modulus_sub_kinds.ps modulus_sub_kinds.r modulus_sub.Learnt lib_modulus_sub_kinds.ps lib_modulus_sub_kinds.r lib_modulus_sub.Learnt (λ κs a. (modulus_at a.0, (a.1.0, (a.1.1.0, tt)))) (λ κs x. x)
modulus_sub_thin κs a z (ws, p) x (us, q) = p ∙ sym q

pub modulus_add_thin : Thin 0 modulus_add_kinds.ps modulus_add_kinds.r modulus_add.Learnt lib_modulus_add_kinds.ps lib_modulus_add_kinds.r lib_modulus_add.Learnt (λ κs a. (modulus_at a.0, (a.1.0, (a.1.1.0, tt)))) (λ κs x. x)
modulus_add_thin κs a z (ws, p) x (us, q) = p ∙ sym q
