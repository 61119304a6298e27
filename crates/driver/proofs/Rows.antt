-- Cases that tell readings of the rules apart (docs/PAPER.md, "Readings"), computed from the definitions. Each rule that is easy to get
-- wrong has its own.
use Rattle.std.proofs.Common.{Result, Ok, Err}
use Prim.Native.Nat.{ℕ, ◌-◌, ◌^◌}
use mathlib.Core.Path.{◌≡◌, refl}
use mathlib.Core.Bool.{Bool, true, false}
use mathlib.Core.List.{List, [], ◌∷◌, ◌++◌}
use lib.ListN.{replicate}
use Rattle.modular.specs.Modulus.{sub_mod, add_mod}
use Rattle.sched.specs.declared.scheduler.RingBufferScheduler.{RingBufferScheduler}
use Rattle.sched.specs.Scheduler.{scheduler_of, counted_of, sound_of}
use Rattle.copies.specs.Copies.{ready_from}
use Rattle.states.specs.declared.answer.Answer.{Answer}
use Rattle.receiver.specs.declared.receiver.Outcome.{Outcome}
use Rattle.states.specs.declared.refusal.Refusal.TheVariants.{AnswerMissing, Misfit, PendingFull}
use Rattle.states.specs.declared.state.Failure.TheVariants.{Io, Protocol}
use Rattle.states.specs.declared.state.OperationalState.{OperationalState}
use Rattle.states.specs.declared.state.OperationalState.TheVariants.{Normal, Draining, Terminated}
use Rattle.states.specs.declared.state.Violation.{Violation}
use Rattle.states.specs.declared.state.Violation.TheVariants.{InvalidChunkAnnouncement, HeaderOverflow, UnknownHeader, InvalidChunkLength, BodyOverflow}
use Rattle.states.specs.State.{overflow_of, behind_header, fits_errno, normalize_in, towards_error_in}
use Rattle.states.specs.Answer.{interrupted_of, received_of, sent_of, shut_of}
use Rattle.receiver.specs.Call.{flush_call}
use Rattle.receiver.specs.Receiver.{beside_byte, read_outcome, failed_outcome, done_outcome, receiver}
use Rattle.sched.specs.Chunk.{body_fits}
use Rattle.copies.specs.Number.{number_from}
use Rattle.driver.specs.Drive.{ended_of, delivery, end_of_stream_in}
use Rattle.driver.specs.Run.{read_of, service_of, shutdown_of, read_delivery}
use Rattle.states.specs.Refusal.{number_of}
use Rattle.receiver.specs.declared.receiver.Ended.{Ended}
use Rattle.states.specs.declared.refusal.Refusal.{Refusal}

-- ---- the socket's answers
abbrev byte : ℕ → ℕ → Answer
byte b fds = record { kind = 0; value = b; descriptors = fds }

abbrev closed : Answer
closed = record { kind = 1; value = 0; descriptors = 0 }

abbrev fails : ℕ → Answer
fails e = record { kind = 2; value = e; descriptors = 0 }

abbrev sends : ℕ → Answer
sends n = record { kind = 3; value = n; descriptors = 0 }

abbrev done : Answer
done = record { kind = 4; value = 0; descriptors = 0 }

abbrev ring : ℕ → ℕ → ℕ → RingBufferScheduler
ring l w r = scheduler_of l (record { 0 = w }) (record { 0 = r })

-- 64 bytes with a header at the front
abbrev memory : List ℕ → List ℕ
memory header = header ++ replicate 56 0

abbrev service : OperationalState → ℕ → Bool → List Answer → Result Ended Refusal
service st pending issued answers = service_of (receiver (ring 64 0 0) st pending issued) answers

abbrev reads : RingBufferScheduler → OperationalState → ℕ → Bool → List ℕ → ℕ → List Answer → Result Ended Refusal
reads s st pending issued header asked answers = end_of_stream_in (ended_of (read_of (receiver s st pending issued) (memory header) asked 1 answers))

-- so many bytes were read, with so many descriptors
abbrev bytes : ℕ → ℕ → Outcome
bytes n fds = read_outcome n (beside_byte fds)

abbrev zeros : List ℕ
zeros = replicate 8 0

abbrev empty : RingBufferScheduler
empty = ring 64 0 0

-- a header: the first byte, and the length in the last
abbrev header : ℕ → ℕ → List ℕ
header first len = first ∷ replicate 6 0 ++ (len ∷ [])

abbrev shuts : OperationalState → Bool → List Answer → Result Ended Refusal
shuts st issued answers = shutdown_of (receiver empty st 0 issued) answers

-- ---- an answer at a place that cannot have it
an_errno_is_1_to_4095 :
    (service Normal 1 false (fails 0 ∷ []) ≡ Err (Misfit 1)) ×
    (service Normal 1 true (fails 4095 ∷ []) ≡ Ok (record { receiver = receiver empty (Draining (Io 4095)) 1 true; outcome = failed_outcome (Io 4095); used = 1 })) ×
    (service Normal 1 false (fails 4096 ∷ []) ≡ Err (Misfit 1))
unfolding flush_call counted_of sound_of sub_mod fits_errno normalize_in towards_error_in interrupted_of sent_of
an_errno_is_1_to_4095 = (refl, refl, refl)

an_answer_fits_its_place :
    (service Normal 1 false (closed ∷ []) ≡ Err (Misfit 1)) ×
    (service Normal 1 false (done ∷ []) ≡ Err (Misfit 1)) ×
    (reads empty Normal 0 false zeros 2 (sends 1 ∷ []) ≡ Err (Misfit 1)) ×
    (reads empty Normal 0 false zeros 2 (done ∷ []) ≡ Err (Misfit 1)) ×
    (shuts Normal false (sends 0 ∷ []) ≡ Err (Misfit 1)) ×
    (shuts Normal false (closed ∷ []) ≡ Err (Misfit 1))
unfolding flush_call ready_from counted_of sound_of sub_mod fits_errno normalize_in towards_error_in interrupted_of received_of sent_of shut_of
an_answer_fits_its_place = (refl, refl, refl, refl, refl, refl)

-- ---- acknowledgements
batches_are_sent_until_nothing_is_pending :
    (service Normal 300 false (sends 128 ∷ sends 128 ∷ fails 11 ∷ []) ≡ Ok (record { receiver = receiver empty Normal 44 false; outcome = done_outcome; used = 3 })) ×
    (service Normal 128 false (sends 128 ∷ []) ≡ Ok (record { receiver = receiver empty Normal 0 false; outcome = done_outcome; used = 1 })) ×
    (service Normal 0 false (byte 9 9 ∷ []) ≡ Ok (record { receiver = receiver empty Normal 0 false; outcome = done_outcome; used = 0 })) ×
    (service Normal 5 false (sends 6 ∷ []) ≡ Err (Misfit 1)) ×
    (service Normal 130 false (sends 100 ∷ sends 31 ∷ []) ≡ Err (Misfit 2)) ×
    (service Normal 1 false [] ≡ Err AnswerMissing) ×
    (service (Terminated (Io 0)) 3 false [] ≡ Err (Misfit 0))
unfolding flush_call counted_of sound_of sub_mod fits_errno interrupted_of sent_of
batches_are_sent_until_nothing_is_pending = (refl, refl, refl, refl, refl, refl, refl)

a_failed_send_drains :
    (service Normal 300 false (sends 128 ∷ fails 104 ∷ done ∷ []) ≡ Ok (record { receiver = receiver empty (Draining (Io 104)) 172 true; outcome = failed_outcome (Io 104); used = 3 })) ×
    (service Normal 1 false (sends 0 ∷ fails 4 ∷ []) ≡ Ok (record { receiver = receiver empty (Draining (Io 5)) 1 false; outcome = failed_outcome (Io 4); used = 2 }))
unfolding flush_call counted_of sound_of sub_mod fits_errno normalize_in towards_error_in interrupted_of sent_of shut_of
a_failed_send_drains = (refl, refl)

an_interruption_is_waited_out_but_not_by_a_shutdown :
    (service Normal 5 false (fails 4 ∷ sends 5 ∷ []) ≡ Ok (record { receiver = receiver empty Normal 0 false; outcome = done_outcome; used = 2 })) ×
    (reads empty Normal 0 false zeros 2 (fails 4 ∷ fails 4 ∷ fails 11 ∷ []) ≡ Ok (record { receiver = receiver empty Normal 0 false; outcome = failed_outcome (Io 11); used = 3 })) ×
    (shuts Normal false (fails 4 ∷ []) ≡ Ok (record { receiver = receiver empty (Draining (Io 32)) 0 false; outcome = failed_outcome (Io 4); used = 1 }))
unfolding flush_call ready_from counted_of sound_of sub_mod fits_errno normalize_in towards_error_in interrupted_of received_of sent_of shut_of
an_interruption_is_waited_out_but_not_by_a_shutdown = (refl, refl, refl)

nothing_is_sent_while_draining :
    (service (Draining (Io 5)) 3 true (sends 3 ∷ []) ≡ Ok (record { receiver = receiver empty (Draining (Io 5)) 3 true; outcome = failed_outcome (Io 5); used = 0 })) ×
    (reads (ring 64 3 0) (Draining (Io 5)) 0 true zeros 9 [] ≡ Ok (record { receiver = receiver (ring 64 3 3) (Draining (Io 5)) 1 true; outcome = bytes 3 0; used = 0 }))
unfolding ready_from counted_of sound_of sub_mod add_mod fits_errno
nothing_is_sent_while_draining = (refl, refl)

-- ---- errno 11
a_stored_11_is_taken_as_it_stands :
    (service (Draining (Io 11)) 3 false [] ≡ Ok (record { receiver = receiver empty (Draining (Io 11)) 3 false; outcome = failed_outcome (Io 11); used = 0 })) ×
    (reads empty (Terminated (Io 11)) 0 false zeros 2 [] ≡ Ok (record { receiver = receiver empty (Terminated (Io 11)) 0 false; outcome = failed_outcome (Io 11); used = 0 }))
unfolding ready_from counted_of sound_of sub_mod fits_errno
a_stored_11_is_taken_as_it_stands = (refl, refl)

advancing_normalises_11 :
    (shuts (Terminated (Io 11)) true [] ≡ Ok (record { receiver = receiver empty (Draining (Io 32)) 0 true; outcome = done_outcome; used = 0 })) ×
    (reads empty (Draining (Io 11)) 0 false zeros 2 (fails 11 ∷ []) ≡ Ok (record { receiver = receiver empty Normal 0 false; outcome = failed_outcome (Io 11); used = 1 }))
unfolding ready_from counted_of sound_of sub_mod fits_errno normalize_in towards_error_in interrupted_of received_of shut_of
advancing_normalises_11 = (refl, refl)

refusal_11_is_not_failure_11 :
    (reads empty Normal 0 false zeros 2 [] ≡ Err AnswerMissing) ×
    (number_of AnswerMissing ≡ 11) ×
    (reads empty Normal 0 false zeros 2 (fails 11 ∷ []) ≡ Ok (record { receiver = receiver empty Normal 0 false; outcome = failed_outcome (Io 11); used = 1 }))
unfolding ready_from counted_of sound_of sub_mod fits_errno interrupted_of received_of
refusal_11_is_not_failure_11 = (refl, refl, refl)

-- ---- a read
terminated_then_the_empty_destination_then_13_then_the_announcement :
    (reads (ring 64 5 0) (Terminated (Io 7)) (2 ^ 64 - 1) false zeros 0 [] ≡ Ok (record { receiver = receiver (ring 64 5 0) (Terminated (Io 7)) (2 ^ 64 - 1) false; outcome = failed_outcome (Io 7); used = 0 })) ×
    (reads (ring 64 5 0) Normal (2 ^ 64 - 1) false zeros 0 [] ≡ Ok (record { receiver = receiver (ring 64 5 0) Normal (2 ^ 64 - 1) false; outcome = bytes 0 0; used = 0 })) ×
    (reads empty Normal (2 ^ 64 - 1) false zeros 2 (byte 300 0 ∷ []) ≡ Err PendingFull) ×
    (reads empty Normal 0 false zeros 2 (byte 7 2 ∷ []) ≡ Err (Misfit 1)) ×
    (reads empty (Terminated (Io 4096)) 0 false zeros 2 [] ≡ Err (Misfit 0))
unfolding ready_from counted_of sound_of sub_mod fits_errno interrupted_of received_of
terminated_then_the_empty_destination_then_13_then_the_announcement = (refl, refl, refl, refl, refl)

the_end_of_the_stream_is_a_read_of_nothing :
    (reads empty (Draining (Io 5)) 0 false zeros 2 (closed ∷ done ∷ []) ≡ Ok (record { receiver = receiver empty (Terminated (Io 5)) 0 true; outcome = bytes 0 0; used = 2 })) ×
    (reads empty (Terminated (Io 32)) 0 false zeros 2 [] ≡ Ok (record { receiver = receiver empty (Terminated (Io 32)) 0 false; outcome = bytes 0 0; used = 0 }))
unfolding ready_from counted_of sound_of sub_mod fits_errno normalize_in towards_error_in interrupted_of received_of shut_of
the_end_of_the_stream_is_a_read_of_nothing = (refl, refl)

draining_and_blocked_terminates_with_the_cached_reason :
    (reads empty (Draining (Io 5)) 0 false zeros 2 (fails 11 ∷ []) ≡ Err AnswerMissing) ×
    (reads empty (Draining (Io 5)) 0 true zeros 2 (fails 11 ∷ []) ≡ Ok (record { receiver = receiver empty (Terminated (Io 5)) 0 true; outcome = failed_outcome (Io 5); used = 1 }))
unfolding ready_from counted_of sound_of sub_mod fits_errno normalize_in towards_error_in interrupted_of received_of shut_of
draining_and_blocked_terminates_with_the_cached_reason = (refl, refl)

-- found in the servicing after bytes were read: the destination is as it was
a_late_refusal_changes_nothing :
    (read_delivery (receiver (ring 64 5 0) Normal 300 false) (memory zeros) (1 ∷ 2 ∷ 3 ∷ []) 1 (sends 128 ∷ []) ≡ delivery (Err AnswerMissing) (1 ∷ 2 ∷ 3 ∷ [])) ×
    (read_delivery (receiver (ring 64 5 0) Normal 300 false) (memory zeros) (1 ∷ 2 ∷ 3 ∷ []) 1 (sends 128 ∷ sends 129 ∷ []) ≡ delivery (Err (Misfit 2)) (1 ∷ 2 ∷ 3 ∷ [])) ×
    (read_delivery (receiver (ring 64 5 0) Normal 0 false) (memory (7 ∷ 8 ∷ 9 ∷ replicate 5 0)) (1 ∷ 2 ∷ []) 1 [] ≡ delivery (Ok (record { receiver = receiver (ring 64 5 2) Normal 0 false; outcome = bytes 2 0; used = 0 })) (7 ∷ 8 ∷ []))
unfolding flush_call ready_from counted_of sound_of sub_mod add_mod fits_errno interrupted_of sent_of
a_late_refusal_changes_nothing = (refl, refl, refl)

-- ---- an announcement
a_violation_puts_the_scheduler_back :
    (reads empty Normal 0 false (header 0 65) 2 (byte 0 1 ∷ done ∷ []) ≡ Ok (record { receiver = receiver empty (Terminated (Protocol (BodyOverflow (overflow_of 65 56)))) 0 true; outcome = failed_outcome (Protocol (BodyOverflow (overflow_of 65 56))); used = 2 })) ×
    (reads empty Normal 0 true (header 0 0) 2 (byte 0 1 ∷ []) ≡ Ok (record { receiver = receiver empty (Terminated (Protocol InvalidChunkLength)) 0 true; outcome = failed_outcome (Protocol InvalidChunkLength); used = 1 })) ×
    (reads empty Normal 0 true (header 64 5) 2 (byte 0 1 ∷ []) ≡ Ok (record { receiver = receiver empty (Terminated (Protocol UnknownHeader)) 0 true; outcome = failed_outcome (Protocol UnknownHeader); used = 1 })) ×
    (reads empty Normal 0 true zeros 2 (byte 7 1 ∷ []) ≡ Ok (record { receiver = receiver empty (Terminated (Protocol InvalidChunkAnnouncement)) 0 true; outcome = failed_outcome (Protocol InvalidChunkAnnouncement); used = 1 }))
unfolding behind_header body_fits number_from ready_from counted_of sound_of sub_mod add_mod fits_errno normalize_in towards_error_in interrupted_of received_of shut_of
a_violation_puts_the_scheduler_back = (refl, refl, refl, refl)

eight_bytes_stay_free_behind_a_body :
    (reads empty Normal 0 true (header 0 56) 2 (byte 0 1 ∷ []) ≡ Ok (record { receiver = receiver (ring 64 64 10) Normal 0 true; outcome = bytes 2 1; used = 1 })) ×
    (reads empty Normal 0 true (header 0 57) 2 (byte 0 1 ∷ []) ≡ Ok (record { receiver = receiver empty (Terminated (Protocol (BodyOverflow (overflow_of 57 56)))) 0 true; outcome = failed_outcome (Protocol (BodyOverflow (overflow_of 57 56))); used = 1 }))
unfolding behind_header flush_call body_fits number_from ready_from counted_of sound_of sub_mod add_mod fits_errno normalize_in towards_error_in interrupted_of received_of shut_of
eight_bytes_stay_free_behind_a_body = (refl, refl)

-- which part overflowed, in a ring of this length with this at its front: the bytes needed and the room are answered and stored
abbrev announced : ℕ → OperationalState → List ℕ → Result Ended Refusal
announced l st front = end_of_stream_in (ended_of (read_of (receiver (ring l 0 0) st 0 true) front 2 1 (byte 0 1 ∷ [])))

abbrev overflows : ℕ → Violation → Result Ended Refusal
overflows l v = Ok (record { receiver = receiver (ring l 0 0) (Terminated (Protocol v)) 0 true; outcome = failed_outcome (Protocol v); used = 1 })

the_header_needs_8_of_l_and_the_body_what_the_header_leaves :
    (announced 4 Normal (replicate 4 0) ≡ overflows 4 (HeaderOverflow (overflow_of 8 4))) ×
    (announced 7 Normal (replicate 7 0) ≡ overflows 7 (HeaderOverflow (overflow_of 8 7))) ×
    (announced 8 Normal (header 0 1) ≡ overflows 8 (BodyOverflow (overflow_of 1 0))) ×
    (announced 64 Normal (memory (header 0 64)) ≡ overflows 64 (BodyOverflow (overflow_of 64 56)))
unfolding behind_header body_fits number_from ready_from counted_of sound_of sub_mod add_mod fits_errno normalize_in towards_error_in interrupted_of received_of shut_of
the_header_needs_8_of_l_and_the_body_what_the_header_leaves = (refl, refl, refl, refl)

stored_numbers_of_an_overflow_are_carried_as_they_are :
    (reads empty (Terminated (Protocol (HeaderOverflow (overflow_of 0 0)))) 0 true zeros 2 [] ≡
    Ok (record { receiver = receiver empty (Terminated (Protocol (HeaderOverflow (overflow_of 0 0)))) 0 true; outcome = failed_outcome (Protocol (HeaderOverflow (overflow_of 0 0))); used = 0 })) ×
    (announced 64 (Draining (Io 32)) (memory (header 0 57)) ≡ overflows 64 (BodyOverflow (overflow_of 57 56))) ×
    (announced 64 (Draining (Protocol (BodyOverflow (overflow_of 3 9)))) (memory (header 0 57)) ≡
    Ok (record { receiver = receiver empty (Terminated (Protocol (BodyOverflow (overflow_of 3 9)))) 0 true; outcome = failed_outcome (Protocol (BodyOverflow (overflow_of 57 56))); used = 1 }))
unfolding behind_header body_fits number_from ready_from counted_of sound_of sub_mod add_mod fits_errno normalize_in towards_error_in interrupted_of received_of shut_of
stored_numbers_of_an_overflow_are_carried_as_they_are = (refl, refl, refl)

a_chunk_read_to_its_end_is_acknowledged :
    reads empty Normal 0 true (header 0 3) 9 (byte 0 1 ∷ sends 1 ∷ []) ≡ Ok (record { receiver = receiver (ring 64 11 11) Normal 0 true; outcome = bytes 3 1; used = 2 })
unfolding flush_call body_fits number_from ready_from counted_of sound_of sub_mod add_mod fits_errno interrupted_of received_of sent_of
a_chunk_read_to_its_end_is_acknowledged = refl

-- five bytes of it at the ring's end and three at its start, the body behind them
a_header_wraps_around_the_ring's_end :
    read_delivery (receiver (ring 20 15 15) Normal 0 true) (0 ∷ 0 ∷ 3 ∷ 7 ∷ 8 ∷ 9 ∷ replicate 14 0) (1 ∷ 2 ∷ []) 0 (byte 0 0 ∷ []) ≡
    delivery (Ok (record { receiver = receiver (ring 20 26 25) Normal 0 true; outcome = bytes 2 0; used = 1 })) (7 ∷ 8 ∷ [])
unfolding flush_call body_fits number_from ready_from counted_of sound_of sub_mod add_mod fits_errno interrupted_of received_of
a_header_wraps_around_the_ring's_end = refl

-- ---- a shutdown
a_shutdown_drains_with_32 :
    (shuts Normal false (done ∷ []) ≡ Ok (record { receiver = receiver empty (Draining (Io 32)) 0 true; outcome = done_outcome; used = 1 })) ×
    (shuts (Draining (Io 5)) true [] ≡ Ok (record { receiver = receiver empty (Draining (Io 5)) 0 true; outcome = done_outcome; used = 0 }))
unfolding counted_of sound_of sub_mod fits_errno normalize_in towards_error_in shut_of
a_shutdown_drains_with_32 = (refl, refl)
