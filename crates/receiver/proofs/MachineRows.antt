-- Cases of the machine with one answer at a time, computed from the definitions: what a refused answer leaves, where the record is tested
-- anew, where the ring is looked at, and what a phase comes to that a host made up.
use Rattle.std.proofs.Common.{Ok, Err}
use Prim.Native.Nat.{ℕ}
use mathlib.Core.Path.{◌≡◌, refl}
use native.Mathlib.Omega.{arith}
use mathlib.Core.Bool.{false}
use mathlib.Core.List.{[]}
use lib.ListN.{replicate}
use Rattle.modular.specs.Modulus.{sub_mod, add_mod}
use Rattle.operations.specs.declared.refusal.Refusal.TheVariants.{DataAvailOutOfBounds}
use Rattle.sched.specs.declared.scheduler.RingBufferScheduler.{RingBufferScheduler}
use Rattle.sched.specs.Scheduler.{scheduler_of, counted_of, sound_of}
use Rattle.copies.specs.declared.refusal.Refusal.TheVariants.{Scheduler, RingMemory}
use Rattle.copies.specs.Copies.{ready_from}
use Rattle.states.specs.declared.answer.Answer.{Answer}
use Rattle.receiver.specs.declared.call.Call.{Call}
use Rattle.receiver.specs.declared.call.Phase.{Phase}
use Rattle.receiver.specs.declared.call.Phase.TheVariants.{Receive, Send, Shutdown}
use Rattle.states.specs.declared.refusal.Refusal.TheVariants.{Copy, Misfit}
use Rattle.states.specs.declared.state.Failure.TheVariants.{Io}
use Rattle.states.specs.declared.state.OperationalState.{OperationalState}
use Rattle.states.specs.declared.state.OperationalState.TheVariants.{Normal, Draining, Terminated}
use Rattle.states.specs.Answer.{interrupted_of, received_of, sent_of, shut_of}
use Rattle.states.specs.State.{fits_errno}
use Rattle.receiver.specs.Receiver.{none_beside, read_outcome, failed_outcome, done_outcome, receiver}
use Rattle.receiver.specs.Overflow.{Hears}
use Rattle.receiver.specs.Call.{dropping, telling, call, finished_call, flush_call, wanted, begin_read_of, answered_of}

abbrev answer : ℕ → ℕ → Answer
answer kind value = record { kind = kind; value = value; descriptors = 0 }

abbrev byte : Answer
byte = answer 0 0

abbrev fails : ℕ → Answer
fails e = answer 2 e

abbrev sends : ℕ → Answer
sends n = answer 3 n

abbrev done : Answer
done = answer 4 0

abbrev ring : ℕ → ℕ → ℕ → RingBufferScheduler
ring l w r = scheduler_of l (record { 0 = w }) (record { 0 = r })

-- a call of this record in this phase, as a host may hand it in
abbrev waits : RingBufferScheduler → OperationalState → ℕ → Phase → Call
waits s st pending ph = call (receiver s st pending false) s ph

-- three bytes were read to the end of their chunk, and are copied by (10, 3, 0)
abbrev reading : ℕ → Call
reading pending = call (receiver (ring 10 3 3) Normal pending false) (ring 10 3 0) (Send 128 (dropping (read_outcome 3 none_beside)))

-- the second answer does not fit: the call still waits to send, with pending 173, and goes on from there
a_refused_answer_leaves_the_call :
    (begin_read_of (receiver (ring 10 3 0) Normal 300 false) 10 0 9 ≡ Ok (reading 301)) ×
    (answered_of (reading 301) [] (sends 128) 1 ≡ Ok (reading 173)) ×
    (answered_of (reading 173) [] done 2 ≡ Err (Misfit 2)) ×
    (answered_of (reading 173) [] (sends 129) 2 ≡ Err (Misfit 2)) ×
    (answered_of (reading 173) [] (sends 100) 3 ≡ Ok (call (receiver (ring 10 3 3) Normal 73 false) (ring 10 3 0) (Send 73 (dropping (read_outcome 3 none_beside)))))
unfolding flush_call ready_from counted_of sound_of sub_mod add_mod fits_errno interrupted_of sent_of
a_refused_answer_leaves_the_call = (refl, refl, refl, refl, refl)

-- 1 to 5 and 20, then 12 with place 0, in every phase
an_answer_tests_the_record_anew :
    (answered_of (waits (ring 10 11 0) (Draining (Io 5000)) 3 (Send 3 (telling done_outcome))) [] (sends 3) 1 ≡
    Err (Copy (Scheduler (DataAvailOutOfBounds 10 (record { 0 = 11 }) (record { 0 = 0 }))))) ×
    (answered_of (waits (ring 10 3 0) (Draining (Io 5000)) 3 (Send 3 (telling done_outcome))) [] (sends 3) 1 ≡ Err (Misfit 0)) ×
    (answered_of (waits (ring 10 3 0) (Draining (Io 5000)) 3 (Shutdown (telling done_outcome))) [] done 1 ≡ Err (Misfit 0)) ×
    (answered_of (waits (ring 10 11 0) (Draining (Io 5)) 3 (Shutdown (telling done_outcome))) [] done 1 ≡
    Err (Copy (Scheduler (DataAvailOutOfBounds 10 (record { 0 = 11 }) (record { 0 = 0 })))))
unfolding counted_of sound_of sub_mod fits_errno
an_answer_tests_the_record_anew = (refl, refl, refl, refl)

-- 9 where a byte was received and the ring is another, and only there; before 12 with place 0
the_ring_is_looked_at_where_a_byte_was_received :
    (answered_of (waits (ring 10 0 0) Normal 0 (Receive (wanted 0 9))) [] (fails 11) 1 ≡ Ok (finished_call (receiver (ring 10 0 0) Normal 0 false) (ring 10 0 0) (failed_outcome (Io 11)))) ×
    (answered_of (waits (ring 10 0 0) Normal 0 (Receive (wanted 0 9))) [] byte 1 ≡ Err (Copy RingMemory)) ×
    (answered_of (waits (ring 10 0 0) (Draining (Io 5000)) 0 (Receive (wanted 0 9))) [] byte 1 ≡ Err (Copy RingMemory)) ×
    (answered_of (waits (ring 10 0 0) (Draining (Io 5000)) 0 (Receive (wanted 0 9))) [] (fails 11) 1 ≡ Err (Misfit 0))
unfolding ready_from counted_of sound_of sub_mod fits_errno interrupted_of received_of
the_ring_is_looked_at_where_a_byte_was_received = (refl, refl, refl, refl)

-- a phase that the record cannot be in is answered by the rules of the record
a_made_up_phase :
    (answered_of (waits (ring 10 0 0) (Terminated (Io 9)) 0 (Receive (wanted 0 9))) (replicate 10 0) byte 1 ≡
    Ok (finished_call (receiver (ring 10 0 0) (Terminated (Io 9)) 0 false) (ring 10 0 0) (failed_outcome (Io 9)))) ×
    (answered_of (waits (ring 10 0 0) (Draining (Io 5)) 3 (Send 3 (telling done_outcome))) [] (sends 3) 1 ≡
    Ok (finished_call (receiver (ring 10 0 0) (Draining (Io 5)) 3 false) (ring 10 0 0) (failed_outcome (Io 5)))) ×
    (answered_of (waits (ring 10 0 0) Normal 3 (Shutdown (telling done_outcome))) [] done 1 ≡
    Ok (finished_call (receiver (ring 10 0 0) Normal 3 false) (ring 10 0 0) done_outcome))
unfolding ready_from counted_of sound_of sub_mod fits_errno interrupted_of received_of sent_of shut_of
a_made_up_phase = (refl, refl, refl)

-- a new receiver's read is one of which specs/Overflow.antt speaks
a_read_hears : Hears (waits (ring 64 0 0) Normal 0 (Receive (wanted 0 9))) byte
unfolding sub_mod
a_read_hears =
    record {
      wanted = wanted 0 9;
      waits = refl;
      live = λ f e. cc;
      some = λ e. omega (arith, e);
      empty = refl;
      byte = (refl, omega arith, omega arith);
      zero = refl;
    }
