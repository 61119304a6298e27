-- The paper's table of the numbers that refuse a call of the receiver: when each is given, and with which values. 1 to 5 and 20 are the
-- scheduler's, 9 is given where the ring is looked at, then 12 with place 0, and then what a call can have beside.
use Rattle.std.specs.Prelude.{ℕ, ◌-◌, ◌^◌, ◌<◌, ◌≡◌, ◌≢◌, List, [], ◌∷◌, Result, Ok, Err, Option, Some, None}
use Rattle.sched.specs.declared.scheduler.RingBufferScheduler.{RingBufferScheduler}
use Rattle.sched.specs.Given.{Given}
use Rattle.copies.specs.Given.{Verdict, verdict, GivenCopy}
use Rattle.receiver.specs.Call.{looks_at, resumed_of}
use Rattle.states.specs.Promise.{Stored, SaysReceived, SaysSent, SaysShut}
use Rattle.receiver.specs.Receiver.{batch_in}
use Rattle.states.specs.Refusal.{number_of, values_of}
use Rattle.states.specs.declared.answer.Answer.{Answer}
use Rattle.states.specs.declared.answer.Received.TheVariants as received
use Rattle.states.specs.declared.answer.Sent.TheVariants as sent
use Rattle.states.specs.declared.answer.Shut.TheVariants as shut
use Rattle.receiver.specs.declared.call.Call.{Call}
use Rattle.receiver.specs.declared.call.Phase.{Phase}
use Rattle.receiver.specs.declared.call.Phase.TheVariants as phase
use Rattle.receiver.specs.declared.call.Wanted.{Wanted}
use Rattle.receiver.specs.declared.receiver.ReceiverState.{ReceiverState}
use Rattle.states.specs.declared.state.OperationalState.{OperationalState}
use Rattle.states.specs.declared.state.OperationalState.TheVariants.{Normal, Draining, Terminated}
use Rattle.states.specs.declared.refusal.Refusal.{Refusal}

-- ---- before every call
-- 1 to 5 and 20; and 9, of a ring of so many bytes that is looked at
abbrev pub GivenRing : RingBufferScheduler → Option ℕ → ℕ → List ℕ → Type 0
GivenRing s None = Given s
GivenRing s (Some n) = GivenCopy s n

module _ (q : ReceiverState) (m : Option ℕ) where
  pub data GivenAdmission : ℕ → List ℕ → Type 0 where
    admits : GivenRing q.scheduler m 0 [] → Stored q.state → GivenAdmission 0 []
    by_ring : {k : ℕ} {vs : List ℕ} → 0 < k → GivenRing q.scheduler m k vs → GivenAdmission k vs
    given_12_stored : GivenRing q.scheduler m 0 [] → (Stored q.state → ⊥) → GivenAdmission 12 (0 ∷ [])

-- ---- a read gets to the test of 13 where the stream is not terminated and some bytes are asked for
abbrev pub Live : OperationalState → Type 0
Live Normal = Unit {0}
Live (Draining f) = Unit {0}
Live (Terminated f) = ⊥

abbrev pub Full : ReceiverState → ℕ → Type 0
Full q asked = Live q.state × (asked ≢ 0) × (q.pending_ack_count ≡ 2 ^ 64 - 1)

module _ (q : ReceiverState) (n asked : ℕ) where
  pub data GivenRead : ℕ → List ℕ → Type 0 where
    begins : GivenAdmission q (Some n) 0 [] → (Full q asked → ⊥) → GivenRead 0 []
    by_admission : {k : ℕ} {vs : List ℕ} → 0 < k → GivenAdmission q (Some n) k vs → GivenRead k vs
    given_13 : GivenAdmission q (Some n) 0 [] → Full q asked → GivenRead 13 []

-- ---- an answer
-- one that a call in this phase cannot have
abbrev pub Misfits : Phase → ReceiverState → Answer → Type 0
Misfits (phase.Receive w) q a = SaysReceived a w.max_new_fds received.Misfit
Misfits (phase.Send batch e) q a = SaysSent a (batch_in q) sent.Misfit
Misfits (phase.Shutdown e) q a = SaysShut a shut.Misfit
Misfits (phase.Finished o) q a = ⊥

module _ (c : Call) (n : ℕ) (a : Answer) (place : ℕ) where
  -- after the tests the rules are asked what the call waits for: 13 there, or 12 with the answer's place
  pub data GivenAnswer : ℕ → List ℕ → Type 0 where
    takes : (d : Call) → GivenAdmission c.receiver (looks_at c.phase a n) 0 [] → resumed_of c ≡ Ok d → (Misfits d.phase d.receiver a → ⊥) → GivenAnswer 0 []
    at_the_tests : {k : ℕ} {vs : List ℕ} → 0 < k → GivenAdmission c.receiver (looks_at c.phase a n) k vs → GivenAnswer k vs
    still_full : (w : Wanted) → GivenAdmission c.receiver (looks_at c.phase a n) 0 [] → c.phase ≡ phase.Receive w → Full c.receiver w.dst_len → GivenAnswer 13 []
    given_12 : (d : Call) → GivenAdmission c.receiver (looks_at c.phase a n) 0 [] → resumed_of c ≡ Ok d → Misfits d.phase d.receiver a → GivenAnswer 12 (place ∷ [])

-- ---- the verdict in an answer, whatever it is of
abbrev pub of_receiver : {A : Type 0} → Result A Refusal → Verdict
of_receiver (Ok c) = verdict 0 []
of_receiver (Err r) = verdict (number_of r) (values_of r)
