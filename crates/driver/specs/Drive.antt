-- Driving a call over a run of answers: what it comes to, and how many answers it used.
use Rattle.std.specs.Prelude.{ℕ, zero, suc, Bool, cond, true, false, List, [], ◌∷◌, Result, Ok, Err, Option, Some, None}
use Rattle.sched.specs.declared.scheduler.RingBufferScheduler.{RingBufferScheduler}
use Rattle.copies.specs.Copies as copies
use Rattle.receiver.specs.Call.{answered_of, over_of, retries_of}
use Rattle.receiver.specs.Receiver.{none_beside, read_outcome}
use Rattle.states.specs.State.{is_errno}
use Rattle.states.specs.declared.answer.Answer.{Answer}
use Rattle.receiver.specs.declared.call.Call.{Call}
use Rattle.receiver.specs.declared.call.Phase.{Phase}
use Rattle.receiver.specs.declared.call.Phase.TheVariants as phase
use Rattle.driver.specs.declared.drive.Driven.{Driven}
use Rattle.receiver.specs.declared.receiver.Came.{Came}
use Rattle.receiver.specs.declared.receiver.Came.TheVariants as came
use Rattle.receiver.specs.declared.receiver.Outcome.{Outcome}
use Rattle.states.specs.declared.refusal.Refusal.TheVariants.{AnswerMissing}
use Rattle.receiver.specs.declared.receiver.Ended.{Ended}
use Rattle.states.specs.declared.refusal.Refusal.{Refusal}

-- answer i of a run, if there is one
abbrev pub fetched_of : List Answer → ℕ → Option Answer
fetched_of [] i = None
fetched_of (a ∷ rest) zero = Some a
fetched_of (a ∷ rest) (suc i) = fetched_of rest i

-- over a run a refusal throws the whole call away: what is refused waits for nothing more
abbrev pub over_in : Result Call Refusal → Bool
over_in (Ok c) = over_of c
over_in (Err r) = true

abbrev pub retries_in : Result Call Refusal → Answer → Bool
retries_in (Ok c) a = retries_of c a
retries_in (Err r) a = false

abbrev pub answered_in : Result Call Refusal → List ℕ → Answer → ℕ → Result Call Refusal
answered_in (Ok c) ring a place = answered_of c ring a place
answered_in (Err r) ring a place = Err r

abbrev pub driven : Result Call Refusal → ℕ → Driven
driven x i = record { step = x; used = i }

abbrev pub over_or : Result Call Refusal → ℕ → Driven → Driven
over_or x i d = cond (over_in x) (driven x i) d

-- a call that waits, with i answers used: the first answer that is no interruption is its answer
abbrev pub waited_of : ℕ → Result Call Refusal → List ℕ → List Answer → Driven
waited_of i x ring [] = driven x i
waited_of i x ring (a ∷ rest) =
    cond (retries_in x a) (waited_of (suc i) x ring rest)
    (over_or (answered_in x ring a (suc i)) (suc i) (waited_of (suc i) (answered_in x ring a (suc i)) ring rest))

abbrev pub driven_from : ℕ → Result Call Refusal → List ℕ → List Answer → Driven
driven_from i x ring answers = over_or x i (waited_of i x ring answers)

abbrev pub driven_of : Result Call Refusal → List ℕ → List Answer → Driven
driven_of x ring answers = driven_from 0 x ring answers

-- a call that still waits where the run is used up is refused with 11
abbrev pub ended_by : Phase → Call → ℕ → Result Ended Refusal
ended_by (phase.Receive w) c i = Err AnswerMissing
ended_by (phase.Send batch e) c i = Err AnswerMissing
ended_by (phase.Shutdown e) c i = Err AnswerMissing
ended_by (phase.Finished o) c i = Ok (record { receiver = c.receiver; outcome = o; used = i })

abbrev pub ended_in : Call → ℕ → Result Ended Refusal
ended_in c i = ended_by c.phase c i

abbrev pub ended_for : Result Call Refusal → ℕ → Result Ended Refusal
ended_for (Ok c) i = ended_in c i
ended_for (Err r) i = Err r

abbrev pub ended_of : Driven → Result Ended Refusal
ended_of d = ended_for d.step d.used

-- ---- what a read leaves
-- its answer, and the destination
pub record Delivery : Type 0 where
  pub answer : Result Ended Refusal
  pub memory : List ℕ

abbrev pub delivery : Result Ended Refusal → List ℕ → Delivery
delivery r dst = record { answer = r; memory = dst }

-- the destination is written last, by a read that is accepted
abbrev pub delivered_for : Came → RingBufferScheduler → List ℕ → List ℕ → List ℕ
delivered_for (came.Read n) s ring dst = (copies.read_of s ring dst).memory
delivered_for came.Done s ring dst = dst
delivered_for (came.Failed f) s ring dst = dst

abbrev pub delivered_by : Result Ended Refusal → RingBufferScheduler → List ℕ → List ℕ → Delivery
delivered_by (Ok m) s ring dst = delivery (Ok m) (delivered_for m.outcome.came s ring dst)
delivered_by (Err r) s ring dst = delivery (Err r) dst

abbrev pub delivery_for : Result Call Refusal → ℕ → List ℕ → List ℕ → Delivery
delivery_for (Ok c) i ring dst = delivered_by (ended_in c i) c.source ring dst
delivery_for (Err r) i ring dst = delivery (Err r) dst

abbrev pub delivery_of : Driven → List ℕ → List ℕ → Delivery
delivery_of d ring dst = delivery_for d.step d.used ring dst

-- last, failure 32 becomes a read of 0 bytes
abbrev pub end_of_stream_by : Came → Outcome → Outcome
end_of_stream_by (came.Read n) o = o
end_of_stream_by came.Done o = o
end_of_stream_by (came.Failed f) o = cond (is_errno f 32) (read_outcome 0 none_beside) o

abbrev pub end_of_stream_for : Outcome → Outcome
end_of_stream_for o = end_of_stream_by o.came o

abbrev pub end_of_stream_in : Result Ended Refusal → Result Ended Refusal
end_of_stream_in (Ok m) = Ok (record { receiver = m.receiver; outcome = end_of_stream_for m.outcome; used = m.used })
end_of_stream_in (Err r) = Err r
