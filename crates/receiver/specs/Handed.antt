-- The machine in the hands of a host with a real socket: answers are handed in one at a time, fitting and not, over whatever ring is
-- lent with each. One that is refused leaves the call as it was.
use Rattle.std.specs.Prelude.{ℕ, ◌+◌, List, [], ◌∷◌, cond, eqb, Result, Ok, Err}
use Rattle.sched.specs.Scheduler.{data_in}
use Rattle.receiver.specs.Receiver.{done_outcome}
use Rattle.states.specs.Answer.{is_sent}
use Rattle.receiver.specs.Call.{answered_of}
use Rattle.states.specs.declared.answer.Answer.{Answer}
use Rattle.receiver.specs.declared.call.Call.{Call}
use Rattle.receiver.specs.declared.call.Phase.{Phase}
use Rattle.receiver.specs.declared.call.Phase.TheVariants.{Receive, Send, Shutdown, Finished}
use Rattle.receiver.specs.declared.receiver.Came.{Came}
use Rattle.receiver.specs.declared.receiver.Came.TheVariants as came
use Rattle.receiver.specs.declared.receiver.Outcome.{Outcome}
use Rattle.receiver.specs.declared.receiver.ReceiverState.{ReceiverState}
use Rattle.states.specs.declared.refusal.Refusal.{Refusal}

pub record Handed : Type 0 where
  pub ring : List ℕ
  pub answer : Answer
  pub place : ℕ

abbrev pub step_of : Call → Handed → Result Call Refusal
step_of c h = answered_of c h.ring h.answer h.place

-- the host goes on with the call that it has
abbrev pub kept_by : Call → Result Call Refusal → Call
kept_by c (Ok d) = d
kept_by c (Err r) = c

-- what an answer says was sent
abbrev pub sent_by : Answer → ℕ
sent_by a = cond (is_sent a) a.value 0

-- a chunk is handed out whole by a read of some bytes that leaves no data
abbrev pub whole_by : ReceiverState → Came → ℕ
whole_by q (came.Read n) = cond (eqb n 0) 0 (cond (eqb (data_in q.scheduler) 0) 1 0)
whole_by q came.Done = 0
whole_by q (came.Failed f) = 0

abbrev pub whole_in : ReceiverState → Outcome → ℕ
whole_in q o = whole_by q o.came

-- what was sent: by a call that waits to send, if it takes the answer
abbrev pub sent_at : Phase → Result Call Refusal → Answer → ℕ
sent_at (Send batch e) (Ok d) a = sent_by a
sent_at (Send batch e) (Err r) a = 0
sent_at (Receive w) x a = 0
sent_at (Shutdown e) x a = 0
sent_at (Finished o) x a = 0

-- the outcome that a call comes to if nothing fails; one that waits for a receive has none yet
abbrev pub coming_to : Phase → Outcome
coming_to (Receive w) = done_outcome
coming_to (Send batch e) = e.outcome
coming_to (Shutdown e) = e.outcome
coming_to (Finished o) = o

-- a chunk handed out whole: by a call that waits for its announcement, and comes to a read that leaves no data
abbrev pub whole_at : Phase → Result Call Refusal → ℕ
whole_at (Receive w) (Ok d) = whole_in d.receiver (coming_to d.phase)
whole_at (Receive w) (Err r) = 0
whole_at (Send batch e) x = 0
whole_at (Shutdown e) x = 0
whole_at (Finished o) x = 0

-- ---- any answers, one after the other: `answers` is what a call of the machine comes to with one
module _ (answers : Call → Handed → Result Call Refusal) where
  abbrev pub handed_to : Call → List Handed → Call
  handed_to c [] = c
  handed_to c (h ∷ hs) = handed_to (kept_by c (answers c h)) hs

  abbrev pub all_sent_to : Call → List Handed → ℕ
  all_sent_to c [] = 0
  all_sent_to c (h ∷ hs) = sent_at c.phase (answers c h) h.answer + all_sent_to (kept_by c (answers c h)) hs

  abbrev pub all_whole_to : Call → List Handed → ℕ
  all_whole_to c [] = 0
  all_whole_to c (h ∷ hs) = whole_at c.phase (answers c h) + all_whole_to (kept_by c (answers c h)) hs
