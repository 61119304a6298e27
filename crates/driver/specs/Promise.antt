-- What the calls over a lent run promise beside their rules: how many answers a call used, what a read leaves in the destination, what
-- the end of the stream becomes, and that a run is the machine's steps.
use Rattle.std.specs.Prelude.{ℕ, suc, ◌+◌, ◌<◌, ◌≤◌, ◌≡◌, ◌≢◌, List, [], ◌∷◌, ◌++◌, length, take, Result, Ok, Err, Option, Some, None}
use Rattle.modular.proofs.Saying.{Allows}
use Rattle.operations.specs.declared.operation.OperationType.TheVariants.{Read}
use Rattle.sched.specs.declared.scheduler.RingBufferScheduler.{RingBufferScheduler}
use Rattle.sched.specs.Scheduler.{data_in, offset_in}
use Rattle.copies.specs.Promises.{OnlyFront, CellsOf}
use Rattle.receiver.specs.Handed.{Handed}
use Rattle.receiver.specs.Promise.{nothing_more}
use Rattle.states.specs.declared.answer.Answer.{Answer}
use Rattle.receiver.specs.declared.call.Call.{Call}
use Rattle.receiver.specs.declared.call.Phase.{Phase}
use Rattle.receiver.specs.declared.call.Phase.TheVariants as phase
use Rattle.receiver.specs.declared.receiver.Came.{Came}
use Rattle.receiver.specs.declared.receiver.Came.TheVariants as came
use Rattle.receiver.specs.declared.receiver.Outcome.{Outcome}
use Rattle.receiver.specs.declared.receiver.ReceiverState.{ReceiverState}
use Rattle.states.specs.declared.refusal.Refusal.{Refusal}
use Rattle.states.specs.declared.refusal.Refusal.TheVariants.{AnswerMissing}
use Rattle.states.specs.declared.state.Failure.TheVariants.{Io}
use Rattle.receiver.proofs.call.Call.begin_read.Kinds as begin_read_kinds
use Rattle.receiver.proofs.call.Call.begin_read.Reads as begin_read
use Rattle.receiver.proofs.call.Call.begin_service.Kinds as begin_service_kinds
use Rattle.receiver.proofs.call.Call.begin_service.Reads as begin_service
use Rattle.receiver.proofs.call.Call.begin_shutdown.Kinds as begin_shutdown_kinds
use Rattle.receiver.proofs.call.Call.begin_shutdown.Reads as begin_shutdown
use Rattle.driver.specs.Pending.{Asked, reads, reads_impl, services, shuts}
use Rattle.driver.specs.Run.{ServiceLeaves, ShutdownLeaves, ReadImplLeaves, ReadLeaves}
use Rattle.receiver.specs.declared.receiver.Ended.{Ended}

-- An answer is fetched from its place, behind as many others; behind the end of the run there is none.
pub data FetchedAt : List Answer → ℕ → Option Answer → Type 0 where
  there : (before : List Answer) (a : Answer) (after : List Answer) → FetchedAt (before ++ (a ∷ after)) (length before) (Some a)
  behind : (answers : List Answer) (i : ℕ) → length answers ≤ i → FetchedAt answers i None

-- A call used so many answers: whatever stands behind them it comes to the same, and with fewer of them it is refused with 11.
-- `runs` is what the call leaves of each run.
module _ (runs : List Answer → Result Ended Refusal) (answers : List Answer) where
  abbrev pub Uses : Result Ended Refusal → Type 0
  Uses (Ok m) =
      (m.used ≤ length answers) ×
      ((more : List Answer) → runs (take m.used answers ++ more) ≡ Ok m) ×
      ((k : ℕ) → k < m.used → runs (take k answers) ≡ Err AnswerMissing)
  Uses (Err r) = Unit {0}

-- ---- the bytes of a read
-- they begin at the read offset if there is data, and else behind the header of 8 bytes that stands there
pub data Begins (s : RingBufferScheduler) : ℕ → Type 0 where
  at_data : data_in s ≢ 0 → Begins s (offset_in s Read).0
  behind_header : data_in s ≡ 0 → Begins s ((offset_in s Read).0 + 8)

-- A read of n bytes, no more than were asked for, leaves those of the ring at the front of the destination; nothing else changes any.
-- `s` is the scheduler of the record that was passed.
module _ (s : RingBufferScheduler) (ring dst left : List ℕ) where
  abbrev pub FillsBy : Came → Type 0
  FillsBy (came.Read n) = (n ≤ length dst) × OnlyFront n dst left × ((at : ℕ) → Begins s at → CellsOf s.buf_len ring at (take n left))
  FillsBy came.Done = left ≡ dst
  FillsBy (came.Failed f) = left ≡ dst

  abbrev pub Fills : Result Ended Refusal → Type 0
  Fills (Ok m) = FillsBy m.outcome.came
  Fills (Err r) = left ≡ dst

-- ---- the end of the stream: failure 32 becomes a read of no bytes, with nothing beside it, and every other outcome stays
pub data TurnedTo : Outcome → Outcome → Type 0 where
  ended_stream : {o : Outcome} → o.came ≡ came.Failed (Io 32) → TurnedTo o (record { came = came.Read 0; beside = nothing_more })
  stays : {o : Outcome} → o.came ≢ came.Failed (Io 32) → TurnedTo o o

-- nothing else of an answer changes
pub data Turned : Result Ended Refusal → Result Ended Refusal → Type 0 where
  accepted : {q : ReceiverState} {o p : Outcome} {used : ℕ} → TurnedTo o p → Turned (Ok (record { receiver = q; outcome = o; used = used })) (Ok (record { receiver = q; outcome = p; used = used }))
  same_refusal : {r : Refusal} → Turned (Err r) (Err r)

-- ---- a run is its steps
-- a call that is finished tells its outcome and how many answers were handed in; one that is not comes to what the rest of the run says
abbrev pub told_by : Phase → ReceiverState → ℕ → Result Ended Refusal → Result Ended Refusal
told_by (phase.Receive w) q i rest = rest
told_by (phase.Send batch e) q i rest = rest
told_by (phase.Shutdown e) q i rest = rest
told_by (phase.Finished o) q i rest = Ok (record { receiver = q; outcome = o; used = i })

-- a refusal refuses the whole
abbrev pub told : Result Call Refusal → ℕ → Result Ended Refusal → Result Ended Refusal
told (Ok c) i rest = told_by c.phase c.receiver i rest
told (Err r) i rest = Err r

-- `takes` is what a call of the machine comes to with an answer: the answers are handed in one after the other, the first at place 1
module _ (takes : Call → Handed → Result Call Refusal) (ring : List ℕ) where
  abbrev pub handed_in : Result Call Refusal → Answer → ℕ → Result Call Refusal
  handed_in (Ok c) a place = takes c (record { ring = ring; answer = a; place = place })
  handed_in (Err r) a place = Err r

  -- where i were handed in before
  abbrev pub steps_to : ℕ → Result Call Refusal → List Answer → Result Ended Refusal
  steps_to i x [] = told x i (Err AnswerMissing)
  steps_to i x (a ∷ answers) = told x i (steps_to (suc i) (handed_in x a (suc i)) answers)

-- what a call of this record may leave, by the predicate that its contract cites; of a read, whatever destination is lent
abbrev pub MayLeave : ReceiverState → Asked → Result Ended Refusal → Type 0
MayLeave q (services answers) r = ServiceLeaves q answers r
MayLeave q (shuts answers) r = ShutdownLeaves q answers r
MayLeave q (reads_impl ring asked top answers) r = (dst : List ℕ) × (length dst ≡ asked) × ((left : List ℕ) × ReadImplLeaves q ring dst top answers r left)
MayLeave q (reads ring asked top answers) r = (dst : List ℕ) × (length dst ≡ asked) × ((left : List ℕ) × ReadLeaves q ring dst top answers r left)

-- what the call of the machine that begins it may come to, by the contract that is attached
abbrev pub MayBegin : ReceiverState → Asked → Result Call Refusal → Type 0
MayBegin q (services answers) x = Allows 0 begin_service_kinds.ps begin_service_kinds.r begin_service.Learnt tt (q, tt) x
MayBegin q (shuts answers) x = Allows 0 begin_shutdown_kinds.ps begin_shutdown_kinds.r begin_shutdown.Learnt tt (q, tt) x
MayBegin q (reads_impl ring asked top answers) x = Allows 0 begin_read_kinds.ps begin_read_kinds.r begin_read.Learnt tt (q, (length ring, (top, (asked, tt)))) x
MayBegin q (reads ring asked top answers) x = Allows 0 begin_read_kinds.ps begin_read_kinds.r begin_read.Learnt tt (q, (length ring, (top, (asked, tt)))) x

-- what it then leaves is where its steps lead, `takes` being whatever the contract of `answered` allows; a call that looks at no ring is
-- lent none
abbrev pub Stepped : (Call → Handed → Result Call Refusal) → Asked → Result Call Refusal → Result Ended Refusal → Type 0
Stepped takes (services answers) x r = r ≡ steps_to takes [] 0 x answers
Stepped takes (shuts answers) x r = r ≡ steps_to takes [] 0 x answers
Stepped takes (reads_impl ring asked top answers) x r = r ≡ steps_to takes ring 0 x answers
Stepped takes (reads ring asked top answers) x r = Turned (steps_to takes ring 0 x answers) r
