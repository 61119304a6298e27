-- The table of the numbers that refuse a receiver's call over a run of answers: those of its beginning, those of an answer that it
-- takes, and 11 where the run is used up while it waits.
use Rattle.std.specs.Prelude.{ℕ, suc, ◌<◌, ◌≡◌, List, [], ◌∷◌, length, Result, Ok, Err}
use Rattle.copies.specs.Given.{Verdict, verdict}
use Rattle.receiver.specs.Call.{answered_of}
use Rattle.receiver.specs.Given.{GivenAnswer}
use Rattle.states.specs.Refusal.{number_of, values_of}
use Rattle.states.specs.declared.answer.Answer.{Answer}
use Rattle.receiver.specs.declared.call.Call.{Call}
use Rattle.receiver.specs.declared.call.Phase.{Phase}
use Rattle.receiver.specs.declared.call.Phase.TheVariants as phase
use Rattle.receiver.specs.declared.receiver.Ended.{Ended}
use Rattle.states.specs.declared.refusal.Refusal.{Refusal}

abbrev pub Waits : Phase → Type 0
Waits (phase.Receive w) = Unit {0}
Waits (phase.Send batch e) = Unit {0}
Waits (phase.Shutdown e) = Unit {0}
Waits (phase.Finished o) = ⊥

-- an interruption, by a receive and by a send alone
abbrev pub WaitedOut : Phase → Answer → Type 0
WaitedOut (phase.Receive w) a = (a.kind ≡ 2) × (a.value ≡ 4)
WaitedOut (phase.Send batch e) a = (a.kind ≡ 2) × (a.value ≡ 4)
WaitedOut (phase.Shutdown e) a = ⊥
WaitedOut (phase.Finished o) a = ⊥

-- where no answer is left
pub data GivenLast (c : Call) : ℕ → List ℕ → Type 0 where
  finished : (Waits c.phase → ⊥) → GivenLast c 0 []
  given_11 : Waits c.phase → GivenLast c 11 []

-- where one comes at this place; `More` is the table of a call with the answers behind it
module _ (c : Call) (ring : List ℕ) (a : Answer) (place : ℕ) (More : Call → ℕ → List ℕ → Type 0) where
  pub data GivenNext : ℕ → List ℕ → Type 0 where
    over : (Waits c.phase → ⊥) → GivenNext 0 []
    waited_out : {k : ℕ} {vs : List ℕ} → Waits c.phase → WaitedOut c.phase a → More c k vs → GivenNext k vs
    at_the_answer : {k : ℕ} {vs : List ℕ} → Waits c.phase → (WaitedOut c.phase a → ⊥) → 0 < k → GivenAnswer c (length ring) a place k vs → GivenNext k vs
    behind_it : {k : ℕ} {vs : List ℕ} (d : Call) → Waits c.phase → (WaitedOut c.phase a → ⊥) → answered_of c ring a place ≡ Ok d → More d k vs → GivenNext k vs

-- a call that has used i answers, before these
abbrev pub GivenFrom : List ℕ → ℕ → List Answer → Call → ℕ → List ℕ → Type 0
GivenFrom ring i [] c = GivenLast c
GivenFrom ring i (a ∷ rest) c = GivenNext c ring a (suc i) (GivenFrom ring (suc i) rest)

-- `x` is what the beginning answers, and `Begins` its table
module _ (Begins : ℕ → List ℕ → Type 0) (x : Result Call Refusal) (ring : List ℕ) (answers : List Answer) where
  pub data GivenRun : ℕ → List ℕ → Type 0 where
    at_the_beginning : {k : ℕ} {vs : List ℕ} → 0 < k → Begins k vs → GivenRun k vs
    over_the_run : {k : ℕ} {vs : List ℕ} (c : Call) → x ≡ Ok c → GivenFrom ring 0 answers c k vs → GivenRun k vs

abbrev pub of_ended : Result Ended Refusal → Verdict
of_ended (Ok m) = verdict 0 []
of_ended (Err r) = verdict (number_of r) (values_of r)
