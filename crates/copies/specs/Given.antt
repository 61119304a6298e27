-- The paper's table of the numbers that refuse a copy: when each is given, and with which values. 1 to 5 and 20 are the scheduler's,
-- then comes 9, and there is no other.
use Rattle.std.specs.Prelude.{ℕ, ◌<◌, ◌≡◌, ◌≢◌, List, [], Result, Ok, Err}
use Rattle.sched.specs.declared.scheduler.RingBufferScheduler.{RingBufferScheduler}
use Rattle.operations.specs.Refusal as sched
use Rattle.sched.specs.Scheduler.{IsSound}
use Rattle.sched.specs.Given.{Given}
use Rattle.copies.specs.Refusal.{number_of, values_of}
use Rattle.copies.specs.declared.refusal.Refusal as copies
use Rattle.operations.specs.declared.refusal.Refusal.{Refusal}

-- ---- what a caller is told: a number and its values, 0 and none where nothing is refused
pub record Verdict : Type 0 where
  pub number : ℕ
  pub values : List ℕ

abbrev pub verdict : ℕ → List ℕ → Verdict
verdict k vs = record { number = k; values = vs }

-- `G` says when a number is given, with which values: it is given only then, and always then
pub record Exactly (G : ℕ → List ℕ → Type 0) (v : Verdict) : Type 0 where
  pub only : G v.number v.values
  pub always : (k : ℕ) (vs : List ℕ) → G k vs → v ≡ verdict k vs

-- ---- a copy under the scheduler s over ring memory of n bytes
module _ (s : RingBufferScheduler) (n : ℕ) where
  pub data GivenCopy : ℕ → List ℕ → Type 0 where
    made : IsSound s → n ≡ s.buf_len → GivenCopy 0 []
    by_scheduler : {k : ℕ} {vs : List ℕ} → 0 < k → Given s k vs → GivenCopy k vs
    given_9 : IsSound s → n ≢ s.buf_len → GivenCopy 9 []

-- ---- the verdict in an answer, whatever it is of
abbrev pub of_scheduler : {A : Type 0} → Result A Refusal → Verdict
of_scheduler (Ok s) = verdict 0 []
of_scheduler (Err e) = verdict (sched.number_of e) (sched.values_of e)

abbrev pub of_copy : {A : Type 0} → Result A copies.Refusal → Verdict
of_copy (Ok s) = verdict 0 []
of_copy (Err e) = verdict (number_of e) (values_of e)
