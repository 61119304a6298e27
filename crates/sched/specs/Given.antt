-- The paper's table of the numbers that refuse, 1 to 8 and 20: when each is given, and with which values. docs/PAPER.md, "The numbers".
use Rattle.std.specs.Prelude.{◌≡◌, ℕ, ◌*◌, ◌^◌, ◌<◌, ◌≤◌, List, [], ◌∷◌, ◌≢◌}
use Rattle.operations.specs.Given.{TypeNumber, GivenList}
use Rattle.operations.specs.declared.counter.Counter.{Counter}
use Rattle.operations.specs.Lists.{ScheduledOperations}
use Rattle.operations.specs.declared.list.AtMostTwo.TheVariants as list
use Rattle.operations.specs.declared.operation.OperationType.{OperationType}
use Rattle.operations.specs.declared.operation.ScheduledOperation.{ScheduledOperation}
use Rattle.sched.specs.declared.scheduler.RingBufferScheduler.{RingBufferScheduler}
use Rattle.sched.specs.Counter.{data_of}
use Rattle.sched.specs.Promise.{Taken, written_with, read_with, MovedBy}
use Rattle.sched.specs.Scheduler.{Sized, Counted, IsSound, data_in, greatest_in}

-- ---- 1 to 5: a length and two counters, tested in this order; 0 where they are taken
module _ (L : ℕ) (written read : Counter) where
  abbrev w : ℕ
  w = written.0

  abbrev r : ℕ
  r = read.0

  pub data GivenCounters : ℕ → List ℕ → Type 0 where
    counted : Counted L written read → GivenCounters 0 []
    given_1 : L ≡ 0 → GivenCounters 1 []
    given_2 : 2 ^ 63 < L → GivenCounters 2 (L ∷ [])
    given_3 : Sized L → 2 * L ≤ w → GivenCounters 3 (L ∷ w ∷ [])
    given_4 : Sized L → w < 2 * L → 2 * L ≤ r → GivenCounters 4 (L ∷ r ∷ [])
    given_5 : Sized L → w < 2 * L → r < 2 * L → L < data_of L written read → GivenCounters 5 (L ∷ w ∷ r ∷ [])

-- ---- a record: the same of its numbers, then 20, where another fill is held than the data between the counters
module _ (s : RingBufferScheduler) where
  pub data Given : ℕ → List ℕ → Type 0 where
    taken : IsSound s → Given 0 []
    by_counters : {k : ℕ} {vs : List ℕ} → 0 < k → GivenCounters s.buf_len s.items_written s.items_read k vs → Given k vs
    given_20 : Counted s.buf_len s.items_written s.items_read → (s.fill ≢ data_in s) → Given 20 []

  -- another counter in the place of an operation's: the record's numbers, then those of the length and the counters
  module _ (t : OperationType) (c : Counter) where
    pub data GivenWith : ℕ → List ℕ → Type 0 where
      own : {k : ℕ} {vs : List ℕ} → 0 < k → Given k vs → GivenWith k vs
      new : {k : ℕ} {vs : List ℕ} → IsSound s → GivenCounters s.buf_len (written_with s t c) (read_with s t c) k vs → GivenWith k vs

  -- what every accepted call answers: a record that holds its data, and is refused by none of these
  pub record Passes : Type 0 where
    pub held : s.fill ≡ data_in s
    pub taken : Taken s
    pub never : (k : ℕ) (vs : List ℕ) → Given k vs → k ≡ 0

  -- ---- 6: a registered length above the greatest, of a record that is taken
  module _ (t : OperationType) (n : ℕ) where
    pub data GivenRegister : ℕ → List ℕ → Type 0 where
      before_6 : {k : ℕ} {vs : List ℕ} → 0 < k → Given k vs → GivenRegister k vs
      given_6 : {no : ℕ} → IsSound s → TypeNumber t no → greatest_in s t < n → GivenRegister 6 (no ∷ n ∷ greatest_in s t ∷ [])
      fits : IsSound s → n ≤ greatest_in s t → GivenRegister 0 []

-- ---- a list that is registered: the record's numbers, then the list's, then 6 operation by operation, where the second is
-- held to what is left after the first
module _ (s : RingBufferScheduler) where
  pub data GivenOperations : ScheduledOperations → ℕ → List ℕ → Type 0 where
    the_record : {ops : ScheduledOperations} {k : ℕ} {vs : List ℕ} → 0 < k → Given s k vs → GivenOperations ops k vs
    the_list : {ops : ScheduledOperations} {k : ℕ} {vs : List ℕ} → IsSound s → 0 < k → GivenList ops k vs → GivenOperations ops k vs
    nothing : IsSound s → GivenOperations list.None 0 []
    alone : {a : ScheduledOperation} {k : ℕ} {vs : List ℕ} → IsSound s → GivenRegister s a.typ a.len k vs → GivenOperations (list.One a) k vs
    at_first : {a b : ScheduledOperation} {k : ℕ} {vs : List ℕ} → IsSound s → GivenList (list.Two a b) 0 [] → 0 < k → GivenRegister s a.typ a.len k vs → GivenOperations (list.Two a b) k vs
    at_second : {a b : ScheduledOperation} {k : ℕ} {vs : List ℕ} → IsSound s → GivenList (list.Two a b) 0 [] → a.len ≤ greatest_in s a.typ → (u : RingBufferScheduler) → MovedBy s a.typ a.len u → GivenRegister u b.typ b.len k vs → GivenOperations (list.Two a b) k vs
