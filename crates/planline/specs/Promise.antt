-- Lines and answers in other words, where a number is told by what its digits are worth.
use Rattle.std.specs.Prelude.{ℕ, ◌^◌, ◌<◌, ◌≡◌, List, [], ◌∷◌, ◌++◌, Result, Ok, Err}
use Rattle.lines.specs.Numeral.{Numeral}
use Rattle.lines.specs.Promise.{Behind}
use Rattle.operations.specs.declared.list.AtMostTwo.TheVariants as list
use Rattle.operations.specs.declared.operation.ScheduledOperation.{ScheduledOperation}
use Rattle.operations.specs.Refusal as sched
use Rattle.planner.specs.declared.refusal.Refusal.{Refusal}
use Rattle.planner.specs.declared.refusal.Refusal.TheVariants.{Scheduler, SizeOutOfBounds, NoPlan, EmptyRun, RunOutOfPlace, RunTooLong, RowsLeft, PlanTooShort}
use Rattle.planner.specs.declared.strips.Strips.{Strips}
use Rattle.planner.specs.Refusal.{number_of, values_of}
use Rattle.planline.specs.declared.ring.Asked.{Asked}
use Rattle.planline.specs.declared.strips.AskedStrips.{AskedStrips}
use Rattle.planline.specs.declared.plan.Plan.{Plan}
use Rattle.planline.specs.declared.plan.Plan.TheVariants as plan
use Rattle.planline.specs.declared.plan.PlanError.{PlanError}
use Rattle.planline.specs.declared.plan.PlanError.TheVariants.{Bad, Refused}
use Rattle.planline.specs.Grammar.{Fits}
use Rattle.planline.specs.Ring.{letter_of}

-- ---- a line that asks the scheduler: L, written, read, R or W, m, one space between, each number at most 2^64 - 1
pub record RingLine (xs : List ℕ) (a : Asked) : Type 0 where
  pub l : List ℕ
  pub w : List ℕ
  pub r : List ℕ
  pub m : List ℕ
  pub buf : Numeral l a.buf_len
  pub written : Numeral w a.written
  pub read : Numeral r a.read
  pub max : Numeral m a.max_len
  pub fits : Fits a
  pub is : xs ≡ l ++ (32 ∷ (w ++ (32 ∷ (r ++ (32 ∷ (letter_of a.typ ∷ (32 ∷ m)))))))

-- ---- a line that asks the planner: rows, bytes of a row, L
pub record StripsLine (xs : List ℕ) (a : AskedStrips) : Type 0 where
  pub r : List ℕ
  pub b : List ℕ
  pub l : List ℕ
  pub rows : Numeral r a.rows
  pub bytes : Numeral b a.row_bytes
  pub buf : Numeral l a.buf_len
  pub fits : (a.rows < 2 ^ 64) × (a.row_bytes < 2 ^ 64) × (a.buf_len < 2 ^ 64)
  pub is : xs ≡ r ++ (32 ∷ (b ++ (32 ∷ l)))

-- ---- an answer: `bad`, `refused` and the number, or `ok` and what is planned: the count of operations and each one's offset and length,
-- or how many strips, the rows in each, and the rows in the last
pub data Pair : List ℕ → ScheduledOperation → Type 0 where
  pair : {off len : List ℕ} {a : ScheduledOperation} → Numeral off a.off.0 → Numeral len a.len → Pair (32 ∷ (off ++ (32 ∷ len))) a

-- what is refused is told by a number: the scheduler's own of what the scheduler refuses, and else the planner's
abbrev pub number_told : Refusal → ℕ
number_told (Scheduler e) = sched.number_of e
number_told (SizeOutOfBounds rows bytes) = number_of (SizeOutOfBounds rows bytes)
number_told (NoPlan bytes L) = number_of (NoPlan bytes L)
number_told (EmptyRun k) = number_of (EmptyRun k)
number_told (RunOutOfPlace k) = number_of (RunOutOfPlace k)
number_told (RunTooLong k) = number_of (RunTooLong k)
number_told (RowsLeft at) = number_of (RowsLeft at)
number_told (PlanTooShort needed lent) = number_of (PlanTooShort needed lent)

-- a line is not bad, and refused with this number and these values
abbrev pub RefusedWith : ℕ → List ℕ → PlanError → Type 0
RefusedWith k vs Bad = ⊥
RefusedWith k vs (Refused e) = (number_told e ≡ k) × (values_of e ≡ vs)

pub data Printed : List ℕ → Result Plan PlanError → Type 0 where
  bad : Printed (98 ∷ 97 ∷ 100 ∷ 10 ∷ []) (Err Bad)
  refused : {number : List ℕ} {e : Refusal} → Numeral number (number_told e) → Printed (114 ∷ 101 ∷ 102 ∷ 117 ∷ 115 ∷ 101 ∷ 100 ∷ 32 ∷ (number ++ (10 ∷ []))) (Err (Refused e))
  ok_none : Printed (111 ∷ 107 ∷ 32 ∷ 48 ∷ 10 ∷ []) (Ok (plan.Operations list.None))
  ok_one : {xs : List ℕ} {a : ScheduledOperation} → Pair xs a → Printed (111 ∷ 107 ∷ 32 ∷ 49 ∷ (xs ++ (10 ∷ []))) (Ok (plan.Operations (list.One a)))
  ok_two : {xs ys : List ℕ} {a b : ScheduledOperation} → Pair xs a → Pair ys b → Printed (111 ∷ 107 ∷ 32 ∷ 50 ∷ ((xs ++ ys) ++ (10 ∷ []))) (Ok (plan.Operations (list.Two a b)))
  ok_strips : {count height last : List ℕ} {o : Strips} → Numeral count o.count → Numeral height o.height → Numeral last o.last → Printed (111 ∷ 107 ∷ 32 ∷ ((count ++ (32 ∷ (height ++ (32 ∷ last)))) ++ (10 ∷ []))) (Ok (plan.Strips o))

-- the answer stands behind the first `at` bytes of a buffer, where there is room for the longest answer
abbrev pub Appended : List ℕ → ℕ → Result Plan PlanError → ℕ → List ℕ → Type 0
Appended before at p next after = (text : List ℕ) × Printed text p × Behind before at text 89 next after

-- ---- the answers to lines, one behind the other: each the text of every plan that may be answered to the line
module _ (Plans : List ℕ → Result Plan PlanError → Type 0) where
  pub data Answered : List (List ℕ) → List ℕ → Type 0 where
    none : Answered [] []
    more : {line : List ℕ} {lines : List (List ℕ)} {text rest : List ℕ} → ((p : Result Plan PlanError) → Plans line p → Printed text p) → Answered lines rest → Answered (line ∷ lines) (text ++ rest)
