-- The check of a plan from anywhere: run by run, 16, 17, 18, and 19 behind the last.
use Rattle.std.specs.Prelude.{ℕ, zero, suc, ◌+◌, ◌-◌, ◌*◌, Bool, cond, List, eqb, ltb, Result, Ok, Err, ⊤}
use Rattle.sched.specs.Chunk.{body_fits}
use Rattle.planner.specs.declared.refusal.Refusal.TheVariants.{EmptyRun, RunOutOfPlace, RunTooLong, RowsLeft}
use Rattle.planner.specs.Promise.{runs_in, first_at, count_at}
use Rattle.planner.specs.Sizes.{sizes_of}
use Rattle.planner.specs.declared.refusal.Refusal.{Refusal}

-- a run from row `at` ends past the last row: no sum, whatever numbers a plan holds
unfoldable pub past_end : ℕ → ℕ → ℕ → Bool
past_end rows at count = ltb (rows - at) count

-- run k, which is to go on from row `at`
unfoldable pub run_of : ℕ → ℕ → ℕ → ℕ → ℕ → ℕ → ℕ → Result ⊤ Refusal
run_of rows bytes L at k first count =
    cond (eqb count 0) (Err (EmptyRun k))
    (cond (eqb first at)
    (cond (past_end rows at count) (Err (RunOutOfPlace k))
    (cond (body_fits L (count * bytes)) (Ok tt) (Err (RunTooLong k))))
    (Err (RunOutOfPlace k)))

-- what a refused run's verdict is, or that of the rest
abbrev pub or_else : Result ⊤ Refusal → Result ⊤ Refusal → Result ⊤ Refusal
or_else (Ok tt) rest = rest
or_else (Err e) rest = Err e

-- the runs from run k on, m of them, from row `at` on
unfoldable pub check_from : ℕ → ℕ → ℕ → List ℕ → ℕ → ℕ → ℕ → Result ⊤ Refusal
check_from rows bytes L plan at k zero = cond (ltb at rows) (Err (RowsLeft at)) (Ok tt)
check_from rows bytes L plan at k (suc m) =
    or_else (run_of rows bytes L at k (first_at plan k) (count_at plan k)) (check_from rows bytes L plan (at + count_at plan k) (suc k) m)

abbrev pub check_in : ℕ → ℕ → ℕ → List ℕ → Result ⊤ Refusal
check_in rows bytes L plan = check_from rows bytes L plan 0 0 (runs_in plan)

abbrev pub checked_from : ℕ → ℕ → ℕ → List ℕ → Result ⊤ Refusal → Result ⊤ Refusal
checked_from rows bytes L plan (Ok tt) = check_in rows bytes L plan
checked_from rows bytes L plan (Err e) = Err e

abbrev pub check_of : ℕ → ℕ → ℕ → List ℕ → Result ⊤ Refusal
check_of rows bytes L plan = checked_from rows bytes L plan (sizes_of rows bytes L)
