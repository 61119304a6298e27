-- A line that asks the scheduler: L, written, read, R or W, m, one space between.
use Rattle.std.specs.Prelude.{ℕ, cond, List, [], ◌∷◌, ◌++◌, eqb, drop, Option, Some, None, Result, Ok, Err}
use Rattle.operations.specs.declared.operation.OperationType.{OperationType}
use Rattle.operations.specs.declared.operation.OperationType.TheVariants.{Read, Write}
use Rattle.operations.specs.declared.refusal.Refusal.{Refusal}
use Rattle.sched.specs.declared.schedule.Scheduled.{Scheduled}
use Rattle.sched.specs.Scheduler.{scheduler_of, schedule_of}
use Rattle.planner.specs.declared.refusal.Refusal.TheVariants.{Scheduler}
use Rattle.lines.specs.Decimal.{decimal, Front, some, none}
use Rattle.lines.specs.Field.{spaced_front, last_front}
use Rattle.planline.specs.declared.ring.Asked.{Asked}
use Rattle.planline.specs.declared.plan.Plan.{Plan}
use Rattle.planline.specs.declared.plan.Plan.TheVariants as plan
use Rattle.planline.specs.declared.plan.PlanError.{PlanError}
use Rattle.planline.specs.declared.plan.PlanError.TheVariants.{Bad, Refused}

-- ---- the well-formed line
abbrev pub letter_of : OperationType → ℕ
letter_of Read = 82
letter_of Write = 87

unfoldable pub line_of : Asked → List ℕ
line_of a =
    decimal a.buf_len ++ (32 ∷ (decimal a.written ++ (32 ∷ (decimal a.read ++ (32 ∷ (letter_of a.typ ∷ (32 ∷ decimal a.max_len)))))))

-- ---- what a line says
unfoldable pub kind_of : ℕ → Option OperationType
kind_of x = cond (eqb x 82) (Some Read) (cond (eqb x 87) (Some Write) None)

-- a letter and a space
unfoldable pub kind_front : List ℕ → Option OperationType
kind_front [] = None
kind_front (x ∷ []) = None
kind_front (x ∷ (y ∷ xs)) = cond (eqb y 32) (kind_of x) None

abbrev pub asked_of : ℕ → ℕ → ℕ → OperationType → ℕ → Asked
asked_of l w r t m = record { buf_len = l; written = w; read = r; typ = t; max_len = m }

abbrev pub with_amount : ℕ → ℕ → ℕ → Option OperationType → Front → Option Asked
with_amount l w r (Some t) (some m xs) = Some (asked_of l w r t m)
with_amount l w r (Some t) none = None
with_amount l w r None f = None

abbrev pub with_read : ℕ → ℕ → Front → Option Asked
with_read l w (some r xs) = with_amount l w r (kind_front xs) (last_front (drop 2 xs))
with_read l w none = None

abbrev pub with_written : ℕ → Front → Option Asked
with_written l (some w xs) = with_read l w (spaced_front xs)
with_written l none = None

abbrev pub with_length : Front → Option Asked
with_length (some l xs) = with_written l (spaced_front xs)
with_length none = None

unfoldable pub parse_of : List ℕ → Option Asked
parse_of xs = with_length (spaced_front xs)

-- ---- its answer
abbrev pub plan_after : Result Scheduled Refusal → Result Plan PlanError
plan_after (Ok r) = Ok (plan.Operations r.operations)
plan_after (Err e) = Err (Refused (Scheduler e))

abbrev pub plan_for : Asked → Result Plan PlanError
plan_for a = plan_after (schedule_of (scheduler_of a.buf_len (record { 0 = a.written }) (record { 0 = a.read })) a.typ a.max_len)

abbrev pub plan_from : Option Asked → Result Plan PlanError
plan_from (Some a) = plan_for a
plan_from None = Err Bad
