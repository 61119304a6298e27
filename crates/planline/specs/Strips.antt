-- A line that asks the planner: rows, bytes of a row, L, one space between.
use Rattle.std.specs.Prelude.{ℕ, List, Option, Some, None, Result, Ok, Err}
use Rattle.lines.specs.Decimal.{Front, some, none}
use Rattle.lines.specs.Field.{spaced_front, last_front}
use Rattle.planner.specs.declared.refusal.Refusal.{Refusal}
use Rattle.planner.specs.declared.strips.Strips.{Strips}
use Rattle.planner.specs.Strips.{outline_of}
use Rattle.planline.specs.declared.plan.Plan.{Plan}
use Rattle.planline.specs.declared.plan.Plan.TheVariants as plan
use Rattle.planline.specs.declared.plan.PlanError.{PlanError}
use Rattle.planline.specs.declared.plan.PlanError.TheVariants.{Bad, Refused}
use Rattle.planline.specs.declared.strips.AskedStrips.{AskedStrips}

-- ---- what a line says
abbrev pub asked_strips : ℕ → ℕ → ℕ → AskedStrips
asked_strips rows bytes l = record { rows = rows; row_bytes = bytes; buf_len = l }

abbrev pub with_buf_len : ℕ → ℕ → Front → Option AskedStrips
with_buf_len rows bytes (some l xs) = Some (asked_strips rows bytes l)
with_buf_len rows bytes none = None

abbrev pub with_row_bytes : ℕ → Front → Option AskedStrips
with_row_bytes rows (some bytes xs) = with_buf_len rows bytes (last_front xs)
with_row_bytes rows none = None

abbrev pub with_rows : Front → Option AskedStrips
with_rows (some rows xs) = with_row_bytes rows (spaced_front xs)
with_rows none = None

unfoldable pub parse_strips_of : List ℕ → Option AskedStrips
parse_strips_of xs = with_rows (spaced_front xs)

-- ---- its answer
abbrev pub strips_after : Result Strips Refusal → Result Plan PlanError
strips_after (Ok o) = Ok (plan.Strips o)
strips_after (Err e) = Err (Refused e)

abbrev pub strips_for : AskedStrips → Result Plan PlanError
strips_for a = strips_after (outline_of a.rows a.row_bytes a.buf_len)

abbrev pub strips_from : Option AskedStrips → Result Plan PlanError
strips_from (Some a) = strips_for a
strips_from None = Err Bad
