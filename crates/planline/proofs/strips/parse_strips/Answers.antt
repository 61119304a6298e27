-- Number by number, to the first that is none.
use mathlib.Core.Path.{◌≡◌, ap, ◌∙◌}
use mathlib.Core.List.{List}
use Prim.Native.Nat.{ℕ}
use lib.ListN.{drop}
use Rattle.std.specs.Prelude.{Some}
use Rattle.lines.specs.Decimal.{Front, number}
use Rattle.lines.specs.Field.{spaced_front, spaced_at}
use Rattle.lines.proofs.FieldLaws.{spaced_front_lem, last_front_lem}
use Rattle.planline.specs.Strips.{with_buf_len, with_row_bytes, with_rows, parse_strips_of}
use Rattle.planline.proofs.strips.parse_strips.Goals as goal

-- what is read of the line says what is read of it with its first number, or its first two
after_rows : (line : List ℕ) {n next : ℕ} {f : Front} → Some (number n next) ≡ spaced_at line 0 → f ≡ spaced_front (drop next line) → with_row_bytes n f ≡ parse_strips_of line
unfolding parse_strips_of
after_rows line {n} e p = ap (with_row_bytes n) p ∙ ap with_rows (spaced_front_lem line 0 e)

pub returns-in_err-rows : goal.returns-in_err-rows
unfolding parse_strips_of
returns-in_err-rows c = c.from_residual.ensures ∙ ap with_rows (spaced_front_lem c.args.line.now 0 c.in_err-rows.ensures)

pub returns-in_err-row_bytes : goal.returns-in_err-row_bytes
returns-in_err-row_bytes c =
    c.from_residual-in_err-row_bytes.ensures ∙ after_rows c.args.line.now c.in_ok-rows.ensures (spaced_front_lem c.args.line.now c.in_ok-rows.rows.next c.in_err-row_bytes.ensures)

pub returns-in_err-buf_len : goal.returns-in_err-buf_len
returns-in_err-buf_len c =
    let a = c.args in
    c.from_residual-in_err-buf_len.ensures
    ∙ ap (with_buf_len c.in_ok-rows.rows.n c.in_ok-row_bytes.row_bytes.n) (last_front_lem a.line.now c.in_ok-row_bytes.row_bytes.next c.in_err-buf_len.ensures)
    ∙ after_rows a.line.now c.in_ok-rows.ensures (spaced_front_lem a.line.now c.in_ok-rows.rows.next c.in_ok-row_bytes.ensures)

pub returns : goal.returns
returns c =
    let a = c.args in
    ap (with_buf_len c.in_ok-rows.rows.n c.in_ok-row_bytes.row_bytes.n) (last_front_lem a.line.now c.in_ok-row_bytes.row_bytes.next c.in_ok-buf_len.ensures)
    ∙ after_rows a.line.now c.in_ok-rows.ensures (spaced_front_lem a.line.now c.in_ok-rows.rows.next c.in_ok-row_bytes.ensures)
