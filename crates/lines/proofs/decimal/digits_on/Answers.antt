-- The invariant at the byte that was read, by what the library says of a digit, a product and a sum.
use Prim.Native.Nat.{ℕ, ◌+◌}
use mathlib.Core.Path.{◌≡◌, sym, ap, ◌∙◌}
use Rattle.std.specs.Prelude.{Some}
use lib.ListN.{length, drop}
use native.Mathlib.Omega.{arith}
use Rattle.lines.specs.Decimal.{digits_on, number, number_in}
use Rattle.lines.proofs.DecimalLaws.{digits_end, digits_stop, digits_full, digits_next, number_there}
use Rattle.lines.proofs.decimal.digits_on.Goals as goal

pub loop-next-preserved : goal.loop-next-preserved
loop-next-preserved c =
    let l = c.loop-next in
    let line = c.args.line.now in
    let digit = c.if-not-is_ascii_digit.ensures.cases in
    let tens = c.in_ok-checked_mul.ensures in
    let more = c.in_ok-n.ensures in
    ap (λ (n : ℕ). digits_on n (drop (l.next + 1) line)) (omega arith)
    ∙ sym (digits_next line l.next l.n (omega arith) (omega arith) (omega arith) (omega arith))
    ∙ l.invariant

pub returns-then-not-is_ascii_digit : goal.returns-then-not-is_ascii_digit
returns-then-not-is_ascii_digit c =
    let l = c.loop-next in
    let line = c.args.line.now in
    let other = c.if-not-is_ascii_digit.ensures.cases in
    number_there line l.n l.next (omega arith)
    ∙ ap (number_in line) (sym (digits_stop line l.next l.n (omega arith) (λ p q. omega arith)) ∙ l.invariant)

pub returns-in_err-checked_mul : goal.returns-in_err-checked_mul
returns-in_err-checked_mul c =
    let l = c.loop-next in
    let line = c.args.line.now in
    let digit = c.if-not-is_ascii_digit.ensures.cases in
    let full = c.in_err-checked_mul.ensures in
    c.from_residual.ensures
    ∙ ap (number_in line) (sym (digits_full line l.next l.n (omega arith) (omega arith) (omega arith) (omega arith)) ∙ l.invariant)

pub returns-in_err-n : goal.returns-in_err-n
returns-in_err-n c =
    let l = c.loop-next in
    let line = c.args.line.now in
    let digit = c.if-not-is_ascii_digit.ensures.cases in
    let full = c.in_err-n.ensures in
    let tens = c.in_ok-checked_mul.ensures in
    c.from_residual-in_err-n.ensures
    ∙ ap (number_in line) (sym (digits_full line l.next l.n (omega arith) (omega arith) (omega arith) (omega arith)) ∙ l.invariant)

pub returns : goal.returns
returns c =
    let l = c.loop-next in
    let line = c.args.line.now in
    let end : length line ≡ l.next = omega arith in
    ap (λ (k : ℕ). Some (number l.n k)) end
    ∙ number_there line l.n l.next (omega arith)
    ∙ ap (number_in line) (sym (digits_end line l.next l.n (omega arith)) ∙ l.invariant)
