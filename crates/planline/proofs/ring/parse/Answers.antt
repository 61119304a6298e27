-- Number by number, and the letter, to the first that is none.
use mathlib.Core.Path.{◌≡◌, ap, ◌∙◌}
use mathlib.Core.List.{List}
use Prim.Native.Nat.{ℕ}
use lib.ListN.{drop}
use Rattle.std.specs.Prelude.{Some}
use Rattle.lines.specs.Decimal.{Front, number}
use Rattle.lines.specs.Field.{spaced_front, last_front, spaced_at}
use Rattle.lines.proofs.FieldLaws.{spaced_front_lem, last_front_lem}
use Rattle.planline.specs.Ring.{kind_front, with_amount, with_read, with_written, with_length, parse_of}
use Rattle.planline.proofs.RingLaws.{amount_there, amount_none, kind_none, last_behind}
use Rattle.planline.proofs.ring.parse.Goals as goal

-- what is read of the line, behind its first number, its first two, and all three
module _ (line : List ℕ) {l m : ℕ} (p : Some (number l m) ≡ spaced_at line 0) where
  with_1 : {f : Front} → f ≡ spaced_front (drop m line) → with_written l f ≡ parse_of line
  unfolding parse_of
  with_1 q = ap (with_written l) q ∙ ap with_length (spaced_front_lem line 0 p)

  module _ {w n : ℕ} (q : Some (number w n) ≡ spaced_at line m) where
    with_2 : {f : Front} → f ≡ spaced_front (drop n line) → with_read l w f ≡ parse_of line
    with_2 r = ap (with_read l w) r ∙ with_1 (spaced_front_lem line m q)

    with_3 : {r k : ℕ} → Some (number r k) ≡ spaced_at line n → with_amount l w r (kind_front (drop k line)) (last_front (drop 2 (drop k line))) ≡ parse_of line
    with_3 s = with_2 (spaced_front_lem line n s)

pub returns-in_err-buf_len : goal.returns-in_err-buf_len
unfolding parse_of
returns-in_err-buf_len c = c.from_residual.ensures ∙ ap with_length (spaced_front_lem c.args.line.now 0 c.in_err-buf_len.ensures)

pub returns-in_err-written : goal.returns-in_err-written
returns-in_err-written c =
    c.from_residual-in_err-written.ensures ∙ with_1 c.args.line.now c.in_ok-buf_len.ensures (spaced_front_lem c.args.line.now _ c.in_err-written.ensures)

pub returns-in_err-read : goal.returns-in_err-read
returns-in_err-read c =
    c.from_residual-in_err-read.ensures
    ∙ with_2 c.args.line.now c.in_ok-buf_len.ensures c.in_ok-written.ensures (spaced_front_lem c.args.line.now _ c.in_err-read.ensures)

pub returns-in_err-typ : goal.returns-in_err-typ
returns-in_err-typ c =
    c.from_residual-in_err-typ.ensures
    ∙ kind_none _ _ _ _ c.in_err-typ.ensures
    ∙ with_3 c.args.line.now c.in_ok-buf_len.ensures c.in_ok-written.ensures c.in_ok-read.ensures

pub returns-in_err-max_len : goal.returns-in_err-max_len
returns-in_err-max_len c =
    c.from_residual-in_err-max_len.ensures
    ∙ amount_none _ _ _ c.in_ok-typ.ensures (last_front_lem c.args.line.now _ c.in_err-max_len.ensures ∙ last_behind c.args.line.now c.in_ok-read.read.next)
    ∙ with_3 c.args.line.now c.in_ok-buf_len.ensures c.in_ok-written.ensures c.in_ok-read.ensures

pub returns : goal.returns
returns c =
    amount_there _ _ _ c.in_ok-typ.ensures (last_front_lem c.args.line.now _ c.in_ok-max_len.ensures ∙ last_behind c.args.line.now c.in_ok-read.read.next)
    ∙ with_3 c.args.line.now c.in_ok-buf_len.ensures c.in_ok-written.ensures c.in_ok-read.ensures
