-- A digit by itself, or the library's digits.
use mathlib.Core.Path.{ap, sym, ◌∙◌}
use mathlib.Core.List.{List}
use Prim.Native.Nat.{ℕ}
use native.Mathlib.Omega.{arith}
use Rattle.lines.specs.Text.{filled, put_of}
use Rattle.lines.proofs.DecimalLaws.{printed_decimal, decimal_one}
use Rattle.lines.proofs.decimal.put_decimal.Goals as goal

pub returns-then-n-lt10 : goal.returns-then-n-lt10
returns-then-n-lt10 c =
    c.put.ensures ∙ ap (λ (text : List ℕ). put_of text (filled c.args.at c.args.out.now)) (sym (decimal_one c.args.n c.if-n-lt10.true))

pub returns : goal.returns
returns c =
    c.put-2.ensures
    ∙ ap (λ (text : List ℕ). put_of text (filled c.args.at c.args.out.now)) (c.as_bytes.ensures.value ∙ c.format.ensures.text ∙ printed_decimal c.args.n (omega arith))
