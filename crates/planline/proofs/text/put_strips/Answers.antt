-- Three numbers with a space between, one behind the other.
use mathlib.Core.List.{[], ◌∷◌}
use Rattle.lines.specs.Decimal.{decimal}
use Rattle.lines.proofs.TextLaws.{stores_put, stores_then}
use Rattle.planline.specs.Text.{strips_text}
use Rattle.planline.proofs.text.put_strips.Goals as goal

pub returns : goal.returns
unfolding strips_text
returns c =
    let strips = c.args.strips in
    stores_then (stores_put (decimal strips.count) c.put_decimal-first.ensures)
    (stores_then (stores_put (32 ∷ []) c.put-height.ensures)
    (stores_then (stores_put (decimal strips.height) c.put_decimal-second.ensures)
    (stores_then (stores_put (32 ∷ []) c.put-last.ensures) (stores_put (decimal strips.last) c.put_decimal.ensures))))
