-- Four texts, one behind the other.
use mathlib.Core.List.{[], ◌∷◌}
use Rattle.lines.specs.Decimal.{decimal}
use Rattle.lines.proofs.TextLaws.{stores_put, stores_then}
use Rattle.planline.specs.Text.{operation_text}
use Rattle.planline.proofs.text.put_operation.Goals as goal

pub returns : goal.returns
unfolding operation_text
returns c =
    let op = c.args.op in
    stores_then (stores_put (32 ∷ []) c.put-offset.ensures)
    (stores_then (stores_put (decimal op.off.0) c.put_decimal-space.ensures) (stores_then (stores_put (32 ∷ []) c.put-len.ensures) (stores_put (decimal op.len) c.put_decimal.ensures)))
