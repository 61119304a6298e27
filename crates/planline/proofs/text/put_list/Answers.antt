-- The count, then each operation's text.
use mathlib.Core.List.{[], ◌∷◌}
use Rattle.lines.proofs.TextLaws.{stores_put, stores_then}
use Rattle.planline.specs.Text.{list_text}
use Rattle.planline.proofs.text.put_list.Goals as goal

pub returns-in-None : goal.returns-in-None
unfolding list_text
returns-in-None c =
    rw c.in-None.is (stores_put _ c.put.ensures)

pub returns-in-One : goal.returns-in-One
unfolding list_text
returns-in-One c =
    rw c.in-One.is (stores_then (stores_put (49 ∷ []) c.put-first.ensures) c.put_operation.ensures)

pub returns-in-Two : goal.returns-in-Two
unfolding list_text
returns-in-Two c =
    rw c.in-Two.is (stores_then (stores_put (50 ∷ []) c.put-first-in-Two.ensures) (stores_then c.put_operation-second.ensures c.put_operation-in-Two.ensures))
