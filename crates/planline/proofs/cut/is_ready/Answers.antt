-- The line buffer, then the output buffer.
use mathlib.Core.Path.{◌∙◌}
use native.Mathlib.Omega.{arith}
use borrow.Author.Tests.{lt-leb}
use Rattle.lines.specs.Text.{filled}
use Rattle.lines.proofs.AnswerLaws.{ready_short, ready_long}
use Rattle.planline.specs.Cut.{most_held}
use Rattle.planline.specs.Text.{longest}
use Rattle.planline.proofs.cut.is_ready.Goals as goal

pub returns-then-line-ge-MOST_HELD : goal.returns-then-line-ge-MOST_HELD
returns-then-line-ge-MOST_HELD c =
    c.has_room.ensures ∙ ready_long most_held longest c.args.line.now (filled c.args.at c.args.out.now) (omega arith)

pub returns-else-line-ge-MOST_HELD : goal.returns-else-line-ge-MOST_HELD
returns-else-line-ge-MOST_HELD c =
    lt-leb _ _ (omega arith) ∙ ready_short most_held longest c.args.line.now (filled c.args.at c.args.out.now) (omega arith)
