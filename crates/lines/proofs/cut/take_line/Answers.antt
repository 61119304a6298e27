-- The buffer bounds what may be held, and what is held already.
use mathlib.Core.Path.{sym, ◌∙◌}
use Rattle.lines.specs.Text.{filled}
use Rattle.lines.proofs.CutLaws.{rest_from, take_whole, take_part}
use Rattle.lines.proofs.cut.take_line.Goals as goal

pub returns-in-Some : goal.returns-in-Some
returns-in-Some c =
    let a = c.args in
    take_whole a.most (filled a.held a.line.now) a.from a.piece.now c.min-room.result c.min-before.result c.in-Some.n _
    c.min-room.ensures c.min-before.ensures (rest_from a.piece.now a.from c.min.result c.min.ensures) (sym c.line_feed.ensures ∙ c.in-Some.is) c.hold.ensures

pub returns-in-None : goal.returns-in-None
returns-in-None c =
    let a = c.args in
    take_part a.most (filled a.held a.line.now) a.from a.piece.now c.min-room.result c.min-before.result _
    c.min-room.ensures c.min-before.ensures (rest_from a.piece.now a.from c.min.result c.min.ensures) (sym c.line_feed.ensures ∙ c.in-None.is) c.hold-in-None.ensures
