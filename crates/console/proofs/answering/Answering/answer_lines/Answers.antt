-- At the input's end all of it is answered but a last line, which is answered now.
use Rattle.std.proofs.Common.{arith}
use Rattle.std.proofs.KnownBytes.{Keeps-trans}
use Rattle.console.proofs.OwedLaws.{on_ok, lines_answered}
use Rattle.console.proofs.answering.Answering.answer_lines.Goals as goal

pub returns-then-not-branch : goal.returns-then-not-branch
returns-then-not-branch g c =
    let end = rw c.if-not-branch.true at c.in_ok-read_some.ensures.proceeds in
    on_ok c.print.result
    (lines_answered c.args.self.now c.read_some.new.self _ _ c.requires.held c.requires.text c.in_ok-read_some.ensures.text (omega arith) (omega arith) c.answer_last-self.ensures _ _ _ _ _
    (Keeps-trans _ _ _ c.loop.invariant.2 c.in_ok-read_some.ensures.owed) end)
    c.print.ensures
