-- No room, a whole line, or a part of one.
use mathlib.Core.Path.{sym, ap, ◌∙◌}
use lib.Seq.{length-take-le}
use native.Mathlib.Omega.{arith}
use Rattle.lines.specs.Answer.{step}
use Rattle.lines.specs.Text.{Filled, filled}
use Rattle.lines.proofs.AnswerLaws.{step_unready, step_whole, step_part}
use Rattle.lines.proofs.CutLaws.{took_within}
use Rattle.planline.specs.Cut.{most_held, line_text}
use Rattle.planline.specs.Text.{longest}
use Rattle.planline.proofs.cut.answer_next.Goals as goal

pub returns-then-not-is_ready : goal.returns-then-not-is_ready
returns-then-not-is_ready c =
    let a = c.args in
    step_unready (line_text a.question) most_held longest (filled a.held a.line.now) a.from a.piece.now (filled a.at a.out.now) (sym c.is_ready.ensures ∙ c.if-not-is_ready.true)

pub slice_bounds-append-end : goal.slice_bounds-append-end
slice_bounds-append-end c =
    let a = c.args in
    omega (arith, took_within most_held a.held a.from a.line.now a.piece.now c.take_line-took.ensures)

pub slice_bounds-append-end-then-took : goal.slice_bounds-append-end-then-took
slice_bounds-append-end-then-took c =
    let a = c.args in
    let t = c.take_line-took in
    sym (length-take-le t.result.held t.new.line (omega (arith, took_within most_held a.held a.from a.line.now a.piece.now t.ensures)))

pub returns-then-took : goal.returns-then-took
returns-then-took c =
    let a = c.args in
    let t = c.take_line-took in
    ap (λ (o : Filled). step (filled 0 t.new.line) t.result.next o) c.append.ensures
    ∙ step_whole (line_text a.question) most_held longest (filled a.held a.line.now) a.from a.piece.now (filled a.at a.out.now) (sym c.is_ready.ensures ∙ c.if-not-is_ready.false) t.ensures c.if-took.true

pub returns : goal.returns
returns c =
    let a = c.args in
    let t = c.take_line-took in
    step_part (line_text a.question) most_held longest (filled a.held a.line.now) a.from a.piece.now (filled a.at a.out.now) (sym c.is_ready.ensures ∙ c.if-not-is_ready.false) t.ensures c.if-took.false
