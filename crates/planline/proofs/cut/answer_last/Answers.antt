-- No room, no line, or a last line, of which at most 121 bytes were held.
use mathlib.Core.Path.{sym, ◌∙◌}
use mathlib.Core.Logic.{⊎_elim}
use lib.Seq.{length-take-le}
use native.Mathlib.Omega.{arith}
use Rattle.lines.specs.Text.{filled}
use Rattle.lines.proofs.AnswerLaws.{ready_room, last_unready, last_none, last_there}
use Rattle.planline.specs.Cut.{most_held, line_text}
use Rattle.planline.specs.Text.{longest}
use Rattle.planline.proofs.cut.answer_last.Goals as goal

pub returns-then-not-is_ready : goal.returns-then-not-is_ready
returns-then-not-is_ready c =
    let a = c.args in
    ⊎_elim
    (λ no. last_unready (line_text a.question) most_held longest a.held a.line.now (filled a.at a.out.now) (sym c.is_ready.ensures ∙ no))
    (λ none. last_none (line_text a.question) most_held longest a.held a.line.now (filled a.at a.out.now) (sym c.is_ready.ensures ∙ none.0) none.1)
    c.then-not-is_ready.either

pub slice_bounds-append-end : goal.slice_bounds-append-end
slice_bounds-append-end c =
    let a = c.args in
    sym (length-take-le c.min.result a.line.now (omega (arith, ready_room most_held longest a.line.now (filled a.at a.out.now) (sym c.if-not-is_ready.ensures))))

pub returns : goal.returns
returns c =
    let a = c.args in
    c.append.ensures
    ∙ last_there (line_text a.question) most_held longest a.held a.line.now (filled a.at a.out.now) (sym c.if-not-is_ready.ensures) c.if-held-eq0.false c.min.result c.min.ensures
