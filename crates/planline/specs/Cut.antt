-- The answers to the lines of an input that comes in pieces. Of a line that is not whole yet its first 121 bytes are held: one that is
-- longer is bad, whatever its other bytes are.
use Rattle.std.specs.Prelude.{ℕ, List}
use Rattle.lines.specs.Answer as answer
use Rattle.lines.specs.Answer.{Step}
use Rattle.lines.specs.Text.{Filled}
use Rattle.planline.specs.declared.cut.Cut.{Cut}
use Rattle.planline.specs.declared.plan.Question.{Question}
use Rattle.planline.specs.Plan.{plan_of}
use Rattle.planline.specs.Text.{plan_text, longest}

abbrev pub most_held : ℕ
most_held = 121

abbrev pub line_text : Question → List ℕ → List ℕ
line_text q line = plan_text (plan_of q line)

-- where a step got to, as the call answers it
abbrev pub reached : Step → Cut
reached s = record { held = s.held.at; next = s.next; at = s.out.at }

abbrev pub step_of : Question → Filled → ℕ → List ℕ → Filled → Step
step_of q h i piece o = answer.step_of (line_text q) most_held longest h i piece o

abbrev pub last_of : Question → Filled → Filled → Filled
last_of q h o = answer.last_of (line_text q) most_held longest h o

-- of the whole input
abbrev pub texts_of : Question → List (List ℕ) → List ℕ
texts_of q lines = answer.texts_of (line_text q) lines
