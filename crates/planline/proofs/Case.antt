-- The paper's whole case of each question, behind its header.
use Prim.Native.Nat.{ℕ}
use mathlib.Core.Path.{◌≡◌, refl}
use mathlib.Core.List.{List, [], ◌∷◌}
use Rattle.lines.specs.Answer.{texts_of}
use Rattle.lines.specs.Decimal.{digits_by, decimal, is_digit, digits_on, number_front}
use Rattle.lines.specs.Field.{space_then, end_then}
use Rattle.lines.specs.Lines.{last_lines, lines_from, lines_of}
use Rattle.modular.specs.Modulus.{sub_mod, add_mod}
use Rattle.sched.specs.Chunk.{body_fits}
use Rattle.sched.specs.Scheduler.{counted_of, sound_of, layout_in, some_of, schedule_in}
use Rattle.planner.specs.Sizes.{in_bounds, sizes_in}
use Rattle.planline.specs.declared.plan.Question.TheVariants as question
use Rattle.planline.specs.Cut.{line_text}
use Rattle.planline.specs.Plan.{plan_of}
use Rattle.planline.specs.Ring.{kind_of, kind_front, parse_of}
use Rattle.planline.specs.Strips.{parse_strips_of}
use Rattle.planline.specs.Text.{operation_text, list_text, strips_text, plan_text}

abbrev pub input : List ℕ
input = 49 ∷ 48 ∷ 32 ∷ 55 ∷ 32 ∷ 51 ∷ 32 ∷ 87 ∷ 32 ∷ 57 ∷ 10 ∷ 48 ∷ 32 ∷ 48 ∷ 32 ∷ 48 ∷ 32 ∷ 82 ∷ 32 ∷ 49 ∷ 10 ∷ 49 ∷ 48 ∷ 32 ∷ 55 ∷ 32 ∷ 51 ∷ 32 ∷ 82 ∷ []

abbrev pub output : List ℕ
output = 111 ∷ 107 ∷ 32 ∷ 50 ∷ 32 ∷ 55 ∷ 32 ∷ 51 ∷ 32 ∷ 48 ∷ 32 ∷ 51 ∷ 10 ∷ 114 ∷ 101 ∷ 102 ∷ 117 ∷ 115 ∷ 101 ∷ 100 ∷ 32 ∷ 49 ∷ 10 ∷ 98 ∷ 97 ∷ 100 ∷ 10 ∷ []

pub case : texts_of (line_text question.Ring) (lines_of input) ≡ output
unfolding sub_mod add_mod counted_of sound_of layout_in some_of schedule_in digits_by decimal is_digit digits_on number_front last_lines lines_from texts_of space_then end_then kind_of kind_front parse_of plan_of operation_text list_text plan_text
case = refl

-- ---- strips
abbrev pub strips_input : List ℕ
strips_input = 49 ∷ 48 ∷ 32 ∷ 52 ∷ 32 ∷ 50 ∷ 48 ∷ 10 ∷ 49 ∷ 48 ∷ 32 ∷ 52 ∷ 32 ∷ 49 ∷ 49 ∷ 10 ∷ 49 ∷ 48 ∷ 32 ∷ 52 ∷ []

abbrev pub strips_output : List ℕ
strips_output = 111 ∷ 107 ∷ 32 ∷ 52 ∷ 32 ∷ 51 ∷ 32 ∷ 49 ∷ 10 ∷ 114 ∷ 101 ∷ 102 ∷ 117 ∷ 115 ∷ 101 ∷ 100 ∷ 32 ∷ 49 ∷ 53 ∷ 10 ∷ 98 ∷ 97 ∷ 100 ∷ 10 ∷ []

pub strips_case : texts_of (line_text question.Strips) (lines_of strips_input) ≡ strips_output
unfolding sub_mod counted_of sound_of body_fits in_bounds sizes_in digits_by decimal is_digit digits_on number_front last_lines lines_from texts_of space_then end_then parse_strips_of plan_of strips_text plan_text
strips_case = refl
