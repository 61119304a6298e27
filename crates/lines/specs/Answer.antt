-- The answers to the lines of an input, as a program makes them piece by piece: `text` is a line's answer with its line feed,
-- `longest` the length of the longest one, and of a line at most `most` bytes are held.
use Rattle.std.specs.Prelude.{ℕ, Bool, false, cond, List, [], ◌∷◌, ◌++◌, eqb, leb, length}
use Rattle.lines.specs.Cut.{Taken, capped, take_of}
use Rattle.lines.specs.Text.{Filled, filled, text_in, has_room, append_of}

-- ---- of the whole input
unfoldable pub texts_of : (List ℕ → List ℕ) → List (List ℕ) → List ℕ
texts_of text [] = []
texts_of text (line ∷ lines) = text line ++ texts_of text lines

-- ---- one line's answer
-- what is held, the next index of the piece, and the text so far
pub record Step : Type 0 where
  pub held : Filled
  pub next : ℕ
  pub out : Filled

abbrev pub step : Filled → ℕ → Filled → Step
step h i o = record { held = h; next = i; out = o }

-- room for the longest line that is held, and for the longest answer
unfoldable pub is_ready : ℕ → ℕ → List ℕ → Filled → Bool
is_ready most longest line o = cond (leb most (length line)) (has_room longest o) false

unfoldable pub step_after : (List ℕ → List ℕ) → ℕ → Taken → Filled → Step
step_after text longest t o =
    cond t.whole (step (filled 0 t.held.bytes) t.next (append_of longest (text (text_in t.held)) o)) (step t.held t.next o)

-- nothing where there is no room
unfoldable pub step_of : (List ℕ → List ℕ) → ℕ → ℕ → Filled → ℕ → List ℕ → Filled → Step
step_of text most longest h i piece o = cond (is_ready most longest h.bytes o) (step_after text longest (take_of most h i piece) o) (step h i o)

-- the input's end: what is held is a last line, unless it is empty
unfoldable pub last_of : (List ℕ → List ℕ) → ℕ → ℕ → Filled → Filled → Filled
last_of text most longest h o =
    cond (is_ready most longest h.bytes o) (cond (eqb h.at 0) o (append_of longest (text (text_in (capped most h))) o)) o
