-- The runs of a program over two calls, a step and the input's end: each piece of the input is used up by steps, and between any
-- two of them the text so far may be written out. Whatever the pieces are, and whenever text is written.
use Rattle.std.specs.Prelude.{ℕ, ◌+◌, ◌≤◌, ◌≡◌, List, [], ◌∷◌, ◌++◌, length}
use Rattle.lines.specs.Answer.{Step}
use Rattle.lines.specs.Text.{Filled, filled, text_in}

-- what is held of a line, the buffer of the text, and what was written before
pub record Place : Type 0 where
  pub held : Filled
  pub out : Filled
  pub written : List ℕ

abbrev pub place : Filled → Filled → List ℕ → Place
place h o w = record { held = h; out = o; written = w }

-- room for the longest line that is held, and for the longest answer
abbrev pub ReadyAt : ℕ → ℕ → Place → Type 0
ReadyAt most longest s = (most ≤ length s.held.bytes) × (s.out.at + longest ≤ length s.out.bytes)

-- `Next` and `Last` are what the calls may answer: a step from an index of a piece, and what the text's buffer holds at the end
module _ (most longest : ℕ) (Next : List ℕ → Place → ℕ → Step → Type 0) (Last : Place → Filled → Type 0) where
  -- from an index of the piece to its end
  pub data Moves : List ℕ → Place → ℕ → Place → Type 0 where
    ends : {piece : List ℕ} {s : Place} {i : ℕ} → length piece ≤ i → Moves piece s i s
    steps : {piece : List ℕ} {s t : Place} {i : ℕ} {x : Step} → ReadyAt most longest s → Next piece s i x → Moves piece (place x.held x.out s.written) x.next t → Moves piece s i t
    writes : {piece : List ℕ} {s t : Place} {i : ℕ} → Moves piece (place s.held (filled 0 s.out.bytes) (s.written ++ text_in s.out)) i t → Moves piece s i t

  -- all pieces, and the input's end
  pub data Run : List (List ℕ) → Place → List ℕ → Type 0 where
    last : {s : Place} {o : Filled} → ReadyAt most longest s → Last s o → Run [] s (s.written ++ text_in o)
    next : {piece : List ℕ} {pieces : List (List ℕ)} {s t : Place} {text : List ℕ} → Moves piece s 0 t → Run pieces t text → Run (piece ∷ pieces) s text

-- nothing is held, and no text was made
pub record Start (most : ℕ) (s : Place) : Type 0 where
  pub held : s.held.at ≡ 0
  pub room : most ≤ length s.held.bytes
  pub out : s.out.at ≡ 0
  pub written : s.written ≡ []
