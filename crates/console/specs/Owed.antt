-- What is written of an input whose bytes are known, by a writer that tells what it holds.
use Rattle.std.specs.Prelude.{ℕ, Bool, true, false, ◌+◌, ◌-◌, ◌^◌, ◌<◌, ◌≤◌, ◌≡◌, List, [], ◌∷◌, ◌++◌, ◌⊎◌, length, ⊤, Option, None, Some, IfSome}
use Rattle.std.specs.Io.KnownBytes.{Appends, IsAtEnd, append_known}
use Rattle.lines.specs.Lines.{lines_from, lines_of}
use Rattle.lines.specs.Text.{Filled, filled, text_in}
use Rattle.planline.specs.Cut.{texts_of}
use Rattle.planline.specs.declared.plan.Question.{Question}
use Rattle.planline.specs.declared.plan.Question.TheVariants as question
use Rattle.console.specs.declared.answering.Answering.{Answering}

-- ---- of the whole input
-- "ring plan" or "strip plan", with a line feed
abbrev pub header_of : Question → List ℕ
header_of question.Ring = 114 ∷ 105 ∷ 110 ∷ 103 ∷ 32 ∷ 112 ∷ 108 ∷ 97 ∷ 110 ∷ 10 ∷ []
header_of question.Strips = 115 ∷ 116 ∷ 114 ∷ 105 ∷ 112 ∷ 32 ∷ 112 ∷ 108 ∷ 97 ∷ 110 ∷ 10 ∷ []

-- the answers to the input's lines, where the input is no longer than any can be
abbrev pub Answers : Question → Option (List ℕ) → Option (List ℕ) → Option (List ℕ) → Type 0
Answers q input before after = IfSome input (λ xs. length xs < 2 ^ 64 - 1 → Appends before after (texts_of q (lines_of xs)))

-- the header in front of them
abbrev pub AnswersAll : Question → Option (List ℕ) → Option (List ℕ) → Option (List ℕ) → Type 0
AnswersAll q input before after = IfSome input (λ xs. length xs < 2 ^ 64 - 1 → Appends before after (header_of q ++ texts_of q (lines_of xs)))

-- ---- on the way
-- what is still to be written: the text so far, and the answers to what is held of a line and the bytes behind it
abbrev pub still_due : Question → Filled → Filled → List ℕ → List ℕ
still_due q h o xs = text_in o ++ texts_of q (lines_from (text_in h) xs)

-- so what the writer will hold at the end
abbrev pub ends_with : Answering → Option (List ℕ) → List ℕ → Option (List ℕ)
ends_with a written xs = append_known written (still_due a.question (filled a.held a.line) (filled a.at a.out) xs)

-- the same between two reads, where the rest of the input may be unknown
abbrev pub owed : Answering → Option (List ℕ) → Option (List ℕ) → Option (List ℕ)
owed a None written = None
owed a (Some xs) written = ends_with a written xs

-- a turn takes bytes of the piece, from index i to j, or makes room for the text, which ends at m and then at n
abbrev pub TakesTurn : ℕ → ℕ → ℕ → ℕ → ℕ → Type 0
TakesTurn len i m j n = ((i < j) × (j ≤ len)) ⊎ ((j ≡ i) × (n ≡ 0) × (0 < m))

-- so many bytes at least are gone
abbrev pub Shrinks : ℕ → Option (List ℕ) → Option (List ℕ) → Type 0
Shrinks n None after = ⊤
Shrinks n (Some xs) None = ⊥
Shrinks n (Some xs) (Some ys) = n + length ys ≤ length xs

-- a read takes bytes of the input, or is at its end
abbrev pub Proceeds : Bool → Option (List ℕ) → Option (List ℕ) → Type 0
Proceeds true before after = Shrinks 1 before after
Proceeds false before after = IsAtEnd after
