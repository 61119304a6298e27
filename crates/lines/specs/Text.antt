-- Text behind what a buffer holds already.
use Rattle.std.specs.Prelude.{ℕ, ◌+◌, Bool, cond, List, leb, length, take}
use Rattle.std.proofs.lemmas.List.Edits.{sets}

-- a buffer, and how far it is filled
pub record Filled : Type 0 where
  pub at : ℕ
  pub bytes : List ℕ

abbrev pub filled : ℕ → List ℕ → Filled
filled n xs = record { at = n; bytes = xs }

-- what it holds
abbrev pub text_in : Filled → List ℕ
text_in b = take b.at b.bytes

abbrev pub has_room : ℕ → Filled → Bool
has_room longest b = leb (b.at + longest) (length b.bytes)

-- the text behind what is held; nothing where there is not room for the longest text
unfoldable pub append_of : ℕ → List ℕ → Filled → Filled
append_of longest text b = cond (has_room longest b) (filled (b.at + length text) (sets b.bytes b.at text)) b

-- nothing where there is not room for this one
abbrev pub put_of : List ℕ → Filled → Filled
put_of text b = append_of (length text) text b
