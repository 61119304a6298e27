-- Bytes that are stored one behind the other in a buffer.
use Rattle.std.specs.Prelude.{ℕ, ◌+◌, ◌≤◌, ◌≡◌, List, length}
use Rattle.std.proofs.lemmas.List.Edits.{sets}

-- with `text` at i the buffer `before` becomes `after`, and `next` is the index behind it
pub record Stored (before : List ℕ) (i : ℕ) (text after : List ℕ) (next : ℕ) : Type 0 where
  pub end : next ≡ i + length text
  pub bytes : after ≡ sets before i text

-- the same of a function that asks for no room: where there is room, the text is stored
abbrev pub Stores : List ℕ → ℕ → List ℕ → List ℕ → ℕ → Type 0
Stores before i text after next = i + length text ≤ length before → Stored before i text after next
