-- What is promised of the calls, in other words than the definitions that their contracts cite.
use Rattle.std.specs.Prelude.{ℕ, ◌+◌, ◌^◌, ◌<◌, ◌≤◌, min, ◌≡◌, Bool, true, false, List, [], ◌∷◌, ◌++◌, ◌⊎◌, length, take, drop, get_or}
use Rattle.lines.specs.Lines.{Clean}
use Rattle.lines.specs.Numeral.{Numeral}

-- ---- a number in a line
abbrev pub Stops : List ℕ → Type 0
Stops [] = Unit {0}
Stops (x ∷ xs) = 48 ≤ x → x ≤ 57 → ⊥

-- n's numeral stands at an index of a line, and `next` is the index behind it. No digit follows, but that 0 is read alone
pub record Stands (line : List ℕ) (at n next : ℕ) : Type 0 where
  pub text : List ℕ
  pub rest : List ℕ
  pub is : drop at line ≡ text ++ rest
  pub numeral : Numeral text n
  pub fits : n < 2 ^ 64
  pub stops : 0 < n → Stops rest
  pub end : next ≡ at + length text

-- the same with a space behind it, and `next` is the index behind the space
pub record Spaced (line : List ℕ) (at n next : ℕ) : Type 0 where
  pub text : List ℕ
  pub rest : List ℕ
  pub is : drop at line ≡ text ++ (32 ∷ rest)
  pub numeral : Numeral text n
  pub fits : n < 2 ^ 64
  pub end : next ≡ at + length text + 1

-- n's numeral is all that stands from an index on
pub record Last (line : List ℕ) (at n next : ℕ) : Type 0 where
  pub numeral : Numeral (drop at line) n
  pub fits : n < 2 ^ 64
  pub end : next ≡ length line

-- ---- a text in a buffer
-- it stands behind the first `at` bytes, and nothing else of the buffer changes; nothing at all where `longest` bytes have no room.
-- Then the index behind it, and the bytes
pub data Behind (before : List ℕ) (at : ℕ) (text : List ℕ) (longest : ℕ) : ℕ → List ℕ → Type 0 where
  there : at + longest ≤ length before → Behind before at text longest (at + length text) ((take at before ++ text) ++ drop (at + length text) before)
  no_room : length before < at + longest → Behind before at text longest at before

-- ---- a part of a line
-- the bytes from an index i up to the next line feed, or to the end
pub data Part (bytes : List ℕ) (i : ℕ) (part : List ℕ) (next : ℕ) (whole : Bool) : Type 0 where
  feed : (rest : List ℕ) → bytes ≡ part ++ (10 ∷ rest) → next ≡ i + length part + 1 → whole ≡ true → Part bytes i part next whole
  no_feed : bytes ≡ part → next ≡ i + length part → whole ≡ false → Part bytes i part next whole

-- behind what was held, of which no more than `most` bytes stay; nothing else of the buffer changes
pub record Held (most : ℕ) (line : List ℕ) (held : ℕ) (part line' : List ℕ) (held' : ℕ) : Type 0 where
  pub clean : Clean part
  pub few : held' ≤ min most (length line)
  pub is : take held' line' ≡ take (min most (length line)) (take held line ++ part)
  pub same : (j : ℕ) → (j < held) ⊎ (held' ≤ j) → get_or line' j 0 ≡ get_or line j 0
