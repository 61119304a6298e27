-- Lines out of an input that comes in pieces. Of a line that is not whole yet its first bytes are held, at most `most`.
use Rattle.std.specs.Prelude.{ℕ, ◌+◌, min, Bool, true, false, cond, List, [], ◌∷◌, eqb, ltb, length, drop, set}
use Rattle.lines.specs.declared.cut.Took.{Took}
use Rattle.lines.specs.Text.{Filled, filled}

unfoldable pub hold_of : ℕ → Filled → ℕ → Filled
hold_of most h b = cond (ltb h.at most) (filled (h.at + 1) (set h.bytes h.at b)) h

unfoldable pub hold_all : ℕ → Filled → List ℕ → Filled
hold_all most h [] = h
hold_all most h (b ∷ bs) = hold_all most (hold_of most h b) bs

-- the held bytes, the index in the piece, and whether the held bytes are a whole line
pub record Taken : Type 0 where
  pub held : Filled
  pub next : ℕ
  pub whole : Bool

abbrev pub took : Filled → ℕ → Bool → Taken
took h i w = record { held = h; next = i; whole = w }

-- where it got to, as the call answers it
abbrev pub reached : Taken → Took
reached t = record { held = t.held.at; next = t.next; whole = t.whole }

-- up to the next line feed, or to the piece's end
unfoldable pub take_in : ℕ → Filled → ℕ → List ℕ → Taken
take_in most h i [] = took h i false
take_in most h i (b ∷ bs) = cond (eqb b 10) (took h (i + 1) true) (take_in most (hold_of most h b) (i + 1) bs)

-- a count of held bytes is at most `most`
abbrev pub capped : ℕ → Filled → Filled
capped most h = filled (min h.at most) h.bytes

-- as many as are asked for, and no more than the buffer has room for
abbrev pub bound : ℕ → Filled → ℕ
bound most h = min most (length h.bytes)

abbrev pub take_of : ℕ → Filled → ℕ → List ℕ → Taken
take_of most h i piece = take_in (bound most h) (capped (bound most h) h) i (drop i piece)
