-- The input's lines, put together again, are the input.
use Prim.Native.Nat.{ℕ}
use mathlib.Core.Path.{◌≡◌, refl, sym, ap, ◌∙◌}
use mathlib.Core.Bool.{Bool, true, false, cond}
use mathlib.Core.List.{List, [], ◌∷◌, ◌++◌, append_assoc, append-nil}
use mathlib.Core.Logic.{inl, inr, ⊎_elim}
use lib.Dec.{eqb}
use native.Mathlib.Omega.{arith}
use borrow.Author.Tests.{eqb-true, eqb-false}
use Rattle.lines.specs.Lines.{last_lines, lines_from, lines_of, together, Clean, LastSome, LinesOf}

clean_last : (xs : List ℕ) (b : ℕ) → Clean xs → (b ≡ 10 → ⊥) → Clean (xs ++ (b ∷ []))
clean_last [] b c n = (n, tt)
clean_last (x ∷ xs) b c n = (c.0, clean_last xs b c.1 n)

some_behind : (line : List ℕ) (lines : List (List ℕ)) → LastSome lines → LastSome (line ∷ lines)
some_behind line [] l = absurd l
some_behind line (m ∷ lines) l = l

-- a whole line in front
feed : (line bs : List ℕ) (lines : List (List ℕ)) → Clean line → LinesOf bs lines → LinesOf (line ++ (10 ∷ bs)) (line ∷ lines)
unfolding together
feed line bs lines c h =
    record {
      clean = (c, h.clean);
      again =
          ⊎_elim
          (λ e. inl (ap (λ (x : List ℕ). line ++ (10 ∷ x)) e))
          (λ e. inr (ap (λ (x : List ℕ). line ++ (10 ∷ x)) e.0 ∙ sym (append_assoc line (10 ∷ bs) (10 ∷ [])), some_behind line lines e.1))
          h.again;
    }

last_line : (line : List ℕ) → Clean line → LinesOf (line ++ []) (last_lines line)
unfolding together last_lines
last_line [] c = record { clean = tt; again = inl refl }
last_line (x ∷ line) c = record { clean = (c, tt); again = inr (ap (λ (y : List ℕ). x ∷ (y ++ (10 ∷ []))) (sym (append-nil line)), omega arith) }

lines_from_lem : (xs line : List ℕ) → Clean line → LinesOf (line ++ xs) (lines_from line xs)
unfolding lines_from
lines_from_lem [] line c = last_line line c
lines_from_lem (b ∷ bs) line c = go (eqb b 10) refl (lines_from_lem bs [] tt) (λ n. lines_from_lem bs (line ++ (b ∷ [])) (clean_last line b c n))
  where
    go :
        (t : Bool) → eqb b 10 ≡ t → LinesOf bs (lines_from [] bs) → ((b ≡ 10 → ⊥) → LinesOf ((line ++ (b ∷ [])) ++ bs) (lines_from (line ++ (b ∷ [])) bs)) →
        LinesOf (line ++ (b ∷ bs)) (cond t (line ∷ lines_from [] bs) (lines_from (line ++ (b ∷ [])) bs))
    go true e h k = rw (eqb-true b 10 e) (feed line bs (lines_from [] bs) c h)
    go false e h k = rw (append_assoc line (b ∷ []) bs) at (k (eqb-false b 10 e))

pub lines_are : (xs : List ℕ) → LinesOf xs (lines_of xs)
lines_are xs = lines_from_lem xs [] tt
