-- Laws of a line's letter, at an index of the line, and of the number behind it.
use Prim.Native.Nat.{ℕ, ◌+◌, ◌<◌, ◌≤◌}
use mathlib.Core.Path.{◌≡◌, sym, ap, ◌∙◌}
use mathlib.Core.List.{List, [], ◌∷◌}
use lib.ListN.{length, drop, get_or, length-drop, drop_of_length-le}
use lib.Seq.{drop-drop}
use native.Mathlib.Omega.{arith}
use borrow.Author.Tests.{eq-eqb, ne_eqb}
use Rattle.lines.specs.Decimal.{Front, some, none}
use Rattle.lines.specs.Field.{last_front}
use Rattle.lines.proofs.DecimalLaws.{at_cons}
use Rattle.operations.specs.declared.operation.OperationType.{OperationType}
use Rattle.std.specs.Prelude.{Option, Some, None}
use Rattle.planline.specs.Ring.{kind_of, kind_front, asked_of, with_amount}

module _ (xs : List ℕ) (i : ℕ) where
  pub kind_end : length xs ≤ i → kind_front (drop i xs) ≡ None
  unfolding kind_front
  kind_end h = rw (drop_of_length-le xs h)

  pub kind_alone : i < length xs → length xs ≤ i + 1 → kind_front (drop i xs) ≡ None
  unfolding kind_front
  kind_alone h k = rw (at_cons xs i h, drop_of_length-le xs k)

  two : i + 1 < length xs → drop i xs ≡ get_or xs i 0 ∷ (get_or xs (i + 1) 0 ∷ drop (i + 1 + 1) xs)
  two h = at_cons xs i (omega arith) ∙ ap (λ (ys : List ℕ). get_or xs i 0 ∷ ys) (at_cons xs (i + 1) h)

  pub kind_there : i + 1 < length xs → get_or xs (i + 1) 0 ≡ 32 → kind_front (drop i xs) ≡ kind_of (get_or xs i 0)
  unfolding kind_front
  kind_there h e = rw (two h, eq-eqb _ _ e)

  pub kind_other : i + 1 < length xs → (get_or xs (i + 1) 0 ≡ 32 → ⊥) → kind_front (drop i xs) ≡ None
  unfolding kind_front
  kind_other h e = rw (two h, ne_eqb _ _ e)

kind_long : (ys : List ℕ) (t : OperationType) → Some t ≡ kind_front ys → 2 ≤ length ys
unfolding kind_front
kind_long [] t p = absurd (let z : ◌≡◌ {A = ℕ} 0 1 = cc in omega arith)
kind_long (x ∷ []) t p = absurd (let z : ◌≡◌ {A = ℕ} 0 1 = cc in omega arith)
kind_long (x ∷ (y ∷ ys)) t p = omega arith

-- a letter that is taken leaves room for the index behind its space
pub kind_room : (xs : List ℕ) (i : ℕ) (t : OperationType) → Some t ≡ kind_front (drop i xs) → i + 2 ≤ length xs
kind_room xs i t p = omega (arith, kind_long (drop i xs) t p, length-drop i xs)

-- ---- the letter, and the last number behind it
module _ (l w r : ℕ) where
  pub amount_there : {t : OperationType} {m : ℕ} {ys : List ℕ} {k : Option OperationType} {f : Front} → Some t ≡ k → some m ys ≡ f → Some (asked_of l w r t m) ≡ with_amount l w r k f
  amount_there p q = rw (← p, ← q)

  pub amount_none : {t : OperationType} {k : Option OperationType} {f : Front} → Some t ≡ k → none ≡ f → None ≡ with_amount l w r k f
  amount_none p q = rw (← p, ← q)

  pub kind_none : {k : Option OperationType} (f : Front) → None ≡ k → None ≡ with_amount l w r k f
  kind_none f p = rw (← p)

pub last_behind : (xs : List ℕ) (i : ℕ) → last_front (drop (i + 2) xs) ≡ last_front (drop 2 (drop i xs))
last_behind xs i = ap last_front (sym (drop-drop 2 i xs))
