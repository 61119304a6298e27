-- Laws of a number with a space behind it, and of a line's last number: at an index, from its decimal form, and from nothing else.
use Prim.Native.Nat.{ℕ, ◌+◌, ◌-◌, ◌^◌, ◌<◌, ◌≤◌}
use Rattle.std.specs.Prelude.{Option, Some, None}
use mathlib.Core.Path.{◌≡◌, refl, sym, ap, ◌∙◌}
use mathlib.Core.Bool.{Bool, true, false, cond}
use mathlib.Core.List.{List, [], ◌∷◌, ◌++◌, append_assoc, append-nil}
use lib.Dec.{eqb}
use lib.ListN.{length, drop, get_or, length-append, length-drop, drop_of_length-le}
use native.Mathlib.Omega.{arith}
use borrow.Author.Tests.{eqb-true, eq-eqb, ne_eqb}
use Rattle.lines.specs.declared.decimal.Number.{Number}
use Rattle.lines.specs.Decimal.{decimal, Front, some, none, number_front, front_in, number, number_in, number_at}
use Rattle.lines.specs.Field.{space_then, after_space, spaced_front, end_then, at_end, last_front, spaced_at, last_at}
use Rattle.lines.specs.Promise.{Spaced, Last}
use Rattle.lines.proofs.DecimalForm.{Reads, front_decimal, never, front_reads}
use Rattle.lines.proofs.DecimalLaws.{at_cons, number_there}
use Rattle.lines.proofs.NumberLaws.{rest_is, front_at, same_number}
use Rattle.lines.proofs.NumeralLaws.{decimal_numeral, numeral_is}

-- ---- what a reader answered, as the bytes from its index on
pub front_is : (line : List ℕ) {r s : Option Number} {f : Front} → r ≡ s → front_in r line ≡ f → front_in s line ≡ f
front_is line p q = ap (λ (x : Option Number). front_in x line) (sym p) ∙ q

-- ---- the byte behind a number that stands at an index
module _ (line : List ℕ) (at n next : ℕ) {r : Option Number} (p : r ≡ Some (number n next)) (q : r ≡ number_at line at) where
  front : some n (drop next line) ≡ number_front (drop at line)
  front = front_is line p (front_at line at q)

  pub space_there : next < length line → get_or line next 0 ≡ 32 → Some (number n (next + 1)) ≡ spaced_at line at
  unfolding space_then
  space_there h e =
      let taken : space_then n (drop next line) ≡ some n (drop (next + 1) line) = rw (at_cons line next h, eq-eqb _ _ e) in
      number_there line n (next + 1) (omega arith) ∙ ap (number_in line) (sym taken ∙ ap after_space front)

  pub space_other : next < length line → (get_or line next 0 ≡ 32 → ⊥) → None ≡ spaced_at line at
  unfolding space_then
  space_other h e =
      let left : space_then n (drop next line) ≡ none = rw (at_cons line next h, ne_eqb _ _ e) in
      ap (number_in line) (sym left ∙ ap after_space front)

  pub space_end : length line ≤ next → None ≡ spaced_at line at
  unfolding space_then
  space_end h =
      let left : space_then n (drop next line) ≡ none = rw (drop_of_length-le line h) in
      ap (number_in line) (sym left ∙ ap after_space front)

  pub end_there : length line ≤ next → Some (number n next) ≡ last_at line at
  unfolding end_then
  end_there h =
      let taken : end_then n (drop next line) ≡ some n (drop next line) = rw (drop_of_length-le line h) in
      sym p ∙ q ∙ ap (number_in line) (sym front ∙ sym taken ∙ ap at_end front)

  pub end_other : next < length line → None ≡ last_at line at
  unfolding end_then
  end_other h =
      let left : end_then n (drop next line) ≡ none = rw (at_cons line next h) in
      ap (number_in line) (sym left ∙ ap at_end front)

-- ---- a number's decimal form is read
pub spaced_decimal : (n : ℕ) (xs : List ℕ) → n < 2 ^ 64 → spaced_front (decimal n ++ (32 ∷ xs)) ≡ some n xs
unfolding space_then
spaced_decimal n xs f = ap after_space (front_decimal n (32 ∷ xs) f (λ p h k. omega arith))

pub last_decimal : (n : ℕ) → n < 2 ^ 64 → last_front (decimal n) ≡ some n []
unfolding end_then
last_decimal n f = ap last_front (sym (append-nil (decimal n))) ∙ ap at_end (front_decimal n [] f (λ p. tt))

-- ---- and nothing else
space_reads : (m n : ℕ) (zs ys : List ℕ) → space_then m zs ≡ some n ys → (m ≡ n) × (zs ≡ 32 ∷ ys)
unfolding space_then
space_reads m n [] ys p = never n ys p
space_reads m n (x ∷ zs) ys p = go (eqb x 32) refl p
  where
    go : (b : Bool) → eqb x 32 ≡ b → cond b (some m zs) none ≡ some n ys → (m ≡ n) × (x ∷ zs ≡ 32 ∷ ys)
    go true e p =
        let q : m ≡ n = cc in
        let g : zs ≡ ys = cc in
        (q, ap (λ (y : ℕ). y ∷ zs) (eqb-true x 32 e) ∙ ap (λ (y : List ℕ). 32 ∷ y) g)
    go false e p = never n ys p

pub spaced_reads : (xs : List ℕ) (n : ℕ) (ys : List ℕ) → spaced_front xs ≡ some n ys → (xs ≡ decimal n ++ (32 ∷ ys)) × (n < 2 ^ 64)
spaced_reads xs n ys p = go (number_front xs) refl p
  where
    go : (f : Front) → number_front xs ≡ f → after_space f ≡ some n ys → (xs ≡ decimal n ++ (32 ∷ ys)) × (n < 2 ^ 64)
    go none q p = never n ys p
    go (some m zs) q p =
        let r : (m ≡ n) × (zs ≡ 32 ∷ ys) = space_reads m n zs ys p in
        let s : Reads xs n (32 ∷ ys) = front_reads xs n (32 ∷ ys) (q ∙ ap (λ (k : ℕ). some k zs) r.0 ∙ ap (λ (z : List ℕ). some n z) r.1) in
        (s.is, s.fits)

end_reads : (m n : ℕ) (zs ys : List ℕ) → end_then m zs ≡ some n ys → (m ≡ n) × (zs ≡ []) × (ys ≡ [])
unfolding end_then
end_reads m n [] ys p =
    let q : m ≡ n = cc in
    let g : ys ≡ [] = cc in
    (q, refl, g)
end_reads m n (x ∷ zs) ys p = never n ys p

pub last_reads : (xs : List ℕ) (n : ℕ) (ys : List ℕ) → last_front xs ≡ some n ys → (xs ≡ decimal n) × (n < 2 ^ 64) × (ys ≡ [])
last_reads xs n ys p = go (number_front xs) refl p
  where
    go : (f : Front) → number_front xs ≡ f → at_end f ≡ some n ys → (xs ≡ decimal n) × (n < 2 ^ 64) × (ys ≡ [])
    go none q p = never n ys p
    go (some m zs) q p =
        let r : (m ≡ n) × (zs ≡ []) × (ys ≡ []) = end_reads m n zs ys p in
        let s : Reads xs n [] = front_reads xs n [] (q ∙ ap (λ (k : ℕ). some k zs) r.0 ∙ ap (λ (z : List ℕ). some n z) r.1) in
        (s.is ∙ append-nil (decimal n), s.fits, r.2)

-- ---- a field at an index is the one that the bytes from there on begin with
-- what stands behind a field's text, at the index that is answered
behind_space : (line rest : List ℕ) (at n : ℕ) → drop at line ≡ decimal n ++ (32 ∷ rest) → drop (length line - length rest) line ≡ rest
behind_space line rest at n e = rest_is line (decimal n ++ (32 ∷ [])) rest at (e ∙ sym (append_assoc (decimal n) (32 ∷ []) rest))

pub spaced_front_lem : (line : List ℕ) (at : ℕ) {r : Option Number} → r ≡ spaced_at line at → front_in r line ≡ spaced_front (drop at line)
spaced_front_lem line at e = ap (λ (x : Option Number). front_in x line) e ∙ go (spaced_front (drop at line)) refl
  where
    go : (f : Front) → spaced_front (drop at line) ≡ f → front_in (number_in line f) line ≡ f
    go (some n rest) q = ap (some n) (behind_space line rest at n (spaced_reads (drop at line) n rest q).0)
    go none q = refl

pub last_front_lem : (line : List ℕ) (at : ℕ) {r : Option Number} → r ≡ last_at line at → front_in r line ≡ last_front (drop at line)
last_front_lem line at e = ap (λ (x : Option Number). front_in x line) e ∙ go (last_front (drop at line)) refl
  where
    go : (f : Front) → last_front (drop at line) ≡ f → front_in (number_in line f) line ≡ f
    go (some n rest) q =
        let r : (drop at line ≡ decimal n) × (n < 2 ^ 64) × (rest ≡ []) = last_reads (drop at line) n rest q in
        rw r.2 (ap (some n) (drop_of_length-le line {i = length line - 0} (omega arith)))
    go none q = refl

-- ---- in the words of `Promise`
-- the index behind a text and a space
index_behind : (line text rest : List ℕ) (at : ℕ) → drop at line ≡ text ++ (32 ∷ rest) → length line - length rest ≡ at + length text + 1
index_behind line text rest at e = omega (arith, ap length e, length-append text (32 ∷ rest), length-drop at line)

pub spaced_stands : (line : List ℕ) (at n next : ℕ) → Spaced line at n next → spaced_at line at ≡ Some (number n next)
spaced_stands line at n next s =
    let form : s.text ≡ decimal n = numeral_is s.text n s.fits s.numeral in
    ap (number_in line) (ap spaced_front (s.is ∙ ap (λ (x : List ℕ). x ++ (32 ∷ s.rest)) form) ∙ spaced_decimal n s.rest s.fits)
    ∙ ap (λ (k : ℕ). Some (number n k)) (index_behind line s.text s.rest at s.is ∙ sym s.end)

pub stands_spaced : (line : List ℕ) (at n next : ℕ) → spaced_at line at ≡ Some (number n next) → Spaced line at n next
stands_spaced line at n next = go (spaced_front (drop at line)) refl
  where
    go : (f : Front) → spaced_front (drop at line) ≡ f → number_in line f ≡ Some (number n next) → Spaced line at n next
    go none q e = cc
    go (some m rest) q e =
        let same : (m ≡ n) × (length line - length rest ≡ next) = same_number e in
        let r : (drop at line ≡ decimal m ++ (32 ∷ rest)) × (m < 2 ^ 64) = spaced_reads (drop at line) m rest q in
        rw (← same.0)
        (record {
          text = decimal m;
          rest = rest;
          is = r.0;
          numeral = decimal_numeral m r.1;
          fits = r.1;
          end = sym same.1 ∙ index_behind line (decimal m) rest at r.0;
        })

none_behind : (line : List ℕ) → length line - 0 ≡ length line
none_behind line = omega arith

pub last_stands : (line : List ℕ) (at n next : ℕ) → Last line at n next → last_at line at ≡ Some (number n next)
last_stands line at n next s =
    ap (number_in line) (ap last_front (numeral_is (drop at line) n s.fits s.numeral) ∙ last_decimal n s.fits)
    ∙ ap (λ (k : ℕ). Some (number n k)) (none_behind line ∙ sym s.end)

pub stands_last : (line : List ℕ) (at n next : ℕ) → last_at line at ≡ Some (number n next) → Last line at n next
stands_last line at n next = go (last_front (drop at line)) refl
  where
    go : (f : Front) → last_front (drop at line) ≡ f → number_in line f ≡ Some (number n next) → Last line at n next
    go none q e = cc
    go (some m rest) q e =
        let same : (m ≡ n) × (length line - length rest ≡ next) = same_number e in
        let r : (drop at line ≡ decimal m) × (m < 2 ^ 64) × (rest ≡ []) = last_reads (drop at line) m rest q in
        rw (← same.0)
        (record {
          numeral = rw r.0 (decimal_numeral m r.1);
          fits = r.1;
          end = sym same.1 ∙ ap (λ (x : List ℕ). length line - length x) r.2 ∙ none_behind line;
        })
