-- Laws of the decimal form and of the number that bytes begin with.
use Prim.Native.Nat.{ℕ, zero, suc, ◌+◌, ◌-◌, ◌*◌, ◌/◌, ◌%◌, ◌^◌, ◌<◌, ◌≤◌}
use Rattle.std.specs.Prelude.{Some}
use mathlib.Core.Path.{◌≡◌, refl, sym, ap, ◌∙◌}
use mathlib.Core.Bool.{Bool, true, false, cond}
use mathlib.Core.Logic.{⊎_elim}
use mathlib.Core.List.{List, [], ◌∷◌, ◌++◌}
use lib.Dec.{leb}
use lib.ListN.{length, drop, get_or, length-append, length-drop, drop_of_length-le}
use lib.Seq.{drop-cons}
use native.Mathlib.Nat.{div-add-mod'}
use native.Mathlib.Numerals.{add-one}
use native.Mathlib.Omega.{arith}
use borrow.Author.Tests.{leb-true, lt-ltb, le-ltb, le-leb, eq-eqb, ne_eqb}
use Rattle.std.proofs.lemmas.Fmt.{AppendsLastDigit, decimal_from_appends_wide, decimal_step_wide, length-decimal-le_wide}
use Rattle.std.specs.Fmt as printed
use Rattle.modular.proofs.Laws.{lt_or_le}
use Rattle.lines.specs.Decimal.{digits_by, decimal, some, none, is_digit, digits_on, number_front, number, number_in}

-- ---- digits
pub is_digit_lem : (x : ℕ) → 48 ≤ x → x ≤ 57 → is_digit x ≡ true
unfolding is_digit
is_digit_lem x h k = rw (le-leb _ _ h, le-leb _ _ k)

pub digit_bounds : (x : ℕ) → is_digit x ≡ true → (48 ≤ x) × (x ≤ 57)
unfolding is_digit
digit_bounds x p = go (leb 48 x) refl (leb x 57) refl p
  where
    go : (a : Bool) → leb 48 x ≡ a → (b : Bool) → leb x 57 ≡ b → cond a b false ≡ true → (48 ≤ x) × (x ≤ 57)
    go true q b r p = (leb-true 48 x q, leb-true x 57 (r ∙ p))
    go false q b r p = cc

pub no_digit : (x : ℕ) → (48 ≤ x → x ≤ 57 → ⊥) → is_digit x ≡ false
no_digit x n = go (is_digit x) refl
  where
    go : (b : Bool) → is_digit x ≡ b → b ≡ false
    go true e = let b : (48 ≤ x) × (x ≤ 57) = digit_bounds x e in absurd (n b.0 b.1)
    go false e = refl

pub digit_none : (x : ℕ) → is_digit x ≡ false → 48 ≤ x → x ≤ 57 → ⊥
digit_none x e h k = let f : is_digit x ≡ true = is_digit_lem x h k in cc

-- ---- the decimal form
digits_one : (k n : ℕ) → n < 10 → digits_by (suc k) n ≡ (48 + n) ∷ []
unfolding digits_by
digits_one k n h = rw (lt-ltb n 10 h)

digits_more : (k n : ℕ) → 10 ≤ n → digits_by (suc k) n ≡ digits_by k (n / 10) ++ ((48 + n % 10) ∷ [])
unfolding digits_by
digits_more k n h = rw (le-ltb n 10 h)

digits_none : (n : ℕ) → length (digits_by zero n) ≤ zero
unfolding digits_by
digits_none n = omega arith

appends : AppendsLastDigit digits_by
appends = record { one = digits_one; more = digits_more }

-- it is what the library prints
pub printed_decimal : (n : ℕ) → n < 10 ^ 20 → printed.decimal n ≡ decimal n
unfolding decimal
printed_decimal n h = sym (decimal_from_appends_wide digits_by appends 20 n (omega arith) (length-decimal-le_wide 20 n (omega arith) h (omega arith)))

pub decimal_one : (n : ℕ) → n < 10 → decimal n ≡ (48 + n) ∷ []
unfolding decimal
decimal_one n h = digits_one 19 n h

pub decimal_more : (n : ℕ) → 10 ≤ n → n < 10 ^ 20 → decimal n ≡ decimal (n / 10) ++ ((48 + n % 10) ∷ [])
decimal_more n h k =
    sym (printed_decimal n k)
    ∙ decimal_step_wide n h (omega arith)
    ∙ ap (λ (xs : List ℕ). xs ++ ((48 + n % 10) ∷ [])) (printed_decimal (n / 10) (omega (arith, div-add-mod' n 10)))

digits_short : (k n : ℕ) → length (digits_by k n) ≤ k
digits_short zero n = digits_none n
digits_short (suc k) n =
    ⊎_elim
    (λ small. omega (arith, ap length (digits_one k n small)))
    (λ large. omega (arith, ap length (digits_more k n large), length-append (digits_by k (n / 10)) ((48 + n % 10) ∷ []), digits_short k (n / 10)))
    (lt_or_le n 10)

pub decimal_short : (n : ℕ) → length (decimal n) ≤ 20
unfolding decimal
decimal_short n = digits_short 20 n

-- ---- the number that bytes begin with
pub at_cons : (xs : List ℕ) (i : ℕ) → i < length xs → drop i xs ≡ get_or xs i 0 ∷ drop (i + 1) xs
at_cons xs i h = rw (add-one, drop-cons xs i 0)

module _ (xs : List ℕ) (i v : ℕ) where
  pub digits_end : length xs ≤ i → digits_on v (drop i xs) ≡ some v (drop i xs)
  unfolding digits_on
  digits_end h = rw (drop_of_length-le xs h)

  pub digits_stop : i < length xs → (48 ≤ get_or xs i 0 → get_or xs i 0 ≤ 57 → ⊥) → digits_on v (drop i xs) ≡ some v (drop i xs)
  unfolding digits_on
  digits_stop h n = rw (at_cons xs i h, no_digit _ n)

  pub digits_full : i < length xs → 48 ≤ get_or xs i 0 → get_or xs i 0 ≤ 57 → 2 ^ 64 ≤ v * 10 + (get_or xs i 0 - 48) → digits_on v (drop i xs) ≡ none
  unfolding digits_on
  digits_full h p q g = rw (at_cons xs i h, is_digit_lem _ p q, le-ltb _ _ g)

  pub digits_next : i < length xs → 48 ≤ get_or xs i 0 → get_or xs i 0 ≤ 57 → v * 10 + (get_or xs i 0 - 48) < 2 ^ 64 → digits_on v (drop i xs) ≡ digits_on (v * 10 + (get_or xs i 0 - 48)) (drop (i + 1) xs)
  unfolding digits_on
  digits_next h p q g = rw (at_cons xs i h, is_digit_lem _ p q, lt-ltb _ _ g)

module _ (xs : List ℕ) (i : ℕ) where
  pub front_end : length xs ≤ i → number_front (drop i xs) ≡ none
  unfolding number_front
  front_end h = rw (drop_of_length-le xs h)

  pub front_zero : i < length xs → get_or xs i 0 ≡ 48 → number_front (drop i xs) ≡ some 0 (drop (i + 1) xs)
  unfolding number_front
  front_zero h e = rw (at_cons xs i h, eq-eqb _ _ e)

  pub front_digit : i < length xs → 49 ≤ get_or xs i 0 → get_or xs i 0 ≤ 57 → number_front (drop i xs) ≡ digits_on 0 (drop i xs)
  unfolding number_front
  front_digit h p q =
      let first : digits_on 0 (drop i xs) ≡ digits_on (get_or xs i 0 - 48) (drop (i + 1) xs) = digits_next xs i 0 h (omega arith) q (omega arith) ∙ ap (λ (v : ℕ). digits_on v (drop (i + 1) xs)) (omega arith) in
      rw (first, at_cons xs i h, ne_eqb (get_or xs i 0) 48 (λ z. omega arith), is_digit_lem _ (omega arith) q)

  pub front_other : i < length xs → (48 ≤ get_or xs i 0 → get_or xs i 0 ≤ 57 → ⊥) → number_front (drop i xs) ≡ none
  unfolding number_front
  front_other h n = rw (at_cons xs i h, ne_eqb (get_or xs i 0) 48 (λ z. n (omega arith) (omega arith)), no_digit _ n)

-- ---- at an index of a line
pub number_there : (line : List ℕ) (v i : ℕ) → i ≤ length line → Some (number v i) ≡ number_in line (some v (drop i line))
number_there line v i h =
    let e : length line - length (drop i line) ≡ i = omega (arith, length-drop i line) in
    ap (λ (k : ℕ). Some (number v k)) (sym e)
