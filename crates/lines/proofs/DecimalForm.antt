-- A number is read from its decimal form, and from nothing else.
use Prim.Native.Nat.{ℕ, zero, suc, ◌+◌, ◌-◌, ◌*◌, ◌/◌, ◌%◌, ◌^◌, ◌<◌, ◌≤◌}
use mathlib.Core.Path.{◌≡◌, refl, sym, ap, ◌∙◌}
use mathlib.Core.Bool.{Bool, true, false, cond}
use mathlib.Core.List.{List, [], ◌∷◌, ◌++◌, append_assoc}
use lib.Dec.{ltb, eqb}
use native.Mathlib.Nat.{div-add-mod', mod-lt}
use native.Mathlib.Omega.{arith}
use borrow.Author.Tests.{ltb-true, lt-ltb, eqb-true, ne_eqb, eqb-false}
use Rattle.std.proofs.lemmas.Fmt.{decimal_by_steps}
use Rattle.lines.specs.Decimal.{decimal, some, none, is_digit, digits_on, number_front}
use Rattle.lines.specs.Promise.{Stops}
use Rattle.lines.proofs.DecimalLaws.{is_digit_lem, digit_bounds, no_digit, digit_none, printed_decimal, decimal_one, decimal_more}

-- ---- reading on, byte by byte
pub on_digit : (v x : ℕ) (xs : List ℕ) → 48 ≤ x → x ≤ 57 → v * 10 + (x - 48) < 2 ^ 64 → digits_on v (x ∷ xs) ≡ digits_on (v * 10 + (x - 48)) xs
unfolding digits_on
on_digit v x xs p q k = rw (is_digit_lem x p q, lt-ltb _ _ k)

pub front_first : (x : ℕ) (xs : List ℕ) → 48 < x → x ≤ 57 → number_front (x ∷ xs) ≡ digits_on (x - 48) xs
unfolding number_front
front_first x xs p q = rw (ne_eqb x 48 (λ z. omega arith), is_digit_lem x (omega arith) q)

-- ---- from the decimal form
-- the digits of a number that is not 0, and whatever stands behind them
abbrev Front_is : ℕ → List ℕ → Type 0
Front_is n digits = 0 < n → n < 2 ^ 64 → (xs : List ℕ) → number_front (digits ++ xs) ≡ digits_on n xs

front_one : (n : ℕ) → n < 10 → Front_is n ((48 + n) ∷ [])
front_one n small p f xs = front_first (48 + n) xs (omega arith) (omega arith) ∙ ap (λ (v : ℕ). digits_on v xs) (omega arith)

front_more : (n : ℕ) (digits : List ℕ) → 10 ≤ n → Front_is (n / 10) digits → Front_is n (digits ++ ((48 + n % 10) ∷ []))
front_more n digits large r p f xs =
    let m : n % 10 < 10 = mod-lt n (omega arith) in
    ap number_front (append_assoc digits ((48 + n % 10) ∷ []) xs)
    ∙ r (omega (arith, div-add-mod' n 10)) (omega (arith, div-add-mod' n 10)) ((48 + n % 10) ∷ xs)
    ∙ on_digit (n / 10) (48 + n % 10) xs (omega arith) (omega arith) (omega (arith, div-add-mod' n 10))
    ∙ ap (λ (v : ℕ). digits_on v xs) (omega (arith, div-add-mod' n 10))

front_positive : (n : ℕ) → n < 2 ^ 64 → Front_is n (decimal n)
front_positive n f = rw (← printed_decimal n (omega arith)) (decimal_by_steps Front_is front_one front_more n f)

front_nothing : (xs : List ℕ) → number_front (decimal 0 ++ xs) ≡ some 0 xs
unfolding number_front
front_nothing xs = ap (λ (ys : List ℕ). number_front (ys ++ xs)) (decimal_one 0 (omega arith))

stops_here : (xs : List ℕ) (v : ℕ) → Stops xs → digits_on v xs ≡ some v xs
unfolding digits_on
stops_here [] v s = refl
stops_here (x ∷ xs) v s = rw (no_digit x s)

-- a number's decimal form is read as the number, where no digit stands behind it; `0` also where one does
pub front_decimal : (n : ℕ) (xs : List ℕ) → n < 2 ^ 64 → (0 < n → Stops xs) → number_front (decimal n ++ xs) ≡ some n xs
front_decimal zero xs f stop = front_nothing xs
front_decimal (suc n) xs f stop = front_positive (suc n) f (omega arith) f xs ∙ stops_here xs (suc n) (stop (omega arith))

-- ---- from nothing else
snoc_decimal : (v x : ℕ) → 0 < v → is_digit x ≡ true → v * 10 + (x - 48) < 2 ^ 64 → decimal (v * 10 + (x - 48)) ≡ decimal v ++ (x ∷ [])
snoc_decimal v x p q f =
    let b : (48 ≤ x) × (x ≤ 57) = digit_bounds x q in
    let m : (v * 10 + (x - 48)) % 10 < 10 = mod-lt (v * 10 + (x - 48)) (omega arith) in
    let e : (v * 10 + (x - 48)) / 10 ≡ v = omega (arith, div-add-mod' (v * 10 + (x - 48)) 10) in
    let g : 48 + (v * 10 + (x - 48)) % 10 ≡ x = omega (arith, div-add-mod' (v * 10 + (x - 48)) 10) in
    decimal_more (v * 10 + (x - 48)) (omega arith) (omega arith)
    ∙ ap (λ (w : ℕ). decimal w ++ ((48 + (v * 10 + (x - 48)) % 10) ∷ [])) e
    ∙ ap (λ (w : ℕ). decimal v ++ (w ∷ [])) g

pub record Reads (xs : List ℕ) (n : ℕ) (rest : List ℕ) : Type 0 where
  pub is : xs ≡ decimal n ++ rest
  pub fits : n < 2 ^ 64
  pub stops : 0 < n → Stops rest

same : {xs : List ℕ} (v n : ℕ) (ys rest : List ℕ) → some v ys ≡ some n rest → v < 2 ^ 64 → (0 < v → Stops ys) → xs ≡ decimal v ++ ys → Reads xs n rest
same v n ys rest p f s q =
    let e : v ≡ n = cc in
    let g : ys ≡ rest = cc in
    rw (← e, ← g) (record { is = q; fits = f; stops = s })

pub never : {A : Type 0} (n : ℕ) (rest : List ℕ) → none ≡ some n rest → A
never n rest p = cc

on_decimal : (v : ℕ) (xs : List ℕ) (n : ℕ) (rest : List ℕ) → 0 < v → v < 2 ^ 64 → digits_on v xs ≡ some n rest → Reads (decimal v ++ xs) n rest
unfolding digits_on
on_decimal v [] n rest p f q = same v n [] rest q f (λ z. tt) refl
on_decimal v (x ∷ xs) n rest p f q =
    go (is_digit x) refl (ltb (v * 10 + (x - 48)) (2 ^ 64)) refl (λ p' f' q'. on_decimal (v * 10 + (x - 48)) xs n rest p' f' q') q
  where
    go : (d : Bool) → is_digit x ≡ d → (t : Bool) → ltb (v * 10 + (x - 48)) (2 ^ 64) ≡ t →
        (0 < v * 10 + (x - 48) → v * 10 + (x - 48) < 2 ^ 64 → digits_on (v * 10 + (x - 48)) xs ≡ some n rest → Reads (decimal (v * 10 + (x - 48)) ++ xs) n rest) →
        cond d (cond t (digits_on (v * 10 + (x - 48)) xs) none) (some v (x ∷ xs)) ≡ some n rest → Reads (decimal v ++ (x ∷ xs)) n rest
    go true e true g ih q =
        let k : v * 10 + (x - 48) < 2 ^ 64 = ltb-true _ _ g in
        let r : Reads (decimal (v * 10 + (x - 48)) ++ xs) n rest = ih (omega arith) k q in
        record {
          is = sym (append_assoc (decimal v) (x ∷ []) xs) ∙ ap (λ (ys : List ℕ). ys ++ xs) (sym (snoc_decimal v x p e k)) ∙ r.is;
          fits = r.fits;
          stops = r.stops;
        }
    go true e false g ih q = never n rest q
    go false e t g ih q = same v n (x ∷ xs) rest q f (λ z. digit_none x e) refl

-- what is read as a number is its decimal form
pub front_reads : (xs : List ℕ) (n : ℕ) (rest : List ℕ) → number_front xs ≡ some n rest → Reads xs n rest
unfolding number_front
front_reads [] n rest q = never n rest q
front_reads (x ∷ xs) n rest q = go (eqb x 48) refl (is_digit x) refl q
  where
    go : (z : Bool) → eqb x 48 ≡ z → (d : Bool) → is_digit x ≡ d →
        cond z (some 0 xs) (cond d (digits_on (x - 48) xs) none) ≡ some n rest → Reads (x ∷ xs) n rest
    go true e d g q = same 0 n xs rest q (omega arith) (λ z. absurd (omega arith)) (ap (λ (y : ℕ). y ∷ xs) (eqb-true x 48 e) ∙ ap (λ (ys : List ℕ). ys ++ xs) (sym (decimal_one 0 (omega arith))))
    go false e true g q =
        let b : (48 ≤ x) × (x ≤ 57) = digit_bounds x g in
        let r : Reads (decimal (x - 48) ++ xs) n rest = on_decimal (x - 48) xs n rest (omega (arith, eqb-false x 48 e)) (omega arith) q in
        let h : 48 + (x - 48) ≡ x = omega arith in
        record {
          is = ap (λ (y : ℕ). y ∷ xs) (sym h) ∙ ap (λ (ys : List ℕ). ys ++ xs) (sym (decimal_one (x - 48) (omega arith))) ∙ r.is;
          fits = r.fits;
          stops = r.stops;
        }
    go false e false g q = never n rest q
