-- A number's decimal form is its numeral, and no other list of bytes is.
use Prim.Native.Nat.{ℕ, zero, suc, ◌+◌, ◌-◌, ◌*◌, ◌/◌, ◌%◌, ◌^◌, ◌<◌, ◌≤◌}
use mathlib.Core.Path.{◌≡◌, refl, sym, ap, ◌∙◌}
use mathlib.Core.List.{List, [], ◌∷◌, ◌++◌, append-nil}
use mathlib.Core.Logic.{⊎_elim}
use native.Mathlib.Nat.{div-add-mod', mod-lt}
use native.Mathlib.Omega.{arith}
use Rattle.std.proofs.lemmas.Fmt.{decimal_by_steps}
use Rattle.modular.proofs.Laws.{lt_or_le}
use Rattle.lines.specs.Decimal.{decimal, some, digits_on, number_front}
use Rattle.lines.specs.Numeral.{worth, Digits, Plain, Numeral}
use Rattle.lines.proofs.DecimalForm.{on_digit, front_first, front_reads}
use Rattle.lines.proofs.DecimalLaws.{printed_decimal, decimal_one}

-- ---- one digit more
worth_last : (xs : List ℕ) (v x : ℕ) → worth v (xs ++ (x ∷ [])) ≡ worth v xs * 10 + (x - 48)
unfolding worth
worth_last [] v x = refl
worth_last (y ∷ xs) v x = worth_last xs (v * 10 + (y - 48)) x

digits_last : (xs : List ℕ) (x : ℕ) → Digits xs → 48 ≤ x → x ≤ 57 → Digits (xs ++ (x ∷ []))
digits_last [] x d p q = ((p, q), tt)
digits_last (y ∷ xs) x d p q = (d.0, digits_last xs x d.1 p q)

-- the first digit is not 0
abbrev First : List ℕ → Type 0
First [] = ⊥
First (x ∷ xs) = 48 < x

first_last : (xs : List ℕ) (x : ℕ) → First xs → First (xs ++ (x ∷ []))
first_last [] x f = absurd f
first_last (y ∷ xs) x f = f

first_plain : (xs : List ℕ) → First xs → Plain xs
first_plain [] f = f
first_plain (x ∷ []) f = tt
first_plain (x ∷ (y ∷ xs)) f = f

-- ---- the decimal form
record Form (n : ℕ) (xs : List ℕ) : Type 0 where
  digits : Digits xs
  first : 0 < n → First xs
  is : worth 0 xs ≡ n

one_form : (n : ℕ) → n < 10 → Form n ((48 + n) ∷ [])
unfolding worth
one_form n h = record { digits = ((omega arith, omega arith), tt); first = λ p. omega arith; is = omega arith }

more_form : (n : ℕ) (xs : List ℕ) → 10 ≤ n → Form (n / 10) xs → Form n (xs ++ ((48 + n % 10) ∷ []))
more_form n xs h f =
    let d : n % 10 < 10 = mod-lt n (omega arith) in
    record {
      digits = digits_last xs (48 + n % 10) f.digits (omega arith) (omega arith);
      first = λ p. first_last xs (48 + n % 10) (f.first (omega (arith, div-add-mod' n 10)));
      is = worth_last xs 0 (48 + n % 10) ∙ omega (arith, f.is, div-add-mod' n 10);
    }

form : (n : ℕ) → n < 2 ^ 64 → Form n (decimal n)
form n l = rw (← printed_decimal n (omega arith)) (decimal_by_steps Form one_form more_form n l)

zero_plain : Plain (decimal 0)
zero_plain = rw (decimal_one 0 (omega arith)) tt

pub decimal_numeral : (n : ℕ) → n < 2 ^ 64 → Numeral (decimal n) n
decimal_numeral zero l = let f : Form zero (decimal zero) = form zero l in record { digits = f.digits; plain = zero_plain; is = f.is }
decimal_numeral (suc n) l = let f : Form (suc n) (decimal (suc n)) = form (suc n) l in record { digits = f.digits; plain = first_plain (decimal (suc n)) (f.first (omega arith)); is = f.is }

-- ---- and no other
worth_most : (xs : List ℕ) (v : ℕ) → v ≤ worth v xs
unfolding worth
worth_most [] v = omega arith
worth_most (x ∷ xs) v = omega (arith, worth_most xs (v * 10 + (x - 48)))

reads_all : (xs : List ℕ) (v : ℕ) → Digits xs → worth v xs < 2 ^ 64 → digits_on v xs ≡ some (worth v xs) []
unfolding digits_on worth
reads_all [] v d l = refl
reads_all (x ∷ xs) v d l =
    let b : v * 10 + (x - 48) < 2 ^ 64 = omega (arith, worth_most xs (v * 10 + (x - 48))) in
    on_digit v x xs d.0.0 d.0.1 b ∙ reads_all xs (v * 10 + (x - 48)) d.1 l

reads_zero : number_front (48 ∷ []) ≡ some 0 []
unfolding number_front
reads_zero = refl

worth_first : (x : ℕ) (xs : List ℕ) → worth 0 (x ∷ xs) ≡ worth (x - 48) xs
unfolding worth
worth_first x xs = let e : 0 * 10 + (x - 48) ≡ x - 48 = omega arith in ap (λ (v : ℕ). worth v xs) e

reads_first : (x : ℕ) (xs : List ℕ) → 48 < x → Digits (x ∷ xs) → worth 0 (x ∷ xs) < 2 ^ 64 → number_front (x ∷ xs) ≡ some (worth 0 (x ∷ xs)) []
reads_first x xs p d l =
    front_first x xs p d.0.1 ∙ reads_all xs (x - 48) d.1 (rw (worth_first x xs) at l)
    ∙ ap (λ (k : ℕ). some k []) (sym (worth_first x xs))

reads : (xs : List ℕ) → Digits xs → Plain xs → worth 0 xs < 2 ^ 64 → number_front xs ≡ some (worth 0 xs) []
unfolding worth
reads [] d p l = absurd p
reads (x ∷ []) d p l = ⊎_elim (λ q. reads_first x [] q d l) (λ q. let e : x ≡ 48 = omega (arith, d.0.0) in rw e reads_zero) (lt_or_le 48 x)
reads (x ∷ (y ∷ xs)) d p l = reads_first x (y ∷ xs) p d l

pub numeral_is : (xs : List ℕ) (n : ℕ) → n < 2 ^ 64 → Numeral xs n → xs ≡ decimal n
numeral_is xs n l h =
    let e : number_front xs ≡ some n [] = reads xs h.digits h.plain (rw h.is l) ∙ ap (λ (k : ℕ). some k []) h.is in
    (front_reads xs n [] e).is ∙ append-nil (decimal n)
