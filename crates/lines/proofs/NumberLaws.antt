-- A number at an index of a line, as the bytes from there on; and where its numeral stands.
use Prim.Native.Nat.{ℕ, ◌+◌, ◌-◌, ◌^◌, ◌<◌}
use Rattle.std.specs.Prelude.{Option, Some}
use mathlib.Core.Path.{◌≡◌, refl, sym, ap, ◌∙◌}
use mathlib.Core.List.{List, [], ◌∷◌, ◌++◌, append_assoc}
use lib.ListN.{length, take, drop, length-append, length-drop, take-append-drop}
use lib.Seq.{drop_at, length-take-le}
use native.Mathlib.Omega.{arith}
use Rattle.lines.specs.declared.decimal.Number.{Number}
use Rattle.lines.specs.Decimal.{decimal, Front, some, none, number_front, front_in, number, number_in, number_at}
use Rattle.lines.specs.Numeral.{Plain, Numeral}
use Rattle.lines.specs.Promise.{Stops, Stands, Behind, there, no_room}
use Rattle.lines.proofs.DecimalForm.{Reads, front_decimal, front_reads}
use Rattle.lines.proofs.NumeralLaws.{decimal_numeral, numeral_is}

-- what stands behind a text that begins at an index is the line's end
pub rest_is : (line text rest : List ℕ) (at : ℕ) → drop at line ≡ text ++ rest → drop (length line - length rest) line ≡ rest
rest_is line text rest at e =
    let whole : line ≡ (take at line ++ text) ++ rest = sym (take-append-drop at line) ∙ ap (λ (x : List ℕ). take at line ++ x) e ∙ sym (append_assoc (take at line) text rest) in
    let n : length (take at line ++ text) ≡ length line - length rest = omega (arith, ap length whole, length-append (take at line ++ text) rest) in
    ap (drop (length line - length rest)) whole ∙ drop_at (take at line ++ text) rest (length line - length rest) n

-- the number at an index is the one that the bytes from there on begin with
pub front_at : (line : List ℕ) (at : ℕ) {r : Option Number} → r ≡ number_at line at → front_in r line ≡ number_front (drop at line)
front_at line at e = ap (λ (x : Option Number). front_in x line) e ∙ go (number_front (drop at line)) refl
  where
    go : (f : Front) → number_front (drop at line) ≡ f → front_in (number_in line f) line ≡ f
    go (some n rest) q = ap (some n) (rest_is line (decimal n) rest at (front_reads (drop at line) n rest q).is)
    go none q = refl

pub same_number : {m n i j : ℕ} → Some (number m i) ≡ Some (number n j) → (m ≡ n) × (i ≡ j)
same_number {m} {n} {i} {j} e =
    let same : number m i ≡ number n j = cc in
    (ap (λ (x : Number). x.n) same, ap (λ (x : Number). x.next) same)

plain_some : (xs : List ℕ) → Plain xs → 0 < length xs
plain_some [] p = absurd p
plain_some (x ∷ xs) p = omega arith

-- the index behind a text that is not empty
behind : (line text rest : List ℕ) (at : ℕ) → drop at line ≡ text ++ rest → 0 < length text → length line - length rest ≡ at + length text
behind line text rest at e p = omega (arith, ap length e, length-append text rest, length-drop at line)

pub stands_number : (line : List ℕ) (at n next : ℕ) → Stands line at n next → number_at line at ≡ Some (number n next)
stands_number line at n next s =
    let form : s.text ≡ decimal n = numeral_is s.text n s.fits s.numeral in
    ap (number_in line)
    (ap number_front s.is ∙ ap (λ (x : List ℕ). number_front (x ++ s.rest)) form ∙ front_decimal n s.rest s.fits s.stops)
    ∙ ap (λ (k : ℕ). Some (number n k)) (behind line s.text s.rest at s.is (plain_some s.text s.numeral.plain) ∙ sym s.end)

pub number_stands : (line : List ℕ) (at n next : ℕ) → number_at line at ≡ Some (number n next) → Stands line at n next
number_stands line at n next = go (number_front (drop at line)) refl
  where
    go : (f : Front) → number_front (drop at line) ≡ f → number_in line f ≡ Some (number n next) → Stands line at n next
    go none q e = cc
    go (some m rest) q e =
        let same : (m ≡ n) × (length line - length rest ≡ next) = same_number e in
        let r : Reads (drop at line) m rest = front_reads (drop at line) m rest q in
        let text : Numeral (decimal m) m = decimal_numeral m r.fits in
        rw (← same.0)
        (record {
          text = decimal m;
          rest = rest;
          is = r.is;
          numeral = text;
          fits = r.fits;
          stops = r.stops;
          end = sym same.1 ∙ behind line (decimal m) rest at r.is (plain_some (decimal m) text.plain);
        })

-- a numeral that was printed stands where it was printed
pub printed_stands : {before text after : List ℕ} {at z : ℕ} (n : ℕ) → Behind before at text (length text) z after → at < z → Numeral text n → n < 2 ^ 64 → Stops (drop z after) → Stands after at n z
printed_stands n (no_room h) l d f s = absurd (omega arith)
printed_stands {before} {text} {after} {at} {z} n (there h) l d f s =
    let first : length (take at before) ≡ at = length-take-le at before (omega arith) in
    let both : length (take at before ++ text) ≡ at + length text = length-append (take at before) text ∙ ap (λ (k : ℕ). k + length text) first in
    let rest : drop (at + length text) ((take at before ++ text) ++ drop (at + length text) before) ≡ drop (at + length text) before = drop_at (take at before ++ text) (drop (at + length text) before) (at + length text) both in
    record {
      text = text;
      rest = drop (at + length text) before;
      is = ap (drop at) (append_assoc (take at before) text (drop (at + length text) before)) ∙ drop_at (take at before) (text ++ drop (at + length text) before) at first;
      numeral = d;
      fits = f;
      stops = λ p. rw rest at s;
      end = refl;
    }
