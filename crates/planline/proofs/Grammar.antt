-- The lines that ask the scheduler are the well-formed ones: each is read as what it asks, and nothing else is read.
use Prim.Native.Nat.{ℕ, ◌<◌, ◌≤◌, ◌^◌}
use mathlib.Core.Path.{◌≡◌, refl, sym, ap, ◌∙◌}
use mathlib.Core.Bool.{Bool, true, false, cond}
use mathlib.Core.List.{List, [], ◌∷◌, ◌++◌}
use lib.Dec.{eqb}
use lib.ListN.{length, drop, length-append}
use native.Mathlib.Omega.{arith}
use borrow.Author.Tests.{eqb-true}
use Rattle.lines.specs.Decimal.{decimal, Front, some, none}
use Rattle.lines.specs.Field.{spaced_front, last_front}
use Rattle.lines.proofs.DecimalLaws.{decimal_short}
use Rattle.lines.proofs.FieldLaws.{spaced_decimal, last_decimal, spaced_reads, last_reads}
use Rattle.operations.specs.declared.operation.OperationType.{OperationType}
use Rattle.operations.specs.declared.operation.OperationType.TheVariants.{Read, Write}
use Rattle.planline.specs.declared.ring.Asked.{Asked}
use Rattle.std.specs.Prelude.{Option, Some, None}
use Rattle.std.proofs.Common.{Err}
use Rattle.planline.specs.declared.plan.PlanError.TheVariants.{Bad}
use Rattle.planline.specs.declared.plan.Question.TheVariants as question
use Rattle.planline.specs.Grammar.{Fits, WellFormed}
use Rattle.planline.specs.Ring.{letter_of, line_of, kind_of, kind_front, asked_of, with_amount, with_read, with_written, with_length, parse_of, plan_for, plan_from}
use Rattle.planline.specs.Plan.{plan_of}
use Rattle.planline.proofs.PlanLaws.{plan_short, plan_bad}

-- ---- every well-formed line is read
kind_letter : (t : OperationType) (xs : List ℕ) → kind_front (letter_of t ∷ (32 ∷ xs)) ≡ Some t
unfolding kind_front kind_of
kind_letter Read xs = refl
kind_letter Write xs = refl

pub accepts : (a : Asked) → Fits a → parse_of (line_of a) ≡ Some a
unfolding parse_of line_of
accepts a f =
    ap with_length (spaced_decimal a.buf_len _ f.buf)
    ∙ ap (with_written a.buf_len) (spaced_decimal a.written _ f.written)
    ∙ ap (with_read a.buf_len a.written) (spaced_decimal a.read _ f.read)
    ∙ ap (λ (k : Option OperationType). with_amount a.buf_len a.written a.read k (last_front (decimal a.max_len))) (kind_letter a.typ (decimal a.max_len))
    ∙ ap (with_amount a.buf_len a.written a.read (Some a.typ)) (last_decimal a.max_len f.max)

-- ---- and nothing else
bad : {A : Type 0} (a : Asked) → None ≡ Some a → A
bad a p = absurd (let z : ◌≡◌ {A = ℕ} 0 1 = cc in omega arith)

letter_reads : (x : ℕ) (t : OperationType) → kind_of x ≡ Some t → x ≡ letter_of t
unfolding kind_of
letter_reads x t p = go (eqb x 82) refl (eqb x 87) refl p
  where
    go : (a : Bool) → eqb x 82 ≡ a → (b : Bool) → eqb x 87 ≡ b → cond a (Some Read) (cond b (Some Write) None) ≡ Some t → x ≡ letter_of t
    go true e b g p = let q : Read ≡ t = cc in eqb-true x 82 e ∙ ap letter_of q
    go false e true g p = let q : Write ≡ t = cc in eqb-true x 87 g ∙ ap letter_of q
    go false e false g p = absurd (let z : ◌≡◌ {A = ℕ} 0 1 = cc in omega arith)

kind_reads : (xs : List ℕ) (t : OperationType) → kind_front xs ≡ Some t → xs ≡ letter_of t ∷ (32 ∷ drop 2 xs)
unfolding kind_front
kind_reads [] t p = absurd (let z : ◌≡◌ {A = ℕ} 0 1 = cc in omega arith)
kind_reads (x ∷ []) t p = absurd (let z : ◌≡◌ {A = ℕ} 0 1 = cc in omega arith)
kind_reads (x ∷ (y ∷ xs)) t p = go (eqb y 32) refl p
  where
    go : (b : Bool) → eqb y 32 ≡ b → cond b (kind_of x) None ≡ Some t → x ∷ (y ∷ xs) ≡ letter_of t ∷ (32 ∷ xs)
    go true e p = ap (λ (z : ℕ). z ∷ (y ∷ xs)) (letter_reads x t p) ∙ ap (λ (z : ℕ). letter_of t ∷ (z ∷ xs)) (eqb-true y 32 e)
    go false e p = absurd (let z : ◌≡◌ {A = ℕ} 0 1 = cc in omega arith)

module _ (xs : List ℕ) (a : Asked) where
  module _ (l w r : ℕ) (ys zs vs : List ℕ) (p : (xs ≡ decimal l ++ (32 ∷ ys)) × (l < 2 ^ 64)) (q : (ys ≡ decimal w ++ (32 ∷ zs)) × (w < 2 ^ 64)) (s : (zs ≡ decimal r ++ (32 ∷ vs)) × (r < 2 ^ 64)) where
    after_read : (k : Option OperationType) → kind_front vs ≡ k → (f : Front) → last_front (drop 2 vs) ≡ f → with_amount l w r k f ≡ Some a → WellFormed xs a
    unfolding line_of
    after_read None e f g h = bad a h
    after_read (Some t) e none g h = bad a h
    after_read (Some t) e (some m us) g h =
        let c : asked_of l w r t m ≡ a = cc in
        let d : (drop 2 vs ≡ decimal m) × (m < 2 ^ 64) × (us ≡ []) = last_reads (drop 2 vs) m us g in
        let v : vs ≡ letter_of t ∷ (32 ∷ decimal m) = kind_reads vs t e ∙ ap (λ (x : List ℕ). letter_of t ∷ (32 ∷ x)) d.0 in
        rw (← c)
        (record {
          is =
              p.0
              ∙ ap (λ (x : List ℕ). decimal l ++ (32 ∷ x))
              (q.0 ∙ ap (λ (x : List ℕ). decimal w ++ (32 ∷ x)) (s.0 ∙ ap (λ (x : List ℕ). decimal r ++ (32 ∷ x)) v));
          fits = record { buf = p.1; written = q.1; read = s.1; max = d.1 };
        })

  module _ (l w : ℕ) (ys zs : List ℕ) (p : (xs ≡ decimal l ++ (32 ∷ ys)) × (l < 2 ^ 64)) (q : (ys ≡ decimal w ++ (32 ∷ zs)) × (w < 2 ^ 64)) where
    after_written : (f : Front) → spaced_front zs ≡ f → with_read l w f ≡ Some a → WellFormed xs a
    after_written none e h = bad a h
    after_written (some r vs) e h = after_read l w r ys zs vs p q (spaced_reads zs r vs e) (kind_front vs) refl (last_front (drop 2 vs)) refl h

  module _ (l : ℕ) (ys : List ℕ) (p : (xs ≡ decimal l ++ (32 ∷ ys)) × (l < 2 ^ 64)) where
    after_length : (f : Front) → spaced_front ys ≡ f → with_written l f ≡ Some a → WellFormed xs a
    after_length none e h = bad a h
    after_length (some w zs) e h = after_written l w ys zs p (spaced_reads ys w zs e) (spaced_front zs) refl h

  pub accepted : parse_of xs ≡ Some a → WellFormed xs a
  unfolding parse_of
  accepted h = go (spaced_front xs) refl h
    where
      go : (f : Front) → spaced_front xs ≡ f → with_length f ≡ Some a → WellFormed xs a
      go none e h = bad a h
      go (some l ys) e h = after_length l ys (spaced_reads xs l ys e) (spaced_front ys) refl h

-- ---- so the answer is that of what is asked, and bad for every other line
line_short : (a : Asked) → length (line_of a) ≤ 120
unfolding line_of
line_short a =
    omega (
      arith,
      length-append (decimal a.buf_len) (32 ∷ (decimal a.written ++ (32 ∷ (decimal a.read ++ (32 ∷ (letter_of a.typ ∷ (32 ∷ decimal a.max_len))))))),
      length-append (decimal a.written) (32 ∷ (decimal a.read ++ (32 ∷ (letter_of a.typ ∷ (32 ∷ decimal a.max_len))))),
      length-append (decimal a.read) (32 ∷ (letter_of a.typ ∷ (32 ∷ decimal a.max_len))),
      decimal_short a.buf_len,
      decimal_short a.written,
      decimal_short a.read,
      decimal_short a.max_len,
    )

pub planned : (a : Asked) → Fits a → plan_of question.Ring (line_of a) ≡ plan_for a
planned a f = sym (plan_short question.Ring (line_of a) (line_short a)) ∙ ap plan_from (accepts a f)

pub bad_else : (xs : List ℕ) → ((a : Asked) → WellFormed xs a → ⊥) → plan_of question.Ring xs ≡ Err Bad
bad_else xs none-such = plan_bad question.Ring xs (go (parse_of xs) refl)
  where
    go : (p : Option Asked) → parse_of xs ≡ p → plan_from p ≡ Err Bad
    go (Some a) e = absurd (none-such a (accepted xs a e))
    go None e = refl
