-- Lines that ask the planner, in the words of `Promise`: each is read as what it asks, nothing else is read, and so each is answered.
use Prim.Native.Nat.{ℕ, ◌^◌, ◌<◌, ◌≤◌}
use mathlib.Core.Path.{◌≡◌, refl, sym, ap, ◌∙◌}
use mathlib.Core.List.{List, [], ◌∷◌, ◌++◌}
use lib.ListN.{length, length-append}
use native.Mathlib.Omega.{arith}
use Rattle.lines.specs.Decimal.{decimal, Front, some, none}
use Rattle.lines.specs.Field.{spaced_front, last_front}
use Rattle.lines.proofs.DecimalLaws.{decimal_short}
use Rattle.lines.proofs.FieldLaws.{spaced_decimal, last_decimal, spaced_reads, last_reads}
use Rattle.lines.proofs.NumeralLaws.{decimal_numeral, numeral_is}
use Rattle.planline.specs.declared.plan.PlanError.TheVariants.{Bad}
use Rattle.planline.specs.declared.plan.Question.TheVariants as question
use Rattle.planline.specs.declared.strips.AskedStrips.{AskedStrips}
use Rattle.std.specs.Prelude.{Option, Some, None}
use Rattle.std.proofs.Common.{Err}
use Rattle.planline.specs.Plan.{plan_of}
use Rattle.planline.specs.Promise.{StripsLine}
use Rattle.planline.specs.Strips.{asked_strips, with_buf_len, with_row_bytes, with_rows, parse_strips_of, strips_for, strips_from}
use Rattle.planline.proofs.PlanLaws.{plan_short, plan_bad}

-- ---- each is read
abbrev formed : AskedStrips → List ℕ
formed a = decimal a.rows ++ (32 ∷ (decimal a.row_bytes ++ (32 ∷ decimal a.buf_len)))

strips_formed : (xs : List ℕ) (a : AskedStrips) → StripsLine xs a → xs ≡ formed a
strips_formed xs a h =
    h.is
    ∙ rw (
      numeral_is h.r a.rows h.fits.0 h.rows,
      numeral_is h.b a.row_bytes h.fits.1 h.bytes,
      numeral_is h.l a.buf_len h.fits.2 h.buf,
    )

pub strips_parsed : (xs : List ℕ) (a : AskedStrips) → StripsLine xs a → parse_strips_of xs ≡ Some a
unfolding parse_strips_of
strips_parsed xs a h =
    ap parse_strips_of (strips_formed xs a h)
    ∙ ap with_rows (spaced_decimal a.rows _ h.fits.0)
    ∙ ap (with_row_bytes a.rows) (spaced_decimal a.row_bytes _ h.fits.1)
    ∙ ap (with_buf_len a.rows a.row_bytes) (last_decimal a.buf_len h.fits.2)

-- ---- and nothing else
bad : {A : Type 0} (a : AskedStrips) → None ≡ Some a → A
bad a p = absurd (let z : ◌≡◌ {A = ℕ} 0 1 = cc in omega arith)

module _ (xs : List ℕ) (a : AskedStrips) where
  module _ (rows : ℕ) (ys : List ℕ) (p : (xs ≡ decimal rows ++ (32 ∷ ys)) × (rows < 2 ^ 64)) where
    after_bytes : (bytes : ℕ) (zs : List ℕ) → (ys ≡ decimal bytes ++ (32 ∷ zs)) × (bytes < 2 ^ 64) → (f : Front) → last_front zs ≡ f → with_buf_len rows bytes f ≡ Some a → StripsLine xs a
    after_bytes bytes zs q none e h = bad a h
    after_bytes bytes zs q (some l us) e h =
        let c : asked_strips rows bytes l ≡ a = cc in
        let d : (zs ≡ decimal l) × (l < 2 ^ 64) × (us ≡ []) = last_reads zs l us e in
        rw (← c)
        (record {
          r = decimal rows;
          b = decimal bytes;
          l = decimal l;
          rows = decimal_numeral rows p.1;
          bytes = decimal_numeral bytes q.1;
          buf = decimal_numeral l d.1;
          fits = (p.1, q.1, d.1);
          is =
              p.0
              ∙ ap (λ (x : List ℕ). decimal rows ++ (32 ∷ x)) (q.0 ∙ ap (λ (x : List ℕ). decimal bytes ++ (32 ∷ x)) d.0);
        })

    after_rows : (f : Front) → spaced_front ys ≡ f → with_row_bytes rows f ≡ Some a → StripsLine xs a
    after_rows none e h = bad a h
    after_rows (some bytes zs) e h = after_bytes bytes zs (spaced_reads ys bytes zs e) (last_front zs) refl h

  pub parsed_strips : parse_strips_of xs ≡ Some a → StripsLine xs a
  unfolding parse_strips_of
  parsed_strips h = go (spaced_front xs) refl h
    where
      go : (f : Front) → spaced_front xs ≡ f → with_rows f ≡ Some a → StripsLine xs a
      go none e h = bad a h
      go (some rows ys) e h = after_rows rows ys (spaced_reads xs rows ys e) (spaced_front ys) refl h

-- ---- so the answer is that of what is asked, and bad for every other line
formed_short : (a : AskedStrips) → length (formed a) ≤ 120
formed_short a =
    omega (
      arith,
      length-append (decimal a.rows) (32 ∷ (decimal a.row_bytes ++ (32 ∷ decimal a.buf_len))),
      length-append (decimal a.row_bytes) (32 ∷ decimal a.buf_len),
      decimal_short a.rows,
      decimal_short a.row_bytes,
      decimal_short a.buf_len,
    )

pub strips_planned : (xs : List ℕ) (a : AskedStrips) → StripsLine xs a → plan_of question.Strips xs ≡ strips_for a
strips_planned xs a h =
    sym (plan_short question.Strips xs (rw (strips_formed xs a h) (formed_short a))) ∙ ap strips_from (strips_parsed xs a h)

pub strips_else_bad : (xs : List ℕ) → ((a : AskedStrips) → StripsLine xs a → ⊥) → plan_of question.Strips xs ≡ Err Bad
strips_else_bad xs none-such = plan_bad question.Strips xs (go (parse_strips_of xs) refl)
  where
    go : (p : Option AskedStrips) → parse_strips_of xs ≡ p → strips_from p ≡ Err Bad
    go (Some a) e = absurd (none-such a (parsed_strips xs a e))
    go None e = refl
