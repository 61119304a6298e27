-- A turn of the division, and its end.
use Prim.Native.Nat.{ℕ, zero, suc, ◌+◌, ◌-◌, ◌*◌, ◌/◌, ◌%◌, ◌^◌, ◌≤◌, ◌<◌}
use mathlib.Core.Path.{◌≡◌, sym, ap, ◌∙◌}
use native.Mathlib.Nat.{pow-zero, two-pow-succ, one-le-pow, one-mul, mul_assoc, mul_left_comm, add-mul, le-mul_of_pos_right, mul-le-mul_right, mul-add-div_right, mul-add-mod_self_right, div-eq_of_lt, mod-eq_of_lt}
use native.Mathlib.Omega.{arith}

-- the divisor, doubled some times
abbrev Doubled : ℕ → ℕ → Type 0
Doubled by part = (k : ℕ) × (part ≡ 2 ^ k * by)

no_less : (by part : ℕ) → Doubled by part → by ≤ part
no_less by part (k, e) = omega (arith, e, mul-le-mul_right by (one-le-pow k 2 (omega arith)))

-- where it is not the divisor itself, it is twice its half
halved : (by part : ℕ) → Doubled by part → by < part → Doubled by (part / 2) × (part ≡ 2 * (part / 2))
halved by part (zero, e) l = absurd (omega (arith, e, pow-zero 2))
halved by part (suc k, e) l =
    let twice : part ≡ 2 ^ k * by + 2 ^ k * by = e ∙ ap (λ (w : ℕ). w * by) (two-pow-succ k) ∙ add-mul (2 ^ k) (2 ^ k) by in
    ((k, omega arith), omega arith)

-- n is divided by a part: q times it and a rest
pub record Divided (n by q rest part : ℕ) : Type 0 where
  pub doubled : Doubled by part
  pub is : q * part + rest ≡ n
  pub less : rest < part

pub at_start : (n by : ℕ) → n < by * 2 ^ 16 → Divided n by 0 n (by * 2 ^ 16)
at_start n by l = record { doubled = (16, omega arith); is = omega arith; less = l }

module _ {n by q rest part : ℕ} (d : Divided n by q rest part) where
  pub bounded : 1 ≤ by → q ≤ n
  bounded some = omega (arith, no_less by part d.doubled, d.is, le-mul_of_pos_right {m = part} q (omega (arith, some, no_less by part d.doubled)))

  -- ---- a turn: the next bit of the quotient
  module _ (l : by < part) where
    same : 2 * q * (part / 2) + rest ≡ n
    same =
        let e : q * part ≡ q * (2 * (part / 2)) = ap (λ (p : ℕ). q * p) (halved by part d.doubled l).1 in
        omega (arith, e, d.is, mul_left_comm q 2 (part / 2), mul_assoc 2 q (part / 2))

    pub bit_clear : rest < part / 2 → Divided n by (2 * q) rest (part / 2)
    bit_clear h = record { doubled = (halved by part d.doubled l).0; is = same; less = h }

    pub bit_set : part / 2 ≤ rest → Divided n by (2 * q + 1) (rest - part / 2) (part / 2)
    bit_set h = record {
      doubled = (halved by part d.doubled l).0;
      is = omega (arith, same, add-mul (2 * q) 1 (part / 2), one-mul (part / 2));
      less = omega (arith, d.less, (halved by part d.doubled l).1);
    }

  -- ---- the last turn's part is the divisor
  pub at_end : part ≤ by → (q ≡ n / by) × (rest ≡ n % by)
  at_end l =
      let e : part ≡ by = omega (arith, no_less by part d.doubled) in
      let is : q * by + rest ≡ n = rw e at d.is in
      let less : rest < by = omega (arith, d.less) in
      let whole : n / by ≡ q + rest / by = ap (λ (m : ℕ). m / by) (sym is) ∙ mul-add-div_right (omega arith) q rest in
      let left : n % by ≡ rest % by = ap (λ (m : ℕ). m % by) (sym is) ∙ mul-add-mod_self_right q by rest in
      (omega (arith, div-eq_of_lt less), omega (arith, mod-eq_of_lt less))
