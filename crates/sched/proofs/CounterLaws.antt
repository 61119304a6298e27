-- Sums and differences of counters, wrapped at 64 bits, are those modulo 2L. At 2^63 that is the same modulus.
use Rattle.std.proofs.Common.{◌≡◌, ℕ, ◌+◌, ◌-◌, ◌*◌, ◌%◌, ◌^◌, ◌<◌, ◌≤◌, sym, refl, ap, ◌∙◌, mod-lt, mod-eq_of_lt, arith}
use native.Mathlib.Nat.{mod-mod, mod-add-mod, add-mod-mod}
use Rattle.modular.specs.Modulus.{sub_mod}
use Rattle.modular.proofs.Laws.{once, sub_not_below, sub_below, sub_unique, wrapped_sub, add_is}
use Rattle.operations.specs.declared.counter.Counter.{Counter}
use Rattle.sched.specs.Counter.{later_of}
use Rattle.sched.specs.Scheduler.{Sized}

below_64 : (x l : ℕ) → l ≤ 2 ^ 63 → x < 2 * l → x < 2 ^ 64
below_64 x l fits h = omega arith

-- ---- a difference: a is w - r, wrapped
module _ (l w r a : ℕ) (h : Sized l) (hw : w < 2 * l) (hr : r < 2 * l) (e : a ≡ (w + (2 ^ 64 - r)) % 2 ^ 64) where
  wrapped : a ≡ sub_mod (2 ^ 64) w r
  wrapped = e ∙ wrapped_sub (2 ^ 64) w r (below_64 w l h.fits hw) (below_64 r l h.fits hr)

  pub not_below : r ≤ w → a ≡ sub_mod (2 * l) w r
  not_below le =
      wrapped ∙ sym (sub_not_below (2 ^ 64) w r w r (omega arith) (sym (mod-eq_of_lt (below_64 w l h.fits hw))) (sym (mod-eq_of_lt (below_64 r l h.fits hr))) le)
      ∙ sub_not_below (2 * l) w r w r (omega arith) (sym (mod-eq_of_lt hw)) (sym (mod-eq_of_lt hr)) le

  -- with 2L more, where r is above w
  pub below : (d x : ℕ) → w < r → d ≡ (2 * l) % 2 ^ 64 → x ≡ (a + d) % 2 ^ 64 → x ≡ sub_mod (2 * l) w r
  below d x lt ed ex =
      let f : a ≡ 2 ^ 64 - (r - w) = wrapped ∙ sym (sub_below (2 ^ 64) w r w r (omega arith) (sym (mod-eq_of_lt (below_64 w l h.fits hw))) (sym (mod-eq_of_lt (below_64 r l h.fits hr))) (2 ^ 64) refl lt) in
      let g : (a + 2 * l) % 2 ^ 64 ≡ 2 * l - (r - w) = once (2 ^ 64) (a + 2 * l) (2 * l - (r - w)) (omega (arith, h.fits)) (omega (arith, h.fits, f)) in
      ex ∙ ap (λ (y : ℕ). (a + y) % 2 ^ 64) ed ∙ add-mod-mod a (2 * l) (2 ^ 64) ∙ g
      ∙ sub_below (2 * l) w r w r (omega arith) (sym (mod-eq_of_lt hw)) (sym (mod-eq_of_lt hr)) (2 * l) refl lt

-- ---- a sum: s is c + n, wrapped
over : (m c n : ℕ) → c < m → n < m → m ≤ c + n → (c + n - m < m) × (c + n ≡ m + (c + n - m))
over m c n hc hn le = (omega arith, omega arith)

abbrev counter_at : ℕ → Counter
counter_at x = record { 0 = x }

module _ (l : ℕ) (c : Counter) (n s : ℕ) (h : Sized l) (hc : c.0 < 2 * l) (hn : n < 2 * l) (e : s ≡ (c.0 + n) % 2 ^ 64) where
  pub up_to_last : c.0 + n < 2 * l → counter_at s ≡ later_of l c n
  up_to_last lt = ap counter_at (e ∙ mod-eq_of_lt (omega (arith, h.fits)) ∙ sym (add_is (2 * l) c.0 n ∙ mod-eq_of_lt lt))

  -- less 2L, where it is that or above
  pub beyond_last : (d x : ℕ) → 2 * l ≤ c.0 + n → d ≡ (2 * l) % 2 ^ 64 → x ≡ (s + (2 ^ 64 - d)) % 2 ^ 64 → counter_at x ≡ later_of l c n
  beyond_last d x le ed ex =
      let hs : s < 2 ^ 64 = rw e (mod-lt (c.0 + n) (omega arith)) in
      let hd : d < 2 ^ 64 = rw ed (mod-lt (2 * l) (omega arith)) in
      let rest = over (2 * l) c.0 n hc hn le in
      let f : (d + (c.0 + n - 2 * l)) % 2 ^ 64 ≡ s % 2 ^ 64 = rw (ed, mod-add-mod, ← rest.1, e, mod-mod) in
      let g : x ≡ c.0 + n - 2 * l = ex ∙ wrapped_sub (2 ^ 64) s d hs hd ∙ sub_unique (2 ^ 64) s d (c.0 + n - 2 * l) (omega arith) (below_64 (c.0 + n - 2 * l) l h.fits rest.0) f in
      ap counter_at (g ∙ sym (add_is (2 * l) c.0 n ∙ once (2 * l) (c.0 + n) (c.0 + n - 2 * l) rest.0 rest.1))
