-- Laws of the definitions of `specs/Modulus.antt`, over any modulus and any width: what callers and the functions' own
-- proofs cite instead of the definitions' text.
use Rattle.std.proofs.Common.{◌≡◌, ℕ, ◌+◌, ◌-◌, ◌*◌, ◌%◌, ◌^◌, ◌<◌, ◌≤◌, Bool, true, false, eqb, ltb, leb, ◌⊎◌, sym, refl, ◌∙◌, inl, inr, ⊎_elim, add-zero, add_assoc, mod-lt, mod-eq_of_lt, eq-or-lt_of_le, zero-add, arith, pow_pos, ltb-false, ltb-true, lt-ltb, eq-eqb, ne_eqb, eqb-true, le-leb, leb-false, leb-true, Some, None}
use borrow.Author.Tests.{eqb-false, lt-leb}
use native.Mathlib.Nat.{mod-eq-sub-mod, mod-add-mod, add-mod-mod, add-mod_right, add-mod, mod_self, mod-mod, mod-mod_of_dvd, dvd-mul_left}
use Rattle.modular.specs.declared.Modulus.{Modulus}
use Rattle.modular.specs.Modulus.{whole_at, raw_at, try_new_of, modulus_of, double_at, neg_mod, sub_mod, add_mod}

-- ---- the whole number that a raw number stands for
module _ (k raw : ℕ) where
  pub whole_zero : raw ≡ 0 → whole_at k raw ≡ 2 ^ k
  unfolding whole_at
  whole_zero h = simp (eq-eqb raw 0 h)

  pub whole_pos : (raw ≡ 0 → ⊥) → whole_at k raw ≡ raw
  unfolding whole_at
  whole_pos h = simp (ne_eqb raw 0 h)

  -- a modulus is at least 1
  pub whole_some : 0 < whole_at k raw
  whole_some = go (eqb raw 0) refl
    where
      go : (b : Bool) → eqb raw 0 ≡ b → 0 < whole_at k raw
      go true e = rw (whole_zero (eqb-true raw 0 e)) (pow_pos k)
      go false e =
          let n : raw ≡ 0 → ⊥ = eqb-false raw 0 e in
          rw (whole_pos n) (omega (arith, n))

  -- a number below the modulus, or below the full range but not below the modulus
  pub whole_above : (v : ℕ) → v < 2 ^ k → whole_at k raw ≤ v → raw ≡ 0 → ⊥
  whole_above v f h z = let e : whole_at k raw ≡ 2 ^ k = whole_zero z in omega arith

  pub full_range_lem : raw < 2 ^ k → eqb raw 0 ≡ eqb (whole_at k raw) (2 ^ k)
  full_range_lem f = go (eqb raw 0) refl
    where
      go : (b : Bool) → eqb raw 0 ≡ b → eqb raw 0 ≡ eqb (whole_at k raw) (2 ^ k)
      go true e = e ∙ sym (eq-eqb (whole_at k raw) (2 ^ k) (whole_zero (eqb-true raw 0 e)))
      go false e = e ∙ sym (rw (whole_pos (eqb-false raw 0 e)) (ne_eqb raw (2 ^ k) (λ q. omega arith)))

-- the raw number of a modulus stands for it
pub whole_raw : (k n : ℕ) → 0 < n → n ≤ 2 ^ k → whole_at k (raw_at k n) ≡ n
unfolding raw_at
whole_raw k n p l = ⊎_elim full less (eq-or-lt_of_le l)
  where
    full : n ≡ 2 ^ k → whole_at k (n % 2 ^ k) ≡ n
    full q = rw (q, mod_self, whole_zero k 0 refl)

    less : n < 2 ^ k → whole_at k (n % 2 ^ k) ≡ n
    less q = rw (mod-eq_of_lt q, whole_pos k n (λ e. omega arith))

-- ---- numbers
pub lt_or_le : (a b : ℕ) → (a < b) ⊎ (b ≤ a)
lt_or_le a b = go (ltb a b) refl
  where
    go : (t : Bool) → ltb a b ≡ t → (a < b) ⊎ (b ≤ a)
    go true e = inl (ltb-true a b e)
    go false e = inr (ltb-false a b e)

-- ---- a remainder by any modulus
-- x is one modulus more than r
pub once : (m x r : ℕ) → r < m → x ≡ m + r → x % m ≡ r
once m x r h e =
    let g : m ≤ x = omega arith in
    let d : x - m ≡ r = omega arith in
    rw (mod-eq-sub-mod g, d, mod-eq_of_lt h)

-- ---- negation, difference and sum of reduced numbers x and y
module _ (m a x : ℕ) (p : 0 < m) (hx : x ≡ a % m) where
  pub neg_zero : x ≡ 0 → 0 ≡ neg_mod m a
  unfolding neg_mod
  neg_zero h = sym (once m (m - a % m) 0 p (omega arith))

  pub neg_pos : (n : ℕ) → n ≡ m → (x ≡ 0 → ⊥) → n - x ≡ neg_mod m a
  unfolding neg_mod
  neg_pos n e h =
      let q : 0 < x = omega (arith, h) in
      let l : m - a % m < m = omega arith in
      rw (mod-eq_of_lt l) (omega arith)

module _ (m a b x y : ℕ) (p : 0 < m) (hx : x ≡ a % m) (hy : y ≡ b % m) where
  pub sub_not_below : y ≤ x → x - y ≡ sub_mod m a b
  unfolding sub_mod
  sub_not_below h =
      sym (once m (a % m + (m - b % m)) (x - y) (omega (arith, mod-lt a p)) (omega (arith, mod-lt b p)))

  pub sub_below : (n : ℕ) → n ≡ m → x < y → n - (y - x) ≡ sub_mod m a b
  unfolding sub_mod
  sub_below n e h =
      let l : a % m + (m - b % m) < m = omega (arith, mod-lt b p) in
      rw (mod-eq_of_lt l) (omega (arith, mod-lt b p))

  pub add_fits : (n : ℕ) → n ≡ m → x < n - y → x + y ≡ add_mod m a b
  unfolding add_mod
  add_fits n e h =
      let l : a % m + b % m < m = omega arith in
      rw (mod-eq_of_lt l) (omega arith)

  pub add_wraps : (n : ℕ) → n ≡ m → n - y ≤ x → x - (n - y) ≡ add_mod m a b
  unfolding add_mod
  add_wraps n e h =
      sym (once m (a % m + b % m) (x - (n - y)) (omega (arith, mod-lt a p, mod-lt b p)) (omega (arith, mod-lt a p, mod-lt b p)))

-- ---- at the full range, what the wrapping calls of std answer
pub wrapped_sub : (m a b : ℕ) → a < m → b < m → (a + (m - b)) % m ≡ sub_mod m a b
unfolding sub_mod
wrapped_sub m a b ha hb = rw (mod-eq_of_lt ha, mod-eq_of_lt hb)

pub wrapped_neg : (m a : ℕ) → a < m → (0 + (m - a)) % m ≡ neg_mod m a
unfolding neg_mod
wrapped_neg m a ha = rw (mod-eq_of_lt ha, zero-add)

pub wrapped_add : (m a b : ℕ) → (a + b) % m ≡ add_mod m a b
unfolding add_mod
wrapped_add m a b = add-mod a b m

-- ---- what the definitions mean: each answer is below the modulus, and the difference is the number that added back gives
-- what was there
module _ (m a : ℕ) (p : 0 < m) where
  pub neg_lt : neg_mod m a < m
  unfolding neg_mod
  neg_lt = mod-lt _ p

  -- a number and its negation make whole moduli
  pub neg_back : (a + neg_mod m a) % m ≡ 0
  unfolding neg_mod
  neg_back =
      let e : a % m + (m - a % m) ≡ m = omega (arith, mod-lt a p) in
      rw (add-mod-mod, ← mod-add-mod, e, mod_self)

module _ (m a b : ℕ) (p : 0 < m) where
  pub sub_lt : sub_mod m a b < m
  unfolding sub_mod
  sub_lt = mod-lt _ p

  pub add_lt : add_mod m a b < m
  unfolding add_mod
  add_lt = mod-lt _ p

  -- the difference added back
  pub sub_back : (b + sub_mod m a b) % m ≡ a % m
  unfolding sub_mod
  sub_back =
      let e : b % m + (a % m + (m - b % m)) ≡ a % m + m = omega (arith, mod-lt b p) in
      rw (add-mod-mod, ← mod-add-mod, e, add-mod_right, mod-mod)

-- is the one number below the modulus that gives what was there
pub sub_unique : (m a b d : ℕ) → 0 < m → d < m → (b + d) % m ≡ a % m → sub_mod m a b ≡ d
unfolding sub_mod
sub_unique m a b d p l h =
    let e : b % m + d + (m - b % m) ≡ d + m = omega (arith, mod-lt b p) in
    rw (← h, ← mod-add-mod b m d, mod-add-mod, e, add-mod_right, mod-eq_of_lt l)

-- the sum needs no reducing first
pub add_is : (m a b : ℕ) → add_mod m a b ≡ (a + b) % m
unfolding add_mod
add_is m a b = sym (add-mod a b m)

module _ (m a b n : ℕ) (p : 0 < m) where
  -- a difference from a sum, where there is room for it
  pub sub_of_sum : sub_mod m a b + n < m → sub_mod m (add_mod m a n) b ≡ sub_mod m a b + n
  sub_of_sum l =
      let e : b + (sub_mod m a b + n) ≡ b + sub_mod m a b + n = omega arith in
      sub_unique m (add_mod m a n) b (sub_mod m a b + n) p l
      (rw (e, ← mod-add-mod (b + sub_mod m a b) m n, sub_back m a b p, mod-add-mod, add_is, mod-mod))

  -- a difference to a sum
  pub sub_to_sum : n ≤ sub_mod m a b → sub_mod m a (add_mod m b n) ≡ sub_mod m a b - n
  sub_to_sum l =
      let e : b + n + (sub_mod m a b - n) ≡ b + sub_mod m a b = omega arith in
      sub_unique m a (add_mod m b n) (sub_mod m a b - n) p (omega (arith, sub_lt m a b p))
      (rw (add_is, mod-add-mod, e, sub_back m a b p))

-- a sum of sums, and of nothing
pub add_add : (m a b c : ℕ) → add_mod m (add_mod m a b) c ≡ add_mod m a (b + c)
add_add m a b c = rw (add_is m (add_mod m a b) c, add_is m a b, mod-add-mod, add_is m a (b + c), add_assoc)

pub add_nothing : (m a : ℕ) → a < m → add_mod m a 0 ≡ a
add_nothing m a l = rw (add_is, add-zero, mod-eq_of_lt l)

-- a sum modulo 2l, modulo l
pub add_halved : (l a b : ℕ) → add_mod (2 * l) a b % l ≡ (a % l + b) % l
add_halved l a b = rw (add_is, mod-mod_of_dvd l (a + b) (dvd-mul_left l 2), mod-add-mod)

-- ---- making and doubling a modulus
module _ (n : ℕ) where
  pub try_none : n ≡ 0 → None ≡ try_new_of n
  unfolding try_new_of
  try_none h = rw (eq-eqb n 0 h)

  pub try_some : (n ≡ 0 → ⊥) → Some (record { 0 = n }) ≡ try_new_of n
  unfolding try_new_of
  try_some h = rw (ne_eqb n 0 h)

module _ (m : Modulus) where
  pub modulus_none : m.0 ≡ 0 → None ≡ modulus_of m
  unfolding modulus_of
  modulus_none h = rw (whole_zero 64 m.0 h)

  pub modulus_some : m.0 < 2 ^ 64 → (m.0 ≡ 0 → ⊥) → Some m.0 ≡ modulus_of m
  unfolding modulus_of
  modulus_some f h = rw (whole_pos 64 m.0 h, lt-ltb _ _ f)

-- The fact behind the 8-bit row, over the width k and the whole modulus n: the double stands for 2n where that is at most
-- 2^k, and is none above. So 2^k itself is reached, as the full range, and the full range has no double.
module _ (k : ℕ) (m : Modulus) where
  pub double_none : 2 ^ k < 2 * whole_at k m.0 → None ≡ double_at k m
  unfolding double_at
  double_none l = rw (lt-leb _ _ l)

  pub double_some : 2 * whole_at k m.0 ≤ 2 ^ k → Some (record { 0 = raw_at k (2 * whole_at k m.0) }) ≡ double_at k m
  unfolding double_at
  double_some l = rw (le-leb _ _ l)

  pub double_whole : (d : Modulus) → Some d ≡ double_at k m → whole_at k d.0 ≡ 2 * whole_at k m.0
  double_whole d e = go (leb (2 * whole_at k m.0) (2 ^ k)) refl
    where
      go : (b : Bool) → leb (2 * whole_at k m.0) (2 ^ k) ≡ b → whole_at k d.0 ≡ 2 * whole_at k m.0
      go true q =
          let l : 2 * whole_at k m.0 ≤ 2 ^ k = leb-true _ _ q in
          let f : d ≡ record { 0 = raw_at k (2 * whole_at k m.0) } = cc (double_some l) in
          rw f (whole_raw k (2 * whole_at k m.0) (omega (arith, whole_some k m.0)) l)
      go false q =
          let z : ◌≡◌ {A = ℕ} 0 1 = cc (double_none (leb-false _ _ q)) in
          absurd (omega arith)

  -- the sum of a number with itself, wrapped at k bits, is the raw number of its double
  pub double_sum : (r : ℕ) → whole_at k m.0 ≡ m.0 → 2 * m.0 ≤ 2 ^ k → r ≡ (m.0 + m.0) % 2 ^ k → Some (record { 0 = r }) ≡ double_at k m
  unfolding raw_at
  double_sum r w l e =
      let d : m.0 + m.0 ≡ 2 * whole_at k m.0 = omega arith in
      let s : Some (record { 0 = (2 * whole_at k m.0) % 2 ^ k }) ≡ double_at k m = double_some (omega arith) in
      rw (e, d) s
