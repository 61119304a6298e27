-- What is promised of the calls, in other words than the definitions: every outcome that an attached contract allows keeps it.
use Rattle.std.proofs.Common.{◌≡◌, ℕ, ◌+◌, ◌*◌, ◌/◌, ◌%◌, ◌^◌, ◌<◌, Bool, true, false, cond, eqb, ltb, sym, refl, ap, ◌∙◌, ⊎_elim, mod-lt, add_comm, div-add-mod', arith, ltb-false, ltb-true, eqb-true, Option, Some, None}
use borrow.Author.Tests.{eqb-false}
use native.Mathlib.Nat.{mod-mod, zero-mod}
use Rattle.modular.specs.declared.Modulus.{Modulus}
use Rattle.modular.specs.Modulus.{whole_at, whole_of, try_new_of, modulus_of, double_at, try_new_number_of, neg_mod, sub_mod, add_mod}
use Rattle.modular.specs.Promise.{Stands, full, itself, Congruent, Below, Within, Doubled, Made, Told}
use Rattle.modular.proofs.Laws.{whole_zero, whole_pos, whole_some, sub_lt, add_lt, neg_lt, sub_back, neg_back, add_is, double_whole, double_some, lt_or_le}
use Rattle.modular.proofs.Saying.{Allows, Keeps}
use Rattle.modular.proofs.Says.{new_full_range_says, try_new_says, is_full_range_says, modulus_says, contains_says, double_says, new_number_says, try_new_number_says, neg_says, sub_says, add_says}
use Rattle.modular.proofs.Modulus.new_full_range.Kinds as new_full_range_kinds
use Rattle.modular.proofs.Modulus.new_full_range.Reads as new_full_range
use Rattle.modular.proofs.Modulus.try_new.Kinds as try_new_kinds
use Rattle.modular.proofs.Modulus.try_new.Reads as try_new
use Rattle.modular.proofs.Modulus.is_full_range.Kinds as is_full_range_kinds
use Rattle.modular.proofs.Modulus.is_full_range.Reads as is_full_range
use Rattle.modular.proofs.Modulus.modulus.Kinds as modulus_kinds
use Rattle.modular.proofs.Modulus.modulus.Reads as modulus
use Rattle.modular.proofs.Modulus.contains.Kinds as contains_kinds
use Rattle.modular.proofs.Modulus.contains.Reads as contains
use Rattle.modular.proofs.Modulus.double.Kinds as double_kinds
use Rattle.modular.proofs.Modulus.double.Reads as double
use Rattle.modular.proofs.Modulus.new_number.Kinds as new_number_kinds
use Rattle.modular.proofs.Modulus.new_number.Reads as new_number
use Rattle.modular.proofs.Modulus.try_new_number.Kinds as try_new_number_kinds
use Rattle.modular.proofs.Modulus.try_new_number.Reads as try_new_number
use Rattle.modular.proofs.Modulus.neg.Kinds as neg_kinds
use Rattle.modular.proofs.Modulus.neg.Reads as neg
use Rattle.modular.proofs.Modulus.sub.Kinds as sub_kinds
use Rattle.modular.proofs.Modulus.sub.Reads as sub
use Rattle.modular.proofs.Modulus.add.Kinds as add_kinds
use Rattle.modular.proofs.Modulus.add.Reads as add

-- ---- of the definitions
stands_is : {raw m : ℕ} → Stands raw m → whole_at 64 raw ≡ m
stands_is full = whole_zero 64 0 refl
stands_is (itself {raw} p) = whole_pos 64 raw (λ e. omega arith)

stands : (raw : ℕ) → Stands raw (whole_at 64 raw)
stands raw = go (eqb raw 0) refl
  where
    go : (b : Bool) → eqb raw 0 ≡ b → Stands raw (whole_at 64 raw)
    go true e =
        let z : raw ≡ 0 = eqb-true raw 0 e in
        rw (z, whole_zero 64 0 refl) full
    go false e =
        let n : raw ≡ 0 → ⊥ = eqb-false raw 0 e in
        rw (whole_pos 64 raw n) (itself {raw = raw} (omega (arith, n)))

congruent : (m x y : ℕ) → x % m ≡ y % m → Congruent m x y
congruent m x y e = (y / m, x / m, omega (arith, div-add-mod' x m, div-add-mod' y m))

below : (v m : ℕ) → Below (ltb v m) v m
below v m = go (ltb v m) refl
  where
    go : (b : Bool) → ltb v m ≡ b → Below b v m
    go true e = ltb-true v m e
    go false e = ltb-false v m e

made : (n : ℕ) (z : Option Modulus) → z ≡ try_new_of n → Made z n
unfolding try_new_of
made n z p = rw p (go (eqb n 0) refl)
  where
    go : (b : Bool) → eqb n 0 ≡ b → Made (cond b None (Some (record { 0 = n }))) n
    go true e = eqb-true n 0 e
    go false e = let k : n ≡ 0 → ⊥ = eqb-false n 0 e in (refl, omega (arith, k))

module _ (m : Modulus) where
  told : Told (modulus_of m) (whole_of m)
  unfolding modulus_of
  told = go (ltb (whole_of m) (2 ^ 64)) refl
    where
      go : (b : Bool) → ltb (whole_of m) (2 ^ 64) ≡ b → Told (cond b (Some (whole_of m)) None) (whole_of m)
      go true e = (refl, ltb-true _ _ e)
      go false e = ltb-false _ _ e

  within : (v : ℕ) → Within (try_new_number_of m v) v (whole_of m)
  unfolding try_new_number_of
  within v = go (ltb v (whole_of m)) refl
    where
      go : (b : Bool) → ltb v (whole_of m) ≡ b → Within (cond b (Some v) None) v (whole_of m)
      go true e = (refl, ltb-true _ _ e)
      go false e = ltb-false _ _ e

  doubled : (z : Option Modulus) → z ≡ double_at 64 m → Doubled z (whole_of m)
  doubled (Some d) e = rw (double_whole 64 m d e) at (stands d.0)
  doubled None e = ⊎_elim (λ l. l) (λ l. absurd (let z : ◌≡◌ {A = ℕ} 0 1 = cc (double_some 64 m l) in omega arith)) (lt_or_le (2 ^ 64) (2 * whole_of m))

  some : 0 < whole_of m
  some = whole_some 64 m.0

  reduced : (v : ℕ) → (v % whole_of m < whole_of m) × Congruent (whole_of m) v (v % whole_of m)
  reduced v = (mod-lt v some, congruent (whole_of m) v (v % whole_of m) (sym (mod-mod v (whole_of m))))

  negated : (v : ℕ) → (neg_mod (whole_of m) v < whole_of m) × Congruent (whole_of m) (v + neg_mod (whole_of m) v) 0
  negated v = (neg_lt (whole_of m) v some, congruent (whole_of m) (v + neg_mod (whole_of m) v) 0 (neg_back (whole_of m) v some ∙ sym (zero-mod (whole_of m))))

  subtracted : (v b : ℕ) → (sub_mod (whole_of m) v b < whole_of m) × Congruent (whole_of m) (b + sub_mod (whole_of m) v b) v
  subtracted v b = (sub_lt (whole_of m) v b some, congruent (whole_of m) (b + sub_mod (whole_of m) v b) v (sub_back (whole_of m) v b some))

  added : (v b : ℕ) → (add_mod (whole_of m) v b < whole_of m) × Congruent (whole_of m) (v + b) (add_mod (whole_of m) v b)
  added v b = (add_lt (whole_of m) v b some, congruent (whole_of m) (v + b) (add_mod (whole_of m) v b) (sym (ap (λ (x : ℕ). x % whole_of m) (add_is (whole_of m) v b) ∙ mod-mod (v + b) (whole_of m))))

-- ---- a modulus
pub full_range_promised : Keeps 0 new_full_range_kinds.ps new_full_range_kinds.r new_full_range.Learnt (λ κs a z. Stands z.0 (2 ^ 64))
full_range_promised κs a z q = rw (new_full_range_says κs a z q.0 q.1) full

pub try_new_promised : Keeps 0 try_new_kinds.ps try_new_kinds.r try_new.Learnt (λ κs a z. Made z a.0)
try_new_promised κs a z q = made a.0 z (try_new_says κs a z q.0 q.1)

pub is_full_range_promised :
    Keeps 0 is_full_range_kinds.ps is_full_range_kinds.r is_full_range.Learnt
    (λ κs a z. (m : ℕ) → Stands a.0.0 m → (z ≡ true → m ≡ 2 ^ 64) × (z ≡ false → m ≡ 2 ^ 64 → ⊥))
is_full_range_promised κs a z q m s =
    let e : z ≡ eqb (whole_of a.0) (2 ^ 64) = is_full_range_says κs a z q.0 q.1 in
    rw (← stands_is s) (λ t. eqb-true _ _ (sym e ∙ t), λ t. eqb-false _ _ (sym e ∙ t))

pub modulus_promised : Keeps 0 modulus_kinds.ps modulus_kinds.r modulus.Learnt (λ κs a z. (m : ℕ) → Stands a.0.0 m → Told z m)
modulus_promised κs a z q m s = rw (modulus_says κs a z q.0 q.1, ← stands_is s) (told a.0)

-- ---- containment and doubling
pub contains_promised : Keeps 0 contains_kinds.ps contains_kinds.r contains.Learnt (λ κs a z. (m : ℕ) → Stands a.0.0 m → Below z a.1.0 m)
contains_promised κs a z q m s = rw (contains_says κs a z q.0 q.1, ← stands_is s) (below a.1.0 (whole_of a.0))

pub double_promised : Keeps 0 double_kinds.ps double_kinds.r double.Learnt (λ κs a z. (m : ℕ) → Stands a.0.0 m → Doubled z m)
double_promised κs a z q m s = rw (← stands_is s) (doubled a.0 z (double_says κs a z q.0 q.1))

-- ---- reduction, negation, subtraction, addition: below the modulus, and the right number but for multiples of it
pub new_number_promised : Keeps 0 new_number_kinds.ps new_number_kinds.r new_number.Learnt (λ κs a z. (m : ℕ) → Stands a.0.0 m → (z < m) × Congruent m a.1.0 z)
new_number_promised κs a z q m s = rw (new_number_says κs a z q.0 q.1, ← stands_is s) (reduced a.0 a.1.0)

pub try_new_number_promised : Keeps 0 try_new_number_kinds.ps try_new_number_kinds.r try_new_number.Learnt (λ κs a z. (m : ℕ) → Stands a.0.0 m → Within z a.1.0 m)
try_new_number_promised κs a z q m s = rw (try_new_number_says κs a z q.0 q.1, ← stands_is s) (within a.0 a.1.0)

pub neg_promised : Keeps 0 neg_kinds.ps neg_kinds.r neg.Learnt (λ κs a z. (m : ℕ) → Stands a.0.0 m → (z < m) × Congruent m (a.1.0 + z) 0)
neg_promised κs a z q m s = rw (neg_says κs a z q.0 q.1, ← stands_is s) (negated a.0 a.1.0)

pub sub_promised : Keeps 0 sub_kinds.ps sub_kinds.r sub.Learnt (λ κs a z. (m : ℕ) → Stands a.0.0 m → (z < m) × Congruent m (a.1.1.0 + z) a.1.0)
sub_promised κs a z q m s = rw (sub_says κs a z q.0 q.1, ← stands_is s) (subtracted a.0 a.1.0 a.1.1.0)

pub add_promised : Keeps 0 add_kinds.ps add_kinds.r add.Learnt (λ κs a z. (m : ℕ) → Stands a.0.0 m → (z < m) × Congruent m (a.1.0 + a.1.1.0) z)
add_promised κs a z q m s = rw (add_says κs a z q.0 q.1, ← stands_is s) (added a.0 a.1.0 a.1.1.0)

-- ---- a difference, added back, is the number reduced
module _ (m : Modulus) (v b : ℕ) where
  pub sub_then_add :
      (d : ℕ) → Allows 0 sub_kinds.ps sub_kinds.r sub.Learnt tt (m, (v, (b, tt))) d →
      (z : ℕ) → Allows 0 add_kinds.ps add_kinds.r add.Learnt tt (m, (d, (b, tt))) z →
      (x : ℕ) → Allows 0 new_number_kinds.ps new_number_kinds.r new_number.Learnt tt (m, (v, tt)) x → z ≡ x
  sub_then_add d p z q x r =
      add_says tt (m, (d, (b, tt))) z q.0 q.1 ∙ add_is (whole_of m) d b
      ∙ ap (λ (y : ℕ). y % whole_of m) (add_comm d b ∙ ap (λ (y : ℕ). b + y) (sub_says tt (m, (v, (b, tt))) d p.0 p.1))
      ∙ sub_back (whole_of m) v b (whole_some 64 m.0) ∙ sym (new_number_says tt (m, (v, tt)) x r.0 r.1)
