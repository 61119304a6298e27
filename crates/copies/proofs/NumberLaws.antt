-- A number that is read byte by byte.
use Prim.Native.Nat.{ℕ, suc, ◌+◌, ◌%◌, ◌<◌, ◌≤◌}
use mathlib.Core.Path.{◌≡◌, sym, ap, ◌∙◌}
use mathlib.Core.List.{List, [], ◌∷◌, ◌++◌}
use native.Mathlib.Omega.{arith}
use native.Mathlib.Nat.{mod-add-mod, add_assoc}
use borrow.Author.Tests.{lt-ltb, le-ltb}
use lib.ListN.{length, get_or, take}
use Rattle.std.proofs.lemmas.Grind.{common_steps}
use Rattle.std.proofs.lemmas.List.{take_all, take_more_set}
use Rattle.std.specs.Int.{w64, from_be_bytes}
use Rattle.copies.specs.Number.{number_from, big_endian_of}
use Rattle.copies.specs.Promises.{number_at}
use Rattle.copies.specs.Ring.{get}
use Rattle.copies.proofs.Ring.{get_append}

-- one byte more, and the place behind it
pub get_more : (l : ℕ) (bytes : List ℕ) (p n : ℕ) → get l bytes p (n + 1) ≡ get l bytes p n ++ get_or bytes ((p + n) % l) 0 ∷ []
get_more l bytes p n = get_append l bytes p n 1

pub next_round : (l p n next after : ℕ) → next ≡ (p + n) % l → after ≡ (next + 1) % l → after ≡ (p + (n + 1)) % l
next_round l p n next after e f = f ∙ ap (λ (x : ℕ). (x + 1) % l) e ∙ mod-add-mod (p + n) l 1 ∙ ap (λ (x : ℕ). x % l) (add_assoc p n 1)

-- eight bytes, most significant first, are the number that they are folded to
eight_bytes : (l : ℕ) (bytes : List ℕ) (p : ℕ) → from_be_bytes w64 (get l bytes p 8) ≡ number_from 0 (get l bytes p 8)
unfolding number_from
eight_bytes l bytes p = omega arith

-- ---- where the place is
module _ (bytes : List ℕ) (p : ℕ) where
  pub inside : p < length bytes → big_endian_of bytes p ≡ number_from 0 (get (length bytes) bytes p 8)
  unfolding big_endian_of
  inside h = rw (lt-ltb p (length bytes) h)

  pub outside : length bytes ≤ p → big_endian_of bytes p ≡ 0
  unfolding big_endian_of
  outside h = rw (le-ltb p (length bytes) h)

  -- at the loop's end
  pub all_read : (front : List ℕ) (i n : ℕ) → p < length bytes → i ≤ 8 → 8 ≤ i → length front ≡ 8 → take i front ≡ get (length bytes) bytes p i → n ≡ from_be_bytes w64 front → n ≡ big_endian_of bytes p
  all_read front i n h a b e f g =
      let k : i ≡ 8 = omega arith in
      let whole : take 8 front ≡ front = take_all 8 front (omega arith) in
      g ∙ ap (from_be_bytes w64) (sym whole ∙ (rw k at f)) ∙ eight_bytes (length bytes) bytes p ∙ sym (inside h)

-- the eight cells, folded one by one, are the number
pub number_at_lem : (L : ℕ) (ring : List ℕ) (k : ℕ) → number_from 0 (get L ring k 8) ≡ number_at L ring k
unfolding number_from
number_at_lem L ring k =
    let e1 : k + 1 ≡ suc k = omega arith in
    let e2 : k + 2 ≡ suc (suc k) = omega arith in
    let e3 : k + 3 ≡ suc (suc (suc k)) = omega arith in
    let e4 : k + 4 ≡ suc (suc (suc (suc k))) = omega arith in
    let e5 : k + 5 ≡ suc (suc (suc (suc (suc k)))) = omega arith in
    let e6 : k + 6 ≡ suc (suc (suc (suc (suc (suc k))))) = omega arith in
    let e7 : k + 7 ≡ suc (suc (suc (suc (suc (suc (suc k)))))) = omega arith in
    rw (e1, e2, e3, e4, e5, e6, e7) (omega arith)

-- what `big_endian` is proved by
pub ruleset reading = (common_steps, outside, get_more, next_round, take_more_set)
