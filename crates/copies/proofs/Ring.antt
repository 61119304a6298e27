-- Laws of `put` and `get`: only the place mod l counts; bytes that do not reach the end are one part; bytes put at a place
-- are found there, and the others stay.
use Prim.Native.Nat.{ℕ, zero, suc, ◌+◌, ◌-◌, ◌*◌, ◌/◌, ◌%◌, ◌≤◌, ◌<◌}
use mathlib.Core.Path.{◌≡◌, refl, sym, ap, ◌∙◌}
use mathlib.Core.Logic.{◌≢◌}
use mathlib.Core.List.{List, [], ◌∷◌, ◌++◌, append_assoc}
use native.Mathlib.Nat.{mod-lt, mod-eq_of_lt, mod-add-mod, mod_self, suc-mod, add-mul-mod_self_right, div-add-mod', add-zero, add-suc, suc-add, not-suc-le-zero, le_of_suc-le-suc}
use native.Mathlib.Numerals.{add-one}
use native.Mathlib.Omega.{arith}
use lib.ListN.{length, get_or, set, take, drop, length-set, length-append, length-drop}
use lib.Seq.{sets, sets-eq, drop-cons, drop_at, ext_get_or, get_or-set_same, get_or-set_other}
use Rattle.copies.specs.Ring.{put, get}
use Rattle.copies.specs.Copies.{part, pasted}
use Rattle.copies.specs.Promises.{OnlyCells, OnlyFront}

-- from x on to x + d, read off the two remainders
pub diff_mod : (m x d : ℕ) → d < m → ((x + d) % m + (m - x % m)) % m ≡ d
diff_mod m x d h =
    let l : x % m < m = mod-lt x (omega arith) in
    let e : x / m * m + x % m ≡ x = div-add-mod' x m in
    let f : x + d + (m - x % m) ≡ d + suc (x / m) * m = omega arith in
    rw (mod-add-mod, f, add-mul-mod_self_right) (mod-eq_of_lt h)

-- so two places less than a turn apart are two
pub apart : (l x d : ℕ) → 0 < d → d < l → (x + d) % l ≢ x % l
apart l x d p h e =
    let z : (x % l + (l - x % l)) % l ≡ d = rw e at (diff_mod l x d h) in
    let q : x % l < l = mod-lt x (omega arith) in
    let w : x % l + (l - x % l) ≡ l = omega arith in
    let y : l % l ≡ d = rw w at z in
    let s : l % l ≡ 0 = mod_self l in
    omega arith

pub length_put : (l : ℕ) (ring : List ℕ) (at : ℕ) (bs : List ℕ) → length (put l ring at bs) ≡ length ring
length_put l ring at [] = refl
length_put l ring at (b ∷ bs) = length_put l (set ring (at % l) b) (suc at) bs ∙ length-set ring (at % l) b

pub length_get : (l : ℕ) (ring : List ℕ) (at n : ℕ) → length (get l ring at n) ≡ n
length_get l ring at zero = refl
length_get l ring at (suc n) = ap suc (length_get l ring (suc at) n)

-- ---- only the place mod l counts
next_place : (l a b : ℕ) → a % l ≡ b % l → suc a % l ≡ suc b % l
next_place l a b e = suc-mod a l ∙ ap (λ (x : ℕ). suc x % l) e ∙ sym (suc-mod b l)

pub put_place : (l : ℕ) (ring : List ℕ) (a b : ℕ) (bs : List ℕ) → a % l ≡ b % l → put l ring a bs ≡ put l ring b bs
put_place l ring a b [] e = refl
put_place l ring a b (x ∷ bs) e =
    ap (λ (p : ℕ). put l (set ring p x) (suc a) bs) e ∙ put_place l (set ring (b % l) x) (suc a) (suc b) bs (next_place l a b e)

pub get_place : (l : ℕ) (ring : List ℕ) (a b n : ℕ) → a % l ≡ b % l → get l ring a n ≡ get l ring b n
get_place l ring a b zero e = refl
get_place l ring a b (suc n) e = rw (e, get_place l ring (suc a) (suc b) n (next_place l a b e))

-- ---- bytes and then bytes
pub put_append : (l : ℕ) (ring : List ℕ) (at : ℕ) (xs ys : List ℕ) → put l ring at (xs ++ ys) ≡ put l (put l ring at xs) (at + length xs) ys
put_append l ring at [] ys = rw add-zero
put_append l ring at (x ∷ xs) ys = rw (add-suc, ← suc-add) (put_append l (set ring (at % l) x) (suc at) xs ys)

pub get_append : (l : ℕ) (ring : List ℕ) (at n k : ℕ) → get l ring at (n + k) ≡ get l ring at n ++ get l ring (at + n) k
get_append l ring at zero k =
    let e : 0 + k ≡ k = omega arith in
    rw (e, add-zero)
get_append l ring at (suc n) k =
    let e : suc n + k ≡ suc (n + k) = omega arith in
    let f : suc at + n ≡ at + suc n = omega arith in
    rw (e, get_append l ring (suc at) n k, f)

-- ---- bytes that do not reach the end
put_sets : (l : ℕ) (ring : List ℕ) (at : ℕ) (bs : List ℕ) → at + length bs ≤ l → put l ring at bs ≡ sets ring at bs
put_sets l ring at [] h = refl
put_sets l ring at (b ∷ bs) h =
    let e : at % l ≡ at = mod-eq_of_lt (omega arith) in
    rw e (put_sets l (set ring at b) (suc at) bs (omega arith))

pub put_ahead : (l : ℕ) (ring : List ℕ) (at : ℕ) (bs : List ℕ) → length ring ≡ l → at + length bs ≤ l → put l ring at bs ≡ pasted ring at bs
put_ahead l ring at bs e h = put_sets l ring at bs h ∙ sets-eq bs ring at (omega arith) ∙ append_assoc (take at ring) bs (drop (at + length bs) ring)

pub get_ahead : (l : ℕ) (ring : List ℕ) (at n : ℕ) → length ring ≡ l → at + n ≤ l → get l ring at n ≡ part ring at n
get_ahead l ring at zero e h = refl
get_ahead l ring at (suc n) e h =
    let p : at % l ≡ at = mod-eq_of_lt (omega arith) in
    let d : drop at ring ≡ get_or ring at 0 ∷ drop (suc at) ring = drop-cons ring at 0 (omega arith) in
    rw (p, d, get_ahead l ring (suc at) n e (omega arith))

-- ---- what stands where
pub get_d_get : (l : ℕ) (ring : List ℕ) (at n k : ℕ) → k < n → get_or (get l ring at n) k 0 ≡ get_or ring ((at + k) % l) 0
get_d_get l ring at zero k h = absurd (not-suc-le-zero h)
get_d_get l ring at (suc n) zero h = rw add-zero
get_d_get l ring at (suc n) (suc k) h = rw (add-suc, ← suc-add) (get_d_get l ring (suc at) n k (le_of_suc-le-suc h))

-- what stands d places before, and not so far that the bytes come round to it, stays
pub get_d_put_before : (l : ℕ) (ring : List ℕ) (x d : ℕ) (bs : List ℕ) → 0 < d → d + length bs ≤ l → get_or (put l ring (x + d) bs) (x % l) 0 ≡ get_or ring (x % l) 0
get_d_put_before l ring x d [] p h = refl
get_d_put_before l ring x d (b ∷ bs) p h =
    let ne : x % l ≢ (x + d) % l = λ e. apart l x d p (omega arith) (sym e) in
    let ih : get_or (put l (set ring ((x + d) % l) b) (x + suc d) bs) (x % l) 0 ≡ get_or (set ring ((x + d) % l) b) (x % l) 0 = get_d_put_before l (set ring ((x + d) % l) b) x (suc d) bs (omega arith) (omega arith) in
    (rw add-suc at ih) ∙ get_or-set_other ring ((x + d) % l) (x % l) b 0 ne

pub get_d_put_at : (l : ℕ) (ring : List ℕ) (at : ℕ) (bs : List ℕ) (k : ℕ) → length ring ≡ l → length bs ≤ l → k < length bs → get_or (put l ring at bs) ((at + k) % l) 0 ≡ get_or bs k 0
get_d_put_at l ring at [] k e h q = absurd (not-suc-le-zero q)
get_d_put_at l ring at (b ∷ bs) zero e h q =
    let lt : at % l < length ring = rw e (mod-lt at (omega arith)) in
    let st : get_or (put l (set ring (at % l) b) (at + 1) bs) (at % l) 0 ≡ get_or (set ring (at % l) b) (at % l) 0 = get_d_put_before l (set ring (at % l) b) at 1 bs (omega arith) (omega arith) in
    rw add-zero ((rw add-one at st) ∙ get_or-set_same ring (at % l) b 0 lt)
get_d_put_at l ring at (b ∷ bs) (suc k) e h q =
    rw (add-suc, ← suc-add) (get_d_put_at l (set ring (at % l) b) (suc at) bs k (length-set ring (at % l) b ∙ e) (omega arith) (le_of_suc-le-suc q))

-- ---- what is left alone
pub put_own : (l : ℕ) (ring : List ℕ) (at : ℕ) (bs : List ℕ) → OnlyCells l at (length bs) ring (put l ring at bs)
put_own l ring at bs = (length_put l ring at bs, stays ring at bs)
  where
    stays : (ring : List ℕ) (at : ℕ) (bs : List ℕ) (k : ℕ) → ((j : ℕ) → j < length bs → k ≢ (at + j) % l) → get_or (put l ring at bs) k 0 ≡ get_or ring k 0
    stays ring at [] k h = refl
    stays ring at (b ∷ bs) k h =
        let here : k ≢ at % l = rw add-zero at (h 0 (omega arith)) in
        let on : (j : ℕ) → j < length bs → k ≢ (suc at + j) % l = λ j q. rw (suc-add, ← add-suc) (h (suc j) (omega arith)) in
        stays (set ring (at % l) b) (suc at) bs k on ∙ get_or-set_other ring (at % l) k b 0 here

pub get_own : (l : ℕ) (ring : List ℕ) (at n : ℕ) (dst : List ℕ) → n ≤ length dst → OnlyFront n dst (get l ring at n ++ drop n dst)
get_own l ring at n dst h =
    let g : length (get l ring at n) ≡ n = length_get l ring at n in
    (rw (length-append, length-drop, g) (omega arith), drop_at (get l ring at n) (drop n dst) n g)

-- bytes that are put somewhere, at most a turn of them, are got there
pub get_put : (l : ℕ) (ring : List ℕ) (at : ℕ) (bs : List ℕ) → length ring ≡ l → length bs ≤ l → get l (put l ring at bs) at (length bs) ≡ bs
get_put l ring at bs e h =
    ext_get_or 0 (get l (put l ring at bs) at (length bs)) bs (length_get l (put l ring at bs) at (length bs))
    (λ k q.
    let i : k < length bs = rw length_get at q in
    get_d_get l (put l ring at bs) at (length bs) k i ∙ get_d_put_at l ring at bs k e h i)
