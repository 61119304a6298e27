-- What holds of a ring between two ends, told by positions alone: how many bytes were written and read, and how much of that
-- each end has heard of. No counter, no modulus 2L and no kind of note stands here.
use Prim.Native.Nat.{ℕ, ◌+◌, ◌-◌, ◌%◌, ◌^◌, ◌≤◌, ◌<◌}
use mathlib.Core.Path.{◌≡◌, sym, ◌∙◌, subst}
use mathlib.Core.List.{List, ◌++◌}
use native.Mathlib.Nat.{add_assoc}
use native.Mathlib.Decide.{dec_lt}
use native.Mathlib.Omega.{arith}
use lib.ListN.{length, get_or, take, length-append, get_or-append}
use lib.Seq.{get_or-append-add, ext_get_or, get_or-take, length-take-le}
use Rattle.copies.specs.Ring.{put, get}
use Rattle.copies.proofs.Ring.{length_put, length_get, get_d_get, get_d_put_before, get_d_put_at}

-- `heard_r` is the reading end's position as the writing end last heard of it, `heard_w` the writing end's as the reading end did
pub record Core (l c : ℕ) (ring wrote got : List ℕ) (heard_r heard_w : ℕ) : Type 0 where
  pub pos : 0 < l
  pub top : l ≤ 2 ^ 63
  pub size : length ring ≡ l
  pub heard_r_late : heard_r ≤ length got
  pub not_ahead : length got ≤ heard_w
  pub heard_w_late : heard_w ≤ length wrote
  pub fits : length wrote ≤ heard_r + l
  pub order : (i : ℕ) → i < length got → get_or got i 0 ≡ get_or wrote i 0
  pub there : (i : ℕ) → heard_r ≤ i → i < length wrote → get_or ring ((c + i) % l) 0 ≡ get_or wrote i 0

module _ (l c : ℕ) (ring wrote got : List ℕ) (heard_r heard_w : ℕ) (h : Core l c ring wrote got heard_r heard_w) where
  -- the writing end writes
  pub core_write : (bs : List ℕ) → length wrote + length bs ≤ heard_r + l → Core l c (put l ring (c + length wrote) bs) (wrote ++ bs) got heard_r heard_w
  core_write bs room =
      let e : length (wrote ++ bs) ≡ length wrote + length bs = length-append wrote bs in
      record {
        pos = h.pos;
        top = h.top;
        size = length_put l ring (c + length wrote) bs ∙ h.size;
        heard_r_late = h.heard_r_late;
        not_ahead = h.not_ahead;
        heard_w_late = omega (arith, h.heard_w_late);
        fits = omega arith;
        order = λ i q. h.order i q ∙ sym (get_or-append wrote bs 0 i (omega (arith, h.not_ahead, h.heard_w_late)));
        there = λ i lo hi. at i lo (rw e at hi) (dec_lt i (length wrote));
      }
    where
      at : (i : ℕ) → heard_r ≤ i → i < length wrote + length bs → Dec (i < length wrote) →
          get_or (put l ring (c + length wrote) bs) ((c + i) % l) 0 ≡ get_or (wrote ++ bs) i 0
      at i lo hi (yes q) =
          let e : c + length wrote ≡ (c + i) + (length wrote - i) = omega arith in
          rw (e, get_d_put_before l ring (c + i) (length wrote - i) bs (omega arith) (omega arith), get_or-append wrote bs 0 i q) (h.there i lo q)
      at i lo hi (no q) =
          let k : ℕ = i - length wrote in
          let e : length wrote + k ≡ i = omega arith in
          subst (λ (j : ℕ). get_or (put l ring (c + length wrote) bs) ((c + j) % l) 0 ≡ get_or (wrote ++ bs) j 0) e
          (rw (← add_assoc c (length wrote) k, get_or-append-add wrote bs k 0)
          (get_d_put_at l ring (c + length wrote) bs k h.size (omega (arith, h.heard_r_late, h.not_ahead, h.heard_w_late)) (omega arith)))

  -- the reading end reads
  pub core_read : (n : ℕ) → length got + n ≤ heard_w → Core l c ring wrote (got ++ get l ring (c + length got) n) heard_r heard_w
  core_read n known =
      let e : length (got ++ get l ring (c + length got) n) ≡ length got + n = rw (length-append, length_get) in
      record {
        pos = h.pos;
        top = h.top;
        size = h.size;
        heard_r_late = omega (arith, h.heard_r_late);
        not_ahead = omega arith;
        heard_w_late = h.heard_w_late;
        fits = h.fits;
        order = λ i q. at i (rw e at q) (dec_lt i (length got));
        there = h.there;
      }
    where
      at : (i : ℕ) → i < length got + n → Dec (i < length got) → get_or (got ++ get l ring (c + length got) n) i 0 ≡ get_or wrote i 0
      at i hi (yes q) = rw (get_or-append got (get l ring (c + length got) n) 0 i q) (h.order i q)
      at i hi (no q) =
          let k : ℕ = i - length got in
          let e : length got + k ≡ i = omega arith in
          subst (λ (j : ℕ). get_or (got ++ get l ring (c + length got) n) j 0 ≡ get_or wrote j 0) e
          (rw (get_or-append-add got (get l ring (c + length got) n) k 0, get_d_get l ring (c + length got) n k (omega arith), add_assoc)
          (h.there (length got + k) (omega (arith, h.heard_r_late)) (omega (arith, h.heard_w_late))))

  -- an end hears of the other's position, which is not behind what it heard last
  pub core_hear_r : (p : ℕ) → heard_r ≤ p → p ≤ length got → Core l c ring wrote got p heard_w
  core_hear_r p lo hi =
      record {
        pos = h.pos;
        top = h.top;
        size = h.size;
        heard_r_late = hi;
        not_ahead = h.not_ahead;
        heard_w_late = h.heard_w_late;
        fits = omega (arith, h.fits);
        order = h.order;
        there = λ i g q. h.there i (omega arith) q;
      }

  pub core_hear_w : (p : ℕ) → heard_w ≤ p → p ≤ length wrote → Core l c ring wrote got heard_r p
  core_hear_w p lo hi =
      record {
        pos = h.pos;
        top = h.top;
        size = h.size;
        heard_r_late = h.heard_r_late;
        not_ahead = omega (arith, h.not_ahead);
        heard_w_late = hi;
        fits = h.fits;
        order = h.order;
        there = h.there;
      }

  -- what was read is the front of what was written
  pub core_order : got ≡ take (length got) wrote
  core_order =
      let e : length got ≡ length (take (length got) wrote) = sym (length-take-le (length got) wrote (omega arith)) in
      ext_get_or 0 got (take (length got) wrote) e (λ i q. h.order i q ∙ sym (get_or-take (length got) wrote i 0 q))

  -- and what was not read, whole or its front, stands in the ring
  pub core_unread : (u : List ℕ) → length got + length u ≤ length wrote → ((k : ℕ) → k < length u → get_or u k 0 ≡ get_or wrote (length got + k) 0) →
      get l ring (c + length got) (length u) ≡ u
  core_unread u fit is =
      ext_get_or 0 (get l ring (c + length got) (length u)) u (length_get l ring (c + length got) (length u))
      (λ k q. at k (rw length_get at q))
    where
      at : (k : ℕ) → k < length u → get_or (get l ring (c + length got) (length u)) k 0 ≡ get_or u k 0
      at k q =
          rw (get_d_get l ring (c + length got) (length u) k q, is k q, add_assoc)
          (h.there (length got + k) (omega (arith, h.heard_r_late)) (omega arith))
