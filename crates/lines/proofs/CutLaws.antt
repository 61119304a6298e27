-- Laws of how lines are cut.
use Prim.Native.Nat.{ℕ, zero, suc, ◌+◌, ◌-◌, ◌<◌, ◌≤◌, min}
use borrow.Rule.Slice.PartMut.{put_mid}
use Rattle.std.specs.Prelude.{◌==◌, nat_lt, Some, None, position}
use Rattle.std.specs.List.{position_or_len}
use Rattle.std.proofs.lemmas.List.Quantifiers.{position-Some}
use Rattle.std.proofs.lemmas.List.Sums.{fails_before_first}
use mathlib.Core.Path.{◌≡◌, refl, sym, ap, subst, ◌∙◌}
use mathlib.Core.Bool.{Bool, true, false, cond}
use mathlib.Core.Logic.{◌⊎◌, inl, inr, ⊎_elim}
use mathlib.Core.List.{List, [], ◌∷◌, ◌++◌, append_assoc, append-nil}
use lib.Dec.{eqb}
use lib.ListN.{length, take, drop, get_or, set, length-append, length-take, length-drop, length-set, drop_of_length-le}
use lib.Seq.{sets, take-nil, take_all, take_at, take-take, take-suc-set, get_or-set_other}
use native.Mathlib.Numerals.{add-one}
use native.Mathlib.Omega.{arith}
use borrow.Author.Tests.{ltb-false, eqb-true, eqb-false, eq-eqb, ne_eqb, lt-ltb, le-ltb}
use Rattle.modular.proofs.Laws.{lt_or_le}
use Rattle.lines.specs.Cut.{hold_of, hold_all, Taken, took, take_in, capped, bound, take_of}
use Rattle.lines.specs.Lines.{Clean}
use Rattle.lines.specs.Promise.{Part, feed, no_feed, Held}
use Rattle.lines.specs.Text.{Filled, filled, text_in}
use Rattle.lines.proofs.TextLaws.{sets_copied}

-- ---- one byte more
module _ (most n : ℕ) (line : List ℕ) (b : ℕ) where
  pub hold_room : n < most → filled (n + 1) (set line n b) ≡ hold_of most (filled n line) b
  unfolding hold_of
  hold_room h = rw (lt-ltb _ _ h)

  pub hold_full : most ≤ n → filled n line ≡ hold_of most (filled n line) b
  unfolding hold_of
  hold_full h = rw (le-ltb _ _ h)

-- what holds of both outcomes holds of what is held
hold_either :
    (most : ℕ) (h : Filled) (b : ℕ) (P : Filled → Type 0) →
    (h.at < most → P (filled (h.at + 1) (set h.bytes h.at b))) → (most ≤ h.at → P h) → P (hold_of most h b)
hold_either most h b P room full =
    ⊎_elim
    (λ l. subst P (hold_room most h.at h.bytes b l) (room l))
    (λ g. subst P (hold_full most h.at h.bytes b g) (full g))
    (lt_or_le h.at most)

-- ---- the bytes of a part of a line, held behind those of before
pub record InPlace (most : ℕ) (h : Filled) : Type 0 where
  pub few : h.at ≤ most
  pub room : most ≤ length h.bytes

pub record Holds (most : ℕ) (h : Filled) (part : List ℕ) (g : Filled) : Type 0 where
  pub few : g.at ≤ most
  pub more : h.at ≤ g.at
  pub size : length g.bytes ≡ length h.bytes
  pub text : text_in g ≡ take most (text_in h ++ part)
  pub same : (j : ℕ) → (j < h.at) ⊎ (g.at ≤ j) → get_or g.bytes j 0 ≡ get_or h.bytes j 0

pub take_again : (k : ℕ) (xs ys : List ℕ) → take k (take k xs ++ ys) ≡ take k (xs ++ ys)
take_again zero xs ys = refl
take_again (suc k) [] ys = refl
take_again (suc k) (x ∷ xs) ys = ap (λ (zs : List ℕ). x ∷ zs) (take_again k xs ys)

module _ (most : ℕ) where
  pub holds_place : {h g : Filled} {part : List ℕ} → InPlace most h → Holds most h part g → InPlace most g
  holds_place p q = record { few = q.few; room = omega (arith, p.room, q.size) }

  holds_none : (h : Filled) → InPlace most h → Holds most h [] h
  holds_none h p =
      record {
        few = p.few;
        more = omega arith;
        size = refl;
        text = sym (take_all most (text_in h ++ []) (omega (arith, length-append (text_in h) [], length-take h.at h.bytes, p.few)) ∙ append-nil (text_in h));
        same = λ j u. refl;
      }

  holds_one : (h : Filled) (b : ℕ) → InPlace most h → Holds most h (b ∷ []) (hold_of most h b)
  holds_one h b p =
      hold_either most h b (Holds most h (b ∷ []))
      (λ l.
      record {
        few = omega arith;
        more = omega arith;
        size = length-set h.bytes h.at b;
        text =
            ap (λ (n : ℕ). take n (set h.bytes h.at b)) (add-one h.at)
            ∙ take-suc-set h.bytes h.at b (omega (arith, p.room))
            ∙ sym (take_all most (text_in h ++ (b ∷ [])) (omega (arith, length-append (text_in h) (b ∷ []), length-take h.at h.bytes)));
        same = λ j u. get_or-set_other h.bytes h.at j b 0 (λ e. ⊎_elim (λ k. omega arith) (λ k. omega arith) u);
      })
      (λ g.
      record {
        few = p.few;
        more = omega arith;
        size = refl;
        text = sym (take_at (text_in h) (b ∷ []) most (omega (arith, length-take h.at h.bytes, p.few, p.room)));
        same = λ j u. refl;
      })

  holds_then : {h g k : Filled} {a b : List ℕ} → Holds most h a g → Holds most g b k → Holds most h (a ++ b) k
  holds_then {h} {g} {k} {a} {b} p q =
      record {
        few = q.few;
        more = omega (arith, p.more, q.more);
        size = q.size ∙ p.size;
        text =
            q.text
            ∙ ap (λ (x : List ℕ). take most (x ++ b)) p.text
            ∙ take_again most (text_in h ++ a) b
            ∙ ap (take most) (append_assoc (text_in h) a b);
        same = λ j u. q.same j (⊎_elim (λ l. inl (omega (arith, p.more))) inr u) ∙ p.same j (⊎_elim inl (λ l. inr (omega (arith, q.more))) u);
      }

take_min : (a b : ℕ) (xs : List ℕ) → take (min a b) xs ≡ take b (take a xs)
take_min a b xs =
    ⊎_elim
    (λ l. let e : min a b ≡ a = omega arith in rw e (sym (take_all b (take a xs) (omega (arith, length-take a xs)))))
    (λ g. let e : min a b ≡ b = omega arith in rw e (sym (take-take b a xs g)))
    (lt_or_le a b)

-- ---- up to the next line feed
position_none : (p : ℕ → Bool) (xs : List ℕ) (k : ℕ) → position p xs ≡ None → k < length xs → p (get_or xs k 0) ≡ false
position_none p xs k e l = go (nat_lt (position_or_len p xs) (length xs)) refl e
  where
    go : (b : Bool) → nat_lt (position_or_len p xs) (length xs) ≡ b → cond b (Some (position_or_len p xs)) None ≡ None → p (get_or xs k 0) ≡ false
    go true q e = cc
    go false q e = fails_before_first p xs k 0 (omega (arith, ltb-false _ _ q))

-- what is left of a piece from an index on, where the index may lie behind it
pub rest_from : (piece : List ℕ) (i s : ℕ) → s ≡ min i (length piece) → take (length piece - s) (drop s piece) ≡ drop i piece
rest_from piece i s e =
    take_all (length piece - s) (drop s piece) (omega (arith, length-drop s piece))
    ∙ ⊎_elim
    (λ l. let f : s ≡ i = omega arith in ap (λ (k : ℕ). drop k piece) f)
    (λ g. drop_of_length-le piece {i = s} (omega arith) ∙ sym (drop_of_length-le piece {i = i} g))
    (lt_or_le i (length piece))

module _ (most : ℕ) (h : Filled) (i : ℕ) where
  take_none : take_in most h i [] ≡ took h i false
  unfolding take_in
  take_none = refl

  take_feed : (b : ℕ) (bs : List ℕ) → b ≡ 10 → take_in most h i (b ∷ bs) ≡ took h (i + 1) true
  unfolding take_in
  take_feed b bs e = rw (eq-eqb _ _ e)

  take_byte : (b : ℕ) (bs : List ℕ) → (b ≡ 10 → ⊥) → take_in most h i (b ∷ bs) ≡ take_in most (hold_of most h b) (i + 1) bs
  unfolding take_in
  take_byte b bs e = rw (ne_eqb _ _ e)

module _ (most : ℕ) where
  hold_none : (h : Filled) → hold_all most h [] ≡ h
  unfolding hold_all
  hold_none h = refl

  hold_more : (h : Filled) (b : ℕ) (bs : List ℕ) → hold_all most h (b ∷ bs) ≡ hold_all most (hold_of most h b) bs
  unfolding hold_all
  hold_more h b bs = refl

  -- what is held of some bytes is a copy of as many as have room
  hold_copied : (bs line : List ℕ) (n : ℕ) → n ≤ most → filled (n + length (take (most - n) bs)) (sets line n (take (most - n) bs)) ≡ hold_all most (filled n line) bs
  hold_copied [] line n h = rw take-nil (ap (λ (k : ℕ). filled k line) (omega arith) ∙ sym (hold_none (filled n line)))
  hold_copied (b ∷ bs) line n h =
      ⊎_elim
      (λ l.
      let e : most - n ≡ suc (most - suc n) = omega arith in
      let f : n + suc (length (take (most - suc n) bs)) ≡ suc n + length (take (most - suc n) bs) = omega arith in
      let below : suc n ≤ most = omega arith in
      rw e
      (ap (λ (k : ℕ). filled k (sets (set line n b) (suc n) (take (most - suc n) bs))) f
      ∙ hold_copied bs (set line n b) (suc n) below
      ∙ ap (λ (k : ℕ). hold_all most (filled k (set line n b)) bs) (sym (add-one n))
      ∙ ap (λ (g : Filled). hold_all most g bs) (hold_room most n line b l)
      ∙ sym (hold_more (filled n line) b bs)))
      (λ g.
      let e : most - n ≡ zero = omega arith in
      rw e
      (rw e at (hold_copied bs line n h)
      ∙ ap (λ (k : Filled). hold_all most k bs) (hold_full most n line b g)
      ∙ sym (hold_more (filled n line) b bs)))
      (lt_or_le n most)

  pub held_copied : (bytes line last : List ℕ) (n k : ℕ) → n ≤ most → most ≤ length line → k ≡ min (length bytes) (most - n) → last ≡ take k bytes →
      filled (n + k) (put_mid n (n + k - n) line last) ≡ hold_all most (filled n line) bytes
  held_copied bytes line last n k h m e p =
      let t : take k bytes ≡ take (most - n) bytes = rw e (take_min (length bytes) (most - n) bytes ∙ ap (take (most - n)) (take_all (length bytes) bytes (omega arith))) in
      let l : length (take (most - n) bytes) ≡ k = omega (arith, length-take (most - n) bytes) in
      ap (λ (x : ℕ). filled (n + x) (put_mid n (n + x - n) line last)) (sym l)
      ∙ ap (filled (n + length (take (most - n) bytes))) (sets_copied (take (most - n) bytes) line last n (omega arith) (p ∙ t))
      ∙ hold_copied bytes line n h

  -- up to the first line feed, or all
  taken_feed : (xs : List ℕ) (h : Filled) (i n : ℕ) → n < length xs → get_or xs n 0 ≡ 10 → ((k : ℕ) → k < n → get_or xs k 0 ≡ 10 → ⊥) →
      take_in most h i xs ≡ took (hold_all most h (take n xs)) (i + n + 1) true
  taken_feed [] h i n l e f = absurd (omega arith)
  taken_feed (b ∷ bs) h i zero l e f = take_feed most h i b bs e ∙ ap (λ (g : Filled). took g (i + 1) true) (sym (hold_none h)) ∙ ap (λ (k : ℕ). took (hold_all most h []) k true) (omega arith)
  taken_feed (b ∷ bs) h i (suc n) l e f =
      take_byte most h i b bs (f zero (omega arith))
      ∙ taken_feed bs (hold_of most h b) (i + 1) n (omega arith) e (λ k m. f (suc k) (omega arith))
      ∙ ap (λ (g : Filled). took g (i + 1 + n + 1) true) (sym (hold_more h b (take n bs)))
      ∙ ap (λ (k : ℕ). took (hold_all most h (b ∷ take n bs)) k true) (omega arith)

  taken_all : (xs : List ℕ) (h : Filled) (i : ℕ) → ((k : ℕ) → k < length xs → get_or xs k 0 ≡ 10 → ⊥) → take_in most h i xs ≡ took (hold_all most h xs) (i + length xs) false
  taken_all [] h i f = take_none most h i ∙ ap (λ (g : Filled). took g i false) (sym (hold_none h)) ∙ ap (λ (k : ℕ). took (hold_all most h []) k false) (omega arith)
  taken_all (b ∷ bs) h i f =
      take_byte most h i b bs (f zero (omega arith))
      ∙ taken_all bs (hold_of most h b) (i + 1) (λ k m. f (suc k) (omega arith))
      ∙ ap (λ (g : Filled). took g (i + 1 + length bs) false) (sym (hold_more h b bs))
      ∙ ap (λ (k : ℕ). took (hold_all most h (b ∷ bs)) k false) (omega arith)

pub record Cut (most : ℕ) (h : Filled) (i : ℕ) (xs : List ℕ) (t : Taken) : Type 0 where
  pub part : List ℕ
  pub is : Part xs i part t.next t.whole
  pub clean : Clean part
  pub holds : Holds most h part t.held

part_more : (b : ℕ) {xs part : List ℕ} {i next : ℕ} {w : Bool} → Part xs (i + 1) part next w → Part (b ∷ xs) i (b ∷ part) next w
part_more b (feed rest e n w) = feed rest (ap (λ (x : List ℕ). b ∷ x) e) (omega arith) w
part_more b (no_feed e n w) = no_feed (ap (λ (x : List ℕ). b ∷ x) e) (omega arith) w

pub cut : (most : ℕ) (xs : List ℕ) (h : Filled) (i : ℕ) → InPlace most h → Cut most h i xs (take_in most h i xs)
cut most [] h i p =
    rw (take_none most h i) (record { part = []; is = no_feed refl (omega arith) refl; clean = tt; holds = holds_none most h p })
cut most (b ∷ bs) h i p = go (eqb b 10) refl (λ q. cut most bs (hold_of most h b) (i + 1) q)
  where
    go :
        (t : Bool) → eqb b 10 ≡ t → (InPlace most (hold_of most h b) → Cut most (hold_of most h b) (i + 1) bs (take_in most (hold_of most h b) (i + 1) bs)) →
        Cut most h i (b ∷ bs) (take_in most h i (b ∷ bs))
    go true e more =
        let f : b ≡ 10 = eqb-true b 10 e in
        rw (take_feed most h i b bs f) (record { part = []; is = feed bs (ap (λ (x : ℕ). x ∷ bs) f) (omega arith) refl; clean = tt; holds = holds_none most h p })
    go false e more =
        let one : Holds most h (b ∷ []) (hold_of most h b) = holds_one most h b p in
        let c : Cut most (hold_of most h b) (i + 1) bs (take_in most (hold_of most h b) (i + 1) bs) = more (holds_place most p one) in
        rw (take_byte most h i b bs (eqb-false b 10 e))
        (record { part = b ∷ c.part; is = part_more b c.is; clean = (eqb-false b 10 e, c.clean); holds = holds_then most one c.holds })

-- ---- from any count, into any buffer
place_capped : (most : ℕ) (h : Filled) → InPlace (bound most h) (capped (bound most h) h)
place_capped most h = record { few = omega arith; room = omega arith }

pub cut_of : (most : ℕ) (h : Filled) (i : ℕ) (piece : List ℕ) → Cut (bound most h) (capped (bound most h) h) i (drop i piece) (take_of most h i piece)
cut_of most h i piece = cut (bound most h) (drop i piece) (capped (bound most h) h) i (place_capped most h)

pub held_of : (most : ℕ) (h : Filled) (part : List ℕ) (g : Filled) → Clean part → Holds (bound most h) (capped (bound most h) h) part g → Held most h.bytes h.at part g.bytes g.at
held_of most h part g c p =
    record {
      clean = c;
      few = p.few;
      is = p.text ∙ ap (λ (x : List ℕ). take (bound most h) (x ++ part)) (take_min h.at (bound most h) h.bytes) ∙ take_again (bound most h) (text_in h) part;
      same = λ j u. p.same j (⊎_elim (λ l. ⊎_elim inl (λ k. inr (omega (arith, p.few))) (lt_or_le j (min h.at (bound most h)))) inr u);
    }

module _ (most : ℕ) (h : Filled) (i : ℕ) (piece : List ℕ) where
  pub take_bounded : (m k : ℕ) {t : Taken} → t ≡ take_in m (filled k h.bytes) i (drop i piece) → m ≡ bound most h → k ≡ min h.at m → t ≡ take_of most h i piece
  take_bounded m k e p q =
      e
      ∙ ap (λ (x : ℕ). take_in m (filled x h.bytes) i (drop i piece)) q
      ∙ ap (λ (x : ℕ). take_in x (capped x h) i (drop i piece)) p

  -- up to the first line feed of what is left of the piece, or all of it
  pub take_whole : (m k n : ℕ) (rest : List ℕ) {g : Filled} → m ≡ bound most h → k ≡ min h.at m → rest ≡ drop i piece → position (λ b. b == 10) rest ≡ Some n →
      g ≡ hold_all m (filled k h.bytes) (take n rest) → took g (i + n + 1) true ≡ take_of most h i piece
  take_whole m k n rest p q e f r =
      let first = position-Some (λ b. b == 10) rest n 0 f in
      take_bounded m k
      (ap (λ (x : Filled). took x (i + n + 1) true) r
      ∙ sym (taken_feed m rest (filled k h.bytes) i n first.0 (eqb-true (get_or rest n 0) 10 first.1) (λ j l. eqb-false (get_or rest j 0) 10 (first.2 j l)))
      ∙ ap (take_in m (filled k h.bytes) i) e)
      p q

  pub take_part : (m k : ℕ) (rest : List ℕ) {g : Filled} → m ≡ bound most h → k ≡ min h.at m → rest ≡ drop i piece → position (λ b. b == 10) rest ≡ None →
      g ≡ hold_all m (filled k h.bytes) rest → took g (i + length rest) false ≡ take_of most h i piece
  take_part m k rest p q e f r =
      take_bounded m k
      (ap (λ (x : Filled). took x (i + length rest) false) r
      ∙ sym (taken_all m rest (filled k h.bytes) i (λ j l. eqb-false (get_or rest j 0) 10 (position_none (λ b. b == 10) rest j f l)))
      ∙ ap (take_in m (filled k h.bytes) i) e)
      p q

  pub take_in_place : InPlace most h → take_of most h i piece ≡ take_in most h i (drop i piece)
  take_in_place p =
      let b : bound most h ≡ most = omega (arith, p.room) in
      let n : min h.at most ≡ h.at = omega (arith, p.few) in
      ap (λ (x : ℕ). take_in x (capped x h) i (drop i piece)) b
      ∙ ap (λ (x : ℕ). take_in most (filled x h.bytes) i (drop i piece)) n

-- what was taken lies in the buffer
pub took_within : (most l i : ℕ) (line piece : List ℕ) {n k : ℕ} {line' : List ℕ} {w : Bool} → took (filled n line') k w ≡ take_of most (filled l line) i piece → n ≤ length line
took_within most l i line piece e =
    omega (arith, ap (λ (t : Taken). t.held.at) e, (cut_of most (filled l line) i piece).holds.few)
