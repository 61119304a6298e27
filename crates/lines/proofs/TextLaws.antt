-- Laws of a text that is stored in a buffer.
use Prim.Native.Nat.{ℕ, suc, ◌+◌, ◌-◌, ◌<◌, ◌≤◌}
use mathlib.Core.Path.{◌≡◌, refl, sym, ap, ◌∙◌}
use mathlib.Core.Bool.{Bool, true, false, cond}
use mathlib.Core.List.{List, [], ◌∷◌, ◌++◌, append_assoc}
use mathlib.Core.Logic.{⊎_elim}
use lib.Dec.{leb}
use lib.ListN.{length, take, drop, get_or, set, length-append}
use lib.Seq.{sets, sets-eq, length-sets, take_at, length-take-le, drop-drop, get_or-set_other}
use borrow.Rule.Slice.PartMut.{put_mid}
use native.Mathlib.Omega.{arith}
use borrow.Author.Tests.{leb-true, leb-false, le-leb, lt-leb}
use Rattle.modular.proofs.Laws.{lt_or_le}
use Rattle.lines.specs.Promise.{Behind, there, no_room}
use Rattle.lines.specs.Stored.{Stored, Stores}
use Rattle.lines.specs.Text.{Filled, filled, has_room, append_of, put_of}

-- ---- tests
pub same_leb : (a b c d : ℕ) → (a ≤ b → c ≤ d) → (c ≤ d → a ≤ b) → leb a b ≡ leb c d
same_leb a b c d f g = go (leb a b) refl
  where
    go : (t : Bool) → leb a b ≡ t → t ≡ leb c d
    go true q = sym (le-leb c d (f (leb-true a b q)))
    go false q = sym (lt-leb c d (⊎_elim (λ h. h) (λ h. absurd (omega (arith, g h, leb-false a b q))) (lt_or_le d c)))

-- ---- stores, one run behind the other
sets_append : (a b l : List ℕ) (i : ℕ) → sets l i (a ++ b) ≡ sets (sets l i a) (i + length a) b
sets_append [] b l i = ap (λ (k : ℕ). sets l k b) (omega arith)
sets_append (x ∷ a) b l i = sets_append a b (set l i x) (suc i) ∙ ap (λ (k : ℕ). sets (sets (set l i x) (suc i) a) k b) (omega arith)

-- a text that was copied into its place
pub sets_copied : (text out last : List ℕ) (at : ℕ) → at + length text ≤ length out → last ≡ text → put_mid at (at + length text - at) out last ≡ sets out at text
sets_copied text out last at h e =
    let n : at + length text - at ≡ length text = omega arith in
    rw (e, n, drop-drop, sets-eq text out at h, append_assoc) refl

-- what stands before the end of a text
sets_taken : (text l : List ℕ) (i : ℕ) → i + length text ≤ length l → take (i + length text) (sets l i text) ≡ take i l ++ text
sets_taken text l i h =
    ap (λ (x : List ℕ). take (i + length text) x) (sets-eq text l i h)
    ∙ take_at (take i l ++ text) (drop (i + length text) l) (i + length text) (length-append (take i l) text ∙ ap (λ (k : ℕ). k + length text) (length-take-le i l (omega arith)))

sets_other : (text l : List ℕ) (i j : ℕ) → (i ≤ j → j < i + length text → ⊥) → get_or (sets l i text) j 0 ≡ get_or l j 0
sets_other [] l i j n = refl
sets_other (x ∷ text) l i j n = sets_other text (set l i x) (suc i) j (λ p q. n (omega arith) (omega arith)) ∙ get_or-set_other l i j x 0 (λ e. n (omega arith) (omega arith))

-- ---- the text behind what a buffer holds
pub append_room : (longest : ℕ) (text out out' : List ℕ) (at r : ℕ) → has_room longest (filled at out) ≡ true → Stored out at text out' r → filled r out' ≡ append_of longest text (filled at out)
unfolding append_of
append_room longest text out out' at r h p = rw (h, p.end, p.bytes)

pub append_full : (longest : ℕ) (text out : List ℕ) (at : ℕ) → has_room longest (filled at out) ≡ false → filled at out ≡ append_of longest text (filled at out)
unfolding append_of
append_full longest text out at h = rw h

pub append_taken : (longest : ℕ) (text : List ℕ) (o : Filled) → has_room longest o ≡ true → length text ≤ longest →
    take (append_of longest text o).at (append_of longest text o).bytes ≡ take o.at o.bytes ++ text
unfolding append_of
append_taken longest text o h k =
    let r : o.at + longest ≤ length o.bytes = leb-true _ _ h in
    rw h (sets_taken text o.bytes o.at (omega arith))

-- of the buffer no byte changes but those of the text
pub append_other : (longest : ℕ) (text : List ℕ) (o : Filled) (j : ℕ) → (o.at ≤ j → j < (append_of longest text o).at → ⊥) → get_or (append_of longest text o).bytes j 0 ≡ get_or o.bytes j 0
unfolding append_of
append_other longest text o j = go (has_room longest o)
  where
    go :
        (b : Bool) → (o.at ≤ j → j < (cond b (filled (o.at + length text) (sets o.bytes o.at text)) o).at → ⊥) →
        get_or (cond b (filled (o.at + length text) (sets o.bytes o.at text)) o).bytes j 0 ≡ get_or o.bytes j 0
    go true n = sets_other text o.bytes o.at j n
    go false n = refl

pub appended : (longest : ℕ) (text before : List ℕ) (at : ℕ) → length text ≤ longest → Behind before at text longest (append_of longest text (filled at before)).at (append_of longest text (filled at before)).bytes
unfolding append_of
appended longest text before at l = ⊎_elim none some (lt_or_le (length before) (at + longest))
  where
    none : length before < at + longest → Behind before at text longest (append_of longest text (filled at before)).at (append_of longest text (filled at before)).bytes
    none g = rw (lt-leb _ _ g) (no_room g)

    some : at + longest ≤ length before → Behind before at text longest (append_of longest text (filled at before)).at (append_of longest text (filled at before)).bytes
    some g =
        let f : at + length text ≤ length before = omega arith in
        rw (le-leb _ _ g, sets-eq text before at f) (there g)

-- ---- texts one behind the other, where there is room for all of them
pub stores_put : (text : List ℕ) {out out' : List ℕ} {at r : ℕ} → filled r out' ≡ put_of text (filled at out) → Stores out at text out' r
unfolding append_of
stores_put text {out} {out'} {at} {r} e h =
    let p : filled r out' ≡ filled (at + length text) (sets out at text) = rw (le-leb (at + length text) (length out) h) at e in
    record { end = ap (λ (x : Filled). x.at) p; bytes = ap (λ (x : Filled). x.bytes) p }

pub stores_then : {l l₁ l₂ a b : List ℕ} {i r₁ r₂ : ℕ} → Stores l i a l₁ r₁ → Stores l₁ r₁ b l₂ r₂ → Stores l i (a ++ b) l₂ r₂
stores_then {l} {l₁} {l₂} {a} {b} {i} {r₁} {r₂} p q h =
    let s : Stored l i a l₁ r₁ = p (omega (arith, length-append a b)) in
    let e : length l₁ ≡ length l = ap length s.bytes ∙ length-sets l i a in
    let t : Stored l₁ r₁ b l₂ r₂ = q (omega (arith, length-append a b)) in
    record {
      end = omega (arith, length-append a b);
      bytes = t.bytes ∙ ap (λ (x : List ℕ). sets x r₁ b) s.bytes ∙ ap (λ (k : ℕ). sets (sets l i a) k b) s.end ∙ sym (sets_append a b l i);
    }
