-- Laws of a step and of the input's end.
use Prim.Native.Nat.{ℕ, ◌+◌, ◌-◌, ◌<◌, ◌≤◌, min}
use mathlib.Core.Path.{◌≡◌, refl, sym, ap, subst, ◌∙◌}
use mathlib.Core.Bool.{Bool, true, false}
use mathlib.Core.List.{List, ◌∷◌, ◌++◌}
use mathlib.Core.Logic.{◌⊎◌, inl, inr, ⊎_elim}
use lib.ListN.{length, take, drop, get_or, length-append, length-take, length-drop}
use native.Mathlib.Omega.{arith}
use borrow.Author.Tests.{eq-eqb, ne_eqb, le-leb, lt-leb}
use Rattle.modular.proofs.Laws.{lt_or_le}
use Rattle.lines.specs.Answer.{Step, step, is_ready, step_after, step_of, last_of}
use Rattle.lines.specs.Cut.{Taken, took, capped, bound, take_of}
use Rattle.lines.specs.Promise.{Part, feed, no_feed}
use Rattle.lines.specs.Text.{Filled, filled, text_in, has_room, append_of}
use Rattle.lines.proofs.CutLaws.{Holds, Cut, cut_of, held_of}
use Rattle.lines.proofs.TextLaws.{append_other}

-- ---- room
module _ (most longest : ℕ) (line : List ℕ) (o : Filled) where
  pub ready_short : length line < most → false ≡ is_ready most longest line o
  unfolding is_ready
  ready_short h = rw (lt-leb most (length line) h)

  pub ready_long : most ≤ length line → has_room longest o ≡ is_ready most longest line o
  unfolding is_ready
  ready_long h = rw (le-leb most (length line) h)

  pub ready_room : is_ready most longest line o ≡ true → most ≤ length line
  ready_room p =
      ⊎_elim
      (λ short. absurd (let z : false ≡ true = ready_short short ∙ p in cc))
      (λ long. long)
      (lt_or_le (length line) most)

  pub ready_there : most ≤ length line → o.at + longest ≤ length o.bytes → is_ready most longest line o ≡ true
  ready_there h g = sym (ready_long h) ∙ le-leb _ _ g

  pub unready : (length line < most) ⊎ (length o.bytes < o.at + longest) → is_ready most longest line o ≡ false
  unready =
      ⊎_elim
      (λ short. sym (ready_short short))
      (λ full. ⊎_elim (λ short. sym (ready_short short)) (λ long. sym (ready_long long) ∙ lt-leb _ _ full) (lt_or_le (length line) most))

-- ---- what was taken
part_moves : {bytes part : List ℕ} {i next : ℕ} {w : Bool} → Part bytes i part next w → (i + min 1 (length bytes) ≤ next) × (next ≤ i + length bytes) × (i + length part ≤ next)
part_moves {bytes} {part} {i} {next} {w} (feed rest e n q) = let l = ap length e ∙ length-append part (10 ∷ rest) in (omega (arith, l), omega (arith, l), omega arith)
part_moves {bytes} {part} {i} {next} {w} (no_feed e n q) = let l = ap length e in (omega (arith, l), omega (arith, l), omega arith)

-- no more is held than was held and taken
held_few : (h : Filled) (part : List ℕ) (g : Filled) (most : ℕ) → Holds (bound most h) (capped (bound most h) h) part g → g.at ≤ h.at + length part
held_few h part g most p =
    let held : List ℕ = text_in (capped (bound most h) h) in
    omega (
      arith,
      ap length p.text,
      length-take g.at g.bytes,
      length-take (bound most h) (held ++ part),
      length-append held part,
      length-take (min h.at (bound most h)) h.bytes,
      p.size,
      p.few,
    )

module _ (text : List ℕ → List ℕ) (most longest : ℕ) where
  -- ---- the last line
  module _ (n : ℕ) (line : List ℕ) (o : Filled) where
    pub last_unready : is_ready most longest line o ≡ false → o ≡ last_of text most longest (filled n line) o
    unfolding last_of
    last_unready p = rw p

    pub last_none : is_ready most longest line o ≡ true → n ≡ 0 → o ≡ last_of text most longest (filled n line) o
    unfolding last_of
    last_none p e = rw (p, eq-eqb _ _ e)

    pub last_there : is_ready most longest line o ≡ true → (n ≡ 0 → ⊥) → (k : ℕ) → k ≡ min n most → append_of longest (text (take k line)) o ≡ last_of text most longest (filled n line) o
    unfolding last_of
    last_there p e k q = rw (p, ne_eqb _ _ e, q)

  -- ---- a step
  after_whole : (t : Taken) (o : Filled) → t.whole ≡ true → step_after text longest t o ≡ step (filled 0 t.held.bytes) t.next (append_of longest (text (text_in t.held)) o)
  unfolding step_after
  after_whole t o e = rw e

  after_part : (t : Taken) (o : Filled) → t.whole ≡ false → step_after text longest t o ≡ step t.held t.next o
  unfolding step_after
  after_part t o e = rw e

  after_next : (t : Taken) (o : Filled) → (step_after text longest t o).next ≡ t.next
  after_next t o = go t.whole refl
    where
      go : (b : Bool) → t.whole ≡ b → (step_after text longest t o).next ≡ t.next
      go true e = ap (λ (s : Step). s.next) (after_whole t o e)
      go false e = ap (λ (s : Step). s.next) (after_part t o e)

  module _ (h : Filled) (i : ℕ) (piece : List ℕ) (o : Filled) where
    pub step_unready : is_ready most longest h.bytes o ≡ false → step h i o ≡ step_of text most longest h i piece o
    unfolding step_of
    step_unready p = rw p

    step_ready : is_ready most longest h.bytes o ≡ true → step_after text longest (take_of most h i piece) o ≡ step_of text most longest h i piece o
    unfolding step_of
    step_ready p = rw p

    module _ (p : is_ready most longest h.bytes o ≡ true) where
      pub ready_whole : (take_of most h i piece).whole ≡ true → step_of text most longest h i piece o ≡ step (filled 0 (take_of most h i piece).held.bytes) (take_of most h i piece).next (append_of longest (text (text_in (take_of most h i piece).held)) o)
      ready_whole w = sym (step_ready p) ∙ after_whole (take_of most h i piece) o w

      pub ready_part : (take_of most h i piece).whole ≡ false → step_of text most longest h i piece o ≡ step (take_of most h i piece).held (take_of most h i piece).next o
      ready_part w = sym (step_ready p) ∙ after_part (take_of most h i piece) o w

      -- as the code takes it
      module _ {n k : ℕ} {line : List ℕ} {w : Bool} (q : took (filled n line) k w ≡ take_of most h i piece) where
        pub step_whole : w ≡ true → step (filled 0 line) k (append_of longest (text (take n line)) o) ≡ step_of text most longest h i piece o
        step_whole e = sym (after_whole (took (filled n line) k w) o e) ∙ ap (λ (t : Taken). step_after text longest t o) q ∙ step_ready p

        pub step_part : w ≡ false → step (filled n line) k o ≡ step_of text most longest h i piece o
        step_part e = sym (after_part (took (filled n line) k w) o e) ∙ ap (λ (t : Taken). step_after text longest t o) q ∙ step_ready p

    -- what holds of each outcome holds of the step
    step_either :
        (P : Step → Type 0) → P (step h i o) →
        P (step (filled 0 (take_of most h i piece).held.bytes) (take_of most h i piece).next (append_of longest (text (text_in (take_of most h i piece).held)) o)) →
        P (step (take_of most h i piece).held (take_of most h i piece).next o) → P (step_of text most longest h i piece o)
    step_either P none whole part = go (is_ready most longest h.bytes o) refl (take_of most h i piece).whole refl
      where
        go : (r : Bool) → is_ready most longest h.bytes o ≡ r → (w : Bool) → (take_of most h i piece).whole ≡ w → P (step_of text most longest h i piece o)
        go false p w q = subst P (step_unready p) none
        go true p true q = subst P (sym (ready_whole p q)) whole
        go true p false q = subst P (sym (ready_part p q)) part

    -- ---- it goes on, and not over the piece's end
    pub step_moves : is_ready most longest h.bytes o ≡ true → i < length piece → (i < (step_of text most longest h i piece o).next) × ((step_of text most longest h i piece o).next ≤ length piece)
    step_moves p l =
        let e : (step_after text longest (take_of most h i piece) o).next ≡ (take_of most h i piece).next = after_next (take_of most h i piece) o in
        let n : (step_of text most longest h i piece o).next ≡ (take_of most h i piece).next = ap (λ (s : Step). s.next) (sym (step_ready p)) ∙ e in
        let m = part_moves (cut_of most h i piece).is in
        (omega (arith, m.0, length-drop i piece), omega (arith, m.1, length-drop i piece))

    -- ---- of the two buffers no byte changes but where text is appended, and as many as were taken are held
    abbrev SameOut : ℕ → Step → Type 0
    SameOut j s = (j < o.at) ⊎ (s.out.at ≤ j) → get_or s.out.bytes j 0 ≡ get_or o.bytes j 0

    abbrev SameHeld : ℕ → Step → Type 0
    SameHeld j s = (j < h.at) ⊎ (h.at + (s.next - i) ≤ j) → get_or s.held.bytes j 0 ≡ get_or h.bytes j 0

    pub step_other : (j : ℕ) → SameOut j (step_of text most longest h i piece o) × SameHeld j (step_of text most longest h i piece o)
    step_other j = (
      step_either (SameOut j) (λ u. refl) (λ u. append_other longest (text (text_in (take_of most h i piece).held)) o j (λ p r. ⊎_elim (λ l. omega arith) (λ g. omega arith) u)) (λ u. refl),
      step_either (SameHeld j) (λ u. refl) held held,
    )
      where
        held : (j < h.at) ⊎ (h.at + ((take_of most h i piece).next - i) ≤ j) → get_or (take_of most h i piece).held.bytes j 0 ≡ get_or h.bytes j 0
        held u =
            let c : Cut (bound most h) (capped (bound most h) h) i (drop i piece) (take_of most h i piece) = cut_of most h i piece in
            let few : (take_of most h i piece).held.at ≤ h.at + length c.part = held_few h c.part (take_of most h i piece).held most c.holds in
            (held_of most h c.part (take_of most h i piece).held c.clean c.holds).same j (⊎_elim inl (λ g. inr (omega (arith, part_moves c.is))) u)
