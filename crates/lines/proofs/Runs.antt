-- Every run over the same input makes the same text, that of the input's lines: however the input is cut into pieces, and
-- whenever text is written out. It takes calls that answer what the definitions say.
use Prim.Native.Nat.{ℕ, ◌+◌, ◌<◌, ◌≤◌}
use mathlib.Core.Path.{◌≡◌, refl, sym, ap, ◌∙◌}
use mathlib.Core.Bool.{Bool, true, false}
use mathlib.Core.List.{List, [], ◌∷◌, ◌++◌, append_assoc, append-nil}
use lib.Dec.{eqb}
use lib.ListN.{length, take, drop, length-append, length-take, drop_of_length-le}
use lib.Seq.{take-nil, drop-drop, drop_at}
use native.Mathlib.Omega.{arith}
use borrow.Author.Tests.{eqb-true, eqb-false, ne_eqb}
use Rattle.lines.specs.Answer.{texts_of, Step, is_ready, step_of, last_of}
use Rattle.lines.specs.Cut.{Taken, take_of}
use Rattle.lines.specs.Lines.{last_lines, lines_from, lines_of, joined, Clean}
use Rattle.lines.specs.Promise.{Part, feed, no_feed}
use Rattle.lines.specs.Run.{Place, Moves, ends, steps, writes, Run, last, next, Start}
use Rattle.lines.specs.Text.{Filled, text_in, append_of}
use Rattle.lines.proofs.AnswerLaws.{ready_long, ready_there, last_none, last_there, ready_whole, ready_part}
use Rattle.lines.proofs.CutLaws.{InPlace, Holds, holds_place, Cut, cut, take_again, take_in_place}
use Rattle.lines.proofs.TextLaws.{append_taken}

-- ---- lines
feed_lines : (line xs : List ℕ) → lines_from line (10 ∷ xs) ≡ line ∷ lines_from [] xs
unfolding lines_from
feed_lines line xs = refl

byte_lines : (line : List ℕ) (b : ℕ) (xs : List ℕ) → (b ≡ 10 → ⊥) → lines_from line (b ∷ xs) ≡ lines_from (line ++ (b ∷ [])) xs
unfolding lines_from
byte_lines line b xs n = rw (ne_eqb b 10 n)

part_lines : (part line xs : List ℕ) → Clean part → lines_from line (part ++ xs) ≡ lines_from (line ++ part) xs
part_lines [] line xs c = ap (λ (l : List ℕ). lines_from l xs) (sym (append-nil line))
part_lines (b ∷ part) line xs c =
    byte_lines line b (part ++ xs) c.0
    ∙ part_lines part (line ++ (b ∷ [])) xs c.1
    ∙ ap (λ (l : List ℕ). lines_from l xs) (append_assoc line (b ∷ []) part)

module _ (text : List ℕ → List ℕ) (most longest : ℕ) (some-held : 0 < most) (kept : (line : List ℕ) → text (take most line) ≡ text line) (short : (line : List ℕ) → length (text line) ≤ longest) where
  -- the text that is due where a line is held and bytes are still to come
  abbrev pub due : List ℕ → List ℕ → List ℕ
  due line xs = texts_of text (lines_from line xs)

  due_end : (line : List ℕ) → 0 < length line → due line [] ≡ text line
  unfolding texts_of lines_from last_lines
  due_end [] h = absurd (omega arith)
  due_end (x ∷ line) h = append-nil (text (x ∷ line))

  due_none : due [] [] ≡ []
  unfolding texts_of lines_from last_lines
  due_none = refl

  due_feed : (line xs : List ℕ) → due line (10 ∷ xs) ≡ text line ++ due [] xs
  unfolding texts_of
  due_feed line xs = ap (texts_of text) (feed_lines line xs)

  -- what is held of a line tells what is due
  due_kept : (xs line : List ℕ) → due (take most line) xs ≡ due line xs
  due_kept [] [] = ap (λ (l : List ℕ). due l []) (take-nil most)
  due_kept [] (x ∷ line) =
      due_end (take most (x ∷ line)) (omega (arith, length-take most (x ∷ line)))
      ∙ kept (x ∷ line)
      ∙ sym (due_end (x ∷ line) (omega arith))
  due_kept (b ∷ bs) line = go (eqb b 10) refl (due_kept bs (take most line ++ (b ∷ []))) (due_kept bs (line ++ (b ∷ [])))
    where
      go :
          (t : Bool) → eqb b 10 ≡ t → due (take most (take most line ++ (b ∷ []))) bs ≡ due (take most line ++ (b ∷ [])) bs →
          due (take most (line ++ (b ∷ []))) bs ≡ due (line ++ (b ∷ [])) bs → due (take most line) (b ∷ bs) ≡ due line (b ∷ bs)
      go true e p q =
          rw (eqb-true b 10 e) (due_feed (take most line) bs ∙ ap (λ (x : List ℕ). x ++ due [] bs) (kept line) ∙ sym (due_feed line bs))
      go false e p q =
          ap (texts_of text) (byte_lines (take most line) b bs (eqb-false b 10 e))
          ∙ sym p
          ∙ ap (λ (l : List ℕ). due l bs) (take_again most line (b ∷ []))
          ∙ q
          ∙ sym (ap (texts_of text) (byte_lines line b bs (eqb-false b 10 e)))

  due_part : (line part xs : List ℕ) → Clean part → due line (part ++ xs) ≡ due (take most (line ++ part)) xs
  due_part line part xs c = ap (texts_of text) (part_lines part line xs c) ∙ sym (due_kept xs (line ++ part))

  -- ---- a step
  -- the text so far, and what is due
  abbrev pub whole : Filled → Filled → List ℕ → List ℕ → List ℕ
  whole h o written xs = (written ++ text_in o) ++ due (text_in h) xs

  pub record Stepped (h : Filled) (i : ℕ) (piece : List ℕ) (o : Filled) (s : Step) : Type 0 where
    pub same : (written later : List ℕ) → whole h o written (drop i piece ++ later) ≡ whole s.held s.out written (drop s.next piece ++ later)
    pub place : InPlace most s.held

  rest_at : (piece part rest : List ℕ) (i n : ℕ) → drop i piece ≡ part ++ rest → n ≡ i + length part → drop n piece ≡ rest
  rest_at piece part rest i n e p =
      ap (λ (k : ℕ). drop k piece) p ∙ sym (drop-drop (length part) i piece) ∙ ap (drop (length part)) e ∙ drop_at part rest (length part) refl

  module _ (h : Filled) (i : ℕ) (piece : List ℕ) (o : Filled) (k : InPlace most h) (p : is_ready most longest h.bytes o ≡ true) where
    abbrev t : Taken
    t = take_of most h i piece

    -- the answer's text stands behind what the buffer held
    answered : (line written more : List ℕ) → (written ++ text_in o) ++ (text line ++ more) ≡ (written ++ text_in (append_of longest (text line) o)) ++ more
    answered line written more =
        sym (append_assoc (written ++ text_in o) (text line) more)
        ∙ ap (λ (x : List ℕ). x ++ more)
        (append_assoc written (text_in o) (text line)
        ∙ ap (λ (x : List ℕ). written ++ x) (sym (append_taken longest (text line) o (ready_long most longest h.bytes o k.room ∙ p) (short line))))

    part_due : (part xs : List ℕ) → Clean part → Holds most h part t.held → due (text_in h) (part ++ xs) ≡ due (text_in t.held) xs
    part_due part xs c g = due_part (text_in h) part xs c ∙ ap (λ (l : List ℕ). due l xs) (sym g.text)

    stepped_by_lem : (part : List ℕ) → Part (drop i piece) i part t.next t.whole → Clean part → Holds most h part t.held → Stepped h i piece o (step_of text most longest h i piece o)
    stepped_by_lem part (feed rest e n w) c g =
        let behind : drop t.next piece ≡ rest = rest_at piece (part ++ (10 ∷ [])) rest i t.next (e ∙ sym (append_assoc part (10 ∷ []) rest)) (omega (arith, length-append part (10 ∷ []))) in
        rw (ready_whole text most longest h i piece o p w)
        (record {
          same = λ written later.
              ap (λ (x : List ℕ). (written ++ text_in o) ++ due (text_in h) x) (ap (λ (x : List ℕ). x ++ later) e ∙ append_assoc part (10 ∷ rest) later)
              ∙ ap (λ (x : List ℕ). (written ++ text_in o) ++ x) (part_due part (10 ∷ (rest ++ later)) c g ∙ due_feed (text_in t.held) (rest ++ later))
              ∙ answered (text_in t.held) written (due [] (rest ++ later))
              ∙ ap (λ (x : List ℕ). (written ++ text_in (append_of longest (text (text_in t.held)) o)) ++ due [] (x ++ later)) (sym behind);
          place = record { few = omega arith; room = (holds_place most k g).room };
        })
    stepped_by_lem part (no_feed e n w) c g =
        let behind : drop t.next piece ≡ [] = rest_at piece part [] i t.next (e ∙ sym (append-nil part)) n in
        rw (ready_part text most longest h i piece o p w)
        (record {
          same = λ written later.
              ap (λ (x : List ℕ). (written ++ text_in o) ++ due (text_in h) (x ++ later)) e
              ∙ ap (λ (x : List ℕ). (written ++ text_in o) ++ x) (part_due part later c g)
              ∙ ap (λ (x : List ℕ). (written ++ text_in o) ++ due (text_in t.held) (x ++ later)) (sym behind);
          place = holds_place most k g;
        })

    pub stepped : Stepped h i piece o (step_of text most longest h i piece o)
    stepped =
        let c : Cut most h i (drop i piece) t = rw (take_in_place most h i piece k) (cut most (drop i piece) h i k) in
        stepped_by_lem c.part c.is c.clean c.holds

    -- ---- the input's end
    pub finished : (written : List ℕ) → whole h o written [] ≡ written ++ text_in (last_of text most longest h o)
    finished written = go (eqb h.at 0) refl
      where
        go : (b : Bool) → eqb h.at 0 ≡ b → whole h o written [] ≡ written ++ text_in (last_of text most longest h o)
        go true e =
            let z : h.at ≡ 0 = eqb-true h.at 0 e in
            ap (λ (n : ℕ). (written ++ text_in o) ++ due (take n h.bytes) []) z
            ∙ ap (λ (x : List ℕ). (written ++ text_in o) ++ x) due_none
            ∙ append-nil (written ++ text_in o)
            ∙ ap (λ (x : Filled). written ++ text_in x) (last_none text most longest h.at h.bytes o p z)
        go false e =
            ap (λ (x : List ℕ). (written ++ text_in o) ++ x) (due_end (text_in h) (omega (arith, length-take h.at h.bytes, eqb-false h.at 0 e, k.room)) ∙ sym (append-nil (text (text_in h))))
            ∙ answered (text_in h) written []
            ∙ append-nil (written ++ text_in (append_of longest (text (text_in h)) o))
            ∙ ap (λ (x : Filled). written ++ text_in x) (last_there text most longest h.at h.bytes o p (eqb-false h.at 0 e) h.at (omega (arith, k.few)))

  -- ---- a run
  record Moved (bytes : List ℕ) (s t : Place) : Type 0 where
    same : (later : List ℕ) → whole s.held s.out s.written (bytes ++ later) ≡ whole t.held t.out t.written later
    place : InPlace most t.held

  module _
      (Next : List ℕ → Place → ℕ → Step → Type 0)
      (Last : Place → Filled → Type 0)
      (next_is : (piece : List ℕ) (s : Place) (i : ℕ) (x : Step) → Next piece s i x → x ≡ step_of text most longest s.held i piece s.out)
      (last_is : (s : Place) (o : Filled) → Last s o → o ≡ last_of text most longest s.held s.out)
    where
      moved : {piece : List ℕ} {s t : Place} {i : ℕ} → Moves most longest Next Last piece s i t → InPlace most s.held → Moved (drop i piece) s t
      moved {piece} {s} {t} {i} (ends h) k = record { same = λ later. ap (λ (x : List ℕ). whole s.held s.out s.written (x ++ later)) (drop_of_length-le piece h); place = k }
      moved {piece} {s} {t} {i} (steps {x} p q m) k =
          let g : Stepped s.held i piece s.out x = rw (next_is piece s i x q) (stepped s.held i piece s.out k (ready_there most longest s.held.bytes s.out p.0 p.1)) in
          let r = moved m g.place in
          record { same = λ later. g.same s.written later ∙ r.same later; place = r.place }
      moved {piece} {s} {t} {i} (writes m) k =
          let r = moved m k in
          record {
            same = λ later. ap (λ (x : List ℕ). x ++ due (text_in s.held) (drop i piece ++ later)) (sym (append-nil (s.written ++ text_in s.out))) ∙ r.same later;
            place = r.place;
          }

      ran : {pieces : List (List ℕ)} {s : Place} {made : List ℕ} → Run most longest Next Last pieces s made → InPlace most s.held → made ≡ whole s.held s.out s.written (joined pieces)
      unfolding joined
      ran {s} (last {o} p q) k = ap (λ (x : Filled). s.written ++ text_in x) (last_is s o q) ∙ sym (finished s.held 0 [] s.out k (ready_there most longest s.held.bytes s.out p.0 p.1) s.written)
      ran (next {pieces} m r) k =
          let g = moved m k in
          ran r g.place ∙ sym (g.same (joined pieces))

      pub run_text : (pieces : List (List ℕ)) (s : Place) (made : List ℕ) → Start most s → Run most longest Next Last pieces s made → made ≡ texts_of text (lines_of (joined pieces))
      run_text pieces s made b r =
          ran r (record { few = omega (arith, b.held); room = b.room })
          ∙ ap (λ (n : ℕ). (s.written ++ text_in s.out) ++ due (take n s.held.bytes) (joined pieces)) b.held
          ∙ ap (λ (n : ℕ). (s.written ++ take n s.out.bytes) ++ due [] (joined pieces)) b.out
          ∙ ap (λ (x : List ℕ). (x ++ []) ++ due [] (joined pieces)) b.written
