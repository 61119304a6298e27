-- What a turn of the loop leaves to be written.
use Rattle.std.proofs.Common.{ℕ, ◌+◌, ◌<◌, ◌≤◌, ◌≡◌, refl, sym, ap, subst, ◌∙◌, Bool, true, false, List, [], ◌++◌, length, take, drop, arith, OnOk, Result, Ok, Err}
use Rattle.std.specs.Prelude.{Option, None, Some}
use Rattle.std.specs.Io.KnownBytes.{Appends, IsAtEnd, Keeps, append_known}
use Rattle.std.proofs.KnownBytes.{append_known-moved}
use Rattle.std.proofs.Math.Nat.{lt_of_not-le}
use Rattle.lines.specs.Answer.{Step, step, is_ready}
use Rattle.lines.specs.Lines.{lines_of}
use Rattle.lines.specs.Text.{Filled, filled, text_in}
use Rattle.lines.proofs.AnswerLaws.{step_unready, step_moves, ready_there}
use Rattle.lines.proofs.CutLaws.{InPlace}
use Rattle.lines.proofs.Runs.{stepped, finished}
use Rattle.planline.specs.Cut.{most_held, line_text, step_of, last_of, texts_of}
use Rattle.planline.specs.Plan.{plan_of}
use Rattle.planline.specs.Text.{longest}
use Rattle.planline.specs.declared.plan.Question.{Question}
use Rattle.planline.proofs.TextLaws.{plan_text_short, text_kept}
use Rattle.console.specs.declared.answering.Answering.{Answering}
use Rattle.console.specs.Owed.{Answers, still_due, ends_with, owed}

-- the same text is due, to the same writer
pub keeps_same : (c : Option (List ℕ)) (xs ys : List ℕ) → ys ≡ xs → Keeps (append_known c xs) (append_known c ys)
keeps_same None xs ys e = tt
keeps_same (Some c) xs ys e = ap (λ (zs : List ℕ). c ++ zs) e

pub in_place : (n : ℕ) (line : List ℕ) → n ≤ 121 → 121 ≤ length line → InPlace most_held (filled n line)
in_place n line f r = record { few = f; room = r }

-- where a step goes on
pub record Went (q : Question) (h : Filled) (i : ℕ) (piece : List ℕ) (o : Filled) (x : Step) : Type 0 where
  pub few : x.held.at ≤ 121
  pub on : i < x.next
  pub within : x.next ≤ length piece
  pub due : (later : List ℕ) → still_due q x.held x.out (drop x.next piece ++ later) ≡ still_due q h o (drop i piece ++ later)

-- and where it does not: the text has no room
pub record Stood (h : Filled) (o : Filled) (x : Step) : Type 0 where
  pub held : x.held.at ≡ h.at
  pub at : x.out.at ≡ o.at
  pub line : x.held.bytes ≡ h.bytes
  pub out : x.out.bytes ≡ o.bytes
  pub full : length o.bytes < o.at + 89

module _ (q : Question) (h : Filled) (i : ℕ) (piece : List ℕ) (o : Filled) (x : Step) (is : x ≡ step_of q h i piece o) (k : InPlace most_held h) (l : i < length piece) where
  by_ready : (b : Bool) → is_ready most_held longest h.bytes o ≡ b → ((x.next ≡ i → ⊥) → Went q h i piece o x) × (x.next ≡ i → Stood h o x)
  by_ready true p =
      let moves = step_moves (line_text q) most_held longest h i piece o p l in
      let s = stepped (line_text q) most_held longest (omega arith) (text_kept q) (λ line. plan_text_short (plan_of q line)) h i piece o k p in (
        λ n. subst (λ (y : Step). Went q h i piece o y) (sym is) (record { few = s.place.few; on = moves.0; within = moves.1; due = λ later. sym (s.same [] later) }),
        λ e. absurd (let m : i < x.next = subst (λ (y : Step). i < y.next) (sym is) moves.0 in omega arith),
      )
  by_ready false p =
      let e : step h i o ≡ x = step_unready (line_text q) most_held longest h i piece o p ∙ sym is in (
        λ n. absurd (n (ap (λ (s : Step). s.next) (sym e))),
        λ n. record {
          held = ap (λ (s : Step). s.held.at) (sym e);
          at = ap (λ (s : Step). s.out.at) (sym e);
          line = ap (λ (s : Step). s.held.bytes) (sym e);
          out = ap (λ (s : Step). s.out.bytes) (sym e);
          full = lt_of_not-le (λ (g : o.at + 89 ≤ length o.bytes). let z : false ≡ true = sym p ∙ ready_there most_held longest h.bytes o k.room g in let y : ◌≡◌ {A = ℕ} 0 1 = cc in omega arith);
        },
      )

  pub went : (x.next ≡ i → ⊥) → Went q h i piece o x
  went = (by_ready (is_ready most_held longest h.bytes o) refl).0

  pub stood : x.next ≡ i → Stood h o x
  stood = (by_ready (is_ready most_held longest h.bytes o) refl).1

  few_by : (b : Bool) → is_ready most_held longest h.bytes o ≡ b → x.held.at ≤ 121
  few_by true p = subst (λ (y : Step). y.held.at ≤ 121) (sym is) (stepped (line_text q) most_held longest (omega arith) (text_kept q) (λ line. plan_text_short (plan_of q line)) h i piece o k p).place.few
  few_by false p = subst (λ (y : Step). y.held.at ≤ 121) (step_unready (line_text q) most_held longest h i piece o p ∙ sym is) k.few

  pub few_still : x.held.at ≤ 121
  few_still = few_by (is_ready most_held longest h.bytes o) refl

-- the text so far is written, and leaves room
pub wrote :
    (q : Question) (a b : Option (List ℕ)) {held held' at n : ℕ} {line line' out out' rest rest' : List ℕ} →
    held' ≡ held → n ≡ at → line' ≡ line → out' ≡ out → rest' ≡ rest → Appends a b (take n out') →
    Keeps (append_known a (still_due q (filled held line) (filled at out) rest)) (append_known b (still_due q (filled held' line') (filled 0 out') rest'))
wrote q a b {held} {held'} {at} {n} {line} {line'} {out} {out'} {rest} {rest'} h m e f r p =
    append_known-moved a b (take n out') (still_due q (filled held' line') (filled 0 out') rest') (still_due q (filled held line) (filled at out) rest) p
    (rw (h, m, e, f, r) refl)

-- ---- the end
appended : (a b c : Option (List ℕ)) (xs ys zs : List ℕ) → Keeps (append_known a xs) (append_known b ys) → zs ≡ ys → Appends b c zs → Appends a c xs
appended None b c xs ys zs k e p = tt
appended (Some u) None c xs ys zs k e p = absurd k
appended (Some u) (Some v) None xs ys zs k e p = absurd p
appended (Some u) (Some v) (Some w) xs ys zs k e p = p ∙ ap (λ (l : List ℕ). v ++ l) e ∙ k

-- a last line without its line feed is answered too
module _ (s t : Answering) (out : List ℕ) (n : ℕ) (h : s.held ≡ 0) (z : s.at ≡ 0) (w : t.at ≡ 0) (r : 121 ≤ length t.line) (m : 89 ≤ length t.out) (e : filled n out ≡ last_of t.question (filled t.held t.line) (filled t.at t.out)) where
  last_line : (a b c : Option (List ℕ)) (xs : List ℕ) → Keeps (ends_with s a xs) (ends_with t b []) → Appends b c (take n out) → Appends a c (texts_of s.question (lines_of xs))
  last_line a b c xs k p =
      appended a b c (texts_of s.question (lines_of xs)) (still_due t.question (filled t.held t.line) (filled t.at t.out) []) (take n out)
      (rw (h, z) at k)
      (ap text_in e ∙ sym (finished (line_text t.question) most_held longest (omega arith) (text_kept t.question) (λ l. plan_text_short (plan_of t.question l)) (filled t.held t.line) 0 [] (filled t.at t.out) (in_place t.held t.line t.few r) (ready_there most_held longest t.line (filled t.at t.out) r (omega arith)) []))
      p

  pub lines_answered : (input rest a b c : Option (List ℕ)) → Keeps (owed s input a) (owed t rest b) → IsAtEnd rest → Appends b c (take n out) → Answers s.question input a c
  lines_answered None rest a b c k d p = tt
  lines_answered (Some xs) rest None b c k d p = λ l. tt
  lines_answered (Some xs) None (Some u) b c k d p = absurd k
  lines_answered (Some xs) (Some ys) (Some u) b c k d p = λ l. last_line (Some u) b c xs (subst (λ (zs : List ℕ). Keeps (ends_with s (Some u) xs) (ends_with t b zs)) d k) p

-- what follows of what a call says where it succeeds
pub on_ok : {A E P Q : Type 0} (r : Result A E) → (P → Q) → OnOk r P → OnOk r Q
on_ok (Ok x) f p = f p
on_ok (Err e) f p = tt
