-- "Given exactly when", of what a call over a run comes to: each answer by the table of an answer, and the answers one behind another.
use Rattle.std.proofs.Common.{Result, Ok, Err}
use Prim.Native.Nat.{ℕ, suc, ◌<◌}
use mathlib.Core.Path.{◌≡◌, refl, sym, ap, subst, ◌∙◌}
use mathlib.Core.Bool.{Bool, cond, true, false}
use mathlib.Core.List.{List, [], ◌∷◌}
use native.Mathlib.Omega.{arith}
use lib.ListN.{length}
use Rattle.copies.specs.Given.{Verdict, verdict, Exactly}
use Rattle.receiver.specs.Call.{answered_of, is_over, retries_in}
use Rattle.receiver.specs.Given.{GivenAnswer, of_receiver}
use Rattle.states.specs.Refusal.{number_of, values_of}
use Rattle.states.specs.declared.answer.Answer.{Answer}
use Rattle.receiver.specs.declared.call.Call.{Call}
use Rattle.receiver.specs.declared.call.Phase.{Phase}
use Rattle.receiver.specs.declared.call.Phase.TheVariants as phase
use Rattle.states.specs.declared.refusal.Refusal.{Refusal}
use Rattle.states.proofs.AnswerSays.{interrupted_says}
use Rattle.states.proofs.PromisedValues.{number_of_lem}
use Rattle.receiver.proofs.GivenAnswer.{answered_given}
use Rattle.driver.specs.Drive.{driven_from, driven_of, ended_by, ended_of, waited_of}
use Rattle.driver.specs.declared.drive.Driven.{Driven}
use Rattle.stripring.specs.GivenRun.{Waits, WaitedOut, GivenLast, finished, given_11, GivenNext, over, waited_out, at_the_answer, behind_it, GivenFrom, GivenRun, at_the_beginning, over_the_run, of_ended}

-- ---- the tests of the machine, in the table's words
not_both : {X : Type 0} {b : Bool} → b ≡ true → b ≡ false → X
not_both e f = cc

waits : (ph : Phase) → is_over ph ≡ false → Waits ph
waits (phase.Receive w) e = tt
waits (phase.Send batch x) e = tt
waits (phase.Shutdown x) e = tt
waits (phase.Finished o) e = not_both refl e

waits_not : (ph : Phase) → is_over ph ≡ true → Waits ph → ⊥
waits_not (phase.Receive v) e w = not_both e refl
waits_not (phase.Send batch x) e w = not_both e refl
waits_not (phase.Shutdown x) e w = not_both e refl
waits_not (phase.Finished o) e w = w

retried : (ph : Phase) (a : Answer) → retries_in ph a ≡ true → WaitedOut ph a
retried (phase.Receive w) a e = (interrupted_says a).0 e
retried (phase.Send batch x) a e = (interrupted_says a).0 e
retried (phase.Shutdown x) a e = not_both e refl
retried (phase.Finished o) a e = not_both e refl

retried_not : (ph : Phase) (a : Answer) → retries_in ph a ≡ false → WaitedOut ph a → ⊥
retried_not (phase.Receive w) a e h = not_both ((interrupted_says a).1 h) e
retried_not (phase.Send batch x) a e h = not_both ((interrupted_says a).1 h) e
retried_not (phase.Shutdown x) a e h = h
retried_not (phase.Finished o) a e h = h

-- what is said of a call where no more answers are taken
missing : (ph : Phase) (c : Call) (i : ℕ) → Waits ph → verdict 11 [] ≡ of_ended (ended_by ph c i)
missing (phase.Receive v) c i w = refl
missing (phase.Send batch x) c i w = refl
missing (phase.Shutdown x) c i w = refl
missing (phase.Finished o) c i w = absurd w

accepts : (ph : Phase) (c : Call) (i : ℕ) → (Waits ph → ⊥) → verdict 0 [] ≡ of_ended (ended_by ph c i)
accepts (phase.Receive w) c i n = absurd (n tt)
accepts (phase.Send batch x) c i n = absurd (n tt)
accepts (phase.Shutdown x) c i n = absurd (n tt)
accepts (phase.Finished o) c i n = refl

-- wherever the ring is lent
answered_exactly : (c : Call) (ring : List ℕ) (a : Answer) (place : ℕ) → Exactly (GivenAnswer c (length ring) a place) (of_receiver (answered_of c ring a place))
answered_exactly c ring a place = answered_given ([], tt) (c, (record { ref_ptr = (0, 0); now = ring }, (a, (place, tt)))) (answered_of c ring a place) ((tt, (tt, (tt, (tt, tt)))), refl)

-- a step is a call, that call, or a refusal
same_call : (x : Result Call Refusal) (c d : Call) → x ≡ Ok c → x ≡ Ok d → d ≡ c
same_call x c d e f = let z : Ok c ≡ Ok d = sym e ∙ f in cc

no_call_lem : {X : Type 0} (x : Result Call Refusal) (r : Refusal) (c : Call) → x ≡ Err r → x ≡ Ok c → X
no_call_lem x r c e f = let y : Err r ≡ Ok c = sym e ∙ f in cc

module _ {G : ℕ → List ℕ → Type 0} (x : Result Call Refusal) (e : Exactly G (of_receiver x)) where
  passes : {X : Type 0} (c : Call) → x ≡ Ok c → (k : ℕ) (vs : List ℕ) → 0 < k → G k vs → X
  passes c h k vs l g = absurd (omega (arith, l, ap (λ (v : Verdict). v.number) (sym (ap of_receiver h) ∙ e.always k vs g)))

  refused : (r : Refusal) → x ≡ Err r → Exactly G (verdict (number_of r) (values_of r))
  refused r h = subst (λ (y : Result Call Refusal). Exactly G (of_receiver y)) h e

module _ (ring : List ℕ) where
  abbrev told : Driven → Verdict
  told d = of_ended (ended_of d)

  over_exactly : (answers : List Answer) (i : ℕ) (c : Call) → (Waits c.phase → ⊥) → Exactly (GivenFrom ring i answers c) (verdict 0 [])
  over_exactly [] i c n = record { only = finished n; always = λ k vs g. so g }
    where
      so : {k : ℕ} {vs : List ℕ} → GivenLast c k vs → verdict 0 [] ≡ verdict k vs
      so (finished m) = refl
      so (given_11 w) = absurd (n w)
  over_exactly (a ∷ rest) i c n = record { only = over n; always = λ k vs g. so g }
    where
      so : {k : ℕ} {vs : List ℕ} → GivenNext c ring a (suc i) (GivenFrom ring (suc i) rest) k vs → verdict 0 [] ≡ verdict k vs
      so (over m) = refl
      so (waited_out w h g) = absurd (n w)
      so (at_the_answer w h l g) = absurd (n w)
      so (behind_it d w h e g) = absurd (n w)

  -- a call that is over takes no answer, whatever is left
  by_over : (answers : List Answer) (i : ℕ) (c : Call) → (Waits c.phase → Exactly (GivenFrom ring i answers c) (told (waited_of i (Ok c) ring answers))) →
      Exactly (GivenFrom ring i answers c) (told (driven_from i (Ok c) ring answers))
  by_over answers i c f = by (is_over c.phase) refl
    where
      by : (b : Bool) → is_over c.phase ≡ b → Exactly (GivenFrom ring i answers c) (told (cond b (record { step = Ok c; used = i }) (waited_of i (Ok c) ring answers)))
      by true e = let n = waits_not c.phase e in subst (Exactly (GivenFrom ring i answers c)) (accepts c.phase c i n) (over_exactly answers i c n)
      by false e = f (waits c.phase e)

  module _ (a : Answer) (rest : List Answer) (i : ℕ) (c : Call) (w : Waits c.phase) where
    abbrev Next : ℕ → List ℕ → Type 0
    Next = GivenNext c ring a (suc i) (GivenFrom ring (suc i) rest)

    by_interruption : WaitedOut c.phase a → (v : Verdict) → Exactly (GivenFrom ring (suc i) rest c) v → Exactly Next v
    by_interruption h v e = record { only = waited_out w h e.only; always = λ k vs g. so g }
      where
        so : {k : ℕ} {vs : List ℕ} → Next k vs → v ≡ verdict k vs
        so (over n) = absurd (n w)
        so {k} {vs} (waited_out u p g) = e.always k vs g
        so (at_the_answer u n l g) = absurd (n h)
        so (behind_it d u n q g) = absurd (n h)

    by_answer : (WaitedOut c.phase a → ⊥) → ((d : Call) → Exactly (GivenFrom ring (suc i) rest d) (told (driven_from (suc i) (Ok d) ring rest))) →
        (x : Result Call Refusal) → answered_of c ring a (suc i) ≡ x → Exactly Next (told (driven_from (suc i) x ring rest))
    by_answer n more (Ok d) e = record { only = behind_it d w n e (more d).only; always = λ k vs g. so g }
      where
        so : {k : ℕ} {vs : List ℕ} → Next k vs → told (driven_from (suc i) (Ok d) ring rest) ≡ verdict k vs
        so (over m) = absurd (m w)
        so (waited_out u p g) = absurd (n p)
        so {k} {vs} (at_the_answer u p l g) = passes _ (answered_exactly c ring a (suc i)) d e k vs l g
        so {k} {vs} (behind_it d' u p q g) = (more d).always k vs (subst (λ (y : Call). GivenFrom ring (suc i) rest y k vs) (same_call _ d d' e q) g)
    by_answer n more (Err r) e = record { only = at_the_answer w n (number_of_lem r) here.only; always = λ k vs g. so g }
      where
        here : Exactly (GivenAnswer c (length ring) a (suc i)) (verdict (number_of r) (values_of r))
        here = refused _ (answered_exactly c ring a (suc i)) r e

        so : {k : ℕ} {vs : List ℕ} → Next k vs → verdict (number_of r) (values_of r) ≡ verdict k vs
        so (over m) = absurd (m w)
        so (waited_out u p g) = absurd (n p)
        so {k} {vs} (at_the_answer u p l g) = here.always k vs g
        so (behind_it d u p q g) = no_call_lem _ r d e q

    by_next : ((d : Call) → Waits d.phase → Exactly (GivenFrom ring (suc i) rest d) (told (waited_of (suc i) (Ok d) ring rest))) →
        (b : Bool) → retries_in c.phase a ≡ b → Exactly Next (told (cond b (waited_of (suc i) (Ok c) ring rest) (driven_from (suc i) (answered_of c ring a (suc i)) ring rest)))
    by_next more true e = by_interruption (retried c.phase a e) _ (more c w)
    by_next more false e = by_answer (retried_not c.phase a e) (λ d. by_over rest (suc i) d (more d)) (answered_of c ring a (suc i)) refl

  waiting : (answers : List Answer) (i : ℕ) (c : Call) → Waits c.phase → Exactly (GivenFrom ring i answers c) (told (waited_of i (Ok c) ring answers))
  waiting [] i c w = subst (Exactly (GivenLast c)) (missing c.phase c i w) (record { only = given_11 w; always = λ k vs g. so g })
    where
      so : {k : ℕ} {vs : List ℕ} → GivenLast c k vs → verdict 11 [] ≡ verdict k vs
      so (finished n) = absurd (n w)
      so (given_11 u) = refl
  waiting (a ∷ rest) i c w = by_next a rest i c w (λ d. waiting rest (suc i) d) (retries_in c.phase a) refl

  -- ---- from the beginning
  pub run_exactly : {G : ℕ → List ℕ → Type 0} (answers : List Answer) (x : Result Call Refusal) → Exactly G (of_receiver x) → Exactly (GivenRun G x ring answers) (told (driven_of x ring answers))
  run_exactly {G} answers (Ok c) e = record { only = over_the_run c refl from.only; always = λ k vs g. so g }
    where
      from : Exactly (GivenFrom ring 0 answers c) (told (driven_of (Ok c) ring answers))
      from = by_over answers 0 c (waiting answers 0 c)

      so : {k : ℕ} {vs : List ℕ} → GivenRun G (Ok c) ring answers k vs → told (driven_of (Ok c) ring answers) ≡ verdict k vs
      so {k} {vs} (at_the_beginning l g) = passes (Ok c) e c refl k vs l g
      so {k} {vs} (over_the_run d q g) = from.always k vs (subst (λ (y : Call). GivenFrom ring 0 answers y k vs) (same_call (Ok c) c d refl q) g)
  run_exactly {G} answers (Err r) e = record { only = at_the_beginning (number_of_lem r) e.only; always = λ k vs g. so g }
    where
      so : {k : ℕ} {vs : List ℕ} → GivenRun G (Err r) ring answers k vs → verdict (number_of r) (values_of r) ≡ verdict k vs
      so {k} {vs} (at_the_beginning l g) = e.always k vs g
      so (over_the_run d q g) = no_call_lem (Err r) r d refl q
