-- "Given exactly when", of an answer that is handed to a call in progress.
use Rattle.std.specs.Bool.{⊤}
use Rattle.std.proofs.Common.{Result, Ok, Err, Option, ℕ}
use Prim.Native.Nat.{ℕ, ◌<◌}
use mathlib.Core.Path.{◌≡◌, refl, sym, ap, subst, ◌∙◌}
use mathlib.Core.Bool.{Bool, cond, true, false}
use mathlib.Core.Logic.{◌⊎◌, inl, inr}
use mathlib.Core.List.{List, [], ◌∷◌}
use native.Mathlib.Omega.{arith}
use lib.ListN.{length}
use Rattle.modular.proofs.Saying.{Keeps}
use Rattle.copies.specs.Given.{Verdict, verdict, Exactly}
use Rattle.states.proofs.AnswerSays.{received_says, received_only, sent_says, sent_only, shut_says, shut_only, interrupted_says}
use Rattle.receiver.proofs.Says.{answered_says}
use Rattle.receiver.specs.Admission.{admission_of}
use Rattle.states.specs.Answer.{interrupted_of, received_of, sent_of, shut_of}
use Rattle.receiver.specs.Call.{after_shut, after_receive, read_call, admitted_step, looks_at, resumed_by, resumed_of, stepped_by, stepped_of, answered_from}
use Rattle.receiver.specs.Given.{GivenAdmission, Full, Misfits, GivenAnswer, takes, at_the_tests, still_full, given_12, of_receiver}
use Rattle.states.specs.Promise.{Errno, SaysReceived, no_receive, SaysSent, no_send, SaysShut}
use Rattle.receiver.specs.Receiver.{by_sent}
use Rattle.states.specs.Refusal.{number_of, values_of}
use Rattle.states.specs.declared.answer.Answer.{Answer}
use Rattle.states.specs.declared.answer.Received.{Received}
use Rattle.states.specs.declared.answer.Received.TheVariants as received
use Rattle.states.specs.declared.answer.Sent.{Sent}
use Rattle.states.specs.declared.answer.Sent.TheVariants as sent
use Rattle.states.specs.declared.answer.Shut.{Shut}
use Rattle.states.specs.declared.answer.Shut.TheVariants as shut
use Rattle.receiver.specs.declared.call.Call.{Call}
use Rattle.receiver.specs.declared.call.Phase.{Phase}
use Rattle.receiver.specs.declared.call.Phase.TheVariants as phase
use Rattle.receiver.specs.declared.call.Wanted.{Wanted}
use Rattle.states.specs.declared.refusal.Refusal.TheVariants.{Misfit}
use Rattle.receiver.proofs.call.Call.answered.Kinds as answered_kinds
use Rattle.receiver.proofs.call.Call.answered.Reads as answered
use Rattle.states.proofs.PromisedValues.{number_of_lem}
use Rattle.receiver.proofs.Given.{Rules, read_told, passed, passed_only, refused, refused_always, refused_not_0}
use Rattle.receiver.specs.declared.call.Ending.{Ending}
use Rattle.states.specs.declared.refusal.Refusal.{Refusal}

-- what the rules say of an answer that reaches them: 12 with its place where the place cannot have it, and else nothing refuses it
module _ (a : Answer) where
  interrupted_fits : (a.kind ≡ 2) × (a.value ≡ 4) → Errno a.value
  interrupted_fits h = (omega (arith, h.1), omega (arith, h.1))

  no_misfit_received : (top : ℕ) → interrupted_of a ≡ true → SaysReceived a top received.Misfit → ⊥
  no_misfit_received top i (no_receive f g h) = let k = (interrupted_says a).0 i in h (k.0, interrupted_fits k)

  no_misfit_sent : (batch : ℕ) → interrupted_of a ≡ true → SaysSent a batch sent.Misfit → ⊥
  no_misfit_sent batch i (no_send f h) = let k = (interrupted_says a).0 i in h (k.0, interrupted_fits k)

  module _ (ring : List ℕ) (place : ℕ) (d : Call) where
    abbrev Fits : Type 0 → Result Call Refusal → Type 0
    Fits misfits x = (misfits × (of_receiver x ≡ verdict 12 (place ∷ []))) ⊎ ((misfits → ⊥) × (of_receiver x ≡ verdict 0 []))

    abbrev Taken : Phase → Result Call Refusal → Type 0
    Taken ph x = Fits (Misfits ph d.receiver a) x

    either : (ph : Phase) (b : Bool) (x y : Result Call Refusal) → (b ≡ true → Taken ph x) → Taken ph y → Taken ph (cond b x y)
    either ph true x y f g = f refl
    either ph false x y f g = g

    by_received : (w : Wanted) (x : Received) → received_of w.max_new_fds a ≡ x → Taken (phase.Receive w) (after_receive d.receiver d.source ring x w place)
    by_received w (received.Byte byte _) e = inr ((λ m. let k = received_only a w.max_new_fds m in cc), refl)
    by_received w (received.Failed n) e = inr ((λ m. let k = received_only a w.max_new_fds m in cc), refl)
    by_received w received.Misfit e = inl (subst (SaysReceived a w.max_new_fds) e (received_says a w.max_new_fds), refl)

    -- whatever comes of what went, and of what did not
    by_sent_lem : (went not : ℕ → Call) (batch : ℕ) (x : Sent) → sent_of batch a ≡ x →
        Fits (SaysSent a batch sent.Misfit) (by_sent x (λ n. Ok (went n)) (λ n. Ok (not n)) (Err (Misfit place)))
    by_sent_lem went not batch (sent.Sent n) k = inr ((λ m. let l = sent_only a batch m in cc), refl)
    by_sent_lem went not batch (sent.Failed n) k = inr ((λ m. let l = sent_only a batch m in cc), refl)
    by_sent_lem went not batch sent.Misfit k = inl (subst (SaysSent a batch) k (sent_says a batch), refl)

    by_shut : (e : Ending) (x : Shut) → shut_of a ≡ x → Taken (phase.Shutdown e) (after_shut x d.receiver d.source e place)
    by_shut e shut.Done k = inr ((λ m. let l = shut_only a m in cc), refl)
    by_shut e (shut.Failed n) k = inr ((λ m. let l = shut_only a m in cc), refl)
    by_shut e shut.Misfit k = inl (subst (SaysShut a) k (shut_says a), refl)

    stepped_told : (ph : Phase) → Taken ph (stepped_by ph d ring a place)
    stepped_told (phase.Receive w) = either (phase.Receive w) (interrupted_of a) _ _ (λ i. inr (no_misfit_received w.max_new_fds i, refl)) (by_received w (received_of w.max_new_fds a) refl)
    stepped_told (phase.Send batch e) = either (phase.Send batch e) (interrupted_of a) _ _ (λ i. inr (no_misfit_sent _ i, refl)) (by_sent_lem _ _ _ _ refl)
    stepped_told (phase.Shutdown e) = by_shut e (shut_of a) refl
    stepped_told (phase.Finished o) = inr ((λ m. m), refl)

-- what the rules make of the call: 13 where it waits for a receive with a full count, and else a call
module _ (c : Call) where
  abbrev pub Refuses : Phase → Result Call Refusal → Type 0
  Refuses ph (Ok d) = (w : Wanted) → ph ≡ phase.Receive w → Full c.receiver w.dst_len → ⊥
  Refuses ph (Err r) = (w : Wanted) × (ph ≡ phase.Receive w) × Full c.receiver w.dst_len × (verdict (number_of r) (values_of r) ≡ verdict 13 [])

  asked_same : (w v : Wanted) → phase.Receive w ≡ phase.Receive v → Full c.receiver v.dst_len → Full c.receiver w.dst_len
  asked_same w v e h = let k : w ≡ v = cc in subst (λ (x : Wanted). Full c.receiver x.dst_len) (sym k) h

  by_rules : (w : Wanted) (x : Result Call Refusal) → Rules c.receiver 0 w x → Refuses (phase.Receive w) x
  by_rules w (Ok d) (inl h) = λ v e f. let z : ◌≡◌ {A = ℕ} 0 13 = ap (λ (v : Verdict). v.number) h.1 in omega arith
  by_rules w (Ok d) (inr h) = λ v e f. h.0 (asked_same w v e f)
  by_rules w (Err r) (inl h) = (w, refl, h.0, h.1)
  by_rules w (Err r) (inr h) = absurd (omega (arith, number_of_lem r, ap (λ (v : Verdict). v.number) h.1))

  other : (ph : Phase) (d : Call) → ((w : Wanted) → ph ≡ phase.Receive w → ⊥) → Refuses ph (Ok d)
  other ph d f w e h = f w e

  pub resumed_told : (ph : Phase) → Refuses ph (resumed_by ph c)
  resumed_told (phase.Receive w) = by_rules w (read_call c.receiver w) (read_told c.receiver 0 w c.receiver.state refl)
  resumed_told (phase.Send batch e) = other (phase.Send batch e) c (λ w k. cc)
  resumed_told (phase.Shutdown e) = other (phase.Shutdown e) c (λ w k. cc)
  resumed_told (phase.Finished o) = other (phase.Finished o) c (λ w k. cc)

-- ---- an answer
module _ (c : Call) (ring : List ℕ) (a : Answer) (place : ℕ) where
  abbrev m : Option ℕ
  m = looks_at c.phase a (length ring)

  abbrev Answers : ℕ → List ℕ → Type 0
  Answers = GivenAnswer c (length ring) a place

  module _ (e : admission_of c.receiver m ≡ Ok tt) where
    abbrev p : GivenAdmission c.receiver m 0 []
    p = passed c.receiver m e

    of_one : (d d' : Call) → resumed_of c ≡ Ok d → resumed_of c ≡ Ok d' → d' ≡ d
    of_one d d' k l = let z : Ok d ≡ Ok d' = sym k ∙ l in cc

    same_misfit : (d d' : Call) → resumed_of c ≡ Ok d → resumed_of c ≡ Ok d' → Misfits d'.phase d'.receiver a → Misfits d.phase d.receiver a
    same_misfit d d' k l h = subst (λ (x : Call). Misfits x.phase x.receiver a) (of_one d d' k l) h

    no_test : {X : Type 0} (k : ℕ) (vs : List ℕ) → 0 < k → GivenAdmission c.receiver m k vs → X
    no_test k vs l g = absurd (omega (arith, passed_only c.receiver m e k vs g))

    took : (d : Call) → resumed_of c ≡ Ok d → Refuses c c.phase (Ok d) → Taken a ring place d d.phase (stepped_of d ring a place) → Exactly Answers (of_receiver (stepped_of d ring a place))
    took d k f (inl h) = subst (Exactly Answers) (sym h.1) (record { only = given_12 d p k h.0; always = λ n vs g. so g })
      where
        so : {n : ℕ} {vs : List ℕ} → Answers n vs → verdict 12 (place ∷ []) ≡ verdict n vs
        so (takes d' q l fit) = absurd (fit (same_misfit d' d l k h.0))
        so {n} {vs} (at_the_tests l g) = no_test n vs l g
        so (still_full w q l g) = absurd (f w l g)
        so (given_12 d' q l g) = refl
    took d k f (inr h) = subst (Exactly Answers) (sym h.1) (record { only = takes d p k h.0; always = λ n vs g. so g })
      where
        so : {n : ℕ} {vs : List ℕ} → Answers n vs → verdict 0 [] ≡ verdict n vs
        so (takes d' q l fit) = refl
        so {n} {vs} (at_the_tests l g) = no_test n vs l g
        so (still_full w q l g) = absurd (f w l g)
        so (given_12 d' q l g) = absurd (h.0 (same_misfit d d' k l g))

    by_resumed : (x : Result Call Refusal) → resumed_of c ≡ x → Refuses c c.phase x → Exactly Answers (of_receiver (answered_from x ring a place))
    by_resumed (Ok d) k f = took d k f (stepped_told a ring place d d.phase)
    by_resumed (Err r) k f = subst (Exactly Answers) (sym f.3) (record { only = still_full f.0 p f.1 f.2; always = λ n vs g. so g })
      where
        never : {X : Type 0} (d : Call) → resumed_of c ≡ Ok d → X
        never d l = let y : Err r ≡ Ok d = sym k ∙ l in cc

        so : {n : ℕ} {vs : List ℕ} → Answers n vs → verdict 13 [] ≡ verdict n vs
        so (takes d' q l fit) = never d' l
        so {n} {vs} (at_the_tests l g) = no_test n vs l g
        so (still_full w q l g) = refl
        so (given_12 d' q l g) = never d' l

  by_admitted : (x : Result ⊤ Refusal) → admission_of c.receiver m ≡ x → Exactly Answers (of_receiver (admitted_step x (answered_from (resumed_of c) ring a place)))
  by_admitted (Ok tt) e = by_resumed e (resumed_of c) refl (resumed_told c c.phase)
  by_admitted (Err r) e = record { only = at_the_tests (number_of_lem r) (refused c.receiver m r e); always = λ n vs g. so g }
    where
      so : {n : ℕ} {vs : List ℕ} → Answers n vs → verdict (number_of r) (values_of r) ≡ verdict n vs
      so (takes d q l fit) = absurd (refused_not_0 c.receiver m r e q)
      so {n} {vs} (at_the_tests l g) = refused_always c.receiver m r e n vs g
      so (still_full w q l g) = absurd (refused_not_0 c.receiver m r e q)
      so (given_12 d q l g) = absurd (refused_not_0 c.receiver m r e q)

-- of the call
pub answered_given : Keeps 1 answered_kinds.ps answered_kinds.r answered.Learnt (λ κs a z. Exactly (GivenAnswer a.0 (length a.1.0.now) a.1.1.0 a.1.1.1.0) (of_receiver z))
answered_given κs a z p =
    subst (λ (x : Result Call Refusal). Exactly (GivenAnswer a.0 (length a.1.0.now) a.1.1.0 a.1.1.1.0) (of_receiver x)) (sym (answered_says κs a z p.0 p.1))
    (by_admitted a.0 a.1.0.now a.1.1.0 a.1.1.1.0 (admission_of a.0.receiver (looks_at a.0.phase a.1.1.0 (length a.1.0.now))) refl)
