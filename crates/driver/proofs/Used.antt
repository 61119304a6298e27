-- How many answers a run uses: the machine reads one after the other, so what stands behind those that it used cannot be seen, and with
-- fewer it still waits.
use Rattle.std.proofs.Common.{Result, Ok, Err}
use Prim.Native.Nat.{ℕ, zero, suc, ◌+◌, ◌<◌, ◌≤◌}
use mathlib.Core.Path.{◌≡◌, refl, sym, ap, ◌∙◌}
use mathlib.Core.Bool.{Bool, cond, true, false}
use mathlib.Core.List.{List, [], ◌∷◌, ◌++◌}
use native.Mathlib.Omega.{arith}
use lib.ListN.{length, take}
use Rattle.receiver.specs.Call.{is_over}
use Rattle.states.specs.declared.answer.Answer.{Answer}
use Rattle.operations.proofs.Answered.{ok_same}
use Rattle.receiver.specs.declared.call.Call.{Call}
use Rattle.receiver.specs.declared.call.Phase.{Phase}
use Rattle.receiver.specs.declared.call.Phase.TheVariants as phase
use Rattle.receiver.specs.declared.receiver.Outcome.{Outcome}
use Rattle.receiver.specs.declared.receiver.ReceiverState.{ReceiverState}
use Rattle.states.specs.declared.refusal.Refusal.TheVariants.{AnswerMissing}
use Rattle.driver.specs.Drive.{over_in, retries_in, answered_in, driven, driven_from, driven_of, ended_by, ended_for, ended_of}
use Rattle.driver.specs.Promise.{Uses}
use Rattle.driver.specs.declared.drive.Driven.{Driven}
use Rattle.receiver.specs.declared.receiver.Ended.{Ended}
use Rattle.states.specs.declared.refusal.Refusal.{Refusal}

-- a run, step by step
module _ (ring : List ℕ) where
  pub data Runs : ℕ → Result Call Refusal → List Answer → Driven → Type 0 where
    rests : (i : ℕ) (x : Result Call Refusal) (xs : List Answer) → over_in x ≡ true → Runs i x xs (driven x i)
    lacks : (i : ℕ) (x : Result Call Refusal) → over_in x ≡ false → Runs i x [] (driven x i)
    waits_out : (i : ℕ) (x : Result Call Refusal) (a : Answer) (xs : List Answer) (d : Driven) → over_in x ≡ false → retries_in x a ≡ true → Runs (suc i) x xs d → Runs i x (a ∷ xs) d
    takes : (i : ℕ) (x : Result Call Refusal) (a : Answer) (xs : List Answer) (d : Driven) → over_in x ≡ false → retries_in x a ≡ false → Runs (suc i) (answered_in x ring a (suc i)) xs d → Runs i x (a ∷ xs) d

  -- driving is such a run
  pub at_over : (i : ℕ) (x : Result Call Refusal) (xs : List Answer) → over_in x ≡ true → driven_from i x ring xs ≡ driven x i
  at_over i x xs e = rw e

  pub at_retry : (i : ℕ) (x : Result Call Refusal) (a : Answer) (xs : List Answer) → over_in x ≡ false → retries_in x a ≡ true → driven_from i x ring (a ∷ xs) ≡ driven_from (suc i) x ring xs
  at_retry i x a xs e r = rw (e, r)

  pub at_answer : (i : ℕ) (x : Result Call Refusal) (a : Answer) (xs : List Answer) → over_in x ≡ false → retries_in x a ≡ false → driven_from i x ring (a ∷ xs) ≡ driven_from (suc i) (answered_in x ring a (suc i)) ring xs
  at_answer i x a xs e r = rw (e, r)

  pub runs : (xs : List Answer) (i : ℕ) (x : Result Call Refusal) → Runs i x xs (driven_from i x ring xs)
  runs [] i x = by (over_in x) refl
    where
      by : (b : Bool) → over_in x ≡ b → Runs i x [] (driven_from i x ring [])
      by true e = rw (at_over i x [] e) (rests i x [] e)
      by false e = rw e (lacks i x e)
  runs (a ∷ xs) i x = by (λ y. runs xs (suc i) y) (over_in x) refl (retries_in x a) refl
    where
      by : ((y : Result Call Refusal) → Runs (suc i) y xs (driven_from (suc i) y ring xs)) → (b : Bool) → over_in x ≡ b → (c : Bool) → retries_in x a ≡ c → Runs i x (a ∷ xs) (driven_from i x ring (a ∷ xs))
      by ih true e c r = rw (at_over i x (a ∷ xs) e) (rests i x (a ∷ xs) e)
      by ih false e true r = rw (at_retry i x a xs e r) (waits_out i x a xs (driven_from (suc i) x ring xs) e r (ih x))
      by ih false e false r = rw (at_answer i x a xs e r) (takes i x a xs (driven_from (suc i) (answered_in x ring a (suc i)) ring xs) e r (ih (answered_in x ring a (suc i))))

  -- k of the answers are used
  record Used (i : ℕ) (x : Result Call Refusal) (xs : List Answer) (d : Driven) : Type 0 where
    pub count : ℕ
    pub counts : d.used ≡ i + count
    pub within : count ≤ length xs
    pub same : over_in d.step ≡ true → (more : List Answer) → driven_from i x ring (take count xs ++ more) ≡ d
    pub waits : (k : ℕ) → k < count → over_in (driven_from i x ring (take k xs)).step ≡ false

  -- one answer more, by what the machine does with it
  more_used : (i : ℕ) (x y : Result Call Refusal) (a : Answer) (xs : List Answer) (d : Driven) → over_in x ≡ false → ((ys : List Answer) → driven_from i x ring (a ∷ ys) ≡ driven_from (suc i) y ring ys) → Used (suc i) y xs d → Used i x (a ∷ xs) d
  more_used i x y a xs d e f u =
      record { count = suc u.count; counts = omega (arith, u.counts); within = omega (arith, u.within); same = λ o ys. f (take u.count xs ++ ys) ∙ u.same o ys; waits = fewer }
    where
      fewer : (k : ℕ) → k < suc u.count → over_in (driven_from i x ring (take k (a ∷ xs))).step ≡ false
      fewer zero l = ap (λ (b : Bool). over_in (cond b (driven x i) (driven x i)).step) e ∙ e
      fewer (suc k) l = ap (λ (g : Driven). over_in g.step) (f (take k xs)) ∙ u.waits k (omega (arith, l))

  used : (i : ℕ) (x : Result Call Refusal) (xs : List Answer) (d : Driven) → Runs i x xs d → Used i x xs d
  used i x xs _ (rests _ _ _ e) = record { count = 0; counts = omega arith; within = omega arith; same = λ o ys. at_over i x ys e; waits = λ k l. absurd (omega (arith, l)) }
  used i x _ _ (lacks _ _ e) = record { count = 0; counts = omega arith; within = omega arith; same = λ o ys. cc; waits = λ k l. absurd (omega (arith, l)) }
  used i x _ d (waits_out _ _ a xs _ e r h) = more_used i x x a xs d e (λ ys. at_retry i x a ys e r) (used (suc i) x xs d h)
  used i x _ d (takes _ _ a xs _ e r h) = more_used i x (answered_in x ring a (suc i)) a xs d e (λ ys. at_answer i x a ys e r) (used (suc i) (answered_in x ring a (suc i)) xs d h)

-- ---- what a run answers
-- a call that waits is refused with 11, and one that is accepted is over
pub waiting_phase : (ph : Phase) (c : Call) (i : ℕ) → is_over ph ≡ false → ended_by ph c i ≡ Err AnswerMissing
waiting_phase (phase.Receive w) c i e = refl
waiting_phase (phase.Send batch x) c i e = refl
waiting_phase (phase.Shutdown x) c i e = refl
waiting_phase (phase.Finished o) c i e = cc

waiting : (x : Result Call Refusal) (i : ℕ) → over_in x ≡ false → ended_for x i ≡ Err AnswerMissing
waiting (Ok c) i e = waiting_phase c.phase c i e
waiting (Err r) i e = cc

over_phase : (ph : Phase) (c : Call) (i : ℕ) (q : ReceiverState) (o : Outcome) (n : ℕ) → ended_by ph c i ≡ Ok (record { receiver = q; outcome = o; used = n }) → (is_over ph ≡ true) × (i ≡ n)
over_phase (phase.Receive w) c i q o n e = cc
over_phase (phase.Send batch x) c i q o n e = cc
over_phase (phase.Shutdown x) c i q o n e = cc
over_phase (phase.Finished p) c i q o n e =
    (refl, ap (λ (x : Ended). x.used) (ok_same (record { receiver = c.receiver; outcome = p; used = i }) (record { receiver = q; outcome = o; used = n }) e))

over_accepted : (x : Result Call Refusal) (i : ℕ) (q : ReceiverState) (o : Outcome) (n : ℕ) → ended_for x i ≡ Ok (record { receiver = q; outcome = o; used = n }) → (over_in x ≡ true) × (i ≡ n)
over_accepted (Ok c) i q o n e = over_phase c.phase c i q o n e
over_accepted (Err r) i q o n e = cc

-- so a call over a run used exactly so many
pub driven_uses : (x : Result Call Refusal) (ring : List ℕ) (answers : List Answer) (r : Result Ended Refusal) → ended_of (driven_of x ring answers) ≡ r → Uses (λ xs. ended_of (driven_of x ring xs)) answers r
driven_uses x ring answers (Err r) e = tt
driven_uses x ring answers (Ok c) e =
    let d = driven_of x ring answers in
    let k = over_accepted d.step d.used c.receiver c.outcome c.used e in
    let u = used ring 0 x answers d (runs ring answers 0 x) in
    let m : u.count ≡ c.used = omega (arith, u.counts, k.1) in (
      omega (arith, u.within, m),
      (λ more. ap (λ (j : ℕ). ended_of (driven_of x ring (take j answers ++ more))) (sym m) ∙ ap ended_of (u.same k.0 more) ∙ e),
      (λ j l. waiting (driven_of x ring (take j answers)).step (driven_of x ring (take j answers)).used (u.waits j (omega (arith, l, m)))),
    )
