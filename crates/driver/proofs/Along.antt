-- What a step keeps, a run keeps: an invariant of a call that the machine made and of what was sent so far.
use Rattle.std.proofs.Common.{Result, Ok, Err}
use Prim.Native.Nat.{ℕ, suc, ◌+◌}
use mathlib.Core.Path.{◌≡◌, refl, ap, subst}
use mathlib.Core.Bool.{false}
use mathlib.Core.List.{List, [], ◌∷◌}
use native.Mathlib.Omega.{arith}
use lib.ListN.{take}
use Rattle.receiver.proofs.MadeLaws.{MadeBy, answered_made, waited_out}
use Rattle.receiver.proofs.Made.{Made}
use Rattle.receiver.specs.Call.{over_of, answered_of}
use Rattle.receiver.specs.Handed.{sent_by}
use Rattle.states.specs.declared.answer.Answer.{Answer}
use Rattle.receiver.specs.declared.call.Call.{Call}
use Rattle.driver.specs.Drive.{driven_of}
use Rattle.driver.specs.Pending.{sent_in}
use Rattle.driver.specs.declared.drive.Driven.{Driven}
use Rattle.driver.proofs.Used.{Runs, rests, lacks, waits_out, takes, runs}
use Rattle.states.specs.declared.refusal.Refusal.{Refusal}

module _ (ring : List ℕ) (I : Call → ℕ → Type 0) (keeps : (c : Call) → Made c → over_of c ≡ false → (n : ℕ) → I c n → (a : Answer) (place : ℕ) (d : Call) → answered_of c ring a place ≡ Ok d → I d (n + sent_by a)) where
  abbrev pub Holds : Result Call Refusal → ℕ → Type 0
  Holds (Ok c) n = Made c × I c n
  Holds (Err r) n = Unit {0}

  one_step : (c : Call) → over_of c ≡ false → (n : ℕ) → Holds (Ok c) n → (a : Answer) (place : ℕ) (x : Result Call Refusal) → answered_of c ring a place ≡ x → Holds x (n + sent_by a)
  one_step c w n h a place (Ok d) e = (subst MadeBy e (answered_made c h.0 ring a place), keeps c h.0 w n h.1 a place d e)
  one_step c w n h a place (Err r) e = tt

  -- so many answers were used, and what they sent was sent
  record Ran (i n : ℕ) (xs : List Answer) (d : Driven) : Type 0 where
    pub count : ℕ
    pub counts : d.used ≡ i + count
    pub holds : Holds d.step (n + sent_in (take count xs))

  one_more : (i n : ℕ) (a : Answer) (xs : List Answer) (d : Driven) → Ran (suc i) (n + sent_by a) xs d → Ran i n (a ∷ xs) d
  one_more i n a xs d r =
      record { count = suc r.count; counts = omega (arith, r.counts); holds = subst (Holds d.step) (let e : n + sent_by a + sent_in (take r.count xs) ≡ n + (sent_by a + sent_in (take r.count xs)) = omega arith in e) r.holds }

  none_more : (i n : ℕ) (x : Result Call Refusal) (xs : List Answer) → Holds x n → Ran i n xs (record { step = x; used = i })
  none_more i n x xs h = record { count = 0; counts = omega arith; holds = subst (Holds x) (let e : n ≡ n + 0 = omega arith in e) h }

  along : (i : ℕ) (x : Result Call Refusal) (xs : List Answer) (d : Driven) → Runs ring i x xs d → (n : ℕ) → Holds x n → Ran i n xs d
  along i x xs _ (rests _ _ _ e) n h = none_more i n x xs h
  along i x _ _ (lacks _ _ e) n h = none_more i n x [] h
  along i (Ok c) _ d (waits_out _ _ a xs _ e r k) n h =
      one_more i n a xs d (along (suc i) (Ok c) xs d k (n + sent_by a) (one_step c e n h a (suc i) (Ok c) (waited_out c h.0 ring a (suc i) r)))
  along i (Err x) _ d (waits_out _ _ a xs _ e r k) n h = cc
  along i (Ok c) _ d (takes _ _ a xs _ e r k) n h =
      one_more i n a xs d (along (suc i) (answered_of c ring a (suc i)) xs d k (n + sent_by a) (one_step c e n h a (suc i) (answered_of c ring a (suc i)) refl))
  along i (Err x) _ d (takes _ _ a xs _ e r k) n h = cc

  pub driven_holds : (x : Result Call Refusal) (xs : List Answer) → Holds x 0 → Holds (driven_of x ring xs).step (sent_in (take (driven_of x ring xs).used xs))
  driven_holds x xs h =
      let d = driven_of x ring xs in
      let r = along 0 x xs d (runs ring xs 0 x) 0 h in
      let k : r.count ≡ d.used = omega (arith, r.counts) in
      let e : 0 + sent_in (take r.count xs) ≡ sent_in (take d.used xs) = omega (arith, ap (λ (i : ℕ). sent_in (take i xs)) k) in
      subst (Holds d.step) e r.holds
