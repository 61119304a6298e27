-- What the loops of `drive` stand on: what a fetch tells of the run, and where a turn of each loop stands.
use Rattle.std.proofs.Common.{◌≡◌, refl, sym, ap, subst, ◌∙◌, ℕ, suc, zero, ◌<◌, ◌≤◌, ◌+◌, Bool, cond, true, false, List, [], ◌∷◌, length, drop, slice_index_or, arith, add-one, drop_of_length-le, Result, Option, Some, None, Bor}
use Rattle.std.specs.Option.{IfSome, MatchOption, option_copied}
use Rattle.std.specs.List.{HoldsAt}
use Rattle.states.specs.declared.answer.Answer.{Answer}
use Rattle.driver.specs.declared.drive.Driven.{Driven}
use Rattle.driver.specs.Drive.{fetched_of, over_in, retries_in, answered_in, driven, waited_of, driven_from}
use Rattle.receiver.specs.declared.call.Call.{Call}
use Rattle.states.specs.declared.refusal.Refusal.{Refusal}

-- which way a `cond` goes
pub at_true : {X : Type 0} (z : Bool) (x y w : X) → z ≡ true → cond z x y ≡ w → x ≡ w
at_true z x y w e h = sym (ap (λ (t : Bool). cond t x y) e) ∙ h

pub at_false : {X : Type 0} (z : Bool) (x y w : X) → z ≡ false → cond z x y ≡ w → y ≡ w
at_false z x y w e h = sym (ap (λ (t : Bool). cond t x y) e) ∙ h

-- ---- what a fetch tells of the run
pub fetched_there : (ys : List Answer) (i : ℕ) (d : Answer) → i < length ys → Some (slice_index_or ys i d) ≡ fetched_of ys i
fetched_there [] i d l = absurd (omega arith)
fetched_there (y ∷ ys) zero d l = refl
fetched_there (y ∷ ys) (suc i) d l = fetched_there ys i d (omega arith)

pub fetched_past : (ys : List Answer) (i : ℕ) → length ys ≤ i → None ≡ fetched_of ys i
fetched_past [] i l = refl
fetched_past (y ∷ ys) zero l = absurd (omega arith)
fetched_past (y ∷ ys) (suc i) l = fetched_past ys i (omega arith)

-- the library's `get`
pub got : (ys : List Answer) (i : ℕ) (r : Option (Bor Answer)) → IfSome r (λ x. x.now ≡ slice_index_or ys i x.now) → MatchOption r (length ys ≤ i) (λ x. (i < length ys) × HoldsAt (λ y. x.now ≡ y) ys i) → option_copied r ≡ fetched_of ys i
got ys i None s m = fetched_past ys i m
got ys i (Some b) s m = ap Some s ∙ fetched_there ys i b.now m.0

abbrev IsGot : Option Answer → Type 0
IsGot (Some a) = Unit {0}
IsGot None = ⊥

abbrev or_else : Answer → Option Answer → Answer
or_else d (Some a) = a
or_else d None = d

got_less : (ys : List Answer) (i : ℕ) → IsGot (fetched_of ys i) → i < length ys
got_less [] i g = absurd g
got_less (y ∷ ys) zero g = omega arith
got_less (y ∷ ys) (suc i) g = omega (arith, got_less ys i g)

got_cons : (ys : List Answer) (i : ℕ) (d : Answer) → IsGot (fetched_of ys i) → drop i ys ≡ or_else d (fetched_of ys i) ∷ drop (suc i) ys
got_cons [] i d g = absurd g
got_cons (y ∷ ys) zero d g = refl
got_cons (y ∷ ys) (suc i) d g = got_cons ys i d g

missing_le : (ys : List Answer) (i : ℕ) → (IsGot (fetched_of ys i) → ⊥) → length ys ≤ i
missing_le [] i g = omega arith
missing_le (y ∷ ys) zero g = absurd (g tt)
missing_le (y ∷ ys) (suc i) g = omega (arith, missing_le ys i g)

module _ (ys : List Answer) (i : ℕ) (a : Answer) (g : Some a ≡ fetched_of ys i) where
  is_got : IsGot (fetched_of ys i)
  is_got = subst IsGot g tt

  pub less : i < length ys
  less = got_less ys i is_got

  taken : drop i ys ≡ a ∷ drop (suc i) ys
  taken = got_cons ys i a is_got ∙ ap (λ (p : Option Answer). or_else a p ∷ drop (suc i) ys) (sym g)

  -- ---- where a turn stands that has fetched a: what is left to do is the same
  module _ (c : Result Call Refusal) (rs : List ℕ) (all : Driven) (w : waited_of i c rs (drop i ys) ≡ all) where
    at_wait : cond (retries_in c a) (waited_of (suc i) c rs (drop (suc i) ys)) (driven_from (suc i) (answered_in c rs a (suc i)) rs (drop (suc i) ys)) ≡ all
    at_wait = sym (ap (waited_of i c rs) taken) ∙ w

    -- an interruption is passed over
    pub passed : retries_in c a ≡ true → waited_of (i + 1) c rs (drop (i + 1) ys) ≡ all
    passed e = ap (λ (k : ℕ). waited_of k c rs (drop k ys)) (add-one i) ∙ at_true (retries_in c a) _ _ all e at_wait

    -- any other answer is handed to the call
    pub goes_on : (r : Result Call Refusal) → retries_in c a ≡ false → r ≡ answered_in c rs a (i + 1) → driven_from (i + 1) r rs (drop (i + 1) ys) ≡ all
    goes_on r non e = ap (λ (p : Result Call Refusal). driven_from (i + 1) p rs (drop (i + 1) ys)) e ∙ ap (λ (k : ℕ). driven_from k (answered_in c rs a k) rs (drop k ys)) (add-one i) ∙ at_false (retries_in c a) _ _ all non at_wait

module _ (i : ℕ) (c : Result Call Refusal) (rs : List ℕ) (ys : List Answer) (all : Driven) where
  -- the run is used up
  pub runs_out : None ≡ fetched_of ys i → waited_of i c rs (drop i ys) ≡ all → driven c i ≡ all
  runs_out g w = sym (ap (waited_of i c rs) (drop_of_length-le ys {i = i} (missing_le ys i (λ h. subst IsGot (sym g) h)))) ∙ w

  pub over : (b : Bool) → b ≡ over_in c → b ≡ true → driven_from i c rs (drop i ys) ≡ all → driven c i ≡ all
  over b p e h = at_true (over_in c) _ _ all (sym p ∙ e) h

  pub waits : (b : Bool) → b ≡ over_in c → b ≡ false → driven_from i c rs (drop i ys) ≡ all → waited_of i c rs (drop i ys) ≡ all
  waits b p e h = at_false (over_in c) _ _ all (sym p ∙ e) h
