-- What it is for a contract to say the outcome: whatever it allows is f of the arguments, and what is left behind each `&mut`
-- is g of them. `L` is a function's own `Learnt`, which the toolchain reads off the contract that is attached; `n` counts its
-- lifetimes.
use Rattle.std.proofs.Common.{◌≡◌, ℕ, List, sym, ◌∙◌}
use contract.Lifetimes.{Lfts}
use denote.Triple.Clauses.{Lasts, at_exit}
use borrow.Fn.Kinds.{ParamKind, ResultKind, Out, Dens, res_t, ended_of}

-- a call that changes nothing that is lent
abbrev pub Says : (n : ℕ) (ps : List (ParamKind n)) (r : ResultKind n) → Out n ps r → ((κs : Lfts n) → Dens κs ps → (res_t r κs).Denot) → Type 0
Says n ps r L f =
    (κs : Lfts n) (a : Dens κs ps) (z : (res_t r κs).Denot) (ws : Lasts (ended_of n ps r) κs a) →
    L κs a z (at_exit (ended_of n ps r) κs a ws) → z ≡ f κs a

-- a call that changes lent memory
abbrev pub Leaves :
    (n : ℕ) (ps : List (ParamKind n)) (r : ResultKind n) → Out n ps r →
    ((κs : Lfts n) → Dens κs ps → (res_t r κs).Denot) → ((κs : Lfts n) (a : Dens κs ps) → Lasts (ended_of n ps r) κs a) → Type 0
Leaves n ps r L f g =
    (κs : Lfts n) (a : Dens κs ps) (z : (res_t r κs).Denot) (ws : Lasts (ended_of n ps r) κs a) →
    L κs a z (at_exit (ended_of n ps r) κs a ws) → (z ≡ f κs a) × (ws ≡ g κs a)

-- ---- so it decides the outcome: any two that it allows are equal
abbrev pub Decides : (n : ℕ) (ps : List (ParamKind n)) (r : ResultKind n) → Out n ps r → Type 0
Decides n ps r L =
    (κs : Lfts n) (a : Dens κs ps) (z z' : (res_t r κs).Denot) (ws ws' : Lasts (ended_of n ps r) κs a) →
    L κs a z (at_exit (ended_of n ps r) κs a ws) →
    L κs a z' (at_exit (ended_of n ps r) κs a ws') →
    (z ≡ z') × (ws ≡ ws')

-- nothing is lent to be changed: there is one value of what is left
abbrev pub Unchanged : (n : ℕ) (ps : List (ParamKind n)) (r : ResultKind n) → Type 0
Unchanged n ps r = (κs : Lfts n) (a : Dens κs ps) (ws ws' : Lasts (ended_of n ps r) κs a) → ws ≡ ws'

module _ (n : ℕ) (ps : List (ParamKind n)) (r : ResultKind n) (L : Out n ps r) (f : (κs : Lfts n) → Dens κs ps → (res_t r κs).Denot) where
  pub says_decides : Unchanged n ps r → Says n ps r L f → Decides n ps r L
  says_decides one says κs a z z' ws ws' p p' = (says κs a z ws p ∙ sym (says κs a z' ws' p'), one κs a ws ws')

  pub leaves_decides : (g : (κs : Lfts n) (a : Dens κs ps) → Lasts (ended_of n ps r) κs a) → Leaves n ps r L f g → Decides n ps r L
  leaves_decides g leaves κs a z z' ws ws' p p' =
      ((leaves κs a z ws p).0 ∙ sym (leaves κs a z' ws' p').0, (leaves κs a z ws p).1 ∙ sym (leaves κs a z' ws' p').1)

-- ---- a promise of a call: every outcome that its contract allows keeps it
abbrev pub Allows : (n : ℕ) (ps : List (ParamKind n)) (r : ResultKind n) → Out n ps r → (κs : Lfts n) → Dens κs ps → (res_t r κs).Denot → Type 0
Allows n ps r L κs a z = (ws : Lasts (ended_of n ps r) κs a) × L κs a z (at_exit (ended_of n ps r) κs a ws)

abbrev pub Keeps : (n : ℕ) (ps : List (ParamKind n)) (r : ResultKind n) → Out n ps r → ((κs : Lfts n) → Dens κs ps → (res_t r κs).Denot → Type 0) → Type 0
Keeps n ps r L P = (κs : Lfts n) (a : Dens κs ps) (z : (res_t r κs).Denot) → Allows n ps r L κs a z → P κs a z
