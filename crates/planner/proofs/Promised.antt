-- What is promised of the calls, in the words of specs/Promise.antt: every outcome that an attached contract allows keeps it.
use Rattle.std.specs.Bool.{⊤}
use Rattle.std.proofs.Common.{Result, Ok, Err, ℕ}
use Prim.Native.Nat.{ℕ, ◌*◌, ◌≤◌}
use mathlib.Core.Path.{◌≡◌, refl, sym, ap, ◌∙◌}
use mathlib.Core.Bool.{Bool, true, false, cond}
use mathlib.Core.List.{List, ◌++◌}
use lib.Dec.{ltb}
use lib.ListN.{length, take, drop}
use lib.Seq.{sets, sets-eq, length-sets, take_at, drop_at}
use borrow.Author.Tests.{ltb-false}
use contract.Lifetimes.{Lfts}
use denote.Triple.Clauses.{Lasts, at_exit}
use borrow.Fn.Kinds.{Dens, ended_of}
use native.Mathlib.Nat.{zero-add}
use native.Mathlib.Omega.{arith}
use Rattle.modular.proofs.Saying.{Keeps}
use Rattle.planner.specs.declared.refusal.Refusal.TheVariants.{PlanTooShort}
use Rattle.planner.specs.Plan.{Proposal, proposal, propose_in, propose_from}
use Rattle.planner.specs.Promise.{Fitting, runs_in, Proposes, Outlines, tells}
use Rattle.planner.specs.Promise as promise
use Rattle.planner.specs.Strips.{outline_in, outline_from}
use Rattle.planner.proofs.PlanLaws.{height, strips, own, runs_length, own_runs, own_plan, own_tall, own_fewest, own_height, own_wholes, own_last}
use Rattle.planner.proofs.Says.{outline_says, propose_says}
use Rattle.planner.proofs.SizeLaws.{Tested, tested}
use Rattle.planner.proofs.SizeLaws as size
use Rattle.planner.proofs.strips.outline.Kinds as outline_kinds
use Rattle.planner.proofs.strips.outline.Reads as outline
use Rattle.planner.proofs.plan.propose.Kinds as propose_kinds
use Rattle.planner.proofs.plan.propose.Reads as propose
use Rattle.planner.specs.declared.refusal.Refusal.{Refusal}

-- ---- over the definitions
module _ (rows bytes L : ℕ) where
  module _ (f : Fitting rows bytes L) where
    outlines_fit : Outlines rows bytes L (Ok (outline_in rows (height rows bytes L f)))
    outlines_fit =
        tells (own rows bytes L f) (outline_in rows (height rows bytes L f)) (own_plan rows bytes L f) (own_tall rows bytes L f)
        (λ other p. omega (arith, own_runs rows bytes L f, own_fewest rows bytes L f other p))
        (sym (own_runs rows bytes L f)) (sym (own_height rows bytes L f)) (own_wholes rows bytes L f) (own_last rows bytes L f)

    -- the runs stand in front of the rest
    module _ (plan : List ℕ) (l : strips rows bytes L f ≤ runs_in plan) where
      abbrev after : List ℕ
      after = sets plan 0 (own rows bytes L f)

      size_of : length (own rows bytes L f) ≡ 2 * strips rows bytes L f
      size_of = runs_length (height rows bytes L f) rows (strips rows bytes L f) 0

      stands : after ≡ own rows bytes L f ++ drop (2 * strips rows bytes L f) plan
      stands =
          sets-eq (own rows bytes L f) plan 0 (omega (arith, size_of))
          ∙ ap (λ (n : ℕ). own rows bytes L f ++ drop n plan) (zero-add (length (own rows bytes L f)) ∙ size_of)

      front : take (2 * strips rows bytes L f) after ≡ own rows bytes L f
      front = ap (take (2 * strips rows bytes L f)) stands ∙ take_at (own rows bytes L f) (drop (2 * strips rows bytes L f) plan) (2 * strips rows bytes L f) size_of

      rest : drop (2 * strips rows bytes L f) after ≡ drop (2 * strips rows bytes L f) plan
      rest = ap (drop (2 * strips rows bytes L f)) stands ∙ drop_at (own rows bytes L f) (drop (2 * strips rows bytes L f) plan) (2 * strips rows bytes L f) size_of

      proposes_runs : Proposes rows bytes L plan (Ok (strips rows bytes L f)) after
      proposes_runs =
          promise.runs (strips rows bytes L f) after (rw front (own_plan rows bytes L f)) (ap runs_in front ∙ own_runs rows bytes L f)
          (rw front (own_tall rows bytes L f)) (own_fewest rows bytes L f) (length-sets plan 0 (own rows bytes L f)) rest

    abbrev either : List ℕ → Bool → Proposal
    either plan b = cond {A = Proposal} b (proposal (Err (PlanTooShort (strips rows bytes L f) (runs_in plan))) plan) (proposal (Ok (strips rows bytes L f)) (sets plan 0 (own rows bytes L f)))

    proposes_fit : (plan : List ℕ) → Proposes rows bytes L plan (propose_in rows (outline_in rows (height rows bytes L f)) plan).answer (propose_in rows (outline_in rows (height rows bytes L f)) plan).plan
    unfolding propose_in
    proposes_fit plan = by (ltb (runs_in plan) (strips rows bytes L f)) refl
      where
        by : (b : Bool) → ltb (runs_in plan) (strips rows bytes L f) ≡ b → Proposes rows bytes L plan (either plan b).answer (either plan b).plan
        by true e = promise.refuses (PlanTooShort (strips rows bytes L f) (runs_in plan))
        by false e = proposes_runs plan (ltb-false (runs_in plan) (strips rows bytes L f) e)

  outlines : (z : Result ⊤ Refusal) → Tested rows bytes L z → Outlines rows bytes L (outline_from rows bytes L z)
  outlines (Ok tt) (size.fit f) = outlines_fit f
  outlines (Err e) t = promise.refuses e

  proposes : (plan : List ℕ) (z : Result ⊤ Refusal) → Tested rows bytes L z → Proposes rows bytes L plan (propose_from rows plan (outline_from rows bytes L z)).answer (propose_from rows plan (outline_from rows bytes L z)).plan
  proposes plan (Ok tt) (size.fit f) = proposes_fit f plan
  proposes plan (Err e) t = promise.refuses e

-- ---- of the calls
pub outline_promised : Keeps 0 outline_kinds.ps outline_kinds.r outline.Learnt (λ κs a z. Outlines a.0 a.1.0 a.1.1.0 z)
outline_promised κs a z (ws, p) = rw (outline_says κs a z ws p) (outlines a.0 a.1.0 a.1.1.0 _ (tested a.0 a.1.0 a.1.1.0))

pub propose_promised :
    (κs : Lfts 1) (a : Dens κs propose_kinds.ps) (z : Result ℕ Refusal) (ws : Lasts (ended_of 1 propose_kinds.ps propose_kinds.r) κs a) →
    propose.Learnt κs a z (at_exit (ended_of 1 propose_kinds.ps propose_kinds.r) κs a ws) →
    Proposes a.0 a.1.0 a.1.1.0 a.1.1.1.0.now z ws.1.1.1.0
propose_promised κs a z ws p =
    let left = propose_says κs a z ws p in
    rw (left.0, left.1) (proposes a.0 a.1.0 a.1.1.0 a.1.1.1.0.now _ (tested a.0 a.1.0 a.1.1.0))
