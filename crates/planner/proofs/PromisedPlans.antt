-- The sentences of the request that go over several calls: which plans the check accepts, that those of the planner are among them and that
-- none of them has fewer runs, and that 15 is given where no plan exists at all.
use Rattle.std.specs.Bool.{⊤}
use Rattle.std.proofs.Common.{Result, Ok, Err, ℕ}
use Prim.Native.Nat.{ℕ, zero, ◌+◌, ◌*◌, ◌<◌, ◌≤◌}
use mathlib.Core.Path.{◌≡◌, refl, ap}
use mathlib.Core.List.{List, [], ◌∷◌}
use mathlib.Core.Logic.{⊎_elim}
use lib.ListN.{take}
use contract.Lifetimes.{Lfts}
use denote.Triple.Clauses.{Lasts, at_exit}
use borrow.Fn.Kinds.{Dens, ended_of}
use native.Mathlib.Nat.{mul-le-mul_right, one-mul}
use native.Mathlib.Omega.{arith}
use Rattle.modular.proofs.Laws.{lt_or_le}
use Rattle.modular.proofs.Saying.{Allows, Keeps}
use Rattle.sched.specs.Scheduler.{Sized}
use Rattle.planner.specs.Given.{Told, told, Exactly, GivenSizes, fit, given_1, given_2, given_14, given_15, GivenPlan, before_39, given_39, room, Fault, fault_16, fault_17, fault_18, GivenCheck, by_sizes, bad_run, given_19, accepted, of_planner}
use Rattle.planner.specs.Promise.{Bounded, Fitting, runs_in, count_at, behind, IsPlan, Fewest, NoPlanExists, Proposes, runs}
use Rattle.planner.specs.Promise as promise
use Rattle.planner.proofs.PromisedValues.{number_some}
use Rattle.planner.proofs.PlanLaws.{own, own_plan}
use Rattle.planner.proofs.Promised.{propose_promised}
use Rattle.planner.proofs.Refuses.{outline_refuses, propose_refuses, check_refuses}
use Rattle.planner.proofs.strips.outline.Kinds as outline_kinds
use Rattle.planner.proofs.strips.outline.Reads as outline
use Rattle.planner.proofs.plan.propose.Kinds as propose_kinds
use Rattle.planner.proofs.plan.propose.Reads as propose
use Rattle.planner.proofs.verdict.check.Kinds as check_kinds
use Rattle.planner.proofs.verdict.check.Reads as check
use Rattle.planner.specs.declared.refusal.Refusal.{Refusal}

abbrev pub Fifteen : ℕ → ℕ → ℕ → Told → Type 0
Fifteen rows bytes L t = (t.number ≡ 15 → NoPlanExists rows bytes L) × (NoPlanExists rows bytes L → t.number ≡ 15)

module _ (rows bytes L : ℕ) where
  -- ---- where a plan exists, one row and its header fit
  some_run : 1 ≤ rows → (plan : List ℕ) → IsPlan rows bytes L plan → 0 < runs_in plan
  some_run some plan p =
      ⊎_elim (λ l. l) (λ l. let none : runs_in plan ≡ zero = omega arith in absurd (omega (arith, some, p.end, ap (behind plan) none))) (lt_or_le 0 (runs_in plan))

  row_fits : 1 ≤ rows → (plan : List ℕ) → IsPlan rows bytes L plan → bytes + 8 ≤ L
  row_fits some plan p =
      let l = some_run some plan p in
      omega (arith, p.fit 0 l, mul-le-mul_right {m = 1} {n = count_at plan 0} bytes (p.nonempty 0 l), one-mul bytes)

  planned_fits : Sized L → Bounded rows bytes → (plan : List ℕ) → IsPlan rows bytes L plan → Fitting rows bytes L
  planned_fits s b plan p = record { sized = s; bounded = b; row = row_fits b.some_rows plan p }

  module _ (s : Sized L) (b : Bounded rows bytes) where
    none_exists : L < bytes + 8 → NoPlanExists rows bytes L
    none_exists l plan p = omega (arith, l, row_fits b.some_rows plan p)

    none_fits : NoPlanExists rows bytes L → L < bytes + 8
    none_fits n =
        ⊎_elim (λ l. l) (λ l. let f : Fitting rows bytes L = record { sized = s; bounded = b; row = l } in absurd (n (own rows bytes L f) (own_plan rows bytes L f))) (lt_or_le L (bytes + 8))

    -- a table in which 15 stands for that says just when no plan exists
    fifteen :
        (G : ℕ → List ℕ → Type 0) (t : Told) → Exactly G t → (t.number ≡ 15 → L < bytes + 8) → (L < bytes + 8 → G 15 (bytes ∷ L ∷ [])) → Fifteen rows bytes L t
    fifteen G t x only always = (λ e. none_exists (only e), λ n. ap (λ (u : Told). u.number) (x.always 15 (bytes ∷ L ∷ []) (always (none_fits n))))

  sizes_15 : {n : ℕ} {vs : List ℕ} → GivenSizes rows bytes L n vs → n ≡ 15 → L < bytes + 8
  sizes_15 (fit f) e = absurd (omega arith)
  sizes_15 (given_1 p) e = absurd (omega arith)
  sizes_15 (given_2 l) e = absurd (omega arith)
  sizes_15 (given_14 s k) e = absurd (omega arith)
  sizes_15 (given_15 s b l) e = l

  plan_15 : (plan : List ℕ) {n : ℕ} {vs : List ℕ} → GivenPlan rows bytes L plan n vs → n ≡ 15 → L < bytes + 8
  plan_15 plan (before_39 p g) e = sizes_15 g e
  plan_15 plan (given_39 other f p w l) e = absurd (omega arith)
  plan_15 plan (room other f p w l) e = absurd (omega arith)

  -- a run's faults have other numbers
  fault_number : (plan : List ℕ) {k n : ℕ} → Fault rows bytes L plan k n → (16 ≤ n) × (n ≤ 18)
  fault_number plan (fault_16 e) = (omega arith, omega arith)
  fault_number plan (fault_17 s w) = (omega arith, omega arith)
  fault_number plan (fault_18 s p w l) = (omega arith, omega arith)

  checked_15 : (plan : List ℕ) {n : ℕ} {vs : List ℕ} → GivenCheck rows bytes L plan n vs → n ≡ 15 → L < bytes + 8
  checked_15 plan (by_sizes p g) e = sizes_15 g e
  checked_15 plan (bad_run f l a w) e = absurd (omega (arith, e, (fault_number plan w).0))
  checked_15 plan (given_19 f a l) e = absurd (omega arith)
  checked_15 plan (accepted f p) e = absurd (omega arith)

  -- ---- a verdict
  accepted_plan : (plan : List ℕ) {n : ℕ} {vs : List ℕ} → GivenCheck rows bytes L plan n vs → n ≡ 0 → Fitting rows bytes L × IsPlan rows bytes L plan
  accepted_plan plan (by_sizes p g) e = absurd (omega arith)
  accepted_plan plan (bad_run f l a w) e = absurd (omega (arith, e, (fault_number plan w).0))
  accepted_plan plan (given_19 f a l) e = absurd (omega arith)
  accepted_plan plan (accepted f p) e = (f, p)

  zero_accepts : (z : Result ⊤ Refusal) → of_planner z ≡ told 0 [] → z ≡ Ok tt
  zero_accepts (Ok tt) e = refl
  zero_accepts (Err r) e = absurd (omega (arith, number_some r, ap (λ (t : Told). t.number) e))

  -- ---- a proposal that is not refused
  made : (plan after : List ℕ) (z : Result ℕ Refusal) → Proposes rows bytes L plan z after → (n : ℕ) → z ≡ Ok n → IsPlan rows bytes L (take (2 * n) after) × Fewest rows bytes L n
  made plan after z (promise.refuses e) n q = let x : ◌≡◌ {A = ℕ} 0 1 = cc in absurd (omega arith)
  made plan after z (runs m _ p r t w u v) n q = let e : m ≡ n = cc in (rw e at p, rw e at w)

  made_fits : (plan : List ℕ) {n : ℕ} {vs : List ℕ} → GivenPlan rows bytes L plan n vs → n ≡ 0 → Fitting rows bytes L
  made_fits plan (before_39 p g) e = absurd (omega arith)
  made_fits plan (given_39 other f p w l) e = absurd (omega arith)
  made_fits plan (room other f p w l) e = f

-- ---- the check accepts exactly the plans that the sentence describes, of sizes that are in bounds
pub check_promised :
    Keeps 1 check_kinds.ps check_kinds.r check.Learnt
    (λ κs a z.
    Sized a.1.1.0 → Bounded a.0 a.1.0 →
    (z ≡ Ok tt → IsPlan a.0 a.1.0 a.1.1.0 a.1.1.1.0.now) × (IsPlan a.0 a.1.0 a.1.1.0 a.1.1.1.0.now → z ≡ Ok tt))
check_promised κs a z q s b =
    let x = check_refuses κs a z q in (
      λ e. (accepted_plan a.0 a.1.0 a.1.1.0 a.1.1.1.0.now x.only (ap (λ (v : Result ⊤ Refusal). (of_planner v).number) e)).1,
      λ p. zero_accepts a.0 a.1.0 a.1.1.0 z (x.always 0 [] (accepted (planned_fits a.0 a.1.0 a.1.1.0 s b a.1.1.1.0.now p) p)),
    )

-- ---- the planner's own plan is accepted, and no accepted plan has fewer runs
module _
    (κs : Lfts 1)
    (a : Dens κs propose_kinds.ps)
    (z : Result ℕ Refusal)
    (ws : Lasts (ended_of 1 propose_kinds.ps propose_kinds.r) κs a)
    (q : propose.Learnt κs a z (at_exit (ended_of 1 propose_kinds.ps propose_kinds.r) κs a ws))
    (n : ℕ)
    (e : z ≡ Ok n)
    (ηs : Lfts 1)
    (b : Dens ηs check_kinds.ps)
    (same : (b.0 ≡ a.0) × (b.1.0 ≡ a.1.0) × (b.1.1.0 ≡ a.1.1.0))
    (y : Result ⊤ Refusal)
    (c : Allows 1 check_kinds.ps check_kinds.r check.Learnt ηs b y)
  where
    proposed_plan : IsPlan a.0 a.1.0 a.1.1.0 (take (2 * n) ws.1.1.1.0) × Fewest a.0 a.1.0 a.1.1.0 n
    proposed_plan = made a.0 a.1.0 a.1.1.0 a.1.1.1.0.now ws.1.1.1.0 z (propose_promised κs a z ws q) n e

    pub own_plan_accepted : b.1.1.1.0.now ≡ take (2 * n) ws.1.1.1.0 → y ≡ Ok tt
    own_plan_accepted p =
        let f : Fitting a.0 a.1.0 a.1.1.0 = made_fits a.0 a.1.0 a.1.1.0 a.1.1.1.0.now (propose_refuses κs a z (ws, q)).only (ap (λ (r : Result ℕ Refusal). (of_planner r).number) e) in
        (check_promised ηs b y c (rw same.2 f.sized) (rw (same.0, same.1) f.bounded)).1 (rw (same.0, same.1, same.2, p) proposed_plan.0)

    pub accepted_not_fewer : y ≡ Ok tt → n ≤ runs_in b.1.1.1.0.now
    accepted_not_fewer g =
        proposed_plan.1 b.1.1.1.0.now
        (rw (same.0, same.1, same.2) at (accepted_plan b.0 b.1.0 b.1.1.0 b.1.1.1.0.now (check_refuses ηs b y c).only (ap (λ (v : Result ⊤ Refusal). (of_planner v).number) g)).1)

-- ---- 15 is given exactly when no plan exists at all, of each call
pub outline_15 :
    Keeps 0 outline_kinds.ps outline_kinds.r outline.Learnt
    (λ κs a z. Sized a.1.1.0 → Bounded a.0 a.1.0 → Fifteen a.0 a.1.0 a.1.1.0 (of_planner z))
outline_15 κs a z q s b =
    let x = outline_refuses κs a z q in
    fifteen a.0 a.1.0 a.1.1.0 s b _ (of_planner z) x (sizes_15 a.0 a.1.0 a.1.1.0 x.only) (given_15 s b)

pub propose_15 :
    Keeps 1 propose_kinds.ps propose_kinds.r propose.Learnt
    (λ κs a z. Sized a.1.1.0 → Bounded a.0 a.1.0 → Fifteen a.0 a.1.0 a.1.1.0 (of_planner z))
propose_15 κs a z q s b =
    let x = propose_refuses κs a z q in
    fifteen a.0 a.1.0 a.1.1.0 s b _ (of_planner z) x (plan_15 a.0 a.1.0 a.1.1.0 a.1.1.1.0.now x.only)
    (λ l. before_39 (omega arith) (given_15 s b l))

pub check_15 :
    Keeps 1 check_kinds.ps check_kinds.r check.Learnt
    (λ κs a z. Sized a.1.1.0 → Bounded a.0 a.1.0 → Fifteen a.0 a.1.0 a.1.1.0 (of_planner z))
check_15 κs a z q s b =
    let x = check_refuses κs a z q in
    fifteen a.0 a.1.0 a.1.1.0 s b _ (of_planner z) x (checked_15 a.0 a.1.0 a.1.1.0 a.1.1.1.0.now x.only)
    (λ l. by_sizes (omega arith) (given_15 s b l))
