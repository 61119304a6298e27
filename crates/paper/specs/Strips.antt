-- Rows of the planner, of its calls: whatever an attached contract allows of these arguments is this. docs/PAPER.md, "Strips".
use Rattle.std.specs.Prelude.{ℕ, ◌+◌, ◌-◌, ◌^◌, ◌≡◌, List, [], ◌∷◌, Result, Ok, Err, ⊤}
use contract.Lifetimes.{Lfts}
use denote.Triple.Clauses.{Lasts, at_exit}
use borrow.Fn.Kinds.{Dens, ended_of}
use Rattle.modular.proofs.Saying.{Allows}
use Rattle.operations.specs.declared.refusal.Refusal.TheVariants.{ZeroBufferLength, BufferTooLarge}
use Rattle.planner.specs.declared.refusal.Refusal.TheVariants.{Scheduler, SizeOutOfBounds, NoPlan, EmptyRun, RunOutOfPlace, RunTooLong, RowsLeft, PlanTooShort}
use Rattle.planner.proofs.outline.Kinds as outline_kinds
use Rattle.planner.proofs.outline.Reads as outline
use Rattle.planner.proofs.propose.Kinds as propose_kinds
use Rattle.planner.proofs.propose.Reads as propose
use Rattle.planner.proofs.check.Kinds as check_kinds
use Rattle.planner.proofs.check.Reads as check
use Rattle.planner.specs.declared.strips.Strips as planner
use Rattle.planner.specs.declared.refusal.Refusal.{Refusal}

-- ---- rows, bytes a row, L, and a lent plan, two numbers to a run
abbrev pub Outlines : ℕ → ℕ → ℕ → Result planner.Strips Refusal → Type 0
Outlines rows bytes L z = (y : Result planner.Strips Refusal) → Allows 0 outline_kinds.ps outline_kinds.r outline.Learnt tt (rows, (bytes, (L, tt))) y → y ≡ z

-- the answer, and what the plan then holds
abbrev pub Proposes : ℕ → ℕ → ℕ → List ℕ → Result ℕ Refusal → List ℕ → Type 0
Proposes rows bytes L plan z after =
    (κs : Lfts 1) (a : Dens κs propose_kinds.ps) → (a.0 ≡ rows) × (a.1.0 ≡ bytes) × (a.1.1.0 ≡ L) × (a.1.1.1.0.now ≡ plan) →
    (y : Result ℕ Refusal) (ws : Lasts (ended_of 1 propose_kinds.ps propose_kinds.r) κs a) → propose.Learnt κs a y (at_exit (ended_of 1 propose_kinds.ps propose_kinds.r) κs a ws) →
    (y ≡ z) × (ws.1.1.1.0 ≡ after)

abbrev pub Checks : ℕ → ℕ → ℕ → List ℕ → Result ⊤ Refusal → Type 0
Checks rows bytes L plan z =
    (κs : Lfts 1) (a : Dens κs check_kinds.ps) → (a.0 ≡ rows) × (a.1.0 ≡ bytes) × (a.1.1.0 ≡ L) × (a.1.1.1.0.now ≡ plan) →
    (y : Result ⊤ Refusal) → Allows 1 check_kinds.ps check_kinds.r check.Learnt κs a y → y ≡ z

pub record Strips : Type 0 where
  pub four : Outlines 10 4 20 (Ok (record { count = 4; height = 3; last = 1 }))
  pub four_runs : Proposes 10 4 20 (7 ∷ 7 ∷ 7 ∷ 7 ∷ 7 ∷ 7 ∷ 7 ∷ 7 ∷ 7 ∷ []) (Ok 4) (0 ∷ 3 ∷ 3 ∷ 3 ∷ 6 ∷ 3 ∷ 9 ∷ 1 ∷ 7 ∷ [])
  pub three_lent : Proposes 10 4 20 (7 ∷ 7 ∷ 7 ∷ 7 ∷ 7 ∷ 7 ∷ []) (Err (PlanTooShort 4 3)) (7 ∷ 7 ∷ 7 ∷ 7 ∷ 7 ∷ 7 ∷ [])
  pub ten : Outlines 10 4 12 (Ok (record { count = 10; height = 1; last = 1 }))
  pub none : Outlines 10 4 11 (Err (NoPlan 4 11))
  pub none_proposed : Proposes 10 4 11 [] (Err (NoPlan 4 11)) []
  pub none_checked : Checks 10 4 11 [] (Err (NoPlan 4 11))
  pub one_alone : Outlines 3 4 100 (Ok (record { count = 1; height = 3; last = 3 }))
  pub length_first : Outlines 0 4 0 (Err (Scheduler ZeroBufferLength))
  pub too_large : Outlines 0 0 (2 ^ 63 + 1) (Err (Scheduler (BufferTooLarge (2 ^ 63 + 1))))
  pub no_rows : Outlines 0 4 5 (Err (SizeOutOfBounds 0 4))
  pub most_rows : Outlines 65535 1 9 (Ok (record { count = 65535; height = 1; last = 1 }))
  pub rows_too_many : Outlines 65536 4 20 (Err (SizeOutOfBounds 65536 4))
  pub most_bytes : Outlines 3 (2 ^ 20) (2 ^ 20 + 8) (Ok (record { count = 3; height = 1; last = 1 }))
  pub bytes_too_many : Outlines 3 (2 ^ 20 + 1) (2 ^ 63) (Err (SizeOutOfBounds 3 (2 ^ 20 + 1)))
  pub no_bytes : Outlines 3 0 20 (Err (SizeOutOfBounds 3 0))
  pub too_many_proposed : Proposes 65536 4 20 [] (Err (SizeOutOfBounds 65536 4)) []
  pub too_many_checked : Checks 65536 4 20 [] (Err (SizeOutOfBounds 65536 4))
  pub own : Checks 10 4 20 (0 ∷ 3 ∷ 3 ∷ 3 ∷ 6 ∷ 3 ∷ 9 ∷ 1 ∷ []) (Ok tt)
  pub empty_run : Checks 10 4 20 (0 ∷ 3 ∷ 4 ∷ 0 ∷ []) (Err (EmptyRun 1))
  pub gap : Checks 10 4 20 (0 ∷ 3 ∷ 4 ∷ 3 ∷ []) (Err (RunOutOfPlace 1))
  pub overlap : Checks 10 4 20 (0 ∷ 3 ∷ 2 ∷ 3 ∷ []) (Err (RunOutOfPlace 1))
  pub far_past : Checks 10 4 20 (0 ∷ 3 ∷ 3 ∷ (2 ^ 64 - 1) ∷ []) (Err (RunOutOfPlace 1))
  pub count_of_33_bits : Checks 10 4 20 (0 ∷ 3 ∷ 3 ∷ (2 ^ 32 + 3) ∷ []) (Err (RunOutOfPlace 1))
  pub first_of_33_bits : Checks 10 4 20 (0 ∷ 3 ∷ (2 ^ 32 + 3) ∷ 3 ∷ []) (Err (RunOutOfPlace 1))
  pub one_past : Checks 3 4 20 (0 ∷ 3 ∷ 3 ∷ 1 ∷ []) (Err (RunOutOfPlace 1))
  pub long_run : Checks 10 4 20 (0 ∷ 4 ∷ []) (Err (RunTooLong 0))
  pub second_long : Checks 10 4 20 (0 ∷ 3 ∷ 3 ∷ 4 ∷ []) (Err (RunTooLong 1))
  pub one_behind : Checks 3 4 20 (0 ∷ 3 ∷ 3 ∷ []) (Ok tt)
  pub rows_left : Checks 10 4 20 (0 ∷ 3 ∷ 3 ∷ 3 ∷ 6 ∷ 3 ∷ []) (Err (RowsLeft 9))
  pub no_runs : Checks 10 4 20 [] (Err (RowsLeft 0))
