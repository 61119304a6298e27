-- A line's answer, by its length.
use Prim.Native.Nat.{ℕ, ◌<◌, ◌≤◌}
use mathlib.Core.Path.{◌≡◌, sym, ◌∙◌}
use mathlib.Core.List.{List}
use Rattle.std.proofs.Common.{Err}
use mathlib.Core.Logic.{⊎_elim}
use lib.ListN.{length}
use borrow.Author.Tests.{lt-ltb, le-ltb}
use Rattle.modular.proofs.Laws.{lt_or_le}
use Rattle.planline.specs.declared.plan.PlanError.TheVariants.{Bad}
use Rattle.planline.specs.declared.plan.Question.{Question}
use Rattle.planline.specs.Plan.{answer_to, plan_of}

module _ (q : Question) (xs : List ℕ) where
  pub plan_long : 120 < length xs → Err Bad ≡ plan_of q xs
  unfolding plan_of
  plan_long h = rw (lt-ltb _ _ h)

  pub plan_short : length xs ≤ 120 → answer_to q xs ≡ plan_of q xs
  unfolding plan_of
  plan_short h = rw (le-ltb _ _ h)

  -- what is bad within 120 bytes is bad
  pub plan_bad : answer_to q xs ≡ Err Bad → plan_of q xs ≡ Err Bad
  plan_bad e = ⊎_elim (λ long. sym (plan_long long)) (λ short. sym (plan_short short) ∙ e) (lt_or_le 120 (length xs))
