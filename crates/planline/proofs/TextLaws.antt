-- Laws of a plan's text: how long it is, and how much of the line it takes to tell it.
use Prim.Native.Nat.{ℕ, ◌≤◌}
use mathlib.Core.Path.{◌≡◌, sym, ap, ◌∙◌}
use mathlib.Core.List.{List, [], ◌∷◌, ◌++◌}
use Rattle.std.proofs.Common.{Result, Ok, Err}
use mathlib.Core.Logic.{⊎_elim}
use lib.ListN.{length, take, length-append, length-take}
use lib.Seq.{take_all}
use native.Mathlib.Omega.{arith}
use Rattle.lines.specs.Decimal.{decimal}
use Rattle.lines.proofs.DecimalLaws.{decimal_short}
use Rattle.modular.proofs.Laws.{lt_or_le}
use Rattle.operations.specs.Lists.{ScheduledOperations}
use Rattle.operations.specs.declared.list.AtMostTwo.TheVariants as list
use Rattle.operations.specs.declared.operation.ScheduledOperation.{ScheduledOperation}
use Rattle.planner.specs.declared.strips.Strips.{Strips}
use Rattle.planner.specs.Refusal.{number_of}
use Rattle.planline.specs.declared.plan.Plan.{Plan}
use Rattle.planline.specs.declared.plan.Plan.TheVariants as plan
use Rattle.planline.specs.declared.plan.PlanError.{PlanError}
use Rattle.planline.specs.declared.plan.PlanError.TheVariants.{Bad, Refused}
use Rattle.planline.specs.Cut.{most_held, line_text}
use Rattle.planline.specs.declared.plan.Question.{Question}
use Rattle.planline.specs.Plan.{plan_of}
use Rattle.planline.specs.Text.{operation_text, list_text, strips_text, plan_text}
use Rattle.planline.proofs.PlanLaws.{plan_long}

-- ---- lengths
operation_short : (a : ScheduledOperation) → length (operation_text a) ≤ 42
unfolding operation_text
operation_short a =
    omega (arith, length-append (decimal a.off.0) (32 ∷ decimal a.len), decimal_short a.off.0, decimal_short a.len)

list_short : (ops : ScheduledOperations) → length (list_text ops) ≤ 85
unfolding list_text
list_short list.None = omega arith
list_short (list.One a) = omega (arith, operation_short a)
list_short (list.Two a b) = omega (arith, length-append (operation_text a) (operation_text b), operation_short a, operation_short b)

strips_short : (o : Strips) → length (strips_text o) ≤ 62
unfolding strips_text
strips_short o =
    omega (
      arith,
      length-append (decimal o.count) (32 ∷ (decimal o.height ++ (32 ∷ decimal o.last))),
      length-append (decimal o.height) (32 ∷ decimal o.last),
      decimal_short o.count,
      decimal_short o.height,
      decimal_short o.last,
    )

pub plan_text_short : (p : Result Plan PlanError) → length (plan_text p) ≤ 89
unfolding plan_text
plan_text_short (Err Bad) = omega arith
plan_text_short (Err (Refused e)) = omega (arith, length-append (decimal (number_of e)) (10 ∷ []), decimal_short (number_of e))
plan_text_short (Ok (plan.Operations ops)) = omega (arith, length-append (list_text ops) (10 ∷ []), list_short ops)
plan_text_short (Ok (plan.Strips o)) = omega (arith, length-append (strips_text o) (10 ∷ []), strips_short o)

-- ---- 121 bytes of a line tell its answer
pub text_kept : (q : Question) (line : List ℕ) → line_text q (take most_held line) ≡ line_text q line
text_kept q line =
    ap plan_text
    (⊎_elim
    (λ long. sym (plan_long q (take 121 line) (omega (arith, length-take 121 line))) ∙ plan_long q line (omega arith))
    (λ short. ap (plan_of q) (take_all 121 line short))
    (lt_or_le 121 (length line)))
