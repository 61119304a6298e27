-- A plan as text, with its line feed.
use Rattle.std.specs.Prelude.{ℕ, List, [], ◌∷◌, ◌++◌, Result, Ok, Err}
use Rattle.lines.specs.Decimal.{decimal}
use Rattle.operations.specs.Lists.{ScheduledOperations}
use Rattle.operations.specs.declared.list.AtMostTwo.TheVariants as list
use Rattle.operations.specs.declared.operation.ScheduledOperation.{ScheduledOperation}
use Rattle.planner.specs.declared.strips.Strips.{Strips}
use Rattle.planner.specs.Refusal.{number_of}
use Rattle.planline.specs.declared.plan.Plan.{Plan}
use Rattle.planline.specs.declared.plan.Plan.TheVariants as plan
use Rattle.planline.specs.declared.plan.PlanError.{PlanError}
use Rattle.planline.specs.declared.plan.PlanError.TheVariants.{Bad, Refused}

-- " offset length"
unfoldable pub operation_text : ScheduledOperation → List ℕ
operation_text a = 32 ∷ (decimal a.off.0 ++ (32 ∷ decimal a.len))

-- "0", "1 offset length", "2 offset length offset length"
unfoldable pub list_text : ScheduledOperations → List ℕ
list_text list.None = 48 ∷ []
list_text (list.One a) = 49 ∷ operation_text a
list_text (list.Two a b) = 50 ∷ (operation_text a ++ operation_text b)

-- "count height last"
unfoldable pub strips_text : Strips → List ℕ
strips_text o = decimal o.count ++ (32 ∷ (decimal o.height ++ (32 ∷ decimal o.last)))

-- "bad", "refused number", "ok list", "ok count height last"
unfoldable pub plan_text : Result Plan PlanError → List ℕ
plan_text (Err Bad) = 98 ∷ 97 ∷ 100 ∷ 10 ∷ []
plan_text (Err (Refused e)) = 114 ∷ 101 ∷ 102 ∷ 117 ∷ 115 ∷ 101 ∷ 100 ∷ 32 ∷ (decimal (number_of e) ++ (10 ∷ []))
plan_text (Ok (plan.Operations ops)) = 111 ∷ 107 ∷ 32 ∷ (list_text ops ++ (10 ∷ []))
plan_text (Ok (plan.Strips o)) = 111 ∷ 107 ∷ 32 ∷ (strips_text o ++ (10 ∷ []))

-- no text is longer
abbrev pub longest : ℕ
longest = 89
