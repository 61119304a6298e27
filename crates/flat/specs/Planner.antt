-- The flat forms of what the planner answers, and with a proposal's what the lent plan then holds.
use Rattle.std.specs.Prelude.{ℕ, List, Result, Ok, Err, ⊤}
use Rattle.planner.specs.Plan.{Proposal}
use Rattle.flat.specs.declared.structs.ProposeAnswer.{ProposeAnswer}
use Rattle.flat.specs.declared.structs.Refusal.{Refusal}
use Rattle.flat.specs.declared.structs.StripsAnswer.{StripsAnswer}
use Rattle.flat.specs.Flat.{no_refusal, flat_planner_refusal}
use Rattle.planner.specs.declared.strips.Strips.{Strips}
use Rattle.planner.specs.declared.refusal.Refusal as planner

abbrev pub flat_outlined : Result Strips planner.Refusal → StripsAnswer
flat_outlined (Ok o) = record { refusal = no_refusal; count = o.count; height = o.height; last = o.last }
flat_outlined (Err e) = record { refusal = flat_planner_refusal e; count = 0; height = 0; last = 0 }

abbrev pub flat_proposed : Result ℕ planner.Refusal → ProposeAnswer
flat_proposed (Ok n) = record { refusal = no_refusal; count = n }
flat_proposed (Err e) = record { refusal = flat_planner_refusal e; count = 0 }

abbrev pub flat_verdict : Result ⊤ planner.Refusal → Refusal
flat_verdict (Ok tt) = no_refusal
flat_verdict (Err e) = flat_planner_refusal e

pub record ProposeAnswerLeft : Type 0 where
  pub answer : ProposeAnswer
  pub plan : List ℕ

abbrev pub propose_answer_left : ProposeAnswer → List ℕ → ProposeAnswerLeft
propose_answer_left a plan = record { answer = a; plan = plan }

abbrev pub flat_proposal : Proposal → ProposeAnswerLeft
flat_proposal x = propose_answer_left (flat_proposed x.answer) x.plan
