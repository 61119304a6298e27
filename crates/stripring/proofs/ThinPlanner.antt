-- Thin.antt, of the planner; what a proposal leaves in the lent plan is in SaysPlanner.antt.
use mathlib.Core.Path.{sym, ap, ◌∙◌}
use Rattle.planner.specs.Plan.{Proposal}
use Rattle.planner.proofs.outline.Kinds as lib_outline_kinds
use Rattle.planner.proofs.outline.Reads as lib_outline
use Rattle.planner.proofs.propose.Kinds as lib_propose_kinds
use Rattle.planner.proofs.propose.Reads as lib_propose
use Rattle.planner.proofs.check.Kinds as lib_check_kinds
use Rattle.planner.proofs.check.Reads as lib_check
use Rattle.flat.specs.Planner.{ProposeAnswerLeft, flat_outlined, flat_proposed, flat_verdict}
use Rattle.stripring.proofs.Thin.{Thin}
use Rattle.stripring.proofs.plan.stripring_planner_outline.Kinds as outline_kinds
use Rattle.stripring.proofs.plan.stripring_planner_outline.Reads as outline
use Rattle.stripring.proofs.plan.stripring_planner_propose.Kinds as propose_kinds
use Rattle.stripring.proofs.plan.stripring_planner_propose.Reads as propose
use Rattle.stripring.proofs.plan.stripring_planner_check.Kinds as check_kinds
use Rattle.stripring.proofs.plan.stripring_planner_check.Reads as check

pub planner_outline_thin : Thin 0 outline_kinds.ps outline_kinds.r outline.Learnt lib_outline_kinds.ps lib_outline_kinds.r lib_outline.Learnt (λ κs a. a) (λ κs x. flat_outlined x)
planner_outline_thin κs a z (ws, p) x (us, q) = p ∙ ap flat_outlined (sym q)

pub planner_propose_thin : Thin 1 propose_kinds.ps propose_kinds.r propose.Learnt lib_propose_kinds.ps lib_propose_kinds.r lib_propose.Learnt (λ κs a. a) (λ κs x. flat_proposed x)
planner_propose_thin κs a z (ws, p) x (us, q) = ap (λ (y : ProposeAnswerLeft). y.answer) p ∙ ap (λ (y : Proposal). flat_proposed y.answer) (sym q)

pub planner_check_thin : Thin 1 check_kinds.ps check_kinds.r check.Learnt lib_check_kinds.ps lib_check_kinds.r lib_check.Learnt (λ κs a. a) (λ κs x. flat_verdict x)
planner_check_thin κs a z (ws, p) x (us, q) = p ∙ ap flat_verdict (sym q)
