-- What each conversion of the planner's answers says, as in Says.antt.
use Rattle.modular.proofs.Saying.{Says}
use Rattle.flat.specs.Planner.{flat_outlined, flat_proposed, flat_verdict}
use Rattle.flat.proofs.plan.flat_outlined.Kinds as flat_outlined_kinds
use Rattle.flat.proofs.plan.flat_outlined.Reads as flat_outlined_lem
use Rattle.flat.proofs.plan.flat_proposed.Kinds as flat_proposed_kinds
use Rattle.flat.proofs.plan.flat_proposed.Reads as flat_proposed_lem
use Rattle.flat.proofs.plan.flat_verdict.Kinds as flat_verdict_kinds
use Rattle.flat.proofs.plan.flat_verdict.Reads as flat_verdict_lem

pub flat_outlined_says : Says 0 flat_outlined_kinds.ps flat_outlined_kinds.r flat_outlined_lem.Learnt (λ κs a. flat_outlined a.0)
flat_outlined_says κs a z ws p = p

pub flat_proposed_says : Says 0 flat_proposed_kinds.ps flat_proposed_kinds.r flat_proposed_lem.Learnt (λ κs a. flat_proposed a.0)
flat_proposed_says κs a z ws p = p

pub flat_verdict_says : Says 0 flat_verdict_kinds.ps flat_verdict_kinds.r flat_verdict_lem.Learnt (λ κs a. flat_verdict a.0)
flat_verdict_says κs a z ws p = p
