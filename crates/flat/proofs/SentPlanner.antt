-- SentLaws.antt, of the planner's answers.
use Rattle.std.specs.Bool.{⊤}
use Rattle.std.proofs.Common.{Result, Ok, Err, ℕ}
use mathlib.Core.Path.{refl}
use Rattle.planner.proofs.PromisedValues.{number_some}
use Rattle.planner.specs.Refusal as of_planner
use Rattle.planner.specs.declared.refusal.Refusal as planner
use Rattle.planner.specs.declared.refusal.Refusal.TheVariants.{Scheduler, SizeOutOfBounds, NoPlan, EmptyRun, RunOutOfPlace, RunTooLong, RowsLeft, PlanTooShort}
use Rattle.flat.specs.Back.{RefusalStands, StripsSent, RunsSent, VerdictSent}
use Rattle.flat.specs.Flat.{flat_planner_refusal}
use Rattle.flat.specs.Planner.{flat_outlined, flat_proposed, flat_verdict}
use Rattle.flat.specs.Results.{told, told_of, by_planner}
use Rattle.flat.proofs.SentLaws.{accepted, scheduler_refusal}
use Rattle.planner.specs.declared.strips.Strips.{Strips}

pub planner_refusal : (e : planner.Refusal) → RefusalStands (flat_planner_refusal e) (of_planner.number_of e) (of_planner.values_of e)
planner_refusal (Scheduler e) = scheduler_refusal e
planner_refusal (SizeOutOfBounds rows bytes) = (refl, refl, refl, refl)
planner_refusal (NoPlan bytes L) = (refl, refl, refl, refl)
planner_refusal (EmptyRun k) = (refl, refl, refl, refl)
planner_refusal (RunOutOfPlace k) = (refl, refl, refl, refl)
planner_refusal (RunTooLong k) = (refl, refl, refl, refl)
planner_refusal (RowsLeft at) = (refl, refl, refl, refl)
planner_refusal (PlanTooShort needed lent) = (refl, refl, refl, refl)

pub outlined_sent : (x : Result Strips planner.Refusal) → StripsSent (flat_outlined x) (told by_planner x)
outlined_sent (Ok o) = (accepted, (refl, refl, refl), refl)
outlined_sent (Err e) = (number_some e, planner_refusal e, (refl, refl, refl))

pub proposed_sent : (x : Result ℕ planner.Refusal) → RunsSent (flat_proposed x) (told by_planner x)
proposed_sent (Ok n) = (accepted, refl, refl)
proposed_sent (Err e) = (number_some e, planner_refusal e, refl)

pub verdict_sent : (x : Result ⊤ planner.Refusal) → VerdictSent (flat_verdict x) (told_of (λ u. tt) by_planner x)
verdict_sent (Ok tt) = (accepted, tt, refl)
verdict_sent (Err e) = (number_some e, planner_refusal e, tt)
