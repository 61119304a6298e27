-- The paper's number of a refusal, and its values.
use Rattle.std.specs.Prelude.{ℕ, List, [], ◌∷◌}
use Rattle.operations.specs.declared.refusal.Refusal as scheduler
use Rattle.copies.specs.declared.refusal.Refusal as copy
use Rattle.copies.specs.declared.refusal.Refusal.TheVariants.{Scheduler}
use Rattle.copies.specs.Refusal as copies
use Rattle.states.specs.declared.refusal.Refusal.{Refusal}
use Rattle.states.specs.declared.refusal.Refusal.TheVariants.{Copy, AnswerMissing, Misfit, PendingFull}

abbrev pub number_of : Refusal → ℕ
number_of (Copy e) = copies.number_of e
number_of AnswerMissing = 11
number_of (Misfit place) = 12
number_of PendingFull = 13

abbrev pub values_of : Refusal → List ℕ
values_of (Copy e) = copies.values_of e
values_of AnswerMissing = []
values_of (Misfit place) = place ∷ []
values_of PendingFull = []

-- a call is refused with what a copy refuses, as it is; and what the scheduler refuses, a copy refuses with it
abbrev pub from_copy : copy.Refusal → Refusal
from_copy e = Copy e

abbrev pub from_scheduler : scheduler.Refusal → Refusal
from_scheduler e = Copy (Scheduler e)
