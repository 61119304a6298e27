-- What the libraries' calls come to: a value, or the paper's number of a refusal with its values. Their refusals are enums, each of its
-- own; this is the one form of them that the face has.
use Rattle.std.specs.Prelude.{ℕ, List, Result, Ok, Err}
use Rattle.operations.specs.Refusal as of_sched
use Rattle.operations.specs.declared.refusal.Refusal as sched
use Rattle.copies.specs.Refusal as of_copies
use Rattle.copies.specs.declared.refusal.Refusal as copies
use Rattle.ends.specs.Refusal as of_ends
use Rattle.ends.specs.declared.refusal.Refusal as ends
use Rattle.states.specs.Refusal as of_receiver_lem
use Rattle.states.specs.declared.refusal.Refusal as receiver
use Rattle.planner.specs.Refusal as of_planner
use Rattle.planner.specs.declared.refusal.Refusal as planner

abbrev pub Told : Type 0 → Type 0
Told A = Result A (ℕ × List ℕ)

abbrev pub by_scheduler : sched.Refusal → ℕ × List ℕ
by_scheduler e = (of_sched.number_of e, of_sched.values_of e)

abbrev pub by_copy : copies.Refusal → ℕ × List ℕ
by_copy e = (of_copies.number_of e, of_copies.values_of e)

abbrev pub by_end : ends.Refusal → ℕ × List ℕ
by_end e = (of_ends.number_of e, of_ends.values_of e)

abbrev pub by_receiver : receiver.Refusal → ℕ × List ℕ
by_receiver e = (of_receiver_lem.number_of e, of_receiver_lem.values_of e)

abbrev pub by_planner : planner.Refusal → ℕ × List ℕ
by_planner e = (of_planner.number_of e, of_planner.values_of e)

-- a call's answer: of a value what `f` makes of it, of a refusal its number and values
abbrev pub told_of : {A B E : Type 0} → (A → B) → (E → ℕ × List ℕ) → Result A E → Told B
told_of f by (Ok x) = Ok (f x)
told_of f by (Err e) = Err (by e)

-- where a host is told the value itself
abbrev pub told : {A E : Type 0} → (E → ℕ × List ℕ) → Result A E → Told A
told by (Ok x) = Ok x
told by (Err e) = Err (by e)
