-- The flat forms of refusals. Their numbers and values stand in the crates that refuse; a value that a refusal lacks is 0.
use Rattle.std.specs.Prelude.{ℕ}
use Rattle.operations.specs.declared.refusal.Refusal as sched
use Rattle.operations.specs.declared.values.Values.{Values}
use Rattle.operations.specs.Refusal as of_sched
use Rattle.operations.specs.Refusal.{packed}
use Rattle.copies.specs.declared.refusal.Refusal as copies
use Rattle.copies.specs.Refusal as of_copies
use Rattle.ends.specs.declared.refusal.Refusal as ends
use Rattle.ends.specs.Refusal as of_ends
use Rattle.states.specs.declared.refusal.Refusal as receiver
use Rattle.states.specs.Refusal as of_receiver_lem
use Rattle.planner.specs.declared.refusal.Refusal as planner
use Rattle.planner.specs.Refusal as of_planner
use Rattle.flat.specs.declared.structs.Refusal.{Refusal}

abbrev pub refusal_of : ℕ → ℕ → ℕ → ℕ → Refusal
refusal_of n x y z = record { number = n; a = x; b = y; c = z }

-- number 0: accepted
abbrev pub no_refusal : Refusal
no_refusal = refusal_of 0 0 0 0

abbrev pub refusal_with : ℕ → Values → Refusal
refusal_with n values = refusal_of n values.a values.b values.c

abbrev pub flat_refusal : sched.Refusal → Refusal
flat_refusal e = refusal_with (of_sched.number_of e) (packed (of_sched.values_of e))

abbrev pub flat_copy_refusal : copies.Refusal → Refusal
flat_copy_refusal e = refusal_with (of_copies.number_of e) (packed (of_copies.values_of e))

abbrev pub flat_end_refusal : ends.Refusal → Refusal
flat_end_refusal e = refusal_with (of_ends.number_of e) (packed (of_ends.values_of e))

abbrev pub flat_receiver_refusal : receiver.Refusal → Refusal
flat_receiver_refusal e = refusal_with (of_receiver_lem.number_of e) (packed (of_receiver_lem.values_of e))

abbrev pub flat_planner_refusal : planner.Refusal → Refusal
flat_planner_refusal e = refusal_with (of_planner.number_of e) (packed (of_planner.values_of e))
