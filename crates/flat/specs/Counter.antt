-- The flat forms of the answers that are one number. A bool is 0 or 1.
use Rattle.std.specs.Prelude.{ℕ, Bool, true, false, Result, Ok, Err}
use Rattle.operations.specs.declared.refusal.Refusal.{Refusal}
use Rattle.flat.specs.declared.structs.U64Answer.{U64Answer}
use Rattle.flat.specs.Flat.{no_refusal, flat_refusal}
use Rattle.operations.specs.declared.counter.Counter.{Counter}
use Rattle.operations.specs.declared.counter.Offset.{Offset}

abbrev pub u64_of : ℕ → U64Answer
u64_of n = record { refusal = no_refusal; value = n }

abbrev pub u64_refused : Refusal → U64Answer
u64_refused e = record { refusal = flat_refusal e; value = 0 }

abbrev pub flat_counter : Result Counter Refusal → U64Answer
flat_counter (Ok c) = u64_of c.0
flat_counter (Err e) = u64_refused e

abbrev pub flat_offset : Result Offset Refusal → U64Answer
flat_offset (Ok a) = u64_of a.0
flat_offset (Err e) = u64_refused e

abbrev pub flat_amount : Result ℕ Refusal → U64Answer
flat_amount (Ok n) = u64_of n
flat_amount (Err e) = u64_refused e

abbrev pub bool_number : Bool → ℕ
bool_number false = 0
bool_number true = 1

abbrev pub flat_bool : Result Bool Refusal → U64Answer
flat_bool (Ok b) = u64_of (bool_number b)
flat_bool (Err e) = u64_refused e
