-- Of what is asked, the smaller of it and the room is taken; the others are left over.
use Rattle.std.specs.Prelude.{ℕ, ◌-◌, min}
use Rattle.operations.specs.declared.portion.Portion.{Portion}

abbrev pub portion_of : ℕ → ℕ → Portion
portion_of asked room = record { len = min asked room; remainder = asked - min asked room }
