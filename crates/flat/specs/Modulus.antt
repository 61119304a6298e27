-- The flat forms of `modular`'s values.
use Rattle.std.specs.Prelude.{ℕ, Option, Some, None}
use Rattle.modular.specs.declared.Modulus.{Modulus}
use Rattle.flat.specs.declared.modulus.OptionU64.{OptionU64}

abbrev pub modulus_at : ℕ → Modulus
modulus_at raw = record { 0 = raw }

abbrev pub some : ℕ → OptionU64
some n = record { some = 1; value = n }

abbrev pub none : OptionU64
none = record { some = 0; value = 0 }

abbrev pub flat_modulus : Option Modulus → OptionU64
flat_modulus (Some m) = some m.0
flat_modulus None = none

abbrev pub flat_number : Option ℕ → OptionU64
flat_number (Some n) = some n
flat_number None = none
