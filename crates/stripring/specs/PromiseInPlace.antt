-- What a call in place promises beside the call by value: it is told the same refusal, and the host's struct is the answer's end where the
-- number is 0, and as it was where it is not.
use Rattle.std.specs.Prelude.{◌<◌, ◌≡◌}
use Rattle.flat.specs.declared.structs.Refusal.{Refusal}

-- e is the struct before; the call by value answers `refusal` and `end`; the call in place answers `told` and leaves `after`
pub record AsByValue {E : Type 0} (e : E) (refusal : Refusal) (end : E) (told : Refusal) (after : E) : Type 0 where
  pub same : told ≡ refusal
  pub stored : refusal.number ≡ 0 → after ≡ end
  pub kept : 0 < refusal.number → after ≡ e
