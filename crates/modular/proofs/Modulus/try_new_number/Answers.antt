-- The two cases of the definition, by what `contains` answers.
use Rattle.std.proofs.Common.{◌≡◌, Bool, true, false, cond, Some, None, refl}
use Rattle.std.specs.Bool.{then_some}
use Rattle.modular.specs.Modulus.{contains_of, try_new_number_of}
use Rattle.modular.proofs.Modulus.try_new_number.Goals as goal

pub returns : goal.returns
unfolding try_new_number_of
returns c = rw (c.then_some.ensures, c.contains.ensures) (by (contains_of c.args.self c.args.v))
  where
    by : (x : Bool) → then_some x c.args.v ≡ cond x (Some c.args.v) None
    by true = refl
    by false = refl
