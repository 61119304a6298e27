-- What the calls of `Diff` answer: by the case, and not by the values in it.
use Rattle.std.specs.Prelude.{ℕ, Bool, cond, true, false, eqb}
use Rattle.operations.specs.declared.diff.Diff.{Diff}
use Rattle.operations.specs.declared.diff.Diff.TheVariants.{Same, Different}

unfoldable pub diff_of : ℕ → ℕ → Diff
diff_of old new = cond (eqb old new) (Same old) (Different old new)

abbrev pub is_same_of : Diff → Bool
is_same_of (Same v) = true
is_same_of (Different old new) = false

abbrev pub is_different_of : Diff → Bool
is_different_of (Same v) = false
is_different_of (Different old new) = true

abbrev pub old_value_of : Diff → ℕ
old_value_of (Same v) = v
old_value_of (Different old new) = old

abbrev pub new_value_of : Diff → ℕ
new_value_of (Same v) = v
new_value_of (Different old new) = new
