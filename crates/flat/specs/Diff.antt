-- What a host's difference stands for, and the flat form of one.
use Rattle.std.specs.Prelude.{cond, eqb}
use Rattle.operations.specs.declared.diff.Diff as sched
use Rattle.operations.specs.declared.diff.Diff.TheVariants.{Same, Different}
use Rattle.flat.specs.declared.structs.Diff.{Diff}

-- where `different` is 0 only `old` is looked at
unfoldable pub diff_at : Diff → sched.Diff
diff_at d = cond (eqb d.different 0) (Same d.old) (Different d.old d.new)

abbrev pub flat_diff : sched.Diff → Diff
flat_diff (Same v) = record { different = 0; old = v; new = v }
flat_diff (Different x y) = record { different = 1; old = x; new = y }
