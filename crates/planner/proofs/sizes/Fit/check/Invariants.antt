-- What the check of the runs from `run` on says is what the whole says.
use Prim.Native.Nat.{◌-◌, ◌≤◌}
use mathlib.Core.Path.{◌≡◌}
use Rattle.planner.specs.Check.{check_from, check_in}
use Rattle.planner.specs.Promise.{runs_in}
use Rattle.planner.proofs.sizes.Fit.check.Given as goal

abbrev pub invariant-loop-run : goal.invariant-loop-run
invariant-loop-run l =
    (l.at ≤ l.self.rows)
    × (check_from l.self.rows l.self.row_bytes l.self.buf_len l.plan l.at l.run (runs_in l.plan - l.run) ≡ check_in l.self.rows l.self.row_bytes l.self.buf_len l.plan)
