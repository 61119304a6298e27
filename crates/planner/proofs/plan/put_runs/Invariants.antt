-- To put the runs from `run` on leaves what to put them all does.
use Prim.Native.Nat.{◌-◌, ◌*◌}
use mathlib.Core.Path.{◌≡◌}
use lib.Seq.{sets}
use Rattle.planner.specs.Plan.{runs_from}
use Rattle.planner.proofs.plan.put_runs.Given as goal

abbrev pub invariant-loop-run : goal.invariant-loop-run
invariant-loop-run l =
    (l.at ≡ l.run * l.height)
    × (sets l.plan (2 * l.run) (runs_from l.height l.rows l.run (l.count - l.run)) ≡ sets l.initial.plan 0 (runs_from l.height l.rows 0 l.count))
