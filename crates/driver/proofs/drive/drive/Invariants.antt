-- What is left to do at each turn is what the whole run makes of the call; each turn of the outer loop uses an answer.
use Rattle.std.proofs.Common.{◌≡◌, ◌-◌, ◌≤◌, length, drop}
use Rattle.driver.specs.Drive.{driven_of, driven_from, waited_of}
use Rattle.driver.proofs.drive.drive.Given as goal

abbrev pub invariant-loop-a : goal.invariant-loop-a
invariant-loop-a l = record {
  ahead : l.initial.used ≤ l.used;
  within : l.used ≤ length l.answers;
  left : waited_of l.used l.step l.ring (drop l.used l.answers) ≡ driven_of l.fn.begun l.ring l.answers;
}

abbrev pub decreases-loop-a : goal.decreases-loop-a
decreases-loop-a l = length l.answers - l.used

abbrev pub invariant-batches : goal.invariant-batches
invariant-batches l = record {
  within : l.used ≤ length l.answers;
  left : driven_from l.used l.step l.ring (drop l.used l.answers) ≡ driven_of l.fn.begun l.ring l.answers;
}

abbrev pub decreases-batches : goal.decreases-batches
decreases-batches l = length l.answers - l.used
