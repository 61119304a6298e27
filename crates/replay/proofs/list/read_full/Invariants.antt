-- What is read lies within the text.
use Rattle.std.proofs.Common.{◌≤◌, length}
use Rattle.replay.proofs.list.read_full.Given as goal

abbrev pub invariant-loop : goal.invariant-loop
invariant-loop g l = l.done ≤ length l.text
