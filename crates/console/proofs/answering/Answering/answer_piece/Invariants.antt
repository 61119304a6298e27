-- Each turn takes bytes of the piece or makes room for the text, and what will be written stays the same.
use Rattle.std.proofs.Common.{◌≤◌, ◌++◌, ◌+◌, ◌-◌, ◌*◌, min, List, ℕ, length, drop}
use Rattle.std.specs.Io.KnownBytes.{Keeps}
use Rattle.console.specs.Owed.{ends_with}
use Rattle.console.proofs.answering.Answering.answer_piece.Given as goal

abbrev pub invariant-loop-next : goal.invariant-loop-next
invariant-loop-next g l =
    (l.next ≤ length l.piece)
    × ((later : List ℕ) → Keeps
    (ends_with l.initial.self (g.W.Write.contents l.initial.output) (l.piece ++ later))
    (ends_with l.self (g.W.Write.contents l.output) (drop l.next l.piece ++ later)))

abbrev pub decreases-loop-next : goal.decreases-loop-next
decreases-loop-next g l = 2 * (length l.piece - l.next) + min 1 l.self.at
