-- Each turn takes bytes of the input, up to its end, and what will be written stays the same.
use Rattle.std.proofs.Common.{◌≡◌}
use Rattle.std.specs.Io.KnownBytes.{Keeps}
use Rattle.console.specs.Owed.{Shrinks, owed}
use Rattle.console.proofs.answering.Answering.answer_lines.Given as goal

abbrev pub invariant-loop : goal.invariant-loop
invariant-loop g l =
    (l.self.at ≡ 0) × Shrinks l.counter (g.R.Read.remaining l.initial.input) (g.R.Read.remaining l.input)
    × Keeps (owed l.initial.self (g.R.Read.remaining l.initial.input) (g.W.Write.contents l.initial.output))
    (owed l.self (g.R.Read.remaining l.input) (g.W.Write.contents l.output))
