-- The invariant: what the digits from `next` on make of the number so far is what those from `at` on make.
use Rattle.std.proofs.Common.{◌≡◌, drop}
use Rattle.lines.specs.Decimal.{digits_on}
use Rattle.lines.proofs.decimal.digits_on.Given as goal

abbrev pub invariant-loop-next : goal.invariant-loop-next
invariant-loop-next l = digits_on l.n (drop l.next l.line) ≡ digits_on 0 (drop l.at l.line)
