-- The piece is used up, and the text so far is written.
use Rattle.std.proofs.Common.{◌≤◌, ◌++◌, List, ℕ, length, refl, ap, sym, arith, drop_of_length-le}
use Rattle.std.proofs.KnownBytes.{Keeps-trans}
use Rattle.console.proofs.OwedLaws.{wrote}
use Rattle.console.proofs.answering.Answering.answer_piece.Goals as goal

pub returns-clause-owed : goal.returns-clause-owed
returns-clause-owed g c = λ later.
    let past : length c.args.piece.now ≤ c.loop-next.next = omega arith in
    Keeps-trans _ _ _ (c.loop-next.invariant.1 later)
    (wrote c.loop-next.self.question _ _ refl refl refl refl (ap (λ (zs : List ℕ). zs ++ later) (sym (drop_of_length-le c.args.piece.now {i = c.loop-next.next} past))) c.in_ok-print.ensures)
