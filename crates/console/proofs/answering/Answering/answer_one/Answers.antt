-- A step that goes on, or one without room, behind which the text is written.
use Rattle.std.proofs.Common.{refl, arith}
use mathlib.Core.Logic.{inl, inr}
use Rattle.console.proofs.OwedLaws.{keeps_same, in_place, went, stood, few_still, wrote}
use Rattle.console.proofs.answering.Answering.answer_one.Goals as goal

pub invariant_of-self-in-Break-1 : goal.invariant_of-self-in-Break-1
invariant_of-self-in-Break-1 g c =
    record { few = few_still c.args.self.now.question _ _ _ _ _ c.answer_next-cut.ensures (in_place _ _ c.args.self.now.few (omega arith)) c.requires }

pub invariant_of-self : goal.invariant_of-self
invariant_of-self g c =
    record { few = few_still c.args.self.now.question _ _ _ _ _ c.answer_next-cut.ensures (in_place _ _ c.args.self.now.few (omega arith)) c.requires }

pub invariant_of-self-2 : goal.invariant_of-self-2
invariant_of-self-2 g c =
    record { few = few_still c.args.self.now.question _ _ _ _ _ c.answer_next-cut.ensures (in_place _ _ c.args.self.now.few (omega arith)) c.requires }

pub returns-then-cut-next-clause-turn : goal.returns-then-cut-next-clause-turn
returns-then-cut-next-clause-turn g c =
    let w = went c.args.self.now.question _ _ _ _ _ c.answer_next-cut.ensures (in_place _ _ c.args.self.now.few (omega arith)) c.requires c.if-cut-next.true in
    inl (w.on, w.within)

pub returns-then-cut-next-clause-owed : goal.returns-then-cut-next-clause-owed
returns-then-cut-next-clause-owed g c = λ later.
    keeps_same _ _ _ ((went c.args.self.now.question _ _ _ _ _ c.answer_next-cut.ensures (in_place _ _ c.args.self.now.few (omega arith)) c.requires c.if-cut-next.true).due later)

pub returns-clause-turn : goal.returns-clause-turn
returns-clause-turn g c =
    let s = stood c.args.self.now.question _ _ _ _ _ c.answer_next-cut.ensures (in_place _ _ c.args.self.now.few (omega arith)) c.requires c.if-cut-next.false in
    inr (refl, refl, omega (arith, s.full))

pub returns-clause-owed : goal.returns-clause-owed
returns-clause-owed g c = λ later.
    let s = stood c.args.self.now.question _ _ _ _ _ c.answer_next-cut.ensures (in_place _ _ c.args.self.now.few (omega arith)) c.requires c.if-cut-next.false in
    wrote c.args.self.now.question _ _ s.held s.at s.line s.out refl c.in_ok-print.ensures
