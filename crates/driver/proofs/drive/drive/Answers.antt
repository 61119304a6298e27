-- A turn of the inner loop passes an interruption over; one of the outer loop hands the call its answer.
use Rattle.std.proofs.Common.{sym, ◌∙◌, arith, Ok}
use Rattle.driver.proofs.Turns.{less, passed, goes_on}
use Rattle.driver.proofs.drive.drive.Goals as goal

pub loop-a-preserved : goal.loop-a-preserved
loop-a-preserved c = record {
  ahead = omega arith;
  within = omega (arith, less c.args.answers.now c.loop-a.used c.in-Some.a (sym c.in-Some.is ∙ c.fetch.ensures));
  left = passed c.args.answers.now c.loop-a.used c.in-Some.a (sym c.in-Some.is ∙ c.fetch.ensures) (Ok c.in-Ok.call) c.args.ring.now _ c.loop-a.invariant.left (sym c.retries.ensures ∙ c.if-retries.true);
}

pub batches-smaller : goal.batches-smaller
batches-smaller c = omega (arith, less c.args.answers.now c.loop-a.used c.in-Some.a (sym c.in-Some.is ∙ c.fetch.ensures), c.loop-a.invariant.ahead)

pub batches-preserved : goal.batches-preserved
batches-preserved c = record {
  within = omega (arith, less c.args.answers.now c.loop-a.used c.in-Some.a (sym c.in-Some.is ∙ c.fetch.ensures));
  left = goes_on c.args.answers.now c.loop-a.used c.in-Some.a (sym c.in-Some.is ∙ c.fetch.ensures) (Ok c.in-Ok.call) c.args.ring.now _ c.loop-a.invariant.left c.answered-step.result (sym c.retries.ensures ∙ c.if-retries.false) c.answered-step.ensures;
}
