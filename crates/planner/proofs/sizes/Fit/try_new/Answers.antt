-- What passed all tests fits.
use mathlib.Core.Path.{sym, ◌∙◌}
use Rattle.planner.proofs.SizeLaws.{fitting}
use Rattle.planner.proofs.sizes.Fit.try_new.Goals as goal

pub invariant_of-result : goal.invariant_of-result
invariant_of-result c =
    record { fits = fitting _ _ _ c.in_ok-try_new.ensures (sym c.in_bounds.ensures ∙ c.if-not-in_bounds.false) (sym c.body_fits.ensures ∙ c.if-not-body_fits.false) }
