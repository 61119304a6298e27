-- A list that passed its tests sums to a number of 64 bits.
use Rattle.std.proofs.Common.{sym, ◌∙◌}
use Rattle.operations.proofs.ListLaws.{summed}
use Rattle.operations.proofs.list.AtMostTwo+ScheduledOperation.with_outside_buffer_range.Goals as goal

pub outside_in-requires : goal.outside_in-requires
outside_in-requires c = summed _ c.args.self (sym c.in_ok-try_new.was ∙ c.try_new.ensures)
