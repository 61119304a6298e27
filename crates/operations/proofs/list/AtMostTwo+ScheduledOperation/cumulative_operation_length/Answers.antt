-- A list that passed its tests sums to a number of 64 bits.
use Rattle.std.proofs.Common.{sym, ◌∙◌}
use Rattle.operations.proofs.ListLaws.{summed}
use Rattle.operations.proofs.list.AtMostTwo+ScheduledOperation.cumulative_operation_length.Goals as goal

pub total_in-requires : goal.total_in-requires
total_in-requires c = summed _ c.args.self (sym c.in_ok-try_new.was ∙ c.try_new.ensures)
