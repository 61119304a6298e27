-- "Given exactly when", 7 and 8, of every call of a list: whatever its attached contract allows is refused with a number and values exactly
-- when the paper's table says so.
use Rattle.modular.proofs.Saying.{Keeps}
use Rattle.operations.specs.Given.{Exactly, GivenList, of_result}
use Rattle.operations.proofs.Given.{list_exactly, listed_exactly}
use Rattle.operations.proofs.Says.{ScheduledOperations-try-new-says, container_says, into_container_says, cumulative_operation_length_says, with_cumulative_offset_says, with_outside_buffer_range_says}
use Rattle.operations.proofs.list.AtMostTwo+ScheduledOperation.try_new.Kinds as ScheduledOperations-try-new-kinds
use Rattle.operations.proofs.list.AtMostTwo+ScheduledOperation.try_new.Reads as ScheduledOperations-try-new
use Rattle.operations.proofs.list.AtMostTwo+ScheduledOperation.container.Kinds as container_kinds
use Rattle.operations.proofs.list.AtMostTwo+ScheduledOperation.container.Reads as container
use Rattle.operations.proofs.list.AtMostTwo+ScheduledOperation.into_container.Kinds as into_container_kinds
use Rattle.operations.proofs.list.AtMostTwo+ScheduledOperation.into_container.Reads as into_container
use Rattle.operations.proofs.list.AtMostTwo+ScheduledOperation.cumulative_operation_length.Kinds as cumulative_operation_length_kinds
use Rattle.operations.proofs.list.AtMostTwo+ScheduledOperation.cumulative_operation_length.Reads as cumulative_operation_length
use Rattle.operations.proofs.list.AtMostTwo+ScheduledOperation.with_cumulative_offset.Kinds as with_cumulative_offset_kinds
use Rattle.operations.proofs.list.AtMostTwo+ScheduledOperation.with_cumulative_offset.Reads as with_cumulative_offset
use Rattle.operations.proofs.list.AtMostTwo+ScheduledOperation.with_outside_buffer_range.Kinds as with_outside_buffer_range_kinds
use Rattle.operations.proofs.list.AtMostTwo+ScheduledOperation.with_outside_buffer_range.Reads as with_outside_buffer_range

-- ---- a list: 7, then 8
pub ScheduledOperations-try-new-refuses : Keeps 0 ScheduledOperations-try-new-kinds.ps ScheduledOperations-try-new-kinds.r ScheduledOperations-try-new.Learnt (λ κs a z. Exactly (GivenList a.0) (of_result z))
ScheduledOperations-try-new-refuses κs a z q = rw (ScheduledOperations-try-new-says κs a z q.0 q.1) (list_exactly a.0)

pub container_refuses : Keeps 0 container_kinds.ps container_kinds.r container.Learnt (λ κs a z. Exactly (GivenList a.0) (of_result z))
container_refuses κs a z q = rw (container_says κs a z q.0 q.1) (list_exactly a.0)

pub into_container_refuses : Keeps 0 into_container_kinds.ps into_container_kinds.r into_container.Learnt (λ κs a z. Exactly (GivenList a.0) (of_result z))
into_container_refuses κs a z q = rw (into_container_says κs a z q.0 q.1) (list_exactly a.0)

pub cumulative_operation_length_refuses : Keeps 0 cumulative_operation_length_kinds.ps cumulative_operation_length_kinds.r cumulative_operation_length.Learnt (λ κs a z. Exactly (GivenList a.0) (of_result z))
cumulative_operation_length_refuses κs a z q = rw (cumulative_operation_length_says κs a z q.0 q.1) (listed_exactly a.0 _ (λ l p. rw p) (λ e p. rw p))

pub with_cumulative_offset_refuses : Keeps 0 with_cumulative_offset_kinds.ps with_cumulative_offset_kinds.r with_cumulative_offset.Learnt (λ κs a z. Exactly (GivenList a.0) (of_result z))
with_cumulative_offset_refuses κs a z q = rw (with_cumulative_offset_says κs a z q.0 q.1) (listed_exactly a.0 _ (λ l p. rw p) (λ e p. rw p))

pub with_outside_buffer_range_refuses : Keeps 0 with_outside_buffer_range_kinds.ps with_outside_buffer_range_kinds.r with_outside_buffer_range.Learnt (λ κs a z. Exactly (GivenList a.0) (of_result z))
with_outside_buffer_range_refuses κs a z q = rw (with_outside_buffer_range_says κs a z q.0 q.1) (listed_exactly a.0 _ (λ l p. rw p) (λ e p. rw p))
