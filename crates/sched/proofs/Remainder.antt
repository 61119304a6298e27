-- How much was not scheduled, over the definitions; `Promised` states it of the calls. And what is scheduled is what it was before the
-- remainder was answered: the next operation up to the end of its block, and all that is asked and there, cut where the buffer ends.
use Rattle.std.proofs.Common.{◌≡◌, ℕ, ◌+◌, ◌<◌, min, refl, ap}
use Rattle.operations.specs.declared.operation.OperationType.{OperationType}
use Rattle.sched.specs.declared.schedule.Scheduled.{Scheduled}
use Rattle.sched.specs.declared.scheduler.RingBufferScheduler.{RingBufferScheduler}
use Rattle.operations.specs.List.{total_in}
use Rattle.sched.specs.Promise.{cut_of, next_len, NextLeaves, ListLeaves}
use Rattle.sched.specs.Scheduler.{IsSound, offset_in, greatest_in, next_block_in, some_of, next_in, schedule_in}
use Rattle.operations.proofs.PortionLaws.{left_over}
use Rattle.sched.proofs.ScheduleLaws.{some_len, schedule_is}
use Rattle.sched.proofs.Promises.{scheduling}

module _ (s : RingBufferScheduler) (t : OperationType) (m : ℕ) where
  pub next_leaves : NextLeaves s t m (next_in s t m)
  next_leaves = rw (some_len t (next_block_in s t).off (min m (next_block_in s t).len)) (left_over m (next_block_in s t).len)

  -- m is always the operation's length, 0 for none, plus the remainder
  pub length_and_remainder : m ≡ next_len (next_in s t m).operation + (next_in s t m).remainder
  length_and_remainder = next_leaves.whole

  -- the operation itself is what it was
  pub operation_stays : (next_in s t m).operation ≡ some_of t (next_block_in s t).off (min m (next_block_in s t).len)
  operation_stays = refl

module _ (s : RingBufferScheduler) (h : IsSound s) (t : OperationType) (m : ℕ) where
  pub list_leaves : ListLeaves s t m (schedule_in s t m)
  list_leaves = rw ((scheduling s h t m).total, ap (λ (x : Scheduled). x.remainder) (schedule_is s h t m)) (left_over m (greatest_in s t))

  -- of a list, m is the sum plus what is left
  pub sum_and_remainder : m ≡ total_in (schedule_in s t m).operations + (schedule_in s t m).remainder
  sum_and_remainder = list_leaves.whole

  -- something is left exactly when m is above the data or the space
  pub left_exactly_when : (0 < (schedule_in s t m).remainder → greatest_in s t < m) × (greatest_in s t < m → 0 < (schedule_in s t m).remainder)
  left_exactly_when = (list_leaves.only_then, list_leaves.some_left)

  -- the list is what it was
  pub list_stays : (schedule_in s t m).operations ≡ cut_of t s.buf_len (offset_in s t) (min m (greatest_in s t))
  list_stays = ap (λ (x : Scheduled). x.operations) (schedule_is s h t m)
