-- The scheduler: its tests, data and space, blocks, layout, scheduling and registering, over whole numbers. Write L for
-- `buf_len`. A name that ends in `In` is of a sound scheduler; one that ends in `Of` tests the record first.
use Rattle.std.specs.Prelude.{◌≡◌, ℕ, ◌-◌, ◌*◌, ◌^◌, ◌<◌, ◌≤◌, min, max, cond, ◌==◌, nat_le, nat_lt, Result, Ok, Err, Option, Some, None, Bool}
use Rattle.operations.specs.declared.counter.Counter.{Counter}
use Rattle.operations.specs.declared.counter.Offset.{Offset}
use Rattle.sched.specs.declared.block.Bit.TheVariants.{Zero, One}
use Rattle.sched.specs.declared.block.Block.{Block}
use Rattle.sched.specs.declared.block.Blocks.{Blocks}
use Rattle.sched.specs.declared.block.BufferFillState.{BufferFillState}
use Rattle.sched.specs.declared.block.BufferFillState.TheVariants.{Empty, Partial, Full}
use Rattle.sched.specs.declared.block.BufferLayout.{BufferLayout}
use Rattle.sched.specs.declared.block.BufferLayout.TheVariants.{DataFreeData, FreeDataFree}
use Rattle.operations.specs.Lists.{ScheduledOperations}
use Rattle.operations.specs.declared.list.AtMostTwo.TheVariants as list
use Rattle.operations.specs.declared.portion.Portion.{Portion}
use Rattle.sched.specs.declared.schedule.Next.{Next}
use Rattle.sched.specs.declared.schedule.Scheduled.{Scheduled}
use Rattle.operations.specs.declared.operation.OperationType.{OperationType}
use Rattle.operations.specs.declared.operation.OperationType.TheVariants.{Read, Write}
use Rattle.operations.specs.declared.operation.ScheduledOperation.{ScheduledOperation}
use Rattle.operations.specs.declared.refusal.Refusal.{Refusal}
use Rattle.operations.specs.declared.refusal.Refusal.TheVariants.{ZeroBufferLength, BufferTooLarge, ItemsWrittenOutOfBounds, ItemsReadOutofBounds, DataAvailOutOfBounds, OperationTooLarge, HeldFillWrong}
use Rattle.sched.specs.declared.register.Move.{Move}
use Rattle.sched.specs.declared.scheduler.RingBufferScheduler.{RingBufferScheduler}
use Rattle.sched.specs.Counter.{offset_of, data_of, later_of}
use Rattle.operations.specs.Operation.{operation_of}
use Rattle.operations.specs.Portion.{portion_of}
use Rattle.sched.specs.Block.{block_of, outer_of, inner_of}
use Rattle.operations.specs.List.{sound_list_of, listed}

-- ---- soundness
-- a record of any four numbers; one that is built of a length and two counters holds their data
abbrev pub record_of : ℕ → Counter → Counter → ℕ → RingBufferScheduler
record_of l w r n = record { buf_len = l; items_written = w; items_read = r; fill = n }

abbrev pub scheduler_of : ℕ → Counter → Counter → RingBufferScheduler
scheduler_of l w r = record_of l w r (data_of l w r)

-- a buffer's length
pub record Sized (l : ℕ) : Type 0 where
  pub some : 1 ≤ l
  pub fits : l ≤ 2 ^ 63

abbrev pub data_in : RingBufferScheduler → ℕ
data_in s = data_of s.buf_len s.items_written s.items_read

-- a length and two counters, with at most that much data between them
pub record Counted (l : ℕ) (w r : Counter) : Type 0 where
  pub sized : Sized l
  pub written : w.0 < 2 * l
  pub read : r.0 < 2 * l
  pub within : data_of l w r ≤ l

pub record IsSound (s : RingBufferScheduler) : Type 0 where
  pub sized : Sized s.buf_len
  pub written : s.items_written.0 < 2 * s.buf_len
  pub read : s.items_read.0 < 2 * s.buf_len
  pub within : data_in s ≤ s.buf_len
  pub held : s.fill ≡ data_in s

-- the first of the refusals 1 to 5, or the data
unfoldable pub counted_of : ℕ → Counter → Counter → Result ℕ Refusal
counted_of l w r =
    cond (l == 0) (Err ZeroBufferLength)
    (cond (nat_lt (2 ^ 63) l) (Err (BufferTooLarge l))
    (cond (nat_le (2 * l) w.0) (Err (ItemsWrittenOutOfBounds l w))
    (cond (nat_le (2 * l) r.0) (Err (ItemsReadOutofBounds l r))
    (cond (nat_lt l (data_of l w r)) (Err (DataAvailOutOfBounds l w r))
    (Ok (data_of l w r))))))

-- then 20, where another fill is held, or the scheduler
abbrev pub held_of : RingBufferScheduler → Result ℕ Refusal → Result RingBufferScheduler Refusal
held_of s (Ok d) = cond (s.fill == d) (Ok s) (Err HeldFillWrong)
held_of s (Err e) = Err e

unfoldable pub sound_of : RingBufferScheduler → Result RingBufferScheduler Refusal
sound_of s = held_of s (counted_of s.buf_len s.items_written s.items_read)

-- ---- counters, offsets, data and space
abbrev pub counter_in : RingBufferScheduler → OperationType → Counter
counter_in s Read = s.items_read
counter_in s Write = s.items_written

abbrev pub offset_in : RingBufferScheduler → OperationType → Offset
offset_in s t = offset_of s.buf_len (counter_in s t)

abbrev pub space_in : RingBufferScheduler → ℕ
space_in s = s.buf_len - data_in s

-- the greatest length of an operation: the data of a read, the space of a write
abbrev pub greatest_in : RingBufferScheduler → OperationType → ℕ
greatest_in s Read = data_in s
greatest_in s Write = space_in s

-- the scheduler with another counter of an operation
abbrev pub with_counter : RingBufferScheduler → OperationType → Counter → RingBufferScheduler
with_counter s Read c = scheduler_of s.buf_len s.items_written c
with_counter s Write c = scheduler_of s.buf_len c s.items_read

-- the scheduler after n items have been read or written
abbrev pub advanced_in : RingBufferScheduler → OperationType → ℕ → RingBufferScheduler
advanced_in s t n = with_counter s t (later_of s.buf_len (counter_in s t) n)

unfoldable pub fill_state_in : RingBufferScheduler → BufferFillState
fill_state_in s = cond (data_in s == 0) Empty (cond (data_in s == s.buf_len) Full Partial)

-- ---- layout and blocks
-- read offset below write offset, or above; equal offsets by the fill
unfoldable pub layout_in : RingBufferScheduler → BufferLayout
layout_in s =
    cond (nat_lt (offset_in s Read).0 (offset_in s Write).0) FreeDataFree
    (cond (nat_lt (offset_in s Write).0 (offset_in s Read).0) DataFreeData
    (cond (data_in s == 0) FreeDataFree DataFreeData))

-- the smaller and the larger offset
abbrev pub low_in : RingBufferScheduler → ℕ
low_in s = min (offset_in s Read).0 (offset_in s Write).0

abbrev pub high_in : RingBufferScheduler → ℕ
high_in s = max (offset_in s Read).0 (offset_in s Write).0

abbrev pub blocks_in : RingBufferScheduler → Blocks
blocks_in s =
    record {
      0 = block_of (outer_of (layout_in s)) One (record { 0 = 0 }) (low_in s);
      1 = block_of (inner_of (layout_in s)) Zero (record { 0 = low_in s }) (high_in s - low_in s);
      2 = block_of (outer_of (layout_in s)) Zero (record { 0 = high_in s }) (s.buf_len - high_in s);
    }

abbrev pub next_block_at : BufferLayout → OperationType → Blocks → Block
next_block_at DataFreeData Read b = b.2
next_block_at FreeDataFree Read b = b.1
next_block_at DataFreeData Write b = b.1
next_block_at FreeDataFree Write b = b.2

abbrev pub next_block_in : RingBufferScheduler → OperationType → Block
next_block_in s t = next_block_at (layout_in s) t (blocks_in s)

-- ---- scheduling
-- one operation of n items; none of 0
unfoldable pub some_of : OperationType → Offset → ℕ → Option ScheduledOperation
some_of t a n = cond (n == 0) None (Some (operation_of t a n))

-- an operation of what is taken, and what is left over
abbrev pub portioned : OperationType → Offset → Portion → Next
portioned t a p = record { operation = some_of t a p.len; remainder = p.remainder }

-- to the end of the block, or to m
abbrev pub next_in : RingBufferScheduler → OperationType → ℕ → Next
next_in s t m = portioned t (next_block_in s t).off (portion_of m (next_block_in s t).len)

-- in a list there is no second without a first
abbrev pub both_of : Option ScheduledOperation → Option ScheduledOperation → ScheduledOperations
both_of None b = list.None
both_of (Some f) None = list.One f
both_of (Some f) (Some g) = list.Two f g

abbrev pub scheduled_of : ScheduledOperations → ℕ → Scheduled
scheduled_of ops k = record { operations = ops; remainder = k }

abbrev pub joined : ScheduledOperation → Next → Scheduled
joined f n = scheduled_of (both_of (Some f) n.operation) n.remainder

-- block after block: the second operation is asked of the scheduler after the first, for the k items that the first left over
abbrev pub by_blocks : RingBufferScheduler → OperationType → Option ScheduledOperation → ℕ → Scheduled
by_blocks s t None k = scheduled_of list.None k
by_blocks s t (Some f) k = joined f (next_in (advanced_in s t f.len) t k)

unfoldable pub schedule_in : RingBufferScheduler → OperationType → ℕ → Scheduled
schedule_in s t m = by_blocks s t (next_in s t m).operation (next_in s t m).remainder

-- ---- registering
-- 6 where the length is above the greatest
unfoldable pub register_in : RingBufferScheduler → OperationType → ℕ → Result RingBufferScheduler Refusal
register_in s t n =
    cond (nat_lt (greatest_in s t) n) (Err (OperationTooLarge t n (greatest_in s t))) (Ok (advanced_in s t n))

abbrev pub then_register : Result RingBufferScheduler Refusal → ScheduledOperation → Result RingBufferScheduler Refusal
then_register (Ok s) a = register_in s a.typ a.len
then_register (Err e) a = Err e

-- operation by operation, so that a refusal at the second names the greatest length after the first
abbrev pub register_list_in : RingBufferScheduler → ScheduledOperations → Result RingBufferScheduler Refusal
register_list_in s list.None = Ok s
register_list_in s (list.One a) = register_in s a.typ a.len
register_list_in s (list.Two a b) = then_register (register_in s a.typ a.len) b

-- ---- scheduling and registering at once: from the offset, the portion of m that there is, and the scheduler after it
abbrev pub move_in : RingBufferScheduler → OperationType → ℕ → Move
move_in s t m = record { off = offset_in s t; portion = portion_of m (greatest_in s t); scheduler = advanced_in s t (portion_of m (greatest_in s t)).len }

-- ---- what the calls answer: of a record that the tests take the above, else the tests' refusal
abbrev pub tested : {A : Type 0} → Result RingBufferScheduler Refusal → (RingBufferScheduler → A) → (Refusal → A) → A
tested (Ok s) f g = f s
tested (Err e) f g = g e

-- the record, and then the one with the other counter
abbrev pub with_counter_of : RingBufferScheduler → OperationType → Counter → Result RingBufferScheduler Refusal
with_counter_of s t c = tested (sound_of s) (λ u. sound_of (with_counter u t c)) Err

abbrev pub buf_len_of : RingBufferScheduler → Result ℕ Refusal
buf_len_of s = tested (sound_of s) (λ u. Ok u.buf_len) Err

abbrev pub counter_answer_of : RingBufferScheduler → OperationType → Result Counter Refusal
counter_answer_of s t = tested (sound_of s) (λ u. Ok (counter_in u t)) Err

abbrev pub offset_answer_of : RingBufferScheduler → OperationType → Result Offset Refusal
offset_answer_of s t = tested (sound_of s) (λ u. Ok (offset_in u t)) Err

abbrev pub greatest_of : RingBufferScheduler → OperationType → Result ℕ Refusal
greatest_of s t = tested (sound_of s) (λ u. Ok (greatest_in u t)) Err

abbrev pub is_zero_from : Result ℕ Refusal → Result Bool Refusal
is_zero_from (Ok n) = Ok (n == 0)
is_zero_from (Err e) = Err e

abbrev pub is_positive_from : Result ℕ Refusal → Result Bool Refusal
is_positive_from (Ok n) = Ok (nat_lt 0 n)
is_positive_from (Err e) = Err e

abbrev pub fill_state_of : RingBufferScheduler → Result BufferFillState Refusal
fill_state_of s = tested (sound_of s) (λ u. Ok (fill_state_in u)) Err

abbrev pub layout_of : RingBufferScheduler → Result BufferLayout Refusal
layout_of s = tested (sound_of s) (λ u. Ok (layout_in u)) Err

abbrev pub blocks_of : RingBufferScheduler → Result Blocks Refusal
blocks_of s = tested (sound_of s) (λ u. Ok (blocks_in u)) Err

abbrev pub block0_from : Result Blocks Refusal → Result Block Refusal
block0_from (Ok b) = Ok b.0
block0_from (Err e) = Err e

abbrev pub block1_from : Result Blocks Refusal → Result Block Refusal
block1_from (Ok b) = Ok b.1
block1_from (Err e) = Err e

abbrev pub block2_from : Result Blocks Refusal → Result Block Refusal
block2_from (Ok b) = Ok b.2
block2_from (Err e) = Err e

abbrev pub off_from : Result Block Refusal → Result Offset Refusal
off_from (Ok b) = Ok b.off
off_from (Err e) = Err e

abbrev pub len_from : Result Block Refusal → Result ℕ Refusal
len_from (Ok b) = Ok b.len
len_from (Err e) = Err e

abbrev pub next_block_of : RingBufferScheduler → OperationType → Result Block Refusal
next_block_of s t = tested (sound_of s) (λ u. Ok (next_block_in u t)) Err

abbrev pub next_of : RingBufferScheduler → OperationType → ℕ → Result Next Refusal
next_of s t m = tested (sound_of s) (λ u. Ok (next_in u t m)) Err

abbrev pub schedule_of : RingBufferScheduler → OperationType → ℕ → Result Scheduled Refusal
schedule_of s t m = tested (sound_of s) (λ u. Ok (schedule_in u t m)) Err

abbrev pub register_of : RingBufferScheduler → OperationType → ℕ → Result RingBufferScheduler Refusal
register_of s t n = tested (sound_of s) (λ u. register_in u t n) Err

-- the scheduler's tests, then the list's, 7 and 8, and then 6
abbrev pub register_list_of : RingBufferScheduler → ScheduledOperations → Result RingBufferScheduler Refusal
register_list_of s ops = tested (sound_of s) (λ u. listed (sound_list_of ops) (register_list_in u) Err) Err

abbrev pub move_of : RingBufferScheduler → OperationType → ℕ → Result Move Refusal
move_of s t m = tested (sound_of s) (λ u. Ok (move_in u t m)) Err
