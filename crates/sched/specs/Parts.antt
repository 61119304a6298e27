-- The parts of a sound scheduler's answers, told in other words than the definitions: where the data lies, and that the blocks
-- fill the buffer.
use Rattle.std.specs.Prelude.{◌≡◌, ℕ, ◌+◌, ◌<◌, ◌≤◌, Bool, true, false, ◌⊎◌}
use Rattle.sched.specs.declared.block.Bit.TheVariants.{Zero, One}
use Rattle.sched.specs.declared.block.Block.{Block}
use Rattle.sched.specs.declared.block.Blocks.{Blocks}
use Rattle.sched.specs.declared.block.BlockType.{BlockType}
use Rattle.sched.specs.declared.block.BlockType.TheVariants.{Free, Data}
use Rattle.sched.specs.declared.block.BufferFillState.{BufferFillState}
use Rattle.sched.specs.declared.block.BufferFillState.TheVariants.{Empty, Partial, Full}
use Rattle.sched.specs.declared.block.BufferLayout.{BufferLayout}
use Rattle.sched.specs.declared.block.BufferLayout.TheVariants.{DataFreeData, FreeDataFree}
use Rattle.operations.specs.declared.counter.Counter.{Counter}
use Rattle.operations.specs.declared.counter.Offset.{Offset}
use Rattle.operations.specs.declared.operation.OperationType.{OperationType}
use Rattle.operations.specs.declared.operation.OperationType.TheVariants.{Read, Write}
use Rattle.sched.specs.declared.scheduler.RingBufferScheduler.{RingBufferScheduler}
use Rattle.sched.specs.Scheduler.{data_in, greatest_in, offset_in}

-- a read's counter is that of what was read
abbrev pub CounterOf : RingBufferScheduler → OperationType → Counter → Type 0
CounterOf s Read c = c ≡ s.items_read
CounterOf s Write c = c ≡ s.items_written

-- the offset is below L, and the counter is it, or L more
pub record OffsetOf (s : RingBufferScheduler) (t : OperationType) (a : Offset) : Type 0 where
  pub below : a.0 < s.buf_len
  pub counts : (c : Counter) → CounterOf s t c → (c.0 ≡ a.0) ⊎ (c.0 ≡ a.0 + s.buf_len)

abbrev pub FillOf : RingBufferScheduler → BufferFillState → Type 0
FillOf s Empty = data_in s ≡ 0
FillOf s Partial = (0 < data_in s) × (data_in s < s.buf_len)
FillOf s Full = data_in s ≡ s.buf_len

-- true exactly where there is nothing; and where there is something
abbrev pub None : ℕ → Bool → Type 0
None n true = n ≡ 0
None n false = 0 < n

abbrev pub Some : ℕ → Bool → Type 0
Some n true = 0 < n
Some n false = n ≡ 0

-- the data lies ahead of the read offset, or comes round the buffer's end
abbrev pub LayoutOf : RingBufferScheduler → BufferLayout → Type 0
LayoutOf s FreeDataFree = (offset_in s Write).0 ≡ (offset_in s Read).0 + data_in s
LayoutOf s DataFreeData = (offset_in s Write).0 + s.buf_len ≡ (offset_in s Read).0 + data_in s

-- how many items of a block are data
abbrev pub data_at : BlockType → ℕ → ℕ
data_at Data n = n
data_at Free n = 0

-- the read offset is below the write offset, or the buffer is empty; above it, or full
abbrev pub AheadIn : RingBufferScheduler → Type 0
AheadIn s = ((offset_in s Read).0 < (offset_in s Write).0) ⊎ (((offset_in s Read).0 ≡ (offset_in s Write).0) × (data_in s ≡ 0))

abbrev pub RoundIn : RingBufferScheduler → Type 0
RoundIn s = ((offset_in s Write).0 < (offset_in s Read).0) ⊎ (((offset_in s Read).0 ≡ (offset_in s Write).0) × (0 < data_in s))

abbrev pub Typed : Blocks → BlockType → BlockType → Type 0
Typed b outer inner = (b.0.typ ≡ outer) × (b.1.typ ≡ inner) × (b.2.typ ≡ outer)

-- the blocks lie one behind the other, are cut at the two offsets, fill the buffer, and hold the data; the outer two are of one
-- type, the inner of the other: the data is the inner where it lies ahead, and the outer two where it comes round
pub record BlocksOf (s : RingBufferScheduler) (b : Blocks) : Type 0 where
  pub first : b.0.off.0 ≡ 0
  pub second : b.1.off.0 ≡ b.0.len
  pub third : b.2.off.0 ≡ b.0.len + b.1.len
  pub whole : b.0.len + b.1.len + b.2.len ≡ s.buf_len
  pub cut : ((b.1.off ≡ offset_in s Read) × (b.2.off ≡ offset_in s Write)) ⊎ ((b.1.off ≡ offset_in s Write) × (b.2.off ≡ offset_in s Read))
  pub held : data_at b.0.typ b.0.len + data_at b.1.typ b.1.len + data_at b.2.typ b.2.len ≡ data_in s
  pub outer : b.0.typ ≡ b.2.typ
  pub inner : b.1.typ ≡ b.0.typ → ⊥
  pub ahead : AheadIn s → Typed b Free Data
  pub round : RoundIn s → Typed b Data Free
  pub numbers : (b.0.no ≡ One) × (b.1.no ≡ Zero) × (b.2.no ≡ Zero)

-- the block of the next operation: data for a read, free for a write, the first that is used; from the offset to the end of it,
-- or to the buffer's
abbrev pub type_for : OperationType → BlockType
type_for Read = Data
type_for Write = Free

pub record NextBlockOf (s : RingBufferScheduler) (t : OperationType) (b : Block) : Type 0 where
  pub typed : b.typ ≡ type_for t
  pub number : b.no ≡ Zero
  pub starts : b.off ≡ offset_in s t
  pub ends : (b.off.0 + b.len ≡ s.buf_len) ⊎ (b.len ≡ greatest_in s t)
  pub fits : (b.off.0 + b.len ≤ s.buf_len) × (b.len ≤ greatest_in s t)
