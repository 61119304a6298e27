-- Of each call that asks something of a sound record: every outcome that its attached contract allows is what `Parts` of specs/
-- says, in other words than the definitions.
use Rattle.std.proofs.Common.{◌≡◌, ◌+◌, ◌≤◌, Bool, true, false, eqb, ltb, sym, refl, ◌∙◌, arith, ne_eqb, Result, Ok, Err}
use Rattle.operations.proofs.Answered.{err_not_ok, ok_same}
use Rattle.modular.proofs.Saying.{Keeps}
use Rattle.sched.specs.declared.block.Block.{Block}
use Rattle.sched.specs.declared.block.Blocks.{Blocks}
use Rattle.sched.specs.declared.block.BufferFillState.{BufferFillState}
use Rattle.sched.specs.declared.block.BufferLayout.{BufferLayout}
use Rattle.operations.specs.declared.counter.Counter.{Counter}
use Rattle.operations.specs.declared.counter.Offset.{Offset}
use Rattle.operations.specs.declared.operation.OperationType.{OperationType}
use Rattle.operations.specs.declared.operation.OperationType.TheVariants.{Read, Write}
use Rattle.operations.specs.declared.refusal.Refusal.{Refusal}
use Rattle.sched.specs.declared.scheduler.RingBufferScheduler.{RingBufferScheduler}
use Rattle.sched.specs.Parts.{CounterOf, OffsetOf, FillOf, None, Some, LayoutOf, BlocksOf, NextBlockOf}
use Rattle.sched.specs.Scheduler.{IsSound, sound_of, data_in, space_in, counter_in, offset_in, fill_state_in, layout_in, blocks_in, next_block_in, offset_answer_of}
use Rattle.sched.proofs.Laws.{sound_is, sound_both}
use Rattle.sched.proofs.Parts.{counter_is, offset_is, none_is, some_is, fill_is, layout_is, blocks_are, next_block_is}
use Rattle.sched.proofs.ChunkLaws.{fits, fits_by}
use Rattle.sched.proofs.chunk.body_fits.Kinds as body_fits_kinds
use Rattle.sched.proofs.chunk.body_fits.Reads as body_fits_lem
use Rattle.sched.proofs.Says.{body_fits_says, buf_len_says, is_zero_sized_says, items_read_says, items_written_says, operation_counter_says, read_off_says, write_off_says, operation_offset_says, fill_state_says, is_empty_says, is_full_says, is_nonempty_says, is_nonfull_says, layout_says, blocks_says, block_0_says, block_1_says, block_2_says, block_0_off_says, block_1_off_says, block_2_off_says, block_0_len_says, block_1_len_says, block_2_len_says, next_operation_block_says, next_read_block_says, next_write_block_says, Block-new-says}
use Rattle.sched.proofs.scheduler.RingBufferScheduler.buf_len.Kinds as buf_len_kinds
use Rattle.sched.proofs.scheduler.RingBufferScheduler.buf_len.Reads as buf_len
use Rattle.sched.proofs.scheduler.RingBufferScheduler.is_zero_sized.Kinds as is_zero_sized_kinds
use Rattle.sched.proofs.scheduler.RingBufferScheduler.is_zero_sized.Reads as is_zero_sized
use Rattle.sched.proofs.scheduler.RingBufferScheduler.items_read.Kinds as items_read_kinds
use Rattle.sched.proofs.scheduler.RingBufferScheduler.items_read.Reads as items_read
use Rattle.sched.proofs.scheduler.RingBufferScheduler.items_written.Kinds as items_written_kinds
use Rattle.sched.proofs.scheduler.RingBufferScheduler.items_written.Reads as items_written
use Rattle.sched.proofs.scheduler.RingBufferScheduler.operation_counter.Kinds as operation_counter_kinds
use Rattle.sched.proofs.scheduler.RingBufferScheduler.operation_counter.Reads as operation_counter
use Rattle.sched.proofs.scheduler.RingBufferScheduler.read_off.Kinds as read_off_kinds
use Rattle.sched.proofs.scheduler.RingBufferScheduler.read_off.Reads as read_off
use Rattle.sched.proofs.scheduler.RingBufferScheduler.write_off.Kinds as write_off_kinds
use Rattle.sched.proofs.scheduler.RingBufferScheduler.write_off.Reads as write_off
use Rattle.sched.proofs.scheduler.RingBufferScheduler.operation_offset.Kinds as operation_offset_kinds
use Rattle.sched.proofs.scheduler.RingBufferScheduler.operation_offset.Reads as operation_offset
use Rattle.sched.proofs.scheduler.RingBufferScheduler.fill_state.Kinds as fill_state_kinds
use Rattle.sched.proofs.scheduler.RingBufferScheduler.fill_state.Reads as fill_state
use Rattle.sched.proofs.scheduler.RingBufferScheduler.is_empty.Kinds as is_empty_kinds
use Rattle.sched.proofs.scheduler.RingBufferScheduler.is_empty.Reads as is_empty
use Rattle.sched.proofs.scheduler.RingBufferScheduler.is_full.Kinds as is_full_kinds
use Rattle.sched.proofs.scheduler.RingBufferScheduler.is_full.Reads as is_full
use Rattle.sched.proofs.scheduler.RingBufferScheduler.is_nonempty.Kinds as is_nonempty_kinds
use Rattle.sched.proofs.scheduler.RingBufferScheduler.is_nonempty.Reads as is_nonempty
use Rattle.sched.proofs.scheduler.RingBufferScheduler.is_nonfull.Kinds as is_nonfull_kinds
use Rattle.sched.proofs.scheduler.RingBufferScheduler.is_nonfull.Reads as is_nonfull
use Rattle.sched.proofs.scheduler.RingBufferScheduler.layout.Kinds as layout_kinds
use Rattle.sched.proofs.scheduler.RingBufferScheduler.layout.Reads as layout
use Rattle.sched.proofs.scheduler.RingBufferScheduler.blocks.Kinds as blocks_kinds
use Rattle.sched.proofs.scheduler.RingBufferScheduler.blocks.Reads as blocks
use Rattle.sched.proofs.scheduler.RingBufferScheduler.block_0.Kinds as block_0_kinds
use Rattle.sched.proofs.scheduler.RingBufferScheduler.block_0.Reads as block_0
use Rattle.sched.proofs.scheduler.RingBufferScheduler.block_1.Kinds as block_1_kinds
use Rattle.sched.proofs.scheduler.RingBufferScheduler.block_1.Reads as block_1
use Rattle.sched.proofs.scheduler.RingBufferScheduler.block_2.Kinds as block_2_kinds
use Rattle.sched.proofs.scheduler.RingBufferScheduler.block_2.Reads as block_2
use Rattle.sched.proofs.scheduler.RingBufferScheduler.block_0_off.Kinds as block_0_off_kinds
use Rattle.sched.proofs.scheduler.RingBufferScheduler.block_0_off.Reads as block_0_off
use Rattle.sched.proofs.scheduler.RingBufferScheduler.block_1_off.Kinds as block_1_off_kinds
use Rattle.sched.proofs.scheduler.RingBufferScheduler.block_1_off.Reads as block_1_off
use Rattle.sched.proofs.scheduler.RingBufferScheduler.block_2_off.Kinds as block_2_off_kinds
use Rattle.sched.proofs.scheduler.RingBufferScheduler.block_2_off.Reads as block_2_off
use Rattle.sched.proofs.scheduler.RingBufferScheduler.block_0_len.Kinds as block_0_len_kinds
use Rattle.sched.proofs.scheduler.RingBufferScheduler.block_0_len.Reads as block_0_len
use Rattle.sched.proofs.scheduler.RingBufferScheduler.block_1_len.Kinds as block_1_len_kinds
use Rattle.sched.proofs.scheduler.RingBufferScheduler.block_1_len.Reads as block_1_len
use Rattle.sched.proofs.scheduler.RingBufferScheduler.block_2_len.Kinds as block_2_len_kinds
use Rattle.sched.proofs.scheduler.RingBufferScheduler.block_2_len.Reads as block_2_len
use Rattle.sched.proofs.scheduler.RingBufferScheduler.next_operation_block.Kinds as next_operation_block_kinds
use Rattle.sched.proofs.scheduler.RingBufferScheduler.next_operation_block.Reads as next_operation_block
use Rattle.sched.proofs.scheduler.RingBufferScheduler.next_read_block.Kinds as next_read_block_kinds
use Rattle.sched.proofs.scheduler.RingBufferScheduler.next_read_block.Reads as next_read_block
use Rattle.sched.proofs.scheduler.RingBufferScheduler.next_write_block.Kinds as next_write_block_kinds
use Rattle.sched.proofs.scheduler.RingBufferScheduler.next_write_block.Reads as next_write_block
use Rattle.sched.proofs.block.Block.new.Kinds as Block-new-kinds
use Rattle.sched.proofs.block.Block.new.Reads as Block-new

-- ---- the length
pub buf_len_promised : Keeps 0 buf_len_kinds.ps buf_len_kinds.r buf_len.Learnt (λ κs a z. IsSound a.0 → z ≡ Ok a.0.buf_len)
buf_len_promised κs a z q h = rw (buf_len_says κs a z q.0 q.1, ← sound_is a.0 h)

pub is_zero_sized_promised : Keeps 0 is_zero_sized_kinds.ps is_zero_sized_kinds.r is_zero_sized.Learnt (λ κs a z. IsSound a.0 → z ≡ Ok false)
is_zero_sized_promised κs a z q h = rw (is_zero_sized_says κs a z q.0 q.1, ← sound_is a.0 h, ne_eqb a.0.buf_len 0 (λ e. omega (arith, h.sized.some)))

-- ---- counters and offsets
pub items_read_promised : Keeps 0 items_read_kinds.ps items_read_kinds.r items_read.Learnt (λ κs a z. IsSound a.0 → (c : Counter) × (z ≡ Ok c) × CounterOf a.0 Read c)
items_read_promised κs a z q h = (counter_in a.0 Read, rw (items_read_says κs a z q.0 q.1, ← sound_is a.0 h), counter_is a.0 Read)

pub items_written_promised : Keeps 0 items_written_kinds.ps items_written_kinds.r items_written.Learnt (λ κs a z. IsSound a.0 → (c : Counter) × (z ≡ Ok c) × CounterOf a.0 Write c)
items_written_promised κs a z q h = (counter_in a.0 Write, rw (items_written_says κs a z q.0 q.1, ← sound_is a.0 h), counter_is a.0 Write)

pub operation_counter_promised : Keeps 0 operation_counter_kinds.ps operation_counter_kinds.r operation_counter.Learnt (λ κs a z. IsSound a.0 → (c : Counter) × (z ≡ Ok c) × CounterOf a.0 a.1.0 c)
operation_counter_promised κs a z q h = (counter_in a.0 a.1.0, rw (operation_counter_says κs a z q.0 q.1, ← sound_is a.0 h), counter_is a.0 a.1.0)

pub read_off_promised : Keeps 0 read_off_kinds.ps read_off_kinds.r read_off.Learnt (λ κs a z. IsSound a.0 → (o : Offset) × (z ≡ Ok o) × OffsetOf a.0 Read o)
read_off_promised κs a z q h = (offset_in a.0 Read, rw (read_off_says κs a z q.0 q.1, ← sound_is a.0 h), offset_is a.0 h Read)

pub write_off_promised : Keeps 0 write_off_kinds.ps write_off_kinds.r write_off.Learnt (λ κs a z. IsSound a.0 → (o : Offset) × (z ≡ Ok o) × OffsetOf a.0 Write o)
write_off_promised κs a z q h = (offset_in a.0 Write, rw (write_off_says κs a z q.0 q.1, ← sound_is a.0 h), offset_is a.0 h Write)

pub operation_offset_promised : Keeps 0 operation_offset_kinds.ps operation_offset_kinds.r operation_offset.Learnt (λ κs a z. IsSound a.0 → (o : Offset) × (z ≡ Ok o) × OffsetOf a.0 a.1.0 o)
operation_offset_promised κs a z q h = (offset_in a.0 a.1.0, rw (operation_offset_says κs a z q.0 q.1, ← sound_is a.0 h), offset_is a.0 h a.1.0)

-- the offset that the other promises name is the one that is answered
offset_of_lem : (s : RingBufferScheduler) (t : OperationType) (o : Offset) → offset_answer_of s t ≡ Ok o → o ≡ offset_in s t
offset_of_lem s t o p = go (sound_of s) refl
  where
    go : (c : Result RingBufferScheduler Refusal) → sound_of s ≡ c → o ≡ offset_in s t
    go (Ok v) q = ok_same o (offset_in s t) (rw (← sound_is s (sound_both v s (sym q)).0) at (sym p))
    go (Err e) q = absurd (err_not_ok e o (rw q at p))

pub read_off_is : Keeps 0 read_off_kinds.ps read_off_kinds.r read_off.Learnt (λ κs a z. (o : Offset) → z ≡ Ok o → o ≡ offset_in a.0 Read)
read_off_is κs a z q o e = offset_of_lem a.0 Read o (sym (read_off_says κs a z q.0 q.1) ∙ e)

pub write_off_is : Keeps 0 write_off_kinds.ps write_off_kinds.r write_off.Learnt (λ κs a z. (o : Offset) → z ≡ Ok o → o ≡ offset_in a.0 Write)
write_off_is κs a z q o e = offset_of_lem a.0 Write o (sym (write_off_says κs a z q.0 q.1) ∙ e)

pub operation_offset_is : Keeps 0 operation_offset_kinds.ps operation_offset_kinds.r operation_offset.Learnt (λ κs a z. (o : Offset) → z ≡ Ok o → o ≡ offset_in a.0 a.1.0)
operation_offset_is κs a z q o e = offset_of_lem a.0 a.1.0 o (sym (operation_offset_says κs a z q.0 q.1) ∙ e)

-- ---- fill state
pub fill_state_promised : Keeps 0 fill_state_kinds.ps fill_state_kinds.r fill_state.Learnt (λ κs a z. IsSound a.0 → (f : BufferFillState) × (z ≡ Ok f) × FillOf a.0 f)
fill_state_promised κs a z q h = (fill_state_in a.0, rw (fill_state_says κs a z q.0 q.1, ← sound_is a.0 h), fill_is a.0 h)

pub is_empty_promised : Keeps 0 is_empty_kinds.ps is_empty_kinds.r is_empty.Learnt (λ κs a z. IsSound a.0 → (b : Bool) × (z ≡ Ok b) × None (data_in a.0) b)
is_empty_promised κs a z q h = (eqb (data_in a.0) 0, rw (is_empty_says κs a z q.0 q.1, ← sound_is a.0 h), none_is (data_in a.0))

pub is_full_promised : Keeps 0 is_full_kinds.ps is_full_kinds.r is_full.Learnt (λ κs a z. IsSound a.0 → (b : Bool) × (z ≡ Ok b) × None (space_in a.0) b)
is_full_promised κs a z q h = (eqb (space_in a.0) 0, rw (is_full_says κs a z q.0 q.1, ← sound_is a.0 h), none_is (space_in a.0))

pub is_nonempty_promised : Keeps 0 is_nonempty_kinds.ps is_nonempty_kinds.r is_nonempty.Learnt (λ κs a z. IsSound a.0 → (b : Bool) × (z ≡ Ok b) × Some (data_in a.0) b)
is_nonempty_promised κs a z q h = (ltb 0 (data_in a.0), rw (is_nonempty_says κs a z q.0 q.1, ← sound_is a.0 h), some_is (data_in a.0))

pub is_nonfull_promised : Keeps 0 is_nonfull_kinds.ps is_nonfull_kinds.r is_nonfull.Learnt (λ κs a z. IsSound a.0 → (b : Bool) × (z ≡ Ok b) × Some (space_in a.0) b)
is_nonfull_promised κs a z q h = (ltb 0 (space_in a.0), rw (is_nonfull_says κs a z q.0 q.1, ← sound_is a.0 h), some_is (space_in a.0))

-- ---- layout and blocks
pub layout_promised : Keeps 0 layout_kinds.ps layout_kinds.r layout.Learnt (λ κs a z. IsSound a.0 → (l : BufferLayout) × (z ≡ Ok l) × LayoutOf a.0 l)
layout_promised κs a z q h = (layout_in a.0, rw (layout_says κs a z q.0 q.1, ← sound_is a.0 h), layout_is a.0 h)

pub blocks_promised : Keeps 0 blocks_kinds.ps blocks_kinds.r blocks.Learnt (λ κs a z. IsSound a.0 → (b : Blocks) × (z ≡ Ok b) × BlocksOf a.0 b)
blocks_promised κs a z q h = (blocks_in a.0, rw (blocks_says κs a z q.0 q.1, ← sound_is a.0 h), blocks_are a.0 h)

pub block_0_promised : Keeps 0 block_0_kinds.ps block_0_kinds.r block_0.Learnt (λ κs a z. IsSound a.0 → (b : Blocks) × (z ≡ Ok b.0) × BlocksOf a.0 b)
block_0_promised κs a z q h = (blocks_in a.0, rw (block_0_says κs a z q.0 q.1, ← sound_is a.0 h), blocks_are a.0 h)

pub block_1_promised : Keeps 0 block_1_kinds.ps block_1_kinds.r block_1.Learnt (λ κs a z. IsSound a.0 → (b : Blocks) × (z ≡ Ok b.1) × BlocksOf a.0 b)
block_1_promised κs a z q h = (blocks_in a.0, rw (block_1_says κs a z q.0 q.1, ← sound_is a.0 h), blocks_are a.0 h)

pub block_2_promised : Keeps 0 block_2_kinds.ps block_2_kinds.r block_2.Learnt (λ κs a z. IsSound a.0 → (b : Blocks) × (z ≡ Ok b.2) × BlocksOf a.0 b)
block_2_promised κs a z q h = (blocks_in a.0, rw (block_2_says κs a z q.0 q.1, ← sound_is a.0 h), blocks_are a.0 h)

pub block_0_off_promised : Keeps 0 block_0_off_kinds.ps block_0_off_kinds.r block_0_off.Learnt (λ κs a z. IsSound a.0 → (b : Blocks) × (z ≡ Ok b.0.off) × BlocksOf a.0 b)
block_0_off_promised κs a z q h = (blocks_in a.0, rw (block_0_off_says κs a z q.0 q.1, ← sound_is a.0 h), blocks_are a.0 h)

pub block_1_off_promised : Keeps 0 block_1_off_kinds.ps block_1_off_kinds.r block_1_off.Learnt (λ κs a z. IsSound a.0 → (b : Blocks) × (z ≡ Ok b.1.off) × BlocksOf a.0 b)
block_1_off_promised κs a z q h = (blocks_in a.0, rw (block_1_off_says κs a z q.0 q.1, ← sound_is a.0 h), blocks_are a.0 h)

pub block_2_off_promised : Keeps 0 block_2_off_kinds.ps block_2_off_kinds.r block_2_off.Learnt (λ κs a z. IsSound a.0 → (b : Blocks) × (z ≡ Ok b.2.off) × BlocksOf a.0 b)
block_2_off_promised κs a z q h = (blocks_in a.0, rw (block_2_off_says κs a z q.0 q.1, ← sound_is a.0 h), blocks_are a.0 h)

pub block_0_len_promised : Keeps 0 block_0_len_kinds.ps block_0_len_kinds.r block_0_len.Learnt (λ κs a z. IsSound a.0 → (b : Blocks) × (z ≡ Ok b.0.len) × BlocksOf a.0 b)
block_0_len_promised κs a z q h = (blocks_in a.0, rw (block_0_len_says κs a z q.0 q.1, ← sound_is a.0 h), blocks_are a.0 h)

pub block_1_len_promised : Keeps 0 block_1_len_kinds.ps block_1_len_kinds.r block_1_len.Learnt (λ κs a z. IsSound a.0 → (b : Blocks) × (z ≡ Ok b.1.len) × BlocksOf a.0 b)
block_1_len_promised κs a z q h = (blocks_in a.0, rw (block_1_len_says κs a z q.0 q.1, ← sound_is a.0 h), blocks_are a.0 h)

pub block_2_len_promised : Keeps 0 block_2_len_kinds.ps block_2_len_kinds.r block_2_len.Learnt (λ κs a z. IsSound a.0 → (b : Blocks) × (z ≡ Ok b.2.len) × BlocksOf a.0 b)
block_2_len_promised κs a z q h = (blocks_in a.0, rw (block_2_len_says κs a z q.0 q.1, ← sound_is a.0 h), blocks_are a.0 h)

pub next_operation_block_promised : Keeps 0 next_operation_block_kinds.ps next_operation_block_kinds.r next_operation_block.Learnt (λ κs a z. IsSound a.0 → (b : Block) × (z ≡ Ok b) × NextBlockOf a.0 a.1.0 b)
next_operation_block_promised κs a z q h = (next_block_in a.0 a.1.0, rw (next_operation_block_says κs a z q.0 q.1, ← sound_is a.0 h), next_block_is a.0 h a.1.0)

pub next_read_block_promised : Keeps 0 next_read_block_kinds.ps next_read_block_kinds.r next_read_block.Learnt (λ κs a z. IsSound a.0 → (b : Block) × (z ≡ Ok b) × NextBlockOf a.0 Read b)
next_read_block_promised κs a z q h = (next_block_in a.0 Read, rw (next_read_block_says κs a z q.0 q.1, ← sound_is a.0 h), next_block_is a.0 h Read)

pub next_write_block_promised : Keeps 0 next_write_block_kinds.ps next_write_block_kinds.r next_write_block.Learnt (λ κs a z. IsSound a.0 → (b : Block) × (z ≡ Ok b) × NextBlockOf a.0 Write b)
next_write_block_promised κs a z q h = (next_block_in a.0 Write, rw (next_write_block_says κs a z q.0 q.1, ← sound_is a.0 h), next_block_is a.0 h Write)

-- ---- the bound of a body: true exactly when it fits with its header
pub body_fits_promised : Keeps 0 body_fits_kinds.ps body_fits_kinds.r body_fits_lem.Learnt (λ κs a z. (z ≡ true → a.1.0 + 8 ≤ a.0) × (a.1.0 + 8 ≤ a.0 → z ≡ true))
body_fits_promised κs a z q =
    let p = body_fits_says κs a z q.0 q.1 in
    ((λ e. fits_by a.0 a.1.0 (sym p ∙ e)), (λ h. p ∙ fits a.0 a.1.0 h))

-- ---- what is put together
pub block_new_promised : Keeps 0 Block-new-kinds.ps Block-new-kinds.r Block-new.Learnt (λ κs a z. (z.typ ≡ a.0) × (z.no ≡ a.1.0) × (z.off ≡ a.1.1.0) × (z.len ≡ a.1.1.1.0))
block_new_promised κs a z q = rw (Block-new-says κs a z q.0 q.1) (refl, refl, refl, refl)
