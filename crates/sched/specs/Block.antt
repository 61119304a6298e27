-- Blocks, with the Rust's types and numbers: docs/PAPER.md, "Blocks".
use Rattle.std.specs.Prelude.{ℕ}
use Rattle.operations.specs.declared.counter.Offset.{Offset}
use Rattle.sched.specs.declared.block.Bit.{Bit}
use Rattle.sched.specs.declared.block.BlockType.{BlockType}
use Rattle.sched.specs.declared.block.BlockType.TheVariants.{Free, Data}
use Rattle.sched.specs.declared.block.Block.{Block}
use Rattle.sched.specs.declared.block.BufferLayout.{BufferLayout}
use Rattle.sched.specs.declared.block.BufferLayout.TheVariants.{DataFreeData, FreeDataFree}

abbrev pub block_of : BlockType → Bit → Offset → ℕ → Block
block_of t b a n = record { typ = t; no = b; off = a; len = n }

-- the type of blocks 0 and 2, and of block 1 between them
abbrev pub outer_of : BufferLayout → BlockType
outer_of DataFreeData = Data
outer_of FreeDataFree = Free

abbrev pub inner_of : BufferLayout → BlockType
inner_of DataFreeData = Free
inner_of FreeDataFree = Data
