-- What a host's block stands for, and the flat forms of blocks, layouts and fill states.
use Rattle.std.specs.Prelude.{ℕ, cond, eqb, Result, Ok, Err}
use Rattle.sched.specs.declared.block.Bit.{Bit}
use Rattle.sched.specs.declared.block.Bit.TheVariants.{Zero, One}
use Rattle.sched.specs.declared.block.Block as sched
use Rattle.sched.specs.declared.block.BlockType.{BlockType}
use Rattle.sched.specs.declared.block.BlockType.TheVariants.{Free, Data}
use Rattle.sched.specs.declared.block.BufferFillState.{BufferFillState}
use Rattle.sched.specs.declared.block.BufferFillState.TheVariants.{Empty, Partial, Full}
use Rattle.sched.specs.declared.block.BufferLayout.{BufferLayout}
use Rattle.sched.specs.declared.block.BufferLayout.TheVariants.{DataFreeData, FreeDataFree}
use Rattle.flat.specs.declared.structs.Block.{Block}
use Rattle.flat.specs.declared.structs.BlockAnswer.{BlockAnswer}
use Rattle.flat.specs.declared.structs.BlocksAnswer.{BlocksAnswer}
use Rattle.flat.specs.declared.structs.U64Answer.{U64Answer}
use Rattle.flat.specs.Counter.{u64_of, u64_refused}
use Rattle.flat.specs.Flat.{no_refusal, flat_refusal}
use Rattle.sched.specs.declared.block.Blocks.{Blocks}
use Rattle.operations.specs.declared.refusal.Refusal.{Refusal}

abbrev pub block_type_number : BlockType → ℕ
block_type_number Free = 0
block_type_number Data = 1

abbrev pub bit_number : Bit → ℕ
bit_number Zero = 0
bit_number One = 1

-- any number but 0 is the second of the two
unfoldable pub block_type_at : ℕ → BlockType
block_type_at n = cond (eqb n 0) Free Data

unfoldable pub bit_at : ℕ → Bit
bit_at n = cond (eqb n 0) Zero One

abbrev pub no_block : Block
no_block = record { typ = 0; no = 0; off = 0; len = 0 }

abbrev pub flat_block : sched.Block → Block
flat_block b = record { typ = block_type_number b.typ; no = bit_number b.no; off = b.off.0; len = b.len }

abbrev pub flat_block_answer : Result sched.Block Refusal → BlockAnswer
flat_block_answer (Ok b) = record { refusal = no_refusal; block = flat_block b }
flat_block_answer (Err e) = record { refusal = flat_refusal e; block = no_block }

abbrev pub flat_blocks : Result Blocks Refusal → BlocksAnswer
flat_blocks (Ok b) =
    record { refusal = no_refusal; block_0 = flat_block b.0; block_1 = flat_block b.1; block_2 = flat_block b.2 }
flat_blocks (Err e) =
    record { refusal = flat_refusal e; block_0 = no_block; block_1 = no_block; block_2 = no_block }

abbrev pub layout_number : BufferLayout → ℕ
layout_number DataFreeData = 0
layout_number FreeDataFree = 1

abbrev pub flat_layout : Result BufferLayout Refusal → U64Answer
flat_layout (Ok l) = u64_of (layout_number l)
flat_layout (Err e) = u64_refused e

abbrev pub fill_state_number : BufferFillState → ℕ
fill_state_number Empty = 0
fill_state_number Partial = 1
fill_state_number Full = 2

abbrev pub flat_fill_state : Result BufferFillState Refusal → U64Answer
flat_fill_state (Ok f) = u64_of (fill_state_number f)
flat_fill_state (Err e) = u64_refused e
