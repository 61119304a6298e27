-- By the test of the length.
use Rattle.std.proofs.Common.{arith}
use borrow.Author.Tests.{lt-leb}
use Rattle.sched.proofs.ChunkLaws.{no_header, behind_header_lem}
use Rattle.sched.proofs.chunk.body_fits.Goals as goal

pub returns-then-buf_len-ge-HEADER_LEN : goal.returns-then-buf_len-ge-HEADER_LEN
returns-then-buf_len-ge-HEADER_LEN c = behind_header_lem _ _ c.if-buf_len-ge-HEADER_LEN.true

pub returns-else-buf_len-ge-HEADER_LEN : goal.returns-else-buf_len-ge-HEADER_LEN
returns-else-buf_len-ge-HEADER_LEN c = rw (lt-leb 8 c.args.buf_len (omega (arith, c.if-buf_len-ge-HEADER_LEN.false))) (no_header _ _ (omega (arith, c.if-buf_len-ge-HEADER_LEN.false)))
