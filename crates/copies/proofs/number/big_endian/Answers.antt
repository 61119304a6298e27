-- The eight bytes that were read are the number.
use Rattle.std.proofs.Common.{arith}
use Rattle.copies.proofs.NumberLaws.{all_read}
use Rattle.copies.proofs.number.big_endian.Goals as goal

pub returns : goal.returns
returns c = all_read _ _ _ _ _ c.if-place-bytes.false (omega arith) c.loop-byte-test.false c.loop-byte-test.array_long c.loop-byte.invariant.front c.from_be_bytes.ensures
