-- The bytes so far, and the place of the next one.
use Rattle.std.proofs.Common.{◌≡◌, ◌+◌, ◌%◌, ◌<◌, length, take}
use Rattle.copies.specs.Ring.{get}
use Rattle.copies.proofs.number.big_endian.Given as goal

abbrev pub invariant-loop-byte : goal.invariant-loop-byte
invariant-loop-byte l = record {
  inside : l.next < length l.bytes;
  round : l.next ≡ (l.place + l.byte-index) % length l.bytes;
  whole : length l.byte-items ≡ 8;
  front : take l.byte-index l.byte-items ≡ get (length l.bytes) l.bytes l.place l.byte-index;
}
