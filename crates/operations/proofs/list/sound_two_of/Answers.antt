-- The compare before the sum is the compare of the sum.
use mathlib.Core.Path.{refl}
use native.Mathlib.Omega.{arith}
use Rattle.operations.proofs.ListLaws.{types_differ, types_agree, two_long, two_fits_same, two_fits_mixed}
use Rattle.operations.proofs.list.sound_two_of.Goals as goal

pub returns-then-a-room : goal.returns-then-a-room
returns-then-a-room c = two_long _ _ _ refl (omega arith) c.if-a-room.true

pub returns-then-ne : goal.returns-then-ne
returns-then-ne c = two_fits_mixed _ _ _ refl (omega arith) c.if-a-room.false (types_differ c.args.a.typ c.args.b.typ _ c.ne.ensures c.if-ne.true)

pub returns : goal.returns
returns c = two_fits_same _ _ _ refl (omega arith) c.if-a-room.false (types_agree c.args.a.typ c.args.b.typ _ c.ne.ensures c.if-ne.false)
