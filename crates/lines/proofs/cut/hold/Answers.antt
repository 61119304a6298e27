-- A copy of as many as have room.
use native.Mathlib.Omega.{arith}
use Rattle.lines.proofs.CutLaws.{held_copied}
use Rattle.lines.proofs.cut.hold.Goals as goal

pub returns : goal.returns
returns c =
    let a = c.args in
    held_copied a.most a.bytes.now a.line.now c.copy_from_slice.new.self a.held c.min-n.result (omega arith) (omega arith) (omega arith) c.copy_from_slice.ensures.after
