-- At the full range the wrapping sum; else the reduced numbers' sum, less the modulus where it reaches it.
use Rattle.std.proofs.Common.{sym, mod-lt, arith}
use Rattle.modular.proofs.Laws.{whole_zero, whole_pos, whole_some, wrapped_add, add_fits, add_wraps}
use Rattle.modular.proofs.Modulus.add.Goals as goal

pub returns-then-m-eq0 : goal.returns-then-m-eq0
returns-then-m-eq0 c =
    rw (whole_zero 64 _ c.if-m-eq0.true) (wrapped_add _ _ _)

pub overflow_sub-room : goal.overflow_sub-room
overflow_sub-room c =
    let s = c.args in
    omega (arith, whole_pos 64 _ c.if-m-eq0.false, mod-lt s.b (whole_some 64 s.self.0))

pub returns-then-x-room : goal.returns-then-x-room
returns-then-x-room c =
    add_fits _ _ _ _ _ (whole_some 64 _) c.new_number-x.ensures c.new_number-y.ensures _ (sym (whole_pos 64 _ c.if-m-eq0.false)) c.if-x-room.true

pub returns-else-x-room : goal.returns-else-x-room
returns-else-x-room c =
    add_wraps _ _ _ _ _ (whole_some 64 _) c.new_number-x.ensures c.new_number-y.ensures _ (sym (whole_pos 64 _ c.if-m-eq0.false)) c.if-x-room.false
