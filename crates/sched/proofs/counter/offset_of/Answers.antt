-- Below L the counter itself, from there to 2L the counter less L.
use Rattle.std.proofs.Common.{◌-◌, mod-eq_of_lt, arith}
use Rattle.modular.proofs.Laws.{once}
use Rattle.sched.proofs.counter.offset_of.Goals as goal

pub returns-then-counter-buf_len : goal.returns-then-counter-buf_len
returns-then-counter-buf_len c =
    let a = c.args in
    rw (mod-eq_of_lt {n = a.counter.0} {m = a.buf_len} (omega arith))

pub returns : goal.returns
returns c = rw (once c.args.buf_len c.args.counter.0 (c.args.counter.0 - c.args.buf_len) (omega (arith, c.requires, c.if-counter-buf_len.false)) (omega (arith, c.if-counter-buf_len.false)))
