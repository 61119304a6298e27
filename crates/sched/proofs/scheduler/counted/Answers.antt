-- Each return is one case of the definition: the tests before it passed, and its own did not.
use Rattle.std.proofs.Common.{◌^◌, arith, le-ltb, lt-ltb, eq-eqb, ne_eqb}
use Rattle.sched.proofs.Laws.{beyond, up_to}
use Rattle.sched.specs.Scheduler.{counted_of}
use Rattle.sched.proofs.scheduler.counted.Goals as goal

pub returns-then-buf_len-eq0 : goal.returns-then-buf_len-eq0
unfolding counted_of
returns-then-buf_len-eq0 c = simp (eq-eqb c.args.buf_len 0 (omega arith))

pub returns-then-buf_len-gt-MAX_BUF_LEN : goal.returns-then-buf_len-gt-MAX_BUF_LEN
unfolding counted_of
returns-then-buf_len-gt-MAX_BUF_LEN c =
    simp (ne_eqb _ _ c.if-buf_len-eq0.false, lt-ltb (2 ^ 63) c.args.buf_len (omega arith))

pub returns-then-items_written-last : goal.returns-then-items_written-last
unfolding counted_of
returns-then-items_written-last c =
    simp (ne_eqb _ _ c.if-buf_len-eq0.false, le-ltb _ _ c.if-buf_len-gt-MAX_BUF_LEN.false, beyond _ _ _ c.last_counter-last.ensures c.if-items_written-last.true)

pub returns-then-items_read-last : goal.returns-then-items_read-last
unfolding counted_of
returns-then-items_read-last c =
    simp (ne_eqb _ _ c.if-buf_len-eq0.false, le-ltb _ _ c.if-buf_len-gt-MAX_BUF_LEN.false, up_to _ _ _ c.last_counter-last.ensures c.if-items_written-last.false, beyond _ _ _ c.last_counter-last.ensures c.if-items_read-last.true)

pub data_of-data-requires : goal.data_of-data-requires
data_of-data-requires c =
    let e = c.last_counter-last.ensures in
    (record { some = omega arith; fits = omega arith }, omega arith, omega arith)

pub returns-then-data-buf_len : goal.returns-then-data-buf_len
unfolding counted_of
returns-then-data-buf_len c =
    simp (ne_eqb _ _ c.if-buf_len-eq0.false, le-ltb _ _ c.if-buf_len-gt-MAX_BUF_LEN.false, up_to _ _ _ c.last_counter-last.ensures c.if-items_written-last.false, up_to _ _ _ c.last_counter-last.ensures c.if-items_read-last.false, ← c.data_of-data.ensures, lt-ltb _ _ c.if-data-buf_len.true)

pub returns : goal.returns
unfolding counted_of
returns c =
    simp (ne_eqb _ _ c.if-buf_len-eq0.false, le-ltb _ _ c.if-buf_len-gt-MAX_BUF_LEN.false, up_to _ _ _ c.last_counter-last.ensures c.if-items_written-last.false, up_to _ _ _ c.last_counter-last.ensures c.if-items_read-last.false, ← c.data_of-data.ensures, le-ltb _ _ c.if-data-buf_len.false)
