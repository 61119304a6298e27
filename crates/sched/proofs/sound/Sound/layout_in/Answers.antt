-- By the offsets; equal ones by the data.
use Rattle.std.proofs.Common.{sym, ◌∙◌, arith}
use Rattle.sched.proofs.LayoutLaws.{layout_below, layout_above, layout_empty, layout_full}
use Rattle.sched.proofs.sound.Sound.layout_in.Goals as goal

pub returns-then-read-write : goal.returns-then-read-write
returns-then-read-write c = layout_below _ _ _ c.offset-read.ensures c.offset-write.ensures c.if-read-write.true

pub returns-then-write-read : goal.returns-then-write-read
returns-then-write-read c = layout_above _ _ _ c.offset-read.ensures c.offset-write.ensures (omega arith)

pub returns-then-data_in-eq0 : goal.returns-then-data_in-eq0
returns-then-data_in-eq0 c =
    layout_empty _ _ _ c.offset-read.ensures c.offset-write.ensures c.if-read-write.false c.if-write-read.false (sym c.data_in.ensures ∙ c.if-data_in-eq0.true)

pub returns : goal.returns
returns c =
    layout_full _ _ _ c.offset-read.ensures c.offset-write.ensures c.if-read-write.false c.if-write-read.false (λ z. c.if-data_in-eq0.false (c.data_in.ensures ∙ z))
