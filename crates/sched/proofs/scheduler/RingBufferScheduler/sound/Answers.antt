-- The counters' refusal is passed on; else the fill decides.
use Rattle.std.proofs.Common.{sym, ◌∙◌}
use Rattle.sched.proofs.Laws.{sound, sound_held, sound_unheld}
use Rattle.sched.proofs.scheduler.RingBufferScheduler.sound.Goals as goal

pub returns-then-branch : goal.returns-then-branch
returns-then-branch c =
    sound_unheld _ _ (sym c.in_ok-counted.was ∙ c.counted.ensures) c.if-branch.true

pub invariant_of-result : goal.invariant_of-result
invariant_of-result c =
    sound _ _ (sound_held _ _ (sym c.in_ok-counted.was ∙ c.counted.ensures) c.if-branch.false)

pub returns : goal.returns
returns c =
    sound_held _ _ (sym c.in_ok-counted.was ∙ c.counted.ensures) c.if-branch.false
