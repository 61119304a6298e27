-- The counters' refusal is passed on; else the record holds their data.
use Rattle.std.proofs.Common.{sym, ◌∙◌}
use Rattle.sched.proofs.Laws.{built_sound}
use Rattle.sched.proofs.scheduler.RingBufferScheduler.try_from_counters.Goals as goal

pub returns : goal.returns
returns c =
    rw c.from_numbers.ensures (built_sound _ _ _ _ (sym c.in_ok-fill.was ∙ c.counted.ensures))
