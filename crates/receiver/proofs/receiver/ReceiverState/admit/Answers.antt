-- Either test says that the record is sound.
use mathlib.Core.Path.{sym, ◌∙◌}
use Rattle.sched.proofs.Laws.{sound_both}
use Rattle.receiver.proofs.AnsweredLaws.{ready_sound}
use Rattle.receiver.proofs.receiver.ReceiverState.admit.Goals.{in-Some+in_ok-demand_ring_memory-in-Some, in-None+in_ok-demand_soundness-in-None}
use Rattle.receiver.proofs.receiver.ReceiverState.admit.Goals as goal

pub returns-clause-sound : goal.returns-clause-sound
returns-clause-sound c =
    elim c.match-memory.branch [
      | in-Some+in_ok-demand_ring_memory-in-Some w ↦ (ready_sound c.args.self.scheduler _ _ (sym w.in_ok-demand_ring_memory-in-Some.was ∙ w.demand_ring_memory.ensures)).0
      | in-None+in_ok-demand_soundness-in-None w ↦ (sound_both _ c.args.self.scheduler (sym w.in_ok-demand_soundness-in-None.was ∙ w.demand_soundness.ensures)).0
    ]
