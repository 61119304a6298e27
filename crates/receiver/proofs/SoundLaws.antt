-- What the machine makes of a sound record is sound, by the cases.
use Rattle.std.proofs.Common.{Ok, ℕ}
use Prim.Native.Nat.{ℕ}
use mathlib.Core.Path.{◌≡◌, sym, subst}
use Rattle.sched.specs.Scheduler.{IsSound}
use Rattle.receiver.specs.Call.{resumed_of}
use Rattle.receiver.specs.Cases.{Resumes, HandsOut, a_part, all_of_it, BeginsRead, is_terminated, none_asked, awaits, holds_data, ResumesIn, Goes}
use Rattle.receiver.specs.declared.call.Call.{Call}
use Rattle.receiver.specs.declared.call.Phase.{Phase}
use Rattle.receiver.specs.declared.call.Phase.TheVariants as phase
use Rattle.receiver.specs.declared.call.Wanted.{Wanted}
use Rattle.receiver.specs.declared.receiver.Beside.{Beside}
use Rattle.receiver.specs.declared.receiver.ReceiverState.{ReceiverState}
use Rattle.receiver.proofs.CaseSteps.{resumes_by}
use Rattle.receiver.proofs.StepLaws.{closes_spends, serves_spends}

abbrev Sound : Call → Type 0
Sound c = IsSound c.receiver.scheduler

pub kept : (c : Call) (q : ReceiverState) → IsSound q.scheduler → c.receiver.scheduler ≡ q.scheduler → Sound c
kept c q h e = subst IsSound (sym e) h

pub hands_sound : (q : ReceiverState) (asked : ℕ) (b : Beside) (c : Call) → HandsOut q asked b c → Sound c
hands_sound q asked b c (a_part {u} l r h) = subst IsSound (sym (serves_spends _ _ _ c h).scheduler) r.sound
hands_sound q asked b c (all_of_it {u} l r h) = subst IsSound (sym (serves_spends _ _ _ c h).scheduler) r.sound

module _ (q : ReceiverState) (h : IsSound q.scheduler) where
  pub reads_sound : (w : Wanted) (c : Call) → BeginsRead q w c → Sound c
  reads_sound w _ (is_terminated p) = h
  reads_sound w _ (none_asked l p) = h
  reads_sound w _ (awaits r p) = h
  reads_sound w c (holds_data r p o) = hands_sound q w.dst_len _ c o

pub resumes_sound : (c d : Call) → Sound c → (ph : Phase) → ResumesIn ph c d → Sound d
resumes_sound c d h (phase.Receive w) r = reads_sound c.receiver h w d r
resumes_sound c d h (phase.Send batch e) r = kept d c.receiver h (serves_spends c.receiver c.source e d r).scheduler
resumes_sound c d h (phase.Shutdown e) r = kept d c.receiver h (closes_spends c.receiver c.source e d r).scheduler
resumes_sound c d h (phase.Finished o) r = subst Sound (sym r) h

-- a call that the rules make of a sound record
pub resumed_sound : (c d : Call) → Sound c → Ok d ≡ resumed_of c → Sound d
resumed_sound c d h e = resumes_sound c d h c.phase (subst (Goes (Resumes c)) (sym e) (resumes_by c h c.phase))
