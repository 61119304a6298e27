-- Of the call that schedules and registers at once: every outcome that its attached contract allows is what the two calls that it
-- stands for answer, and what `MovePromise` of specs/ says in other words than the definition.
use Rattle.std.proofs.Common.{◌≡◌, ℕ, min, ◌⊎◌, sym, refl, ap, ◌∙◌, inl, inr, ⊎_elim, arith, Result, Ok, Err}
use Rattle.modular.proofs.Laws.{lt_or_le}
use Rattle.modular.proofs.Saying.{Allows, Keeps}
use Rattle.operations.proofs.PortionLaws.{left_over}
use Rattle.operations.specs.declared.operation.OperationType.{OperationType}
use Rattle.operations.specs.declared.refusal.Refusal.{Refusal}
use Rattle.sched.specs.declared.register.Move.{Move}
use Rattle.sched.specs.declared.schedule.Scheduled.{Scheduled}
use Rattle.sched.specs.declared.scheduler.RingBufferScheduler.{RingBufferScheduler}
use Rattle.sched.specs.Promise.{cut_of, MovePromise, MovesAtOnce}
use Rattle.sched.specs.Scheduler.{IsSound, greatest_in, scheduled_of, register_list_of, move_in}
use Rattle.sched.proofs.Laws.{sound_is}
use Rattle.sched.proofs.RegisterLaws.{move_of_lem, move_refused, moved}
use Rattle.sched.proofs.ScheduleLaws.{schedule_is}
use Rattle.sched.proofs.Promises.{scheduling}
use Rattle.sched.proofs.Promised.{Schedule, scheduled, schedule_of_lem}
use Rattle.sched.proofs.Says.{schedule_and_register_says, schedule_contiguous_operations_says, try_register_operations_says}
use Rattle.sched.proofs.scheduler.RingBufferScheduler.schedule_and_register.Kinds as schedule_and_register_kinds
use Rattle.sched.proofs.scheduler.RingBufferScheduler.schedule_and_register.Reads as schedule_and_register
use Rattle.sched.proofs.scheduler.RingBufferScheduler.try_register_operations.Kinds as try_register_operations_kinds
use Rattle.sched.proofs.scheduler.RingBufferScheduler.try_register_operations.Reads as try_register_operations

abbrev pub ScheduleAndRegister : RingBufferScheduler → OperationType → ℕ → Result Move Refusal → Type 0
ScheduleAndRegister s t m z = Allows 0 schedule_and_register_kinds.ps schedule_and_register_kinds.r schedule_and_register.Learnt tt (s, (t, (m, tt))) z

-- ---- in other words
all_of_one : (m g : ℕ) → (min m g ≡ m) ⊎ (min m g ≡ g)
all_of_one m g = ⊎_elim (λ l. inl (omega arith)) (λ l. inr (omega arith)) (lt_or_le m g)

pub move_keeps : (s : RingBufferScheduler) → IsSound s → (t : OperationType) (m : ℕ) → MovePromise s t m (move_in s t m)
move_keeps s h t m =
    record {
      starts = refl;
      asked = omega arith;
      there = omega arith;
      all = all_of_one m (greatest_in s t);
      leaves = left_over m (greatest_in s t);
      registered = moved s h (min m (greatest_in s t)) t (omega arith);
    }

pub move_promised : Keeps 0 schedule_and_register_kinds.ps schedule_and_register_kinds.r schedule_and_register.Learnt (λ κs a z. MovesAtOnce a.0 a.1.0 a.1.1.0 z)
move_promised κs a z q h = (
  move_in a.0 a.1.0 a.1.1.0,
  rw (schedule_and_register_says κs a z q.0 q.1, ← sound_is a.0 h),
  move_keeps a.0 h a.1.0 a.1.1.0,
)

-- ---- of the two calls that it stands for
module _ (s : RingBufferScheduler) (t : OperationType) (m : ℕ) where
  module _ (v : Move) (p : ScheduleAndRegister s t m (Ok v)) where
    is : IsSound s × (v ≡ move_in s t m)
    is = move_of_lem s t m v (schedule_and_register_says tt (s, (t, (m, tt))) (Ok v) p.0 p.1)

    -- cut where the buffer ends it is the list that is scheduled, with what is left over
    pub move_cut : (z : Result Scheduled Refusal) → Schedule s t m z → z ≡ Ok (record { operations = cut_of t s.buf_len v.off v.portion.len; remainder = v.portion.remainder })
    move_cut z q = scheduled s is.0 t m z q ∙ ap Ok (schedule_is s is.0 t m) ∙ ap (λ (x : Move). Ok (scheduled_of (cut_of t s.buf_len x.off x.portion.len) x.portion.remainder)) (sym is.1)

    -- and registering that list answers its scheduler
    pub move_registers :
        (r : Scheduled) → Schedule s t m (Ok r) →
        (z : Result RingBufferScheduler Refusal) → Allows 0 try_register_operations_kinds.ps try_register_operations_kinds.r try_register_operations.Learnt tt (s, (r.operations, tt)) z →
        z ≡ Ok v.scheduler
    move_registers r q z p =
        try_register_operations_says tt (s, (r.operations, tt)) z p.0 p.1 ∙ ap (λ (x : Scheduled). register_list_of s x.operations) (schedule_of_lem s is.0 t m r q) ∙ (scheduling s is.0 t m).registers
        ∙ ap (λ (x : Move). Ok x.scheduler) (sym is.1)

  -- it is refused as scheduling is
  pub move_refused_too : (e : Refusal) → ScheduleAndRegister s t m (Err e) → (z : Result Scheduled Refusal) → Schedule s t m z → z ≡ Err e
  move_refused_too e p z q =
      rw (schedule_contiguous_operations_says tt (s, (t, (m, tt))) z q.0 q.1, move_refused s t m e (schedule_and_register_says tt (s, (t, (m, tt))) (Err e) p.0 p.1))
