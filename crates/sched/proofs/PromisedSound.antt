-- What is asked of a sound scheduler, which is not tested again: how much there is, where it starts, and the record after a move.
use Rattle.std.proofs.Common.{min, subst, sym, arith}
use Rattle.modular.proofs.Saying.{Keeps}
use Rattle.operations.specs.declared.operation.OperationType.{OperationType}
use Rattle.operations.specs.declared.operation.OperationType.TheVariants.{Read, Write}
use Rattle.sched.specs.declared.scheduler.RingBufferScheduler.{RingBufferScheduler}
use Rattle.sched.specs.Parts.{OffsetOf}
use Rattle.sched.specs.Promise.{Greatest, MovedBy}
use Rattle.sched.specs.Scheduler.{IsSound, data_in, greatest_in}
use Rattle.sched.proofs.Counting.{between}
use Rattle.sched.proofs.Parts.{offset_is}
use Rattle.sched.proofs.RegisterLaws.{moved as moves}
use Rattle.sched.proofs.Says.{greatest_says, offset_says, moved_says}
use Rattle.sched.proofs.sound.Sound.greatest.Kinds as greatest_kinds
use Rattle.sched.proofs.sound.Sound.greatest.Reads as greatest
use Rattle.sched.proofs.sound.Sound.offset.Kinds as offset_kinds
use Rattle.sched.proofs.sound.Sound.offset.Reads as offset
use Rattle.sched.proofs.sound.Sound.moved.Kinds as moved_kinds
use Rattle.sched.proofs.sound.Sound.moved.Reads as moved

greatest_is : (s : RingBufferScheduler) → IsSound s → (t : OperationType) → Greatest s t (greatest_in s t)
greatest_is s h Read = between s h
greatest_is s h Write = (data_in s, between s h, omega (arith, h.within))

pub greatest_promised : Keeps 0 greatest_kinds.ps greatest_kinds.r greatest.Learnt (λ κs a z. IsSound a.0 × Greatest a.0 a.1.0 z)
greatest_promised κs a z q = (q.1.1, subst (Greatest a.0 a.1.0) (sym (greatest_says κs a z q.0 q.1)) (greatest_is a.0 q.1.1 a.1.0))

pub offset_promised : Keeps 0 offset_kinds.ps offset_kinds.r offset.Learnt (λ κs a z. IsSound a.0 → OffsetOf a.0 a.1.0 z)
offset_promised κs a z q h = subst (OffsetOf a.0 a.1.0) (sym (offset_says κs a z q.0 q.1)) (offset_is a.0 h a.1.0)

pub moved_promised : Keeps 0 moved_kinds.ps moved_kinds.r moved.Learnt (λ κs a z. IsSound a.0 → MovedBy a.0 a.1.0 (min a.1.1.0 (greatest_in a.0 a.1.0)) z)
moved_promised κs a z q h =
    subst (MovedBy a.0 a.1.0 (min a.1.1.0 (greatest_in a.0 a.1.0))) (sym (moved_says κs a z q.0 q.1))
    (moves a.0 h (min a.1.1.0 (greatest_in a.0 a.1.0)) a.1.0 (omega arith))
