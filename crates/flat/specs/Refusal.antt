-- What the refusal in a host's call stands for. Any number but 1 to 7, 9, 11 to 13 and 20 is 8.
use Rattle.std.specs.Prelude.{cond, eqb}
use Rattle.operations.specs.declared.refusal.Refusal as sched
use Rattle.operations.specs.declared.refusal.Refusal.TheVariants.{ZeroBufferLength, BufferTooLarge, ItemsWrittenOutOfBounds, ItemsReadOutofBounds, DataAvailOutOfBounds, OperationTooLarge, OperationTooLong, InconsistentOperationType, HeldFillWrong}
use Rattle.copies.specs.declared.refusal.Refusal.TheVariants.{Scheduler, RingMemory}
use Rattle.states.specs.declared.refusal.Refusal as receiver
use Rattle.states.specs.declared.refusal.Refusal.TheVariants.{Copy, AnswerMissing, Misfit, PendingFull}
use Rattle.flat.specs.declared.structs.Refusal.{Refusal}
use Rattle.flat.specs.Operation.{type_at}

unfoldable pub scheduler_refusal_at : Refusal → sched.Refusal
scheduler_refusal_at e =
    cond (eqb e.number 1) ZeroBufferLength
    (cond (eqb e.number 2) (BufferTooLarge e.a)
    (cond (eqb e.number 3) (ItemsWrittenOutOfBounds e.a (record { 0 = e.b }))
    (cond (eqb e.number 4) (ItemsReadOutofBounds e.a (record { 0 = e.b }))
    (cond (eqb e.number 5) (DataAvailOutOfBounds e.a (record { 0 = e.b }) (record { 0 = e.c }))
    (cond (eqb e.number 6) (OperationTooLarge (type_at e.a) e.b e.c)
    (cond (eqb e.number 7) (OperationTooLong e.a)
    (cond (eqb e.number 20) HeldFillWrong InconsistentOperationType)))))))

unfoldable pub receiver_refusal_at : Refusal → receiver.Refusal
receiver_refusal_at e =
    cond (eqb e.number 9) (Copy RingMemory)
    (cond (eqb e.number 11) AnswerMissing
    (cond (eqb e.number 12) (Misfit e.a)
    (cond (eqb e.number 13) PendingFull
    (Copy (Scheduler (scheduler_refusal_at e))))))
