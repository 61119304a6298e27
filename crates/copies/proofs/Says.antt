-- What each public call says, in the order of the paper: whatever its attached contract allows is this definition of its
-- arguments, and what it leaves in the lent memory is this one.
use Rattle.std.proofs.Common.{Result}
use Prim.Native.Nat.{ℕ}
use mathlib.Core.Path.{◌≡◌, ap}
use mathlib.Core.List.{List}
use Rattle.modular.proofs.Saying.{Says, Leaves}
use Rattle.sched.specs.declared.scheduler.RingBufferScheduler.{RingBufferScheduler}
use Rattle.operations.specs.Refusal.{packed}
use Rattle.copies.specs.Refusal.{number_of, values_of, from_scheduler}
use Rattle.copies.specs.Copies.{Left, from_move, ready_of, write_of, read_of}
use Rattle.copies.specs.Lent.{told_of, record_after, WriteLeaves, ReadLeaves}
use Rattle.copies.specs.Number.{big_endian_of}
use Rattle.copies.proofs.number.big_endian.Kinds as big_endian_kinds
use Rattle.copies.proofs.number.big_endian.Reads as big_endian
use Rattle.copies.proofs.demand_ring_memory.Kinds as demand_ring_memory_kinds
use Rattle.copies.proofs.demand_ring_memory.Reads as demand_ring_memory
use Rattle.copies.proofs.write.Kinds as write_kinds
use Rattle.copies.proofs.write.Reads as write
use Rattle.copies.proofs.read.Kinds as read_kinds
use Rattle.copies.proofs.read.Reads as read
use Rattle.copies.proofs.CopiedFromMove.from.Kinds as from_move_kinds
use Rattle.copies.proofs.CopiedFromMove.from.Reads as from_move_lem
use Rattle.copies.proofs.refusal.RefusalFromSchedRefusal.from.Kinds as from_scheduler_kinds
use Rattle.copies.proofs.refusal.RefusalFromSchedRefusal.from.Reads as from_scheduler_lem
use Rattle.copies.proofs.refusal.Refusal.number.Kinds as Refusal-number-kinds
use Rattle.copies.proofs.refusal.Refusal.number.Reads as Refusal-number
use Rattle.copies.proofs.refusal.Refusal.values.Kinds as values_kinds
use Rattle.copies.proofs.refusal.Refusal.values.Reads as values
use Rattle.operations.specs.declared.portion.Portion.{Portion}
use Rattle.copies.specs.declared.refusal.Refusal.{Refusal}

pub demand_ring_memory_says : Says 0 demand_ring_memory_kinds.ps demand_ring_memory_kinds.r demand_ring_memory.Learnt (λ κs a. ready_of a.0 a.1.0)
demand_ring_memory_says κs a z ws p = p

-- the scheduler, the ring, the source or the destination
pub write_says : Leaves 2 write_kinds.ps write_kinds.r write.Learnt
    (λ κs a. (write_of a.0 a.1.0.now a.1.1.0.now).answer)
    (λ κs a. (tt, ((write_of a.0 a.1.0.now a.1.1.0.now).memory, (tt, tt))))
write_says κs a z ws p = (ap (λ (x : Left). x.answer) p, ap (λ (x : Left). (tt, (x.memory, (tt, tt)))) p)

pub read_says : Leaves 2 read_kinds.ps read_kinds.r read.Learnt
    (λ κs a. (read_of a.0 a.1.0.now a.1.1.0.now).answer)
    (λ κs a. (tt, (tt, ((read_of a.0 a.1.0.now a.1.1.0.now).memory, tt))))
read_says κs a z ws p = (ap (λ (x : Left). x.answer) p, ap (λ (x : Left). (tt, (tt, (x.memory, tt)))) p)

pub from_move_says : Says 0 from_move_kinds.ps from_move_kinds.r from_move_lem.Learnt (λ κs a. from_move a.0)
from_move_says κs a z ws p = p

-- ---- numbers in lent bytes
pub big_endian_says : Says 1 big_endian_kinds.ps big_endian_kinds.r big_endian.Learnt (λ κs a. big_endian_of a.0.now a.1.0)
big_endian_says κs a z ws p = p

-- ---- a refusal of the scheduler, and refusals in numbers
pub from_scheduler_says : Says 0 from_scheduler_kinds.ps from_scheduler_kinds.r from_scheduler_lem.Learnt (λ κs a. from_scheduler a.0)
from_scheduler_says κs a z ws p = p

pub Refusal-number-says : Says 0 Refusal-number-kinds.ps Refusal-number-kinds.r Refusal-number.Learnt (λ κs a. number_of a.0)
Refusal-number-says κs a z ws p = p

pub values_says : Says 0 values_kinds.ps values_kinds.r values.Learnt (λ κs a. packed (values_of a.0))
values_says κs a z ws p = p

-- ---- the calls over a lent scheduler: the toolchain reads no such contract, so each cites one predicate of its outcome
pub write_lent_says : (s : RingBufferScheduler) (ring src : List ℕ) (r : Result Portion Refusal) (after : RingBufferScheduler) (memory : List ℕ) → WriteLeaves s ring src r after memory →
    (r ≡ told_of (write_of s ring src).answer) × (after ≡ record_after s (write_of s ring src).answer) × (memory ≡ (write_of s ring src).memory)
write_lent_says s ring src r after memory p = p

pub read_lent_says : (s : RingBufferScheduler) (ring dst : List ℕ) (r : Result Portion Refusal) (after : RingBufferScheduler) (memory : List ℕ) → ReadLeaves s ring dst r after memory →
    (r ≡ told_of (read_of s ring dst).answer) × (after ≡ record_after s (read_of s ring dst).answer) × (memory ≡ (read_of s ring dst).memory)
read_lent_says s ring dst r after memory p = p
