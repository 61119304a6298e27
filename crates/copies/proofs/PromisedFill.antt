-- The held fill, of the copies: the record after one that is accepted passes every test, 20 among them.
use Rattle.std.proofs.Common.{Result, Ok, Err}
use Prim.Native.Nat.{ℕ}
use mathlib.Core.List.{List}
use Rattle.operations.specs.declared.operation.OperationType.TheVariants.{Read, Write}
use Rattle.sched.specs.declared.scheduler.RingBufferScheduler.{RingBufferScheduler}
use Rattle.sched.specs.Given.{Passes}
use Rattle.sched.proofs.PromisedFill.{passes, moved_sound}
use Rattle.copies.specs.Lent.{WriteLeaves, ReadLeaves}
use Rattle.copies.specs.Promises as promise
use Rattle.copies.specs.Promises.{Writes, Reads, CopyWrites, CopyReads}
use Rattle.copies.proofs.Promised.{KeepsLeft, write_promised, read_promised, write_lent_promised, read_lent_promised}
use Rattle.copies.proofs.write.Kinds as write_kinds
use Rattle.copies.proofs.write.Reads as write
use Rattle.copies.proofs.read.Kinds as read_kinds
use Rattle.copies.proofs.read.Reads as read
use Rattle.copies.specs.declared.Copied.{Copied}
use Rattle.operations.specs.declared.portion.Portion.{Portion}
use Rattle.copies.specs.declared.refusal.Refusal.{Refusal}

abbrev pub Holding : RingBufferScheduler → Result Portion Refusal → Type 0
Holding after (Ok p) = Passes after
Holding after (Err e) = Unit {0}

module _ (s : RingBufferScheduler) (ring bytes : List ℕ) where
  pub writes_hold : (t : Result Portion Refusal) (after : RingBufferScheduler) (memory : List ℕ) → Writes s ring bytes t after memory → Holding after t
  writes_hold _ _ _ (promise.Writes.refuses e) = tt
  writes_hold _ _ _ (promise.Writes.moves p after memory e l m c o) = passes after (moved_sound s Write p.len after m)

  pub reads_hold : (t : Result Portion Refusal) (after : RingBufferScheduler) (memory : List ℕ) → Reads s ring bytes t after memory → Holding after t
  reads_hold _ _ _ (promise.Reads.refuses e) = tt
  reads_hold _ _ _ (promise.Reads.moves p after memory e l m c o) = passes after (moved_sound s Read p.len after m)

-- ---- of the calls by value
abbrev pub HoldingIn : Result Copied Refusal → Type 0
HoldingIn (Ok m) = Passes m.scheduler
HoldingIn (Err e) = Unit {0}

by_write : (s : RingBufferScheduler) (ring src : List ℕ) (z : Result Copied Refusal) (memory : List ℕ) → CopyWrites s ring src z memory → HoldingIn z
by_write s ring src (Ok m) memory w = writes_hold s ring src (Ok m.portion) m.scheduler memory w
by_write s ring src (Err e) memory w = tt

by_read : (s : RingBufferScheduler) (ring dst : List ℕ) (z : Result Copied Refusal) (memory : List ℕ) → CopyReads s ring dst z memory → HoldingIn z
by_read s ring dst (Ok m) memory w = reads_hold s ring dst (Ok m.portion) m.scheduler memory w
by_read s ring dst (Err e) memory w = tt

pub write_passes : KeepsLeft 2 write_kinds.ps write_kinds.r write.Learnt (λ κs a z ws. HoldingIn z)
write_passes κs a z ws p = by_write a.0 a.1.0.now a.1.1.0.now z ws.1.0 (write_promised κs a z ws p)

pub read_passes : KeepsLeft 2 read_kinds.ps read_kinds.r read.Learnt (λ κs a z ws. HoldingIn z)
read_passes κs a z ws p = by_read a.0 a.1.0.now a.1.1.0.now z ws.1.1.0 (read_promised κs a z ws p)

-- ---- and of those over a lent scheduler
module _ (s : RingBufferScheduler) (ring bytes : List ℕ) (r : Result Portion Refusal) (after : RingBufferScheduler) (memory : List ℕ) where
  pub write_lent_passes : WriteLeaves s ring bytes r after memory → Holding after r
  write_lent_passes p = writes_hold s ring bytes r after memory (write_lent_promised s ring bytes r after memory p)

  pub read_lent_passes : ReadLeaves s ring bytes r after memory → Holding after r
  read_lent_passes p = reads_hold s ring bytes r after memory (read_lent_promised s ring bytes r after memory p)
