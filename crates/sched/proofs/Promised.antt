-- What the paper (docs/PAPER.md, "The scheduler") promises, of the calls: every outcome that an attached contract allows keeps it.
use Rattle.std.proofs.Common.{◌≡◌, ℕ, ◌+◌, ◌≤◌, min, sym, refl, ap, ◌∙◌, arith, Result, Ok, Some, None}
use Rattle.operations.proofs.Answered.{ok_same}
use Rattle.modular.proofs.Saying.{Allows, Keeps}
use Rattle.operations.specs.declared.list.AtMostTwo.TheVariants as list
use Rattle.sched.specs.declared.schedule.Next.{Next}
use Rattle.sched.specs.declared.schedule.Scheduled.{Scheduled}
use Rattle.operations.specs.declared.operation.OperationType.{OperationType}
use Rattle.operations.specs.declared.operation.OperationType.TheVariants.{Read, Write}
use Rattle.operations.specs.declared.operation.ScheduledOperation.{ScheduledOperation}
use Rattle.sched.specs.declared.scheduler.RingBufferScheduler.{RingBufferScheduler}
use Rattle.sched.specs.Promise.{Schedules, Asks, Moves, NextPromise, Between, Taken, WrittenBy, MovedBy, MovedByList}
use Rattle.sched.specs.Scheduler.{IsSound, sound_of, data_in, space_in, greatest_in, next_in, both_of, joined, by_blocks, schedule_in, advanced_in, next_of, schedule_of, register_of, register_list_of}
use Rattle.sched.proofs.Counting.{between, taken_sound, sound_taken, registered_moved, list_moved, next_promised}
use Rattle.sched.proofs.Laws.{sound_is, sound_both}
use Rattle.sched.proofs.RegisterLaws.{advanced_sound, moved}
use Rattle.sched.proofs.Promises.{scheduling, registers}
use Rattle.sched.proofs.Remainder.{next_leaves, list_leaves}
use Rattle.sched.proofs.Says.{demand_soundness_says, data_avail_says, space_avail_says, max_operation_len_says, schedule_contiguous_operations_says, schedule_reads_says, schedule_writes_says, schedule_next_contiguous_operation_says, schedule_next_read_says, schedule_next_write_says, try_register_read_says, try_register_write_says, try_register_operation_manually_says, try_register_operation_says, try_register_operations_says}
use Rattle.sched.proofs.scheduler.RingBufferScheduler.demand_soundness.Kinds as demand_soundness_kinds
use Rattle.sched.proofs.scheduler.RingBufferScheduler.demand_soundness.Reads as demand_soundness
use Rattle.sched.proofs.scheduler.RingBufferScheduler.data_avail.Kinds as data_avail_kinds
use Rattle.sched.proofs.scheduler.RingBufferScheduler.data_avail.Reads as data_avail
use Rattle.sched.proofs.scheduler.RingBufferScheduler.space_avail.Kinds as space_avail_kinds
use Rattle.sched.proofs.scheduler.RingBufferScheduler.space_avail.Reads as space_avail
use Rattle.sched.proofs.scheduler.RingBufferScheduler.max_operation_len.Kinds as max_operation_len_kinds
use Rattle.sched.proofs.scheduler.RingBufferScheduler.max_operation_len.Reads as max_operation_len
use Rattle.sched.proofs.scheduler.RingBufferScheduler.schedule_contiguous_operations.Kinds as schedule_contiguous_operations_kinds
use Rattle.sched.proofs.scheduler.RingBufferScheduler.schedule_contiguous_operations.Reads as schedule_contiguous_operations
use Rattle.sched.proofs.scheduler.RingBufferScheduler.schedule_reads.Kinds as schedule_reads_kinds
use Rattle.sched.proofs.scheduler.RingBufferScheduler.schedule_reads.Reads as schedule_reads
use Rattle.sched.proofs.scheduler.RingBufferScheduler.schedule_writes.Kinds as schedule_writes_kinds
use Rattle.sched.proofs.scheduler.RingBufferScheduler.schedule_writes.Reads as schedule_writes
use Rattle.sched.proofs.scheduler.RingBufferScheduler.schedule_next_contiguous_operation.Kinds as schedule_next_contiguous_operation_kinds
use Rattle.sched.proofs.scheduler.RingBufferScheduler.schedule_next_contiguous_operation.Reads as schedule_next_contiguous_operation
use Rattle.sched.proofs.scheduler.RingBufferScheduler.schedule_next_read.Kinds as schedule_next_read_kinds
use Rattle.sched.proofs.scheduler.RingBufferScheduler.schedule_next_read.Reads as schedule_next_read
use Rattle.sched.proofs.scheduler.RingBufferScheduler.schedule_next_write.Kinds as schedule_next_write_kinds
use Rattle.sched.proofs.scheduler.RingBufferScheduler.schedule_next_write.Reads as schedule_next_write
use Rattle.sched.proofs.scheduler.RingBufferScheduler.try_register_read.Kinds as try_register_read_kinds
use Rattle.sched.proofs.scheduler.RingBufferScheduler.try_register_read.Reads as try_register_read
use Rattle.sched.proofs.scheduler.RingBufferScheduler.try_register_write.Kinds as try_register_write_kinds
use Rattle.sched.proofs.scheduler.RingBufferScheduler.try_register_write.Reads as try_register_write
use Rattle.sched.proofs.scheduler.RingBufferScheduler.try_register_operation_manually.Kinds as try_register_operation_manually_kinds
use Rattle.sched.proofs.scheduler.RingBufferScheduler.try_register_operation_manually.Reads as try_register_operation_manually
use Rattle.sched.proofs.scheduler.RingBufferScheduler.try_register_operation.Kinds as try_register_operation_kinds
use Rattle.sched.proofs.scheduler.RingBufferScheduler.try_register_operation.Reads as try_register_operation
use Rattle.sched.proofs.scheduler.RingBufferScheduler.try_register_operations.Kinds as try_register_operations_kinds
use Rattle.sched.proofs.scheduler.RingBufferScheduler.try_register_operations.Reads as try_register_operations
use Rattle.operations.specs.declared.refusal.Refusal.{Refusal}

advanced_by : (s : RingBufferScheduler) → IsSound s → (t : OperationType) (f : ScheduledOperation) (u : RingBufferScheduler) → f.typ ≡ t → f.len ≤ greatest_in s t → register_of s f.typ f.len ≡ Ok u → u ≡ advanced_in s t f.len
advanced_by s h t f u e l p = let q : Ok u ≡ Ok (advanced_in s t f.len) = sym p ∙ ap (λ (x : OperationType). register_of s x f.len) e ∙ registers s h t f.len l in cc

-- ---- what is taken: counters with the held fill between them, at most L
pub taken_exactly :
    Keeps 0 demand_soundness_kinds.ps demand_soundness_kinds.r demand_soundness.Learnt
    (λ κs a z. (Taken a.0 → z ≡ Ok a.0) × ((s : RingBufferScheduler) → z ≡ Ok s → (s ≡ a.0) × Taken a.0))
taken_exactly κs a z q = (
  λ t. said ∙ sym (sound_is a.0 (taken_sound a.0 t)),
  λ s e. let b : IsSound a.0 × (s ≡ a.0) = sound_both s a.0 (sym e ∙ said) in (b.1, sound_taken a.0 b.0),
)
  where
    said : z ≡ sound_of a.0
    said = demand_soundness_says κs a z q.0 q.1

-- ---- data and space
-- an outcome that a call allows on a record
abbrev pub DataAvail : RingBufferScheduler → Result ℕ Refusal → Type 0
DataAvail s z = Allows 0 data_avail_kinds.ps data_avail_kinds.r data_avail.Learnt tt (s, tt) z

abbrev pub SpaceAvail : RingBufferScheduler → Result ℕ Refusal → Type 0
SpaceAvail s z = Allows 0 space_avail_kinds.ps space_avail_kinds.r space_avail.Learnt tt (s, tt) z

abbrev pub MaxOperationLen : RingBufferScheduler → OperationType → Result ℕ Refusal → Type 0
MaxOperationLen s t z = Allows 0 max_operation_len_kinds.ps max_operation_len_kinds.r max_operation_len.Learnt tt (s, (t, tt)) z

module _ (s : RingBufferScheduler) (h : IsSound s) where
  pub data_is : (z : Result ℕ Refusal) → DataAvail s z → z ≡ Ok (data_in s)
  data_is z q = rw (data_avail_says tt (s, tt) z q.0 q.1, ← sound_is s h)

  pub space_is : (z : Result ℕ Refusal) → SpaceAvail s z → z ≡ Ok (space_in s)
  space_is z q = rw (space_avail_says tt (s, tt) z q.0 q.1, ← sound_is s h)

  pub greatest_is : (t : OperationType) (z : Result ℕ Refusal) → MaxOperationLen s t z → z ≡ Ok (greatest_in s t)
  greatest_is t z q = rw (max_operation_len_says tt (s, (t, tt)) z q.0 q.1, ← sound_is s h)

  pub data_between : (z : Result ℕ Refusal) → DataAvail s z → (d : ℕ) × (z ≡ Ok d) × Between s d
  data_between z q = (data_in s, data_is z q, between s h)

  pub data_and_space : (y z : Result ℕ Refusal) → DataAvail s y → SpaceAvail s z → (d e : ℕ) × (y ≡ Ok d) × (z ≡ Ok e) × (d + e ≡ s.buf_len)
  data_and_space y z p q = (data_in s, space_in s, data_is y p, space_is z q, omega arith)

  pub greatest_of_read : (y z : Result ℕ Refusal) → DataAvail s y → MaxOperationLen s Read z → y ≡ z
  greatest_of_read y z p q = data_avail_says tt (s, tt) y p.0 p.1 ∙ sym (max_operation_len_says tt (s, (Read, tt)) z q.0 q.1)

  pub greatest_of_write : (y z : Result ℕ Refusal) → SpaceAvail s y → MaxOperationLen s Write z → y ≡ z
  greatest_of_write y z p q = space_avail_says tt (s, tt) y p.0 p.1 ∙ sym (max_operation_len_says tt (s, (Write, tt)) z q.0 q.1)

-- ---- registering
pub read_registered : Keeps 0 try_register_read_kinds.ps try_register_read_kinds.r try_register_read.Learnt (λ κs a z. Moves a.0 Read a.1.0 z)
read_registered κs a z q u e = registered_moved a.0 Read a.1.0 u (sym (try_register_read_says κs a z q.0 q.1) ∙ e)

pub write_registered : Keeps 0 try_register_write_kinds.ps try_register_write_kinds.r try_register_write.Learnt (λ κs a z. Moves a.0 Write a.1.0 z)
write_registered κs a z q u e = registered_moved a.0 Write a.1.0 u (sym (try_register_write_says κs a z q.0 q.1) ∙ e)

pub manually_registered : Keeps 0 try_register_operation_manually_kinds.ps try_register_operation_manually_kinds.r try_register_operation_manually.Learnt (λ κs a z. Moves a.0 a.1.0 a.1.1.0 z)
manually_registered κs a z q u e = registered_moved a.0 a.1.0 a.1.1.0 u (sym (try_register_operation_manually_says κs a z q.0 q.1) ∙ e)

pub operation_registered : Keeps 0 try_register_operation_kinds.ps try_register_operation_kinds.r try_register_operation.Learnt (λ κs a z. Moves a.0 a.1.0.typ a.1.0.len z)
operation_registered κs a z q u e = registered_moved a.0 a.1.0.typ a.1.0.len u (sym (try_register_operation_says κs a z q.0 q.1) ∙ e)

pub operations_registered :
    Keeps 0 try_register_operations_kinds.ps try_register_operations_kinds.r try_register_operations.Learnt
    (λ κs a z. (u : RingBufferScheduler) → z ≡ Ok u → IsSound a.0 × MovedByList a.0 a.1.0 u)
operations_registered κs a z q u e = list_moved a.0 a.1.0 u (sym (try_register_operations_says κs a z q.0 q.1) ∙ e)

-- so what `data_avail` answers is n more after a write of n
abbrev pub TryRegisterWrite : RingBufferScheduler → ℕ → Result RingBufferScheduler Refusal → Type 0
TryRegisterWrite s n z = Allows 0 try_register_write_kinds.ps try_register_write_kinds.r try_register_write.Learnt tt (s, (n, tt)) z

pub data_after_write : (s u : RingBufferScheduler) (n d : ℕ) (z : Result ℕ Refusal) → TryRegisterWrite s n (Ok u) → DataAvail s (Ok d) → DataAvail u z → z ≡ Ok (d + n)
data_after_write s u n d z p q r =
    let m : IsSound s × WrittenBy s n u = write_registered tt (s, (n, tt)) (Ok u) p u refl in
    let e : d ≡ data_in s = ok_same d (data_in s) (data_is s m.0 (Ok d) q) in
    data_is u m.1.sound z r ∙ ap Ok (m.1.more ∙ ap (λ (x : ℕ). x + n) (sym e))

-- ---- scheduling
scheduled_all : (s : RingBufferScheduler) (t : OperationType) (m : ℕ) (z : Result Scheduled Refusal) → z ≡ schedule_of s t m → Schedules s t m z
scheduled_all s t m z e h = (schedule_in s t m, rw (e, ← sound_is s h), scheduling s h t m, list_leaves s h t m)

pub schedule_promised : Keeps 0 schedule_contiguous_operations_kinds.ps schedule_contiguous_operations_kinds.r schedule_contiguous_operations.Learnt (λ κs a z. Schedules a.0 a.1.0 a.1.1.0 z)
schedule_promised κs a z q = scheduled_all a.0 a.1.0 a.1.1.0 z (schedule_contiguous_operations_says κs a z q.0 q.1)

pub reads_promised : Keeps 0 schedule_reads_kinds.ps schedule_reads_kinds.r schedule_reads.Learnt (λ κs a z. Schedules a.0 Read a.1.0 z)
reads_promised κs a z q = scheduled_all a.0 Read a.1.0 z (schedule_reads_says κs a z q.0 q.1)

pub writes_promised : Keeps 0 schedule_writes_kinds.ps schedule_writes_kinds.r schedule_writes.Learnt (λ κs a z. Schedules a.0 Write a.1.0 z)
writes_promised κs a z q = scheduled_all a.0 Write a.1.0 z (schedule_writes_says κs a z q.0 q.1)

-- the next operation alone
asks : (s : RingBufferScheduler) (t : OperationType) (m : ℕ) (z : Result Next Refusal) → z ≡ next_of s t m → Asks s t m z
asks s t m z e h = (next_in s t m, rw (e, ← sound_is s h), next_promised s h t m (next_in s t m).operation refl, next_leaves s t m)

pub next_operation_promised : Keeps 0 schedule_next_contiguous_operation_kinds.ps schedule_next_contiguous_operation_kinds.r schedule_next_contiguous_operation.Learnt (λ κs a z. Asks a.0 a.1.0 a.1.1.0 z)
next_operation_promised κs a z q = asks a.0 a.1.0 a.1.1.0 z (schedule_next_contiguous_operation_says κs a z q.0 q.1)

pub next_read_promised : Keeps 0 schedule_next_read_kinds.ps schedule_next_read_kinds.r schedule_next_read.Learnt (λ κs a z. Asks a.0 Read a.1.0 z)
next_read_promised κs a z q = asks a.0 Read a.1.0 z (schedule_next_read_says κs a z q.0 q.1)

pub next_write_promised : Keeps 0 schedule_next_write_kinds.ps schedule_next_write_kinds.r schedule_next_write.Learnt (λ κs a z. Asks a.0 Write a.1.0 z)
next_write_promised κs a z q = asks a.0 Write a.1.0 z (schedule_next_write_says κs a z q.0 q.1)

-- ---- the list is what asking block after block gives, as the Rust does: the next operation, and the next of the scheduler after it,
-- asked for what it left over
abbrev pub Schedule : RingBufferScheduler → OperationType → ℕ → Result Scheduled Refusal → Type 0
Schedule s t m z = Allows 0 schedule_contiguous_operations_kinds.ps schedule_contiguous_operations_kinds.r schedule_contiguous_operations.Learnt tt (s, (t, (m, tt))) z

abbrev pub NextOne : RingBufferScheduler → OperationType → ℕ → Result Next Refusal → Type 0
NextOne s t m z = Allows 0 schedule_next_contiguous_operation_kinds.ps schedule_next_contiguous_operation_kinds.r schedule_next_contiguous_operation.Learnt tt (s, (t, (m, tt))) z

abbrev pub TryRegister : RingBufferScheduler → ScheduledOperation → Result RingBufferScheduler Refusal → Type 0
TryRegister s f z = Allows 0 try_register_operation_kinds.ps try_register_operation_kinds.r try_register_operation.Learnt tt (s, (f, tt)) z

module _ (s : RingBufferScheduler) (h : IsSound s) (t : OperationType) (m : ℕ) where
  next_of_lem : (o : Next) → NextOne s t m (Ok o) → o ≡ next_in s t m
  next_of_lem o q = ok_same o (next_in s t m) (rw (← sound_is s h) at (schedule_next_contiguous_operation_says tt (s, (t, (m, tt))) (Ok o) q.0 q.1))

  pub scheduled : (z : Result Scheduled Refusal) → Schedule s t m z → z ≡ Ok (schedule_in s t m)
  scheduled z q = rw (schedule_contiguous_operations_says tt (s, (t, (m, tt))) z q.0 q.1, ← sound_is s h)

  pub schedule_of_lem : (r : Scheduled) → Schedule s t m (Ok r) → r ≡ schedule_in s t m
  schedule_of_lem r q = ok_same r (schedule_in s t m) (scheduled (Ok r) q)

module _ (s : RingBufferScheduler) (h : IsSound s) (t : OperationType) (m : ℕ) (z : Result Scheduled Refusal) (q : Schedule s t m z) where
  by_blocks_is : (o : Next) → o ≡ next_in s t m → z ≡ Ok (by_blocks s t o.operation o.remainder)
  unfolding schedule_in
  by_blocks_is o e = scheduled s h t m z q ∙ ap (λ (x : Next). Ok (by_blocks s t x.operation x.remainder)) (sym e)

  pub block_after_none : (k : ℕ) → NextOne s t m (Ok (record { operation = None; remainder = k })) → z ≡ Ok (record { operations = list.None; remainder = k })
  block_after_none k p = by_blocks_is (record { operation = None; remainder = k }) (next_of_lem s h t m (record { operation = None; remainder = k }) p)

  pub block_after_block :
      (f : ScheduledOperation) (k : ℕ) → NextOne s t m (Ok (record { operation = Some f; remainder = k })) →
      (u : RingBufferScheduler) → TryRegister s f (Ok u) →
      (o : Next) → NextOne u t k (Ok o) → z ≡ Ok (record { operations = both_of (Some f) o.operation; remainder = o.remainder })
  block_after_block f k p u r o v =
      let e : record { operation = Some f; remainder = k } ≡ next_in s t m = next_of_lem s h t m (record { operation = Some f; remainder = k }) p in
      let n : NextPromise s t m f = next_promised s h t m (Some f) (ap (λ (x : Next). x.operation) (sym e)) in
      let g : register_of s f.typ f.len ≡ Ok u = sym (try_register_operation_says tt (s, (f, tt)) (Ok u) r.0 r.1) in
      let l : f.len ≤ greatest_in s t = omega (arith, n.runs) in
      let a : u ≡ advanced_in s t f.len = advanced_by s h t f u n.typed l g in
      let w : o ≡ next_in (advanced_in s t f.len) t k = next_of_lem u (rw a (advanced_sound s h f.len t l)) t k o v ∙ ap (λ (x : RingBufferScheduler). next_in x t k) a in
      by_blocks_is (record { operation = Some f; remainder = k }) e ∙ ap (λ (x : Next). Ok (joined f x)) (sym w)

-- ---- what is scheduled is taken by registering, and moves all of it
pub schedule_registers :
    (s : RingBufferScheduler) → IsSound s → (t : OperationType) (m : ℕ) (r : Scheduled) → Schedule s t m (Ok r) →
    (z : Result RingBufferScheduler Refusal) → Allows 0 try_register_operations_kinds.ps try_register_operations_kinds.r try_register_operations.Learnt tt (s, (r.operations, tt)) z →
    (u : RingBufferScheduler) × (z ≡ Ok u) × MovedBy s t (min m (greatest_in s t)) u
schedule_registers s h t m r q z p = (
  advanced_in s t (min m (greatest_in s t)),
  try_register_operations_says tt (s, (r.operations, tt)) z p.0 p.1 ∙ ap (λ (x : Scheduled). register_list_of s x.operations) (schedule_of_lem s h t m r q) ∙ (scheduling s h t m).registers,
  moved s h (min m (greatest_in s t)) t (omega arith),
)
