-- What the paper promises of scheduling and registering, as it is told there: docs/PAPER.md, "Scheduling", "Registering".
use Rattle.std.specs.Prelude.{◌≡◌, ℕ, zero, suc, ◌+◌, ◌-◌, ◌*◌, ◌%◌, ◌<◌, ◌≤◌, min, cond, ◌⊎◌, List, [], ◌∷◌, ◌++◌, ◌==◌, nat_le, Result, Ok, Option, Some, None}
use Rattle.operations.specs.declared.counter.Counter.{Counter}
use Rattle.operations.specs.declared.counter.Offset.{Offset}
use Rattle.operations.specs.Lists.{ScheduledOperations}
use Rattle.operations.specs.declared.list.AtMostTwo.TheVariants as list
use Rattle.sched.specs.declared.schedule.Next.{Next}
use Rattle.sched.specs.declared.schedule.Scheduled.{Scheduled}
use Rattle.operations.specs.declared.operation.OperationType.{OperationType}
use Rattle.operations.specs.declared.operation.OperationType.TheVariants.{Read, Write}
use Rattle.operations.specs.declared.operation.ScheduledOperation.{ScheduledOperation}
use Rattle.sched.specs.declared.register.Move.{Move}
use Rattle.sched.specs.declared.scheduler.RingBufferScheduler.{RingBufferScheduler}
use Rattle.operations.specs.List.{total_in}
use Rattle.operations.specs.Operation.{operation_of}
use Rattle.operations.specs.Promise.{LeftOver}
use Rattle.sched.specs.Scheduler.{Sized, IsSound, data_in, offset_in, greatest_in, next_block_in, advanced_in, register_list_of}
use Rattle.operations.specs.declared.refusal.Refusal.{Refusal}

-- what holds of each operation of a list
abbrev pub Each : (ScheduledOperation → Type 0) → ScheduledOperations → Type 0
Each P list.None = Unit {0}
Each P (list.One a) = P a
Each P (list.Two a b) = P a × P b

abbrev pub Disjoint : ScheduledOperations → Type 0
Disjoint list.None = Unit {0}
Disjoint (list.One a) = Unit {0}
Disjoint (list.Two a b) = (a.off.0 + a.len ≤ b.off.0) ⊎ (b.off.0 + b.len ≤ a.off.0)

abbrev pub first_len : ScheduledOperations → ℕ
first_len list.None = 0
first_len (list.One a) = a.len
first_len (list.Two a b) = a.len

-- the places a, a + 1 and on, n of them; and the same round a buffer of l
unfoldable pub up_from : ℕ → ℕ → List ℕ
up_from a zero = []
up_from a (suc n) = a ∷ up_from (suc a) n

unfoldable pub round_from : ℕ → ℕ → ℕ → List ℕ
round_from l a zero = []
round_from l a (suc n) = a % l ∷ round_from l (suc a) n

-- the places that the operations of a list take, in order
abbrev pub places_of : ScheduledOperations → List ℕ
places_of list.None = []
places_of (list.One a) = up_from a.off.0 a.len
places_of (list.Two a b) = up_from a.off.0 a.len ++ up_from b.off.0 b.len

-- At most two operations (the list has no more places), none empty, inside the buffer, disjoint; together they cover
-- min(m, data) or min(m, space), consecutive round the buffer from the offset; the first runs to the end of its block or
-- to m; and registering them is not refused and advances by just that sum.
pub record Promise (s : RingBufferScheduler) (t : OperationType) (m : ℕ) (ops : ScheduledOperations) : Type 0 where
  pub typed : Each (λ a. a.typ ≡ t) ops
  pub nonempty : Each (λ a. 0 < a.len) ops
  pub inside : Each (λ a. a.off.0 + a.len ≤ s.buf_len) ops
  pub disjoint : Disjoint ops
  pub total : total_in ops ≡ min m (greatest_in s t)
  pub places : places_of ops ≡ round_from s.buf_len (offset_in s t).0 (min m (greatest_in s t))
  pub first : first_len ops ≡ min m (next_block_in s t).len
  pub registers : register_list_of s ops ≡ Ok (advanced_in s t (min m (greatest_in s t)))

-- the next operation alone: none where nothing is to be moved; else it starts at the offset and runs to m, to the end of what
-- there is, or to the buffer's
pub record NextPromise (s : RingBufferScheduler) (t : OperationType) (m : ℕ) (f : ScheduledOperation) : Type 0 where
  pub typed : f.typ ≡ t
  pub nonempty : 0 < f.len
  pub starts : f.off ≡ offset_in s t
  pub runs : f.len ≡ min m (min (greatest_in s t) (s.buf_len - f.off.0))

abbrev pub NextIs : RingBufferScheduler → OperationType → ℕ → Option ScheduledOperation → Type 0
NextIs s t m None = min m (greatest_in s t) ≡ 0
NextIs s t m (Some f) = NextPromise s t m f

-- n items from the offset a in at most two operations, cut where the buffer of l items ends
unfoldable pub cut_of : OperationType → ℕ → Offset → ℕ → ScheduledOperations
cut_of t l a n =
    cond (n == 0) list.None
    (cond (nat_le (a.0 + n) l) (list.One (operation_of t a n))
    (list.Two (operation_of t a (l - a.0)) (operation_of t (record { 0 = 0 }) (n - (l - a.0)))))

-- ---- how much was not scheduled
-- the length of the next operation, 0 for none
abbrev pub next_len : Option ScheduledOperation → ℕ
next_len None = 0
next_len (Some f) = f.len

-- of m items the next operation takes its length and leaves the others over, some exactly when m is above its block; a list takes its
-- sum, and leaves some over exactly when m is above the data of a read, the space of a write
abbrev pub NextLeaves : RingBufferScheduler → OperationType → ℕ → Next → Type 0
NextLeaves s t m o = LeftOver m (next_block_in s t).len (next_len o.operation) o.remainder

abbrev pub ListLeaves : RingBufferScheduler → OperationType → ℕ → Scheduled → Type 0
ListLeaves s t m r = LeftOver m (greatest_in s t) (total_in r.operations) r.remainder

-- so of an answer: a sound scheduler is scheduled
abbrev pub Schedules : RingBufferScheduler → OperationType → ℕ → Result Scheduled Refusal → Type 0
Schedules s t m z = IsSound s → (r : Scheduled) × (z ≡ Ok r) × Promise s t m r.operations × ListLeaves s t m r

abbrev pub Asks : RingBufferScheduler → OperationType → ℕ → Result Next Refusal → Type 0
Asks s t m z = IsSound s → (o : Next) × (z ≡ Ok o) × NextIs s t m o.operation × NextLeaves s t m o

-- ---- the record, in words that do not subtract
-- d items lie between the counters, round 2L
pub record Between (s : RingBufferScheduler) (d : ℕ) : Type 0 where
  pub at_most : d ≤ s.buf_len
  pub ahead : (s.items_read.0 + d) % (2 * s.buf_len) ≡ s.items_written.0

-- the greatest length of an operation: what lies between the counters, and what is free beside it
abbrev pub Greatest : RingBufferScheduler → OperationType → ℕ → Type 0
Greatest s Read n = Between s n
Greatest s Write n = (d : ℕ) × Between s d × (d + n ≡ s.buf_len)

-- what is taken: a length, and counters with as many items between them as are held
pub record Taken (s : RingBufferScheduler) : Type 0 where
  pub sized : Sized s.buf_len
  pub read : s.items_read.0 < 2 * s.buf_len
  pub held : Between s s.fill

-- so what is built of a length and two counters
pub record Built (l : ℕ) (w r : Counter) (s : RingBufferScheduler) : Type 0 where
  pub length : s.buf_len ≡ l
  pub written : s.items_written ≡ w
  pub read : s.items_read ≡ r
  pub taken : Taken s

-- and of the length and the counters of a record, with this one in the place of an operation's
abbrev pub written_with : RingBufferScheduler → OperationType → Counter → Counter
written_with s Read c = s.items_written
written_with s Write c = c

abbrev pub read_with : RingBufferScheduler → OperationType → Counter → Counter
read_with s Read c = c
read_with s Write c = s.items_read

abbrev pub Replaced : RingBufferScheduler → OperationType → Counter → RingBufferScheduler → Type 0
Replaced s t c u = Built s.buf_len (written_with s t c) (read_with s t c) u

-- n items registered: the counter of the type runs on by n round 2L, the other counter and the length stay, and the data is n
-- less after a read, n more after a write
pub record ReadBy (s : RingBufferScheduler) (n : ℕ) (u : RingBufferScheduler) : Type 0 where
  pub sound : IsSound u
  pub length : u.buf_len ≡ s.buf_len
  pub written : u.items_written ≡ s.items_written
  pub read : u.items_read.0 ≡ (s.items_read.0 + n) % (2 * s.buf_len)
  pub less : data_in u + n ≡ data_in s

pub record WrittenBy (s : RingBufferScheduler) (n : ℕ) (u : RingBufferScheduler) : Type 0 where
  pub sound : IsSound u
  pub length : u.buf_len ≡ s.buf_len
  pub read : u.items_read ≡ s.items_read
  pub written : u.items_written.0 ≡ (s.items_written.0 + n) % (2 * s.buf_len)
  pub more : data_in u ≡ data_in s + n

abbrev pub MovedBy : RingBufferScheduler → OperationType → ℕ → RingBufferScheduler → Type 0
MovedBy s Read n u = ReadBy s n u
MovedBy s Write n u = WrittenBy s n u

-- so of an answer: an advanced scheduler comes of a sound one
abbrev pub Moves : RingBufferScheduler → OperationType → ℕ → Result RingBufferScheduler Refusal → Type 0
Moves s t n z = (u : RingBufferScheduler) → z ≡ Ok u → IsSound s × MovedBy s t n u

-- a list registered: operation by operation
pub data MovedByList (s : RingBufferScheduler) : ScheduledOperations → RingBufferScheduler → Type 0 where
  by_none : MovedByList s list.None s
  by_one : {a : ScheduledOperation} {u : RingBufferScheduler} → MovedBy s a.typ a.len u → MovedByList s (list.One a) u
  by_two : {a b : ScheduledOperation} {u : RingBufferScheduler} (v : RingBufferScheduler) → MovedBy s a.typ a.len v → MovedBy v b.typ b.len u → MovedByList s (list.Two a b) u

-- ---- scheduling and registering at once
-- it starts at the offset; no more is moved than is asked and there, and all of one of the two; the others are left over; and just
-- what is moved is registered
pub record MovePromise (s : RingBufferScheduler) (t : OperationType) (m : ℕ) (v : Move) : Type 0 where
  pub starts : v.off ≡ offset_in s t
  pub asked : v.portion.len ≤ m
  pub there : v.portion.len ≤ greatest_in s t
  pub all : (v.portion.len ≡ m) ⊎ (v.portion.len ≡ greatest_in s t)
  pub leaves : LeftOver m (greatest_in s t) v.portion.len v.portion.remainder
  pub registered : MovedBy s t v.portion.len v.scheduler

abbrev pub MovesAtOnce : RingBufferScheduler → OperationType → ℕ → Result Move Refusal → Type 0
MovesAtOnce s t m z = IsSound s → (v : Move) × (z ≡ Ok v) × MovePromise s t m v
