-- The copies keep what specs/Promises.antt and specs/Given.antt say: first of the definitions, then of the calls, which is of
-- whatever an attached contract allows.
use Rattle.operations.specs.Given.{of_result}
use Rattle.std.proofs.Common.{Result, Ok, Err}
use Prim.Native.Nat.{ℕ, min}
use mathlib.Core.Path.{◌≡◌, refl, sym, ap, ◌∙◌}
use mathlib.Core.Bool.{Bool, true, false}
use mathlib.Core.Logic.{◌≢◌}
use mathlib.Core.List.{List, []}
use native.Mathlib.Omega.{arith}
use lib.Dec.{eqb}
use lib.ListN.{length, take, drop}
use lib.Seq.{length-take-le, take_at}
use contract.Lifetimes.{Lfts}
use denote.Triple.Clauses.{Lasts, at_exit}
use borrow.Author.Tests.{eqb-true, eqb-false}
use borrow.Fn.Kinds.{ParamKind, ResultKind, Out, Dens, res_t, ended_of}
use Rattle.operations.specs.Portion.{portion_of}
use Rattle.operations.proofs.PortionLaws.{left_over}
use Rattle.operations.specs.declared.operation.OperationType.TheVariants.{Read, Write}
use Rattle.operations.specs.declared.refusal.Refusal as sched
use Rattle.sched.specs.declared.scheduler.RingBufferScheduler.{RingBufferScheduler}
use Rattle.sched.specs.Scheduler.{IsSound, sound_of, greatest_in, offset_in}
use Rattle.sched.proofs.Laws.{sound_both, sound_is, greatest_most}
use Rattle.modular.proofs.Saying.{Keeps}
use Rattle.operations.specs.Given as operations
use Rattle.sched.specs.Given.{Given, taken}
use Rattle.operations.proofs.Given.{number_some}
use Rattle.sched.proofs.Given.{record_exactly}
use Rattle.sched.proofs.RegisterLaws.{moved}
use Rattle.operations.specs.Refusal.{number_of, values_of}
use Rattle.copies.specs.declared.refusal.Refusal.TheVariants.{Scheduler, RingMemory}
use Rattle.copies.specs.declared.refusal.Refusal.{Refusal}
use Rattle.copies.specs.Ring.{get}
use Rattle.copies.specs.Copies.{ready_from, ready_of, write_of, read_of, write_from, read_from}
use Rattle.copies.specs.Lent.{told_of, record_after, WriteLeaves, ReadLeaves}
use Rattle.copies.specs.Given.{Verdict, verdict, Exactly, GivenCopy, made, by_scheduler, given_9, of_copy, of_scheduler}
use Rattle.copies.specs.Promises.{CellsOf, Writes, Reads, CopyWrites, CopyReads}
use Rattle.copies.specs.Promises as promise
use Rattle.copies.proofs.Ring.{length_get, get_d_get, put_own, get_own, get_put}
use Rattle.copies.proofs.Says.{demand_ring_memory_says, from_move_says, write_says, read_says, write_lent_says, read_lent_says}
use Rattle.copies.proofs.demand_ring_memory.Kinds as ready_kinds
use Rattle.copies.proofs.demand_ring_memory.Reads as ready_reads
use Rattle.copies.proofs.CopiedFromMove.from.Kinds as from_move_kinds
use Rattle.copies.proofs.CopiedFromMove.from.Reads as from_move
use Rattle.copies.proofs.write.Kinds as write_kinds
use Rattle.copies.proofs.write.Reads as write
use Rattle.copies.proofs.read.Kinds as read_kinds
use Rattle.copies.proofs.read.Reads as read
use Rattle.copies.specs.declared.Copied.{Copied}
use Rattle.operations.specs.declared.portion.Portion.{Portion}

-- ---- the tests
-- the two ways that the scheduler's tests go
pub data Checks (s : RingBufferScheduler) : Result RingBufferScheduler sched.Refusal → Type 0 where
  passes : IsSound s → Checks s (Ok s)
  fails : (e : sched.Refusal) → sound_of s ≡ Err e → Checks s (Err e)

pub checks : (s : RingBufferScheduler) → Checks s (sound_of s)
checks s = by (sound_of s) refl
  where
    by : (c : Result RingBufferScheduler sched.Refusal) → sound_of s ≡ c → Checks s c
    by (Ok u) e =
        let b = sound_both u s (sym e) in
        rw b.1 (passes b.0)
    by (Err r) e = fails r e

-- and the three ways that they go with that of the memory
data Tested (s : RingBufferScheduler) (n : ℕ) : Result RingBufferScheduler Refusal → Type 0 where
  right : IsSound s → n ≡ s.buf_len → Tested s n (Ok s)
  wrong : IsSound s → n ≢ s.buf_len → Tested s n (Err RingMemory)
  unsound : (e : sched.Refusal) → sound_of s ≡ Err e → Tested s n (Err (Scheduler e))

tested : (s : RingBufferScheduler) (n : ℕ) → Tested s n (ready_of s n)
unfolding ready_from
tested s n = by (sound_of s) (checks s)
  where
    same : IsSound s → (b : Bool) → eqb n s.buf_len ≡ b → Tested s n (ready_from n (Ok s))
    same h true q = rw q (right h (eqb-true _ _ q))
    same h false q = rw q (wrong h (eqb-false _ _ q))

    by : (c : Result RingBufferScheduler sched.Refusal) → Checks s c → Tested s n (ready_from n c)
    by c (passes h) = same h (eqb n s.buf_len) refl
    by c (fails e q) = unsound e q

-- ---- when a copy is refused
-- what the scheduler's own table says of an answer of its tests
module _ (s : RingBufferScheduler) where
  pub refusal_given : (e : sched.Refusal) → sound_of s ≡ Err e → Given s (number_of e) (values_of e)
  refusal_given e q = rw q at (record_exactly s).only

  pub given_refusal : (e : sched.Refusal) → sound_of s ≡ Err e → (k : ℕ) (vs : List ℕ) → Given s k vs → verdict (number_of e) (values_of e) ≡ verdict k vs
  given_refusal e q k vs g =
      let t = (record_exactly s).always k vs g in
      let n : number_of e ≡ k = rw q at t.0 in
      let v : values_of e ≡ vs = rw q at t.1 in
      rw (n, v)

  pub sound_not_refused : (e : sched.Refusal) → sound_of s ≡ Err e → IsSound s → ⊥
  sound_not_refused e q h = let z : ◌≡◌ {A = ℕ} 0 1 = cc (sound_is s h) in omega arith

  given_sound : IsSound s → (k : ℕ) (vs : List ℕ) → Given s k vs → verdict 0 [] ≡ verdict k vs
  given_sound h k vs g =
      let t = (record_exactly s).always k vs g in
      let n : 0 ≡ k = rw (← sound_is s h) at t.0 in
      let v : [] ≡ vs = rw (← sound_is s h) at t.1 in
      rw (n, v)

  pub sound_given : IsSound s → (k : ℕ) (vs : List ℕ) → Given s k vs → k ≡ 0
  sound_given h k vs g = sym (ap (λ (v : Verdict). v.number) (given_sound h k vs g))

-- what is exact of an answer of the scheduler's tests is so as a verdict of a copy
pub as_checked : {G : ℕ → List ℕ → Type 0} (c : Result RingBufferScheduler sched.Refusal) → operations.Exactly G (of_result c) → Exactly G (of_scheduler c)
as_checked (Ok s) x = record { only = x.only; always = λ k vs g. let t = x.always k vs g in λ i. verdict (t.0 i) (t.1 i) }
as_checked (Err e) x = record { only = x.only; always = λ k vs g. let t = x.always k vs g in λ i. verdict (t.0 i) (t.1 i) }

-- so its tests are refused exactly by its table
pub checked_given : (s : RingBufferScheduler) (c : Result RingBufferScheduler sched.Refusal) → Checks s c → Exactly (Given s) (of_scheduler c)
checked_given s c (passes h) = record { only = taken h; always = given_sound s h }
checked_given s c (fails e q) = record { only = refusal_given s e q; always = given_refusal s e q }

module _ (s : RingBufferScheduler) (n : ℕ) where
  given : (z : Result RingBufferScheduler Refusal) → Tested s n z → Exactly (GivenCopy s n) (of_copy z)
  given z (right h e) = record { only = made h e; always = λ k vs g. so g }
    where
      so : {k : ℕ} {vs : List ℕ} → GivenCopy s n k vs → verdict 0 [] ≡ verdict k vs
      so (made g f) = refl
      so {k} {vs} (by_scheduler p g) = absurd (omega (arith, sound_given s h k vs g))
      so (given_9 g ne) = absurd (ne e)
  given z (wrong h ne) = record { only = given_9 h ne; always = λ k vs g. so g }
    where
      so : {k : ℕ} {vs : List ℕ} → GivenCopy s n k vs → verdict 9 [] ≡ verdict k vs
      so (made g e) = absurd (ne e)
      so {k} {vs} (by_scheduler p g) = absurd (omega (arith, sound_given s h k vs g))
      so (given_9 g f) = refl
  given z (unsound e q) = record { only = by_scheduler (number_some e) (refusal_given s e q); always = λ k vs g. so g }
    where
      so : {k : ℕ} {vs : List ℕ} → GivenCopy s n k vs → verdict (number_of e) (values_of e) ≡ verdict k vs
      so (made g f) = absurd (sound_not_refused s e q g)
      so {k} {vs} (by_scheduler p g) = given_refusal s e q k vs g
      so (given_9 g f) = absurd (sound_not_refused s e q g)

pub ready_given : (s : RingBufferScheduler) (n : ℕ) → Exactly (GivenCopy s n) (of_copy (ready_of s n))
ready_given s n = given s n (ready_of s n) (tested s n)

-- a copy is refused just where the tests are
same_write : (ring src : List ℕ) (z : Result RingBufferScheduler Refusal) → of_copy z ≡ of_copy (write_from ring src z).answer
same_write ring src (Ok u) = refl
same_write ring src (Err e) = refl

same_read : (ring dst : List ℕ) (z : Result RingBufferScheduler Refusal) → of_copy z ≡ of_copy (read_from ring dst z).answer
same_read ring dst (Ok u) = refl
same_read ring dst (Err e) = refl

same_told : (c : Result Copied Refusal) → of_copy c ≡ of_copy (told_of c)
same_told (Ok m) = refl
same_told (Err e) = refl

-- ---- what is got from a ring: as many bytes, each that of its cell
pub got_cells : (l : ℕ) (ring : List ℕ) (at n : ℕ) → (length (get l ring at n) ≡ n) × CellsOf l ring at (get l ring at n)
got_cells l ring at n = (length_get l ring at n, λ j h. get_d_get l ring at n j (rw length_get at h))

-- ---- what a copy moves and leaves alone
module _ (s : RingBufferScheduler) (ring : List ℕ) where
  writes : (src : List ℕ) (z : Result RingBufferScheduler Refusal) → Tested s (length ring) z →
      Writes s ring src (told_of (write_from ring src z).answer) (record_after s (write_from ring src z).answer) (write_from ring src z).memory
  writes src z (right h e) =
      let n : ℕ = min (length src) (greatest_in s Write) in
      let t : length (take n src) ≡ n = length-take-le n src (omega arith) in
      promise.moves (portion_of (length src) (greatest_in s Write)) _ _ refl (left_over (length src) (greatest_in s Write)) (moved s h n Write (omega arith))
      (rw t at (get_put s.buf_len ring (offset_in s Write).0 (take n src) e (omega (arith, greatest_most s h Write))))
      (rw t at (put_own s.buf_len ring (offset_in s Write).0 (take n src)))
  writes src z (wrong h ne) = promise.refuses RingMemory
  writes src z (unsound r q) = promise.refuses (Scheduler r)

  reads : (dst : List ℕ) (z : Result RingBufferScheduler Refusal) → Tested s (length ring) z →
      Reads s ring dst (told_of (read_from ring dst z).answer) (record_after s (read_from ring dst z).answer) (read_from ring dst z).memory
  reads dst z (right h e) =
      let n : ℕ = min (length dst) (greatest_in s Read) in
      promise.moves (portion_of (length dst) (greatest_in s Read)) _ _ refl (left_over (length dst) (greatest_in s Read)) (moved s h n Read (omega arith))
      (take_at (get s.buf_len ring (offset_in s Read).0 n) (drop n dst) n (length_get s.buf_len ring (offset_in s Read).0 n))
      (get_own s.buf_len ring (offset_in s Read).0 n dst (omega arith))
  reads dst z (wrong h ne) = promise.refuses RingMemory
  reads dst z (unsound r q) = promise.refuses (Scheduler r)

-- a refused copy leaves the memory
pub write_left : (s : RingBufferScheduler) (ring src : List ℕ) (e : Refusal) (after : RingBufferScheduler) (memory : List ℕ) → Writes s ring src (Err e) after memory → memory ≡ ring
write_left s ring src e after memory (promise.refuses f) = refl

pub read_left : (s : RingBufferScheduler) (ring dst : List ℕ) (e : Refusal) (after : RingBufferScheduler) (memory : List ℕ) → Reads s ring dst (Err e) after memory → memory ≡ dst
read_left s ring dst e after memory (promise.refuses f) = refl

-- ---- of the definitions
module _ (s : RingBufferScheduler) (ring bytes : List ℕ) where
  pub written_given : Exactly (GivenCopy s (length ring)) (of_copy (write_of s ring bytes).answer)
  written_given = rw (← same_write ring bytes (ready_of s (length ring))) (given s (length ring) _ (tested s (length ring)))

  pub got_given : Exactly (GivenCopy s (length ring)) (of_copy (read_of s ring bytes).answer)
  got_given = rw (← same_read ring bytes (ready_of s (length ring))) (given s (length ring) _ (tested s (length ring)))

  pub written_promised : Writes s ring bytes (told_of (write_of s ring bytes).answer) (record_after s (write_of s ring bytes).answer) (write_of s ring bytes).memory
  written_promised = writes s ring bytes _ (tested s (length ring))

  pub got_promised : Reads s ring bytes (told_of (read_of s ring bytes).answer) (record_after s (read_of s ring bytes).answer) (read_of s ring bytes).memory
  got_promised = reads s ring bytes _ (tested s (length ring))

-- ---- of the calls
-- a promise of a call and of what it leaves: every outcome that its contract allows keeps it
abbrev pub KeepsLeft : (n : ℕ) (ps : List (ParamKind n)) (r : ResultKind n) → Out n ps r → ((κs : Lfts n) (a : Dens κs ps) → (res_t r κs).Denot → Lasts (ended_of n ps r) κs a → Type 0) → Type 0
KeepsLeft n ps r L P =
    (κs : Lfts n) (a : Dens κs ps) (z : (res_t r κs).Denot) (ws : Lasts (ended_of n ps r) κs a) → L κs a z (at_exit (ended_of n ps r) κs a ws) → P κs a z ws

pub demand_ring_memory_given : Keeps 0 ready_kinds.ps ready_kinds.r ready_reads.Learnt (λ κs a z. Exactly (GivenCopy a.0 a.1.0) (of_copy z))
demand_ring_memory_given κs a z (ws, p) = rw (demand_ring_memory_says κs a z ws p) (given a.0 a.1.0 _ (tested a.0 a.1.0))

-- what passes the tests is the record itself
same_record : (s u : RingBufferScheduler) (n : ℕ) (z : Result RingBufferScheduler Refusal) → Tested s n z → z ≡ Ok u → u ≡ s
same_record s u n _ (right h l) e = cc
same_record s u n _ (wrong h l) e = cc
same_record s u n _ (unsound r l) e = cc

pub demand_ring_memory_same : Keeps 0 ready_kinds.ps ready_kinds.r ready_reads.Learnt (λ κs a z. (u : RingBufferScheduler) → z ≡ Ok u → u ≡ a.0)
demand_ring_memory_same κs a z (ws, p) u e = same_record a.0 u a.1.0 _ (tested a.0 a.1.0) (sym (demand_ring_memory_says κs a z ws p) ∙ e)

pub write_given : Keeps 2 write_kinds.ps write_kinds.r write.Learnt (λ κs a z. Exactly (GivenCopy a.0 (length a.1.0.now)) (of_copy z))
write_given κs a z (ws, p) = rw (write_says κs a z ws p).0 (written_given a.0 a.1.0.now a.1.1.0.now)

pub read_given : Keeps 2 read_kinds.ps read_kinds.r read.Learnt (λ κs a z. Exactly (GivenCopy a.0 (length a.1.0.now)) (of_copy z))
read_given κs a z (ws, p) = rw (read_says κs a z ws p).0 (got_given a.0 a.1.0.now a.1.1.0.now)

by_write : (s : RingBufferScheduler) (ring src : List ℕ) (c : Result Copied Refusal) (memory : List ℕ) → Writes s ring src (told_of c) (record_after s c) memory → CopyWrites s ring src c memory
by_write s ring src (Ok m) memory w = w
by_write s ring src (Err e) memory w = w

by_read : (s : RingBufferScheduler) (ring dst : List ℕ) (c : Result Copied Refusal) (memory : List ℕ) → Reads s ring dst (told_of c) (record_after s c) memory → CopyReads s ring dst c memory
by_read s ring dst (Ok m) memory w = w
by_read s ring dst (Err e) memory w = w

pub write_promised : KeepsLeft 2 write_kinds.ps write_kinds.r write.Learnt
    (λ κs a z ws. CopyWrites a.0 a.1.0.now a.1.1.0.now z ws.1.0)
write_promised κs a z ws p =
    let q = write_says κs a z ws p in
    rw (q.0, q.1) (by_write a.0 a.1.0.now a.1.1.0.now (write_of a.0 a.1.0.now a.1.1.0.now).answer (write_of a.0 a.1.0.now a.1.1.0.now).memory (written_promised a.0 a.1.0.now a.1.1.0.now))

pub read_promised : KeepsLeft 2 read_kinds.ps read_kinds.r read.Learnt
    (λ κs a z ws. CopyReads a.0 a.1.0.now a.1.1.0.now z ws.1.1.0)
read_promised κs a z ws p =
    let q = read_says κs a z ws p in
    rw (q.0, q.1) (by_read a.0 a.1.0.now a.1.1.0.now (read_of a.0 a.1.0.now a.1.1.0.now).answer (read_of a.0 a.1.0.now a.1.1.0.now).memory (got_promised a.0 a.1.0.now a.1.1.0.now))

-- what a move comes to has the move's scheduler, and moves and leaves over as many
pub from_move_promised : Keeps 0 from_move_kinds.ps from_move_kinds.r from_move.Learnt (λ κs a z. (z.scheduler ≡ a.0.scheduler) × (z.portion ≡ a.0.portion))
from_move_promised κs a z q = rw (from_move_says κs a z q.0 q.1) (refl, refl)

-- ---- and of the calls over a lent scheduler
module _ (s : RingBufferScheduler) (ring bytes : List ℕ) (r : Result Portion Refusal) (after : RingBufferScheduler) (memory : List ℕ) where
  pub write_lent_given : WriteLeaves s ring bytes r after memory → Exactly (GivenCopy s (length ring)) (of_copy r)
  write_lent_given p = rw ((write_lent_says s ring bytes r after memory p).0, ← same_told (write_of s ring bytes).answer) (written_given s ring bytes)

  pub read_lent_given : ReadLeaves s ring bytes r after memory → Exactly (GivenCopy s (length ring)) (of_copy r)
  read_lent_given p = rw ((read_lent_says s ring bytes r after memory p).0, ← same_told (read_of s ring bytes).answer) (got_given s ring bytes)

  pub write_lent_promised : WriteLeaves s ring bytes r after memory → Writes s ring bytes r after memory
  write_lent_promised p =
      let q = write_lent_says s ring bytes r after memory p in
      rw (q.0, q.1, q.2) (written_promised s ring bytes)

  pub read_lent_promised : ReadLeaves s ring bytes r after memory → Reads s ring bytes r after memory
  read_lent_promised p =
      let q = read_lent_says s ring bytes r after memory p in
      rw (q.0, q.1, q.2) (got_promised s ring bytes)
