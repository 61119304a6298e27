-- The calls of the ends keep what specs/Promises.antt says: whatever an attached contract allows.
use Rattle.std.proofs.Common.{Result, Ok, Err}
use Prim.Native.Nat.{ℕ, ◌≤◌, ◌<◌}
use mathlib.Core.Path.{◌≡◌, refl, sym, ap, subst, ◌∙◌}
use mathlib.Core.Bool.{Bool, true, false, cond}
use mathlib.Core.Logic.{◌⊎◌, inl, inr}
use mathlib.Core.List.{List, []}
use native.Mathlib.Omega.{arith}
use lib.Dec.{ltb}
use lib.ListN.{length}
use borrow.Author.Tests.{ltb-true, ltb-false}
use Rattle.operations.specs.declared.operation.OperationType.{OperationType}
use Rattle.operations.specs.declared.operation.OperationType.TheVariants.{Read, Write}
use Rattle.sched.specs.declared.scheduler.RingBufferScheduler.{RingBufferScheduler}
use Rattle.operations.specs.declared.counter.Counter.{Counter}
use Rattle.sched.specs.Scheduler.{scheduler_of, IsSound, sound_of, counter_in, data_in, space_in, greatest_in, tested, with_counter_of}
use Rattle.modular.proofs.Saying.{Keeps}
use Rattle.sched.specs.Given.{GivenCounters, counted, given_1, given_2, given_3, given_4, given_5, GivenWith, new}
use Rattle.sched.specs.Promise.{Built, Replaced}
use Rattle.operations.proofs.Given.{number_some}
use Rattle.sched.proofs.Given.{counters_exactly, with_exactly}
use Rattle.sched.proofs.PromisedFill.{built, built_is, built_counted, replaced}
use Rattle.copies.specs.declared.refusal.Refusal.TheVariants.{Scheduler}
use Rattle.copies.specs.Copies.{write_of, read_of}
use Rattle.copies.specs.Lent.{told_of, record_after}
use Rattle.copies.specs.Given.{Verdict, verdict, Exactly, GivenCopy, of_copy, of_scheduler}
use Rattle.copies.specs.Promises.{Writes, Reads}
use Rattle.copies.proofs.Promised.{KeepsLeft, Checks, passes, fails, checks, as_checked, checked_given, written_given, got_given, written_promised, got_promised, write_left, read_left}
use Rattle.ends.specs.declared.refusal.Refusal.TheVariants.{Copy, RanBack}
use Rattle.ends.specs.declared.writing_end.WrittenCounter.{WrittenCounter}
use Rattle.ends.specs.declared.writing_end.WritingEnd.{WritingEnd}
use Rattle.ends.specs.declared.reading_end.ReadCounter.{ReadCounter}
use Rattle.ends.specs.declared.reading_end.ReadingEnd.{ReadingEnd}
use Rattle.ends.specs.Ends.{writing_end, reading_end, writing_end_from, reading_end_from, wrote_from, got_from, written_sent_from, read_sent_from, take_read_from, take_written_from}
use Rattle.ends.specs.Promises.{GivenTake, takes, by_record, given_10, refused_by, EndWrites, EndReads, BuiltW, BuiltR, MadeW, MadeR, SentW, SentR, TookW, TookR, of_end}
use Rattle.ends.proofs.Says.{WritingEnd-new-says, WritingEnd-from-counters-says, WritingEnd-from-scheduler-says, ReadingEnd-new-says, ReadingEnd-from-counters-says, ReadingEnd-from-scheduler-says, WritingEnd-write-says, ReadingEnd-read-says, WritingEnd-send-says, ReadingEnd-send-says, WritingEnd-take-says, ReadingEnd-take-says}
use Rattle.ends.proofs.writing_end.WritingEnd.new.Kinds as new_w_kinds
use Rattle.ends.proofs.writing_end.WritingEnd.new.Reads as new_w
use Rattle.ends.proofs.writing_end.WritingEnd.from_counters.Kinds as counters_w_kinds
use Rattle.ends.proofs.writing_end.WritingEnd.from_counters.Reads as counters_w
use Rattle.ends.proofs.writing_end.WritingEnd.from_scheduler.Kinds as scheduler_w_kinds
use Rattle.ends.proofs.writing_end.WritingEnd.from_scheduler.Reads as scheduler_w
use Rattle.ends.proofs.reading_end.ReadingEnd.new.Kinds as new_r_kinds
use Rattle.ends.proofs.reading_end.ReadingEnd.new.Reads as new_r
use Rattle.ends.proofs.reading_end.ReadingEnd.from_counters.Kinds as counters_r_kinds
use Rattle.ends.proofs.reading_end.ReadingEnd.from_counters.Reads as counters_r
use Rattle.ends.proofs.reading_end.ReadingEnd.from_scheduler.Kinds as scheduler_r_kinds
use Rattle.ends.proofs.reading_end.ReadingEnd.from_scheduler.Reads as scheduler_r
use Rattle.ends.proofs.writing_end.WritingEnd.write.Kinds as write_kinds
use Rattle.ends.proofs.writing_end.WritingEnd.write.Reads as write
use Rattle.ends.proofs.reading_end.ReadingEnd.read.Kinds as read_kinds
use Rattle.ends.proofs.reading_end.ReadingEnd.read.Reads as read
use Rattle.ends.proofs.writing_end.WritingEnd.send.Kinds as send_w_kinds
use Rattle.ends.proofs.writing_end.WritingEnd.send.Reads as send_w
use Rattle.ends.proofs.reading_end.ReadingEnd.send.Kinds as send_r_kinds
use Rattle.ends.proofs.reading_end.ReadingEnd.send.Reads as send_r
use Rattle.ends.proofs.writing_end.WritingEnd.take.Kinds as take_w_kinds
use Rattle.ends.proofs.writing_end.WritingEnd.take.Reads as take_w
use Rattle.ends.proofs.reading_end.ReadingEnd.take.Kinds as take_r_kinds
use Rattle.ends.proofs.reading_end.ReadingEnd.take.Reads as take_r
use Rattle.copies.specs.declared.Copied.{Copied}
use Rattle.copies.specs.declared.refusal.Refusal as copies
use Rattle.operations.specs.declared.refusal.Refusal.{Refusal}

-- ---- what an end asks, of the tests' answer
abbrev counter_by : OperationType → Result RingBufferScheduler Refusal → Result Counter Refusal
counter_by t c = tested c (λ s. Ok (counter_in s t)) Err

-- ---- of the definitions: each answer's verdict is that of what it is made of
writing_same : (c : Result RingBufferScheduler Refusal) → of_scheduler c ≡ of_end (writing_end_from c)
writing_same (Ok s) = refl
writing_same (Err e) = refl

reading_same : (c : Result RingBufferScheduler Refusal) → of_scheduler c ≡ of_end (reading_end_from c)
reading_same (Ok s) = refl
reading_same (Err e) = refl

written_same : (c : Result RingBufferScheduler Refusal) → of_scheduler c ≡ of_end (written_sent_from (counter_by Write c))
written_same (Ok s) = refl
written_same (Err e) = refl

read_same : (c : Result RingBufferScheduler Refusal) → of_scheduler c ≡ of_end (read_sent_from (counter_by Read c))
read_same (Ok s) = refl
read_same (Err e) = refl

wrote_same : (c : Result Copied copies.Refusal) → of_copy c ≡ of_end (wrote_from c)
wrote_same (Ok m) = refl
wrote_same (Err e) = refl

got_same : (c : Result Copied copies.Refusal) → of_copy c ≡ of_end (got_from c)
got_same (Ok m) = refl
got_same (Err e) = refl

wrote_promised : (e : WritingEnd) (ring src : List ℕ) (c : Result Copied copies.Refusal) (memory : List ℕ) → Writes e.scheduler ring src (told_of c) (record_after e.scheduler c) memory → EndWrites e ring src (wrote_from c) memory
wrote_promised e ring src (Ok m) memory w = w
wrote_promised e ring src (Err r) memory w = write_left e.scheduler ring src r e.scheduler memory w

got_end_promised : (e : ReadingEnd) (ring dst : List ℕ) (c : Result Copied copies.Refusal) (memory : List ℕ) → Reads e.scheduler ring dst (told_of c) (record_after e.scheduler c) memory → EndReads e ring dst (got_from c) memory
got_end_promised e ring dst (Ok m) memory w = w
got_end_promised e ring dst (Err r) memory w = read_left e.scheduler ring dst r e.scheduler memory w

-- of the scheduler's tests: refused by their table, or made of the record that passes
never : {A : Type 0} → ◌≡◌ {A = ℕ} 0 1 → A
never z = absurd (omega arith)

made_w : (s : RingBufferScheduler) (c : Result RingBufferScheduler Refusal) → Checks s c → MadeW s (writing_end_from c)
made_w s c k = (rw (← writing_same c) (checked_given s c k), holds c k)
  where
    holds : (c : Result RingBufferScheduler Refusal) → Checks s c → (e : WritingEnd) → writing_end_from c ≡ Ok e → e.scheduler ≡ s
    holds c (passes h) e q = let p : e ≡ writing_end s = cc in ap (λ (x : WritingEnd). x.scheduler) p
    holds c (fails r p) e q = cc

made_r : (s : RingBufferScheduler) (c : Result RingBufferScheduler Refusal) → Checks s c → MadeR s (reading_end_from c)
made_r s c k = (rw (← reading_same c) (checked_given s c k), holds c k)
  where
    holds : (c : Result RingBufferScheduler Refusal) → Checks s c → (e : ReadingEnd) → reading_end_from c ≡ Ok e → e.scheduler ≡ s
    holds c (passes h) e q = let p : e ≡ reading_end s = cc in ap (λ (x : ReadingEnd). x.scheduler) p
    holds c (fails r p) e q = cc

built_w : (l : ℕ) (w r : Counter) (c : Result RingBufferScheduler Refusal) → sound_of (scheduler_of l w r) ≡ c → BuiltW l w r (writing_end_from c)
built_w l w r c q = (rw (← writing_same c, ← q) (as_checked (sound_of (scheduler_of l w r)) (counters_exactly l w r)), holds c q)
  where
    holds : (c : Result RingBufferScheduler Refusal) → sound_of (scheduler_of l w r) ≡ c → (e : WritingEnd) → writing_end_from c ≡ Ok e → Built l w r e.scheduler
    holds (Ok u) q e p = let f : e ≡ writing_end u = cc in subst (λ (x : WritingEnd). Built l w r x.scheduler) (sym f) (built l w r u q)
    holds (Err x) q e p = cc

built_r : (l : ℕ) (w r : Counter) (c : Result RingBufferScheduler Refusal) → sound_of (scheduler_of l w r) ≡ c → BuiltR l w r (reading_end_from c)
built_r l w r c q = (rw (← reading_same c, ← q) (as_checked (sound_of (scheduler_of l w r)) (counters_exactly l w r)), holds c q)
  where
    holds : (c : Result RingBufferScheduler Refusal) → sound_of (scheduler_of l w r) ≡ c → (e : ReadingEnd) → reading_end_from c ≡ Ok e → Built l w r e.scheduler
    holds (Ok u) q e p = let f : e ≡ reading_end u = cc in subst (λ (x : ReadingEnd). Built l w r x.scheduler) (sym f) (built l w r u q)
    holds (Err x) q e p = cc

sent_w : (e : WritingEnd) (c : Result RingBufferScheduler Refusal) → Checks e.scheduler c → SentW e (written_sent_from (counter_by Write c))
sent_w e c k = (rw (← written_same c) (checked_given e.scheduler c k), own_counter c k)
  where
    own_counter : (c : Result RingBufferScheduler Refusal) → Checks e.scheduler c → (n : WrittenCounter) → written_sent_from (counter_by Write c) ≡ Ok n → n.0 ≡ e.scheduler.items_written
    own_counter c (passes h) n q = let p : n ≡ record { 0 = e.scheduler.items_written } = cc in ap (λ (x : WrittenCounter). x.0) p
    own_counter c (fails r p) n q = cc

sent_r : (e : ReadingEnd) (c : Result RingBufferScheduler Refusal) → Checks e.scheduler c → SentR e (read_sent_from (counter_by Read c))
sent_r e c k = (rw (← read_same c) (checked_given e.scheduler c k), own_counter c k)
  where
    own_counter : (c : Result RingBufferScheduler Refusal) → Checks e.scheduler c → (n : ReadCounter) → read_sent_from (counter_by Read c) ≡ Ok n → n.0 ≡ e.scheduler.items_read
    own_counter c (passes h) n q = let p : n ≡ record { 0 = e.scheduler.items_read } = cc in ap (λ (x : ReadCounter). x.0) p
    own_counter c (fails r p) n q = cc

-- ---- taking
module _ (s : RingBufferScheduler) (t other : OperationType) (c : Counter) where
  abbrev of_taking : Result RingBufferScheduler Refusal → Verdict
  of_taking (Ok u) = cond (ltb (greatest_in u t) (greatest_in s t)) (verdict 10 []) (verdict 0 [])
  of_taking (Err e) = refused_by (Copy (Scheduler e))

  with_given : Exactly (GivenWith s other c) (of_scheduler (with_counter_of s other c))
  with_given = as_checked (with_counter_of s other c) (with_exactly s c other)

  number_is : (x : Result RingBufferScheduler Refusal) → with_counter_of s other c ≡ x → (k : ℕ) (vs : List ℕ) → GivenWith s other c k vs → (of_scheduler x).number ≡ k
  number_is x p k vs g = ap (λ (y : Result RingBufferScheduler Refusal). (of_scheduler y).number) (sym p) ∙ ap (λ (v : Verdict). v.number) (with_given.always k vs g)

  taking : (x : Result RingBufferScheduler Refusal) → with_counter_of s other c ≡ x → Exactly (GivenTake s t other c) (of_taking x)
  taking (Ok u) p = by (ltb (greatest_in u t) (greatest_in s t)) refl
    where
      r : IsSound s × Replaced s other c u
      r = replaced s other c u p

      same : (v : RingBufferScheduler) → Replaced s other c v → greatest_in v t ≡ greatest_in u t
      same v q = ap (λ (x : RingBufferScheduler). greatest_in x t) (built_is _ _ _ v q ∙ sym (built_is _ _ _ u r.1))

      none : {A : Type 0} {k : ℕ} {vs : List ℕ} → 0 < k → GivenWith s other c k vs → A
      none {k = k} {vs} l g = absurd (omega (arith, number_is (Ok u) p k vs g))

      back : greatest_in u t < greatest_in s t → {k : ℕ} {vs : List ℕ} → GivenTake s t other c k vs → verdict 10 [] ≡ verdict k vs
      back lt (takes i v q le) = absurd (omega (arith, same v q))
      back lt (by_record l g) = none l g
      back lt (given_10 i v q l) = refl

      on : greatest_in s t ≤ greatest_in u t → {k : ℕ} {vs : List ℕ} → GivenTake s t other c k vs → verdict 0 [] ≡ verdict k vs
      on le (takes i v q l) = refl
      on le (by_record l g) = none l g
      on le (given_10 i v q lt) = absurd (omega (arith, same v q))

      by : (b : Bool) → ltb (greatest_in u t) (greatest_in s t) ≡ b → Exactly (GivenTake s t other c) (cond (ltb (greatest_in u t) (greatest_in s t)) (verdict 10 []) (verdict 0 []))
      by true q = rw q (record { only = given_10 r.0 u r.1 (ltb-true _ _ q); always = λ k vs f. back (ltb-true _ _ q) f })
      by false q = rw q (record { only = takes r.0 u r.1 (ltb-false _ _ q); always = λ k vs f. on (ltb-false _ _ q) f })
  taking (Err e) p = record { only = by_record (number_some e) (rw p at with_given.only); always = λ k vs f. so f }
    where
      not : {A : Type 0} → IsSound s → (v : RingBufferScheduler) → Replaced s other c v → A
      not h v q = absurd (omega (arith, number_some e, number_is (Err e) p 0 [] (new h (counted (built_counted _ _ _ v q)))))

      so : {k : ℕ} {vs : List ℕ} → GivenTake s t other c k vs → refused_by (Copy (Scheduler e)) ≡ verdict k vs
      so (takes i v q le) = not i v q
      so {k} {vs} (by_record l g) = rw p at (with_given.always k vs g)
      so (given_10 i v q lt) = not i v q

took_w : (e : WritingEnd) (c : ReadCounter) (x : Result RingBufferScheduler Refusal) → with_counter_of e.scheduler Read c.0 ≡ x → TookW e c (take_read_from e.scheduler x)
unfolding take_read_from
took_w e c x p = (rw (told x) (taking e.scheduler Write Read c.0 x p), holds x p)
  where
    told : (x : Result RingBufferScheduler Refusal) → of_end (take_read_from e.scheduler x) ≡ of_taking e.scheduler Write Read c.0 x
    told (Err r) = refl
    told (Ok u) = by (ltb (space_in u) (space_in e.scheduler))
      where
        by : (b : Bool) → of_end (cond b (Err RanBack) (Ok (writing_end u))) ≡ cond b (verdict 10 []) (verdict 0 [])
        by true = refl
        by false = refl

    holds : (x : Result RingBufferScheduler Refusal) → with_counter_of e.scheduler Read c.0 ≡ x → (f : WritingEnd) → take_read_from e.scheduler x ≡ Ok f → Replaced e.scheduler Read c.0 f.scheduler
    holds (Err r) q f m = cc
    holds (Ok u) q f m = by (ltb (space_in u) (space_in e.scheduler)) m
      where
        by : (b : Bool) → cond b (Err RanBack) (Ok (writing_end u)) ≡ Ok f → Replaced e.scheduler Read c.0 f.scheduler
        by true m = cc
        by false m = let g : f ≡ writing_end u = cc in subst (λ (y : WritingEnd). Replaced e.scheduler Read c.0 y.scheduler) (sym g) (replaced e.scheduler Read c.0 u q).1

took_r : (e : ReadingEnd) (c : WrittenCounter) (x : Result RingBufferScheduler Refusal) → with_counter_of e.scheduler Write c.0 ≡ x → TookR e c (take_written_from e.scheduler x)
unfolding take_written_from
took_r e c x p = (rw (told x) (taking e.scheduler Read Write c.0 x p), holds x p)
  where
    told : (x : Result RingBufferScheduler Refusal) → of_end (take_written_from e.scheduler x) ≡ of_taking e.scheduler Read Write c.0 x
    told (Err r) = refl
    told (Ok u) = by (ltb (data_in u) (data_in e.scheduler))
      where
        by : (b : Bool) → of_end (cond b (Err RanBack) (Ok (reading_end u))) ≡ cond b (verdict 10 []) (verdict 0 [])
        by true = refl
        by false = refl

    holds : (x : Result RingBufferScheduler Refusal) → with_counter_of e.scheduler Write c.0 ≡ x → (f : ReadingEnd) → take_written_from e.scheduler x ≡ Ok f → Replaced e.scheduler Write c.0 f.scheduler
    holds (Err r) q f m = cc
    holds (Ok u) q f m = by (ltb (data_in u) (data_in e.scheduler)) m
      where
        by : (b : Bool) → cond b (Err RanBack) (Ok (reading_end u)) ≡ Ok f → Replaced e.scheduler Write c.0 f.scheduler
        by true m = cc
        by false m = let g : f ≡ reading_end u = cc in subst (λ (y : ReadingEnd). Replaced e.scheduler Write c.0 y.scheduler) (sym g) (replaced e.scheduler Write c.0 u q).1

-- the own record passes, so of the new one's numbers only those of the new counter are left
new_read_only : (s : RingBufferScheduler) (c : Counter) {k : ℕ} {vs : List ℕ} → IsSound s → 0 < k → GivenCounters s.buf_len s.items_written c k vs → (k ≡ 4) ⊎ (k ≡ 5)
new_read_only s c h p (counted g) = absurd (omega arith)
new_read_only s c h p (given_1 z) = absurd (omega (arith, h.sized))
new_read_only s c h p (given_2 g) = absurd (omega (arith, h.sized))
new_read_only s c h p (given_3 l g) = absurd (omega (arith, h.written))
new_read_only s c h p (given_4 l f g) = inl refl
new_read_only s c h p (given_5 l f g d) = inr refl

new_written_only : (s : RingBufferScheduler) (c : Counter) {k : ℕ} {vs : List ℕ} → IsSound s → 0 < k → GivenCounters s.buf_len c s.items_read k vs → (k ≡ 3) ⊎ (k ≡ 5)
new_written_only s c h p (counted g) = absurd (omega arith)
new_written_only s c h p (given_1 z) = absurd (omega (arith, h.sized))
new_written_only s c h p (given_2 g) = absurd (omega (arith, h.sized))
new_written_only s c h p (given_3 l g) = inl refl
new_written_only s c h p (given_4 l f g) = absurd (omega (arith, h.read))
new_written_only s c h p (given_5 l f g d) = inr refl

-- ---- of the calls
pub WritingEnd-new-promised : Keeps 0 new_w_kinds.ps new_w_kinds.r new_w.Learnt (λ κs a z. BuiltW a.0 (record { 0 = 0 }) (record { 0 = 0 }) z)
WritingEnd-new-promised κs a z (ws, p) = rw (WritingEnd-new-says κs a z ws p) (built_w a.0 (record { 0 = 0 }) (record { 0 = 0 }) _ refl)

pub WritingEnd-from-counters-promised : Keeps 0 counters_w_kinds.ps counters_w_kinds.r counters_w.Learnt (λ κs a z. BuiltW a.0 a.1.0 a.1.1.0 z)
WritingEnd-from-counters-promised κs a z (ws, p) = rw (WritingEnd-from-counters-says κs a z ws p) (built_w a.0 a.1.0 a.1.1.0 _ refl)

pub WritingEnd-from-scheduler-promised : Keeps 0 scheduler_w_kinds.ps scheduler_w_kinds.r scheduler_w.Learnt (λ κs a z. MadeW a.0 z)
WritingEnd-from-scheduler-promised κs a z (ws, p) = rw (WritingEnd-from-scheduler-says κs a z ws p) (made_w a.0 _ (checks a.0))

pub ReadingEnd-new-promised : Keeps 0 new_r_kinds.ps new_r_kinds.r new_r.Learnt (λ κs a z. BuiltR a.0 (record { 0 = 0 }) (record { 0 = 0 }) z)
ReadingEnd-new-promised κs a z (ws, p) = rw (ReadingEnd-new-says κs a z ws p) (built_r a.0 (record { 0 = 0 }) (record { 0 = 0 }) _ refl)

pub ReadingEnd-from-counters-promised : Keeps 0 counters_r_kinds.ps counters_r_kinds.r counters_r.Learnt (λ κs a z. BuiltR a.0 a.1.0 a.1.1.0 z)
ReadingEnd-from-counters-promised κs a z (ws, p) = rw (ReadingEnd-from-counters-says κs a z ws p) (built_r a.0 a.1.0 a.1.1.0 _ refl)

pub ReadingEnd-from-scheduler-promised : Keeps 0 scheduler_r_kinds.ps scheduler_r_kinds.r scheduler_r.Learnt (λ κs a z. MadeR a.0 z)
ReadingEnd-from-scheduler-promised κs a z (ws, p) = rw (ReadingEnd-from-scheduler-says κs a z ws p) (made_r a.0 _ (checks a.0))

pub WritingEnd-write-promised : KeepsLeft 2 write_kinds.ps write_kinds.r write.Learnt
    (λ κs a z ws. Exactly (GivenCopy a.0.scheduler (length a.1.0.now)) (of_end z) × EndWrites a.0 a.1.0.now a.1.1.0.now z ws.1.0)
WritingEnd-write-promised κs a z ws p =
    let q = WritingEnd-write-says κs a z ws p in
    let c : Result Copied copies.Refusal = (write_of a.0.scheduler a.1.0.now a.1.1.0.now).answer in
    rw (q.0, q.1) (
      rw (← wrote_same c) (written_given a.0.scheduler a.1.0.now a.1.1.0.now),
      wrote_promised a.0 a.1.0.now a.1.1.0.now c _ (written_promised a.0.scheduler a.1.0.now a.1.1.0.now),
    )

pub ReadingEnd-read-promised : KeepsLeft 2 read_kinds.ps read_kinds.r read.Learnt
    (λ κs a z ws. Exactly (GivenCopy a.0.scheduler (length a.1.0.now)) (of_end z) × EndReads a.0 a.1.0.now a.1.1.0.now z ws.1.1.0)
ReadingEnd-read-promised κs a z ws p =
    let q = ReadingEnd-read-says κs a z ws p in
    let c : Result Copied copies.Refusal = (read_of a.0.scheduler a.1.0.now a.1.1.0.now).answer in
    rw (q.0, q.1) (
      rw (← got_same c) (got_given a.0.scheduler a.1.0.now a.1.1.0.now),
      got_end_promised a.0 a.1.0.now a.1.1.0.now c _ (got_promised a.0.scheduler a.1.0.now a.1.1.0.now),
    )

pub WritingEnd-send-promised : Keeps 0 send_w_kinds.ps send_w_kinds.r send_w.Learnt (λ κs a z. SentW a.0 z)
WritingEnd-send-promised κs a z (ws, p) = rw (WritingEnd-send-says κs a z ws p) (sent_w a.0 _ (checks a.0.scheduler))

pub ReadingEnd-send-promised : Keeps 0 send_r_kinds.ps send_r_kinds.r send_r.Learnt (λ κs a z. SentR a.0 z)
ReadingEnd-send-promised κs a z (ws, p) = rw (ReadingEnd-send-says κs a z ws p) (sent_r a.0 _ (checks a.0.scheduler))

pub WritingEnd-take-promised : Keeps 0 take_w_kinds.ps take_w_kinds.r take_w.Learnt (λ κs a z. TookW a.0 a.1.0 z)
WritingEnd-take-promised κs a z (ws, p) = rw (WritingEnd-take-says κs a z ws p) (took_w a.0 a.1.0 _ refl)

pub ReadingEnd-take-promised : Keeps 0 take_r_kinds.ps take_r_kinds.r take_r.Learnt (λ κs a z. TookR a.0 a.1.0 z)
ReadingEnd-take-promised κs a z (ws, p) = rw (ReadingEnd-take-says κs a z ws p) (took_r a.0 a.1.0 _ refl)
