-- Taking a counter: held fills compare as the space of a writing end and the data of a reading end do.
use Rattle.std.proofs.Common.{Ok, Err}
use Prim.Native.Nat.{◌<◌, ◌≤◌}
use mathlib.Core.Path.{◌≡◌}
use borrow.Author.Tests.{lt-ltb, le-ltb}
use native.Mathlib.Omega.{arith}
use Rattle.operations.specs.declared.counter.Counter.{Counter}
use Rattle.operations.specs.declared.operation.OperationType.{OperationType}
use Rattle.operations.specs.declared.operation.OperationType.TheVariants.{Read, Write}
use Rattle.operations.specs.declared.refusal.Refusal as sched
use Rattle.sched.specs.declared.scheduler.RingBufferScheduler.{RingBufferScheduler}
use Rattle.sched.specs.Scheduler.{IsSound, data_in, space_in, with_counter_of}
use Rattle.sched.proofs.Counting.{taken_sound}
use Rattle.sched.proofs.PromisedFill.{replaced}
use Rattle.copies.specs.declared.refusal.Refusal.TheVariants.{Scheduler}
use Rattle.ends.specs.declared.refusal.Refusal.TheVariants.{Copy, RanBack}
use Rattle.ends.specs.Ends.{writing_end, reading_end, take_read_from, take_written_from}

-- both records hold their data, and have one length
pub record Both (s u : RingBufferScheduler) : Type 0 where
  pub before : s.fill ≡ data_in s
  pub after : u.fill ≡ data_in u
  pub length : u.buf_len ≡ s.buf_len
  pub most : data_in u ≤ u.buf_len
  pub most_before : data_in s ≤ s.buf_len

module _ (s u : RingBufferScheduler) (c : Counter) where
  both : (t : OperationType) → with_counter_of s t c ≡ Ok u → Both s u
  both t p =
      let r = replaced s t c u p in
      let k : IsSound u = taken_sound u r.1.taken in
      record { before = r.0.held; after = k.held; length = r.1.length; most = k.within; most_before = r.0.within }

  pub space_shrinks : with_counter_of s Read c ≡ Ok u → s.fill < u.fill → Err RanBack ≡ take_read_from s (with_counter_of s Read c)
  unfolding take_read_from
  space_shrinks p l = let b : Both s u = both Read p in rw (p, lt-ltb (space_in u) (space_in s) (omega (arith, b.before, b.after, b.length, b.most)))

  pub space_stays : with_counter_of s Read c ≡ Ok u → u.fill ≤ s.fill → Ok (writing_end u) ≡ take_read_from s (with_counter_of s Read c)
  unfolding take_read_from
  space_stays p l = let b : Both s u = both Read p in rw (p, le-ltb (space_in u) (space_in s) (omega (arith, b.before, b.after, b.length, b.most)))

  pub data_shrinks : with_counter_of s Write c ≡ Ok u → u.fill < s.fill → Err RanBack ≡ take_written_from s (with_counter_of s Write c)
  unfolding take_written_from
  data_shrinks p l = let b : Both s u = both Write p in rw (p, lt-ltb (data_in u) (data_in s) (omega (arith, b.before, b.after)))

  pub data_stays : with_counter_of s Write c ≡ Ok u → s.fill ≤ u.fill → Ok (reading_end u) ≡ take_written_from s (with_counter_of s Write c)
  unfolding take_written_from
  data_stays p l = let b : Both s u = both Write p in rw (p, le-ltb (data_in u) (data_in s) (omega (arith, b.before, b.after)))

module _ (s : RingBufferScheduler) (e : sched.Refusal) (c : Counter) where
  pub space_refused : with_counter_of s Read c ≡ Err e → Err (Copy (Scheduler e)) ≡ take_read_from s (with_counter_of s Read c)
  unfolding take_read_from
  space_refused p = rw p

  pub data_refused : with_counter_of s Write c ≡ Err e → Err (Copy (Scheduler e)) ≡ take_written_from s (with_counter_of s Write c)
  unfolding take_written_from
  data_refused p = rw p

-- what the two `take` are proved by
pub ruleset space_laws = (space_shrinks, space_stays, space_refused)

pub ruleset data_laws = (data_shrinks, data_stays, data_refused)
