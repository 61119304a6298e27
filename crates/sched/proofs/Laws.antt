-- Laws of the scheduler's record: the last counter, what its tests say, and the bounds of a sound one. The functions' proofs, and
-- callers in other crates, cite them.
use Rattle.std.proofs.Common.{◌≡◌, ℕ, ◌+◌, ◌*◌, ◌^◌, ◌<◌, ◌≤◌, Bool, true, false, cond, eqb, ltb, leb, sym, refl, ap, ◌∙◌, mod-lt, arith, ltb-false, le-ltb, eq-eqb, ne_eqb, eqb-true, le-leb, leb-false, Result, Ok, Err}
use Rattle.operations.proofs.Answered.{ok_not_err, ok_same}
use borrow.Author.Tests.{eqb-false, lt-leb}
use Rattle.operations.specs.declared.counter.Counter.{Counter}
use Rattle.operations.specs.declared.operation.OperationType.{OperationType}
use Rattle.operations.specs.declared.operation.OperationType.TheVariants.{Read, Write}
use Rattle.operations.specs.declared.refusal.Refusal.{Refusal}
use Rattle.operations.specs.declared.refusal.Refusal.TheVariants.{ZeroBufferLength, BufferTooLarge, ItemsWrittenOutOfBounds, ItemsReadOutofBounds, DataAvailOutOfBounds, HeldFillWrong}
use Rattle.sched.specs.declared.scheduler.RingBufferScheduler.{RingBufferScheduler}
use Rattle.sched.specs.Counter.{data_of}
use Rattle.sched.specs.Scheduler.{record_of, scheduler_of, counter_in, Counted, IsSound, counted_of, sound_of, data_in, offset_in, greatest_in}

-- ---- a counter beside the last one, 2L - 1
module _ (l last v : ℕ) (e : last + 1 ≡ 2 * l) where
  pub beyond : last < v → leb (2 * l) v ≡ true
  beyond h = le-leb (2 * l) v (omega arith)

  pub up_to : v ≤ last → leb (2 * l) v ≡ false
  up_to h = lt-leb (2 * l) v (omega arith)

-- ---- what the tests say of what they take
-- of a length and two counters
module _ (l : ℕ) (w r : Counter) where
  pub counted_both : (d : ℕ) → Ok d ≡ counted_of l w r → Counted l w r × (d ≡ data_of l w r)
  unfolding counted_of
  counted_both d p = go (eqb l 0) refl (ltb (2 ^ 63) l) refl (leb (2 * l) w.0) refl (leb (2 * l) r.0) refl (ltb l (data_of l w r)) refl p
    where
      go :
          (a : Bool) → eqb l 0 ≡ a → (b : Bool) → ltb (2 ^ 63) l ≡ b → (c : Bool) → leb (2 * l) w.0 ≡ c →
          (f : Bool) → leb (2 * l) r.0 ≡ f → (e : Bool) → ltb l (data_of l w r) ≡ e →
          Ok d ≡
          cond a (Err ZeroBufferLength)
          (cond b (Err (BufferTooLarge l))
          (cond c (Err (ItemsWrittenOutOfBounds l w))
          (cond f (Err (ItemsReadOutofBounds l r))
          (cond e (Err (DataAvailOutOfBounds l w r)) (Ok (data_of l w r)))))) →
          Counted l w r × (d ≡ data_of l w r)
      go true q1 b q2 c q3 f q4 e q5 p = ok_not_err _ _ p
      go false q1 true q2 c q3 f q4 e q5 p = ok_not_err _ _ p
      go false q1 false q2 true q3 f q4 e q5 p = ok_not_err _ _ p
      go false q1 false q2 false q3 true q4 e q5 p = ok_not_err _ _ p
      go false q1 false q2 false q3 false q4 true q5 p = ok_not_err _ _ p
      go false q1 false q2 false q3 false q4 false q5 p = (
        record {
          sized = record { some = omega (arith, eqb-false l 0 q1); fits = ltb-false _ _ q2 };
          written = leb-false _ _ q3;
          read = leb-false _ _ q4;
          within = ltb-false _ _ q5;
        },
        ok_same _ _ p,
      )

  -- and the other way round
  pub counted_is : Counted l w r → counted_of l w r ≡ Ok (data_of l w r)
  unfolding counted_of
  counted_is h = rw (ne_eqb l 0 (λ z. omega arith), le-ltb _ _ h.sized.fits, lt-leb _ _ h.written, lt-leb _ _ h.read, le-ltb _ _ h.within)

-- of a record
module _ (s : RingBufferScheduler) where
  abbrev counters : Type 0
  counters = Counted s.buf_len s.items_written s.items_read

  abbrev answer : Result ℕ Refusal
  answer = counted_of s.buf_len s.items_written s.items_read

  pub sound_counted : IsSound s → counters
  sound_counted h = record { sized = h.sized; written = h.written; read = h.read; within = h.within }

  pub counted_sound : counters → s.fill ≡ data_in s → IsSound s
  counted_sound h e = record { sized = h.sized; written = h.written; read = h.read; within = h.within; held = e }

  -- the tests of the counters decide, and then the fill
  pub sound_refused : (e : Refusal) → answer ≡ Err e → sound_of s ≡ Err e
  unfolding sound_of
  sound_refused e p = rw p

  pub sound_held : (d : ℕ) → Ok d ≡ answer → s.fill ≡ d → Ok s ≡ sound_of s
  unfolding sound_of
  sound_held d p e = rw (← p, eq-eqb _ _ e)

  pub sound_unheld : (d : ℕ) → Ok d ≡ answer → (s.fill ≡ d → ⊥) → Err HeldFillWrong ≡ sound_of s
  unfolding sound_of
  sound_unheld d p e = rw (← p, ne_eqb _ _ e)

  pub sound_is : IsSound s → Ok s ≡ sound_of s
  sound_is h = sound_held (data_in s) (sym (counted_is _ _ _ (sound_counted h))) h.held

  pub sound_wrong : counters → (s.fill ≡ data_in s → ⊥) → sound_of s ≡ Err HeldFillWrong
  sound_wrong h e = sym (sound_unheld (data_in s) (sym (counted_is _ _ _ h)) e)

pub sound_both : (s t : RingBufferScheduler) → Ok s ≡ sound_of t → IsSound t × (s ≡ t)
sound_both s t p = go (answer t) refl
  where
    held : counters t → (b : Bool) → eqb t.fill (data_in t) ≡ b → IsSound t × (s ≡ t)
    held h true q = let k : IsSound t = counted_sound t h (eqb-true _ _ q) in (k, ok_same s t (p ∙ sym (sound_is t k)))
    held h false q = ok_not_err s HeldFillWrong (p ∙ sound_wrong t h (eqb-false _ _ q))

    go : (a : Result ℕ Refusal) → answer t ≡ a → IsSound t × (s ≡ t)
    go (Ok d) q = held (counted_both _ _ _ d (sym q)).0 (eqb t.fill (data_in t)) refl
    go (Err e) q = ok_not_err s e (p ∙ sound_refused t e q)

-- what is built of counters holds their data
pub built_sound : (l : ℕ) (w r : Counter) (d : ℕ) → Ok d ≡ counted_of l w r → Ok (record_of l w r d) ≡ sound_of (scheduler_of l w r)
built_sound l w r d p =
    let c : Counted l w r × (d ≡ data_of l w r) = counted_both l w r d p in
    ap (λ (n : ℕ). Ok (record_of l w r n)) c.1 ∙ sound_is (scheduler_of l w r) (counted_sound (scheduler_of l w r) c.0 refl)

-- a sound record is what is built of its own counters
pub held_is : (s : RingBufferScheduler) → IsSound s → scheduler_of s.buf_len s.items_written s.items_read ≡ s
held_is s h = ap (record_of s.buf_len s.items_written s.items_read) (sym h.held)

pub sound : (s t : RingBufferScheduler) → Ok s ≡ sound_of t → IsSound s
sound s t p = rw (sound_both s t p).1 (sound_both s t p).0

-- ---- bounds of a sound scheduler
module _ (s : RingBufferScheduler) (h : IsSound s) where
  pub offset_lt : (t : OperationType) → (offset_in s t).0 < s.buf_len
  offset_lt t = mod-lt _ (omega arith)

  pub counter_lt : (t : OperationType) → (counter_in s t).0 < 2 * s.buf_len
  counter_lt Read = h.read
  counter_lt Write = h.written

  pub greatest_most : (t : OperationType) → greatest_in s t ≤ s.buf_len
  greatest_most Read = h.within
  greatest_most Write = omega arith
