-- Laws of registering: what a scheduler is after an operation, and a move.
use Rattle.std.proofs.Common.{◌≡◌, ℕ, ◌+◌, ◌-◌, ◌*◌, ◌%◌, ◌≤◌, Bool, true, false, cond, ltb, sym, refl, ap, ◌∙◌, arith, ltb-false, Result, Ok, Err}
use Rattle.modular.specs.Modulus.{add_mod}
use Rattle.modular.proofs.Laws.{add_is, add_lt, sub_of_sum, sub_to_sum, add_halved, add_add, add_nothing}
use Rattle.operations.specs.declared.counter.Counter.{Counter}
use Rattle.operations.specs.declared.operation.OperationType.{OperationType}
use Rattle.operations.specs.declared.operation.OperationType.TheVariants.{Read, Write}
use Rattle.operations.specs.declared.refusal.Refusal.{Refusal}
use Rattle.operations.specs.declared.refusal.Refusal.TheVariants.{OperationTooLarge}
use Rattle.sched.specs.declared.scheduler.RingBufferScheduler.{RingBufferScheduler}
use Rattle.sched.specs.declared.register.Move.{Move}
use Rattle.sched.specs.Promise.{MovedBy}
use Rattle.sched.specs.Counter.{data_of}
use Rattle.sched.specs.Scheduler.{record_of, IsSound, sound_of, data_in, offset_in, greatest_in, advanced_in, register_in, move_in, move_of}
use Rattle.sched.proofs.Laws.{held_is, sound_both, sound_is}

-- ---- what registering does
module _ (s : RingBufferScheduler) (h : IsSound s) (n : ℕ) where
  pub advanced_greatest : (t : OperationType) → n ≤ greatest_in s t → greatest_in (advanced_in s t n) t ≡ greatest_in s t - n
  advanced_greatest Read l = sub_to_sum (2 * s.buf_len) s.items_written.0 s.items_read.0 n (omega arith) l
  advanced_greatest Write l =
      let e : data_in (advanced_in s Write n) ≡ data_in s + n = sub_of_sum (2 * s.buf_len) s.items_written.0 s.items_read.0 n (omega arith) (omega arith) in
      omega arith

  pub advanced_sound : (t : OperationType) → n ≤ greatest_in s t → IsSound (advanced_in s t n)
  advanced_sound Read l =
      record {
        sized = h.sized;
        written = h.written;
        read = add_lt (2 * s.buf_len) s.items_read.0 n (omega arith);
        within = omega (arith, advanced_greatest Read l);
        held = refl;
      }
  advanced_sound Write l =
      record {
        sized = h.sized;
        written = add_lt (2 * s.buf_len) s.items_written.0 n (omega arith);
        read = h.read;
        within = let e : data_in (advanced_in s Write n) ≡ data_in s + n = sub_of_sum (2 * s.buf_len) s.items_written.0 s.items_read.0 n (omega arith) (omega arith) in omega arith;
        held = refl;
      }

  pub advanced_offset : (t : OperationType) → (offset_in (advanced_in s t n) t).0 ≡ ((offset_in s t).0 + n) % s.buf_len
  advanced_offset Read = add_halved s.buf_len s.items_read.0 n
  advanced_offset Write = add_halved s.buf_len s.items_written.0 n

-- ---- the fill: n less after a read, n more after a write
module _ (s : RingBufferScheduler) (h : IsSound s) (n : ℕ) (t : OperationType) (l : n ≤ greatest_in s t) where
  pub read_fill : t ≡ Read → s.fill - n ≡ data_in (advanced_in s Read n)
  read_fill e = rw h.held (sym (advanced_greatest s h n Read (rw e at l)))

  pub write_fill : t ≡ Write → s.fill + n ≡ data_in (advanced_in s Write n)
  write_fill e = let k : n ≤ greatest_in s Write = rw e at l in rw h.held (sym (sub_of_sum (2 * s.buf_len) s.items_written.0 s.items_read.0 n (omega arith) (omega arith)))

-- twice, and by nothing
pub advanced_twice : (s : RingBufferScheduler) (n k : ℕ) (t : OperationType) → advanced_in (advanced_in s t n) t k ≡ advanced_in s t (n + k)
advanced_twice s n k Read = rw (add_add (2 * s.buf_len) s.items_read.0 n k)
advanced_twice s n k Write = rw (add_add (2 * s.buf_len) s.items_written.0 n k)

pub advanced_nothing : (s : RingBufferScheduler) → IsSound s → (t : OperationType) → advanced_in s t 0 ≡ s
advanced_nothing s h Read = rw (add_nothing (2 * s.buf_len) s.items_read.0 h.read) (held_is s h)
advanced_nothing s h Write = rw (add_nothing (2 * s.buf_len) s.items_written.0 h.written) (held_is s h)

pub advanced_length : (s : RingBufferScheduler) (n : ℕ) (t : OperationType) → (advanced_in s t n).buf_len ≡ s.buf_len
advanced_length s n Read = refl
advanced_length s n Write = refl

-- ---- what registering does, in the words of `Promise`
module _ (s : RingBufferScheduler) (h : IsSound s) (n : ℕ) where
  pub moved : (t : OperationType) → n ≤ greatest_in s t → MovedBy s t n (advanced_in s t n)
  moved Read l =
      let e : data_in (advanced_in s Read n) ≡ data_in s - n = sub_to_sum (2 * s.buf_len) s.items_written.0 s.items_read.0 n (omega arith) l in
      record {
        sound = advanced_sound s h n Read l;
        length = refl;
        written = refl;
        read = add_is (2 * s.buf_len) s.items_read.0 n;
        less = omega arith;
      }
  moved Write l =
      record {
        sound = advanced_sound s h n Write l;
        length = refl;
        read = refl;
        written = add_is (2 * s.buf_len) s.items_written.0 n;
        more = sub_of_sum (2 * s.buf_len) s.items_written.0 s.items_read.0 n (omega arith) (omega arith);
      }

-- and what was so moved is the advanced one
abbrev counter_at : ℕ → Counter
counter_at n = record { 0 = n }

pub moved_is : (s u : RingBufferScheduler) (t : OperationType) (n : ℕ) → MovedBy s t n u → u ≡ advanced_in s t n
moved_is s u Read n m =
    let q : u.items_read ≡ counter_at (add_mod (2 * s.buf_len) s.items_read.0 n) = ap counter_at (m.read ∙ sym (add_is (2 * s.buf_len) s.items_read.0 n)) in
    let d : data_in u ≡ data_in (advanced_in s Read n) = λ i. data_of (m.length i) (m.written i) (q i) in
    let f : u.fill ≡ data_in (advanced_in s Read n) = m.sound.held ∙ d in
    λ i. record_of (m.length i) (m.written i) (q i) (f i)
moved_is s u Write n m =
    let q : u.items_written ≡ counter_at (add_mod (2 * s.buf_len) s.items_written.0 n) = ap counter_at (m.written ∙ sym (add_is (2 * s.buf_len) s.items_written.0 n)) in
    let d : data_in u ≡ data_in (advanced_in s Write n) = λ i. data_of (m.length i) (q i) (m.read i) in
    let f : u.fill ≡ data_in (advanced_in s Write n) = m.sound.held ∙ d in
    λ i. record_of (m.length i) (q i) (m.read i) (f i)

-- a scheduler that registering hands back is sound
pub registered_sound : (s : RingBufferScheduler) → IsSound s → (t : OperationType) (n : ℕ) (u : RingBufferScheduler) → Ok u ≡ register_in s t n → IsSound u
unfolding register_in
registered_sound s h t n u p = go (ltb (greatest_in s t) n) refl p
  where
    go : (b : Bool) → ltb (greatest_in s t) n ≡ b → Ok u ≡ cond b (Err (OperationTooLarge t n (greatest_in s t))) (Ok (advanced_in s t n)) → IsSound u
    go true q p = cc
    go false q p =
        let e : u ≡ advanced_in s t n = cc in
        rw e (advanced_sound s h n t (ltb-false _ _ q))

-- ---- a move is of a sound record, or refused as the tests refuse
module _ (s : RingBufferScheduler) (t : OperationType) (m : ℕ) where
  pub move_of_lem : (v : Move) → Ok v ≡ move_of s t m → IsSound s × (v ≡ move_in s t m)
  move_of_lem v p = go (sound_of s) refl
    where
      go : (c : Result RingBufferScheduler Refusal) → sound_of s ≡ c → IsSound s × (v ≡ move_in s t m)
      go (Ok u) q =
          let h : IsSound s = (sound_both u s (sym q)).0 in
          let e : Ok v ≡ Ok (move_in s t m) = rw (← sound_is s h) at p in
          (h, cc)
      go (Err e) q =
          let f : Ok v ≡ Err e = rw q at p in
          let z : ◌≡◌ {A = ℕ} 0 1 = cc in
          absurd (omega arith)

  pub move_refused : (e : Refusal) → Err e ≡ move_of s t m → sound_of s ≡ Err e
  move_refused e p = go (sound_of s) refl
    where
      go : (c : Result RingBufferScheduler Refusal) → sound_of s ≡ c → sound_of s ≡ Err e
      go (Ok u) q =
          let f : Err e ≡ Ok (move_in s t m) = rw (← sound_is s (sound_both u s (sym q)).0) at p in
          let z : ◌≡◌ {A = ℕ} 0 1 = cc in
          absurd (omega arith)
      go (Err r) q =
          let f : Err e ≡ Err r = rw q at p in
          let d : e ≡ r = cc in
          q ∙ ap Err (sym d)
