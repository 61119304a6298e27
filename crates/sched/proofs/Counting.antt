-- What the tests take, and what registering does, in the words of `Promise`: counters with some data between them.
use Rattle.std.proofs.Common.{◌≡◌, ℕ, ◌+◌, ◌-◌, ◌*◌, ◌%◌, ◌<◌, min, sym, refl, ap, ◌∙◌, subst, ⊎_elim, mod-lt, mod-eq_of_lt, arith, Result, Ok, Err, Option, Some, None}
use Rattle.operations.proofs.Answered.{err_not_ok, ok_same}
use native.Mathlib.Nat.{mod-mod}
use Rattle.modular.proofs.Laws.{sub_back, sub_unique, lt_or_le}
use Rattle.operations.specs.Lists.{ScheduledOperations}
use Rattle.operations.specs.declared.list.AtMostTwo.TheVariants as list
use Rattle.sched.specs.declared.schedule.Next.{Next}
use Rattle.operations.specs.declared.operation.OperationType.{OperationType}
use Rattle.operations.specs.declared.operation.ScheduledOperation.{ScheduledOperation}
use Rattle.operations.specs.declared.refusal.Refusal.{Refusal}
use Rattle.operations.specs.declared.refusal.Refusal.TheVariants.{OperationTooLarge}
use Rattle.sched.specs.declared.scheduler.RingBufferScheduler.{RingBufferScheduler}
use Rattle.operations.specs.List.{sound_list_of}
use Rattle.operations.specs.Operation.{operation_of}
use Rattle.sched.specs.Promise.{MovedByList, by_none, by_one, by_two, NextIs, Between, Taken, MovedBy}
use Rattle.sched.specs.Scheduler.{Sized, IsSound, sound_of, data_in, greatest_in, offset_in, some_of, next_in, advanced_in, register_of, register_list_of, then_register}
use Rattle.sched.proofs.Laws.{sound_is, sound_both, offset_lt}
use Rattle.sched.proofs.RegisterLaws.{registered_sound, moved}
use Rattle.sched.proofs.ScheduleLaws.{next_is, some_none, some_some}
use Rattle.operations.proofs.Given.{list_kept}
use Rattle.sched.proofs.GivenLists.{tests_list, registers_one, registers_two}
use Rattle.sched.proofs.Promises.{too_large, registers}

-- ---- the data between the counters
module _ (s : RingBufferScheduler) where
  abbrev L : ℕ
  L = s.buf_len

  abbrev w : ℕ
  w = s.items_written.0

  abbrev r : ℕ
  r = s.items_read.0

  pub between : IsSound s → Between s (data_in s)
  between h = record { at_most = h.within; ahead = sub_back (2 * L) w r (omega arith) ∙ mod-eq_of_lt h.written }

  pub between_is : Sized L → (d : ℕ) → Between s d → data_in s ≡ d
  between_is l d b =
      let e : w % (2 * L) ≡ w = ap (λ (x : ℕ). x % (2 * L)) (sym b.ahead) ∙ mod-mod (r + d) (2 * L) ∙ b.ahead in
      sub_unique (2 * L) w r d (omega arith) (omega (arith, b.at_most)) (b.ahead ∙ sym e)

  pub taken_sound : Taken s → IsSound s
  taken_sound t =
      record {
        sized = t.sized;
        written = let l : (r + s.fill) % (2 * L) < 2 * L = mod-lt (r + s.fill) (omega (arith, t.sized.some)) in rw t.held.ahead at l;
        read = t.read;
        within = rw (between_is t.sized s.fill t.held) t.held.at_most;
        held = sym (between_is t.sized s.fill t.held);
      }

  pub sound_taken : IsSound s → Taken s
  sound_taken h = record { sized = h.sized; read = h.read; held = subst (Between s) (sym h.held) (between h) }

-- ---- registering
pub registered_moved : (s : RingBufferScheduler) (t : OperationType) (n : ℕ) (u : RingBufferScheduler) → register_of s t n ≡ Ok u → IsSound s × MovedBy s t n u
registered_moved s t n u p = go (sound_of s) refl
  where
    sound_part : (h : IsSound s) → MovedBy s t n u
    sound_part h =
        ⊎_elim
        (λ l. err_not_ok (OperationTooLarge t n (greatest_in s t)) u (sym (too_large s h t n l) ∙ p))
        (λ l. rw (ok_same u (advanced_in s t n) (sym p ∙ registers s h t n l)) (moved s h n t l))
        (lt_or_le (greatest_in s t) n)

    go : (c : Result RingBufferScheduler Refusal) → sound_of s ≡ c → IsSound s × MovedBy s t n u
    go (Ok v) q = let h : IsSound s = (sound_both v s (sym q)).0 in (h, sound_part h)
    go (Err e) q = err_not_ok e u (rw q at p)

-- ---- registering a list
module _ (s : RingBufferScheduler) (h : IsSound s) (u : RingBufferScheduler) where
  -- the second after the first
  then_moved : (a b : ScheduledOperation) (x : Result RingBufferScheduler Refusal) → register_of s a.typ a.len ≡ x → then_register x b ≡ Ok u → MovedByList s (list.Two a b) u
  then_moved a b (Ok v) p q =
      let k : IsSound v = registered_sound s h a.typ a.len v (rw (← sound_is s h) at (sym p)) in
      by_two v (registered_moved s a.typ a.len v p).1 (registered_moved v b.typ b.len u (rw (← sound_is v k) q)).1
  then_moved a b (Err e) p q = err_not_ok e u q

  sound_moved : (ops : ScheduledOperations) → register_list_of s ops ≡ Ok u → MovedByList s ops u
  sound_moved list.None p = rw (ok_same u s (sym p ∙ tests_list s h list.None)) by_none
  sound_moved (list.One a) p = by_one (registered_moved s a.typ a.len u (sym (registers_one s h a) ∙ p)).1
  sound_moved (list.Two a b) p = go (sound_list_of (list.Two a b)) refl
    where
      go : (x : Result ScheduledOperations Refusal) → sound_list_of (list.Two a b) ≡ x → MovedByList s (list.Two a b) u
      go (Ok ops) q = then_moved a b (register_of s a.typ a.len) refl (sym (registers_two s h a b (q ∙ ap Ok (list_kept a b ops q))) ∙ p)
      go (Err e) q = err_not_ok e u (rw (← sound_is s h, q) at p)

pub list_moved : (s : RingBufferScheduler) (ops : ScheduledOperations) (u : RingBufferScheduler) → register_list_of s ops ≡ Ok u → IsSound s × MovedByList s ops u
list_moved s ops u p = go (sound_of s) refl
  where
    go : (c : Result RingBufferScheduler Refusal) → sound_of s ≡ c → IsSound s × MovedByList s ops u
    go (Ok v) q = let h : IsSound s = (sound_both v s (sym q)).0 in (h, sound_moved s h u ops p)
    go (Err e) q = err_not_ok e u (rw q at p)

-- ---- the next operation
pub next_promised : (s : RingBufferScheduler) → IsSound s → (t : OperationType) (m : ℕ) (o : Option ScheduledOperation) → (next_in s t m).operation ≡ o → NextIs s t m o
next_promised s h t m o e = go o (sym e ∙ ap (λ (x : Next). x.operation) (next_is s h t m))
  where
    go : (o : Option ScheduledOperation) → o ≡ some_of t (offset_in s t) (min m (min (greatest_in s t) (s.buf_len - (offset_in s t).0))) → NextIs s t m o
    go None p =
        let z : min m (min (greatest_in s t) (s.buf_len - (offset_in s t).0)) ≡ 0 = some_none _ _ _ p in
        omega (arith, offset_lt s h t)
    go (Some f) p =
        let q : (f ≡ operation_of t (offset_in s t) (min m (min (greatest_in s t) (s.buf_len - (offset_in s t).0)))) × (0 < min m (min (greatest_in s t) (s.buf_len - (offset_in s t).0))) = some_some _ _ _ f p in
        rw q.0 (record { typed = refl; nonempty = q.1; starts = refl; runs = refl })
