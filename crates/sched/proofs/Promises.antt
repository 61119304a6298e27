-- What the paper (docs/PAPER.md, "The scheduler") promises, over the definitions; `Promised` states it of the calls.
use Rattle.std.proofs.Common.{◌≡◌, ℕ, zero, suc, ◌+◌, ◌-◌, ◌^◌, ◌<◌, ◌≤◌, min, true, ◌⊎◌, List, ◌∷◌, ◌++◌, sym, refl, ap, ◌∙◌, inl, inr, ⊎_elim, add-zero, mod-eq_of_lt, eq-zero-or-pos, add_comm, zero-add, arith, le-ltb, lt-ltb, eq-eqb, ne_eqb, Ok, Err}
use native.Mathlib.Nat.{add-mod_right}
use Rattle.modular.proofs.Laws.{lt_or_le}
use Rattle.operations.proofs.ListLaws.{list_taken}
use Rattle.sched.specs.declared.block.BufferFillState.TheVariants.{Empty, Partial, Full}
use Rattle.operations.specs.declared.list.AtMostTwo.TheVariants as list
use Rattle.operations.specs.declared.operation.OperationType.{OperationType}
use Rattle.operations.specs.declared.operation.OperationType.TheVariants.{Read, Write}
use Rattle.operations.specs.declared.operation.ScheduledOperation.{ScheduledOperation}
use Rattle.operations.specs.declared.refusal.Refusal.TheVariants.{OperationTooLarge}
use Rattle.sched.specs.declared.scheduler.RingBufferScheduler.{RingBufferScheduler}
use Rattle.operations.specs.Operation.{operation_of}
use Rattle.sched.specs.Promise.{Promise, up_from, round_from, cut_of}
use Rattle.operations.specs.List.{same_type_of, total_in}
use Rattle.sched.specs.Scheduler.{IsSound, data_in, space_in, offset_in, greatest_in, fill_state_in, next_block_in, schedule_in, advanced_in, register_in, register_of, register_list_of}
use Rattle.sched.proofs.Laws.{sound_is, offset_lt, greatest_most}
use Rattle.sched.proofs.LayoutLaws.{arranged, next_len_lem}
use Rattle.sched.proofs.RegisterLaws.{advanced_greatest, advanced_twice, advanced_nothing}
use Rattle.sched.proofs.ScheduleLaws.{min_min, cut_none, cut_one, cut_two, schedule_is}

abbrev L : RingBufferScheduler → ℕ
L s = s.buf_len

advances : (s : RingBufferScheduler) (t : OperationType) (n : ℕ) → n ≤ greatest_in s t → register_in s t n ≡ Ok (advanced_in s t n)
unfolding register_in
advances s t n l = rw (le-ltb _ _ l)

-- ---- 6 where a registered length is above the greatest; else the scheduler advances by it
module _ (s : RingBufferScheduler) (h : IsSound s) (t : OperationType) (n : ℕ) where
  pub too_large : greatest_in s t < n → register_of s t n ≡ Err (OperationTooLarge t n (greatest_in s t))
  unfolding register_in
  too_large l = rw (← sound_is s h, lt-ltb _ _ l)

  pub registers : n ≤ greatest_in s t → register_of s t n ≡ Ok (advanced_in s t n)
  registers l = rw (← sound_is s h) (advances s t n l)

-- ---- what the Rust panics at cannot happen
module _ (s : RingBufferScheduler) (h : IsSound s) where
  -- full and empty at once
  pub not_full_and_empty : data_in s ≡ 0 → space_in s ≡ 0 → ⊥
  not_full_and_empty e f = omega arith

  partial : 0 < data_in s → data_in s < L s → fill_state_in s ≡ Partial
  unfolding fill_state_in
  partial p q = rw (ne_eqb (data_in s) 0 (λ z. omega arith), ne_eqb (data_in s) (L s) (λ z. omega arith))

  -- a contradictory layout: offsets that differ are those of a partly filled buffer, equal ones of an empty or a full one
  pub layout_differs : ((offset_in s Read).0 ≡ (offset_in s Write).0 → ⊥) → fill_state_in s ≡ Partial
  layout_differs d = ⊎_elim (λ a. partial (omega (arith, d)) (omega (arith, offset_lt s h Write))) (λ a. partial (omega (arith, offset_lt s h Read)) (omega (arith, d))) (arranged s h)

  pub layout_equals : (offset_in s Read).0 ≡ (offset_in s Write).0 → (fill_state_in s ≡ Empty) ⊎ (fill_state_in s ≡ Full)
  unfolding fill_state_in
  layout_equals e =
      ⊎_elim
      (λ a. inl (rw (eq-eqb (data_in s) 0 (omega arith))))
      (λ a. inr (rw (ne_eqb (data_in s) 0 (λ z. omega arith), eq-eqb (data_in s) (L s) (omega arith))))
      (arranged s h)

-- ---- scheduling
zero_min : (n : ℕ) → min 0 n ≡ 0
zero_min n = omega arith

min_whole : (n k : ℕ) → n ≤ k → min n k ≡ n
min_whole n k l = omega arith

min_part : (n k : ℕ) → k ≤ n → min n k ≡ k
min_part n k l = omega arith

module _ (l : ℕ) where
  -- no turn before the end
  round_ahead : (n a : ℕ) → a + n ≤ l → round_from l a n ≡ up_from a n
  unfolding round_from up_from
  round_ahead zero a h = refl
  round_ahead (suc n) a h = ap_cons (mod-eq_of_lt (omega arith)) (round_ahead n (suc a) (omega arith))
    where
      ap_cons : {x y : ℕ} {xs ys : List ℕ} → x ≡ y → xs ≡ ys → x ∷ xs ≡ y ∷ ys
      ap_cons e f = cc

  -- a whole turn changes nothing
  round_turn : (n a : ℕ) → round_from l (l + a) n ≡ round_from l a n
  unfolding round_from
  round_turn zero a = refl
  round_turn (suc n) a =
      let e : suc (l + a) ≡ l + suc a = omega arith in
      rw (e, round_turn n (suc a), add_comm l a, add-mod_right)

  round_append : (n k a : ℕ) → round_from l a (n + k) ≡ round_from l a n ++ round_from l (a + n) k
  unfolding round_from
  round_append zero k a = rw (zero-add, add-zero)
  round_append (suc n) k a =
      let e : suc n + k ≡ suc (n + k) = omega arith in
      let f : suc a + n ≡ a + suc n = omega arith in
      rw (e, round_append n k (suc a), f)

same_type : (t : OperationType) → same_type_of t t ≡ true
same_type Read = refl
same_type Write = refl

module _ (s : RingBufferScheduler) (h : IsSound s) (t : OperationType) (m : ℕ) where
  abbrev at : ℕ
  at = (offset_in s t).0

  -- all that is moved
  abbrev all : ℕ
  all = min m (greatest_in s t)

  room_some : 0 < L s - at
  room_some = omega (arith, offset_lt s h t)

  all_most : all ≤ L s
  all_most = omega (arith, greatest_most s h t)

  first_is : min m (next_block_in s t).len ≡ min all (L s - at)
  first_is = rw (next_len_lem s h t, min_min m (greatest_in s t) (L s - at))

  promise_none : all ≡ 0 → Promise s t m list.None
  unfolding round_from
  promise_none z =
      record {
        typed = tt;
        nonempty = tt;
        inside = tt;
        disjoint = tt;
        total = sym z;
        places = rw z;
        first = sym (first_is ∙ rw (z, zero_min (L s - at)));
        registers = rw (← sound_is s h, z, advanced_nothing s h t);
      }

  promise_one : 0 < all → at + all ≤ L s → Promise s t m (list.One (operation_of t (offset_in s t) all))
  promise_one p l =
      record {
        typed = refl;
        nonempty = p;
        inside = l;
        disjoint = tt;
        total = refl;
        places = sym (round_ahead (L s) all at l);
        first = sym (first_is ∙ min_whole all (L s - at) (omega arith));
        registers = rw (← sound_is s h) (advances s t all (omega arith));
      }

  promise_two : 0 < all → L s < at + all → Promise s t m (list.Two (operation_of t (offset_in s t) (L s - at)) (operation_of t (record { 0 = 0 }) (all - (L s - at))))
  promise_two p l =
      record {
        typed = (refl, refl);
        nonempty = (room_some, omega arith);
        inside = (omega (arith, offset_lt s h t), omega (arith, all_most));
        disjoint = inr (omega (arith, all_most));
        total = sum;
        places = sym places;
        first = sym (first_is ∙ min_part all (L s - at) (omega arith));
        registers = registered_both;
      }
    where
      sum : L s - at + (all - (L s - at)) ≡ all
      sum = omega arith

      end : at + (L s - at) ≡ L s + 0
      end = omega (arith, offset_lt s h t)

      places : round_from (L s) at all ≡ up_from at (L s - at) ++ up_from 0 (all - (L s - at))
      places =
          sym (ap (round_from (L s) at) sum) ∙ round_append (L s) (L s - at) (all - (L s - at)) at ∙
          rw (round_ahead (L s) (L s - at) at (omega (arith, offset_lt s h t)), end, round_turn (L s) (all - (L s - at)) 0, round_ahead (L s) (all - (L s - at)) 0 (omega (arith, all_most)))

      registered_both : register_list_of s (list.Two (operation_of t (offset_in s t) (L s - at)) (operation_of t (record { 0 = 0 }) (all - (L s - at)))) ≡ Ok (advanced_in s t all)
      registered_both =
          rw (← sound_is s h, list_taken one two short (same_type t), advances s t (L s - at) (omega arith)) second
        where
          one : ScheduledOperation
          one = operation_of t (offset_in s t) (L s - at)

          two : ScheduledOperation
          two = operation_of t (record { 0 = 0 }) (all - (L s - at))

          short : L s - at + (all - (L s - at)) ≤ 2 ^ 64 - 1
          short = rw sum (omega (arith, all_most))

          after : RingBufferScheduler
          after = advanced_in s t (L s - at)

          left : all - (L s - at) ≤ greatest_in after t
          left = rw (advanced_greatest s h (L s - at) t (omega arith)) (omega arith)

          second : register_in after t (all - (L s - at)) ≡ Ok (advanced_in s t all)
          second = advances after t (all - (L s - at)) left ∙ ap Ok (advanced_twice s (L s - at) (all - (L s - at)) t ∙ ap (advanced_in s t) sum)

-- all that is asked and there, cut where the buffer ends
cut_promised : (s : RingBufferScheduler) → IsSound s → (t : OperationType) (m : ℕ) → Promise s t m (cut_of t s.buf_len (offset_in s t) (min m (greatest_in s t)))
cut_promised s h t m = ⊎_elim none some (eq-zero-or-pos (all s h t m))
  where
    none : all s h t m ≡ 0 → Promise s t m (cut_of t s.buf_len (offset_in s t) (all s h t m))
    none z = rw (← cut_none t s.buf_len (offset_in s t) (all s h t m) z) (promise_none s h t m z)

    some : 0 < all s h t m → Promise s t m (cut_of t s.buf_len (offset_in s t) (all s h t m))
    some p =
        ⊎_elim
        (λ l. rw (← cut_two t s.buf_len (offset_in s t) (all s h t m) p l) (promise_two s h t m p l))
        (λ l. rw (← cut_one t s.buf_len (offset_in s t) (all s h t m) p l) (promise_one s h t m p l))
        (lt_or_le s.buf_len (at s h t m + all s h t m))

-- the promise of every scheduled list
pub scheduling : (s : RingBufferScheduler) → IsSound s → (t : OperationType) (m : ℕ) → Promise s t m (schedule_in s t m).operations
scheduling s h t m = rw (schedule_is s h t m) (cut_promised s h t m)

-- so the sum of a scheduled list's lengths, at which the Rust could panic, is a number of 64 bits
pub sum_fits : (s : RingBufferScheduler) → IsSound s → (t : OperationType) (m : ℕ) → total_in (schedule_in s t m).operations < 2 ^ 64
sum_fits s h t m = rw (scheduling s h t m).total (omega (arith, greatest_most s h t))
