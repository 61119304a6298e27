-- Laws of scheduling: an operation, a list cut at the buffer's end, and that asking block after block gives that list and what is left.
use Rattle.std.proofs.Common.{◌≡◌, ℕ, ◌+◌, ◌-◌, ◌%◌, ◌<◌, ◌≤◌, min, Bool, true, false, cond, eqb, ◌⊎◌, sym, refl, ap, ◌∙◌, inl, inr, ⊎_elim, add-zero, eq-zero-or-pos, arith, eq-eqb, ne_eqb, eqb-true, le-leb, Option, Some, None}
use borrow.Author.Tests.{eqb-false, lt-leb}
use native.Mathlib.Nat.{mod_self}
use Rattle.modular.proofs.Laws.{lt_or_le}
use Rattle.operations.specs.declared.counter.Offset.{Offset}
use Rattle.operations.specs.declared.operation.OperationType.{OperationType}
use Rattle.sched.specs.declared.scheduler.RingBufferScheduler.{RingBufferScheduler}
use Rattle.operations.specs.declared.operation.ScheduledOperation.{ScheduledOperation}
use Rattle.operations.specs.declared.portion.Portion.{Portion}
use Rattle.sched.specs.declared.schedule.Next.{Next}
use Rattle.operations.specs.Lists.{ScheduledOperations}
use Rattle.operations.specs.declared.list.AtMostTwo.TheVariants as list
use Rattle.operations.specs.Operation.{operation_of}
use Rattle.operations.specs.Portion.{portion_of}
use Rattle.sched.specs.Promise.{cut_of, next_len}
use Rattle.sched.specs.Scheduler.{IsSound, offset_in, greatest_in, some_of, portioned, next_in, both_of, scheduled_of, joined, by_blocks, schedule_in, advanced_in}
use Rattle.sched.proofs.Laws.{offset_lt, greatest_most}
use Rattle.sched.proofs.LayoutLaws.{next_off, next_len_lem}
use Rattle.sched.proofs.RegisterLaws.{advanced_greatest, advanced_sound, advanced_offset, advanced_length}

-- ---- scheduling
pub min_min : (m g r : ℕ) → min m (min g r) ≡ min (min m g) r
min_min m g r = omega arith

min_less : (m g f : ℕ) → min (m - f) (g - f) ≡ min m g - f
min_less m g f = omega arith

min_pos : (a b : ℕ) → 0 < min a b → 0 < a
min_pos a b p = omega arith

less_both : (m f k n : ℕ) → f + k ≡ n → m - f - k ≡ m - n
less_both m f k n e = omega arith

behind : (f k n r : ℕ) → f + k ≡ n → f ≡ r → k ≡ n - r
behind f k n r e q = omega arith

some_behind : (k n r : ℕ) → k ≡ n - r → r < n → 0 < k
some_behind k n r e l = omega arith

some_as : (k n : ℕ) → k ≡ n → 0 < n → 0 < k
some_as k n e p = omega arith

whole_room : (m g r : ℕ) → r < min m g → min m (min g r) ≡ r
whole_room m g r l = omega arith

nothing_left : (f k n : ℕ) → f + k ≡ n → f ≡ n → k ≡ 0
nothing_left f k n e q = omega arith

-- of g items, b before the end: m are shared by both sides
both_shares : (m g b : ℕ) → b ≤ g → min m b + min (m - min m b) (g - b) ≡ min m g
both_shares m g b l = omega arith

-- n items of which f go before the end, r items on, and s after it
module _ (n f r : ℕ) where
  run_out : f ≡ min n r → 0 < n - f → f ≡ r
  run_out e p = omega arith

  used_up : f ≡ min n r → f < r → n ≡ f
  used_up e l = omega arith

  rest : (s : ℕ) → n ≡ f + s → f ≡ r → s ≡ n - r
  rest s e q = omega arith

module _ (n a l : ℕ) (h : a < l) where
  fits : (f : ℕ) → f ≡ min n (l - a) → n ≡ f → a + n ≤ l
  fits f e q = omega arith

  passes : (f s : ℕ) → f ≡ l - a → n ≡ f + s → 0 < s → l < a + n
  passes f s e q p = omega arith

module _ (t : OperationType) (a : Offset) (n : ℕ) where
  pub some_none : None ≡ some_of t a n → n ≡ 0
  unfolding some_of
  some_none p = go (eqb n 0) refl p
    where
      go : (b : Bool) → eqb n 0 ≡ b → None ≡ cond b None (Some (operation_of t a n)) → n ≡ 0
      go true q p = eqb-true n 0 q
      go false q p = cc

  pub some_some : (f : ScheduledOperation) → Some f ≡ some_of t a n → (f ≡ operation_of t a n) × (0 < n)
  unfolding some_of
  some_some f p = go (eqb n 0) refl p
    where
      go : (b : Bool) → eqb n 0 ≡ b → Some f ≡ cond b None (Some (operation_of t a n)) → (f ≡ operation_of t a n) × (0 < n)
      go true q p = cc
      go false q p = (cc, omega (arith, eqb-false n 0 q))

  pub some_of_none : n ≡ 0 → some_of t a n ≡ None
  unfolding some_of
  some_of_none z = rw (eq-eqb n 0 z)

  pub some_of_some : 0 < n → some_of t a n ≡ Some (operation_of t a n)
  unfolding some_of
  some_of_some p = rw (ne_eqb n 0 (λ z. omega arith))

  pub some_len : next_len (some_of t a n) ≡ n
  some_len = ⊎_elim (λ z. rw (some_of_none z, z)) (λ p. rw (some_of_some p)) (eq-zero-or-pos n)

same_operation : (t : OperationType) (a : Offset) (n k : ℕ) → a.0 ≡ 0 → n ≡ k → operation_of t a n ≡ operation_of t (record { 0 = 0 }) k
same_operation t a n k z e = rw (z, e)

-- the next operation is cut by m, by what there is, and by the buffer's end
pub next_is : (s : RingBufferScheduler) → IsSound s → (t : OperationType) (m : ℕ) → next_in s t m ≡ portioned t (offset_in s t) (portion_of m (min (greatest_in s t) (s.buf_len - (offset_in s t).0)))
next_is s h t m = rw (next_off s h t, next_len_lem s h t)

module _ (t : OperationType) (l : ℕ) (a : Offset) (n : ℕ) where
  pub cut_none : n ≡ 0 → list.None ≡ cut_of t l a n
  unfolding cut_of
  cut_none h = rw (eq-eqb n 0 h)

  pub cut_one : 0 < n → a.0 + n ≤ l → list.One (operation_of t a n) ≡ cut_of t l a n
  unfolding cut_of
  cut_one h g = rw (ne_eqb n 0 (λ z. omega arith), le-leb _ _ g)

  pub cut_two : 0 < n → l < a.0 + n → list.Two (operation_of t a (l - a.0)) (operation_of t (record { 0 = 0 }) (n - (l - a.0))) ≡ cut_of t l a n
  unfolding cut_of
  cut_two h g = rw (ne_eqb n 0 (λ z. omega arith), lt-leb _ _ g)

-- what there is, cut where the buffer ends, is asked for m; the second is asked for what the first leaves over
module _ (t : OperationType) (l : ℕ) (a : Offset) (m g : ℕ) (inside : a.0 < l) where
  abbrev before : ℕ
  before = min g (l - a.0)

  abbrev ahead : ℕ
  ahead = min m before

  abbrev round : ℕ
  round = min (m - ahead) (g - before)

  room_some : 0 < l - a.0
  room_some = omega arith

  shared : ahead + round ≡ min m g
  shared = both_shares m g before (omega arith)

  pub both_cut : both_of (some_of t a ahead) (some_of t (record { 0 = 0 }) round) ≡ cut_of t l a (min m g)
  both_cut = ⊎_elim none (λ p. ⊎_elim (two p) (one p) (lt_or_le l (a.0 + min m g))) (eq-zero-or-pos (min m g))
    where
      none : min m g ≡ 0 → both_of (some_of t a ahead) (some_of t (record { 0 = 0 }) round) ≡ cut_of t l a (min m g)
      none z = rw (some_of_none t a ahead (omega arith)) (cut_none t l a (min m g) z)

      one : 0 < min m g → a.0 + min m g ≤ l → both_of (some_of t a ahead) (some_of t (record { 0 = 0 }) round) ≡ cut_of t l a (min m g)
      one p h =
          let e : ahead ≡ min m g = omega arith in
          rw (some_of_some t a ahead (omega arith), some_of_none t (record { 0 = 0 }) round (nothing_left ahead round (min m g) shared e), e) (cut_one t l a (min m g) p h)

      two : 0 < min m g → l < a.0 + min m g → both_of (some_of t a ahead) (some_of t (record { 0 = 0 }) round) ≡ cut_of t l a (min m g)
      two p h =
          let q : l - a.0 < min m g = omega arith in
          let e : ahead ≡ l - a.0 = whole_room m g (l - a.0) q in
          let f : round ≡ min m g - (l - a.0) = behind ahead round (min m g) (l - a.0) shared e in
          rw (some_of_some t a ahead (some_as ahead (l - a.0) e room_some), some_of_some t (record { 0 = 0 }) round (some_behind round (min m g) (l - a.0) f q), f, e) (cut_two t l a (min m g) p h)

  pub both_left : m - ahead - round ≡ m - min m g
  both_left = less_both m ahead round (min m g) shared

-- the first operation, and the second of the scheduler u after it
module _ (s : RingBufferScheduler) (h : IsSound s) (t : OperationType) (m : ℕ) where
  abbrev room : ℕ
  room = s.buf_len - (offset_in s t).0

  abbrev first_len : ℕ
  first_len = min m (min (greatest_in s t) room)

  -- all that is asked and there
  abbrev all : ℕ
  all = min m (greatest_in s t)

  abbrev cut : ScheduledOperations
  cut = cut_of t s.buf_len (offset_in s t) all

  blocks_none : None ≡ (next_in s t m).operation → scheduled_of list.None (next_in s t m).remainder ≡ scheduled_of cut (m - all)
  blocks_none p =
      let z : first_len ≡ 0 = some_none _ _ _ (p ∙ ap (λ (x : Next). x.operation) (next_is s h t m)) in
      let e : m - first_len ≡ m - all = omega (arith, offset_lt s h t) in
      rw (← cut_none t s.buf_len (offset_in s t) all (omega (arith, offset_lt s h t)), ap (λ (x : Next). x.remainder) (next_is s h t m), e)

  module _ (f : ScheduledOperation) (p : Some f ≡ (next_in s t m).operation) where
    first_is : (f ≡ operation_of t (offset_in s t) first_len) × (0 < first_len)
    first_is = some_some _ _ _ f (p ∙ ap (λ (x : Next). x.operation) (next_is s h t m))

    first_len_lem : f.len ≡ min all room
    first_len_lem = ap (λ (x : ScheduledOperation). x.len) first_is.0 ∙ min_min m (greatest_in s t) room

    first_fits : (f.len ≤ m) × (f.len ≤ greatest_in s t)
    first_fits = (omega (arith, first_len_lem), omega (arith, first_len_lem))

    -- after the first the offset is 0, or the first did not reach the buffer's end
    next_offset : ((offset_in (advanced_in s t f.len) t).0 ≡ 0) ⊎ (f.len < room)
    next_offset = ⊎_elim (λ l. inr l) (λ l. inl (advanced_offset s h f.len t ∙ turned l)) (lt_or_le f.len room)
      where
        turned : room ≤ f.len → ((offset_in s t).0 + f.len) % s.buf_len ≡ 0
        turned l =
            let e : (offset_in s t).0 + f.len ≡ s.buf_len = omega (arith, first_len_lem, offset_lt s h t) in
            rw (e, mod_self)

    module _ (u : RingBufferScheduler) (e : u ≡ advanced_in s t f.len) where
      second_sound : IsSound u
      second_sound = rw e (advanced_sound s h f.len t first_fits.1)

      abbrev second_len : ℕ
      second_len = min (m - f.len) (min (greatest_in u t) (u.buf_len - (offset_in u t).0))

      same_length : u.buf_len ≡ s.buf_len
      same_length = ap (λ (x : RingBufferScheduler). x.buf_len) e ∙ advanced_length s f.len t

      left : greatest_in u t ≡ greatest_in s t - f.len
      left = ap (λ (x : RingBufferScheduler). greatest_in x t) e ∙ advanced_greatest s h f.len t first_fits.1

      turned_or_not : ((offset_in u t).0 ≡ 0) ⊎ (f.len < room)
      turned_or_not = ⊎_elim (λ z. inl (ap (λ (x : RingBufferScheduler). (offset_in x t).0) e ∙ z)) (λ l. inr l) next_offset

      second_len_lem : second_len ≡ min (all - f.len) (u.buf_len - (offset_in u t).0)
      second_len_lem = rw (left, min_min (m - f.len) (greatest_in s t - f.len) (u.buf_len - (offset_in u t).0), min_less m (greatest_in s t) f.len)

      -- together the two move all that was asked and is there
      both : all ≡ f.len + second_len
      both = rw second_len_lem (⊎_elim (λ z. round z (offset_lt s h t) (greatest_most s h t)) (λ l. ahead (used_up all f.len room first_len_lem l)) turned_or_not)
        where
          round : (offset_in u t).0 ≡ 0 → (offset_in s t).0 < s.buf_len → greatest_in s t ≤ s.buf_len → all ≡ f.len + min (all - f.len) (u.buf_len - (offset_in u t).0)
          round z a g =
              let n : all ≤ s.buf_len = omega arith in
              rw (z, same_length) (omega (arith, first_len_lem))

          ahead : all ≡ f.len → all ≡ f.len + min (all - f.len) (u.buf_len - (offset_in u t).0)
          ahead e = omega arith

      -- and a second starts at 0, where the first ran to the buffer's end
      turned : 0 < second_len → ((offset_in u t).0 ≡ 0) × (f.len ≡ room)
      turned p = (⊎_elim (λ z. z) (λ l. absurd (omega (arith, l, out))) turned_or_not, out)
        where
          out : f.len ≡ room
          out = run_out all f.len room first_len_lem (min_pos _ _ (rw second_len_lem at p))

      -- k is what the first left over
      module _ (k : ℕ) (left_is : k ≡ m - f.len) where
        second_is : next_in u t k ≡ portioned t (offset_in u t) (portion_of (m - f.len) (min (greatest_in u t) (u.buf_len - (offset_in u t).0)))
        second_is = ap (next_in u t) left_is ∙ next_is u second_sound t (m - f.len)

        second_left : (next_in u t k).remainder ≡ m - all
        second_left = ap (λ (x : Next). x.remainder) second_is ∙ less_both m f.len second_len all (sym both)

        one_left : None ≡ (next_in u t k).operation → list.One f ≡ cut
        one_left q =
            let z : second_len ≡ 0 = some_none _ _ _ (q ∙ ap (λ (x : Next). x.operation) second_is) in
            let e : all ≡ f.len = both ∙ rw (z, add-zero) in
            let n : first_len ≡ all = sym (ap (λ (x : ScheduledOperation). x.len) first_is.0) ∙ sym e in
            ap list.One (first_is.0 ∙ ap (operation_of t (offset_in s t)) n) ∙
            cut_one t s.buf_len (offset_in s t) all (rw n at first_is.1) (fits all (offset_in s t).0 s.buf_len (offset_lt s h t) f.len first_len_lem e)

        two_left : (g : ScheduledOperation) → Some g ≡ (next_in u t k).operation → list.Two f g ≡ cut
        two_left g q = rw (one, two) (cut_two t s.buf_len (offset_in s t) all (some_moved both) (passes all (offset_in s t).0 s.buf_len (offset_lt s h t) f.len second_len out both second.1))
          where
            second : (g ≡ operation_of t (offset_in u t) second_len) × (0 < second_len)
            second = some_some _ _ _ g (q ∙ ap (λ (x : Next). x.operation) second_is)

            out : f.len ≡ room
            out = (turned second.1).1

            some_moved : all ≡ f.len + second_len → 0 < all
            some_moved e = omega (arith, second.1)

            one : f ≡ operation_of t (offset_in s t) room
            one = first_is.0 ∙ ap (operation_of t (offset_in s t)) (sym (ap (λ (x : ScheduledOperation). x.len) first_is.0) ∙ out)

            two : g ≡ operation_of t (record { 0 = 0 }) (all - room)
            two = second.0 ∙ same_operation t (offset_in u t) _ _ (turned second.1).0 (rest all f.len room second_len both out)

        second_joins : (x : Option ScheduledOperation) → x ≡ (next_in u t k).operation → both_of (Some f) x ≡ cut
        second_joins None q = one_left q
        second_joins (Some g) q = two_left g q

        blocks_some : joined f (next_in u t k) ≡ scheduled_of cut (m - all)
        blocks_some = rw (second_joins (next_in u t k).operation refl, second_left)

-- asking block after block gives all that is asked and there, cut where the buffer ends, and leaves the rest of m
module _ (s : RingBufferScheduler) (h : IsSound s) (t : OperationType) (m : ℕ) where
  by_blocks_lem : (x : Option ScheduledOperation) → x ≡ (next_in s t m).operation → by_blocks s t x (next_in s t m).remainder ≡ scheduled_of (cut s h t m) (m - all s h t m)
  by_blocks_lem None p = blocks_none s h t m p
  by_blocks_lem (Some f) p = blocks_some s h t m f p (advanced_in s t f.len) refl (next_in s t m).remainder left
    where
      left : (next_in s t m).remainder ≡ m - f.len
      left = ap (λ (x : Next). x.remainder) (next_is s h t m) ∙ ap (λ (x : ScheduledOperation). m - x.len) (sym (first_is s h t m f p).0)

  pub schedule_is : schedule_in s t m ≡ scheduled_of (cut_of t s.buf_len (offset_in s t) (min m (greatest_in s t))) (m - min m (greatest_in s t))
  unfolding schedule_in
  schedule_is = by_blocks_lem (next_in s t m).operation refl

  -- so do the two operations that are asked of what there is before the buffer's end and behind it
  pub schedule_by_ends :
      (there : Portion) → there ≡ portion_of (greatest_in s t) (s.buf_len - (offset_in s t).0) →
      (first : Next) → first ≡ portioned t (offset_in s t) (portion_of m there.len) →
      (second : Next) → second ≡ portioned t (record { 0 = 0 }) (portion_of first.remainder there.remainder) →
      (ops : ScheduledOperations) → ops ≡ both_of first.operation second.operation →
      scheduled_of ops second.remainder ≡ schedule_in s t m
  schedule_by_ends there a first b second c ops d =
      rw (d, c, b, a, both_cut t s.buf_len (offset_in s t) m (greatest_in s t) (offset_lt s h t), both_left t s.buf_len (offset_in s t) m (greatest_in s t) (offset_lt s h t)) (sym schedule_is)
