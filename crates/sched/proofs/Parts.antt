-- The definitions of counters, offsets, fill, layout and blocks keep what `Parts` of specs/ says; `PromisedParts` states it of
-- the calls.
use Rattle.std.proofs.Common.{◌≡◌, ℕ, ◌+◌, ◌-◌, ◌*◌, ◌%◌, ◌<◌, Bool, true, false, cond, eqb, ltb, ◌⊎◌, sym, refl, ap, ◌∙◌, inl, inr, ⊎_elim, mod-eq_of_lt, arith, ltb-false, ltb-true, eqb-true}
use borrow.Author.Tests.{eqb-false}
use Rattle.modular.proofs.Laws.{once, lt_or_le}
use Rattle.sched.specs.declared.block.Bit.{Bit}
use Rattle.sched.specs.declared.block.Bit.TheVariants.{Zero}
use Rattle.sched.specs.declared.block.Block.{Block}
use Rattle.sched.specs.declared.block.Blocks.{Blocks}
use Rattle.sched.specs.declared.block.BufferFillState.TheVariants.{Empty, Partial, Full}
use Rattle.sched.specs.declared.block.BufferLayout.{BufferLayout}
use Rattle.sched.specs.declared.block.BufferLayout.TheVariants.{DataFreeData, FreeDataFree}
use Rattle.sched.specs.declared.block.BlockType.{BlockType}
use Rattle.sched.specs.declared.block.BlockType.TheVariants.{Free, Data}
use Rattle.operations.specs.declared.counter.Counter.{Counter}
use Rattle.operations.specs.declared.counter.Offset.{Offset}
use Rattle.operations.specs.declared.operation.OperationType.{OperationType}
use Rattle.operations.specs.declared.operation.OperationType.TheVariants.{Read, Write}
use Rattle.sched.specs.declared.scheduler.RingBufferScheduler.{RingBufferScheduler}
use Rattle.sched.specs.Block.{block_of, outer_of, inner_of}
use Rattle.sched.specs.Parts.{CounterOf, OffsetOf, FillOf, None, Some, LayoutOf, Typed, BlocksOf, type_for, NextBlockOf}
use Rattle.sched.specs.Scheduler.{IsSound, data_in, greatest_in, counter_in, offset_in, fill_state_in, layout_in, low_in, high_in, blocks_in, next_block_in}
use Rattle.sched.proofs.Laws.{offset_lt, counter_lt}
use Rattle.sched.proofs.LayoutLaws.{arranged, next_off, next_len_lem}

pub counter_is : (s : RingBufferScheduler) (t : OperationType) → CounterOf s t (counter_in s t)
counter_is s Read = refl
counter_is s Write = refl

counter_only : (s : RingBufferScheduler) (t : OperationType) (c : Counter) → CounterOf s t c → c ≡ counter_in s t
counter_only s Read c e = e
counter_only s Write c e = e

-- n is below 2l: n, or l less
halved : (l n : ℕ) → n < 2 * l → (n ≡ n % l) ⊎ (n ≡ n % l + l)
halved l n h =
    ⊎_elim
    (λ b. inl (sym (mod-eq_of_lt b)))
    (λ b. let e : n % l ≡ n - l = once l n (n - l) (omega arith) (omega arith) in inr (omega arith))
    (lt_or_le n l)

pub none_is : (n : ℕ) → None n (eqb n 0)
none_is n = go (eqb n 0) refl
  where
    go : (b : Bool) → eqb n 0 ≡ b → None n b
    go true e = eqb-true n 0 e
    go false e = let k : n ≡ 0 → ⊥ = eqb-false n 0 e in omega (arith, k)

pub some_is : (n : ℕ) → Some n (ltb 0 n)
some_is n = go (ltb 0 n) refl
  where
    go : (b : Bool) → ltb 0 n ≡ b → Some n b
    go true e = ltb-true 0 n e
    go false e = omega (arith, ltb-false 0 n e)

abbrev three : Block → Block → Block → Blocks
three x y z = record { 0 = x; 1 = y; 2 = z }

same_block : (b c : Block) → b.typ ≡ c.typ → b.no ≡ c.no → b.off.0 ≡ c.off.0 → b.len ≡ c.len → b ≡ c
same_block b c t n o l =
    ap (λ (x : BlockType). block_of x b.no b.off b.len) t ∙ ap (λ (x : Bit). block_of c.typ x b.off b.len) n
    ∙ ap (λ (x : ℕ). block_of c.typ c.no (record { 0 = x }) b.len) o ∙ ap (λ (x : ℕ). block_of c.typ c.no c.off x) l

module _ (s : RingBufferScheduler) (h : IsSound s) where
  pub offset_is : (t : OperationType) → OffsetOf s t (offset_in s t)
  offset_is t = record { below = offset_lt s h t; counts = λ c e. rw (counter_only s t c e) (halved s.buf_len (counter_in s t).0 (counter_lt s h t)) }

  pub fill_is : FillOf s (fill_state_in s)
  unfolding fill_state_in
  fill_is = go (eqb (data_in s) 0) refl (eqb (data_in s) s.buf_len) refl
    where
      go : (a : Bool) → eqb (data_in s) 0 ≡ a → (b : Bool) → eqb (data_in s) s.buf_len ≡ b → FillOf s (cond a Empty (cond b Full Partial))
      go true e b f = eqb-true _ _ e
      go false e true f = eqb-true _ _ f
      go false e false f =
          let k : data_in s ≡ 0 → ⊥ = eqb-false _ _ e in
          let l : data_in s ≡ s.buf_len → ⊥ = eqb-false _ _ f in
          (omega (arith, k), omega (arith, l, h.within))

  pub layout_is : LayoutOf s (layout_in s)
  layout_is = ⊎_elim (λ a. rw a.0 a.1) (λ a. rw a.0 a.1) (arranged s h)

  abbrev place : ℕ → Offset
  place n = record { 0 = n }

  free_data : Free ≡ Data → ⊥
  free_data p = cc

  pub blocks_are : BlocksOf s (blocks_in s)
  blocks_are =
      ⊎_elim
      (λ a.
      rw a.0
      (record {
        first = refl;
        second = refl;
        third = omega arith;
        whole = omega (arith, offset_lt s h Read, offset_lt s h Write);
        cut = inl (ap place (omega (arith, a.1)), ap place (omega (arith, a.1)));
        held = omega (arith, a.1);
        outer = refl;
        inner = λ p. free_data (sym p);
        ahead = λ x. (refl, refl, refl);
        round = λ x. absurd (⊎_elim (λ l. omega (arith, a.1)) (λ e. omega (arith, a.1, e.0, e.1)) x);
        numbers = (refl, refl, refl);
      }))
      (λ a.
      rw a.0
      (record {
        first = refl;
        second = refl;
        third = omega arith;
        whole = omega (arith, offset_lt s h Read, offset_lt s h Write);
        cut = inr (ap place (omega (arith, a.1, h.within)), ap place (omega (arith, a.1, h.within)));
        held = omega (arith, a.1, offset_lt s h Read, offset_lt s h Write, h.within);
        outer = refl;
        inner = free_data;
        ahead = λ x. absurd (⊎_elim (λ l. omega (arith, a.1, h.within)) (λ e. omega (arith, a.1, e.0, e.1, h.sized.some)) x);
        round = λ x. (refl, refl, refl);
        numbers = (refl, refl, refl);
      }))
      (arranged s h)

  -- and no other blocks are: so what is said of one block alone is said of that of `blocks`
  module _ (b : Blocks) (p : BlocksOf s b) where
    lens : (b.0.len ≡ low_in s) × (b.1.len ≡ high_in s - low_in s) × (b.2.len ≡ s.buf_len - high_in s)
    lens =
        ⊎_elim
        (λ e.
        let x : b.1.off.0 ≡ (offset_in s Read).0 = ap (λ (o : Offset). o.0) e.0 in
        let y : b.2.off.0 ≡ (offset_in s Write).0 = ap (λ (o : Offset). o.0) e.1 in
        (omega (arith, p.second, p.third), omega (arith, p.second, p.third), omega (arith, p.second, p.third, p.whole)))
        (λ e.
        let x : b.1.off.0 ≡ (offset_in s Write).0 = ap (λ (o : Offset). o.0) e.0 in
        let y : b.2.off.0 ≡ (offset_in s Read).0 = ap (λ (o : Offset). o.0) e.1 in
        (omega (arith, p.second, p.third), omega (arith, p.second, p.third), omega (arith, p.second, p.third, p.whole)))
        p.cut

    types : Typed b (outer_of (layout_in s)) (inner_of (layout_in s))
    types =
        ⊎_elim
        (λ a. rw a.0 (p.ahead (⊎_elim (λ l. inl l) (λ l. inr (omega (arith, a.1), omega (arith, a.1))) (lt_or_le (offset_in s Read).0 (offset_in s Write).0))))
        (λ a. rw a.0 (p.round (⊎_elim (λ l. inl l) (λ l. inr (omega (arith, a.1, h.within), omega (arith, a.1, h.sized.some))) (lt_or_le (offset_in s Write).0 (offset_in s Read).0))))
        (arranged s h)

    blocks_are_these : b ≡ blocks_in s
    blocks_are_these =
        let x : b.0 ≡ (blocks_in s).0 = same_block b.0 (blocks_in s).0 types.0 p.numbers.0 p.first lens.0 in
        let y : b.1 ≡ (blocks_in s).1 = same_block b.1 (blocks_in s).1 types.1 p.numbers.1 (p.second ∙ lens.0) lens.1 in
        let z : b.2 ≡ (blocks_in s).2 = same_block b.2 (blocks_in s).2 types.2 p.numbers.2 (omega (arith, p.third, lens.0, lens.1)) lens.2 in
        ap (λ (k : Block). three k b.1 b.2) x ∙ ap (λ (k : Block). three (blocks_in s).0 k b.2) y ∙ ap (λ (k : Block). three (blocks_in s).0 (blocks_in s).1 k) z

  pub blocks_only : (b c : Blocks) → BlocksOf s b → BlocksOf s c → b ≡ c
  blocks_only b c p q = blocks_are_these b p ∙ sym (blocks_are_these c q)

  next_typed : (t : OperationType) → (next_block_in s t).typ ≡ type_for t
  next_typed t = go t (layout_in s) refl
    where
      go : (t : OperationType) (l : BufferLayout) → layout_in s ≡ l → (next_block_in s t).typ ≡ type_for t
      go Read DataFreeData e = rw e
      go Read FreeDataFree e = rw e
      go Write DataFreeData e = rw e
      go Write FreeDataFree e = rw e

  -- neither is block 0
  next_number : (t : OperationType) → (next_block_in s t).no ≡ Zero
  next_number t = go t (layout_in s) refl
    where
      go : (t : OperationType) (l : BufferLayout) → layout_in s ≡ l → (next_block_in s t).no ≡ Zero
      go Read DataFreeData e = rw e
      go Read FreeDataFree e = rw e
      go Write DataFreeData e = rw e
      go Write FreeDataFree e = rw e

  pub next_block_is : (t : OperationType) → NextBlockOf s t (next_block_in s t)
  next_block_is t =
      let o : (next_block_in s t).off.0 ≡ (offset_in s t).0 = ap (λ (x : Offset). x.0) (next_off s h t) in
      record {
        typed = next_typed t;
        number = next_number t;
        starts = next_off s h t;
        ends =
            ⊎_elim
            (λ l. inl (omega (arith, o, next_len_lem s h t, offset_lt s h t)))
            (λ l. inr (omega (arith, o, next_len_lem s h t, offset_lt s h t)))
            (lt_or_le (s.buf_len - (offset_in s t).0) (greatest_in s t));
        fits = (omega (arith, o, next_len_lem s h t, offset_lt s h t), omega (arith, next_len_lem s h t));
      }
