-- Laws of the layout: where the data of a sound scheduler lies, and the block of its next operation.
use Rattle.std.proofs.Common.{◌≡◌, ℕ, ◌+◌, ◌-◌, ◌*◌, ◌%◌, ◌<◌, ◌≤◌, min, Bool, true, false, cond, eqb, ltb, ◌⊎◌, sym, refl, ap, ◌∙◌, inl, inr, ⊎_elim, mod-eq_of_lt, arith, ltb-false, ltb-true, le-ltb, lt-ltb, eq-eqb, ne_eqb, eqb-true}
use borrow.Author.Tests.{eqb-false}
use native.Mathlib.Nat.{mod-add-mod, mod-mod_of_dvd, dvd-mul_left}
use Rattle.modular.proofs.Laws.{sub_back, once, lt_or_le}
use Rattle.operations.specs.declared.counter.Offset.{Offset}
use Rattle.sched.specs.declared.block.BufferLayout.TheVariants.{DataFreeData, FreeDataFree}
use Rattle.operations.specs.declared.operation.OperationType.{OperationType}
use Rattle.operations.specs.declared.operation.OperationType.TheVariants.{Read, Write}
use Rattle.sched.specs.declared.scheduler.RingBufferScheduler.{RingBufferScheduler}
use Rattle.sched.specs.Scheduler.{IsSound, data_in, offset_in, greatest_in, layout_in, next_block_in}
use Rattle.sched.proofs.Laws.{offset_lt}

-- ---- where the data lies
-- the write offset is the read offset, the data on, round the buffer
module _ (s : RingBufferScheduler) (h : IsSound s) where
  abbrev L : ℕ
  L = s.buf_len

  abbrev at : OperationType → ℕ
  at t = (offset_in s t).0

  written_offset : at Write ≡ (at Read + data_in s) % L
  written_offset =
      let b : (s.items_read.0 + data_in s) % (2 * L) ≡ s.items_written.0 % (2 * L) = sub_back (2 * L) s.items_written.0 s.items_read.0 (omega arith) in
      let e : s.items_written.0 % (2 * L) ≡ s.items_written.0 = mod-eq_of_lt h.written in
      let f : s.items_written.0 ≡ (s.items_read.0 + data_in s) % (2 * L) = sym e ∙ sym b in
      ap (λ (x : ℕ). x % L) f ∙ mod-mod_of_dvd L (s.items_read.0 + data_in s) (dvd-mul_left L 2) ∙ sym (mod-add-mod s.items_read.0 L (data_in s))

  -- The two arrangements: the data lies ahead of the read offset, or comes round. No other layout can be.
  abbrev pub Ahead : Type 0
  Ahead = (layout_in s ≡ FreeDataFree) × (at Write ≡ at Read + data_in s)

  abbrev pub Round : Type 0
  Round = (layout_in s ≡ DataFreeData) × (at Write + L ≡ at Read + data_in s)

  pub arranged : Ahead ⊎ Round
  unfolding layout_in
  arranged = go (ltb (at Read) (at Write)) refl (ltb (at Write) (at Read)) refl (eqb (data_in s) 0) refl
    where
      ahead : at Read + data_in s < L → at Write ≡ at Read + data_in s
      ahead l = written_offset ∙ mod-eq_of_lt l

      round : L ≤ at Read + data_in s → at Write + L ≡ at Read + data_in s
      round l =
          let q : at Write ≡ at Read + data_in s - L = written_offset ∙ once L (at Read + data_in s) (at Read + data_in s - L) (omega (arith, offset_lt s h Read)) (omega arith) in
          omega arith

      go : (a : Bool) → ltb (at Read) (at Write) ≡ a → (b : Bool) → ltb (at Write) (at Read) ≡ b → (c : Bool) → eqb (data_in s) 0 ≡ c → Ahead ⊎ Round
      go true qa b qb c qc = inl (simp qa, ⊎_elim ahead (λ l. absurd (omega (arith, ltb-true, round l))) (lt_or_le (at Read + data_in s) L))
      go false qa true qb c qc = inr (simp (qa, qb), ⊎_elim (λ l. absurd (omega (arith, ltb-true, ahead l))) round (lt_or_le (at Read + data_in s) L))
      go false qa false qb true qc = inl (simp (qa, qb, qc), omega (arith, ltb-false, eqb-true))
      go false qa false qb false qc = inr (simp (qa, qb, qc), ⊎_elim (λ l. absurd (omega (arith, ltb-false, eqb-false, ahead l))) round (lt_or_le (at Read + data_in s) L))

  -- The block of the next operation starts at the operation's offset, and ends where the data or the space ends, or the
  -- buffer.
  pub next_off : (t : OperationType) → (next_block_in s t).off ≡ offset_in s t
  next_off t = ap place (⊎_elim (ahead t) (round t) arranged)
    where
      place : ℕ → Offset
      place x = record { 0 = x }

      ahead : (t : OperationType) → Ahead → (next_block_in s t).off.0 ≡ at t
      ahead Read a = rw a.0 (omega arith)
      ahead Write a = rw a.0 (omega arith)

      round : (t : OperationType) → Round → (next_block_in s t).off.0 ≡ at t
      round Read a = rw a.0 (omega (arith, offset_lt s h Write))
      round Write a = rw a.0 (omega (arith, offset_lt s h Read))

  pub next_len_lem : (t : OperationType) → (next_block_in s t).len ≡ min (greatest_in s t) (s.buf_len - (offset_in s t).0)
  next_len_lem t = ⊎_elim (ahead t) (round t) arranged
    where
      ahead : (t : OperationType) → Ahead → (next_block_in s t).len ≡ min (greatest_in s t) (L - at t)
      ahead Read a = rw a.0 (omega (arith, offset_lt s h Write))
      ahead Write a = rw a.0 (omega (arith, offset_lt s h Write))

      round : (t : OperationType) → Round → (next_block_in s t).len ≡ min (greatest_in s t) (L - at t)
      round Read a = rw a.0 (omega (arith, offset_lt s h Write))
      round Write a = rw a.0 (omega (arith, offset_lt s h Read))

-- ---- the tests of the layout, on offsets that equal the scheduler's
module _ (s : RingBufferScheduler) (r w : Offset) (er : r ≡ offset_in s Read) (ew : w ≡ offset_in s Write) where
  read_at_lem : r.0 ≡ (offset_in s Read).0
  read_at_lem = ap (λ (x : Offset). x.0) er

  write_at_lem : w.0 ≡ (offset_in s Write).0
  write_at_lem = ap (λ (x : Offset). x.0) ew

  pub layout_below : r.0 < w.0 → FreeDataFree ≡ layout_in s
  unfolding layout_in
  layout_below h = rw (← read_at_lem, ← write_at_lem, lt-ltb r.0 w.0 h)

  pub layout_above : w.0 < r.0 → DataFreeData ≡ layout_in s
  unfolding layout_in
  layout_above h = rw (← read_at_lem, ← write_at_lem, le-ltb r.0 w.0 (omega arith), lt-ltb w.0 r.0 h)

  layout_equal : w.0 ≤ r.0 → r.0 ≤ w.0 → cond (eqb (data_in s) 0) FreeDataFree DataFreeData ≡ layout_in s
  unfolding layout_in
  layout_equal g h = rw (← read_at_lem, ← write_at_lem, le-ltb r.0 w.0 g, le-ltb w.0 r.0 h)

  pub layout_empty : w.0 ≤ r.0 → r.0 ≤ w.0 → data_in s ≡ 0 → FreeDataFree ≡ layout_in s
  layout_empty g h z = rw (eq-eqb _ _ z) at (layout_equal g h)

  pub layout_full : w.0 ≤ r.0 → r.0 ≤ w.0 → (data_in s ≡ 0 → ⊥) → DataFreeData ≡ layout_in s
  layout_full g h z = rw (ne_eqb (data_in s) 0 z) at (layout_equal g h)
