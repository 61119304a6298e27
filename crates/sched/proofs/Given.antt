-- The numbers 1 to 6 and 20 are given exactly when the paper's table says so, over the definitions; `Refuses` states it of the calls.
use Rattle.std.proofs.Common.{◌≡◌, ℕ, ◌*◌, ◌^◌, Bool, true, false, eqb, ltb, leb, List, [], ◌∷◌, sym, refl, ap, ◌∙◌, ⊎_elim, arith, ltb-false, ltb-true, le-ltb, lt-ltb, eq-eqb, ne_eqb, eqb-true, le-leb, leb-false, leb-true, Result, Ok, Err}
use borrow.Author.Tests.{eqb-false, lt-leb}
use Rattle.modular.proofs.Laws.{lt_or_le}
use Rattle.operations.specs.declared.counter.Counter.{Counter}
use Rattle.operations.specs.declared.operation.OperationType.{OperationType}
use Rattle.operations.specs.declared.operation.OperationType.TheVariants.{Read, Write}
use Rattle.operations.specs.declared.refusal.Refusal.{Refusal}
use Rattle.operations.specs.declared.refusal.Refusal.TheVariants.{ZeroBufferLength, BufferTooLarge, ItemsWrittenOutOfBounds, ItemsReadOutofBounds, DataAvailOutOfBounds, OperationTooLarge, HeldFillWrong}
use Rattle.operations.proofs.Given.{Told, told, number_some, type_number_lem, type_number_is}
use Rattle.sched.specs.declared.scheduler.RingBufferScheduler.{RingBufferScheduler}
use Rattle.operations.specs.Given.{Verdict, accepted, refused, number_in, values_in, Exactly, of_result}
use Rattle.sched.specs.Given.{GivenCounters, counted, given_1, given_2, given_3, given_4, given_5, Given, taken, by_counters, given_20, GivenWith, own, new, GivenRegister, before_6, given_6, fits}
use Rattle.sched.specs.Counter.{data_of}
use Rattle.sched.specs.Promise.{written_with, read_with}
use Rattle.sched.specs.Scheduler.{scheduler_of, Counted, IsSound, counted_of, sound_of, data_in, greatest_in, with_counter_of, register_of}
use Rattle.sched.proofs.Laws.{counted_both, counted_is, counted_sound, sound_refused, sound_wrong, sound_is, sound_both}
use Rattle.sched.proofs.Promises.{too_large, registers}

-- ---- 1 to 5, of a length and two counters
module _ (L : ℕ) (written read : Counter) where
  abbrev w : ℕ
  w = written.0

  abbrev r : ℕ
  r = read.0

  abbrev counting : Verdict
  counting = of_result (counted_of L written read)

  counters_only : GivenCounters L written read (number_in counting) (values_in counting)
  unfolding counted_of
  counters_only = go (eqb L 0) refl (ltb (2 ^ 63) L) refl (leb (2 * L) w) refl (leb (2 * L) r) refl (ltb L (data_of L written read)) refl
    where
      go :
          (a : Bool) → eqb L 0 ≡ a → (b : Bool) → ltb (2 ^ 63) L ≡ b → (c : Bool) → leb (2 * L) w ≡ c →
          (d : Bool) → leb (2 * L) r ≡ d → (e : Bool) → ltb L (data_of L written read) ≡ e →
          GivenCounters L written read (number_in counting) (values_in counting)
      go true qa b qb c qc d qd e qe = simp qa (given_1 (eqb-true _ _ qa))
      go false qa true qb c qc d qd e qe = simp (qa, qb) (given_2 (ltb-true _ _ qb))
      go false qa false qb true qc d qd e qe = simp (qa, qb, qc) (given_3 (record { some = omega (arith, eqb-false); fits = ltb-false _ _ qb }) (leb-true _ _ qc))
      go false qa false qb false qc true qd e qe = simp (qa, qb, qc, qd) (given_4 (record { some = omega (arith, eqb-false); fits = ltb-false _ _ qb }) (leb-false _ _ qc) (leb-true _ _ qd))
      go false qa false qb false qc false qd true qe = simp (qa, qb, qc, qd, qe) (given_5 (record { some = omega (arith, eqb-false); fits = ltb-false _ _ qb }) (leb-false _ _ qc) (leb-false _ _ qd) (ltb-true _ _ qe))
      go false qa false qb false qc false qd false qe = simp (qa, qb, qc, qd, qe) (counted (record { sized = record { some = omega (arith, eqb-false); fits = ltb-false _ _ qb }; written = leb-false _ _ qc; read = leb-false _ _ qd; within = ltb-false _ _ qe }))

  counters_always : {k : ℕ} {vs : List ℕ} → GivenCounters L written read k vs → Told counting k vs
  unfolding counted_of
  counters_always (counted h) = told counting accepted (ap of_result (counted_is L written read h))
  counters_always (given_1 h) = told counting (refused ZeroBufferLength) (simp (eq-eqb _ _ h))
  counters_always (given_2 h) = told counting (refused (BufferTooLarge L)) (simp (ne_eqb L 0 (λ z. omega arith), lt-ltb _ _ h))
  counters_always (given_3 l h) =
      told counting (refused (ItemsWrittenOutOfBounds L written))
      (simp (ne_eqb L 0 (λ z. omega arith), le-ltb _ _ l.fits, le-leb _ _ h))
  counters_always (given_4 l g h) =
      told counting (refused (ItemsReadOutofBounds L read))
      (simp (ne_eqb L 0 (λ z. omega arith), le-ltb _ _ l.fits, lt-leb _ _ g, le-leb _ _ h))
  counters_always (given_5 l f g h) =
      told counting (refused (DataAvailOutOfBounds L written read))
      (simp (ne_eqb L 0 (λ z. omega arith), le-ltb _ _ l.fits, lt-leb _ _ f, lt-leb _ _ g, lt-ltb _ _ h))

  -- what is built of them is refused as they are: 20 is not among their numbers
  built_same : (a : Result ℕ Refusal) → counted_of L written read ≡ a → of_result a ≡ of_result (sound_of (scheduler_of L written read))
  built_same (Ok d) p = ap of_result (sound_is (scheduler_of L written read) (counted_sound (scheduler_of L written read) (counted_both L written read d (sym p)).0 refl))
  built_same (Err e) p = ap of_result (sym (sound_refused (scheduler_of L written read) e p))

  pub counters_exactly : Exactly (GivenCounters L written read) (of_result (sound_of (scheduler_of L written read)))
  counters_exactly = rw (← built_same (counted_of L written read) refl) (record { only = counters_only; always = λ k vs g. counters_always g })

-- ---- 1 to 5 and 20, of a record
module _ (s : RingBufferScheduler) where
  abbrev verdict : Verdict
  verdict = of_result (sound_of s)

  abbrev counters : Result ℕ Refusal
  counters = counted_of s.buf_len s.items_written s.items_read

  only : Given s (number_in verdict) (values_in verdict)
  only = go counters refl (counters_only s.buf_len s.items_written s.items_read)
    where
      held : Counted s.buf_len s.items_written s.items_read → (b : Bool) → eqb s.fill (data_in s) ≡ b → Given s (number_in verdict) (values_in verdict)
      held h true q = let k : IsSound s = counted_sound s h (eqb-true _ _ q) in rw (← sound_is s k) (taken k)
      held h false q = rw (sound_wrong s h (eqb-false _ _ q)) (given_20 h (eqb-false _ _ q))

      go : (a : Result ℕ Refusal) → counters ≡ a → GivenCounters s.buf_len s.items_written s.items_read (number_in (of_result counters)) (values_in (of_result counters)) → Given s (number_in verdict) (values_in verdict)
      go (Ok d) p g = held (counted_both _ _ _ d (sym p)).0 (eqb s.fill (data_in s)) refl
      go (Err e) p g = rw (sound_refused s e p) (by_counters (number_some e) (rw p at g))

  always : {k : ℕ} {vs : List ℕ} → Given s k vs → Told verdict k vs
  always (taken h) = told verdict accepted (ap of_result (sym (sound_is s h)))
  always (by_counters {k} {vs} l g) = go counters refl (counters_always s.buf_len s.items_written s.items_read g)
    where
      go : (a : Result ℕ Refusal) → counters ≡ a → Told (of_result counters) k vs → Told verdict k vs
      go (Ok d) p t = absurd (omega (arith, ap (λ (a : Result ℕ Refusal). number_in (of_result a)) p, t.0))
      go (Err e) p t = rw (sound_refused s e p) (rw p at t)
  always (given_20 h e) = told verdict (refused HeldFillWrong) (ap of_result (sound_wrong s h e))

  pub record_exactly : Exactly (Given s) (of_result (sound_of s))
  record_exactly = record { only = only; always = λ k vs g. always g }

-- ---- another counter in the place of an operation's
module _ (s : RingBufferScheduler) (c : Counter) where
  abbrev replacing : OperationType → Verdict
  replacing t = of_result (with_counter_of s t c)

  abbrev built : OperationType → Verdict
  built t = of_result (sound_of (scheduler_of s.buf_len (written_with s t c) (read_with s t c)))

  replaced : IsSound s → (t : OperationType) → replacing t ≡ built t
  replaced h Read = rw (← sound_is s h)
  replaced h Write = rw (← sound_is s h)

  unreplaced : (t : OperationType) (e : Refusal) → sound_of s ≡ Err e → replacing t ≡ refused e
  unreplaced t e p = rw p

  module _ (t : OperationType) where
    abbrev new_exactly : Exactly (GivenCounters s.buf_len (written_with s t c) (read_with s t c)) (built t)
    new_exactly = counters_exactly s.buf_len (written_with s t c) (read_with s t c)

    with_only : (x : Result RingBufferScheduler Refusal) → sound_of s ≡ x → GivenWith s t c (number_in (replacing t)) (values_in (replacing t))
    with_only (Ok u) p = let h : IsSound s = (sound_both u s (sym p)).0 in rw (replaced h t) (new h new_exactly.only)
    with_only (Err e) p = rw (unreplaced t e p) (own (number_some e) (rw p at (record_exactly s).only))

    with_always : {k : ℕ} {vs : List ℕ} → (x : Result RingBufferScheduler Refusal) → sound_of s ≡ x → GivenWith s t c k vs → Told (replacing t) k vs
    with_always {k} {vs} (Ok u) p (own l g) =
        absurd (omega (arith, ap (λ (x : Result RingBufferScheduler Refusal). number_in (of_result x)) p, ((record_exactly s).always k vs g).0))
    with_always {k} {vs} (Err e) p (own l g) = rw (unreplaced t e p) (rw p at ((record_exactly s).always k vs g))
    with_always {k} {vs} x p (new h g) = rw (replaced h t) (new_exactly.always k vs g)

    pub with_exactly : Exactly (GivenWith s t c) (of_result (with_counter_of s t c))
    with_exactly = record { only = with_only (sound_of s) refl; always = λ k vs g. with_always (sound_of s) refl g }

-- a verdict on an answer that is refused just where the tests refuse
module _ (s : RingBufferScheduler) (v : Verdict) where
  same : (c : Result RingBufferScheduler Refusal) → sound_of s ≡ c → ((u : RingBufferScheduler) → sound_of s ≡ Ok u → v ≡ accepted) → ((e : Refusal) → sound_of s ≡ Err e → v ≡ refused e) → of_result c ≡ v
  same (Ok u) p f g = sym (f u p)
  same (Err e) p f g = sym (g e p)

  pub tested_exactly :
      ((u : RingBufferScheduler) → sound_of s ≡ Ok u → v ≡ accepted) → ((e : Refusal) → sound_of s ≡ Err e → v ≡ refused e) →
      Exactly (Given s) v
  tested_exactly f g = rw (same (sound_of s) refl f g) at (record_exactly s)

-- ---- 6
module _ (s : RingBufferScheduler) (t : OperationType) (n : ℕ) where
  abbrev after : Verdict
  after = of_result (register_of s t n)

  -- a record that is refused
  unsound : (e : Refusal) → sound_of s ≡ Err e → after ≡ refused e
  unsound e p = rw p

  register_only : GivenRegister s t n (number_in after) (values_in after)
  register_only = go (sound_of s) refl
    where
      sound_part : IsSound s → GivenRegister s t n (number_in after) (values_in after)
      sound_part h =
          ⊎_elim
          (λ l. rw (ap of_result (too_large s h t n l)) (given_6 h (type_number_lem t) l))
          (λ l. rw (ap of_result (registers s h t n l)) (fits h l))
          (lt_or_le (greatest_in s t) n)

      go : (c : Result RingBufferScheduler Refusal) → sound_of s ≡ c → GivenRegister s t n (number_in after) (values_in after)
      go (Ok u) p = sound_part (sound_both u s (sym p)).0
      go (Err e) p =
          rw (unsound e p)
          (before_6 (number_some e) (rw p at (record_exactly s).only))

  register_always : {k : ℕ} {vs : List ℕ} → GivenRegister s t n k vs → Told after k vs
  register_always (before_6 {k} {vs} p g) = go (sound_of s) refl
    where
      go : (c : Result RingBufferScheduler Refusal) → sound_of s ≡ c → Told after k vs
      go (Ok u) q =
          let z : number_in (of_result (sound_of s)) ≡ k = ((record_exactly s).always k vs g).0 in
          absurd (omega (arith, ap (λ (c : Result RingBufferScheduler Refusal). number_in (of_result c)) q))
      go (Err e) q = rw (unsound e q) (rw q at ((record_exactly s).always k vs g))
  register_always (given_6 {no} h y l) =
      let g = told after (refused (OperationTooLarge t n (greatest_in s t))) (ap of_result (too_large s h t n l)) in
      (g.0, g.1 ∙ ap (λ (x : ℕ). x ∷ n ∷ greatest_in s t ∷ []) (type_number_is y))
  register_always (fits h l) = told after accepted (ap of_result (registers s h t n l))

  pub register_exactly : Exactly (GivenRegister s t n) (of_result (register_of s t n))
  register_exactly = record { only = register_only; always = λ k vs g. register_always g }
