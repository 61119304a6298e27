-- Plain counters keep the laws, so demand 3 holds of the ends that docs/PAPER.md has ("Sending and taking").
use Prim.Native.Nat.{ℕ, ◌≤◌, ◌<◌}
use mathlib.Core.Path.{◌≡◌, refl, sym, ap, ◌∙◌}
use mathlib.Core.Logic.{inr}
use native.Mathlib.Nat.{add-zero, mod-eq_of_lt}
use native.Mathlib.Decide.{dec_lt}
use native.Mathlib.Omega.{arith}
use Rattle.operations.specs.declared.counter.Counter.{Counter}
use Rattle.sched.specs.declared.scheduler.RingBufferScheduler.{RingBufferScheduler}
use Rattle.sched.specs.Scheduler.{scheduler_of, IsSound}
use Rattle.sched.proofs.Counting.{taken_sound}
use Rattle.sched.proofs.Laws.{held_is, sound_is}
use Rattle.ends.specs.declared.writing_end.WritingEnd.{WritingEnd}
use Rattle.ends.specs.declared.reading_end.ReadingEnd.{ReadingEnd}
use Rattle.ends.specs.Ends.{writing_end, reading_end}
use Rattle.ends.specs.Plain.{definitions, plain, Demand3-of}
use Rattle.ends.proofs.View.{view, seen, sound_view, write_view, read_view, take_read_view, take_written_view}
use Rattle.ends.proofs.Laws.{Laws}
use Rattle.ends.proofs.Shared.{shared}

laws : (l c : ℕ) → Laws plain l c
laws l c =
    record {
      by = λ a. a;
      by_W = λ e n. refl;
      by_R = λ e n. refl;
      older? = dec_lt;
      not_older = λ a b new. le a b new (dec_lt a b);
      IsW = λ w r e. e ≡ writing_end (view l c w r);
      IsR = λ w r e. e ≡ reading_end (view l c w r);
      TellsW = λ p n. n ≡ record { 0 = record { 0 = seen l c p } };
      TellsR = λ p n. n ≡ record { 0 = record { 0 = seen l c p } };
      sees_w = λ w r e h. ap (λ (x : WritingEnd). x.scheduler) h;
      sees_r = λ w r e h. ap (λ (x : ReadingEnd). x.scheduler) h;
      alike = λ w r e f h k. ap (λ (x : WritingEnd). x.scheduler) h ∙ sym (ap (λ (x : ReadingEnd). x.scheduler) k);
      send_w_law = λ w r e h near. (_, refl, rw (h, ← sound_is (view l c w r) (sound_view l c w r near)));
      send_r_law = λ w r e h near. (_, refl, rw (h, ← sound_is (view l c w r) (sound_view l c w r near)));
      write_law = λ w r e h near ring src q. inr (_, refl, rw (h, write_view l c w r near ring src q), λ k a. a);
      read_law = λ w r e h near ring dst q. inr (_, refl, rw (h, read_view l c w r near ring dst q), λ k a. a);
      take_w_law = λ w r p e n h near t new hi. (writing_end (view l c w p), refl, rw (h, t, take_read_view l c w r p near (le p r new (dec_lt p r)) hi));
      take_r_law = λ w r p e n h near t new hi. (reading_end (view l c p r), refl, rw (h, t, take_written_view l c w r p near (le p w new (dec_lt p w)) hi));
      old_w_law = λ w r p e n h near t turn lt. absurd (omega arith);
      old_r_law = λ w r p e n h near t turn lt. absurd (omega arith);
    }
  where
    le : (a b : ℕ) → (a < b → ⊥) → Dec (a < b) → b ≤ a
    le a b new (yes q) = absurd (new q)
    le a b new (no q) = omega arith

-- The record that both start with is their view at position 0.
begins : (s : RingBufferScheduler) → IsSound s → s.items_written ≡ s.items_read → s ≡ view s.buf_len s.items_read.0 0 0
begins s h e =
    let q : s.items_read.0 ≡ seen s.buf_len s.items_read.0 0 = sym (rw add-zero (mod-eq_of_lt h.read)) in
    let r : s.items_read ≡ record { 0 = seen s.buf_len s.items_read.0 0 } = ap counter q in
    let v : scheduler_of s.buf_len s.items_written s.items_read ≡ view s.buf_len s.items_read.0 0 0 = λ i. scheduler_of s.buf_len ((e ∙ r) i) (r i) in
    sym (held_is s h) ∙ v
  where
    counter : ℕ → Counter
    counter n = record { 0 = n }

pub demand3_plain : Demand3-of definitions
unfolding laws
demand3_plain s ring t e q =
    let h = taken_sound s t in
    let is = begins s h e in
    shared plain s.buf_len s.items_read.0 (laws s.buf_len s.items_read.0) (writing_end s) (reading_end s) ring (ap writing_end is) (ap reading_end is) (omega arith) h.sized.fits q
