-- Laws of the machine's steps: what a test or a case tells.
use Rattle.std.proofs.Common.{Result, Ok, Err}
use Prim.Native.Nat.{ℕ, zero, suc, ◌+◌, ◌-◌, ◌^◌, ◌<◌, ◌≤◌, ◌%◌, ◌/◌}
use mathlib.Core.Path.{◌≡◌, refl, sym, ap, ◌∙◌}
use mathlib.Core.Bool.{Bool, cond, true, false}
use mathlib.Core.List.{List}
use native.Mathlib.Omega.{arith}
use lib.Dec.{eqb, ltb}
use borrow.Author.Tests.{ltb-true, ltb-false, eqb-true}
use Rattle.sched.proofs.Laws.{sound_both}
use Rattle.sched.proofs.RegisterLaws.{advanced_offset}
use Rattle.operations.specs.declared.operation.OperationType.TheVariants.{Read}
use Rattle.sched.specs.declared.scheduler.RingBufferScheduler.{RingBufferScheduler}
use Rattle.sched.specs.Scheduler.{IsSound, sound_of, data_in, space_in, offset_in}
use Rattle.copies.specs.declared.refusal.Refusal.TheVariants.{RingMemory}
use Rattle.copies.specs.Copies.{ready_from, ready_of}
use Rattle.copies.specs.Ring.{get}
use Rattle.receiver.proofs.ChunkLaws.{announced, held}
use Rattle.sched.specs.Chunk.{body_fits}
use Rattle.sched.proofs.ChunkLaws.{fits_by}
use Rattle.copies.specs.Number.{number_from}
use Rattle.receiver.specs.Receiver.{header_in, byte_in}
use Rattle.receiver.specs.declared.receiver.Beside.{Beside}
use Rattle.receiver.specs.declared.announcement.Announced.{Announced}
use Rattle.states.specs.declared.state.Failure.{Failure}
use Rattle.operations.specs.declared.refusal.Refusal.{Refusal}

-- what is announced of a sound scheduler is sound, of its length, and holds data behind the header
abbrev pub Chunked : RingBufferScheduler → Result Announced Failure → Type 0
Chunked s (Ok m) = IsSound m.scheduler × (m.scheduler.buf_len ≡ s.buf_len) × (1 ≤ data_in m.scheduler) × ((offset_in m.scheduler Read).0 ≡ ((offset_in s Read).0 + 8) % s.buf_len)
Chunked s (Err f) = Unit {0}

by_test : (s : RingBufferScheduler) (x y : Result Announced Failure) (b : Bool) → (b ≡ true → Chunked s x) → (b ≡ false → Chunked s y) → Chunked s (cond b x y)
by_test s x y true f g = f refl
by_test s x y false f g = g refl

some : (n d : ℕ) → eqb n 0 ≡ false → n ≤ d → 1 ≤ d
some zero d z l = cc
some (suc n) d z l = omega (arith, l)

module _ (s : RingBufferScheduler) (h : IsSound s) (b : Beside) where
  header_chunked : (n : ℕ) → 8 ≤ space_in s → Chunked s (header_in s b n)
  header_chunked n g =
      by_test s _ _ (eqb (n / 2 ^ 62) 0)
      (λ e. by_test s _ _ (eqb (n % 2 ^ 48) 0) (λ e. tt)
      (λ z. by_test s _ _ (body_fits (space_in s) (n % 2 ^ 48))
      (λ e. (announced s h g (n % 2 ^ 48) (fits_by _ _ e), refl, some (n % 2 ^ 48) _ z (held s h g (n % 2 ^ 48) (fits_by _ _ e)), advanced_offset s h 8 Read)) (λ e. tt)))
      (λ e. tt)

  pub byte_chunked : (ring : List ℕ) (byte : ℕ) → Chunked s (byte_in ring s byte b)
  byte_chunked ring byte =
      by_test s _ _ (eqb byte 0)
      (λ e. by_test s _ _ (ltb (space_in s) 8) (λ e. tt)
      (λ e. header_chunked (number_from 0 (get s.buf_len ring (offset_in s Read).0 8)) (ltb-false _ _ e)))
      (λ e. tt)

-- a ready record is sound, over memory of its length
pub ready_sound : (s u : RingBufferScheduler) (n : ℕ) → Ok u ≡ ready_of s n → IsSound s × (n ≡ s.buf_len)
unfolding ready_from
ready_sound s u n p = by (sound_of s) refl p
  where
    same : (v : RingBufferScheduler) → Ok v ≡ sound_of s → (b : Bool) → eqb n v.buf_len ≡ b → Ok u ≡ cond b (Ok v) (Err RingMemory) → IsSound s × (n ≡ s.buf_len)
    same v e true q p = ((sound_both v s e).0, eqb-true _ _ q ∙ ap (λ (x : RingBufferScheduler). x.buf_len) (sound_both v s e).1)
    same v e false q p = cc

    by : (c : Result RingBufferScheduler Refusal) → sound_of s ≡ c → Ok u ≡ ready_from n c → IsSound s × (n ≡ s.buf_len)
    by (Ok v) e p = same v (sym e) (eqb n v.buf_len) refl p
    by (Err r) e p = cc

pub below : (n : ℕ) → n < 2 ^ 64 → (n ≡ 2 ^ 64 - 1 → ⊥) → n < 2 ^ 64 - 1
below n t f = by (ltb n (2 ^ 64 - 1)) refl
  where
    by : (b : Bool) → ltb n (2 ^ 64 - 1) ≡ b → n < 2 ^ 64 - 1
    by true e = ltb-true _ _ e
    by false e = absurd (f (omega (arith, t, ltb-false n (2 ^ 64 - 1) e)))
