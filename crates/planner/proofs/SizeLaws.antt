-- The ways that the tests of the sizes go.
use Rattle.std.specs.Bool.{⊤}
use Rattle.std.proofs.Common.{Result, Ok, Err}
use Prim.Native.Nat.{ℕ, ◌+◌, ◌^◌, ◌<◌}
use mathlib.Core.Path.{◌≡◌, refl, sym}
use mathlib.Core.Bool.{Bool, true, false, cond}
use lib.Dec.{eqb, ltb, leb}
use borrow.Author.Tests.{eqb-true, eqb-false, ltb-true, ltb-false, leb-true, leb-false}
use native.Mathlib.Omega.{arith}
use Rattle.operations.specs.declared.refusal.Refusal as sched
use Rattle.sched.specs.Chunk.{body_fits}
use Rattle.sched.specs.Scheduler.{scheduler_of, Sized, sound_of}
use Rattle.sched.specs.declared.scheduler.RingBufferScheduler.{RingBufferScheduler}
use Rattle.sched.proofs.ChunkLaws.{fits_by, fits_not_by}
use Rattle.sched.proofs.Laws.{sound_both}
use Rattle.planner.specs.declared.refusal.Refusal.TheVariants.{Scheduler, SizeOutOfBounds, NoPlan}
use Rattle.planner.specs.Promise.{Bounded, Fitting}
use Rattle.planner.specs.Sizes.{in_bounds, sizes_in, sizes_from, sizes_of}
use Rattle.planner.specs.declared.refusal.Refusal.{Refusal}

-- ---- the bounds
data Bounds (rows bytes : ℕ) : Bool → Type 0 where
  within : Bounded rows bytes → Bounds rows bytes true
  outside : (Bounded rows bytes → ⊥) → Bounds rows bytes false

bounds : (rows bytes : ℕ) → Bounds rows bytes (in_bounds rows bytes)
unfolding in_bounds
bounds rows bytes = by (eqb rows 0) refl (ltb 65535 rows) refl (eqb bytes 0) refl (leb bytes (2 ^ 20)) refl
  where
    by :
        (a : Bool) → eqb rows 0 ≡ a → (b : Bool) → ltb 65535 rows ≡ b → (c : Bool) → eqb bytes 0 ≡ c → (d : Bool) → leb bytes (2 ^ 20) ≡ d →
        Bounds rows bytes (cond a false (cond b false (cond c false d)))
    by true e b f c g d h = outside (λ k. omega (arith, k.some_rows, eqb-true rows 0 e))
    by false e true f c g d h = outside (λ k. omega (arith, k.most_rows, ltb-true 65535 rows f))
    by false e false f true g d h = outside (λ k. omega (arith, k.some_bytes, eqb-true bytes 0 g))
    by false e false f false g false h = outside (λ k. omega (arith, k.most_bytes, leb-false bytes (2 ^ 20) h))
    by false e false f false g true h =
        within
        (record {
          some_rows = omega (arith, eqb-false rows 0 e);
          most_rows = ltb-false 65535 rows f;
          some_bytes = omega (arith, eqb-false bytes 0 g);
          most_bytes = leb-true bytes (2 ^ 20) h;
        })

-- ---- all tests
abbrev pub new : ℕ → RingBufferScheduler
new L = scheduler_of L (record { 0 = 0 }) (record { 0 = 0 })

pub data Tested (rows bytes L : ℕ) : Result ⊤ Refusal → Type 0 where
  fit : Fitting rows bytes L → Tested rows bytes L (Ok tt)
  no_ring : (e : sched.Refusal) → sound_of (new L) ≡ Err e → Tested rows bytes L (Err (Scheduler e))
  unbounded : Sized L → (Bounded rows bytes → ⊥) → Tested rows bytes L (Err (SizeOutOfBounds rows bytes))
  no_plan : Sized L → Bounded rows bytes → L < bytes + 8 → Tested rows bytes L (Err (NoPlan bytes L))

module _ (rows bytes L : ℕ) where
  sized_tested : Sized L → Tested rows bytes L (sizes_in rows bytes L)
  unfolding sizes_in
  sized_tested s = by (in_bounds rows bytes) (bounds rows bytes) (body_fits L bytes) refl
    where
      by :
          (a : Bool) → Bounds rows bytes a → (b : Bool) → body_fits L bytes ≡ b →
          Tested rows bytes L (cond a (cond b (Ok tt) (Err (NoPlan bytes L))) (Err (SizeOutOfBounds rows bytes)))
      by a (within k) true e = fit (record { sized = s; bounded = k; row = fits_by L bytes e })
      by a (within k) false e = no_plan s k (fits_not_by L bytes e)
      by a (outside k) b e = unbounded s k

  pub tested : Tested rows bytes L (sizes_of rows bytes L)
  tested = by (sound_of (new L)) refl
    where
      by : (c : Result RingBufferScheduler sched.Refusal) → sound_of (new L) ≡ c → Tested rows bytes L (sizes_from rows bytes L c)
      by (Ok u) e = sized_tested (sound_both u (new L) (sym e)).0.sized
      by (Err r) e = no_ring r e

  -- what fits is what passes
  pub fitting : {u : RingBufferScheduler} → Ok u ≡ sound_of (new L) → in_bounds rows bytes ≡ true → body_fits L bytes ≡ true → Fitting rows bytes L
  fitting {u} e b f = record { sized = (sound_both u (new L) e).0.sized; bounded = by (in_bounds rows bytes) (bounds rows bytes) b; row = fits_by L bytes f }
    where
      by : (a : Bool) → Bounds rows bytes a → a ≡ true → Bounded rows bytes
      by a (within k) p = k
      by a (outside k) p = let n : ◌≡◌ {A = ℕ} 0 1 = cc in absurd (omega arith)
