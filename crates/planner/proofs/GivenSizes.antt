-- The numbers of the sizes, 1, 2, 14 and 15, are given exactly when specs/Given.antt says so: over the definitions.
use Rattle.std.specs.Bool.{⊤}
use Rattle.std.proofs.Common.{Result, Ok, Err}
use Prim.Native.Nat.{ℕ, ◌*◌, ◌<◌}
use mathlib.Core.Path.{◌≡◌, refl, sym, ap}
use mathlib.Core.List.{List, [], ◌∷◌}
use native.Mathlib.Omega.{arith}
use Rattle.modular.proofs.Laws.{sub_unique}
use Rattle.operations.specs.declared.refusal.Refusal as sched
use Rattle.operations.specs.Refusal as sched_refusal
use Rattle.operations.proofs.Given as operations
use Rattle.sched.specs.Given as sched_given
use Rattle.sched.specs.Scheduler.{Sized, IsSound, sound_of, data_in}
use Rattle.sched.proofs.Given.{counters_exactly}
use Rattle.sched.proofs.Laws.{sound_is}
use Rattle.planner.specs.declared.refusal.Refusal.{Refusal}
use Rattle.planner.specs.Given.{Told, told, GivenSizes, fit, given_1, given_2, given_14, given_15}
use Rattle.planner.specs.Promise.{Fitting}
use Rattle.planner.specs.Refusal.{number_of, values_of}
use Rattle.planner.proofs.PromisedValues.{number_some}
use Rattle.planner.proofs.SizeLaws.{new, Tested}
use Rattle.planner.proofs.SizeLaws as size

-- ---- the sizes
abbrev pub of_sizes : Result ⊤ Refusal → Told
of_sizes (Ok tt) = told 0 []
of_sizes (Err e) = told (number_of e) (values_of e)

-- a new scheduler holds no data
no_data : (L : ℕ) → Sized L → data_in (new L) ≡ 0
no_data L s = sub_unique (2 * L) 0 0 0 (omega (arith, s.some)) (omega (arith, s.some)) refl

module _ (rows bytes L : ℕ) where
  -- of a new scheduler only 1 and 2 can be
  ring_given : {n : ℕ} {vs : List ℕ} → 0 < n → sched_given.GivenCounters L (record { 0 = 0 }) (record { 0 = 0 }) n vs → GivenSizes rows bytes L n vs
  ring_given p (sched_given.counted h) = absurd (omega arith)
  ring_given p (sched_given.given_1 e) = given_1 e
  ring_given p (sched_given.given_2 l) = given_2 l
  ring_given p (sched_given.given_3 s l) = absurd (omega (arith, s.some, l))
  ring_given p (sched_given.given_4 s w l) = absurd (omega (arith, s.some, l))
  ring_given p (sched_given.given_5 s w r l) = absurd (omega (arith, l, no_data L s))

  pub sizes_only : (z : Result ⊤ Refusal) → Tested rows bytes L z → GivenSizes rows bytes L (of_sizes z).number (of_sizes z).values
  sizes_only z (size.fit f) = fit f
  sizes_only z (size.no_ring e q) = ring_given (operations.number_some e) (rw q at (counters_exactly L (record { 0 = 0 }) (record { 0 = 0 })).only)
  sizes_only z (size.unbounded s k) = given_14 s k
  sizes_only z (size.no_plan s b l) = given_15 s b l

  -- a ring that is refused has no length that is one
  sized_not : (e : sched.Refusal) → sound_of (new L) ≡ Err e → Sized L → ⊥
  sized_not e q s =
      let sound : IsSound (new L) = record { sized = s; written = omega (arith, s.some); read = omega (arith, s.some); within = omega (arith, no_data L s); held = refl } in
      let z : ◌≡◌ {A = ℕ} 0 1 = cc (sound_is (new L) sound) in
      omega arith

  ring_always : (e : sched.Refusal) → sound_of (new L) ≡ Err e → (n : ℕ) (vs : List ℕ) → sched_given.GivenCounters L (record { 0 = 0 }) (record { 0 = 0 }) n vs → told (sched_refusal.number_of e) (sched_refusal.values_of e) ≡ told n vs
  ring_always e q n vs g =
      let t = rw q at ((counters_exactly L (record { 0 = 0 }) (record { 0 = 0 })).always n vs g) in
      rw (t.0, t.1)

  pub sizes_always : (z : Result ⊤ Refusal) → Tested rows bytes L z → {n : ℕ} {vs : List ℕ} → GivenSizes rows bytes L n vs → of_sizes z ≡ told n vs
  sizes_always z (size.fit f) (fit g) = refl
  sizes_always z (size.fit f) (given_1 e) = absurd (omega (arith, f.sized.some, e))
  sizes_always z (size.fit f) (given_2 l) = absurd (omega (arith, f.sized.fits, l))
  sizes_always z (size.fit f) (given_14 s k) = absurd (k f.bounded)
  sizes_always z (size.fit f) (given_15 s b l) = absurd (omega (arith, f.row, l))
  sizes_always z (size.no_ring e q) (fit g) = absurd (sized_not e q g.sized)
  sizes_always z (size.no_ring e q) (given_1 p) = ring_always e q 1 [] (sched_given.given_1 p)
  sizes_always z (size.no_ring e q) (given_2 l) = ring_always e q 2 (L ∷ []) (sched_given.given_2 l)
  sizes_always z (size.no_ring e q) (given_14 s k) = absurd (sized_not e q s)
  sizes_always z (size.no_ring e q) (given_15 s b l) = absurd (sized_not e q s)
  sizes_always z (size.unbounded s k) (fit g) = absurd (k g.bounded)
  sizes_always z (size.unbounded s k) (given_1 e) = absurd (omega (arith, s.some, e))
  sizes_always z (size.unbounded s k) (given_2 l) = absurd (omega (arith, s.fits, l))
  sizes_always z (size.unbounded s k) (given_14 t h) = refl
  sizes_always z (size.unbounded s k) (given_15 t b l) = absurd (k b)
  sizes_always z (size.no_plan s b l) (fit g) = absurd (omega (arith, g.row, l))
  sizes_always z (size.no_plan s b l) (given_1 e) = absurd (omega (arith, s.some, e))
  sizes_always z (size.no_plan s b l) (given_2 h) = absurd (omega (arith, s.fits, h))
  sizes_always z (size.no_plan s b l) (given_14 t k) = absurd (k b)
  sizes_always z (size.no_plan s b l) (given_15 t c h) = refl

  -- what fits is refused by none of these
  pub fit_only : Fitting rows bytes L → {n : ℕ} {vs : List ℕ} → GivenSizes rows bytes L n vs → n ≡ 0
  fit_only f g = sym (ap (λ (t : Told). t.number) (sizes_always (Ok tt) (size.fit f) g))

  pub refused_not : (e : Refusal) → Tested rows bytes L (Err e) → Fitting rows bytes L → ⊥
  refused_not e t f = omega (arith, number_some e, ap (λ (x : Told). x.number) (sizes_always (Err e) t (fit f)))
