-- The numbers of a list that is registered, 7 and 8 and then 6 operation by operation, are given exactly when the paper says so, over the
-- definitions.
use Rattle.std.proofs.Common.{◌≡◌, ℕ, ◌<◌, ◌≤◌, List, [], sym, refl, ap, ◌∙◌, ⊎_elim, arith, Result, Ok, Err}
use Rattle.modular.proofs.Laws.{lt_or_le}
use Rattle.operations.specs.Lists.{ScheduledOperations}
use Rattle.operations.specs.declared.list.AtMostTwo.TheVariants as list
use Rattle.operations.specs.declared.operation.ScheduledOperation.{ScheduledOperation}
use Rattle.operations.specs.declared.refusal.Refusal.{Refusal}
use Rattle.operations.specs.declared.refusal.Refusal.TheVariants.{OperationTooLarge}
use Rattle.operations.proofs.Given.{of_list, list_only, list_exactly, list_kept, list_passed, Told, told, number_some, type_number_lem}
use Rattle.sched.specs.declared.scheduler.RingBufferScheduler.{RingBufferScheduler}
use Rattle.operations.specs.Given.{Verdict, accepted, refused, number_in, values_in, Exactly, GivenList, of_result}
use Rattle.sched.specs.Given.{Given, GivenRegister, given_6, GivenOperations, the_record, the_list, nothing, alone, at_first, at_second}
use Rattle.operations.specs.List.{listed, sound_list_of}
use Rattle.sched.specs.Promise.{MovedBy}
use Rattle.sched.specs.Scheduler.{register_in, IsSound, sound_of, greatest_in, advanced_in, register_of, register_list_in, register_list_of, then_register}
use Rattle.sched.proofs.Laws.{sound_is, sound_both}
use Rattle.sched.proofs.RegisterLaws.{advanced_sound, moved, moved_is}
use Rattle.sched.proofs.Promises.{too_large, registers}
use Rattle.sched.proofs.Given.{record_exactly, register_exactly}

-- ---- a list that is registered
module _ (s : RingBufferScheduler) where
  abbrev of_ops : ScheduledOperations → Verdict
  of_ops ops = of_result (register_list_of s ops)

  record_refused : (ops : ScheduledOperations) (e : Refusal) → sound_of s ≡ Err e → of_ops ops ≡ refused e
  record_refused ops e p = rw p

  module _ (h : IsSound s) where
    pub tests_list : (ops : ScheduledOperations) → register_list_of s ops ≡ listed (sound_list_of ops) (register_list_in s) Err
    tests_list ops = rw (← sound_is s h)

    list_refused : (ops : ScheduledOperations) (e : Refusal) → sound_list_of ops ≡ Err e → of_ops ops ≡ refused e
    list_refused ops e p = rw (tests_list ops, p)

    pub registers_one : (a : ScheduledOperation) → register_list_of s (list.One a) ≡ register_of s a.typ a.len
    registers_one a = rw (← sound_is s h)

    module _ (a b : ScheduledOperation) (l : sound_list_of (list.Two a b) ≡ Ok (list.Two a b)) where
      pub registers_two : register_list_of s (list.Two a b) ≡ then_register (register_of s a.typ a.len) b
      registers_two = rw (← sound_is s h, l)

      first_refused : (e : Refusal) → register_of s a.typ a.len ≡ Err e → of_ops (list.Two a b) ≡ refused e
      first_refused e p = ap of_result (registers_two ∙ ap (λ (x : Result RingBufferScheduler Refusal). then_register x b) p)

      second_asked : a.len ≤ greatest_in s a.typ → register_list_of s (list.Two a b) ≡ register_of (advanced_in s a.typ a.len) b.typ b.len
      second_asked f =
          let after : register_in (advanced_in s a.typ a.len) b.typ b.len ≡ register_of (advanced_in s a.typ a.len) b.typ b.len = rw (← sound_is (advanced_in s a.typ a.len) (advanced_sound s h a.len a.typ f)) in
          registers_two ∙ ap (λ (x : Result RingBufferScheduler Refusal). then_register x b) (registers s h a.typ a.len f) ∙ after

    sound_only : (ops : ScheduledOperations) → GivenOperations s ops (number_in (of_ops ops)) (values_in (of_ops ops))
    sound_only list.None = rw (ap of_result (tests_list list.None)) (nothing h)
    sound_only (list.One a) = rw (ap of_result (registers_one a)) (alone h (register_exactly s a.typ a.len).only)
    sound_only (list.Two a b) = go (sound_list_of (list.Two a b)) refl (list_only (list.Two a b))
      where
        both : (l : sound_list_of (list.Two a b) ≡ Ok (list.Two a b)) → GivenList (list.Two a b) 0 [] → GivenOperations s (list.Two a b) (number_in (of_ops (list.Two a b))) (values_in (of_ops (list.Two a b)))
        both l g =
            ⊎_elim
            (λ f. rw (first_refused a b l (OperationTooLarge a.typ a.len (greatest_in s a.typ)) (too_large s h a.typ a.len f)) (at_first {k = 6} h g (omega arith) (given_6 h (type_number_lem a.typ) f)))
            (λ f. rw (ap of_result (second_asked a b l f)) (at_second h g f (advanced_in s a.typ a.len) (moved s h a.len a.typ f) (register_exactly (advanced_in s a.typ a.len) b.typ b.len).only))
            (lt_or_le (greatest_in s a.typ) a.len)

        go : (x : Result ScheduledOperations Refusal) → sound_list_of (list.Two a b) ≡ x → GivenList (list.Two a b) (number_in (of_list (list.Two a b))) (values_in (of_list (list.Two a b))) → GivenOperations s (list.Two a b) (number_in (of_ops (list.Two a b))) (values_in (of_ops (list.Two a b)))
        go (Ok ops) p g = both (p ∙ ap Ok (list_kept a b ops p)) (rw p at g)
        go (Err e) p g = rw (list_refused (list.Two a b) e p) (the_list h (number_some e) (rw p at g))

    alone_always : (a : ScheduledOperation) (k : ℕ) (vs : List ℕ) → GivenRegister s a.typ a.len k vs → Told (of_ops (list.One a)) k vs
    alone_always a k vs g = rw (ap of_result (registers_one a)) ((register_exactly s a.typ a.len).always k vs g)

    list_always_refused : (ops : ScheduledOperations) (k : ℕ) (vs : List ℕ) → 0 < k → GivenList ops k vs → Told (of_ops ops) k vs
    list_always_refused ops k vs p g = go (sound_list_of ops) refl ((list_exactly ops).always k vs g)
      where
        go : (x : Result ScheduledOperations Refusal) → sound_list_of ops ≡ x → Told (of_list ops) k vs → Told (of_ops ops) k vs
        go (Ok l) q d = absurd (omega (arith, ap (λ (c : Result ScheduledOperations Refusal). number_in (of_result c)) q, d.0))
        go (Err e) q d = rw (list_refused ops e q) (rw q at d)

    module _ (a b : ScheduledOperation) (l : sound_list_of (list.Two a b) ≡ Ok (list.Two a b)) (k : ℕ) (vs : List ℕ) where
      first_always : 0 < k → GivenRegister s a.typ a.len k vs → Told (of_ops (list.Two a b)) k vs
      first_always p g = go (register_of s a.typ a.len) refl ((register_exactly s a.typ a.len).always k vs g)
        where
          go : (x : Result RingBufferScheduler Refusal) → register_of s a.typ a.len ≡ x → Told (of_result (register_of s a.typ a.len)) k vs → Told (of_ops (list.Two a b)) k vs
          go (Ok u) q d = absurd (omega (arith, ap (λ (c : Result RingBufferScheduler Refusal). number_in (of_result c)) q, d.0))
          go (Err e) q d = rw (first_refused a b l e q) (rw q at d)

      second_always : a.len ≤ greatest_in s a.typ → (u : RingBufferScheduler) → MovedBy s a.typ a.len u → GivenRegister u b.typ b.len k vs → Told (of_ops (list.Two a b)) k vs
      second_always f u m g = rw (ap of_result (second_asked a b l f), ← moved_is s u a.typ a.len m) ((register_exactly u b.typ b.len).always k vs g)

  operations_only : (ops : ScheduledOperations) → GivenOperations s ops (number_in (of_ops ops)) (values_in (of_ops ops))
  operations_only ops = go (sound_of s) refl
    where
      go : (c : Result RingBufferScheduler Refusal) → sound_of s ≡ c → GivenOperations s ops (number_in (of_ops ops)) (values_in (of_ops ops))
      go (Ok u) p = sound_only (sound_both u s (sym p)).0 ops
      go (Err e) p = rw (record_refused ops e p) (the_record (number_some e) (rw p at (record_exactly s).only))

  record_always : (ops : ScheduledOperations) (k : ℕ) (vs : List ℕ) → 0 < k → Given s k vs → Told (of_ops ops) k vs
  record_always ops k vs p g = go (sound_of s) refl ((record_exactly s).always k vs g)
    where
      go : (c : Result RingBufferScheduler Refusal) → sound_of s ≡ c → Told (of_result (sound_of s)) k vs → Told (of_ops ops) k vs
      go (Ok u) q d = absurd (omega (arith, ap (λ (c : Result RingBufferScheduler Refusal). number_in (of_result c)) q, d.0))
      go (Err e) q d = rw (record_refused ops e q) (rw q at d)

  operations_always : {ops : ScheduledOperations} {k : ℕ} {vs : List ℕ} → GivenOperations s ops k vs → Told (of_ops ops) k vs
  operations_always (the_record {ops} {k} {vs} p g) = record_always ops k vs p g
  operations_always (the_list {ops} {k} {vs} h p g) = list_always_refused h ops k vs p g
  operations_always (nothing h) = told (of_ops list.None) accepted (ap of_result (tests_list h list.None))
  operations_always (alone {a} {k} {vs} h g) = alone_always h a k vs g
  operations_always (at_first {a} {b} {k} {vs} h l p g) = first_always h a b (list_passed a b l) k vs p g
  operations_always (at_second {a} {b} {k} {vs} h l f u m g) = second_always h a b (list_passed a b l) k vs f u m g

  pub operations_exactly : (ops : ScheduledOperations) → Exactly (GivenOperations s ops) (of_result (register_list_of s ops))
  operations_exactly ops = record { only = operations_only ops; always = λ k vs g. operations_always g }
