-- "Given exactly when", of the tests before every call, of the beginnings, and of an answer: first of the definitions, then of whatever
-- an attached contract allows.
use Rattle.std.specs.Bool.{⊤}
use Rattle.std.proofs.Common.{Result, Ok, Err, Option, Some, None, ℕ}
use Prim.Native.Nat.{ℕ, ◌-◌, ◌^◌}
use mathlib.Core.Path.{◌≡◌, refl, sym, ap, subst, ◌∙◌}
use mathlib.Core.Bool.{Bool, true, false}
use mathlib.Core.Logic.{◌⊎◌, inl, inr}
use mathlib.Core.List.{List, [], ◌∷◌}
use native.Mathlib.Omega.{arith}
use lib.Dec.{eqb}
use borrow.Author.Tests.{eqb-true, eqb-false}
use Rattle.states.proofs.PromisedValues.{number_of_lem}
use Rattle.modular.proofs.Saying.{Keeps}
use Rattle.sched.specs.declared.scheduler.RingBufferScheduler.{RingBufferScheduler}
use Rattle.sched.specs.Scheduler.{sound_of, data_in}
use Rattle.copies.specs.Given.{Verdict, verdict, Exactly, of_copy, of_scheduler}
use Rattle.copies.proofs.Promised.{checks, checked_given, ready_given}
use Rattle.states.proofs.AnswerSays.{state_fits}
use Rattle.receiver.proofs.Says.{begin_read_says, begin_service_says, begin_shutdown_says}
use Rattle.receiver.specs.Admission.{sound_ready, ready_with, admission_from, admission_of}
use Rattle.receiver.specs.Call.{live_call, read_by, read_call, admitted_step, wanted}
use Rattle.receiver.specs.Given.{GivenRing, GivenAdmission, admits, by_ring, given_12_stored, Live, Full, GivenRead, begins, by_admission, given_13, of_receiver}
use Rattle.states.specs.Refusal.{number_of, values_of}
use Rattle.states.specs.State.{fits_state}
use Rattle.receiver.specs.declared.call.Call.{Call}
use Rattle.receiver.specs.declared.call.Wanted.{Wanted}
use Rattle.receiver.specs.declared.receiver.ReceiverState.{ReceiverState}
use Rattle.states.specs.declared.refusal.Refusal.{Refusal}
use Rattle.states.specs.declared.refusal.Refusal.TheVariants.{Copy}
use Rattle.states.specs.declared.state.OperationalState.{OperationalState}
use Rattle.states.specs.declared.state.OperationalState.TheVariants.{Normal, Draining, Terminated}
use Rattle.receiver.proofs.call.Call.begin_read.Kinds as begin_read_kinds
use Rattle.receiver.proofs.call.Call.begin_read.Reads as begin_read
use Rattle.receiver.proofs.call.Call.begin_service.Kinds as begin_service_kinds
use Rattle.receiver.proofs.call.Call.begin_service.Reads as begin_service
use Rattle.receiver.proofs.call.Call.begin_shutdown.Kinds as begin_shutdown_kinds
use Rattle.receiver.proofs.call.Call.begin_shutdown.Reads as begin_shutdown
use Rattle.operations.specs.declared.refusal.Refusal as sched
use Rattle.copies.specs.declared.refusal.Refusal as copies

-- every number that refuses is some number
-- what is given as number 0 is not given as another
module _ {G : ℕ → List ℕ → Type 0} (v : Verdict) (e : Exactly G v) where
  is_number : (k : ℕ) (vs : List ℕ) → G k vs → v.number ≡ k
  is_number k vs g = ap (λ (x : Verdict). x.number) (e.always k vs g)

-- ---- the tests
same_ready : (c : Result RingBufferScheduler sched.Refusal) → of_scheduler c ≡ of_copy (sound_ready c)
same_ready (Ok s) = refl
same_ready (Err e) = refl

ring_exactly : (s : RingBufferScheduler) (m : Option ℕ) → Exactly (GivenRing s m) (of_copy (ready_with m s))
ring_exactly s None = subst (Exactly (GivenRing s None)) (same_ready (sound_of s)) (checked_given s (sound_of s) (checks s))
ring_exactly s (Some n) = ready_given s n

module _ (q : ReceiverState) (m : Option ℕ) where
  admission_by : (z : Result RingBufferScheduler copies.Refusal) (b : Bool) → Exactly (GivenRing q.scheduler m) (of_copy z) → fits_state q.state ≡ b → Exactly (GivenAdmission q m) (of_receiver (admission_from z b))
  admission_by (Ok u) true e f = record { only = admits e.only ((state_fits q.state true f).0 refl); always = λ k vs g. so g }
    where
      so : {k : ℕ} {vs : List ℕ} → GivenAdmission q m k vs → verdict 0 [] ≡ verdict k vs
      so (admits r h) = refl
      so {k} {vs} (by_ring p g) = absurd (omega (arith, is_number (verdict 0 []) e k vs g))
      so (given_12_stored r unfit) = absurd (unfit ((state_fits q.state true f).0 refl))
  admission_by (Ok u) false e f = record { only = given_12_stored e.only ((state_fits q.state false f).1 refl); always = λ k vs g. so g }
    where
      so : {k : ℕ} {vs : List ℕ} → GivenAdmission q m k vs → verdict 12 (0 ∷ []) ≡ verdict k vs
      so (admits r h) = absurd ((state_fits q.state false f).1 refl h)
      so {k} {vs} (by_ring p g) = absurd (omega (arith, is_number (verdict 0 []) e k vs g))
      so (given_12_stored r unfit) = refl
  admission_by (Err x) b e f = record { only = by_ring (number_of_lem (Copy x)) e.only; always = λ k vs g. so g }
    where
      so : {k : ℕ} {vs : List ℕ} → GivenAdmission q m k vs → verdict (number_of (Copy x)) (values_of (Copy x)) ≡ verdict k vs
      so (admits r h) = absurd (omega (arith, number_of_lem (Copy x), is_number (of_copy {A = RingBufferScheduler} (Err x)) e 0 [] r))
      so {k} {vs} (by_ring p g) = e.always k vs g
      so (given_12_stored r unfit) = absurd (omega (arith, number_of_lem (Copy x), is_number (of_copy {A = RingBufferScheduler} (Err x)) e 0 [] r))

  pub admission_exactly : Exactly (GivenAdmission q m) (of_receiver (admission_of q m))
  admission_exactly = admission_by (ready_with m q.scheduler) (fits_state q.state) (ring_exactly q.scheduler m) refl

  -- so where it passed, 0 is given, and else the refusal's number
  pub passed : admission_of q m ≡ Ok tt → GivenAdmission q m 0 []
  passed e = subst (λ (x : Result ⊤ Refusal). GivenAdmission q m (of_receiver x).number (of_receiver x).values) e admission_exactly.only

  pub passed_only : admission_of q m ≡ Ok tt → (k : ℕ) (vs : List ℕ) → GivenAdmission q m k vs → k ≡ 0
  passed_only e k vs g = sym (ap (λ (x : Verdict). x.number) (ap of_receiver (sym e) ∙ admission_exactly.always k vs g))

  pub refused : (r : Refusal) → admission_of q m ≡ Err r → GivenAdmission q m (number_of r) (values_of r)
  refused r e = subst (λ (x : Result ⊤ Refusal). GivenAdmission q m (of_receiver x).number (of_receiver x).values) e admission_exactly.only

  pub refused_always : (r : Refusal) → admission_of q m ≡ Err r → (k : ℕ) (vs : List ℕ) → GivenAdmission q m k vs → verdict (number_of r) (values_of r) ≡ verdict k vs
  refused_always r e k vs g = ap of_receiver (sym e) ∙ admission_exactly.always k vs g

  pub refused_not_0 : (r : Refusal) → admission_of q m ≡ Err r → GivenAdmission q m 0 [] → ⊥
  refused_not_0 r e g = omega (arith, number_of_lem r, ap (λ (x : Verdict). x.number) (refused_always r e 0 [] g))

  -- ---- a call that is refused by the tests alone
  told : (c : Call) (x : Result ⊤ Refusal) → of_receiver x ≡ of_receiver (admitted_step x (Ok c))
  told c (Ok tt) = refl
  told c (Err r) = refl

  begun_exactly : (c : Call) → Exactly (GivenAdmission q m) (of_receiver (admitted_step (admission_of q m) (Ok c)))
  begun_exactly c = subst (Exactly (GivenAdmission q m)) (told c (admission_of q m)) admission_exactly

-- ---- a read
module _ (q : ReceiverState) (n : ℕ) (w : Wanted) where
  abbrev asked : ℕ
  asked = w.dst_len

  -- the rules refuse with 13 where the count is full, and with nothing else
  abbrev pub Rules : Result Call Refusal → Type 0
  Rules x = (Full q asked × (of_receiver x ≡ verdict 13 [])) ⊎ ((Full q asked → ⊥) × (of_receiver x ≡ verdict 0 []))

  live_told : Live q.state → Rules (live_call q w)
  live_told l = by (eqb asked 0) refl (eqb q.pending_ack_count (2 ^ 64 - 1)) refl (eqb (data_in q.scheduler) 0) refl
    where
      by : (b : Bool) → eqb asked 0 ≡ b → (c : Bool) → eqb q.pending_ack_count (2 ^ 64 - 1) ≡ c → (d : Bool) → eqb (data_in q.scheduler) 0 ≡ d → Rules (live_call q w)
      by true e c f d g = rw e (inr ((λ h. h.1 (eqb-true _ _ e)), refl))
      by false e true f d g = rw (e, f) (inl ((l, (eqb-false _ _ e), eqb-true _ _ f), refl))
      by false e false f true g = rw (e, f, g) (inr ((λ h. eqb-false _ _ f h.2), refl))
      by false e false f false g = rw (e, f, g) (inr ((λ h. eqb-false _ _ f h.2), refl))

  pub read_told : (st : OperationalState) → q.state ≡ st → Rules (read_by st q w)
  read_told Normal e = live_told (subst Live (sym e) tt)
  read_told (Draining f) e = live_told (subst Live (sym e) tt)
  read_told (Terminated f) e = inr ((λ h. subst Live e h.0), refl)

  abbrev m : Option ℕ
  m = Some n

  read_full : GivenAdmission q m 0 [] → Full q asked → Exactly (GivenRead q n asked) (verdict 13 [])
  read_full a f = record { only = given_13 a f; always = λ k vs g. so g }
    where
      so : {k : ℕ} {vs : List ℕ} → GivenRead q n asked k vs → verdict 13 [] ≡ verdict k vs
      so (begins b room) = absurd (room f)
      so {k} {vs} (by_admission p g) = absurd (omega (arith, ap (λ (x : Verdict). x.number) (sym ((admission_exactly q m).always k vs g) ∙ (admission_exactly q m).always 0 [] a)))
      so (given_13 b h) = refl

  read_begins : GivenAdmission q m 0 [] → (Full q asked → ⊥) → Exactly (GivenRead q n asked) (verdict 0 [])
  read_begins a room = record { only = begins a room; always = λ k vs g. so g }
    where
      so : {k : ℕ} {vs : List ℕ} → GivenRead q n asked k vs → verdict 0 [] ≡ verdict k vs
      so (begins b h) = refl
      so {k} {vs} (by_admission p g) = absurd (omega (arith, ap (λ (x : Verdict). x.number) (sym ((admission_exactly q m).always k vs g) ∙ (admission_exactly q m).always 0 [] a)))
      so (given_13 b h) = absurd (room h)

  read_by_lem : (x : Result ⊤ Refusal) → admission_of q m ≡ x → Exactly (GivenRead q n asked) (of_receiver (admitted_step x (read_call q w)))
  read_by_lem (Ok tt) e = by (read_told q.state refl)
    where
      by : Rules (read_call q w) → Exactly (GivenRead q n asked) (of_receiver (read_call q w))
      by (inl h) = subst (Exactly (GivenRead q n asked)) (sym h.1) (read_full (passed q m e) h.0)
      by (inr h) = subst (Exactly (GivenRead q n asked)) (sym h.1) (read_begins (passed q m e) h.0)
  read_by_lem (Err r) e = record { only = by_admission (number_of_lem r) (refused q m r e); always = λ k vs g. so g }
    where
      so : {k : ℕ} {vs : List ℕ} → GivenRead q n asked k vs → verdict (number_of r) (values_of r) ≡ verdict k vs
      so (begins b room) = absurd (refused_not_0 q m r e b)
      so {k} {vs} (by_admission p g) = refused_always q m r e k vs g
      so (given_13 b h) = absurd (refused_not_0 q m r e b)

-- ---- of the calls
pub begin_service_given : Keeps 0 begin_service_kinds.ps begin_service_kinds.r begin_service.Learnt (λ κs a z. Exactly (GivenAdmission a.0 None) (of_receiver z))
begin_service_given κs a z p = subst (λ (x : Result Call Refusal). Exactly (GivenAdmission a.0 None) (of_receiver x)) (sym (begin_service_says κs a z p.0 p.1)) (begun_exactly a.0 None _)

pub begin_shutdown_given : Keeps 0 begin_shutdown_kinds.ps begin_shutdown_kinds.r begin_shutdown.Learnt (λ κs a z. Exactly (GivenAdmission a.0 None) (of_receiver z))
begin_shutdown_given κs a z p = subst (λ (x : Result Call Refusal). Exactly (GivenAdmission a.0 None) (of_receiver x)) (sym (begin_shutdown_says κs a z p.0 p.1)) (begun_exactly a.0 None _)

pub begin_read_given : Keeps 0 begin_read_kinds.ps begin_read_kinds.r begin_read.Learnt (λ κs a z. Exactly (GivenRead a.0 a.1.0 a.1.1.1.0) (of_receiver z))
begin_read_given κs a z p =
    subst (λ (x : Result Call Refusal). Exactly (GivenRead a.0 a.1.0 a.1.1.1.0) (of_receiver x)) (sym (begin_read_says κs a z p.0 p.1))
    (read_by_lem a.0 a.1.0 (wanted a.1.1.0 a.1.1.1.0) (admission_of a.0 (Some a.1.0)) refl)
