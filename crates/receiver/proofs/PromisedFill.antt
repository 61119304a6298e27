-- The held fill, of the machine's calls: the record of a receiver that a call answers passes every test, 20 among them. The scheduler
-- that a call in progress copies by is the receiver's as it was, or what the host handed in, which the copy tests.
use Rattle.std.specs.Bool.{⊤}
use Rattle.std.proofs.Common.{Result, Ok, Err, Option, Some, None, ℕ}
use Prim.Native.Nat.{ℕ}
use mathlib.Core.Path.{◌≡◌, refl, sym, subst}
use mathlib.Core.List.{List}
use mathlib.Core.Logic.{inl, inr}
use lib.ListN.{length}
use Rattle.modular.proofs.Saying.{Keeps}
use Rattle.sched.specs.declared.scheduler.RingBufferScheduler.{RingBufferScheduler}
use Rattle.sched.specs.Given.{Passes}
use Rattle.sched.specs.Scheduler.{IsSound, sound_of}
use Rattle.sched.proofs.Laws.{sound}
use Rattle.sched.proofs.PromisedFill.{passes}
use Rattle.states.specs.declared.answer.Answer.{Answer}
use Rattle.states.specs.declared.answer.Received.{Received}
use Rattle.states.specs.declared.state.Failure.TheVariants.{Io}
use Rattle.states.specs.declared.state.OperationalState.TheVariants.{Draining}
use Rattle.receiver.specs.Admission.{admission_of}
use Rattle.receiver.specs.Call.{telling, service_call, advance_call, read_call, admitted_step, wanted, begin_read_of, begin_service_of, begin_shutdown_of, looks_at, resumed_of, answered_from}
use Rattle.receiver.specs.Cases.{Blocks, goes_on, is_drained, TakesReceived, announces, header_violates, byte_violates, receive_blocks, receive_fails, BeginsRead, BeginsService, BeginsShutdown, TakesIn, Answered, Goes, a_want}
use Rattle.receiver.specs.Receiver.{done_outcome, receiver_from}
use Rattle.receiver.specs.declared.call.Call.{Call}
use Rattle.receiver.specs.declared.call.Phase.{Phase}
use Rattle.receiver.specs.declared.call.Phase.TheVariants as phase
use Rattle.receiver.specs.declared.call.Wanted.{Wanted}
use Rattle.receiver.specs.declared.receiver.ReceiverState.{ReceiverState}
use Rattle.receiver.proofs.SoundLaws.{kept, hands_sound, reads_sound, resumes_sound}
use Rattle.receiver.proofs.AdmissionLaws.{passed_sound}
use Rattle.receiver.proofs.CaseSteps.{answers, begins_at, serves_at, shuts_at, then_goes}
use Rattle.receiver.proofs.Says.{ReceiverState-new-says, begin_read_says, begin_service_says, begin_shutdown_says, answered_says}
use Rattle.receiver.proofs.StepLaws.{serves_spends, advances_spends, sent_spends, shut_spends}
use Rattle.receiver.proofs.receiver.ReceiverState.new.Kinds as new_kinds
use Rattle.receiver.proofs.receiver.ReceiverState.new.Reads as new
use Rattle.receiver.proofs.call.Call.begin_read.Kinds as begin_read_kinds
use Rattle.receiver.proofs.call.Call.begin_read.Reads as begin_read
use Rattle.receiver.proofs.call.Call.begin_service.Kinds as begin_service_kinds
use Rattle.receiver.proofs.call.Call.begin_service.Reads as begin_service
use Rattle.receiver.proofs.call.Call.begin_shutdown.Kinds as begin_shutdown_kinds
use Rattle.receiver.proofs.call.Call.begin_shutdown.Reads as begin_shutdown
use Rattle.receiver.proofs.call.Call.answered.Kinds as answered_kinds
use Rattle.receiver.proofs.call.Call.answered.Reads as answered
use Rattle.states.specs.declared.refusal.Refusal as states
use Rattle.operations.specs.declared.refusal.Refusal.{Refusal}

-- ---- by the cases
abbrev pub Sound : Call → Type 0
Sound c = IsSound c.receiver.scheduler

module _ (q : ReceiverState) (h : IsSound q.scheduler) where
  blocks_sound : (s : RingBufferScheduler) (c : Call) → Blocks q s c → Sound c
  blocks_sound s _ (goes_on p) = h
  blocks_sound s c (is_drained p f) = kept c q h (advances_spends q s _ _ _ c f).scheduler

  received_sound : (s : RingBufferScheduler) (ring : List ℕ) (w : Wanted) (x : Received) (c : Call) → TakesReceived q s ring w x c → Sound c
  received_sound s ring w _ c (announces l k o) = hands_sound _ w.dst_len _ c o
  received_sound s ring w _ c (header_violates l k f) = kept c q h (advances_spends q s _ _ _ c f).scheduler
  received_sound s ring w _ c (byte_violates l k f) = kept c q h (advances_spends q s _ _ _ c f).scheduler
  received_sound s ring w _ c (receive_blocks b) = blocks_sound s c b
  received_sound s ring w _ c (receive_fails l f) = kept c q h (advances_spends q s _ _ _ c f).scheduler

pub takes_sound : (d : Call) (ring : List ℕ) (a : Answer) (c : Call) → Sound d → (ph : Phase) → TakesIn ph d ring a c → Sound c
takes_sound d ring a c h (phase.Receive w) (inl (i, e)) = subst Sound (sym e) h
takes_sound d ring a c h (phase.Receive w) (inr (i, (x, s, t))) = received_sound d.receiver h d.source ring w x c t
takes_sound d ring a c h (phase.Send batch e) (inl (i, p)) = subst Sound (sym p) h
takes_sound d ring a c h (phase.Send batch e) (inr (i, (x, s, t))) = kept c d.receiver h (sent_spends d.receiver d.source e x c t).scheduler
takes_sound d ring a c h (phase.Shutdown e) (x, s, t) = kept c d.receiver h (shut_spends d.receiver d.source e x c t).scheduler
takes_sound d ring a c h (phase.Finished o) p = subst Sound (sym p) h

answered_sound : (c : Call) (ring : List ℕ) (a : Answer) (z : Call) → Sound c → Answered c ring a z → Sound z
answered_sound c ring a z h (d, r, t) = takes_sound d ring a z (resumes_sound c d h c.phase r) d.phase t

-- ---- where the tests were passed
admitted : (q : ReceiverState) (m : Option ℕ) (y : Result Call states.Refusal) (P : Call → Type 0) → (IsSound q.scheduler → (c : Call) → P c → Sound c) → Goes P (admitted_step (admission_of q m) y) → Goes Sound (admitted_step (admission_of q m) y)
admitted q m y P f h = by (admission_of q m) refl h
  where
    by : (x : Result ⊤ states.Refusal) → admission_of q m ≡ x → Goes P (admitted_step x y) → Goes Sound (admitted_step x y)
    by (Ok tt) e h = then_goes P Sound y (f (passed_sound q m (sym e))) h
    by (Err r) e h = tt

module _ (q : ReceiverState) where
  pub read_begun_sound : (n top asked : ℕ) → Goes Sound (begin_read_of q n top asked)
  read_begun_sound n top asked = admitted q (Some n) (read_call q (wanted top asked)) (BeginsRead q (a_want top asked)) (λ h c b. reads_sound q h _ c b) (begins_at q n top asked)

  pub service_begun_sound : Goes Sound (begin_service_of q)
  service_begun_sound = admitted q None (Ok (service_call q q.scheduler (telling done_outcome))) (BeginsService q) (λ h c b. kept c q h (serves_spends _ _ _ c b).scheduler) (serves_at q)

  pub shutdown_begun_sound : Goes Sound (begin_shutdown_of q)
  shutdown_begun_sound = admitted q None (Ok (advance_call (Draining (Io 32)) q q.scheduler (telling done_outcome))) (BeginsShutdown q) (λ h c b. kept c q h (advances_spends _ _ _ _ _ c b).scheduler) (shuts_at q)

abbrev pub Holding : Call → Type 0
Holding c = Passes c.receiver.scheduler

holding : (z : Result Call states.Refusal) → Goes Sound z → Goes Holding z
holding z h = then_goes Sound Holding z (λ c k. passes c.receiver.scheduler k) h

-- ---- of the calls
abbrev HoldingIn : Result ReceiverState states.Refusal → Type 0
HoldingIn (Ok q) = Passes q.scheduler
HoldingIn (Err r) = Unit {0}

pub new_passes : Keeps 0 new_kinds.ps new_kinds.r new.Learnt (λ κs a z. HoldingIn z)
new_passes κs a z p = subst HoldingIn (sym (ReceiverState-new-says κs a z p.0 p.1)) (by (sound_of a.0) refl)
  where
    by : (c : Result RingBufferScheduler Refusal) → sound_of a.0 ≡ c → HoldingIn (receiver_from c)
    by (Ok u) e = passes u (sound u a.0 (sym e))
    by (Err r) e = tt

pub begin_read_passes : Keeps 0 begin_read_kinds.ps begin_read_kinds.r begin_read.Learnt (λ κs a z. Goes Holding z)
begin_read_passes κs a z p = holding z (subst (Goes Sound) (sym (begin_read_says κs a z p.0 p.1)) (read_begun_sound a.0 a.1.0 a.1.1.0 a.1.1.1.0))

pub begin_service_passes : Keeps 0 begin_service_kinds.ps begin_service_kinds.r begin_service.Learnt (λ κs a z. Goes Holding z)
begin_service_passes κs a z p = holding z (subst (Goes Sound) (sym (begin_service_says κs a z p.0 p.1)) (service_begun_sound a.0))

pub begin_shutdown_passes : Keeps 0 begin_shutdown_kinds.ps begin_shutdown_kinds.r begin_shutdown.Learnt (λ κs a z. Goes Holding z)
begin_shutdown_passes κs a z p = holding z (subst (Goes Sound) (sym (begin_shutdown_says κs a z p.0 p.1)) (shutdown_begun_sound a.0))

pub answered_passes : Keeps 1 answered_kinds.ps answered_kinds.r answered.Learnt (λ κs a z. Goes Holding z)
answered_passes κs a z p =
    holding z (subst (Goes Sound) (sym (answered_says κs a z p.0 p.1))
    (admitted a.0.receiver (looks_at a.0.phase a.1.1.0 (length a.1.0.now)) (answered_from (resumed_of a.0) a.1.0.now a.1.1.0 a.1.1.1.0) (Answered a.0 a.1.0.now a.1.1.0) (λ h c b. answered_sound a.0 a.1.0.now a.1.1.0 c h b) (answers a.0 a.1.0.now a.1.1.0 a.1.1.1.0)))
