-- What the machine makes it can take up again: a call that the cases of specs/Cases.antt make of itself, the rules do, and every case makes
-- such a call.
use Rattle.std.specs.Bool.{⊤}
use Rattle.std.proofs.Common.{Result, Ok, Err, Option, Some, None, ℕ}
use Prim.Native.Nat.{ℕ}
use mathlib.Core.Path.{◌≡◌, refl, sym, ap, subst, ◌∙◌}
use mathlib.Core.Bool.{true}
use mathlib.Core.List.{List}
use mathlib.Core.Logic.{inl, inr}
use native.Mathlib.Omega.{arith}
use lib.ListN.{length}
use Rattle.sched.specs.declared.scheduler.RingBufferScheduler.{RingBufferScheduler}
use Rattle.sched.specs.Scheduler.{data_in}
use Rattle.states.proofs.AnswerSays.{received_says, interrupted_says}
use Rattle.receiver.proofs.CaseSteps.{then_goes, batch_is, resumes_by, made_resumes, made_takes, begins_at, serves_at, shuts_at}
use Rattle.receiver.proofs.GivenAnswer.{Refuses, resumed_told}
use Rattle.receiver.proofs.Made.{Tested, Made, passed_tested, passes}
use Rattle.receiver.proofs.ResumedLaws.{answered_on, steps_back}
use Rattle.receiver.proofs.StepLaws.{Settled, hands}
use Rattle.receiver.specs.Admission.{admission_of}
use Rattle.states.specs.Answer.{received_of}
use Rattle.receiver.specs.Call.{telling, call, admitted_step, begin_read_of, begin_service_of, begin_shutdown_of, retries_in, retries_of, looks_by, looks_at, resumed_by, answered_of}
use Rattle.receiver.specs.Cases.{Closes, is_normal, shut_before, asks, Flushes, none_pending, sends, Serves, failed_before, flushes, Advances, TakesSent, none_went, some_went, send_blocks, send_fails, TakesShut, is_shut, is_not, HandsOut, a_part, all_of_it, goes_on, is_drained, TakesReceived, announces, header_violates, byte_violates, receive_blocks, receive_fails, Reading, a_want, BeginsRead, is_terminated, none_asked, awaits, holds_data, BeginsService, BeginsShutdown, ResumesIn, Resumes, TakesIn, Takes, Goes}
use Rattle.states.specs.Promise.{Errno, FailureFits, Stored, Reason, end_and_end, end_gives_way, error_and_end, error_stays, Holds, holds_none, draining_holds, terminated_holds, Advanced, calm_by_calm, calm_by_draining, calm_by_terminated, terminated_stays, draining_stays, draining_by_draining, draining_by_terminated, SaysReceived, a_byte, closed, receive_failed, no_receive, SaysSent, send_failed}
use Rattle.states.specs.Promise.{Batch, all, most}
use Rattle.receiver.specs.Promise.{nothing_more}
use Rattle.receiver.specs.Receiver.{done_outcome}
use Rattle.states.specs.declared.answer.Answer.{Answer}
use Rattle.states.specs.declared.answer.Received.{Received}
use Rattle.states.specs.declared.answer.Received.TheVariants as received
use Rattle.states.specs.declared.answer.Sent.{Sent}
use Rattle.states.specs.declared.answer.Sent.TheVariants as sent
use Rattle.states.specs.declared.answer.Shut.{Shut}
use Rattle.receiver.specs.declared.call.Call.{Call}
use Rattle.receiver.specs.declared.call.Ending.{Ending}
use Rattle.receiver.specs.declared.call.Phase.{Phase}
use Rattle.receiver.specs.declared.call.Phase.TheVariants as phase
use Rattle.receiver.specs.declared.call.Wanted.{Wanted}
use Rattle.receiver.specs.declared.receiver.Beside.{Beside}
use Rattle.receiver.specs.declared.receiver.ReceiverState.{ReceiverState}
use Rattle.states.specs.declared.state.Failure.{Failure}
use Rattle.states.specs.declared.state.OperationalState.{OperationalState}
use Rattle.states.specs.declared.refusal.Refusal.{Refusal}

-- ---- a call that waits is the only one that its case makes
holds_one : (st : OperationalState) (x y : Option Failure) → Holds st x → Holds st y → x ≡ y
holds_one _ _ _ holds_none holds_none = refl
holds_one _ _ _ draining_holds draining_holds = refl
holds_one _ _ _ terminated_holds terminated_holds = refl

some_pending : (n batch : ℕ) → Batch n batch → n ≡ 0 → ⊥
some_pending n _ (all l m) z = omega (arith, l, z)
some_pending n _ (most l) z = omega (arith, l, z)

module _ (q : ReceiverState) (s : RingBufferScheduler) (e : Ending) where
  closes_one : (c d : Call) → Closes q s e c → Closes q s e d → c.phase ≡ phase.Shutdown e → d ≡ c
  closes_one _ _ (asks n p) (asks m r) k = refl
  closes_one _ _ (asks n p) (is_normal m t) k = absurd (n m)
  closes_one _ _ (asks n p) (shut_before r t) k = cc
  closes_one _ d (is_normal p t) h k = cc
  closes_one _ d (shut_before p t) h k = cc

  module _ (batch : ℕ) where
    flushes_one : (c d : Call) → Flushes q s e c → Flushes q s e d → c.phase ≡ phase.Send batch e → d ≡ c
    flushes_one _ _ (sends {batch = n} b) (sends {batch = m} f) k = ap (λ (x : ℕ). call q s (phase.Send x e)) (batch_is _ m f ∙ sym (batch_is _ n b))
    flushes_one _ _ (sends b) (none_pending z t) k = absurd (some_pending _ _ b z)
    flushes_one _ d (none_pending z t) h k = cc

    serves_one : (c d : Call) → Serves q s e c → Serves q s e d → c.phase ≡ phase.Send batch e → d ≡ c
    serves_one _ d (failed_before h m t) g k = cc
    serves_one c _ (flushes h f) (failed_before {f = x} g m t) k = let p : None ≡ Some x = holds_one _ _ _ h g in cc
    serves_one c d (flushes h f) (flushes g i) k = flushes_one c d f i k

    -- and no failure is stored
    holds : (c : Call) → Serves q s e c → c.phase ≡ phase.Send batch e → Holds q.state None
    holds _ (failed_before h m t) k = cc
    holds c (flushes h f) k = h

module _ (q : ReceiverState) (w : Wanted) where
  pub awaiting : (c : Call) → BeginsRead q w c → c.phase ≡ phase.Receive w → Reading q w.dst_len × (data_in q.scheduler ≡ 0) × (c ≡ call q q.scheduler (phase.Receive w))
  awaiting _ (is_terminated p) k = cc
  awaiting _ (none_asked l y) k = cc
  awaiting _ (awaits r z) k = (r, z, refl)
  awaiting c (holds_data r l h) k = absurd (subst Settled k (hands q w.dst_len nothing_more r.some l c h).settled)

  awaits_one : Reading q w.dst_len → data_in q.scheduler ≡ 0 → (d : Call) → BeginsRead q w d → d ≡ call q q.scheduler (phase.Receive w)
  awaits_one r z _ (is_terminated p) = absurd (r.live _ p)
  awaits_one r z _ (none_asked l y) = absurd (r.some y)
  awaits_one r z _ (awaits v y) = refl
  awaits_one r z d (holds_data v l h) = absurd (omega (arith, z, l))

-- so what the cases make of itself, the rules do
abbrev Stays : Call → Type 0
Stays c = Tested c.receiver × Resumes c c

module _ (c : Call) (t : Tested c.receiver) where
  resumed_as : (ph : Phase) → c.phase ≡ ph → ResumesIn ph c c → resumed_by ph c ≡ Ok c
  resumed_as (phase.Receive w) p h = by (resumed_by (phase.Receive w) c) (resumes_by c t.sound (phase.Receive w)) (resumed_told c (phase.Receive w))
    where
      by : (x : Result Call Refusal) → Goes (ResumesIn (phase.Receive w) c) x → Refuses c (phase.Receive w) x → x ≡ Ok c
      by (Ok d) g f = let k = awaiting c.receiver w c h p in ap Ok (awaits_one c.receiver w k.0 k.1 d g ∙ sym k.2)
      by (Err r) g f = absurd ((awaiting c.receiver w c h p).0.counts f.2.2)
  resumed_as (phase.Send batch e) p h = ap Ok (serves_one c.receiver c.source e batch c _ h (resumes_by c t.sound (phase.Send batch e)) p)
  resumed_as (phase.Shutdown e) p h = ap Ok (closes_one c.receiver c.source e c _ h (resumes_by c t.sound (phase.Shutdown e)) p)
  resumed_as (phase.Finished o) p h = refl

remade : (c : Call) → Stays c → Made c
remade c (t, h) = record { tested = t; resumes = resumed_as c t c.phase refl h }

-- ---- what is stored fits
reason_fits : (c e f : Failure) → Reason c e f → FailureFits c → FailureFits e → FailureFits f
reason_fits _ _ _ end_and_end h k = h
reason_fits _ _ _ (end_gives_way n) h k = k
reason_fits _ _ _ (error_and_end n) h k = h
reason_fits _ _ _ (error_stays n m) h k = h

advanced_stored : (s to st : OperationalState) → Advanced s to st → Stored s → Stored to → Stored st
advanced_stored _ _ _ (calm_by_calm a b) h k = tt
advanced_stored _ _ _ (calm_by_draining a n) h k = k
advanced_stored _ _ _ (calm_by_terminated a n) h k = k
advanced_stored _ _ _ (terminated_stays n) h k = h
advanced_stored _ _ _ (draining_stays n a) h k = h
advanced_stored _ _ _ (draining_by_draining n m r) h k = reason_fits _ _ _ r h k
advanced_stored _ _ _ (draining_by_terminated n m r) h k = reason_fits _ _ _ r h k

sent_errno : (a : Answer) (batch n : ℕ) → SaysSent a batch (sent.Failed n) → Errno n
sent_errno a batch _ (send_failed k) = k.1

received_errno : (a : Answer) (top n : ℕ) → SaysReceived a top (received.Failed n) → Errno n
received_errno a top _ (closed k) = (omega arith, omega arith)
received_errno a top _ (receive_failed k) = k.1

-- ---- every case makes such a call
module _ (q : ReceiverState) (t : Tested q) (s : RingBufferScheduler) (e : Ending) where
  closes_stays : (c : Call) → Closes q s e c → Stays c
  closes_stays _ (is_normal p o) = (t, refl)
  closes_stays _ (shut_before p o) = (t, refl)
  closes_stays _ (asks n p) = (t, asks n p)

  flushes_stays : Holds q.state None → (c : Call) → Flushes q s e c → Stays c
  flushes_stays h _ (none_pending p o) = (t, refl)
  flushes_stays h _ (sends b) = (t, flushes h (sends b))

  serves_stays : (c : Call) → Serves q s e c → Stays c
  serves_stays _ (failed_before h m o) = (t, refl)
  serves_stays c (flushes h f) = flushes_stays h c f

module _ (q : ReceiverState) (t : Tested q) (s : RingBufferScheduler) where
  advances_stays : (to : OperationalState) → Stored to → (f : Option Failure) (e : Ending) (c : Call) → Advances to f q s e c → Stays c
  advances_stays to k f e c h =
      closes_stays _ (record { sound = t.sound; stored = advanced_stored q.state to h.state h.advanced t.stored k }) s h.ending c h.closes

  sent_stays : (e : Ending) → Holds q.state None → (a : Answer) (batch : ℕ) (x : Sent) → SaysSent a batch x → (c : Call) → TakesSent q s e x c → Stays c
  sent_stays e h a batch _ says c (none_went d) = advances_stays _ (omega arith, omega arith) _ e c d
  sent_stays e h a batch _ says c (some_went l z f) = flushes_stays _ (record { sound = t.sound; stored = t.stored }) s e h c f
  sent_stays e h a batch _ says _ (send_blocks o) = (t, refl)
  sent_stays e h a batch _ says c (send_fails {n} z d) = advances_stays _ (sent_errno a batch n says) _ e c d

  shut_stays : (e : Ending) (x : Shut) (c : Call) → TakesShut q s e x c → Stays c
  shut_stays e _ _ (is_shut o) = (record { sound = t.sound; stored = t.stored }, refl)
  shut_stays e _ _ (is_not m o) = (t, refl)

hands_stays : (q : ReceiverState) → Tested q → (asked : ℕ) (b : Beside) (c : Call) → HandsOut q asked b c → Stays c
hands_stays q t asked b c (a_part l r h) = serves_stays _ (record { sound = r.sound; stored = t.stored }) q.scheduler _ c h
hands_stays q t asked b c (all_of_it l r h) = serves_stays _ (record { sound = r.sound; stored = t.stored }) q.scheduler _ c h

module _ (q : ReceiverState) (t : Tested q) where
  received_stays : (s : RingBufferScheduler) (ring : List ℕ) (w : Wanted) (a : Answer) (top : ℕ) (x : Received) → SaysReceived a top x → (c : Call) → TakesReceived q s ring w x c → Stays c
  received_stays s ring w a top _ says c (announces h k o) = hands_stays _ (record { sound = k.filling.sound; stored = t.stored }) _ _ c o
  received_stays s ring w a top _ says c (header_violates h k o) = advances_stays q t s _ tt _ _ c o
  received_stays s ring w a top _ says c (byte_violates h k o) = advances_stays q t s _ tt _ _ c o
  received_stays s ring w a top _ says _ (receive_blocks (goes_on p)) = (t, refl)
  received_stays s ring w a top _ says c (receive_blocks (is_drained p o)) = advances_stays q t s _ (subst Stored p t.stored) _ _ c o
  received_stays s ring w a top _ says c (receive_fails {n} z o) = advances_stays q t s _ (received_errno a top n says) _ _ c o

  read_stays : (w : Wanted) (c : Call) → BeginsRead q w c → Stays c
  read_stays w _ (is_terminated p) = (t, refl)
  read_stays w _ (none_asked l z) = (t, refl)
  read_stays w _ (awaits r z) = (t, awaits r z)
  read_stays w c (holds_data r l h) = hands_stays q t _ _ c h

-- ---- an answer
abbrev pub MadeBy : Result Call Refusal → Type 0
MadeBy = Goes Made

module _ (c : Call) (h : Made c) (ring : List ℕ) (a : Answer) where
  takes_stays : (d : Call) (ph : Phase) → c.phase ≡ ph → ResumesIn ph c c → TakesIn ph c ring a d → Stays d
  takes_stays d (phase.Receive w) p k (inl (i, e)) = subst Stays (sym e) (h.tested, made_resumes c h)
  takes_stays d (phase.Receive w) p k (inr (i, (x, says, t))) = received_stays c.receiver h.tested c.source ring w a _ x says d t
  takes_stays d (phase.Send batch e) p k (inl (i, f)) = subst Stays (sym f) (h.tested, made_resumes c h)
  takes_stays d (phase.Send batch e) p k (inr (i, (x, says, t))) = sent_stays c.receiver h.tested c.source e (holds c.receiver c.source e batch c k p) a batch x says d t
  takes_stays d (phase.Shutdown e) p k (x, says, t) = shut_stays c.receiver h.tested c.source e x d t
  takes_stays d (phase.Finished o) p k e = subst Stays (sym e) (h.tested, made_resumes c h)

  module _ (place : ℕ) where
    pub answered_made : MadeBy (answered_of c ring a place)
    answered_made = then_goes (Takes c ring a) Made (answered_of c ring a place) (λ d t. remade d (takes_stays d c.phase refl (made_resumes c h) t)) (made_takes c h ring a place)

    -- what it waits out leaves it as it was, over any ring: an interruption is no byte
    no_byte : (top : ℕ) → a.kind ≡ 2 → (x : Received) → SaysReceived a top x → None ≡ looks_by x (length ring)
    no_byte top k _ (a_byte g) = absurd (omega (arith, k, g.0))
    no_byte top k _ (closed g) = refl
    no_byte top k _ (receive_failed g) = refl
    no_byte top k _ (no_receive f g i) = refl

    looks_at_none : (ph : Phase) → retries_in ph a ≡ true → None ≡ looks_at ph a (length ring)
    looks_at_none (phase.Receive w) e = no_byte w.max_new_fds ((interrupted_says a).0 e).0 (received_of w.max_new_fds a) (received_says a w.max_new_fds)
    looks_at_none (phase.Send batch x) e = refl
    looks_at_none (phase.Shutdown x) e = refl
    looks_at_none (phase.Finished o) e = refl

    pub waited_out : retries_of c a ≡ true → answered_of c ring a place ≡ Ok c
    waited_out e = sym (answered_on c ring a place None (looks_at_none c.phase e) (passes c.receiver h.tested) (Ok c) (sym h.resumes)) ∙ steps_back c ring a place c.phase e

-- ---- the beginnings
module _ (q : ReceiverState) where
  begun : (m : Option ℕ) (y : Result Call Refusal) (P : Call → Type 0) → (Tested q → (c : Call) → P c → Stays c) → Goes P (admitted_step (admission_of q m) y) → MadeBy (admitted_step (admission_of q m) y)
  begun m y P f g = by (admission_of q m) refl g
    where
      by : (x : Result ⊤ Refusal) → admission_of q m ≡ x → Goes P (admitted_step x y) → MadeBy (admitted_step x y)
      by (Ok tt) e g = then_goes P Made y (λ c h. remade c (f (passed_tested q m (sym e)) c h)) g
      by (Err r) e g = tt

  pub service_made : MadeBy (begin_service_of q)
  service_made = begun None _ (BeginsService q) (λ t c h. serves_stays q t q.scheduler (telling done_outcome) c h) (serves_at q)

  pub shutdown_made : MadeBy (begin_shutdown_of q)
  shutdown_made = begun None _ (BeginsShutdown q) (λ t c h. advances_stays q t q.scheduler _ (omega arith, omega arith) _ _ c h) (shuts_at q)

  pub begin_read_made : (ring-len top asked : ℕ) → MadeBy (begin_read_of q ring-len top asked)
  begin_read_made ring-len top asked = begun (Some ring-len) _ (BeginsRead q (a_want top asked)) (λ t c h. read_stays q t (a_want top asked) c h) (begins_at q ring-len top asked)
