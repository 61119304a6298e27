-- The machine's steps keep the cases of specs/Cases.antt: what the rules make of a call, and what an answer makes of that.
use Rattle.std.specs.Bool.{⊤}
use Rattle.std.proofs.Common.{Result, Ok, Err, Some, None}
use Prim.Native.Nat.{ℕ, ◌≤◌, min}
use mathlib.Core.Path.{◌≡◌, refl, sym, subst}
use mathlib.Core.Bool.{Bool, cond, true, false}
use mathlib.Core.List.{List}
use mathlib.Core.Logic.{inl, inr}
use native.Mathlib.Omega.{arith}
use lib.ListN.{length}
use Rattle.sched.specs.declared.scheduler.RingBufferScheduler.{RingBufferScheduler}
use Rattle.sched.specs.Scheduler.{IsSound, data_in}
use Rattle.receiver.proofs.AdmissionLaws.{passed_sound, passed_sized}
use Rattle.states.proofs.AnswerSays.{received_says, sent_says, shut_says, interrupted_says}
use Rattle.receiver.proofs.CaseLaws.{comes, meets, closes_by, serves, advances, takes_sent, takes_unsent, takes_received, begins_read}
use Rattle.receiver.proofs.Made.{Made}
use Rattle.receiver.specs.Admission.{admission_of}
use Rattle.states.specs.Answer.{interrupted_of, received_of, sent_of, shut_of}
use Rattle.receiver.specs.Call.{telling, service_call, advance_call, sent_call, unsent_call, after_send, after_shut, after_receive, read_call, admitted_step, wanted, begin_read_of, begin_service_of, begin_shutdown_of, looks_by, looks_at, resumed_by, resumed_of, stepped_by, answered_from, answered_of}
use Rattle.receiver.specs.Cases.{none_met, Closes, is_normal, shut_before, asks, Flushes, none_pending, sends, Serves, failed_before, flushes, TakesSent, TakesReceived, TakesShut, is_shut, is_not, HandsOut, a_part, all_of_it, a_want, BeginsRead, is_terminated, none_asked, awaits, holds_data, BeginsService, BeginsShutdown, Looks, at_a_byte, at_no_byte, at_a_send, at_a_shutdown, at_the_end, ResumesIn, Resumes, Interrupts, TakesIn, Takes, Answered, Goes}
use Rattle.states.specs.Promise.{AByte, SaysReceived, a_byte, closed, receive_failed, no_receive, SaysSent, so_many}
use Rattle.states.specs.Promise.{Batch, all, most}
use Rattle.receiver.specs.Promise.{nothing_more}
use Rattle.receiver.specs.Receiver.{done_outcome, batch_in, by_sent}
use Rattle.states.specs.declared.answer.Answer.{Answer}
use Rattle.states.specs.declared.answer.Received.{Received}
use Rattle.states.specs.declared.answer.Sent.{Sent}
use Rattle.states.specs.declared.answer.Sent.TheVariants as sent
use Rattle.states.specs.declared.answer.Shut.{Shut}
use Rattle.states.specs.declared.answer.Shut.TheVariants as shut
use Rattle.receiver.specs.declared.call.Call.{Call}
use Rattle.receiver.specs.declared.call.Ending.{Ending}
use Rattle.receiver.specs.declared.call.Phase.{Phase}
use Rattle.receiver.specs.declared.call.Phase.TheVariants as phase
use Rattle.receiver.specs.declared.call.Wanted.{Wanted}
use Rattle.receiver.specs.declared.receiver.Beside.{Beside}
use Rattle.receiver.specs.declared.receiver.ReceiverState.{ReceiverState}
use Rattle.states.specs.declared.refusal.Refusal.TheVariants.{Misfit}
use Rattle.states.specs.declared.state.Failure.{Failure}
use Rattle.states.specs.declared.state.Failure.TheVariants.{Io}
use Rattle.states.specs.declared.state.OperationalState.TheVariants.{Draining, Terminated}
use Rattle.states.specs.declared.refusal.Refusal.{Refusal}

-- ---- where the tests were passed, the rules
pub passing : (P : Call → Type 0) (x : Result ⊤ Refusal) (y : Result Call Refusal) → ((Ok tt) ≡ x → Goes P y) → Goes P (admitted_step x y)
passing P (Ok tt) y h = h refl
passing P (Err r) y h = tt

pub then_goes : (P Q : Call → Type 0) (y : Result Call Refusal) → ((c : Call) → P c → Q c) → Goes P y → Goes Q y
then_goes P Q (Ok c) f h = f c h
then_goes P Q (Err r) f h = tt

-- ---- what a call waits for that the rules made
abbrev WaitsIn : Phase → ReceiverState → Type 0
WaitsIn (phase.Receive w) q = IsSound q.scheduler × (data_in q.scheduler ≡ 0) × ((f : Failure) → q.state ≡ Terminated f → ⊥)
WaitsIn (phase.Send batch e) q = Batch q.pending_ack_count batch
WaitsIn (phase.Shutdown e) q = Unit {0}
WaitsIn (phase.Finished o) q = Unit {0}

abbrev Waits : Call → Type 0
Waits c = WaitsIn c.phase c.receiver

module _ (q : ReceiverState) (s : RingBufferScheduler) (e : Ending) where
  flush_waits : (c : Call) → Flushes q s e c → Waits c
  flush_waits _ (none_pending p t) = tt
  flush_waits _ (sends b) = b

  service_waits : (c : Call) → Serves q s e c → Waits c
  service_waits _ (failed_before h m t) = tt
  service_waits c (flushes h f) = flush_waits c f

  shutdown_waits : (c : Call) → Closes q s e c → Waits c
  shutdown_waits _ (is_normal p t) = tt
  shutdown_waits _ (shut_before p t) = tt
  shutdown_waits _ (asks n p) = tt

hand_out_waits : (q : ReceiverState) (asked : ℕ) (b : Beside) (c : Call) → HandsOut q asked b c → Waits c
hand_out_waits q asked b c (a_part l r h) = service_waits _ _ _ c h
hand_out_waits q asked b c (all_of_it l r h) = service_waits _ _ _ c h

read_waits : (q : ReceiverState) → IsSound q.scheduler → (w : Wanted) (c : Call) → BeginsRead q w c → Waits c
read_waits q sound w _ (is_terminated p) = tt
read_waits q sound w _ (none_asked l z) = tt
read_waits q sound w _ (awaits r z) = (sound, z, r.live)
read_waits q sound w c (holds_data r l h) = hand_out_waits q w.dst_len nothing_more c h

-- ---- what the rules make of a call, and of an answer to it
module _ (c : Call) (sound : IsSound c.receiver.scheduler) where
  pub resumes_by : (ph : Phase) → Goes (ResumesIn ph c) (resumed_by ph c)
  resumes_by (phase.Receive w) = begins_read c.receiver sound w
  resumes_by (phase.Send batch e) = serves c.receiver c.source e
  resumes_by (phase.Shutdown e) = closes_by c.receiver c.source e c.receiver.state refl
  resumes_by (phase.Finished o) = refl

  resumed_waits : (ph : Phase) → c.phase ≡ ph → (d : Call) → ResumesIn ph c d → Waits d
  resumed_waits (phase.Receive w) p d h = read_waits c.receiver sound w d h
  resumed_waits (phase.Send batch e) p d h = service_waits c.receiver c.source e d h
  resumed_waits (phase.Shutdown e) p d h = shutdown_waits c.receiver c.source e d h
  resumed_waits (phase.Finished o) p d h = subst Waits (sym h) (subst (λ (ph : Phase). WaitsIn ph c.receiver) (sym p) tt)

-- the batch is the smaller of 128 and what is pending
pub batch_is : (n batch : ℕ) → Batch n batch → batch ≡ min 128 n
batch_is n _ (all l m) = omega (arith, m)
batch_is n _ (most l) = omega (arith, l)

-- no more is sent than the batch
sent_below : (a : Answer) (batch n : ℕ) → SaysSent a batch (sent.Sent n) → n ≤ batch
sent_below a batch _ (so_many k l) = l

module _ (d : Call) (ring : List ℕ) (a : Answer) (place : ℕ) where
  -- an interruption leaves it waiting
  waited_out : (ph : Phase) (y : Result Call Refusal) → (Interrupts a × (d ≡ d) → TakesIn ph d ring a d) → ((Interrupts a → ⊥) → Goes (TakesIn ph d ring a) y) →
      Goes (TakesIn ph d ring a) (cond (interrupted_of a) (Ok d) y)
  waited_out ph y f g = by (interrupted_of a) refl
    where
      by : (b : Bool) → interrupted_of a ≡ b → Goes (TakesIn ph d ring a) (cond b (Ok d) y)
      by true z = f ((interrupted_says a).0 z, refl)
      by false z = g (λ h. let k = (interrupted_says a).1 h in cc)

  takes_sends : (batch : ℕ) (e : Ending) → Batch d.receiver.pending_ack_count batch → (x : Sent) → SaysSent a batch x →
      Goes (TakesSent d.receiver d.source e x) (by_sent x (λ n. Ok (sent_call n d.receiver d.source e)) (λ n. Ok (unsent_call n d.receiver d.source e)) (Err (Misfit place)))
  takes_sends batch e b (sent.Sent n) h = takes_sent d.receiver d.source e n (omega (arith, sent_below a batch n h, batch_is d.receiver.pending_ack_count batch b))
  takes_sends batch e b (sent.Failed n) h = takes_unsent d.receiver d.source e n
  takes_sends batch e b sent.Misfit h = tt

  takes_shuts : (e : Ending) (x : Shut) → Goes (TakesShut d.receiver d.source e x) (after_shut x d.receiver d.source e place)
  takes_shuts e shut.Done = is_shut (comes e)
  takes_shuts e (shut.Failed n) = is_not (meets (Io n) e) (comes _)
  takes_shuts e shut.Misfit = tt

  takes_by : (ph : Phase) → WaitsIn ph d.receiver → Goes (TakesIn ph d ring a) (stepped_by ph d ring a place)
  takes_by (phase.Receive w) (sound, empty, live) =
      let x = received_of w.max_new_fds a in
      waited_out (phase.Receive w) _ inl
      (λ no. then_goes (TakesReceived d.receiver d.source ring w x) (TakesIn (phase.Receive w) d ring a) (after_receive d.receiver d.source ring x w place) (λ c h. inr (no, (x, received_says a w.max_new_fds, h)))
      (takes_received d.receiver d.source sound empty ring w live place x))
  takes_by (phase.Send batch e) b =
      let same : batch ≡ batch_in d.receiver = batch_is d.receiver.pending_ack_count batch b in
      let x = sent_of (batch_in d.receiver) a in
      let says : SaysSent a batch x = subst (λ (n : ℕ). SaysSent a n x) (sym same) (sent_says a (batch_in d.receiver)) in
      waited_out (phase.Send batch e) _ inl (λ no. then_goes (TakesSent d.receiver d.source e x) (TakesIn (phase.Send batch e) d ring a) (after_send d.receiver d.source e a place) (λ c h. inr (no, (x, says, h))) (takes_sends batch e b x says))
  takes_by (phase.Shutdown e) h = then_goes (TakesShut d.receiver d.source e (shut_of a)) (TakesIn (phase.Shutdown e) d ring a) (after_shut (shut_of a) d.receiver d.source e place) (λ c k. (shut_of a, shut_says a, k)) (takes_shuts e (shut_of a))
  takes_by (phase.Finished o) h = refl

module _ (c : Call) (ring : List ℕ) (a : Answer) (place : ℕ) where
  answers_by : (x : Result Call Refusal) → Goes (Resumes c) x → IsSound c.receiver.scheduler → Goes (Answered c ring a) (answered_from x ring a place)
  answers_by (Ok d) h sound = then_goes (Takes d ring a) (Answered c ring a) (stepped_by d.phase d ring a place) (λ z k. (d, h, k)) (takes_by d ring a place d.phase (resumed_waits c sound c.phase refl d h))
  answers_by (Err r) h sound = tt

  pub answers : Goes (Answered c ring a) (answered_of c ring a place)
  answers =
      let m = looks_at c.phase a (length ring) in
      passing (Answered c ring a) (admission_of c.receiver m) _
      (λ p. let sound = passed_sound c.receiver m p in answers_by (resumed_of c) (resumes_by c sound c.phase) sound)

-- a call that the machine made takes the answer itself
module _ (c : Call) (h : Made c) where
  pub made_resumes : Resumes c c
  made_resumes = subst (Goes (Resumes c)) h.resumes (resumes_by c h.tested.sound c.phase)

  made_waits : Waits c
  made_waits = resumed_waits c h.tested.sound c.phase refl c made_resumes

  pub made_takes : (ring : List ℕ) (a : Answer) (place : ℕ) → Goes (Takes c ring a) (answered_of c ring a place)
  made_takes ring a place =
      passing (Takes c ring a) (admission_of c.receiver (looks_at c.phase a (length ring))) _
      (λ p. subst (λ (x : Result Call Refusal). Goes (Takes c ring a) (answered_from x ring a place)) (sym h.resumes) (takes_by c ring a place c.phase made_waits))

-- where the ring is looked at, which the table of the numbers cites
looks_by_lem : (a : Answer) (n : ℕ) (w : Wanted) (x : Received) → SaysReceived a w.max_new_fds x → Looks a n (phase.Receive w) (looks_by x n)
looks_by_lem a n w _ (a_byte h) = at_a_byte h
looks_by_lem a n w _ (closed k) = at_no_byte (λ (h : AByte a w.max_new_fds). omega (arith, k, h.0))
looks_by_lem a n w _ (receive_failed k) = at_no_byte (λ (h : AByte a w.max_new_fds). omega (arith, k.0, h.0))
looks_by_lem a n w _ (no_receive f g h) = at_no_byte f

pub looks_rule : (a : Answer) (n : ℕ) (ph : Phase) → Looks a n ph (looks_at ph a n)
looks_rule a n (phase.Receive w) = looks_by_lem a n w (received_of w.max_new_fds a) (received_says a w.max_new_fds)
looks_rule a n (phase.Send batch e) = at_a_send
looks_rule a n (phase.Shutdown e) = at_a_shutdown
looks_rule a n (phase.Finished o) = at_the_end

-- ---- the beginnings
module _ (q : ReceiverState) where
  pub begins_at : (n top asked : ℕ) → Goes (BeginsRead q (a_want top asked)) (begin_read_of q n top asked)
  begins_at n top asked = passing _ (admission_of q (Some n)) (read_call q (wanted top asked)) (λ k. begins_read q (passed_sound q (Some n) k) (wanted top asked))

  pub serves_at : Goes (BeginsService q) (begin_service_of q)
  serves_at = passing _ (admission_of q None) (Ok (service_call q q.scheduler (telling done_outcome))) (λ k. serves q q.scheduler (telling done_outcome))

  pub shuts_at : Goes (BeginsShutdown q) (begin_shutdown_of q)
  shuts_at =
      passing _ (admission_of q None) (Ok (advance_call (Draining (Io 32)) q q.scheduler (telling done_outcome)))
      (λ k. advances (Draining (Io 32)) None q q.scheduler (telling done_outcome) (telling done_outcome) none_met)

  -- a read that is begun is of a sound record, over a ring of its length
  pub read_admitted : (n top asked : ℕ) (c : Call) → begin_read_of q n top asked ≡ Ok c → IsSound q.scheduler × (n ≡ q.scheduler.buf_len)
  read_admitted n top asked c e = by (admission_of q (Some n)) refl e
    where
      by : (x : Result ⊤ Refusal) → admission_of q (Some n) ≡ x → admitted_step x (read_call q (wanted top asked)) ≡ Ok c → IsSound q.scheduler × (n ≡ q.scheduler.buf_len)
      by (Ok tt) a h = (passed_sound q (Some n) (sym a), passed_sized q n (sym a))
      by (Err r) a h = cc
