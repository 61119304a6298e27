-- What a step sends and hands out whole, against what is pending before and after it.
use Prim.Native.Nat.{ℕ, ◌+◌}
use mathlib.Core.Path.{◌≡◌, refl, sym, ap, subst}
use mathlib.Core.Bool.{Bool, cond, false}
use mathlib.Core.List.{List}
use mathlib.Core.Logic.{◌≢◌, inl, inr}
use native.Mathlib.Omega.{arith}
use borrow.Author.Tests.{eq-eqb, ne_eqb}
use Rattle.sched.specs.declared.scheduler.RingBufferScheduler.{RingBufferScheduler}
use Rattle.receiver.specs.Receiver.{failed_outcome, done_outcome}
use Rattle.receiver.specs.Call.{dropping, telling, is_over}
use Rattle.receiver.specs.Cases.{TakesSent, none_went, some_went, send_blocks, send_fails, TakesShut, is_shut, is_not, BeginsRead, is_terminated, none_asked, awaits, holds_data, BeginsService, BeginsShutdown, Interrupts, TakesIn}
use Rattle.receiver.specs.Handed.{sent_by, whole_in, coming_to}
use Rattle.receiver.specs.Promise.{nothing_more}
use Rattle.states.specs.Promise.{SaysReceived, a_byte, closed, receive_failed, no_receive, SaysSent, so_many, send_failed, no_send, SaysShut, done, shutdown_failed, no_shutdown}
use Rattle.states.specs.declared.answer.Answer.{Answer}
use Rattle.states.specs.declared.answer.Received.{Received}
use Rattle.states.specs.declared.answer.Received.TheVariants as received
use Rattle.states.specs.declared.answer.Sent.{Sent}
use Rattle.states.specs.declared.answer.Sent.TheVariants as sent
use Rattle.states.specs.declared.answer.Shut.{Shut}
use Rattle.states.specs.declared.answer.Shut.TheVariants as shut
use Rattle.receiver.specs.declared.call.Call.{Call}
use Rattle.receiver.specs.declared.call.Ending.{Ending}
use Rattle.receiver.specs.declared.call.Phase.{Phase}
use Rattle.receiver.specs.declared.call.Phase.TheVariants as phase
use Rattle.receiver.specs.declared.call.Wanted.{Wanted}
use Rattle.receiver.specs.declared.receiver.ReceiverState.{ReceiverState}
use Rattle.receiver.proofs.StepLaws.{Quiet, QuietIn, Spends, sent_in, serves_spends, advances_spends, sent_spends, shut_spends, whole, spends_whole, hands, Took, handed, failed, took}

-- ---- what an answer sends
pub other_sends : (a : Answer) → a.kind ≢ 3 → sent_by a ≡ 0
other_sends a n = ap (λ (b : Bool). cond b a.value 0) (ne_eqb a.kind 3 n)

pub says_sent : (a : Answer) (batch : ℕ) (x : Sent) → SaysSent a batch x → x ≢ sent.Misfit → sent_by a ≡ sent_in x
says_sent a batch _ (so_many k l) n = ap (λ (b : Bool). cond b a.value 0) (eq-eqb a.kind 3 k)
says_sent a batch _ (send_failed k) n = other_sends a (λ z. omega (arith, k.0, z))
says_sent a batch _ (no_send f g) n = absurd (n refl)

says_received : (a : Answer) (top : ℕ) (x : Received) → SaysReceived a top x → x ≢ received.Misfit → sent_by a ≡ 0
says_received a top _ (a_byte k) n = other_sends a (λ z. omega (arith, k.0, z))
says_received a top _ (closed k) n = other_sends a (λ z. omega (arith, k, z))
says_received a top _ (receive_failed k) n = other_sends a (λ z. omega (arith, k.0, z))
says_received a top _ (no_receive f g h) n = absurd (n refl)

says_shut : (a : Answer) (x : Shut) → SaysShut a x → x ≢ shut.Misfit → sent_by a ≡ 0
says_shut a _ (done k) n = other_sends a (λ z. omega (arith, k, z))
says_shut a _ (shutdown_failed k) n = other_sends a (λ z. omega (arith, k.0, z))
says_shut a _ (no_shutdown f g) n = absurd (n refl)

-- an answer that does not fit is not taken
pub sent_taken : (q : ReceiverState) (s : RingBufferScheduler) (e : Ending) (x : Sent) (c : Call) → TakesSent q s e x c → x ≢ sent.Misfit
sent_taken q s e _ c (none_went h) = λ z. cc
sent_taken q s e _ c (some_went l m h) = λ z. cc
sent_taken q s e _ _ (send_blocks t) = λ z. cc
sent_taken q s e _ c (send_fails n h) = λ z. cc

shut_taken : (q : ReceiverState) (s : RingBufferScheduler) (e : Ending) (x : Shut) (c : Call) → TakesShut q s e x c → x ≢ shut.Misfit
shut_taken q s e _ _ (is_shut t) = λ z. cc
shut_taken q s e _ _ (is_not m t) = λ z. cc

-- ---- the sum: what is pending and what was sent, against what was pending and what was handed out whole
module _ (c : Call) (ring : List ℕ) (a : Answer) (d : Call) where
  abbrev Sums : Type 0
  Sums = (d.receiver.pending_ack_count + sent_by a + whole c ≡ c.receiver.pending_ack_count + whole d) × QuietIn d.phase

  waited : (ph : Phase) → c.phase ≡ ph → QuietIn ph → Interrupts a × (d ≡ c) → Sums
  waited ph p h (i, e) =
      subst (λ (x : Call). (x.receiver.pending_ack_count + sent_by a + whole c ≡ c.receiver.pending_ack_count + whole x) × QuietIn x.phase) (sym e)
      (omega (arith, other_sends a (λ z. omega (arith, i.0, z))), subst QuietIn (sym p) h)

  took_sums : (w : Wanted) → c.phase ≡ phase.Receive w → sent_by a ≡ 0 → Took c.receiver c.source w.dst_len d → Sums
  took_sums w p z (handed r n b k e h) = (omega (arith, z, e, h.counts, ap (λ (x : Phase). whole_in c.receiver (coming_to x)) p), h.quiet)
  took_sums w p z (failed f h) = (
    omega (arith, z, h.counts, ap (λ (x : Phase). whole_in c.receiver (coming_to x)) p, spends_whole c.receiver c.source (dropping (failed_outcome f)) 0 d h tt),
    h.quiet tt,
  )

  spends_sums : (e : Ending) (n : ℕ) → whole c ≡ whole_in c.receiver e.outcome → Quiet e → sent_by a ≡ n → Spends c.receiver c.source e n d → Sums
  spends_sums e n w q z h = (omega (arith, w, z, h.counts, spends_whole c.receiver c.source e n d h q), h.quiet q)

  pub step_sums : (ph : Phase) → c.phase ≡ ph → is_over ph ≡ false → QuietIn ph → TakesIn ph c ring a d → Sums
  step_sums (phase.Receive w) p over h (inl t) = waited (phase.Receive w) p h t
  step_sums (phase.Receive w) p over h (inr (i, (x, says, t))) =
      let k = took c.receiver c.source ring w h x d t in
      took_sums w p (says_received a w.max_new_fds x says k.0) k.1
  step_sums (phase.Send batch e) p w h (inl t) = waited (phase.Send batch e) p h t
  step_sums (phase.Send batch e) p w h (inr (i, (x, says, t))) =
      spends_sums e (sent_in x) (ap (λ (y : Phase). whole_in c.receiver (coming_to y)) p) h (says_sent a batch x says (sent_taken _ _ e x d t)) (sent_spends c.receiver c.source e x d t)
  step_sums (phase.Shutdown e) p w h (x, says, t) =
      spends_sums e 0 (ap (λ (y : Phase). whole_in c.receiver (coming_to y)) p) h (says_shut a x says (shut_taken _ _ e x d t)) (shut_spends c.receiver c.source e x d t)
  step_sums (phase.Finished o) p w h t = cc

-- ---- the beginnings
module _ (q : ReceiverState) where
  abbrev pub Begun : Call → Type 0
  Begun c = (c.receiver.pending_ack_count ≡ q.pending_ack_count + whole c) × QuietIn c.phase

  spends_begun : (s : RingBufferScheduler) (e : Ending) (c : Call) → whole_in q e.outcome ≡ 0 → Quiet e → Spends q s e 0 c → Begun c
  spends_begun s e c w k h = (omega (arith, h.counts, w, spends_whole q s e 0 c h k), h.quiet k)

  pub service_begun : (c : Call) → BeginsService q c → Begun c
  service_begun c h = spends_begun q.scheduler (telling done_outcome) c refl tt (serves_spends q q.scheduler (telling done_outcome) c h)

  pub shutdown_begun : (c : Call) → BeginsShutdown q c → Begun c
  shutdown_begun c h = spends_begun q.scheduler (telling done_outcome) c refl tt (advances_spends q q.scheduler (telling done_outcome) _ _ c h)

  pub read_begun : (w : Wanted) (c : Call) → BeginsRead q w c → Begun c
  read_begun w _ (is_terminated p) = (omega arith, tt)
  read_begun w _ (none_asked l z) = (omega arith, tt)
  read_begun w _ (awaits r z) = (omega arith, r.some)
  read_begun w c (holds_data r l h) = let k = hands q w.dst_len nothing_more r.some l c h in (k.counts, k.quiet)
