-- The rules of specs/Call.antt keep the cases of specs/Cases.antt.
use Rattle.std.proofs.Common.{Result, Ok, Err, Option, Some, None}
use Prim.Native.Nat.{ℕ, ◌+◌, ◌-◌, ◌/◌, ◌%◌, ◌^◌, ◌<◌, ◌≤◌, min}
use mathlib.Core.Path.{◌≡◌, refl, sym, ap, subst, ◌∙◌}
use mathlib.Core.Bool.{Bool, cond, true, false}
use mathlib.Core.List.{List}
use mathlib.Core.Logic.{◌≢◌}
use native.Mathlib.Omega.{arith}
use lib.Dec.{eqb, ltb}
use borrow.Author.Tests.{eqb-true, eqb-false, ltb-true, ltb-false, eq-eqb, ne_eqb}
use Rattle.states.proofs.Rules.{numbered}
use Rattle.sched.proofs.RegisterLaws.{moved}
use Rattle.operations.specs.declared.operation.OperationType.TheVariants.{Read, Write}
use Rattle.sched.specs.declared.scheduler.RingBufferScheduler.{RingBufferScheduler}
use Rattle.sched.specs.Promise.{ReadBy}
use Rattle.sched.specs.Scheduler.{IsSound, data_in, space_in, offset_in, advanced_in}
use Rattle.copies.specs.Ring.{get}
use Rattle.receiver.proofs.ChunkLaws as chunk
use Rattle.states.proofs.Rules.{advance_rule, holds_rule}
use Rattle.receiver.proofs.Rules.{said_by, announcement_says}
use Rattle.states.proofs.Rules.{batch_rule}
use Rattle.receiver.specs.Call.{dropping, call, finished_call, told_in, shut_or_finish_by, shutdown_by, advance_call, flush_call, service_call_by, service_call, drain_call, sent_call, unsent_call, hand_out_call, failed_call, blocked_by, announced_call, after_receive, live_call, read_by, read_call}
use Rattle.receiver.specs.Cases as cases
use Rattle.states.specs.Promise.{violation_1}
use Rattle.receiver.specs.Cases.{Meets, is_told, is_dropped, none_met, ComesTo, its_own, Closes, is_normal, shut_before, asks, Flushes, none_pending, sends, Serves, failed_before, flushes, Advances, TakesSent, none_went, some_went, send_blocks, send_fails, HandsOut, a_part, all_of_it, Fails, Blocks, goes_on, is_drained, Chunk, Header, TakesReceived, announces, header_violates, receive_blocks, receive_fails, Reading, BeginsRead, is_terminated, none_asked, awaits, holds_data, Goes}
use Rattle.states.specs.Promise.{Holds}
use Rattle.sched.specs.Chunk.{body_fits}
use Rattle.sched.proofs.ChunkLaws.{fits_by}
use Rattle.copies.specs.Number.{number_from}
use Rattle.receiver.specs.Receiver.{none_beside, beside_byte, read_outcome, failed_outcome, with_scheduler, with_state, with_pending, batch_in, header_in, announced_in, byte_in, handed_in}
use Rattle.states.specs.State.{failure_in, advance_in}
use Rattle.states.specs.declared.answer.Received.{Received}
use Rattle.states.specs.declared.answer.Received.TheVariants as received
use Rattle.states.specs.declared.answer.Sent.TheVariants as sent
use Rattle.receiver.specs.declared.announcement.Announced.{Announced}
use Rattle.receiver.specs.declared.call.Call.{Call}
use Rattle.receiver.specs.declared.call.Ending.{Ending}
use Rattle.receiver.specs.declared.call.Phase.TheVariants as phase
use Rattle.receiver.specs.declared.call.Wanted.{Wanted}
use Rattle.receiver.specs.declared.receiver.Beside.{Beside}
use Rattle.receiver.specs.declared.receiver.Outcome.{Outcome}
use Rattle.receiver.specs.declared.receiver.ReceiverState.{ReceiverState}
use Rattle.states.specs.declared.state.Failure.{Failure}
use Rattle.states.specs.declared.state.Failure.TheVariants.{Io, Protocol}
use Rattle.states.specs.declared.state.OperationalState.{OperationalState}
use Rattle.states.specs.declared.state.OperationalState.TheVariants.{Normal, Draining, Terminated}
use Rattle.states.specs.declared.state.Violation.TheVariants.{InvalidChunkAnnouncement}
use Rattle.states.specs.declared.refusal.Refusal.{Refusal}

-- ---- what is answered
pub comes : (e : Ending) → ComesTo e e.outcome
comes e = its_own

pub meets : (f : Failure) (e : Ending) → Meets (Some f) e (told_in f e)
meets f e = by e.outcome e.told
  where
    by : (o : Outcome) (b : Bool) → Meets (Some f) (record { outcome = o; told = b }) (told_in f (record { outcome = o; told = b }))
    by o true = is_told
    by o false = is_dropped

-- the kinds of a state differ
draining_other : (f : Failure) → Draining f ≢ Normal
draining_other f p = cc

terminated_other : (f : Failure) → Terminated f ≢ Normal
terminated_other f p = cc

live_other : (f : Failure) → Normal ≢ Terminated f
live_other f p = cc

drains_other : (c f : Failure) → Draining c ≢ Terminated f
drains_other c f p = cc

-- ---- shutting down, and acknowledgements
module _ (q : ReceiverState) (s : RingBufferScheduler) (e : Ending) where
  shuts : (b : Bool) → q.notification_socket_shutdown_issued ≡ b → q.state ≢ Normal → Closes q s e (shut_or_finish_by b q s e)
  shuts true p n = shut_before p (comes e)
  shuts false p n = asks n p

  pub closes_by : (st : OperationalState) → q.state ≡ st → Closes q s e (shutdown_by st q s e)
  closes_by Normal p = is_normal p (comes e)
  closes_by (Draining f) p = shuts q.notification_socket_shutdown_issued refl (λ n. draining_other f (sym p ∙ n))
  closes_by (Terminated f) p = shuts q.notification_socket_shutdown_issued refl (λ n. terminated_other f (sym p ∙ n))

  pub flushes_all : Flushes q s e (flush_call q s e)
  unfolding flush_call
  flushes_all = by (eqb q.pending_ack_count 0) refl
    where
      by : (b : Bool) → eqb q.pending_ack_count 0 ≡ b → Flushes q s e (cond b (finished_call q s e.outcome) (call q s (phase.Send (batch_in q) e)))
      by true z = none_pending (eqb-true _ _ z) (comes e)
      by false z = sends (batch_rule q.pending_ack_count (eqb-false _ _ z))

  serves_by : (x : Option Failure) → Holds q.state x → Serves q s e (service_call_by x q s e)
  serves_by (Some f) h = failed_before h (meets f e) (comes (told_in f e))
  serves_by None h = flushes h flushes_all

  pub serves : Serves q s e (service_call q s e)
  serves = serves_by (failure_in q.state) (holds_rule q.state)

pub advances : (to : OperationalState) (f : Option Failure) (q : ReceiverState) (s : RingBufferScheduler) (e ending : Ending) → Meets f e ending → Advances to f q s e (advance_call to q s ending)
advances to f q s e ending m =
    record {
      state = advance_in q.state to;
      advanced = advance_rule q.state to;
      ending = ending;
      met = m;
      closes = closes_by (with_state q (advance_in q.state to)) s ending (advance_in q.state to) refl;
    }

module _ (q : ReceiverState) (s : RingBufferScheduler) (e : Ending) where
  drains_with : (f : Failure) → Advances (Draining f) (Some f) q s e (drain_call f q s e)
  drains_with f = advances (Draining f) (Some f) q s e (told_in f e) (meets f e)

  pub takes_sent : (n : ℕ) → n ≤ q.pending_ack_count → TakesSent q s e (sent.Sent n) (sent_call n q s e)
  takes_sent n l = by (eqb n 0) refl
    where
      by : (b : Bool) → eqb n 0 ≡ b → TakesSent q s e (sent.Sent n) (cond b (drain_call (Io 5) q s e) (flush_call (with_pending q (q.pending_ack_count - n)) s e))
      by true z = subst (λ (k : ℕ). TakesSent q s e (sent.Sent k) (drain_call (Io 5) q s e)) (sym (eqb-true n 0 z)) (none_went (drains_with (Io 5)))
      by false z = some_went {n = n} {left = q.pending_ack_count - n} (omega (arith, eqb-false n 0 z)) (omega (arith, l)) (flushes_all (with_pending q (q.pending_ack_count - n)) s e)

  pub takes_unsent : (n : ℕ) → TakesSent q s e (sent.Failed n) (unsent_call n q s e)
  takes_unsent n = by (eqb n 11) refl
    where
      by : (b : Bool) → eqb n 11 ≡ b → TakesSent q s e (sent.Failed n) (cond b (finished_call q s e.outcome) (drain_call (Io n) q s e))
      by true z = subst (λ (k : ℕ). TakesSent q s e (sent.Failed k) (finished_call q s e.outcome)) (sym (eqb-true n 11 z)) (send_blocks (comes e))
      by false z = send_fails (eqb-false n 11 z) (drains_with (Io n))

-- ---- reading
module _ (q : ReceiverState) (sound : IsSound q.scheduler) (asked : ℕ) (beside : Beside) where
  abbrev d : ℕ
  d = data_in q.scheduler

  -- n bytes of the d are read, and it is known whether some are left
  module _ (n : ℕ) (l : n ≤ d) where
    abbrev u : RingBufferScheduler
    u = advanced_in q.scheduler Read n

    pub reads : ReadBy q.scheduler n u
    reads = moved q.scheduler sound n Read l

    handed_all : n ≡ d → handed_in q u ≡ with_pending (with_scheduler q u) (q.pending_ack_count + 1)
    handed_all e = ap (λ (b : Bool). cond b (with_pending (with_scheduler q u) (q.pending_ack_count + 1)) (with_scheduler q u)) (eq-eqb (data_in u) 0 (omega (arith, reads.less, e)))

    handed_part : n < d → handed_in q u ≡ with_scheduler q u
    handed_part e = ap (λ (b : Bool). cond b (with_pending (with_scheduler q u) (q.pending_ack_count + 1)) (with_scheduler q u)) (ne_eqb (data_in u) 0 (λ z. omega (arith, reads.less, e, z)))

  -- the call after a move of n bytes
  abbrev hands_out : ℕ → Call
  hands_out n = service_call (handed_in q (advanced_in q.scheduler Read n)) q.scheduler (dropping (read_outcome n beside))

  pub hands_out_lem : HandsOut q asked beside (hand_out_call asked beside q)
  hands_out_lem = by (ltb asked d) refl
    where
      by : (b : Bool) → ltb asked d ≡ b → HandsOut q asked beside (hand_out_call asked beside q)
      by true z =
          let l : asked < d = ltb-true asked d z in
          let m : asked ≡ min asked d = omega (arith, l) in
          subst (λ (n : ℕ). HandsOut q asked beside (hands_out n)) m
          (subst (λ (r : ReceiverState). HandsOut q asked beside (service_call r q.scheduler (dropping (read_outcome asked beside)))) (sym (handed_part asked (omega (arith, l)) l))
          (a_part l (reads asked (omega (arith, l))) (serves _ _ _)))
      by false z =
          let l : d ≤ asked = ltb-false asked d z in
          let m : d ≡ min asked d = omega (arith, l) in
          subst (λ (n : ℕ). HandsOut q asked beside (hands_out n)) m
          (subst (λ (r : ReceiverState). HandsOut q asked beside (service_call r q.scheduler (dropping (read_outcome d beside)))) (sym (handed_all d (omega arith) refl))
          (all_of_it l (reads d (omega arith)) (serves _ _ _)))

module _ (q : ReceiverState) (s : RingBufferScheduler) where
  pub fails : (f : Failure) → Fails f q s (failed_call f q s)
  fails f = advances (Terminated f) None q s (dropping (failed_outcome f)) (dropping (failed_outcome f)) none_met

  blocks_by : (st : OperationalState) → q.state ≡ st → ((f : Failure) → st ≢ Terminated f) → Blocks q s (blocked_by st q s)
  blocks_by Normal p h = goes_on p
  blocks_by (Draining f) p h = is_drained p (fails f)
  blocks_by (Terminated f) p h = absurd (h f refl)

  pub blocks : ((f : Failure) → q.state ≢ Terminated f) → Blocks q s (blocked_by q.state q s)
  blocks h = blocks_by q.state refl h

-- ---- an announcement

-- what is announced of a scheduler: a chunk of it, with this beside, or a violation
module _ (s : RingBufferScheduler) (sound : IsSound s) (b : Beside) where
  abbrev Tells : Result Announced Failure → Type 0
  Tells (Ok m) = Chunk s (data_in m.scheduler) m.scheduler × IsSound m.scheduler
  Tells (Err (Protocol v)) = Unit {0}
  Tells (Err (Io e)) = ⊥

  by_test : (x y : Result Announced Failure) (t : Bool) → (t ≡ true → Tells x) → (t ≡ false → Tells y) → Tells (cond t x y)
  by_test x y true f g = f refl
  by_test x y false f g = g refl

  module _ (empty : data_in s ≡ 0) where
    a_chunk : (n : ℕ) → 8 ≤ space_in s → n + 8 ≤ space_in s → Tells (Ok (record { scheduler = advanced_in (advanced_in (advanced_in s Write 8) Read 8) Write n; beside = b }))
    a_chunk n g l =
        let e : data_in (advanced_in (advanced_in (advanced_in s Write 8) Read 8) Write n) ≡ n = omega (arith, chunk.holds s sound g n l, empty) in (
          subst (λ (k : ℕ). Chunk s k (advanced_in (advanced_in (advanced_in s Write 8) Read 8) Write n)) (sym e) (record {
            headed = advanced_in s Write 8;
            heading = moved s sound 8 Write g;
            begun = advanced_in (advanced_in s Write 8) Read 8;
            beginning = moved (advanced_in s Write 8) (chunk.written s sound g) 8 Read (chunk.readable s sound g);
            filling = moved (advanced_in (advanced_in s Write 8) Read 8) (chunk.read s sound g) n Write (chunk.room s sound g n l);
          }),
          chunk.announced s sound g n l,
        )

    header_tells : (h : ℕ) → 8 ≤ space_in s → Tells (header_in s b h)
    header_tells h g =
        by_test _ _ (eqb (h / 2 ^ 62) 0)
        (λ e. by_test _ _ (eqb (h % 2 ^ 48) 0) (λ e. tt)
        (λ z. by_test _ _ (body_fits (space_in s) (h % 2 ^ 48)) (λ e. a_chunk (h % 2 ^ 48) g (fits_by _ _ e)) (λ e. tt)))
        (λ e. tt)

    announced_tells : (ring : List ℕ) → Tells (announced_in ring s b)
    announced_tells ring = by_test _ _ (ltb (space_in s) 8) (λ e. tt) (λ e. header_tells (number_from 0 (get s.buf_len ring (offset_in s Read).0 8)) (ltb-false _ _ e))

-- a record that waits for an announcement
module _ (q : ReceiverState) (s : RingBufferScheduler) (sound : IsSound q.scheduler) (empty : data_in q.scheduler ≡ 0) (ring : List ℕ) (w : Wanted) where
  hears : (fds : ℕ) (x : Result Announced Failure) → Tells q.scheduler sound (beside_byte fds) x → Header q s ring w (beside_byte fds) (said_by x) → TakesReceived q s ring w (received.Byte 0 fds) (announced_call x w q s)
  hears fds (Ok m) t h = announces h t.0 (hands_out_lem (with_scheduler q m.scheduler) t.1 w.dst_len m.beside)
  hears fds (Err (Protocol v)) t h = header_violates h (numbered v) (fails q s (Protocol v))
  hears fds (Err (Io e)) t h = absurd t

  takes_byte : (fds byte : ℕ) → TakesReceived q s ring w (received.Byte byte fds) (announced_call (byte_in ring q.scheduler byte (beside_byte fds)) w q s)
  takes_byte fds byte = by (eqb byte 0) refl
    where
      by : (x : Bool) → eqb byte 0 ≡ x → TakesReceived q s ring w (received.Byte byte fds) (announced_call (cond x (announced_in ring q.scheduler (beside_byte fds)) (Err (Protocol InvalidChunkAnnouncement))) w q s)
      by true z =
          let x = announced_in ring q.scheduler (beside_byte fds) in
          subst (λ (k : ℕ). TakesReceived q s ring w (received.Byte k fds) (announced_call x w q s)) (sym (eqb-true byte 0 z))
          (hears fds x (announced_tells q.scheduler sound (beside_byte fds) empty ring) (announcement_says q.scheduler sound empty (beside_byte fds) ring))
      by false z = cases.byte_violates (eqb-false byte 0 z) violation_1 (fails q s (Protocol InvalidChunkAnnouncement))

  module _ (live : (f : Failure) → q.state ≢ Terminated f) where
    takes_failed : (n : ℕ) → TakesReceived q s ring w (received.Failed n) (announced_call (Err (Io n)) w q s)
    takes_failed n = by (eqb n 11) refl
      where
        by : (x : Bool) → eqb n 11 ≡ x → TakesReceived q s ring w (received.Failed n) (cond x (blocked_by q.state q s) (failed_call (Io n) q s))
        by true z = subst (λ (k : ℕ). TakesReceived q s ring w (received.Failed k) (blocked_by q.state q s)) (sym (eqb-true n 11 z)) (receive_blocks (blocks q s live))
        by false z = receive_fails (eqb-false n 11 z) (fails q s (Io n))

    pub takes_received : (place : ℕ) (x : Received) → Goes (TakesReceived q s ring w x) (after_receive q s ring x w place)
    takes_received place (received.Byte byte fds) = takes_byte fds byte
    takes_received place (received.Failed n) = takes_failed n
    takes_received place received.Misfit = tt

-- ---- the beginning of a read
module _ (q : ReceiverState) (sound : IsSound q.scheduler) (w : Wanted) where
  abbrev Begins : Result Call Refusal → Type 0
  Begins = Goes (BeginsRead q w)

  either : (b : Bool) (x y : Result Call Refusal) → (b ≡ true → Begins x) → (b ≡ false → Begins y) → Begins (cond b x y)
  either true x y f g = f refl
  either false x y f g = g refl

  begins_live : ((f : Failure) → q.state ≢ Terminated f) → Begins (live_call q w)
  begins_live live =
      either (eqb w.dst_len 0) _ _ (λ z. none_asked live (eqb-true _ _ z))
      (λ some. either (eqb q.pending_ack_count (2 ^ 64 - 1)) _ _ (λ z. tt)
      (λ counts.
      let r : Reading q w.dst_len = record { live = live; some = eqb-false _ _ some; counts = eqb-false _ _ counts } in
      either (eqb (data_in q.scheduler) 0) _ _ (λ z. awaits r (eqb-true _ _ z))
      (λ z. holds_data r (omega (arith, eqb-false (data_in q.scheduler) 0 z)) (hands_out_lem q sound w.dst_len none_beside))))

  begins_by : (st : OperationalState) → q.state ≡ st → Begins (read_by st q w)
  begins_by Normal p = begins_live (λ f e. live_other f (sym p ∙ e))
  begins_by (Draining c) p = begins_live (λ f e. drains_other c f (sym p ∙ e))
  begins_by (Terminated f) p = is_terminated p

  pub begins_read : Begins (read_call q w)
  begins_read = begins_by q.state refl
