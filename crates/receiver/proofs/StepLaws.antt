-- What each step of a call comes to, by the cases of specs/Cases.antt: the scheduler that it copies by, the outcome, the pending count.
use Rattle.std.proofs.Common.{Option}
use Prim.Native.Nat.{ℕ, ◌+◌, ◌≤◌, min}
use mathlib.Core.Path.{◌≡◌, refl, ap, ◌∙◌}
use mathlib.Core.Bool.{Bool, cond, true, false}
use mathlib.Core.List.{List}
use mathlib.Core.Logic.{◌≢◌}
use native.Mathlib.Omega.{arith}
use lib.Dec.{eqb}
use borrow.Author.Tests.{eq-eqb, ne_eqb}
use Rattle.sched.specs.declared.scheduler.RingBufferScheduler.{RingBufferScheduler}
use Rattle.sched.specs.Scheduler.{data_in}
use Rattle.receiver.specs.Receiver.{read_outcome, failed_outcome}
use Rattle.receiver.specs.Call.{dropping, telling}
use Rattle.receiver.specs.Cases.{Meets, none_met, is_told, is_dropped, ComesTo, its_own, Closes, is_normal, shut_before, asks, Flushes, none_pending, sends, Serves, failed_before, flushes, Advances, TakesSent, none_went, some_went, send_blocks, send_fails, TakesShut, is_shut, is_not, HandsOut, a_part, all_of_it, goes_on, is_drained, Chunk, TakesReceived, announces, header_violates, byte_violates, receive_blocks, receive_fails}
use Rattle.receiver.specs.Handed.{whole_by, whole_in, coming_to}
use Rattle.receiver.specs.Promise.{body, Announces, accepted}
use Rattle.states.specs.declared.answer.Received.{Received}
use Rattle.states.specs.declared.answer.Received.TheVariants as received
use Rattle.states.specs.declared.answer.Sent.{Sent}
use Rattle.states.specs.declared.answer.Sent.TheVariants as sent
use Rattle.states.specs.declared.answer.Shut.{Shut}
use Rattle.receiver.specs.declared.call.Call.{Call}
use Rattle.receiver.specs.declared.call.Ending.{Ending}
use Rattle.receiver.specs.declared.call.Phase.{Phase}
use Rattle.receiver.specs.declared.call.Phase.TheVariants as phase
use Rattle.receiver.specs.declared.receiver.Came.{Came}
use Rattle.receiver.specs.declared.receiver.Came.TheVariants as came
use Rattle.receiver.specs.declared.receiver.Outcome.{Outcome}
use Rattle.receiver.specs.declared.call.Wanted.{Wanted}
use Rattle.receiver.specs.declared.receiver.Beside.{Beside}
use Rattle.receiver.specs.declared.receiver.ReceiverState.{ReceiverState}
use Rattle.states.specs.declared.state.Failure.{Failure}
use Rattle.states.specs.declared.state.Failure.TheVariants.{Io}
use Rattle.states.specs.declared.state.OperationalState.{OperationalState}

-- ---- outcomes
-- an ending comes to its own outcome, or to a failure that it tells
pub data Ends : Ending → Outcome → Type 0 where
  as_dropped : {o : Outcome} → Ends (dropping o) o
  as_told : {o : Outcome} → Ends (telling o) o
  told_failure : {o : Outcome} {f : Failure} → Ends (telling o) (failed_outcome f)

own_end : (e : Ending) → Ends e e.outcome
own_end e = by e.outcome e.told
  where
    by : (o : Outcome) (b : Bool) → Ends (record { outcome = o; told = b }) o
    by o true = as_told
    by o false = as_dropped

comes_to : (e : Ending) (o : Outcome) → ComesTo e o → Ends e o
comes_to e _ its_own = own_end e

met_end : (f : Option Failure) (e ending : Ending) (o : Outcome) → Meets f e ending → Ends ending o → Ends e o
met_end _ e _ o none_met h = h
met_end _ _ _ _ is_told as_told = told_failure
met_end _ _ _ _ is_told told_failure = told_failure
met_end _ _ _ o is_dropped h = h

-- no read is told: its outcome is dropped into the servicing
abbrev Unread : Came → Type 0
Unread (came.Read n) = ⊥
Unread came.Done = Unit {0}
Unread (came.Failed f) = Unit {0}

abbrev QuietBy : Bool → Came → Type 0
QuietBy true x = Unread x
QuietBy false x = Unit {0}

abbrev pub Quiet : Ending → Type 0
Quiet e = QuietBy e.told e.outcome.came

-- nor does one wait for an announcement that was asked for no bytes
abbrev pub QuietIn : Phase → Type 0
QuietIn (phase.Receive w) = w.dst_len ≢ 0
QuietIn (phase.Send batch e) = Quiet e
QuietIn (phase.Shutdown e) = Quiet e
QuietIn (phase.Finished o) = Unit {0}

met_quiet : (f : Option Failure) (e ending : Ending) → Meets f e ending → Quiet e → Quiet ending
met_quiet _ e _ none_met h = h
met_quiet _ _ _ is_told h = tt
met_quiet _ _ _ is_dropped h = tt

-- the announcement of a read has come, if it waits for one
abbrev pub Settled : Phase → Type 0
Settled (phase.Receive w) = ⊥
Settled (phase.Send batch e) = Unit {0}
Settled (phase.Shutdown e) = Unit {0}
Settled (phase.Finished o) = Unit {0}

-- ---- a call that is made of a record with n acknowledgements more, a scheduler to copy by and an ending
pub record Spends (q : ReceiverState) (s : RingBufferScheduler) (e : Ending) (n : ℕ) (c : Call) : Type 0 where
  pub source : c.source ≡ s
  pub scheduler : c.receiver.scheduler ≡ q.scheduler
  pub counts : c.receiver.pending_ack_count + n ≡ q.pending_ack_count
  pub ends : Ends e (coming_to c.phase)
  pub quiet : Quiet e → QuietIn c.phase
  pub settled : Settled c.phase

abbrev pub sent_in : Sent → ℕ
sent_in (sent.Sent n) = n
sent_in (sent.Failed n) = 0
sent_in sent.Misfit = 0

module _ (q : ReceiverState) (s : RingBufferScheduler) (e : Ending) where
  pub closes_spends : (c : Call) → Closes q s e c → Spends q s e 0 c
  closes_spends _ (is_normal {o} p t) = record { source = refl; scheduler = refl; counts = omega arith; ends = comes_to e o t; quiet = λ h. tt; settled = tt }
  closes_spends _ (shut_before {o} p t) = record { source = refl; scheduler = refl; counts = omega arith; ends = comes_to e o t; quiet = λ h. tt; settled = tt }
  closes_spends _ (asks n p) = record { source = refl; scheduler = refl; counts = omega arith; ends = own_end e; quiet = λ h. h; settled = tt }

  flushes_spends : (c : Call) → Flushes q s e c → Spends q s e 0 c
  flushes_spends _ (none_pending {o} p t) = record { source = refl; scheduler = refl; counts = omega arith; ends = comes_to e o t; quiet = λ h. tt; settled = tt }
  flushes_spends _ (sends b) = record { source = refl; scheduler = refl; counts = omega arith; ends = own_end e; quiet = λ h. h; settled = tt }

  pub serves_spends : (c : Call) → Serves q s e c → Spends q s e 0 c
  serves_spends _ (failed_before {f} {ending} {o} h m t) = record { source = refl; scheduler = refl; counts = omega arith; ends = met_end _ e ending o m (comes_to ending o t); quiet = λ k. tt; settled = tt }
  serves_spends c (flushes h f) = flushes_spends c f

module _ (q : ReceiverState) (s : RingBufferScheduler) (e : Ending) where
  pub advances_spends : (to : OperationalState) (f : Option Failure) (c : Call) → Advances to f q s e c → Spends q s e 0 c
  advances_spends to f c h =
      let k = closes_spends _ s h.ending c h.closes in
      record { source = k.source; scheduler = k.scheduler; counts = k.counts; ends = met_end f e h.ending _ h.met k.ends; quiet = λ l. k.quiet (met_quiet f e h.ending h.met l); settled = k.settled }

  pub sent_spends : (x : Sent) (c : Call) → TakesSent q s e x c → Spends q s e (sent_in x) c
  sent_spends _ c (none_went h) = advances_spends _ _ c h
  sent_spends _ c (some_went {n} {left} l z h) =
      let k = flushes_spends _ s e c h in
      record { source = k.source; scheduler = k.scheduler; counts = omega (arith, k.counts, z); ends = k.ends; quiet = k.quiet; settled = k.settled }
  sent_spends _ _ (send_blocks {o} t) = record { source = refl; scheduler = refl; counts = omega arith; ends = comes_to e o t; quiet = λ h. tt; settled = tt }
  sent_spends _ c (send_fails n h) = advances_spends _ _ c h

  pub shut_spends : (x : Shut) (c : Call) → TakesShut q s e x c → Spends q s e 0 c
  shut_spends _ _ (is_shut {o} t) = record { source = refl; scheduler = refl; counts = omega arith; ends = comes_to e o t; quiet = λ h. tt; settled = tt }
  shut_spends _ _ (is_not {n} {ending} {o} m t) = record { source = refl; scheduler = refl; counts = omega arith; ends = met_end _ e ending o m (comes_to ending o t); quiet = λ h. tt; settled = tt }

-- ---- a chunk that was handed out whole
abbrev pub whole : Call → ℕ
whole c = whole_in c.receiver (coming_to c.phase)

whole_same : (x : Came) (q r : ReceiverState) → q.scheduler ≡ r.scheduler → whole_by q x ≡ whole_by r x
whole_same (came.Read n) q r e = ap (λ (s : RingBufferScheduler). cond (eqb n 0) 0 (cond (eqb (data_in s) 0) 1 0)) e
whole_same came.Done q r e = refl
whole_same (came.Failed f) q r e = refl

ends_whole : (q : ReceiverState) (e : Ending) (o : Outcome) → Quiet e → Ends e o → whole_in q o ≡ whole_in q e.outcome
ends_whole q _ _ h as_dropped = refl
ends_whole q _ _ h as_told = refl
ends_whole q _ _ h (told_failure {o = o}) = unread_whole o.came h
  where
    unread_whole : (x : Came) → Unread x → 0 ≡ whole_by q x
    unread_whole (came.Read n) k = absurd k
    unread_whole came.Done k = refl
    unread_whole (came.Failed f) k = refl

pub spends_whole : (q : ReceiverState) (s : RingBufferScheduler) (e : Ending) (n : ℕ) (c : Call) → Spends q s e n c → Quiet e → whole c ≡ whole_in q e.outcome
spends_whole q s e n c h k = whole_same (coming_to c.phase).came c.receiver q h.scheduler ∙ ends_whole q e (coming_to c.phase) k h.ends

read_whole : (r : ReceiverState) (n : ℕ) (b : Beside) → n ≢ 0 → data_in r.scheduler ≡ 0 → whole_in r (read_outcome n b) ≡ 1
read_whole r n b some z = rw (ne_eqb n 0 some, eq-eqb (data_in r.scheduler) 0 z)

read_part : (r : ReceiverState) (n : ℕ) (b : Beside) → n ≢ 0 → data_in r.scheduler ≢ 0 → whole_in r (read_outcome n b) ≡ 0
read_part r n b some z = rw (ne_eqb n 0 some, ne_eqb (data_in r.scheduler) 0 z)

-- ---- bytes that are handed out
dropped_end : (o x : Outcome) → Ends (dropping o) x → x ≡ o
dropped_end _ _ as_dropped = refl

module _ (q : ReceiverState) (asked : ℕ) (b : Beside) where
  pub record Hands (c : Call) : Type 0 where
    pub bytes : ℕ
    pub amount : bytes ≡ min asked (data_in q.scheduler)
    pub comes : coming_to c.phase ≡ read_outcome bytes b
    pub source : c.source ≡ q.scheduler
    pub counts : c.receiver.pending_ack_count ≡ q.pending_ack_count + whole c
    pub quiet : QuietIn c.phase
    pub settled : Settled c.phase

  pub hands : asked ≢ 0 → 1 ≤ data_in q.scheduler → (c : Call) → HandsOut q asked b c → Hands c
  hands some holds c (a_part {u} l r h) =
      let k = serves_spends _ q.scheduler (dropping (read_outcome asked b)) c h in
      let e = dropped_end (read_outcome asked b) (coming_to c.phase) k.ends in
      let left : data_in c.receiver.scheduler ≢ 0 = λ z. omega (arith, ap data_in k.scheduler, r.less, l, z) in
      let w : whole c ≡ 0 = ap (whole_in c.receiver) e ∙ read_part c.receiver asked b some left in
      record { bytes = asked; amount = omega (arith, l); comes = e; source = k.source; counts = omega (arith, k.counts, w); quiet = k.quiet tt; settled = k.settled }
  hands some holds c (all_of_it {u} l r h) =
      let d = data_in q.scheduler in
      let k = serves_spends _ q.scheduler (dropping (read_outcome d b)) c h in
      let e = dropped_end (read_outcome d b) (coming_to c.phase) k.ends in
      let none : data_in c.receiver.scheduler ≡ 0 = omega (arith, ap data_in k.scheduler, r.less) in
      let w : whole c ≡ 1 = ap (whole_in c.receiver) e ∙ read_whole c.receiver d b (λ z. omega (arith, holds, z)) none in
      record { bytes = d; amount = omega (arith, l); comes = e; source = k.source; counts = omega (arith, k.counts, w); quiet = k.quiet tt; settled = k.settled }

-- ---- what comes of a receive: a chunk's bytes are handed out, or a failure is answered
pub data Took (q : ReceiverState) (s : RingBufferScheduler) (asked : ℕ) (c : Call) : Type 0 where
  handed : (r : ReceiverState) (n : ℕ) (b : Beside) → Chunk q.scheduler n r.scheduler → r.pending_ack_count ≡ q.pending_ack_count → Hands r asked b c → Took q s asked c
  failed : (f : Failure) → Spends q s (dropping (failed_outcome f)) 0 c → Took q s asked c

some_body : (L h n : ℕ) (b d : Beside) → Announces L h b (body n d) → 1 ≤ n
some_body L h _ b _ (accepted k m l) = m

module _ (q : ReceiverState) (s : RingBufferScheduler) (ring : List ℕ) (w : Wanted) (some : w.dst_len ≢ 0) where
  pub took : (x : Received) (c : Call) → TakesReceived q s ring w x c → (x ≢ received.Misfit) × Took q s w.dst_len c
  took _ c (announces {n = n} {b} {u} h k o) =
      let holds : 1 ≤ data_in u = omega (arith, k.filling.more, some_body _ _ n _ b h) in (
        (λ z. cc),
        handed _ n b k refl (hands _ w.dst_len b some holds c o),
      )
  took _ c (header_violates h k o) = ((λ z. cc), failed _ (advances_spends q s _ _ _ c o))
  took _ c (byte_violates h k o) = ((λ z. cc), failed _ (advances_spends q s _ _ _ c o))
  took _ c (receive_fails h o) = ((λ z. cc), failed _ (advances_spends q s _ _ _ c o))
  took _ c (receive_blocks (is_drained p o)) = ((λ z. cc), failed _ (advances_spends q s _ _ _ c o))
  took _ _ (receive_blocks (goes_on p)) = (
    (λ z. cc),
    failed (Io 11) (record { source = refl; scheduler = refl; counts = omega arith; ends = as_dropped; quiet = λ h. tt; settled = tt }),
  )
