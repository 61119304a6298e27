-- Which part overflowed: whatever the attached contract of `answered` allows keeps specs/Overflow.antt. By the cases of the machine, of
-- which a byte 0 leaves two: a chunk is announced, or its header violates.
use Rattle.std.proofs.Common.{Some, None}
use Prim.Native.Nat.{ℕ, ◌+◌, ◌%◌, ◌^◌, ◌≤◌}
use mathlib.Core.Path.{◌≡◌, refl, sym, ap, subst, ◌∙◌}
use mathlib.Core.Bool.{true, false}
use mathlib.Core.List.{List}
use mathlib.Core.Logic.{inl, inr}
use native.Mathlib.Omega.{arith}
use Rattle.modular.proofs.Saying.{Keeps}
use Rattle.operations.specs.declared.operation.OperationType.TheVariants.{Read}
use Rattle.sched.specs.declared.scheduler.RingBufferScheduler.{RingBufferScheduler}
use Rattle.sched.specs.Scheduler.{offset_in}
use Rattle.copies.specs.Promises.{number_at}
use Rattle.states.proofs.Rules.{numbers_are, number_2, number_5}
use Rattle.states.specs.Promise.{Advanced, SaysReceived, a_byte, closed, receive_failed, no_receive, Numbered}
use Rattle.states.specs.State.{violation_number, overflow_in}
use Rattle.states.specs.declared.answer.Answer.{Answer}
use Rattle.states.specs.declared.answer.Received.{Received}
use Rattle.states.specs.declared.answer.Received.TheVariants as received
use Rattle.states.specs.declared.answer.Shut.{Shut}
use Rattle.states.specs.declared.state.Failure.{Failure}
use Rattle.states.specs.declared.state.Failure.TheVariants.{Protocol}
use Rattle.states.specs.declared.state.OperationalState.TheVariants.{Terminated}
use Rattle.states.specs.declared.state.Violation.{Violation}
use Rattle.receiver.proofs.CaseSteps.{then_goes}
use Rattle.receiver.proofs.PromisedMachine.{answered_promised}
use Rattle.receiver.specs.Cases.{Meets, none_met, is_told, is_dropped, ComesTo, its_own, Closes, is_normal, shut_before, asks, Flushes, none_pending, sends, Serves, failed_before, flushes, HandsOut, a_part, all_of_it, Fails, TakesReceived, announces, header_violates, byte_violates, receive_blocks, receive_fails, BeginsRead, is_terminated, none_asked, awaits, holds_data, ResumesIn, TakesShut, is_shut, is_not, TakesIn, Answered, Goes}
use Rattle.receiver.specs.Handed.{coming_to}
use Rattle.receiver.specs.Overflow.{Hears, HeaderOverflows, BodyOverflows, EndsWith, has_ended, will_end, TellsOverflow}
use Rattle.receiver.specs.Promise.{nothing_more, Said, violates, Announces, no_room_for_a_header, format_unknown, length_0, too_long, accepted, body}
use Rattle.receiver.specs.declared.call.Call.{Call}
use Rattle.receiver.specs.declared.call.Ending.{Ending}
use Rattle.receiver.specs.declared.call.Phase.{Phase}
use Rattle.receiver.specs.declared.call.Phase.TheVariants as phase
use Rattle.receiver.specs.declared.call.Wanted.{Wanted}
use Rattle.receiver.specs.declared.receiver.Beside.{Beside}
use Rattle.receiver.specs.declared.receiver.Came.{Came}
use Rattle.receiver.specs.declared.receiver.Came.TheVariants as came
use Rattle.receiver.specs.declared.receiver.Outcome.{Outcome}
use Rattle.receiver.specs.declared.receiver.ReceiverState.{ReceiverState}
use Rattle.receiver.proofs.call.Call.answered.Kinds as answered_kinds
use Rattle.receiver.proofs.call.Call.answered.Reads as answered

-- ---- what a call is sure to end with
abbrev came_of : Outcome → Came
came_of o = o.came

abbrev failing : Failure → Outcome
failing f = record { came = came.Failed f; beside = nothing_more }

coming : (f : Failure) (ph : Phase) → EndsWith f ph → coming_to ph ≡ failing f
coming f _ has_ended = refl
coming f _ will_end = refl

-- so there is one such failure
one_end : (f g : Failure) (ph : Phase) → EndsWith f ph → EndsWith g ph → f ≡ g
one_end f g ph h k = let e : came.Failed f ≡ came.Failed g = ap came_of (sym (coming f ph h) ∙ coming g ph k) in cc

-- ---- a chunk that is announced comes to bytes
comes_to : (e : Ending) (o : Outcome) → ComesTo e o → o ≡ e.outcome
comes_to e _ its_own = refl

module _ (q : ReceiverState) (s : RingBufferScheduler) where
  flushing : (e : Ending) (c : Call) → Flushes q s e c → coming_to c.phase ≡ e.outcome
  flushing e _ (none_pending p t) = comes_to e _ t
  flushing e _ (sends b) = refl

  dropped : (f : Failure) (e ending : Ending) → Meets (Some f) e ending → e.told ≡ false → ending.outcome ≡ e.outcome
  dropped f _ _ is_told d = cc
  dropped f _ _ is_dropped d = refl

  serving : (e : Ending) → e.told ≡ false → (c : Call) → Serves q s e c → coming_to c.phase ≡ e.outcome
  serving e d _ (failed_before h m t) = comes_to _ _ t ∙ dropped _ _ _ m d
  serving e d c (flushes h f) = flushing e c f

-- bytes are no failure
no_failure_lem : (q : ReceiverState) (asked : ℕ) (b : Beside) (f : Failure) (c : Call) → HandsOut q asked b c → EndsWith f c.phase → ⊥
no_failure_lem q asked b f c (a_part l r h) k = let e = ap came_of (sym (serving _ _ _ refl c h) ∙ coming f c.phase k) in cc
no_failure_lem q asked b f c (all_of_it l r h) k = let e = ap came_of (sym (serving _ _ _ refl c h) ∙ coming f c.phase k) in cc

-- ---- a failure that terminates is what the call ends with, and the scheduler stays
abbrev dropping : Failure → Ending
dropping f = record { outcome = failing f; told = false }

none_is : (e ending : Ending) → Meets None e ending → ending ≡ e
none_is e _ none_met = refl

outcomes : (f : Failure) (e : Ending) (o : Outcome) → e ≡ dropping f → ComesTo e o → EndsWith f (phase.Finished o)
outcomes f e o p t = subst (λ (x : Outcome). EndsWith f (phase.Finished x)) (sym (comes_to e o t ∙ ap (λ (x : Ending). x.outcome) p)) has_ended

closing : (q : ReceiverState) (s : RingBufferScheduler) (f : Failure) (e : Ending) → e ≡ dropping f → (c : Call) → Closes q s e c → EndsWith f c.phase × (c.receiver ≡ q)
closing q s f e p _ (is_normal n t) = (outcomes f e _ p t, refl)
closing q s f e p _ (shut_before n t) = (outcomes f e _ p t, refl)
closing q s f e p _ (asks n k) = (subst (λ (x : Ending). EndsWith f (phase.Shutdown x)) (sym p) will_end, refl)

module _ (f : Failure) (q : ReceiverState) (s : RingBufferScheduler) (c : Call) (h : Fails f q s c) where
  abbrev after : ReceiverState
  after = record { scheduler = q.scheduler; state = h.state; pending_ack_count = q.pending_ack_count; notification_socket_shutdown_issued = q.notification_socket_shutdown_issued }

  closed_so : EndsWith f c.phase × (c.receiver ≡ after)
  closed_so = closing after s f h.ending (none_is _ _ h.met) c h.closes

  fails_so : EndsWith f c.phase
  fails_so = closed_so.0

  same_scheduler : c.receiver.scheduler ≡ q.scheduler
  same_scheduler = ap (λ (r : ReceiverState). r.scheduler) closed_so.1

  advanced_so : Advanced q.state (Terminated f) c.receiver.state
  advanced_so = subst (λ (r : ReceiverState). Advanced q.state (Terminated f) r.state) (sym closed_so.1) h.advanced

-- ---- what a call is sure to end with it ends with, whatever is answered
is_kept : (f g : Failure) (e ending : Ending) → Meets (Some g) e ending → e ≡ dropping f → ending ≡ dropping f
is_kept f g _ _ is_told p = let d : true ≡ false = ap (λ (x : Ending). x.told) p in cc
is_kept f g _ _ is_dropped p = p

shut_kept : (f : Failure) (q : ReceiverState) (s : RingBufferScheduler) (x : Shut) (e : Call) → TakesShut q s (dropping f) x e → EndsWith f e.phase
shut_kept f q s _ _ (is_shut t) = outcomes f (dropping f) _ refl t
shut_kept f q s _ _ (is_not m t) = outcomes f _ _ (is_kept f _ _ _ m refl) t

resumed_kept : (f : Failure) (ph : Phase) → EndsWith f ph → (c d : Call) → c.phase ≡ ph → ResumesIn ph c d → EndsWith f d.phase
resumed_kept f _ has_ended c d p r = subst (λ (x : Call). EndsWith f x.phase) (sym r) (subst (EndsWith f) (sym p) has_ended)
resumed_kept f _ will_end c d p r = (closing c.receiver c.source f (dropping f) refl d r).0

taken_kept : (f : Failure) (ring : List ℕ) (a : Answer) (ph : Phase) → EndsWith f ph → (d e : Call) → d.phase ≡ ph → TakesIn ph d ring a e → EndsWith f e.phase
taken_kept f ring a _ has_ended d e p t = subst (λ (x : Call). EndsWith f x.phase) (sym t) (subst (EndsWith f) (sym p) has_ended)
taken_kept f ring a _ will_end d e p (x, says, t) = shut_kept f d.receiver d.source x e t

answer_kept : (f : Failure) (c : Call) (ring : List ℕ) (a : Answer) (e : Call) → EndsWith f c.phase → Answered c ring a e → EndsWith f e.phase
answer_kept f c ring a e h (d, r, t) = taken_kept f ring a d.phase (resumed_kept f c.phase h c d refl r) d e refl t

pub ends_promised : Keeps 1 answered_kinds.ps answered_kinds.r answered.Learnt (λ κs a z. (f : Failure) → EndsWith f a.0.phase → Goes (λ e. EndsWith f e.phase) z)
ends_promised κs a z p f h =
    then_goes (Answered a.0 a.1.0.now a.1.1.0) (λ e. EndsWith f e.phase) z (λ e k. answer_kept f a.0 a.1.0.now a.1.1.0 e h k) (answered_promised κs a z p)

-- ---- what a header's number says, by the violation's number
module _ (L h : ℕ) (b : Beside) where
  fits_behind : (n : ℕ) (b' : Beside) → Announces L h b (body n b') → h % 2 ^ 48 + 8 ≤ L
  fits_behind _ _ (accepted a c d) = d

  -- a violation of this number is an overflow only if one is there
  by_number_lem : (k n r : ℕ) (x : Said) → Announces L h b x → x ≡ violates k n r → (k ≡ 2 → HeaderOverflows L n r) × (k ≡ 5 → BodyOverflows L h n r)
  by_number_lem k n r _ (no_room_for_a_header {room} e l) p =
      let i : 2 ≡ k = cc in
      let a : 8 ≡ n = cc in
      let d : room ≡ r = cc in ((λ z. record { eight = sym a; whole = sym d ∙ e; above = omega (arith, l, a, d) }), (λ z. absurd (omega (arith, i, z))))
  by_number_lem k n r _ (format_unknown a c) p = let i : 3 ≡ k = cc in ((λ z. absurd (omega (arith, i, z))), (λ z. absurd (omega (arith, i, z))))
  by_number_lem k n r _ (length_0 a c d) p = let i : 4 ≡ k = cc in ((λ z. absurd (omega (arith, i, z))), (λ z. absurd (omega (arith, i, z))))
  by_number_lem k n r _ (too_long {room} a c d) p =
      let i : 5 ≡ k = cc in
      let e : h % 2 ^ 48 ≡ n = cc in
      let f : room ≡ r = cc in ((λ z. absurd (omega (arith, i, z))), (λ z. record { known = c; length = sym e; behind = omega (arith, f, a); above = omega (arith, d, e, f) }))
  by_number_lem k n r _ (accepted a c d) p = cc

  -- and always then
  comes : (k n r : ℕ) (x : Said) → Announces L h b x → x ≡ violates k n r → (m l : ℕ) →
      (HeaderOverflows L m l → (k ≡ 2) × (n ≡ m) × (r ≡ l)) × (BodyOverflows L h m l → (k ≡ 5) × (n ≡ m) × (r ≡ l))
  comes k n r _ (no_room_for_a_header {room} e u) p m l =
      let a : 2 ≡ k = cc in
      let d : 8 ≡ n = cc in
      let w : room ≡ r = cc in ((λ o. (sym a, sym d ∙ sym o.eight, sym w ∙ e ∙ sym o.whole)), (λ o. absurd (omega (arith, e, u, o.behind))))
  comes k n r _ (format_unknown a c) p m l = ((λ o. absurd (omega (arith, a, o.eight, o.whole, o.above))), (λ o. absurd (omega (arith, c, o.known))))
  comes k n r _ (length_0 a c d) p m l = ((λ o. absurd (omega (arith, a, o.eight, o.whole, o.above))), (λ o. absurd (omega (arith, d, o.length, o.above))))
  comes k n r _ (too_long {room} a c d) p m l =
      let e : 5 ≡ k = cc in
      let f : h % 2 ^ 48 ≡ n = cc in
      let w : room ≡ r = cc in ((λ o. absurd (omega (arith, a, o.eight, o.whole, o.above))), (λ o. (sym e, sym f ∙ sym o.length, omega (arith, w, a, o.behind))))
  comes k n r _ (accepted a c d) p m l = cc

-- ---- the two cases
module _ (c : Call) (ring : List ℕ) (e : Call) where
  abbrev q : ReceiverState
  q = c.receiver

  abbrev L : ℕ
  L = q.scheduler.buf_len

  abbrev h : ℕ
  h = number_at L ring (offset_in q.scheduler Read).0

  of_chunk : (b d b' : Beside) (n asked : ℕ) (r : ReceiverState) → Announces L h b (body n b') → HandsOut r asked d e → TellsOverflow c ring e
  of_chunk b d b' n asked r a o =
      let fits = fits_behind L h b n b' a in
      let none : (f : Failure) → EndsWith f e.phase → ⊥ = λ f t. no_failure_lem r asked d f e o t in
      record {
        header_only = λ needed room t. absurd (none _ t);
        header_always = λ needed room x. absurd (omega (arith, fits, x.eight, x.whole, x.above));
        body_only = λ needed room t. absurd (none _ t);
        body_always = λ needed room x. absurd (omega (arith, fits, x.length, x.behind, x.above));
        stored = λ v t. absurd (none _ t);
        put_back = λ v t. absurd (none _ t);
      }

  module _ (b : Beside) (v : Violation) (k n r : ℕ) (a : Announces L h b (violates k n r)) (num : Numbered v k n r) (s : RingBufferScheduler) (f : Fails (Protocol v) q s e) where
    -- the violation that is told is this one
    told_is : (w : Violation) → EndsWith (Protocol w) e.phase → v ≡ w
    told_is w t = let p : Protocol v ≡ Protocol w = one_end _ _ _ (fails_so (Protocol v) q s e f) t in cc

    tells_it : (w : Violation) → v ≡ w → EndsWith (Protocol w) e.phase
    tells_it w p = subst (λ (x : Violation). EndsWith (Protocol x) e.phase) p (fails_so (Protocol v) q s e f)

    numbers : (w : Violation) → v ≡ w → (k ≡ violation_number w) × (n ≡ (overflow_in w).needed) × (r ≡ (overflow_in w).room)
    numbers w p = subst (λ (x : Violation). (k ≡ violation_number x) × (n ≡ (overflow_in x).needed) × (r ≡ (overflow_in x).room)) p (numbers_are v k n r num)

    of_violation : TellsOverflow c ring e
    of_violation =
        record {
          header_only = λ needed room t.
              let i = numbers _ (told_is _ t) in
              subst (λ (m : ℕ). HeaderOverflows L m room) i.1 (subst (λ (m : ℕ). HeaderOverflows L n m) i.2 ((by_number_lem L h b k n r _ a refl).0 i.0));
          header_always = λ needed room x.
              let y = (comes L h b k n r _ a refl needed room).0 x in
              let p = number_2 v k n r num y.0 in let m = y.1 in let l = y.2 in tells_it _ cc;
          body_only = λ needed room t.
              let i = numbers _ (told_is _ t) in
              subst (λ (m : ℕ). BodyOverflows L h m room) i.1 (subst (λ (m : ℕ). BodyOverflows L h n m) i.2 ((by_number_lem L h b k n r _ a refl).1 i.0));
          body_always = λ needed room x.
              let y = (comes L h b k n r _ a refl needed room).1 x in
              let p = number_5 v k n r num y.0 in let m = y.1 in let l = y.2 in tells_it _ cc;
          stored = λ w t. subst (λ (x : Violation). Advanced q.state (Terminated (Protocol x)) e.receiver.state) (told_is w t) (advanced_so (Protocol v) q s e f);
          put_back = λ w t. same_scheduler (Protocol v) q s e f;
        }

  heard : (w : Wanted) (s : RingBufferScheduler) (x : Received) (fds : ℕ) → TakesReceived q s ring w x e → x ≡ received.Byte 0 fds → TellsOverflow c ring e
  heard w s _ fds (announces a k o) p = of_chunk _ _ _ _ _ _ a o
  heard w s _ fds (header_violates a num f) p = of_violation _ _ _ _ _ a num s f
  heard w s _ fds (byte_violates {byte} z num f) p = let y : byte ≡ 0 = cc in absurd (z y)
  heard w s _ fds (receive_blocks b) p = cc
  heard w s _ fds (receive_fails n f) p = cc

  module _ (a : Answer) (hears : Hears c a) where
    abbrev w : Wanted
    w = hears.wanted

    the_byte : (x : Received) → SaysReceived a w.max_new_fds x → x ≡ received.Byte 0 a.descriptors
    the_byte _ (a_byte k) = ap (λ (m : ℕ). received.Byte m a.descriptors) hears.zero
    the_byte _ (closed k) = absurd (omega (arith, k, hears.byte.0))
    the_byte _ (receive_failed k) = absurd (omega (arith, k.0, hears.byte.0))
    the_byte _ (no_receive f g k) = absurd (f hears.byte)

    taken : (d : Call) → d.receiver ≡ q → TakesIn (phase.Receive w) d ring a e → TellsOverflow c ring e
    taken d p (inl i) = absurd (omega (arith, i.0.0, hears.byte.0))
    taken d p (inr (i, (x, says, t))) = heard w d.source x _ (subst (λ (r : ReceiverState). TakesReceived r d.source ring w x e) p t) (the_byte x says)

    resumed : (d : Call) → BeginsRead q w d → TakesIn d.phase d ring a e → TellsOverflow c ring e
    resumed _ (is_terminated p) t = absurd (hears.live _ p)
    resumed _ (none_asked l z) t = absurd (hears.some z)
    resumed _ (awaits r z) t = taken _ refl t
    resumed _ (holds_data r l k) t = absurd (omega (arith, l, hears.empty))

    tells : Answered c ring a e → TellsOverflow c ring e
    tells (d, res, t) = resumed d (subst (λ (ph : Phase). ResumesIn ph c d) hears.waits res) t

pub overflow_promised : Keeps 1 answered_kinds.ps answered_kinds.r answered.Learnt (λ κs a z. Hears a.0 a.1.1.0 → Goes (TellsOverflow a.0 a.1.0.now) z)
overflow_promised κs a z p h =
    then_goes (Answered a.0 a.1.0.now a.1.1.0) (TellsOverflow a.0 a.1.0.now) z (λ e k. tells a.0 a.1.0.now e a.1.1.0 h k) (answered_promised κs a z p)
