-- The pending sum over any list of calls, of the calls: of whatever the predicate that a contract cites allows.
use Rattle.std.proofs.Common.{Result, Ok, Err}
use Prim.Native.Nat.{ℕ, ◌+◌}
use mathlib.Core.Path.{◌≡◌, refl, sym, ap, subst, ◌∙◌}
use mathlib.Core.Bool.{Bool, cond, true, false}
use mathlib.Core.List.{List, [], ◌∷◌}
use native.Mathlib.Omega.{arith}
use lib.ListN.{length, take}
use Rattle.receiver.proofs.CaseSteps.{made_takes, begins_at, serves_at, shuts_at}
use Rattle.receiver.proofs.MadeLaws.{MadeBy, service_made, shutdown_made, begin_read_made}
use Rattle.receiver.proofs.Made.{Made}
use Rattle.receiver.proofs.StepLaws.{QuietIn, whole}
use Rattle.receiver.proofs.SumLaws.{step_sums, Begun, service_begun, shutdown_begun, read_begun}
use Rattle.receiver.specs.Call.{over_of, answered_of, begin_read_of, begin_service_of, begin_shutdown_of}
use Rattle.receiver.specs.Cases.{a_want, BeginsRead, BeginsService, BeginsShutdown, Takes, Goes}
use Rattle.receiver.specs.Handed.{sent_by, whole_by, whole_in, coming_to}
use Rattle.receiver.specs.Receiver.{none_beside, read_outcome}
use Rattle.states.specs.State.{is_errno}
use Rattle.states.specs.declared.answer.Answer.{Answer}
use Rattle.receiver.specs.declared.call.Call.{Call}
use Rattle.receiver.specs.declared.call.Phase.{Phase}
use Rattle.receiver.specs.declared.call.Phase.TheVariants as phase
use Rattle.receiver.specs.declared.receiver.Came.{Came}
use Rattle.receiver.specs.declared.receiver.Came.TheVariants as came
use Rattle.receiver.specs.declared.receiver.ReceiverState.{ReceiverState}
use Rattle.driver.specs.Drive.{driven_of, ended_by, ended_for, ended_of, end_of_stream_by, end_of_stream_in}
use Rattle.driver.specs.Pending.{Asked, reads, reads_impl, services, shuts, ends_of, answers_of, sent_in, sent_over, whole_over, next_over, after, all_sent, all_whole}
use Rattle.driver.specs.Promise.{MayLeave}
use Rattle.driver.specs.Run.{read_of}
use Rattle.driver.proofs.Along.{Holds, driven_holds}
use Rattle.driver.proofs.Promised.{delivered}
use Rattle.driver.proofs.Says.{service_chunk_acknowledgements_says, shutdown_says, read_with_fds_says, read_with_fds_impl_says}
use Rattle.receiver.specs.declared.receiver.Ended.{Ended}
use Rattle.states.specs.declared.refusal.Refusal.{Refusal}

-- ---- one call: what is pending after it and what it sent, against what was pending and what it handed out whole
abbrev Sums : ReceiverState → List Answer → Result Ended Refusal → Type 0
Sums q answers r = (next_over q r).pending_ack_count + sent_over answers r ≡ q.pending_ack_count + whole_over r

module _ (q : ReceiverState) (ring : List ℕ) where
  abbrev Owes : Call → ℕ → Type 0
  Owes c n = (c.receiver.pending_ack_count + n ≡ q.pending_ack_count + whole c) × QuietIn c.phase

  keeps_sum : (c : Call) → Made c → over_of c ≡ false → (n : ℕ) → Owes c n → (a : Answer) (place : ℕ) (d : Call) → answered_of c ring a place ≡ Ok d → Owes d (n + sent_by a)
  keeps_sum c m w n h a place d e =
      let k = step_sums c ring a d c.phase refl w h.1 (subst (Goes (Takes c ring a)) e (made_takes c m ring a place)) in
      (omega (arith, h.0, k.0), k.1)

  summed_by : (answers : List Answer) (c : Call) (i : ℕ) (ph : Phase) → c.phase ≡ ph → Owes c (sent_in (take i answers)) → Sums q answers (ended_by ph c i)
  summed_by answers c i (phase.Receive w) p h = refl
  summed_by answers c i (phase.Send batch e) p h = refl
  summed_by answers c i (phase.Shutdown e) p h = refl
  summed_by answers c i (phase.Finished o) p h = omega (arith, h.0, ap (λ (x : Phase). whole_in c.receiver (coming_to x)) p)

  summed_for : (answers : List Answer) (x : Result Call Refusal) (i : ℕ) → Holds ring Owes keeps_sum x (sent_in (take i answers)) → Sums q answers (ended_for x i)
  summed_for answers (Ok c) i h = summed_by answers c i c.phase refl h.1
  summed_for answers (Err r) i h = refl

  begun : (x : Result Call Refusal) → MadeBy x → Goes (Begun q) x → Holds ring Owes keeps_sum x 0
  begun (Ok c) m h = (m, (omega (arith, h.0), h.1))
  begun (Err r) m h = tt

  summed : (x : Result Call Refusal) → MadeBy x → Goes (Begun q) x → (answers : List Answer) → Sums q answers (ended_of (driven_of x ring answers))
  summed x m h answers = let d = driven_of x ring answers in summed_for answers d.step d.used (driven_holds ring Owes keeps_sum x answers (begun x m h))

goes : (P Q : Call → Type 0) → ((c : Call) → P c → Q c) → (x : Result Call Refusal) → Goes P x → Goes Q x
goes P Q f (Ok c) h = f c h
goes P Q f (Err r) h = tt

read_summed : (q : ReceiverState) (ring : List ℕ) (asked top : ℕ) (answers : List Answer) → Sums q answers (ended_of (read_of q ring asked top answers))
read_summed q ring asked top answers =
    let x = begin_read_of q (length ring) top asked in
    summed q ring x (begin_read_made q (length ring) top asked) (goes (BeginsRead q (a_want top asked)) (Begun q) (read_begun q (a_want top asked)) x (begins_at q (length ring) top asked)) answers

-- the end of the stream hands nothing out
turned_summed : (q : ReceiverState) (answers : List Answer) (r : Result Ended Refusal) → Sums q answers r → Sums q answers (end_of_stream_in r)
turned_summed q answers (Ok m) h = h ∙ ap (λ (n : ℕ). q.pending_ack_count + n) (turned m.outcome.came refl)
  where
    turned : (x : Came) → m.outcome.came ≡ x → whole_in m.receiver m.outcome ≡ whole_in m.receiver (end_of_stream_by x m.outcome)
    turned (came.Read n) k = refl
    turned came.Done k = refl
    turned (came.Failed f) k = by (is_errno f 32)
      where
        by : (b : Bool) → whole_in m.receiver m.outcome ≡ whole_in m.receiver (cond b (read_outcome 0 none_beside) m.outcome)
        by true = ap (whole_by m.receiver) k
        by false = refl
turned_summed q answers (Err r) h = h

call_summed : (q : ReceiverState) (c : Asked) → Sums q (answers_of c) (ends_of q c)
call_summed q (services answers) = summed q [] (begin_service_of q) (service_made q) (goes (BeginsService q) (Begun q) (service_begun q) (begin_service_of q) (serves_at q)) answers
call_summed q (shuts answers) = summed q [] (begin_shutdown_of q) (shutdown_made q) (goes (BeginsShutdown q) (Begun q) (shutdown_begun q) (begin_shutdown_of q) (shuts_at q)) answers
call_summed q (reads_impl ring asked top answers) = read_summed q ring asked top answers
call_summed q (reads ring asked top answers) = turned_summed q answers (ended_of (read_of q ring asked top answers)) (read_summed q ring asked top answers)

-- ---- of the calls
pub left_by : (q : ReceiverState) (c : Asked) (r : Result Ended Refusal) → MayLeave q c r → r ≡ ends_of q c
left_by q (services answers) r p = service_chunk_acknowledgements_says q answers r p
left_by q (shuts answers) r p = shutdown_says q answers r p
left_by q (reads_impl ring asked top answers) r (dst, l, (left, p)) =
    (read_with_fds_impl_says q ring dst top answers r left p).0 ∙ delivered ring dst (read_of q ring (length dst) top answers) ∙ ap (λ (n : ℕ). ended_of (read_of q ring n top answers)) l
left_by q (reads ring asked top answers) r (dst, l, (left, p)) =
    (read_with_fds_says q ring dst top answers r left p).0 ∙ ap end_of_stream_in (delivered ring dst (read_of q ring (length dst) top answers)) ∙ ap (λ (n : ℕ). end_of_stream_in (ended_of (read_of q ring n top answers))) l

module _ (ends : ReceiverState → Asked → Result Ended Refusal) (allowed : (q : ReceiverState) (c : Asked) → MayLeave q c (ends q c)) where
  pub pending_promised : (cs : List Asked) (q : ReceiverState) → (after ends q cs).pending_ack_count + all_sent ends q cs ≡ q.pending_ack_count + all_whole ends q cs
  pending_promised [] q = refl
  pending_promised (c ∷ cs) q =
      let k : Sums q (answers_of c) (ends q c) = subst (Sums q (answers_of c)) (sym (left_by q c (ends q c) (allowed q c))) (call_summed q c) in
      omega (arith, k, pending_promised cs (next_over q (ends q c)))
