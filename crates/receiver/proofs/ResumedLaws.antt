-- What the rules make of a call in progress, and that it can take the answer.
use Rattle.std.specs.Bool.{⊤}
use Rattle.std.proofs.Common.{Result, Ok, Option, ℕ}
use Prim.Native.Nat.{ℕ, ◌^◌, ◌<◌}
use mathlib.Core.Path.{◌≡◌, refl, sym, ap, subst, ◌∙◌}
use mathlib.Core.Bool.{true}
use mathlib.Core.List.{List}
use lib.ListN.{length}
use Rattle.receiver.proofs.AdmissionLaws.{passed_sound, passed_sized}
use Rattle.receiver.proofs.AnsweredLaws.{below}
use Rattle.receiver.proofs.CaseSteps.{resumes_by}
use Rattle.receiver.proofs.StepLaws.{Settled, closes_spends, serves_spends, hands}
use Rattle.receiver.specs.Admission.{admission_of}
use Rattle.states.specs.Answer.{received_of}
use Rattle.receiver.specs.Call.{retries_in, ByteSized, looks_by, looks_at, resumed_of, StepsBy, Steps, stepped_by, admitted_step, answered_from, answered_of}
use Rattle.receiver.specs.Cases.{BeginsRead, is_terminated, none_asked, awaits, holds_data, ResumesIn, Resumes, Goes}
use Rattle.receiver.specs.Promise.{nothing_more}
use Rattle.states.specs.declared.answer.Answer.{Answer}
use Rattle.states.specs.declared.answer.Received.{Received}
use Rattle.states.specs.declared.answer.Received.TheVariants as received
use Rattle.receiver.specs.declared.call.Call.{Call}
use Rattle.receiver.specs.declared.call.Phase.{Phase}
use Rattle.receiver.specs.declared.call.Phase.TheVariants as phase
use Rattle.receiver.specs.declared.call.Wanted.{Wanted}
use Rattle.receiver.specs.declared.receiver.ReceiverState.{ReceiverState}
use Rattle.states.specs.declared.refusal.Refusal.{Refusal}

-- an interruption that is waited out leaves the call as it is
pub steps_back : (c : Call) (ring : List ℕ) (a : Answer) (place : ℕ) (ph : Phase) → retries_in ph a ≡ true → stepped_by ph c ring a place ≡ Ok c
steps_back c ring a place (phase.Receive w) e = rw e
steps_back c ring a place (phase.Send batch x) e = rw e
steps_back c ring a place (phase.Shutdown x) e = cc
steps_back c ring a place (phase.Finished o) e = refl

-- ---- the call after an answer: of a record that passed its tests, what the rules make of it takes the answer
module _ (c : Call) (ring : List ℕ) (a : Answer) (place : ℕ) (m : Option ℕ) (looks : m ≡ looks_at c.phase a (length ring)) where
  admitted : (x : Result ⊤ Refusal) → x ≡ admission_of c.receiver m → admitted_step x (answered_from (resumed_of c) ring a place) ≡ answered_of c ring a place
  admitted x p = ap (λ (y : Result ⊤ Refusal). admitted_step y (answered_from (resumed_of c) ring a place)) (p ∙ ap (admission_of c.receiver) looks)

  pub answered_on : (Ok tt) ≡ admission_of c.receiver m → (x : Result Call Refusal) → x ≡ resumed_of c → answered_from x ring a place ≡ answered_of c ring a place
  answered_on p x e = ap (λ (y : Result Call Refusal). answered_from y ring a place) e ∙ admitted (Ok tt) p

  pub passes : (Ok tt) ≡ admission_of c.receiver m → Ok tt ≡ admission_of c.receiver (looks_at c.phase a (length ring))
  passes p = p ∙ ap (admission_of c.receiver) looks

-- ---- a call that the rules make can take the answer, by the cases
module _ (a : Answer) (n : ℕ) where
  -- one that waits for no announcement asks nothing of its record
  settled_steps : (ph : Phase) (q : ReceiverState) → Settled ph → StepsBy ph q a n
  settled_steps (phase.Receive w) q h = absurd h
  settled_steps (phase.Send batch e) q h = tt
  settled_steps (phase.Shutdown e) q h = tt
  settled_steps (phase.Finished o) q h = tt

  read_steps : (q : ReceiverState) (w : Wanted) → ByteSized (received_of w.max_new_fds a) n q → q.pending_ack_count < 2 ^ 64 → (d : Call) → BeginsRead q w d → Steps d a n
  read_steps q w sized counts _ (is_terminated p) = tt
  read_steps q w sized counts _ (none_asked l z) = tt
  read_steps q w sized counts _ (awaits r z) = (below _ counts r.counts, sized)
  read_steps q w sized counts d (holds_data r l h) = settled_steps d.phase d.receiver (hands q w.dst_len nothing_more r.some l d h).settled

  -- the ring of a byte that was received has been tested
  sized_by : (q : ReceiverState) (x : Received) → Ok tt ≡ admission_of q (looks_by x n) → ByteSized x n q
  sized_by q (received.Byte byte _) p = passed_sized q n p
  sized_by q (received.Failed e) p = tt
  sized_by q received.Misfit p = tt

  module _ (c : Call) (counts : c.receiver.pending_ack_count < 2 ^ 64) (d : Call) where
    steps_by : (ph : Phase) → c.phase ≡ ph → Ok tt ≡ admission_of c.receiver (looks_at ph a n) → ResumesIn ph c d → Steps d a n
    steps_by (phase.Receive w) e p h =
        let x = received_of w.max_new_fds a in
        read_steps c.receiver w (sized_by c.receiver x p) counts d h
    steps_by (phase.Send batch x) e p h = settled_steps d.phase d.receiver (serves_spends c.receiver c.source x d h).settled
    steps_by (phase.Shutdown x) e p h = settled_steps d.phase d.receiver (closes_spends c.receiver c.source x d h).settled
    steps_by (phase.Finished o) e p h = subst (λ (y : Call). Steps y a n) (sym h) (subst (λ (ph : Phase). StepsBy ph c.receiver a n) (sym e) tt)

  pub resumed_steps : (c : Call) → Ok tt ≡ admission_of c.receiver (looks_at c.phase a n) → c.receiver.pending_ack_count < 2 ^ 64 → (d : Call) → Ok d ≡ resumed_of c → Steps d a n
  resumed_steps c p counts d e =
      steps_by c counts d c.phase refl p (subst (Goes (Resumes c)) (sym e) (resumes_by c (passed_sound c.receiver (looks_at c.phase a n) p) c.phase))
