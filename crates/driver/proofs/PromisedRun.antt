-- A run is its steps, of the calls: whatever their predicates allow is the machine's calls one after the other, whatever those allow. The
-- driver hands in no interruption, and a host may, because one leaves a call that the machine made as it was.
use Rattle.std.proofs.Common.{Result, Ok, Err}
use Prim.Native.Nat.{ℕ, suc}
use mathlib.Core.Path.{◌≡◌, refl, sym, ap, subst, ◌∙◌}
use mathlib.Core.Bool.{Bool, cond, true, false}
use mathlib.Core.List.{List, [], ◌∷◌}
use lib.ListN.{length}
use Rattle.receiver.proofs.MadeLaws.{MadeBy, answered_made, waited_out, service_made, shutdown_made, begin_read_made}
use Rattle.receiver.proofs.Made.{Made}
use Rattle.receiver.proofs.PromisedMachine.{Answers, answers_are}
use Rattle.receiver.proofs.Says.{begin_service_says, begin_shutdown_says, begin_read_says}
use Rattle.receiver.specs.Call.{is_over, over_of, retries_of, answered_of, begin_read_of, begin_service_of, begin_shutdown_of}
use Rattle.receiver.specs.Handed.{Handed}
use Rattle.states.specs.declared.answer.Answer.{Answer}
use Rattle.receiver.specs.declared.call.Call.{Call}
use Rattle.receiver.specs.declared.call.Phase.{Phase}
use Rattle.receiver.specs.declared.call.Phase.TheVariants as phase
use Rattle.receiver.specs.declared.receiver.ReceiverState.{ReceiverState}
use Rattle.states.specs.declared.refusal.Refusal.TheVariants.{AnswerMissing}
use Rattle.driver.specs.Drive.{driven, driven_from, driven_of, ended_by, ended_of}
use Rattle.driver.specs.Pending.{Asked, reads, reads_impl, services, shuts}
use Rattle.driver.specs.Promise.{Turned, told_by, steps_to, MayLeave, MayBegin, Stepped}
use Rattle.driver.specs.Run.{read_of}
use Rattle.driver.proofs.Promised.{turned_answer}
use Rattle.driver.proofs.PromisedSum.{left_by}
use Rattle.driver.proofs.Used.{at_over, at_retry, at_answer, waiting_phase}
use Rattle.receiver.specs.declared.receiver.Ended.{Ended}
use Rattle.states.specs.declared.refusal.Refusal.{Refusal}

module _ (takes : Call → Handed → Result Call Refusal) (allowed : (c : Call) (h : Handed) → Answers c h (takes c h)) where
  module _ (ring : List ℕ) where
    abbrev handed : Answer → ℕ → Handed
    handed a place = record { ring = ring; answer = a; place = place }

    -- the next step of a run is one that the driver goes on from
    module _ (c : Call) (h : Made c) (i : ℕ) (a : Answer) where
      abbrev next : Result Call Refusal
      next = takes c (handed a (suc i))

      next_is : next ≡ answered_of c ring a (suc i)
      next_is = answers_are c (handed a (suc i)) next (allowed c (handed a (suc i)))

      next_made : MadeBy next
      next_made = subst MadeBy (sym next_is) (answered_made c h ring a (suc i))

      goes_on : (xs : List Answer) → over_of c ≡ false → driven_from (suc i) next ring xs ≡ driven_from i (Ok c) ring (a ∷ xs)
      goes_on xs w = ap (λ (x : Result Call Refusal). driven_from (suc i) x ring xs) next_is ∙ by (retries_of c a) refl
        where
          by : (b : Bool) → retries_of c a ≡ b → driven_from (suc i) (answered_of c ring a (suc i)) ring xs ≡ driven_from i (Ok c) ring (a ∷ xs)
          by true r = ap (λ (x : Result Call Refusal). driven_from (suc i) x ring xs) (waited_out c h ring a (suc i) r) ∙ sym (at_retry ring i (Ok c) a xs w r)
          by false r = sym (at_answer ring i (Ok c) a xs w r)

    -- a call that is finished ends the run, and what waits goes on
    ends_or : (c : Call) (i : ℕ) (xs : List Answer) (rest : Result Ended Refusal) → (over_of c ≡ false → rest ≡ ended_of (driven_from i (Ok c) ring xs)) → (ph : Phase) → c.phase ≡ ph → told_by ph c.receiver i rest ≡ ended_of (driven_from i (Ok c) ring xs)
    ends_or c i xs rest f (phase.Receive w) e = f (ap is_over e)
    ends_or c i xs rest f (phase.Send batch x) e = f (ap is_over e)
    ends_or c i xs rest f (phase.Shutdown x) e = f (ap is_over e)
    ends_or c i xs rest f (phase.Finished o) e = sym (ap ended_of (at_over ring i (Ok c) xs (ap is_over e)) ∙ ap (λ (ph : Phase). ended_by ph c i) e)

    steps : (xs : List Answer) (i : ℕ) (x : Result Call Refusal) → MadeBy x → steps_to takes ring i x xs ≡ ended_of (driven_from i x ring xs)
    steps [] i (Err r) h = refl
    steps (a ∷ xs) i (Err r) h = refl
    steps [] i (Ok c) h =
        ends_or c i [] (Err AnswerMissing) (λ w. sym (ap (λ (b : Bool). ended_of (cond b (driven (Ok c) i) (driven (Ok c) i))) w ∙ waiting_phase c.phase c i w)) c.phase refl
    steps (a ∷ xs) i (Ok c) h =
        ends_or c i (a ∷ xs) (steps_to takes ring (suc i) (next c h i a) xs) (λ w. steps xs (suc i) (next c h i a) (next_made c h i a) ∙ ap ended_of (goes_on c h i a xs w)) c.phase refl

    begun : (xs : List Answer) (x y : Result Call Refusal) → x ≡ y → MadeBy y → ended_of (driven_of y ring xs) ≡ steps_to takes ring 0 x xs
    begun xs x y e h = sym (ap (λ (z : Result Call Refusal). steps_to takes ring 0 z xs) e ∙ steps xs 0 y h)

  -- of the calls
  module _ (q : ReceiverState) (x : Result Call Refusal) (r : Result Ended Refusal) where
    read_steps : (ring : List ℕ) (asked top : ℕ) (answers : List Answer) → MayBegin q (reads_impl ring asked top answers) x → ended_of (read_of q ring asked top answers) ≡ steps_to takes ring 0 x answers
    read_steps ring asked top answers b =
        begun ring answers x (begin_read_of q (length ring) top asked) (begin_read_says tt (q, (length ring, (top, (asked, tt)))) x b.0 b.1) (begin_read_made q (length ring) top asked)

    pub run_promised : (c : Asked) → MayBegin q c x → MayLeave q c r → Stepped takes c x r
    run_promised (services answers) b l = left_by q (services answers) r l ∙ begun [] answers x (begin_service_of q) (begin_service_says tt (q, tt) x b.0 b.1) (service_made q)
    run_promised (shuts answers) b l = left_by q (shuts answers) r l ∙ begun [] answers x (begin_shutdown_of q) (begin_shutdown_says tt (q, tt) x b.0 b.1) (shutdown_made q)
    run_promised (reads_impl ring asked top answers) b l = left_by q (reads_impl ring asked top answers) r l ∙ read_steps ring asked top answers b
    run_promised (reads ring asked top answers) b l =
        let w = ended_of (read_of q ring asked top answers) in
        subst (λ (y : Result Ended Refusal). Turned y r) (read_steps ring asked top answers b) (subst (Turned w) (sym (left_by q (reads ring asked top answers) r l)) (turned_answer w))
