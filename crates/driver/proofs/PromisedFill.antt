-- The held fill, of the runs: the record of a receiver that an accepted run answers passes every test, 20 among them.
use Rattle.std.proofs.Common.{Result, Ok, Err}
use Prim.Native.Nat.{ℕ, ◌+◌}
use mathlib.Core.Path.{◌≡◌, sym, subst}
use mathlib.Core.Bool.{false}
use mathlib.Core.List.{List, []}
use lib.ListN.{length}
use Rattle.sched.specs.Given.{Passes}
use Rattle.sched.proofs.PromisedFill.{passes}
use Rattle.states.specs.declared.answer.Answer.{Answer}
use Rattle.receiver.specs.Call.{over_of, answered_of, begin_read_of, begin_service_of, begin_shutdown_of}
use Rattle.receiver.specs.Cases.{Takes, Goes}
use Rattle.receiver.specs.Handed.{sent_by}
use Rattle.receiver.specs.declared.call.Call.{Call}
use Rattle.receiver.specs.declared.call.Phase.{Phase}
use Rattle.receiver.specs.declared.call.Phase.TheVariants as phase
use Rattle.receiver.specs.declared.receiver.ReceiverState.{ReceiverState}
use Rattle.receiver.proofs.CaseSteps.{made_takes}
use Rattle.receiver.proofs.Made.{Made}
use Rattle.receiver.proofs.MadeLaws.{MadeBy, begin_read_made, service_made, shutdown_made}
use Rattle.receiver.proofs.PromisedFill.{Sound, takes_sound, read_begun_sound, service_begun_sound, shutdown_begun_sound}
use Rattle.driver.specs.Drive.{driven_of, ended_by, ended_for, ended_of, end_of_stream_in}
use Rattle.driver.specs.Pending.{Asked, services, shuts, reads_impl, reads, ends_of}
use Rattle.driver.specs.Promise.{MayLeave}
use Rattle.driver.specs.Run.{read_of}
use Rattle.driver.proofs.Along.{Holds, driven_holds}
use Rattle.driver.proofs.PromisedSum.{left_by}
use Rattle.receiver.specs.declared.receiver.Ended.{Ended}
use Rattle.states.specs.declared.refusal.Refusal.{Refusal}

abbrev pub Holding : Result Ended Refusal → Type 0
Holding (Ok m) = Passes m.receiver.scheduler
Holding (Err r) = Unit {0}

module _ (ring : List ℕ) where
  abbrev Kept : Call → ℕ → Type 0
  Kept c n = Sound c

  keeps : (c : Call) → Made c → over_of c ≡ false → (n : ℕ) → Kept c n → (a : Answer) (place : ℕ) (d : Call) → answered_of c ring a place ≡ Ok d → Kept d (n + sent_by a)
  keeps c m w n h a place d e = takes_sound c ring a d h c.phase (subst (Goes (Takes c ring a)) e (made_takes c m ring a place))

  ended_by_lem : (c : Call) (i : ℕ) (ph : Phase) → Sound c → Holding (ended_by ph c i)
  ended_by_lem c i (phase.Receive w) h = tt
  ended_by_lem c i (phase.Send batch e) h = tt
  ended_by_lem c i (phase.Shutdown e) h = tt
  ended_by_lem c i (phase.Finished o) h = passes c.receiver.scheduler h

  ended_for_lem : (x : Result Call Refusal) (i n : ℕ) → Holds ring Kept keeps x n → Holding (ended_for x i)
  ended_for_lem (Ok c) i n h = ended_by_lem c i c.phase h.1
  ended_for_lem (Err r) i n h = tt

  begun : (x : Result Call Refusal) → MadeBy x → Goes Sound x → Holds ring Kept keeps x 0
  begun (Ok c) m h = (m, h)
  begun (Err r) m h = tt

  run_holds : (x : Result Call Refusal) → MadeBy x → Goes Sound x → (answers : List Answer) → Holding (ended_of (driven_of x ring answers))
  run_holds x m h answers = let d = driven_of x ring answers in ended_for_lem d.step d.used _ (driven_holds ring Kept keeps x answers (begun x m h))

read_holds : (q : ReceiverState) (ring : List ℕ) (asked top : ℕ) (answers : List Answer) → Holding (ended_of (read_of q ring asked top answers))
read_holds q ring asked top answers = run_holds ring (begin_read_of q (length ring) top asked) (begin_read_made q (length ring) top asked) (read_begun_sound q (length ring) top asked) answers

turned_holds : (r : Result Ended Refusal) → Holding r → Holding (end_of_stream_in r)
turned_holds (Ok m) h = h
turned_holds (Err r) h = tt

call_holds : (q : ReceiverState) (c : Asked) → Holding (ends_of q c)
call_holds q (services answers) = run_holds [] (begin_service_of q) (service_made q) (service_begun_sound q) answers
call_holds q (shuts answers) = run_holds [] (begin_shutdown_of q) (shutdown_made q) (shutdown_begun_sound q) answers
call_holds q (reads_impl ring asked top answers) = read_holds q ring asked top answers
call_holds q (reads ring asked top answers) = turned_holds (ended_of (read_of q ring asked top answers)) (read_holds q ring asked top answers)

-- ---- of the calls: the four runs, over any memory and answers
pub run_passes : (q : ReceiverState) (c : Asked) (r : Result Ended Refusal) → MayLeave q c r → Holding r
run_passes q c r p = subst Holding (sym (left_by q c r p)) (call_holds q c)
