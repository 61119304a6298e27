-- A call that the machine made: its record passes the tests, and the rules make of it what it is.
use Rattle.std.proofs.Common.{Ok, Option, None, ℕ}
use mathlib.Core.Path.{◌≡◌, refl}
use mathlib.Core.Bool.{Bool, true, false}
use Rattle.sched.proofs.Laws.{sound_is}
use Rattle.sched.specs.Scheduler.{IsSound}
use Rattle.states.proofs.AnswerSays.{state_fits}
use Rattle.states.specs.Promise.{Stored}
use Rattle.states.specs.State.{fits_state}
use Rattle.receiver.proofs.AdmissionLaws.{passed_sound, passed_fits}
use Rattle.receiver.specs.Admission.{admission_of}
use Rattle.receiver.specs.Call.{resumed_of}
use Rattle.receiver.specs.declared.call.Call.{Call}
use Rattle.receiver.specs.declared.receiver.ReceiverState.{ReceiverState}
use Rattle.states.specs.declared.state.OperationalState.{OperationalState}

-- a record that passes its tests
pub record Tested (q : ReceiverState) : Type 0 where
  pub sound : IsSound q.scheduler
  pub stored : Stored q.state

pub record Made (c : Call) : Type 0 where
  pub tested : Tested c.receiver
  pub resumes : resumed_of c ≡ Ok c

pub passed_tested : (q : ReceiverState) (m : Option ℕ) → Ok tt ≡ admission_of q m → Tested q
passed_tested q m p = record { sound = passed_sound q m p; stored = (state_fits q.state true (passed_fits q m p)).0 refl }

stored_fits : (st : OperationalState) → Stored st → fits_state st ≡ true
stored_fits st h = by (fits_state st) refl
  where
    by : (b : Bool) → fits_state st ≡ b → b ≡ true
    by true e = refl
    by false e = absurd ((state_fits st false e).1 refl h)

pub passes : (q : ReceiverState) → Tested q → Ok tt ≡ admission_of q None
passes q h = rw (← sound_is q.scheduler h.sound, stored_fits q.state h.stored)
