-- What the rules make of a record that passed its tests is sound, and takes the answer.
use native.Mathlib.Omega.{arith}
use Rattle.receiver.proofs.SoundLaws.{resumed_sound}
use Rattle.receiver.proofs.ResumedLaws.{resumed_steps, passes}
use Rattle.receiver.proofs.call.Call.answered.Goals as goal

pub invariant_of-stepped : goal.invariant_of-stepped
invariant_of-stepped c = resumed_sound c.args.self _ c.in_ok-admit.ensures.sound c.in_ok-call.ensures

pub stepped-requires : goal.stepped-requires
stepped-requires c =
    resumed_steps c.args.answer _ c.args.self (passes c.args.self c.args.ring.now c.args.answer c.args.place _ c.looks_at.ensures c.in_ok-admit.ensures.value) (omega (arith, c.well_formed)) _ c.in_ok-call.ensures
