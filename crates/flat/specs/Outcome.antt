-- What a host's outcome stands for, and the flat form of one. What a kind does not use is 0.
use Rattle.std.specs.Prelude.{cond, eqb}
use Rattle.receiver.specs.declared.receiver.Beside.{Beside}
use Rattle.receiver.specs.declared.receiver.Came.{Came}
use Rattle.receiver.specs.declared.receiver.Came.TheVariants.{Read, Done, Failed}
use Rattle.receiver.specs.declared.receiver.Outcome as receiver
use Rattle.flat.specs.declared.structs.Outcome.{Outcome}
use Rattle.flat.specs.Failure.{failure_at, no_failure, flat_failure}

-- kind 0 is a read, 1 done, any other failed
unfoldable pub came_at : Outcome → Came
came_at o =
    cond (eqb o.kind 0) (Read o.n)
    (cond (eqb o.kind 1) Done
    (Failed (failure_at o.failure)))

abbrev pub beside_at : Outcome → Beside
beside_at o = record { fds = o.fds }

abbrev pub outcome_at : Outcome → receiver.Outcome
outcome_at o = record { came = came_at o; beside = beside_at o }

abbrev pub no_outcome : Outcome
no_outcome = record { kind = 0; n = 0; fds = 0; failure = no_failure }

abbrev pub flat_came : Came → Beside → Outcome
flat_came (Read m) b = record { kind = 0; n = m; fds = b.fds; failure = no_failure }
flat_came Done b = record { kind = 1; n = 0; fds = b.fds; failure = no_failure }
flat_came (Failed f) b = record { kind = 2; n = 0; fds = b.fds; failure = flat_failure f }

abbrev pub flat_outcome : receiver.Outcome → Outcome
flat_outcome o = flat_came o.came o.beside
