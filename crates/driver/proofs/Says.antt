-- What each call says, in the order of the paper. The toolchain reads no contract over a lent run, so each cites one predicate of its
-- outcome, and what the predicate allows is this definition of the arguments.
use Rattle.std.proofs.Common.{Result, Option}
use Prim.Native.Nat.{ℕ}
use mathlib.Core.Path.{◌≡◌, ap}
use mathlib.Core.List.{List}
use Rattle.states.specs.declared.answer.Answer.{Answer}
use Rattle.receiver.specs.declared.receiver.ReceiverState.{ReceiverState}
use Rattle.driver.specs.Drive.{fetched_of, Delivery}
use Rattle.driver.specs.Run.{service_of, shutdown_of, read_impl_delivery, read_delivery, FetchLeaves, ServiceLeaves, ShutdownLeaves, ReadImplLeaves, ReadLeaves}
use Rattle.receiver.specs.declared.receiver.Ended.{Ended}
use Rattle.states.specs.declared.refusal.Refusal.{Refusal}

pub fetch_says : (answers : List Answer) (i : ℕ) (r : Option Answer) → FetchLeaves answers i r → r ≡ fetched_of answers i
fetch_says answers i r p = p

-- the receiver, the ring, the destination, the most descriptors, and the run
pub read_with_fds_says : (q : ReceiverState) (ring dst : List ℕ) (top : ℕ) (answers : List Answer) (r : Result Ended Refusal) (left : List ℕ) → ReadLeaves q ring dst top answers r left →
    (r ≡ (read_delivery q ring dst top answers).answer) × (left ≡ (read_delivery q ring dst top answers).memory)
read_with_fds_says q ring dst top answers r left p = (ap (λ (d : Delivery). d.answer) p, ap (λ (d : Delivery). d.memory) p)

pub read_with_fds_impl_says : (q : ReceiverState) (ring dst : List ℕ) (top : ℕ) (answers : List Answer) (r : Result Ended Refusal) (left : List ℕ) → ReadImplLeaves q ring dst top answers r left →
    (r ≡ (read_impl_delivery q ring dst top answers).answer) × (left ≡ (read_impl_delivery q ring dst top answers).memory)
read_with_fds_impl_says q ring dst top answers r left p = (ap (λ (d : Delivery). d.answer) p, ap (λ (d : Delivery). d.memory) p)

pub service_chunk_acknowledgements_says : (q : ReceiverState) (answers : List Answer) (r : Result Ended Refusal) → ServiceLeaves q answers r → r ≡ service_of q answers
service_chunk_acknowledgements_says q answers r p = p

pub shutdown_says : (q : ReceiverState) (answers : List Answer) (r : Result Ended Refusal) → ShutdownLeaves q answers r → r ≡ shutdown_of q answers
shutdown_says q answers r p = p
