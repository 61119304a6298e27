-- The receiver's calls over a lent run of answers: the machine is begun, and driven over the run. Each call promises one predicate of all
-- that it leaves.
use Rattle.std.specs.Prelude.{◌≡◌, ℕ, List, [], length, Result, Option}
use Rattle.receiver.specs.Call.{begin_read_of, begin_service_of, begin_shutdown_of}
use Rattle.states.specs.declared.answer.Answer.{Answer}
use Rattle.receiver.specs.declared.receiver.ReceiverState.{ReceiverState}
use Rattle.driver.specs.Drive.{fetched_of, driven_of, ended_of, Delivery, delivery, delivery_of, end_of_stream_in}
use Rattle.driver.specs.declared.drive.Driven.{Driven}
use Rattle.receiver.specs.declared.receiver.Ended.{Ended}
use Rattle.states.specs.declared.refusal.Refusal.{Refusal}

-- ---- what each comes to; a call that waits for no announcement looks at no ring
abbrev pub service_of : ReceiverState → List Answer → Result Ended Refusal
service_of q answers = ended_of (driven_of (begin_service_of q) [] answers)

abbrev pub shutdown_of : ReceiverState → List Answer → Result Ended Refusal
shutdown_of q answers = ended_of (driven_of (begin_shutdown_of q) [] answers)

-- a read of so many bytes, and with at most so many descriptors
abbrev pub read_of : ReceiverState → List ℕ → ℕ → ℕ → List Answer → Driven
read_of q ring asked top answers = driven_of (begin_read_of q (length ring) top asked) ring answers

abbrev pub read_impl_delivery : ReceiverState → List ℕ → List ℕ → ℕ → List Answer → Delivery
read_impl_delivery q ring dst top answers = delivery_of (read_of q ring (length dst) top answers) ring dst

abbrev pub end_of_stream : Delivery → Delivery
end_of_stream d = delivery (end_of_stream_in d.answer) d.memory

abbrev pub read_delivery : ReceiverState → List ℕ → List ℕ → ℕ → List Answer → Delivery
read_delivery q ring dst top answers = end_of_stream (read_impl_delivery q ring dst top answers)

-- ---- what each leaves
abbrev pub FetchLeaves : List Answer → ℕ → Option Answer → Type 0
FetchLeaves answers i r = r ≡ fetched_of answers i

abbrev pub ServiceLeaves : ReceiverState → List Answer → Result Ended Refusal → Type 0
ServiceLeaves q answers r = r ≡ service_of q answers

abbrev pub ShutdownLeaves : ReceiverState → List Answer → Result Ended Refusal → Type 0
ShutdownLeaves q answers r = r ≡ shutdown_of q answers

-- a read: its answer, and what is left in the destination
abbrev pub ReadImplLeaves : ReceiverState → List ℕ → List ℕ → ℕ → List Answer → Result Ended Refusal → List ℕ → Type 0
ReadImplLeaves q ring dst top answers r left = delivery r left ≡ read_impl_delivery q ring dst top answers

abbrev pub ReadLeaves : ReceiverState → List ℕ → List ℕ → ℕ → List Answer → Result Ended Refusal → List ℕ → Type 0
ReadLeaves q ring dst top answers r left = delivery r left ≡ read_delivery q ring dst top answers
