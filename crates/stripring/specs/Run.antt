-- What the receiver's calls over a lent run of answers promise: each promise is one predicate of all that the call leaves.
use Rattle.std.specs.Prelude.{◌≡◌, ℕ, List}
use Rattle.driver.specs.Drive.{Delivery}
use Rattle.driver.specs.Run.{service_of, shutdown_of, read_impl_delivery, read_delivery}
use Rattle.states.specs.declared.answer.Answer.{Answer}
use Rattle.flat.specs.declared.structs.EndedAnswer.{EndedAnswer}
use Rattle.flat.specs.declared.structs.Receiver.{Receiver}
use Rattle.flat.specs.Receiver.{receiver_at, flat_ended}

abbrev pub FlatServiceLeaves : Receiver → List Answer → EndedAnswer → Type 0
FlatServiceLeaves r answers a = a ≡ flat_ended (service_of (receiver_at r) answers)

abbrev pub FlatShutdownLeaves : Receiver → List Answer → EndedAnswer → Type 0
FlatShutdownLeaves r answers a = a ≡ flat_ended (shutdown_of (receiver_at r) answers)

-- a read: its answer, and what is left in the destination
pub record EndedAnswerLeft : Type 0 where
  pub answer : EndedAnswer
  pub memory : List ℕ

abbrev pub ended_answer_left : EndedAnswer → List ℕ → EndedAnswerLeft
ended_answer_left a m = record { answer = a; memory = m }

abbrev pub flat_delivery : Delivery → EndedAnswerLeft
flat_delivery d = ended_answer_left (flat_ended d.answer) d.memory

abbrev pub FlatReadImplLeaves : Receiver → List ℕ → List ℕ → ℕ → List Answer → EndedAnswer → List ℕ → Type 0
FlatReadImplLeaves r ring dst top answers a left = ended_answer_left a left ≡ flat_delivery (read_impl_delivery (receiver_at r) ring dst top answers)

abbrev pub FlatReadLeaves : Receiver → List ℕ → List ℕ → ℕ → List Answer → EndedAnswer → List ℕ → Type 0
FlatReadLeaves r ring dst top answers a left = ended_answer_left a left ≡ flat_delivery (read_delivery (receiver_at r) ring dst top answers)
