-- The pending count over any list of calls: what it was, and one for each chunk that was handed out whole, less all that was sent.
use Rattle.std.specs.Prelude.{ℕ, ◌+◌, List, [], ◌∷◌, take, Result, Ok, Err}
use Rattle.receiver.specs.Handed.{sent_by, whole_in}
use Rattle.states.specs.declared.answer.Answer.{Answer}
use Rattle.receiver.specs.declared.receiver.ReceiverState.{ReceiverState}
use Rattle.driver.specs.Drive.{ended_of, end_of_stream_in}
use Rattle.driver.specs.Run.{service_of, shutdown_of, read_of}
use Rattle.receiver.specs.declared.receiver.Ended.{Ended}
use Rattle.states.specs.declared.refusal.Refusal.{Refusal}

-- a call, with what is lent to it: the ring, the destination's length and the most descriptors of a read, and the answers
pub data Asked : Type 0 where
  reads : List ℕ → ℕ → ℕ → List Answer → Asked
  reads_impl : List ℕ → ℕ → ℕ → List Answer → Asked
  services : List Answer → Asked
  shuts : List Answer → Asked

-- what it leaves
abbrev pub ends_of : ReceiverState → Asked → Result Ended Refusal
ends_of q (reads ring asked top answers) = end_of_stream_in (ended_of (read_of q ring asked top answers))
ends_of q (reads_impl ring asked top answers) = ended_of (read_of q ring asked top answers)
ends_of q (services answers) = service_of q answers
ends_of q (shuts answers) = shutdown_of q answers

abbrev pub answers_of : Asked → List Answer
answers_of (reads ring asked top answers) = answers
answers_of (reads_impl ring asked top answers) = answers
answers_of (services answers) = answers
answers_of (shuts answers) = answers

-- what answers say was sent
abbrev pub sent_in : List Answer → ℕ
sent_in [] = 0
sent_in (a ∷ rest) = sent_by a + sent_in rest

-- of a call: what it sent, by the answers that it used; whether it handed a chunk out whole; the record after it
abbrev pub sent_over : List Answer → Result Ended Refusal → ℕ
sent_over answers (Ok m) = sent_in (take m.used answers)
sent_over answers (Err r) = 0

abbrev pub whole_over : Result Ended Refusal → ℕ
whole_over (Ok m) = whole_in m.receiver m.outcome
whole_over (Err r) = 0

abbrev pub next_over : ReceiverState → Result Ended Refusal → ReceiverState
next_over q (Ok m) = m.receiver
next_over q (Err r) = q

-- ---- over a list of calls: `ends` is what each leaves
module _ (ends : ReceiverState → Asked → Result Ended Refusal) where
  abbrev pub next_of : ReceiverState → Asked → ReceiverState
  next_of q c = next_over q (ends q c)

  abbrev pub after : ReceiverState → List Asked → ReceiverState
  after q [] = q
  after q (c ∷ cs) = after (next_of q c) cs

  abbrev pub all_sent : ReceiverState → List Asked → ℕ
  all_sent q [] = 0
  all_sent q (c ∷ cs) = sent_over (answers_of c) (ends q c) + all_sent (next_of q c) cs

  abbrev pub all_whole : ReceiverState → List Asked → ℕ
  all_whole q [] = 0
  all_whole q (c ∷ cs) = whole_over (ends q c) + all_whole (next_of q c) cs
