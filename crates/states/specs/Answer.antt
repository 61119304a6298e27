-- The socket's answers, and what each says at its place. An answer that its place cannot have is a misfit.
use Rattle.std.specs.Prelude.{ℕ, min, Bool, cond, false, eqb, leb, Option, Some, None}
use Rattle.states.specs.State.{fits_errno}
use Rattle.states.specs.declared.answer.Answer.{Answer}
use Rattle.states.specs.declared.answer.Kind.{Kind}
use Rattle.states.specs.declared.answer.Kind.TheVariants as kind
use Rattle.states.specs.declared.answer.Received.{Received}
use Rattle.states.specs.declared.answer.Received.TheVariants as received
use Rattle.states.specs.declared.answer.Sent.{Sent}
use Rattle.states.specs.declared.answer.Sent.TheVariants as sent
use Rattle.states.specs.declared.answer.Shut.{Shut}
use Rattle.states.specs.declared.answer.Shut.TheVariants as shut

-- the kinds
abbrev pub is_byte : Answer → Bool
is_byte a = eqb a.kind 0

abbrev pub is_closed : Answer → Bool
is_closed a = eqb a.kind 1

abbrev pub is_failed : Answer → Bool
is_failed a = eqb a.kind 2

abbrev pub is_sent : Answer → Bool
is_sent a = eqb a.kind 3

abbrev pub is_done : Answer → Bool
is_done a = eqb a.kind 4

-- which kind, if any
unfoldable pub kind_of : Answer → Option Kind
kind_of a =
    cond (is_byte a) (Some kind.Byte)
    (cond (is_closed a) (Some kind.Closed)
    (cond (is_failed a) (Some kind.Failed)
    (cond (is_sent a) (Some kind.Sent)
    (cond (is_done a) (Some kind.Done) None))))

-- errno 4 is an interruption
unfoldable pub interrupted_of : Answer → Bool
interrupted_of a = cond (is_failed a) (eqb a.value 4) false

-- Receive: a byte with at most `top` descriptors, closed (failure 32), or failed
unfoldable pub received_of : ℕ → Answer → Received
received_of top a =
    cond (is_byte a) (cond (leb a.value 255) (cond (leb a.descriptors top) (received.Byte a.value a.descriptors) received.Misfit) received.Misfit)
    (cond (is_closed a) (received.Failed 32)
    (cond (is_failed a) (cond (fits_errno a.value) (received.Failed a.value) received.Misfit) received.Misfit))

-- a batch is min(128, pending)
abbrev pub batch_of : ℕ → ℕ
batch_of pending = min 128 pending

-- Send: sent at most the batch, or failed
unfoldable pub sent_of : ℕ → Answer → Sent
sent_of batch a =
    cond (is_sent a) (cond (leb a.value batch) (sent.Sent a.value) sent.Misfit)
    (cond (is_failed a) (cond (fits_errno a.value) (sent.Failed a.value) sent.Misfit) sent.Misfit)

-- Shutdown: done, or failed
unfoldable pub shut_of : Answer → Shut
shut_of a =
    cond (is_done a) shut.Done
    (cond (is_failed a) (cond (fits_errno a.value) (shut.Failed a.value) shut.Misfit) shut.Misfit)
