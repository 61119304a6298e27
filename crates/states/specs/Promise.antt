-- What the states, the failures and the answers promise, told again by cases and in other words than those of their rules, so that a
-- rule that is changed in its place is seen.
use Rattle.std.specs.Prelude.{ℕ, ◌+◌, ◌<◌, ◌≤◌, ◌≡◌, ◌≢◌, Option, Some, None}
use Rattle.states.specs.declared.answer.Answer.{Answer}
use Rattle.states.specs.declared.answer.Received.{Received}
use Rattle.states.specs.declared.answer.Received.TheVariants as received
use Rattle.states.specs.declared.answer.Sent.{Sent}
use Rattle.states.specs.declared.answer.Sent.TheVariants as sent
use Rattle.states.specs.declared.answer.Shut.{Shut}
use Rattle.states.specs.declared.answer.Shut.TheVariants as shut
use Rattle.states.specs.declared.state.Failure.{Failure}
use Rattle.states.specs.declared.state.Failure.TheVariants.{Io, Protocol}
use Rattle.states.specs.declared.state.OperationalState.{OperationalState}
use Rattle.states.specs.declared.state.OperationalState.TheVariants.{Normal, Draining, Terminated}
use Rattle.states.specs.declared.state.Overflow.{Overflow}
use Rattle.states.specs.declared.state.Violation.{Violation}
use Rattle.states.specs.declared.state.Violation.TheVariants.{InvalidChunkAnnouncement, HeaderOverflow, UnknownHeader, InvalidChunkLength, BodyOverflow}

-- ---- errnos
abbrev pub Errno : ℕ → Type 0
Errno e = (1 ≤ e) × (e ≤ 4095)

abbrev pub FailureFits : Failure → Type 0
FailureFits (Io e) = Errno e
FailureFits (Protocol v) = Unit {0}

-- what is stored fits
abbrev pub Stored : OperationalState → Type 0
Stored Normal = Unit {0}
Stored (Draining f) = FailureFits f
Stored (Terminated f) = FailureFits f

-- ---- acknowledgements: a batch is all that is pending, or 128 of it, and never empty
pub data Batch (pending : ℕ) : ℕ → Type 0 where
  all : 1 ≤ pending → pending ≤ 128 → Batch pending pending
  most : 128 ≤ pending → Batch pending 128

-- ---- the reason rule: of a cached failure and a new one, the reason that stays
pub data Reason : Failure → Failure → Failure → Type 0 where
  end_and_end : Reason (Io 32) (Io 32) (Io 32)
  end_gives_way : {e : Failure} → e ≢ Io 32 → Reason (Io 32) e e
  error_and_end : {c : Failure} → c ≢ Io 32 → Reason c (Io 32) c
  error_stays : {c e : Failure} → c ≢ Io 32 → e ≢ Io 32 → Reason c e c

-- ---- advancing a state: one whose failure is 11 counts as Normal
pub data Calm : OperationalState → Type 0 where
  normal : Calm Normal
  blocked_draining : Calm (Draining (Io 11))
  blocked_terminated : Calm (Terminated (Io 11))

-- normalised: one that counts as Normal is Normal, and any other stays
pub data Normalized : OperationalState → OperationalState → Type 0 where
  calmed : {s : OperationalState} → Calm s → Normalized s Normal
  drains : (f : Failure) → f ≢ Io 11 → Normalized (Draining f) (Draining f)
  ends : (f : Failure) → f ≢ Io 11 → Normalized (Terminated f) (Terminated f)

-- the failure that a state holds, and the state with another one
pub data Holds : OperationalState → Option Failure → Type 0 where
  holds_none : Holds Normal None
  draining_holds : {f : Failure} → Holds (Draining f) (Some f)
  terminated_holds : {f : Failure} → Holds (Terminated f) (Some f)

pub data Carries : OperationalState → Failure → OperationalState → Type 0 where
  normal_carries_none : {f : Failure} → Carries Normal f Normal
  draining_carries : {c f : Failure} → Carries (Draining c) f (Draining f)
  terminated_carries : {c f : Failure} → Carries (Terminated c) f (Terminated f)

pub data Advanced : OperationalState → OperationalState → OperationalState → Type 0 where
  calm_by_calm : {s to : OperationalState} → Calm s → Calm to → Advanced s to Normal
  calm_by_draining : {s : OperationalState} {e : Failure} → Calm s → e ≢ Io 11 → Advanced s (Draining e) (Draining e)
  calm_by_terminated : {s : OperationalState} {e : Failure} → Calm s → e ≢ Io 11 → Advanced s (Terminated e) (Terminated e)
  terminated_stays : {c : Failure} {to : OperationalState} → c ≢ Io 11 → Advanced (Terminated c) to (Terminated c)
  draining_stays : {c : Failure} {to : OperationalState} → c ≢ Io 11 → Calm to → Advanced (Draining c) to (Draining c)
  draining_by_draining : {c e f : Failure} → c ≢ Io 11 → e ≢ Io 11 → Reason c e f → Advanced (Draining c) (Draining e) (Draining f)
  draining_by_terminated : {c e f : Failure} → c ≢ Io 11 → e ≢ Io 11 → Reason c e f → Advanced (Draining c) (Terminated e) (Terminated f)

-- ---- an answer at its place
module _ (a : Answer) where
  abbrev AnErrno : Type 0
  AnErrno = (a.kind ≡ 2) × Errno a.value

  -- a receive that takes at most `top` descriptors
  abbrev pub AByte : ℕ → Type 0
  AByte top = (a.kind ≡ 0) × (a.value < 256) × (a.descriptors ≤ top)

  pub data SaysReceived (top : ℕ) : Received → Type 0 where
    a_byte : AByte top → SaysReceived top (received.Byte a.value a.descriptors)
    closed : a.kind ≡ 1 → SaysReceived top (received.Failed 32)
    receive_failed : AnErrno → SaysReceived top (received.Failed a.value)
    no_receive : (AByte top → ⊥) → a.kind ≢ 1 → (AnErrno → ⊥) → SaysReceived top received.Misfit

  -- a send of so many
  pub data SaysSent (batch : ℕ) : Sent → Type 0 where
    so_many : a.kind ≡ 3 → a.value ≤ batch → SaysSent batch (sent.Sent a.value)
    send_failed : AnErrno → SaysSent batch (sent.Failed a.value)
    no_send : ((a.kind ≡ 3) × (a.value ≤ batch) → ⊥) → (AnErrno → ⊥) → SaysSent batch sent.Misfit

  pub data SaysShut : Shut → Type 0 where
    done : a.kind ≡ 4 → SaysShut shut.Done
    shutdown_failed : AnErrno → SaysShut (shut.Failed a.value)
    no_shutdown : a.kind ≢ 4 → (AnErrno → ⊥) → SaysShut shut.Misfit

-- ---- violations in numbers: which one, and of an overflow the bytes needed and the room
abbrev pub an_overflow : ℕ → ℕ → Overflow
an_overflow needed room = record { needed = needed; room = room }

pub data Numbered : Violation → ℕ → ℕ → ℕ → Type 0 where
  violation_1 : Numbered InvalidChunkAnnouncement 1 0 0
  violation_2 : {needed room : ℕ} → Numbered (HeaderOverflow (an_overflow needed room)) 2 needed room
  violation_3 : Numbered UnknownHeader 3 0 0
  violation_4 : Numbered InvalidChunkLength 4 0 0
  violation_5 : {needed room : ℕ} → Numbered (BodyOverflow (an_overflow needed room)) 5 needed room

-- of a body that does not fit behind the header of a ring of length L: what the header leaves, and nothing where it does not fit
abbrev pub Behind : ℕ → ℕ → Type 0
Behind L room = (8 ≤ L → room + 8 ≡ L) × (L < 8 → room ≡ 0)

-- read back: that of a violation is that violation, and one that none has is the fourth; any bytes needed and any room
pub data ReadBack (needed room : ℕ) : ℕ → Violation → Type 0 where
  reads_1 : ReadBack needed room 1 InvalidChunkAnnouncement
  reads_2 : ReadBack needed room 2 (HeaderOverflow (an_overflow needed room))
  reads_3 : ReadBack needed room 3 UnknownHeader
  reads_5 : ReadBack needed room 5 (BodyOverflow (an_overflow needed room))
  reads_other : {k : ℕ} → k ≢ 1 → k ≢ 2 → k ≢ 3 → k ≢ 5 → ReadBack needed room k InvalidChunkLength
