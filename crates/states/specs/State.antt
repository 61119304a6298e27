-- The rules of the states: docs/PAPER.md, "States" to "The reason rule". A name that ends in `In` is of states whose errnos fit; one
-- that ends in `Of` tests them first ("Stored errnos"): 12 with place 0, the state's own before the argument's.
use Rattle.std.specs.Prelude.{ℕ, ◌-◌, Bool, cond, true, false, eqb, leb, Result, Ok, Err, Option, Some, None}
use Rattle.states.specs.declared.refusal.Refusal.TheVariants.{Misfit}
use Rattle.states.specs.declared.state.Overflow.{Overflow}
use Rattle.states.specs.declared.state.Violation.{Violation}
use Rattle.states.specs.declared.state.Violation.TheVariants.{InvalidChunkAnnouncement, HeaderOverflow, UnknownHeader, InvalidChunkLength, BodyOverflow}
use Rattle.states.specs.declared.state.Failure.{Failure}
use Rattle.states.specs.declared.state.Failure.TheVariants.{Io, Protocol}
use Rattle.states.specs.declared.state.OperationalState.{OperationalState}
use Rattle.states.specs.declared.state.OperationalState.TheVariants.{Normal, Draining, Terminated}
use Rattle.states.specs.declared.refusal.Refusal.{Refusal}

-- the paper's number of a violation
abbrev pub violation_number : Violation → ℕ
violation_number InvalidChunkAnnouncement = 1
violation_number (HeaderOverflow o) = 2
violation_number UnknownHeader = 3
violation_number InvalidChunkLength = 4
violation_number (BodyOverflow o) = 5

abbrev pub overflow_of : ℕ → ℕ → Overflow
overflow_of needed room = record { needed = needed; room = room }

-- a header needs its 8 bytes of a ring of length L, a body its n of what is left behind them
unfoldable pub behind_header : ℕ → ℕ
behind_header L = L - 8

abbrev pub header_overflow : ℕ → Violation
header_overflow L = HeaderOverflow (overflow_of 8 L)

abbrev pub body_overflow : ℕ → ℕ → Violation
body_overflow L n = BodyOverflow (overflow_of n (behind_header L))

-- the bytes needed and the room, of an overflow
abbrev pub overflow_in : Violation → Overflow
overflow_in InvalidChunkAnnouncement = overflow_of 0 0
overflow_in (HeaderOverflow o) = o
overflow_in UnknownHeader = overflow_of 0 0
overflow_in InvalidChunkLength = overflow_of 0 0
overflow_in (BodyOverflow o) = o

-- and back: any number but 1, 2, 3 and 5 is the fourth
unfoldable pub violation_at : ℕ → Overflow → Violation
violation_at n o =
    cond (eqb n 1) InvalidChunkAnnouncement
    (cond (eqb n 2) (HeaderOverflow o)
    (cond (eqb n 3) UnknownHeader
    (cond (eqb n 5) (BodyOverflow o) InvalidChunkLength)))

-- an errno is from 1 to 4095
unfoldable pub fits_errno : ℕ → Bool
fits_errno e = cond (eqb e 0) false (leb e 4095)

abbrev pub fits_failure : Failure → Bool
fits_failure (Io e) = fits_errno e
fits_failure (Protocol v) = true

abbrev pub fits_state : OperationalState → Bool
fits_state Normal = true
fits_state (Draining f) = fits_failure f
fits_state (Terminated f) = fits_failure f

abbrev pub is_errno : Failure → ℕ → Bool
is_errno (Io e) k = eqb e k
is_errno (Protocol v) k = false

abbrev pub failure_in : OperationalState → Option Failure
failure_in Normal = None
failure_in (Draining f) = Some f
failure_in (Terminated f) = Some f

abbrev pub with_failure_in : OperationalState → Failure → OperationalState
with_failure_in Normal f = Normal
with_failure_in (Draining c) f = Draining f
with_failure_in (Terminated c) f = Terminated f

-- normalising turns 11 into Normal, and changes nothing else
unfoldable pub normalize_in : OperationalState → OperationalState
normalize_in Normal = Normal
normalize_in (Draining f) = cond (is_errno f 11) Normal (Draining f)
normalize_in (Terminated f) = cond (is_errno f 11) Normal (Terminated f)

-- the reason rule: e if c is errno 32 and e is not, else c
unfoldable pub towards_error_in : Failure → Failure → Failure
towards_error_in c e = cond (is_errno c 32) (cond (is_errno e 32) c e) c

-- Normal takes the other; Terminated stays; Draining against Normal stays, and else takes the other's kind with a reason
abbrev pub advance_normal : OperationalState → OperationalState → OperationalState
advance_normal Normal to = to
advance_normal (Terminated f) to = Terminated f
advance_normal (Draining c) Normal = Draining c
advance_normal (Draining c) (Draining e) = Draining (towards_error_in c e)
advance_normal (Draining c) (Terminated e) = Terminated (towards_error_in c e)

-- advancing normalises both
abbrev pub advance_in : OperationalState → OperationalState → OperationalState
advance_in s to = advance_normal (normalize_in s) (normalize_in to)

-- ---- what the calls answer
abbrev pub tested_failure : Bool → Result Failure Refusal → Result Failure Refusal
tested_failure true a = a
tested_failure false a = Err (Misfit 0)

abbrev pub tested_state : Bool → Result OperationalState Refusal → Result OperationalState Refusal
tested_state true a = a
tested_state false a = Err (Misfit 0)

abbrev pub tested_potential : Bool → Result (Option Failure) Refusal → Result (Option Failure) Refusal
tested_potential true a = a
tested_potential false a = Err (Misfit 0)

abbrev pub normalize_failure_of : Failure → Result Failure Refusal
normalize_failure_of f = tested_failure (fits_failure f) (Ok f)

abbrev pub towards_error_of : Failure → Failure → Result Failure Refusal
towards_error_of c e = tested_failure (fits_failure c) (tested_failure (fits_failure e) (Ok (towards_error_in c e)))

abbrev pub failure_of : OperationalState → Result (Option Failure) Refusal
failure_of s = tested_potential (fits_state s) (Ok (failure_in s))

abbrev pub with_failure_of : OperationalState → Failure → Result OperationalState Refusal
with_failure_of s f = tested_state (fits_state s) (tested_state (fits_failure f) (Ok (with_failure_in s f)))

abbrev pub with_potential_from : OperationalState → Option Failure → Result OperationalState Refusal
with_potential_from s (Some f) = with_failure_of s f
with_potential_from s None = Ok Normal

abbrev pub with_potential_failure_of : OperationalState → Option Failure → Result OperationalState Refusal
with_potential_failure_of s p = tested_state (fits_state s) (with_potential_from s p)

abbrev pub normalize_of : OperationalState → Result OperationalState Refusal
normalize_of s = tested_state (fits_state s) (Ok (normalize_in s))

abbrev pub advance_of : OperationalState → OperationalState → Result OperationalState Refusal
advance_of s to = tested_state (fits_state s) (tested_state (fits_state to) (Ok (advance_in s to)))
