-- Which part overflowed (P3). Of a read that waits for an announcement and takes the byte 0 of one: that no room is there for the header,
-- or for the body, is told exactly when the bytes needed are above the room, and with both.
use Rattle.std.specs.Prelude.{ℕ, ◌+◌, ◌%◌, ◌^◌, ◌<◌, ◌≡◌, false, List, ◌≢◌}
use Rattle.operations.specs.declared.operation.OperationType.TheVariants.{Read}
use Rattle.sched.specs.declared.scheduler.RingBufferScheduler.{RingBufferScheduler}
use Rattle.sched.specs.Scheduler.{data_in, offset_in}
use Rattle.copies.specs.Promises.{number_at}
use Rattle.states.specs.Promise.{AByte, Advanced, an_overflow}
use Rattle.states.specs.declared.answer.Answer.{Answer}
use Rattle.states.specs.declared.state.Failure.{Failure}
use Rattle.states.specs.declared.state.Failure.TheVariants.{Protocol}
use Rattle.states.specs.declared.state.OperationalState.TheVariants.{Terminated}
use Rattle.states.specs.declared.state.Violation.{Violation}
use Rattle.states.specs.declared.state.Violation.TheVariants.{HeaderOverflow, BodyOverflow}
use Rattle.receiver.specs.Promise.{nothing_more}
use Rattle.receiver.specs.declared.call.Call.{Call}
use Rattle.receiver.specs.declared.call.Phase.{Phase}
use Rattle.receiver.specs.declared.call.Phase.TheVariants as phase
use Rattle.receiver.specs.declared.call.Wanted.{Wanted}
use Rattle.receiver.specs.declared.receiver.Came.TheVariants as came

-- a read into some bytes, of a stream that is not terminated and has no data at hand, takes a byte, and that is 0
pub record Hears (c : Call) (a : Answer) : Type 0 where
  pub wanted : Wanted
  pub waits : c.phase ≡ phase.Receive wanted
  pub live : (f : Failure) → c.receiver.state ≢ Terminated f
  pub some : wanted.dst_len ≢ 0
  pub empty : data_in c.receiver.scheduler ≡ 0
  pub byte : AByte a wanted.max_new_fds
  pub zero : a.value ≡ 0

-- a header needs 8 bytes, and the room is the ring's length
pub record HeaderOverflows (L needed room : ℕ) : Type 0 where
  pub eight : needed ≡ 8
  pub whole : room ≡ L
  pub above : room < needed

-- a body needs as many as its header says, the last 48 bits; the room is what the header leaves. The top two bits must be 0
pub record BodyOverflows (L h needed room : ℕ) : Type 0 where
  pub known : h < 2 ^ 62
  pub length : needed ≡ h % 2 ^ 48
  pub behind : room + 8 ≡ L
  pub above : room < needed

-- a call has ended with this failure, or will whatever comes of the shutdown
pub data EndsWith (f : Failure) : Phase → Type 0 where
  has_ended : EndsWith f (phase.Finished (record { came = came.Failed f; beside = nothing_more }))
  will_end : EndsWith f (phase.Shutdown (record { outcome = record { came = came.Failed f; beside = nothing_more }; told = false }))

-- what becomes of the call, with the header at the read offset of this ring
module _ (c : Call) (ring : List ℕ) (e : Call) where
  abbrev s : RingBufferScheduler
  s = c.receiver.scheduler

  abbrev pub OfHeader : ℕ → ℕ → Type 0
  OfHeader = HeaderOverflows s.buf_len

  abbrev pub OfBody : ℕ → ℕ → Type 0
  OfBody = BodyOverflows s.buf_len (number_at s.buf_len ring (offset_in s Read).0)

  abbrev pub Told : Violation → Type 0
  Told v = EndsWith (Protocol v) e.phase

  pub record TellsOverflow : Type 0 where
    pub header_only : (needed room : ℕ) → Told (HeaderOverflow (an_overflow needed room)) → OfHeader needed room
    pub header_always : (needed room : ℕ) → OfHeader needed room → Told (HeaderOverflow (an_overflow needed room))
    pub body_only : (needed room : ℕ) → Told (BodyOverflow (an_overflow needed room)) → OfBody needed room
    pub body_always : (needed room : ℕ) → OfBody needed room → Told (BodyOverflow (an_overflow needed room))
    -- what is told is stored by the reason rule, and the scheduler is what it was before the announcement
    pub stored : (v : Violation) → Told v → Advanced c.receiver.state (Terminated (Protocol v)) e.receiver.state
    pub put_back : (v : Violation) → Told v → e.receiver.scheduler ≡ s
