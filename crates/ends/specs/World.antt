-- Two linked ends over one ring: what can happen to them, and what demand 3 promises of every state that is reached. It is
-- said over a `Kind`, the record of the ends' own calls and of the rule by which notes are delivered.
use Rattle.std.specs.Prelude.{ℕ, min, ◌≡◌, ◌⊎◌, length, take, drop}
use mathlib.Core.List.{List, [], ◌∷◌, ◌++◌, Memᴰ}
use Rattle.operations.specs.declared.operation.OperationType.TheVariants.{Read, Write}
use Rattle.sched.specs.declared.scheduler.RingBufferScheduler.{RingBufferScheduler}
use Rattle.sched.specs.Scheduler.{data_in, space_in, offset_in}
use Rattle.copies.specs.Ring.{get}
use Rattle.copies.specs.Promises.{OnlyCells, OnlyFront}

-- a call is done, and moved so many bytes, or is refused with a number of the paper
pub data Answer : Type 0 where
  done : ℕ → Answer
  refused : ℕ → Answer

-- what a copy leaves: its answer, the end's record, and the lent memory that it may change
pub record Copied (E : Type 0) : Type 0 where
  pub answer : Answer
  pub end : E
  pub memory : List ℕ

pub record Taken (E : Type 0) : Type 0 where
  pub answer : Answer
  pub end : E

pub data Sent (N : Type 0) : Type 0 where
  sent : N → Sent N
  unsent : ℕ → Sent N

pub record Kind : Type 1 where
  pub Writer : Type 0
  pub Reader : Type 0
  pub NoteW : Type 0  -- what a writing end sends
  pub NoteR : Type 0
  pub write : Writer → List ℕ → List ℕ → Copied Writer
  pub read : Reader → List ℕ → List ℕ → Copied Reader
  pub send_w : Writer → Sent NoteW
  pub send_r : Reader → Sent NoteR
  pub take_w : Writer → NoteR → Taken Writer
  pub take_r : Reader → NoteW → Taken Reader
  pub sched_w : Writer → RingBufferScheduler  -- an end's view of the ring
  pub sched_r : Reader → RingBufferScheduler
  pub Holds : Type 0  -- the numbers that the two ends share
  pub holds_w : Writer → Holds
  pub holds_r : Reader → Holds
  pub Age : Type 0  -- of a note: what its sender had done by then
  pub age_w : Writer → ℕ → Age  -- of what an end sends that has moved so many bytes
  pub age_r : Reader → ℕ → Age
  pub Older : Age → Age → Type 0
  pub Delivered : Age → Age → Type 0  -- the rule of delivery, of the last note taken and the next
  pub old : Age → Age → ℕ  -- the number that refuses an old note, by the last one taken and by it
  pub AsideW : Writer → ℕ → ℕ → Type 0  -- a copy that would move so many bytes is left aside, with this number
  pub AsideR : Reader → ℕ → ℕ → Type 0

-- a note that was sent, and its age
pub record Note (N A : Type 0) : Type 0 where
  pub says : N
  pub age : A

-- an end: its record, and what has happened to it
pub record End (E N A : Type 0) : Type 0 where
  pub now : E
  pub bytes : List ℕ  -- all bytes that it has moved, in order
  pub sent : List (Note N A)  -- all notes that it has sent
  pub heard : A  -- the age of the note that it took last; before any, that of a note which the other end sends at the start

module _ (K : Kind) where
  -- a writing and a reading end, and the memory that only they touch
  pub record Ends : Type 0 where
    pub writer : End K.Writer K.NoteW K.Age
    pub reader : End K.Reader K.NoteR K.Age
    pub ring : List ℕ

  pub data Event : Type 0 where
    writes : List ℕ → Event  -- the writing end writes from this source
    reads : List ℕ → Event  -- the reading end reads into this destination
    sends_w : Event  -- the writing end sends a note
    sends_r : Event
    takes_w : Note K.NoteR K.Age → Event  -- the writing end takes this note
    takes_r : Note K.NoteW K.Age → Event

-- ---- what an event does to an end
abbrev pub moved : Answer → ℕ
moved (done n) = n
moved (refused n) = 0

-- a note that was taken is the last one taken; one that was refused is not
abbrev pub if_taken : {A : Type 0} → Answer → A → A → A
if_taken (done n) new old = new
if_taken (refused n) new old = old

abbrev pub fresh : {E N A : Type 0} → E → A → End E N A
fresh e a = record { now = e; bytes = []; sent = []; heard = a }

-- after a copy that moved the first of these bytes
abbrev pub after_copy : {E N A : Type 0} → End E N A → Copied E → List ℕ → End E N A
after_copy e c bytes = record { now = c.end; bytes = e.bytes ++ take (moved c.answer) bytes; sent = e.sent; heard = e.heard }

abbrev pub noted : {N A : Type 0} → Sent N → A → List (Note N A)
noted (sent n) a = record { says = n; age = a } ∷ []
noted (unsent k) a = []

abbrev pub after_send : {E N A : Type 0} → End E N A → Sent N → A → End E N A
after_send e n a = record { now = e.now; bytes = e.bytes; sent = e.sent ++ noted n a; heard = e.heard }

abbrev pub after_take : {E N A : Type 0} → End E N A → Taken E → A → End E N A
after_take e t a = record { now = t.end; bytes = e.bytes; sent = e.sent; heard = if_taken t.answer a e.heard }

-- of a copy that would move n bytes, and may be left aside with such a number: it moved n, or was left aside
abbrev pub Exactly : (ℕ → Type 0) → ℕ → Answer → Type 0
Exactly Aside n a = (((k : ℕ) → Aside k → ⊥) × (a ≡ done n)) ⊎ ((k : ℕ) × Aside k × (a ≡ refused k))

abbrev pub unmoved : {E : Type 0} → ℕ → E → List ℕ → Copied E
unmoved k e memory = record { answer = refused k; end = e; memory = memory }

module _ (K : Kind) where
  -- an end takes only what was sent, by the rule of delivery. A note may be lost, late or repeated
  abbrev pub Allowed : Ends K → Event K → Type 0
  Allowed s (writes src) = Unit {0}
  Allowed s (reads dst) = Unit {0}
  Allowed s sends_w = Unit {0}
  Allowed s sends_r = Unit {0}
  Allowed s (takes_w m) = Memᴰ m s.reader.sent × K.Delivered s.writer.heard m.age
  Allowed s (takes_r m) = Memᴰ m s.writer.sent × K.Delivered s.reader.heard m.age

  -- the calls, in the state s
  abbrev pub writing : Ends K → List ℕ → Copied K.Writer
  writing s src = K.write s.writer.now s.ring src

  abbrev pub reading : Ends K → List ℕ → Copied K.Reader
  reading s dst = K.read s.reader.now s.ring dst

  abbrev pub taking_w : Ends K → Note K.NoteR K.Age → Taken K.Writer
  taking_w s m = K.take_w s.writer.now m.says

  abbrev pub taking_r : Ends K → Note K.NoteW K.Age → Taken K.Reader
  taking_r s m = K.take_r s.reader.now m.says

  -- the age of what an end sends in the state s
  abbrev pub present_w : Ends K → K.Age
  present_w s = K.age_w s.writer.now (length s.writer.bytes)

  abbrev pub present_r : Ends K → K.Age
  present_r s = K.age_r s.reader.now (length s.reader.bytes)

  abbrev pub step : Ends K → Event K → Ends K
  step s (writes src) = record { writer = after_copy s.writer (writing s src) src; reader = s.reader; ring = (writing s src).memory }
  step s (reads dst) = record { writer = s.writer; reader = after_copy s.reader (reading s dst) (reading s dst).memory; ring = s.ring }
  step s sends_w = record { writer = after_send s.writer (K.send_w s.writer.now) (present_w s); reader = s.reader; ring = s.ring }
  step s sends_r = record { writer = s.writer; reader = after_send s.reader (K.send_r s.reader.now) (present_r s); ring = s.ring }
  step s (takes_w m) = record { writer = after_take s.writer (taking_w s m) m.age; reader = s.reader; ring = s.ring }
  step s (takes_r m) = record { writer = s.writer; reader = after_take s.reader (taking_r s m) m.age; ring = s.ring }

  -- whole calls in any order
  abbrev pub run : Ends K → List (Event K) → Ends K
  run s [] = s
  run s (e ∷ es) = run (step s e) es

  abbrev pub AllAllowed : Ends K → List (Event K) → Type 0
  AllAllowed s [] = Unit {0}
  AllAllowed s (e ∷ es) = Allowed s e × AllAllowed (step s e) es

  -- ---- what demand 3 promises
  -- the bytes written that are not yet read
  abbrev pub unread : Ends K → List ℕ
  unread s = drop (length s.reader.bytes) s.writer.bytes

  -- the bytes that stand in this memory where the reading end will read next, as many as are unread
  abbrev pub waiting : Ends K → List ℕ → List ℕ
  waiting s ring =
      get (K.sched_r s.reader.now).buf_len ring (offset_in (K.sched_r s.reader.now) Read).0 (length (unread s))

  -- how many bytes a copy would move: the smaller of what was asked and what that end's own view allows
  abbrev pub writable : Ends K → List ℕ → ℕ
  writable s src = min (length src) (space_in (K.sched_w s.writer.now))

  abbrev pub readable : Ends K → List ℕ → ℕ
  readable s dst = min (length dst) (data_in (K.sched_r s.reader.now))

  -- a note is accepted, or is older than the last one taken: then it is refused as old
  abbrev pub OldOnly : Answer → K.Age → K.Age → Type 0
  OldOnly a heard age = ((K.Older age heard → ⊥) → a ≡ done 0) × (K.Older age heard → a ≡ refused (K.old heard age))

  pub record Demand3 (s : Ends K) : Type 0 where
    -- each copy moves exactly what it would, and is refused only where it is left aside
    pub writes_exactly : (src : List ℕ) → Exactly (K.AsideW s.writer.now (writable s src)) (writable s src) (writing s src).answer
    pub reads_exactly : (dst : List ℕ) → Exactly (K.AsideR s.reader.now (readable s dst)) (readable s dst) (reading s dst).answer
    -- a write changes none but its own cells, a read none but the front of the destination
    pub writes_own : (src : List ℕ) →
        OnlyCells (K.sched_w s.writer.now).buf_len (offset_in (K.sched_w s.writer.now) Write).0 (moved (writing s src).answer) s.ring (writing s src).memory
    pub reads_own : (dst : List ℕ) → OnlyFront (moved (reading s dst).answer) dst (reading s dst).memory
    -- a copy that is left aside changes nothing
    pub write_aside : (src : List ℕ) (k : ℕ) → (writing s src).answer ≡ refused k → writing s src ≡ unmoved k s.writer.now s.ring
    pub read_aside : (dst : List ℕ) (k : ℕ) → (reading s dst).answer ≡ refused k → reading s dst ≡ unmoved k s.reader.now dst
    -- the bytes read so far are the first bytes written so far, in order
    pub in_order : s.reader.bytes ≡ take (length s.reader.bytes) s.writer.bytes
    -- each unread byte stands in its place, and no write changes it
    pub unread_there : waiting s s.ring ≡ unread s
    pub unread_kept : (src : List ℕ) → waiting s (writing s src).memory ≡ unread s
    -- an end can always send its note
    pub sends_W : (n : K.NoteW) × (K.send_w s.writer.now ≡ sent n)
    pub sends_R : (n : K.NoteR) × (K.send_r s.reader.now ≡ sent n)
    -- no note that may be delivered is refused, unless it is old
    pub accepts_W : (m : Note K.NoteR K.Age) → Allowed s (takes_w m) → OldOnly (taking_w s m).answer s.writer.heard m.age
    pub accepts_R : (m : Note K.NoteW K.Age) → Allowed s (takes_r m) → OldOnly (taking_r s m).answer s.reader.heard m.age
    -- once each end has taken the other's present note, both hold the same numbers
    pub agree : s.writer.heard ≡ present_r s → s.reader.heard ≡ present_w s → K.holds_w s.writer.now ≡ K.holds_r s.reader.now

  abbrev pub start : K.Writer → K.Reader → List ℕ → Ends K
  start w r ring = record { writer = fresh w (K.age_r r 0); reader = fresh r (K.age_w w 0); ring = ring }

  -- demand 3, for ends that start so
  abbrev pub HoldsFrom : K.Writer → K.Reader → List ℕ → Type 0
  HoldsFrom w r ring = (es : List (Event K)) → AllAllowed (start w r ring) es → Demand3 (run (start w r ring) es)
