-- Which bytes a read copies, from its beginning to its end.
use Prim.Native.Nat.{ℕ, ◌+◌, min}
use mathlib.Core.Path.{◌≡◌, refl, sym, ap, subst, ◌∙◌}
use mathlib.Core.List.{List}
use mathlib.Core.Logic.{◌≢◌, inl, inr}
use native.Mathlib.Omega.{arith}
use Rattle.sched.specs.declared.scheduler.RingBufferScheduler.{RingBufferScheduler}
use Rattle.sched.specs.Scheduler.{data_in}
use Rattle.receiver.specs.Receiver.{failed_outcome}
use Rattle.receiver.specs.Call.{dropping}
use Rattle.receiver.specs.Cases.{Chunk, BeginsRead, is_terminated, none_asked, awaits, holds_data, TakesIn}
use Rattle.receiver.specs.Handed.{coming_to}
use Rattle.receiver.specs.Promise.{nothing_more}
use Rattle.states.specs.declared.answer.Answer.{Answer}
use Rattle.receiver.specs.declared.call.Call.{Call}
use Rattle.receiver.specs.declared.call.Ending.{Ending}
use Rattle.receiver.specs.declared.call.Phase.{Phase}
use Rattle.receiver.specs.declared.call.Phase.TheVariants as phase
use Rattle.receiver.specs.declared.call.Wanted.{Wanted}
use Rattle.receiver.specs.declared.receiver.Beside.{Beside}
use Rattle.receiver.specs.declared.receiver.Came.{Came}
use Rattle.receiver.specs.declared.receiver.Came.TheVariants as came
use Rattle.receiver.specs.declared.receiver.Outcome.{Outcome}
use Rattle.receiver.specs.declared.receiver.ReceiverState.{ReceiverState}
use Rattle.receiver.proofs.StepLaws.{Settled, Ends, as_dropped, as_told, told_failure, Spends, sent_in, sent_spends, shut_spends, Hands, hands, Took, handed, failed, took}
use Prim.Native.Nat.{◌%◌, ◌*◌}
use Rattle.modular.proofs.Laws.{add_is}
use Rattle.sched.proofs.RegisterLaws.{advanced_offset}
use Rattle.operations.specs.declared.counter.Counter.{Counter}
use Rattle.operations.specs.declared.operation.OperationType.TheVariants.{Read}
use Rattle.sched.specs.Scheduler.{IsSound, offset_in, advanced_in}

-- ---- what a read copies: the scheduler that it copies by is the record's own if that holds data, and else a chunk's
module _ (asked : ℕ) (t : RingBufferScheduler) where
  pub data Source : RingBufferScheduler → Type 0 where
    unasked : asked ≡ 0 → Source t
    own : data_in t ≢ 0 → Source t
    chunk : {s : RingBufferScheduler} {n : ℕ} → data_in t ≡ 0 → Chunk t n s → Source s

  abbrev pub CopiesBy : Came → RingBufferScheduler → Type 0
  CopiesBy (came.Read n) s = (n ≡ min asked (data_in s)) × Source s
  CopiesBy came.Done s = Unit {0}
  CopiesBy (came.Failed f) s = Unit {0}

  abbrev pub Copies : Outcome → RingBufferScheduler → Type 0
  Copies o s = CopiesBy o.came s

  -- one that waits for its announcement is still as it was begun
  abbrev AwaitsIn : Phase → Call → Type 0
  AwaitsIn (phase.Receive w) c = (w.dst_len ≡ asked) × (asked ≢ 0) × (c.receiver.scheduler ≡ t) × (data_in t ≡ 0)
  AwaitsIn (phase.Send batch e) c = Unit {0}
  AwaitsIn (phase.Shutdown e) c = Unit {0}
  AwaitsIn (phase.Finished o) c = Unit {0}

  -- a read on its way
  pub record OnTheWay (c : Call) : Type 0 where
    pub copies : Copies (coming_to c.phase) c.source
    pub awaits : AwaitsIn c.phase c

-- ---- what a step keeps of that
module _ (asked : ℕ) (t : RingBufferScheduler) where
  settled_awaits : (c : Call) (ph : Phase) → Settled ph → AwaitsIn asked t ph c
  settled_awaits c (phase.Receive w) h = absurd h
  settled_awaits c (phase.Send batch e) h = tt
  settled_awaits c (phase.Shutdown e) h = tt
  settled_awaits c (phase.Finished o) h = tt

  ends_copies : (e : Ending) (o : Outcome) (s : RingBufferScheduler) → Ends e o → Copies asked t e.outcome s → Copies asked t o s
  ends_copies _ _ s as_dropped h = h
  ends_copies _ _ s as_told h = h
  ends_copies _ _ s told_failure h = tt

  spends_on : (q : ReceiverState) (s : RingBufferScheduler) (e : Ending) (n : ℕ) (c : Call) → Spends q s e n c → Copies asked t e.outcome s → OnTheWay asked t c
  spends_on q s e n c h k =
      record {
        copies = subst (Copies asked t (coming_to c.phase)) (sym h.source) (ends_copies e (coming_to c.phase) s h.ends k);
        awaits = settled_awaits c c.phase h.settled;
      }

  hands_on : (r : ReceiverState) (b : Beside) (c : Call) → Hands r asked b c → Source asked t r.scheduler → OnTheWay asked t c
  hands_on r b c h k =
      record {
        copies = subst (λ (o : Outcome). Copies asked t o c.source) (sym h.comes) (subst (λ (s : RingBufferScheduler). (h.bytes ≡ min asked (data_in s)) × Source asked t s) (sym h.source) (h.amount, k));
        awaits = settled_awaits c c.phase h.settled;
      }

  module _ (c : Call) (ring : List ℕ) (a : Answer) (d : Call) (on : OnTheWay asked t c) where
    took_on : (n : ℕ) → n ≡ asked → c.receiver.scheduler ≡ t → data_in t ≡ 0 → Took c.receiver c.source n d → OnTheWay asked t d
    took_on n e s z (handed r m b k l h) = hands_on r b d (subst (λ (x : ℕ). Hands r x b d) e h) (chunk z (subst (λ (x : RingBufferScheduler). Chunk x m r.scheduler) s k))
    took_on n e s z (failed f h) = spends_on c.receiver c.source (dropping (failed_outcome f)) 0 d h tt

    still : d ≡ c → OnTheWay asked t d
    still e = subst (OnTheWay asked t) (sym e) on

    abbrev copies_as : (ph : Phase) → c.phase ≡ ph → Copies asked t (coming_to ph) c.source
    copies_as ph p = subst (λ (x : Phase). Copies asked t (coming_to x) c.source) p on.copies

    pub step_on : (ph : Phase) → c.phase ≡ ph → TakesIn ph c ring a d → OnTheWay asked t d
    step_on (phase.Receive w) p (inl (i, e)) = still e
    step_on (phase.Receive w) p (inr (i, (x, says, h))) =
        let k : AwaitsIn asked t (phase.Receive w) c = subst (λ (y : Phase). AwaitsIn asked t y c) p on.awaits in
        took_on w.dst_len k.0 k.2 k.3 (took c.receiver c.source ring w (λ z. k.1 (sym k.0 ∙ z)) x d h).1
    step_on (phase.Send batch e) p (inl (i, k)) = still k
    step_on (phase.Send batch e) p (inr (i, (x, says, h))) = spends_on c.receiver c.source e (sent_in x) d (sent_spends c.receiver c.source e x d h) (copies_as (phase.Send batch e) p)
    step_on (phase.Shutdown e) p (x, says, h) = spends_on c.receiver c.source e 0 d (shut_spends c.receiver c.source e x d h) (copies_as (phase.Shutdown e) p)
    step_on (phase.Finished o) p h = still h

-- ---- the beginning
pub read_on : (q : ReceiverState) (w : Wanted) (c : Call) → BeginsRead q w c → OnTheWay w.dst_len q.scheduler c
read_on q w _ (is_terminated p) = record { copies = tt; awaits = tt }
read_on q w _ (none_asked l z) = record { copies = (omega (arith, z), unasked z); awaits = tt }
read_on q w _ (awaits r z) = record { copies = tt; awaits = (refl, r.some, refl, z) }
read_on q w c (holds_data r l h) = hands_on w.dst_len q.scheduler q nothing_more c (hands q w.dst_len nothing_more r.some l c h) (own (λ z. omega (arith, l, z)))

-- ---- the scheduler that is copied by is sound and of the record's length
module _ (asked : ℕ) (t : RingBufferScheduler) (h : IsSound t) where
  pub source_sound : (s : RingBufferScheduler) → Source asked t s → IsSound s × (s.buf_len ≡ t.buf_len)
  source_sound _ (unasked z) = (h, refl)
  source_sound _ (own z) = (h, refl)
  source_sound _ (chunk z c) = (c.filling.sound, c.filling.length ∙ c.beginning.length ∙ c.heading.length)

-- and a chunk's reads behind the header
pub chunk_offset : (t : RingBufferScheduler) → IsSound t → (n : ℕ) (s : RingBufferScheduler) → Chunk t n s → (offset_in s Read).0 ≡ ((offset_in t Read).0 + 8) % t.buf_len
chunk_offset t h n s c =
    let e : s.items_read.0 ≡ (advanced_in t Read 8).items_read.0 =
    ap (λ (x : Counter). x.0) c.filling.read
    ∙ c.beginning.read
    ∙ ap (λ (x : Counter). (x.0 + 8) % (2 * c.headed.buf_len)) c.heading.read
    ∙ ap (λ (l : ℕ). (t.items_read.0 + 8) % (2 * l)) c.heading.length
    ∙ sym (add_is (2 * t.buf_len) t.items_read.0 8) in
    let l : s.buf_len ≡ t.buf_len = c.filling.length ∙ c.beginning.length ∙ c.heading.length in
    ap (λ (x : ℕ). x % s.buf_len) e ∙ ap (λ (x : ℕ). (advanced_in t Read 8).items_read.0 % x) l ∙ advanced_offset t h 8 Read
