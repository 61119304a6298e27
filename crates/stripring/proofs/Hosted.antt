-- The ends at the C face. Of any six functions whose outcomes the exports' attached contracts allow, each answer is the flat form of
-- what the world of `ends` does, and a host that reads the answers back has demand 3. No definition of a call is named in the last.
use Rattle.std.proofs.Common.{Result, Ok, Err}
use Prim.Native.Nat.{ℕ}
use mathlib.Core.Path.{◌≡◌, refl, sym, ap, subst, ◌∙◌}
use mathlib.Core.List.{List, []}
use native.Mathlib.Omega.{arith}
use borrow.Author.Tests.{ne_eqb}
use contract.Lifetimes.{Lfts}
use denote.Bor.{Bor}
use denote.MutBor.{MutBor}
use denote.Triple.Clauses.{at_exit}
use borrow.Fn.Kinds.{ended_of}
use Rattle.modular.proofs.Saying.{Says, Leaves}
use Rattle.operations.specs.declared.refusal.Refusal as sched
use Rattle.operations.specs.declared.refusal.Refusal.TheVariants.{ZeroBufferLength, BufferTooLarge, ItemsWrittenOutOfBounds, ItemsReadOutofBounds, DataAvailOutOfBounds, OperationTooLarge, OperationTooLong, InconsistentOperationType, HeldFillWrong}
use Rattle.copies.specs.declared.refusal.Refusal.TheVariants.{Scheduler, RingMemory}
use Rattle.ends.specs.Refusal.{number_of}
use Rattle.ends.specs.Ends.{WroteLeft, wrote_left, GotLeft, got_left}
use Rattle.ends.specs.Plain.{definitions, Demand3-of}
use Rattle.ends.proofs.Plain.{demand3_plain}
use Rattle.ends.proofs.PromisedValues.{number_some as end_refusal_some}
use Rattle.ends.specs.declared.reading_end.ReadingEnd as ends_reading
use Rattle.ends.specs.declared.refusal.Refusal as ends
use Rattle.ends.specs.declared.refusal.Refusal.TheVariants.{Copy, RanBack}
use Rattle.ends.specs.declared.writing_end.WritingEnd as ends_writing
use Rattle.flat.specs.Flat.{flat_refusal, flat_end_refusal}
use Rattle.stripring.specs.Hosted.{FlatCalls, end_refusal_at, by_number, wrote_at, got_at, wrote_left_at, got_left_at, written_at, read_at, writing_at, reading_at, written_in, read_in, hosted}
use Rattle.flat.specs.ReadingEnd.{read_counter_at, reading_end_at, flat_reading_end, flat_reading_end_answer, flat_read_counter, flat_got, GotAnswerLeft, flat_got_left}
use Rattle.flat.specs.Refusal.{scheduler_refusal_at}
use Rattle.flat.specs.WritingEnd.{written_counter_at, writing_end_at, flat_writing_end, flat_writing_end_answer, flat_written_counter, flat_wrote, WroteAnswerLeft, flat_wrote_left}
use Rattle.flat.specs.declared.structs.ReadCounter.{ReadCounter}
use Rattle.flat.specs.declared.structs.ReadCounterAnswer.{ReadCounterAnswer}
use Rattle.flat.specs.declared.structs.ReadingEnd.{ReadingEnd}
use Rattle.flat.specs.declared.structs.ReadingEndAnswer.{ReadingEndAnswer}
use Rattle.flat.specs.declared.structs.WritingEnd.{WritingEnd}
use Rattle.flat.specs.declared.structs.WritingEndAnswer.{WritingEndAnswer}
use Rattle.flat.specs.declared.structs.WrittenCounter.{WrittenCounter}
use Rattle.flat.specs.declared.structs.WrittenCounterAnswer.{WrittenCounterAnswer}
use Rattle.flat.proofs.BackLaws.{scheduler_refusal_back}
use Rattle.stripring.proofs.SaysEnds.{writing_end_write_says, writing_end_send_says, writing_end_take_says, reading_end_read_says, reading_end_send_says, reading_end_take_says}
use Rattle.stripring.proofs.writing_end.stripring_writing_end_write.Kinds as write_kinds
use Rattle.stripring.proofs.writing_end.stripring_writing_end_write.Reads as write
use Rattle.stripring.proofs.writing_end.stripring_writing_end_send.Kinds as send_w_kinds
use Rattle.stripring.proofs.writing_end.stripring_writing_end_send.Reads as send_w
use Rattle.stripring.proofs.writing_end.stripring_writing_end_take.Kinds as take_w_kinds
use Rattle.stripring.proofs.writing_end.stripring_writing_end_take.Reads as take_w
use Rattle.stripring.proofs.reading_end.stripring_reading_end_read.Kinds as read_kinds
use Rattle.stripring.proofs.reading_end.stripring_reading_end_read.Reads as read
use Rattle.stripring.proofs.reading_end.stripring_reading_end_send.Kinds as send_r_kinds
use Rattle.stripring.proofs.reading_end.stripring_reading_end_send.Reads as send_r
use Rattle.stripring.proofs.reading_end.stripring_reading_end_take.Kinds as take_r_kinds
use Rattle.stripring.proofs.reading_end.stripring_reading_end_take.Reads as take_r
use Rattle.ends.specs.declared.reading_end.Got.{Got}
use Rattle.ends.specs.declared.writing_end.Wrote.{Wrote}
use Rattle.ends.specs.declared.writing_end.WrittenCounter as ends_writtencounter
use Rattle.ends.specs.declared.reading_end.ReadCounter as ends_readcounter

-- ---- six lines: what an export answers is the flat form of what the world's call does
pub write_flat : Leaves 2 write_kinds.ps write_kinds.r write.Learnt
    (λ κs a. flat_wrote (definitions.write (writing_end_at a.0) a.1.0.now a.1.1.0.now).answer)
    (λ κs a. (tt, ((definitions.write (writing_end_at a.0) a.1.0.now a.1.1.0.now).memory, (tt, tt))))
write_flat = writing_end_write_says

pub read_flat : Leaves 2 read_kinds.ps read_kinds.r read.Learnt
    (λ κs a. flat_got (definitions.read (reading_end_at a.0) a.1.0.now a.1.1.0.now).answer)
    (λ κs a. (tt, (tt, ((definitions.read (reading_end_at a.0) a.1.0.now a.1.1.0.now).memory, tt))))
read_flat = reading_end_read_says

pub send_w_flat : Says 0 send_w_kinds.ps send_w_kinds.r send_w.Learnt (λ κs a. flat_written_counter (definitions.send_w (writing_end_at a.0)))
send_w_flat = writing_end_send_says

pub send_r_flat : Says 0 send_r_kinds.ps send_r_kinds.r send_r.Learnt (λ κs a. flat_read_counter (definitions.send_r (reading_end_at a.0)))
send_r_flat = reading_end_send_says

pub take_w_flat : Says 0 take_w_kinds.ps take_w_kinds.r take_w.Learnt (λ κs a. flat_writing_end_answer (definitions.take_w (writing_end_at a.0) (read_counter_at a.1.0)))
take_w_flat = writing_end_take_says

pub take_r_flat : Says 0 take_r_kinds.ps take_r_kinds.r take_r.Learnt (λ κs a. flat_reading_end_answer (definitions.take_r (reading_end_at a.0) (written_counter_at a.1.0)))
take_r_flat = reading_end_take_says

-- ---- an answer reads back as what was flattened
-- none of the scheduler's numbers is another's
by_scheduler_lem : (e : sched.Refusal) → end_refusal_at (flat_refusal e) ≡ Copy (Scheduler (scheduler_refusal_at (flat_refusal e)))
unfolding end_refusal_at
by_scheduler_lem ZeroBufferLength = refl
by_scheduler_lem (BufferTooLarge n) = refl
by_scheduler_lem (ItemsWrittenOutOfBounds n w) = refl
by_scheduler_lem (ItemsReadOutofBounds n r) = refl
by_scheduler_lem (DataAvailOutOfBounds n w r) = refl
by_scheduler_lem (OperationTooLarge t n top) = refl
by_scheduler_lem (OperationTooLong n) = refl
by_scheduler_lem InconsistentOperationType = refl
by_scheduler_lem HeldFillWrong = refl

end_refusal_back : (e : ends.Refusal) → end_refusal_at (flat_end_refusal e) ≡ e
unfolding end_refusal_at
end_refusal_back (Copy (Scheduler e)) = rw (by_scheduler_lem e, scheduler_refusal_back e)
end_refusal_back (Copy RingMemory) = refl
end_refusal_back RanBack = refl

refused_back : {A : Type 0} (e : ends.Refusal) (x : A) (refused : ends.Refusal → A) → by_number (flat_end_refusal e) x refused ≡ refused e
refused_back e x refused = rw (ne_eqb (number_of e) 0 (λ q. omega (arith, end_refusal_some e)), end_refusal_back e)

wrote_back : (x : Result Wrote ends.Refusal) → wrote_at (flat_wrote x) ≡ x
wrote_back (Ok m) = refl
wrote_back (Err e) = refused_back e _ Err

got_back : (x : Result Got ends.Refusal) → got_at (flat_got x) ≡ x
got_back (Ok m) = refl
got_back (Err e) = refused_back e _ Err

written_back : (x : Result ends_writtencounter.WrittenCounter ends.Refusal) → written_at (flat_written_counter x) ≡ x
written_back (Ok c) = refl
written_back (Err e) = refused_back e _ Err

read_back : (x : Result ends_readcounter.ReadCounter ends.Refusal) → read_at (flat_read_counter x) ≡ x
read_back (Ok c) = refl
read_back (Err e) = refused_back e _ Err

writing_back : (x : Result ends_writing.WritingEnd ends.Refusal) → writing_at (flat_writing_end_answer x) ≡ x
writing_back (Ok e) = refl
writing_back (Err e) = refused_back e _ Err

reading_back : (x : Result ends_reading.ReadingEnd ends.Refusal) → reading_at (flat_reading_end_answer x) ≡ x
reading_back (Ok e) = refl
reading_back (Err e) = refused_back e _ Err

-- ---- the outcomes that the exports' contracts allow on these values, wherever the memory is that is lent
abbrev Address : Type 0
Address = ℕ × ℕ

abbrev Place : Type 0
Place = Address × ℕ

abbrev lent : Place → List ℕ → MutBor (List ℕ)
lent at bytes = record { ref_ptr = at.0; ghost_name = at.1; now = bytes }

abbrev shown : Address → List ℕ → Bor (List ℕ)
shown at bytes = record { ref_ptr = at; now = bytes }

abbrev pub MayWrite : WritingEnd → List ℕ → List ℕ → WroteAnswerLeft → Type 0
MayWrite e ring src x =
    (κs : Lfts 2) × (p : Place) × (q : Address) ×
    write.Learnt κs (e, (lent p ring, (shown q src, tt))) x.answer
    (at_exit (ended_of 2 write_kinds.ps write_kinds.r) κs (e, (lent p ring, (shown q src, tt))) (tt, (x.memory, (tt, tt))))

abbrev pub MayRead : ReadingEnd → List ℕ → List ℕ → GotAnswerLeft → Type 0
MayRead e ring dst x =
    (κs : Lfts 2) × (p : Address) × (q : Place) ×
    read.Learnt κs (e, (shown p ring, (lent q dst, tt))) x.answer
    (at_exit (ended_of 2 read_kinds.ps read_kinds.r) κs (e, (shown p ring, (lent q dst, tt))) (tt, (tt, (x.memory, tt))))

abbrev pub MaySendW : WritingEnd → WrittenCounterAnswer → Type 0
MaySendW e z = send_w.Learnt tt (e, tt) z (at_exit (ended_of 0 send_w_kinds.ps send_w_kinds.r) tt (e, tt) (tt, tt))

abbrev pub MaySendR : ReadingEnd → ReadCounterAnswer → Type 0
MaySendR e z = send_r.Learnt tt (e, tt) z (at_exit (ended_of 0 send_r_kinds.ps send_r_kinds.r) tt (e, tt) (tt, tt))

abbrev pub MayTakeW : WritingEnd → ReadCounter → WritingEndAnswer → Type 0
MayTakeW e n z = take_w.Learnt tt (e, (n, tt)) z (at_exit (ended_of 0 take_w_kinds.ps take_w_kinds.r) tt (e, (n, tt)) (tt, (tt, tt)))

abbrev pub MayTakeR : ReadingEnd → WrittenCounter → ReadingEndAnswer → Type 0
MayTakeR e n z = take_r.Learnt tt (e, (n, tt)) z (at_exit (ended_of 0 take_r_kinds.ps take_r_kinds.r) tt (e, (n, tt)) (tt, (tt, tt)))

pub record FlatAllowed (f : FlatCalls) : Type 0 where
  pub write : (e : WritingEnd) (ring src : List ℕ) → MayWrite e ring src (f.write e ring src)
  pub read : (e : ReadingEnd) (ring dst : List ℕ) → MayRead e ring dst (f.read e ring dst)
  pub send_w : (e : WritingEnd) → MaySendW e (f.send_w e)
  pub send_r : (e : ReadingEnd) → MaySendR e (f.send_r e)
  pub take_w : (e : WritingEnd) (n : ReadCounter) → MayTakeW e n (f.take_w e n)
  pub take_r : (e : ReadingEnd) (n : WrittenCounter) → MayTakeR e n (f.take_r e n)

-- ---- so a host's ends are those of the world
write_is : (e : ends_writing.WritingEnd) (ring src : List ℕ) (x : WroteAnswerLeft) → MayWrite (flat_writing_end e) ring src x → wrote_left_at x ≡ definitions.write e ring src
write_is e ring src x (κs, p, q, may) =
    let y : WroteLeft = definitions.write e ring src in
    let back : wrote_left_at (flat_wrote_left y) ≡ y = ap (λ (z : Result Wrote ends.Refusal). wrote_left z y.memory) (wrote_back y.answer) in
    ap wrote_left_at may ∙ back

read_is : (e : ends_reading.ReadingEnd) (ring dst : List ℕ) (x : GotAnswerLeft) → MayRead (flat_reading_end e) ring dst x → got_left_at x ≡ definitions.read e ring dst
read_is e ring dst x (κs, p, q, may) =
    let y : GotLeft = definitions.read e ring dst in
    let back : got_left_at (flat_got_left y) ≡ y = ap (λ (z : Result Got ends.Refusal). got_left z y.memory) (got_back y.answer) in
    ap got_left_at may ∙ back

hosted_are : (f : FlatCalls) → FlatAllowed f → definitions ≡ hosted f
hosted_are f may i =
    record {
      write = λ e ring src. sym (write_is e ring src (f.write (flat_writing_end e) ring src) (may.write (flat_writing_end e) ring src)) i;
      read = λ e ring dst. sym (read_is e ring dst (f.read (flat_reading_end e) ring dst) (may.read (flat_reading_end e) ring dst)) i;
      send_w = λ e. sym (ap written_at (may.send_w (flat_writing_end e)) ∙ written_back (definitions.send_w e)) i;
      send_r = λ e. sym (ap read_at (may.send_r (flat_reading_end e)) ∙ read_back (definitions.send_r e)) i;
      take_w = λ e n. sym (ap writing_at (may.take_w (flat_writing_end e) (read_in n)) ∙ writing_back (definitions.take_w e n)) i;
      take_r = λ e n. sym (ap reading_at (may.take_r (flat_reading_end e) (written_in n)) ∙ reading_back (definitions.take_r e n)) i;
    }

-- ---- and every run of such calls keeps the promise
pub demand3_at_the_face : (f : FlatCalls) → FlatAllowed f → Demand3-of (hosted f)
demand3_at_the_face f may = subst Demand3-of (hosted_are f may) demand3_plain

-- and there are such calls
abbrev flatly : FlatCalls
flatly =
    record {
      write = λ e ring src. flat_wrote_left (definitions.write (writing_end_at e) ring src);
      read = λ e ring dst. flat_got_left (definitions.read (reading_end_at e) ring dst);
      send_w = λ e. flat_written_counter (definitions.send_w (writing_end_at e));
      send_r = λ e. flat_read_counter (definitions.send_r (reading_end_at e));
      take_w = λ e n. flat_writing_end_answer (definitions.take_w (writing_end_at e) (read_counter_at n));
      take_r = λ e n. flat_reading_end_answer (definitions.take_r (reading_end_at e) (written_counter_at n));
    }

pub some_calls : FlatAllowed flatly
some_calls =
    record {
      write = λ e ring src. (([], ([], tt)), ((0, 0), 0), (0, 0), refl);
      read = λ e ring dst. (([], ([], tt)), (0, 0), ((0, 0), 0), refl);
      send_w = λ e. refl;
      send_r = λ e. refl;
      take_w = λ e n. refl;
      take_r = λ e n. refl;
    }
