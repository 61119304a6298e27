-- An answer that a library gives exactly when its table says so goes out with a refusal that is given exactly then: for each kind of
-- answer, and any table.
use Rattle.operations.specs.Given.{of_result}
use Rattle.std.proofs.Common.{Result, Ok, Err, Option, Some, None, ℕ, Bool}
use Prim.Native.Nat.{ℕ}
use mathlib.Core.Path.{◌≡◌, refl, ap, subst}
use mathlib.Core.Bool.{Bool, true, false}
use mathlib.Core.List.{List, [], ◌∷◌}
use Rattle.operations.specs.Given as verdict
use Rattle.copies.specs.Given.{Verdict, Exactly, of_copy}
use Rattle.ends.specs.Promises.{of_end}
use Rattle.operations.specs.declared.list.AtMostTwo.TheVariants as offsets
use Rattle.receiver.specs.Given.{of_receiver}
use Rattle.states.specs.Promise.{FailureFits, Stored}
use Rattle.states.specs.State.{fits_failure, fits_state}
use Rattle.states.specs.declared.refusal.Refusal.TheVariants.{Misfit}
use Rattle.states.specs.declared.state.Failure.{Failure}
use Rattle.states.specs.declared.state.OperationalState.{OperationalState}
use Rattle.states.proofs.AnswerSays.{failure_fits, state_fits}
use Rattle.flat.specs.Back.{RefusalStands}
use Rattle.flat.specs.Block.{flat_layout, flat_fill_state, flat_block_answer, flat_blocks}
use Rattle.flat.specs.Call.{flat_step}
use Rattle.flat.specs.Copy.{flat_copied}
use Rattle.flat.specs.Counter.{flat_counter, flat_offset, flat_amount, flat_bool}
use Rattle.flat.specs.Failure.{flat_failure_answer, flat_potential_failure}
use Rattle.flat.specs.Flat.{no_refusal, flat_receiver_refusal}
use Rattle.stripring.specs.Given.{GivenAt, GivenStored, fits, given_12_stored}
use Rattle.stripring.specs.GivenRun.{of_ended}
use Rattle.flat.specs.List.{flat_operations_answer, flat_schedule, flat_starts_answer, flat_ranges_answer}
use Rattle.flat.specs.Operation.{flat_next}
use Rattle.flat.specs.ReadingEnd.{flat_reading_end_answer, flat_got, flat_read_counter}
use Rattle.flat.specs.Receiver.{flat_receiver_answer, flat_ended}
use Rattle.flat.specs.Scheduler.{flat_checked}
use Rattle.flat.specs.State.{flat_state_answer}
use Rattle.flat.specs.WritingEnd.{flat_writing_end_answer, flat_wrote, flat_written_counter}
use Rattle.flat.specs.declared.structs.Refusal.{Refusal}
use Rattle.flat.proofs.SentLaws.{accepted, scheduler_refusal, copy_refusal, end_refusal, receiver_refusal}
use Rattle.sched.specs.declared.block.Block.{Block}
use Rattle.sched.specs.declared.block.Blocks.{Blocks}
use Rattle.sched.specs.declared.block.BufferFillState.{BufferFillState}
use Rattle.sched.specs.declared.block.BufferLayout.{BufferLayout}
use Rattle.receiver.specs.declared.call.Call.{Call}
use Rattle.copies.specs.declared.Copied.{Copied}
use Rattle.operations.specs.declared.counter.Counter.{Counter}
use Rattle.operations.specs.Lists.{CumulativeOffsets, OutsideRanges, ScheduledOperations}
use Rattle.receiver.specs.declared.receiver.Ended.{Ended}
use Rattle.ends.specs.declared.reading_end.Got.{Got}
use Rattle.sched.specs.declared.schedule.Next.{Next}
use Rattle.operations.specs.declared.counter.Offset.{Offset}
use Rattle.ends.specs.declared.reading_end.ReadCounter.{ReadCounter}
use Rattle.ends.specs.declared.reading_end.ReadingEnd.{ReadingEnd}
use Rattle.receiver.specs.declared.receiver.ReceiverState.{ReceiverState}
use Rattle.sched.specs.declared.scheduler.RingBufferScheduler.{RingBufferScheduler}
use Rattle.sched.specs.declared.schedule.Scheduled.{Scheduled}
use Rattle.ends.specs.declared.writing_end.WritingEnd.{WritingEnd}
use Rattle.ends.specs.declared.writing_end.WrittenCounter.{WrittenCounter}
use Rattle.ends.specs.declared.writing_end.Wrote.{Wrote}
use Rattle.copies.specs.declared.refusal.Refusal as by_copies
use Rattle.operations.specs.declared.refusal.Refusal as by_sched
use Rattle.ends.specs.declared.refusal.Refusal as by_ends
use Rattle.states.specs.declared.refusal.Refusal as by_receiver

module _ {G : ℕ → List ℕ → Type 0} where
  -- a number with values that the table gives, and no others
  pub given : (r : Refusal) (n : ℕ) (us : List ℕ) → RefusalStands r n us → G n us → ((k : ℕ) (vs : List ℕ) → G k vs → (n ≡ k) × (us ≡ vs)) → GivenAt G r
  given r n us p g one =
      record {
        only = (n, us, p, g);
        always = λ k vs h. subst (RefusalStands r k) (one k vs h).1 (subst (λ (m : ℕ). RefusalStands r m us) (one k vs h).0 p);
      }

  -- the scheduler's verdict, and that of the copies and the ends
  given_so : (r : Refusal) (v : verdict.Verdict) → RefusalStands r (verdict.number_in v) (verdict.values_in v) → verdict.Exactly G v → GivenAt G r
  given_so r v p g = given r (verdict.number_in v) (verdict.values_in v) p g.only g.always

  given_to : (r : Refusal) (v : Verdict) → RefusalStands r v.number v.values → Exactly G v → GivenAt G r
  given_to r v p g =
      given r v.number v.values p g.only (λ k vs h. (ap (λ (u : Verdict). u.number) (g.always k vs h), ap (λ (u : Verdict). u.values) (g.always k vs h)))

  -- ---- the scheduler's
  pub checked_given : (x : Result RingBufferScheduler by_sched.Refusal) → verdict.Exactly G (of_result x) → GivenAt G (flat_checked x).refusal
  checked_given (Ok s) g = given_so _ (of_result {A = RingBufferScheduler} (Ok s)) accepted g
  checked_given (Err e) g = given_so _ (verdict.refused e) (scheduler_refusal e) g

  pub counter_given : (x : Result Counter by_sched.Refusal) → verdict.Exactly G (of_result x) → GivenAt G (flat_counter x).refusal
  counter_given (Ok c) g = given_so _ (of_result {A = Counter} (Ok c)) accepted g
  counter_given (Err e) g = given_so _ (verdict.refused e) (scheduler_refusal e) g

  pub offset_given : (x : Result Offset by_sched.Refusal) → verdict.Exactly G (of_result x) → GivenAt G (flat_offset x).refusal
  offset_given (Ok n) g = given_so _ (of_result {A = Offset} (Ok n)) accepted g
  offset_given (Err e) g = given_so _ (verdict.refused e) (scheduler_refusal e) g

  pub amount_given : (x : Result ℕ by_sched.Refusal) → verdict.Exactly G (of_result x) → GivenAt G (flat_amount x).refusal
  amount_given (Ok n) g = given_so _ (of_result {A = ℕ} (Ok n)) accepted g
  amount_given (Err e) g = given_so _ (verdict.refused e) (scheduler_refusal e) g

  pub bool_given : (x : Result Bool by_sched.Refusal) → verdict.Exactly G (of_result x) → GivenAt G (flat_bool x).refusal
  bool_given (Ok b) g = given_so _ (of_result {A = Bool} (Ok b)) accepted g
  bool_given (Err e) g = given_so _ (verdict.refused e) (scheduler_refusal e) g

  pub layout_given : (x : Result BufferLayout by_sched.Refusal) → verdict.Exactly G (of_result x) → GivenAt G (flat_layout x).refusal
  layout_given (Ok l) g = given_so _ (of_result {A = BufferLayout} (Ok l)) accepted g
  layout_given (Err e) g = given_so _ (verdict.refused e) (scheduler_refusal e) g

  pub fill_given : (x : Result BufferFillState by_sched.Refusal) → verdict.Exactly G (of_result x) → GivenAt G (flat_fill_state x).refusal
  fill_given (Ok f) g = given_so _ (of_result {A = BufferFillState} (Ok f)) accepted g
  fill_given (Err e) g = given_so _ (verdict.refused e) (scheduler_refusal e) g

  pub block_given : (x : Result Block by_sched.Refusal) → verdict.Exactly G (of_result x) → GivenAt G (flat_block_answer x).refusal
  block_given (Ok b) g = given_so _ (of_result {A = Block} (Ok b)) accepted g
  block_given (Err e) g = given_so _ (verdict.refused e) (scheduler_refusal e) g

  pub blocks_given : (x : Result Blocks by_sched.Refusal) → verdict.Exactly G (of_result x) → GivenAt G (flat_blocks x).refusal
  blocks_given (Ok b) g = given_so _ (of_result {A = Blocks} (Ok b)) accepted g
  blocks_given (Err e) g = given_so _ (verdict.refused e) (scheduler_refusal e) g

  pub next_given : (x : Result Next by_sched.Refusal) → verdict.Exactly G (of_result x) → GivenAt G (flat_next x).refusal
  next_given (Ok n) g = given_so _ (of_result {A = Next} (Ok n)) accepted g
  next_given (Err e) g = given_so _ (verdict.refused e) (scheduler_refusal e) g

  pub schedule_given : (x : Result Scheduled by_sched.Refusal) → verdict.Exactly G (of_result x) → GivenAt G (flat_schedule x).refusal
  schedule_given (Ok r) g = given_so _ (of_result {A = Scheduled} (Ok r)) accepted g
  schedule_given (Err e) g = given_so _ (verdict.refused e) (scheduler_refusal e) g

  pub operations_given : (x : Result ScheduledOperations by_sched.Refusal) → verdict.Exactly G (of_result x) → GivenAt G (flat_operations_answer x).refusal
  operations_given (Ok ops) g = given_so _ (of_result {A = ScheduledOperations} (Ok ops)) accepted g
  operations_given (Err e) g = given_so _ (verdict.refused e) (scheduler_refusal e) g

  pub starts_given : (x : Result CumulativeOffsets by_sched.Refusal) → verdict.Exactly G (of_result x) → GivenAt G (flat_starts_answer x).refusal
  starts_given (Ok offsets.None) g = given_so _ (of_result {A = CumulativeOffsets} (Ok offsets.None)) accepted g
  starts_given (Ok (offsets.One x)) g = given_so _ (of_result {A = CumulativeOffsets} (Ok (offsets.One x))) accepted g
  starts_given (Ok (offsets.Two x y)) g = given_so _ (of_result {A = CumulativeOffsets} (Ok (offsets.Two x y))) accepted g
  starts_given (Err e) g = given_so _ (verdict.refused e) (scheduler_refusal e) g

  pub ranges_given : (x : Result OutsideRanges by_sched.Refusal) → verdict.Exactly G (of_result x) → GivenAt G (flat_ranges_answer x).refusal
  ranges_given (Ok ops) g = given_so _ (of_result {A = OutsideRanges} (Ok ops)) accepted g
  ranges_given (Err e) g = given_so _ (verdict.refused e) (scheduler_refusal e) g

  -- ---- of the copies and the ends
  pub copied_given : (x : Result Copied by_copies.Refusal) → Exactly G (of_copy x) → GivenAt G (flat_copied x).refusal
  copied_given (Ok m) g = given_to _ (of_copy {A = Copied} (Ok m)) accepted g
  copied_given (Err e) g = given_to _ (of_copy {A = Copied} (Err e)) (copy_refusal e) g

  pub writing_given : (x : Result WritingEnd by_ends.Refusal) → Exactly G (of_end x) → GivenAt G (flat_writing_end_answer x).refusal
  writing_given (Ok e) g = given_to _ (of_end {A = WritingEnd} (Ok e)) accepted g
  writing_given (Err e) g = given_to _ (of_end {A = WritingEnd} (Err e)) (end_refusal e) g

  pub wrote_given : (x : Result Wrote by_ends.Refusal) → Exactly G (of_end x) → GivenAt G (flat_wrote x).refusal
  wrote_given (Ok m) g = given_to _ (of_end {A = Wrote} (Ok m)) accepted g
  wrote_given (Err e) g = given_to _ (of_end {A = Wrote} (Err e)) (end_refusal e) g

  pub written_given : (x : Result WrittenCounter by_ends.Refusal) → Exactly G (of_end x) → GivenAt G (flat_written_counter x).refusal
  written_given (Ok c) g = given_to _ (of_end {A = WrittenCounter} (Ok c)) accepted g
  written_given (Err e) g = given_to _ (of_end {A = WrittenCounter} (Err e)) (end_refusal e) g

  pub reading_given : (x : Result ReadingEnd by_ends.Refusal) → Exactly G (of_end x) → GivenAt G (flat_reading_end_answer x).refusal
  reading_given (Ok e) g = given_to _ (of_end {A = ReadingEnd} (Ok e)) accepted g
  reading_given (Err e) g = given_to _ (of_end {A = ReadingEnd} (Err e)) (end_refusal e) g

  pub got_given : (x : Result Got by_ends.Refusal) → Exactly G (of_end x) → GivenAt G (flat_got x).refusal
  got_given (Ok m) g = given_to _ (of_end {A = Got} (Ok m)) accepted g
  got_given (Err e) g = given_to _ (of_end {A = Got} (Err e)) (end_refusal e) g

  pub read_given : (x : Result ReadCounter by_ends.Refusal) → Exactly G (of_end x) → GivenAt G (flat_read_counter x).refusal
  read_given (Ok c) g = given_to _ (of_end {A = ReadCounter} (Ok c)) accepted g
  read_given (Err e) g = given_to _ (of_end {A = ReadCounter} (Err e)) (end_refusal e) g

  -- ---- of the receiver
  pub made_given : (x : Result ReceiverState by_receiver.Refusal) → Exactly G (of_receiver x) → GivenAt G (flat_receiver_answer x).refusal
  made_given (Ok q) g = given_to _ (of_receiver {A = ReceiverState} (Ok q)) accepted g
  made_given (Err e) g = given_to _ (of_receiver {A = ReceiverState} (Err e)) (receiver_refusal e) g

  pub step_given : (x : Result Call by_receiver.Refusal) → Exactly G (of_receiver x) → GivenAt G (flat_step x).refusal
  step_given (Ok c) g = given_to _ (of_receiver {A = Call} (Ok c)) accepted g
  step_given (Err e) g = given_to _ (of_receiver {A = Call} (Err e)) (receiver_refusal e) g

  pub ended_given : (x : Result Ended by_receiver.Refusal) → Exactly G (of_ended x) → GivenAt G (flat_ended x).refusal
  ended_given (Ok m) g = given_to _ (of_ended (Ok m)) accepted g
  ended_given (Err e) g = given_to _ (of_ended (Err e)) (receiver_refusal e) g

-- ---- of states and failures: an errno fits or not, so a call that is promised both ways tells 12 exactly where it does not
pub failure_decided : (f : Failure) → Dec (FailureFits f)
failure_decided f = by (fits_failure f) refl
  where
    by : (b : Bool) → fits_failure f ≡ b → Dec (FailureFits f)
    by true e = yes ((failure_fits f true e).0 refl)
    by false e = no ((failure_fits f false e).1 refl)

pub state_decided : (s : OperationalState) → Dec (Stored s)
state_decided s = by (fits_state s) refl
  where
    by : (b : Bool) → fits_state s ≡ b → Dec (Stored s)
    by true e = yes ((state_fits s true e).0 refl)
    by false e = no ((state_fits s false e).1 refl)

module _ {Fits : Type 0} (d : Dec Fits) where
  -- `told` is the refusal in the flat form of an answer, `of` is one that refuses nothing
  tested : {A B : Type 0} (told : A → Refusal) (of : B → A) (refused : A) (x : A) → ((y : B) → told (of y) ≡ no_refusal) → told refused ≡ flat_receiver_refusal (Misfit 0) →
      (Fits → (y : B) × (x ≡ of y)) → ((Fits → ⊥) → x ≡ refused) → GivenAt (GivenStored Fits) (told x)
  tested told of refused x e n f g = record { only = by d; always = λ k vs h. so h }
    where
      accepts : Fits → RefusalStands (told x) 0 []
      accepts h = rw ((f h).1, e (f h).0) accepted

      refuses : (Fits → ⊥) → RefusalStands (told x) 12 (0 ∷ [])
      refuses h = rw (g h, n) (receiver_refusal (Misfit 0))

      by : Dec Fits → (k : ℕ) × (vs : List ℕ) × (p : RefusalStands (told x) k vs) × GivenStored Fits k vs
      by (yes h) = (0, [], accepts h, fits h)
      by (no h) = (12, 0 ∷ [], refuses h, given_12_stored h)

      so : {k : ℕ} {vs : List ℕ} → GivenStored Fits k vs → RefusalStands (told x) k vs
      so (fits h) = accepts h
      so (given_12_stored h) = refuses h

  pub failure_given : (x : Result Failure by_receiver.Refusal) → (Fits → (y : Failure) × (x ≡ Ok y)) → ((Fits → ⊥) → x ≡ Err (Misfit 0)) → GivenAt (GivenStored Fits) (flat_failure_answer x).refusal
  failure_given x = tested (λ y. (flat_failure_answer y).refusal) Ok (Err (Misfit 0)) x (λ y. refl) refl

  pub potential_given : (x : Result (Option Failure) by_receiver.Refusal) → (Fits → (y : Option Failure) × (x ≡ Ok y)) → ((Fits → ⊥) → x ≡ Err (Misfit 0)) → GivenAt (GivenStored Fits) (flat_potential_failure x).refusal
  potential_given x = tested (λ y. (flat_potential_failure y).refusal) Ok (Err (Misfit 0)) x none refl
    where
      none : (y : Option Failure) → (flat_potential_failure (Ok y)).refusal ≡ no_refusal
      none (Some f) = refl
      none None = refl

  pub state_given : (x : Result OperationalState by_receiver.Refusal) → (Fits → (y : OperationalState) × (x ≡ Ok y)) → ((Fits → ⊥) → x ≡ Err (Misfit 0)) → GivenAt (GivenStored Fits) (flat_state_answer x).refusal
  state_given x = tested (λ y. (flat_state_answer y).refusal) Ok (Err (Misfit 0)) x (λ y. refl) refl
