-- Lines and answers in the words of `Promise`, over the definitions; `Promised` states it of the calls.
use Prim.Native.Nat.{ℕ, ◌+◌, ◌-◌, ◌/◌, ◌%◌, ◌^◌, ◌<◌, ◌≤◌}
use mathlib.Core.Path.{◌≡◌, refl, sym, ap, ◌∙◌}
use mathlib.Core.List.{List, [], ◌∷◌}
use mathlib.Core.Logic.{⊎_elim}
use lib.ListN.{length}
use native.Mathlib.Nat.{div-le_self, mod-le}
use native.Mathlib.Omega.{arith}
use Rattle.modular.proofs.Laws.{lt_or_le}
use Rattle.lines.specs.Answer.{texts_of}
use Rattle.lines.specs.Decimal.{decimal}
use Rattle.lines.proofs.NumeralLaws.{decimal_numeral, numeral_is}
use Rattle.operations.specs.Lists.{ScheduledOperations}
use Rattle.operations.specs.declared.list.AtMostTwo.TheVariants as list
use Rattle.operations.specs.declared.operation.OperationType.{OperationType}
use Rattle.operations.specs.declared.operation.ScheduledOperation.{ScheduledOperation}
use Rattle.operations.specs.declared.refusal.Refusal.{Refusal}
use Rattle.operations.specs.declared.refusal.Refusal.TheVariants.{ZeroBufferLength, BufferTooLarge, ItemsWrittenOutOfBounds, ItemsReadOutofBounds, DataAvailOutOfBounds, OperationTooLarge, OperationTooLong, InconsistentOperationType, HeldFillWrong}
use Rattle.std.specs.Prelude.{Option, Some, None}
use Rattle.std.proofs.Common.{Result, Ok, Err}
use Rattle.sched.specs.declared.scheduler.RingBufferScheduler.{RingBufferScheduler}
use Rattle.sched.specs.Promise.{Each}
use Rattle.operations.specs.Refusal.{number_of}
use Rattle.sched.specs.Scheduler.{scheduler_of, IsSound, sound_of, schedule_in, schedule_of}
use Rattle.sched.proofs.Laws.{sound_both}
use Rattle.sched.proofs.Promises.{scheduling}
use Rattle.planner.specs.declared.refusal.Refusal as planner
use Rattle.planner.specs.declared.refusal.Refusal.TheVariants as refused_by_lem
use Rattle.planner.specs.declared.strips.Strips.{Strips}
use Rattle.planner.specs.Refusal as planner_number
use Rattle.planner.specs.Strips.{outline_of, AreStrips}
use Rattle.planner.proofs.StripLaws.{outline_strips}
use Rattle.planline.specs.declared.ring.Asked.{Asked}
use Rattle.planline.specs.declared.plan.Plan.{Plan}
use Rattle.planline.specs.declared.plan.Plan.TheVariants as plan
use Rattle.planline.specs.declared.plan.PlanError.{PlanError}
use Rattle.planline.specs.declared.plan.PlanError.TheVariants.{Bad, Refused}
use Rattle.planline.specs.declared.plan.Question.{Question}
use Rattle.planline.specs.declared.plan.Question.TheVariants as question
use Rattle.planline.specs.declared.strips.AskedStrips.{AskedStrips}
use Rattle.planline.specs.Cut.{line_text}
use Rattle.planline.specs.Grammar.{WellFormed}
use Rattle.planline.specs.Plan.{answer_to, plan_of}
use Rattle.planline.specs.Ring.{line_of, parse_of, plan_after, plan_for, plan_from}
use Rattle.planline.specs.Promise.{RingLine, Pair, pair, number_told, Printed, bad, refused, ok_none, ok_one, ok_two, ok_strips, Answered, none, more}
use Rattle.planline.specs.Strips.{parse_strips_of, strips_after, strips_from}
use Rattle.planline.specs.Text.{operation_text, list_text, strips_text, plan_text}
use Rattle.planline.proofs.Grammar.{accepts, accepted, planned, bad_else}
use Rattle.planline.proofs.PlanLaws.{plan_long, plan_short}

-- ---- lines
line_formed : (xs : List ℕ) (a : Asked) → RingLine xs a → xs ≡ line_of a
unfolding line_of
line_formed xs a h =
    h.is
    ∙ rw (
      numeral_is h.l a.buf_len h.fits.buf h.buf,
      numeral_is h.w a.written h.fits.written h.written,
      numeral_is h.r a.read h.fits.read h.read,
      numeral_is h.m a.max_len h.fits.max h.max,
    )

formed_line : (xs : List ℕ) (a : Asked) → WellFormed xs a → RingLine xs a
unfolding line_of
formed_line xs a h =
    record {
      l = decimal a.buf_len;
      w = decimal a.written;
      r = decimal a.read;
      m = decimal a.max_len;
      buf = decimal_numeral a.buf_len h.fits.buf;
      written = decimal_numeral a.written h.fits.written;
      read = decimal_numeral a.read h.fits.read;
      max = decimal_numeral a.max_len h.fits.max;
      fits = h.fits;
      is = h.is;
    }

pub line_parsed : (xs : List ℕ) (a : Asked) → RingLine xs a → parse_of xs ≡ Some a
line_parsed xs a h = ap parse_of (line_formed xs a h) ∙ accepts a h.fits

pub parsed_line : (xs : List ℕ) (a : Asked) → parse_of xs ≡ Some a → RingLine xs a
parsed_line xs a e = formed_line xs a (accepted xs a e)

pub line_planned : (xs : List ℕ) (a : Asked) → RingLine xs a → plan_of question.Ring xs ≡ plan_for a
line_planned xs a h = ap (plan_of question.Ring) (line_formed xs a h) ∙ planned a h.fits

pub else_bad : (xs : List ℕ) → ((a : Asked) → RingLine xs a → ⊥) → plan_of question.Ring xs ≡ Err Bad
else_bad xs f = bad_else xs (λ a h. f a (formed_line xs a h))

-- ---- answers: a plan's numbers are below 2^64
abbrev Small : Result Plan PlanError → Type 0
Small (Err Bad) = Unit {0}
Small (Err (Refused e)) = planner_number.number_of e < 2 ^ 64
Small (Ok (plan.Operations ops)) = Each (λ a. (a.off.0 < 2 ^ 64) × (a.len < 2 ^ 64)) ops
Small (Ok (plan.Strips o)) = (o.count < 2 ^ 64) × (o.height < 2 ^ 64) × (o.last < 2 ^ 64)

pair_printed : (a : ScheduledOperation) → (a.off.0 < 2 ^ 64) × (a.len < 2 ^ 64) → Pair (operation_text a) a
unfolding operation_text
pair_printed a h = pair (decimal_numeral a.off.0 h.0) (decimal_numeral a.len h.1)

pub told_is : (e : planner.Refusal) → number_told e ≡ planner_number.number_of e
told_is (refused_by_lem.Scheduler e) = refl
told_is (refused_by_lem.SizeOutOfBounds rows bytes) = refl
told_is (refused_by_lem.NoPlan bytes l) = refl
told_is (refused_by_lem.EmptyRun run) = refl
told_is (refused_by_lem.RunOutOfPlace run) = refl
told_is (refused_by_lem.RunTooLong run) = refl
told_is (refused_by_lem.RowsLeft reached) = refl
told_is (refused_by_lem.PlanTooShort needed lent) = refl

printed : (p : Result Plan PlanError) → Small p → Printed (plan_text p) p
unfolding plan_text list_text strips_text
printed (Err Bad) h = bad
printed (Err (Refused e)) h = rw (← told_is e) (refused (decimal_numeral (number_told e) (rw (told_is e) h)))
printed (Ok (plan.Operations list.None)) h = ok_none
printed (Ok (plan.Operations (list.One a))) h = ok_one (pair_printed a h)
printed (Ok (plan.Operations (list.Two a b))) h = ok_two (pair_printed a h.0) (pair_printed b h.1)
printed (Ok (plan.Strips o)) h = ok_strips (decimal_numeral o.count h.0) (decimal_numeral o.height h.1) (decimal_numeral o.last h.2)

number_small : (e : Refusal) → number_of e < 2 ^ 64
number_small ZeroBufferLength = omega arith
number_small (BufferTooLarge l) = omega arith
number_small (ItemsWrittenOutOfBounds l w) = omega arith
number_small (ItemsReadOutofBounds l r) = omega arith
number_small (DataAvailOutOfBounds l w r) = omega arith
number_small (OperationTooLarge t n greatest) = omega arith
number_small (OperationTooLong excess) = omega arith
number_small InconsistentOperationType = omega arith
number_small HeldFillWrong = omega arith

-- each operation lies inside a buffer of at most 2^63
inside_small : (l : ℕ) (ops : ScheduledOperations) → l ≤ 2 ^ 63 → Each (λ a. a.off.0 + a.len ≤ l) ops → Small (Ok (plan.Operations ops))
inside_small l list.None f h = tt
inside_small l (list.One a) f h = (omega arith, omega arith)
inside_small l (list.Two a b) f h = ((omega (arith, h.0), omega (arith, h.0)), (omega (arith, h.1), omega (arith, h.1)))

scheduled_small : (s : RingBufferScheduler) (t : OperationType) (m : ℕ) → Small (plan_after (schedule_of s t m))
scheduled_small s t m = go (sound_of s) refl
  where
    go : (c : Result RingBufferScheduler Refusal) → sound_of s ≡ c → Small (plan_after (schedule_of s t m))
    go (Err e) p = rw p (number_small e)
    go (Ok u) p =
        let b : IsSound s × (u ≡ s) = sound_both u s (sym p) in
        rw (p, b.1) (inside_small s.buf_len (schedule_in s t m).operations b.0.sized.fits (scheduling s b.0 t m).inside)

ring_small : (p : Option Asked) → Small (plan_from p)
ring_small (Some a) = scheduled_small (scheduler_of a.buf_len (record { 0 = a.written }) (record { 0 = a.read })) a.typ a.max_len
ring_small None = tt

planner_number_small : (e : planner.Refusal) → planner_number.number_of e < 2 ^ 64
planner_number_small (refused_by_lem.Scheduler e) = number_small e
planner_number_small (refused_by_lem.SizeOutOfBounds rows bytes) = omega arith
planner_number_small (refused_by_lem.NoPlan bytes l) = omega arith
planner_number_small (refused_by_lem.EmptyRun run) = omega arith
planner_number_small (refused_by_lem.RunOutOfPlace run) = omega arith
planner_number_small (refused_by_lem.RunTooLong run) = omega arith
planner_number_small (refused_by_lem.RowsLeft reached) = omega arith
planner_number_small (refused_by_lem.PlanTooShort needed lent) = omega arith

-- no number of an outline is over the count of rows
outline_small : (rows : ℕ) (o : Strips) → AreStrips rows o → Small (Ok (plan.Strips o))
outline_small rows o s =
    let count : o.count ≡ (rows - 1) / o.height + 1 = ap (λ (x : Strips). x.count) s.is in
    let last : o.last ≡ (rows - 1) % o.height + 1 = ap (λ (x : Strips). x.last) s.is in
    (omega (arith, s.most, div-le_self (rows - 1) o.height), omega (arith, s.most, s.within), omega (arith, s.most, mod-le (rows - 1) o.height))

outlined_small : (rows bytes l : ℕ) (z : Result Strips planner.Refusal) → z ≡ outline_of rows bytes l → Small (strips_after z)
outlined_small rows bytes l (Ok o) e = outline_small rows o (outline_strips rows bytes l o e)
outlined_small rows bytes l (Err f) e = planner_number_small f

strips_small : (p : Option AskedStrips) → Small (strips_from p)
strips_small (Some a) = outlined_small a.rows a.row_bytes a.buf_len (outline_of a.rows a.row_bytes a.buf_len) refl
strips_small None = tt

answer_small : (q : Question) (xs : List ℕ) → Small (answer_to q xs)
answer_small question.Ring xs = ring_small (parse_of xs)
answer_small question.Strips xs = strips_small (parse_strips_of xs)

plan_small : (q : Question) (xs : List ℕ) → Small (plan_of q xs)
plan_small q xs = ⊎_elim (λ long. rw (← plan_long q xs long) tt) (λ short. rw (← plan_short q xs short) (answer_small q xs)) (lt_or_le 120 (length xs))

pub plan_printed : (q : Question) (xs : List ℕ) → Printed (plan_text (plan_of q xs)) (plan_of q xs)
plan_printed q xs = printed (plan_of q xs) (plan_small q xs)

module _ (q : Question) (Plans : List ℕ → Result Plan PlanError → Type 0) (plans-is : (line : List ℕ) (p : Result Plan PlanError) → Plans line p → p ≡ plan_of q line) where
  pub answered : (lines : List (List ℕ)) → Answered Plans lines (texts_of (line_text q) lines)
  unfolding texts_of
  answered [] = none
  answered (line ∷ lines) = more {text = line_text q line} (λ p h. rw (plans-is line p h) (plan_printed q line)) (answered lines)
