-- What is promised of lines, texts and runs, of the calls: every outcome that an attached contract allows keeps it.
use Prim.Native.Nat.{ℕ, ◌+◌, ◌-◌, ◌<◌, ◌≤◌}
use mathlib.Core.Path.{◌≡◌, refl, sym, ap, ◌∙◌}
use mathlib.Core.List.{List}
use mathlib.Core.Logic.{◌⊎◌}
use lib.ListN.{length, get_or}
use native.Mathlib.Omega.{arith}
use contract.Lifetimes.{Lfts}
use denote.Triple.Clauses.{Lasts, at_exit}
use borrow.Fn.Kinds.{Dens, res_t, ended_of}
use Rattle.lines.specs.Answer.{Step, step}
use Rattle.lines.specs.Lines.{lines_of, joined, LinesOf}
use Rattle.lines.specs.Run.{Place, Run, Start}
use Rattle.lines.specs.Text.{Filled, filled}
use Rattle.lines.proofs.AnswerLaws.{ready_there, unready, last_unready, step_unready, step_moves, step_other}
use Rattle.lines.proofs.LinesLaws.{lines_are}
use Rattle.lines.proofs.Runs.{run_text}
use Rattle.lines.proofs.TextLaws.{appended}
use Rattle.modular.proofs.Saying.{Allows, Keeps}
use Rattle.operations.specs.declared.refusal.Refusal.{Refusal}
use Rattle.sched.specs.declared.schedule.Scheduled.{Scheduled}
use Rattle.std.specs.Prelude.{Some}
use Rattle.std.proofs.Common.{Result, Ok, Err}
use Rattle.planner.specs.declared.refusal.Refusal.TheVariants.{Scheduler}
use Rattle.sched.specs.declared.scheduler.RingBufferScheduler.{RingBufferScheduler}
use Rattle.sched.proofs.Says.{try_from_counters_says, schedule_contiguous_operations_says}
use Rattle.sched.proofs.scheduler.RingBufferScheduler.try_from_counters.Kinds as from_counters_kinds
use Rattle.sched.proofs.scheduler.RingBufferScheduler.try_from_counters.Reads as from_counters
use Rattle.sched.proofs.scheduler.RingBufferScheduler.schedule_contiguous_operations.Kinds as schedule_kinds
use Rattle.sched.proofs.scheduler.RingBufferScheduler.schedule_contiguous_operations.Reads as schedule
use Rattle.planline.specs.declared.cut.Cut.{Cut}
use Rattle.planline.specs.declared.ring.Asked.{Asked}
use Rattle.planline.specs.declared.plan.Plan.{Plan}
use Rattle.planline.specs.declared.plan.Plan.TheVariants as plan
use Rattle.planline.specs.declared.plan.PlanError.{PlanError}
use Rattle.planline.specs.declared.plan.PlanError.TheVariants.{Bad, Refused}
use Rattle.planline.specs.declared.plan.Question.{Question}
use Rattle.planline.specs.declared.plan.Question.TheVariants as question
use Rattle.planline.specs.Cut.{most_held, line_text, step_of, last_of, texts_of}
use Rattle.planline.specs.Ring.{parse_of, plan_after}
use Rattle.planline.specs.Plan.{plan_of}
use Rattle.planline.specs.Promise.{RingLine, Appended, Answered}
use Rattle.planline.specs.Text.{longest}
use Rattle.planline.proofs.Case.{input, output, case, strips_input, strips_output, strips_case}
use Rattle.planline.proofs.Printing.{line_parsed, parsed_line, line_planned, else_bad, plan_printed, answered}
use Rattle.planline.proofs.BuiltLaws.{scheduled_is, scheduled_refused}
use Rattle.planline.proofs.Says.{parse_says, plan_line_says, append_says, answer_next_says, answer_last_says}
use Rattle.planline.proofs.TextLaws.{plan_text_short, text_kept}
use Rattle.planline.proofs.ring.parse.Kinds as parse_kinds
use Rattle.planline.proofs.ring.parse.Reads as parse
use Rattle.planline.proofs.plan.plan_line.Kinds as plan_line_kinds
use Rattle.planline.proofs.plan.plan_line.Reads as plan_line
use Rattle.planline.proofs.text.append.Kinds as append_kinds
use Rattle.planline.proofs.text.append.Reads as append
use Rattle.planline.proofs.cut.answer_next.Kinds as answer_next_kinds
use Rattle.planline.proofs.cut.answer_next.Reads as answer_next
use Rattle.planline.proofs.cut.answer_last.Kinds as answer_last_kinds
use Rattle.planline.proofs.cut.answer_last.Reads as answer_last

-- ---- a line is read exactly when it is one, as what it asks
pub parse_promised :
    Keeps 1 parse_kinds.ps parse_kinds.r parse.Learnt
    (λ κs a z. (x : Asked) → (RingLine a.0.now x → z ≡ Some x) × (z ≡ Some x → RingLine a.0.now x))
parse_promised κs a z q x = (λ l. said ∙ line_parsed a.0.now x l, λ e. parsed_line a.0.now x (sym said ∙ e))
  where
    said : z ≡ parse_of a.0.now
    said = parse_says κs a z q.0 q.1

-- its answer is what the scheduler that is built of its numbers answers to it, a refusal as the scheduler's, and `bad`
-- where it is no line
abbrev pub FromCounters : Asked → Result RingBufferScheduler Refusal → Type 0
FromCounters x c =
    Allows 0 from_counters_kinds.ps from_counters_kinds.r from_counters.Learnt tt
    (x.buf_len, (record { 0 = x.written }, (record { 0 = x.read }, tt))) c

abbrev pub Schedule : RingBufferScheduler → Asked → Result Scheduled Refusal → Type 0
Schedule s x y = Allows 0 schedule_kinds.ps schedule_kinds.r schedule.Learnt tt (s, (x.typ, (x.max_len, tt))) y

pub record Planned (x : Asked) (z : Result Plan PlanError) : Type 0 where
  pub unbuilt : (e : Refusal) → FromCounters x (Err e) → z ≡ Err (Refused (Scheduler e))
  pub scheduled : (s : RingBufferScheduler) → FromCounters x (Ok s) → (r : Scheduled) → Schedule s x (Ok r) → z ≡ Ok (plan.Operations r.operations)
  pub refused : (s : RingBufferScheduler) → FromCounters x (Ok s) → (e : Refusal) → Schedule s x (Err e) → z ≡ Err (Refused (Scheduler e))

pub plan_line_promised :
    Keeps 1 plan_line_kinds.ps plan_line_kinds.r plan_line.Learnt
    (λ κs a z. a.0 ≡ question.Ring → ((x : Asked) → RingLine a.1.0.now x → Planned x z) × (((x : Asked) → RingLine a.1.0.now x → ⊥) → z ≡ Err Bad))
plan_line_promised κs a z q ring = (λ x l. record { unbuilt = unbuilt x l; scheduled = λ s f r g. planned x l s f (Ok r) g; refused = λ s f e g. planned x l s f (Err e) g }, λ n. said ∙ else_bad a.1.0.now n)
  where
    said : z ≡ plan_of question.Ring a.1.0.now
    said = plan_line_says κs a z q.0 q.1 ∙ ap (λ (y : Question). plan_of y a.1.0.now) ring

    planned : (x : Asked) → RingLine a.1.0.now x → (s : RingBufferScheduler) → FromCounters x (Ok s) → (y : Result Scheduled Refusal) → Schedule s x y → z ≡ plan_after y
    planned x l s f y r =
        said ∙ line_planned a.1.0.now x l
        ∙ ap plan_after (sym (schedule_contiguous_operations_says tt _ y r.0 r.1 ∙ scheduled_is _ x.typ x.max_len (try_from_counters_says tt _ _ f.0 f.1)))

    unbuilt : (x : Asked) → RingLine a.1.0.now x → (e : Refusal) → FromCounters x (Err e) → z ≡ Err (Refused (Scheduler e))
    unbuilt x l e f = said ∙ line_planned a.1.0.now x l ∙ ap plan_after (sym (scheduled_refused _ x.typ x.max_len (try_from_counters_says tt _ _ f.0 f.1)))

-- ---- the text of a line's answer, of which every number is worth what it says
pub append_promised :
    (κs : Lfts 2) (a : Dens κs append_kinds.ps) (z : (res_t append_kinds.r κs).Denot) (ws : Lasts (ended_of 2 append_kinds.ps append_kinds.r) κs a) →
    append.Learnt κs a z (at_exit (ended_of 2 append_kinds.ps append_kinds.r) κs a ws) →
    (ηs : Lfts 1) (b : Dens ηs plan_line_kinds.ps) → (b.0 ≡ a.0) × (b.1.0.now ≡ a.1.0.now) →
    (p : Result Plan PlanError) → Allows 1 plan_line_kinds.ps plan_line_kinds.r plan_line.Learnt ηs b p →
    Appended a.1.1.0.now a.1.1.1.0 p z ws.1.1.0
append_promised κs a z ws q ηs b e p r =
    let said : p ≡ plan_of a.0 a.1.0.now = plan_line_says ηs b p r.0 r.1 ∙ rw (e.0, e.1) in
    let left = append_says κs a z ws q in
    let text : List ℕ = line_text a.0 a.1.0.now in
    rw (left.0, left.1, said)
    (text, plan_printed a.0 a.1.0.now, appended longest text a.1.1.0.now a.1.1.1.0 (plan_text_short (plan_of a.0 a.1.0.now)))

-- ---- one step
-- where there is room and a byte is left, it goes on, and not over the piece's end
pub answer_next_moves :
    Keeps 3 answer_next_kinds.ps answer_next_kinds.r answer_next.Learnt
    (λ κs a z.
    121 ≤ length a.1.0.now → a.1.1.1.1.1.1.0 + 89 ≤ length a.1.1.1.1.1.0.now → a.1.1.1.1.0 < length a.1.1.1.0.now →
    (a.1.1.1.1.0 < z.next) × (z.next ≤ length a.1.1.1.0.now))
answer_next_moves κs a z q h g l =
    rw (answer_next_says κs a z q.0 q.1).0
    (step_moves (line_text a.0) most_held longest (filled a.1.1.0 a.1.0.now) a.1.1.1.1.0 a.1.1.1.0.now (filled a.1.1.1.1.1.1.0 a.1.1.1.1.1.0.now) (ready_there most_held longest a.1.0.now (filled a.1.1.1.1.1.1.0 a.1.1.1.1.1.0.now) h g) l)

-- where there is no room, nothing changes: the three numbers and both buffers
pub answer_next_no_room :
    (κs : Lfts 3) (a : Dens κs answer_next_kinds.ps) (z : Cut) (ws : Lasts (ended_of 3 answer_next_kinds.ps answer_next_kinds.r) κs a) →
    answer_next.Learnt κs a z (at_exit (ended_of 3 answer_next_kinds.ps answer_next_kinds.r) κs a ws) →
    (length a.1.0.now < 121) ⊎ (length a.1.1.1.1.1.0.now < a.1.1.1.1.1.1.0 + 89) →
    ((z.held ≡ a.1.1.0) × (z.next ≡ a.1.1.1.1.0) × (z.at ≡ a.1.1.1.1.1.1.0)) × (ws.1.0 ≡ a.1.0.now) × (ws.1.1.1.1.1.0 ≡ a.1.1.1.1.1.0.now)
answer_next_no_room κs a z ws q n =
    let h : Filled = filled a.1.1.0 a.1.0.now in
    let o : Filled = filled a.1.1.1.1.1.1.0 a.1.1.1.1.1.0.now in
    let same : step_of a.0 h a.1.1.1.1.0 a.1.1.1.0.now o ≡ step h a.1.1.1.1.0 o = sym (step_unready (line_text a.0) most_held longest h a.1.1.1.1.0 a.1.1.1.0.now o (unready most_held longest a.1.0.now o n)) in
    let left = answer_next_says κs a z ws q in
    rw (left.0, left.1, same) ((refl, refl, refl), refl, refl)

-- of the text's buffer no byte changes but those from `at` up to the new index, of the held line's none but as many as were taken
pub answer_next_else_same :
    (κs : Lfts 3) (a : Dens κs answer_next_kinds.ps) (z : Cut) (ws : Lasts (ended_of 3 answer_next_kinds.ps answer_next_kinds.r) κs a) →
    answer_next.Learnt κs a z (at_exit (ended_of 3 answer_next_kinds.ps answer_next_kinds.r) κs a ws) →
    (j : ℕ) →
    ((j < a.1.1.1.1.1.1.0) ⊎ (z.at ≤ j) → get_or ws.1.1.1.1.1.0 j 0 ≡ get_or a.1.1.1.1.1.0.now j 0)
    × ((j < a.1.1.0) ⊎ (a.1.1.0 + (z.next - a.1.1.1.1.0) ≤ j) → get_or ws.1.0 j 0 ≡ get_or a.1.0.now j 0)
answer_next_else_same κs a z ws q j =
    let left = answer_next_says κs a z ws q in
    rw (left.0, left.1) (step_other (line_text a.0) most_held longest (filled a.1.1.0 a.1.0.now) a.1.1.1.1.0 a.1.1.1.0.now (filled a.1.1.1.1.1.1.0 a.1.1.1.1.1.0.now) j)

pub answer_last_no_room :
    (κs : Lfts 2) (a : Dens κs answer_last_kinds.ps) (z : ℕ) (ws : Lasts (ended_of 2 answer_last_kinds.ps answer_last_kinds.r) κs a) →
    answer_last.Learnt κs a z (at_exit (ended_of 2 answer_last_kinds.ps answer_last_kinds.r) κs a ws) →
    (length a.1.0.now < 121) ⊎ (length a.1.1.1.0.now < a.1.1.1.1.0 + 89) →
    (z ≡ a.1.1.1.1.0) × (ws.1.1.1.0 ≡ a.1.1.1.0.now)
answer_last_no_room κs a z ws q n =
    let o : Filled = filled a.1.1.1.1.0 a.1.1.1.0.now in
    let same : last_of a.0 (filled a.1.1.0 a.1.0.now) o ≡ o = sym (last_unready (line_text a.0) most_held longest a.1.1.0 a.1.0.now o (unready most_held longest a.1.0.now o n)) in
    let left = answer_last_says κs a z ws q in
    rw (left.0, left.1, same) (refl, refl)

-- ---- a run of the calls over any pieces makes the answers to the input's lines, each the text of what `plan_line` answers to it
-- every call of a run asks the same question
module _ (q : Question) where
  -- `answer_next` may leave x on what stands at s, from an index of a piece
  pub record NextCall (piece : List ℕ) (s : Place) (i : ℕ) (x : Step) : Type 0 where
    pub κs : Lfts 3
    pub a : Dens κs answer_next_kinds.ps
    pub asks : a.0 ≡ q
    pub z : Cut
    pub ws : Lasts (ended_of 3 answer_next_kinds.ps answer_next_kinds.r) κs a
    pub allowed : answer_next.Learnt κs a z (at_exit (ended_of 3 answer_next_kinds.ps answer_next_kinds.r) κs a ws)
    pub lent_line : filled a.1.1.0 a.1.0.now ≡ s.held
    pub lent_piece : (a.1.1.1.0.now ≡ piece) × (a.1.1.1.1.0 ≡ i)
    pub lent_out : filled a.1.1.1.1.1.1.0 a.1.1.1.1.1.0.now ≡ s.out
    pub leaves : x ≡ step (filled z.held ws.1.0) z.next (filled z.at ws.1.1.1.1.1.0)

  -- `answer_last` may leave o in the text's buffer
  pub record LastCall (s : Place) (o : Filled) : Type 0 where
    pub κs : Lfts 2
    pub a : Dens κs answer_last_kinds.ps
    pub asks : a.0 ≡ q
    pub z : ℕ
    pub ws : Lasts (ended_of 2 answer_last_kinds.ps answer_last_kinds.r) κs a
    pub allowed : answer_last.Learnt κs a z (at_exit (ended_of 2 answer_last_kinds.ps answer_last_kinds.r) κs a ws)
    pub lent_line : filled a.1.1.0 a.1.0.now ≡ s.held
    pub lent_out : filled a.1.1.1.1.0 a.1.1.1.0.now ≡ s.out
    pub leaves : o ≡ filled z ws.1.1.1.0

  -- `plan_line` may answer p to a line
  pub record PlanCall (line : List ℕ) (p : Result Plan PlanError) : Type 0 where
    pub κs : Lfts 1
    pub a : Dens κs plan_line_kinds.ps
    pub asks : a.0 ≡ q
    pub allowed : Allows 1 plan_line_kinds.ps plan_line_kinds.r plan_line.Learnt κs a p
    pub lent : a.1.0.now ≡ line

  plan_is : (line : List ℕ) (p : Result Plan PlanError) → PlanCall line p → p ≡ plan_of q line
  plan_is line p c = plan_line_says c.κs c.a p c.allowed.0 c.allowed.1 ∙ rw (c.asks, c.lent)

  next_is : (piece : List ℕ) (s : Place) (i : ℕ) (x : Step) → NextCall piece s i x → x ≡ step_of q s.held i piece s.out
  next_is piece s i x c =
      let left = answer_next_says c.κs c.a c.z c.ws c.allowed in
      c.leaves ∙ rw (left.0, left.1, c.asks, c.lent_line, c.lent_piece.0, c.lent_piece.1, c.lent_out)

  last_is : (s : Place) (o : Filled) → LastCall s o → o ≡ last_of q s.held s.out
  last_is s o c =
      let left = answer_last_says c.κs c.a c.z c.ws c.allowed in
      c.leaves ∙ rw (left.0, left.1, c.asks, c.lent_line, c.lent_out)

  run_is : (pieces : List (List ℕ)) (s : Place) (text : List ℕ) → Start most_held s → Run most_held longest NextCall LastCall pieces s text → text ≡ texts_of q (lines_of (joined pieces))
  run_is = run_text (line_text q) most_held longest (omega arith) (text_kept q) (λ line. plan_text_short (plan_of q line)) NextCall LastCall next_is last_is

  pub run_promised : (pieces : List (List ℕ)) (s : Place) (text : List ℕ) → Start most_held s → Run most_held longest NextCall LastCall pieces s text → (lines : List (List ℕ)) × LinesOf (joined pieces) lines × Answered PlanCall lines text
  run_promised pieces s text b r = (lines_of (joined pieces), lines_are (joined pieces), rw (run_is pieces s text b r) (answered q PlanCall plan_is (lines_of (joined pieces))))

-- the paper's whole case of each question, in whatever pieces
pub case_promised : (pieces : List (List ℕ)) (s : Place) (text : List ℕ) → Start most_held s → joined pieces ≡ input → Run most_held longest (NextCall question.Ring) (LastCall question.Ring) pieces s text → text ≡ output
case_promised pieces s text b e r = run_is question.Ring pieces s text b r ∙ ap (λ (xs : List ℕ). texts_of question.Ring (lines_of xs)) e ∙ case

pub strips_case_promised : (pieces : List (List ℕ)) (s : Place) (text : List ℕ) → Start most_held s → joined pieces ≡ strips_input → Run most_held longest (NextCall question.Strips) (LastCall question.Strips) pieces s text → text ≡ strips_output
strips_case_promised pieces s text b e r = run_is question.Strips pieces s text b r ∙ ap (λ (xs : List ℕ). texts_of question.Strips (lines_of xs)) e ∙ strips_case
