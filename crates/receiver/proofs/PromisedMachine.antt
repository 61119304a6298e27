-- Promises of the machine, of its calls: what each comes to, by the cases of specs/Cases.antt, and the pending count over any answers that
-- a host hands in.
use Rattle.std.proofs.Common.{Result}
use Prim.Native.Nat.{ℕ, ◌+◌}
use mathlib.Core.Path.{◌≡◌, sym, ap, subst, ◌∙◌}
use mathlib.Core.List.{List}
use contract.Lifetimes.{Lfts}
use denote.Ref.{Bor}
use Rattle.modular.proofs.Saying.{Allows, Keeps}
use Rattle.receiver.proofs.CaseSteps.{answers, begins_at, serves_at, shuts_at}
use Rattle.receiver.proofs.HandedSum.{handed_sum}
use Rattle.receiver.proofs.Made.{Made}
use Rattle.receiver.proofs.Says.{begin_read_says, begin_service_says, begin_shutdown_says, answered_says}
use Rattle.receiver.specs.Call.{answered_of}
use Rattle.receiver.specs.Cases.{a_want, BeginsRead, BeginsService, BeginsShutdown, Answered, Goes}
use Rattle.receiver.specs.Handed.{Handed, step_of, handed_to, all_sent_to, all_whole_to}
use Rattle.receiver.specs.declared.call.Call.{Call}
use Rattle.receiver.proofs.call.Call.begin_read.Kinds as begin_read_kinds
use Rattle.receiver.proofs.call.Call.begin_read.Reads as begin_read
use Rattle.receiver.proofs.call.Call.begin_service.Kinds as begin_service_kinds
use Rattle.receiver.proofs.call.Call.begin_service.Reads as begin_service
use Rattle.receiver.proofs.call.Call.begin_shutdown.Kinds as begin_shutdown_kinds
use Rattle.receiver.proofs.call.Call.begin_shutdown.Reads as begin_shutdown
use Rattle.receiver.proofs.call.Call.answered.Kinds as answered_kinds
use Rattle.receiver.proofs.call.Call.answered.Reads as answered
use Rattle.states.specs.declared.refusal.Refusal.{Refusal}

-- ---- of the calls
pub begin_read_promised : Keeps 0 begin_read_kinds.ps begin_read_kinds.r begin_read.Learnt (λ κs a z. Goes (BeginsRead a.0 (a_want a.1.1.0 a.1.1.1.0)) z)
begin_read_promised κs a z p =
    subst (Goes (BeginsRead a.0 (a_want a.1.1.0 a.1.1.1.0))) (sym (begin_read_says κs a z p.0 p.1)) (begins_at a.0 a.1.0 a.1.1.0 a.1.1.1.0)

pub begin_service_promised : Keeps 0 begin_service_kinds.ps begin_service_kinds.r begin_service.Learnt (λ κs a z. Goes (BeginsService a.0) z)
begin_service_promised κs a z p = subst (Goes (BeginsService a.0)) (sym (begin_service_says κs a z p.0 p.1)) (serves_at a.0)

pub begin_shutdown_promised : Keeps 0 begin_shutdown_kinds.ps begin_shutdown_kinds.r begin_shutdown.Learnt (λ κs a z. Goes (BeginsShutdown a.0) z)
begin_shutdown_promised κs a z p = subst (Goes (BeginsShutdown a.0)) (sym (begin_shutdown_says κs a z p.0 p.1)) (shuts_at a.0)

pub answered_promised : Keeps 1 answered_kinds.ps answered_kinds.r answered.Learnt (λ κs a z. Goes (Answered a.0 a.1.0.now a.1.1.0) z)
answered_promised κs a z p =
    subst (Goes (Answered a.0 a.1.0.now a.1.1.0)) (sym (answered_says κs a z p.0 p.1)) (answers a.0 a.1.0.now a.1.1.0 a.1.1.1.0)

-- ---- the pending sum, of the call: whatever function of a host's answers its contract allows, somewhere in memory
abbrev pub Answers : Call → Handed → Result Call Refusal → Type 0
Answers c h z = (κs : Lfts 1) × ((ring : Bor (List ℕ)) × (ring.now ≡ h.ring) × Allows 1 answered_kinds.ps answered_kinds.r answered.Learnt κs (c, (ring, (h.answer, (h.place, tt)))) z)

pub answers_are : (c : Call) (h : Handed) (z : Result Call Refusal) → Answers c h z → z ≡ step_of c h
answers_are c h z (κs, (ring, e, p)) = answered_says κs (c, (ring, (h.answer, (h.place, tt)))) z p.0 p.1 ∙ ap (λ (r : List ℕ). answered_of c r h.answer h.place) e

pub pending_promised : (answers : Call → Handed → Result Call Refusal) → ((c : Call) (h : Handed) → Answers c h (answers c h)) → (hs : List Handed) (c : Call) → Made c →
    (handed_to answers c hs).receiver.pending_ack_count + all_sent_to answers c hs ≡ c.receiver.pending_ack_count + all_whole_to answers c hs
pending_promised answers allowed = handed_sum answers (λ c h. answers_are c h (answers c h) (allowed c h))
