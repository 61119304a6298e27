-- Over any answers that a host hands in, fitting and not, pending goes down by what was sent, and up by each chunk that was handed out
-- whole. A refused answer counts for nothing, because the call stays as it was.
use Rattle.std.proofs.Common.{Result, Ok, Err}
use Prim.Native.Nat.{ℕ, ◌+◌}
use mathlib.Core.Path.{◌≡◌, refl, sym, ap, subst}
use mathlib.Core.List.{List, [], ◌∷◌}
use mathlib.Core.Logic.{inl, inr}
use native.Mathlib.Omega.{arith}
use Rattle.receiver.proofs.CaseSteps.{made_resumes, made_takes}
use Rattle.receiver.proofs.Made.{Made}
use Rattle.receiver.proofs.MadeLaws.{MadeBy, awaiting, answered_made}
use Rattle.receiver.proofs.StepLaws.{sent_spends, shut_spends, spends_whole, Took, handed, failed, took}
use Rattle.receiver.proofs.SumLaws.{other_sends, says_sent, sent_taken}
use Rattle.receiver.specs.Call.{dropping}
use Rattle.receiver.specs.Cases.{ResumesIn, TakesIn, Takes, Goes}
use Rattle.receiver.specs.Handed.{Handed, whole_in, step_of, kept_by, handed_to, sent_at, all_sent_to, coming_to, whole_at, all_whole_to}
use Rattle.receiver.specs.Receiver.{failed_outcome}
use Rattle.states.specs.declared.answer.Answer.{Answer}
use Rattle.receiver.specs.declared.call.Call.{Call}
use Rattle.receiver.specs.declared.call.Phase.{Phase}
use Rattle.receiver.specs.declared.call.Phase.TheVariants as phase
use Rattle.receiver.specs.declared.call.Wanted.{Wanted}
use Rattle.states.specs.declared.refusal.Refusal.{Refusal}

-- ---- one answer that is taken
module _ (c : Call) (ring : List ℕ) (a : Answer) where
  abbrev Sums : Phase → Call → Type 0
  Sums ph d = d.receiver.pending_ack_count + sent_at ph (Ok d) a ≡ c.receiver.pending_ack_count + whole_at ph (Ok d)

  module _ (d : Call) where
    took_sums : (w : Wanted) → Took c.receiver c.source w.dst_len d → Sums (phase.Receive w) d
    took_sums w (handed r n b k e h) = omega (arith, e, h.counts)
    took_sums w (failed f h) = omega (arith, h.counts, spends_whole c.receiver c.source (dropping (failed_outcome f)) 0 d h tt)

    takes_sums : (ph : Phase) → c.phase ≡ ph → ResumesIn ph c c → TakesIn ph c ring a d → Sums ph d
    takes_sums (phase.Receive w) p k (inl (i, e)) = subst (Sums (phase.Receive w)) (sym e) (omega (arith, ap (λ (x : Phase). whole_in c.receiver (coming_to x)) p))
    takes_sums (phase.Receive w) p k (inr (i, (x, says, t))) = took_sums w (took c.receiver c.source ring w (awaiting c.receiver w c k p).0.some x d t).1
    takes_sums (phase.Send batch e) p k (inl (i, z)) = subst (Sums (phase.Send batch e)) (sym z) (omega (arith, other_sends a (λ y. omega (arith, i.0, y))))
    takes_sums (phase.Send batch e) p k (inr (i, (x, says, t))) =
        omega (arith, says_sent a batch x says (sent_taken _ _ e x d t), (sent_spends c.receiver c.source e x d t).counts)
    takes_sums (phase.Shutdown e) p k (x, says, t) = omega (arith, (shut_spends c.receiver c.source e x d t).counts)
    takes_sums (phase.Finished o) p k e = subst (Sums (phase.Finished o)) (sym e) refl

-- ---- any answers
-- taken or not, the call that the host goes on with is made by the machine, and keeps the sum
abbrev Kept : Call → Answer → Result Call Refusal → Type 0
Kept c a x = Made (kept_by c x) × ((kept_by c x).receiver.pending_ack_count + sent_at c.phase x a ≡ c.receiver.pending_ack_count + whole_at c.phase x)

refused : (c : Call) (a : Answer) (r : Refusal) (ph : Phase) → c.receiver.pending_ack_count + sent_at ph (Err r) a ≡ c.receiver.pending_ack_count + whole_at ph (Err r)
refused c a r (phase.Receive w) = refl
refused c a r (phase.Send batch e) = refl
refused c a r (phase.Shutdown e) = refl
refused c a r (phase.Finished o) = refl

kept : (c : Call) (h : Handed) → Made c → Kept c h.answer (step_of c h)
kept c h m = by (step_of c h) (answered_made c m h.ring h.answer h.place) (made_takes c m h.ring h.answer h.place)
  where
    by : (x : Result Call Refusal) → MadeBy x → Goes (Takes c h.ring h.answer) x → Kept c h.answer x
    by (Ok d) k t = (k, takes_sums c h.ring h.answer d c.phase refl (made_resumes c m) t)
    by (Err r) k t = (m, refused c h.answer r c.phase)

module _ (answers : Call → Handed → Result Call Refusal) (are : (c : Call) (h : Handed) → answers c h ≡ step_of c h) where
  taken_or_not : (c : Call) (h : Handed) → Made c → Kept c h.answer (answers c h)
  taken_or_not c h m = subst (Kept c h.answer) (sym (are c h)) (kept c h m)

  pub handed_sum : (hs : List Handed) (c : Call) → Made c →
      (handed_to answers c hs).receiver.pending_ack_count + all_sent_to answers c hs ≡ c.receiver.pending_ack_count + all_whole_to answers c hs
  handed_sum [] c m = refl
  handed_sum (h ∷ hs) c m = let k = taken_or_not c h m in omega (arith, k.1, handed_sum hs (kept_by c (answers c h)) k.0)
