-- A send that is answered sent no more than it was asked for.
use mathlib.Core.Path.{◌≡◌, refl}
use mathlib.Core.Bool.{Bool, cond, true, false}
use Prim.Native.Nat.{ℕ, ◌≤◌}
use native.Mathlib.Omega.{arith}
use lib.Dec.{leb}
use borrow.Author.Tests.{leb-true}
use Rattle.receiver.specs.declared.receiver.ReceiverState.{ReceiverState}
use Rattle.states.specs.declared.answer.Answer.{Answer}
use Rattle.states.specs.declared.answer.Sent.TheVariants as sent
use Rattle.states.specs.Answer.{sent_of, is_sent, is_failed}
use Rattle.states.specs.State.{fits_errno}
use Rattle.receiver.specs.Receiver.{batch_in}
use Rattle.receiver.specs.Call.{Covered}

-- what was sent is at most the batch
sent_at_most : (k : Bool) (batch n : ℕ) (a : Answer) →
    cond k (cond (leb a.value batch) (sent.Sent a.value) sent.Misfit) (cond (is_failed a) (cond (fits_errno a.value) (sent.Failed a.value) sent.Misfit) sent.Misfit) ≡ sent.Sent n → n ≤ batch
sent_at_most true batch n a h = go (leb a.value batch) refl h
  where
    go : (b : Bool) → leb a.value batch ≡ b → cond b (sent.Sent a.value) sent.Misfit ≡ sent.Sent n → n ≤ batch
    go true q x = let e : a.value ≡ n = cc in omega (arith, e, leb-true a.value batch q)
    go false q x = cc
sent_at_most false batch n a h = go (is_failed a) (fits_errno a.value) h
  where
    go : (b c : Bool) → cond b (cond c (sent.Failed a.value) sent.Misfit) sent.Misfit ≡ sent.Sent n → n ≤ batch
    go true true x = cc
    go true false x = cc
    go false c x = cc

pub sent_covered : (n : ℕ) (q : ReceiverState) (a : Answer) → sent_of (batch_in q) a ≡ sent.Sent n → Covered n q
unfolding sent_of
sent_covered n q a h = omega (sent_at_most (is_sent a) (batch_in q) n a h, arith)
