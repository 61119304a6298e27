-- What an answer says at its place, by the cases of specs/Promise.antt: the definition picks the one case that holds.
use Prim.Native.Nat.{ℕ}
use mathlib.Core.Path.{◌≡◌, refl, ◌∙◌}
use mathlib.Core.Bool.{Bool, cond, true, false}
use native.Mathlib.Omega.{arith}
use lib.Dec.{eqb, leb}
use borrow.Author.Tests.{eqb-true, eqb-false, eq-eqb, ne_eqb, leb-true, leb-false, le-leb}
use Rattle.states.specs.Answer.{is_byte, is_closed, is_failed, is_sent, is_done, interrupted_of, received_of, sent_of, shut_of}
use Rattle.states.specs.Promise.{Errno, FailureFits, Stored, SaysReceived, a_byte, closed, receive_failed, no_receive, SaysSent, so_many, send_failed, no_send, SaysShut, done, shutdown_failed, no_shutdown}
use Rattle.states.specs.State.{fits_errno, fits_failure, fits_state}
use Rattle.states.specs.declared.answer.Answer.{Answer}
use Rattle.states.specs.declared.answer.Received.{Received}
use Rattle.states.specs.declared.answer.Received.TheVariants as received
use Rattle.states.specs.declared.answer.Sent.{Sent}
use Rattle.states.specs.declared.answer.Sent.TheVariants as sent
use Rattle.states.specs.declared.answer.Shut.{Shut}
use Rattle.states.specs.declared.answer.Shut.TheVariants as shut
use Rattle.states.specs.declared.state.Failure.{Failure}
use Rattle.states.specs.declared.state.Failure.TheVariants.{Io, Protocol}
use Rattle.states.specs.declared.state.OperationalState.{OperationalState}
use Rattle.states.specs.declared.state.OperationalState.TheVariants.{Normal, Draining, Terminated}

-- ---- errnos
pub errno_fits : (e : ℕ) → fits_errno e ≡ true → Errno e
unfolding fits_errno
errno_fits e = by (eqb e 0) refl
  where
    by : (b : Bool) → eqb e 0 ≡ b → cond b false (leb e 4095) ≡ true → Errno e
    by true q h = cc
    by false q h = (omega (arith, eqb-false e 0 q), leb-true e 4095 h)

pub fits_errno_lem : (e : ℕ) → Errno e → fits_errno e ≡ true
unfolding fits_errno
fits_errno_lem e h = rw (ne_eqb e 0 (λ z. omega (arith, z, h.0)), le-leb e 4095 h.1)

no_errno : (e : ℕ) → fits_errno e ≡ false → Errno e → ⊥
no_errno e f h = let k = fits_errno_lem e h in cc

pub failure_fits : (f : Failure) (b : Bool) → fits_failure f ≡ b → (b ≡ true → FailureFits f) × (b ≡ false → FailureFits f → ⊥)
failure_fits (Io e) b h = ((λ t. errno_fits e (h ∙ t)), (λ t k. no_errno e (h ∙ t) k))
failure_fits (Protocol v) b h = ((λ t. tt), (λ t k. cc))

-- the test of a state is that what it stores fits
pub state_fits : (s : OperationalState) (b : Bool) → fits_state s ≡ b → (b ≡ true → Stored s) × (b ≡ false → Stored s → ⊥)
state_fits Normal b h = ((λ t. tt), (λ t k. cc))
state_fits (Draining f) b h = failure_fits f b h
state_fits (Terminated f) b h = failure_fits f b h

-- ---- answers
module _ (a : Answer) where
  module _ (top : ℕ) where
    pub received_says : SaysReceived a top (received_of top a)
    unfolding received_of
    received_says = go (is_byte a) refl (leb a.value 255) refl (leb a.descriptors top) refl (is_closed a) refl (is_failed a) refl (fits_errno a.value) refl
      where
        go : (x : Bool) → eqb a.kind 0 ≡ x → (y : Bool) → leb a.value 255 ≡ y → (z : Bool) → leb a.descriptors top ≡ z → (u : Bool) → eqb a.kind 1 ≡ u → (v : Bool) → eqb a.kind 2 ≡ v → (w : Bool) → fits_errno a.value ≡ w →
            SaysReceived a top (cond x (cond y (cond z (received.Byte a.value a.descriptors) received.Misfit) received.Misfit) (cond u (received.Failed 32) (cond v (cond w (received.Failed a.value) received.Misfit) received.Misfit)))
        go true p true q true r u s v t w m = a_byte (eqb-true _ _ p, omega (arith, leb-true a.value 255 q), leb-true _ _ r)
        go true p true q false r u s v t w m = no_receive (λ h. omega (arith, h.2, leb-false a.descriptors top r)) (λ h. omega (arith, h, eqb-true a.kind 0 p)) (λ h. omega (arith, h.0, eqb-true a.kind 0 p))
        go true p false q z r u s v t w m = no_receive (λ h. omega (arith, h.1, leb-false a.value 255 q)) (λ h. omega (arith, h, eqb-true a.kind 0 p)) (λ h. omega (arith, h.0, eqb-true a.kind 0 p))
        go false p y q z r true s v t w m = closed (eqb-true _ _ s)
        go false p y q z r false s true t true m = receive_failed (eqb-true _ _ t, errno_fits _ m)
        go false p y q z r false s true t false m = no_receive (λ h. eqb-false _ _ p h.0) (eqb-false _ _ s) (λ h. no_errno _ m h.1)
        go false p y q z r false s false t w m = no_receive (λ h. eqb-false _ _ p h.0) (eqb-false _ _ s) (λ h. eqb-false _ _ t h.0)

    pub received_only : SaysReceived a top received.Misfit → received_of top a ≡ received.Misfit
    received_only (no_receive f g h) = by (received_of top a) received_says
      where
        by : (y : Received) → SaysReceived a top y → y ≡ received.Misfit
        by _ (a_byte k) = absurd (f k)
        by _ (closed k) = absurd (g k)
        by _ (receive_failed k) = absurd (h k)
        by _ (no_receive l m n) = refl

  module _ (batch : ℕ) where
    pub sent_says : SaysSent a batch (sent_of batch a)
    unfolding sent_of
    sent_says = go (is_sent a) refl (leb a.value batch) refl (is_failed a) refl (fits_errno a.value) refl
      where
        go : (x : Bool) → eqb a.kind 3 ≡ x → (y : Bool) → leb a.value batch ≡ y → (v : Bool) → eqb a.kind 2 ≡ v → (w : Bool) → fits_errno a.value ≡ w →
            SaysSent a batch (cond x (cond y (sent.Sent a.value) sent.Misfit) (cond v (cond w (sent.Failed a.value) sent.Misfit) sent.Misfit))
        go true p true q v t w m = so_many (eqb-true _ _ p) (leb-true _ _ q)
        go true p false q v t w m = no_send (λ h. omega (arith, h.1, leb-false a.value batch q)) (λ h. omega (arith, h.0, eqb-true a.kind 3 p))
        go false p y q true t true m = send_failed (eqb-true _ _ t, errno_fits _ m)
        go false p y q true t false m = no_send (λ h. eqb-false _ _ p h.0) (λ h. no_errno _ m h.1)
        go false p y q false t w m = no_send (λ h. eqb-false _ _ p h.0) (λ h. eqb-false _ _ t h.0)

    pub sent_only : SaysSent a batch sent.Misfit → sent_of batch a ≡ sent.Misfit
    sent_only (no_send f g) = by (sent_of batch a) sent_says
      where
        by : (y : Sent) → SaysSent a batch y → y ≡ sent.Misfit
        by _ (so_many k l) = absurd (f (k, l))
        by _ (send_failed k) = absurd (g k)
        by _ (no_send h i) = refl

  pub shut_says : SaysShut a (shut_of a)
  unfolding shut_of
  shut_says = go (is_done a) refl (is_failed a) refl (fits_errno a.value) refl
    where
      go : (x : Bool) → eqb a.kind 4 ≡ x → (v : Bool) → eqb a.kind 2 ≡ v → (w : Bool) → fits_errno a.value ≡ w → SaysShut a (cond x shut.Done (cond v (cond w (shut.Failed a.value) shut.Misfit) shut.Misfit))
      go true p v t w m = done (eqb-true _ _ p)
      go false p true t true m = shutdown_failed (eqb-true _ _ t, errno_fits _ m)
      go false p true t false m = no_shutdown (eqb-false _ _ p) (λ h. no_errno _ m h.1)
      go false p false t w m = no_shutdown (eqb-false _ _ p) (λ h. eqb-false _ _ t h.0)

  pub shut_only : SaysShut a shut.Misfit → shut_of a ≡ shut.Misfit
  shut_only (no_shutdown f g) = by (shut_of a) shut_says
    where
      by : (y : Shut) → SaysShut a y → y ≡ shut.Misfit
      by _ (done k) = absurd (f k)
      by _ (shutdown_failed k) = absurd (g k)
      by _ (no_shutdown h i) = refl

  -- errno 4, and nothing else, is an interruption
  pub interrupted_says : (interrupted_of a ≡ true → (a.kind ≡ 2) × (a.value ≡ 4)) × ((a.kind ≡ 2) × (a.value ≡ 4) → interrupted_of a ≡ true)
  unfolding interrupted_of
  interrupted_says = (by (is_failed a) refl, λ h. rw (eq-eqb _ _ h.0) (eq-eqb _ _ h.1))
    where
      by : (b : Bool) → eqb a.kind 2 ≡ b → cond b (eqb a.value 4) false ≡ true → (a.kind ≡ 2) × (a.value ≡ 4)
      by true p h = (eqb-true _ _ p, eqb-true _ _ h)
      by false p h = cc
