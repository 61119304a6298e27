-- The rules keep what specs/Promise.antt says of them: batches, the reason rule, advancing a state, the violations' numbers.
use Prim.Native.Nat.{ℕ, min}
use mathlib.Core.Path.{◌≡◌, refl, sym, ap, ◌∙◌}
use mathlib.Core.Bool.{Bool, cond, true, false}
use mathlib.Core.Logic.{◌≢◌}
use native.Mathlib.Omega.{arith}
use lib.Dec.{eqb, leb}
use borrow.Author.Tests.{eqb-true, eqb-false, eq-eqb, leb-true, leb-false}
use Rattle.states.specs.Answer.{batch_of}
use Rattle.states.specs.Promise.{Batch, all, most, Reason, end_and_end, end_gives_way, error_and_end, error_stays, normal, blocked_draining, blocked_terminated, Normalized, calmed, drains, ends, Holds, holds_none, draining_holds, terminated_holds, Carries, normal_carries_none, draining_carries, terminated_carries, Advanced, calm_by_calm, calm_by_draining, calm_by_terminated, terminated_stays, draining_stays, draining_by_draining, draining_by_terminated}
use Rattle.states.specs.State.{behind_header, violation_number, overflow_of, overflow_in, violation_at, is_errno, failure_in, with_failure_in, normalize_in, towards_error_in, advance_normal, advance_in}
use Rattle.states.specs.declared.state.Failure.{Failure}
use Rattle.states.specs.declared.state.Failure.TheVariants.{Io, Protocol}
use Rattle.states.specs.declared.state.OperationalState.{OperationalState}
use Rattle.states.specs.declared.state.OperationalState.TheVariants.{Normal, Draining, Terminated}
use Rattle.states.specs.declared.state.Overflow.{Overflow}
use Rattle.states.specs.declared.state.Violation.{Violation}
use Rattle.states.specs.declared.state.Violation.TheVariants.{InvalidChunkAnnouncement, HeaderOverflow, UnknownHeader, InvalidChunkLength, BodyOverflow}
use Rattle.states.specs.Promise.{Behind, Numbered, violation_1, violation_2, violation_3, violation_4, violation_5, ReadBack, reads_1, reads_2, reads_3, reads_5, reads_other}

-- ---- batches
pub batch_rule : (p : ℕ) → p ≢ 0 → Batch p (batch_of p)
batch_rule p z = by (leb 128 p) refl
  where
    by : (b : Bool) → leb 128 p ≡ b → Batch p (batch_of p)
    by true e = let m : min 128 p ≡ 128 = omega (arith, leb-true 128 p e) in rw m (most (leb-true 128 p e))
    by false e = let m : min 128 p ≡ p = omega (arith, leb-false 128 p e) in rw m (all (omega (arith, z)) (omega (arith, leb-false 128 p e)))

-- ---- reasons
is_errno_lem : (f : Failure) (k : ℕ) → is_errno f k ≡ true → f ≡ Io k
is_errno_lem (Io e) k h = ap Io (eqb-true e k h)
is_errno_lem (Protocol v) k h = cc

is_other : (f : Failure) (k : ℕ) → is_errno f k ≡ false → f ≢ Io k
is_other (Io e) k h p = let z : e ≡ k = cc in eqb-false e k h z
is_other (Protocol v) k h p = cc

pub reason_rule : (c e : Failure) → Reason c e (towards_error_in c e)
unfolding towards_error_in
reason_rule c e = by (is_errno c 32) refl (is_errno e 32) refl
  where
    by : (x : Bool) → is_errno c 32 ≡ x → (y : Bool) → is_errno e 32 ≡ y → Reason c e (cond x (cond y c e) c)
    by true p true q = rw (is_errno_lem c 32 p, is_errno_lem e 32 q) end_and_end
    by true p false q = rw (is_errno_lem c 32 p) (end_gives_way (is_other e 32 q))
    by false p true q = rw (is_errno_lem e 32 q) (error_and_end (is_other c 32 p))
    by false p false q = error_stays (is_other c 32 p) (is_other e 32 q)

-- ---- states
pub normalized : (s : OperationalState) → Normalized s (normalize_in s)
unfolding normalize_in
normalized Normal = calmed normal
normalized (Draining f) = by (is_errno f 11) refl
  where
    by : (x : Bool) → is_errno f 11 ≡ x → Normalized (Draining f) (cond x Normal (Draining f))
    by true p = rw (is_errno_lem f 11 p) (calmed blocked_draining)
    by false p = drains f (is_other f 11 p)
normalized (Terminated f) = by (is_errno f 11) refl
  where
    by : (x : Bool) → is_errno f 11 ≡ x → Normalized (Terminated f) (cond x Normal (Terminated f))
    by true p = rw (is_errno_lem f 11 p) (calmed blocked_terminated)
    by false p = ends f (is_other f 11 p)

by_normalized : (s to x y : OperationalState) → Normalized s x → Normalized to y → Advanced s to (advance_normal x y)
by_normalized s to _ _ (calmed h) (calmed k) = calm_by_calm h k
by_normalized s to _ _ (calmed h) (drains e k) = calm_by_draining h k
by_normalized s to _ _ (calmed h) (ends e k) = calm_by_terminated h k
by_normalized s to _ _ (ends c h) k = terminated_stays h
by_normalized s to _ _ (drains c h) (calmed k) = draining_stays h k
by_normalized s to _ _ (drains c h) (drains e k) = draining_by_draining h k (reason_rule c e)
by_normalized s to _ _ (drains c h) (ends e k) = draining_by_terminated h k (reason_rule c e)

pub advance_rule : (s to : OperationalState) → Advanced s to (advance_in s to)
advance_rule s to = by_normalized s to (normalize_in s) (normalize_in to) (normalized s) (normalized to)

pub holds_rule : (s : OperationalState) → Holds s (failure_in s)
holds_rule Normal = holds_none
holds_rule (Draining f) = draining_holds
holds_rule (Terminated f) = terminated_holds

pub carries_rule : (s : OperationalState) (f : Failure) → Carries s f (with_failure_in s f)
carries_rule Normal f = normal_carries_none
carries_rule (Draining c) f = draining_carries
carries_rule (Terminated c) f = terminated_carries

pub errno_rule : (f : Failure) (k : ℕ) → (is_errno f k ≡ true → f ≡ Io k) × (f ≡ Io k → is_errno f k ≡ true)
errno_rule f k = (is_errno_lem f k, λ e. ap (λ (x : Failure). is_errno x k) e ∙ eq-eqb k k refl)

-- ---- violations
pub numbered : (v : Violation) → Numbered v (violation_number v) (overflow_in v).needed (overflow_in v).room
numbered InvalidChunkAnnouncement = violation_1
numbered (HeaderOverflow o) = violation_2
numbered UnknownHeader = violation_3
numbered InvalidChunkLength = violation_4
numbered (BodyOverflow o) = violation_5

pub behind_rule : (L : ℕ) → Behind L (behind_header L)
unfolding behind_header
behind_rule L = ((λ l. omega (arith, l)), (λ l. omega (arith, l)))

-- a violation has one number, one count of bytes needed and one room
pub numbers_are : (v : Violation) (k needed room : ℕ) → Numbered v k needed room → (k ≡ violation_number v) × (needed ≡ (overflow_in v).needed) × (room ≡ (overflow_in v).room)
numbers_are _ _ _ _ violation_1 = (refl, refl, refl)
numbers_are _ _ _ _ violation_2 = (refl, refl, refl)
numbers_are _ _ _ _ violation_3 = (refl, refl, refl)
numbers_are _ _ _ _ violation_4 = (refl, refl, refl)
numbers_are _ _ _ _ violation_5 = (refl, refl, refl)

-- and is read back from them
pub number_back_lem : (v : Violation) (k needed room : ℕ) → Numbered v k needed room → violation_at k (overflow_of needed room) ≡ v
unfolding violation_at
number_back_lem _ _ _ _ violation_1 = refl
number_back_lem _ _ _ _ violation_2 = refl
number_back_lem _ _ _ _ violation_3 = refl
number_back_lem _ _ _ _ violation_4 = refl
number_back_lem _ _ _ _ violation_5 = refl

pub violation_back : (v : Violation) → violation_at (violation_number v) (overflow_in v) ≡ v
violation_back v = number_back_lem v _ _ _ (numbered v)

module _ (v : Violation) (k needed room : ℕ) (h : Numbered v k needed room) where
  at_number : (n : ℕ) → k ≡ n → v ≡ violation_at n (overflow_of needed room)
  at_number n e = sym (number_back_lem v k needed room h) ∙ ap (λ (m : ℕ). violation_at m (overflow_of needed room)) e

  pub number_2 : k ≡ 2 → v ≡ HeaderOverflow (overflow_of needed room)
  unfolding violation_at
  number_2 e = at_number 2 e

  pub number_5 : k ≡ 5 → v ≡ BodyOverflow (overflow_of needed room)
  unfolding violation_at
  number_5 e = at_number 5 e

-- by the tests of the definition
pub read_back : (n : ℕ) (o : Overflow) → ReadBack o.needed o.room n (violation_at n o)
unfolding violation_at
read_back n o = by (eqb n 1) refl (eqb n 2) refl (eqb n 3) refl (eqb n 5) refl
  where
    by : (x : Bool) → eqb n 1 ≡ x → (y : Bool) → eqb n 2 ≡ y → (z : Bool) → eqb n 3 ≡ z → (u : Bool) → eqb n 5 ≡ u →
        ReadBack o.needed o.room n (cond x InvalidChunkAnnouncement (cond y (HeaderOverflow o) (cond z UnknownHeader (cond u (BodyOverflow o) InvalidChunkLength))))
    by true p y q z r u s = rw (eqb-true n 1 p) reads_1
    by false p true q z r u s = rw (eqb-true n 2 q) reads_2
    by false p false q true r u s = rw (eqb-true n 3 r) reads_3
    by false p false q false r true s = rw (eqb-true n 5 s) reads_5
    by false p false q false r false s = reads_other (eqb-false n 1 p) (eqb-false n 2 q) (eqb-false n 3 r) (eqb-false n 5 s)
