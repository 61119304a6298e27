-- Any bits stand for something: each reader tests a few numbers for equality, and none of those is the number given.
use Prim.Native.Nat.{ℕ, ◌<◌}
use mathlib.Core.Path.{◌≡◌, refl}
use mathlib.Core.Bool.{Bool, cond, true, false}
use mathlib.Core.Logic.{◌≢◌}
use native.Mathlib.Omega.{arith}
use lib.Dec.{eqb}
use borrow.Author.Tests.{eqb-true, eqb-false, ne_eqb}
use Rattle.states.proofs.Rules.{read_back}
use Rattle.states.specs.declared.state.Failure as receiver_failure
use Rattle.flat.specs.AnyBits.{AnyBits}
use Rattle.flat.specs.Block.{block_type_at, bit_at}
use Rattle.flat.specs.Call.{phase_at}
use Rattle.flat.specs.Diff.{diff_at}
use Rattle.flat.specs.Failure.{failure_at, potential_failure_at}
use Rattle.flat.specs.List.{operations_at}
use Rattle.flat.specs.Operation.{type_at}
use Rattle.flat.specs.Outcome.{came_at}
use Rattle.flat.specs.Stands.{FailureRead}
use Rattle.flat.specs.State.{state_at}
use Rattle.flat.specs.declared.structs.Failure.{Failure}

past : (k n : ℕ) → k < n → eqb n k ≡ false
past k n l = ne_eqb n k (λ q. omega arith)

-- past k, so past what is below it
far : (j k n : ℕ) → j < k → k < n → eqb n j ≡ false
far j k n i l = ne_eqb n j (λ q. omega arith)

by_kind : (f : Failure) (b : Bool) → eqb f.kind 0 ≡ b → (x y : receiver_failure.Failure) → (f.kind ≡ 0 → FailureRead f x) → (f.kind ≢ 0 → FailureRead f y) → FailureRead f (cond b x y)
by_kind f true p x y g h = g (eqb-true _ _ p)
by_kind f false p x y g h = h (eqb-false _ _ p)

pub any_bits : AnyBits
unfolding type_at block_type_at bit_at diff_at potential_failure_at failure_at operations_at state_at came_at phase_at
any_bits =
    record {
      types = (refl, λ n l. rw (past 0 n l));
      block_types = (refl, λ n l. rw (past 0 n l));
      bits = (refl, λ n l. rw (past 0 n l));
      bools = (refl, λ n l. rw (past 0 n l));
      potentials = λ f. (refl, λ n l. rw (past 0 n l));
      differences = λ d. ((λ z. rw z), (λ l. rw (past 0 d.different l)));
      lists = λ ops. ((λ z. rw z), (λ z. rw z), (λ l. rw (far 0 1 ops.count (omega arith) l, past 1 ops.count l)));
      states = λ s. ((λ z. rw z), (λ z. rw z), (λ l. rw (far 0 1 s.kind (omega arith) l, past 1 s.kind l)));
      outcomes = λ o. ((λ z. rw z), (λ z. rw z), (λ l. rw (far 0 1 o.kind (omega arith) l, past 1 o.kind l)));
      phases = λ p.
          ((λ z. rw z), (λ z. rw z), (λ z. rw z), (λ l. rw (far 0 2 p.kind (omega arith) l, far 1 2 p.kind (omega arith) l, past 2 p.kind l)));
      failures = λ f. by_kind f (eqb f.kind 0) refl _ _ (λ z. (z, refl)) (λ s. (s, read_back _ _));
      operations = λ o. refl;
      besides = λ o. refl;
      endings = λ e. refl;
      schedulers = λ s. (refl, refl, refl, refl);
      writing_ends = λ e. (refl, refl, refl, refl);
      reading_ends = λ e. (refl, refl, refl, refl);
      receivers = λ r. ((refl, refl, refl, refl), refl, refl, refl);
      calls = λ c. (refl, (refl, refl, refl, refl), refl);
    }
