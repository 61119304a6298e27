-- The promises of specs/Promise.antt, of the calls: of whatever the predicate that a contract cites allows.
use Rattle.std.proofs.Common.{Result, Ok, Err, Option}
use Prim.Native.Nat.{ℕ, zero, suc, ◌+◌, ◌%◌, min}
use mathlib.Core.Path.{◌≡◌, refl, sym, ap, subst, ◌∙◌}
use mathlib.Core.Bool.{Bool, cond, true, false}
use mathlib.Core.List.{List, [], ◌∷◌, ◌++◌}
use native.Mathlib.Nat.{mod-lt, mod-eq_of_lt}
use native.Mathlib.Omega.{arith}
use lib.Dec.{eqb}
use lib.ListN.{length, take, drop}
use lib.Seq.{take_at}
use borrow.Author.Tests.{eqb-true, eqb-false}
use Rattle.operations.specs.declared.operation.OperationType.TheVariants.{Read}
use Rattle.sched.specs.declared.scheduler.RingBufferScheduler.{RingBufferScheduler}
use Rattle.sched.specs.Scheduler.{IsSound, data_in, offset_in}
use Rattle.copies.proofs.Promised.{got_cells}
use Rattle.copies.proofs.Ring.{length_get, get_place, get_own}
use Rattle.copies.specs.Copies.{read_from}
use Rattle.copies.specs.Promises.{CellsOf}
use Rattle.copies.specs.Ring.{get}
use Rattle.receiver.proofs.AdmissionLaws.{sized_ready}
use Rattle.receiver.proofs.ByteLaws.{Source, unasked, own, chunk, CopiesBy, Copies, OnTheWay, step_on, read_on, source_sound, chunk_offset}
use Rattle.receiver.proofs.CaseSteps.{made_takes, begins_at, read_admitted}
use Rattle.receiver.proofs.MadeLaws.{MadeBy, begin_read_made}
use Rattle.receiver.proofs.Made.{Made}
use Rattle.receiver.specs.Call.{over_of, answered_of, begin_read_of, begin_service_of, begin_shutdown_of}
use Rattle.receiver.specs.Cases.{a_want, BeginsRead, Takes, Goes}
use Rattle.receiver.specs.Handed.{sent_by, coming_to}
use Rattle.receiver.specs.Receiver.{none_beside, read_outcome}
use Rattle.states.specs.State.{is_errno}
use Rattle.states.specs.declared.answer.Answer.{Answer}
use Rattle.receiver.specs.declared.call.Call.{Call}
use Rattle.receiver.specs.declared.call.Phase.{Phase}
use Rattle.receiver.specs.declared.call.Phase.TheVariants as phase
use Rattle.receiver.specs.declared.receiver.Came.{Came}
use Rattle.receiver.specs.declared.receiver.Came.TheVariants as came
use Rattle.receiver.specs.declared.receiver.Outcome.{Outcome}
use Rattle.receiver.specs.declared.receiver.ReceiverState.{ReceiverState}
use Rattle.states.specs.declared.state.Failure.TheVariants.{Io, Protocol}
use Rattle.driver.specs.Drive.{fetched_of, driven_of, ended_by, ended_of, Delivery, delivery, delivered_for, delivered_by, delivery_for, delivery_of, end_of_stream_by, end_of_stream_for, end_of_stream_in}
use Rattle.driver.specs.Pending.{sent_in}
use Rattle.driver.specs.Promise.{FetchedAt, there, behind, Uses, Begins, at_data, behind_header, FillsBy, Fills, TurnedTo, ended_stream, stays, Turned, accepted, same_refusal}
use Rattle.driver.specs.Run.{read_of, read_impl_delivery, end_of_stream, read_delivery, FetchLeaves, ServiceLeaves, ShutdownLeaves, ReadImplLeaves, ReadLeaves}
use Rattle.driver.specs.declared.drive.Driven.{Driven}
use Rattle.driver.proofs.Along.{Holds, driven_holds}
use Rattle.driver.proofs.Says.{fetch_says, service_chunk_acknowledgements_says, shutdown_says, read_with_fds_says, read_with_fds_impl_says}
use Rattle.driver.proofs.Used.{driven_uses}
use Rattle.receiver.specs.declared.receiver.Ended.{Ended}
use Rattle.copies.specs.declared.refusal.Refusal.{Refusal}
use Rattle.states.specs.declared.refusal.Refusal as states

-- ---- an answer is fetched from its place
one_further : (a : Answer) (rest : List Answer) (i : ℕ) (r : Option Answer) → FetchedAt rest i r → FetchedAt (a ∷ rest) (suc i) r
one_further a rest i r (there before b after) = there (a ∷ before) b after
one_further a rest i r (behind _ _ l) = behind (a ∷ rest) (suc i) (omega arith)

fetched_at : (answers : List Answer) (i : ℕ) → FetchedAt answers i (fetched_of answers i)
fetched_at [] i = behind [] i (omega arith)
fetched_at (a ∷ rest) zero = there [] a rest
fetched_at (a ∷ rest) (suc i) = one_further a rest i (fetched_of rest i) (fetched_at rest i)

pub fetch_promised : (answers : List Answer) (i : ℕ) (r : Option Answer) → FetchLeaves answers i r → FetchedAt answers i r
fetch_promised answers i r p = rw (fetch_says answers i r p) (fetched_at answers i)

-- ---- how many answers were used
module _ (f g : List Answer → Result Ended states.Refusal) (same : (xs : List Answer) → f xs ≡ g xs) where
  uses_same : (answers : List Answer) (r : Result Ended states.Refusal) → Uses f answers r → Uses g answers r
  uses_same answers (Ok m) h = (h.0, (λ more. sym (same _) ∙ h.1 more), (λ k l. sym (same _) ∙ h.2 k l))
  uses_same answers (Err r) h = tt

uses_driven : (x : Result Call states.Refusal) (ring : List ℕ) (runs : List Answer → Result Ended states.Refusal) → ((xs : List Answer) → ended_of (driven_of x ring xs) ≡ runs xs) → (answers : List Answer) → Uses runs answers (runs answers)
uses_driven x ring runs e answers = uses_same (λ xs. ended_of (driven_of x ring xs)) runs e answers (runs answers) (driven_uses x ring answers (runs answers) (e answers))

uses_turned : (f : List Answer → Result Ended states.Refusal) (answers : List Answer) (r : Result Ended states.Refusal) → Uses f answers r → Uses (λ xs. end_of_stream_in (f xs)) answers (end_of_stream_in r)
uses_turned f answers (Ok m) h = (h.0, (λ more. ap end_of_stream_in (h.1 more)), (λ k l. ap end_of_stream_in (h.2 k l)))
uses_turned f answers (Err r) h = tt

-- what a read delivers is what it answers
delivered_by_lem : (ring dst : List ℕ) (s : RingBufferScheduler) (r : Result Ended states.Refusal) → (delivered_by r s ring dst).answer ≡ r
delivered_by_lem ring dst s (Ok m) = refl
delivered_by_lem ring dst s (Err r) = refl

pub delivered : (ring dst : List ℕ) (d : Driven) → (delivery_of d ring dst).answer ≡ ended_of d
delivered ring dst d = by d.step
  where
    by : (x : Result Call states.Refusal) → (delivery_for x d.used ring dst).answer ≡ ended_of (record { step = x; used = d.used })
    by (Ok c) = delivered_by_lem ring dst c.source (ended_by c.phase c d.used)
    by (Err r) = refl

module _ (q : ReceiverState) (runs : List Answer → Result Ended states.Refusal) where
  pub service_uses : ((xs : List Answer) → ServiceLeaves q xs (runs xs)) → (answers : List Answer) → Uses runs answers (runs answers)
  service_uses h = uses_driven (begin_service_of q) [] runs (λ xs. sym (service_chunk_acknowledgements_says q xs (runs xs) (h xs)))

  pub shutdown_uses : ((xs : List Answer) → ShutdownLeaves q xs (runs xs)) → (answers : List Answer) → Uses runs answers (runs answers)
  shutdown_uses h = uses_driven (begin_shutdown_of q) [] runs (λ xs. sym (shutdown_says q xs (runs xs) (h xs)))

  module _ (ring dst : List ℕ) (top : ℕ) (left : List Answer → List ℕ) where
    abbrev impl : List Answer → Result Ended states.Refusal
    impl xs = ended_of (read_of q ring (length dst) top xs)

    pub read_impl_uses : ((xs : List Answer) → ReadImplLeaves q ring dst top xs (runs xs) (left xs)) → (answers : List Answer) → Uses runs answers (runs answers)
    read_impl_uses h =
        uses_driven (begin_read_of q (length ring) top (length dst)) ring runs (λ xs. sym ((read_with_fds_impl_says q ring dst top xs (runs xs) (left xs) (h xs)).0 ∙ delivered ring dst (read_of q ring (length dst) top xs)))

    pub read_uses : ((xs : List Answer) → ReadLeaves q ring dst top xs (runs xs) (left xs)) → (answers : List Answer) → Uses runs answers (runs answers)
    read_uses h answers =
        let e : (xs : List Answer) → end_of_stream_in (impl xs) ≡ runs xs =
        λ xs. sym ((read_with_fds_says q ring dst top xs (runs xs) (left xs) (h xs)).0 ∙ ap end_of_stream_in (delivered ring dst (read_of q ring (length dst) top xs))) in
        subst (Uses runs answers) (e answers)
        (uses_same (λ xs. end_of_stream_in (impl xs)) runs e answers (end_of_stream_in (impl answers)) (uses_turned impl answers (impl answers) (uses_driven (begin_read_of q (length ring) top (length dst)) ring impl (λ xs. refl) answers)))

-- ---- the bytes of a read
module _ (s : RingBufferScheduler) (sound : IsSound s) (ring dst : List ℕ) where
  -- the bytes that are copied stand where the promise says
  got : (n : ℕ) (u : RingBufferScheduler) → n ≡ min (length dst) (data_in u) → Source (length dst) s u → (at : ℕ) → Begins s at → CellsOf s.buf_len ring at (get u.buf_len ring (offset_in u Read).0 n)
  got n u e (unasked z) at k = λ j l. absurd (omega (arith, e, z, l, (got_cells u.buf_len ring (offset_in u Read).0 n).0))
  got n u e (own z) _ (at_data k) = (got_cells u.buf_len ring (offset_in u Read).0 n).1
  got n u e (own z) _ (behind_header k) = absurd (z k)
  got n u e (chunk z c) _ (at_data k) = absurd (k z)
  got n u e (chunk z c) _ (behind_header k) =
      let at = (offset_in s Read).0 + 8 in
      let b : u.buf_len ≡ s.buf_len = (source_sound (length dst) s sound u (chunk z c)).1 in
      let place : (offset_in u Read).0 % s.buf_len ≡ at % s.buf_len = ap (λ (i : ℕ). i % s.buf_len) (chunk_offset s sound _ u c) ∙ mod-eq_of_lt (mod-lt at sound.sized.some) in
      let same : get u.buf_len ring (offset_in u Read).0 n ≡ get s.buf_len ring at n = ap (λ (l : ℕ). get l ring (offset_in u Read).0 n) b ∙ get_place s.buf_len ring (offset_in u Read).0 at n place in
      subst (CellsOf s.buf_len ring at) (sym same) (got_cells s.buf_len ring at n).1

  -- what the copy leaves
  module _ (sized : length ring ≡ s.buf_len) where
    filled : (o : Came) (u : RingBufferScheduler) → CopiesBy (length dst) s o u → FillsBy s ring dst (delivered_for o u ring dst) o
    filled (came.Read n) u (e, k) =
        let l = source_sound (length dst) s sound u k in
        let bytes = get u.buf_len ring (offset_in u Read).0 n in
        let left : delivered_for (came.Read n) u ring dst ≡ bytes ++ drop n dst =
        ap (λ (x : Result RingBufferScheduler Refusal). (read_from ring dst x).memory) (sized_ready u l.0 (length ring) (sized ∙ sym l.1))
        ∙ ap (λ (m : ℕ). get u.buf_len ring (offset_in u Read).0 m ++ drop m dst) (sym e) in
        let front : take n (bytes ++ drop n dst) ≡ bytes = take_at bytes (drop n dst) n (length_get u.buf_len ring (offset_in u Read).0 n) in
        subst (λ (x : List ℕ). FillsBy s ring dst x (came.Read n)) (sym left) (
          omega (arith, e),
          get_own u.buf_len ring (offset_in u Read).0 n dst (omega (arith, e)),
          (λ at b. subst (CellsOf s.buf_len ring at) (sym front) (got n u e k at b)),
        )
    filled came.Done u h = refl
    filled (came.Failed f) u h = refl

-- of a run: each step keeps which bytes are copied
module _ (q : ReceiverState) (ring : List ℕ) (asked top : ℕ) where
  abbrev On : Call → ℕ → Type 0
  On c n = OnTheWay asked q.scheduler c

  keeps_on : (c : Call) → Made c → over_of c ≡ false → (n : ℕ) → On c n → (a : Answer) (place : ℕ) (d : Call) → answered_of c ring a place ≡ Ok d → On d (n + sent_by a)
  keeps_on c m w n h a place d e = step_on asked q.scheduler c ring a d h c.phase refl (subst (Goes (Takes c ring a)) e (made_takes c m ring a place))

  begun_on : (x : Result Call states.Refusal) → begin_read_of q (length ring) top asked ≡ x → Holds ring On keeps_on x 0
  begun_on (Ok c) e = (subst MadeBy e (begin_read_made q (length ring) top asked), read_on q (a_want top asked) c (subst (Goes (BeginsRead q (a_want top asked))) e (begins_at q (length ring) top asked)))
  begun_on (Err r) e = tt

  read_ran : (answers : List Answer) → Holds ring On keeps_on (read_of q ring asked top answers).step (sent_in (take (read_of q ring asked top answers).used answers))
  read_ran answers = driven_holds ring On keeps_on (begin_read_of q (length ring) top asked) answers (begun_on (begin_read_of q (length ring) top asked) refl)

-- so of what it delivers
module _ (q : ReceiverState) (ring dst : List ℕ) (top : ℕ) where
  abbrev n : ℕ
  n = length dst

  module _ (sound : IsSound q.scheduler) (sized : length ring ≡ q.scheduler.buf_len) where
    fills_by : (c : Call) (i : ℕ) (ph : Phase) → c.phase ≡ ph → OnTheWay n q.scheduler c → Fills q.scheduler ring dst (delivered_by (ended_by ph c i) c.source ring dst).memory (delivered_by (ended_by ph c i) c.source ring dst).answer
    fills_by c i (phase.Receive w) p h = refl
    fills_by c i (phase.Send batch e) p h = refl
    fills_by c i (phase.Shutdown e) p h = refl
    fills_by c i (phase.Finished o) p h = filled q.scheduler sound ring dst sized o.came c.source (subst (λ (x : Phase). Copies n q.scheduler (coming_to x) c.source) p h.copies)

    fills_for : (x : Result Call states.Refusal) (i sent : ℕ) → Holds ring (On q ring n top) (keeps_on q ring n top) x sent → Fills q.scheduler ring dst (delivery_for x i ring dst).memory (delivery_for x i ring dst).answer
    fills_for (Ok c) i sent h = fills_by c i c.phase refl h.1
    fills_for (Err r) i sent h = refl

  fills : (answers : List Answer) → Fills q.scheduler ring dst (read_impl_delivery q ring dst top answers).memory (read_impl_delivery q ring dst top answers).answer
  fills answers = by (begin_read_of q (length ring) top n) refl
    where
      by : (x : Result Call states.Refusal) → begin_read_of q (length ring) top n ≡ x → Fills q.scheduler ring dst (read_impl_delivery q ring dst top answers).memory (read_impl_delivery q ring dst top answers).answer
      by (Ok c) e = let k = read_admitted q (length ring) top n c e in fills_for k.0 k.1 (read_of q ring n top answers).step (read_of q ring n top answers).used _ (read_ran q ring n top answers)
      by (Err r) e = subst (λ (x : Result Call states.Refusal). Fills q.scheduler ring dst (delivery_of (driven_of x ring answers) ring dst).memory (delivery_of (driven_of x ring answers) ring dst).answer) (sym e) refl

  -- the end of the stream fills nothing
  turned_fills : (left : List ℕ) (r : Result Ended states.Refusal) → Fills q.scheduler ring dst left r → Fills q.scheduler ring dst left (end_of_stream_in r)
  turned_fills left (Ok c) h = turned c.outcome.came refl
    where
      turned : (x : Came) → c.outcome.came ≡ x → FillsBy q.scheduler ring dst left (end_of_stream_by x c.outcome).came
      turned (came.Read m) k = h
      turned came.Done k = h
      turned (came.Failed f) k = by (is_errno f 32)
        where
          same : left ≡ dst
          same = subst (FillsBy q.scheduler ring dst left) k h

          by : (b : Bool) → FillsBy q.scheduler ring dst left (cond b (read_outcome 0 none_beside) c.outcome).came
          by true = subst (λ (x : List ℕ). FillsBy q.scheduler ring dst x (came.Read 0)) (sym same) (omega arith, (refl, refl), (λ at k j l. absurd (omega (arith, l))))
          by false = h
  turned_fills left (Err r) h = h

  module _ (answers : List Answer) (r : Result Ended states.Refusal) (left : List ℕ) where
    by_delivery : (d : Delivery) → delivery r left ≡ d → Fills q.scheduler ring dst d.memory d.answer → Fills q.scheduler ring dst left r
    by_delivery d e h = subst (λ (x : Delivery). Fills q.scheduler ring dst x.memory x.answer) (sym e) h

    pub read_impl_fills : ReadImplLeaves q ring dst top answers r left → Fills q.scheduler ring dst left r
    read_impl_fills p = by_delivery (read_impl_delivery q ring dst top answers) p (fills answers)

    pub read_fills : ReadLeaves q ring dst top answers r left → Fills q.scheduler ring dst left r
    read_fills p = by_delivery (read_delivery q ring dst top answers) p (turned_fills (read_impl_delivery q ring dst top answers).memory (read_impl_delivery q ring dst top answers).answer (fills answers))

-- ---- the end of the stream
turned_outcome : (o : Outcome) → TurnedTo o (end_of_stream_for o)
turned_outcome o = by_came o.came refl
  where
    by_errno : (e : ℕ) → o.came ≡ came.Failed (Io e) → (b : Bool) → eqb e 32 ≡ b → TurnedTo o (cond b (read_outcome 0 none_beside) o)
    by_errno e h true k = ended_stream (h ∙ ap (λ (n : ℕ). came.Failed (Io n)) (eqb-true e 32 k))
    by_errno e h false k = stays (λ p. let d : came.Failed (Io e) ≡ came.Failed (Io 32) = sym h ∙ p in eqb-false e 32 k (let n : e ≡ 32 = cc in n))

    by_came : (x : Came) → o.came ≡ x → TurnedTo o (end_of_stream_by x o)
    by_came (came.Read n) h = stays (λ e. let d : came.Read n ≡ came.Failed (Io 32) = sym h ∙ e in cc)
    by_came came.Done h = stays (λ e. let d : came.Done ≡ came.Failed (Io 32) = sym h ∙ e in cc)
    by_came (came.Failed (Protocol v)) h = stays (λ e. let d : came.Failed (Protocol v) ≡ came.Failed (Io 32) = sym h ∙ e in cc)
    by_came (came.Failed (Io e)) h = by_errno e h (eqb e 32) refl

pub turned_answer : (r : Result Ended states.Refusal) → Turned r (end_of_stream_in r)
turned_answer (Ok m) = accepted (turned_outcome m.outcome)
turned_answer (Err r) = same_refusal

module _ (q : ReceiverState) (ring dst : List ℕ) (top : ℕ) (answers : List Answer) (r : Result Ended states.Refusal) (left : List ℕ) (r' : Result Ended states.Refusal) (left' : List ℕ) where
  pub read_turns : ReadImplLeaves q ring dst top answers r left → ReadLeaves q ring dst top answers r' left' → Turned r r' × (left' ≡ left)
  read_turns p p' =
      let e : end_of_stream (delivery r left) ≡ delivery r' left' = ap end_of_stream p ∙ sym p' in (
        subst (Turned r) (ap (λ (d : Delivery). d.answer) e) (turned_answer r),
        sym (ap (λ (d : Delivery). d.memory) e),
      )
