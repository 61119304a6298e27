-- An export is thin: whatever its attached contract allows is the flat form of whatever the attached contract of the library's call of
-- the same name allows, on what the host's numbers stand for. So what that call promises, the export promises; and an export of
-- another call is refused, though its contract, its line of Says*.antt and its definition say so too.
-- The ends' copies are in Hosted.antt, with the memory.
use Rattle.std.proofs.Common.{Result, Ok, Err}
use Prim.Native.Nat.{ℕ, suc}
use mathlib.Core.Path.{◌≡◌, refl, sym, ap, ◌∙◌}
use mathlib.Core.List.{List}
use contract.Lifetimes.{Lfts}
use borrow.Fn.Kinds.{ParamKind, ResultKind, Out, Dens, res_t}
use Rattle.modular.specs.Modulus.{sub_mod}
use Rattle.modular.proofs.Saying.{Allows, Keeps}
use Rattle.sched.specs.Scheduler.{scheduler_of, counted_of, sound_of}
use Rattle.operations.specs.declared.refusal.Refusal.TheVariants.{BufferTooLarge}
use Rattle.sched.specs.declared.scheduler.RingBufferScheduler.{RingBufferScheduler}
use Rattle.copies.specs.Copies.{Left}
use Rattle.copies.proofs.read.Kinds as lib_read_kinds
use Rattle.copies.proofs.read.Reads as lib_read
use Rattle.copies.proofs.write.Kinds as lib_write_kinds
use Rattle.copies.proofs.write.Reads as lib_write
use Rattle.driver.specs.Drive.{Delivery, delivery}
use Rattle.states.specs.declared.answer.Answer.{Answer}
use Rattle.driver.specs.Run.{ServiceLeaves, ShutdownLeaves, ReadImplLeaves, ReadLeaves}
use Rattle.flat.specs.Copy.{CopyAnswerLeft, flat_copied}
use Rattle.flat.specs.Receiver.{receiver_at, flat_ended}
use Rattle.stripring.specs.Run.{EndedAnswerLeft, ended_answer_left, flat_delivery, FlatServiceLeaves, FlatShutdownLeaves, FlatReadImplLeaves, FlatReadLeaves}
use Rattle.flat.specs.Scheduler.{scheduler_at}
use Rattle.flat.specs.declared.structs.EndedAnswer.{EndedAnswer}
use Rattle.flat.specs.declared.structs.Receiver.{Receiver}
use Rattle.stripring.proofs.copy.stripring_copies_read.Kinds as copies_read_kinds
use Rattle.stripring.proofs.copy.stripring_copies_read.Reads as copies_read
use Rattle.stripring.proofs.copy.stripring_copies_write.Kinds as copies_write_kinds
use Rattle.stripring.proofs.copy.stripring_copies_write.Reads as copies_write
use Rattle.stripring.proofs.scheduler.stripring_scheduler_max_buf_len.Kinds as max_buf_len_kinds
use Rattle.stripring.proofs.scheduler.stripring_scheduler_max_buf_len.Reads as max_buf_len_lem
use Rattle.receiver.specs.declared.receiver.Ended.{Ended}
use Rattle.states.specs.declared.refusal.Refusal.{Refusal}

-- `at` is what the arguments stand for, `flat` the form in which an answer goes out
abbrev pub Thin :
    (n : ℕ) (ps : List (ParamKind n)) (r : ResultKind n) → Out n ps r → (qs : List (ParamKind n)) (s : ResultKind n) → Out n qs s →
    ((κs : Lfts n) → Dens κs ps → Dens κs qs) → ((κs : Lfts n) → (res_t s κs).Denot → (res_t r κs).Denot) → Type 0
Thin n ps r L qs s M at flat =
    (κs : Lfts n) (a : Dens κs ps) (z : (res_t r κs).Denot) → Allows n ps r L κs a z →
    (x : (res_t s κs).Denot) → Allows n qs s M κs (at κs a) x → z ≡ flat κs x

-- ---- copies: the answer; the memory is in SaysEnds.antt
pub copies_write_thin : Thin 2 copies_write_kinds.ps copies_write_kinds.r copies_write.Learnt lib_write_kinds.ps lib_write_kinds.r lib_write.Learnt (λ κs a. (scheduler_at a.0, (a.1.0, (a.1.1.0, tt)))) (λ κs x. flat_copied x)
copies_write_thin κs a z (ws, p) x (us, q) = ap (λ (y : CopyAnswerLeft). y.answer) p ∙ ap (λ (y : Left). flat_copied y.answer) (sym q)

pub copies_read_thin : Thin 2 copies_read_kinds.ps copies_read_kinds.r copies_read.Learnt lib_read_kinds.ps lib_read_kinds.r lib_read.Learnt (λ κs a. (scheduler_at a.0, (a.1.0, (a.1.1.0, tt)))) (λ κs x. flat_copied x)
copies_read_thin κs a z (ws, p) x (us, q) = ap (λ (y : CopyAnswerLeft). y.answer) p ∙ ap (λ (y : Left). flat_copied y.answer) (sym q)

-- ---- the calls over a lent run, by the predicates that they and the driver's calls cite
module _ (r : Receiver) (answers : List Answer) (z : EndedAnswer) (x : Result Ended Refusal) where
  pub service_thin : FlatServiceLeaves r answers z → ServiceLeaves (receiver_at r) answers x → z ≡ flat_ended x
  service_thin p q = p ∙ ap flat_ended (sym q)

  pub shutdown_thin : FlatShutdownLeaves r answers z → ShutdownLeaves (receiver_at r) answers x → z ≡ flat_ended x
  shutdown_thin p q = p ∙ ap flat_ended (sym q)

module _ (r : Receiver) (ring dst : List ℕ) (top : ℕ) (answers : List Answer) (z : EndedAnswer) (left : List ℕ) (x : Result Ended Refusal) (lent : List ℕ) where
  both : (d : Delivery) → ended_answer_left z left ≡ flat_delivery d → delivery x lent ≡ d → (z ≡ flat_ended x) × (left ≡ lent)
  both d p q =
      let e : ended_answer_left z left ≡ flat_delivery (delivery x lent) = p ∙ ap flat_delivery (sym q) in
      (ap (λ (y : EndedAnswerLeft). y.answer) e, ap (λ (y : EndedAnswerLeft). y.memory) e)

  pub read_thin : FlatReadLeaves r ring dst top answers z left → ReadLeaves (receiver_at r) ring dst top answers x lent → (z ≡ flat_ended x) × (left ≡ lent)
  read_thin p q = both _ p q

  pub read_impl_thin : FlatReadImplLeaves r ring dst top answers z left → ReadImplLeaves (receiver_at r) ring dst top answers x lent → (z ≡ flat_ended x) × (left ≡ lent)
  read_impl_thin p q = both _ p q

abbrev empty : ℕ → RingBufferScheduler
empty n = scheduler_of n (record { 0 = 0 }) (record { 0 = 0 })

-- ---- the one export without a call of its own: the greatest length that is taken
pub max_buf_len_greatest : Keeps 0 max_buf_len_kinds.ps max_buf_len_kinds.r max_buf_len_lem.Learnt
    (λ κs a z. (sound_of (empty z) ≡ Ok (empty z)) × (sound_of (empty (suc z)) ≡ Err (BufferTooLarge (suc z))))
unfolding counted_of sound_of sub_mod
max_buf_len_greatest κs a z (ws, p) = rw p (refl, refl)
