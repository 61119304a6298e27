-- What the pieces of a copy come to: one part before the ring's end, or two round it, are `put` and `get`; and what the scheduler's
-- answer says of the tests.
use Rattle.std.proofs.Common.{Result, Ok, Err}
use Rattle.std.proofs.lemmas.List.{take-append-drop}
use Prim.Native.Nat.{ℕ, zero, suc, ◌+◌, ◌-◌, ◌%◌, ◌≤◌, ◌<◌, min}
use mathlib.Core.Path.{◌≡◌, refl, sym, ap, ◌∙◌}
use mathlib.Core.Logic.{◌≢◌}
use mathlib.Core.List.{List, [], ◌∷◌, ◌++◌}
use native.Mathlib.Nat.{mod_self, zero-mod, zero-add}
use native.Mathlib.Omega.{arith}
use borrow.Author.Tests.{eq-eqb, ne_eqb}
use lib.ListN.{length, take, drop, length-drop}
use lib.Seq.{length-take-le, drop-drop}
use Rattle.operations.specs.declared.operation.OperationType.{OperationType}
use Rattle.operations.specs.declared.operation.OperationType.TheVariants.{Read, Write}
use Rattle.operations.specs.declared.refusal.Refusal as sched
use Rattle.sched.specs.declared.register.Move.{Move}
use Rattle.sched.specs.declared.scheduler.RingBufferScheduler.{RingBufferScheduler}
use Rattle.sched.specs.Scheduler.{move_of}
use Rattle.sched.proofs.Laws.{sound_is, offset_lt, greatest_most}
use Rattle.sched.proofs.RegisterLaws.{move_of_lem, move_refused}
use Rattle.copies.specs.declared.refusal.Refusal.TheVariants.{Scheduler, RingMemory}
use Rattle.copies.specs.Ring.{put, get}
use Rattle.copies.specs.Copies.{pasted, ready_from, ready_of, moved_by, left, write_of, read_of}
use Rattle.copies.proofs.Ring.{put_place, put_append, put_ahead, get_place, get_append, get_ahead, length_put}

-- ---- bytes that are cut in two where a ring of l places ends: x before its end, y from its start on
put_start : (l : ℕ) (ring : List ℕ) (a : ℕ) (bs : List ℕ) → (0 < length bs → a % l ≡ 0 % l) → put l ring a bs ≡ put l ring 0 bs
put_start l ring a [] h = refl
put_start l ring a (b ∷ bs) h = put_place l ring a 0 (b ∷ bs) (h (omega arith))

get_start : (l : ℕ) (ring : List ℕ) (a n : ℕ) → (0 < n → a % l ≡ 0 % l) → get l ring a n ≡ get l ring 0 n
get_start l ring a zero h = refl
get_start l ring a (suc n) h = get_place l ring a 0 (suc n) (h (omega arith))

at_end : (l a : ℕ) → a ≡ l → a % l ≡ 0 % l
at_end l a e = ap (λ (i : ℕ). i % l) e ∙ mod_self l ∙ sym (zero-mod l)

module _ (ring : List ℕ) (at k : ℕ) (inside : at < length ring) where
  abbrev l : ℕ
  l = length ring

  pub put_parts : (src x y : List ℕ) (n : ℕ) → length src ≤ l → k ≡ min (length src) (l - at) → x ≡ take k src → y ≡ drop k src → n ≡ length x →
      y ++ drop (length y) (take at ring ++ (x ++ drop n (drop at ring))) ≡ put l ring at src
  put_parts src x y n most is ex ey en =
      let lx : length x ≡ k = ap length ex ∙ length-take-le k src (omega arith) in
      let ly : length y ≡ length src - k = ap length ey ∙ length-drop k src in
      let ahead : put l ring at x ≡ pasted ring at x = put_ahead l ring at x refl (omega arith) in
      let le : length (put l ring at x) ≡ l = length_put l ring at x in
      let round : put l (put l ring at x) (at + length x) y ≡ pasted (put l ring at x) 0 y =
      put_start l (put l ring at x) (at + length x) y (λ h. at_end l (at + length x) (omega arith)) ∙ put_ahead l (put l ring at x) 0 y le (omega arith) in
      let split : x ++ y ≡ src = rw (ex, ey) (take-append-drop k src) in
      let whole : put l ring at src ≡ put l (put l ring at x) (at + length x) y = ap (put l ring at) (sym split) ∙ put_append l ring at x y in
      let one : pasted ring at x ≡ take at ring ++ (x ++ drop n (drop at ring)) = rw (en, drop-drop) in
      sym (whole ∙ round ∙ rw (ahead, one, zero-add))

  -- and where all of it is ahead
  pub put_part : (src x y : List ℕ) (n : ℕ) → length src ≤ l → k ≡ min (length src) (l - at) → x ≡ take k src → y ≡ drop k src → n ≡ length x → length y ≡ 0 →
      take at ring ++ (x ++ drop n (drop at ring)) ≡ put l ring at src
  put_part src x [] n most is ex ey en e = put_parts src x [] n most is ex ey en
  put_part src x (b ∷ bs) n most is ex ey en e = absurd (omega arith)

  pub get_parts : (n : ℕ) (x y : List ℕ) → n ≤ l → k ≡ min n (l - at) → x ≡ take k (drop at ring) → y ≡ take (n - k) ring → x ++ y ≡ get l ring at n
  get_parts n x y most is ex ey =
      let ahead : get l ring at k ≡ take k (drop at ring) = get_ahead l ring at k refl (omega arith) in
      let round : get l ring (at + k) (n - k) ≡ take (n - k) ring =
      get_start l ring (at + k) (n - k) (λ h. at_end l (at + k) (omega arith)) ∙ get_ahead l ring 0 (n - k) refl (omega arith) in
      let e : k + (n - k) ≡ n = omega arith in
      rw (ex, ey, ← ahead, ← round) (sym (get_append l ring at k (n - k)) ∙ ap (get l ring at) e)

  pub get_part : (n : ℕ) (x y : List ℕ) → n ≤ l → k ≡ min n (l - at) → x ≡ take k (drop at ring) → length y + k ≡ n → length y ≡ 0 → x ++ y ≡ get l ring at n
  get_part n x [] most is ex en e = get_parts n x [] most is ex (let z : n - k ≡ 0 = omega arith in rw z)
  get_part n x (b ∷ bs) most is ex en e = absurd (omega arith)

-- ---- the tests, by what the move answered
module _ (s : RingBufferScheduler) (t : OperationType) (m n : ℕ) where
  pub refused_by_record : (e : sched.Refusal) → Err e ≡ move_of s t m → ready_of s n ≡ Err (Scheduler e)
  unfolding ready_from
  refused_by_record e p = ap (ready_from n) (move_refused s t m e p)

  module _ (v : Move) (p : Ok v ≡ move_of s t m) where
    pub refused_by_memory : n ≢ s.buf_len → ready_of s n ≡ Err RingMemory
    unfolding ready_from
    refused_by_memory d = rw (← sound_is s (move_of_lem s t m v p).0, ne_eqb n s.buf_len d)

    pub passed : n ≡ s.buf_len → ready_of s n ≡ Ok s
    unfolding ready_from
    passed e = rw (← sound_is s (move_of_lem s t m v p).0, eq-eqb n s.buf_len e)

    -- it lies in ring memory of the right length, and is no longer than what is asked
    pub move_fits : n ≡ s.buf_len → (v.off.0 < n) × (v.portion.len ≤ n) × (v.portion.len ≤ m)
    move_fits e =
        let k = move_of_lem s t m v p in
        rw (k.1, e) (offset_lt s k.0 t, omega (arith, greatest_most s k.0 t), omega arith)

-- ---- what the two copies come to, where the memory has the right length
module _ (s : RingBufferScheduler) (ring bytes : List ℕ) (right : length ring ≡ s.buf_len) (v : Move) where
  pub written : Ok v ≡ move_of s Write (length bytes) → left (moved_by v) (put (length ring) ring v.off.0 (take v.portion.len bytes)) ≡ write_of s ring bytes
  written p = rw (passed s Write (length bytes) (length ring) v p right, right, (move_of_lem s Write (length bytes) v p).1)

  pub got : Ok v ≡ move_of s Read (length bytes) → left (moved_by v) (get (length ring) ring v.off.0 v.portion.len ++ drop v.portion.len bytes) ≡ read_of s ring bytes
  got p = rw (passed s Read (length bytes) (length ring) v p right, right, (move_of_lem s Read (length bytes) v p).1)

-- what `write` and `read`, and what `put_round` and `get_round`, are proved by
pub ruleset copy_laws = (length-take-le, refused_by_record, refused_by_memory, move_fits, written, got)

pub ruleset round_laws = (put_parts, put_part, get_parts, get_part)
