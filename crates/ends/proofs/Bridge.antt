-- Demand 3 is about the calls: of any six functions whose outcomes the attached contracts allow, and in the statement no
-- definition of a call is named. The bridge is six lines: whatever such a contract allows is what `plain` does.
use Rattle.std.proofs.Common.{Result}
use Prim.Native.Nat.{ℕ}
use mathlib.Core.Path.{◌≡◌, refl, sym, subst}
use mathlib.Core.List.{List, []}
use contract.Lifetimes.{Lfts}
use denote.Bor.{Bor}
use denote.MutBor.{MutBor}
use denote.Triple.Clauses.{at_exit}
use borrow.Fn.Kinds.{ended_of}
use Rattle.ends.specs.declared.writing_end.WrittenCounter.{WrittenCounter}
use Rattle.ends.specs.declared.writing_end.WritingEnd.{WritingEnd}
use Rattle.ends.specs.declared.reading_end.ReadCounter.{ReadCounter}
use Rattle.ends.specs.declared.reading_end.ReadingEnd.{ReadingEnd}
use Rattle.ends.specs.Ends.{WroteLeft, GotLeft}
use Rattle.ends.specs.Plain.{Calls, definitions, Demand3-of}
use Rattle.ends.proofs.Plain.{demand3_plain}
use Rattle.ends.proofs.writing_end.WritingEnd.write.Kinds as write_kinds
use Rattle.ends.proofs.writing_end.WritingEnd.write.Reads as write
use Rattle.ends.proofs.reading_end.ReadingEnd.read.Kinds as read_kinds
use Rattle.ends.proofs.reading_end.ReadingEnd.read.Reads as read
use Rattle.ends.proofs.writing_end.WritingEnd.send.Kinds as send_w_kinds
use Rattle.ends.proofs.writing_end.WritingEnd.send.Reads as send_w
use Rattle.ends.proofs.reading_end.ReadingEnd.send.Kinds as send_r_kinds
use Rattle.ends.proofs.reading_end.ReadingEnd.send.Reads as send_r
use Rattle.ends.proofs.writing_end.WritingEnd.take.Kinds as take_w_kinds
use Rattle.ends.proofs.writing_end.WritingEnd.take.Reads as take_w
use Rattle.ends.proofs.reading_end.ReadingEnd.take.Kinds as take_r_kinds
use Rattle.ends.proofs.reading_end.ReadingEnd.take.Reads as take_r
use Rattle.ends.specs.declared.refusal.Refusal.{Refusal}

-- ---- the outcomes that the attached contracts allow on these values, wherever the memory is that is lent
abbrev Address : Type 0
Address = ℕ × ℕ

abbrev Place : Type 0
Place = Address × ℕ

abbrev lent : Place → List ℕ → MutBor (List ℕ)
lent at bytes = record { ref_ptr = at.0; ghost_name = at.1; now = bytes }

abbrev shown : Address → List ℕ → Bor (List ℕ)
shown at bytes = record { ref_ptr = at; now = bytes }

abbrev pub MayWrite : WritingEnd → List ℕ → List ℕ → WroteLeft → Type 0
MayWrite e ring src x =
    (κs : Lfts 2) × (p : Place) × (q : Address) ×
    write.Learnt κs (e, (lent p ring, (shown q src, tt))) x.answer
    (at_exit (ended_of 2 write_kinds.ps write_kinds.r) κs (e, (lent p ring, (shown q src, tt))) (tt, (x.memory, (tt, tt))))

abbrev pub MayRead : ReadingEnd → List ℕ → List ℕ → GotLeft → Type 0
MayRead e ring dst x =
    (κs : Lfts 2) × (p : Address) × (q : Place) ×
    read.Learnt κs (e, (shown p ring, (lent q dst, tt))) x.answer
    (at_exit (ended_of 2 read_kinds.ps read_kinds.r) κs (e, (shown p ring, (lent q dst, tt))) (tt, (tt, (x.memory, tt))))

abbrev pub MaySendW : WritingEnd → Result WrittenCounter Refusal → Type 0
MaySendW e z = send_w.Learnt tt (e, tt) z (at_exit (ended_of 0 send_w_kinds.ps send_w_kinds.r) tt (e, tt) (tt, tt))

abbrev pub MaySendR : ReadingEnd → Result ReadCounter Refusal → Type 0
MaySendR e z = send_r.Learnt tt (e, tt) z (at_exit (ended_of 0 send_r_kinds.ps send_r_kinds.r) tt (e, tt) (tt, tt))

abbrev pub MayTakeW : WritingEnd → ReadCounter → Result WritingEnd Refusal → Type 0
MayTakeW e n z = take_w.Learnt tt (e, (n, tt)) z (at_exit (ended_of 0 take_w_kinds.ps take_w_kinds.r) tt (e, (n, tt)) (tt, (tt, tt)))

abbrev pub MayTakeR : ReadingEnd → WrittenCounter → Result ReadingEnd Refusal → Type 0
MayTakeR e n z = take_r.Learnt tt (e, (n, tt)) z (at_exit (ended_of 0 take_r_kinds.ps take_r_kinds.r) tt (e, (n, tt)) (tt, (tt, tt)))

pub record Allowed (c : Calls) : Type 0 where
  pub write : (e : WritingEnd) (ring src : List ℕ) → MayWrite e ring src (c.write e ring src)
  pub read : (e : ReadingEnd) (ring dst : List ℕ) → MayRead e ring dst (c.read e ring dst)
  pub send_w : (e : WritingEnd) → MaySendW e (c.send_w e)
  pub send_r : (e : ReadingEnd) → MaySendR e (c.send_r e)
  pub take_w : (e : WritingEnd) (n : ReadCounter) → MayTakeW e n (c.take_w e n)
  pub take_r : (e : ReadingEnd) (n : WrittenCounter) → MayTakeR e n (c.take_r e n)

-- ---- the bridge
pub write_is : (e : WritingEnd) (ring src : List ℕ) (x : WroteLeft) → MayWrite e ring src x → x ≡ definitions.write e ring src
write_is e ring src x (κs, p, q, may) = may

pub read_is : (e : ReadingEnd) (ring dst : List ℕ) (x : GotLeft) → MayRead e ring dst x → x ≡ definitions.read e ring dst
read_is e ring dst x (κs, p, q, may) = may

pub send_w_is : (e : WritingEnd) (z : Result WrittenCounter Refusal) → MaySendW e z → z ≡ definitions.send_w e
send_w_is e z may = may

pub send_r_is : (e : ReadingEnd) (z : Result ReadCounter Refusal) → MaySendR e z → z ≡ definitions.send_r e
send_r_is e z may = may

pub take_w_is : (e : WritingEnd) (n : ReadCounter) (z : Result WritingEnd Refusal) → MayTakeW e n z → z ≡ definitions.take_w e n
take_w_is e n z may = may

pub take_r_is : (e : ReadingEnd) (n : WrittenCounter) (z : Result ReadingEnd Refusal) → MayTakeR e n z → z ≡ definitions.take_r e n
take_r_is e n z may = may

calls_are : (c : Calls) → Allowed c → definitions ≡ c
calls_are c may i =
    record {
      write = λ e ring src. sym (write_is e ring src (c.write e ring src) (may.write e ring src)) i;
      read = λ e ring dst. sym (read_is e ring dst (c.read e ring dst) (may.read e ring dst)) i;
      send_w = λ e. sym (send_w_is e (c.send_w e) (may.send_w e)) i;
      send_r = λ e. sym (send_r_is e (c.send_r e) (may.send_r e)) i;
      take_w = λ e n. sym (take_w_is e n (c.take_w e n) (may.take_w e n)) i;
      take_r = λ e n. sym (take_r_is e n (c.take_r e n) (may.take_r e n)) i;
    }

-- ---- every run of such calls keeps the promise
pub demand3_of_calls : (c : Calls) → Allowed c → Demand3-of c
demand3_of_calls c may = subst Demand3-of (calls_are c may) demand3_plain

-- and there are such calls
pub some_calls : Allowed definitions
some_calls =
    record {
      write = λ e ring src. (([], ([], tt)), ((0, 0), 0), (0, 0), refl);
      read = λ e ring dst. (([], ([], tt)), (0, 0), ((0, 0), 0), refl);
      send_w = λ e. refl;
      send_r = λ e. refl;
      take_w = λ e n. refl;
      take_r = λ e n. refl;
    }
