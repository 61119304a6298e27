-- The held fill, of the ends' calls: the record of an end that an accepted call answers passes every test, 20 among them.
use Rattle.std.proofs.Common.{Result, Ok, Err}
use mathlib.Core.Path.{◌≡◌, subst, sym, refl}
use mathlib.Core.List.{List}
use Prim.Native.Nat.{ℕ}
use Rattle.modular.proofs.Saying.{Keeps}
use Rattle.sched.specs.Given.{Passes}
use Rattle.sched.specs.Promise.{Taken}
use Rattle.sched.proofs.Counting.{taken_sound}
use Rattle.sched.proofs.PromisedFill.{passes}
use Rattle.copies.proofs.Promised.{KeepsLeft, Checks, checks}
use Rattle.copies.proofs.Promised as copy
use Rattle.copies.proofs.PromisedFill.{writes_hold, reads_hold}
use Rattle.ends.specs.Ends.{writing_end_from, reading_end_from}
use Rattle.ends.specs.Promises.{EndWrites, EndReads}
use Rattle.ends.specs.declared.writing_end.WritingEnd.{WritingEnd}
use Rattle.ends.specs.declared.reading_end.ReadingEnd.{ReadingEnd}
use Rattle.ends.proofs.Promised.{WritingEnd-new-promised, WritingEnd-from-counters-promised, WritingEnd-write-promised, WritingEnd-take-promised, ReadingEnd-new-promised, ReadingEnd-from-counters-promised, ReadingEnd-read-promised, ReadingEnd-take-promised}
use Rattle.ends.proofs.Says.{WritingEnd-from-scheduler-says, ReadingEnd-from-scheduler-says}
use Rattle.ends.proofs.writing_end.WritingEnd.new.Kinds as new_w_kinds
use Rattle.ends.proofs.writing_end.WritingEnd.new.Reads as new_w
use Rattle.ends.proofs.writing_end.WritingEnd.from_counters.Kinds as counters_w_kinds
use Rattle.ends.proofs.writing_end.WritingEnd.from_counters.Reads as counters_w
use Rattle.ends.proofs.writing_end.WritingEnd.from_scheduler.Kinds as scheduler_w_kinds
use Rattle.ends.proofs.writing_end.WritingEnd.from_scheduler.Reads as scheduler_w
use Rattle.ends.proofs.writing_end.WritingEnd.write.Kinds as write_kinds
use Rattle.ends.proofs.writing_end.WritingEnd.write.Reads as write
use Rattle.ends.proofs.writing_end.WritingEnd.take.Kinds as take_w_kinds
use Rattle.ends.proofs.writing_end.WritingEnd.take.Reads as take_w
use Rattle.ends.proofs.reading_end.ReadingEnd.new.Kinds as new_r_kinds
use Rattle.ends.proofs.reading_end.ReadingEnd.new.Reads as new_r
use Rattle.ends.proofs.reading_end.ReadingEnd.from_counters.Kinds as counters_r_kinds
use Rattle.ends.proofs.reading_end.ReadingEnd.from_counters.Reads as counters_r
use Rattle.ends.proofs.reading_end.ReadingEnd.from_scheduler.Kinds as scheduler_r_kinds
use Rattle.ends.proofs.reading_end.ReadingEnd.from_scheduler.Reads as scheduler_r
use Rattle.ends.proofs.reading_end.ReadingEnd.read.Kinds as read_kinds
use Rattle.ends.proofs.reading_end.ReadingEnd.read.Reads as read
use Rattle.ends.proofs.reading_end.ReadingEnd.take.Kinds as take_r_kinds
use Rattle.ends.proofs.reading_end.ReadingEnd.take.Reads as take_r
use Rattle.ends.specs.declared.reading_end.Got.{Got}
use Rattle.sched.specs.declared.scheduler.RingBufferScheduler.{RingBufferScheduler}
use Rattle.ends.specs.declared.writing_end.Wrote.{Wrote}
use Rattle.ends.specs.declared.refusal.Refusal as ends
use Rattle.operations.specs.declared.refusal.Refusal.{Refusal}

abbrev pub HoldingW : Result WritingEnd ends.Refusal → Type 0
HoldingW (Ok e) = Passes e.scheduler
HoldingW (Err r) = Unit {0}

abbrev pub HoldingR : Result ReadingEnd ends.Refusal → Type 0
HoldingR (Ok e) = Passes e.scheduler
HoldingR (Err r) = Unit {0}

abbrev pub WroteHolding : Result Wrote ends.Refusal → Type 0
WroteHolding (Ok m) = Passes m.end.scheduler
WroteHolding (Err r) = Unit {0}

abbrev pub GotHolding : Result Got ends.Refusal → Type 0
GotHolding (Ok m) = Passes m.end.scheduler
GotHolding (Err r) = Unit {0}

-- ---- from what is promised of them
holds_W : (z : Result WritingEnd ends.Refusal) → ((e : WritingEnd) → z ≡ Ok e → Taken e.scheduler) → HoldingW z
holds_W (Ok e) h = passes e.scheduler (taken_sound e.scheduler (h e refl))
holds_W (Err r) h = tt

holds_R : (z : Result ReadingEnd ends.Refusal) → ((e : ReadingEnd) → z ≡ Ok e → Taken e.scheduler) → HoldingR z
holds_R (Ok e) h = passes e.scheduler (taken_sound e.scheduler (h e refl))
holds_R (Err r) h = tt

wrote_holds : (e : WritingEnd) (ring src : List ℕ) (z : Result Wrote ends.Refusal) (memory : List ℕ) → EndWrites e ring src z memory → WroteHolding z
wrote_holds e ring src (Ok m) memory w = writes_hold e.scheduler ring src (Ok m.portion) m.end.scheduler memory w
wrote_holds e ring src (Err r) memory w = tt

got_holds : (e : ReadingEnd) (ring dst : List ℕ) (z : Result Got ends.Refusal) (memory : List ℕ) → EndReads e ring dst z memory → GotHolding z
got_holds e ring dst (Ok m) memory w = reads_hold e.scheduler ring dst (Ok m.portion) m.end.scheduler memory w
got_holds e ring dst (Err r) memory w = tt

-- ---- made
pub WritingEnd-new-passes : Keeps 0 new_w_kinds.ps new_w_kinds.r new_w.Learnt (λ κs a z. HoldingW z)
WritingEnd-new-passes κs a z p = holds_W z (λ e q. ((WritingEnd-new-promised κs a z p).1 e q).taken)

pub WritingEnd-from-counters-passes : Keeps 0 counters_w_kinds.ps counters_w_kinds.r counters_w.Learnt (λ κs a z. HoldingW z)
WritingEnd-from-counters-passes κs a z p = holds_W z (λ e q. ((WritingEnd-from-counters-promised κs a z p).1 e q).taken)

pub WritingEnd-from-scheduler-passes : Keeps 0 scheduler_w_kinds.ps scheduler_w_kinds.r scheduler_w.Learnt (λ κs a z. HoldingW z)
WritingEnd-from-scheduler-passes κs a z p = subst HoldingW (sym (WritingEnd-from-scheduler-says κs a z p.0 p.1)) (by _ (checks a.0))
  where
    by : (c : Result RingBufferScheduler Refusal) → Checks a.0 c → HoldingW (writing_end_from c)
    by c (copy.passes h) = passes a.0 h
    by c (copy.fails r q) = tt

pub ReadingEnd-new-passes : Keeps 0 new_r_kinds.ps new_r_kinds.r new_r.Learnt (λ κs a z. HoldingR z)
ReadingEnd-new-passes κs a z p = holds_R z (λ e q. ((ReadingEnd-new-promised κs a z p).1 e q).taken)

pub ReadingEnd-from-counters-passes : Keeps 0 counters_r_kinds.ps counters_r_kinds.r counters_r.Learnt (λ κs a z. HoldingR z)
ReadingEnd-from-counters-passes κs a z p = holds_R z (λ e q. ((ReadingEnd-from-counters-promised κs a z p).1 e q).taken)

pub ReadingEnd-from-scheduler-passes : Keeps 0 scheduler_r_kinds.ps scheduler_r_kinds.r scheduler_r.Learnt (λ κs a z. HoldingR z)
ReadingEnd-from-scheduler-passes κs a z p = subst HoldingR (sym (ReadingEnd-from-scheduler-says κs a z p.0 p.1)) (by _ (checks a.0))
  where
    by : (c : Result RingBufferScheduler Refusal) → Checks a.0 c → HoldingR (reading_end_from c)
    by c (copy.passes h) = passes a.0 h
    by c (copy.fails r q) = tt

-- ---- copies
pub WritingEnd-write-passes : KeepsLeft 2 write_kinds.ps write_kinds.r write.Learnt (λ κs a z ws. WroteHolding z)
WritingEnd-write-passes κs a z ws p = wrote_holds a.0 a.1.0.now a.1.1.0.now z ws.1.0 (WritingEnd-write-promised κs a z ws p).1

pub ReadingEnd-read-passes : KeepsLeft 2 read_kinds.ps read_kinds.r read.Learnt (λ κs a z ws. GotHolding z)
ReadingEnd-read-passes κs a z ws p = got_holds a.0 a.1.0.now a.1.1.0.now z ws.1.1.0 (ReadingEnd-read-promised κs a z ws p).1

-- ---- taking
pub WritingEnd-take-passes : Keeps 0 take_w_kinds.ps take_w_kinds.r take_w.Learnt (λ κs a z. HoldingW z)
WritingEnd-take-passes κs a z p = holds_W z (λ e q. ((WritingEnd-take-promised κs a z p).1 e q).taken)

pub ReadingEnd-take-passes : Keeps 0 take_r_kinds.ps take_r_kinds.r take_r.Learnt (λ κs a z. HoldingR z)
ReadingEnd-take-passes κs a z p = holds_R z (λ e q. ((ReadingEnd-take-promised κs a z p).1 e q).taken)
