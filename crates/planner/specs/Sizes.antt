-- The sizes of an image and the length L of a ring: which are refused before any plan is looked at.
use Rattle.std.specs.Prelude.{ℕ, ◌^◌, Bool, false, cond, eqb, ltb, leb, Result, Ok, Err, ⊤}
use Rattle.sched.specs.Chunk.{body_fits}
use Rattle.sched.specs.Scheduler.{scheduler_of, sound_of}
use Rattle.planner.specs.declared.refusal.Refusal.TheVariants.{Scheduler, SizeOutOfBounds, NoPlan}
use Rattle.sched.specs.declared.scheduler.RingBufferScheduler.{RingBufferScheduler}
use Rattle.planner.specs.declared.refusal.Refusal as planner
use Rattle.operations.specs.declared.refusal.Refusal.{Refusal}

-- 1 to 65535 rows, 1 to 2^20 bytes a row
unfoldable pub in_bounds : ℕ → ℕ → Bool
in_bounds rows bytes = cond (eqb rows 0) false (cond (ltb 65535 rows) false (cond (eqb bytes 0) false (leb bytes (2 ^ 20))))

-- 14, then 15: not even one row goes into the ring with its header
unfoldable pub sizes_in : ℕ → ℕ → ℕ → Result ⊤ planner.Refusal
sizes_in rows bytes L =
    cond (in_bounds rows bytes) (cond (body_fits L bytes) (Ok tt) (Err (NoPlan bytes L))) (Err (SizeOutOfBounds rows bytes))

abbrev pub sizes_from : ℕ → ℕ → ℕ → Result RingBufferScheduler Refusal → Result ⊤ planner.Refusal
sizes_from rows bytes L (Ok s) = sizes_in rows bytes L
sizes_from rows bytes L (Err e) = Err (Scheduler e)

-- whether it passed, or why not
abbrev pub passed : {A : Type 0} → Result A planner.Refusal → Result ⊤ planner.Refusal
passed (Ok x) = Ok tt
passed (Err e) = Err e

-- 1 and 2 come first
abbrev pub sizes_of : ℕ → ℕ → ℕ → Result ⊤ planner.Refusal
sizes_of rows bytes L = sizes_from rows bytes L (sound_of (scheduler_of L (record { 0 = 0 }) (record { 0 = 0 })))
