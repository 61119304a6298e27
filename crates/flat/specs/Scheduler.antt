-- What a host's scheduler stands for, and the flat forms of the answers that are one.
use Rattle.std.specs.Prelude.{ℕ, ◌^◌, Result, Ok, Err}
use Rattle.sched.specs.declared.scheduler.RingBufferScheduler.{RingBufferScheduler}
use Rattle.sched.specs.Scheduler.{record_of}
use Rattle.flat.specs.declared.structs.Scheduler.{Scheduler}
use Rattle.flat.specs.declared.structs.SchedulerAnswer.{SchedulerAnswer}
use Rattle.flat.specs.Flat.{no_refusal, flat_refusal}
use Rattle.operations.specs.declared.refusal.Refusal.{Refusal}

abbrev pub max_buf_len : ℕ
max_buf_len = 2 ^ 63

abbrev pub scheduler_at : Scheduler → RingBufferScheduler
scheduler_at s = record_of s.buf_len (record { 0 = s.items_written }) (record { 0 = s.items_read }) s.fill

abbrev pub no_scheduler : Scheduler
no_scheduler = record { buf_len = 0; items_written = 0; items_read = 0; fill = 0 }

abbrev pub flat_scheduler : RingBufferScheduler → Scheduler
flat_scheduler s = record { buf_len = s.buf_len; items_written = s.items_written.0; items_read = s.items_read.0; fill = s.fill }

abbrev pub flat_checked : Result RingBufferScheduler Refusal → SchedulerAnswer
flat_checked (Ok s) = record { refusal = no_refusal; scheduler = flat_scheduler s }
flat_checked (Err e) = record { refusal = flat_refusal e; scheduler = no_scheduler }
