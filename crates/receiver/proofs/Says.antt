-- What each public call says, in the order of the paper: whatever its attached contract allows is this definition of its arguments.
use mathlib.Core.Path.{refl}
use Rattle.modular.proofs.Saying.{Says, Decides, says_decides}
use Rattle.receiver.specs.Call.{begin_read_of, begin_service_of, begin_shutdown_of, answered_of, over_of, retries_of}
use Rattle.receiver.specs.Receiver.{receiver_of}
use Rattle.receiver.proofs.receiver.ReceiverState.new.Kinds as ReceiverState-new-kinds
use Rattle.receiver.proofs.receiver.ReceiverState.new.Reads as ReceiverState-new
use Rattle.receiver.proofs.call.Call.begin_read.Kinds as begin_read_kinds
use Rattle.receiver.proofs.call.Call.begin_read.Reads as begin_read
use Rattle.receiver.proofs.call.Call.begin_service.Kinds as begin_service_kinds
use Rattle.receiver.proofs.call.Call.begin_service.Reads as begin_service
use Rattle.receiver.proofs.call.Call.begin_shutdown.Kinds as begin_shutdown_kinds
use Rattle.receiver.proofs.call.Call.begin_shutdown.Reads as begin_shutdown
use Rattle.receiver.proofs.call.Call.answered.Kinds as answered_kinds
use Rattle.receiver.proofs.call.Call.answered.Reads as answered
use Rattle.receiver.proofs.call.Call.is_over.Kinds as is_over_kinds
use Rattle.receiver.proofs.call.Call.is_over.Reads as is_over_lem
use Rattle.receiver.proofs.call.Call.retries.Kinds as retries_kinds
use Rattle.receiver.proofs.call.Call.retries.Reads as retries

-- ---- making one
pub ReceiverState-new-says : Says 0 ReceiverState-new-kinds.ps ReceiverState-new-kinds.r ReceiverState-new.Learnt (λ κs a. receiver_of a.0)
ReceiverState-new-says κs a z ws p = p

-- ---- the machine
pub begin_read_says : Says 0 begin_read_kinds.ps begin_read_kinds.r begin_read.Learnt (λ κs a. begin_read_of a.0 a.1.0 a.1.1.0 a.1.1.1.0)
begin_read_says κs a z ws p = p

pub begin_service_says : Says 0 begin_service_kinds.ps begin_service_kinds.r begin_service.Learnt (λ κs a. begin_service_of a.0)
begin_service_says κs a z ws p = p

pub begin_shutdown_says : Says 0 begin_shutdown_kinds.ps begin_shutdown_kinds.r begin_shutdown.Learnt (λ κs a. begin_shutdown_of a.0)
begin_shutdown_says κs a z ws p = p

pub answered_says : Says 1 answered_kinds.ps answered_kinds.r answered.Learnt (λ κs a. answered_of a.0 a.1.0.now a.1.1.0 a.1.1.1.0)
answered_says κs a z ws p = p

pub is_over_says : Says 0 is_over_kinds.ps is_over_kinds.r is_over_lem.Learnt (λ κs a. over_of a.0)
is_over_says κs a z ws p = p

pub retries_says : Says 0 retries_kinds.ps retries_kinds.r retries.Learnt (λ κs a. retries_of a.0 a.1.0)
retries_says κs a z ws p = p

-- so each decides its outcome; for instance
answered_decided : Decides 1 answered_kinds.ps answered_kinds.r answered.Learnt
answered_decided = says_decides 1 answered_kinds.ps answered_kinds.r answered.Learnt _ (λ κs a ws ws'. refl) answered_says
