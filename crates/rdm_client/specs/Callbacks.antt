-- What callbacks are called with, and what they return.
use Rattle.std.specs.Prelude.{◌≡◌, ◌<◌, ◌≤◌, ◌^◌, ℕ, List, [], length, Option, Some, None}
use Rattle.std.specs.List.{All}
use Rattle.rdm_wire.specs.Uid.{IsDeviceSet}
use Rattle.rdm_wire.specs.Devices.{uids_of}
use Rattle.rdm_wire.specs.declared.device.Device.{Device}
use Rattle.rdm_join.specs.declared.joiner.ReplyHead.{ReplyHead}
use Rattle.rdm_join.specs.declared.status.Status.TheVariants.{FailedToSend}
use Rattle.rdm_agent.specs.declared.fault.AgentFault.{AgentFault}
use Rattle.rdm_agent.specs.declared.fault.AgentFault.TheVariants.{Corrupt, Aborted}
use Rattle.rdm_log.specs.declared.outcome.Completion.{Completion}
use Rattle.rdm_log.specs.declared.outcome.AskCompletion.{AskCompletion}
use Rattle.rdm_client.specs.declared.told.Told.{Told}
use Rattle.rdm_client.specs.declared.told.AskTold.{AskTold}

-- what the callback of a request returns: its tag, and the completion that it was called with
abbrev pub told : ℕ → Completion → Told
told tag done = record { tag = tag; done = done }

-- what the callback of a discovery returns: its tag, and the completion that it was called with
abbrev pub ask_told : ℕ → AskCompletion → AskTold
ask_told tag done = record { tag = tag; done = done }

-- the head's PID and sub-device have 16 bits each
abbrev pub HeadFits : Option ReplyHead → Type 0
HeadFits None = Unit {0}
HeadFits (Some head) = (head.pid < 2 ^ 16) × (head.sub_device < 2 ^ 16)

-- a byte has 8 bits
abbrev pub BytesFit : List ℕ → Type 0
BytesFit bytes = All (λ byte. byte < 2 ^ 8) bytes

-- a request's completion has its numbers in the ranges of their types: those of its reply's head, and its bytes
pub record IsInRange (done : Completion) : Type 0 where
  pub reply : HeadFits done.reply
  pub bytes : BytesFit done.bytes.items

-- the fault's UID has 48 bits
abbrev pub FaultFits : Option AgentFault → Type 0
FaultFits (Some (Corrupt uid)) = uid < 2 ^ 48
FaultFits _ = Unit {0}

-- a binding UID has 48 bits
abbrev pub BindingFits : Option ℕ → Type 0
BindingFits None = Unit {0}
BindingFits (Some uid) = uid < 2 ^ 48

-- a device's control field has 16 bits, and its binding UID 48
pub record DeviceFits (device : Device) : Type 0 where
  pub control : device.control < 2 ^ 16
  pub binding : BindingFits device.binding

-- a discovery's completion has its numbers in the ranges of their types: those of its run, its fault and its devices,
-- of which there are at most 1,024
pub record AskFits (done : AskCompletion) : Type 0 where
  pub run : done.run < 2 ^ 64
  pub fault : FaultFits done.fault
  pub set : IsDeviceSet (uids_of done.set)
  pub few : length done.set ≤ 1024
  pub devices : All DeviceFits done.set

-- a cancelled request was never sent: it has neither a reply nor bytes
pub record IsCancelled (done : Completion) : Type 0 where
  pub status : done.status ≡ FailedToSend
  pub reply : done.reply ≡ None
  pub bytes : done.bytes.items ≡ []

-- a cancelled discovery was aborted before its run began: it has no devices
abbrev pub ask_cancelled : AskCompletion
ask_cancelled = record { run = 0; fault = Some Aborted; set = [] }
