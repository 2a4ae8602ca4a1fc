-- The numbers of statuses, and the statuses of bytes that are no response.
use Rattle.std.specs.Prelude.{ℕ}
use Rattle.rdm_wire.specs.declared.response.PacketFault.{PacketFault}
use Rattle.rdm_wire.specs.declared.response.PacketFault.TheVariants as faults
use Rattle.rdm_join.specs.declared.status.Status.{Status}
use Rattle.rdm_join.specs.declared.status.Status.TheVariants as status

-- the number of a status
abbrev pub number_of_status : Status → ℕ
number_of_status status.Completed = 0
number_of_status status.WasBroadcast = 1
number_of_status status.FailedToSend = 2
number_of_status status.Timeout = 3
number_of_status status.InvalidResponse = 4
number_of_status status.TooShort = 5
number_of_status status.WrongStart = 6
number_of_status status.WrongSubStart = 7
number_of_status status.LengthMismatch = 8
number_of_status status.ParamLengthMismatch = 9
number_of_status status.Checksum = 10
number_of_status status.InvalidClass = 11
number_of_status status.InvalidResponseType = 12
number_of_status status.TransactionMismatch = 13
number_of_status status.SubDeviceMismatch = 14
number_of_status status.SourceMismatch = 15
number_of_status status.DestMismatch = 16
number_of_status status.ClassMismatch = 17
number_of_status status.NoMemory = 18

-- the status of bytes that are no response
abbrev pub status_of_fault : PacketFault → Status
status_of_fault faults.TooShort = status.TooShort
status_of_fault faults.WrongStart = status.WrongStart
status_of_fault faults.WrongSubStart = status.WrongSubStart
status_of_fault faults.LengthMismatch = status.LengthMismatch
status_of_fault faults.ParamLengthMismatch = status.ParamLengthMismatch
status_of_fault faults.Checksum = status.Checksum
status_of_fault faults.InvalidClass = status.InvalidClass
status_of_fault faults.InvalidResponseType = status.InvalidResponseType
