-- The faults of clients, whichever port they have.
use Rattle.rdm_log.specs.declared.fault.WorkFault.{WorkFault}
use Rattle.rdm_log.specs.declared.fault.WorkFault.TheVariants as work_faults
use Rattle.rdm_client.specs.declared.fault.CallFault.{CallFault}
use Rattle.rdm_client.specs.declared.fault.CallFault.TheVariants as call_faults

-- a fault of a session, under its own name
abbrev pub of_session : WorkFault → CallFault
of_session work_faults.Closed = call_faults.Closed
of_session work_faults.UnknownClient = call_faults.UnknownClient
of_session work_faults.Full = call_faults.Full
of_session work_faults.LogFull = call_faults.LogFull
