-- The faults of sessions that are served.
use Rattle.rdm_serving.specs.declared.serving.ServeFault.{ServeFault}
use Rattle.rdm_serving.specs.declared.serving.ServeFault.TheVariants as serves
use Rattle.rdm_port.specs.declared.fault.Fault.{Fault}
use Rattle.rdm_port.specs.declared.fault.Fault.TheVariants.{Memory, Log, Turns, Defect}

-- the fault that is printed
abbrev pub fault_of_serve : ServeFault → Fault
fault_of_serve serves.Memory = Memory
fault_of_serve serves.Log = Log
fault_of_serve serves.Turns = Turns
fault_of_serve serves.Defect = Defect
