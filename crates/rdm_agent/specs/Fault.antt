-- The faults' numbers.
use Rattle.std.specs.Prelude.{ℕ}
use Rattle.rdm_agent.specs.declared.fault.AgentFault.{AgentFault}
use Rattle.rdm_agent.specs.declared.fault.AgentFault.TheVariants.{Corrupt, TooMany, Exhausted, LineFailed, Aborted}

-- the number of a fault, 1 to 5
abbrev pub fault_number : AgentFault → ℕ
fault_number (Corrupt u) = 1
fault_number TooMany = 2
fault_number Exhausted = 3
fault_number LineFailed = 4
fault_number Aborted = 5
