-- What is printed for a discovery run.
use Rattle.std.specs.Prelude.{ℕ, List, [], ◌∷◌, ◌++◌, Option, Some, None, Result, Ok, Err, codes, decimal, flat_map}
use Rattle.std.specs.Prelude.{◌==◌, if◌then◌else◌}
use Rattle.hex.specs.Hex.{encode_lower}
use Rattle.rdm_wire.specs.Bytes.{two_bytes}
use Rattle.rdm_wire.specs.UidText.{uid_text}
use Rattle.rdm_wire.specs.declared.device.Device.{Device}
use Rattle.rdm_agent.specs.declared.fault.AgentFault.{AgentFault}
use Rattle.rdm_agent.specs.declared.fault.AgentFault.TheVariants.{Corrupt, TooMany, Exhausted, LineFailed, Aborted}

-- a line, with its end
abbrev pub line_of : List ℕ → List ℕ
line_of text = text ++ 10 ∷ []

-- a control field as four digits
abbrev pub four_digits : ℕ → List ℕ
four_digits n = encode_lower (two_bytes n)

-- a device's control field and binding UID; nothing if the control field is 0 and there is no binding UID
abbrev pub details : ℕ → Option ℕ → List ℕ
details control None = if control == 0 then [] else 32 ∷ four_digits control
details control (Some binding) = (32 ∷ four_digits control) ++ (32 ∷ uid_text binding)

-- the line of a device: its UID, its control field and its binding UID
abbrev pub device_line : Device → List ℕ
device_line d = line_of (uid_text d.uid ++ details d.control d.binding)

-- a fault's number, and the UID that is corrupt
abbrev pub fault_text : AgentFault → List ℕ
fault_text (Corrupt u) = codes "fault 1 " ++ uid_text u
fault_text TooMany = codes "fault 2"
fault_text Exhausted = codes "fault 3"
fault_text LineFailed = codes "fault 4"
fault_text Aborted = codes "fault 5"

-- the devices, or the fault alone
abbrev pub found_text : Result (List Device) (AgentFault × List Device) → List ℕ
found_text (Ok devices) = flat_map device_line devices
found_text (Err fault) = line_of (fault_text fault.0)

-- a report: the devices or the fault, and then the number of frames
abbrev pub report_text : Result (List Device) (AgentFault × List Device) → ℕ → List ℕ
report_text found frames = found_text found ++ line_of (codes "frames " ++ decimal frames)

-- the status: 1 with a fault
abbrev pub report_status : Result (List Device) (AgentFault × List Device) → ℕ
report_status (Ok devices) = 0
report_status (Err fault) = 1
