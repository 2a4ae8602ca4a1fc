-- Faults of a command: when each occurs, and the line that reports it.
use Rattle.std.specs.Prelude.{◌≡◌, ℕ, Bool, true, false, List, Option, Some, None, codes, ⊤, IsErr, IsUtf8}
use Rattle.hex.specs.Hex.{decode_of}
use Rattle.serde_json.specs.Data.{Data}
use Rattle.serde_json.specs.Read.{read}
use Rattle.rdm_wire.specs.UidText.{UidText}
use Rattle.rdm_files.specs.Input.{IsContent}
use Rattle.rdm_files.specs.SceneFiles.{IsSceneFile}
use Rattle.rdm_files.specs.SessionFiles.{IsSessionFile}
use Rattle.rdm_files.specs.Commands.{has_discovery_command}
use Rattle.rdm_files.specs.declared.scene.file.SceneFile.{SceneFile}
use Rattle.rdm_files.specs.declared.session.file.SessionFile.{SessionFile}
use Rattle.rdm_port.specs.declared.fault.Fault.{Fault}
use Rattle.rdm_port.specs.declared.fault.Fault.TheVariants.{CommandLine, Hex, Uid, File, Json, Memory}
use Rattle.rdm_port.specs.declared.fault.Fault.TheVariants.{DiscoveryCommand, Scene, Log, Turns, Defect}
use Rattle.rdm_arguments.specs.declared.job.WordsFault.{WordsFault}
use Rattle.rdm_arguments.specs.declared.job.WordsFault.TheVariants.{Words, NoMemory}

-- the line that reports a fault
abbrev pub fault_line : Fault → List ℕ
fault_line CommandLine = codes "fault: command line"
fault_line Hex = codes "fault: hex"
fault_line Uid = codes "fault: uid"
fault_line File = codes "fault: file"
fault_line Json = codes "fault: json"
fault_line DiscoveryCommand = codes "fault: discovery command"
fault_line Scene = codes "fault: scene"
fault_line Log = codes "fault: log"
fault_line Turns = codes "fault: turns"
fault_line Defect = codes "fault: defect"
fault_line Memory = codes "fault: memory"

-- the program's status with this fault
abbrev pub fault_status : Fault → ℕ
fault_status CommandLine = 2
fault_status _ = 1

-- the fault of arguments that fit no command
abbrev pub fault_of_words : WordsFault → Fault
fault_of_words Words = CommandLine
fault_of_words NoMemory = Memory

-- the faults of digits that aren't decoded; only decoding allocates memory
abbrev pub IsDecodeFault : List ℕ → Fault → Type 0
IsDecodeFault digits Hex = IsErr (decode_of digits)
IsDecodeFault digits Memory = ⊤
IsDecodeFault digits _ = ⊥

-- the fault of a text that is no UID
abbrev pub IsEncodeFault : List ℕ → Fault → Type 0
IsEncodeFault text Uid = (u : ℕ) → UidText text u → ⊥
IsEncodeFault text _ = ⊥

-- how the JSON of a file is read: which JSON has a call that no client may make, and what JSON means
pub record Format (F : Type 0) : Type 1 where
  pub forbids : Data → Bool
  pub means : Data → F → Type 0

-- scene files, which have no calls
abbrev pub scenes : Format SceneFile
scenes = record { forbids = λ value. false; means = IsSceneFile }

-- session files for a simulated line, or for one of the caller's own
abbrev pub sessions : Bool → Format SessionFile
sessions own_line = record { forbids = has_discovery_command; means = IsSessionFile own_line }

-- the bytes encode this file
pub record SaysFile {F : Type 0} (format : Format F) (bytes : List ℕ) (file : F) : Type 0 where
  pub value : Data
  pub json : read bytes ≡ Some value
  pub no_command : format.forbids value ≡ false
  pub means : format.means value file

-- the same for the bytes that a reader has
pub record ReadsFile {F : Type 0} (format : Format F) (known : Option (List ℕ)) (file : F) : Type 0 where
  pub bytes : List ℕ
  pub content : IsContent known bytes
  pub says : SaysFile format bytes file

-- the faults of bytes that encode no such file: no JSON, or else a discovery command, or else other JSON
abbrev pub IsTextFault : {F : Type 0} → Format F → List ℕ → Fault → Type 0
IsTextFault format bytes Json = IsUtf8 bytes → read bytes ≡ None
IsTextFault format bytes DiscoveryCommand = (value : Data) × (read bytes ≡ Some value) × (format.forbids value ≡ true)
IsTextFault {F} format bytes Scene =
    (value : Data) × (read bytes ≡ Some value) × (format.forbids value ≡ false)
    × ((file : F) → format.means value file → ⊥)
IsTextFault format bytes Memory = ⊤
IsTextFault format bytes _ = ⊥

-- the faults of a file with such bytes. Any file may be unreadable, and so may each stream and log opened after it
abbrev pub IsFileFault : {F : Type 0} → Format F → Option (List ℕ) → Fault → Type 0
IsFileFault format known File = ⊤
IsFileFault format known Memory = ⊤
IsFileFault format known fault = (bytes : List ℕ) × IsContent known bytes × IsTextFault format bytes fault

-- the faults of a session, from its file to its end
abbrev pub IsSessionFault : (own_line : Bool) → Option (List ℕ) → Fault → Type 0
IsSessionFault own_line known Log = (file : SessionFile) × ReadsFile (sessions own_line) known file
IsSessionFault own_line known Turns = (file : SessionFile) × ReadsFile (sessions own_line) known file
IsSessionFault own_line known Defect = (file : SessionFile) × ReadsFile (sessions own_line) known file
IsSessionFault own_line known fault = IsFileFault (sessions own_line) known fault
