-- The jobs that arguments give, as `clap` reads them.
use Rattle.std.specs.Prelude.{◌≡◌, ◌==◌, ◌≤◌, ℕ, Bool, not, List, [], ◌∷◌, Option, Some, None, bytes_eq, codes, map}
use Rattle.std.specs.Prelude.{length, option_map, unwrap_or, if◌then◌else◌, true, false}
use Rattle.std.specs.Borrow.{Bor}
use Rattle.std.specs.Option.{option_map_or}
use Rattle.std.specs.Str.Parse.{IsNumeral, digits_value, without_leading_plus}
use Rattle.clap.specs.Words.{App, Row, Rule, Shape, Text, new_rule, new_app, with_subcommand, subcommand_of, first_of}
use Rattle.clap.specs.Words.{all_of, fault_of}
use Rattle.clap.specs.Simple.{new_shape}
use Rattle.clap.specs.declared.builder.action.ArgAction.TheVariants.{SetTrue, Append}
use Rattle.rdm_arguments.specs.declared.job.DiscoverJob.{DiscoverJob}
use Rattle.rdm_arguments.specs.declared.job.DiscoveryLine.{DiscoveryLine}
use Rattle.rdm_arguments.specs.declared.job.DiscoveryLine.TheVariants as line
use Rattle.rdm_arguments.specs.declared.job.ExplainJob.{ExplainJob}
use Rattle.rdm_arguments.specs.declared.job.Job.{Job}
use Rattle.rdm_arguments.specs.declared.job.Job.TheVariants.{Decode, Encode, Discover, Run, Explain}
use Rattle.rdm_arguments.specs.declared.job.LineDiscovery.{LineDiscovery}
use Rattle.rdm_arguments.specs.declared.job.RunJob.{RunJob}
use Rattle.rdm_arguments.specs.declared.job.Streams.{Streams}
use Rattle.rdm_arguments.specs.declared.port_kind.PortKind.{PortKind}
use Rattle.rdm_arguments.specs.declared.port_kind.PortKind.TheVariants.{Locked, Rings}
use Rattle.rdm_arguments.specs.declared.table.Form.{Form}
use Rattle.rdm_arguments.specs.declared.table.Form.TheVariants.{Needed, Optional, Flag, Once, Repeated}

-- an argument of this form with this name
abbrev pub rule_for : Form → Text → Rule
rule_for Needed name = record (new_rule name) { required = true }
rule_for Optional name = new_rule name
rule_for Flag name = record (new_rule name) { long = Some name; action = Some SetTrue }
rule_for Once name = record (new_rule name) { long = Some name }
rule_for Repeated name = record (new_rule name) { long = Some name; action = Some Append }

-- a command with this name and these arguments
abbrev pub command_with : Text → List Rule → Shape
command_with name rules = record (new_shape name) { disable_help_flag = true; rules = rules }

-- the program without its commands
abbrev pub program : App
program = record (new_app (codes "wurstlinen")) {
  top = record (new_shape (codes "wurstlinen")) {
    no_binary_name = true;
    subcommand_required = true;
    disable_help_flag = true;
    disable_help_subcommand = true;
  };
}

-- the arguments of a discovery: a file or a line, and how it searches
abbrev pub discover_rules : List Rule
discover_rules =
    rule_for Optional (codes "file") ∷ rule_for Once (codes "line") ∷ rule_for Once (codes "replies")
    ∷ rule_for Once (codes "source") ∷ rule_for Repeated (codes "known") ∷ rule_for Once (codes "budget")
    ∷ rule_for Flag (codes "incremental") ∷ rule_for Flag (codes "quick") ∷ rule_for Once (codes "log") ∷ []

-- the arguments of a session: a file, perhaps a line, and a port
abbrev pub run_rules : List Rule
run_rules =
    rule_for Needed (codes "file") ∷ rule_for Once (codes "line") ∷ rule_for Once (codes "replies")
    ∷ rule_for Once (codes "port") ∷ rule_for Once (codes "log") ∷ []

-- the arguments of an explanation: a log, devices that were present, and how it is printed
abbrev pub explain_rules : List Rule
explain_rules =
    rule_for Needed (codes "log") ∷ rule_for Repeated (codes "present") ∷ rule_for Once (codes "rig")
    ∷ rule_for Flag (codes "json") ∷ []

-- the program's commands
abbrev pub commands : App
commands =
    with_subcommand
    (with_subcommand
    (with_subcommand
    (with_subcommand
    (with_subcommand program (command_with (codes "decode") (rule_for Needed (codes "hex") ∷ [])))
    (command_with (codes "encode") (rule_for Needed (codes "uid") ∷ [])))
    (command_with (codes "discover") discover_rules))
    (command_with (codes "run") run_rules))
    (command_with (codes "explain") explain_rules)

-- the text behind a reference that may be absent
abbrev pub path_text : Option (Bor Text) → Option Text
path_text path = option_map (λ p. p.now) path

-- the texts of the arguments
abbrev pub texts_of : List (Bor Text) → List Text
texts_of words = map (λ word. word.now) words

-- the values of an option that may be given several times, in order
abbrev pub texts_given : Text → List Row → List Text
texts_given name given = unwrap_or (all_of name given) []

-- whether a flag is among the arguments: its text is then "true"
abbrev pub is_set : Text → List Row → Bool
is_set flag given = option_map_or (λ text. bytes_eq text (codes "true")) (first_of flag given) false

-- the port with this name
abbrev pub port_named : Text → Option PortKind
port_named name =
    if bytes_eq name (codes "locked") then Some Locked
    else (if bytes_eq name (codes "rings") then Some Rings else None)

-- the port that is named, or the locked one by default
abbrev pub port_in : List Row → Option PortKind
port_in given = option_map_or port_named (first_of (codes "port") given) (Some Locked)

-- the text is this whole number in decimal digits, perhaps after a plus
abbrev pub IsNumber : Text → ℕ → Type 0
IsNumber text n =
    IsNumeral 10 (without_leading_plus text) × (n ≡ digits_value 10 (without_leading_plus text))

-- the budget that is given, from 1 to 1,000,000,000, or the default
abbrev pub IsBudget : Option Text → ℕ → Type 0
IsBudget None budget = budget ≡ 384008
IsBudget (Some text) budget = IsNumber text budget × (1 ≤ budget) × (budget ≤ 1000000000)

-- the streams that are given. Without one for replies they come from the one for frames
pub record AreStreams (given : List Row) (streams : Streams) : Type 0 where
  pub out : first_of (codes "line") given ≡ Some streams.out.now
  pub replies : streams.replies.now ≡ unwrap_or (first_of (codes "replies") given) streams.out.now

-- the streams that are given, if any are
abbrev pub HasStreams : List Row → Option Streams → Type 0
HasStreams given None = (first_of (codes "line") given ≡ None) × (first_of (codes "replies") given ≡ None)
HasStreams given (Some streams) = AreStreams given streams

-- a discovery has no option for a line of the caller's own
pub record IsSimulated (given : List Row) : Type 0 where
  pub streams : HasStreams given None
  pub source : first_of (codes "source") given ≡ None
  pub known : first_of (codes "known") given ≡ None
  pub budget : first_of (codes "budget") given ≡ None

-- what a discovery on a line of the caller's own needs
pub record IsLineDiscovery (given : List Row) (own : LineDiscovery) : Type 0 where
  pub streams : AreStreams given own.streams
  pub source : first_of (codes "source") given ≡ Some own.source.now
  pub known : texts_given (codes "known") given ≡ texts_of own.known.items
  pub few : length own.known.items ≤ 1024
  pub budget : IsBudget (first_of (codes "budget") given) own.budget

-- the line of a discovery: that of a scene file, or one of the caller's own
abbrev pub IsDiscoveryLine : List Row → DiscoveryLine → Type 0
IsDiscoveryLine given (line.Scene file) = (first_of (codes "file") given ≡ Some file.now) × IsSimulated given
IsDiscoveryLine given (line.Streams own) = (first_of (codes "file") given ≡ None) × IsLineDiscovery given own

-- the arguments give this discovery
pub record IsDiscovery (given : List Row) (job : DiscoverJob) : Type 0 where
  pub line_is : IsDiscoveryLine given job.line
  pub incremental : job.incremental ≡ is_set (codes "incremental") given
  pub quick : job.quick ≡ is_set (codes "quick") given
  pub log : path_text job.log ≡ first_of (codes "log") given

-- the arguments give this session
pub record IsRun (given : List Row) (job : RunJob) : Type 0 where
  pub file : first_of (codes "file") given ≡ Some job.file.now
  pub streams : HasStreams given job.streams
  pub port : port_in given ≡ Some job.port
  pub log : path_text job.log ≡ first_of (codes "log") given

-- the arguments give this explanation
pub record IsExplain (given : List Row) (job : ExplainJob) : Type 0 where
  pub log : first_of (codes "log") given ≡ Some job.log.now
  pub present : texts_given (codes "present") given ≡ texts_of job.present.items
  pub few : length job.present.items ≤ 1024
  pub rig : path_text job.rig ≡ first_of (codes "rig") given
  pub json : job.json ≡ is_set (codes "json") given

-- the command with its arguments is this job
abbrev pub IsGiven : Option (Text × List Row) → Job → Type 0
IsGiven None job = ⊥
IsGiven (Some command) (Decode digits) =
    (command.0 ≡ codes "decode") × (first_of (codes "hex") command.1 ≡ Some digits.now)
IsGiven (Some command) (Encode uid) =
    (command.0 ≡ codes "encode") × (first_of (codes "uid") command.1 ≡ Some uid.now)
IsGiven (Some command) (Discover job) = (command.0 ≡ codes "discover") × IsDiscovery command.1 job
IsGiven (Some command) (Run job) = (command.0 ≡ codes "run") × IsRun command.1 job
IsGiven (Some command) (Explain job) = (command.0 ≡ codes "explain") × IsExplain command.1 job

-- the arguments give this job
abbrev pub Asks : List Text → Job → Type 0
Asks words job = (fault_of commands words ≡ []) × IsGiven (subcommand_of commands words) job

-- the arguments give no job
abbrev pub AsksNothing : List Text → Type 0
AsksNothing words = (job : Job) → Asks words job → ⊥

-- the path of the scene file whose line is simulated
abbrev pub scene_path : DiscoveryLine → Option Text
scene_path (line.Scene file) = Some file.now
scene_path (line.Streams own) = None

-- the path of the file that a job reads
abbrev pub file_of : Job → Option Text
file_of (Decode digits) = None
file_of (Encode uid) = None
file_of (Discover job) = scene_path job.line
file_of (Run job) = Some job.file.now
file_of (Explain job) = Some job.log.now

-- the path of the scene file that a job reads beside a log
abbrev pub rig_of : Job → Option (Bor Text)
rig_of (Explain job) = job.rig
rig_of _ = None

-- the path of the log that a job keeps
abbrev pub log_of : Job → Option (Bor Text)
log_of (Decode digits) = None
log_of (Encode uid) = None
log_of (Discover job) = job.log
log_of (Run job) = job.log
log_of (Explain job) = None

-- the argument doesn't begin with a hyphen (45), as options do
abbrev pub is_plain : Text → Bool
is_plain [] = true
is_plain (x ∷ xs) = not (x == 45)
