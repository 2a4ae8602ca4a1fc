-- What is printed for a discovery on a line of the caller's own.
use Rattle.std.specs.Prelude.{◌≡◌, ℕ, ◌<◌, ◌≤◌, ◌^◌, false, List, Result, ⊤, length}
use Rattle.std.specs.Borrow.{Bor}
use Rattle.std.specs.List.{AllZip}
use Rattle.clap.specs.Words.{Text}
use Rattle.rdm_wire.specs.Uid.{is_broadcast, set_of}
use Rattle.rdm_wire.specs.UidText.{UidText}
use Rattle.rdm_wire.specs.declared.device.Device.{Device}
use Rattle.rdm_agent.specs.declared.fault.AgentFault.{AgentFault}
use Rattle.rdm_agent.specs.declared.kind.Kind.{Kind}
use Rattle.rdm_agent.specs.declared.search.Search.{Search}
use Rattle.rdm_line.specs.Events.{Exchange}
use Rattle.rdm_port.specs.declared.fault.Fault.{Fault}
use Rattle.rdm_port.specs.declared.fault.Fault.TheVariants.{Uid, File, Memory}
use Rattle.rdm_arguments.specs.declared.job.LineDiscovery.{LineDiscovery}
use Rattle.rdm_port.specs.declared.line_values.LineValues.{LineValues}
use Rattle.rdm_reports.specs.Discovery.{IsDiscovery}
use Rattle.rdm_reports.specs.OpeningText.{discovery_log}

-- the text spells the UID of one device
abbrev pub SpellsDevice : List ℕ → ℕ → Type 0
SpellsDevice text u = UidText text u × (is_broadcast u ≡ false)

-- each text spells the UID at the same index
abbrev pub SpellDevices : List (Bor (List ℕ)) → List ℕ → Type 0
SpellDevices = AllZip (λ text u. SpellsDevice text.now u)

-- the UIDs that a discovery's texts spell; at most 1,024 are known
pub record SaysValues (own : LineDiscovery) (values : LineValues) : Type 0 where
  pub source : SpellsDevice own.source.now values.source
  pub few : length own.known.items ≤ 1024
  pub listed : List ℕ
  pub spelled : SpellDevices own.known.items listed
  pub known : values.known ≡ set_of listed

-- a run on a line with these steps, which was opened by the paths of its streams, reports this; its log has this text
pub record IsLineRun (L : Type 0) (step : L → Exchange → L → Type 0) (opens : Text → Text → L → Type 0)
    (own : LineDiscovery) (search : Search) (kind : Kind) (found : Result (List Device) (AgentFault × List Device))
    (frames : ℕ) (logged : List ℕ) : Type 0 where
  pub values : LineValues
  pub says : SaysValues own values
  pub before : L
  pub begins : opens own.streams.out.now own.streams.replies.now before
  pub after : L
  pub run : IsDiscovery L step values.source search kind values.known own.budget before after found frames
  pub countable : frames < 2 ^ 64
  pub logs : logged ≡ discovery_log values.source search kind values.known own.budget run.driven.exchanges

-- The faults of a discovery on a line: a text that spells no device's UID, or else a stream or a log that can't be
-- opened. Any stream or log may be one that can't be opened.
abbrev pub IsLineFault : LineDiscovery → Fault → Type 0
IsLineFault own Uid = (values : LineValues) → SaysValues own values → ⊥
IsLineFault own File = (values : LineValues) × SaysValues own values
IsLineFault own Memory = ⊤
IsLineFault own _ = ⊥
