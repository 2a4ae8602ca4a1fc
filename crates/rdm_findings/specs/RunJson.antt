-- What JSON has of a run before the sentence of its first finding.
use Rattle.std.specs.Prelude.{ℕ, List, [], ◌++◌, Option, Some, None, Bool, codes, decimal, length, map}
use Rattle.std.specs.Prelude.{if◌then◌else◌}
use Rattle.rdm_wire.specs.UidText.{uid_text}
use Rattle.rdm_agent.specs.declared.fault.AgentFault.{AgentFault}
use Rattle.rdm_agent.specs.declared.fault.AgentFault.TheVariants as faults
use Rattle.rdm_agent.specs.declared.kind.Kind.{Kind}
use Rattle.rdm_agent.specs.declared.kind.Kind.TheVariants.{Full, Incremental}
use Rattle.rdm_agent.specs.declared.search.Search.{Search}
use Rattle.rdm_agent.specs.declared.search.Search.TheVariants.{Steady, Quick}
use Rattle.rdm_explain.specs.declared.exchange.Exchange.{Exchange}
use Rattle.rdm_explain.specs.declared.exchange.Heard.{Heard}
use Rattle.rdm_explain.specs.declared.exchange.Heard.TheVariants as heards
use Rattle.rdm_findings.specs.declared.form.About.{About}
use Rattle.rdm_findings.specs.declared.form.Form.{Form}
use Rattle.rdm_findings.specs.declared.form.Form.TheVariants.{Lines, Json}
use Rattle.rdm_findings.specs.declared.head.RunHead.{RunHead}
use Rattle.rdm_findings.specs.declared.head.Start.{Start}
use Rattle.rdm_findings.specs.declared.head.Start.TheVariants.{At, Later, Unknown}
use Rattle.rdm_findings.specs.Forms.{object_start}

-- the run's number in its session; a discovery has none
abbrev pub number_part : Option ℕ → List ℕ
number_part None = []
number_part (Some number) = codes ",\"run\":" ++ decimal number

-- its kind, if that is known
abbrev pub kind_part : Option Kind → List ℕ
kind_part None = []
kind_part (Some Full) = codes ",\"kind\":\"full\""
kind_part (Some Incremental) = codes ",\"kind\":\"incremental\""

-- how it searched, if that is known
abbrev pub search_part : Option Search → List ℕ
search_part None = []
search_part (Some Steady) = codes ",\"search\":\"steady\""
search_part (Some Quick) = codes ",\"search\":\"quick\""

-- the number of its first exchange in the log, if that is known
abbrev pub first_part : Start → List ℕ
first_part (At number) = codes ",\"first\":" ++ decimal number
first_part Later = []
first_part Unknown = []

-- the name of its fault, or of none; Corrupt has its UID
abbrev pub end_name : Option AgentFault → List ℕ
end_name None = codes "no fault\""
end_name (Some (faults.Corrupt u)) = codes "corrupt\",\"uid\":\"" ++ uid_text u ++ codes "\""
end_name (Some faults.TooMany) = codes "too many devices\""
end_name (Some faults.Exhausted) = codes "budget used up\""
end_name (Some faults.LineFailed) = codes "line failed\""
end_name (Some faults.Aborted) = codes "aborted\""

-- how it ended, if that is known
abbrev pub end_part : Option (Option AgentFault) → List ℕ
end_part None = []
end_part (Some fault) = codes ",\"end\":\"" ++ end_name fault

-- a letter for what came after a frame (97 is a, 102 f, 110 n, 111 o and 115 s): the acknowledgement of a mute, a
-- failure, other bytes, one UID alone after a branch, or silence
abbrev pub heard_letter : Heard → ℕ
heard_letter (heards.Acked ack) = 97
heard_letter heards.Failed = 102
heard_letter heards.Noise = 110
heard_letter (heards.One u) = 111
heard_letter heards.Silent = 115

-- the same of an exchange
abbrev pub exchange_letter : Exchange → ℕ
exchange_letter e = heard_letter e.heard

-- what is known of the run beside its exchanges
abbrev pub known_parts : RunHead → List ℕ
known_parts head =
    number_part head.number ++ kind_part head.kind ++ search_part head.search ++ first_part head.start

-- how it ended, and how many devices it reports
abbrev pub outcome_parts : Option (Option AgentFault) → ℕ → List ℕ
outcome_parts ending devices = end_part ending ++ codes ",\"devices\":" ++ decimal devices

-- a letter for each exchange
abbrev pub heard_part : List Exchange → List ℕ
heard_part xs = codes ",\"heard\":\"" ++ map exchange_letter xs ++ codes "\""

-- its members, and its findings up to the sentence of the first one
abbrev pub run_start : Form → RunHead → Option (Option AgentFault) → ℕ → List Exchange → About → List ℕ
run_start Lines head ending devices xs about = []
run_start Json head ending devices xs about =
    codes "{\"exchanges\":" ++ decimal (length xs) ++ known_parts head ++ outcome_parts ending devices ++ heard_part xs
    ++ codes ",\"findings\":[" ++ object_start about

-- what precedes a run. The flag says whether others were printed before
abbrev pub before_run : Form → Bool → List ℕ
before_run Lines any = []
before_run Json any = if any then codes "," else []

-- what follows its last finding
abbrev pub run_end : Form → List ℕ
run_end Lines = []
run_end Json = codes "]}"
