-- How long a client's oldest outcome is.
use Rattle.std.specs.Prelude.{ℕ, List, length, Option, option_map, option_and_then, slice_get}
use Rattle.rdm_log.specs.declared.entry.Opening.{Opening}
use Rattle.rdm_log.specs.declared.entry.Entry.{Entry}
use Rattle.rdm_log.specs.log.Clients.{uncollected}
use Rattle.rdm_log.specs.promises.Outcomes.{OutcomeValue, outcome_of}
use Rattle.rdm_log.specs.promises.Outcomes.OutcomeValue.{RequestValue, DiscoveryValue}

-- how many bytes of data a request has, or how many devices a discovery
abbrev pub length_of_value : OutcomeValue → ℕ
length_of_value (RequestValue number done) = length done.data_
length_of_value (DiscoveryValue number done) = length done.devices

-- the same for the outcome of a Finish or an Answer
abbrev pub answer_length : List Entry → Entry → Option ℕ
answer_length h e = option_map length_of_value (outcome_of h e)

-- the same for the client's oldest uncollected outcome
abbrev pub oldest_length : Opening → List Entry → ℕ → Option ℕ
oldest_length o h c = option_and_then (answer_length h) (slice_get (uncollected o c h) 0)
