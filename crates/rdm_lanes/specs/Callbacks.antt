-- Whose callbacks a client holds.
use Rattle.std.specs.Prelude.{◌≡◌, ◌+◌, Bool, true, false, List, length, filter}
use Rattle.rdm_log.specs.promises.Outcomes.{OutcomeValue}
use Rattle.rdm_log.specs.promises.Outcomes.OutcomeValue.{RequestValue, DiscoveryValue}
use Rattle.rdm_lanes.specs.declared.call.ClientCall.{ClientCall}
use Rattle.rdm_lanes.specs.declared.call.ClientCall.TheVariants.{Submit, Discover}

-- the call is a submit
abbrev pub is_submit : ClientCall → Bool
is_submit (Submit request) = true
is_submit _ = false

-- the call is a discover
abbrev pub is_discover : ClientCall → Bool
is_discover (Discover kind) = true
is_discover _ = false

-- the outcome is a request's
abbrev pub is_of_request : OutcomeValue → Bool
is_of_request (RequestValue number done) = true
is_of_request (DiscoveryValue number done) = false

-- the outcome is a discovery's
abbrev pub is_of_discovery : OutcomeValue → Bool
is_of_discovery (RequestValue number done) = false
is_of_discovery (DiscoveryValue number done) = true

-- A client that sent these calls and got these outcomes holds one callback for each own call without an outcome.
-- Submits and discovers count separately.
pub record HoldsItsOwn {C A : Type 0} (sent : List ClientCall) (got : List OutcomeValue) (requests : List C)
    (asks : List A) : Type 0 where
  pub requests_are : length (filter is_submit sent) ≡ length (filter is_of_request got) + length requests
  pub asks_are : length (filter is_discover sent) ≡ length (filter is_of_discovery got) + length asks
