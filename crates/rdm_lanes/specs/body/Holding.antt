-- Which callbacks a client holds for an outcome, and which outcomes it collects.
use Rattle.std.specs.Prelude.{◌≡◌, ◌<◌, ⊤, Bool, true, length}
use Rattle.rdm_client.specs.Desks.{Held}
use Rattle.rdm_client.specs.declared.told.Collected.{Collected}
use Rattle.rdm_client.specs.declared.told.Collected.TheVariants as collected
use Rattle.rdm_lanes.specs.declared.ring_outcome.RingOutcome.{RingOutcome}
use Rattle.rdm_lanes.specs.declared.ring_outcome.RingOutcome.TheVariants.{Request, Discovery}

-- a callback for the outcome is held, and it is a request's, or discoveries' are wanted too
abbrev pub HoldsFor : {C A : Type 0} → Bool → Held C A → RingOutcome → Type 0
HoldsFor asks desk (Request number done) = 0 < length desk.requests
HoldsFor asks desk (Discovery number done) = (asks ≡ true) × (0 < length desk.asks)

-- what was collected is a request's, or discoveries' are wanted too
abbrev pub IsWanted : Bool → Collected → Type 0
IsWanted asks (collected.Request told) = ⊤
IsWanted asks (collected.Ask told) = asks ≡ true
