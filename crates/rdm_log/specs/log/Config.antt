-- Which configurations a controller may have, and the plain set-up.
use Rattle.std.specs.Prelude.{◌≤◌}
use Rattle.rdm_wire.specs.Uid.{IsDevice}
use Rattle.rdm_agent.specs.declared.search.Search.TheVariants.{Steady}
use Rattle.rdm_log.specs.declared.config.Config.{Config}
use Rattle.rdm_log.specs.declared.config.Setup.{Setup}

-- the plain set-up with this configuration: runs search steadily
abbrev pub steady : Config → Setup
steady config = record { config = config; search = Steady }

-- A configuration that a controller may have: its UID is a device's, so it isn't broadcast; it has at most 4,080
-- places; and its budget is at least one frame.
pub record IsConfig (config : Config) : Type 0 where
  pub source : IsDevice config.source
  pub places : config.places ≤ 4080
  pub budget : 1 ≤ config.budget
