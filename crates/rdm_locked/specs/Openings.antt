-- What opening a session with a mutex requires, and what it makes.
use Rattle.std.specs.Prelude.{◌≡◌, ℕ, []}
use Rattle.rdm_log.specs.declared.config.Config.{Config}
use Rattle.rdm_log.specs.declared.config.Setup.{Setup}
use Rattle.rdm_log.specs.log.Config.{IsConfig}
use Rattle.rdm_log.specs.log.LogState.{LogState, begun}

-- what names a blank: the name of its book, into how many parts that is cut, and the name of its lists
pub record BlankNames : Type 0 where
  pub name : ℕ
  pub parts : ℕ
  pub lists : ℕ

-- the blank is that of the book with this name and these parts, which are 17: one for each client, and one for the
-- rest. Its lists have this name. The configuration is valid, and the log has no entries
pub record MayOpen (name parts lists : ℕ) (blank : BlankNames) (config : Config) (log : LogState) : Type 0 where
  pub named : blank.name ≡ name
  pub listed : blank.lists ≡ lists
  pub cut : (blank.parts ≡ parts) × (parts ≡ 17)
  pub configured : IsConfig config
  pub empty : log.entries ≡ []

-- a session that has just begun with this set-up over this log; nobody has joined or left
pub record IsOpened (setup : Setup) (log session : LogState) (joined left : ℕ) : Type 0 where
  pub begins : session ≡ begun setup log
  pub nobody : (joined ≡ 0) × (left ≡ 0)
