-- Discovery commands in session files.
use Rattle.std.specs.Prelude.{Bool, true, false, if◌then◌else◌, List, ℕ, codes, is_some, option_and_then}
use Rattle.std.specs.Option.{option_map_or}
use Rattle.serde_json.specs.Data.{Data, Items, no_items, item}
use Rattle.serde_json.specs.Find.{get, as_array}

-- whether one of the items passes the test
abbrev pub any_item : (Data → Bool) → Items → Bool
any_item passes no_items = false
any_item passes (item d ds) = if passes d then true else any_item passes ds

-- whether one in the list under this key does; false if there is no such list
abbrev pub any_under : List ℕ → (Data → Bool) → Data → Bool
any_under key passes d = option_map_or (any_item passes) (option_and_then as_array (get key d)) false

-- whether a call is a discovery command, whatever else it has
abbrev pub is_command : Data → Bool
is_command call = is_some (get (codes "discovery") call)

-- whether a client has such a call
abbrev pub has_command : Data → Bool
has_command client = any_under (codes "calls") is_command client

-- whether a file has such a client, whatever else is wrong in it
abbrev pub has_discovery_command : Data → Bool
has_discovery_command file = any_under (codes "clients") has_command file
