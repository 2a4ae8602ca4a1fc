use Rattle.std.proofs.Common.{◌≡◌, false, take}
use Rattle.serde_json.specs.View.{items_view}
use Rattle.rdm_files.specs.Commands.{any_item, has_command}
use Rattle.rdm_files.proofs.session.command.discovery_command.Given as goal

abbrev pub invariant-clients : goal.invariant-clients
invariant-clients l = any_item has_command (items_view (take l.i l.clients.items)) ≡ false
