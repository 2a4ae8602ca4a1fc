use Rattle.std.proofs.Common.{◌≡◌, false, take}
use Rattle.serde_json.specs.View.{items_view}
use Rattle.rdm_files.specs.Commands.{any_item, is_command}
use Rattle.rdm_files.proofs.session.command.command_of.Given as goal

abbrev pub invariant-calls : goal.invariant-calls
invariant-calls l = any_item is_command (items_view (take l.i l.calls.items)) ≡ false
