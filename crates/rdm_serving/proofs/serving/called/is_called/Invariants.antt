use Rattle.std.proofs.Common.{◌≡◌, drop}
use Rattle.std.specs.Prelude.{filter_map}
use Rattle.rdm_serving.specs.LoggedCalls.{call_logged, calls_logged}
use Rattle.rdm_serving.proofs.serving.called.is_called.Given as goal

abbrev pub invariant-entries : goal.invariant-entries
invariant-entries l =
    filter_map (call_logged l.client) (drop l.entry-index l.entries) ≡ l.left
    → calls_logged l.client l.entries ≡ l.calls
