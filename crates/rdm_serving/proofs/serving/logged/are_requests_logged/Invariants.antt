use Rattle.std.proofs.Common.{◌≡◌, drop, map}
use Rattle.std.specs.Prelude.{filter_map}
use Rattle.rdm_serving.specs.LoggedOutcomes.{end_logged, ends_logged, end_told}
use Rattle.rdm_serving.proofs.serving.logged.are_requests_logged.Given as goal

abbrev pub invariant-entries : goal.invariant-entries
invariant-entries l =
    filter_map (end_logged l.opening l.client l.entries) (drop l.entry-index l.entries) ≡ map end_told l.left
    → ends_logged l.opening l.client l.entries ≡ map end_told l.told
