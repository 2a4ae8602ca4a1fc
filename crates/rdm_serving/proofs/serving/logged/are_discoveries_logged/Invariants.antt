use Rattle.std.proofs.Common.{◌≡◌, drop, map}
use Rattle.std.specs.Prelude.{filter_map}
use Rattle.rdm_serving.specs.LoggedOutcomes.{fault_logged, faults_logged}
use Rattle.rdm_reports.specs.declared.outcomes.Discovered.{Discovered}
use Rattle.rdm_serving.proofs.serving.logged.are_discoveries_logged.Given as goal

abbrev pub invariant-entries : goal.invariant-entries
invariant-entries l =
    filter_map (fault_logged l.opening l.client l.entries) (drop l.entry-index l.entries)
    ≡ map (λ (d : Discovered). d.fault) l.left
    → faults_logged l.opening l.client l.entries ≡ map (λ (d : Discovered). d.fault) l.told
