use Rattle.std.proofs.Common.{◌≡◌, ◌++◌, drop, map}
use Rattle.rdm_log.specs.log.Entries.{asks}
use Rattle.rdm_serving.proofs.serving.logged.discoverers.Given as goal

abbrev pub invariant-entries : goal.invariant-entries
invariant-entries l =
    l.clients.items ++ map (λ s. s.client) (asks (drop l.entry-index l.entries))
    ≡ map (λ s. s.client) (asks l.entries)
