use Rattle.std.proofs.Common.{◌≡◌, ◌++◌, drop, map}
use Rattle.rdm_log.specs.log.Entries.{accepts}
use Rattle.rdm_serving.proofs.serving.logged.submitters.Given as goal

abbrev pub invariant-entries : goal.invariant-entries
invariant-entries l =
    l.clients.items ++ map (λ s. s.client) (accepts (drop l.entry-index l.entries))
    ≡ map (λ s. s.client) (accepts l.entries)
