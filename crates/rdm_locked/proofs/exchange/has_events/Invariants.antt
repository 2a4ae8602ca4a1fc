use Rattle.std.proofs.Common.{◌≡◌, drop, map}
use Rattle.std.specs.Prelude.{◌↔◌}
use Rattle.rdm_log.specs.log.Entries.{cames}
use Rattle.rdm_locked.proofs.exchange.has_events.Given as goal

abbrev pub invariant-entries : goal.invariant-entries
invariant-entries l = (cames l.entries ≡ map (λ x. x.event) l.exchanges)
    ↔ (cames (drop l.entry-index l.entries) ≡ map (λ x. x.event) l.left)
