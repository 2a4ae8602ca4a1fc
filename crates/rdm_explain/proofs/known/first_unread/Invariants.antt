use Rattle.std.proofs.Common.{take}
use Rattle.rdm_explain.specs.Exchanges.{seen_all}
use Rattle.rdm_explain.specs.Certificates.{MutesAreNamed}
use Rattle.rdm_explain.proofs.NamedLemmas.{Names}
use Rattle.rdm_explain.proofs.known.first_unread.Given as goal

abbrev pub invariant-loop-at : goal.invariant-loop-at
invariant-loop-at l =
    Names l.known (seen_all (take l.at l.exchanges)) l.named
    × MutesAreNamed l.known (seen_all (take l.at l.exchanges))
