use Rattle.rdm_handles.proofs.Conversions.{of_meets, discoveries}
use Rattle.rdm_handles.specs.contracts.holding.DiscoveryHeld.handle_of as f
use Rattle.rdm_handles.proofs.holding.DiscoveryHeld.handle_of.Statement.{statement}
use Rattle.rdm_handles.proofs.holding.DiscoveryHeld.handle_of.Code as code

pub handle_of_spec : {M : Type 1} → statement M
handle_of_spec 𝓤 𝓛 𝓜 𝓡 wired = of_meets discoveries 𝓤 𝓛 𝓜 𝓡 f.Key.name (code.unfolded 𝓤 𝓛.H 𝓜 𝓡 wired)
