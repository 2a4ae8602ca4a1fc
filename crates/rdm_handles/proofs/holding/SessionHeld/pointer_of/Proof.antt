use Rattle.rdm_handles.proofs.Conversions.{into_meets, sessions}
use Rattle.rdm_handles.specs.contracts.holding.SessionHeld.pointer_of as f
use Rattle.rdm_handles.proofs.holding.SessionHeld.pointer_of.Statement.{statement}
use Rattle.rdm_handles.proofs.holding.SessionHeld.pointer_of.Code as code

pub pointer_of_spec : {M : Type 1} → statement M
pointer_of_spec 𝓤 𝓛 𝓜 𝓡 wired = into_meets sessions 𝓤 𝓛 𝓜 𝓡 f.Key.name (code.unfolded 𝓤 𝓛.H 𝓜 𝓡 wired)
