use Rattle.std.proofs.Common.{◌≡◌, ℕ, true, List, [], ◌∷◌, subst}
use Rattle.std.specs.List.{AllByRecursion}
use Rattle.rdm_wire.specs.Uid.{has}
use Rattle.rdm_wire.specs.Devices.{uids_of}
use Rattle.rdm_wire.specs.declared.device.Device.{Device}
use Rattle.rdm_agent.specs.Certificate.{Certificate}
use Rattle.rdm_agent.specs.declared.kind.Kind.{Kind}
use Rattle.rdm_agent.proofs.OneDevice.{found as device_found}
use Rattle.rdm_explain.specs.declared.exchange.Exchange.{Exchange}
use Rattle.rdm_explain.specs.declared.rule.DeviceFinding.{DeviceFinding}
use Rattle.rdm_explain.specs.Exchanges.{seen_all}
use Rattle.rdm_explain.specs.Rules.{AreFirstBreaches, FirstBreach, Followed}
use Rattle.rdm_explain.proofs.PartLemmas.{certificate_of}
use Rattle.rdm_explain.proofs.laws.followers_are_reported.Goals as goal

reported : (kind : Kind) (known : List ℕ) (xs : List Exchange) (s : List Device) (found : List DeviceFinding)
    → Certificate kind known (seen_all xs) s → AreFirstBreaches xs found
    → AllByRecursion (λ (f : DeviceFinding). Followed f → has (uids_of s) f.uid ≡ true) found
reported kind known xs s [] certificate findings = tt
reported kind known xs s (f ∷ found) certificate findings = (
  (λ followed. device_found kind known (seen_all xs) (uids_of s) f.uid followed.device certificate.search
      (subst (FirstBreach f.uid xs) followed.honest findings.0)),
  reported kind known xs s found certificate findings.1,
)

pub returns : goal.returns
returns c = record {
  certified = reported;
  explained = λ kind known xs s run names found parts complete naming named findings.
      reported kind known xs s found (certificate_of kind known xs s run names parts naming complete named) findings;
}
