-- What is put up for publication.
use Rattle.rdm_lanes.proofs.Common.{◌≡◌, ◌<◌, List, [], ◌∷◌, ◌++◌, length, fold, arith, length-append}
use Rattle.rdm_lanes.proofs.Common.{DeviceView}
use Rattle.rdm_lanes.specs.body.Showing.{AreAll}

pub all_put : (added next : List DeviceView) (pending : List (List DeviceView)) → next ≡ added → AreAll added pending
    → AreAll added (pending ++ next ∷ [])
all_put added next [] is all = (is, tt)
all_put added next (views ∷ pending) is all = (all.0, all_put added next pending is all.1)

pub some_put : (next : List DeviceView) (pending : List (List DeviceView)) → 0 < length (pending ++ next ∷ [])
some_put next pending = omega (arith, length-append pending (next ∷ []))

-- what is published then
pub last_put : (before added : List DeviceView) (pending : List (List DeviceView)) → 0 < length pending
    → AreAll added pending → fold (λ (xs x : List DeviceView). x) before pending ≡ added
last_put before added [] some all = absurd (omega (arith, some))
last_put before added (views ∷ []) some all = all.0
last_put before added (views ∷ more ∷ pending) some all = last_put views added (more ∷ pending) (omega arith) all.1
