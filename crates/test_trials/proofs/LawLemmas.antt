-- The premises of the laws: devices that stay, and the exchanges of a log as each kind of session says them.
use Rattle.std.proofs.Common.{◌≡◌, ℕ, Bool, true, false, List, [], ◌∷◌, Option, Some, None, cond, sym, subst}
use Rattle.std.specs.Prelude.{IfSome, nat_lt}
use Rattle.std.specs.List.{AllByRecursion}
use Rattle.rdm_line.specs.Events.{Makes}
use Rattle.rdm_line.specs.Scenes.{Stays, with_scene_device}
use Rattle.rdm_line.specs.Sim.{SimState, SimStep}
use Rattle.rdm_line.specs.declared.scene.SceneDevice.{SceneDevice}
use Rattle.rdm_log.specs.declared.config.Setup.{Setup}
use Rattle.rdm_log.specs.log.Entries.{exchanges}
use Rattle.rdm_log.specs.log.Legal.{Legal}
use Rattle.rdm_log.specs.log.LogState.{LogState}
use Rattle.rdm_scenes.specs.Reports.{IsLogOver}
use Rattle.rdm_locked.specs.Exchanges.{recorded}
use Rattle.rdm_locked.specs.declared.exchange.Exchange.{Exchange as Recorded}
use Rattle.rdm_lanes.specs.Sessions.{SessionOver}

-- what follows of a result, if there is one
pub if_some : {A : Type 0} (P Q : A → Type 0) (o : Option A) → ((a : A) → P a → Q a) → IfSome o P → IfSome o Q
if_some P Q None f one = tt
if_some P Q (Some a) f one = f a one

-- devices that stay, with one more that does
pub stay_with : (d : SceneDevice) (ds : List SceneDevice) → Stays d → AllByRecursion Stays ds
    → AllByRecursion Stays (with_scene_device d ds)
stay_with d [] here all = (here, tt)
stay_with d (e ∷ es) here all = by_test (nat_lt e.device.uid d.device.uid) (stay_with d es here all.1)
  where
    by_test : (t : Bool) → AllByRecursion Stays (with_scene_device d es)
        → AllByRecursion Stays (cond t (e ∷ with_scene_device d es) (d ∷ e ∷ es))
    by_test true rest = (all.0, rest)
    by_test false rest = (here, all)

-- a log over a line, as run_session says it
pub log_over_rings : (setup : Setup) (room : ℕ) (places : List ℕ) (s t : SimState) (k : LogState)
    → SessionOver SimStep setup room places s t k → IsLogOver s t k
log_over_rings setup room places s t k over = record {
  legal = over.legal;
  steps = over.steps;
}

-- and as the record of a port and its end say it
pub log_over_record : (s t : SimState) (k : LogState) (record_of : List Recorded) → Legal k.opening k.entries
    → exchanges k.entries ≡ recorded record_of → Makes SimState SimStep s (recorded record_of) t → IsLogOver s t k
log_over_record s t k record_of legal same steps = record {
  legal = legal;
  steps = subst (λ xs. Makes SimState SimStep s xs t) (sym same) steps;
}
