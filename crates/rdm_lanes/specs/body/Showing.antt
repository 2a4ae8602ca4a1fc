-- What a publisher of views has, and which of it readers may read.
use Rattle.std.specs.Prelude.{◌≡◌, ◌≢◌, ◌+◌, ◌<◌, ◌≤◌, ℕ, Bool, true, false, List, [], length, take, Option, Some, None}
use Rattle.std.specs.Prelude.{slice_get}
use Rattle.std.specs.List.{AllByRecursion}
use Rattle.rtrb.specs.Ring.{sent as pushed}
use Rattle.rdm_client.specs.declared.view.DeviceView.{DeviceView}
use Rattle.rdm_log.specs.log.LogState.{LogState}
use Rattle.rdm_log.specs.promises.Outcomes.{Discovered}
use Rattle.rdm_log.specs.promises.Outcomes.OutcomeValue.{DiscoveryValue}
use Rattle.rdm_lanes.specs.declared.worker.lane.Lane.{Lane}
use Rattle.rdm_lanes.specs.Told.{values_in}
use Rattle.rdm_lanes.specs.Views.{last_view_run, all_views}

-- the views that readers may read, and those that were added
pub record Publishing : Type 0 where
  pub shown : List DeviceView
  pub added : List DeviceView

-- each of these lists is this one
abbrev pub AreAll : List DeviceView → List (List DeviceView) → Type 0
AreAll added pending = AllByRecursion (λ views. views ≡ added) pending

-- Readers may read all that was added, unless a publication is still to be made: then they lack something. What is to
-- be published is all that was added.
pub record IsPublishing (waiting : Bool) (shown added : List DeviceView) (pending : List (List DeviceView))
    : Type 0 where
  pub all : waiting ≡ false → (shown ≡ added) × (pending ≡ [])
  pub lacks : waiting ≡ true → shown ≢ added
  pub next : AreAll added pending

-- none of these views is of a later run than the last one
abbrev pub NoneLater : List DeviceView → Type 0
NoneLater views = (i : ℕ) (v : DeviceView) → slice_get views i ≡ Some v → v.run ≤ last_view_run views

-- Of all views of a log, readers may read all, or all but the last, which is of the latest run. All that readers may
-- read was added. A view that wasn't added is of a later run than those that were.
pub record IsShowing (all : List DeviceView) (p : Publishing) : Type 0 where
  pub none_later : NoneLater all
  pub begin : p.shown ≡ take (length p.shown) all
  pub added : p.added ≡ take (length p.added) all
  pub lacks_one : length all ≤ length p.shown + 1
  pub no_more : length p.shown ≤ length p.added
  pub later : length p.added < length all → last_view_run p.added < last_view_run all

-- the same for a session's log, if the session didn't begin with another one's devices
pub record Publishes (k : LogState) (p : Publishing) : Type 0 where
  pub no_run : k.opening.devices_run ≡ 0
  pub no_devices : k.opening.devices ≡ []
  pub showing : IsShowing (all_views k.entries) p

-- all views of the log were added, and readers may read them
pub record AllPublished (k : LogState) (p : Publishing) : Type 0 where
  pub shown : p.shown ≡ all_views k.entries
  pub added : p.added ≡ all_views k.entries

-- If a discovery's outcome without fault was put on a client's ring, its run isn't later than that of the last
-- published view.
pub record AreShownFirst (shown : List DeviceView) (lanes : List Lane) : Type 0 where
  pub each : (i j : ℕ) (lane : Lane) (number : Option ℕ) (done : Discovered) → slice_get lanes i ≡ Some lane
      → slice_get (values_in (pushed lane.replies)) j ≡ Some (DiscoveryValue number done) → done.fault ≡ None
      → done.run ≤ last_view_run shown
