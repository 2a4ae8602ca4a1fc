-- Which published views the clients have read at their ends.
use Rattle.std.specs.Prelude.{◌≡◌, ℕ, ◌≤◌, List, Option, Some, None, slice_get}
use mathlib.Core.List.{IsPrefix}
use Rattle.rdm_client.specs.declared.view.DeviceView.{DeviceView}
use Rattle.rdm_lanes.specs.declared.views.history.ViewHistory.{Ghosts}
use Rattle.rdm_lanes.specs.declared.client.ends.ClientEnd.{ClientEnd}
use Rattle.rdm_log.specs.promises.Outcomes.{Discovered}
use Rattle.rdm_lanes.specs.OverThreads.{HasGot}
use Rattle.rdm_lanes.specs.Views.{last_view_run}
use Rattle.rdm_lanes.specs.Publishing.{BeginOne}

module _ {J : Type 0} {h : Ghosts J} {C A : Type 0} where
  -- Each client's views and the published ones are prefixes of one list. If the client's run isn't later than that of
  -- the last published view, its views are a prefix of the published ones.
  pub record AllViewsRead (shown : List DeviceView) (ends : List (ClientEnd J C A h)) : Type 0 where
    pub each : (i : ℕ) (e : ClientEnd J C A h) → slice_get ends i ≡ Some e → BeginOne shown e.views
    pub early : (i : ℕ) (e : ClientEnd J C A h) → slice_get ends i ≡ Some e → e.run ≤ last_view_run shown
        → IsPrefix e.views shown

  -- the run of a discovery without fault that a client got isn't later than that of the last published view
  pub record AllShownFirst (shown : List DeviceView) (ends : List (ClientEnd J C A h)) : Type 0 where
    pub each : (i : ℕ) (e : ClientEnd J C A h) (number : Option ℕ) (done : Discovered) → slice_get ends i ≡ Some e
        → HasGot e number done → done.fault ≡ None → done.run ≤ last_view_run shown
