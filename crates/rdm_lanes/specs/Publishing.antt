-- What a publisher of views has.
use Rattle.std.specs.Prelude.{◌+◌, ◌≤◌, List, length}
use mathlib.Core.List.{IsPrefix}
use Rattle.rdm_client.specs.declared.view.DeviceView.{DeviceView}
use Rattle.rdm_lanes.specs.Views.{last_view_run}

-- the published views are a prefix of all views of a log, and lack the last one at most
pub record IsPublished (all shown : List DeviceView) : Type 0 where
  pub begin : IsPrefix shown all
  pub lacks_one : length all ≤ length shown + 1

-- What was published and what was read are prefixes of one list. If the last view read isn't of a later run than the
-- last one published, `read` is a prefix of `shown`.
pub record BeginOne (shown read : List DeviceView) : Type 0 where
  pub all : List DeviceView
  pub shown_begins : IsPrefix shown all
  pub read_begins : IsPrefix read all
  pub early : last_view_run read ≤ last_view_run shown → IsPrefix read shown
