-- How many views a turn adds.
use Rattle.std.specs.Prelude.{◌≡◌, ◌⊎◌, ◌<◌, List, [], ◌∷◌, ◌++◌}
use Rattle.rdm_client.specs.declared.view.DeviceView.{DeviceView}
use Rattle.rdm_lanes.specs.Views.{opening_view, last_view_run}

-- the views are unchanged, or have gained one of a later run
abbrev pub GainOneAtMost : List DeviceView → List DeviceView → Type 0
GainOneAtMost before after = (after ≡ before)
    ⊎ ((v : DeviceView) × (after ≡ before ++ v ∷ []) × (last_view_run (opening_view ∷ before) < v.run))
