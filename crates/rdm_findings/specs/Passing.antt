-- Which UIDs come or leave.
use Rattle.std.specs.Prelude.{ℕ, Bool, ◌&&◌, ◌||◌, not, List, ◌==◌}
use Rattle.std.specs.List.{list_any}
use Rattle.rdm_wire.specs.Uid.{has}
use Rattle.rdm_explain.specs.declared.rule.DeviceFinding.{DeviceFinding}
use Rattle.rdm_findings.specs.declared.explaining.Findings.{Findings}

-- whether one of these findings is about this UID
abbrev pub any_about : ℕ → List DeviceFinding → Bool
any_about u fs = list_any (λ f. f.uid == u) fs

-- whether u comes or leaves: it is due without being listed, and isn't one that answered alone
abbrev pub is_passing : Findings → ℕ → Bool
is_passing f u = has f.due.items u && not (any_about u f.devices.items || has f.culprits.items u)
