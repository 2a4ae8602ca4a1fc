-- Calls of one client.
use Rattle.std.specs.Prelude.{◌≡◌, ℕ, true, List}
use Rattle.std.specs.List.{All}
use Rattle.rdm_locked.specs.Calls.{is_call_of}
use Rattle.rdm_locked.specs.declared.history.LoggedCall.{LoggedCall}

-- these are calls of this client alone
abbrev pub AreCallsOf : ℕ → List LoggedCall → Type 0
AreCallsOf c made = All (λ m. is_call_of c m.entry ≡ true) made
