-- What a client sends, and what a log says of its calls.
use Rattle.std.specs.Prelude.{ℕ, Bool, true, false, List, [], ◌∷◌, filter, filter_map, Option, Some, None, ◌==◌}
use Rattle.std.specs.Prelude.{if◌then◌else◌}
use Rattle.rdm_log.specs.declared.entry.Call.{Call}
use Rattle.rdm_log.specs.declared.entry.Call.TheVariants as calls
use Rattle.rdm_log.specs.declared.entry.Entry.{Entry}
use Rattle.rdm_log.specs.declared.entry.Entry.TheVariants.{Refuse, Accept, Ask}
use Rattle.rdm_log.specs.promises.Outcomes.{is_client}
use Rattle.rdm_lanes.specs.declared.call.ClientCall.{ClientCall}
use Rattle.rdm_lanes.specs.declared.call.ClientCall.TheVariants.{Submit, Discover, Leave}
use Rattle.rdm_lanes.specs.declared.call.OperatorCall.{OperatorCall}

-- the call is a submit or a discover, not a leave
abbrev pub is_work : ClientCall → Bool
is_work (Submit request) = true
is_work (Discover kind) = true
is_work Leave = false

-- the submits and discovers of a ring's items, in order
unfoldable pub work_in : List ClientCall → List ClientCall
work_in items = filter is_work items

-- the refused call, if a client can make it; a join isn't one
abbrev pub refused_call : Call → Option ClientCall
refused_call (calls.Submit request) = Some (Submit request)
refused_call (calls.Discover kind) = Some (Discover kind)
refused_call (calls.Join places) = None

-- client c's call that an entry records as accepted or refused
abbrev pub call_by : ℕ → Entry → Option ClientCall
call_by c (Accept d n request) = if c == d.0 then Some (Submit request) else None
call_by c (Ask d n kind) = if c == d.0 then Some (Discover kind) else None
call_by c (Refuse d call cause) = if is_client c d then refused_call call else None
call_by c _ = None

-- the calls of client c in a log, in order
unfoldable pub calls_by : ℕ → List Entry → List ClientCall
calls_by c h = filter_map (call_by c) h

-- nothing, or the call of an operator that hasn't left
abbrev pub unless : Bool → OperatorCall → List OperatorCall
unless left call = if left then [] else call ∷ []
