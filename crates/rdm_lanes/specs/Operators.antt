-- What an operator's calls do, and what a log says of them.
use Rattle.std.specs.Prelude.{Bool, true, false, not, ◌||◌, ◌&&◌, List, [], ◌∷◌, ◌++◌, fold, filter_map}
use Rattle.std.specs.Prelude.{Option, Some, None, if◌then◌else◌}
use Rattle.rdm_log.specs.declared.entry.Entry.{Entry}
use Rattle.rdm_log.specs.declared.entry.Entry.TheVariants as entries
use Rattle.rdm_lanes.specs.declared.call.OperatorCall.{OperatorCall}
use Rattle.rdm_lanes.specs.declared.call.OperatorCall.TheVariants.{Pause, Resume, Close, Leave}

-- the pause, the resume or the close that an entry records
abbrev pub switch_of : Entry → Option OperatorCall
switch_of entries.Pause = Some Pause
switch_of entries.Resume = Some Resume
switch_of entries.Close = Some Close
switch_of _ = None

-- the pauses, resumes and closes in a log, in order
unfoldable pub switches : List Entry → List OperatorCall
switches h = filter_map switch_of h

-- whether a session is paused after a call that had an effect
abbrev pub paused_by : Bool → OperatorCall → Bool
paused_by b Pause = true
paused_by b Resume = false
paused_by b _ = b

-- whether it is closed after that
abbrev pub closed_by : Bool → OperatorCall → Bool
closed_by b Close = true
closed_by b _ = b

-- Whether a call has an effect in a session that was neither paused nor closed at first, after these that had one. A
-- pause has one if the session is neither paused nor closed, a resume if it is paused and not closed, and a close if it
-- isn't closed. A leave has none.
abbrev pub has_effect : List OperatorCall → OperatorCall → Bool
has_effect done Pause = not (fold paused_by false done || fold closed_by false done)
has_effect done Resume = fold paused_by false done && not (fold closed_by false done)
has_effect done Close = not (fold closed_by false done)
has_effect done Leave = false

-- these calls that had an effect, and then this one, if it has one
abbrev pub with_call : List OperatorCall → OperatorCall → List OperatorCall
with_call done call = if has_effect done call then done ++ call ∷ [] else done

-- those of an operator's calls that have an effect, in order
unfoldable pub effective : List OperatorCall → List OperatorCall
effective calls = fold with_call [] calls
