-- How a log explains the answers to a list of events: with one block of entries for each.
use Rattle.std.specs.Prelude.{◌≡◌, List, [], ◌∷◌}
use Rattle.rdm_log.specs.declared.entry.Entry.{Entry}
use Rattle.rdm_log.specs.declared.event.Event.{Event}
use Rattle.rdm_log.specs.declared.event.Event.TheVariants as events
use Rattle.rdm_log.specs.declared.event.Answer.{Answer}
use Rattle.rdm_log.specs.declared.event.Answer.TheVariants as answers
use Rattle.rdm_log.specs.log.LogState.{LogState}
use Rattle.rdm_log.specs.promises.Blocks.{JoinLogs, SubmitLogs, DiscoverLogs, PauseLogs, ResumeLogs, TakeLogs}
use Rattle.rdm_log.specs.promises.Blocks.{CloseAdds, DeliverAdds, CollectLogs, GrowsBy}

-- an event with this answer adds this block: that of its call
abbrev pub Adds : LogState → Event → Answer → List Entry → Type 0
Adds k (events.Join n) (answers.Join answer) block = JoinLogs k n answer block
Adds k (events.Submit c request) (answers.Submit answer) block = SubmitLogs k c request answer block
Adds k (events.Discover c kind) (answers.Discover answer) block = DiscoverLogs k c kind answer block
Adds k events.Pause (answers.Pause answer) block = PauseLogs k answer block
Adds k events.Resume (answers.Resume answer) block = ResumeLogs k answer block
Adds k events.Close answers.Close block = CloseAdds k.opening k.entries block
Adds k events.Take (answers.Take answer) block = TakeLogs k answer block
Adds k (events.Deliver event) (answers.Deliver answer) block = DeliverAdds k event answer block
Adds k (events.Collect c) (answers.Collect answer) block = CollectLogs k c answer block
-- an event has no answer of another kind
Adds k _ _ block = ⊥

-- the event had this answer, and old grew to new
abbrev pub IsAnswered : LogState → Event → Answer → LogState → Type 0
IsAnswered old event answer new = GrowsBy old (Adds old event answer) new

-- the events had these answers, one by one, and old grew to new
abbrev pub Explains : LogState → List Event → List Answer → LogState → Type 0
Explains old [] [] new = new ≡ old
Explains old (e ∷ es) (r ∷ rs) new = (next : LogState) × IsAnswered old e r next × Explains next es rs new
Explains old [] (r ∷ rs) new = ⊥
Explains old (e ∷ es) [] new = ⊥
