-- The names that many proofs here cite, passed on from one place. Declares nothing.
pub use mathlib.Core.List.{IsPrefix}
pub use Rattle.std.proofs.Common.{◌∙◌, refl, ap, List, arith, ◌≡◌, sym, length, [], ◌∷◌, ◌++◌, ℕ, Some, subst, true}
pub use Rattle.std.proofs.Common.{◌≤◌, false, None, slice_get, length-append, Bool, inl, inr, map, ◌<◌, append-nil, ◌+◌}
pub use Rattle.std.proofs.Common.{append_assoc, true≢false, Option, ◌⊎◌, suc, take, zero, if◌then◌else◌, ◌≢◌, Err, Ok}
pub use Rattle.std.proofs.Common.{Result, fold, get_or, ◌==◌, ◌||◌, drop, filter, filter_map, nat_le, ◌-◌, slice_set}
pub use Rattle.std.proofs.Common.{vec_capacity, MatchBool, Vec, cond, nat_lt, rules, slice_index, sum, IfNone}
pub use Rattle.std.proofs.Common.{MatchOption, add-one, not, option_map, remove, slice_index_or, zip, ⊎_elim, ◌&&◌, ◌*◌}
pub use Rattle.std.proofs.lemmas.Bool.{cases_Bool, eq-eqb, cases_lt, eqb-true}
pub use Rattle.std.proofs.lemmas.Bool.Decides.{nat_tests}
pub use Rattle.std.proofs.lemmas.Grind.{fold-append}
pub use Rattle.std.proofs.lemmas.List.{map-append, length-map, length-set, take_more}
pub use Rattle.std.proofs.lemmas.List.Elements.{filter_map-append, filter-append}
pub use Rattle.std.proofs.lemmas.Option.{slice_get_within, get_or_from_slice_get, same_Some, slice_get-get_or}
pub use Rattle.std.proofs.lemmas.Option.{slice_get_read, none-some}
pub use Rattle.std.specs.List.{AllByRecursion, list_any}
pub use Rattle.std.specs.Prelude.{unwrap_or, ⊤}
pub use Rattle.std.specs.declared.alloc.Global.{Global}
pub use Rattle.arrayvec.specs.ArrayVec.{ArrayVec}
pub use Rattle.rtrb.specs.Ring.{known_items, SameConsumer}
pub use Rattle.rtrb.specs.declared.AnyItems.{AnyItems}
pub use Rattle.rtrb.specs.declared.consumer.Consumer.{Consumer}
pub use Rattle.rtrb.specs.declared.producer.Producer.{Producer}
pub use Rattle.rdm_wire.specs.Devices.{uids_of}
pub use Rattle.rdm_wire.specs.Lists.{EachAfter}
pub use Rattle.rdm_wire.specs.declared.device.Device.{Device}
pub use Rattle.rdm_wire.specs.declared.request.Request.{Request}
pub use Rattle.rdm_join.specs.declared.event.LineEvent.{LineEvent}
pub use Rattle.rdm_agent.specs.declared.fault.AgentFault.{AgentFault}
pub use Rattle.rdm_agent.specs.declared.kind.Kind.{Kind}
pub use Rattle.rdm_line.specs.Events.{Exchange, Makes}
pub use Rattle.rdm_log.proofs.LogLemmas.AskFacts.{ask_facts}
pub use Rattle.rdm_log.proofs.LogLemmas.ClientFacts.{client_facts}
pub use Rattle.rdm_log.proofs.LogLemmas.Grows.{front}
pub use Rattle.rdm_log.proofs.LogLemmas.Indices.{slice_get-append_left, slice_get-push}
pub use Rattle.rdm_log.proofs.LogLemmas.LegalFacts.{legal_facts}
pub use Rattle.rdm_log.proofs.LogLemmas.PushLemmas.{answered-append, awaited-push, answers-push}
pub use Rattle.rdm_log.proofs.LogLemmas.PushLemmas.{finishes-append, is_closed-push, is_paused-push, sends-push}
pub use Rattle.rdm_log.proofs.LogLemmas.RunLemmas.{last_run_same}
pub use Rattle.rdm_log.proofs.PromiseLemmas.StableResults.{filter_has}
pub use Rattle.rdm_log.specs.declared.config.Setup.{Setup}
pub use Rattle.rdm_log.specs.declared.entry.Call.{Call}
pub use Rattle.rdm_log.specs.declared.entry.Cause.{Cause}
pub use Rattle.rdm_log.specs.declared.entry.ClientId.{ClientId}
pub use Rattle.rdm_log.specs.declared.entry.Entry.{Entry}
pub use Rattle.rdm_log.specs.declared.entry.Entry.TheVariants.{Answer, Finish, Refuse, Accept, Ask, Came, Close}
pub use Rattle.rdm_log.specs.declared.entry.Entry.TheVariants.{Collect, Join, Send, Pause, Resume}
pub use Rattle.rdm_log.specs.declared.entry.Opening.{Opening}
pub use Rattle.rdm_log.specs.declared.entry.Owner.{Owner}
pub use Rattle.rdm_log.specs.declared.fault.WorkFault.{WorkFault}
pub use Rattle.rdm_log.specs.declared.fault.LogFull.{LogFull}
pub use Rattle.rdm_log.specs.declared.outcome.AskCompletion.{AskCompletion}
pub use Rattle.rdm_log.specs.log.Clients.{outstanding_discoveries, outstanding_requests, accepts_by, asks_by, collected}
pub use Rattle.rdm_log.specs.log.Clients.{collects_by, is_answer_to, uncollected}
unfoldable pub use Rattle.rdm_log.specs.log.Clients.{answers_to}
pub use Rattle.rdm_log.specs.log.Entries.{answered_of, join_of, Answered, AskedDiscovery, collector_of}
unfoldable pub use Rattle.rdm_log.specs.log.Entries.{answers, joins, asks, collectors, exchanges, finishes, accepts}
unfoldable pub use Rattle.rdm_log.specs.log.Entries.{cames, sends, traded}
pub use Rattle.rdm_log.specs.log.History.{places, next_ask, can_pause, can_resume, next_request}
unfoldable pub use Rattle.rdm_log.specs.log.History.{is_closed, is_paused, awaited}
pub use Rattle.rdm_log.specs.log.Legal.{Legal, MayFollow}
pub use Rattle.rdm_log.specs.log.LogState.{LogState, grown, is_full_log, free_entries}
pub use Rattle.rdm_log.specs.log.MaySend.{NoSend, MayBegin}
pub use Rattle.rdm_log.specs.log.Refusals.{ask_fault_at, work_fault, work_fault_at}
pub use Rattle.rdm_log.specs.declared.work.Work.{Work}
pub use Rattle.rdm_log.specs.log.Runs.{answer_devices, devices_run, known_devices}
pub use Rattle.rdm_log.specs.promises.Blocks.{GrowsBy, AllResults, is_result, WorkAdds, WorkLogs, number_or_fault}
pub use Rattle.rdm_log.specs.promises.Blocks.{UnlessFull, CloseAdds, CloseAddsWhere, CollectAdds, PauseLogs, ResumeLogs}
pub use Rattle.rdm_log.specs.promises.Outcomes.{OutcomeValue, outcome_of, Discovered, refused_outcome}
pub use Rattle.rdm_log.specs.promises.Outcomes.{is_closed_refusal, never_begun, closed_number, is_client, outcome_value}
pub use Rattle.rdm_log.specs.promises.Outcomes.{told}
pub use Rattle.rdm_log.specs.promises.Outcomes.OutcomeValue.{DiscoveryValue}
pub use Rattle.rdm_client.specs.Desks.{Held}
pub use Rattle.rdm_client.specs.declared.view.DeviceView.{DeviceView}
pub use Rattle.rdm_lanes.specs.Calls.{is_work, call_by}
unfoldable pub use Rattle.rdm_lanes.specs.Calls.{work_in, calls_by}
pub use Rattle.rdm_lanes.specs.Clients.{SameClient}
pub use Rattle.rdm_lanes.specs.Ends.{end_rings, Agrees, AllAgree, AllShowSame, PairUp, end_got}
pub use Rattle.rdm_lanes.specs.Lanes.{LaneFits, AllFit, SameLane, SameLanes, FitsBut, is_leave, lane_places}
pub use Rattle.rdm_lanes.specs.Lines.{IsBetweenTurns, SameSwitches, Exchanged, exchange_count, NoCallLost}
pub use Rattle.rdm_lanes.specs.Opened.{opened_with, AreNew, join_entries}
pub use Rattle.rdm_lanes.specs.Operators.{switch_of}
unfoldable pub use Rattle.rdm_lanes.specs.Operators.{switches, effective}
pub use Rattle.rdm_lanes.specs.Pairs.{ArePair, Rings, client_rings, ClientsPair}
pub use Rattle.rdm_lanes.specs.Told.{value_in}
unfoldable pub use Rattle.rdm_lanes.specs.Told.{values_in, uncollected_values, told_values}
pub use Rattle.rdm_lanes.specs.Turns.{AreTurns, IsTurn}
pub use Rattle.rdm_lanes.specs.Views.{all_views, last_view_run, opening_view, views_found, AreViews, RisesAbove}
pub use Rattle.rdm_lanes.specs.Views.{found_after, is_last, last_number, view_of, with_found, with_run}
unfoldable pub use Rattle.rdm_lanes.specs.Views.{last_view, last_found, runs_found}
pub use Rattle.rdm_lanes.specs.body.Counts.{IsCounted}
pub use Rattle.rdm_lanes.specs.body.Doing.{AreDone, DoesAt, IsMoved, IsServed, MovesFor, StepsAlone}
pub use Rattle.rdm_lanes.specs.body.Gains.{GainOneAtMost}
pub use Rattle.rdm_lanes.specs.body.Holding.{HoldsFor}
pub use Rattle.rdm_lanes.specs.body.Opening.{AreNewWith, HoldNothing}
pub use Rattle.rdm_lanes.specs.body.Operated.{IsOperated}
pub use Rattle.rdm_lanes.specs.body.Quiet.{NoExchange, OnlyCollects}
pub use Rattle.rdm_lanes.specs.body.Serving.{IsOnlyTold, MayMake, HasRefusalSlot, StepsFor}
pub use Rattle.rdm_lanes.specs.body.Showing.{Publishes, Publishing, NoneLater, AreShownFirst}
pub use Rattle.rdm_lanes.specs.declared.call.ClientCall.{ClientCall}
pub use Rattle.rdm_lanes.specs.declared.call.ClientCall.TheVariants.{Discover, Submit, Leave}
pub use Rattle.rdm_lanes.specs.declared.call.OperatorCall.{OperatorCall}
pub use Rattle.rdm_lanes.specs.declared.client.RingClient.{RingClient}
pub use Rattle.rdm_lanes.specs.declared.client.ends.ClientEnd.{ClientEnd}
pub use Rattle.rdm_lanes.specs.declared.ring_outcome.RingOutcome.{RingOutcome}
pub use Rattle.rdm_lanes.specs.declared.ring_outcome.RingOutcome.TheVariants.{Discovery}
pub use Rattle.rdm_lanes.specs.declared.views.history.ViewHistory.{Ghosts}
pub use Rattle.rdm_lanes.specs.declared.worker.Worker.{Worker}
pub use Rattle.rdm_lanes.specs.declared.worker.lane.Lane.{Lane}
