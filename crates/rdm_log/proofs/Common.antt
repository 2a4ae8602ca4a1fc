-- The names that many proofs here cite, passed on from one place. Declares nothing.
pub use Rattle.std.proofs.Common.{refl, ◌≡◌, List, [], ℕ, ◌∷◌, Some, ◌++◌, ap, sym, ◌∙◌, arith, false, true, inr, inl}
pub use Rattle.std.proofs.Common.{None, length, slice_get, ◌≤◌, Option, Bool, ◌<◌, ◌+◌, suc, append-nil, zero}
pub use Rattle.std.proofs.Common.{append_assoc, drop, take, if◌then◌else◌, map, filter, filter_map, ◌-◌, length-append}
pub use Rattle.std.proofs.Common.{fold, length-drop, cond, get_or, subst, zip, add-one, add-zero, not}
pub use Rattle.std.proofs.Common.{one-add, replicate, suc-add, sum, true≢false, zero-add, ◌%◌}
pub use Rattle.std.proofs.lemmas.Bool.{false≢true, cases_Bool, eqb-true, eq-eqb, cases_lt, leb-false, or_parts, le-leb}
pub use Rattle.std.proofs.lemmas.Bool.{leb-true, lt-leb, ne_eqb, or_cases, or_left, or_right}
pub use Rattle.std.proofs.lemmas.List.{length_push, map-append, take-append-drop, append_cancel_left, length-map}
pub use Rattle.std.proofs.lemmas.List.{length-take-le, drop-append-le}
pub use Rattle.std.proofs.lemmas.List.Elements.{filter-append, filter_map-append, Contains-append_left, filter_passes}
pub use Rattle.std.proofs.lemmas.List.Elements.{recursion_from_All}
pub use Rattle.std.proofs.lemmas.List.Folds.{list_any_at, list_any-append}
pub use Rattle.std.proofs.lemmas.List.Sums.{fold_push}
pub use Rattle.std.proofs.lemmas.Option.{none-some, same_Some, slice_get_within, slice_get-get_or, slice_get-map}
pub use Rattle.std.proofs.lemmas.Option.{get_or_from_slice_get}
pub use Rattle.std.specs.List.{AllByRecursion, Contains, list_any, cons_option, range_with_len, before_first}
pub use Rattle.std.specs.List.{position_or_len}
pub use Rattle.std.specs.Prelude.{◌⊎◌, ◌==◌, ◌≢◌, Ok, Err, ◌||◌, option_map, Result, nat_le, MatchOption}
pub use Rattle.std.specs.Prelude.{option_and_then, ◌&&◌}
pub use Rattle.arrayvec.specs.ArrayVec.{ArrayVec}
pub use Rattle.rdm_wire.proofs.EachAfterLemmas.{EachAfter-push}
pub use Rattle.rdm_wire.specs.CommandFrames.{unmute_frame}
pub use Rattle.rdm_wire.specs.Devices.{uids_of, device_with}
pub use Rattle.rdm_wire.specs.Honest.{Seen, Asked, HonestTrace}
pub use Rattle.rdm_wire.specs.Honest.Asked.{Unmute, Mute, Branch}
pub use Rattle.rdm_wire.specs.Honest.Heard.{Failed, Acked, Silent}
pub use Rattle.rdm_wire.specs.Lists.{EachAfter}
pub use Rattle.rdm_wire.specs.Uid.{has}
pub use Rattle.rdm_wire.specs.declared.device.Device.{Device}
pub use Rattle.rdm_wire.specs.declared.fault.NoMemory.{NoMemory}
pub use Rattle.rdm_wire.specs.declared.request.Request.{Request}
pub use Rattle.rdm_join.specs.Result.{Joined}
pub use Rattle.rdm_join.specs.declared.event.LineEvent.{LineEvent}
pub use Rattle.rdm_join.specs.declared.event.LineEvent.TheVariants.{Reply}
pub use Rattle.rdm_join.specs.declared.status.Status.{Status}
pub use Rattle.rdm_join.specs.declared.status.Status.TheVariants.{Completed, FailedToSend, Timeout}
pub use Rattle.rdm_agent.proofs.SampleCertificate.{certified}
pub use Rattle.rdm_agent.specs.Cause.{IsCorrupt}
pub use Rattle.rdm_agent.specs.Certificate.{Certificate}
pub use Rattle.rdm_agent.specs.Machine.{AgentState, Runs, fed_all, next_of, start}
pub use Rattle.rdm_agent.specs.Run.{IsReport, acked_in, devices_in}
pub use Rattle.rdm_agent.specs.SampleRun.{sample_run}
pub use Rattle.rdm_agent.specs.declared.fault.AgentFault.{AgentFault}
pub use Rattle.rdm_agent.specs.declared.fault.AgentFault.TheVariants.{Aborted, LineFailed, Exhausted}
pub use Rattle.rdm_agent.specs.declared.kind.Kind.{Kind}
pub use Rattle.rdm_agent.specs.declared.kind.Kind.TheVariants.{Full, Incremental}
pub use Rattle.rdm_log.specs.declared.entry.Call.{Call}
pub use Rattle.rdm_log.specs.declared.entry.Cause.{Cause}
pub use Rattle.rdm_log.specs.declared.entry.ClientId.{ClientId}
pub use Rattle.rdm_log.specs.declared.entry.Entry.{Entry}
pub use Rattle.rdm_log.specs.declared.entry.Entry.TheVariants.{Answer, Finish, Send, Came, Accept, Ask, Close, Collect}
pub use Rattle.rdm_log.specs.declared.entry.Entry.TheVariants.{Join, Pause, Resume, Refuse}
pub use Rattle.rdm_log.specs.declared.entry.Opening.{Opening}
pub use Rattle.rdm_log.specs.declared.entry.Owner.{Owner}
pub use Rattle.rdm_log.specs.declared.event.Event.{Event}
pub use Rattle.rdm_log.specs.declared.fault.WorkFault.{WorkFault}
pub use Rattle.rdm_log.specs.declared.outcome.BoxedOutcome.{BoxedOutcome}
pub use Rattle.rdm_log.specs.declared.outcome.Outcome.{Outcome}
pub use Rattle.rdm_log.specs.declared.work.Work.{Work}
pub use Rattle.rdm_log.specs.log.Clients.{is_answer_to, client_of_discovery, uncollected, client_of_request}
pub use Rattle.rdm_log.specs.log.Clients.{collects_by, is_client_of, outstanding_discoveries, outstanding_requests}
pub use Rattle.rdm_log.specs.log.Clients.{collected, accepts_by, asks_by}
unfoldable pub use Rattle.rdm_log.specs.log.Clients.{answers_to}
pub use Rattle.rdm_log.specs.log.Due.{GoesOn, NothingDue, AllAnswered, has_answer}
pub use Rattle.rdm_log.specs.log.Entries.{Answered, answered_of, Accepted, AskedDiscovery, Sending, asked_of, Finished}
pub use Rattle.rdm_log.specs.log.Entries.{sending_of, came_of, finished_of, accepted_of, collector_of, is_run}
pub use Rattle.rdm_log.specs.log.Entries.{is_request, traded_of, verdict_on, OwnedExchange}
unfoldable pub use Rattle.rdm_log.specs.log.Entries.{answers, asks, accepts, finishes, sends, cames, result, collectors}
unfoldable pub use Rattle.rdm_log.specs.log.Entries.{joins, traded, of_request, verdicts}
pub use Rattle.rdm_log.specs.log.History.{unanswered, unfinished, next_client, next_request, awaits_after, can_pause}
pub use Rattle.rdm_log.specs.log.History.{can_resume, next_ask, closed_after, next_tn, places}
unfoldable pub use Rattle.rdm_log.specs.log.History.{is_closed, awaited, is_paused}
pub use Rattle.rdm_log.specs.log.Legal.{MayFollow, Legal}
pub use Rattle.rdm_log.specs.log.LogState.{LogState, grown, is_full_log, with_entries}
pub use Rattle.rdm_log.specs.log.MayAnswer.{MayAnswer}
pub use Rattle.rdm_log.specs.log.MayFinish.{MayFinish, FitsResult, IsClosing}
pub use Rattle.rdm_log.specs.log.MaySend.{MayBegin, MaySendRequest, MaySendRun, MaySend}
pub use Rattle.rdm_log.specs.log.Refusals.{ask_fault, submit_fault, join_fault, work_fault, work_fault_at}
pub use Rattle.rdm_log.specs.log.Refusals.{number_of_work_fault}
pub use Rattle.rdm_log.specs.log.Runs.{open_run, served, asked_before, is_answered, run_kind, answer_devices}
pub use Rattle.rdm_log.specs.log.Runs.{known_at_run, known_devices, unserved, sends_run, unless_answered, devices_of}
pub use Rattle.rdm_log.specs.log.Runs.{if_without_fault, reported_devices, run_devices, run_frames, run_of_owner}
unfoldable pub use Rattle.rdm_log.specs.log.Runs.{has_begun, run_exchanges, last_run, entries_before_run}
unfoldable pub use Rattle.rdm_log.specs.log.Runs.{last_run_without_fault}
pub use Rattle.rdm_log.specs.promises.Blocks.{CloseAddsWhere, join_refused, SwitchAdds, WorkAdds, WorkLogs}
pub use Rattle.rdm_log.specs.promises.Blocks.{work_accepted, work_refused, IsOldest, IsWithResults}
pub use Rattle.rdm_log.specs.promises.Discoveries.{numbers_asked, AnswersReportTheLine}
pub use Rattle.rdm_log.specs.promises.EventsHeadline.{AnsweredAt, IsOwnOutcome, ReportsTheLine, brings, answer_to}
pub use Rattle.rdm_log.specs.promises.EventsHeadline.{HasMost}
pub use Rattle.rdm_log.specs.promises.Explains.{Explains, Adds, IsAnswered}
pub use Rattle.rdm_log.specs.promises.Headline.{numbers_accepted, Begins}
pub use Rattle.rdm_log.specs.promises.InBound.{AnswersInBound, FaultNeedsClose, IsCalmRun, IsNoisyRun, IsCalmOrNoisy}
pub use Rattle.rdm_log.specs.promises.Outcomes.{outcome_of, OutcomeValue, completion_of, discovered, outcome_value}
pub use Rattle.rdm_log.specs.promises.Outcomes.{unboxed}
pub use Rattle.rdm_log.specs.promises.Outcomes.OutcomeValue.{DiscoveryValue, RequestValue}
pub use Rattle.rdm_log.specs.samples.Sample.{sample_request, sample_frame, join_only, sample_opening, accepted_one}
pub use Rattle.rdm_log.specs.samples.Sample.{closed_log, collected_one, finished_one, logged_with, sent_one}
pub use Rattle.rdm_log.specs.samples.SampleParts.{second_frame}
pub use Rattle.rdm_log.specs.samples.SampleRuns.{first_client, source, aborted_log, answered_failed, asked_during}
pub use Rattle.rdm_log.specs.samples.SampleRuns.{asked_one, begun_run, came_with, device}
