-- The names that many proofs here cite, passed on from one place. Declares nothing.
pub use Rattle.std.proofs.Common.{◌∙◌, sym, ◌≡◌, refl, [], ◌∷◌, ap, arith, Some, List, length, slice_get, None, true, ℕ}
pub use Rattle.std.proofs.Common.{false, ◌++◌, ◌<◌, ◌≤◌, Option, subst, Bool, inl, ◌+◌, get_or, inr, ◌==◌, ◌⊎◌}
pub use Rattle.std.proofs.Common.{if◌then◌else◌, suc, filter, set, length-append, map, zero, not, ◌-◌, ◌||◌, ◌≢◌, drop}
pub use Rattle.std.proofs.Common.{is_some, cond, option_map, rules, tests, IfNone, IfSome, append-nil, nat_le, nat_lt}
pub use Rattle.std.proofs.Common.{take, append_assoc, filter_map, sum, ◌&&◌, MatchOption, Ok, OnSome, option_and_then}
pub use Rattle.std.proofs.Common.{slice_index, vec_capacity, ◌%◌, Err, IfErr, IfOk, OnErr, Result, vec_len, zero-add}
pub use Rattle.std.proofs.Common.{zip, ◌*◌}
pub use Rattle.std.proofs.lemmas.Bool.{false≢true, eq-eqb, cases_Bool, cases_lt, ne_eqb, cases_eq, eqb-true, ltb-false}
pub use Rattle.std.proofs.lemmas.Bool.{le-leb, or_parts, lt-leb, lt-ltb, ltb-true}
pub use Rattle.std.proofs.lemmas.Iterator.{YieldsList-from_slice, YieldsList-from_map}
pub use Rattle.std.proofs.lemmas.Iterator.Consumers.{fits_by_from_yields_list, sum_by_from_yields_List}
pub use Rattle.std.proofs.lemmas.List.{length-map, get_or-set_other, get_or-set_same, get_or_past, length-drop}
pub use Rattle.std.proofs.lemmas.List.{length-set, map-append, take_all}
pub use Rattle.std.proofs.lemmas.List.Elements.{filter-append}
pub use Rattle.std.proofs.lemmas.List.Folds.{list_any-append}
pub use Rattle.std.proofs.lemmas.List.Sums.{sum_by-append, sum_by-cons}
pub use Rattle.std.proofs.lemmas.Option.{none-some, slice_get-get_or, same_Some}
pub use Rattle.std.specs.List.{AllByRecursion, list_any}
pub use Rattle.std.specs.VecDeque.{deque_len, deque_capacity}
pub use Rattle.arrayvec.specs.ArrayVec.{ArrayVec}
pub use Rattle.rdm_wire.specs.Lists.{EachAfter}
pub use Rattle.rdm_wire.specs.Uid.{IsAscending}
pub use Rattle.rdm_wire.specs.declared.device.Device.{Device}
pub use Rattle.rdm_wire.specs.declared.request.Request.{Request}
pub use Rattle.rdm_join.specs.JoinerStanding.{JoinerStanding}
pub use Rattle.rdm_join.specs.Result.{Joined, result_of, ended, or_if_open}
pub use Rattle.rdm_join.specs.Verdict.{sent_by, verdict}
pub use Rattle.rdm_join.specs.body.Standing.{StandsAt}
pub use Rattle.rdm_join.specs.declared.event.LineEvent.{LineEvent}
pub use Rattle.rdm_join.specs.declared.status.Status.{Status}
pub use Rattle.rdm_join.specs.declared.status.Status.TheVariants.{FailedToSend}
pub use Rattle.rdm_join.specs.declared.verdict.Judged.{Judged}
pub use Rattle.rdm_join.specs.declared.verdict.Sent.{Sent}
pub use Rattle.rdm_agent.proofs.CallLemmas.{aborted_ends, runs-own}
pub use Rattle.rdm_agent.specs.Calls.{next_op, HasRunBy}
pub use Rattle.rdm_agent.specs.Machine.{AgentState, fault_of}
pub use Rattle.rdm_agent.specs.OpFrames.{op_frame}
pub use Rattle.rdm_agent.specs.Run.{asked_by}
pub use Rattle.rdm_agent.specs.declared.fault.AgentFault.{AgentFault}
pub use Rattle.rdm_agent.specs.declared.fault.AgentFault.TheVariants.{Aborted}
pub use Rattle.rdm_agent.specs.declared.kind.Kind.{Kind}
pub use Rattle.rdm_agent.specs.declared.op.Op.{Op}
pub use Rattle.rdm_agent.specs.declared.op.Op.TheVariants.{End}
pub use Rattle.rdm_log.proofs.BoundLemmas.{block_more}
pub use Rattle.rdm_log.proofs.LogLemmas.AgentLemmas.{agent_goes_on}
pub use Rattle.rdm_log.proofs.LogLemmas.AskFacts.{ask_facts, AskFacts, unanswered_index}
pub use Rattle.rdm_log.proofs.LogLemmas.BegunLemmas.{all_unserved, asked_fewer}
pub use Rattle.rdm_log.proofs.LogLemmas.ClientFacts.{client_facts, ClientFacts}
pub use Rattle.rdm_log.proofs.LogLemmas.ClientLemmas.{answers_same}
pub use Rattle.rdm_log.proofs.LogLemmas.ExchangeLemmas.{IsUnanswered, verdicts_same, verdicts_sent, verdicts_unsent}
pub use Rattle.rdm_log.proofs.LogLemmas.Grows.{pushed, empty}
pub use Rattle.rdm_log.proofs.LogLemmas.Indices.{index_within, slice_get_first, all_at, all_from_indices}
pub use Rattle.rdm_log.proofs.LogLemmas.Indices.{slice_get-drop}
pub use Rattle.rdm_log.proofs.LogLemmas.LegalFacts.{LogFacts, legal_facts, unfinished_number, IsAwaited, IsRunAwaited}
pub use Rattle.rdm_log.proofs.LogLemmas.LegalFacts.{later_unsent}
pub use Rattle.rdm_log.proofs.LogLemmas.PushLemmas.{is_closed-push, is_paused-push, joins-push, sends-push}
pub use Rattle.rdm_log.proofs.LogLemmas.PushLemmas.{awaited-push, accepts-push, answers-push, asks-push}
pub use Rattle.rdm_log.proofs.LogLemmas.PushLemmas.{cames-push, collectors-push, finishes-push}
pub use Rattle.rdm_log.proofs.LogLemmas.RunFacts.{run_facts}
pub use Rattle.rdm_log.proofs.LogLemmas.RunLemmas.{last_run_same, last_begun, entries_before_run_stays, last_run_sent}
pub use Rattle.rdm_log.proofs.LogLemmas.RunLemmas.{served_stays}
pub use Rattle.rdm_log.proofs.LogLemmas.RunningLemmas.{asked_stays, SameRunning, same_running}
pub use Rattle.rdm_log.proofs.PromiseLemmas.LogInBoundLemmas.{empty_in_bound}
pub use Rattle.rdm_log.proofs.PromiseLemmas.OutcomeLemmas.{answers_passed, outcomes_step, some_at, known_step}
pub use Rattle.rdm_log.specs.declared.config.Setup.{Setup}
pub use Rattle.rdm_log.specs.declared.entry.ClientId.{ClientId}
pub use Rattle.rdm_log.specs.declared.entry.Entry.{Entry}
pub use Rattle.rdm_log.specs.declared.entry.Entry.TheVariants.{Came, Collect, Send, Close, Accept, Answer, Finish, Ask}
pub use Rattle.rdm_log.specs.declared.entry.Entry.TheVariants.{Join, Pause, Resume}
pub use Rattle.rdm_log.specs.declared.entry.Opening.{Opening}
pub use Rattle.rdm_log.specs.declared.entry.Owner.{Owner}
pub use Rattle.rdm_log.specs.declared.fault.JoinFault.{JoinFault}
pub use Rattle.rdm_log.specs.declared.fault.WorkFault.{WorkFault}
pub use Rattle.rdm_log.specs.declared.outcome.Completion.{Completion}
pub use Rattle.rdm_log.specs.declared.outcome.Outcome.{Outcome}
pub use Rattle.rdm_log.specs.declared.work.Work.{Work}
pub use Rattle.rdm_log.specs.log.Clients.{uncollected, is_answer_to}
unfoldable pub use Rattle.rdm_log.specs.log.Clients.{answers_to}
pub use Rattle.rdm_log.specs.log.Entries.{AskedDiscovery, Accepted, Sending, is_request, Answered, is_run}
unfoldable pub use Rattle.rdm_log.specs.log.Entries.{asks, sends, answers, verdicts, accepts, cames, finishes}
unfoldable pub use Rattle.rdm_log.specs.log.Entries.{collectors, result, joins, traded, of_request}
pub use Rattle.rdm_log.specs.log.History.{unfinished, unanswered, was_sent, is_idle, next_tn}
unfoldable pub use Rattle.rdm_log.specs.log.History.{awaited, is_closed, is_paused}
pub use Rattle.rdm_log.specs.log.Legal.{MayFollow, Legal}
pub use Rattle.rdm_log.specs.log.LogState.{grown, LogState, opened}
pub use Rattle.rdm_log.specs.log.MayAnswer.{MayAnswer}
pub use Rattle.rdm_log.specs.log.MayFinish.{FitsResult}
pub use Rattle.rdm_log.specs.log.MaySend.{MaySend, NoSend}
pub use Rattle.rdm_log.specs.log.Refusals.{join_fault, work_fault}
pub use Rattle.rdm_log.specs.log.Runs.{has_begun, is_answered, known_at_run, run_kind, answer_devices, asked_before}
pub use Rattle.rdm_log.specs.log.Runs.{devices_run, entries_before_run, is_full_kind, open_run, run_devices, unserved}
unfoldable pub use Rattle.rdm_log.specs.log.Runs.{last_run, run_exchanges}
pub use Rattle.rdm_log.specs.promises.Blocks.{AllResults, CloseAdds, IsWithResults, RefusesJoin, WorkAdds, is_result}
pub use Rattle.rdm_log.specs.promises.Blocks.{join_refused, work_accepted, work_refused, number_or_fault}
pub use Rattle.rdm_log.specs.promises.InBound.{FaultNeedsClose, AnswersInBound}
pub use Rattle.rdm_log.specs.promises.Outcomes.{OutcomeValue, completion_value, outcome_value, completion_of}
pub use Rattle.rdm_log.specs.promises.Outcomes.{outcome_of, discovery_outcome, oldest_kind, request_outcome}
pub use Rattle.rdm_queue.specs.body.Describes.{Describes, oldest_number, StandsAfter, IsPending, RunIs, StandsAmid}
pub use Rattle.rdm_queue.specs.body.Describes.{IsNotRunning, IsRunning, AwaitsRequest, AwaitsRun, IsLast, RunGoesOn}
pub use Rattle.rdm_queue.specs.body.Ending.{answers_oldest, IsEnded, answer_of, answer_value, one_less, HasNothingDue}
pub use Rattle.rdm_queue.specs.body.Ending.{agent_at_end, devices_after, devices_run_after, stopped_at}
pub use Rattle.rdm_queue.specs.body.Ending.IsEnded.{ByClose, ByResult, ByRun}
pub use Rattle.rdm_queue.specs.body.Fields.{state_of, asked_is, places_of, accepted_is, owed_rings, waiting_rings}
pub use Rattle.rdm_queue.specs.body.Fields.{run_is, waiting_ring}
unfoldable pub use Rattle.rdm_queue.specs.body.Fields.{rings_from}
pub use Rattle.rdm_queue.specs.body.Merged.{AreShares}
unfoldable pub use Rattle.rdm_queue.specs.body.Merged.{merged}
pub use Rattle.rdm_queue.specs.body.QueueInvariant.{QueueInvariant, StateInvariant, served_by}
pub use Rattle.rdm_queue.specs.body.Rings.{owed_values, ClientAnswers, ClientCollects, ClientFinishes, HasSets}
pub use Rattle.rdm_queue.specs.body.Rings.{IsNewClient, first_kind_owed, ClientAccepts, HasRings}
unfoldable pub use Rattle.rdm_queue.specs.body.Rings.{values}
pub use Rattle.rdm_queue.specs.body.Sending.{begun, IsGiven, WhichGives, hears_run, sent_for, to_send}
pub use Rattle.rdm_queue.specs.body.Sending.WhichGives.{Began, Opened, Turned}
pub use Rattle.rdm_queue.specs.body.SessionInvariant.{SessionInvariant, SessionAmid}
pub use Rattle.rdm_queue.specs.body.State.{QueueState, RunState, owed_for, accepts_request, finishes_oldest}
pub use Rattle.rdm_queue.specs.body.State.{first_submit_fault, first_ask_fault, first_join_fault, joins_client, owed_to}
pub use Rattle.rdm_queue.specs.body.State.{collects_oldest, is_discovery, IsStanding, asks_discovery, end_of_oldest}
pub use Rattle.rdm_queue.specs.body.State.{owed_next, owes, GivesResult, StandingAt, finish_of, first_kind, first_state}
pub use Rattle.rdm_queue.specs.body.State.{kind_of_value, outstanding, outstanding_asks, unended, CollectsOldest}
pub use Rattle.rdm_queue.specs.body.State.{OwedOutcome, accepted_as, asked_of, due, is_closing, owed_value}
pub use Rattle.rdm_queue.specs.body.State.{first_fault, number_for, accepts_work}
pub use Rattle.rdm_queue.specs.declared.client.Client.{Client}
pub use Rattle.rdm_queue.specs.declared.client.Owed.{Owed}
pub use Rattle.rdm_queue.specs.declared.client.Waiting.{Waiting}
pub use Rattle.rdm_queue.specs.declared.pending.Asked.{Asked}
pub use Rattle.rdm_queue.specs.declared.pending.Awaited.{Awaited}
pub use Rattle.rdm_queue.specs.declared.queue.Queue.TheInside.{Inside}
pub use Rattle.rdm_queue.specs.promises.EachLog.{IsSetUp}
