-- The names that many proofs here cite, passed on from one place. Declares nothing.
pub use Rattle.std.proofs.Common.{◌≡◌, refl, List, sym, ℕ, ap, arith, true, ◌∙◌, [], ◌∷◌, false, subst, None, Some, ◌+◌}
pub use Rattle.std.proofs.Common.{inr, ◌++◌, inl, length, true≢false, ◌≤◌, Bool, ◌<◌, cond, Option, take, append_assoc}
pub use Rattle.std.proofs.Common.{not, suc, ◌&&◌, ◌*◌, ◌^◌, zero, ◌-◌, map, append-nil, drop, ◌/◌, ◌||◌, ap₂, bytes_eq}
pub use Rattle.std.proofs.Common.{fold, one-add, rules}
pub use Rattle.std.proofs.Math.Bool.{or-true}
pub use Rattle.std.proofs.Math.Nat.{pow-suc}
pub use Rattle.std.proofs.Math.Pow.{pow_pos}
pub use Rattle.std.proofs.lemmas.Bool.{eqb-true, cond_both, eq-eqb, eqb-false, and_parts, or_cases, cases_Bool}
pub use Rattle.std.proofs.lemmas.Bool.{and_from, le-leb, ltb-false, leb-true, ltb-true, not-true, cases_lt, cond-false}
pub use Rattle.std.proofs.lemmas.Bool.{lt-ltb, or_left, or_right}
pub use Rattle.std.proofs.lemmas.Option.{none-some, same_Some}
pub use Rattle.std.proofs.lemmas.List.{length_push, length-map}
pub use Rattle.std.specs.List.{AllByRecursion, cons_option, before_first}
pub use Rattle.std.specs.Prelude.{◌⊎◌, ◌==◌, nat_lt, ◌≢◌, MatchOption, filter, nat_le, MatchBool, replicate, filter_map}
pub use Rattle.std.specs.Prelude.{◌↔◌, IfNone, IfSome, if◌then◌else◌, min}
pub use Rattle.rdm_wire.proofs.DeviceLemmas.{uids_of-with_device}
pub use Rattle.rdm_wire.proofs.EachAfterLemmas.{EachAfter-push}
pub use Rattle.rdm_wire.specs.Devices.{uids_of, with_device}
pub use Rattle.rdm_wire.specs.Honest.{Seen, Heard, Asked, LineState, is_acked, before_run, HonestStep, HonestTo}
pub use Rattle.rdm_wire.specs.Honest.{HonestTrace, Chain, LineCounts, due_in, KeepsMuted, MuteMoves, HonestToStep}
pub use Rattle.rdm_wire.specs.Honest.{lost_after}
pub use Rattle.rdm_wire.specs.Honest.Asked.{Mute, Branch, Unmute, Other}
pub use Rattle.rdm_wire.specs.Honest.Heard.{Silent, Acked, Failed, One, Noise}
pub use Rattle.rdm_wire.specs.HonestOver.{HonestOver}
pub use Rattle.rdm_wire.specs.Noisy.{has_bytes, NoisyTrace, NoisyTo, NoisyStep, NoisyToStep, MuteMovesInNoise}
pub use Rattle.rdm_wire.specs.Lists.{once, EachAfter}
pub use Rattle.rdm_wire.specs.Span.{Span, whole, lower_half, middle, upper_half}
pub use Rattle.rdm_wire.specs.Uid.{has, IsDevice, IsDeviceSet, is_within, set_of, IsAscending, with_uid, is_broadcast}
pub use Rattle.rdm_wire.specs.declared.branch.BranchReply.{BranchReply}
pub use Rattle.rdm_wire.specs.declared.device.Device.{Device}
pub use Rattle.rdm_wire.specs.declared.mute_ack.MuteAck.{MuteAck}
pub use Rattle.rdm_wire.specs.declared.uid_set.TheConstants.{MOST_DEVICES}
pub use Rattle.rdm_agent.specs.Bound.{EndsWithin, enough_by}
pub use Rattle.rdm_agent.specs.Calls.{next_op, HasRunBy, RunSoFar, op_of}
pub use Rattle.rdm_agent.specs.Cause.{IsCorrupt, Cause, AllReported, EndsFailed, IsCorruptBy}
pub use Rattle.rdm_agent.specs.Cause.{answered_again, answers_in_a_row}
pub use Rattle.rdm_agent.specs.Certificate.{SearchShows, known_of, Certificate, IsTried, IsCleared, MutesNamed}
pub use Rattle.rdm_agent.specs.Machine.{AgentState, Phase, found_uids, fed, is_new, fault_of, heard_by_phase, Runs}
pub use Rattle.rdm_agent.specs.Machine.{start_by, sweep_on, to_phase, wanted, counted, search_below}
pub use Rattle.rdm_agent.specs.Beliefs.{is_whole}
pub use Rattle.rdm_agent.specs.Machine.{sweep_silent, to_found, is_wanted}
pub use Rattle.rdm_agent.specs.Beliefs.{believed_silent, is_one}
pub use Rattle.rdm_agent.specs.Machine.{next_of, search_from, split, sweep_apart, branch_heard}
pub use Rattle.rdm_agent.specs.Beliefs.{believed_apart}
pub use Rattle.rdm_agent.specs.Machine.{first_phase, is_last, known_heard, mute_heard, start, sweep_heard}
pub use Rattle.rdm_agent.specs.Machine.{sweep_suspecting, swept_heard, unassigned, sweep_on_after, sweep_split}
pub use Rattle.rdm_agent.specs.Machine.{counted_silent, counted_spelt, sweep_spelt, is_stray}
pub use Rattle.rdm_agent.specs.Beliefs.{hushing, hearing}
pub use Rattle.rdm_agent.specs.Machine.{check_silent, check_heard, stray_heard, search_whole, asks_again, is_soon}
pub use Rattle.rdm_agent.specs.Machine.{spare_at, spent_more, search_apart, search_silent, search_read}
pub use Rattle.rdm_agent.specs.Machine.{known_lost, mute_lost, swept_lost, stray_lost, bads_aside}
pub use Rattle.rdm_agent.specs.Machine.{garbled_mutes, sweep_limit, limit_of}
pub use Rattle.rdm_agent.specs.Beliefs.{is_checked_again, stray_found, give_up, is_in_vain}
unfoldable pub use Rattle.rdm_agent.specs.Machine.{choose}
pub use Rattle.rdm_agent.specs.Machine.Phase.{Searching, Ended, MutingKnown, MutingRead, MutingSwept, Sweeping}
pub use Rattle.rdm_agent.specs.Machine.Phase.{Unmuting, Checking, MutingStray}
pub use Rattle.rdm_agent.specs.OpFrames.{op_frame}
pub use Rattle.rdm_agent.specs.Run.{acked_in, InSuccession, IsLostMute, IsSilentBranch, is_branch, muted_by, acked_uid}
pub use Rattle.rdm_agent.specs.Run.{muted_in, FailureIsLast, muted_uid, read_in, acked_by, device_from, heard_by}
pub use Rattle.rdm_agent.specs.Run.{reported, seen_op, AsFirstAcked, asked_by, asks_range}
pub use Rattle.rdm_agent.specs.SampleRun.{sample_uid, exchange, all_branch, sample_device, sample_run}
pub use Rattle.rdm_agent.specs.Statements.{IsInEach, IsInOne, IsInOrder}
pub use Rattle.rdm_agent.specs.body.AgentFields.{state_of, seen_phase}
pub use Rattle.rdm_agent.specs.body.Sound.{IsStack}
pub use Rattle.rdm_agent.specs.declared.belief.Belief.{Belief}
pub use Rattle.rdm_agent.specs.declared.fault.AgentFault.{AgentFault}
pub use Rattle.rdm_agent.specs.declared.fault.AgentFault.TheVariants.{TooMany, Exhausted, LineFailed}
pub use Rattle.rdm_agent.specs.declared.kind.Kind.{Kind}
pub use Rattle.rdm_agent.specs.declared.kind.Kind.TheVariants.{Full, Incremental}
pub use Rattle.rdm_agent.specs.declared.limits.TheConstants.{TRIES, UNMUTES, DEFAULT_BUDGET, BAD_ANSWERS}
pub use Rattle.rdm_agent.specs.declared.op.Op.{Op}
pub use Rattle.rdm_agent.specs.declared.op.Op.TheVariants.{End}
pub use Rattle.rdm_agent.specs.declared.op.OpReply.{OpReply}
pub use Rattle.rdm_agent.specs.declared.search.Search.{Search}
pub use Rattle.rdm_agent.specs.declared.search.Search.TheVariants.{Steady, Quick}
pub use Rattle.rdm_agent.specs.declared.sweep.Sweep.{Sweep}
