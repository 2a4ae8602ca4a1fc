-- Logs with discoveries to compute with: one run that finds one device answers two discoveries, and a request waits.
use Rattle.std.specs.Prelude.{ℕ, List, [], ◌∷◌, ◌++◌, take, true, Some, None, Ok, Err}
use Rattle.std.specs.Global.{Box}
use Rattle.rdm_wire.specs.declared.device.Device.{Device}
use Rattle.rdm_wire.specs.CommandFrames.{branch_frame, mute_frame, unmute_frame}
use Rattle.rdm_join.specs.declared.event.LineEvent.TheVariants.{Reply, Failed}
use Rattle.rdm_agent.specs.declared.kind.Kind.{Kind}
use Rattle.rdm_agent.specs.declared.kind.Kind.TheVariants.{Full, Incremental}
use Rattle.rdm_agent.specs.declared.fault.AgentFault.TheVariants.{LineFailed, Aborted}
use Rattle.rdm_agent.specs.SampleRun.{sample_device}
use Rattle.rdm_log.specs.declared.entry.ClientId.{ClientId}
use Rattle.rdm_log.specs.declared.entry.Opening.{Opening}
use Rattle.rdm_log.specs.declared.entry.Owner.TheVariants as owners
use Rattle.rdm_log.specs.declared.entry.Entry.{Entry}
use Rattle.rdm_log.specs.declared.entry.Entry.TheVariants.{Join, Accept, Ask, Send, Came, Finish, Answer, Pause}
use Rattle.rdm_log.specs.declared.entry.Entry.TheVariants.{Resume, Close, Collect}
use Rattle.rdm_log.specs.declared.outcome.DiscoveryEnd.{DiscoveryEnd}
use Rattle.rdm_log.specs.declared.outcome.BoxedOutcome.TheVariants as boxed
use Rattle.rdm_log.specs.declared.event.Event.{Event}
use Rattle.rdm_log.specs.declared.event.Event.TheVariants as events
use Rattle.rdm_log.specs.declared.event.Answer.{Answer as EventAnswer}
use Rattle.rdm_log.specs.declared.event.Answer.TheVariants as answers
use Rattle.rdm_join.specs.declared.status.Status.TheVariants.{FailedToSend}
use Rattle.rdm_log.specs.log.LogState.{LogState}
use Rattle.rdm_log.specs.samples.Sample.{sample_opening, sample_request}

-- the client 0
abbrev pub first_client : ClientId
first_client = record { 0 = 0 }

-- the controller 7a70:00000100
abbrev pub source : ℕ
source = 0x7a7000000100

-- the device 1234:00000001
abbrev pub device : ℕ
device = 0x123400000001

-- the device's reply to a branch, with seven fe
abbrev pub device_reply : List ℕ
device_reply =
    0xfe ∷ 0xfe ∷ 0xfe ∷ 0xfe ∷ 0xfe ∷ 0xfe ∷ 0xfe ∷ 0xaa ∷ 0xba ∷ 0x57 ∷ 0xbe ∷ 0x75
    ∷ 0xaa ∷ 0x55 ∷ 0xaa ∷ 0x55 ∷ 0xaa ∷ 0x55 ∷ 0xab ∷ 0x55 ∷ 0xae ∷ 0x57 ∷ 0xeb ∷ 0x55 ∷ []

-- its acknowledgement of the mute with transaction number 4: control field 0002, binding UID 1234:00000005
abbrev pub device_ack : List ℕ
device_ack =
    0xcc ∷ 0x01 ∷ 0x20 ∷ 0x7a ∷ 0x70 ∷ 0x00 ∷ 0x00 ∷ 0x01 ∷ 0x00 ∷ 0x12 ∷ 0x34 ∷ 0x00
    ∷ 0x00 ∷ 0x00 ∷ 0x01 ∷ 0x04 ∷ 0x00 ∷ 0x00 ∷ 0x00 ∷ 0x00 ∷ 0x11 ∷ 0x00 ∷ 0x02 ∷ 0x08
    ∷ 0x00 ∷ 0x02 ∷ 0x12 ∷ 0x34 ∷ 0x00 ∷ 0x00 ∷ 0x00 ∷ 0x05 ∷ 0x02 ∷ 0x8b ∷ []

-- a GET of PID 0060 with transaction number 10
abbrev pub tenth_frame : List ℕ
tenth_frame =
    0xcc ∷ 0x01 ∷ 0x18 ∷ 0x12 ∷ 0x34 ∷ 0x00 ∷ 0x00 ∷ 0x00 ∷ 0x01 ∷ 0x7a ∷ 0x70 ∷ 0x00
    ∷ 0x00 ∷ 0x01 ∷ 0x00 ∷ 0x0a ∷ 0x01 ∷ 0x00 ∷ 0x00 ∷ 0x00 ∷ 0x20 ∷ 0x00 ∷ 0x60 ∷ 0x00
    ∷ 0x02 ∷ 0xa2 ∷ []

-- a branch of all UIDs with this transaction number
abbrev pub whole_branch : ℕ → List ℕ
whole_branch tn = branch_frame 0 0xffffffffffff source tn

-- the ten frames of a full run on a line with that device, each with its reply
abbrev pub run_traffic : List (List ℕ × List ℕ)
run_traffic =
    (unmute_frame source 0, []) ∷ (unmute_frame source 1, []) ∷ (unmute_frame source 2, [])
    ∷ (whole_branch 3, device_reply) ∷ (mute_frame device source 4, device_ack)
    ∷ (whole_branch 5, []) ∷ (whole_branch 6, []) ∷ (whole_branch 7, []) ∷ (whole_branch 8, []) ∷ (whole_branch 9, [])
    ∷ []

-- the Send of a frame for run r
abbrev pub sent_for_run : ℕ → List ℕ → Entry
sent_for_run r frame = Send (owners.Run r) (record { items = frame })

-- the Came of a reply with these bytes
abbrev pub came_with : List ℕ → Entry
came_with bytes = Came (Reply (record { items = bytes }))

-- these frames of run r in a log, each with its reply
abbrev pub logged_traffic : ℕ → List (List ℕ × List ℕ) → List Entry
logged_traffic r [] = []
logged_traffic r (e ∷ es) = sent_for_run r e.0 ∷ came_with e.1 ∷ logged_traffic r es

-- while sending is paused, a request is accepted and two discoveries are asked for
abbrev pub waiting_log : List Entry
waiting_log =
    Join first_client 1 ∷ Pause ∷ Accept first_client 0 sample_request ∷ Ask first_client 0 Full
    ∷ Ask first_client 1 Incremental ∷ Resume ∷ []

-- then this many exchanges of the run
abbrev pub run_log : ℕ → List Entry
run_log n = waiting_log ++ logged_traffic 1 (take n run_traffic)

-- then the first discovery is answered
abbrev pub answered_first : List Entry
answered_first = run_log 10 ++ Answer 0 1 None ∷ []

-- then the second discovery is answered by the same run
abbrev pub answered_both : List Entry
answered_both = answered_first ++ Answer 1 1 None ∷ []

-- then the request goes out
abbrev pub request_sent : List Entry
request_sent = answered_both ++ Send (owners.Request 0) (record { items = tenth_frame }) ∷ []

-- a discovery is asked for
abbrev pub asked_one : List Entry
asked_one = Join first_client 1 ∷ Ask first_client 0 Full ∷ []

-- then a run for it begins
abbrev pub begun_run : List Entry
begun_run = asked_one ++ sent_for_run 1 (unmute_frame source 0) ∷ []

-- then another discovery is asked for during the run
abbrev pub asked_during : List Entry
asked_during = begun_run ++ Ask first_client 1 Incremental ∷ []

-- the line fails at the run's first frame
abbrev pub failed_run : List Entry
failed_run = asked_during ++ Came Failed ∷ []

-- then the first discovery is answered with LineFailed
abbrev pub answered_failed : List Entry
answered_failed = failed_run ++ Answer 0 1 (Some LineFailed) ∷ []

-- then the queue is closed
abbrev pub closed_failed : List Entry
closed_failed = answered_failed ++ Close ∷ []

-- then the second discovery is answered with Aborted by run 0
abbrev pub aborted_log : List Entry
aborted_log = closed_failed ++ Answer 1 0 (Some Aborted) ∷ []

-- a run that a close interrupts
abbrev pub closed_run : List Entry
closed_run = begun_run ++ came_with [] ∷ Close ∷ []

-- the sample opening with a device known, and this next transaction number
abbrev pub known_opening : ℕ → Opening
known_opening tn = record sample_opening { devices = sample_device ∷ []; devices_run = 1; next_run = 2; next_tn = tn }

-- the frames of a run from that device: its mute comes first
abbrev pub known_traffic : List (List ℕ × List ℕ)
known_traffic =
    (unmute_frame source 1, []) ∷ (unmute_frame source 2, []) ∷ (unmute_frame source 3, [])
    ∷ (mute_frame device source 4, device_ack)
    ∷ (whole_branch 5, []) ∷ (whole_branch 6, []) ∷ (whole_branch 7, []) ∷ (whole_branch 8, []) ∷ (whole_branch 9, [])
    ∷ []

-- run 2 with that traffic, for a discovery of this kind
abbrev pub second_run : Kind → List (List ℕ × List ℕ) → List Entry
second_run kind traffic = Join first_client 1 ∷ Ask first_client 0 kind ∷ logged_traffic 2 traffic

-- a close finds an open run, a request that waits and a discovery asked for during the run; then silence comes
abbrev pub closed_amid : List Entry
closed_amid =
    begun_run ++ Ask first_client 1 Full ∷ Accept first_client 0 sample_request ∷ Close ∷ came_with [] ∷ []

-- there the run is aborted
abbrev pub aborted_first : List Entry
aborted_first = closed_amid ++ Answer 0 1 (Some Aborted) ∷ []

-- then the request is finished as not sent
abbrev pub then_unsent : List Entry
then_unsent = aborted_first ++ Finish 0 FailedToSend 0 ∷ []

-- the line fails after a close
abbrev pub failed_late : List Entry
failed_late = begun_run ++ Close ∷ Came Failed ∷ []

-- a run on a line without devices, for which eight frames suffice: three unmutes and five branches. It has a budget of
-- eight, and wastes one of them on a mute of a UID that no reply spelt
abbrev pub wasted_traffic : List (List ℕ × List ℕ)
wasted_traffic =
    (unmute_frame source 0, []) ∷ (unmute_frame source 1, []) ∷ (unmute_frame source 2, [])
    ∷ (mute_frame device source 3, [])
    ∷ (whole_branch 4, []) ∷ (whole_branch 5, []) ∷ (whole_branch 6, []) ∷ []

-- that run in a log, up to its eighth frame
abbrev pub wasted_sent : List Entry
wasted_sent = asked_one ++ logged_traffic 1 wasted_traffic ++ sent_for_run 1 (whole_branch 7) ∷ []

-- then silence comes
abbrev pub wasted_run : List Entry
wasted_run = wasted_sent ++ came_with [] ∷ []

-- the sample opening with a budget of eight frames
abbrev pub wasted_opening : Opening
wasted_opening = record sample_opening { budget = 8 }

-- a session with that opening and these entries
abbrev pub wasted_with : List Entry → LogState
wasted_with h = record { opening = wasted_opening; entries = h; room = 40; gone = 0; keeps = true }

-- the log of the failed run, after a Collect
abbrev pub collected_failed : List Entry
collected_failed = aborted_log ++ Collect first_client ∷ []

-- the calls of that log, and before its Collect one for which there is no memory
abbrev pub failing_events : List Event
failing_events =
    events.Join 1 ∷ events.Discover first_client Full ∷ events.Take ∷ events.Discover first_client Incremental
    ∷ events.Deliver Failed ∷ events.Close ∷ events.Collect first_client ∷ events.Collect first_client ∷ []

-- how its first discovery ended
abbrev pub failed_end : DiscoveryEnd
failed_end = record { number = 0; run = 1; fault = Some LineFailed }

-- the answers to these calls; the set of the first discovery is this one
abbrev pub failing_answers : Box (List Device) → List EventAnswer
failing_answers set =
    answers.Join (Ok first_client) ∷ answers.Discover (Ok 0)
    ∷ answers.Take (Ok (Some (record { items = unmute_frame source 0 }))) ∷ answers.Discover (Ok 1)
    ∷ answers.Deliver (Ok tt) ∷ answers.Close ∷ answers.Collect (Err (record {}))
    ∷ answers.Collect (Ok (Some (boxed.Discovery failed_end set))) ∷ []
