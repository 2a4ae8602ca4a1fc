-- The sample logs with runs that end: which runs go on, which frames and answers may follow, and that they are legal.
use Rattle.rdm_log.proofs.Common.{◌≡◌, ℕ, zero, suc, ◌<◌, ◌≤◌, List, [], ◌∷◌, ◌++◌, length, take, map, Some, None, refl}
use Rattle.rdm_log.proofs.Common.{false, sym, ap, ◌∙◌, inl, inr, arith, ◌≢◌, AllByRecursion, false≢true, none-some}
use Rattle.rdm_log.proofs.Common.{EachAfter, unmute_frame, Asked, Seen, Branch, Failed, sample_run, IsCorrupt}
use Rattle.rdm_log.proofs.Common.{AgentState, Runs, start, next_of, fed_all, Full, Incremental, certified, Entry}
use Rattle.rdm_log.proofs.Common.{Answer, joins, accepts, asks, sends, cames, finishes, answers, collectors, traded}
use Rattle.rdm_log.proofs.Common.{of_request, verdicts, result, awaited, is_paused, is_closed, next_tn, unfinished}
use Rattle.rdm_log.proofs.Common.{answers_to, has_begun, entries_before_run, last_run, run_exchanges, run_kind}
use Rattle.rdm_log.proofs.Common.{known_at_run, open_run, run_frames, GoesOn, NothingDue, MayBegin, MaySendRequest}
use Rattle.rdm_log.proofs.Common.{MaySendRun, MayFollow, Legal, sample_opening, sample_request, first_client, source}
use Rattle.rdm_log.proofs.Common.{device, came_with}
use Rattle.rdm_wire.specs.Uid.{IsDeviceSet}
use Rattle.rdm_wire.specs.CommandFrames.{mute_frame}
use Rattle.rdm_agent.specs.Cause.{AllReported}
use Rattle.rdm_agent.specs.Machine.{fed}
use Rattle.rdm_agent.proofs.CertificateEnds.{certificate_ends}
use Rattle.rdm_log.specs.log.MaySend.{IsRunFrame}
use Rattle.rdm_log.specs.samples.SampleRuns.{device_reply, device_ack, tenth_frame, whole_branch, sent_for_run}
use Rattle.rdm_log.specs.samples.SampleRuns.{waiting_log, run_log, answered_first, answered_both, request_sent}
use Rattle.rdm_log.proofs.LogLemmas.Grows.{pushed, empty}
use Rattle.rdm_log.proofs.LogLemmas.PushLemmas.{awaited-push}
use Rattle.rdm_log.proofs.LogLemmas.KeepsLegal.{join_keeps, accept_keeps, ask_keeps, pause_keeps, resume_keeps}
use Rattle.rdm_log.proofs.LogLemmas.KeepsLegal.{send_keeps, run_send_keeps}
use Rattle.rdm_log.proofs.SampleLemmas.SampleLegal.{sample_fits, may_send_oldest}

-- the first exchanges of the sample run: none failed, and none is a branch of one UID
all_take : {X : Type 0} (P : X → Type 0) (xs : List X) (n : ℕ) → AllByRecursion P xs → AllByRecursion P (take n xs)
all_take P xs zero all = tt
all_take P [] (suc n) all = tt
all_take P (x ∷ xs) (suc n) all = (all.0, all_take P xs n all.1)

none_failed : AllByRecursion (λ e. e.heard ≢ Failed) sample_run
none_failed =
    (λ e. cc, (λ e. cc, (λ e. cc, (λ e. cc, (λ e. cc, (λ e. cc, (λ e. cc, (λ e. cc, (λ e. cc, (λ e. cc, tt))))))))))

abbrev IsOfMany : Seen → Type 0
IsOfMany e = (u : ℕ) → e.asked ≡ Branch u u → ⊥

abbrev low_of : Asked → ℕ
low_of (Branch lo hi) = lo
low_of _ = 0

abbrev high_of : Asked → ℕ
high_of (Branch lo hi) = hi
high_of _ = 0

not_single : (u : ℕ) → Branch 0 0xffffffffffff ≡ Branch u u → ⊥
not_single u is =
    let low : 0 ≡ u = ap low_of is in let high : 0xffffffffffff ≡ u = ap high_of is in omega (arith, low, high)

of_many : AllByRecursion IsOfMany sample_run
of_many = (
  λ u e. cc,
  (
    λ u e. cc,
    (
      λ u e. cc,
      (not_single, (λ u e. cc, (not_single, (not_single, (not_single, (not_single, (not_single, tt))))))),
    ),
  ),
)

not_corrupt : (x : List Seen) → AllByRecursion IsOfMany x → (u : ℕ) → IsCorrupt u x → ⊥
not_corrupt x many u c = among x c.before c.mutes many c.whole
  where
    among : (ys before back : List Seen) → AllByRecursion IsOfMany ys
        → ys ≡ before ++ record { asked = Branch u u; heard = c.heard } ∷ back → ⊥
    among [] [] back all w = cc
    among [] (y ∷ before) back all w = cc
    among (z ∷ ys) [] back all w = all.0 u (ap (λ (e : Seen). e.asked) first)
      where
        first : z ≡ record { asked = Branch u u; heard = c.heard }
        first = cc
    among (z ∷ ys) (y ∷ before) back all w = among ys before back all.1 tail
      where
        tail : ys ≡ before ++ record { asked = Branch u u; heard = c.heard } ∷ back
        tail = cc

no_devices : IsDeviceSet []
no_devices = record { devices = tt; ascending = tt }

-- an agent's first exchanges lead it to some state
runs_take : (a b : AgentState) (x : List Seen) (n : ℕ) → Runs a x b
    → Runs a (take n x) (fed_all a (map (λ (e : Seen). e.heard) (take n x)))
runs_take a b x zero runs = refl
runs_take a b [] (suc n) runs = refl
runs_take a b (e ∷ x) (suc n) runs = (runs.0, runs_take (fed a e.heard) b x n runs.1)

-- the agent after this many exchanges of the sample run
abbrev after : ℕ → AgentState
after n = fed_all (start Full [] 96008) (map (λ (e : Seen). e.heard) (take n sample_run))

sample_runs : Runs (start Full [] 96008) sample_run (after 10)
sample_runs = (refl, (refl, (refl, (refl, (refl, (refl, (refl, (refl, (refl, (refl, refl))))))))))

-- a full run during these exchanges goes on
pub goes_on : (h : List Entry) (n : ℕ) (asked : Asked) → run_kind 1 h ≡ Full
    → known_at_run sample_opening 1 h ≡ [] → run_exchanges 1 h ≡ take n sample_run → next_of (after n) ≡ Some asked
    → AllReported (take n sample_run) → length (take n sample_run) < 96008 → GoesOn sample_opening h 1
goes_on h n asked kind known same next reported within = record {
  no_failure = rw same (all_take (λ e. e.heard ≢ Failed) sample_run n none_failed);
  not_corrupt = rw same (not_corrupt (take n sample_run) (all_take IsOfMany sample_run n of_many));
  all_reported = rw same reported;
  in_budget = rw same within;
  not_done = λ done. none-some asked
      (sym (certificate_ends Full [] 96008 (take n sample_run) (after n) no_devices runs _
      (rw (kind, known, same) at done)).0 ∙ next);
}
  where
    runs : Runs (start Full [] 96008) (take n sample_run) (after n)
    runs = runs_take (start Full [] 96008) (after 10) sample_run n sample_runs

waiting : Legal sample_opening waiting_log
unfolding accepts asks sends cames finishes answers collectors traded of_request verdicts result awaited is_paused
    is_closed answers_to joins has_begun entries_before_run last_run run_exchanges
waiting =
    resume_keeps sample_opening _
    (ask_keeps sample_opening _ first_client 1 Incremental
    (ask_keeps sample_opening _ first_client 0 Full
    (accept_keeps sample_opening _ first_client 0 sample_request
    (pause_keeps sample_opening _ (join_keeps sample_opening [] first_client 1 (empty sample_opening) refl refl) refl)
    refl refl) refl refl) refl refl) refl

-- the frames of the run, after this many others
unmutes : (n : ℕ) → n < 3 → IsRunFrame source n n (unmute_frame source n)
unmutes n few = record { unmute = λ early. refl; search = λ late. absurd (omega (arith, few, late)) }

branches : (n : ℕ) → 3 ≤ n → IsRunFrame source n n (whole_branch n)
branches n many = record {
  unmute = λ early. absurd (omega (arith, many, early));
  search = λ late. inl
      (record { lo = 0; hi = 0xffffffffffff; ordered = omega arith; in_range = omega arith; frame_is = refl });
}

mutes : (n : ℕ) → 3 ≤ n → IsRunFrame source n n (mute_frame device source n)
mutes n many = record {
  unmute = λ early. absurd (omega (arith, many, early));
  search = λ late. inr
      (record { uid = device; device = record { in_range = omega arith; own = refl }; frame_is = refl });
}

-- the run begins
pub begins : (h : List Entry) → awaited h ≡ false → is_closed sample_opening h ≡ false → MayBegin sample_opening h 1
    → run_frames 1 h ≡ 0 → next_tn sample_opening h ≡ 0
    → MaySendRun sample_opening h 1 (record { items = unmute_frame source 0 })
begins h not_awaited not_closed may frames number = record {
  not_awaited = not_awaited;
  not_closed = not_closed;
  turn = inl may;
  in_budget = rw frames (omega arith);
  packet = rw (frames, number) (unmutes 0 (omega arith));
}

-- a log in which the run is open and has had this many exchanges, and nothing is decided
record IsAmid (h : List Entry) (n : ℕ) : Type 0 where
  not_awaited : awaited h ≡ false
  not_closed : is_closed sample_opening h ≡ false
  run : open_run h ≡ Some 1
  frames : run_frames 1 h ≡ n
  number : next_tn sample_opening h ≡ n
  undecided : AllByRecursion (λ a. result a.number h ≡ None) (unfinished h)
  unanswered : answers h ≡ []
  goes_on : GoesOn sample_opening h 1

is_amid : (h : List Entry) (n : ℕ) (asked : Asked) → awaited h ≡ false → is_closed sample_opening h ≡ false
    → open_run h ≡ Some 1 → run_frames 1 h ≡ n → next_tn sample_opening h ≡ n
    → AllByRecursion (λ a. result a.number h ≡ None) (unfinished h) → answers h ≡ [] → run_kind 1 h ≡ Full
    → known_at_run sample_opening 1 h ≡ [] → run_exchanges 1 h ≡ take n sample_run → next_of (after n) ≡ Some asked
    → AllReported (take n sample_run) → length (take n sample_run) < 96008 → IsAmid h n
is_amid h n asked came not_closed run frames number undecided none kind known same next reported within = record {
  not_awaited = came;
  not_closed = not_closed;
  run = run;
  frames = frames;
  number = number;
  undecided = undecided;
  unanswered = none;
  goes_on = goes_on h n asked kind known same next reported within;
}

nothing_due : (h : List Entry) (n : ℕ) → IsAmid h n → NothingDue sample_opening h
nothing_due h n amid = record {
  results_open = amid.undecided;
  runs_answered = rw amid.unanswered tt;
  run_goes_on = rw amid.run amid.goes_on;
  all_closed = λ closed idle. absurd (false≢true (sym amid.not_closed ∙ closed));
}

-- a further frame of the run
may_send : (h : List Entry) (n : ℕ) (frame : List ℕ) → n < 96008 → IsAmid h n → IsRunFrame source n n frame
    → MaySendRun sample_opening h 1 (record { items = frame })
may_send h n frame few amid packet = record {
  not_awaited = amid.not_awaited;
  not_closed = amid.not_closed;
  turn = inr amid.run;
  in_budget = rw amid.frames few;
  packet = rw (amid.frames, amid.number) packet;
}

-- a legal log amid the run
record HasReached (h : List Entry) (n : ℕ) : Type 0 where
  legal : Legal sample_opening h
  amid : IsAmid h n

-- a frame of the run and its reply
reach : (h : List Entry) (n : ℕ) (frame bytes : List ℕ) → Legal sample_opening h
    → MaySendRun sample_opening h 1 (record { items = frame })
    → IsAmid ((h ++ sent_for_run 1 frame ∷ []) ++ came_with bytes ∷ []) n
    → HasReached ((h ++ sent_for_run 1 frame ∷ []) ++ came_with bytes ∷ []) n
reach h n frame bytes legal may amid = record {
  legal = record {
    each = pushed sample_opening (h ++ sent_for_run 1 frame ∷ []) (came_with bytes) sent.each
        (sent.settled, awaited-push h (sent_for_run 1 frame));
    settled = nothing_due _ n amid;
  };
  amid = amid;
}
  where
    sent : Legal sample_opening (h ++ sent_for_run 1 frame ∷ [])
    sent = run_send_keeps sample_opening h 1 (record { items = frame }) legal may

further : (h : List Entry) (n : ℕ) (frame bytes : List ℕ) → HasReached h n → n < 96008
    → IsRunFrame source n n frame → IsAmid ((h ++ sent_for_run 1 frame ∷ []) ++ came_with bytes ∷ []) (suc n)
    → HasReached ((h ++ sent_for_run 1 frame ∷ []) ++ came_with bytes ∷ []) (suc n)
further h n frame bytes before few packet amid =
    reach h (suc n) frame bytes before.legal (may_send h n frame few before.amid packet) amid

may_begin : MaySendRun sample_opening (run_log 0) 1 (record { items = unmute_frame source 0 })
unfolding accepts asks sends cames finishes answers collectors traded of_request verdicts result awaited is_paused
    is_closed answers_to joins has_begun entries_before_run last_run run_exchanges
may_begin = begins _ refl refl (record {
  not_paused = refl;
  no_run = refl;
  no_request = refl;
  asked = (λ none. cc);
  number = refl;
  from_one = omega arith;
}) refl refl

-- its first nine exchanges
reached : HasReached (run_log 9) 9
unfolding accepts asks sends cames finishes answers collectors traded of_request verdicts result awaited is_paused
    is_closed answers_to joins has_begun entries_before_run last_run run_exchanges
reached =
    let one : HasReached (run_log 1) 1 = reach (run_log 0) 1 _ [] waiting may_begin
    (is_amid _ 1 _ refl refl refl refl refl (refl, tt) refl refl refl refl refl (omega arith) (omega arith)) in
    let two : HasReached (run_log 2) 2 = further _ 1 _ [] one (omega arith) (unmutes 1 (omega arith))
    (is_amid _ 2 _ refl refl refl refl refl (refl, tt) refl refl refl refl refl (omega arith) (omega arith)) in
    let three : HasReached (run_log 3) 3 = further _ 2 _ [] two (omega arith) (unmutes 2 (omega arith))
    (is_amid _ 3 _ refl refl refl refl refl (refl, tt) refl refl refl refl refl (omega arith) (omega arith)) in
    let four : HasReached (run_log 4) 4 = further _ 3 _ device_reply three (omega arith) (branches 3 (omega arith))
    (is_amid _ 4 _ refl refl refl refl refl (refl, tt) refl refl refl refl refl (omega arith) (omega arith)) in
    let five : HasReached (run_log 5) 5 = further _ 4 _ device_ack four (omega arith) (mutes 4 (omega arith))
    (is_amid _ 5 _ refl refl refl refl refl (refl, tt) refl refl refl refl refl (omega arith) (omega arith)) in
    let six : HasReached (run_log 6) 6 = further _ 5 _ [] five (omega arith) (branches 5 (omega arith))
    (is_amid _ 6 _ refl refl refl refl refl (refl, tt) refl refl refl refl refl (omega arith) (omega arith)) in
    let seven : HasReached (run_log 7) 7 = further _ 6 _ [] six (omega arith) (branches 6 (omega arith))
    (is_amid _ 7 _ refl refl refl refl refl (refl, tt) refl refl refl refl refl (omega arith) (omega arith)) in
    let eight : HasReached (run_log 8) 8 = further _ 7 _ [] seven (omega arith) (branches 7 (omega arith))
    (is_amid _ 8 _ refl refl refl refl refl (refl, tt) refl refl refl refl refl (omega arith) (omega arith)) in
    further _ 8 _ [] eight (omega arith) (branches 8 (omega arith))
    (is_amid _ 9 _ refl refl refl refl refl (refl, tt) refl refl refl refl refl (omega arith) (omega arith))

-- the tenth exchange ends it, and both discoveries are answered
pub not_zero : (r : ℕ) → 1 ≤ r → r ≡ 0 → ⊥
not_zero r from none = omega (arith, none)

tenth_came : EachAfter (MayFollow sample_opening) (run_log 10)
tenth_came =
    let sent = run_send_keeps sample_opening (run_log 9) 1 (record { items = whole_branch 9 }) reached.legal
    (may_send _ 9 _ (omega arith) reached.amid (branches 9 (omega arith))) in
    pushed sample_opening (run_log 9 ++ sent_for_run 1 (whole_branch 9) ∷ []) (came_with []) sent.each
    (sent.settled, awaited-push (run_log 9) (sent_for_run 1 (whole_branch 9)))

pub goes_on_9 : GoesOn sample_opening (run_log 9) 1
goes_on_9 = reached.amid.goes_on

pub may_answer_first : MayFollow sample_opening (run_log 10) (Answer 0 1 None)
unfolding accepts asks sends cames finishes answers collectors traded of_request verdicts result awaited is_paused
    is_closed answers_to joins has_begun entries_before_run last_run run_exchanges
may_answer_first = record {
  asked = record { client = 0; number = 0; kind = Full };
  oldest = refl;
  number = refl;
  by_run = λ run. record { not_awaited = refl; serves = refl; agrees = tt; shows = certified };
  unserved = λ none. absurd (not_zero 1 (omega arith) none);
}

may_answer_second : MayFollow sample_opening answered_first (Answer 1 1 None)
unfolding accepts asks sends cames finishes answers collectors traded of_request verdicts result awaited is_paused
    is_closed answers_to joins has_begun entries_before_run last_run run_exchanges
may_answer_second = record {
  asked = record { client = 0; number = 1; kind = Incremental };
  oldest = refl;
  number = refl;
  by_run = λ run. record { not_awaited = refl; serves = refl; agrees = (λ same. refl, tt); shows = certified };
  unserved = λ none. absurd (not_zero 1 (omega arith) none);
}

both_answered : Legal sample_opening answered_both
unfolding accepts asks sends cames finishes answers collectors traded of_request verdicts result awaited is_paused
    is_closed answers_to joins has_begun entries_before_run last_run run_exchanges
both_answered = record {
  each = pushed sample_opening answered_first (Answer 1 1 None)
      (pushed sample_opening (run_log 10) (Answer 0 1 None) tenth_came may_answer_first) may_answer_second;
  settled = record {
    results_open = (refl, tt);
    runs_answered = ((refl, (refl, tt)), ((refl, (refl, tt)), tt));
    run_goes_on = tt;
    all_closed = λ closed idle. absurd (false≢true closed);
  };
}

may_send_request : MaySendRequest sample_opening answered_both 0 (record { items = tenth_frame })
unfolding accepts asks sends cames finishes answers collectors traded of_request verdicts result awaited is_paused
    is_closed answers_to joins has_begun entries_before_run last_run run_exchanges
may_send_request =
    may_send_oldest sample_opening _ _ refl refl refl refl refl refl refl (sample_fits 10 (omega arith), refl)

pub found : Legal sample_opening request_sent
found = send_keeps sample_opening answered_both 0 (record { items = tenth_frame }) both_answered may_send_request
