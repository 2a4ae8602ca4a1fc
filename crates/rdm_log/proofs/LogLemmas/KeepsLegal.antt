-- What a call adds keeps a log legal.
use Rattle.rdm_log.proofs.Common.{◌≡◌, ℕ, ◌<◌, ◌≤◌, true, false, List, [], ◌∷◌, ◌++◌, length, Option, Some, None}
use Rattle.rdm_log.proofs.Common.{slice_get, refl, sym, ap, ◌∙◌, arith, inl, inr, ◌≢◌, ◌⊎◌, ◌==◌, MatchOption}
use Rattle.rdm_log.proofs.Common.{AllByRecursion, Unmute, false≢true, cases_Bool, eqb-true, eq-eqb, ne_eqb, ArrayVec}
use Rattle.rdm_log.proofs.Common.{Request, Kind, ClientId, Call, Cause, Owner, Opening, Entry, Join, Refuse, Accept}
use Rattle.rdm_log.proofs.Common.{Ask, Send, Collect, Pause, Resume, Accepted, Answered, asks, sends, cames, answers}
use Rattle.rdm_log.proofs.Common.{result, has_begun, entries_before_run, open_run, served, run_exchanges, awaited}
use Rattle.rdm_log.proofs.Common.{is_closed, can_pause, can_resume, unfinished, next_client, next_request, next_ask}
use Rattle.rdm_log.proofs.Common.{uncollected, join_fault, submit_fault, ask_fault, NothingDue, AllAnswered, GoesOn}
use Rattle.rdm_log.proofs.Common.{MaySendRequest, MayBegin, MaySendRun, MayFollow, Legal}
use Rattle.rdm_agent.specs.Cause.{IsCorruptBy}
use Rattle.rdm_agent.specs.declared.search.Search.{Search}
use Rattle.rdm_agent.specs.declared.search.Search.TheVariants.{Steady, Quick}
use Rattle.rdm_log.specs.declared.entry.Owner.TheVariants as owners
use Rattle.rdm_log.specs.log.Refusals.{IsRefused}
use Rattle.rdm_log.specs.log.MaySend.{NoSend}
use Rattle.rdm_log.proofs.LogLemmas.Grows.{pushed}
use Rattle.rdm_log.proofs.LogLemmas.Indices.{all_at, all_from_indices, each_index_push}
use Rattle.rdm_log.proofs.LogLemmas.PushLemmas.{unfinished_accept, SameRequests, same_after, accepts-push}
use Rattle.rdm_log.proofs.LogLemmas.PushLemmas.{finishes-push, sends-push, cames-push, asks-push, answers-push}
use Rattle.rdm_log.proofs.LogLemmas.PushLemmas.{is_closed-push}
use Rattle.rdm_log.proofs.LogLemmas.ExchangeLemmas.{result_unsent, result_same, result_sent}
use Rattle.rdm_log.proofs.LogLemmas.RunLemmas.{SameRuns, same_runs, same_runs_sent, last_begun}
use Rattle.rdm_log.proofs.LogLemmas.RunLemmas.{entries_before_run_stays, served_same, served_stays, run_exchanges_sent}
use Rattle.rdm_log.proofs.LogLemmas.RunLemmas.{no_exchanges}
use Rattle.rdm_log.proofs.LogLemmas.RunFacts.{RunFacts, run_facts, open_is, after_begin, opened_by}
use Rattle.rdm_log.specs.declared.work.Work.TheVariants as works
use Rattle.rdm_log.proofs.LogLemmas.RefusalLemmas.{work_passes}
use Rattle.rdm_log.proofs.LogLemmas.LegalFacts.{sent_evenly, LogFacts, legal_facts, unaccepted_unsent}
use Rattle.rdm_wire.proofs.EachAfterLemmas.{no_element}

-- nothing is due: each unfinished request's result is open
pub due_at : (o : Opening) (h : List Entry) → NothingDue o h → (i : ℕ) (a : Accepted)
    → slice_get (unfinished h) i ≡ Some a → result a.number h ≡ None
due_at o h due = all_at (λ a. result a.number h ≡ None) (unfinished h) due.results_open

-- what is due of runs
pub record RunsSettled (o : Opening) (h : List Entry) : Type 0 where
  pub runs_answered : AllByRecursion (λ b. AllAnswered b.run h) (answers h)
  pub run_goes_on : MatchOption (open_run h) (Unit {0}) (GoesOn o h)

all_answered_same : (h k : List Entry) (r : ℕ) → served r k ≡ served r h → answers k ≡ answers h → AllAnswered r h
    → AllAnswered r k
all_answered_same h k r serves answered all = rw (serves, answered) all

goes_on_same : (o : Opening) (h k : List Entry) (r : ℕ) → served r k ≡ served r h
    → entries_before_run r k ≡ entries_before_run r h → run_exchanges r k ≡ run_exchanges r h → GoesOn o h r
    → GoesOn o k r
goes_on_same o h k r serves before same goes = record {
  no_failure = rw same goes.no_failure;
  not_corrupt = rw same goes.not_corrupt;
  all_reported = rw same goes.all_reported;
  in_budget = rw same goes.in_budget;
  not_done = λ done. goes.not_done (rw (serves, before, same) at done);
}

-- a run without exchanges goes on
not_at_first : (search : Search) (u : ℕ) → IsCorruptBy search u [] → ⊥
not_at_first Steady u c = no_element c.before c.mutes _ c.whole
not_at_first Quick u c = no_element c.0.before c.0.mutes _ c.0.whole

goes_on_empty : (o : Opening) (h : List Entry) (r : ℕ) → run_exchanges r h ≡ [] → 0 < o.budget → GoesOn o h r
goes_on_empty o h r none some = record {
  no_failure = rw none tt;
  not_corrupt = rw none (not_at_first o.search);
  all_reported = rw none (omega arith);
  in_budget = rw none some;
  not_done = λ done. absurd (no_unmutes (rw none at done.search.unmutes));
}
  where
    no_unmutes : [] ≡ Unmute ∷ Unmute ∷ Unmute ∷ [] → ⊥
    no_unmutes e = cc

pub runs_settled : (o : Opening) (h k : List Entry) → SameRuns h k → NothingDue o h → RunsSettled o k
runs_settled o h k same due = record {
  runs_answered =
      all_from_indices (λ b. AllAnswered b.run k) (answers k)
      (λ i b at. all_answered_same h k b.run (same.same_served b.run) same.same_answers
      (all_at (λ x. AllAnswered x.run h) (answers h) due.runs_answered i b
      (sym (ap (λ l. slice_get l i) same.same_answers) ∙ at)));
  run_goes_on = rw same.same_open (by_open (open_run h) refl due.run_goes_on);
}
  where
    by_open : (r : Option ℕ) → open_run h ≡ r → MatchOption r (Unit {0}) (GoesOn o h)
        → MatchOption r (Unit {0}) (GoesOn o k)
    by_open None is goes = tt
    by_open (Some r) is goes =
        goes_on_same o h k r (same.same_served r) (same.same_before r (last_begun r h (open_is h r is).last))
        (same.same_exchanges r) goes

-- if the queue isn't closed, that and the requests' results are all
pub settled_open : (o : Opening) (h : List Entry) → is_closed o h ≡ false → RunsSettled o h
    → ((i : ℕ) (a : Accepted) → slice_get (unfinished h) i ≡ Some a → result a.number h ≡ None) → NothingDue o h
settled_open o h not_closed runs at = record {
  results_open = all_from_indices (λ a. result a.number h ≡ None) (unfinished h) at;
  runs_answered = runs.runs_answered;
  run_goes_on = runs.run_goes_on;
  all_closed = λ closed waits. absurd (false≢true (sym not_closed ∙ closed));
}

-- an entry that is neither Accept, Ask, Send, Came, Finish nor Answer
due_same : (o : Opening) (h k : List Entry) → SameRequests h k → SameRuns h k → asks k ≡ asks h
    → (is_closed o k ≡ true → awaited h ≡ false → is_closed o h ≡ true) → NothingDue o h → NothingDue o k
due_same o h k same runs asked closes due = record {
  results_open =
      rw (same.same_accepts, same.same_finishes)
      (all_from_indices (λ a. result a.number k ≡ None) (unfinished h)
      (λ i a at. result_same h k a.number same.same_sends same.same_cames ∙ due_at o h due i a at));
  runs_answered = (runs_settled o h k runs due).runs_answered;
  run_goes_on = (runs_settled o h k runs due).run_goes_on;
  all_closed =
      λ closed waits. let idle = sym same.same_awaited ∙ waits in
      rw (same.same_accepts, same.same_finishes, asked, runs.same_answers)
      (due.all_closed (closes closed idle) idle);
}

-- and so it keeps a log legal
other_keeps : (o : Opening) (h : List Entry) (e : Entry) → Legal o h → MayFollow o h e → SameRequests h (h ++ e ∷ [])
    → SameRuns h (h ++ e ∷ []) → asks (h ++ e ∷ []) ≡ asks h
    → (is_closed o (h ++ e ∷ []) ≡ true → awaited h ≡ false → is_closed o h ≡ true) → Legal o (h ++ e ∷ [])
other_keeps o h e legal may same runs asked closes = record {
  each = pushed o h e legal.each may;
  settled = due_same o h (h ++ e ∷ []) same runs asked closes legal.settled;
}

-- a join that isn't refused; a refused call; a Collect of an answer; a pause and a resume that have an effect
pub join_keeps : (o : Opening) (h : List Entry) (c : ClientId) (n : ℕ) → Legal o h → join_fault o h n ≡ None
    → c.0 ≡ next_client o h → Legal o (h ++ Join c n ∷ [])
join_keeps o h c n legal passes next =
    let e = Join c n in
    other_keeps o h e legal (legal.settled, passes, next) (same_after h e refl refl refl refl refl)
    (same_runs h e refl refl refl) (asks-push h e) (λ closed idle. sym (is_closed-push o h e) ∙ closed)

pub refuse_keeps : (o : Opening) (h : List Entry) (c : Option ClientId) (call : Call) (cause : Cause) → Legal o h
    → IsRefused o h c call cause.0 → Legal o (h ++ Refuse c call cause ∷ [])
refuse_keeps o h c call cause legal refused =
    let e = Refuse c call cause in
    other_keeps o h e legal (legal.settled, refused) (same_after h e refl refl refl refl refl)
    (same_runs h e refl refl refl) (asks-push h e) (λ closed idle. sym (is_closed-push o h e) ∙ closed)

pub collect_keeps : (o : Opening) (h : List Entry) (c : ClientId) → Legal o h → uncollected o c.0 h ≢ []
    → Legal o (h ++ Collect c ∷ [])
collect_keeps o h c legal some =
    let e = Collect c in
    other_keeps o h e legal (legal.settled, some) (same_after h e refl refl refl refl refl)
    (same_runs h e refl refl refl) (asks-push h e) (λ closed idle. sym (is_closed-push o h e) ∙ closed)

pub pause_keeps : (o : Opening) (h : List Entry) → Legal o h → can_pause o h ≡ true → Legal o (h ++ Pause ∷ [])
pause_keeps o h legal can =
    other_keeps o h Pause legal (legal.settled, can) (same_after h Pause refl refl refl refl refl)
    (same_runs h Pause refl refl refl) (asks-push h Pause)
    (λ closed idle. sym (is_closed-push o h Pause) ∙ closed)

pub resume_keeps : (o : Opening) (h : List Entry) → Legal o h → can_resume o h ≡ true → Legal o (h ++ Resume ∷ [])
resume_keeps o h legal can =
    other_keeps o h Resume legal (legal.settled, can) (same_after h Resume refl refl refl refl refl)
    (same_runs h Resume refl refl refl) (asks-push h Resume)
    (λ closed idle. sym (is_closed-push o h Resume) ∙ closed)

-- a request that isn't refused, under the next number
pub accept_keeps : (o : Opening) (h : List Entry) (c : ClientId) (n : ℕ) (request : Request) → Legal o h
    → submit_fault o h c.0 ≡ None → n ≡ next_request o h → Legal o (h ++ Accept c n request ∷ [])
accept_keeps o h c n request legal passes next = record {
  each = pushed o h e legal.each (legal.settled, passes, next);
  settled = settled_open o k (is_closed-push o h e ∙ (work_passes o h c.0 (works.Submit request) passes).not_closed)
      (runs_settled o h k (same_runs h e refl refl refl) legal.settled)
      (rw later (each_index_push (λ i b. result b.number k ≡ None) (unfinished h) a
      (λ i b at. same b.number ∙ due_at o h legal.settled i b at)
      (same n ∙ result_unsent h n (unaccepted_unsent o h facts n (omega arith)))));
}
  where
    e : Entry
    e = Accept c n request

    k : List Entry
    k = h ++ e ∷ []

    a : Accepted
    a = record { client = c.0; number = n; request = request }

    facts : LogFacts o h
    facts = legal_facts o h legal.each

    later : unfinished k ≡ unfinished h ++ a ∷ []
    later = unfinished_accept h c n request facts.finished_within

    same : (m : ℕ) → result m k ≡ result m h
    same m = result_same h k m (sends-push h e) (cames-push h e)

-- a discovery that isn't refused, under the next number
pub ask_keeps : (o : Opening) (h : List Entry) (c : ClientId) (n : ℕ) (kind : Kind) → Legal o h
    → ask_fault o h c.0 ≡ None → n ≡ next_ask o h → Legal o (h ++ Ask c n kind ∷ [])
ask_keeps o h c n kind legal passes next = record {
  each = pushed o h e legal.each (legal.settled, passes, next);
  settled = settled_open o (h ++ e ∷ [])
      (is_closed-push o h e ∙ (work_passes o h c.0 (works.Discover kind) passes).not_closed)
      (runs_settled o h (h ++ e ∷ []) (same_runs h e refl refl refl) legal.settled)
      (rw (accepts-push h e, finishes-push h e)
      (λ i a at. result_same h (h ++ e ∷ []) a.number (sends-push h e) (cames-push h e)
      ∙ due_at o h legal.settled i a at));
}
  where
    e : Entry
    e = Ask c n kind

-- a frame that may be sent
pub send_keeps : (o : Opening) (h : List Entry) (n : ℕ) (frame : ArrayVec ℕ) → Legal o h → MaySendRequest o h n frame
    → Legal o (h ++ Send (owners.Request n) frame ∷ [])
send_keeps o h n frame legal may = record {
  each = pushed o h e legal.each (legal.settled, may);
  settled = settled_open o (h ++ e ∷ []) (is_closed-push o h e ∙ may.not_closed)
      (runs_settled o h (h ++ e ∷ []) (same_runs_sent h n frame even) legal.settled)
      (rw (accepts-push h e, finishes-push h e)
      (λ i a at. result_sent h (owners.Request n) frame a.number even ∙ due_at o h legal.settled i a at));
}
  where
    e : Entry
    e = Send (owners.Request n) frame

    even : length (sends h) ≡ length (cames h)
    even = sent_evenly o h (legal_facts o h legal.each) may.not_awaited

-- what a named run serves stays
served_named : (o : Opening) (h : List Entry) (r : ℕ) (frame : ArrayVec ℕ) → RunFacts o h → 1 ≤ r
    → (i : ℕ) (b : Answered) → slice_get (answers h) i ≡ Some b
    → served b.run (h ++ Send (owners.Run r) frame ∷ []) ≡ served b.run h
served_named o h r frame facts from i b at = by_zero (cases_Bool (b.run == 0))
  where
    e : Entry
    e = Send (owners.Run r) frame

    other : b.run ≡ 0 → (b.run == r) ≡ false
    other none = ne_eqb b.run r (λ same. absurd (omega (arith, none, same)))

    by_zero : ((b.run == 0) ≡ true) ⊎ ((b.run == 0) ≡ false) → served b.run (h ++ e ∷ []) ≡ served b.run h
    by_zero (inl zero_) = served_same b.run h e (other (eqb-true b.run 0 zero_))
    by_zero (inr some) =
        served_stays b.run h (e ∷ []) (facts.named i b at (λ none. false≢true (sym some ∙ eq-eqb b.run 0 none)))

-- a run's frame that may be sent
pub run_send_keeps : (o : Opening) (h : List Entry) (r : ℕ) (frame : ArrayVec ℕ) → Legal o h → MaySendRun o h r frame
    → Legal o (h ++ Send (owners.Run r) frame ∷ [])
run_send_keeps o h r frame legal may = record {
  each = pushed o h e legal.each (legal.settled, may);
  settled = settled_open o k (is_closed-push o h e ∙ may.not_closed) runs
      (rw (accepts-push h e, finishes-push h e)
      (λ i a at. result_sent h (owners.Run r) frame a.number even ∙ due_at o h legal.settled i a at));
}
  where
    e : Entry
    e = Send (owners.Run r) frame

    k : List Entry
    k = h ++ e ∷ []

    even : length (sends h) ≡ length (cames h)
    even = sent_evenly o h (legal_facts o h legal.each) may.not_awaited

    facts : RunFacts o h
    facts = run_facts o h legal.each

    from : 1 ≤ r
    from = (after_begin o h r may.turn facts).0

    same : run_exchanges r k ≡ run_exchanges r h
    same = run_exchanges_sent h (owners.Run r) frame r even

    goes_on : MayBegin o h r ⊎ (open_run h ≡ Some r) → GoesOn o k r
    goes_on (inl begins) =
        goes_on_empty o k r (same ∙ no_exchanges r h (not_begun (cases_Bool (has_begun r h))))
        (omega (arith, may.in_budget))
      where
        not_begun : (has_begun r h ≡ true) ⊎ (has_begun r h ≡ false) → has_begun r h ≡ false
        not_begun (inl begun) = absurd (omega (arith, (facts.begun_below r begun).1, begins.number))
        not_begun (inr not) = not
    goes_on (inr is) =
        let begun = last_begun r h (open_is h r is).last in
        goes_on_same o h k r (served_stays r h (e ∷ []) begun) (entries_before_run_stays r h (e ∷ []) begun) same
        (rw is at legal.settled.run_goes_on)

    runs : RunsSettled o k
    runs = record {
      runs_answered =
          all_from_indices (λ b. AllAnswered b.run k) (answers k)
          (λ i b at. let before = sym (ap (λ l. slice_get l i) (answers-push h e)) ∙ at in
          all_answered_same h k b.run (served_named o h r frame facts from i b before) (answers-push h e)
          (all_at (λ x. AllAnswered x.run h) (answers h) legal.settled.runs_answered i b before));
      run_goes_on = rw (opened_by o h r frame facts may) (goes_on may.turn);
    }

-- that no frame may be sent is that no Send keeps the log legal
pub no_send_legal : (o : Opening) (h : List Entry) → NoSend o h → (owner : Owner) (frame : ArrayVec ℕ)
    → Legal o (h ++ Send owner frame ∷ []) → ⊥
no_send_legal o h none owner frame legal = none owner frame (legal.each h [] (Send owner frame) refl).1

pub legal_no_send : (o : Opening) (h : List Entry) → Legal o h
    → ((owner : Owner) (frame : ArrayVec ℕ) → Legal o (h ++ Send owner frame ∷ []) → ⊥) → NoSend o h
legal_no_send o h legal none (owners.Request n) frame may =
    none (owners.Request n) frame (send_keeps o h n frame legal may)
legal_no_send o h legal none (owners.Run r) frame may = none (owners.Run r) frame (run_send_keeps o h r frame legal may)
