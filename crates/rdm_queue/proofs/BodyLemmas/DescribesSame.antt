-- What an entry leaves of a queue's agreement with its log: all, what is about the line, or all else.
use Rattle.rdm_queue.proofs.Common.{◌≡◌, ℕ, ◌+◌, Bool, true, false, List, [], ◌∷◌, ◌++◌, length, Option, Some, None}
use Rattle.rdm_queue.proofs.Common.{refl, sym, ap, ◌∙◌, inl, EachAfter, Opening, Entry, Send, Came, Awaited, Sending}
use Rattle.rdm_queue.proofs.Common.{asks, sends, cames, finishes, answers, collectors, verdicts, awaited, is_paused}
use Rattle.rdm_queue.proofs.Common.{is_closed, next_tn, was_sent, answers_to, devices_run, MayFollow, OutcomeValue}
use Rattle.rdm_queue.proofs.Common.{QueueState, owed_to, IsStanding, IsLast, IsPending, RunIs, oldest_number, Describes}
use Rattle.rdm_queue.proofs.Common.{asks-push, answers-push, sends-push, cames-push, finishes-push, collectors-push}
use Rattle.rdm_queue.proofs.Common.{awaited-push, verdicts_same, answers_same, outcomes_step, known_step, SameRunning}
use Rattle.rdm_queue.proofs.Common.{same_running, filter_map, uncollected, outcome_of}
use Rattle.rdm_queue.specs.declared.pending.Awaited.TheVariants as awaiting
use Rattle.rdm_log.specs.log.Entries.{sending_of, came_of, collector_of}
use Rattle.rdm_log.specs.log.History.{awaits_after, places}
use Rattle.rdm_log.specs.log.Runs.{next_run}
use Rattle.rdm_queue.specs.body.State.{uncollected as uncollected_by}
use Rattle.rdm_log.proofs.LogLemmas.PushLemmas.{SameRequests, same_after, pushes}
use Rattle.rdm_log.proofs.LogLemmas.ClientLemmas.{brings_work, ends_work, no_accept, no_ask, no_finish, no_reply}
use Rattle.rdm_queue.proofs.Common.{get_or, map}
use Rattle.rdm_log.specs.log.Broken.{Incomplete, broken_keys, incomplete, is_flagged, may_be_incomplete}
use Rattle.rdm_log.proofs.LogLemmas.BrokenLemmas.{incomplete_same}
use Rattle.rdm_queue.specs.body.State.{flags_to}
use Rattle.rdm_queue.proofs.BodyLemmas.RunningLemmas.{run_same}

-- nothing of the work, its answers and their collects is different
pub record SameWork (o : Opening) (h k : List Entry) : Type 0 where
  pub requests : SameRequests h k
  pub same_asks : asks k ≡ asks h
  pub running : SameRunning o h k
  pub same_collectors : collectors k ≡ collectors h
  pub same_answers_to : (c : ℕ) → answers_to o c k ≡ answers_to o c h
  pub same_incomplete : incomplete o k ≡ incomplete o h

pub same_work : (o : Opening) (h : List Entry) (e : Entry) → brings_work e ≡ false → ends_work e ≡ false
    → sending_of e ≡ None → came_of e ≡ None → collector_of e ≡ None → awaits_after (awaited h) e ≡ awaited h
    → SameWork o h (h ++ e ∷ [])
same_work o h e brings ends send came collect waits = record {
  requests = same_after h e (no_accept e brings) (no_finish e ends) send came waits;
  same_asks = rw (no_ask e brings) at (asks-push h e);
  running = same_running o h e send came (no_reply e ends);
  same_collectors = rw collect at (collectors-push h e);
  same_answers_to = λ c. answers_same o c h e brings ends;
  same_incomplete = incomplete_same o h e (no_finish e ends);
}

-- the flags of what a client hasn't collected
pub flags_kept : (o : Opening) (h k : List Entry) (c : ℕ) → incomplete o k ≡ incomplete o h
    → answers_to o c k ≡ answers_to o c h → collectors k ≡ collectors h
    → map (may_be_incomplete o k) (uncollected o c k) ≡ map (may_be_incomplete o h) (uncollected o c h)
flags_kept o h k c same answered collected =
    ap (λ (es : List Entry). map (may_be_incomplete o k) es) uncollected_same
    ∙ ap (λ (i : Incomplete). map (is_flagged i.flagged) (uncollected o c h)) same
  where
    uncollected_same : uncollected o c k ≡ uncollected o c h
    uncollected_same = rw (answered, collected) refl

-- what awaits its reply
last_same : (h k : List Entry) (x : Sending) → sends k ≡ sends h → awaited k ≡ awaited h → IsLast h x → IsLast k x
last_same h k x same waits is = record {
  waits = waits ∙ is.waits;
  earlier = is.earlier;
  sends_are = same ∙ is.sends_are;
}

pub pending_same : (o : Opening) (h k : List Entry) (s new : QueueState) (w : Option Awaited) → sends k ≡ sends h
    → awaited k ≡ awaited h → finishes k ≡ finishes h → new.run ≡ s.run → new.agent ≡ s.agent → IsPending o h s w
    → IsPending o k new w
pending_same o h k s new None same waits ends run agent pending = waits ∙ pending
pending_same o h k s new (Some (awaiting.Request sent)) same waits ends run agent pending = record {
  frame = pending.frame;
  last = rw ends (last_same h k _ same waits pending.last);
  same = pending.same;
}
pending_same o h k s new (Some (awaiting.Run tn)) same waits ends run agent pending = record {
  run = pending.run;
  run_is = run ∙ pending.run_is;
  frame = pending.frame;
  last = last_same h k _ same waits pending.last;
  goes_on = rw agent pending.goes_on;
  asks = rw agent pending.asks;
  same = rw agent pending.same;
}

pub devices_run_same : (o : Opening) (h k : List Entry) (n : ℕ) → answers k ≡ answers h → n ≡ devices_run o h
    → n ≡ devices_run o k
devices_run_same o h k n same is = rw same is

-- A state with what another says of the line: what was sent and heard, and the run.
abbrev pub with_line : QueueState → QueueState → QueueState
with_line s line = record s {
  next_tn = line.next_tn;
  awaited = line.awaited;
  under_way = line.under_way;
  joiner = line.joiner;
  decided = line.decided;
  next_run = line.next_run;
  run = line.run;
  agent = line.agent;
}

-- what a queue says of the line is what the log says
pub record DescribesLine (o : Opening) (h : List Entry) (s : QueueState) : Type 0 where
  pub next_tn_is : s.next_tn ≡ next_tn o h
  pub awaited_is : IsPending o h s s.awaited
  pub under_way_is : s.under_way ≡ was_sent (oldest_number o h) h
  pub standing : IsStanding (verdicts (oldest_number o h) h) s.decided s.joiner
  pub next_run_is : s.next_run ≡ next_run o h
  pub run_is : RunIs o h s s.run

-- no frame was sent, no reply heard, and nothing has ended
pub record SameLine (o : Opening) (h k : List Entry) : Type 0 where
  pub same_sends : sends k ≡ sends h
  pub same_cames : cames k ≡ cames h
  pub same_finishes : finishes k ≡ finishes h
  pub same_awaited : awaited k ≡ awaited h
  pub running : SameRunning o h k

pub same_line : (o : Opening) (h : List Entry) (e : Entry) → sending_of e ≡ None → came_of e ≡ None
    → ends_work e ≡ false → awaits_after (awaited h) e ≡ awaited h → SameLine o h (h ++ e ∷ [])
same_line o h e send came ends waits = record {
  same_sends = rw send at (sends-push h e);
  same_cames = rw came at (cames-push h e);
  same_finishes = rw (no_finish e ends) at (finishes-push h e);
  same_awaited = awaited-push h e ∙ waits;
  running = same_running o h e send came (no_reply e ends);
}

pub line_same : (o : Opening) (h k : List Entry) (s new : QueueState) → SameLine o h k → Describes o h s
    → DescribesLine o k (with_line new s)
line_same o h k s new same stands = record {
  next_tn_is = rw same.same_sends stands.next_tn_is;
  awaited_is =
      pending_same o h k s (with_line new s) s.awaited same.same_sends same.same_awaited same.same_finishes refl refl
      stands.awaited_is;
  under_way_is = rw (same.same_sends, same.same_finishes) stands.under_way_is;
  standing =
      rw (same.same_finishes, verdicts_same h k (oldest_number o h) same.same_sends same.same_cames) stands.standing;
  next_run_is = rw same.running.same_last stands.next_run_is;
  run_is = run_same o h k s (with_line new s) s.run same.running refl (inl refl) stands.run_is;
}

-- A frame was sent, or a reply heard: all else is as before.
abbrev pub is_traded : Entry → Bool
is_traded (Send owner frame) = true
is_traded (Came event) = true
is_traded _ = false

pub traded : (o : Opening) (h : List Entry) (e : Entry) (s new : QueueState) → EachAfter (MayFollow o) h
    → MayFollow o h e → is_traded e ≡ true → Describes o h s → DescribesLine o (h ++ e ∷ []) (with_line s new)
    → Describes o (h ++ e ∷ []) (with_line s new)
traded o h (Send owner frame) s new each may is stands line =
    let e = Send owner frame in
    let known = stands.devices_are ∙ sym (known_step o h e each may (answers-push h e)) in
    let outcomes : (c : ℕ) → owed_to c s ≡ filter_map (outcome_of (h ++ e ∷ [])) (uncollected o c (h ++ e ∷ [])) =
    λ c. rw (answers_same o c h e refl refl, collectors-push h e)
    (stands.outcomes_are c ∙ sym (outcomes_step o h e each may c)) in
    let broken : s.broken ≡ broken_keys o (h ++ e ∷ []) =
    stands.broken_is ∙ ap (λ i. i.keys) (sym (incomplete_same o h e refl)) in
    let flags : (c : ℕ) → flags_to c s ≡ map (may_be_incomplete o (h ++ e ∷ [])) (uncollected o c (h ++ e ∷ [])) =
    λ c. stands.flags_are c
    ∙ sym (flags_kept o h (h ++ e ∷ []) c (incomplete_same o h e refl) (answers_same o c h e refl refl)
    (collectors-push h e)) in
    search (pushes, known, outcomes, broken, flags, line, stands)
traded o h (Came event) s new each may is stands line =
    let e = Came event in
    let known = stands.devices_are ∙ sym (known_step o h e each may (answers-push h e)) in
    let outcomes : (c : ℕ) → owed_to c s ≡ filter_map (outcome_of (h ++ e ∷ [])) (uncollected o c (h ++ e ∷ [])) =
    λ c. rw (answers_same o c h e refl refl, collectors-push h e)
    (stands.outcomes_are c ∙ sym (outcomes_step o h e each may c)) in
    let broken : s.broken ≡ broken_keys o (h ++ e ∷ []) =
    stands.broken_is ∙ ap (λ i. i.keys) (sym (incomplete_same o h e refl)) in
    let flags : (c : ℕ) → flags_to c s ≡ map (may_be_incomplete o (h ++ e ∷ [])) (uncollected o c (h ++ e ∷ [])) =
    λ c. stands.flags_are c
    ∙ sym (flags_kept o h (h ++ e ∷ []) c (incomplete_same o h e refl) (answers_same o c h e refl refl)
    (collectors-push h e)) in
    search (pushes, known, outcomes, broken, flags, line, stands)
traded o h _ s new each may is stands line = cc

-- the entry is about neither the line nor the work
pub stands_same : (o : Opening) (h : List Entry) (e : Entry) (s : QueueState) (ps : List ℕ) (paused closed : Bool)
    (owed : List (List OutcomeValue)) (flags : List (List Bool)) → EachAfter (MayFollow o) h → MayFollow o h e
    → SameWork o h (h ++ e ∷ [])
    → ps ≡ places o (h ++ e ∷ []) → paused ≡ is_paused o (h ++ e ∷ []) → closed ≡ is_closed o (h ++ e ∷ [])
    → ((c : ℕ) → owed_to c (record s { owed = owed }) ≡ owed_to c s)
    → uncollected_by (record s { owed = owed }) ≡ uncollected_by s → length owed ≡ length (places o (h ++ e ∷ []))
    → ((c : ℕ) → get_or flags c [] ≡ flags_to c s) → length flags ≡ length (places o (h ++ e ∷ []))
    → Describes o h s → Describes o (h ++ e ∷ []) (record s {
      places = ps;
      paused = paused;
      closed = closed;
      owed = owed;
      flags = flags;
    })
stands_same o h e s ps paused closed owed flags each may work places_are paused_is closed_is owed_same count_same long
    flags_same flags_long stands =
    let known = stands.devices_are ∙ sym (known_step o h e each may work.running.same_answers) in
    let outcomes : (c : ℕ) → owed_to c new ≡ filter_map (outcome_of k) (uncollected o c k) =
    λ c. rw (work.same_answers_to c, work.same_collectors)
    (owed_same c ∙ (stands.outcomes_are c ∙ sym (outcomes_step o h e each may c))) in
    let all : uncollected_by new + length (collectors k) ≡ length (finishes k) + length (answers k) =
    rw (work.same_collectors, work.requests.same_finishes, work.running.same_answers)
    (ap (λ n. n + length (collectors h)) count_same ∙ stands.all_outcomes) in
    let broken : s.broken ≡ broken_keys o k = stands.broken_is ∙ ap (λ i. i.keys) (sym work.same_incomplete) in
    let flags_are : (c : ℕ) → flags_to c new ≡ map (may_be_incomplete o k) (uncollected o c k) =
    λ c. flags_same c ∙ (stands.flags_are c
    ∙ sym (flags_kept o h k c work.same_incomplete (work.same_answers_to c) work.same_collectors)) in
    search (
      work.requests.same_accepts,
      work.requests.same_finishes,
      work.same_asks,
      work.running.same_answers,
      places_are,
      paused_is,
      closed_is,
      known,
      outcomes,
      all,
      broken,
      long,
      flags_long,
      flags_are,
      line,
      stands,
    )
  where
    k : List Entry
    k = h ++ e ∷ []

    new : QueueState
    new = record s { places = ps; paused = paused; closed = closed; owed = owed; flags = flags }

    line : DescribesLine o k new
    line =
        line_same o h k s new (record {
          same_sends = work.requests.same_sends;
          same_cames = work.requests.same_cames;
          same_finishes = work.requests.same_finishes;
          same_awaited = work.requests.same_awaited;
          running = work.running;
        }) stands
