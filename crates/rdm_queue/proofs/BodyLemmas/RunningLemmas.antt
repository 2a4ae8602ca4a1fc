-- The run that has begun, as the log grows, and the agent that the last run has left.
use Rattle.rdm_queue.proofs.Common.{◌≡◌, ℕ, true, false, List, [], ◌∷◌, ◌++◌, Option, Some, None, ◌∙◌, refl, ap}
use Rattle.rdm_queue.proofs.Common.{inl, inr, ◌⊎◌, arith, map, subst, Bool, ◌+◌, Opening, Entry, AgentState, HasRunBy}
use Rattle.rdm_queue.proofs.Common.{RunIs, Describes, has_begun, last_begun, last_run, run_exchanges, SameRunning}
use Rattle.rdm_queue.proofs.Common.{served_stays, entries_before_run_stays, run_facts, run_kind, known_at_run}
use Rattle.rdm_queue.proofs.Common.{AllByRecursion, StandsAfter, QueueState, RunState}
use Rattle.rdm_wire.specs.Honest.{Seen}
use Rattle.rdm_agent.specs.Machine.{Runs, start_by, fed, fed_all}
use Rattle.rdm_agent.specs.Cause.{WasBad}
use Rattle.rdm_agent.specs.Calls.{AfterEach, RunSoFar}
use Rattle.rdm_agent.specs.declared.kind.Kind.{Kind}
use Rattle.rdm_agent.specs.declared.search.Search.{Search}
use Rattle.rdm_log.proofs.LogLemmas.RunFacts.{RunFacts}
use Rattle.rdm_log.proofs.LogLemmas.RunningLemmas.{open_same, kind_same, known_at_same}
use Rattle.rdm_queue.specs.body.Describes.{HasLeft, LastLeft}
use Rattle.rdm_queue.specs.promises.BadUids.{IsBeforeRuns, AreBadUids, HasMoreBadUids}

pub run_same : (o : Opening) (h k : List Entry) (s new : QueueState) (run : Option RunState) → SameRunning o h k
    → new.agent ≡ s.agent → (new.under_way ≡ s.under_way) ⊎ (new.under_way ≡ false)
    → RunIs o h s run → RunIs o k new run
run_same o h k s new None same agent way is = record {
  none_open = open_same o h k same ∙ is.none_open;
  none_left = rw (same.same_asked, same.same_answers) is.none_left;
  left = rw (agent, same.same_last) (left_same (last_run h) refl is.left);
}
  where
    left_same : (last : Option ℕ) → last_run h ≡ last → LastLeft o h s.agent last → LastLeft o k s.agent last
    left_same None at left = left
    left_same (Some r) at left =
        let begun = last_begun r h at in
        record {
          aborted = left.aborted;
          has_run = rw (
            kind_same o h k r same begun,
            known_at_same o h k r same begun,
            same.same_exchanges r,
          ) left.has_run;
        }
run_same o h k s new (Some r) same agent way is = record {
  last = same.same_last ∙ is.last;
  aborted = is.aborted;
  has_run = rw (
    agent,
    kind_same o h k r.number same begun,
    known_at_same o h k r.number same begun,
    same.same_exchanges r.number,
  ) is.has_run;
  stopped = λ a. let was = is.stopped a in (same.closes was.0, same.idle was.1);
  left = rw (same.same_asked, same.same_answers) is.left;
  some = is.some;
  earlier = rw (same.same_before r.number begun, same.same_answers) is.earlier;
  ended = rw (agent, same.same_answers) is.ended;
  alike = rw (agent, same.same_answers) is.alike;
  no_request = by_way way;
}
  where
    begun : has_begun r.number h ≡ true
    begun = last_begun r.number h is.last

    by_way : (new.under_way ≡ s.under_way) ⊎ (new.under_way ≡ false) → new.under_way ≡ false
    by_way (inl e) = e ∙ is.no_request
    by_way (inr e) = e

-- one more entry, which changes no exchange
pub left_pushed : (o : Opening) (h : List Entry) (e : Entry) (agent : AgentState) (last : Option ℕ) → last_run h ≡ last
    → ((r : ℕ) → run_exchanges r (h ++ e ∷ []) ≡ run_exchanges r h) → LastLeft o h agent last
    → LastLeft o (h ++ e ∷ []) agent last
left_pushed o h e agent None at same left = left
left_pushed o h e agent (Some r) at same left =
    let begun = last_begun r h at in
    record {
      aborted = left.aborted;
      has_run = rw (
        served_stays r h (e ∷ []) begun,
        entries_before_run_stays r h (e ∷ []) begun,
        same r,
      ) left.has_run;
    }

-- what the last run has left, whether it is open or not
pub last_left : (o : Opening) (h : List Entry) (s : QueueState) → Describes o h s → LastLeft o h s.agent (last_run h)
last_left o h s stands = by_run s.run stands.run_is
  where
    by_run : (run : Option RunState) → RunIs o h s run → LastLeft o h s.agent (last_run h)
    by_run None is = is.left
    by_run (Some r) is = rw is.last (record { aborted = is.aborted; has_run = is.has_run })

-- before the first run of all no UID is set apart
pub none_before : (o : Opening) (h : List Entry) (s : QueueState) → RunFacts o h → Describes o h s → IsBeforeRuns o h
    → (s.agent.apart ≡ []) × (s.agent.more ≡ false)
none_before o h s facts stands before = by_last (last_run h) refl (last_left o h s stands)
  where
    by_last : (last : Option ℕ) → last_run h ≡ last → LastLeft o h s.agent last
        → (s.agent.apart ≡ []) × (s.agent.more ≡ false)
    by_last None at left = left (rw at at before)
    by_last (Some r) at left =
        let some = (facts.begun_below r (last_begun r h at)).0 in let is : r + 1 ≡ 1 = rw at at before in
        absurd (omega arith)

-- the agent of the last run, after the replies that the log shows
runs_fed : (x : List Seen) (a b : AgentState) → Runs a x b → b ≡ fed_all a (map (λ (e : Seen). e.heard) x)
runs_fed [] a b is = is
runs_fed (e ∷ x) a b is = runs_fed x (fed a e.heard) b is.1

has_fed : (search : Search) (kind : Kind) (known : List ℕ) (budget : ℕ) (aborted : Bool) (x : List Seen)
    (a : AgentState) → HasRunBy search kind known budget aborted x a
    → (a.apart ≡ (fed_all (start_by search kind known budget) (map (λ (e : Seen). e.heard) x)).apart)
    × (a.more ≡ (fed_all (start_by search kind known budget) (map (λ (e : Seen). e.heard) x)).more)
has_fed search kind known budget false x a run =
    let same = run.is ∙ runs_fed x _ run.before run.runs in
    (ap (λ (b : AgentState). b.apart) same, ap (λ (b : AgentState). b.more) same)
has_fed search kind known budget true x a run =
    let same = runs_fed x _ run.before run.runs in (
      ap (λ (b : AgentState). b.apart) run.is.1 ∙ ap (λ (b : AgentState). b.apart) same,
      ap (λ (b : AgentState). b.more) run.is.1 ∙ ap (λ (b : AgentState). b.more) same,
    )

left_run : (o : Opening) (h : List Entry) (s : QueueState) → Describes o h s → (r : ℕ) → last_run h ≡ Some r
    → HasLeft o h r s.agent
left_run o h s stands r at = subst (λ last. LastLeft o h s.agent last) at (last_left o h s stands)

pub bad_after : (o : Opening) (h : List Entry) (s : QueueState) → StandsAfter o h s
    → AfterEach s.agent (λ (run : RunSoFar). AllByRecursion (λ u. WasBad u run.exchanges) s.agent.apart)
    → AreBadUids o h s.agent.apart
bad_after o h s after answered = record {
  none = λ before. (none_before o h s (run_facts o h after.legal.each) after.stands before).0;
  set_apart = λ r at. (let left = left_run o h s after.stands r at in
      has_fed _ _ _ _ left.aborted _ s.agent left.has_run).0;
  answered = λ r at. (let left = left_run o h s after.stands r at in
      answered (record {
        search = o.search;
        kind = run_kind r h;
        known = known_at_run o r h;
        budget = o.budget;
        aborted = left.aborted;
        exchanges = run_exchanges r h;
      }) left.has_run);
}

pub more_after : (o : Opening) (h : List Entry) (s : QueueState) → StandsAfter o h s → HasMoreBadUids o h s.agent.more
more_after o h s after = record {
  none = λ before. (none_before o h s (run_facts o h after.legal.each) after.stands before).1;
  given_up = λ r at. (let left = left_run o h s after.stands r at in
      has_fed _ _ _ _ left.aborted _ s.agent left.has_run).1;
}
