-- What an agent that has made a run's exchanges shows about that run in the log.
use Rattle.rdm_log.proofs.Common.{◌≡◌, ℕ, ◌<◌, ◌≤◌, Bool, true, false, List, [], ◌∷◌, length, Option, None, Some, refl}
use Rattle.rdm_log.proofs.Common.{sym, ap, ◌∙◌, subst, inl, inr, filter_map, arith, ◌≢◌, ◌⊎◌, AllByRecursion, cases_lt}
use Rattle.rdm_log.proofs.Common.{false≢true, none-some, uids_of, device_with, Device, Seen, Failed, IsReport}
use Rattle.rdm_log.proofs.Common.{devices_in, Certificate, AgentState, Runs, next_of, Kind, AgentFault}
use Rattle.rdm_log.proofs.Common.{Opening, Entry, is_closed, run_kind, known_at_run}
use Rattle.rdm_log.proofs.Common.{run_exchanges, run_devices, reported_devices, GoesOn}
use Rattle.rdm_agent.specs.Run.{asked_by}
use Rattle.rdm_agent.specs.Cause.{IsCorruptBy}
use Rattle.rdm_agent.specs.Machine.{start_by, fault_of}
use Rattle.rdm_agent.specs.Calls.{next_op, HasRunBy}
use Rattle.rdm_agent.specs.declared.op.Op.TheVariants.{End}
use Rattle.rdm_agent.proofs.Runs.{goes_on_soundly_by, all_reported_by, asks_in_order_by, ends_at_budget_by}
use Rattle.rdm_agent.proofs.CertificateEnds.{certificate_ends_by}
use Rattle.rdm_agent.proofs.CallLemmas.{next_asked, runs-own, fault-certified, fault-caused, found-report, cause-more}
use Rattle.rdm_log.specs.log.Due.{IsDone}
use Rattle.rdm_log.specs.log.MayAnswer.{IsAborted, Shows}

-- a run whose agent asks for more goes on
goes_by_runs : (o : Opening) (h : List Entry) (r : ℕ) (a : AgentState) (aborted : Bool)
    (s : HasRunBy o.search (run_kind r h) (known_at_run o r h) o.budget aborted (run_exchanges r h) a) (b : AgentState)
    → Runs (start_by o.search (run_kind r h) (known_at_run o r h) o.budget) (run_exchanges r h) b → next_op b ≢ End
    → GoesOn o h r
goes_by_runs o h r a aborted s b runs goes = record {
  no_failure = open_.0;
  not_corrupt = open_.1;
  all_reported = all_reported_by o.search kind known o.budget x b _ s.devices runs next;
  in_budget = below (cases_lt (length x) o.budget);
  not_done = λ done.
      goes (ap_none (certificate_ends_by o.search kind known o.budget x b s.devices runs (run_devices r h) done).0);
}
  where
    kind : Kind
    kind = run_kind r h

    known : List ℕ
    known = known_at_run o r h

    x : List Seen
    x = run_exchanges r h

    next : next_of b ≡ Some (asked_by (next_op b))
    next = next_asked b goes

    ap_none : next_of b ≡ None → next_op b ≡ End
    ap_none none = absurd (none-some _ (sym none ∙ next))

    open_ : AllByRecursion (λ e. e.heard ≢ Failed) x × ((u : ℕ) → IsCorruptBy o.search u x → ⊥)
    open_ = goes_on_soundly_by o.search kind known o.budget x b s.devices runs (λ none. goes (ap_none none))

    below : (length x < o.budget) ⊎ (o.budget ≤ length x) → length x < o.budget
    below (inl less) = less
    below (inr most) =
        let within = (asks_in_order_by o.search kind known o.budget x b s.devices runs).2 in
        absurd (goes (ap_none (ends_at_budget_by o.search kind known o.budget x b s.devices runs (omega arith))))

pub agent_goes_on : (o : Opening) (h : List Entry) (r : ℕ) (a : AgentState)
    → HasRunBy o.search (run_kind r h) (known_at_run o r h) o.budget false (run_exchanges r h) a → next_op a ≢ End
    → GoesOn o h r
agent_goes_on o h r a s goes = goes_by_runs o h r a false s a (runs-own _ _ _ _ a s) goes

-- and so did one that was stopped
pub stopped_went_on : (o : Opening) (h : List Entry) (r : ℕ) (a : AgentState)
    → HasRunBy o.search (run_kind r h) (known_at_run o r h) o.budget true (run_exchanges r h) a → GoesOn o h r
stopped_went_on o h r a s = goes_by_runs o h r a true s s.before s.runs s.is.0

-- a report is determined by the exchanges
report_is : (ds : List Device) (f : ℕ → Option Device) → AllByRecursion (λ d. f d.uid ≡ Some d) ds
    → filter_map f (uids_of ds) ≡ ds
report_is [] f all = refl
report_is (d ∷ ds) f all = rw all.0 (ap (λ l. d ∷ l) (report_is ds f all.1))

pub report_devices : (x : List Seen) (s : List Device) → IsReport x s → s ≡ reported_devices x
report_devices x s is =
    sym (report_is s (device_with (devices_in x)) is.first) ∙ ap (filter_map (device_with (devices_in x))) is.uids

pub agent_found : (o : Opening) (h : List Entry) (r : ℕ) (a : AgentState) (aborted : Bool)
    → HasRunBy o.search (run_kind r h) (known_at_run o r h) o.budget aborted (run_exchanges r h) a
    → a.found ≡ run_devices r h
agent_found o h r a aborted s =
    report_devices (run_exchanges r h) a.found (found-report a _ _ _ aborted (run_exchanges r h) s)

-- what an agent that has ended shows
not_done : (o : Opening) (h : List Entry) (r : ℕ) (a : AgentState) (aborted : Bool) (f : AgentFault)
    → HasRunBy o.search (run_kind r h) (known_at_run o r h) o.budget aborted (run_exchanges r h) a
    → fault_of a.phase ≡ Some f → IsDone o h r → ⊥
not_done o h r a false f s is done =
    none-some f (sym (certificate_ends_by o.search _ _ _ _ a s.devices (runs-own _ _ _ _ a s) (run_devices r h) done).1
    ∙ is)
not_done o h r a true f s is done = (stopped_went_on o h r a s).not_done done

pub agent_shows : (o : Opening) (h : List Entry) (r : ℕ) (a : AgentState) (aborted : Bool)
    → HasRunBy o.search (run_kind r h) (known_at_run o r h) o.budget aborted (run_exchanges r h) a
    → (aborted ≡ true → is_closed o h ≡ true) → next_op a ≡ End → Shows o h r (fault_of a.phase)
agent_shows o h r a aborted s closed end = by_fault (fault_of a.phase) refl
  where
    aborts : (b : Bool) → HasRunBy o.search (run_kind r h) (known_at_run o r h) o.budget b (run_exchanges r h) a
        → (b ≡ true → is_closed o h ≡ true) → b ≡ true → IsAborted o h r
    aborts true own shut is = record { closed = shut is; goes_on = stopped_went_on o h r a own }
    aborts false own shut is = record { closed = shut is; goes_on = absurd (false≢true is) }

    by_fault : (f : Option AgentFault) → fault_of a.phase ≡ f → Shows o h r f
    by_fault None is =
        subst (λ ds. Certificate (run_kind r h) (known_at_run o r h) (run_exchanges r h) ds)
        (agent_found o h r a aborted s) (fault-certified a end None (sym is) _ _ _ aborted (run_exchanges r h) s)
    by_fault (Some f) is = (
      cause-more o.search o.budget (aborted ≡ true) (IsAborted o h r) f (run_exchanges r h) (aborts aborted s closed)
          (fault-caused a end (Some f) (sym is) _ _ _ aborted (run_exchanges r h) s),
      not_done o h r a aborted f s is,
    )
