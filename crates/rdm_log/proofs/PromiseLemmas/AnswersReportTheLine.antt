-- The devices of an Answer are those that its run showed on the line, noisy or not.
use Rattle.rdm_log.proofs.Common.{◌≡◌, ℕ, suc, zero, true, false, List, [], ◌∷◌, ◌++◌, take, drop, Option, Some, None}
use Rattle.rdm_log.proofs.Common.{slice_get, filter_map, refl, sym, ap, ◌∙◌, inl, inr, fold, ◌⊎◌, ◌≢◌, ◌==◌, Contains}
use Rattle.rdm_log.proofs.Common.{cons_option, cases_Bool, false≢true, eqb-true, eq-eqb, none-some, same_Some}
use Rattle.rdm_log.proofs.Common.{EachAfter, has, uids_of, Device, Seen, Unmute, acked_in, Certificate}
use Rattle.rdm_log.proofs.Common.{Kind, AgentFault, Aborted, Opening, Entry, Answer, Answered, answered_of, answers}
use Rattle.rdm_log.proofs.Common.{run_kind, known_at_run, run_exchanges, run_devices, answer_devices, if_without_fault}
use Rattle.rdm_log.proofs.Common.{last_run_without_fault, known_devices, MayAnswer, MayFollow, Legal}
use Rattle.rdm_log.proofs.Common.{AnswersReportTheLine}
use Rattle.rdm_wire.specs.Uid.{IsDevice}
use Rattle.rdm_wire.specs.HonestOver.{HonestOver}
use Rattle.rdm_wire.specs.Noisy.{NoisyTo, NoisyTrace}
use Rattle.rdm_wire.proofs.NoisyLemmas.{honest_is_noisy, honest_to_is_noisy}
use Rattle.rdm_log.specs.promises.Discoveries.{AnswersReportANoisyLine}
use Rattle.rdm_agent.specs.Statements.{IsInEach}
use Rattle.rdm_agent.proofs.Honest as honest_runs
use Rattle.rdm_agent.proofs.OneDevice.{found_in_noise}
use Rattle.rdm_agent.proofs.ChangingDevices.{honest_over_to_each, staying_device}
use Rattle.rdm_agent.proofs.ChangingDevices as changing
use Rattle.rdm_log.proofs.LogLemmas.RunFacts.{run_facts}
use Rattle.rdm_log.proofs.PromiseLemmas.StableResults.{contains_from_get}
use Rattle.rdm_log.proofs.PromiseLemmas.RunReports.{reports, device_acked}
use Rattle.rdm_log.proofs.PromiseLemmas.RunsAnswer.{ended}

-- an Answer without fault is of a run, which has its certificate
record IsCertified (h : List Entry) (r : ℕ) : Type 0 where
  run : r ≢ 0
  kind : Kind
  known : List ℕ
  certified : Certificate kind known (run_exchanges r h) (run_devices r h)

certified_at : (o : Opening) (h front back : List Entry) (n r : ℕ) → EachAfter (MayFollow o) h
    → h ≡ front ++ Answer n r None ∷ back → IsCertified h r
certified_at o h front back n r each is = by_run (cases_Bool (r == 0)) (each front back (Answer n r None) is)
  where
    no_fault : None ≡ Some Aborted → ⊥
    no_fault e = cc

    by_run : ((r == 0) ≡ true) ⊎ ((r == 0) ≡ false) → MayAnswer o front n r None → IsCertified h r
    by_run (inl zero_) may = absurd (no_fault (may.unserved (eqb-true r 0 zero_)).aborted)
    by_run (inr some) may =
        let run : r ≢ 0 = λ none. false≢true (sym some ∙ eq-eqb r 0 none) in
        record {
          run = run;
          kind = run_kind r front;
          known = known_at_run o r front;
          certified = rw (ended o h each front back n r None is) (may.by_run run).shows;
        }

-- the devices of an Answer by a run
of_run : (h : List Entry) (r : ℕ) → r ≢ 0 → answer_devices r h ≡ run_devices r h
of_run h r run = by_test (cases_Bool (r == 0))
  where
    by_test : ((r == 0) ≡ true) ⊎ ((r == 0) ≡ false) → answer_devices r h ≡ run_devices r h
    by_test (inl zero_) = absurd (run (eqb-true r 0 zero_))
    by_test (inr some) = rw some refl

exactly_in_noise : (o : Opening) (h : List Entry) → EachAfter (MayFollow o) h
    → (front back : List Entry) (n r : ℕ) (present : List ℕ) → h ≡ front ++ Answer n r None ∷ back
    → NoisyTrace present (run_exchanges r h) → uids_of (answer_devices r h) ≡ present
exactly_in_noise o h each front back n r present is noisy =
    let c = certified_at o h front back n r each is in
    ap uids_of (of_run h r c.run)
    ∙ honest_runs.devices_in_noise c.kind c.known (run_exchanges r h) (uids_of (run_devices r h)) present
    c.certified.search noisy

each_in_noise : (o : Opening) (h : List Entry) → EachAfter (MayFollow o) h → (front back : List Entry) (n r u : ℕ)
    → h ≡ front ++ Answer n r None ∷ back → IsDevice u → NoisyTo u (run_exchanges r h)
    → has (uids_of (answer_devices r h)) u ≡ true
each_in_noise o h each front back n r u is device noisy =
    let c = certified_at o h front back n r each is in
    rw (of_run h r c.run)
    (found_in_noise c.kind c.known (run_exchanges r h) (uids_of (run_devices r h)) u device c.certified.search noisy)

-- a device that was always present is one, since there are exchanges
staying_is_device : (sets : List (List ℕ)) (u : ℕ) (x : List Seen) → x ≢ [] → IsInEach u sets → HonestOver sets x
    → IsDevice u
staying_is_device sets u [] some each honest = absurd (some refl)
staying_is_device sets u (e ∷ x) some each honest = staying_device sets u e x each honest

has_exchanges : (kind : Kind) (known : List ℕ) (x : List Seen) (s : List Device) → Certificate kind known x s → x ≢ []
has_exchanges kind known x s certified none = no (rw none at certified.search.unmutes)
  where
    no : [] ≡ Unmute ∷ Unmute ∷ Unmute ∷ [] → ⊥
    no e = cc

staying : (o : Opening) (h : List Entry) → EachAfter (MayFollow o) h
    → (front back : List Entry) (n r : ℕ) (sets : List (List ℕ)) (u : ℕ) → h ≡ front ++ Answer n r None ∷ back
    → HonestOver sets (run_exchanges r h) → IsInEach u sets → has (uids_of (answer_devices r h)) u ≡ true
staying o h each front back n r sets u is honest in_each =
    let c = certified_at o h front back n r each is in
    let device = staying_is_device sets u (run_exchanges r h)
    (has_exchanges c.kind c.known (run_exchanges r h) (run_devices r h) c.certified) in_each honest in
    each_in_noise o h each front back n r u is device
    (honest_to_is_noisy u (run_exchanges r h) (honest_over_to_each sets u (run_exchanges r h) in_each honest))

-- each device of an Answer was acknowledged in its run
was_acked : (h : List Entry) (r u : ℕ) → has (uids_of (answer_devices r h)) u ≡ true
    → has (acked_in (run_exchanges r h)) u ≡ true
was_acked h r u is = by_run (cases_Bool (r == 0))
  where
    by_run : ((r == 0) ≡ true) ⊎ ((r == 0) ≡ false) → has (acked_in (run_exchanges r h)) u ≡ true
    by_run (inl none) = absurd (false≢true (rw none at is))
    by_run (inr some) = device_acked (run_exchanges r h) u (rw some at is)

-- the last Answer without fault
record IsWithoutFault (bs : List Answered) (r : ℕ) : Type 0 where
  index : ℕ
  number : ℕ
  stands : slice_get bs index ≡ Some (record { number = number; run = r; fault = None })

without_fault : (r : ℕ) (first : Option ℕ) (bs : List Answered) → fold if_without_fault first bs ≡ Some r
    → (first ≡ Some r) ⊎ IsWithoutFault bs r
without_fault r first [] e = inl e
without_fault r first (b ∷ bs) e = by_later (without_fault r (if_without_fault first b) bs e)
  where
    by_fault : (fault : Option AgentFault) → b.fault ≡ fault
        → elim fault [ None ↦ Some b.run | Some f ↦ first ] ≡ Some r → (first ≡ Some r) ⊎ IsWithoutFault (b ∷ bs) r
    by_fault None is here = inr (record {
      index = 0;
      number = b.number;
      stands = rw (← is, ← same_Some b.run r here) refl;
    })
    by_fault (Some f) is here = inl here

    by_later : (if_without_fault first b ≡ Some r) ⊎ IsWithoutFault bs r → (first ≡ Some r) ⊎ IsWithoutFault (b ∷ bs) r
    by_later (inl here) = by_fault b.fault refl here
    by_later (inr later) = inr (record { index = suc later.index; number = later.number; stands = later.stands })

-- is in the log
record IsAnswerAt (h : List Entry) (n r : ℕ) (fault : Option AgentFault) : Type 0 where
  index : ℕ
  stands : slice_get h index ≡ Some (Answer n r fault)

answer_of : (e : Entry) (n r : ℕ) (fault : Option AgentFault)
    → answered_of e ≡ Some (record { number = n; run = r; fault = fault }) → e ≡ Answer n r fault
answer_of (Answer m q f) n r fault is =
    let same = same_Some (record { number = m; run = q; fault = f }) (record { number = n; run = r; fault = fault })
    is in rw (
      ← ap (λ (b : Answered). b.number) same,
      ← ap (λ (b : Answered). b.run) same,
      ← ap (λ (b : Answered). b.fault) same,
    ) refl
answer_of _ n r fault is = cc

answer_in : (h : List Entry) (i n r : ℕ) (fault : Option AgentFault)
    → slice_get (filter_map answered_of h) i ≡ Some (record { number = n; run = r; fault = fault })
    → IsAnswerAt h n r fault
answer_in [] i n r fault at = absurd (none-some _ at)
answer_in (e ∷ h) i n r fault at = by_entry (answered_of e) refl i at (answer_in h)
  where
    by_entry : (b : Option Answered) → answered_of e ≡ b → (j : ℕ)
        → slice_get (cons_option b (filter_map answered_of h)) j ≡ Some (record { number = n; run = r; fault = fault })
        → ((j m q : ℕ) (f : Option AgentFault)
        → slice_get (filter_map answered_of h) j ≡ Some (record { number = m; run = q; fault = f })
        → IsAnswerAt h m q f) → IsAnswerAt (e ∷ h) n r fault
    by_entry None is j here later =
        let rest = later j n r fault here in record { index = suc rest.index; stands = rest.stands }
    by_entry (Some b) is zero here later = record {
      index = 0;
      stands = ap (λ (x : Entry). Some x) (answer_of e n r fault (is ∙ here));
    }
    by_entry (Some b) is (suc j) here later =
        let rest = later j n r fault here in record { index = suc rest.index; stands = rest.stands }

last_answer : (h : List Entry) (r : ℕ) → last_run_without_fault h ≡ Some r → (n : ℕ) × IsAnswerAt h n r None
unfolding answers
last_answer h r last = by_fold (without_fault r None (filter_map answered_of h) last)
  where
    by_fold : (None ≡ Some r) ⊎ IsWithoutFault (filter_map answered_of h) r → (n : ℕ) × IsAnswerAt h n r None
    by_fold (inl none) = absurd (none-some r none)
    by_fold (inr is) = (is.number, answer_in h is.index is.number r None is.stands)

-- a log split at an index
pub split_at : {X : Type 0} (xs : List X) (i : ℕ) (x : X) → slice_get xs i ≡ Some x
    → xs ≡ take i xs ++ x ∷ drop (suc i) xs
split_at [] i x at = absurd (none-some x at)
split_at (y ∷ xs) zero x at = rw (same_Some y x at) refl
split_at (y ∷ xs) (suc i) x at = ap (λ l. y ∷ l) (split_at xs i x at)

known_from : (o : Opening) (h : List Entry) → EachAfter (MayFollow o) h → (r : ℕ) → last_run_without_fault h ≡ Some r
    → (n : ℕ) × Contains h (Answer n r None) × (known_devices o h ≡ answer_devices r h)
known_from o h each r last =
    let at = last_answer h r last in
    let c = certified_at o h (take at.1.index h) (drop (suc at.1.index) h) at.0 r each
    (split_at h at.1.index (Answer at.0 r None) at.1.stands) in
    (at.0, contains_from_get h at.1.index (Answer at.0 r None) at.1.stands, rw last (sym (of_run h r c.run)))

known_in_noise : (o : Opening) (h : List Entry) → EachAfter (MayFollow o) h → (r : ℕ) (present : List ℕ)
    → last_run_without_fault h ≡ Some r → NoisyTrace present (run_exchanges r h)
    → uids_of (known_devices o h) ≡ present
known_in_noise o h each r present last noisy =
    let at = last_answer h r last in
    ap uids_of (known_from o h each r last).2
    ∙ exactly_in_noise o h each (take at.1.index h) (drop (suc at.1.index) h) at.0 r present
    (split_at h at.1.index (Answer at.0 r None) at.1.stands) noisy

pub all_report_a_noisy_line : (o : Opening) (h : List Entry) → Legal o h → AnswersReportANoisyLine o h
all_report_a_noisy_line o h legal = let facts = run_facts o h legal.each in record {
  exactly = exactly_in_noise o h legal.each;
  no_phantom =
      λ front back n r fault present u is noisy there. honest_runs.no_phantom_in_noise present (run_exchanges r h) u
      (facts.failures r) noisy (was_acked h r u there);
  each = each_in_noise o h legal.each;
  known = known_in_noise o h legal.each;
}

-- an honest line is a noisy one
pub all_report_the_line : (o : Opening) (h : List Entry) → Legal o h → AnswersReportTheLine o h
all_report_the_line o h legal =
    let facts = run_facts o h legal.each in let in_noise = all_report_a_noisy_line o h legal in record {
      exactly = λ front back n r present is honest. in_noise.exactly front back n r present is
          (honest_is_noisy present (run_exchanges r h) honest);
      no_phantom = λ front back n r fault present u is honest there. in_noise.no_phantom front back n r fault present u
          is (honest_is_noisy present (run_exchanges r h) honest) there;
      each = λ front back n r u is device honest. in_noise.each front back n r u is device
          (honest_to_is_noisy u (run_exchanges r h) honest);
      staying = staying o h legal.each;
      no_stranger =
          λ front back n r fault sets u is honest there. changing.no_stranger sets (run_exchanges r h) u
          (facts.failures r) honest (was_acked h r u there);
      report = λ r. reports (run_exchanges r h);
      known_from = known_from o h legal.each;
      known_before = λ none. rw none refl;
      known = λ r present last honest. in_noise.known r present last
          (honest_is_noisy present (run_exchanges r h) honest);
    }
