-- A client collects the joined answers of its own requests, and what the runs of its own discoveries found.
use Rattle.rdm_log.proofs.Common.{◌≡◌, ℕ, suc, ◌-◌, ◌<◌, true, List, ◌∷◌, ◌++◌, length, map, take, drop, Option, Some}
use Rattle.rdm_log.proofs.Common.{None, slice_get, sym, ap, ◌∙◌, inl, inr, arith, ◌⊎◌, length-map, Contains-append_left}
use Rattle.rdm_log.proofs.Common.{slice_get_within, slice_get-get_or, same_Some, EachAfter, Joined, Opening, Entry}
use Rattle.rdm_log.proofs.Common.{Finish, Answer, Outcome, Accepted, AskedDiscovery, accepts, asks, result}
use Rattle.rdm_log.proofs.Common.{answer_devices, client_of_request, client_of_discovery, is_answer_to, MayFollow}
use Rattle.rdm_log.proofs.Common.{Legal, IsOldest, OutcomeValue, discovered, outcome_value, outcome_of, completion_of}
use Rattle.rdm_log.proofs.Common.{RequestValue, DiscoveryValue, IsOwnOutcome, ReportsTheLine}
use Rattle.rdm_log.specs.declared.outcome.Outcome.TheVariants as outcomes
use Rattle.rdm_log.specs.promises.Outcomes.{Discovered, completion_value, discovered_by}
use Rattle.rdm_log.specs.promises.EventsHeadline.{IsOwnReport, ReportsANoisyLine}
use Rattle.rdm_log.proofs.LogLemmas.Grows.{front}
use Rattle.rdm_log.proofs.LogLemmas.LegalFacts.{legal_facts}
use Rattle.rdm_log.proofs.LogLemmas.ClientLemmas.{client_stays, asker_stays}
use Rattle.rdm_log.proofs.PromiseLemmas.StableResults.{contains_from_get, client_is, IsFinish, IsReply}
use Rattle.rdm_log.proofs.PromiseLemmas.StableResults.{uncollected_found, uncollected_answer}
use Rattle.rdm_log.proofs.PromiseLemmas.OwnAnswers.{finished_stays}
use Rattle.rdm_log.proofs.PromiseLemmas.StableOutcomes.{devices_stay}
use Rattle.rdm_log.proofs.PromiseLemmas.AnswersReportTheLine.{all_report_the_line, all_report_a_noisy_line}
use Rattle.rdm_log.proofs.PromiseLemmas.AnswersReportTheLine.{split_at}
use Rattle.rdm_log.proofs.PromiseLemmas.OutcomeLemmas.{named}

-- an outcome's value has its parts
same_result : (n m : Option ℕ) (i j : Joined)
    → ◌≡◌ {A = Option OutcomeValue} (Some (RequestValue n i)) (Some (RequestValue m j)) → (m ≡ n) × (j ≡ i)
same_result n m i j e =
    let same : RequestValue n i ≡ RequestValue m j = same_Some (RequestValue n i) (RequestValue m j) e in (cc, cc)

same_report : (n m : Option ℕ) (i j : Discovered)
    → ◌≡◌ {A = Option OutcomeValue} (Some (DiscoveryValue n i)) (Some (DiscoveryValue m j)) → (m ≡ n) × (j ≡ i)
same_report n m i j e =
    let same : DiscoveryValue n i ≡ DiscoveryValue m j = same_Some (DiscoveryValue n i) (DiscoveryValue m j) e in
    (cc, cc)

no_report : (n m : Option ℕ) (i : Joined) (j : Discovered)
    → ◌≡◌ {A = Option OutcomeValue} (Some (RequestValue n i)) (Some (DiscoveryValue m j)) → ⊥
no_report n m i j e = cc

no_result : (n m : Option ℕ) (i : Discovered) (j : Joined)
    → ◌≡◌ {A = Option OutcomeValue} (Some (DiscoveryValue n i)) (Some (RequestValue m j)) → ⊥
no_result n m i j e = cc

-- a request's or a discovery's client is known, also in a later log
request_client : (o : Opening) (h more : List Entry) (c n : ℕ) → client_of_request o h n ≡ Some c
    → client_of_request o (h ++ more) n ≡ Some c
request_client o h more c n client = client_stays o h more n within ∙ client
  where
    within : n - o.next_request < length (accepts h)
    within = omega (
      arith,
      slice_get_within (map (λ (a : Accepted). a.client) (accepts h)) (n - o.next_request) c client,
      length-map (accepts h) (λ (a : Accepted). a.client),
    )

discovery_client : (o : Opening) (h more : List Entry) (c n : ℕ) → client_of_discovery o h n ≡ Some c
    → client_of_discovery o (h ++ more) n ≡ Some c
discovery_client o h more c n client = asker_stays o h more n within ∙ client
  where
    within : n - o.next_ask < length (asks h)
    within = omega (
      arith,
      slice_get_within (map (λ (a : AskedDiscovery). a.client) (asks h)) (n - o.next_ask) c client,
      length-map (asks h) (λ (a : AskedDiscovery). a.client),
    )

of_finish : (o : Opening) (h more : List Entry) (c j : ℕ) (x : Entry) (outcome : Outcome)
    → EachAfter (MayFollow o) (h ++ more) → IsFinish o h x → slice_get h j ≡ Some x → is_answer_to o c h x ≡ true
    → outcome_of h x ≡ Some (outcome_value outcome) → IsOwnOutcome o (h ++ more) c outcome
of_finish o h more c j x (outcomes.Request number done) each f at own told =
    let same = same_result (Some f.number) number (completion_of f.status (result f.number h)) (completion_value done)
    (rw f.is at told) in
    record {
      request = f.number;
      number_is = same.0;
      status = f.status;
      len = f.len;
      finished = Contains-append_left h more (Finish f.number f.status f.len)
          (contains_from_get h j (Finish f.number f.status f.len) (at ∙ ap (λ y. Some y) f.is));
      client = request_client o h more c f.number (client_is c (client_of_request o h f.number) (rw f.is at own));
      told = rw (finished_stays o h more f.number each f.finished) same.1;
    }
of_finish o h more c j x (outcomes.Discovery number done) each f at own told =
    absurd (no_report (Some f.number) number (completion_of f.status (result f.number h)) (discovered done)
    (rw f.is at told))

of_reply : (o : Opening) (h more : List Entry) (c j : ℕ) (x : Entry) (outcome : Outcome)
    → EachAfter (MayFollow o) (h ++ more) → IsReply x → slice_get h j ≡ Some x → is_answer_to o c h x ≡ true
    → outcome_of h x ≡ Some (outcome_value outcome) → IsOwnOutcome o (h ++ more) c outcome
of_reply o h more c j x (outcomes.Request number done) each f at own told =
    absurd (no_result (Some f.number) number (discovered_by f.run f.fault h) (completion_value done) (rw f.is at told))
of_reply o h more c j x (outcomes.Discovery number done) each f at own told =
    let same = same_report (Some f.number) number (discovered_by f.run f.fault h) (discovered done) (rw f.is at told) in
    let here : slice_get h j ≡ Some (Answer f.number f.run f.fault) = at ∙ ap (λ y. Some y) f.is in
    record {
      discovery = f.number;
      number_is = same.0;
      answered = rw (ap (λ (d : Discovered). d.run) same.1, ap (λ (d : Discovered). d.fault) same.1)
          (Contains-append_left h more (Answer f.number f.run f.fault)
          (contains_from_get h j (Answer f.number f.run f.fault) here));
      client = discovery_client o h more c f.number (client_is c (client_of_discovery o h f.number) (rw f.is at own));
      told = ap (λ (d : Discovered). d.devices) same.1
          ∙ sym (devices_stay o h more f.run each (named h j f.number f.run f.fault here))
          ∙ ap (λ r. answer_devices r (h ++ more)) (sym (ap (λ (d : Discovered). d.run) same.1));
    }

pub own_outcome : (o : Opening) (h more : List Entry) (c : ℕ) (outcome : Outcome) → EachAfter (MayFollow o) (h ++ more)
    → IsOldest o h c outcome → IsOwnOutcome o (h ++ more) c outcome
own_outcome o h more c outcome each is =
    by_kind (uncollected_answer o h (legal_facts o h (front o h more each)) c 0 is.entry is.oldest)
  where
    found : (j : ℕ) × (slice_get h j ≡ Some is.entry) × (is_answer_to o c h is.entry ≡ true)
    found = uncollected_found o h c 0 is.entry is.oldest

    by_kind : IsFinish o h is.entry ⊎ IsReply is.entry → IsOwnOutcome o (h ++ more) c outcome
    by_kind (inl f) = of_finish o h more c found.0 is.entry outcome each f found.1 found.2 is.told
    by_kind (inr f) = of_reply o h more c found.0 is.entry outcome each f found.1 found.2 is.told

-- where the Answer of an outcome is
record HasAnswer (h : List Entry) (done : Discovered) : Type 0 where
  discovery : ℕ
  early : List Entry
  late : List Entry
  parts : h ≡ early ++ Answer discovery done.run done.fault ∷ late

has_answer : (o : Opening) (h : List Entry) (c : ℕ) (number : Option ℕ) (done : Discovered)
    → IsOwnReport o h c number done → HasAnswer h done
has_answer o h c number done is = record {
  discovery = is.discovery;
  early = take is.answered.0 h;
  late = drop (suc is.answered.0) h;
  parts = split_at h is.answered.0 answer
      (slice_get-get_or h is.answered.0 answer is.answered.1 ∙ ap (λ y. Some y) is.answered.2);
}
  where
    answer : Entry
    answer = Answer is.discovery done.run done.fault

without_fault : (h : List Entry) (done : Discovered) (a : HasAnswer h done) → done.fault ≡ None
    → h ≡ a.early ++ Answer a.discovery done.run None ∷ a.late
without_fault h done a none = rw (← none) a.parts

-- so it says the same about a noisy line as its Answer
pub reports_a_noisy_line : (o : Opening) (h : List Entry) (c : ℕ) (number : Option ℕ) (done : Discovered) → Legal o h
    → IsOwnReport o h c number done → ReportsANoisyLine h done
reports_a_noisy_line o h c number done legal is =
    let report = all_report_a_noisy_line o h legal in let a = has_answer o h c number done is in record {
      exactly = λ present none noisy. rw is.told
          (report.exactly a.early a.late a.discovery done.run present (without_fault h done a none) noisy);
      no_phantom =
          λ present u noisy there. report.no_phantom a.early a.late a.discovery done.run done.fault present u a.parts
          noisy (rw is.told at there);
      each = λ u none device noisy. rw is.told
          (report.each a.early a.late a.discovery done.run u (without_fault h done a none) device noisy);
    }

-- and about an honest one
pub reports_the_line : (o : Opening) (h : List Entry) → Legal o h → (c : ℕ) (number : Option ℕ) (done : Discovered)
    → IsOwnReport o h c number done → ReportsTheLine h done
reports_the_line o h legal c number done is =
    let report = all_report_the_line o h legal in let a = has_answer o h c number done is in record {
      exactly = λ present none honest. rw is.told
          (report.exactly a.early a.late a.discovery done.run present (without_fault h done a none) honest);
      no_phantom =
          λ present u honest there. report.no_phantom a.early a.late a.discovery done.run done.fault present u a.parts
          honest (rw is.told at there);
      each = λ u none device honest. rw is.told
          (report.each a.early a.late a.discovery done.run u (without_fault h done a none) device honest);
      staying = λ sets u none honest in_each. rw is.told
          (report.staying a.early a.late a.discovery done.run sets u (without_fault h done a none) honest in_each);
      no_stranger =
          λ sets u honest there. report.no_stranger a.early a.late a.discovery done.run done.fault sets u a.parts
          honest (rw is.told at there);
    }
