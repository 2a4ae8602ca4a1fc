-- A client is answered what it asked for, and all that is promised about discoveries.
use Rattle.rdm_log.proofs.Common.{◌≡◌, ℕ, ◌-◌, true, List, [], ◌∷◌, map, Option, Some, None, slice_get, filter_map}
use Rattle.rdm_log.proofs.Common.{refl}
use Rattle.rdm_log.proofs.Common.{sym, ap, ◌∙◌, inl, inr, arith, zero, suc, ◌++◌, ◌⊎◌, ◌==◌, Contains, cons_option}
use Rattle.rdm_log.proofs.Common.{list_any, eq-eqb, list_any_at, EachAfter, get_or_from_slice_get, none-some, same_Some}
use Rattle.rdm_log.proofs.Common.{slice_get-get_or, slice_get_within, Kind, AgentFault, ClientId, Opening, Entry, Ask}
use Rattle.rdm_log.proofs.Common.{Finish, Answer, AskedDiscovery, Answered, asked_of, answered_of, asks, answers}
use Rattle.rdm_log.proofs.Common.{answers_to, client_of_discovery, is_answer_to, is_answered, MayFollow, Legal}
use Rattle.rdm_log.proofs.Common.{outcome_of, completion_of, RequestValue}
use Rattle.rdm_log.specs.promises.Discoveries.{OwnDiscoveries, DiscoveriesPromised}
use Rattle.rdm_log.proofs.LogLemmas.AskFacts.{AskFacts, ask_facts}
use Rattle.rdm_log.proofs.LogLemmas.Indices.{filter_map_has}
use Rattle.rdm_log.proofs.PromiseLemmas.StableResults.{contains_from_get, IsFinish, IsReply, answer_at, filter_has}
use Rattle.rdm_log.proofs.PromiseLemmas.StableResults.{client_is}
use Rattle.rdm_log.proofs.PromiseLemmas.OwnAnswers.{finished_stays}
use Rattle.rdm_log.proofs.LogLemmas.LegalFacts.{legal_facts}
use Rattle.rdm_log.proofs.LogLemmas.Grows.{front}
use Rattle.rdm_log.proofs.PromiseLemmas.OneResult.{one_answer}
use Rattle.rdm_log.proofs.PromiseLemmas.InOrder.{asks_in_order}
use Rattle.rdm_log.proofs.PromiseLemmas.FullRefuses.{full_refuses_discoveries}
use Rattle.rdm_log.proofs.PromiseLemmas.AnswersReportTheLine.{all_report_the_line}
use Rattle.rdm_log.proofs.PromiseLemmas.RunsAnswer.{runs_answer, exchanges_stay}
use Rattle.rdm_log.proofs.PromiseLemmas.OutcomeLemmas.{named}

-- an Ask of the log
record IsAskAt (h : List Entry) (a : AskedDiscovery) : Type 0 where
  index : ℕ
  client : ClientId
  same_client : client.0 ≡ a.client
  stands : slice_get h index ≡ Some (Ask client a.number a.kind)

record IsAsk (e : Entry) (a : AskedDiscovery) : Type 0 where
  client : ClientId
  same_client : client.0 ≡ a.client
  is : e ≡ Ask client a.number a.kind

ask_of : (e : Entry) (a : AskedDiscovery) → asked_of e ≡ Some a → IsAsk e a
ask_of (Ask c n kind) a is =
    let same = same_Some (record { client = c.0; number = n; kind = kind }) a is in
    record { client = c; same_client = ap (λ (x : AskedDiscovery). x.client) same; is = rw (← same) refl }
ask_of _ a is = cc

ask_in : (h : List Entry) (i : ℕ) (a : AskedDiscovery) → slice_get (filter_map asked_of h) i ≡ Some a → IsAskAt h a
ask_in [] i a at = absurd (none-some a at)
ask_in (e ∷ h) i a at = by_entry (asked_of e) refl i at (ask_in h)
  where
    by_entry : (b : Option AskedDiscovery) → asked_of e ≡ b → (j : ℕ)
        → slice_get (cons_option b (filter_map asked_of h)) j ≡ Some a
        → ((j : ℕ) (x : AskedDiscovery) → slice_get (filter_map asked_of h) j ≡ Some x → IsAskAt h x)
        → IsAskAt (e ∷ h) a
    by_entry None is j here later =
        let rest = later j a here in
        record { index = suc rest.index; client = rest.client; same_client = rest.same_client; stands = rest.stands }
    by_entry (Some b) is zero here later =
        let one = ask_of e a (is ∙ here) in
        record {
          index = 0;
          client = one.client;
          same_client = one.same_client;
          stands = ap (λ (x : Entry). Some x) one.is;
        }
    by_entry (Some b) is (suc j) here later =
        let rest = later j a here in
        record { index = suc rest.index; client = rest.client; same_client = rest.same_client; stands = rest.stands }

-- the Ask of an Answer to a client
mapped_index : {X Y : Type 0} (f : X → Y) (xs : List X) (i : ℕ) (y : Y) → slice_get (map f xs) i ≡ Some y → (x : X)
    × (slice_get xs i ≡ Some x) × (f x ≡ y)
mapped_index f [] i y at = absurd (none-some y at)
mapped_index f (x ∷ xs) zero y at = (x, refl, same_Some (f x) y at)
mapped_index f (x ∷ xs) (suc i) y at = mapped_index f xs i y at

asked_by : (o : Opening) (h : List Entry) → Legal o h → (c n r : ℕ) (fault : Option AgentFault)
    → Contains (answers_to o c h) (Answer n r fault) → AskFacts o h → (client : ClientId) × (kind : Kind)
    × (client.0 ≡ c) × Contains h (Ask client n kind)
unfolding answers_to asks answers
asked_by o h legal c n r fault has facts = (
  ask.client,
  a.0.kind,
  ask.same_client ∙ a.2,
  contains_from_get h ask.index (Ask ask.client n a.0.kind)
      (ask.stands ∙ ap (λ m. Some (Ask ask.client m a.0.kind)) (number_is)),
)
  where
    at : slice_get (answers_to o c h) has.0 ≡ Some (Answer n r fault)
    at = slice_get-get_or (answers_to o c h) has.0 (Answer n r fault) has.1 ∙ ap (λ y. Some y) has.2

    own : (j : ℕ) × (slice_get h j ≡ Some (Answer n r fault)) × (is_answer_to o c h (Answer n r fault) ≡ true)
    own = filter_has (is_answer_to o c h) h has.0 (Answer n r fault) at

    client : client_of_discovery o h n ≡ Some c
    client = client_is c (client_of_discovery o h n) own.2

    a : (x : AskedDiscovery) × (slice_get (asks h) (n - o.next_ask) ≡ Some x) × (x.client ≡ c)
    a = mapped_index (λ (x : AskedDiscovery). x.client) (asks h) (n - o.next_ask) c client

    ask : IsAskAt h a.0
    ask = ask_in h (n - o.next_ask) a.0 a.1

    number_is : a.0.number ≡ n
    number_is =
        by_index (filter_map_has answered_of h own.0 (Answer n r fault)
        (record { number = n; run = r; fault = fault }) own.1 refl)
      where
        by_index : (j : ℕ)
            × (slice_get (filter_map answered_of h) j ≡ Some (record { number = n; run = r; fault = fault }))
            → a.0.number ≡ n
        by_index found =
            omega (arith, facts.answer_numbers found.0 _ found.1, facts.ask_numbers (n - o.next_ask) a.0 a.1)

-- the outcome of a client's answer stays
pub outcome_stays : (o : Opening) (front back : List Entry) → EachAfter (MayFollow o) (front ++ back)
    → (c i : ℕ) (x : Entry) → slice_get (answers_to o c front) i ≡ Some x
    → outcome_of (front ++ back) x ≡ outcome_of front x
unfolding answers_to
outcome_stays o early back each c i x at =
    by_kind (answer_at o early (legal_facts o early (front o early back each)) c found.0 x found.1 found.2)
  where
    found : (j : ℕ) × (slice_get early j ≡ Some x) × (is_answer_to o c early x ≡ true)
    found = filter_has (is_answer_to o c early) early i x at

    of_finish : (f : IsFinish o early x)
        → outcome_of (early ++ back) (Finish f.number f.status f.len)
        ≡ outcome_of early (Finish f.number f.status f.len)
    of_finish f =
        ap (λ r. Some (RequestValue (Some f.number) (completion_of f.status r)))
        (finished_stays o early back f.number each f.finished)

    of_reply : (g : IsReply x)
        → outcome_of (early ++ back) (Answer g.number g.run g.fault) ≡ outcome_of early (Answer g.number g.run g.fault)
    of_reply g =
        rw (exchanges_stay o early back g.run each
        (named early found.0 g.number g.run g.fault (found.1 ∙ ap (λ (y : Entry). Some y) g.is))) refl

    by_kind : IsFinish o early x ⊎ IsReply x → outcome_of (early ++ back) x ≡ outcome_of early x
    by_kind (inl f) = ap (outcome_of (early ++ back)) f.is ∙ of_finish f ∙ sym (ap (outcome_of early) f.is)
    by_kind (inr g) = ap (outcome_of (early ++ back)) g.is ∙ of_reply g ∙ sym (ap (outcome_of early) g.is)

pub own_discoveries : (o : Opening) (h : List Entry) → Legal o h → OwnDiscoveries o h
own_discoveries o h legal = record {
  own = λ c n r fault has. asked_by o h legal c n r fault has (ask_facts o h legal.each);
  lasts = λ front back c i x is at. rw is (outcome_stays o front back (rw is at legal.each) c i x at);
}

-- all of it
pub discoveries_promised : (o : Opening) (h : List Entry) → Legal o h → DiscoveriesPromised o h
discoveries_promised o h legal = record {
  one_answer = one_answer o h legal;
  in_order = asks_in_order o h legal;
  all_report_the_line = all_report_the_line o h legal;
  runs_answer = runs_answer o h legal;
  own_discoveries = own_discoveries o h legal;
  full_refuses = full_refuses_discoveries o h legal;
}
