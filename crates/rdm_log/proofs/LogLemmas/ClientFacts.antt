-- What holds of each client in a log in which each entry may follow those before it.
use Rattle.rdm_log.proofs.Common.{◌≡◌, ℕ, filter_map, ◌+◌, ◌≤◌, Bool, true, false, List, [], ◌∷◌, ◌++◌, length, drop}
use Rattle.rdm_log.proofs.Common.{take, filter, map, Option, Some, None, if◌then◌else◌, refl, ap, ◌∙◌, append-nil}
use Rattle.rdm_log.proofs.Common.{length-append, arith, inl, inr, ◌≢◌, ◌⊎◌, ◌==◌, AllByRecursion, cases_Bool, eqb-true}
use Rattle.rdm_log.proofs.Common.{false≢true, length_push, length-map, length-take-le, take-append-drop, filter-append}
use Rattle.rdm_log.proofs.Common.{recursion_from_All, filter_passes, EachAfter, Request, Status, Kind, AgentFault}
use Rattle.rdm_log.proofs.Common.{ClientId, Opening, Entry, Accept, Ask, Finish, Answer, Collect, Accepted}
use Rattle.rdm_log.proofs.Common.{AskedDiscovery, Finished, Answered, collector_of, finished_of, answered_of, accepts}
use Rattle.rdm_log.proofs.Common.{asks, finishes, answers, collectors, unfinished, unanswered, accepts_by, asks_by}
use Rattle.rdm_log.proofs.Common.{client_of_request, client_of_discovery, is_answer_to, answers_to, collects_by}
use Rattle.rdm_log.proofs.Common.{collected, uncollected, outstanding_requests, outstanding_discoveries, MayFinish}
use Rattle.rdm_log.proofs.Common.{MayAnswer, MayFollow}
use Rattle.rdm_log.proofs.LogLemmas.Indices.{slice_get_first, drop_some_within}
use Rattle.rdm_log.proofs.LogLemmas.Counts.{count, count-map, length_filter_push, length_filter_cons, no_longer}
use Rattle.rdm_log.proofs.LogLemmas.PushLemmas.{accepts-push, asks-push, finishes-push}
use Rattle.rdm_log.proofs.LogLemmas.PushLemmas.{finishes-append, answers-push}
use Rattle.rdm_log.proofs.LogLemmas.PushLemmas.{answered-append, collectors-push, unfinished_accept}
use Rattle.rdm_log.proofs.LogLemmas.PushLemmas.{unfinished_finish, unanswered_ask, unanswered_answer}
use Rattle.rdm_log.proofs.LogLemmas.LegalFacts.{LogFacts, along, legal_facts, unfinished_index}
use Rattle.rdm_log.proofs.LogLemmas.AskFacts.{AskFacts, ask_facts, unanswered_index}
use Rattle.rdm_log.proofs.LogLemmas.ClientLemmas.{brings_work, ends_work, no_accept, no_ask, no_finish, no_reply}
use Rattle.rdm_log.proofs.LogLemmas.ClientLemmas.{client_of_accepted, client_of_asked, answers_same, answers_finish_own}
use Rattle.rdm_log.proofs.LogLemmas.ClientLemmas.{answers_finish_other, answers_answer_own, answers_answer_other}
use Rattle.rdm_log.proofs.LogLemmas.ClientLemmas.{answers_accept, answers_ask}

-- a client's unfinished requests, and its unanswered discoveries
abbrev pub unfinished_by : ℕ → List Entry → List Accepted
unfinished_by c h = filter (λ a. c == a.client) (unfinished h)

abbrev pub unanswered_by : ℕ → List Entry → List AskedDiscovery
unanswered_by c h = filter (λ a. c == a.client) (unanswered h)

-- what each client was answered and has collected
pub record ClientFacts (o : Opening) (h : List Entry) : Type 0 where
  -- a client's requests are finished or unfinished, its discoveries answered or unanswered
  pub finished : (c : ℕ) → length (finishes (answers_to o c h)) + length (unfinished_by c h) ≡ length (accepts_by c h)
  pub answered : (c : ℕ) → length (answers (answers_to o c h)) + length (unanswered_by c h) ≡ length (asks_by c h)
  -- and it collects only answers
  pub collected_within : (c : ℕ) → length (collects_by c h) ≤ length (answers_to o c h)

-- in the empty log nothing
facts_of_empty : (o : Opening) → ClientFacts o []
unfolding accepts asks finishes answers collectors answers_to
facts_of_empty o = record { finished = λ c. refl; answered = λ c. refl; collected_within = λ c. omega arith }

-- each entry keeps the facts: others, an Accept, an Ask, a Finish, an Answer, a Collect
facts_other : (o : Opening) (h : List Entry) (e : Entry) → brings_work e ≡ false → ends_work e ≡ false
    → collector_of e ≡ None → ClientFacts o h → ClientFacts o (h ++ e ∷ [])
facts_other o h e brings ends collect facts = record {
  finished = λ c. rw (
    answers_same o c h e brings ends,
    accepts-push h e,
    no_accept e brings,
    finishes-push h e,
    no_finish e ends,
  ) (facts.finished c);
  answered = λ c. rw (
    answers_same o c h e brings ends,
    asks-push h e,
    no_ask e brings,
    answers-push h e,
    no_reply e ends,
  ) (facts.answered c);
  collected_within =
      λ c. rw (answers_same o c h e brings ends, collectors-push h e, collect) (facts.collected_within c);
}

facts_accept : (o : Opening) (h : List Entry) (d : ClientId) (n : ℕ) (request : Request) → LogFacts o h → AskFacts o h
    → ClientFacts o h → ClientFacts o (h ++ Accept d n request ∷ [])
facts_accept o h d n request log asked facts = record {
  finished = λ c. rw (
    answers_accept o c h log asked d n request,
    unfinished_accept h d n request log.finished_within,
    accepts-push h e,
  )
      (omega (
        arith,
        length_filter_push (λ b. c == b.client) (unfinished h) a,
        length_filter_push (λ b. c == b.client) (accepts h) a,
        facts.finished c,
      ));
  answered = λ c. rw (answers_accept o c h log asked d n request, asks-push h e, answers-push h e)
      (facts.answered c);
  collected_within =
      λ c. rw (answers_accept o c h log asked d n request, collectors-push h e) (facts.collected_within c);
}
  where
    e : Entry
    e = Accept d n request

    a : Accepted
    a = record { client = d.0; number = n; request = request }

facts_ask : (o : Opening) (h : List Entry) (d : ClientId) (n : ℕ) (kind : Kind) → LogFacts o h → AskFacts o h
    → ClientFacts o h → ClientFacts o (h ++ Ask d n kind ∷ [])
facts_ask o h d n kind log asked facts = record {
  finished = λ c. rw (answers_ask o c h log asked d n kind, accepts-push h e, finishes-push h e)
      (facts.finished c);
  answered = λ c. rw (
    answers_ask o c h log asked d n kind,
    unanswered_ask h e a refl refl asked.answered_within,
    asks-push h e,
  )
      (omega (
        arith,
        length_filter_push (λ b. c == b.client) (unanswered h) a,
        length_filter_push (λ b. c == b.client) (asks h) a,
        facts.answered c,
      ));
  collected_within =
      λ c. rw (answers_ask o c h log asked d n kind, collectors-push h e) (facts.collected_within c);
}
  where
    e : Entry
    e = Ask d n kind

    a : AskedDiscovery
    a = record { client = d.0; number = n; kind = kind }

facts_finish : (o : Opening) (h : List Entry) (n : ℕ) (status : Status) (len : ℕ) → LogFacts o h
    → MayFinish o h n status len → ClientFacts o h → ClientFacts o (h ++ Finish n status len ∷ [])
facts_finish o h n status len log may facts = record {
  finished = λ c. rw (unfinished_finish h n status len, accepts-push h e)
      (finished_by c (cases_Bool (c == may.accepted.client)));
  answered = λ c. rw (asks-push h e, answers-push h e)
      (answered_by c (cases_Bool (c == may.accepted.client)));
  collected_within = λ c. rw (collectors-push h e) (collected_by c (cases_Bool (c == may.accepted.client)));
}
  where
    e : Entry
    e = Finish n status len

    f : Finished
    f = record { number = n; status = status; len = len }

    client : client_of_request o h n ≡ Some may.accepted.client
    client = rw may.number
        (client_of_accepted o h log (length (finishes h) + 0) may.accepted
        (unfinished_index h 0 may.accepted may.oldest))

    first : (c : ℕ)
        → length (unfinished_by c h)
        ≡ (if c == may.accepted.client then 1 else 0) + length (filter (λ a. c == a.client) (drop 1 (unfinished h)))
    first c = ap (λ l. length (filter (λ a. c == a.client) l)) (slice_get_first (unfinished h) may.accepted may.oldest)
        ∙ length_filter_cons (λ a. c == a.client) may.accepted (drop 1 (unfinished h))

    finished_by : (c : ℕ) → ((c == may.accepted.client) ≡ true) ⊎ ((c == may.accepted.client) ≡ false)
        → length (finishes (answers_to o c (h ++ e ∷ [])))
        + length (filter (λ a. c == a.client) (drop 1 (unfinished h)))
        ≡ length (accepts_by c h)
    finished_by c (inl own) =
        rw (
          answers_finish_own o c h n status len may.accepted.client client own,
          finishes-push (answers_to o c h) e,
        )
        (let x = rw own at (first c) in
        omega (arith, x, length_push (finishes (answers_to o c h)) f, facts.finished c))
    finished_by c (inr other) =
        rw (answers_finish_other o c h n status len may.accepted.client client other)
        (let x = rw other at (first c) in omega (arith, x, facts.finished c))

    answered_by : (c : ℕ) → ((c == may.accepted.client) ≡ true) ⊎ ((c == may.accepted.client) ≡ false)
        → length (answers (answers_to o c (h ++ e ∷ []))) + length (unanswered_by c h) ≡ length (asks_by c h)
    answered_by c (inl own) =
        rw (
          answers_finish_own o c h n status len may.accepted.client client own,
          answers-push (answers_to o c h) e,
        ) (facts.answered c)
    answered_by c (inr other) =
        rw (answers_finish_other o c h n status len may.accepted.client client other) (facts.answered c)

    collected_by : (c : ℕ) → ((c == may.accepted.client) ≡ true) ⊎ ((c == may.accepted.client) ≡ false)
        → length (collects_by c h) ≤ length (answers_to o c (h ++ e ∷ []))
    collected_by c (inl own) =
        rw (answers_finish_own o c h n status len may.accepted.client client own)
        (omega (arith, length_push (answers_to o c h) e, facts.collected_within c))
    collected_by c (inr other) =
        rw (answers_finish_other o c h n status len may.accepted.client client other) (facts.collected_within c)

facts_answer : (o : Opening) (h : List Entry) (n r : ℕ) (fault : Option AgentFault) → AskFacts o h
    → MayAnswer o h n r fault → ClientFacts o h → ClientFacts o (h ++ Answer n r fault ∷ [])
facts_answer o h n r fault asked may facts = record {
  finished = λ c. rw (accepts-push h e, finishes-push h e)
      (finished_by c (cases_Bool (c == may.asked.client)));
  answered = λ c. rw (unanswered_answer h e b refl refl, asks-push h e)
      (answered_by c (cases_Bool (c == may.asked.client)));
  collected_within = λ c. rw (collectors-push h e) (collected_by c (cases_Bool (c == may.asked.client)));
}
  where
    e : Entry
    e = Answer n r fault

    b : Answered
    b = record { number = n; run = r; fault = fault }

    client : client_of_discovery o h n ≡ Some may.asked.client
    client = rw may.number
        (client_of_asked o h asked (length (answers h) + 0) may.asked (unanswered_index h 0 may.asked may.oldest))

    first : (c : ℕ)
        → length (unanswered_by c h)
        ≡ (if c == may.asked.client then 1 else 0) + length (filter (λ a. c == a.client) (drop 1 (unanswered h)))
    first c = ap (λ l. length (filter (λ a. c == a.client) l)) (slice_get_first (unanswered h) may.asked may.oldest)
        ∙ length_filter_cons (λ a. c == a.client) may.asked (drop 1 (unanswered h))

    finished_by : (c : ℕ) → ((c == may.asked.client) ≡ true) ⊎ ((c == may.asked.client) ≡ false)
        → length (finishes (answers_to o c (h ++ e ∷ []))) + length (unfinished_by c h) ≡ length (accepts_by c h)
    finished_by c (inl own) =
        rw (answers_answer_own o c h n r fault may.asked.client client own, finishes-push (answers_to o c h) e)
        (facts.finished c)
    finished_by c (inr other) =
        rw (answers_answer_other o c h n r fault may.asked.client client other) (facts.finished c)

    answered_by : (c : ℕ) → ((c == may.asked.client) ≡ true) ⊎ ((c == may.asked.client) ≡ false)
        → length (answers (answers_to o c (h ++ e ∷ []))) + length (filter (λ a. c == a.client) (drop 1 (unanswered h)))
        ≡ length (asks_by c h)
    answered_by c (inl own) =
        rw (answers_answer_own o c h n r fault may.asked.client client own, answers-push (answers_to o c h) e)
        (let x = rw own at (first c) in
        omega (arith, x, length_push (answers (answers_to o c h)) b, facts.answered c))
    answered_by c (inr other) =
        rw (answers_answer_other o c h n r fault may.asked.client client other)
        (let x = rw other at (first c) in omega (arith, x, facts.answered c))

    collected_by : (c : ℕ) → ((c == may.asked.client) ≡ true) ⊎ ((c == may.asked.client) ≡ false)
        → length (collects_by c h) ≤ length (answers_to o c (h ++ e ∷ []))
    collected_by c (inl own) =
        rw (answers_answer_own o c h n r fault may.asked.client client own)
        (omega (arith, length_push (answers_to o c h) e, facts.collected_within c))
    collected_by c (inr other) =
        rw (answers_answer_other o c h n r fault may.asked.client client other) (facts.collected_within c)

facts_collect : (o : Opening) (h : List Entry) (d : ClientId) → uncollected o d.0 h ≢ [] → ClientFacts o h
    → ClientFacts o (h ++ Collect d ∷ [])
facts_collect o h d some facts = record {
  finished = λ c. rw (answers_same o c h e refl refl, accepts-push h e, finishes-push h e) (facts.finished c);
  answered = λ c. rw (answers_same o c h e refl refl, asks-push h e, answers-push h e) (facts.answered c);
  collected_within =
      λ c. rw (
        answers_same o c h e refl refl,
        collectors-push h e,
        filter-append (λ x. c == x) (collectors h) (d.0 ∷ []),
      ) (by_client c (cases_Bool (c == d.0)));
}
  where
    e : Entry
    e = Collect d

    by_client : (c : ℕ) → ((c == d.0) ≡ true) ⊎ ((c == d.0) ≡ false)
        → length (collects_by c h ++ filter (λ x. c == x) (d.0 ∷ [])) ≤ length (answers_to o c h)
    by_client c (inl own) =
        let same : c ≡ d.0 = eqb-true c d.0 own in
        rw (own, same)
        (omega (
          arith,
          length_push (collects_by d.0 h) d.0,
          drop_some_within (length (collects_by d.0 h)) (answers_to o d.0 h) some,
        ))
    by_client c (inr other) = rw (other, append-nil (collects_by c h)) (facts.collected_within c)

facts_step : (o : Opening) (h : List Entry) (e : Entry) → EachAfter (MayFollow o) h → ClientFacts o h → MayFollow o h e
    → ClientFacts o (h ++ e ∷ [])
facts_step o h (Accept d n request) each facts may =
    facts_accept o h d n request (legal_facts o h each) (ask_facts o h each) facts
facts_step o h (Ask d n kind) each facts may = facts_ask o h d n kind (legal_facts o h each) (ask_facts o h each) facts
facts_step o h (Finish n status len) each facts may = facts_finish o h n status len (legal_facts o h each) may facts
facts_step o h (Answer n r fault) each facts may = facts_answer o h n r fault (ask_facts o h each) may facts
facts_step o h (Collect d) each facts may = facts_collect o h d may.1 facts
facts_step o h e each facts may = facts_other o h e refl refl refl facts

-- the facts of each such log
pub client_facts : (o : Opening) (h : List Entry) → EachAfter (MayFollow o) h → ClientFacts o h
client_facts o h each = along o (λ k. ClientFacts o k) (facts_of_empty o) (facts_step o) h each

-- each answer is a Finish or an Answer
length_answers : (o : Opening) (c : ℕ) (h ends : List Entry) → AllByRecursion (λ e. is_answer_to o c h e ≡ true) ends
    → length (filter_map finished_of ends) + length (filter_map answered_of ends) ≡ length ends
length_answers o c h [] all = refl
length_answers o c h (Finish n status len ∷ ends) all = let rest = length_answers o c h ends all.1 in omega arith
length_answers o c h (Answer n run fault ∷ ends) all = let rest = length_answers o c h ends all.1 in omega arith
length_answers o c h (_ ∷ ends) all = absurd (false≢true all.0)

pub answers_parts : (o : Opening) (c : ℕ) (h : List Entry)
    → length (finishes (answers_to o c h)) + length (answers (answers_to o c h)) ≡ length (answers_to o c h)
unfolding finishes answers answers_to
answers_parts o c h =
    length_answers o c h (answers_to o c h)
    (recursion_from_All passes (answers_to o c h) (filter_passes (is_answer_to o c h) h))
  where
    passes : Entry → Type 0
    passes e = is_answer_to o c h e ≡ true

-- of each kind some are collected and the others aren't
finishes_parts : (o : Opening) (c : ℕ) (h : List Entry)
    → length (finishes (answers_to o c h)) ≡ length (finishes (collected o c h)) + length (finishes (uncollected o c h))
finishes_parts o c h =
    omega (
      arith,
      ap (λ l. length (finishes l)) (take-append-drop (length (collects_by c h)) (answers_to o c h)),
      ap length (finishes-append (collected o c h) (uncollected o c h)),
      length-append (finishes (collected o c h)) (finishes (uncollected o c h)),
    )

replies_parts : (o : Opening) (c : ℕ) (h : List Entry)
    → length (answers (answers_to o c h)) ≡ length (answers (collected o c h)) + length (answers (uncollected o c h))
replies_parts o c h =
    omega (
      arith,
      ap (λ l. length (answers l)) (take-append-drop (length (collects_by c h)) (answers_to o c h)),
      ap length (answered-append (collected o c h) (uncollected o c h)),
      length-append (answers (collected o c h)) (answers (uncollected o c h)),
    )

-- what is outstanding: what is unfinished, or finished and not collected; and likewise of discoveries
pub outstanding_parts : (o : Opening) (h : List Entry) → ClientFacts o h → (c : ℕ)
    → outstanding_requests o c h ≡ length (unfinished_by c h) + length (finishes (uncollected o c h))
outstanding_parts o h facts c = omega (arith, finishes_parts o c h, facts.finished c)

pub outstanding_discovery_parts : (o : Opening) (h : List Entry) → ClientFacts o h → (c : ℕ)
    → outstanding_discoveries o c h ≡ length (unanswered_by c h) + length (answers (uncollected o c h))
outstanding_discovery_parts o h facts c = omega (arith, replies_parts o c h, facts.answered c)

-- the clients of the finished requests, in order, and of the answered discoveries
abbrev finished_clients : List Entry → List ℕ
finished_clients h = map (λ a. a.client) (take (length (finishes h)) (accepts h))

abbrev answered_clients : List Entry → List ℕ
answered_clients h = map (λ a. a.client) (take (length (answers h)) (asks h))

-- they are as many as the answers, of each client and of all
count_finished : (o : Opening) (h : List Entry) → ClientFacts o h → (c : ℕ)
    → count c (finished_clients h) ≡ length (finishes (answers_to o c h))
count_finished o h facts c =
    omega (
      arith,
      facts.finished c,
      count-map (λ a. a.client) c front,
      ap (λ l. length (filter own l)) (take-append-drop (length (finishes h)) (accepts h)),
      ap length (filter-append own front (unfinished h)),
      length-append (filter own front) (filter own (unfinished h)),
    )
  where
    own : Accepted → Bool
    own a = c == a.client

    front : List Accepted
    front = take (length (finishes h)) (accepts h)

count_answered : (o : Opening) (h : List Entry) → ClientFacts o h → (c : ℕ)
    → count c (answered_clients h) ≡ length (answers (answers_to o c h))
count_answered o h facts c =
    omega (
      arith,
      facts.answered c,
      count-map (λ a. a.client) c front,
      ap (λ l. length (filter own l)) (take-append-drop (length (answers h)) (asks h)),
      ap length (filter-append own front (unanswered h)),
      length-append (filter own front) (filter own (unanswered h)),
    )
  where
    own : AskedDiscovery → Bool
    own a = c == a.client

    front : List AskedDiscovery
    front = take (length (answers h)) (asks h)

length_ended : (o : Opening) (h : List Entry) → LogFacts o h → AskFacts o h
    → length (finished_clients h ++ answered_clients h) ≡ length (finishes h) + length (answers h)
length_ended o h log asked =
    omega (
      arith,
      length-append (finished_clients h) (answered_clients h),
      length-map (take (length (finishes h)) (accepts h)) (λ a. a.client),
      length-take-le (length (finishes h)) (accepts h) log.finished_within,
      length-map (take (length (answers h)) (asks h)) (λ a. a.client),
      length-take-le (length (answers h)) (asks h) asked.answered_within,
    )

count_ended : (o : Opening) (h : List Entry) → ClientFacts o h → (c : ℕ)
    → count c (finished_clients h ++ answered_clients h) ≡ length (answers_to o c h)
count_ended o h facts c =
    omega (
      arith,
      ap length (filter-append (λ d. c == d) (finished_clients h) (answered_clients h)),
      length-append (filter (λ d. c == d) (finished_clients h)) (filter (λ d. c == d) (answered_clients h)),
      count_finished o h facts c,
      count_answered o h facts c,
      answers_parts o c h,
    )

-- no more Collects than Finishes and Answers
pub collects_within : (o : Opening) (h : List Entry) → LogFacts o h → AskFacts o h → ClientFacts o h
    → length (collectors h) ≤ length (finishes h) + length (answers h)
collects_within o h log asked facts =
    rw (← length_ended o h log asked)
    (no_longer (collectors h) (finished_clients h ++ answered_clients h)
    (λ c. rw (count_ended o h facts c) (facts.collected_within c)))
