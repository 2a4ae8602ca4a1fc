-- What a client has outstanding, and what it may collect, as the log grows.
use Rattle.rdm_log.proofs.Common.{◌≡◌, ℕ, ◌≤◌, true, false, List, [], ◌∷◌, ◌++◌, length, take, Some, None, refl, inl}
use Rattle.rdm_log.proofs.Common.{inr, ◌⊎◌, ◌==◌, cases_Bool, EachAfter, Opening, Entry, Accept, Ask, Finish, Answer}
use Rattle.rdm_log.proofs.Common.{Collect, accepted_of, asked_of, collector_of, client_of_request, client_of_discovery}
use Rattle.rdm_log.proofs.Common.{answers_to, collects_by, collected, uncollected, outstanding_requests}
use Rattle.rdm_log.proofs.Common.{outstanding_discoveries, MayFollow}
use Rattle.std.proofs.lemmas.List.{take-append-le}
use Rattle.rdm_log.proofs.LogLemmas.Grows.{front}
use Rattle.rdm_log.proofs.LogLemmas.PushLemmas.{accepts-push, asks-push, collectors-push}
use Rattle.rdm_log.proofs.LogLemmas.LegalFacts.{legal_facts}
use Rattle.rdm_log.proofs.LogLemmas.AskFacts.{ask_facts}
use Rattle.rdm_log.proofs.LogLemmas.ClientLemmas.{brings_work, ends_work, client_of_unfinished, client_of_unanswered}
use Rattle.rdm_log.proofs.LogLemmas.ClientLemmas.{answers_same, answers_accept, answers_ask, answers_finish_own}
use Rattle.rdm_log.proofs.LogLemmas.ClientLemmas.{answers_finish_other, answers_answer_own, answers_answer_other}
use Rattle.rdm_log.proofs.LogLemmas.ClientFacts.{client_facts}

-- after an entry that neither brings nor ends work nor collects it may collect the same
pub uncollected_same : (o : Opening) (c : ℕ) (h : List Entry) (e : Entry) → brings_work e ≡ false → ends_work e ≡ false
    → collector_of e ≡ None → uncollected o c (h ++ e ∷ []) ≡ uncollected o c h
uncollected_same o c h e brings ends collect = rw (answers_same o c h e brings ends, collectors-push h e, collect) refl

-- what it has collected is the same after each entry but its Collect
taken_same : (m : ℕ) (xs ys more : List Entry) → m ≤ length xs → ys ≡ xs ++ more → take m ys ≡ take m xs
taken_same m xs ys more within is = rw is (take-append-le m xs more within)

collected_same : (o : Opening) (c : ℕ) (h : List Entry) (e : Entry) → brings_work e ≡ false → ends_work e ≡ false
    → collector_of e ≡ None → collected o c (h ++ e ∷ []) ≡ collected o c h
collected_same o c h e brings ends collect = rw (answers_same o c h e brings ends, collectors-push h e, collect) refl

pub collected_step : (o : Opening) (c : ℕ) (h : List Entry) (e : Entry) → EachAfter (MayFollow o) h → MayFollow o h e
    → collector_of e ≡ None → collected o c (h ++ e ∷ []) ≡ collected o c h
collected_step o c h (Accept d n request) each may none =
    rw (
      answers_accept o c h (legal_facts o h each) (ask_facts o h each) d n request,
      collectors-push h (Accept d n request),
    ) refl
collected_step o c h (Ask d n kind) each may none =
    rw (answers_ask o c h (legal_facts o h each) (ask_facts o h each) d n kind, collectors-push h (Ask d n kind))
    refl
collected_step o c h (Finish n status len) each may none =
    rw (collectors-push h (Finish n status len)) (by_client (cases_Bool (c == may.accepted.client)))
  where
    e : Entry
    e = Finish n status len

    client : client_of_request o h n ≡ Some may.accepted.client
    client = rw may.number (client_of_unfinished o h (legal_facts o h each) 0 may.accepted may.oldest)

    by_client : ((c == may.accepted.client) ≡ true) ⊎ ((c == may.accepted.client) ≡ false)
        → take (length (collects_by c h)) (answers_to o c (h ++ e ∷ [])) ≡ collected o c h
    by_client (inl own) =
        taken_same (length (collects_by c h)) (answers_to o c h) (answers_to o c (h ++ e ∷ [])) (e ∷ [])
        ((client_facts o h each).collected_within c)
        (answers_finish_own o c h n status len may.accepted.client client own)
    by_client (inr other) = rw (answers_finish_other o c h n status len may.accepted.client client other) refl
collected_step o c h (Answer n r fault) each may none =
    rw (collectors-push h (Answer n r fault)) (by_client (cases_Bool (c == may.asked.client)))
  where
    e : Entry
    e = Answer n r fault

    client : client_of_discovery o h n ≡ Some may.asked.client
    client = rw may.number (client_of_unanswered o h (ask_facts o h each) 0 may.asked may.oldest)

    by_client : ((c == may.asked.client) ≡ true) ⊎ ((c == may.asked.client) ≡ false)
        → take (length (collects_by c h)) (answers_to o c (h ++ e ∷ [])) ≡ collected o c h
    by_client (inl own) =
        taken_same (length (collects_by c h)) (answers_to o c h) (answers_to o c (h ++ e ∷ [])) (e ∷ [])
        ((client_facts o h each).collected_within c)
        (answers_answer_own o c h n r fault may.asked.client client own)
    by_client (inr other) = rw (answers_answer_other o c h n r fault may.asked.client client other) refl
collected_step o c h (Collect d) each may none = cc
collected_step o c h e each may none = collected_same o c h e refl refl none

-- what is outstanding stays after an entry that neither accepts, or asks, nor collects
pub outstanding_same : (o : Opening) (c : ℕ) (h : List Entry) (e : Entry) → EachAfter (MayFollow o) (h ++ e ∷ [])
    → accepted_of e ≡ None → collector_of e ≡ None → outstanding_requests o c (h ++ e ∷ []) ≡ outstanding_requests o c h
outstanding_same o c h e each accept collect =
    rw (accepts-push h e, accept, collected_step o c h e (front o h (e ∷ []) each) (each h [] e refl) collect) refl

pub outstanding_discoveries_same : (o : Opening) (c : ℕ) (h : List Entry) (e : Entry)
    → EachAfter (MayFollow o) (h ++ e ∷ []) → asked_of e ≡ None → collector_of e ≡ None
    → outstanding_discoveries o c (h ++ e ∷ []) ≡ outstanding_discoveries o c h
outstanding_discoveries_same o c h e each ask collect =
    rw (asks-push h e, ask, collected_step o c h e (front o h (e ∷ []) each) (each h [] e refl) collect) refl
