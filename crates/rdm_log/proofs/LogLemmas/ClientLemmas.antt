-- What a log says of one client, as the log grows.
use Rattle.rdm_log.proofs.Common.{◌≡◌, ℕ, ◌-◌, ◌<◌, Bool, true, false, Option, List, [], ◌∷◌, ◌++◌, length, filter, map}
use Rattle.rdm_log.proofs.Common.{Some, None, slice_get, refl, ap, ◌∙◌, append-nil, arith, ◌+◌, ◌==◌, map-append}
use Rattle.rdm_log.proofs.Common.{length-map, filter-append, slice_get-map, slice_get_within, Request, Kind, AgentFault}
use Rattle.rdm_log.proofs.Common.{Status, ClientId, Opening, Entry, Accept, Ask, Finish, Answer, Accepted}
use Rattle.rdm_log.proofs.Common.{AskedDiscovery, accepted_of, asked_of, finished_of, answered_of, accepts, asks}
use Rattle.rdm_log.proofs.Common.{finishes, answers, unfinished, unanswered, client_of_request, client_of_discovery}
use Rattle.rdm_log.proofs.Common.{is_client_of, is_answer_to, answers_to}
use Rattle.std.proofs.lemmas.List.Elements.{filter_agree}
use Rattle.rdm_log.proofs.LogLemmas.Indices.{slice_get_append_within, filter_map_has, filter_agree_on}
use Rattle.rdm_log.proofs.LogLemmas.PushLemmas.{accepts-append, accepts-push, asks-append, asks-push}
use Rattle.rdm_log.proofs.LogLemmas.LegalFacts.{LogFacts, unfinished_index}
use Rattle.rdm_log.proofs.LogLemmas.AskFacts.{AskFacts, unanswered_index}

-- an accepted request's client, even if more was accepted since
pub client_of_accepted : (o : Opening) (h : List Entry) → LogFacts o h → (i : ℕ) (a : Accepted)
    → slice_get (accepts h) i ≡ Some a → client_of_request o h a.number ≡ Some a.client
client_of_accepted o h facts i a at =
    slice_get-map (λ b. b.client) (accepts h) (a.number - o.next_request) ∙ rw (index_is, at) refl
  where
    index_is : a.number - o.next_request ≡ i
    index_is = omega (arith, facts.accept_numbers i a at)

pub client_stays : (o : Opening) (h k : List Entry) (n : ℕ) → n - o.next_request < length (accepts h)
    → client_of_request o (h ++ k) n ≡ client_of_request o h n
client_stays o h k n within =
    rw (accepts-append h k, map-append (λ a. a.client) (accepts h) (accepts k))
    (slice_get_append_within (map (λ a. a.client) (accepts h)) (map (λ a. a.client) (accepts k))
    (n - o.next_request) (omega (arith, length-map (accepts h) (λ a. a.client))))

-- a discovery's client likewise
pub client_of_asked : (o : Opening) (h : List Entry) → AskFacts o h → (i : ℕ) (a : AskedDiscovery)
    → slice_get (asks h) i ≡ Some a → client_of_discovery o h a.number ≡ Some a.client
client_of_asked o h facts i a at = slice_get-map (λ b. b.client) (asks h) (a.number - o.next_ask)
    ∙ rw (index_is, at) refl
  where
    index_is : a.number - o.next_ask ≡ i
    index_is = omega (arith, facts.ask_numbers i a at)

pub asker_stays : (o : Opening) (h k : List Entry) (n : ℕ) → n - o.next_ask < length (asks h)
    → client_of_discovery o (h ++ k) n ≡ client_of_discovery o h n
asker_stays o h k n within =
    rw (asks-append h k, map-append (λ a. a.client) (asks h) (asks k))
    (slice_get_append_within (map (λ a. a.client) (asks h)) (map (λ a. a.client) (asks k)) (n - o.next_ask)
    (omega (arith, length-map (asks h) (λ a. a.client))))

-- an entry that brings work, a request or a discovery, and one that ends it
abbrev pub brings_work : Entry → Bool
brings_work (Accept c n request) = true
brings_work (Ask c n kind) = true
brings_work _ = false

abbrev pub ends_work : Entry → Bool
ends_work (Finish n status len) = true
ends_work (Answer n run fault) = true
ends_work _ = false

pub no_accept : (e : Entry) → brings_work e ≡ false → accepted_of e ≡ None
no_accept (Accept c n request) other = cc
no_accept _ other = refl

pub no_ask : (e : Entry) → brings_work e ≡ false → asked_of e ≡ None
no_ask (Ask c n kind) other = cc
no_ask _ other = refl

pub no_finish : (e : Entry) → ends_work e ≡ false → finished_of e ≡ None
no_finish (Finish n status len) other = cc
no_finish _ other = refl

pub no_reply : (e : Entry) → ends_work e ≡ false → answered_of e ≡ None
no_reply (Answer n run fault) other = cc
no_reply _ other = refl

-- the same Accepts and Asks: the same answers
answer_same : (o : Opening) (c : ℕ) (h k : List Entry) → accepts k ≡ accepts h → asks k ≡ asks h → (e : Entry)
    → is_answer_to o c k e ≡ is_answer_to o c h e
answer_same o c h k same asked (Finish n status len) =
    ap (λ l. is_client_of c (slice_get (map (λ a. a.client) l) (n - o.next_request))) same
answer_same o c h k same asked (Answer n run fault) =
    ap (λ l. is_client_of c (slice_get (map (λ a. a.client) l) (n - o.next_ask))) asked
answer_same o c h k same asked _ = refl

-- an entry that ends no work answers nothing
not_answer : (o : Opening) (c : ℕ) (h : List Entry) (e : Entry) → ends_work e ≡ false → is_answer_to o c h e ≡ false
not_answer o c h (Finish n status len) other = cc
not_answer o c h (Answer n run fault) other = cc
not_answer o c h _ other = refl

-- an entry that brings no work adds itself, if it is an answer
answers-push : (o : Opening) (c : ℕ) (h : List Entry) (e : Entry) → brings_work e ≡ false
    → answers_to o c (h ++ e ∷ []) ≡ answers_to o c h ++ filter (is_answer_to o c h) (e ∷ [])
unfolding answers_to
answers-push o c h e none =
    filter_agree (is_answer_to o c (h ++ e ∷ [])) (is_answer_to o c h)
    (answer_same o c h (h ++ e ∷ []) (rw (no_accept e none) at (accepts-push h e))
    (rw (no_ask e none) at (asks-push h e)))
    (h ++ e ∷ [])
    ∙ filter-append (is_answer_to o c h) h (e ∷ [])

-- an entry that neither brings nor ends work
pub answers_same : (o : Opening) (c : ℕ) (h : List Entry) (e : Entry) → brings_work e ≡ false → ends_work e ≡ false
    → answers_to o c (h ++ e ∷ []) ≡ answers_to o c h
answers_same o c h e brings ends =
    answers-push o c h e brings ∙ rw (not_answer o c h e ends) (append-nil (answers_to o c h))

-- a Finish is an answer to its request's client, and to no other
pub answers_finish_own : (o : Opening) (c : ℕ) (h : List Entry) (n : ℕ) (status : Status) (len : ℕ) (d : ℕ)
    → client_of_request o h n ≡ Some d → (c == d) ≡ true
    → answers_to o c (h ++ Finish n status len ∷ []) ≡ answers_to o c h ++ Finish n status len ∷ []
answers_finish_own o c h n status len d client own =
    answers-push o c h (Finish n status len) refl ∙ rw (client, own) refl

pub answers_finish_other : (o : Opening) (c : ℕ) (h : List Entry) (n : ℕ) (status : Status) (len : ℕ) (d : ℕ)
    → client_of_request o h n ≡ Some d → (c == d) ≡ false
    → answers_to o c (h ++ Finish n status len ∷ []) ≡ answers_to o c h
answers_finish_other o c h n status len d client other =
    answers-push o c h (Finish n status len) refl ∙ rw (client, other) (append-nil (answers_to o c h))

-- and so is an Answer to its discovery's
pub answers_answer_own : (o : Opening) (c : ℕ) (h : List Entry) (n r : ℕ) (fault : Option AgentFault) (d : ℕ)
    → client_of_discovery o h n ≡ Some d → (c == d) ≡ true
    → answers_to o c (h ++ Answer n r fault ∷ []) ≡ answers_to o c h ++ Answer n r fault ∷ []
answers_answer_own o c h n r fault d client own = answers-push o c h (Answer n r fault) refl ∙ rw (client, own) refl

pub answers_answer_other : (o : Opening) (c : ℕ) (h : List Entry) (n r : ℕ) (fault : Option AgentFault) (d : ℕ)
    → client_of_discovery o h n ≡ Some d → (c == d) ≡ false
    → answers_to o c (h ++ Answer n r fault ∷ []) ≡ answers_to o c h
answers_answer_other o c h n r fault d client other =
    answers-push o c h (Answer n r fault) refl ∙ rw (client, other) (append-nil (answers_to o c h))

-- each Finish of the log is of a request that was accepted, and each Answer of a discovery that was asked for
pub finish_accepted : (o : Opening) (h : List Entry) → LogFacts o h → (i n : ℕ) (status : Status) (len : ℕ)
    → slice_get h i ≡ Some (Finish n status len) → n - o.next_request < length (accepts h)
unfolding finishes
finish_accepted o h facts i n status len at =
    by_index (filter_map_has finished_of h i (Finish n status len)
    (record { number = n; status = status; len = len }) at refl)
  where
    by_index : (j : ℕ) × (slice_get (finishes h) j ≡ Some (record { number = n; status = status; len = len }))
        → n - o.next_request < length (accepts h)
    by_index found =
        omega (
          arith,
          facts.finish_numbers found.0 _ found.1,
          slice_get_within (finishes h) found.0 _ found.1,
          facts.finished_within,
        )

pub answer_asked : (o : Opening) (h : List Entry) → AskFacts o h → (i n r : ℕ) (fault : Option AgentFault)
    → slice_get h i ≡ Some (Answer n r fault) → n - o.next_ask < length (asks h)
unfolding answers
answer_asked o h facts i n r fault at =
    by_index (filter_map_has answered_of h i (Answer n r fault) (record { number = n; run = r; fault = fault }) at refl)
  where
    by_index : (j : ℕ) × (slice_get (answers h) j ≡ Some (record { number = n; run = r; fault = fault }))
        → n - o.next_ask < length (asks h)
    by_index found =
        omega (
          arith,
          facts.answer_numbers found.0 _ found.1,
          slice_get_within (answers h) found.0 _ found.1,
          facts.answered_within,
        )

-- a later Accept or Ask changes no answer
answers_kept : (o : Opening) (c : ℕ) (h : List Entry) (e : Entry) → LogFacts o h → AskFacts o h → ends_work e ≡ false
    → answers_to o c (h ++ e ∷ []) ≡ answers_to o c h
unfolding answers_to
answers_kept o c h e facts asked ends =
    filter-append (is_answer_to o c k) h (e ∷ []) ∙ rw (not_answer o c k e ends) (append-nil _)
    ∙ filter_agree_on (is_answer_to o c k) (is_answer_to o c h) h agree
  where
    k : List Entry
    k = h ++ e ∷ []

    agree : (i : ℕ) (x : Entry) → slice_get h i ≡ Some x → is_answer_to o c k x ≡ is_answer_to o c h x
    agree i (Finish m status len) at =
        ap (is_client_of c) (client_stays o h (e ∷ []) m (finish_accepted o h facts i m status len at))
    agree i (Answer m r fault) at =
        ap (is_client_of c) (asker_stays o h (e ∷ []) m (answer_asked o h asked i m r fault at))
    agree i _ at = refl

pub answers_accept : (o : Opening) (c : ℕ) (h : List Entry) → LogFacts o h → AskFacts o h
    → (d : ClientId) (n : ℕ) (request : Request) → answers_to o c (h ++ Accept d n request ∷ []) ≡ answers_to o c h
answers_accept o c h facts asked d n request = answers_kept o c h (Accept d n request) facts asked refl

pub answers_ask : (o : Opening) (c : ℕ) (h : List Entry) → LogFacts o h → AskFacts o h
    → (d : ClientId) (n : ℕ) (kind : Kind) → answers_to o c (h ++ Ask d n kind ∷ []) ≡ answers_to o c h
answers_ask o c h facts asked d n kind = answers_kept o c h (Ask d n kind) facts asked refl

-- the client of an unfinished request, and of an unanswered discovery
pub client_of_unfinished : (o : Opening) (h : List Entry) → LogFacts o h → (i : ℕ) (a : Accepted)
    → slice_get (unfinished h) i ≡ Some a → client_of_request o h a.number ≡ Some a.client
client_of_unfinished o h facts i a at =
    client_of_accepted o h facts (length (finishes h) + i) a (unfinished_index h i a at)

pub client_of_unanswered : (o : Opening) (h : List Entry) → AskFacts o h → (i : ℕ) (a : AskedDiscovery)
    → slice_get (unanswered h) i ≡ Some a → client_of_discovery o h a.number ≡ Some a.client
client_of_unanswered o h facts i a at = client_of_asked o h facts (length (answers h) + i) a (unanswered_index h i a at)
