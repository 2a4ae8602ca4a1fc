-- What a log says about one client: its answers, what it has collected, and what is outstanding.
use Rattle.std.specs.Prelude.{ℕ, ◌-◌, Bool, false, List, length, take, drop, map, filter, Option, Some, None, ◌==◌}
use Rattle.std.specs.Prelude.{slice_get}
use Rattle.rdm_log.specs.declared.entry.Opening.{Opening}
use Rattle.rdm_log.specs.declared.entry.Entry.{Entry}
use Rattle.rdm_log.specs.declared.entry.Entry.TheVariants.{Finish, Answer}
use Rattle.rdm_log.specs.log.Entries.{Accepted, AskedDiscovery, accepts, asks, finishes, answers, collectors}

-- the requests of a client that were accepted, in order
abbrev pub accepts_by : ℕ → List Entry → List Accepted
accepts_by c h = filter (λ a. c == a.client) (accepts h)

-- the discoveries that a client asked for, in order
abbrev pub asks_by : ℕ → List Entry → List AskedDiscovery
asks_by c h = filter (λ a. c == a.client) (asks h)

-- the client of the Accept at this index, counted from 0: the request's number less the opening's next number. In a
-- legal log numbers rise by one from there, and this Accept is the request's own. None if there is no such Accept
abbrev pub client_of_request : Opening → List Entry → ℕ → Option ℕ
client_of_request o h n = slice_get (map (λ a. a.client) (accepts h)) (n - o.next_request)

-- the client of the Ask at this index, counted from 0: the discovery's number less the opening's next number. In a
-- legal log numbers rise by one from there, and this Ask is the discovery's own. None if there is no such Ask
abbrev pub client_of_discovery : Opening → List Entry → ℕ → Option ℕ
client_of_discovery o h n = slice_get (map (λ a. a.client) (asks h)) (n - o.next_ask)

-- whether this is that client
abbrev pub is_client_of : ℕ → Option ℕ → Bool
is_client_of c None = false
is_client_of c (Some d) = c == d

-- a Finish of the client's request, or an Answer to its discovery
abbrev pub is_answer_to : Opening → ℕ → List Entry → Entry → Bool
is_answer_to o c h (Finish n status len) = is_client_of c (client_of_request o h n)
is_answer_to o c h (Answer n run fault) = is_client_of c (client_of_discovery o h n)
is_answer_to o c h _ = false

-- the Finishes and Answers of a client, in order
unfoldable pub answers_to : Opening → ℕ → List Entry → List Entry
answers_to o c h = filter (is_answer_to o c h) h

-- the Collects of a client
abbrev pub collects_by : ℕ → List Entry → List ℕ
collects_by c h = filter (λ d. c == d) (collectors h)

-- the Finishes and Answers that a client has collected: the first n, if it has n Collects
abbrev pub collected : Opening → ℕ → List Entry → List Entry
collected o c h = take (length (collects_by c h)) (answers_to o c h)

-- the Finishes and Answers that a client hasn't collected, in order
abbrev pub uncollected : Opening → ℕ → List Entry → List Entry
uncollected o c h = drop (length (collects_by c h)) (answers_to o c h)

-- how many of a client's requests are outstanding: accepted, and their Finish isn't collected
abbrev pub outstanding_requests : Opening → ℕ → List Entry → ℕ
outstanding_requests o c h = length (accepts_by c h) - length (finishes (collected o c h))

-- how many of a client's discoveries are outstanding: asked for, and their Answer isn't collected
abbrev pub outstanding_discoveries : Opening → ℕ → List Entry → ℕ
outstanding_discoveries o c h = length (asks_by c h) - length (answers (collected o c h))
