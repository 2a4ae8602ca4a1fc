-- What a log says of one client, as it grows by a block of entries.
use Rattle.rdm_lanes.proofs.Common.{◌≡◌, ℕ, Bool, true, false, List, [], ◌∷◌, ◌++◌, map, length, Option, Some}
use Rattle.rdm_lanes.proofs.Common.{None, refl, ap, ◌∙◌, slice_get, append-nil, filter, filter_map, ◌||◌, ◌&&◌}
use Rattle.rdm_lanes.proofs.Common.{◌==◌, AllByRecursion, map-append, filter-append}
use Rattle.rdm_lanes.proofs.Common.{filter_map-append, EachAfter, Opening, Entry, Refuse, Accept, Ask, Finish, Answer}
use Rattle.rdm_lanes.proofs.Common.{Collect, AskedDiscovery, collector_of, accepts, asks, collectors}
use Rattle.rdm_lanes.proofs.Common.{accepts_by, asks_by, is_answer_to, answers_to, collects_by, collected, uncollected}
use Rattle.rdm_lanes.proofs.Common.{outstanding_requests, outstanding_discoveries, MayFollow, OutcomeValue, outcome_of}
use Rattle.rdm_lanes.proofs.Common.{told, is_client, is_closed_refusal, closed_number, front, legal_facts, ask_facts}
use Rattle.rdm_lanes.proofs.Common.{client_facts, filter_has, call_by, calls_by, told_values, uncollected_values}
use Rattle.std.proofs.lemmas.List.{drop-append-le, take-append-le}
use Rattle.rdm_log.specs.log.Entries.{Accepted}
use Rattle.rdm_log.specs.log.Clients.{is_client_of}
use Rattle.rdm_log.proofs.LogLemmas.Indices.{filter_agree_on}
use Rattle.rdm_log.proofs.LogLemmas.ClientLemmas.{client_stays, asker_stays, answer_asked, finish_accepted}
use Rattle.rdm_log.proofs.LogLemmas.PushLemmas.{accepts-append, asks-append}
use Rattle.rdm_log.proofs.PromiseLemmas.OwnDiscoveries.{outcome_stays}
use Rattle.rdm_log.proofs.PromiseLemmas.StableOutcomes.{outcome_stays as uncollected_stays}
use Rattle.rdm_lanes.proofs.ListLemmas.{filter_map_nothing, all_follow, filter_keeps, map_agree}

-- an entry that answers client c, or tells it that a close refused its call
abbrev pub tells : Opening → ℕ → List Entry → Entry → Bool
tells o c h e = is_answer_to o c h e || is_closed_refusal c e

-- an entry of a call or of a collect of client c
abbrev pub touches : ℕ → Entry → Bool
touches c (Accept d n request) = c == d.0
touches c (Ask d n kind) = c == d.0
touches c (Refuse d call cause) = is_client c d
touches c (Collect d) = c == d.0
touches c _ = false

abbrev pub Untouched : ℕ → List Entry → Type 0
Untouched c block = AllByRecursion (λ e. touches c e ≡ false) block

-- whom an entry answers stays as it is
pub answer_stays : (o : Opening) (h more : List Entry) → EachAfter (MayFollow o) (h ++ more) → (c i : ℕ) (x : Entry)
    → slice_get h i ≡ Some x → is_answer_to o c (h ++ more) x ≡ is_answer_to o c h x
answer_stays o h more each c i (Finish n status len) at =
    ap (is_client_of c)
    (client_stays o h more n (finish_accepted o h (legal_facts o h (front o h more each)) i n status len at))
answer_stays o h more each c i (Answer n r fault) at =
    ap (is_client_of c) (asker_stays o h more n (answer_asked o h (ask_facts o h (front o h more each)) i n r fault at))
answer_stays o h more each c i _ at = refl

pub answers_split : (o : Opening) (h more : List Entry) → EachAfter (MayFollow o) (h ++ more) → (c : ℕ)
    → answers_to o c (h ++ more) ≡ answers_to o c h ++ filter (is_answer_to o c (h ++ more)) more
unfolding answers_to
answers_split o h more each c =
    filter-append (is_answer_to o c (h ++ more)) h more
    ∙ ap (λ (xs : List Entry). xs ++ filter (is_answer_to o c (h ++ more)) more)
    (filter_agree_on (is_answer_to o c (h ++ more)) (is_answer_to o c h) h (answer_stays o h more each c))

pub told_split : (o : Opening) (h more : List Entry) → EachAfter (MayFollow o) (h ++ more) → (c : ℕ)
    → told o c (h ++ more) ≡ told o c h ++ filter (tells o c (h ++ more)) more
told_split o h more each c =
    filter-append (tells o c (h ++ more)) h more
    ∙ ap (λ (xs : List Entry). xs ++ filter (tells o c (h ++ more)) more)
    (filter_agree_on (tells o c (h ++ more)) (tells o c h) h
    (λ i x at. ap (λ (b : Bool). b || is_closed_refusal c x) (answer_stays o h more each c i x at)))

-- what was told stays as it is
or_left : (b : Bool) → (b || false) ≡ true → b ≡ true
or_left true is = refl
or_left false is = is

told_stays : (o : Opening) (h more : List Entry) → EachAfter (MayFollow o) (h ++ more) → (c j : ℕ) (x : Entry)
    → slice_get h j ≡ Some x → tells o c h x ≡ true → outcome_of (h ++ more) x ≡ outcome_of h x
unfolding answers_to
told_stays o h more each c j (Finish n status len) at is =
    let found = filter_keeps (is_answer_to o c h) h j (Finish n status len) at (or_left _ is) in
    outcome_stays o h more each c found.0 (Finish n status len) found.1
told_stays o h more each c j (Answer n r fault) at is =
    let found = filter_keeps (is_answer_to o c h) h j (Answer n r fault) at (or_left _ is) in
    outcome_stays o h more each c found.0 (Answer n r fault) found.1
told_stays o h more each c j _ at is = refl

pub told_grows : (o : Opening) (h more : List Entry) → EachAfter (MayFollow o) (h ++ more) → (c : ℕ)
    → told_values o c (h ++ more) ≡ told_values o c h
    ++ map (outcome_of (h ++ more)) (filter (tells o c (h ++ more)) more)
unfolding told_values
told_grows o h more each c =
    ap (map (outcome_of (h ++ more))) (told_split o h more each c)
    ∙ map-append (outcome_of (h ++ more)) (told o c h) (filter (tells o c (h ++ more)) more)
    ∙ ap (λ (vs : List (Option OutcomeValue)). vs ++ map (outcome_of (h ++ more)) (filter (tells o c (h ++ more)) more))
    (map_agree (outcome_of (h ++ more)) (outcome_of h) (told o c h)
    (λ i x at. let found = filter_has (tells o c h) h i x at in
    told_stays o h more each c found.0 x found.1 found.2))

-- the values of what isn't collected stay as they are
pub values_stay : (o : Opening) (h more : List Entry) → EachAfter (MayFollow o) (h ++ more) → (c : ℕ)
    → map (outcome_of (h ++ more)) (uncollected o c h) ≡ uncollected_values o c h
unfolding uncollected_values
values_stay o h more each c =
    map_agree (outcome_of (h ++ more)) (outcome_of h) (uncollected o c h)
    (λ i x at. uncollected_stays o h more c i x each at)

-- what an untouched client's words say of a block
call_none : (c : ℕ) (e : Entry) → touches c e ≡ false → call_by c e ≡ None
call_none c (Accept d n request) is = rw is refl
call_none c (Ask d n kind) is = rw is refl
call_none c (Refuse d call cause) is = rw is refl
call_none c _ is = refl

and_false : (b d : Bool) → d ≡ false → (b && d) ≡ false
and_false true d is = is
and_false false d is = refl

refusal_none : (c : ℕ) (e : Entry) → touches c e ≡ false → is_closed_refusal c e ≡ false
refusal_none c (Refuse d call cause) is = and_false (cause.0 == closed_number call) (is_client c d) is
refusal_none c _ is = refl

pub calls_untouched : (c : ℕ) (h more : List Entry) → Untouched c more → calls_by c (h ++ more) ≡ calls_by c h
unfolding calls_by
calls_untouched c h more all =
    filter_map-append (call_by c) h more
    ∙ rw (filter_map_nothing (call_by c) more (all_follow _ _ (call_none c) more all))
    (append-nil (filter_map (call_by c) h))

accepts_none : (c : ℕ) (more : List Entry) → Untouched c more → accepts_by c more ≡ []
unfolding accepts
accepts_none c [] all = refl
accepts_none c (Accept d n request ∷ more) all = rw all.0 (accepts_none c more all.1)
accepts_none c (e ∷ more) all = accepts_none c more all.1

asks_none : (c : ℕ) (more : List Entry) → Untouched c more → asks_by c more ≡ []
unfolding asks
asks_none c [] all = refl
asks_none c (Ask d n kind ∷ more) all = rw all.0 (asks_none c more all.1)
asks_none c (e ∷ more) all = asks_none c more all.1

pub no_collects : (c : ℕ) (more : List Entry) → Untouched c more → collects_by c more ≡ []
unfolding collectors
no_collects c [] all = refl
no_collects c (Collect d ∷ more) all = rw all.0 (no_collects c more all.1)
no_collects c (e ∷ more) all = no_collects c more all.1

pub accepts_by_split : (c : ℕ) (h more : List Entry) → accepts_by c (h ++ more) ≡ accepts_by c h ++ accepts_by c more
accepts_by_split c h more =
    ap (filter (λ (a : Accepted). c == a.client)) (accepts-append h more)
    ∙ filter-append (λ (a : Accepted). c == a.client) (accepts h) (accepts more)

pub asks_by_split : (c : ℕ) (h more : List Entry) → asks_by c (h ++ more) ≡ asks_by c h ++ asks_by c more
asks_by_split c h more =
    ap (filter (λ (a : AskedDiscovery). c == a.client)) (asks-append h more)
    ∙ filter-append (λ (a : AskedDiscovery). c == a.client) (asks h) (asks more)

collectors-append : (h more : List Entry) → collectors (h ++ more) ≡ collectors h ++ collectors more
unfolding collectors
collectors-append h more = filter_map-append collector_of h more

pub collects_by_split : (c : ℕ) (h more : List Entry)
    → collects_by c (h ++ more) ≡ collects_by c h ++ collects_by c more
collects_by_split c h more =
    ap (filter (λ (d : ℕ). c == d)) (collectors-append h more)
    ∙ filter-append (λ (d : ℕ). c == d) (collectors h) (collectors more)

pub collects_untouched : (c : ℕ) (h more : List Entry) → collects_by c more ≡ []
    → collects_by c (h ++ more) ≡ collects_by c h
collects_untouched c h more none = collects_by_split c h more ∙ rw none (append-nil (collects_by c h))

-- without a collect
pub uncollected_split : (o : Opening) (h more : List Entry) → EachAfter (MayFollow o) (h ++ more) → (c : ℕ)
    → collects_by c more ≡ []
    → uncollected o c (h ++ more) ≡ uncollected o c h ++ filter (is_answer_to o c (h ++ more)) more
uncollected_split o h more each c none =
    rw (collects_untouched c h more none, answers_split o h more each c)
    (drop-append-le (length (collects_by c h)) (answers_to o c h) (filter (is_answer_to o c (h ++ more)) more)
    ((client_facts o h (front o h more each)).collected_within c))

pub to_values : (o : Opening) (c : ℕ) (k : List Entry)
    → uncollected_values o c k ≡ map (outcome_of k) (uncollected o c k)
unfolding uncollected_values
to_values o c k = refl

pub uncollected_grows : (o : Opening) (h more : List Entry) → EachAfter (MayFollow o) (h ++ more) → (c : ℕ)
    → collects_by c more ≡ []
    → uncollected_values o c (h ++ more) ≡ uncollected_values o c h
    ++ map (outcome_of (h ++ more)) (filter (is_answer_to o c (h ++ more)) more)
uncollected_grows o h more each c none =
    to_values o c (h ++ more)
    ∙ ap (map (outcome_of (h ++ more))) (uncollected_split o h more each c none)
    ∙ map-append (outcome_of (h ++ more)) (uncollected o c h) (filter (is_answer_to o c (h ++ more)) more)
    ∙ ap (λ (vs : List (Option OutcomeValue)). vs
    ++ map (outcome_of (h ++ more)) (filter (is_answer_to o c (h ++ more)) more)) (values_stay o h more each c)

pub collected_same : (o : Opening) (h more : List Entry) → EachAfter (MayFollow o) (h ++ more) → (c : ℕ)
    → collects_by c more ≡ [] → collected o c (h ++ more) ≡ collected o c h
collected_same o h more each c none =
    rw (collects_untouched c h more none, answers_split o h more each c)
    (take-append-le (length (collects_by c h)) (answers_to o c h) (filter (is_answer_to o c (h ++ more)) more)
    ((client_facts o h (front o h more each)).collected_within c))

-- of a block that doesn't touch a client
pub requests_untouched : (o : Opening) (h more : List Entry) → EachAfter (MayFollow o) (h ++ more) → (c : ℕ)
    → Untouched c more → outstanding_requests o c (h ++ more) ≡ outstanding_requests o c h
requests_untouched o h more each c all =
    rw (
      collected_same o h more each c (no_collects c more all),
      accepts_by_split c h more,
      accepts_none c more all,
      append-nil (accepts_by c h),
    ) refl

pub asks_untouched : (o : Opening) (h more : List Entry) → EachAfter (MayFollow o) (h ++ more) → (c : ℕ)
    → Untouched c more → outstanding_discoveries o c (h ++ more) ≡ outstanding_discoveries o c h
asks_untouched o h more each c all =
    rw (
      collected_same o h more each c (no_collects c more all),
      asks_by_split c h more,
      asks_none c more all,
      append-nil (asks_by c h),
    ) refl

or_none : (a b : Bool) → b ≡ false → (a || b) ≡ a
or_none true b is = refl
or_none false b is = is

-- it tells the client only what answers it
pub tells_untouched : (o : Opening) (k : List Entry) (c : ℕ) (more : List Entry) → Untouched c more
    → filter (tells o c k) more ≡ filter (is_answer_to o c k) more
tells_untouched o k c [] all = refl
tells_untouched o k c (e ∷ more) all =
    rw (
      or_none (is_answer_to o c k e) (is_closed_refusal c e) (refusal_none c e all.0),
      tells_untouched o k c more all.1,
    ) refl
