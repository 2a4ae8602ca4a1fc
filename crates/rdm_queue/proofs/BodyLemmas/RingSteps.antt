-- How one client's call changes all clients' rings.
use Rattle.rdm_queue.proofs.Common.{◌≡◌, ℕ, zero, suc, ◌+◌, ◌-◌, ◌<◌, ◌≤◌, false, List, [], ◌∷◌, ◌++◌, length, drop}
use Rattle.rdm_queue.proofs.Common.{set, get_or, Option, Some, None, slice_get, refl, sym, ap, ◌∙◌, subst, filter, map}
use Rattle.rdm_queue.proofs.Common.{arith, ◌==◌, option_map, is_some, IfNone, IfSome, AllByRecursion, deque_len}
use Rattle.rdm_queue.proofs.Common.{deque_capacity, eq-eqb, false≢true, map-append, length-map, Request, Device}
use Rattle.rdm_queue.proofs.Common.{AgentFault, Client, Waiting, Entry, Completion, Accepted, AskedDiscovery}
use Rattle.rdm_queue.proofs.Common.{OutcomeValue, completion_value, AreShares, HasRings, HasSets, IsNewClient}
use Rattle.rdm_queue.proofs.Common.{ClientAccepts, ClientFinishes, ClientAnswers, ClientCollects, owed_values}
use Rattle.rdm_queue.proofs.Common.{first_kind_owed, accepted_is, run_is, waiting_ring, waiting_rings, owed_rings}
use Rattle.rdm_queue.proofs.Common.{places_of, QueueInvariant, QueueState, outstanding, outstanding_asks, owed_for}
use Rattle.rdm_queue.proofs.Common.{owed_value, owes, accepted_as, accepts_request, finishes_oldest, joins_client}
use Rattle.rdm_queue.proofs.Common.{collects_oldest, first_join_fault, first_submit_fault, owed_to, is_discovery}
use Rattle.rdm_queue.proofs.Common.{first_kind, kind_of_value, answer_value, all_at, slice_get_first}
use Rattle.rdm_queue.proofs.Common.{Bool, Owed}
use Rattle.rdm_queue.specs.declared.pending.Running.{Running}
use Rattle.rdm_queue.specs.declared.client.Owed.TheVariants as owed
use Rattle.rdm_queue.specs.body.Rings.{client_flags, flag_of_owed}
use Rattle.rdm_queue.specs.body.Fields.{flag_rings}
use Rattle.rdm_queue.specs.body.State.{flags_more, flags_to}
use Rattle.rdm_queue.specs.body.QueueInvariant.{RingsInvariant}
use Rattle.rdm_queue.proofs.BodyLemmas.InvariantLemmas.{has_place, has_room, held-finishes, held-accepts, held-collects}
use Rattle.rdm_queue.proofs.BodyLemmas.InvariantLemmas.{held-joins}
use Rattle.rdm_queue.proofs.BodyLemmas.OutstandingLemmas.{both_kinds, fours}
use Rattle.rdm_queue.proofs.BodyLemmas.ValueLemmas.{length-values, discoveries-values, values-request, values-discovery}
use Rattle.rdm_queue.proofs.BodyLemmas.ValueLemmas.{sets-finish, sets-answer, few_discoveries, kind_first}
use Rattle.rdm_queue.proofs.BodyLemmas.RingLemmas.{ring_of, ring_within, ring_changed, ring_stayed, shares_more}
use Rattle.rdm_queue.proofs.BodyLemmas.RingLemmas.{shares_push, shares_rest, same_sizes, all_set}
use Rattle.rdm_agent.proofs.Pushes.{All-push}

-- a client joins
pub rings-join : (s : QueueState) (clients : List Client) (k : Client) (places : ℕ) → RingsInvariant s clients
    → IsNewClient places k → RingsInvariant (joins_client s places) (clients ++ k ∷ [])
rings-join s clients k places rings fresh = record {
  waiting = shares_more (λ a. a.client) waiting_ring clients k s.waiting
      (λ i. ap (λ l. map (accepted_is i) l) fresh.none_waiting) rings.waiting;
  sizes = All-push HasRings clients k rings.sizes fresh.rings;
  sets = All-push HasSets clients k rings.sets (rw (fresh.none_owed, fresh.no_sets) refl);
}

-- a client's request is accepted
pub rings-accept : (s : QueueState) (clients : List Client) (c : ℕ) (k l : Client) (request : Request)
    → RingsInvariant s clients → slice_get clients c ≡ Some k → ClientAccepts k s.next_request request l
    → RingsInvariant (accepts_request s c request) (set clients c l)
rings-accept s clients c k l request rings at accepts = record {
  waiting = subst (λ lists. AreShares (λ (a : Accepted). a.client) lists (s.waiting ++ accepted_as s c request ∷ []))
      (sym changed)
      (shares_push (λ a. a.client) (waiting_rings clients) s.waiting (accepted_as s c request) rings.waiting
      (ring_within waiting_ring clients c k at));
  sizes = all_set HasRings clients c l rings.sizes
      (same_sizes k l (all_at HasRings clients rings.sizes c k at) accepts.rings);
  sets = all_set HasSets clients c l rings.sets
      (rw (accepts.outcomes, accepts.sets) (all_at HasSets clients rings.sets c k at));
}
  where
    items_are : waiting_ring c l ≡ get_or (waiting_rings clients) c [] ++ accepted_as s c request ∷ []
    items_are =
        ap (λ ws. map (accepted_is c) ws) accepts.waiting
        ∙ (map-append (accepted_is c) k.waiting.items (record { number = s.next_request; request = request } ∷ [])
        ∙ ap (λ as_. as_ ++ accepted_as s c request ∷ []) (sym (ring_of waiting_ring clients c k at)))

    changed : waiting_rings (set clients c l)
        ≡ set (waiting_rings clients) c (get_or (waiting_rings clients) c [] ++ accepted_as s c request ∷ [])
    changed = ring_changed waiting_ring clients c l
        (get_or (waiting_rings clients) c [] ++ accepted_as s c request ∷ []) items_are

-- the client whose request is the oldest has it first in its ring
oldest_is : (s : QueueState) (clients : List Client) (k : Client) (a : Accepted) (w : Waiting) (ws : List Waiting)
    → RingsInvariant s clients → slice_get clients a.client ≡ Some k → k.waiting.items ≡ w ∷ ws
    → slice_get s.waiting 0 ≡ Some a → a ≡ accepted_is a.client w
oldest_is s clients k a w ws rings at items oldest =
    let ring : get_or (waiting_rings clients) a.client [] ≡ accepted_is a.client w ∷ map (accepted_is a.client) ws =
    ring_of waiting_ring clients a.client k at ∙ ap (λ l. map (accepted_is a.client) l) items in
    let own : get_or (waiting_rings clients) a.client []
    ≡ a ∷ filter (λ (b : Accepted). a.client == b.client) (drop 1 s.waiting) =
    rings.waiting a.client
    ∙ (ap (λ l. filter (λ (b : Accepted). a.client == b.client) l) (slice_get_first s.waiting a oldest)
    ∙ rw (eq-eqb a.client a.client refl) refl) in
    cc

-- the oldest request is finished
pub rings-finish : (s : QueueState) (clients : List Client) (k l : Client) (done : Completion) (flag : Bool)
    (entry : Entry) (a : Accepted) → RingsInvariant s clients → slice_get clients a.client ≡ Some k
    → (finishes : ClientFinishes k done flag entry l) → slice_get s.waiting 0 ≡ Some a
    → RingsInvariant (finishes_oldest s (owed_for (completion_value done) a)) (set clients a.client l)
rings-finish s clients k l done flag entry a rings at finishes oldest = record {
  waiting = subst (λ lists. AreShares (λ (b : Accepted). b.client) lists (drop 1 s.waiting))
      (sym (ring_changed waiting_ring clients a.client l (waiting_ring a.client l) refl))
      (shares_rest (λ b. b.client) (waiting_rings clients) (drop 1 s.waiting) a (waiting_ring a.client l) all first);
  sizes = all_set HasRings clients a.client l rings.sizes
      (same_sizes k l (all_at HasRings clients rings.sizes a.client k at) finishes.rings);
  sets = all_set HasSets clients a.client l rings.sets
      (sets-finish k l done flag entry finishes (all_at HasSets clients rings.sets a.client k at));
}
  where
    same : a ≡ accepted_is a.client finishes.oldest
    same = oldest_is s clients k a finishes.oldest l.waiting.items rings at finishes.waiting oldest

    all : AreShares (λ (b : Accepted). b.client) (waiting_rings clients) (a ∷ drop 1 s.waiting)
    all = subst (λ whole. AreShares (λ (b : Accepted). b.client) (waiting_rings clients) whole)
        (slice_get_first s.waiting a oldest) rings.waiting

    first : get_or (waiting_rings clients) a.client [] ≡ a ∷ waiting_ring a.client l
    first =
        ring_of waiting_ring clients a.client k at
        ∙ (ap (λ ws. map (accepted_is a.client) ws) finishes.waiting
        ∙ ap (λ b. b ∷ waiting_ring a.client l) (sym same))

-- the entry of its end
pub entry-finish : (s : QueueState) (clients : List Client) (k l : Client) (done : Completion) (flag : Bool)
    (entry : Entry) (a : Accepted) → RingsInvariant s clients → slice_get clients a.client ≡ Some k
    → (finishes : ClientFinishes k done flag entry l) → slice_get s.waiting 0 ≡ Some a
    → a.number ≡ finishes.oldest.number
entry-finish s clients k l done flag entry a rings at finishes oldest =
    ap (λ (b : Accepted). b.number)
    (oldest_is s clients k a finishes.oldest l.waiting.items rings at finishes.waiting oldest)

-- what clients are owed, if one of them has changed
pub values_at : (clients : List Client) (c : ℕ) (k : Client) → slice_get clients c ≡ Some k
    → get_or (owed_rings clients) c [] ≡ owed_values k
values_at [] c k at = cc
values_at (l ∷ clients) zero k at = let same : l ≡ k = cc in rw same refl
values_at (l ∷ clients) (suc c) k at = values_at clients c k at

pub owed_changed : (clients : List Client) (c : ℕ) (l : Client)
    → owed_rings (set clients c l) ≡ set (owed_rings clients) c (owed_values l)
owed_changed [] c l = refl
owed_changed (k ∷ clients) zero l = refl
owed_changed (k ∷ clients) (suc c) l = ap (λ lists. owed_values k ∷ lists) (owed_changed clients c l)

pub owed_stayed : (clients : List Client) (c : ℕ) (k l : Client) → slice_get clients c ≡ Some k
    → owed_values l ≡ owed_values k → owed_rings (set clients c l) ≡ owed_rings clients
owed_stayed [] c k l at same = refl
owed_stayed (m ∷ clients) zero k l at same = let here : m ≡ k = cc in rw here (ap (λ v. v ∷ owed_rings clients) same)
owed_stayed (m ∷ clients) (suc c) k l at same = ap (λ lists. owed_values m ∷ lists) (owed_stayed clients c k l at same)

pub owed-accept : (clients : List Client) (c n : ℕ) (k l : Client) (request : Request) → slice_get clients c ≡ Some k
    → ClientAccepts k n request l → owed_rings (set clients c l) ≡ owed_rings clients
owed-accept clients c n k l request at accepts = owed_stayed clients c k l at (rw (accepts.outcomes, accepts.sets) refl)

pub owed-finish : (s : QueueState) (clients : List Client) (k l : Client) (done : Completion) (flag : Bool)
    (entry : Entry) (a : Accepted) → s.owed ≡ owed_rings clients → RingsInvariant s clients
    → slice_get clients a.client ≡ Some k
    → (finishes : ClientFinishes k done flag entry l) → slice_get s.waiting 0 ≡ Some a
    → owed_rings (set clients a.client l) ≡ owes a.client (owed_value (owed_for (completion_value done) a)) s
owed-finish s clients k l done flag entry a owed rings at finishes oldest =
    owed_changed clients a.client l
    ∙ rw (
      owed,
      values_at clients a.client k at,
      finishes.outcomes,
      finishes.sets,
      values-request k.outcomes.items k.sets.items finishes.oldest.number done flag,
      ← entry-finish s clients k l done flag entry a rings at finishes oldest,
    ) refl

pub owed-answer : (s : QueueState) (clients : List Client) (k l : Client) (a : AskedDiscovery) (r : ℕ)
    (f : Option AgentFault) (found : List Device) → s.owed ≡ owed_rings clients → RingsInvariant s clients
    → slice_get clients a.client ≡ Some k → ClientAnswers k a.number r f found l
    → owed_rings (set clients a.client l) ≡ owes a.client (answer_value a r f found) s
owed-answer s clients k l a r f found owed rings at answers =
    owed_changed clients a.client l
    ∙ rw (
      owed,
      values_at clients a.client k at,
      answers.outcomes,
      answers.sets,
      values-discovery k.outcomes.items k.sets.items a.number r f found
          (all_at HasSets clients rings.sets a.client k at),
    ) refl

pub owed-collect : (s : QueueState) (clients : List Client) (c : ℕ) (k l : Client) (outcome : OutcomeValue)
    → s.owed ≡ owed_rings clients → slice_get clients c ≡ Some k → ClientCollects k outcome l
    → owed_rings (set clients c l) ≡ (collects_oldest s c).owed
owed-collect s clients c k l outcome owed at collects =
    owed_changed clients c l
    ∙ rw (owed, values_at clients c k at)
    (ap (λ ds. set (owed_rings clients) c ds) (ap (λ ds. drop 1 ds) (sym collects.outcomes)))

-- the flags of their outcomes
pub flags_at : (clients : List Client) (c : ℕ) (k : Client) → slice_get clients c ≡ Some k
    → get_or (flag_rings clients) c [] ≡ client_flags k
flags_at [] c k at = cc
flags_at (l ∷ clients) zero k at = let same : l ≡ k = cc in rw same refl
flags_at (l ∷ clients) (suc c) k at = flags_at clients c k at

flags_changed : (clients : List Client) (c : ℕ) (l : Client)
    → flag_rings (set clients c l) ≡ set (flag_rings clients) c (client_flags l)
flags_changed [] c l = refl
flags_changed (k ∷ clients) zero l = refl
flags_changed (k ∷ clients) (suc c) l = ap (λ lists. client_flags k ∷ lists) (flags_changed clients c l)

flags_stayed : (clients : List Client) (c : ℕ) (k l : Client) → slice_get clients c ≡ Some k
    → client_flags l ≡ client_flags k → flag_rings (set clients c l) ≡ flag_rings clients
flags_stayed [] c k l at same = refl
flags_stayed (m ∷ clients) zero k l at same =
    let here : m ≡ k = cc in rw here (ap (λ v. v ∷ flag_rings clients) same)
flags_stayed (m ∷ clients) (suc c) k l at same =
    ap (λ lists. client_flags m ∷ lists) (flags_stayed clients c k l at same)

pub flags-accept : (clients : List Client) (c n : ℕ) (k l : Client) (request : Request) → slice_get clients c ≡ Some k
    → ClientAccepts k n request l → flag_rings (set clients c l) ≡ flag_rings clients
flags-accept clients c n k l request at accepts =
    flags_stayed clients c k l at (ap (λ ds. map flag_of_owed ds) accepts.outcomes)

flags_pushed : (s : QueueState) (clients : List Client) (c : ℕ) (k l : Client) (d : Owed)
    → s.flags ≡ flag_rings clients → slice_get clients c ≡ Some k → l.outcomes.items ≡ k.outcomes.items ++ d ∷ []
    → flag_rings (set clients c l) ≡ flags_more c (flag_of_owed d) s
flags_pushed s clients c k l d flags at more =
    flags_changed clients c l
    ∙ rw (flags, flags_at clients c k at, more, map-append flag_of_owed k.outcomes.items (d ∷ [])) refl

pub flags-finish : (s : QueueState) (clients : List Client) (c : ℕ) (k l : Client) (done : Completion) (flag : Bool)
    (entry : Entry) → s.flags ≡ flag_rings clients → slice_get clients c ≡ Some k → ClientFinishes k done flag entry l
    → flag_rings (set clients c l) ≡ flags_more c flag s
flags-finish s clients c k l done flag entry flags at finishes =
    flags_pushed s clients c k l (owed.Request finishes.oldest.number done flag) flags at finishes.outcomes

pub flags-answer : (s : QueueState) (clients : List Client) (c : ℕ) (k l : Client) (n r : ℕ) (f : Option AgentFault)
    (found : List Device) → s.flags ≡ flag_rings clients → slice_get clients c ≡ Some k → ClientAnswers k n r f found l
    → flag_rings (set clients c l) ≡ flags_more c false s
flags-answer s clients c k l n r f found flags at answers =
    flags_pushed s clients c k l (owed.Discovery n r f) flags at answers.outcomes

pub flags-collect : (s : QueueState) (clients : List Client) (c : ℕ) (k l : Client) (outcome : OutcomeValue)
    → s.flags ≡ flag_rings clients → slice_get clients c ≡ Some k → ClientCollects k outcome l
    → flag_rings (set clients c l) ≡ (collects_oldest s c).flags
flags-collect s clients c k l outcome flags at collects =
    flags_changed clients c l
    ∙ rw (flags, flags_at clients c k at) (ap (λ ds. set (flag_rings clients) c ds) collects.flags)

-- a discovery is answered
pub rings-answer : (s new : QueueState) (clients : List Client) (c : ℕ) (k l : Client) (n r : ℕ) (f : Option AgentFault)
    (found : List Device) → new.waiting ≡ s.waiting → RingsInvariant s clients → slice_get clients c ≡ Some k
    → ClientAnswers k n r f found l → RingsInvariant new (set clients c l)
rings-answer s new clients c k l n r f found waits rings at answers = record {
  waiting = rw waits
      (subst (λ lists. AreShares (λ (a : Accepted). a.client) lists s.waiting)
      (sym (ring_stayed waiting_ring clients c k l at (ap (λ ws. map (accepted_is c) ws) answers.waiting)))
      rings.waiting);
  sizes = all_set HasRings clients c l rings.sizes
      (same_sizes k l (all_at HasRings clients rings.sizes c k at) answers.rings);
  sets = all_set HasSets clients c l rings.sets
      (sets-answer k l n r f found answers (all_at HasSets clients rings.sets c k at));
}

-- a client's oldest outcome is removed
pub rings-collect : (s new : QueueState) (clients : List Client) (c : ℕ) (k l : Client) (outcome : OutcomeValue)
    → new.waiting ≡ s.waiting → RingsInvariant s clients → slice_get clients c ≡ Some k → ClientCollects k outcome l
    → RingsInvariant new (set clients c l)
rings-collect s new clients c k l outcome waits rings at collects = record {
  waiting = rw waits
      (subst (λ lists. AreShares (λ (a : Accepted). a.client) lists s.waiting)
      (sym (ring_stayed waiting_ring clients c k l at (ap (λ ws. map (accepted_is c) ws) collects.waiting)))
      rings.waiting);
  sizes = all_set HasRings clients c l rings.sizes
      (same_sizes k l (all_at HasRings clients rings.sizes c k at) collects.rings);
  sets = all_set HasSets clients c l rings.sets collects.has_sets;
}

-- how many a client has outstanding
pub waiting_count : (s : QueueState) (clients : List Client) (c : ℕ) (k : Client) → RingsInvariant s clients
    → slice_get clients c ≡ Some k → deque_len k.waiting ≡ length (filter (λ (a : Accepted). c == a.client) s.waiting)
waiting_count s clients c k rings at =
    k.waiting.ok.0
    ∙ (sym (length-map k.waiting.items (accepted_is c))
    ∙ ap (λ l. length l) (sym (ring_of waiting_ring clients c k at) ∙ rings.waiting c))

pub owed_count : (s : QueueState) (clients : List Client) (c : ℕ) (k : Client) → s.owed ≡ owed_rings clients
    → slice_get clients c ≡ Some k → deque_len k.outcomes ≡ length (owed_to c s)
owed_count s clients c k owed at =
    k.outcomes.ok.0
    ∙ (sym (length-values k.outcomes.items k.sets.items)
    ∙ ap (λ l. length l) (sym (values_at clients c k at) ∙ ap (λ lists. get_or lists c []) (sym owed)))

pub sets_count : (s : QueueState) (clients : List Client) (c : ℕ) (k : Client) → s.owed ≡ owed_rings clients
    → RingsInvariant s clients → slice_get clients c ≡ Some k
    → length k.sets.items ≡ length (filter is_discovery (owed_to c s))
sets_count s clients c k owed rings at =
    all_at HasSets clients rings.sets c k at
    ∙ (sym (discoveries-values k.outcomes.items k.sets.items)
    ∙ ap (λ l. length (filter is_discovery l))
    (sym (values_at clients c k at) ∙ ap (λ lists. get_or lists c []) (sym owed)))

-- no more discoveries than outcomes
pub fewer_sets : (clients : List Client) (c : ℕ) (k : Client) → AllByRecursion HasSets clients
    → slice_get clients c ≡ Some k → length k.sets.items ≤ deque_len k.outcomes
fewer_sets clients c k sets at =
    let has : HasSets k = all_at HasSets clients sets c k at in let few = few_discoveries k.outcomes.items in
    let all = k.outcomes.ok.0 in omega arith

pub outstanding_count : (s : QueueState) (clients : List Client) (c : ℕ) (k : Client) → s.owed ≡ owed_rings clients
    → RingsInvariant s clients → slice_get clients c ≡ Some k
    → deque_len k.waiting + (deque_len k.outcomes - length k.sets.items) ≡ outstanding c s
outstanding_count s clients c k owed rings at =
    let both = both_kinds (owed_to c s) in let waits = waiting_count s clients c k rings at in
    let all = owed_count s clients c k owed at in let sets = sets_count s clients c k owed rings at in omega arith

-- a client's places
pub places_at : (clients : List Client) (c : ℕ) (k : Client) → slice_get clients c ≡ Some k
    → get_or (places_of clients) c 0 ≡ k.places
places_at [] c k at = cc
places_at (l ∷ clients) zero k at = let same : l ≡ k = cc in rw same refl
places_at (l ∷ clients) (suc c) k at = places_at clients c k at

-- a request that no fault refuses fits
pub room_for_request : (s : QueueState) (clients : List Client) (c : ℕ) (k : Client) → QueueInvariant s clients
    → s.places ≡ places_of clients → s.owed ≡ owed_rings clients → first_submit_fault s c ≡ None
    → slice_get clients c ≡ Some k → deque_len k.waiting < deque_capacity k.waiting
room_for_request s clients c k held same owed passes at =
    let free : outstanding c s < get_or s.places c 0 = (has_place s c passes).free in
    let places : get_or s.places c 0 ≡ k.places = ap (λ ns. get_or ns c 0) same ∙ places_at clients c k at in
    let count = outstanding_count s clients c k owed held.rings at in
    let sizes : HasRings k = all_at HasRings clients held.rings.sizes c k at in
    omega (arith, sizes.waiting)

-- each outcome fits, and so does the set of each discovery
pub room_for_outcome : (s : QueueState) (clients : List Client) (c : ℕ) (k : Client) → QueueInvariant s clients
    → s.places ≡ places_of clients → s.owed ≡ owed_rings clients → slice_get clients c ≡ Some k
    → 1 ≤ length (filter (λ (a : Accepted). c == a.client) s.waiting)
    + length (filter (λ (a : AskedDiscovery). c == a.client) s.asked)
    → deque_len k.outcomes < deque_capacity k.outcomes
room_for_outcome s clients c k held same owed at some =
    let few : outstanding c s ≤ get_or s.places c 0 = held.state.few c in
    let few_asks : outstanding_asks c s ≤ get_or (map (λ (n : ℕ). 4) s.places) c 0 = held.state.few_asks c in
    let most = fours s.places c in
    let both = both_kinds (owed_to c s) in
    let places : get_or s.places c 0 ≡ k.places = ap (λ ns. get_or ns c 0) same ∙ places_at clients c k at in
    let count = owed_count s clients c k owed at in
    let sizes : HasRings k = all_at HasRings clients held.rings.sizes c k at in
    omega (arith, sizes.outcomes)

pub room_for_set : (s : QueueState) (clients : List Client) (c : ℕ) (k : Client) → QueueInvariant s clients
    → s.owed ≡ owed_rings clients → slice_get clients c ≡ Some k
    → 1 ≤ length (filter (λ (a : AskedDiscovery). c == a.client) s.asked) → length k.sets.items < k.sets.room
room_for_set s clients c k held owed at some =
    let few_asks : outstanding_asks c s ≤ get_or (map (λ (n : ℕ). 4) s.places) c 0 = held.state.few_asks c in
    let most = fours s.places c in
    let count = sets_count s clients c k owed held.rings at in
    let sizes : HasRings k = all_at HasRings clients held.rings.sizes c k at in
    omega (arith, sizes.sets)

-- what the whole queue keeps through these
pub kept-finish : (s : QueueState) (clients : List Client) (k l : Client) (done : Completion) (flag : Bool)
    (entry : Entry) (a : Accepted) → QueueInvariant s clients → slice_get clients a.client ≡ Some k
    → ClientFinishes k done flag entry l
    → slice_get s.waiting 0 ≡ Some a
    → QueueInvariant (finishes_oldest s (owed_for (completion_value done) a)) (set clients a.client l)
kept-finish s clients k l done flag entry a held at finishes oldest = record {
  state = held-finishes s (completion_value done) a held.state oldest;
  rings = rings-finish s clients k l done flag entry a held.rings at finishes oldest;
}

pub kept-accept : (s : QueueState) (clients : List Client) (c : ℕ) (k l : Client) (request : Request)
    → QueueInvariant s clients → slice_get clients c ≡ Some k → ClientAccepts k s.next_request request l
    → first_submit_fault s c ≡ None → QueueInvariant (accepts_request s c request) (set clients c l)
kept-accept s clients c k l request held at accepts passes = record {
  state = held-accepts s c request held.state passes;
  rings = rings-accept s clients c k l request held.rings at accepts;
}

pub kept-collect : (s : QueueState) (clients : List Client) (c : ℕ) (k l : Client) (outcome : OutcomeValue)
    → QueueInvariant s clients → slice_get clients c ≡ Some k → ClientCollects k outcome l
    → QueueInvariant (collects_oldest s c) (set clients c l)
kept-collect s clients c k l outcome held at collects = record {
  state = held-collects s c held.state;
  rings = rings-collect s (collects_oldest s c) clients c k l outcome refl held.rings at collects;
}

pub kept-join : (s : QueueState) (clients : List Client) (k : Client) (places : ℕ) → QueueInvariant s clients
    → IsNewClient places k → first_join_fault s places ≡ None
    → QueueInvariant (joins_client s places) (clients ++ k ∷ [])
kept-join s clients k places held fresh passes = record {
  state = let room = has_room s places passes in held-joins s places held.state room.0 room.1;
  rings = rings-join s clients k places held.rings fresh;
}

-- the kind of a client's oldest outcome
pub kind_is : (s : QueueState) (clients : List Client) (c : ℕ) (k : Client) → s.owed ≡ owed_rings clients
    → slice_get clients c ≡ Some k → first_kind c s ≡ first_kind_owed k
kind_is s clients c k owed at =
    ap (λ lists. option_map kind_of_value (slice_get (get_or lists c []) 0)) owed
    ∙ (ap (λ ds. option_map kind_of_value (slice_get ds 0)) (values_at clients c k at)
    ∙ kind_first k.outcomes.items k.sets.items)

pub first_at : (s : QueueState) (clients : List Client) (c : ℕ) (k : Client) → s.owed ≡ owed_rings clients
    → slice_get clients c ≡ Some k → slice_get (owed_to c s) 0 ≡ slice_get (owed_values k) 0
first_at s clients c k owed at =
    ap (λ lists. slice_get (get_or lists c []) 0) owed ∙ ap (λ ds. slice_get ds 0) (values_at clients c k at)

pub first_flag_at : (s : QueueState) (clients : List Client) (c : ℕ) (k : Client) → s.flags ≡ flag_rings clients
    → slice_get clients c ≡ Some k → slice_get (flags_to c s) 0 ≡ slice_get (client_flags k) 0
first_flag_at s clients c k flags at =
    ap (λ lists. slice_get (get_or lists c []) 0) flags ∙ ap (λ ds. slice_get ds 0) (flags_at clients c k at)

pub if_none : {X : Type 0} {P Q : Type 0} (r : Option X) → (P → Q) → IfNone r P → IfNone r Q
if_none (Some x) so p = tt
if_none None so p = so p

pub if_some : {X : Type 0} {P Q : X → Type 0} (r : Option X) → ((x : X) → P x → Q x) → IfSome r P → IfSome r Q
if_some (Some x) so p = so x p
if_some None so p = tt

pub no_run_is : (r : Option Running) → is_some r ≡ false → option_map run_is r ≡ None
no_run_is None is = refl
no_run_is (Some r) is = absurd (false≢true (sym is))
