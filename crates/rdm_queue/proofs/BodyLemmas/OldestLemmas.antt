-- The oldest request is first in its client's ring, and its client is the first of the owners.
use Rattle.rdm_queue.proofs.Common.{◌≡◌, ℕ, zero, suc, ◌<◌, ◌≤◌, List, [], ◌∷◌, ◌++◌, length, get_or}
use Rattle.rdm_queue.proofs.Common.{drop, map-append, length-append, length-map, Request, accepts_request, accepted_as}
use Rattle.rdm_queue.specs.body.QueueInvariant.{AreOwners}
use Rattle.rdm_queue.proofs.BodyLemmas.OutstandingLemmas.{waiting-le}
use Rattle.rdm_queue.proofs.Common.{Some, None, slice_get, refl, sym, ap, ◌∙◌, inl, inr, map, arith}
use Rattle.rdm_queue.proofs.Common.{◌⊎◌, deque_len}
use Rattle.rdm_queue.proofs.Common.{cases_lt, eq-eqb, Client, Waiting, Accepted, AreShares, accepted_is}
use Rattle.rdm_queue.proofs.Common.{waiting_ring, waiting_rings, QueueInvariant, QueueState, index_within}
use Rattle.rdm_queue.proofs.BodyLemmas.RingLemmas.{ring_of, ring_past}

-- client i's oldest request
abbrev pub OldestOf : List Client → ℕ → Waiting → Type 0
OldestOf clients i w = (k : Client) × (slice_get clients i ≡ Some k) × (slice_get k.waiting.items 0 ≡ Some w)

-- the first in a client's ring is its oldest request
pub record IsOwnOldest (clients : List Client) (j : ℕ) (b : Accepted) : Type 0 where
  pub oldest : Waiting
  pub own : OldestOf clients j oldest
  pub is : b ≡ accepted_is j oldest

record IsMapped {X Y : Type 0} (f : X → Y) (xs : List X) (y : Y) : Type 0 where
  pub from : X
  pub at : slice_get xs 0 ≡ Some from
  pub is : y ≡ f from

first_mapped : {X Y : Type 0} (f : X → Y) (xs : List X) (y : Y) → slice_get (map f xs) 0 ≡ Some y → IsMapped f xs y
first_mapped f [] y at = cc
first_mapped f (x ∷ xs) y at = record { from = x; at = refl; is = cc }

client_at : (clients : List Client) (j : ℕ) → j < length clients → (k : Client) × (slice_get clients j ≡ Some k)
client_at [] j within = absurd (omega arith)
client_at (k ∷ clients) zero within = (k, refl)
client_at (k ∷ clients) (suc j) within = client_at clients j (omega arith)

own_oldest : (clients : List Client) (j : ℕ) (b : Accepted) → slice_get (get_or (waiting_rings clients) j []) 0 ≡ Some b
    → IsOwnOldest clients j b
own_oldest clients j b at = by_length (cases_lt j (length clients))
  where
    none : [] ≡ get_or (waiting_rings clients) j [] → IsOwnOldest clients j b
    none past = let no : None ≡ Some b = ap (λ l. slice_get l 0) past ∙ at in cc

    by_length : (j < length clients) ⊎ (length clients ≤ j) → IsOwnOldest clients j b
    by_length (inl here) =
        let found = client_at clients j here in
        let first = first_mapped (accepted_is j) found.0.waiting.items b
        (ap (λ l. slice_get l 0) (sym (ring_of waiting_ring clients j found.0 found.1)) ∙ at) in
        record { oldest = first.from; own = (found.0, found.1, first.at); is = first.is }
    by_length (inr past) = none (sym (ring_past waiting_ring clients j past))

-- a first request is its client's oldest
oldest_at : (clients : List Client) (all : List Accepted) (a : Accepted)
    → AreShares (λ b. b.client) (waiting_rings clients) all → slice_get all 0 ≡ Some a → IsOwnOldest clients a.client a
oldest_at clients [] a shares at = cc
oldest_at clients (x ∷ all) a shares at =
    own_oldest clients a.client a
    (ap (λ l. slice_get l 0) (shares a.client)
    ∙ (let same : x ≡ a = cc in rw (same, eq-eqb a.client a.client refl) refl))

pub oldest_of : (s : QueueState) (clients : List Client) (a : Accepted) → QueueInvariant s clients
    → slice_get s.waiting 0 ≡ Some a → IsOwnOldest clients a.client a
oldest_of s clients a held at = oldest_at clients s.waiting a held.rings.waiting at

-- the client whose request is the oldest
pub oldest_within : (s : QueueState) (clients : List Client) (at : ℕ) → QueueInvariant s clients → (a : Accepted)
    × (slice_get s.waiting 0 ≡ Some a) × (a.client ≡ at) → at < length clients
oldest_within s clients at held oldest =
    let is_first = oldest_of s clients oldest.0 held oldest.1 in
    rw (← oldest.2) (index_within clients oldest.0.client is_first.own.0 is_first.own.1)

pub some_waits : (s : QueueState) (clients : List Client) (k : Client) (a : Accepted) → QueueInvariant s clients
    → slice_get s.waiting 0 ≡ Some a → slice_get clients a.client ≡ Some k → 0 < deque_len k.waiting
some_waits s clients k a held oldest at =
    let is_first = oldest_of s clients a held oldest in
    let same : is_first.own.0 ≡ k = (let e : Some is_first.own.0 ≡ Some k = sym is_first.own.1 ∙ at in cc) in
    let within : 0 < length k.waiting.items = index_within k.waiting.items 0 is_first.oldest
    (rw same at is_first.own.2) in
    omega (arith, k.waiting.ok.0)

-- this client has the oldest request, as the first in its ring
pub record IsFirstOwner (s : QueueState) (clients : List Client) (i : ℕ) : Type 0 where
  pub client : Client
  pub at : slice_get clients i ≡ Some client
  pub oldest : Waiting
  pub first : slice_get client.waiting.items 0 ≡ Some oldest
  pub is : slice_get s.waiting 0 ≡ Some (accepted_is i oldest)

-- the first of the owners has it
pub first_owner : (s : QueueState) (clients : List Client) (owners : List ℕ) (room i : ℕ) → QueueInvariant s clients
    → AreOwners s.waiting s.greatest owners room → slice_get owners 0 ≡ Some i → IsFirstOwner s clients i
first_owner s clients owners room i held are at =
    let mapped = first_mapped (λ (b : Accepted). b.client) s.waiting i (ap (λ l. slice_get l 0) (sym are.each) ∙ at) in
    let own = oldest_of s clients mapped.from held mapped.at in
    rw mapped.is record {
      client = own.own.0;
      at = own.own.1;
      oldest = own.oldest;
      first = own.own.2;
      is = mapped.at ∙ ap (λ a. Some a) own.is;
    }

-- there is capacity for the owner of one request more, if the invariant holds with that
pub owners_fit : (s : QueueState) (clients : List Client) (owners : List ℕ) (room c : ℕ) (request : Request)
    → QueueInvariant (accepts_request s c request) clients → AreOwners s.waiting s.greatest owners room
    → length owners < room
owners_fit s clients owners room c request held are =
    let most = waiting-le (accepts_request s c request) held.state in
    let longer = length-append s.waiting (accepted_as s c request ∷ []) in
    let same : length owners ≡ length s.waiting =
    ap (λ l. length l) are.each ∙ length-map s.waiting (λ (b : Accepted). b.client) in
    omega (arith, held.state.few_places, are.enough)

-- the owners after a request was accepted, and after the oldest was finished
pub owners_accept : (before : List Accepted) (a : Accepted) (xs ys : List ℕ)
    → xs ≡ map (λ (b : Accepted). b.client) before → ys ≡ xs ++ a.client ∷ []
    → ys ≡ map (λ (b : Accepted). b.client) (before ++ a ∷ [])
owners_accept before a xs ys are more =
    more ∙ (ap (λ l. l ++ a.client ∷ []) are ∙ sym (map-append (λ (b : Accepted). b.client) before (a ∷ [])))

pub owners_finish : (before : List Accepted) (xs ys : List ℕ) → xs ≡ map (λ (b : Accepted). b.client) before
    → ys ≡ drop 1 xs → ys ≡ map (λ (b : Accepted). b.client) (drop 1 before)
owners_finish [] xs ys are rest = rest ∙ ap (λ l. drop 1 l) are
owners_finish (a ∷ before) xs ys are rest = rest ∙ ap (λ l. drop 1 l) are
