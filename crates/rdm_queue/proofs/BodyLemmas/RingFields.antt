-- All clients' rings are the fields of the queue's state, also once a call has changed one client's.
use Rattle.rdm_queue.proofs.Common.{◌≡◌, ℕ, ◌<◌, List, [], ◌∷◌, ◌++◌, set, get_or, Option, Some, None, slice_get, refl}
use Rattle.rdm_queue.proofs.Common.{sym, ap, ◌∙◌, subst, arith, IfNone, IfSome, deque_len, deque_capacity, map-append}
use Rattle.rdm_queue.proofs.Common.{Request, Client, Inside, Entry, Completion, Accepted, OutcomeValue}
use Rattle.rdm_queue.proofs.Common.{completion_value, merged, IsNewClient, ClientAccepts, ClientFinishes}
use Rattle.rdm_queue.proofs.Common.{ClientCollects, owed_values, state_of, places_of, waiting_rings, owed_rings}
use Rattle.rdm_queue.proofs.Common.{QueueInvariant, QueueState, owed_for, finishes_oldest, accepts_request}
use Rattle.rdm_queue.proofs.Common.{joins_client, first_join_fault, first_submit_fault, CollectsOldest}
use Rattle.rdm_queue.proofs.Common.{Bool, map}
use Rattle.rdm_queue.specs.body.Rings.{client_flags, flag_of_owed}
use Rattle.rdm_queue.specs.body.Fields.{flag_rings}
use Rattle.rdm_queue.specs.body.State.{flags_more, flag_at_end}
use Rattle.rdm_queue.proofs.BodyLemmas.InvariantLemmas.{first_counts}
use Rattle.rdm_queue.proofs.BodyLemmas.ValueLemmas.{values-fresh}
use Rattle.rdm_queue.proofs.BodyLemmas.RingLemmas.{places_stayed, set_same}
use Rattle.rdm_queue.proofs.BodyLemmas.RingSteps.{values_at, owed-accept, owed-finish, owed-collect, kept-finish}
use Rattle.rdm_queue.proofs.BodyLemmas.RingSteps.{kept-accept, kept-collect, kept-join, room_for_request}
use Rattle.rdm_queue.proofs.BodyLemmas.RingSteps.{room_for_outcome}
use Rattle.rdm_queue.proofs.BodyLemmas.RingSteps.{flags-accept, flags-finish, flags-collect}
use Rattle.rdm_queue.proofs.BodyLemmas.OldestLemmas.{oldest_within, some_waits}
use Rattle.rdm_queue.proofs.BodyLemmas.FieldLemmas.{waiting_are, read_at, known_client}

-- in this state the invariant holds with these clients, whose rings are its fields
pub record AreClientsOf (s : QueueState) (clients : List Client) : Type 0 where
  pub kept : QueueInvariant s clients
  pub places : places_of clients ≡ s.places
  pub waiting : merged (λ a. a.number) (waiting_rings clients) ≡ s.waiting
  pub owed : owed_rings clients ≡ s.owed
  pub flags : flag_rings clients ≡ s.flags

pub own_clients : (c : Inside) → QueueInvariant (state_of c) c.clients.items
    → AreClientsOf (state_of c) c.clients.items
own_clients c held = record { kept = held; places = refl; waiting = refl; owed = refl; flags = refl }

pub are_clients : (s : QueueState) (clients : List Client) → QueueInvariant s clients → places_of clients ≡ s.places
    → owed_rings clients ≡ s.owed → flag_rings clients ≡ s.flags → AreClientsOf s clients
are_clients s clients kept places owed flags = record {
  kept = kept;
  places = places;
  waiting = waiting_are s clients kept;
  owed = owed;
  flags = flags;
}

-- a client joins
pub clients-join : (s : QueueState) (clients : List Client) (k : Client) (places : ℕ) → AreClientsOf s clients
    → IsNewClient places k → first_join_fault s places ≡ None
    → AreClientsOf (joins_client s places) (clients ++ k ∷ [])
clients-join s clients k places are fresh passes =
    are_clients (joins_client s places) (clients ++ k ∷ []) (kept-join s clients k places are.kept fresh passes)
    (map-append (λ (l : Client). l.places) clients (k ∷ [])
    ∙ (ap (λ n. places_of clients ++ n ∷ []) fresh.places_are ∙ ap (λ ns. ns ++ places ∷ []) are.places))
    (map-append owed_values clients (k ∷ [])
    ∙ (ap (λ ds. owed_rings clients ++ ds ∷ []) (values-fresh k places fresh)
    ∙ ap (λ (lists : List (List OutcomeValue)). lists ++ [] ∷ []) are.owed))
    (map-append client_flags clients (k ∷ [])
    ∙ (ap (λ ds. flag_rings clients ++ ds ∷ []) (ap (λ ds. map flag_of_owed ds) fresh.none_owed)
    ∙ ap (λ (lists : List (List Bool)). lists ++ [] ∷ []) are.flags))

-- a client's request is accepted: no fault refuses it, and the client, read at its index, has capacity for it
pub record CanAccept (s : QueueState) (clients : List Client) (c : ℕ) (k : Client) : Type 0 where
  pub passes : first_submit_fault s c ≡ None
  pub at : slice_get clients c ≡ Some k
  pub room : deque_len k.waiting < deque_capacity k.waiting

pub can_accept : (s : QueueState) (clients ys : List Client) (c i : ℕ) (d : Client) → AreClientsOf s clients
    → first_submit_fault s c ≡ None → i ≡ c → ys ≡ clients → CanAccept s clients c (get_or ys i d)
can_accept s clients ys c i d are passes same_index read = record {
  passes = passes;
  at = at;
  room = room_for_request s clients c (get_or ys i d) are.kept (sym are.places) (sym are.owed) passes at;
}
  where
    at : slice_get clients c ≡ Some (get_or ys i d)
    at = read_at clients ys i c d same_index read (known_client s clients c (sym are.places) passes)

pub clients-accept : (s : QueueState) (clients : List Client) (c i : ℕ) (k l : Client) (request : Request)
    → AreClientsOf s clients → CanAccept s clients c k → i ≡ c → ClientAccepts k s.next_request request l
    → AreClientsOf (accepts_request s c request) (set clients i l)
clients-accept s clients c i k l request are can same_index accepts =
    subst (λ n. AreClientsOf (accepts_request s c request) (set clients n l)) (sym same_index)
    (are_clients (accepts_request s c request) (set clients c l)
    (kept-accept s clients c k l request are.kept can.at accepts can.passes)
    (places_stayed clients c k l can.at accepts.rings.places ∙ are.places)
    (owed-accept clients c s.next_request k l request can.at accepts ∙ are.owed)
    (flags-accept clients c s.next_request k l request can.at accepts ∙ are.flags))

-- the oldest request is finished: its client, read at its index, has it, and capacity for its outcome
pub record CanFinish (s : QueueState) (clients : List Client) (a : Accepted) (k : Client) : Type 0 where
  pub oldest : slice_get s.waiting 0 ≡ Some a
  pub at : slice_get clients a.client ≡ Some k
  pub some : 0 < deque_len k.waiting
  pub room : deque_len k.outcomes < deque_capacity k.outcomes

pub can_finish : (s : QueueState) (clients ys : List Client) (a : Accepted) (i : ℕ) (d : Client)
    → AreClientsOf s clients → slice_get s.waiting 0 ≡ Some a → a.client ≡ i → ys ≡ clients
    → CanFinish s clients a (get_or ys i d)
can_finish s clients ys a i d are oldest same_index read = record {
  oldest = oldest;
  at = at;
  some = some_waits s clients (get_or ys i d) a are.kept oldest at;
  room = room_for_outcome s clients a.client (get_or ys i d) are.kept (sym are.places) (sym are.owed) at
      (let one = first_counts (λ (b : Accepted). b.client) s.waiting a oldest in omega arith);
}
  where
    at : slice_get clients a.client ≡ Some (get_or ys i d)
    at = read_at clients ys i a.client d (sym same_index) read
        (oldest_within s clients a.client are.kept (a, oldest, refl))

pub clients-finish : (s : QueueState) (clients : List Client) (i : ℕ) (k l : Client) (done : Completion)
    (flag : Bool) (entry : Entry) (a : Accepted) → AreClientsOf s clients → CanFinish s clients a k → a.client ≡ i
    → flag ≡ flag_at_end s (completion_value done) → ClientFinishes k done flag entry l
    → AreClientsOf (finishes_oldest s (owed_for (completion_value done) a)) (set clients i l)
clients-finish s clients i k l done flag entry a are can same_index flag_is finishes =
    subst (λ n. AreClientsOf (finishes_oldest s (owed_for (completion_value done) a)) (set clients n l)) same_index
    (are_clients (finishes_oldest s (owed_for (completion_value done) a)) (set clients a.client l)
    (kept-finish s clients k l done flag entry a are.kept can.at finishes can.oldest)
    (places_stayed clients a.client k l can.at finishes.rings.places ∙ are.places)
    (owed-finish s clients k l done flag entry a (sym are.owed) are.kept.rings can.at finishes can.oldest)
    (flags-finish s clients a.client k l done flag entry (sym are.flags) can.at finishes
    ∙ ap (λ b. flags_more a.client b s) flag_is))

-- a client's oldest outcome is removed, if a call returns one
abbrev with_rings : QueueState → List Client → QueueState
with_rings s clients = record s { owed = owed_rings clients; flags = flag_rings clients }

pub record MayCollect {X : Type 0} (s : QueueState) (clients : List Client) (c : ℕ) (l : Client) (r : Option X)
    (value : X → OutcomeValue) : Type 0 where
  pub are : AreClientsOf (with_rings s (set clients c l)) (set clients c l)
  pub removed : IfSome r (λ x. CollectsOldest s c (value x) (with_rings s (set clients c l)))

pub may_collect : {X : Type 0} (s : QueueState) (clients : List Client) (c : ℕ) (k l : Client) (r : Option X)
    (value : X → OutcomeValue) → AreClientsOf s clients → slice_get clients c ≡ Some k
    → IfSome r (λ x. ClientCollects k (value x) l) → IfNone r (l ≡ k) → MayCollect s clients c l r value
may_collect s clients c k l (Some x) value are at collects same =
    let is = owed-collect s clients c k l (value x) (sym are.owed) at collects in
    let flags = flags-collect s clients c k l (value x) (sym are.flags) at collects in
    record {
      are = are_clients (with_rings s (set clients c l)) (set clients c l)
          (rw (is, flags) (kept-collect s clients c k l (value x) are.kept at collects))
          (places_stayed clients c k l at collects.rings.places ∙ are.places) refl refl;
      removed = record {
        oldest = ap (λ lists. slice_get (get_or lists c []) 0) (sym are.owed)
            ∙ ap (λ ds. slice_get ds 0) (values_at clients c k at ∙ collects.outcomes);
        new_is = rw (is, flags) refl;
      };
    }
may_collect s clients c k l None value are at collects same = record {
  are = are_clients (with_rings s (set clients c l)) (set clients c l)
      (rw (same, set_same clients c k at, are.owed, are.flags) are.kept)
      (places_stayed clients c k l at (ap (λ m. m.places) same) ∙ are.places) refl refl;
  removed = tt;
}
