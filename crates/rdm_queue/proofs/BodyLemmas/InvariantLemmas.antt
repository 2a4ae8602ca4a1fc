-- A queue's calls keep its invariant.
use Rattle.rdm_queue.proofs.Common.{◌≡◌, ℕ, zero, suc, ◌+◌, ◌≤◌, ◌<◌, Bool, true, false, cond, not, List, [], ◌∷◌}
use Rattle.rdm_queue.proofs.Common.{◌++◌, length, drop, get_or, filter, map, sum, Option, Some, None, slice_get, refl}
use Rattle.rdm_queue.proofs.Common.{sym, ap, ◌∙◌, subst, inl, inr, length-append, arith, AllByRecursion, ◌⊎◌, ◌==◌}
use Rattle.rdm_queue.proofs.Common.{nat_le, nat_lt, slice_index, if◌then◌else◌, MatchOption, eqb-true, eq-eqb}
use Rattle.rdm_queue.proofs.Common.{ltb-false, or_parts, cases_lt, cases_eq, map-append, get_or_past, get_or-set_same}
use Rattle.rdm_queue.proofs.Common.{get_or-set_other, length-set, length-map, length-drop, sum_by-append, IsAscending}
use Rattle.rdm_queue.proofs.Common.{Request, Joined, Kind, JoinFault, Accepted, AskedDiscovery}
use Rattle.rdm_queue.proofs.Common.{OutcomeValue, StateInvariant, served_by, QueueState, RunState, outstanding}
use Rattle.rdm_queue.specs.body.State.{flags_more}
use Rattle.rdm_queue.proofs.Common.{outstanding_asks, owes, is_discovery, owed_for, finishes_oldest, accepts_request}
use Rattle.rdm_queue.proofs.Common.{accepted_as, asks_discovery, joins_client, collects_oldest, first_join_fault}
use Rattle.rdm_queue.proofs.Common.{first_submit_fault, first_ask_fault, slice_get_first, AgentState, next_op, End}
use Rattle.rdm_queue.proofs.Common.{Client, QueueInvariant}
use Rattle.std.proofs.lemmas.Bool.{leb-false}
use Rattle.std.proofs.lemmas.List.{get_or_append_left}
use Rattle.rdm_agent.specs.declared.kind.Kind.TheVariants.{Full}
use Rattle.rdm_log.specs.declared.fault.JoinFault.TheVariants as join_faults
use Rattle.rdm_queue.specs.body.QueueInvariant.{numbers, IsKept}
use Rattle.rdm_queue.specs.body.State.{asked_as}
use Rattle.rdm_log.proofs.LogLemmas.RefusalLemmas.{none_stands, none_at}
use Rattle.rdm_queue.proofs.BodyLemmas.OutstandingLemmas.{removed_at, owes-count, without_first, one_more, four}
use Rattle.rdm_queue.proofs.BodyLemmas.OutstandingLemmas.{asked-le}

pub waiting_rises : (s : QueueState) → StateInvariant s → IsAscending (map (λ (a : Accepted). a.number) s.waiting)
waiting_rises s held = rising_left (map (λ (a : Accepted). a.number) s.waiting) (s.next_request ∷ []) held.rising
  where
    rising_left : (ns ms : List ℕ) → IsAscending (ns ++ ms) → IsAscending ns
    rising_left [] ms rising = tt
    rising_left (n ∷ ns) ms rising = (all_left ns rising.0, rising_left ns ms rising.1)
      where
        all_left : (ks : List ℕ) → AllByRecursion (λ v. n < v) (ks ++ ms) → AllByRecursion (λ v. n < v) ks
        all_left [] all = tt
        all_left (k ∷ ks) all = (all.0, all_left ks all.1)

-- the client of the oldest request, and of the oldest discovery, has joined
some_within : {n : ℕ} (ns : List ℕ) (c : ℕ) → 1 ≤ n → n ≤ get_or ns c 0 → c < length ns
some_within ns c some fits = by_length (cases_lt c (length ns))
  where
    no : {m : ℕ} → m ≡ 0 → 1 ≤ m → ⊥
    no e p = omega arith

    by_length : (c < length ns) ⊎ (length ns ≤ c) → c < length ns
    by_length (inl here) = here
    by_length (inr past) = absurd (no (get_or_past ns c 0 past) (omega (arith, some, fits)))

pub first_counts : {X : Type 0} (client : X → ℕ) (xs : List X) (x : X) → slice_get xs 0 ≡ Some x
    → 1 ≤ length (filter (λ y. client x == client y) xs)
first_counts {X} client xs x at =
    let all = without_first client (client x) xs x at in let same = eq-eqb (client x) (client x) refl in
    counted _ _ (client x == client x) same all
  where
    counted : (n m : ℕ) (b : Bool) → b ≡ true → n + cond b 1 0 ≡ m → 1 ≤ m
    counted n m true is e = omega arith
    counted n m false is e = cc

pub waiting_joined : (s : QueueState) (a : Accepted) → StateInvariant s → slice_get s.waiting 0 ≡ Some a
    → a.client < length s.places
waiting_joined s a held at =
    some_within s.places a.client (first_counts (λ (b : Accepted). b.client) s.waiting a at)
    (let few = held.few a.client in omega arith)

pub asked_joined : (s : QueueState) (a : AskedDiscovery) → StateInvariant s → slice_get s.asked 0 ≡ Some a
    → a.client < length s.places
asked_joined s a held at =
    subst (λ n. a.client < n) (length-map s.places (λ (n : ℕ). 4))
    (some_within (map (λ (n : ℕ). 4) s.places) a.client
    (first_counts (λ (b : AskedDiscovery). b.client) s.asked a at)
    (let few = held.few_asks a.client in omega arith))

-- the oldest request may be finished
rest_rises : (a : Accepted) (rest : List Accepted) (n : ℕ)
    → IsAscending (map (λ (b : Accepted). b.number) (a ∷ rest) ++ n ∷ [])
    → IsAscending (map (λ (b : Accepted). b.number) rest ++ n ∷ [])
rest_rises a rest n rising = rising.1

-- of two counts with a sum of at most t, one moves from the second to the first, or none
one_moves : (n m k l t : ℕ) (b : Bool) → n ≡ m + cond b 1 0 → k + cond b 1 0 ≡ l → l + m ≤ t → k + n ≤ t
one_moves n m k l t true p q r = omega arith
one_moves n m k l t false p q r = omega arith

none_moves : (n m k t : ℕ) (b : Bool) → n ≡ m + cond b 0 0 → k + m ≤ t → k + n ≤ t
none_moves n m k t true p q = omega arith
none_moves n m k t false p q = omega arith

pub held-finishes : (s : QueueState) (j : Joined) (a : Accepted) → StateInvariant s → slice_get s.waiting 0 ≡ Some a
    → StateInvariant (finishes_oldest s (owed_for j a))
held-finishes s j a held at = record {
  source = held.source;
  greatest = held.greatest;
  budget = held.budget;
  few_places = held.few_places;
  few_clients = held.few_clients;
  owed_for_each = length-set s.owed a.client _ ∙ held.owed_for_each;
  few = λ c. one_moves _ _ _ _ _ (c == a.client) (owes-count (λ d. not (is_discovery d)) s a.client c _ within)
      (without_first (λ (b : Accepted). b.client) c s.waiting a at) (held.few c);
  few_asks = λ c. none_moves _ _ _ _ (c == a.client) (owes-count is_discovery s a.client c _ within) (held.few_asks c);
  rising = rest_rises a (drop 1 s.waiting) s.next_request
      (subst (λ ws. IsAscending (map (λ (b : Accepted). b.number) ws ++ s.next_request ∷ []))
      (slice_get_first s.waiting a at) held.rising);
  open_ = tt;
  asks_numbered = held.asks_numbered;
  served = held.served;
  serves = held.serves;
  runs_numbered = held.runs_numbered;
  run_begun = held.run_begun;
  devices_begun = held.devices_begun;
  kept = held.kept;
}
  where
    within : a.client < length s.owed
    within = let joined = waiting_joined s a held at in let same = held.owed_for_each in omega arith

-- the oldest discovery may be answered
pub held-answers : (s : QueueState) (a : AskedDiscovery) (d : OutcomeValue) (run : Option RunState) → StateInvariant s
    → slice_get s.asked 0 ≡ Some a → is_discovery d ≡ true → MatchOption run (Unit {0}) (λ r. 1 ≤ r.left)
    → served_by s.run ≤ served_by run + 1 → served_by run ≤ served_by s.run → served_by run + 1 ≤ length s.asked
    → MatchOption run (Unit {0}) (λ r. r.number < s.next_run)
    → MatchOption run (Unit {0}) (λ r. s.devices_run ≡ r.number → IsKept s)
    → StateInvariant (record s {
      asked = drop 1 s.asked;
      owed = owes a.client d s;
      flags = flags_more a.client false s;
      run = run;
    })
held-answers s a d run held at discovery serves less most within begun kept = record {
  source = held.source;
  greatest = held.greatest;
  budget = held.budget;
  few_places = held.few_places;
  few_clients = held.few_clients;
  owed_for_each = length-set s.owed a.client _ ∙ held.owed_for_each;
  few = λ c. none_moves _ _ _ _ (c == a.client)
      (rw discovery at (owes-count (λ e. not (is_discovery e)) s a.client c d inside)) (held.few c);
  few_asks = λ c. one_moves _ _ _ _ _ (c == a.client) (rw discovery at (owes-count is_discovery s a.client c d inside))
      (without_first (λ (b : AskedDiscovery). b.client) c s.asked a at) (held.few_asks c);
  rising = held.rising;
  open_ = held.open_;
  asks_numbered = held.asks_numbered;
  served = let long = length-drop 1 s.asked in omega arith;
  serves = serves;
  runs_numbered =
      let long = length-drop 1 s.asked in let numbered = held.runs_numbered in let all = held.served in omega arith;
  run_begun = begun;
  devices_begun = held.devices_begun;
  kept = kept;
}
  where
    inside : a.client < length s.owed
    inside = let joined = asked_joined s a held at in let same = held.owed_for_each in omega arith

-- one more request, of a client that has joined and whose queue depth allows it
pub record HasPlace (s : QueueState) (c : ℕ) : Type 0 where
  pub joined : c < length s.places
  pub free : outstanding c s < slice_index s.places c
  pub number : s.next_request < 18446744073709551615

pub has_place : (s : QueueState) (c : ℕ) → first_submit_fault s c ≡ None → HasPlace s c
has_place s c passes =
    let tests = none_at s.closed s.places _ c passes in
    let parts = or_parts _ _ tests.2 in
    record { joined = tests.1; free = leb-false _ _ parts.0; number = leb-false _ _ parts.1 }

-- a higher number at the end
rising_push : (ns : List ℕ) (n m : ℕ) → IsAscending (ns ++ n ∷ []) → n < m → IsAscending ((ns ++ n ∷ []) ++ m ∷ [])
rising_push [] n m rising less = ((less, tt), (tt, tt))
rising_push (k ∷ ns) n m rising less = (all_more ns rising.0, rising_push ns n m rising.1 less)
  where
    all_more : (ks : List ℕ) → AllByRecursion (λ v. k < v) (ks ++ n ∷ [])
        → AllByRecursion (λ v. k < v) ((ks ++ n ∷ []) ++ m ∷ [])
    all_more [] all = let p : k < n = all.0 in (all.0, (omega arith, tt))
    all_more (j ∷ ks) all = (all.0, all_more ks all.1)

rising-accepts : (s : QueueState) (c : ℕ) (request : Request) → IsAscending (numbers s)
    → IsAscending (numbers (accepts_request s c request))
rising-accepts s c request rising =
    subst IsAscending
    (sym (ap (λ ns. ns ++ (s.next_request + 1) ∷ [])
    (map-append (λ (a : Accepted). a.number) s.waiting (accepted_as s c request ∷ []))))
    (rising_push (map (λ (a : Accepted). a.number) s.waiting) s.next_request (s.next_request + 1) rising
    (omega arith))

more_fits : (w v k t : ℕ) (b : Bool) → v ≡ w + cond b 1 0 → w + k ≤ t → (b ≡ true → w + k < t) → v + k ≤ t
more_fits w v k t true p q r = let less = r refl in omega arith
more_fits w v k t false p q r = omega arith

pub held-accepts : (s : QueueState) (c : ℕ) (request : Request) → StateInvariant s → first_submit_fault s c ≡ None
    → StateInvariant (accepts_request s c request)
held-accepts s c request held passes = record {
  source = held.source;
  greatest = held.greatest;
  budget = held.budget;
  few_places = held.few_places;
  few_clients = held.few_clients;
  owed_for_each = held.owed_for_each;
  few = λ client. more_fits _ _ _ _ (client == c)
      (one_more (λ (a : Accepted). a.client) client s.waiting (accepted_as s c request)) (held.few client)
      (λ own. rw (eqb-true client c own) (has_place s c passes).free);
  few_asks = held.few_asks;
  rising = rising-accepts s c request held.rising;
  open_ = held.open_;
  asks_numbered = held.asks_numbered;
  served = held.served;
  serves = held.serves;
  runs_numbered = held.runs_numbered;
  run_begun = held.run_begun;
  devices_begun = held.devices_begun;
  kept = held.kept;
}

-- one more discovery, of a client that has joined and has fewer than four
pub record HasAsk (s : QueueState) (c : ℕ) : Type 0 where
  pub joined : c < length s.places
  pub free : outstanding_asks c s < 4
  pub number : s.next_ask < 18446744073709551614

pub has_ask : (s : QueueState) (c : ℕ) → first_ask_fault s c ≡ None → HasAsk s c
has_ask s c passes =
    let tests = none_at s.closed s.places _ c passes in
    let parts = or_parts _ _ tests.2 in
    record { joined = tests.1; free = leb-false _ _ parts.0; number = leb-false _ _ parts.1 }

pub held-asks : (s : QueueState) (c : ℕ) (kind : Kind) → StateInvariant s → first_ask_fault s c ≡ None
    → StateInvariant (asks_discovery s c kind)
held-asks s c kind held passes = record {
  source = held.source;
  greatest = held.greatest;
  budget = held.budget;
  few_places = held.few_places;
  few_clients = held.few_clients;
  owed_for_each = held.owed_for_each;
  few = held.few;
  few_asks = λ client. more_fits _ _ _ _ (client == c)
      (one_more (λ (a : AskedDiscovery). a.client) client s.asked (asked_as s c kind)) (held.few_asks client)
      (λ own. rw (eqb-true client c own, four s.places c has.joined) has.free);
  rising = held.rising;
  open_ = held.open_;
  asks_numbered = let less = has.number in omega arith;
  served = let long = length-append s.asked (asked_as s c kind ∷ []) in let kept = held.served in omega arith;
  serves = held.serves;
  runs_numbered =
      let long = length-append s.asked (asked_as s c kind ∷ []) in let kept = held.served in
      let numbered = held.runs_numbered in omega arith;
  run_begun = held.run_begun;
  devices_begun = held.devices_begun;
  kept = held.kept;
}
  where
    has : HasAsk s c
    has = has_ask s c passes

pub room_to_ask : (s : QueueState) (c : ℕ) → StateInvariant s → first_ask_fault s c ≡ None → length s.asked < 64
room_to_ask s c held passes =
    let more = asked-le (asks_discovery s c Full) (held-asks s c Full held passes) in
    let long = length-append s.asked (asked_as s c Full ∷ []) in
    let few = held.few_clients in
    omega arith

-- an agent that hasn't ended changes: no set of its run is kept yet
pub kept-goes_on : (s : QueueState) (clients : List Client) (agent : AgentState) → QueueInvariant s clients
    → (next_op s.agent ≡ End → ⊥) → QueueInvariant (record s { agent = agent }) clients
kept-goes_on s clients agent held goes_on = record {
  state = record {
    source = held.state.source;
    greatest = held.state.greatest;
    budget = held.state.budget;
    few_places = held.state.few_places;
    few_clients = held.state.few_clients;
    owed_for_each = held.state.owed_for_each;
    few = held.state.few;
    few_asks = held.state.few_asks;
    rising = held.state.rising;
    open_ = held.state.open_;
    asks_numbered = held.state.asks_numbered;
    served = held.state.served;
    serves = held.state.serves;
    runs_numbered = held.state.runs_numbered;
    run_begun = held.state.run_begun;
    devices_begun = held.state.devices_begun;
    kept = by_run s.run held.state.kept;
  };
  rings = record { waiting = held.rings.waiting; sizes = held.rings.sizes; sets = held.rings.sets };
}
  where
    new : QueueState
    new = record s { agent = agent }

    by_run : (run : Option RunState) → MatchOption run (Unit {0}) (λ r. s.devices_run ≡ r.number → IsKept s)
        → MatchOption run (Unit {0}) (λ r. s.devices_run ≡ r.number → IsKept new)
    by_run None kept = tt
    by_run (Some r) kept = λ same. absurd (goes_on (kept same).0)

-- one outcome fewer
fewer_left : (p : OutcomeValue → Bool) (ds : List OutcomeValue) → length (filter p (drop 1 ds)) ≤ length (filter p ds)
fewer_left p [] = omega arith
fewer_left p (d ∷ ds) = by_test (p d)
  where
    by_test : (b : Bool) → length (filter p ds) ≤ length (cond b (d ∷ filter p ds) (filter p ds))
    by_test true = omega arith
    by_test false = omega arith

set_fewer : (p : OutcomeValue → Bool) (lists : List (List OutcomeValue)) (c n : ℕ)
    → length (filter p (get_or (removed_at lists c) n [])) ≤ length (filter p (get_or lists n []))
set_fewer p lists c n = by_client (cases_eq n c) (cases_lt c (length lists))
  where
    none : {ds : List OutcomeValue} (m : ℕ) → ds ≡ [] → length (filter p ds) ≤ m
    none m is = rw is (omega arith)

    by_client : (n ≡ c) ⊎ (n ≡ c → ⊥) → (c < length lists) ⊎ (length lists ≤ c)
        → length (filter p (get_or (removed_at lists c) n [])) ≤ length (filter p (get_or lists n []))
    by_client (inl same) (inl within) =
        rw (same, get_or-set_same lists c (drop 1 (get_or lists c [])) [] within) (fewer_left p (get_or lists c []))
    by_client (inl same) (inr past) =
        none _ (get_or_past (removed_at lists c) n []
        (let long = length-set lists c (drop 1 (get_or lists c [])) in omega arith))
    by_client (inr other) within = rw (get_or-set_other lists c n (drop 1 (get_or lists c [])) [] other) (omega arith)

fewer_fit : (n m k t : ℕ) → n + m ≤ t → k ≤ m → n + k ≤ t
fewer_fit n m k t p q = omega arith

pub held-collects : (s : QueueState) (c : ℕ) → StateInvariant s → StateInvariant (collects_oldest s c)
held-collects s c held = record {
  source = held.source;
  greatest = held.greatest;
  budget = held.budget;
  few_places = held.few_places;
  few_clients = held.few_clients;
  owed_for_each = length-set s.owed c _ ∙ held.owed_for_each;
  few = λ client. fewer_fit _ _ _ _ (held.few client) (set_fewer (λ d. not (is_discovery d)) s.owed c client);
  few_asks = λ client. fewer_fit _ _ _ _ (held.few_asks client) (set_fewer is_discovery s.owed c client);
  rising = held.rising;
  open_ = held.open_;
  asks_numbered = held.asks_numbered;
  served = held.served;
  serves = held.serves;
  runs_numbered = held.runs_numbered;
  run_begun = held.run_begun;
  devices_begun = held.devices_begun;
  kept = held.kept;
}

-- one client more, without requests
pub none_owed_more : {X : Type 0} (lists : List (List X)) (c : ℕ) → get_or (lists ++ [] ∷ []) c [] ≡ get_or lists c []
none_owed_more [] zero = refl
none_owed_more [] (suc c) = refl
none_owed_more (ds ∷ lists) zero = refl
none_owed_more (ds ∷ lists) (suc c) = none_owed_more lists c

room_more : (ns : List ℕ) (n c t : ℕ) → t ≤ get_or ns c 0 → t ≤ get_or (ns ++ n ∷ []) c 0
room_more ns n c t fits = at (cases_lt c (length ns))
  where
    none : {m : ℕ} (k : ℕ) → t ≤ m → m ≡ 0 → t ≤ k
    none k p q = omega arith

    at : (c < length ns) ⊎ (length ns ≤ c) → t ≤ get_or (ns ++ n ∷ []) c 0
    at (inl here) = rw (get_or_append_left ns (n ∷ []) 0 c here) fits
    at (inr past) = none _ fits (get_or_past ns c 0 past)

pub held-joins : (s : QueueState) (places : ℕ) → StateInvariant s → length s.places < 16
    → sum s.places + places ≤ s.greatest → StateInvariant (joins_client s places)
held-joins s places held few fits = record {
  source = held.source;
  greatest = held.greatest;
  budget = held.budget;
  few_places = more _ _ _ (sum_by-append (λ n. n) s.places (places ∷ [])) fits;
  few_clients = let long = length-append s.places (places ∷ []) in omega arith;
  owed_for_each =
      let long = length-append s.places (places ∷ []) in let owed = length-append s.owed ([] ∷ []) in
      let same = held.owed_for_each in omega arith;
  few = λ c. rw (none_owed_more s.owed c) (room_more s.places places c (outstanding c s) (held.few c));
  few_asks = λ c. rw (none_owed_more s.owed c, map-append {B = ℕ} (λ (n : ℕ). 4) s.places (places ∷ []))
      (room_more (map (λ (n : ℕ). 4) s.places) 4 c (outstanding_asks c s) (held.few_asks c));
  rising = held.rising;
  open_ = held.open_;
  asks_numbered = held.asks_numbered;
  served = held.served;
  serves = held.serves;
  runs_numbered = held.runs_numbered;
  run_begun = held.run_begun;
  devices_begun = held.devices_begun;
  kept = held.kept;
}
  where
    more : (n m t : ℕ) → n ≡ m + (0 + places) → m + places ≤ t → n ≤ t
    more n m t p q = omega arith

-- a join that isn't refused finds enough queue depth, and fewer than sixteen clients
pub has_room : (s : QueueState) (n : ℕ) → first_join_fault s n ≡ None → (length s.places < 16)
    × (sum s.places + n ≤ s.greatest)
has_room s n e =
    let closed = none_stands s.closed join_faults.Closed
    (if nat_le 16 (length s.places) then Some join_faults.TooManyClients else if_no_places) e in
    let many = none_stands (nat_le 16 (length s.places)) join_faults.TooManyClients if_no_places closed.1 in
    let places = none_stands (nat_lt s.greatest (sum s.places + n)) join_faults.NoPlaces None many.1 in
    (leb-false 16 (length s.places) many.0, ltb-false s.greatest (sum s.places + n) places.0)
  where
    if_no_places : Option JoinFault
    if_no_places = if nat_lt s.greatest (sum s.places + n) then Some join_faults.NoPlaces else None
