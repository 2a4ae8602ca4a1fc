-- A client's outcomes as it sees them, as its rings change.
use Rattle.rdm_queue.proofs.Common.{◌≡◌, ℕ, suc, ◌≤◌, Bool, true, false, cond, List, [], ◌∷◌, ◌++◌, length, Option}
use Rattle.rdm_queue.proofs.Common.{None, Some, refl, sym, ap, ◌∙◌, filter, length-append, arith, option_map, slice_get}
use Rattle.rdm_queue.proofs.Common.{deque_capacity, filter-append, Device, AgentFault, Client, Owed, Entry, Completion}
use Rattle.rdm_queue.proofs.Common.{completion_value, is_discovery, kind_of_value, HasSets, values, owed_values}
use Rattle.rdm_queue.proofs.Common.{IsNewClient, ClientFinishes, ClientAnswers, ClientCollects}
use Rattle.rdm_queue.specs.declared.client.Owed.TheVariants as owed
use Rattle.rdm_log.specs.promises.Outcomes.OutcomeValue.{RequestValue, DiscoveryValue}
use Rattle.rdm_queue.specs.body.Rings.{owes_discovery, kind_of_owed}

-- as many as its ring holds, and as many discoveries
pub length-values : (ds : List Owed) (sets : List (List Device)) → length (values ds sets) ≡ length ds
unfolding values
length-values [] sets = refl
length-values (owed.Request number done flag ∷ ds) sets = ap suc (length-values ds sets)
length-values (owed.Discovery number run fault ∷ ds) [] = ap suc (length-values ds [])
length-values (owed.Discovery number run fault ∷ ds) (s ∷ sets) = ap suc (length-values ds sets)

pub discoveries-values : (ds : List Owed) (sets : List (List Device))
    → length (filter is_discovery (values ds sets)) ≡ length (filter owes_discovery ds)
unfolding values
discoveries-values [] sets = refl
discoveries-values (owed.Request number done flag ∷ ds) sets = discoveries-values ds sets
discoveries-values (owed.Discovery number run fault ∷ ds) [] = ap suc (discoveries-values ds [])
discoveries-values (owed.Discovery number run fault ∷ ds) (s ∷ sets) = ap suc (discoveries-values ds sets)

-- one more of a request, and of a discovery with its set
pub values-request : (ds : List Owed) (sets : List (List Device)) (n : ℕ) (done : Completion) (flag : Bool)
    → values (ds ++ owed.Request n done flag ∷ []) sets ≡ values ds sets
    ++ RequestValue (Some n) (completion_value done) ∷ []
unfolding values
values-request [] sets n done flag = refl
values-request (owed.Request number own other ∷ ds) sets n done flag =
    ap (λ l. RequestValue (Some number) (completion_value own) ∷ l) (values-request ds sets n done flag)
values-request (owed.Discovery number run fault ∷ ds) [] n done flag =
    ap (λ l. DiscoveryValue (Some number) (record { run = run; fault = fault; devices = [] }) ∷ l)
    (values-request ds [] n done flag)
values-request (owed.Discovery number run fault ∷ ds) (s ∷ sets) n done flag =
    ap (λ l. DiscoveryValue (Some number) (record { run = run; fault = fault; devices = s }) ∷ l)
    (values-request ds sets n done flag)

pub values-discovery : (ds : List Owed) (sets : List (List Device)) (n r : ℕ) (f : Option AgentFault)
    (found : List Device) → length sets ≡ length (filter owes_discovery ds)
    → values (ds ++ owed.Discovery n r f ∷ []) (sets ++ found ∷ []) ≡ values ds sets
    ++ DiscoveryValue (Some n) (record { run = r; fault = f; devices = found }) ∷ []
unfolding values
values-discovery [] [] n r f found same = refl
values-discovery [] (s ∷ sets) n r f found same = absurd (omega arith)
values-discovery (owed.Request number own other ∷ ds) sets n r f found same =
    ap (λ l. RequestValue (Some number) (completion_value own) ∷ l) (values-discovery ds sets n r f found same)
values-discovery (owed.Discovery number run fault ∷ ds) [] n r f found same = absurd (omega arith)
values-discovery (owed.Discovery number run fault ∷ ds) (s ∷ sets) n r f found same =
    ap (λ l. DiscoveryValue (Some number) (record { run = run; fault = fault; devices = s }) ∷ l)
    (values-discovery ds sets n r f found (omega arith))

-- and the sets go with them
pub sets-finish : (k l : Client) (done : Completion) (flag : Bool) (entry : Entry)
    (finishes : ClientFinishes k done flag entry l) → HasSets k → HasSets l
sets-finish k l done flag entry finishes has =
    rw (
      finishes.outcomes,
      finishes.sets,
      filter-append owes_discovery k.outcomes.items (owed.Request finishes.oldest.number done flag ∷ []),
      length-append (filter owes_discovery k.outcomes.items) [],
    ) (omega (arith, has))

pub sets-answer : (k l : Client) (n r : ℕ) (f : Option AgentFault) (found : List Device) → ClientAnswers k n r f found l
    → HasSets k → HasSets l
sets-answer k l n r f found answers has =
    rw (
      answers.outcomes,
      answers.sets,
      filter-append owes_discovery k.outcomes.items (owed.Discovery n r f ∷ []),
      length-append (filter owes_discovery k.outcomes.items) (owed.Discovery n r f ∷ []),
      length-append k.sets.items (found ∷ []),
    ) (omega (arith, has))

-- no more sets than outcomes
pub few_discoveries : (ds : List Owed) → length (filter owes_discovery ds) ≤ length ds
few_discoveries [] = omega arith
few_discoveries (d ∷ ds) = by_test (owes_discovery d) (few_discoveries ds)
  where
    by_test : (b : Bool) → length (filter owes_discovery ds) ≤ length ds
        → length (cond b (d ∷ filter owes_discovery ds) (filter owes_discovery ds)) ≤ suc (length ds)
    by_test true fewer = omega arith
    by_test false fewer = omega arith

-- of a client that has only joined
pub values-fresh : (k : Client) (places : ℕ) → IsNewClient places k → owed_values k ≡ []
unfolding values
values-fresh k places fresh = ap (λ ds. values ds k.sets.items) fresh.none_owed

-- the oldest removed: a request's, or a discovery's
pub collects-request : (k l : Client) (n : ℕ) (done : Completion) (flag : Bool)
    → k.outcomes.items ≡ owed.Request n done flag ∷ l.outcomes.items → l.waiting ≡ k.waiting → l.sets ≡ k.sets
    → l.places ≡ k.places → deque_capacity l.outcomes ≡ deque_capacity k.outcomes → HasSets k
    → ClientCollects k (RequestValue (Some n) (completion_value done)) l
unfolding values
collects-request k l n done flag items waits sets places room has = record {
  waiting = ap (λ w. w.items) waits;
  outcomes = rw (items, sets) refl;
  flags = rw items refl;
  has_sets = rw sets (has ∙ rw items refl);
  rings = record {
    places = places;
    waiting = ap (λ w. deque_capacity w) waits;
    outcomes = room;
    sets = ap (λ w. w.room) sets;
  };
}

pub collects-discovery : (k l : Client) (n r : ℕ) (f : Option AgentFault) (found : List Device)
    → k.outcomes.items ≡ owed.Discovery n r f ∷ l.outcomes.items → k.sets.items ≡ found ∷ l.sets.items
    → l.waiting ≡ k.waiting → l.places ≡ k.places → deque_capacity l.outcomes ≡ deque_capacity k.outcomes
    → l.sets.room ≡ k.sets.room → HasSets k → ClientCollects k (DiscoveryValue (Some n) (record {
      run = r;
      fault = f;
      devices = found;
    })) l
unfolding values
collects-discovery k l n r f found items set waits places room set_room has = record {
  waiting = ap (λ w. w.items) waits;
  outcomes = rw (items, set) refl;
  flags = rw items refl;
  has_sets = fewer (length l.sets.items) (length (filter owes_discovery l.outcomes.items))
      (ap (λ l. length l) (sym set) ∙ (has ∙ rw items refl));
  rings = record { places = places; waiting = ap (λ w. deque_capacity w) waits; outcomes = room; sets = set_room };
}
  where
    fewer : (n m : ℕ) → suc n ≡ suc m → n ≡ m
    fewer n m same = omega arith

-- the kind of the oldest
pub kind_first : (ds : List Owed) (sets : List (List Device))
    → option_map kind_of_value (slice_get (values ds sets) 0) ≡ option_map kind_of_owed (slice_get ds 0)
unfolding values
kind_first [] sets = refl
kind_first (owed.Request number done flag ∷ ds) sets = refl
kind_first (owed.Discovery number run fault ∷ ds) [] = refl
kind_first (owed.Discovery number run fault ∷ ds) (s ∷ sets) = refl

-- the oldest: none, a request's or a discovery's with the first set
pub none_first : (ds : List Owed) (sets : List (List Device)) → length ds ≤ 0 → slice_get (values ds sets) 0 ≡ None
unfolding values
none_first [] sets none = refl
none_first (d ∷ ds) sets none = absurd (omega arith)

pub request_first : (ds : List Owed) (sets : List (List Device)) (n : ℕ) (done : Completion) (flag : Bool)
    → slice_get ds 0 ≡ Some (owed.Request n done flag)
    → slice_get (values ds sets) 0 ≡ Some (RequestValue (Some n) (completion_value done))
unfolding values
request_first [] sets n done flag first = cc
request_first (d ∷ ds) sets n done flag first = let is : d ≡ owed.Request n done flag = cc in rw is refl

pub discovery_first : (ds : List Owed) (sets : List (List Device)) (n r : ℕ) (f : Option AgentFault)
    (found : List Device) → slice_get ds 0 ≡ Some (owed.Discovery n r f) → slice_get sets 0 ≡ Some found
    → slice_get (values ds sets) 0 ≡ Some (DiscoveryValue (Some n) (record { run = r; fault = f; devices = found }))
unfolding values
discovery_first [] sets n r f found first set = cc
discovery_first (d ∷ ds) [] n r f found first set = cc
discovery_first (d ∷ ds) (s ∷ sets) n r f found first set =
    let is : d ≡ owed.Discovery n r f = cc in let same : s ≡ found = cc in rw (is, same) refl

pub has_first : (ds : List Owed) (sets : List (List Device)) (n r : ℕ) (f : Option AgentFault)
    → length sets ≡ length (filter owes_discovery ds) → slice_get ds 0 ≡ Some (owed.Discovery n r f)
    → slice_get sets 0 ≡ None → ⊥
has_first [] sets n r f has first none = cc
has_first (d ∷ ds) [] n r f has first none =
    let is : d ≡ owed.Discovery n r f = cc in
    let more : 0 ≡ suc (length (filter owes_discovery ds)) = rw is at has in omega (arith, more)
has_first (d ∷ ds) (s ∷ sets) n r f has first none = cc
