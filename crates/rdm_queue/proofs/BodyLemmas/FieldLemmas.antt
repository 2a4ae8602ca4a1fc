-- The clients' rings, as the lists of a queue's state.
use Rattle.rdm_queue.proofs.Common.{◌≡◌, ℕ, ◌+◌, ◌-◌, ◌<◌, map, false, List, [], ◌∷◌, ◌++◌, length, take}
use Rattle.rdm_queue.proofs.Common.{set, get_or, Some, None, slice_get, refl, sym, ap, ◌∙◌, arith}
use Rattle.rdm_queue.proofs.Common.{◌||◌, nat_le, if◌then◌else◌, list_any, deque_len, lt-leb}
use Rattle.rdm_queue.proofs.Common.{slice_get-get_or, take_all, length-set, length-map, sum_by-cons, Client}
use Rattle.rdm_queue.proofs.Common.{Setup, Asked, AskedDiscovery, is_full_kind, owed_values, merged, accepted_is}
use Rattle.rdm_queue.proofs.Common.{asked_is, waiting_ring, rings_from, waiting_rings, owed_rings, places_of}
use Rattle.rdm_queue.proofs.Common.{StateInvariant, QueueInvariant, QueueState, first_state, first_submit_fault}
use Rattle.rdm_queue.proofs.Common.{first_ask_fault, asked_of, index_within}
use Rattle.std.specs.List.{refill, sum_by}
use Rattle.std.proofs.lemmas.List.{append-nil, drop_all}
use Rattle.rdm_log.specs.declared.fault.WorkFault.TheVariants.{Full}
use Rattle.rdm_log.specs.log.Config.{IsConfig}
use Rattle.rdm_queue.specs.body.State.{uncollected}
use Rattle.rdm_queue.proofs.BodyLemmas.InvariantLemmas.{waiting_rises, has_place}
use Rattle.rdm_queue.proofs.BodyLemmas.MergedLemmas.{merged_shares, length-put_all}
use Rattle.rdm_queue.proofs.BodyLemmas.OutstandingLemmas.{waiting-le, in_all, in_all-cons, uncollected-le}
use Rattle.rdm_queue.proofs.BodyLemmas.ValueLemmas.{length-values}
use Rattle.rdm_queue.proofs.BodyLemmas.RingSteps.{outstanding_count, sets_count, places_at}

pub waiting_are : (s : QueueState) (clients : List Client) → QueueInvariant s clients
    → merged (λ a. a.number) (waiting_rings clients) ≡ s.waiting
waiting_are s clients held =
    merged_shares (λ a. a.client) (λ a. a.number) (waiting_rings clients) s.waiting (waiting_rises s held.state)
    held.rings.waiting

-- without clients
pub first_kept : (setup : Setup) → IsConfig setup.config → QueueInvariant (first_state setup) []
unfolding rings_from
first_kept setup is = record {
  state = record {
    source = is.source;
    greatest = is.places;
    budget = is.budget;
    few_places = omega arith;
    few_clients = omega arith;
    owed_for_each = refl;
    few = λ c. omega arith;
    few_asks = λ c. omega arith;
    rising = (tt, tt);
    open_ = tt;
    asks_numbered = omega arith;
    served = omega arith;
    serves = tt;
    runs_numbered = omega arith;
    run_begun = tt;
    devices_begun = omega arith;
    kept = tt;
  };
  rings = record { waiting = λ c. refl; sizes = tt; sets = tt };
}

-- a list with one element written
pub written : {X : Type 0} (xs ys : List X) (i : ℕ) (x : X) → ys ≡ xs → refill (length xs) xs (set ys i x) ≡ set xs i x
written xs ys i x same =
    let long : length (set ys i x) ≡ length xs = length-set ys i x ∙ ap (λ l. length l) same in
    ap (λ n. take (length xs) (set ys i x ++ n)) (drop_all (length (set ys i x)) xs (omega arith))
    ∙ (ap (λ l. take (length xs) l) (append-nil (set ys i x))
    ∙ (take_all (length xs) (set ys i x) (omega arith) ∙ ap (λ l. set l i x) same))

-- where an element was read
pub read_at : {X : Type 0} (xs ys : List X) (i c : ℕ) (d : X) → i ≡ c → ys ≡ xs → c < length xs
    → slice_get xs c ≡ Some (get_or ys i d)
read_at xs ys i c d same_index same within =
    slice_get-get_or xs c d within ∙ ap (λ l. Some (get_or l c d)) (sym same)
    ∙ ap (λ n. Some (get_or ys n d)) (sym same_index)

-- where an element was found
pub found_at : {X : Type 0} (xs ys : List X) (i : ℕ) (x : X) → ys ≡ xs → i < length ys → x ≡ get_or ys i x
    → slice_get xs i ≡ Some x
found_at xs ys i x same within is =
    ap (λ l. slice_get l i) (sym same) ∙ (slice_get-get_or ys i x within ∙ ap (λ y. Some y) (sym is))

-- a client that has joined is known
known_at : (s : QueueState) (clients : List Client) (c : ℕ) (k : Client) → s.places ≡ places_of clients
    → slice_get clients c ≡ Some k → nat_le (length s.places) c ≡ false
known_at s clients c k same at =
    let within = index_within clients c k at in
    let long = ap (λ ns. length ns) same ∙ length-map clients (λ l. l.places) in
    lt-leb (length s.places) c (omega arith)

-- of a client that has joined, a submit's first fault but for a close
pub fault_of : (s : QueueState) (clients : List Client) (c : ℕ) (k : Client) → QueueInvariant s clients
    → s.places ≡ places_of clients → s.owed ≡ owed_rings clients → slice_get clients c ≡ Some k → s.closed ≡ false
    → first_submit_fault s c
    ≡ (if nat_le k.places (deque_len k.waiting + (deque_len k.outcomes - length k.sets.items))
    || nat_le 18446744073709551615 s.next_request then Some Full else None)
fault_of s clients c k held same owed at open_ =
    rw (
      open_,
      known_at s clients c k same at,
      outstanding_count s clients c k owed held.rings at,
      ← places_at clients c k at,
      ← same,
    ) refl

-- how many are in all rings
length-merged : {X : Type 0} (number : X → ℕ) (ring : ℕ → Client → List X) (count : Client → ℕ)
    → ((i : ℕ) (k : Client) → length (ring i k) ≡ count k) → (from : ℕ) (clients : List Client)
    → sum_by count clients ≡ length (merged number (rings_from ring from clients))
unfolding merged rings_from
length-merged number ring count counts from [] = refl
length-merged number ring count counts from (k ∷ clients) =
    let rest = length-merged number ring count counts (from + 1) clients in
    let here = counts from k in
    let whole = length-put_all number (ring from k) (merged number (rings_from ring (from + 1) clients)) in
    sum_by-cons count k clients ∙ omega arith

pub waiting_sum : (clients : List Client)
    → sum_by (λ k. deque_len k.waiting) clients ≡ length (merged (λ a. a.number) (waiting_rings clients))
waiting_sum clients =
    length-merged (λ a. a.number) waiting_ring (λ k. deque_len k.waiting)
    (λ i k. length-map k.waiting.items (accepted_is i) ∙ sym k.waiting.ok.0) 0 clients

pub outcomes_sum : (clients : List Client)
    → sum_by (λ k. deque_len k.outcomes) clients ≡ in_all (owed_rings clients)
outcomes_sum [] = refl
outcomes_sum (k ∷ clients) =
    sum_by-cons (λ l. deque_len l.outcomes) k clients
    ∙ let rest = outcomes_sum clients in
    let here = k.outcomes.ok.0 ∙ sym (length-values k.outcomes.items k.sets.items) in
    omega (arith, in_all-cons (owed_values k) (owed_rings clients))

-- all of them are few
pub waiting_fit : (s : QueueState) → StateInvariant s → length s.waiting < 18446744073709551616
waiting_fit s held = let all = waiting-le s held in omega (arith, held.few_places, held.greatest)

pub outcomes_fit : (s : QueueState) → StateInvariant s → uncollected s < 18446744073709551616
outcomes_fit s held = let all = uncollected-le s held in omega (arith, held.few_places, held.greatest, held.few_clients)

-- a client whose submit isn't refused has joined
pub known_client : (s : QueueState) (clients : List Client) (c : ℕ) → s.places ≡ places_of clients
    → first_submit_fault s c ≡ None → c < length clients
known_client s clients c same passes =
    let known : c < length s.places = (has_place s c passes).joined in
    let long = ap (λ ns. length ns) same ∙ length-map clients (λ k. k.places) in
    omega arith

-- one of the discoveries that wait is full
pub any_asked : (xs : List Asked)
    → list_any (λ (a : AskedDiscovery). is_full_kind a.kind) (map asked_is xs)
    ≡ list_any (λ (a : Asked). is_full_kind a.kind) xs
any_asked [] = refl
any_asked (a ∷ xs) = ap (λ b. is_full_kind a.kind || b) (any_asked xs)

-- of a client that has joined, a discover's first fault but for a close
pub ask_fault_of : (s : QueueState) (clients : List Client) (c : ℕ) (k : Client) → QueueInvariant s clients
    → s.places ≡ places_of clients → s.owed ≡ owed_rings clients → slice_get clients c ≡ Some k → s.closed ≡ false
    → first_ask_fault s c
    ≡ (if nat_le 4 (length (asked_of c s) + length k.sets.items)
    || nat_le 18446744073709551614 s.next_ask then Some Full else None)
ask_fault_of s clients c k held same owed at open_ =
    rw (open_, known_at s clients c k same at, sets_count s clients c k owed held.rings at) refl
