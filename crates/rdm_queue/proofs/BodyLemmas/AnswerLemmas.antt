-- The oldest discovery is answered: its client's ring has capacity, and what all clients' rings are then.
use Rattle.rdm_queue.proofs.Common.{◌≡◌, ℕ, ◌+◌, ◌<◌, ◌≤◌, ◌-◌, Bool, true, false, List, [], ◌∷◌, length, drop, get_or}
use Rattle.rdm_queue.proofs.Common.{set, filter, map, Option, Some, None, slice_get, refl, sym, ap, ◌∙◌, subst, arith}
use Rattle.rdm_queue.proofs.Common.{◌==◌, MatchOption, nat_lt, if◌then◌else◌, deque_len, deque_capacity, ltb-true}
use Rattle.rdm_queue.proofs.Common.{ltb-false, false≢true, slice_get-get_or, length-map, Device, AgentFault, Client}
use Rattle.rdm_queue.proofs.Common.{Asked, Inside, AskedDiscovery, HasSets, ClientAnswers, asked_is, state_of}
use Rattle.rdm_queue.proofs.Common.{QueueInvariant, served_by, QueueState, RunState, answer_value, answers_oldest}
use Rattle.rdm_queue.proofs.Common.{one_less, all_at}
use Rattle.std.proofs.lemmas.List.{drop-map}
use Rattle.rdm_queue.specs.body.QueueInvariant.{IsKept}
use Rattle.rdm_queue.proofs.BodyLemmas.FieldLemmas.{read_at}
use Rattle.rdm_queue.proofs.BodyLemmas.RingFields.{AreClientsOf, are_clients}
use Rattle.rdm_queue.proofs.BodyLemmas.InvariantLemmas.{asked_joined, first_counts, held-answers}
use Rattle.rdm_queue.proofs.BodyLemmas.RingLemmas.{places_stayed}
use Rattle.rdm_queue.proofs.BodyLemmas.RingSteps.{room_for_outcome, room_for_set, rings-answer, owed-answer}
use Rattle.rdm_queue.proofs.BodyLemmas.RingSteps.{flags-answer}

pub nonempty : (xs : List Asked) → (length xs == 0) ≡ false → 0 < length xs
nonempty [] is = absurd (false≢true (sym is))
nonempty (x ∷ xs) is = omega arith

-- the oldest discovery
pub oldest_asked : (c : Inside) (x : Asked) → 0 < length c.asked.items → x ≡ get_or c.asked.items 0 x
    → slice_get (state_of c).asked 0 ≡ Some (asked_is x)
oldest_asked c x some is =
    first_mapped c.asked.items (slice_get-get_or c.asked.items 0 x some ∙ ap (λ y. Some y) (sym is))
  where
    first_mapped : (xs : List Asked) → slice_get xs 0 ≡ Some x → slice_get (map asked_is xs) 0 ≡ Some (asked_is x)
    first_mapped [] at = cc
    first_mapped (y ∷ xs) at = let same : y ≡ x = cc in rw same refl

-- a run serves it, if there is one
pub oldest_served : (c : Inside) (x : Asked) (r : RunState) → QueueInvariant (state_of c) c.clients.items
    → (state_of c).run ≡ Some r → x ≡ get_or c.asked.items 0 x → slice_get (state_of c).asked 0 ≡ Some (asked_is x)
oldest_served c x r held runs is = oldest_asked c x some is
  where
    left : 1 ≤ r.left
    left = rw runs at held.state.serves

    within : r.left ≤ length (map asked_is c.asked.items)
    within = rw runs at held.state.served

    some : 0 < length c.asked.items
    some = omega (arith, left, within, length-map c.asked.items asked_is)

pub asked_rest : (xs ys : List Asked) → ys ≡ drop 1 xs → map asked_is ys ≡ drop 1 (map asked_is xs)
asked_rest xs ys rest = ap (map asked_is) rest ∙ sym (drop-map asked_is 1 xs)

-- its client, read at its index, and the capacity for its answer
pub record CanAnswer (s : QueueState) (clients : List Client) (a : AskedDiscovery) (k : Client) : Type 0 where
  pub oldest : slice_get s.asked 0 ≡ Some a
  pub at : slice_get clients a.client ≡ Some k
  pub sets : HasSets k
  pub room : deque_len k.outcomes < deque_capacity k.outcomes
  pub set_room : length k.sets.items < k.sets.room

pub asked_within : (s : QueueState) (clients : List Client) (a : AskedDiscovery) → AreClientsOf s clients
    → slice_get s.asked 0 ≡ Some a → a.client < length clients
asked_within s clients a are oldest =
    let joined = asked_joined s a are.kept.state oldest in
    let long = ap (λ ns. length ns) (sym are.places) ∙ length-map clients (λ k. k.places) in omega arith

pub can_answer : (s : QueueState) (clients ys : List Client) (a : AskedDiscovery) (i : ℕ) (d : Client)
    → AreClientsOf s clients → slice_get s.asked 0 ≡ Some a → i ≡ a.client → ys ≡ clients
    → CanAnswer s clients a (get_or ys i d)
can_answer s clients ys a i d are oldest same_index read = record {
  oldest = oldest;
  at = at;
  sets = all_at HasSets clients are.kept.rings.sets a.client (get_or ys i d) at;
  room = room_for_outcome s clients a.client (get_or ys i d) are.kept (sym are.places) (sym are.owed) at
      (omega (arith, one));
  set_room = room_for_set s clients a.client (get_or ys i d) are.kept (sym are.owed) at one;
}
  where
    at : slice_get clients a.client ≡ Some (get_or ys i d)
    at = read_at clients ys i a.client d same_index read (asked_within s clients a are oldest)

    one : 1 ≤ length (filter (λ (b : AskedDiscovery). a.client == b.client) s.asked)
    one = first_counts (λ (b : AskedDiscovery). b.client) s.asked a oldest

-- the same run that serves one fewer, and no run
pub record ServesLess (s : QueueState) (run : Option RunState) : Type 0 where
  pub serves : MatchOption run (Unit {0}) (λ q. 1 ≤ q.left)
  pub less : served_by s.run ≤ served_by run + 1
  pub most : served_by run ≤ served_by s.run
  pub within : served_by run + 1 ≤ length s.asked
  pub begun : MatchOption run (Unit {0}) (λ q. q.number < s.next_run)
  pub kept : MatchOption run (Unit {0}) (λ q. s.devices_run ≡ q.number → IsKept s)

pub serves_less : (s : QueueState) (clients : List Client) (r : RunState) → QueueInvariant s clients → s.run ≡ Some r
    → ServesLess s (one_less r)
serves_less s clients r held is = by_left _ refl
  where
    serves : 1 ≤ r.left
    serves = rw is at held.state.serves

    within : r.left ≤ length s.asked
    within = rw is at held.state.served

    begun : r.number < s.next_run
    begun = rw is at held.state.run_begun

    kept : s.devices_run ≡ r.number → IsKept s
    kept = rw is at held.state.kept

    more : nat_lt 1 r.left ≡ true → 1 < r.left
    more t = ltb-true 1 r.left t

    most : nat_lt 1 r.left ≡ false → r.left ≤ 1
    most t = ltb-false 1 r.left t

    by_left : (b : Bool) → nat_lt 1 r.left ≡ b
        → ServesLess s (if b then Some (record { number = r.number; left = r.left - 1 }) else None)
    by_left true t =
        let some = more t in let left = serves in let all = within in
        rw is (record {
          serves = omega arith;
          less = omega arith;
          most = omega arith;
          within = omega arith;
          begun = begun;
          kept = kept;
        })
    by_left false t =
        let last = most t in let left = serves in let all = within in
        rw is (record {
          serves = tt;
          less = omega arith;
          most = omega arith;
          within = omega arith;
          begun = tt;
          kept = tt;
        })

pub serves_none : (s : QueueState) (a : AskedDiscovery) → s.run ≡ None → slice_get s.asked 0 ≡ Some a
    → ServesLess s None
serves_none s a none oldest = rw none (record {
  serves = tt;
  less = omega arith;
  most = omega arith;
  within = some s.asked oldest;
  begun = tt;
  kept = tt;
})
  where
    some : (xs : List AskedDiscovery) → slice_get xs 0 ≡ Some a → 1 ≤ length xs
    some [] at = cc
    some (x ∷ xs) at = omega arith

-- the queue afterwards
pub clients-answer : (s : QueueState) (clients : List Client) (i : ℕ) (k l : Client) (a : AskedDiscovery) (r : ℕ)
    (f : Option AgentFault) (found : List Device) (run : Option RunState) → AreClientsOf s clients
    → CanAnswer s clients a k → ServesLess s run → i ≡ a.client → ClientAnswers k a.number r f found l
    → AreClientsOf (record (answers_oldest s a r f found) { run = run }) (set clients i l)
clients-answer s clients i k l a r f found run are can less same_index answers =
    subst (λ n. AreClientsOf new (set clients n l)) (sym same_index) (are_clients new (set clients a.client l) kept
    (places_stayed clients a.client k l can.at answers.rings.places ∙ are.places)
    (owed-answer s clients k l a r f found (sym are.owed) are.kept.rings can.at answers)
    (flags-answer s clients a.client k l a.number r f found (sym are.flags) can.at answers))
  where
    new : QueueState
    new = record (answers_oldest s a r f found) { run = run }

    kept : QueueInvariant new (set clients a.client l)
    kept = record {
      state = held-answers s a (answer_value a r f found) run are.kept.state can.oldest refl less.serves less.less
          less.most less.within less.begun less.kept;
      rings = rings-answer s new clients a.client k l a.number r f found refl are.kept.rings can.at answers;
    }
