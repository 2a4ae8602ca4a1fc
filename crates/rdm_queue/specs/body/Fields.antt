-- A queue's fields, as its state.
use Rattle.std.specs.Prelude.{ℕ, Bool, ◌+◌, List, [], ◌∷◌, map, option_map}
use Rattle.rdm_queue.specs.declared.client.Waiting.{Waiting}
use Rattle.rdm_queue.specs.declared.client.Client.{Client}
use Rattle.rdm_queue.specs.declared.pending.Asked.{Asked}
use Rattle.rdm_queue.specs.declared.pending.Running.{Running}
use Rattle.rdm_queue.specs.declared.queue.Queue.TheInside.{Inside}
use Rattle.rdm_log.specs.log.Entries.{Accepted, AskedDiscovery}
use Rattle.rdm_log.specs.promises.Outcomes.{OutcomeValue, completion_value}
use Rattle.rdm_queue.specs.body.Rings.{owed_values, client_flags}
use Rattle.rdm_queue.specs.body.State.{QueueState, RunState}
use Rattle.rdm_queue.specs.body.Merged.{merged}

-- the content of client c's rings
abbrev pub accepted_is : ℕ → Waiting → Accepted
accepted_is c w = record { client = c; number = w.number; request = w.request }

abbrev pub asked_is : Asked → AskedDiscovery
asked_is a = record { client = a.client.0; number = a.number; kind = a.kind }

abbrev pub run_is : Running → RunState
run_is r = record { number = r.number; left = r.left }

abbrev pub waiting_ring : ℕ → Client → List Accepted
waiting_ring c k = map (accepted_is c) k.waiting.items

-- the rings of the clients, the first of which is client c
unfoldable pub rings_from : {X : Type 0} → (ℕ → Client → List X) → ℕ → List Client → List (List X)
rings_from ring c [] = []
rings_from ring c (k ∷ ks) = ring c k ∷ rings_from ring (c + 1) ks

abbrev pub waiting_rings : List Client → List (List Accepted)
waiting_rings ks = rings_from waiting_ring 0 ks

abbrev pub owed_rings : List Client → List (List OutcomeValue)
owed_rings ks = map owed_values ks

abbrev pub flag_rings : List Client → List (List Bool)
flag_rings ks = map client_flags ks

abbrev pub places_of : List Client → List ℕ
places_of ks = map (λ k. k.places) ks

abbrev pub state_of : Inside → QueueState
state_of c = record {
  source = c.config.source;
  greatest = c.config.places;
  budget = c.config.budget;
  search = c.search;
  places = places_of c.clients.items;
  paused = c.paused;
  closed = c.closed;
  next_request = c.next_request;
  next_tn = c.next_tn;
  waiting = merged (λ a. a.number) (waiting_rings c.clients.items);
  awaited = c.awaited;
  under_way = c.under_way;
  joiner = c.joiner;
  decided = option_map completion_value c.decided;
  next_ask = c.next_ask;
  next_run = c.next_run;
  asked = map asked_is c.asked.items;
  run = option_map run_is c.run;
  agent = c.agent;
  devices = c.devices;
  devices_run = c.devices_run;
  owed = owed_rings c.clients.items;
  broken = c.broken;
  flags = flag_rings c.clients.items;
}
