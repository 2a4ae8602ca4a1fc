-- A queue's invariant.
use Rattle.std.specs.Prelude.{◌≡◌, ℕ, ◌+◌, ◌-◌, ◌≤◌, ◌<◌, List, [], ◌∷◌, ◌++◌, length, map, sum, get_or, slice_index}
use Rattle.std.specs.Prelude.{Option, Some, None, MatchOption}
use Rattle.std.specs.List.{AllByRecursion}
use Rattle.rdm_wire.specs.Uid.{IsDevice, IsAscending}
use Rattle.rdm_log.specs.log.Entries.{Accepted}
use Rattle.rdm_queue.specs.declared.client.Client.{Client}
use Rattle.rdm_join.specs.JoinerStanding.{IsOpen}
use Rattle.rdm_agent.specs.Calls.{next_op}
use Rattle.rdm_agent.specs.declared.op.Op.TheVariants.{End}
use Rattle.rdm_queue.specs.body.Rings.{HasRings, HasSets}
use Rattle.rdm_queue.specs.body.Merged.{AreShares}
use Rattle.rdm_queue.specs.body.Fields.{waiting_rings}
use Rattle.rdm_queue.specs.body.State.{QueueState, RunState, outstanding, outstanding_asks}

-- the numbers of the requests that wait, and of the next request
abbrev pub numbers : QueueState → List ℕ
numbers s = map (λ a. a.number) s.waiting ++ s.next_request ∷ []

-- how many of the unanswered discoveries a run serves
abbrev pub served_by : Option RunState → ℕ
served_by None = 0
served_by (Some r) = r.left

-- the known devices are what the agent has found, and it has ended, so that it finds no more
abbrev pub IsKept : QueueState → Type 0
IsKept s = (next_op s.agent ≡ End) × (s.devices ≡ s.agent.found)

-- No client has more outstanding than its queue depth, nor more than four discoveries. Numbers rise in the order of
-- acceptance. The joiner takes verdicts. Each run serves a discovery that no other serves. The open run and the one
-- that found the known devices have begun: their numbers are lower than the next. If they are one run, its devices are
-- kept.
pub record StateInvariant (s : QueueState) : Type 0 where
  pub source : IsDevice s.source
  pub greatest : s.greatest ≤ 4080
  pub budget : 1 ≤ s.budget
  pub few_places : sum s.places ≤ s.greatest
  pub few_clients : length s.places ≤ 16
  pub owed_for_each : length s.owed ≡ length s.places
  pub few : (c : ℕ) → outstanding c s ≤ slice_index s.places c
  pub few_asks : (c : ℕ) → outstanding_asks c s ≤ get_or (map (λ n. 4) s.places) c 0
  pub rising : IsAscending (numbers s)
  pub open_ : IsOpen s.joiner
  pub asks_numbered : s.next_ask ≤ 18446744073709551614
  pub served : served_by s.run ≤ length s.asked
  pub serves : MatchOption s.run (Unit {0}) (λ r. 1 ≤ r.left)
  pub runs_numbered : s.next_run + (length s.asked - served_by s.run) ≤ s.next_ask + 1
  pub run_begun : MatchOption s.run (Unit {0}) (λ r. r.number < s.next_run)
  pub devices_begun : s.devices_run < s.next_run
  pub kept : MatchOption s.run (Unit {0}) (λ r. s.devices_run ≡ r.number → IsKept s)

-- Each client's ring has those of the waiting requests that are the client's own. Its rings are as large as its queue
-- depth needs, and each discovery among its outcomes has its set.
pub record RingsInvariant (s : QueueState) (clients : List Client) : Type 0 where
  pub waiting : AreShares (λ a. a.client) (waiting_rings clients) s.waiting
  pub sizes : AllByRecursion HasRings clients
  pub sets : AllByRecursion HasSets clients

pub record QueueInvariant (s : QueueState) (clients : List Client) : Type 0 where
  pub state : StateInvariant s
  pub rings : RingsInvariant s clients

-- These are the clients of the requests that wait, oldest first, in a ring for as many as the queue can hold.
pub record AreOwners (waiting : List Accepted) (greatest : ℕ) (owners : List ℕ) (room : ℕ) : Type 0 where
  pub each : owners ≡ map (λ a. a.client) waiting
  pub enough : room ≡ greatest
