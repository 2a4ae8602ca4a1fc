-- What a desk holds, which callback is called for an outcome, and what is left at the end.
use Rattle.std.specs.Prelude.{ℕ, ◌+◌, List, [], ◌∷◌, length, drop, slice_get, Option, Some, None, option_map}
use Rattle.rdm_log.specs.declared.outcome.Completion.{Completion}
use Rattle.rdm_log.specs.declared.outcome.AskCompletion.{AskCompletion}
use Rattle.rdm_log.specs.declared.outcome.Outcome.{Outcome}
use Rattle.rdm_log.specs.declared.outcome.Outcome.TheVariants as outcomes
use Rattle.rdm_client.specs.declared.told.Told.{Told}
use Rattle.rdm_client.specs.declared.told.AskTold.{AskTold}
use Rattle.rdm_client.specs.declared.told.Collected.{Collected}
use Rattle.rdm_client.specs.declared.told.Collected.TheVariants as collected
use Rattle.rdm_client.specs.declared.unspent.Unfinished.{Unfinished}
use Rattle.rdm_client.specs.declared.unspent.Unfinished.TheVariants as unfinished
use Rattle.rdm_client.specs.Callbacks.{told, ask_told}

-- the callbacks of requests and of discoveries, oldest first, and the queue depth: how many requests' callbacks fit
pub record Held (C A : Type 0) : Type 0 where
  pub requests : List C
  pub asks : List A
  pub places : ℕ

-- the callbacks that weren't called, oldest first
pub record Left (C A : Type 0) : Type 0 where
  pub requests : List C
  pub asks : List A

-- what the oldest callback returns if it is called with a request's completion. None if there is no callback
abbrev pub spent : {C : Type 0} → (C → ℕ) → List C → Completion → Option Told
spent tag_of callbacks done = option_map (λ callback. told (tag_of callback) done) (slice_get callbacks 0)

-- the same for a discovery's completion
abbrev pub ask_spent : {A : Type 0} → (A → ℕ) → List A → AskCompletion → Option AskTold
ask_spent tag_of callbacks done = option_map (λ callback. ask_told (tag_of callback) done) (slice_get callbacks 0)

-- the oldest of these callbacks was called with this completion, and returned this
abbrev pub OldestCalled : {C D T : Type 0} → (C → D → T → Type 0) → List C → D → T → Type 0
OldestCalled calls [] done told = ⊥
OldestCalled calls (callback ∷ callbacks) done told = calls callback done told

module _ {C A : Type 0} where
  -- what the oldest callback of an outcome's kind returns if it is called with its completion. None if none is held
  abbrev pub settled : (C → ℕ) → (A → ℕ) → Held C A → Outcome → Option Collected
  settled tag_of ask_tag_of held (outcomes.Request number done) =
      option_map collected.Request (spent tag_of held.requests done)
  settled tag_of ask_tag_of held (outcomes.Discovery number done) =
      option_map collected.Ask (ask_spent ask_tag_of held.asks done)

  -- the oldest callback of the outcome's kind was called with its completion, and returned this
  abbrev pub Called : (C → Completion → Told → Type 0) → (A → AskCompletion → AskTold → Type 0)
      → Held C A → Outcome → Collected → Type 0
  Called calls ask_calls held (outcomes.Request number done) (collected.Request told) =
      OldestCalled calls held.requests done told
  Called calls ask_calls held (outcomes.Discovery number done) (collected.Ask told) =
      OldestCalled ask_calls held.asks done told
  Called calls ask_calls held _ _ = ⊥

  -- what is held without the oldest callback of the outcome's kind
  abbrev pub without_oldest : Held C A → Outcome → Held C A
  without_oldest held (outcomes.Request number done) = record held { requests = drop 1 held.requests }
  without_oldest held (outcomes.Discovery number done) = record held { asks = drop 1 held.asks }

  -- no callback is left
  abbrev pub nothing_left : Left C A
  nothing_left = record { requests = []; asks = [] }

  -- how many callbacks are left
  abbrev pub count_left : Left C A → ℕ
  count_left left = length left.requests + length left.asks

  -- the next one that is left: the requests' come before the discoveries'
  abbrev pub next_left : List C → List A → Option (Unfinished C A)
  next_left (callback ∷ requests) asks = Some (unfinished.Request callback)
  next_left [] (callback ∷ asks) = Some (unfinished.Ask callback)
  next_left [] [] = None

  -- what is left after the next one
  abbrev pub after_next : List C → List A → Left C A
  after_next (callback ∷ requests) asks = record { requests = requests; asks = asks }
  after_next [] asks = record { requests = []; asks = drop 1 asks }
