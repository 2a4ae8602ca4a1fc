-- How a client's collect changes its desk.
use Rattle.std.specs.Prelude.{◌≡◌, ℕ, drop, Some}
use Rattle.rdm_log.specs.declared.outcome.Completion.{Completion}
use Rattle.rdm_log.specs.declared.outcome.AskCompletion.{AskCompletion}
use Rattle.rdm_client.specs.declared.told.Told.{Told}
use Rattle.rdm_client.specs.declared.told.AskTold.{AskTold}
use Rattle.rdm_client.specs.declared.told.Collected.{Collected}
use Rattle.rdm_client.specs.declared.told.Collected.TheVariants as collected
use Rattle.rdm_client.specs.Desks.{Held, OldestCalled, spent, ask_spent}

module _ {C A : Type 0} where
  -- the oldest callback of a request was called with a completion, returned this, and is no longer held
  pub record CollectsRequest (calls : C → Completion → Told → Type 0) (tag_of : C → ℕ) (old : Held C A) (told : Told)
      (new : Held C A) : Type 0 where
    pub called : OldestCalled calls old.requests told.done told
    pub tells : spent tag_of old.requests told.done ≡ Some told
    pub removed : new ≡ record old { requests = drop 1 old.requests }

  -- the same for a discovery's
  pub record CollectsDiscovery (calls : A → AskCompletion → AskTold → Type 0) (tag_of : A → ℕ) (old : Held C A)
      (told : AskTold) (new : Held C A) : Type 0 where
    pub called : OldestCalled calls old.asks told.done told
    pub tells : ask_spent tag_of old.asks told.done ≡ Some told
    pub removed : new ≡ record old { asks = drop 1 old.asks }

  -- the oldest callback of one kind was called, returned this, and is no longer held
  abbrev pub Collects : (C → Completion → Told → Type 0) → (C → ℕ) → (A → AskCompletion → AskTold → Type 0) → (A → ℕ)
      → Held C A → Collected → Held C A → Type 0
  Collects calls tag_of ask_calls ask_tag_of old (collected.Request told) new =
      CollectsRequest calls tag_of old told new
  Collects calls tag_of ask_calls ask_tag_of old (collected.Ask told) new =
      CollectsDiscovery ask_calls ask_tag_of old told new
