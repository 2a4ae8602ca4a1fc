-- What becomes of a client's oldest outcome, which is collected if it is of a wanted kind.
use Rattle.std.specs.Prelude.{◌≡◌, ◌⊎◌, ⊤, ℕ, Bool, true, false, Option, Some, None}
use Rattle.rdm_log.specs.declared.entry.ClientId.{ClientId}
use Rattle.rdm_log.specs.declared.outcome.Outcome.TheVariants as outcomes
use Rattle.rdm_log.specs.declared.outcome.OutcomeKind.{OutcomeKind}
use Rattle.rdm_log.specs.declared.outcome.OutcomeKind.TheVariants as kinds
use Rattle.rdm_client.specs.declared.told.Collected.{Collected}
use Rattle.rdm_client.specs.declared.told.Collected.TheVariants as collected
use Rattle.rdm_locked.specs.Inside.{IsCollected}
use Rattle.rdm_locked.specs.declared.inside.Inside.{Inside}
use Rattle.rdm_locked.specs.declared.oldest.OldestOutcome.{OldestOutcome}
use Rattle.rdm_locked.specs.declared.oldest.OldestOutcome.TheVariants as oldest
use Rattle.rdm_locked.specs.declared.share.CallShare.{CallShare}

-- whether an outcome of this kind is wanted, if requests' outcomes are, and discoveries'
abbrev pub is_wanted : Bool → Bool → OutcomeKind → Bool
is_wanted requests asks kinds.Request = requests
is_wanted requests asks kinds.Discovery = asks

-- What became of the oldest outcome shows its kind, and whether that was wanted. None that was wanted stays, but a
-- discovery's for which there is no set.
abbrev pub ShowsKind : Bool → Bool → OldestOutcome → Option OutcomeKind → Type 0
ShowsKind requests asks (oldest.Request done) kind = (kind ≡ Some kinds.Request) × (requests ≡ true)
ShowsKind requests asks (oldest.Discovery done) kind = (kind ≡ Some kinds.Discovery) × (asks ≡ true)
ShowsKind requests asks (oldest.Stays stays) kind = (kind ≡ Some stays) × (is_wanted requests asks stays ≡ false)
ShowsKind requests asks oldest.Nothing kind = (kind ≡ None) ⊎ ((kind ≡ Some kinds.Discovery) × (asks ≡ true))

-- a client has as many sets as before, unless a discovery's outcome was collected into one
abbrev pub KeepsSets : OldestOutcome → ℕ → ℕ → Type 0
KeepsSets (oldest.Discovery done) before after = ⊤
KeepsSets _ before after = after ≡ before

module _ {L : Type 0} where
  -- the oldest outcome was collected, as this shows it; or nothing was collected and counted
  abbrev pub CollectsOldest : ClientId → OldestOutcome → Inside L → CallShare L → Inside L → CallShare L
      → Type 0
  CollectsOldest client (oldest.Request done) old before new after =
      (n : ℕ) × IsCollected client (outcomes.Request (Some n) done) old before new after
  CollectsOldest client (oldest.Discovery done) old before new after =
      (n : ℕ) × IsCollected client (outcomes.Discovery (Some n) done) old before new after
  CollectsOldest client _ old before new after =
      (new.session ≡ old.session) × (after.count ≡ before.count) × (after.history ≡ before.history)

-- what was collected is of the wanted kind, or of either if none is given
abbrev pub IsOfWanted : Option OutcomeKind → Collected → Type 0
IsOfWanted (Some kinds.Request) (collected.Ask told) = ⊥
IsOfWanted (Some kinds.Discovery) (collected.Request told) = ⊥
IsOfWanted _ _ = ⊤
