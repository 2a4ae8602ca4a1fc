-- The honest line whose devices come and leave: one set of present devices for each exchange.
use Rattle.std.specs.Prelude.{◌≡◌, ◌⊎◌, ℕ, Bool, true, false, List, [], ◌∷◌, ◌++◌, length}
use Rattle.std.specs.List.{AllByRecursion}
use Rattle.rdm_wire.specs.Uid.{has, IsDeviceSet}
use Rattle.rdm_wire.specs.Honest.{LineState, HonestStep, KeepsMuted, Seen, before_run}
use Rattle.rdm_wire.specs.Honest.Heard.{Failed}

-- devices leave and come before an exchange. The list present has those that are on the line at this exchange, last
-- those of the exchange before, and earlier those of all earlier exchanges of the run. A device that has left doesn't
-- come back, and a device that isn't there isn't muted
pub record ComeAndLeave (earlier last present : List ℕ) (old new : LineState) : Type 0 where
  pub stays : (u : ℕ) → has last u ≡ true → has present u ≡ true → KeepsMuted u old new
  pub comes : (u : ℕ) → has last u ≡ false → has present u ≡ true → (has earlier u ≡ false) × (new.muted u ≡ false)
  pub leaves : (u : ℕ) → has present u ≡ false → new.muted u ≡ false
  pub lost_branches : new.lost_branches ≡ old.lost_branches
  pub lost_mutes : new.lost_mutes ≡ old.lost_mutes
  pub unmutes : new.unmutes ≡ old.unmutes

-- consecutive exchanges from a state, up to the first failure, each with its present devices. Before an exchange some
-- devices leave and others come. Then the line answers with those that are present
abbrev pub ChainOver : (earlier last : List ℕ) → LineState → List (List ℕ) → List Seen → Type 0
ChainOver earlier last old [] [] = Unit {0}
ChainOver earlier last old [] (x ∷ xs) = ⊥
ChainOver earlier last old (present ∷ sets) [] = ⊥
ChainOver earlier last old (present ∷ sets) (x ∷ xs) =
    (moved : LineState) × ComeAndLeave earlier last present old moved
    × ((x.heard ≡ Failed)
    ⊎ ((new : LineState) × HonestStep present moved x.asked x.heard new
    × ChainOver (present ++ earlier) present new sets xs))

-- the devices present at the first exchange
abbrev pub first_set : List (List ℕ) → List ℕ
first_set [] = []
first_set (present ∷ sets) = present

-- a run's exchanges on an honest line, with the devices present at each
pub record HonestOver (sets : List (List ℕ)) (x : List Seen) : Type 0 where
  pub one_each : length sets ≡ length x
  pub devices : AllByRecursion IsDeviceSet sets
  pub muted : ℕ → Bool
  pub present : (u : ℕ) → muted u ≡ true → has (first_set sets) u ≡ true
  pub chain : ChainOver (first_set sets) (first_set sets) (before_run muted) sets x
