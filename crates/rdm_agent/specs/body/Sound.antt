-- What holds for each agent.
use Rattle.std.specs.Prelude.{◌≡◌, ℕ, suc, ◌+◌, ◌^◌, ◌<◌, ◌≤◌, List, [], ◌∷◌}
use Rattle.std.specs.List.{AllByRecursion}
use Rattle.rdm_wire.specs.Uid.{IsDevice}
use Rattle.rdm_wire.specs.Span.{Span}
use Rattle.rdm_agent.specs.Machine.{Phase}
use Rattle.rdm_agent.specs.Machine.Phase.{Unmuting, MutingKnown, Searching, MutingRead, Ended}
use Rattle.rdm_agent.specs.Machine.Phase.{Sweeping, MutingSwept, Checking, MutingStray}
use Rattle.rdm_agent.specs.declared.belief.Belief.{Belief}
use Rattle.rdm_agent.specs.declared.limits.TheConstants.{TRIES}

-- ranges that cover the UIDs from this one on. Each has 2^l UIDs, where l is at least the level and rises
abbrev pub Ascends : ℕ → ℕ → List Span → Type 0
Ascends from level [] = from ≡ 2 ^ 48
Ascends from level (r ∷ rs) =
    (l : ℕ) × (level ≤ l) × (l ≤ 47) × (r.lo ≡ from) × (r.hi + 1 ≡ from + 2 ^ l) × Ascends (r.hi + 1) (suc l) rs

-- open ranges, got by halving the whole range: the top one has 2^level UIDs, and those below cover the rest
pub record IsStack (top : Span) (below : List Span) : Type 0 where
  pub level : ℕ
  pub height : level ≤ 48
  pub size : top.hi + 1 ≡ top.lo + 2 ^ level
  pub rest : Ascends (top.hi + 1) level below

-- what a sweep believes is in small numbers
pub record IsSmall (b : Belief) : Type 0 where
  pub base : b.base ≤ 2 ^ 48
  pub lo : b.lo ≤ 2 ^ 48
  pub at : b.at ≤ 2 ^ 48
  pub end : b.end < 2 ^ 48
  pub need : b.need ≤ 2
  pub width : b.width ≤ 2 ^ 48
  pub growth : b.growth ≤ 2 ^ 32
  pub quiet : b.quiet ≤ 3
  pub begun : b.begun ≤ 4
  pub back : b.back ≤ 2 ^ 46
  pub level : b.level ≤ 31
  pub gap : b.gap ≤ 2 ^ 48
  pub top : b.top < 2 ^ 48
  pub turn : b.turn ≤ 16
  pub times : b.times ≤ 2 ^ 20
  pub due : b.due ≤ 2 ^ 21

-- a phase's UIDs are those of devices, its counts are below TRIES or small, and its ranges are got by halving
abbrev pub IsSound : Phase → Type 0
IsSound (Unmuting more known) = AllByRecursion IsDevice known
IsSound (MutingKnown u tries spare known) = IsDevice u × (tries < TRIES) × AllByRecursion IsDevice known
IsSound (Searching silences bads spent top below) =
    (silences < TRIES) × (bads < 8) × (spent ≤ 10) × IsStack top below
IsSound (MutingRead u tries spare bads top below) =
    IsDevice u × (tries < TRIES) × (bads ≤ 8) × IsStack top below
IsSound (Sweeping sweep) =
    (sweep.made < 2 ^ 20) × (sweep.silences < TRIES) × (sweep.bads < 8) × IsSmall sweep.belief
IsSound (MutingSwept u tries spare sweep) = IsDevice u × (tries < TRIES) × (spare ≤ 8)
    × (sweep.made + spare ≤ 2 ^ 20 + 8 + tries) × (sweep.silences < TRIES) × (sweep.bads < 8) × IsSmall sweep.belief
IsSound (Checking u silences sweep) = IsDevice u × (silences < 2) × (sweep.made ≤ 2 ^ 20 + silences)
    × (sweep.silences < TRIES) × (sweep.bads < 8) × IsSmall sweep.belief
IsSound (MutingStray u tries spare sweep) = IsDevice u × (tries < TRIES) × (spare ≤ 8)
    × (sweep.made + spare ≤ 2 ^ 20 + 10 + tries) × (sweep.silences < TRIES) × (sweep.bads < 8) × IsSmall sweep.belief
IsSound (Ended fault) = Unit {0}

-- before the steady search there is no other range
abbrev pub IsFresh : Phase → List Span → Type 0
IsFresh (Unmuting more known) below = below ≡ []
IsFresh (MutingKnown u tries spare known) below = below ≡ []
IsFresh (Sweeping sweep) below = below ≡ []
IsFresh (MutingSwept u tries spare sweep) below = below ≡ []
IsFresh (Checking u silences sweep) below = below ≡ []
IsFresh (MutingStray u tries spare sweep) below = below ≡ []
IsFresh _ below = Unit {0}
