-- What a run on an honest or noisy line still costs at most, in half exchanges: half of one is the least that a level
-- adds.
use Rattle.rdm_agent.proofs.Common.{◌⊎◌, filter, has, is_within, Span, whole, LineState, Phase, AgentState, found_uids}
use Rattle.rdm_agent.proofs.Common.{is_new, Sweep, Unmuting, MutingKnown, Searching, MutingRead, Sweeping, MutingSwept}
use Rattle.rdm_agent.proofs.Common.{Ended, Search, Steady, Quick, Checking, MutingStray}
use Rattle.std.specs.Prelude.{◌≡◌, ℕ, ◌+◌, ◌*◌, ◌^◌, ◌<◌, ◌≤◌, Bool, true, false, ◌&&◌, not, List, [], ◌∷◌, length}
use Rattle.std.specs.Prelude.{None, Option, ◌==◌}
use Rattle.rdm_agent.specs.Beliefs.{is_suspect}

-- the present devices that aren't found, and those of them in a range
abbrev pub unfound : List ℕ → List ℕ → List ℕ
unfound present found = filter (λ u. not (has found u)) present

abbrev pub is_left : List ℕ → Span → ℕ → Bool
is_left found r u = is_within r.lo r.hi u && not (has found u)

abbrev pub left_in : List ℕ → List ℕ → Span → ℕ
left_in present found r = length (filter (is_left found r) present)

-- a range of 2^level UIDs with this many devices left: five silences, and for each device five branches and five mutes,
-- and seven exchanges and a half at each level
abbrev pub worth : ℕ → ℕ → ℕ
worth level devices = 10 + devices * (20 + 15 * level)

-- n half exchanges cover the open ranges
abbrev pub Covers : List ℕ → List ℕ → List Span → ℕ → Type 0
Covers present found [] n = Unit {0}
Covers present found (r ∷ rs) n =
    (level : ℕ) × (rest : ℕ) × (r.hi + 1 ≡ r.lo + 2 ^ level)
    × (worth level (left_in present found r) + rest ≤ n) × Covers present found rs rest

-- what a sweep costs at most, and the search after it: two hundred for each device that is found, four hundred more,
-- and ten for its last mutes; and what covers all UIDs if the others are left
abbrev pub sweep_cost : List ℕ → List ℕ → ℕ
sweep_cost present found = 420 + 200 * length found + 740 * length (unfound present found)

-- n half exchanges are enough for the search, before it begins
abbrev pub Ahead : Search → List ℕ → List ℕ → ℕ → Type 0
Ahead Steady present found n = Covers present found (whole ∷ []) n
Ahead Quick present found n = sweep_cost present found ≤ n

-- two half exchanges for each unmute, ten for each known UID, and what covers all UIDs; none is set apart
pub record CostsUnmuting (search : Search) (present found : List ℕ) (aside more : ℕ) (known : List ℕ) (cost : ℕ)
    : Type 0
  where
    pub ranges : ℕ
    pub none_aside : aside ≡ 0
    pub some : 1 ≤ more
    pub none_found : found ≡ []
    pub ahead : Ahead search present found ranges
    pub cost_is : cost ≡ 2 * more + 10 * length known + ranges

-- ten for each known UID without the tries made, and what covers all UIDs
pub record CostsKnown (search : Search) (present found : List ℕ) (aside tries : ℕ) (known : List ℕ) (cost : ℕ)
    : Type 0 where
  pub ranges : ℕ
  pub none_aside : aside ≡ 0
  pub few : tries ≤ 4
  pub ahead : Ahead search present found ranges
  pub cost_is : cost + 2 * tries ≡ 10 + 10 * length known + ranges

-- A line, how many branches in a row were disturbed, and how many UIDs may be set apart.
pub record Watched : Type 0 where
  pub state : LineState
  pub row : ℕ
  pub aside : ℕ

-- the same if so many may be
abbrev pub with_aside : ℕ → Watched → Watched
with_aside aside line = record { state = line.state; row = line.row; aside = aside }

-- a range was only silent so far, or one UID alone was asked again after a bad answer; so many of its branches aren't
-- paid for yet
pub record IsFirstTime (search : Search) (silences spent used : ℕ) (top : Span) : Type 0 where
  pub used_is : used ≡ silences
  pub spent_is : (spent ≡ silences) ⊎ ((search ≡ Quick) × (top.lo ≡ top.hi))

-- a range of several UIDs was asked again: two devices are left in it, or a disturbed branch pays for its split
pub record IsAskedAgain (search : Search) (present found : List ℕ) (silences spent used reserve : ℕ)
    (top : Span) : Type 0 where
  pub quick : search ≡ Quick
  pub used_is : used ≡ spent
  pub limit : spent ≤ silences + 5
  pub several : (top.lo == top.hi) ≡ false
  pub why : (2 ≤ left_in present found top) ⊎ (30 ≤ reserve)

-- What covers the open ranges, and what is in reserve, without the branches of the top one that aren't paid for yet. If
-- one UID is asked alone, each of its bad answers was a disturbed branch
pub record CostsSearching (search : Search) (present found : List ℕ) (row silences bads spent : ℕ) (top : Span)
    (below : List Span) (cost : ℕ) : Type 0 where
  pub ranges : ℕ
  pub used : ℕ
  pub reserve : ℕ
  pub few : silences ≤ 4
  pub either : IsFirstTime search silences spent used top
      ⊎ IsAskedAgain search present found silences spent used reserve top
  pub alone : top.lo ≡ top.hi → bads ≤ row
  pub covered : Covers present found (top ∷ below) ranges
  pub cost_is : cost + 2 * used ≡ ranges + reserve

-- what covers the open ranges, and what is in reserve, without five branches and the tries made. What the top range
-- spelt is a device, of which few mutes were lost, or two devices spelt it together, or noise did
pub record CostsRead (present : List ℕ) (line : Watched) (found : List ℕ)
    (u tries : ℕ) (top : Span) (below : List Span) (cost : ℕ) : Type 0 where
  pub ranges : ℕ
  pub reserve : ℕ
  pub few : tries ≤ 4
  pub new : is_new found top u ≡ true
  pub lost : has present u ≡ true → tries ≤ line.state.lost_mutes
  pub spelt : (has present u ≡ true) ⊎ (((top.lo == top.hi) ≡ false)
      × ((2 ≤ left_in present found top) ⊎ (30 ≤ reserve)))
  pub covered : Covers present found (top ∷ below) ranges
  pub cost_is : cost + 10 + 2 * tries ≡ ranges + reserve

-- what was muted in vain isn't there
abbrev pub IsVain : List ℕ → Option ℕ → Type 0
IsVain present suspect = (u : ℕ) → is_suspect suspect u ≡ true → has present u ≡ false

-- a sweep's limit at most, if so many UIDs are set apart
abbrev pub paid_limit : ℕ → ℕ → ℕ
paid_limit found aside = 100 * (found + 2) + 60 * aside

-- What a sweep costs, without the exchanges that it made; it is below its limit. If one UID is asked alone, each of its
-- bad answers was a disturbed branch. The first three are saved: the fourth sets it apart, which raises the limit
pub record CostsSweeping (present : List ℕ) (row aside : ℕ) (found : List ℕ) (sweep : Sweep) (cost : ℕ) : Type 0 where
  pub credit : ℕ
  pub few : sweep.silences ≤ 4
  pub below : sweep.made < paid_limit (length found) aside
  pub enough : sweep_cost present found + 120 * aside + credit ≤ cost + 2 * sweep.made
  pub saved : sweep.bads ≤ 3 → 30 * sweep.bads ≤ credit
  pub alone : sweep.question.range.lo ≡ sweep.question.range.hi → sweep.bads ≤ row
  pub vain : IsVain present sweep.belief.suspect

-- The same in the midst of a series of mutes, which may go on past the limit, and by what noise adds to it. What one
-- UID alone spelt is a device
pub record CostsSwept (present : List ℕ) (line : Watched) (found : List ℕ) (u tries : ℕ) (sweep : Sweep)
    (cost : ℕ) : Type 0 where
  pub more : ℕ
  pub few : tries ≤ 4
  pub below : sweep.made ≤ paid_limit (length found) line.aside + tries + more
  pub enough : sweep_cost present found + 120 * line.aside + 2 * more ≤ cost + 2 * sweep.made
  pub new : has found u ≡ false
  pub lost : has present u ≡ true → tries ≤ line.state.lost_mutes
  pub alone : sweep.question.range.lo ≡ sweep.question.range.hi → has present u ≡ true
  pub vain : IsVain present sweep.belief.suspect

-- the same while a check is silent: at most twice
pub record CostsChecking (present : List ℕ) (aside : ℕ) (found : List ℕ) (u silences : ℕ) (sweep : Sweep) (cost : ℕ)
    : Type 0 where
  pub new : has found u ≡ false
  pub few : silences ≤ 1
  pub below : sweep.made ≤ paid_limit (length found) aside + silences
  pub enough : sweep_cost present found + 120 * aside ≤ cost + 2 * sweep.made
  pub vain : IsVain present sweep.belief.suspect

-- the same in the midst of a series of mutes after a check, which a device answers, or noise did
pub record CostsStray (present : List ℕ) (line : Watched) (found : List ℕ) (u tries : ℕ) (sweep : Sweep)
    (cost : ℕ) : Type 0 where
  pub more : ℕ
  pub extra : ℕ
  pub few : tries ≤ 4
  pub below : sweep.made ≤ paid_limit (length found) line.aside + 2 + tries + more
  pub enough : sweep_cost present found + 120 * line.aside + 2 * (more + extra) ≤ cost + 2 * sweep.made
  pub new : has found u ≡ false
  pub why : (has present u ≡ true) ⊎ (2 ≤ extra)
  pub lost : has present u ≡ true → tries ≤ line.state.lost_mutes
  pub vain : IsVain present sweep.belief.suspect

-- a phase still costs this many half exchanges at most; a run that has ended costs nothing, and has no fault
abbrev pub Costs : Search → List ℕ → Watched → List ℕ → Phase → ℕ → Type 0
Costs search present line found (Unmuting more known) cost =
    CostsUnmuting search present found line.aside more known cost
Costs search present line found (MutingKnown u tries spare known) cost =
    CostsKnown search present found line.aside tries known cost
Costs search present line found (Searching silences bads spent top below) cost =
    CostsSearching search present found line.row silences bads spent top below cost
Costs search present line found (MutingRead u tries spare bads top below) cost =
    CostsRead present line found u tries top below cost
Costs search present line found (Sweeping sweep) cost = CostsSweeping present line.row line.aside found sweep cost
Costs search present line found (MutingSwept u tries spare sweep) cost =
    CostsSwept present line found u tries sweep cost
Costs search present line found (Checking u silences sweep) cost =
    CostsChecking present line.aside found u silences sweep cost
Costs search present line found (MutingStray u tries spare sweep) cost =
    CostsStray present line found u tries sweep cost
Costs search present line found (Ended fault) cost = fault ≡ None

-- the found UIDs are muted devices, and there are no more than devices
pub record Finds (present : List ℕ) (line : LineState) (found : List ℕ) : Type 0 where
  pub devices : (u : ℕ) → has found u ≡ true → has present u ≡ true
  pub muted : (u : ℕ) → has found u ≡ true → line.muted u ≡ true
  pub counted : length found + length (unfound present found) ≤ length present

-- The exchanges so far and what is still to come make no more than total half exchanges. No more UIDs are set apart
-- than were paid for
pub record Affords (present : List ℕ) (total : ℕ) (line : Watched) (a : AgentState) : Type 0 where
  pub aside : ℕ
  pub room : length a.apart ≤ aside
  pub cost : ℕ
  pub costs : Costs a.search present (with_aside aside line) (found_uids a) a.phase cost
  pub within : 2 * a.frames + cost ≤ total
  pub finds : Finds present line.state (found_uids a)
