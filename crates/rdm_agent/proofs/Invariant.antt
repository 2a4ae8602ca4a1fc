-- What holds of an agent after its exchanges: the invariant of a run.
use Rattle.rdm_agent.proofs.Common.{◌≡◌, ℕ, ◌+◌, ◌<◌, ◌≤◌, true, false, List, [], ◌∷◌, ◌++◌, length, map, take, Option}
use Rattle.rdm_agent.proofs.Common.{Some, None, ◌⊎◌, MatchOption, replicate, AllByRecursion, before_first, has, set_of}
use Rattle.rdm_agent.proofs.Common.{IsDevice, MOST_DEVICES, EachAfter, once, Span, whole, Seen, Unmute, Branch, One}
use Rattle.rdm_agent.proofs.Common.{muted_in, acked_in, reported, is_branch, AsFirstAcked, IsSilentBranch, IsLostMute}
use Rattle.rdm_agent.proofs.Common.{SearchShows, IsTried, IsCleared, MutesNamed, known_of, Cause, Phase, Search, Quick}
use Rattle.rdm_agent.proofs.Common.{AgentState, is_new, found_uids, Unmuting, MutingKnown, Searching, MutingRead}
use Rattle.rdm_agent.proofs.Common.{Sweeping, MutingSwept, Ended, Kind, AgentFault, Sweep, IsStack, TRIES, UNMUTES}
use Rattle.rdm_agent.proofs.Common.{Checking, MutingStray, unassigned, spare_at, answers_in_a_row, BAD_ANSWERS}
use Rattle.rdm_agent.proofs.OneDevice.{NotFailed}
use Rattle.rdm_agent.proofs.Choices.{IsRange, Asks}
use Rattle.rdm_agent.proofs.BadLemmas.{WereBad}
use Rattle.rdm_agent.proofs.Rows.{AnswersOf, Row, NotCorrupt, Answered}

-- the last n exchanges have P
pub record EndsWith (n : ℕ) (P : Seen → Type 0) (x : List Seen) : Type 0 where
  pub front : List Seen
  pub run : List Seen
  pub whole : x ≡ front ++ run
  pub many : length run ≡ n
  pub each : AllByRecursion P run

-- the found UIDs are the set of the acknowledged ones, and there is room for them
pub record IsFound (x : List Seen) (found : List ℕ) : Type 0 where
  pub set : found ≡ set_of (acked_in x)
  pub counted : length found ≡ length (once (acked_in x))
  pub room : length found ≤ MOST_DEVICES

-- after the unmutes; busy is the UID that is being muted
pub record IsUnderWay (known : List ℕ) (busy : Option ℕ) (x : List Seen) (found : List ℕ) : Type 0 where
  pub begun : take UNMUTES (map (λ e. e.asked) x) ≡ replicate UNMUTES Unmute
  pub no_failure : AllByRecursion NotFailed x
  pub is_found : IsFound x found
  pub tried : (u : ℕ) → has (muted_in x) u ≡ true → (busy ≡ Some u) ⊎ IsTried found x u
  pub named : EachAfter (MutesNamed known) x

-- before the search, these known UIDs are left to mute
pub record MutesKnown (known : List ℕ) (busy : Option ℕ) (left : List ℕ) (x : List Seen) (found : List ℕ) : Type 0 where
  pub under_way : IsUnderWay known busy x found
  pub no_branch : AllByRecursion (λ e. is_branch e ≡ false) x
  pub devices : AllByRecursion IsDevice left
  pub are_known : AllByRecursion (λ u. has known u ≡ true) left
  pub others_muted : (u : ℕ) → has known u ≡ true → (has (muted_in x) u ≡ true) ⊎ (has left u ≡ true)

-- these ranges are open, and each UID below them is found or cleared
pub record Searches (known : List ℕ) (busy : Option ℕ) (top : Span) (below : List Span) (x : List Seen)
    (found : List ℕ) : Type 0 where
  pub under_way : IsUnderWay known busy x found
  pub known_first : (u : ℕ) → has known u ≡ true → has (muted_in (before_first is_branch x)) u ≡ true
  pub stack : IsStack top below
  pub cleared : (u : ℕ) → u < top.lo → (has found u ≡ true) ⊎ IsCleared x u

-- this many unmutes were made
pub record IsUnmuting (known : List ℕ) (more : ℕ) (left : List ℕ) (x : List Seen) (found : List ℕ) : Type 0 where
  pub unmutes : AllByRecursion (λ e. e.asked ≡ Unmute) x
  pub no_failure : AllByRecursion NotFailed x
  pub counted : length x + more ≡ UNMUTES
  pub is_found : IsFound x found
  pub left_is : left ≡ known
  pub devices : AllByRecursion IsDevice known

-- a known UID is muted, so far in vain
pub record IsMutingKnown (known : List ℕ) (u tries : ℕ) (left : List ℕ) (x : List Seen) (found : List ℕ) : Type 0 where
  pub muting : MutesKnown known (Some u) (u ∷ left) x found
  pub few : tries < TRIES
  pub lost : EndsWith tries (IsLostMute u) x

-- the top range is branched, so often in silence, or with so many bad answers
pub record IsSearching (search : Search) (known : List ℕ) (silences bads : ℕ) (top : Span) (below : List Span)
    (x : List Seen) (found : List ℕ) : Type 0 where
  pub searches : Searches known None top below x found
  pub few : silences < TRIES
  pub silent : EndsWith silences (IsSilentBranch top.lo top.hi) x
  pub not_corrupt : NotCorrupt search top bads x

-- the top range spelt u, and since then its mutes are lost
pub record WasSpelt (u tries : ℕ) (top : Span) (x : List Seen) : Type 0 where
  pub before : List Seen
  pub mutes : List Seen
  pub whole : x ≡ before ++ record { asked = Branch top.lo top.hi; heard = One u } ∷ mutes
  pub many : length mutes ≡ tries
  pub lost : AllByRecursion (IsLostMute u) mutes

-- what the top range spelt may be a new device, and is muted, n times so far in vain
pub record IsMutingRead (search : Search) (known : List ℕ) (u tries spare bads : ℕ) (top : Span) (below : List Span)
    (x : List Seen) (found : List ℕ) : Type 0 where
  pub n : ℕ
  pub searches : Searches known (Some u) top below x found
  pub few : tries < TRIES
  pub new : is_new found top u ≡ true
  pub spelt : WasSpelt u n top x
  pub counted : n + spare ≡ tries + spare_at search top bads
  pub spared : spare ≤ spare_at search top bads
  pub answered : Answered search top bads x

-- a sweep branches a range, so often in silence, or with so many bad answers; the steady search may begin at any time
pub record IsSweeping (search : Search) (known : List ℕ) (sweep : Sweep) (x : List Seen) (found : List ℕ) : Type 0 where
  pub quick : search ≡ Quick
  pub searches : Searches known None whole [] x found
  pub asks : Asks sweep
  pub silent : EndsWith sweep.silences (IsSilentBranch sweep.question.range.lo sweep.question.range.hi) x
  pub few_bads : sweep.bads < BAD_ANSWERS
  pub row : Row sweep.question.range sweep.bads x

-- what the range spelt may be a new device, and is muted, n times so far in vain; each counts after the last answer of
-- one UID alone
pub record IsMutingSwept (search : Search) (known : List ℕ) (u tries spare : ℕ) (sweep : Sweep) (x : List Seen)
    (found : List ℕ) : Type 0 where
  pub n : ℕ
  pub quick : search ≡ Quick
  pub searches : Searches known (Some u) whole [] x found
  pub range : IsRange sweep.question.range
  pub few : tries < TRIES
  pub new : is_new found sweep.question.range u ≡ true
  pub spelt : WasSpelt u n sweep.question.range x
  pub some : tries ≤ n
  pub exact : sweep.bads + 1 ≡ BAD_ANSWERS → (n ≡ tries) × (spare ≡ 0)
  pub few_bads : sweep.bads < BAD_ANSWERS
  pub answers : AnswersOf sweep.question.range (sweep.bads + 1) x

-- the range without devices is branched, so often in silence, after a UID was spelt by a range that it isn't in
pub record IsChecking (search : Search) (known : List ℕ) (u silences : ℕ) (x : List Seen) (found : List ℕ) : Type 0
  where
    pub quick : search ≡ Quick
    pub searches : Searches known None whole [] x found
    pub device : IsDevice u
    pub few : silences < 2
    pub silent : EndsWith silences (IsSilentBranch unassigned.lo unassigned.hi) x
    pub none : (v : ℕ) → answers_in_a_row v x ≡ 0

-- the UID that this range spelt is muted, n times so far in vain
pub record IsMutingStray (search : Search) (known : List ℕ) (u tries : ℕ) (x : List Seen) (found : List ℕ) : Type 0
  where
    pub n : ℕ
    pub quick : search ≡ Quick
    pub searches : Searches known (Some u) whole [] x found
    pub device : IsDevice u
    pub few : tries < TRIES
    pub spelt : WasSpelt u n unassigned x
    pub some : tries ≤ n
    pub none : (v : ℕ) → answers_in_a_row v x ≡ 0

-- a run without fault has its certificate, one with a fault its cause; a failure is last
pub record HasEnded (search : Search) (kind : Kind) (known : List ℕ) (budget : ℕ) (fault : Option AgentFault)
    (x : List Seen) (found : List ℕ) : Type 0 where
  pub before : List Seen
  pub last : Seen
  pub whole : x ≡ before ++ last ∷ []
  pub no_failure : AllByRecursion NotFailed before
  pub certified : MatchOption fault (SearchShows kind known x found) (λ f. Cause search budget ⊥ f x)

-- what holds in each phase
abbrev pub InPhase : Search → Kind → List ℕ → ℕ → Phase → List Seen → List ℕ → Type 0
InPhase search kind known budget (Unmuting more left) x found =
    (1 ≤ more) × IsUnmuting (known_of kind known) more left x found
InPhase search kind known budget (MutingKnown u tries spare left) x found =
    IsMutingKnown (known_of kind known) u tries left x found
InPhase search kind known budget (Searching silences bads spent top below) x found =
    IsSearching search (known_of kind known) silences bads top below x found
InPhase search kind known budget (MutingRead u tries spare bads top below) x found =
    IsMutingRead search (known_of kind known) u tries spare bads top below x found
InPhase search kind known budget (Sweeping sweep) x found = IsSweeping search (known_of kind known) sweep x found
InPhase search kind known budget (MutingSwept u tries spare sweep) x found =
    IsMutingSwept search (known_of kind known) u tries spare sweep x found
InPhase search kind known budget (Checking u silences sweep) x found =
    IsChecking search (known_of kind known) u silences x found
InPhase search kind known budget (MutingStray u tries spare sweep) x found =
    IsMutingStray search (known_of kind known) u tries x found
InPhase search kind known budget (Ended fault) x found = HasEnded search kind known budget fault x found

-- the agent stands after these exchanges
pub record RunInvariant (kind : Kind) (known : List ℕ) (budget : ℕ) (x : List Seen) (a : AgentState) : Type 0 where
  pub budget_is : a.budget ≡ budget
  pub frames_are : a.frames ≡ length x
  pub within : length x ≤ budget
  pub reports : found_uids a ≡ reported x
  pub first : AsFirstAcked x a.found
  pub bad : WereBad a.apart x
  pub phase : InPhase a.search kind known budget a.phase x (found_uids a)
