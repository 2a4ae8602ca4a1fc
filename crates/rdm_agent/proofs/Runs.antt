-- What is shown of whole runs.
use Rattle.rdm_agent.proofs.Common.{◌≡◌, ℕ, ◌+◌, ◌<◌, ◌≤◌, Bool, true, false, cond, List, [], ◌∷◌, ◌++◌, length, map}
use Rattle.rdm_agent.proofs.Common.{Option, None, Some, refl, sym, ap, ◌∙◌, subst, append_assoc, append-nil, arith, ◌≢◌}
use Rattle.rdm_agent.proofs.Common.{nat_lt, MatchOption, AllByRecursion, ltb-false, cond-false, length-map, IsDevice}
use Rattle.rdm_agent.proofs.Common.{IsDeviceSet, Asked, Heard, Seen, Unmute, Branch, Mute, Acked, Failed, Silent, One}
use Rattle.rdm_agent.proofs.Common.{Noise, FailureIsLast, Certificate, SearchShows, known_of, Cause, none-some}
use Rattle.rdm_agent.proofs.Common.{EndsFailed, AllReported, Phase, AgentState, Runs, start_by, next_of, wanted}
use Rattle.rdm_agent.proofs.Common.{fed, fault_of, heard_by_phase, to_phase, found_uids, Unmuting, MutingKnown}
use Rattle.rdm_agent.proofs.Common.{Searching, MutingRead, Sweeping, MutingSwept, Ended, IsInOrder, Kind, Search}
use Rattle.rdm_agent.proofs.Common.{Full, Incremental, AgentFault, LineFailed, Exhausted, UNMUTES, Checking}
use Rattle.rdm_agent.proofs.Common.{MutingStray, unassigned, whole, IsCorruptBy, Quick, answers_in_a_row, BAD_ANSWERS}
use Rattle.rdm_agent.proofs.Common.{cases_lt, inl, inr, Sweep, TRIES}
use Rattle.std.proofs.lemmas.Bool.{le-ltb}
use Rattle.std.proofs.lemmas.List.{length-take}
use Rattle.rdm_agent.specs.Machine.{open_ranges}
use Rattle.rdm_agent.specs.Statements.{AsksInOrder, EndsAtFailure, EndsAtBudget, GoesOnSoundly, FindsAcknowledged}
use Rattle.rdm_agent.specs.Statements.{HasFewRanges, EndsCertified}
use Rattle.rdm_agent.proofs.Members.{heads, tails}
use Rattle.rdm_agent.proofs.OneDevice.{NotFailed}
use Rattle.rdm_agent.proofs.AllDevices.{failed_none}
use Rattle.rdm_agent.proofs.Pushes.{All-at}
use Rattle.rdm_agent.proofs.FoundLemmas.{IsFound-all_reported, found-same}
use Rattle.rdm_agent.proofs.CorruptLemmas.{is_new-device, sound-no_branch, not_corrupt-by, read-sound}
use Rattle.rdm_agent.proofs.CorruptLemmas.{not_corrupt-spelt}
use Rattle.rdm_agent.proofs.Rows.{few-answers}
use Rattle.rdm_agent.proofs.UnmutePhase.{no_branches}
use Rattle.rdm_agent.proofs.Stacks.{IsStack-length, IsStack-ends}
use Rattle.rdm_agent.proofs.RunLemmas.{to_phase-stands, reported-same, unmuting-stands, known-stands, searching-stands}
use Rattle.rdm_agent.proofs.RunLemmas.{muting-stands, is_muting_read-device}
use Rattle.rdm_agent.proofs.SweepRuns.{sweeping-stands, swept-stands, is_muting_swept-device}
use Rattle.rdm_agent.proofs.StrayRuns.{checking-stands, stray-stands}
use Rattle.rdm_agent.proofs.KeptSearch.{fed-search}
use Rattle.rdm_agent.proofs.BadLemmas.{WereBad}
use Rattle.rdm_agent.proofs.Invariant.{IsFound, InPhase, IsUnderWay, RunInvariant, IsMutingSwept}

module _ (search : Search) (kind : Kind) (known : List ℕ) (budget : ℕ) where
  -- while something is wanted, no exchange has failed, there was room for what is found, and nothing is corrupt
  record IsOpen (x : List Seen) (found : List ℕ) : Type 0 where
    pub no_failure : AllByRecursion NotFailed x
    pub is_found : IsFound x found
    pub not_corrupt : (u : ℕ) → IsCorruptBy search u x → ⊥

  opened : {left : List ℕ} {busy : Option ℕ} {x : List Seen} {found : List ℕ} → IsUnderWay left busy x found
      → ((u : ℕ) → IsCorruptBy search u x → ⊥) → IsOpen x found
  opened w sound = record { no_failure = w.no_failure; is_found = w.is_found; not_corrupt = sound }

  -- the answers in a row are too few
  few_sound : (x : List Seen) → search ≡ Quick → ((u : ℕ) → answers_in_a_row u x < BAD_ANSWERS) → (u : ℕ)
      → IsCorruptBy search u x → ⊥
  few_sound x quick few u c = let many = (subst (λ q. IsCorruptBy q u x) quick c).1 in let less = few u in
      omega (arith, many, less)

  -- while what a sweep's range spelt is muted: the UID wasn't answered often enough, or fewer than five mutes were lost
  swept_sound : (u tries spare : ℕ) (sweep : Sweep) (x : List Seen) (found : List ℕ)
      → IsMutingSwept search (known_of kind known) u tries spare sweep x found → (w : ℕ) → IsCorruptBy search w x → ⊥
  swept_sound u tries spare sweep x found p w c = elim (cases_lt (sweep.bads + 1) BAD_ANSWERS) [
    | inl less ↦ few_sound x p.quick (few-answers sweep.question.range (sweep.bads + 1) x p.answers (λ one. less)) w c
    | inr last ↦ not_corrupt-spelt w u p.n sweep.question.range x found p.searches.under_way.is_found p.range.1
        (is_new-device found sweep.question.range u p.new) p.spelt (few last)
        (subst (λ q. IsCorruptBy q w x) p.quick c).0
  ]
    where
      few : BAD_ANSWERS ≤ sweep.bads + 1 → p.n < TRIES
      few last = let bads = p.few_bads in let all : sweep.bads + 1 ≡ BAD_ANSWERS = omega (arith, last, bads) in
          let same = (p.exact all).0 in let tries = p.few in omega (arith, same, tries)

  is_open : (phase : Phase) (x : List Seen) (found : List ℕ) → InPhase search kind known budget phase x found
      → MatchOption (wanted phase) (Unit {0}) (λ asked. IsOpen x found)
  is_open (Unmuting more left) x found p = record {
    no_failure = p.1.no_failure;
    is_found = p.1.is_found;
    not_corrupt = not_corrupt-by search whole 0 x (sound-no_branch search whole x (no_branches x p.1.unmutes));
  }
  is_open (MutingKnown u tries spare left) x found p = opened p.muting.under_way
      (not_corrupt-by search whole 0 x (sound-no_branch search whole x p.muting.no_branch))
  is_open (Searching silences bads spent top below) x found p =
      opened p.searches.under_way (not_corrupt-by search top bads x p.not_corrupt)
  is_open (MutingRead u tries spare bads top below) x found p = opened p.searches.under_way
      (read-sound search u tries spare bads top x found p.searches.under_way.is_found
      (IsStack-ends top below p.searches.stack).1 (is_new-device found top u p.new) p.n p.spelt p.few p.counted p.spared
      p.answered)
  is_open (Sweeping sweep) x found p = opened p.searches.under_way (few_sound x p.quick p.row.few)
  is_open (MutingSwept u tries spare sweep) x found p = opened p.searches.under_way
      (swept_sound u tries spare sweep x found p)
  is_open (Checking u silences sweep) x found p =
      opened p.searches.under_way (few_sound x p.quick (λ v. let zero = p.none v in omega (arith, zero)))
  is_open (MutingStray u tries spare sweep) x found p =
      opened p.searches.under_way (few_sound x p.quick (λ v. let zero = p.none v in omega (arith, zero)))
  is_open (Ended fault) x found p = tt

module _ (kind : Kind) (known : List ℕ) (budget : ℕ) where
  module _ (x : List Seen) (a : AgentState) (s : RunInvariant kind known budget x a)
      (goes : nat_lt a.frames a.budget ≡ true) where
    -- the agent stands after what is wanted and its reply
    After : AgentState → Heard → Option Asked → Type 0
    After b h o =
        MatchOption o (Unit {0})
        (λ asked. RunInvariant kind known budget (x ++ record { asked = asked; heard = h } ∷ []) b)

    by_phase : (phase : Phase) (h : Heard) → h ≢ Failed → InPhase a.search kind known budget phase x (found_uids a)
        → After (heard_by_phase a phase h) h (wanted phase)
    unfolding After
    by_phase (Unmuting more left) h sound p = unmuting-stands kind known budget x a s goes more left h sound p
    by_phase (MutingKnown u tries spare left) h sound p =
        known-stands kind known budget x a s goes u tries spare left h sound p
    by_phase (Searching silences bads spent top below) h sound p =
        searching-stands kind known budget x a s goes silences bads spent top below h sound p
    by_phase (MutingRead u tries spare bads top below) h sound p =
        muting-stands kind known budget x a s goes u tries spare bads top below h sound p
    by_phase (Sweeping sweep) h sound p = sweeping-stands kind known budget x a s goes sweep p h sound
    by_phase (MutingSwept u tries spare sweep) h sound p =
        swept-stands kind known budget x a s goes u tries spare sweep h sound p
    by_phase (Checking u silences sweep) h sound p =
        checking-stands kind known budget x a s goes u silences sweep h sound p
    by_phase (MutingStray u tries spare sweep) h sound p =
        stray-stands kind known budget x a s goes u tries spare sweep h sound p
    by_phase (Ended fault) h sound p = tt

    failed-stands : (asked : Asked) → wanted a.phase ≡ Some asked
        → RunInvariant kind known budget (x ++ record { asked = asked; heard = Failed } ∷ [])
        (to_phase a (Ended (Some LineFailed)))
    failed-stands asked w =
        to_phase-stands kind known budget x a s goes e (Ended (Some LineFailed))
        (reported-same kind known budget x a s goes e (failed_none asked Failed refl)) (record {
          before = x;
          last = e;
          whole = refl;
          no_failure = before.no_failure;
          certified = (
            record { before = x; asked = asked; whole = refl },
            IsFound-all_reported (x ++ e ∷ []) (found_uids a)
                (found-same x (found_uids a) e before.is_found (failed_none asked Failed refl)),
          );
        })
      where
        before : IsOpen a.search kind known budget x (found_uids a)
        before = subst (λ o. MatchOption o (Unit {0}) (λ q. IsOpen a.search kind known budget x (found_uids a))) w
            (is_open a.search kind known budget a.phase x (found_uids a) s.phase)

        e : Seen
        e = record { asked = asked; heard = Failed }

    fed-stands : (asked : Asked) (h : Heard) → wanted a.phase ≡ Some asked
        → RunInvariant kind known budget (x ++ record { asked = asked; heard = h } ∷ []) (fed a h)
    unfolding After
    fed-stands asked Failed w = failed-stands asked w
    fed-stands asked Silent w =
        subst (After (heard_by_phase a a.phase Silent) Silent) w (by_phase a.phase Silent (λ q. cc) s.phase)
    fed-stands asked (One u) w =
        subst (After (heard_by_phase a a.phase (One u)) (One u)) w (by_phase a.phase (One u) (λ q. cc) s.phase)
    fed-stands asked (Acked ack) w =
        subst (After (heard_by_phase a a.phase (Acked ack)) (Acked ack)) w
        (by_phase a.phase (Acked ack) (λ q. cc) s.phase)
    fed-stands asked Noise w =
        subst (After (heard_by_phase a a.phase Noise) Noise) w (by_phase a.phase Noise (λ q. cc) s.phase)

  -- what is asked next is wanted, within the budget
  pub wanted_next : (a : AgentState) (asked : Asked) → next_of a ≡ Some asked → (nat_lt a.frames a.budget ≡ true)
      × (wanted a.phase ≡ Some asked)
  wanted_next a asked next = by_test (nat_lt a.frames a.budget) refl next
    where
      by_test : (b : Bool) → nat_lt a.frames a.budget ≡ b → cond b (wanted a.phase) None ≡ Some asked
          → (nat_lt a.frames a.budget ≡ true) × (wanted a.phase ≡ Some asked)
      by_test true goes w = (goes, w)
      by_test false out w = absurd (none-some asked w)

  runs-stand : (front x : List Seen) (a b : AgentState) → RunInvariant kind known budget front a → Runs a x b
      → RunInvariant kind known budget (front ++ x) b
  runs-stand front [] a b s end =
      subst (λ l. RunInvariant kind known budget l b) (sym (append-nil front))
      (subst (λ c. RunInvariant kind known budget front c) (sym end) s)
  runs-stand front (e ∷ x) a b s run = let w = wanted_next a e.asked run.0 in
      subst (λ l. RunInvariant kind known budget l b) (append_assoc front (e ∷ []) x)
      (runs-stand (front ++ e ∷ []) x (fed a e.heard) b (fed-stands front a s w.0 e.asked e.heard w.1) run.1)

known_devices : (kind : Kind) (known : List ℕ) → IsDeviceSet known → AllByRecursion IsDevice (known_of kind known)
known_devices Full known set = tt
known_devices Incremental known set = set.devices

-- an agent that ran stands after its exchanges
pub stands_by : (search : Search) (kind : Kind) (known : List ℕ) (budget : ℕ) (x : List Seen) (b : AgentState)
    → IsDeviceSet known → Runs (start_by search kind known budget) x b → RunInvariant kind known budget x b
stands_by search kind known budget x b set run =
    runs-stand kind known budget [] x (start_by search kind known budget) b (record {
      budget_is = refl;
      frames_are = refl;
      within = omega arith;
      reports = refl;
      first = tt;
      bad = tt;
      phase = (
        omega arith,
        record {
          unmutes = tt;
          no_failure = tt;
          counted = refl;
          is_found = record { set = refl; counted = refl; room = omega arith };
          left_is = refl;
          devices =
              known_devices kind known set;
        },
      );
    }) run

-- three unmutes were made
begun-length : (known : List ℕ) (busy : Option ℕ) (x : List Seen) (found : List ℕ) → IsUnderWay known busy x found
    → UNMUTES ≤ length x
begun-length known busy x found w =
    omega (
      arith,
      length-take UNMUTES (map (λ (e : Seen). e.asked) x),
      length-map x (λ (e : Seen). e.asked),
      ap length w.begun,
    )

too_early : {n : ℕ} → UNMUTES ≤ n → n < UNMUTES → ⊥
too_early some early = omega arith

not_wanted : (goes : Bool) (asked : Asked) → cond goes (Some asked) None ≡ None → goes ≡ false
not_wanted false asked end = refl
not_wanted true asked end = absurd (none-some asked (sym end))

-- a run keeps its search
kept-search : (a b : AgentState) (x : List Seen) → Runs a x b → b.search ≡ a.search
kept-search a b [] run = ap (λ (c : AgentState). c.search) run
kept-search a b (e ∷ x) run = kept-search (fed a e.heard) b x run.1 ∙ fed-search a e.heard

runs-search : (search : Search) (kind : Kind) (known : List ℕ) (budget : ℕ) (x : List Seen) (b : AgentState)
    → Runs (start_by search kind known budget) x b → b.search ≡ search
runs-search search kind known budget x b run = kept-search (start_by search kind known budget) b x run

-- what is wanted is in order
wants_in_order : (search : Search) (kind : Kind) (known : List ℕ) (budget : ℕ) (phase : Phase) (x : List Seen)
    (found : List ℕ) → InPhase search kind known budget phase x found
    → MatchOption (wanted phase) (Unit {0}) (IsInOrder (length x))
wants_in_order search kind known budget (Unmuting more left) x found p =
    ((λ early. refl), λ late. absurd (too_late p.0 p.1.counted late))
  where
    too_late : 1 ≤ more → length x + more ≡ UNMUTES → UNMUTES ≤ length x → ⊥
    too_late some counted late = omega arith
wants_in_order search kind known budget (MutingKnown u tries spare left) x found p = (
  (λ early. absurd (too_early (begun-length (known_of kind known) (Some u) x found p.muting.under_way) early)),
  λ late. p.muting.devices.0,
)
wants_in_order search kind known budget (Searching silences bads spent top below) x found p = (
  (λ early. absurd (too_early (begun-length (known_of kind known) None x found p.searches.under_way) early)),
  λ late. IsStack-ends top below p.searches.stack,
)
wants_in_order search kind known budget (MutingRead u tries spare bads top below) x found p = (
  (λ early. absurd (too_early (begun-length (known_of kind known) (Some u) x found p.searches.under_way) early)),
  λ late. is_muting_read-device search (known_of kind known) u tries spare bads top below x found p,
)
wants_in_order search kind known budget (Sweeping sweep) x found p = (
  (λ early. absurd (too_early (begun-length (known_of kind known) None x found p.searches.under_way) early)),
  λ late. p.asks.range,
)
wants_in_order search kind known budget (MutingSwept u tries spare sweep) x found p = (
  (λ early. absurd (too_early (begun-length (known_of kind known) (Some u) x found p.searches.under_way) early)),
  λ late. is_muting_swept-device search (known_of kind known) u tries spare sweep x found p,
)
wants_in_order search kind known budget (Checking u silences sweep) x found p = (
  (λ early. absurd (too_early (begun-length (known_of kind known) None x found p.searches.under_way) early)),
  λ late. (omega arith, omega arith),
)
wants_in_order search kind known budget (MutingStray u tries spare sweep) x found p = (
  (λ early. absurd (too_early (begun-length (known_of kind known) (Some u) x found p.searches.under_way) early)),
  λ late. p.device,
)
wants_in_order search kind known budget (Ended fault) x found p = tt

-- three unmutes, then branches and mutes of devices, counted and within the budget
pub asks_in_order_by : (search : Search) → AsksInOrder search
asks_in_order_by search kind known budget x b set run = (asked (nat_lt b.frames b.budget), s.frames_are, s.within)
  where
    s : RunInvariant kind known budget x b
    s = stands_by search kind known budget x b set run

    asked : (goes : Bool) → MatchOption (cond goes (wanted b.phase) None) (Unit {0}) (IsInOrder (length x))
    asked true = wants_in_order b.search kind known budget b.phase x (found_uids b) s.phase
    asked false = tt

-- a run that ended without being over used up its budget
exhausted : (search : Search) (kind : Kind) (known : List ℕ) (budget : ℕ) (x : List Seen) (found : List ℕ)
    → IsOpen search kind known budget x found → length x ≡ budget → Cause search budget ⊥ Exhausted x
exhausted search kind known budget x found o used = (
  record {
    used = used;
    not_failed =
        λ f. All-at NotFailed x f.before [] (record { asked = f.asked; heard = Failed }) o.no_failure f.whole refl;
    not_corrupt = o.not_corrupt;
  },
  IsFound-all_reported x found o.is_found,
)

ended : (search : Search) (kind : Kind) (known : List ℕ) (budget : ℕ) (phase : Phase) (x : List Seen) (found : List ℕ)
    (goes : Bool) → InPhase search kind known budget phase x found → cond goes (wanted phase) None ≡ None
    → (goes ≡ false → length x ≡ budget)
    → MatchOption (fault_of phase) (SearchShows kind known x found) (λ f. Cause search budget ⊥ f x)
ended search kind known budget (Ended fault) x found goes p end used = p.certified
ended search kind known budget (Unmuting more left) x found goes p end used =
    exhausted search kind known budget x found
    (is_open search kind known budget (Unmuting more left) x found p)
    (used (not_wanted goes Unmute end))
ended search kind known budget (MutingKnown u tries spare left) x found goes p end used =
    exhausted search kind known budget x found
    (is_open search kind known budget (MutingKnown u tries spare left) x found p)
    (used (not_wanted goes (Mute u) end))
ended search kind known budget (Searching silences bads spent top below) x found goes p end used =
    exhausted search kind known budget x found
    (is_open search kind known budget (Searching silences bads spent top below) x found p)
    (used (not_wanted goes (Branch top.lo top.hi) end))
ended search kind known budget (Sweeping sweep) x found goes p end used =
    exhausted search kind known budget x found
    (is_open search kind known budget (Sweeping sweep) x found p)
    (used (not_wanted goes (Branch sweep.question.range.lo sweep.question.range.hi) end))
ended search kind known budget (MutingSwept u tries spare sweep) x found goes p end used =
    exhausted search kind known budget x found
    (is_open search kind known budget (MutingSwept u tries spare sweep) x found p)
    (used (not_wanted goes (Mute u) end))
ended search kind known budget (Checking u silences sweep) x found goes p end used =
    exhausted search kind known budget x found
    (is_open search kind known budget (Checking u silences sweep) x found p)
    (used (not_wanted goes (Branch unassigned.lo unassigned.hi) end))
ended search kind known budget (MutingStray u tries spare sweep) x found goes p end used =
    exhausted search kind known budget x found
    (is_open search kind known budget (MutingStray u tries spare sweep) x found p)
    (used (not_wanted goes (Mute u) end))
ended search kind known budget (MutingRead u tries spare bads top below) x found goes p end used =
    exhausted search kind known budget x found
    (is_open search kind known budget (MutingRead u tries spare bads top below) x found p)
    (used (not_wanted goes (Mute u) end))

-- its certificate, or its fault's cause; and it reports what was acknowledged
pub ends_certified_by : (search : Search) → EndsCertified search
ends_certified_by search kind known budget x b set run end = (
  certified (fault_of b.phase)
      (subst (λ q. MatchOption (fault_of b.phase) (SearchShows kind known x (found_uids b)) (λ f. Cause q budget ⊥ f x))
      (runs-search search kind known budget x b run)
      (ended b.search kind known budget b.phase x (found_uids b) (nat_lt b.frames b.budget) s.phase end used)),
  record { uids = s.reports; first = s.first },
)
  where
    s : RunInvariant kind known budget x b
    s = stands_by search kind known budget x b set run

    certified : (f : Option AgentFault)
        → MatchOption f (SearchShows kind known x (found_uids b)) (λ g. Cause search budget ⊥ g x)
        → MatchOption f (Certificate kind known x b.found) (λ g. Cause search budget ⊥ g x)
    certified None shows = record { search = shows; first = s.first }
    certified (Some f) cause = cause

    used : nat_lt b.frames b.budget ≡ false → length x ≡ budget
    used out = let most : b.budget ≤ b.frames = ltb-false b.frames b.budget out in let same = s.budget_is in
        let frames = s.frames_are in let within = s.within in omega arith

-- no more than 49 ranges are open
pub few_open_ranges_by : (search : Search) → HasFewRanges search
few_open_ranges_by search kind known budget x b set run =
    few b.phase (stands_by search kind known budget x b set run).phase
  where
    few : (phase : Phase) → InPhase b.search kind known budget phase x (found_uids b) → open_ranges phase ≤ 49
    few (Unmuting more left) p = omega arith
    few (MutingKnown u tries spare left) p = omega arith
    few (Searching silences bads spent top below) p = IsStack-length top below p.searches.stack
    few (MutingRead u tries spare bads top below) p = IsStack-length top below p.searches.stack
    few (Sweeping sweep) p = omega arith
    few (MutingSwept u tries spare sweep) p = omega arith
    few (Checking u silences sweep) p = omega arith
    few (MutingStray u tries spare sweep) p = omega arith
    few (Ended fault) p = omega arith

-- a failure is the last exchange
not_before : (before front back : List Seen) (last e : Seen) → AllByRecursion NotFailed before
    → before ++ last ∷ [] ≡ front ++ e ∷ back → e.heard ≡ Failed → back ≡ []
not_before [] [] back last e sound same failed = sym (tails same)
not_before [] (d ∷ front) back last e sound same failed = absurd (nothing front (tails same))
  where
    nothing : (l : List Seen) → [] ≡ l ++ e ∷ back → ⊥
    nothing [] p = cc
    nothing (c ∷ l) p = cc
not_before (d ∷ before) [] back last e sound same failed = absurd (sound.0 (ap (λ x. x.heard) (heads same) ∙ failed))
not_before (d ∷ before) (c ∷ front) back last e sound same failed =
    not_before before front back last e sound.1 (tails same) failed

none_failed : {o : Option Asked} (x : List Seen) → AllByRecursion NotFailed x → FailureIsLast x
    × (EndsFailed x → o ≡ None)
none_failed x sound = (
  (λ front back e whole failed. absurd (All-at NotFailed x front back e sound whole failed)),
  λ f. absurd (All-at NotFailed x f.before [] (record { asked = f.asked; heard = Failed }) sound f.whole refl),
)

failed_phase : (search : Search) (kind : Kind) (known : List ℕ) (budget : ℕ) (phase : Phase) (x : List Seen)
    (found : List ℕ) → InPhase search kind known budget phase x found
    → FailureIsLast x × (EndsFailed x → wanted phase ≡ None)
failed_phase search kind known budget (Ended fault) x found p = (
  (λ front back e whole failed. not_before p.before front back p.last e p.no_failure (sym p.whole ∙ whole) failed),
  λ f. refl,
)
failed_phase search kind known budget (Unmuting more left) x found p =
    none_failed x (is_open search kind known budget (Unmuting more left) x found p).no_failure
failed_phase search kind known budget (MutingKnown u tries spare left) x found p =
    none_failed x (is_open search kind known budget (MutingKnown u tries spare left) x found p).no_failure
failed_phase search kind known budget (Searching silences bads spent top below) x found p =
    none_failed x (is_open search kind known budget (Searching silences bads spent top below) x found p).no_failure
failed_phase search kind known budget (Sweeping sweep) x found p =
    none_failed x (is_open search kind known budget (Sweeping sweep) x found p).no_failure
failed_phase search kind known budget (MutingSwept u tries spare sweep) x found p =
    none_failed x (is_open search kind known budget (MutingSwept u tries spare sweep) x found p).no_failure
failed_phase search kind known budget (Checking u silences sweep) x found p =
    none_failed x (is_open search kind known budget (Checking u silences sweep) x found p).no_failure
failed_phase search kind known budget (MutingStray u tries spare sweep) x found p =
    none_failed x (is_open search kind known budget (MutingStray u tries spare sweep) x found p).no_failure
failed_phase search kind known budget (MutingRead u tries spare bads top below) x found p =
    none_failed x (is_open search kind known budget (MutingRead u tries spare bads top below) x found p).no_failure

-- an agent asks nothing after a failure
pub ends_at_failure_by : (search : Search) → EndsAtFailure search
ends_at_failure_by search kind known budget x b set run =
    (f.0, λ failed. nothing (nat_lt b.frames b.budget) (f.1 failed))
  where
    f : FailureIsLast x × (EndsFailed x → wanted b.phase ≡ None)
    f = failed_phase b.search kind known budget b.phase x (found_uids b)
        (stands_by search kind known budget x b set run).phase

    nothing : (goes : Bool) → wanted b.phase ≡ None → cond goes (wanted b.phase) None ≡ None
    nothing true none = none
    nothing false none = refl

-- an agent that goes on has found all that was acknowledged
pub all_reported_by : (search : Search) (kind : Kind) (known : List ℕ) (budget : ℕ) (x : List Seen) (b : AgentState)
    (asked : Asked) → IsDeviceSet known → Runs (start_by search kind known budget) x b → next_of b ≡ Some asked
    → AllReported x
all_reported_by search kind known budget x b asked set run next = IsFound-all_reported x (found_uids b) going.is_found
  where
    going : IsOpen b.search kind known budget x (found_uids b)
    going = subst (λ o. MatchOption o (Unit {0}) (λ q. IsOpen b.search kind known budget x (found_uids b)))
        (wanted_next kind known budget b asked next).1
        (is_open b.search kind known budget b.phase x (found_uids b)
        (stands_by search kind known budget x b set run).phase)

-- nor has it met a failure or a corrupt UID
pub goes_on_soundly_by : (search : Search) → GoesOnSoundly search
goes_on_soundly_by search kind known budget x b set run goes = by_next (next_of b) refl
  where
    by_next : (next : Option Asked) → next_of b ≡ next
        → AllByRecursion NotFailed x × ((u : ℕ) → IsCorruptBy search u x → ⊥)
    by_next None end = absurd (goes end)
    by_next (Some asked) next = let going : IsOpen b.search kind known budget x (found_uids b) =
        subst (λ o. MatchOption o (Unit {0}) (λ q. IsOpen b.search kind known budget x (found_uids b)))
        (wanted_next kind known budget b asked next).1
        (is_open b.search kind known budget b.phase x (found_uids b)
        (stands_by search kind known budget x b set run).phase) in (
          going.no_failure,
          subst (λ q. (u : ℕ) → IsCorruptBy q u x → ⊥)
              (runs-search search kind known budget x b run) going.not_corrupt,
        )

-- one whose budget is used up asks nothing
pub ends_at_budget_by : (search : Search) → EndsAtBudget search
ends_at_budget_by search kind known budget x b set run used = let s = stands_by search kind known budget x b set run in
    cond-false (nat_lt b.frames b.budget) (wanted b.phase) None
    (le-ltb b.frames b.budget (let same = s.budget_is in let frames = s.frames_are in omega arith))

-- at any moment an agent has found what it reports
pub finds_acknowledged_by : (search : Search) → FindsAcknowledged search
finds_acknowledged_by search kind known budget x b set run =
    (record { uids = s.reports; first = s.first }, λ goes. by_next goes (next_of b) refl)
  where
    s : RunInvariant kind known budget x b
    s = stands_by search kind known budget x b set run

    by_next : next_of b ≢ None → (next : Option Asked) → next_of b ≡ next → AllReported x
    by_next goes None end = absurd (goes end)
    by_next goes (Some asked) next = all_reported_by search kind known budget x b asked set run next

-- each UID that is set apart was answered badly
pub bad_by : (search : Search) (kind : Kind) (known : List ℕ) (budget : ℕ) (x : List Seen) (b : AgentState)
    → IsDeviceSet known → Runs (start_by search kind known budget) x b → WereBad b.apart x
bad_by search kind known budget x b set run = (stands_by search kind known budget x b set run).bad
