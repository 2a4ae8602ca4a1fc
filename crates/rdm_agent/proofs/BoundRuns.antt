-- Runs on an honest or noisy line end within their bound, and without fault.
use Rattle.rdm_agent.proofs.Common.{◌≡◌, ℕ, ◌+◌, ◌*◌, ◌≤◌, Bool, true, List, [], ◌∷◌, length, Option, None, Some, refl}
use Rattle.rdm_agent.proofs.Common.{sym, ap, subst, inl, inr, true≢false, arith, ◌≢◌, ◌⊎◌, ◌↔◌, nat_lt, MatchOption}
use Rattle.rdm_agent.proofs.Common.{filter, AllByRecursion, lt-ltb, cond_both, IsDeviceSet, MOST_DEVICES, whole, Asked}
use Rattle.rdm_agent.proofs.Common.{Heard, Seen, LineState, Chain, before_run, Failed, Silent, One, Acked}
use Rattle.rdm_agent.proofs.Common.{Noise, known_of, Phase, AgentState, Runs, start_by, wanted, fed, found_uids}
use Rattle.rdm_agent.proofs.Common.{fault_of, heard_by_phase, Unmuting, MutingKnown, Searching, MutingRead, Sweeping}
use Rattle.rdm_agent.proofs.Common.{MutingSwept, Ended, enough_by, EndsWithin, Kind, Search, Steady, Quick}
use Rattle.rdm_agent.proofs.Common.{DEFAULT_BUDGET, Full, Incremental, Checking, MutingStray}
use Rattle.rdm_agent.proofs.Potential.{is_left, left_in, worth, Ahead, Costs, Affords}
use Rattle.rdm_agent.specs.Bound.{enough_for, EndsInBoundBy, EndsInBound, EndsByDefault}
use Rattle.rdm_agent.proofs.OneDevice.{NotFailed}
use Rattle.rdm_agent.proofs.LeftLemmas.{no_more_than}
use Rattle.rdm_agent.proofs.CoverLemmas.{worth-fewer}
use Rattle.rdm_agent.proofs.PaidLemmas.{unmuting-affords, known-affords}
use Rattle.rdm_agent.proofs.SearchPaid.{searching-pays, searching-affords, read-affords, read-some}
use Rattle.rdm_agent.proofs.SweepPaid.{sweeping-affords, swept-affords}
use Rattle.rdm_agent.proofs.StrayPaid.{checking-affords, stray-affords}
use Rattle.rdm_agent.proofs.Runs.{stands_by, wanted_next}
use Rattle.rdm_agent.proofs.KeptSearch.{fed-search}
use Rattle.rdm_agent.proofs.Potential.{Watched, with_aside}
use Rattle.rdm_agent.proofs.Common.{NoisyStep, Unmute, Branch, Mute, Other, cond, false, ◌∙◌}
use Rattle.rdm_agent.specs.Bound.{disturbed_row, FewDisturbed, IsNoisy, EndsInNoisyBound}
use Rattle.rdm_wire.specs.Noisy.{NoisyTraceWith, is_disturbed, disturbed_in}
use Rattle.rdm_wire.proofs.NoisyLemmas.{honest_undisturbed, both_zero}

-- a disturbed exchange pays for itself, and no other one does; few branches in a row are disturbed
record IsPaid (present : List ℕ) (s new : Watched) (bonus : ℕ) (asked : Asked) (h : Heard) : Type 0 where
  pub pays : is_disturbed present s.state asked h ≡ true → 30 ≤ bonus
  pub only : 30 ≤ bonus → is_disturbed present s.state asked h ≡ true
  pub row_is : new.row ≡ disturbed_row present s.state s.row asked h
  pub row : new.row ≤ 7

module _ (present : List ℕ) (set : IsDeviceSet present) (few : length present ≤ MOST_DEVICES) (total bonus : ℕ) where
  -- an exchange leaves a run within its bound
  fed-affords : (s new : Watched) (a : AgentState) (asked : Asked) (h : Heard) → h ≢ Failed
      → (30 ≤ bonus → a.search ≡ Quick) → wanted a.phase ≡ Some asked → NoisyStep present s.state asked h new.state
      → IsPaid present s new bonus asked h → Affords present total s a → Affords present (total + bonus) new (fed a h)
  fed-affords s new a asked h sound quick asks step paid affords = of_heard h sound step paid
    where
      was : Watched
      was = with_aside affords.aside s

      now : Watched
      now = with_aside affords.aside new

      After : Heard → Phase → Option Asked → Type 0
      After h phase o =
          MatchOption o (Unit {0}) (λ q. NoisyStep present s.state q h new.state → IsPaid present s new bonus q h
          → Affords present (total + bonus) now (heard_by_phase a phase h))

      by_phase : (phase : Phase) (h : Heard) → h ≢ Failed → Costs a.search present was (found_uids a) phase affords.cost
          → After h phase (wanted phase)
      by_phase (Unmuting more known) h sound costs =
          λ step paid. unmuting-affords present set few total affords.cost bonus was now a affords.within refl
          affords.room more known h
          affords.finds costs
      by_phase (MutingKnown u tries spare known) h sound costs =
          λ step paid. known-affords present set few total affords.cost bonus was now a affords.within refl
          affords.room u tries spare known
          h sound paid.pays affords.finds step costs
      by_phase (Searching silences bads spent top below) h sound costs =
          λ step paid. searching-affords present set few total affords.cost bonus was now a affords.within refl
          affords.room silences bads
          spent top below h sound quick
          (λ is. (paid.pays is, sym (paid.row_is ∙ ap (λ (b : Bool). cond b (s.row + 1) 0) is), paid.row)) paid.only
          affords.finds step costs
      by_phase (MutingRead u tries spare bads top below) h sound costs =
          λ step paid. read-affords present set few total affords.cost bonus was now a affords.within refl
          affords.room u tries spare bads
          top below h sound paid.pays affords.finds step costs
      by_phase (Sweeping sweep) h sound costs =
          λ step paid. sweeping-affords present set few total affords.cost bonus was now a affords.within refl
          affords.room sweep h sound
          (λ is. (sym (paid.row_is ∙ ap (λ (b : Bool). cond b (s.row + 1) 0) is), paid.row, paid.pays is))
          affords.finds step costs
      by_phase (MutingSwept u tries spare sweep) h sound costs =
          λ step paid. swept-affords present set few total affords.cost bonus was now a affords.within refl
          affords.room u tries spare sweep
          h sound paid.pays affords.finds step costs
      by_phase (Checking u silences sweep) h sound costs =
          λ step paid. checking-affords present set few total affords.cost bonus was now a affords.within refl
          affords.room u silences sweep
          h sound paid.pays affords.finds step costs
      by_phase (MutingStray u tries spare sweep) h sound costs =
          λ step paid. stray-affords present set few total affords.cost bonus was now a affords.within refl
          affords.room u tries spare sweep
          h sound paid.pays affords.finds step costs
      by_phase (Ended fault) h sound costs = tt

      at_phase : (h : Heard) → h ≢ Failed → NoisyStep present s.state asked h new.state
          → IsPaid present s new bonus asked h → Affords present (total + bonus) new (heard_by_phase a a.phase h)
      at_phase h sound step paid =
          let after = subst (After h a.phase) asks (by_phase a.phase h sound affords.costs) step paid in record {
            aside = after.aside;
            room = after.room;
            cost = after.cost;
            costs = after.costs;
            within = after.within;
            finds = after.finds;
          }

      of_heard : (h : Heard) → h ≢ Failed → NoisyStep present s.state asked h new.state
          → IsPaid present s new bonus asked h → Affords present (total + bonus) new (fed a h)
      of_heard Failed sound step paid = absurd (sound refl)
      of_heard Silent sound step paid = at_phase Silent sound step paid
      of_heard (One u) sound step paid = at_phase (One u) sound step paid
      of_heard (Acked ack) sound step paid = at_phase (Acked ack) sound step paid
      of_heard Noise sound step paid = at_phase Noise sound step paid

-- what a disturbed exchange adds
bonus_of : Bool → ℕ
bonus_of b = cond b 30 0

unfolding_bonus : (b : Bool) → (b ≡ true → 30 ≤ bonus_of b) × (30 ≤ bonus_of b → b ≡ true)
unfolding bonus_of
unfolding_bonus true = ((λ is. omega arith), (λ some. refl))
unfolding_bonus false = ((λ is. absurd (true≢false (sym is))), (λ some. absurd (omega (arith, some))))

sums : (total rest : ℕ) (b : Bool) → total + bonus_of b + 30 * rest ≡ total + 30 * (cond b 1 0 + rest)
unfolding bonus_of
sums total rest true = omega arith
sums total rest false = omega arith

-- so do all exchanges of a run
runs-afford : (present : List ℕ) → IsDeviceSet present → length present ≤ MOST_DEVICES
    → (total : ℕ) (kind : Kind) (known : List ℕ) (budget : ℕ) (x : List Seen) (s : LineState) (row : ℕ)
    (a b : AgentState) → AllByRecursion NotFailed x → (chain : Chain (NoisyStep present) s x)
    → FewDisturbed present s row x chain → (a.search ≡ Quick) ⊎ (disturbed_in present s x chain ≡ 0) → Runs a x b
    → Affords present total (record { state = s; row = row; aside = 0 }) a
    → (t : Watched) × Affords present (total + 30 * disturbed_in present s x chain) t b
runs-afford present set few total kind known budget [] s row a b sound chain in_row ok run affords = (
  record { state = s; row = row; aside = 0 },
  subst (λ n. Affords present n (record { state = s; row = row; aside = 0 }) b)
      (let same : total ≡ total + 30 * 0 = omega arith in same)
      (subst (Affords present total (record { state = s; row = row; aside = 0 })) (sym run) affords),
)
runs-afford present set few total kind known budget (e ∷ x) s row a b sound (inl failed) in_row ok run affords =
    absurd (sound.0 failed)
runs-afford present set few total kind known budget (e ∷ x) s row a b sound (inr step) in_row ok run affords =
    let after =
    runs-afford present set few (total + bonus_of (is_disturbed present s e.asked e.heard)) kind known budget
    x step.0 (disturbed_row present s row e.asked e.heard) (fed a e.heard) b sound.1 step.2 in_row.1 onward run.1
    (fed-affords present set few total (bonus_of (is_disturbed present s e.asked e.heard))
    (record { state = s; row = row; aside = 0 })
    (record { state = step.0; row = disturbed_row present s row e.asked e.heard; aside = 0 }) a e.asked e.heard sound.0
    quick
    (wanted_next kind known budget a e.asked run.0).1 step.1
    (record {
      pays = (unfolding_bonus (is_disturbed present s e.asked e.heard)).0;
      only = (unfolding_bonus (is_disturbed present s e.asked e.heard)).1;
      row_is = refl;
      row = in_row.0;
    }) affords) in (
      after.0,
      subst (λ n. Affords present n after.0 b)
          (sums total (disturbed_in present step.0 x step.2) (is_disturbed present s e.asked e.heard)) after.1,
    )
  where
    quick : 30 ≤ bonus_of (is_disturbed present s e.asked e.heard) → a.search ≡ Quick
    quick some = elim ok [
      | inl is ↦ is
      | inr none ↦ absurd (true≢false (sym ((unfolding_bonus (is_disturbed present s e.asked e.heard)).1 some)
          ∙ (both_zero (is_disturbed present s e.asked e.heard) (disturbed_in present step.0 x step.2) none).0))
    ]

    onward : ((fed a e.heard).search ≡ Quick) ⊎ (disturbed_in present step.0 x step.2 ≡ 0)
    onward = elim ok [
      | inl is ↦ inl (fed-search a e.heard ∙ is)
      | inr none ↦
          inr (both_zero (is_disturbed present s e.asked e.heard) (disturbed_in present step.0 x step.2) none).1
    ]

-- a run that goes on still costs an exchange at least
ended_or_pays : (search : Search) (present : List ℕ) (s : Watched) (found : List ℕ) (phase : Phase) (cost : ℕ)
    → Costs search present s found phase cost → (phase ≡ Ended None) ⊎ ((2 ≤ cost) × (wanted phase ≢ None))
ended_or_pays search present s found (Unmuting more known) cost c =
    let some = c.some in let is = c.cost_is in inr (omega arith, λ p. cc)
ended_or_pays search present s found (MutingKnown u tries spare known) cost c =
    let few = c.few in let is = c.cost_is in inr (omega arith, λ p. cc)
ended_or_pays search present s found (Searching silences bads spent top below) cost c =
    let some = searching-pays search present found s.row silences bads spent top below cost c in
    inr (omega (arith, some), λ p. cc)
ended_or_pays search present s found (MutingRead u tries spare bads top below) cost c = let few = c.few in
    let is = c.cost_is in let some = read-some present s found u tries top below cost c in inr (omega arith, λ p. cc)
ended_or_pays search present s found (Sweeping sweep) cost c =
    let below = c.below in let enough = c.enough in inr (omega arith, λ p. cc)
ended_or_pays search present s found (MutingSwept u tries spare sweep) cost c =
    let few = c.few in let below = c.below in let enough = c.enough in inr (omega arith, λ p. cc)
ended_or_pays search present s found (Checking u silences sweep) cost c =
    let few = c.few in let below = c.below in let enough = c.enough in inr (omega arith, λ p. cc)
ended_or_pays search present s found (MutingStray u tries spare sweep) cost c =
    let few = c.few in let below = c.below in let enough = c.enough in inr (omega arith, λ p. cc)
ended_or_pays search present s found (Ended fault) cost c = inl (ap Ended c)

-- so it has ended without fault once all is paid
ends_within : (present : List ℕ) (s : Watched) (b : AgentState) (most : ℕ) → most ≤ b.budget
    → Affords present (2 * most) s b → EndsWithin most b
ends_within present s b most enough affords =
    by_phase (ended_or_pays b.search present (with_aside affords.aside s) (found_uids b) b.phase affords.cost
    affords.costs)
  where
    within : 2 * b.frames + affords.cost ≤ 2 * most
    within = affords.within

    by_phase : (b.phase ≡ Ended None) ⊎ ((2 ≤ affords.cost) × (wanted b.phase ≢ None)) → EndsWithin most b
    by_phase (inl ended) = record {
      at_most = omega arith;
      ends = λ all. rw ended
          (cond_both (nat_lt b.frames b.budget) None None (λ (o : Option Asked). o ≡ None) (λ t. refl) (λ f. refl));
      no_fault = λ end. ap fault_of ended;
    }
    by_phase (inr pays) = let more : 2 ≤ affords.cost = pays.0 in record {
      at_most = omega arith;
      ends = λ all. absurd (omega (arith, all));
      no_fault = λ end. absurd (pays.1 (rw (lt-ltb b.frames b.budget (omega arith)) at end));
    }

-- what the unmutes, the known UIDs and the search cost
abbrev search_cost : Search → List ℕ → ℕ
search_cost Steady present = 10 + length present * 740
search_cost Quick present = 420 + length present * 740

start-affords : (search : Search) (present : List ℕ) (muted : ℕ → Bool) (kind : Kind) (known : List ℕ) (budget : ℕ)
    → Affords present (2 * enough_by search present kind known)
    (record { state = before_run muted; row = 0; aside = 0 })
    (start_by search kind known budget)
start-affords search present muted kind known budget = record {
  aside = 0;
  room = omega arith;
  cost = 6 + 10 * length (known_of kind known) + search_cost search present;
  costs = record {
    ranges = search_cost search present;
    none_aside = refl;
    some = omega arith;
    none_found = refl;
    ahead = ahead search;
    cost_is = omega arith;
  };
  within = within search;
  finds = record {
    devices = λ u there. absurd (true≢false (sym there));
    muted = λ u there. absurd (true≢false (sym there));
    counted = nobody_found;
  };
}
  where
    nobody_found : 0 + length (filter (λ u. true) present) ≤ length present
    nobody_found = let most = no_more_than (λ u. true) present in omega arith

    all : worth 48 (left_in present [] whole) + 0 ≤ 10 + length present * 740
    all = let most = worth-fewer 48 (left_in present [] whole) (length present)
        (no_more_than (is_left [] whole) present) in omega arith

    ahead : (search : Search) → Ahead search present [] (search_cost search present)
    ahead Steady = (48, 0, refl, all, tt)
    ahead Quick = omega (arith, nobody_found)

    within : (search : Search)
        → 2 * 0 + (6 + 10 * length (known_of kind known) + search_cost search present) ≤ 2 * enough_by search present
        kind known
    within Steady = omega arith
    within Quick = omega arith

-- where no exchange is disturbed no row of them is long
none_few : (present : List ℕ) (s : LineState) (row : ℕ) (x : List Seen) (chain : Chain (NoisyStep present) s x)
    → disturbed_in present s x chain ≡ 0 → FewDisturbed present s row x chain
none_few present s row [] chain none = tt
none_few present s row (e ∷ x) (inl failed) none = tt
none_few present s row (e ∷ x) (inr step) none = (
  let zero = ends e.asked here.0 in omega (arith, zero),
  none_few present step.0 (disturbed_row present s row e.asked e.heard) x step.2 here.1,
)
  where
    here : (is_disturbed present s e.asked e.heard ≡ false) × (disturbed_in present step.0 x step.2 ≡ 0)
    here = both_zero (is_disturbed present s e.asked e.heard) (disturbed_in present step.0 x step.2) none

    ends : (asked : Asked) → is_disturbed present s asked e.heard ≡ false
        → disturbed_row present s row asked e.heard ≡ 0
    ends (Branch lo hi) quiet = ap (λ (b : Bool). cond b (row + 1) 0) quiet
    ends (Mute u) quiet = refl
    ends Unmute quiet = refl
    ends Other quiet = refl

-- whatever the line is, if it isn't disturbed or the search is quick
ends_by : (search : Search) (kind : Kind) (known : List ℕ) (budget : ℕ) (x : List Seen) (b : AgentState)
    → IsDeviceSet known → Runs (start_by search kind known budget) x b → (present : List ℕ) (w : ℕ)
    → IsNoisy present w x → (search ≡ Quick) ⊎ (w ≡ 0) → enough_by search present kind known + 15 * w ≤ budget
    → EndsWithin (enough_by search present kind known + 15 * w) b
ends_by search kind known budget x b set run present w n ok enough =
    ends_within present paid.0 b (enough_by search present kind known + 15 * w)
    (rw (stands_by search kind known budget x b set run).budget_is enough)
    (subst (λ m. Affords present m paid.0 b) all paid.1)
  where
    paid : (t : Watched) × Affords present (2 * enough_by search present kind known
        + 30 * disturbed_in present (before_run n.noisy.0.1) x n.noisy.0.2) t b
    paid = runs-afford present n.noisy.0.0 n.few (2 * enough_by search present kind known) kind known budget x
        (before_run n.noisy.0.1) 0 (start_by search kind known budget) b n.no_failure n.noisy.0.2 n.few_in_a_row
        (elim ok [ inl is ↦ inl is | inr none ↦ inr (n.noisy.1 ∙ none) ]) run
        (start-affords search present n.noisy.0.1 kind known budget)

    all : 2 * enough_by search present kind known
        + 30 * disturbed_in present (before_run n.noisy.0.1) x n.noisy.0.2
        ≡ 2 * (enough_by search present kind known + 15 * w)
    all = let is = n.noisy.1 in omega (arith, is)

pub ends_in_noisy_bound : EndsInNoisyBound
ends_in_noisy_bound kind known budget x b set run present w n enough =
    ends_by Quick kind known budget x b set run present w n (inl refl) enough

pub ends_in_bound_by : (search : Search) → EndsInBoundBy search
ends_in_bound_by search kind known budget x b set run present calm enough =
    subst (λ m. EndsWithin m b) (sym none)
    (ends_by search kind known budget x b set run present 0 (record {
      noisy = noisy;
      few_in_a_row = none_few present (before_run noisy.0.1) 0 x noisy.0.2 noisy.1;
      few = calm.few;
      no_failure = calm.no_failure;
    }) (inr refl) (subst (λ m. m ≤ budget) none enough))
  where
    noisy : NoisyTraceWith present 0 x
    noisy = (honest_undisturbed present x).0 calm.honest

    none : enough_by search present kind known ≡ enough_by search present kind known + 15 * 0
    none = omega arith

-- the same of the steady search
pub ends_in_bound : EndsInBound
ends_in_bound = ends_in_bound_by Steady

-- the budget by default suffices
pub default_suffices : (present known : List ℕ) (kind : Kind) → length present ≤ 1024 → length known ≤ 1024
    → enough_for present kind known ≤ DEFAULT_BUDGET
default_suffices present known Full few few_known = omega arith
default_suffices present known Incremental few few_known = omega arith

-- for a quick search too, exactly if the devices and known UIDs cost no more than this
pub quick_suffices : (present known : List ℕ) (kind : Kind) → (enough_by Quick present kind known ≤ DEFAULT_BUDGET)
    ↔ (370 * length present + 5 * length (known_of kind known) ≤ 383795)
quick_suffices present known kind = ((λ enough. omega (arith, enough)), (λ few. omega (arith, few)))

-- so it does, but where there are most devices and as many known UIDs
pub quick_sizes_suffice : (present known : List ℕ) (kind : Kind) → length present ≤ 1024 → length known ≤ 1024
    → (length present ≤ 1023) ⊎ (length (known_of kind known) ≤ 983)
    → enough_by Quick present kind known ≤ DEFAULT_BUDGET
quick_sizes_suffice present known Full few few_known (inl fewer) = omega arith
quick_sizes_suffice present known Full few few_known (inr fewer) = omega arith
quick_sizes_suffice present known Incremental few few_known (inl fewer) = omega arith
quick_sizes_suffice present known Incremental few few_known (inr fewer) = omega arith

pub ends_by_default : EndsByDefault
ends_by_default kind known budget x b set run present calm few_known is =
    ends_in_bound kind known budget x b set run present calm
    (rw is (default_suffices present known kind calm.few few_known))
