-- What an exchange of the steady search pays, on a noisy line too.
use Rattle.rdm_agent.proofs.Common.{◌≡◌, ℕ, ◌+◌, ◌-◌, ◌*◌, ◌≤◌, Bool, true, false, ◌&&◌, List, ◌∷◌}
use Rattle.rdm_agent.proofs.Common.{length, refl, sym, ap, ◌∙◌, subst, inl, inr, true≢false, arith}
use Rattle.rdm_agent.proofs.Common.{nat_lt, ◌==◌, ◌⊎◌, ◌≢◌, and_parts, cases_Bool, cond_both}
use Rattle.rdm_agent.proofs.Common.{or_cases, or_right, eqb-true, eqb-false, has}
use Rattle.rdm_agent.proofs.Common.{IsAscending, IsDeviceSet}
use Rattle.rdm_agent.proofs.Common.{MOST_DEVICES, Span, Heard}
use Rattle.rdm_agent.proofs.Common.{due_in}
use Rattle.rdm_agent.proofs.Common.{Branch, Mute, Failed, Silent, One, Acked, Noise, Phase, AgentState}
use Rattle.rdm_agent.proofs.Common.{to_phase, is_new, found_uids}
use Rattle.rdm_agent.proofs.Common.{branch_heard, mute_heard}
use Rattle.rdm_agent.proofs.Common.{Searching, MutingRead, TRIES, Search, Steady, Quick}
use Rattle.rdm_agent.proofs.Potential.{is_left, left_in, Covers}
use Rattle.rdm_agent.proofs.Potential.{CostsSearching, CostsRead, Finds, Affords}
use Rattle.rdm_agent.proofs.LeftLemmas.{one_fewer}
use Rattle.rdm_agent.proofs.CoverLemmas.{Covers-some, Covers-left, Covers-device}
use Rattle.rdm_agent.proofs.CoverLemmas.{worth-found, one_uid}
use Rattle.rdm_agent.proofs.Common.{asks_again, is_soon, is_one, spare_at, spent_more, search_apart, search_silent}
use Rattle.rdm_agent.proofs.Common.{search_read, mute_lost, min, nat_le, leb-true, le-leb}
use Rattle.std.proofs.Math.Nat.{min-le_left, le-min}
use Rattle.rdm_agent.proofs.PaidLemmas.{Cheaper, search_below-costs, split-costs, SpellsNew, answered, new-left}
use Rattle.rdm_agent.proofs.PaidLemmas.{mute-keeps, acked-mute, lost-mute, alone-present}
use Rattle.rdm_agent.proofs.Common.{NoisyStep, has_bytes, is_acked, not, cond, lt-ltb, BAD_ANSWERS}
use Rattle.rdm_agent.proofs.Potential.{Watched, IsFirstTime, IsAskedAgain}
use Rattle.rdm_wire.specs.Noisy.{is_disturbed_branch, MayHearInNoise}
use Rattle.rdm_agent.proofs.Common.{eq-eqb}
use Rattle.rdm_agent.proofs.PaidLemmas.{Finds-keeps, to_phase-affords, to_found-affords}
use Rattle.rdm_agent.proofs.RunLemmas.{soon-alone}

-- one more branch is counted
spent-one : (spent : ℕ) → spent ≤ 9 → spent_more spent ≡ spent + 1
spent-one spent few =
    let most : min (spent + 1) 10 ≤ spent + 1 = min-le_left (spent + 1) 10 in
    let same : spent + 1 ≤ spent + 1 = omega arith in let ten : spent + 1 ≤ 10 = omega arith in
    let least : spent + 1 ≤ min (spent + 1) 10 = le-min same ten in omega (arith, most, least)

-- a range that had so many branches still pays for one more, and for the ranges below it
pub searching-pays : (search : Search) (present found : List ℕ) (row silences bads spent : ℕ) (top : Span)
    (below : List Span) (cost : ℕ)
    → (c : CostsSearching search present found row silences bads spent top below cost) → c.covered.1 + 2 ≤ cost
searching-pays search present found row silences bads spent top below cost c =
    let fits = c.covered.3 in let few = c.few in let is = c.cost_is in elim c.either [
      | inl first ↦ let used = first.used_is in omega (arith, fits, few, is, used)
      | inr again ↦ let used = again.used_is in let limit = again.limit in elim again.why [
        | inl two ↦ let paid = worth-found c.covered.0 0 (left_in present found top) (omega (arith, two)) in
            omega (arith, fits, few, limit, is, used, paid)
        | inr some ↦ omega (arith, fits, few, limit, is, used, some)
      ]
    ]

-- two devices are in a range of several UIDs
two-several : (present found : List ℕ) (top : Span) → IsAscending present → 2 ≤ left_in present found top
    → (top.lo == top.hi) ≡ false
two-several present found top ascending two = elim (cases_Bool (top.lo == top.hi)) [
  | inl one ↦ absurd (let same = eqb-true top.lo top.hi one in
      let most = one_uid present found top (omega (arith, same)) ascending in omega (arith, two, most))
  | inr several ↦ several
]

module _ (present found : List ℕ) (top : Span) (ascending : IsAscending present) (line : Watched) (below : List Span)
    (n reserve : ℕ) (several : (top.lo == top.hi) ≡ false) (why : (2 ≤ left_in present found top) ⊎ (30 ≤ reserve))
    (covered : Covers present found (top ∷ below) n) where
  -- a range of several UIDs is asked again, or split
  apart-costs : (search : Search) (cost bads spent : ℕ) → spent ≤ 9 → cost + 2 * spent ≡ n + reserve
      → Cheaper search present line found cost (search_apart search bads (spent + 1) top below)
  apart-costs Steady cost bads spent few is =
      split-costs Steady present found line cost top below n reserve ascending several why (omega (arith, few, is))
      covered
  apart-costs Quick cost bads spent few is =
      cond_both (asks_again Quick top bads (spent + 1)) _ _ (Cheaper Quick present line found cost) again
      (λ last. split-costs Quick present found line cost top below n reserve ascending several why
      (omega (arith, few, is)) covered)
    where
      opened : asks_again Quick top bads (spent + 1) ≡ (nat_le (spent + 1) 5 && nat_lt bads 3)
      opened = rw several refl

      again : asks_again Quick top bads (spent + 1) ≡ true
          → Cheaper Quick present line found cost (Searching 0 bads (spent + 1) top below)
      again asks =
          let early : spent + 1 ≤ 5 = leb-true (spent + 1) 5
          (and_parts (nat_le (spent + 1) 5) (nat_lt bads 3) (sym opened ∙ asks)).0 in
          let some = Covers-some present found top below n covered in
          record {
            left = n + reserve - 2 * (spent + 1);
            saves = omega (arith, early, some, is);
            costs = record {
              ranges = n;
              used = spent + 1;
              reserve = reserve;
              few = omega arith;
              either = inr (record {
                quick = refl;
                used_is = refl;
                limit = omega (arith, early);
                several = several;
                why = why;
              });
              alone = λ one. absurd (true≢false (sym (eq-eqb top.lo top.hi one) ∙ several));
              covered = covered;
              cost_is = omega (arith, early, some);
            };
          }

-- one UID alone is asked again after a bad answer, if that was disturbed and seven in a row are the most
alone-costs : (present found : List ℕ) (top : Span) (line : Watched) (below : List Span) (n used cost bads spent : ℕ)
    → top.lo ≡ top.hi → bads ≤ line.row → line.row ≤ 7 → used ≤ 4 → n + 2 ≤ cost
    → Covers present found (top ∷ below) n
    → Cheaper Quick present line found cost (search_apart Quick bads spent top below)
alone-costs present found top line below n used cost bads spent one in_row row few enough covered =
    cond_both (asks_again Quick top bads spent) _ _ (Cheaper Quick present line found cost)
    (λ again. record {
      left = n;
      saves = enough;
      costs = record {
        ranges = n;
        used = 0;
        reserve = 0;
        few = omega arith;
        either = inl (record { used_is = refl; spent_is = inr (refl, one) });
        alone = λ same. in_row;
        covered = covered;
        cost_is = omega arith;
      };
    })
    (λ last. absurd (true≢false (sym asks ∙ last)))
  where
    asks : asks_again Quick top bads spent ≡ true
    asks = rw (eq-eqb top.lo top.hi one) (lt-ltb bads BAD_ANSWERS (omega (arith, in_row, row)))

-- what a branch spells is muted, unless it was asked too often
soon-early : (search : Search) (top : Span) (spent : ℕ) → spent ≤ 4 → is_soon search top (spent + 1) ≡ true
soon-early Steady top spent early = refl
soon-early Quick top spent early =
    or_right (is_one top) (nat_le (spent + 1) 5) (le-leb (spent + 1) 5 (omega (arith, early)))

early-soon : (top : Span) (spent : ℕ) → (top.lo == top.hi) ≡ false → is_soon Quick top (spent + 1) ≡ true → spent ≤ 4
early-soon top spent several soon = elim (or_cases (is_one top) (nat_le (spent + 1) 5) soon) [
  | inl one ↦ absurd (true≢false (sym one ∙ several))
  | inr early ↦ let less : spent + 1 ≤ 5 = leb-true (spent + 1) 5 early in omega (arith, less)
]

-- while a UID that was spelt is muted, its ranges pay
pub read-some : (present : List ℕ) (s : Watched) (found : List ℕ) (u tries : ℕ) (top : Span) (below : List Span)
    (cost : ℕ) → (c : CostsRead present s found u tries top below cost) → 30 ≤ c.ranges + c.reserve
read-some present s found u tries top below cost c = some_left c.spelt
  where
    left : 1 ≤ left_in present found top → 30 ≤ c.ranges + c.reserve
    left some = let many = Covers-left present found top below c.ranges some c.covered in omega (arith, many)

    some_left : (has present u ≡ true) ⊎ (((top.lo == top.hi) ≡ false)
        × ((2 ≤ left_in present found top) ⊎ (30 ≤ c.reserve))) → 30 ≤ c.ranges + c.reserve
    some_left (inl here) =
        left (let fewer = one_fewer (is_left found top) (λ v. false) present u
        (λ v never. absurd (true≢false (sym never))) (new-left found top u c.new) refl here in omega arith)
    some_left (inr (several, inl two)) = left (omega (arith, two))
    some_left (inr (several, inr some)) = omega (arith, some)

module _ (present : List ℕ) (set : IsDeviceSet present) (few : length present ≤ MOST_DEVICES) (total base bonus : ℕ)
    (s new : Watched) (a : AgentState) (within : 2 * a.frames + base ≤ total) (kept : new.aside ≡ s.aside)
    (room : length a.apart ≤ new.aside) where
  goes_on : (phase : Phase) → Finds present new.state (found_uids a)
      → Cheaper a.search present new (found_uids a) (base + bonus) phase
      → Affords present (total + bonus) new (to_phase a phase)
  goes_on phase f cheaper = to_phase-affords present set few total base bonus s new a within kept room phase f cheaper

  -- it is silent
  silent-affords : (silences bads spent : ℕ) (top : Span) (below : List Span) → Finds present new.state (found_uids a)
      → CostsSearching a.search present (found_uids a) s.row silences bads spent top below base
      → Affords present (total + bonus) new (to_phase a (search_silent silences (spent_more spent) top below))
  silent-affords silences bads spent top below f costs =
      let few = costs.few in let is = costs.cost_is in
      let some = searching-pays a.search present (found_uids a) s.row silences bads spent top below base costs in
      goes_on (search_silent silences (spent_more spent) top below) f
      (cond_both ((silences + 1) == TRIES) _ _ (Cheaper a.search present new (found_uids a) (base + bonus))
      (λ five. search_below-costs a.search present (found_uids a) new (base + bonus) below costs.covered.1
      (omega (arith, some)) costs.covered.4)
      (λ fewer. let other : silences + 1 ≡ TRIES → ⊥ = eqb-false (silences + 1) TRIES fewer in
      let less : silences + 1 ≤ 4 = grind (arith, few, other) in
      record {
        left = base - 2;
        saves = omega (arith, some);
        costs = record {
          ranges = costs.ranges;
          used = costs.used + 1;
          reserve = costs.reserve;
          few = less;
          either = elim costs.either [
            | inl first ↦ inl (record {
              used_is = let used = first.used_is in omega (arith, used);
              spent_is = elim first.spent_is [
                | inl same ↦ inl (let one = spent-one spent (omega (arith, few, same)) in omega (arith, same, one))
                | inr alone ↦ inr alone
              ];
            })
            | inr again ↦ let limit = again.limit in let used = again.used_is in
                let one = spent-one spent (omega (arith, few, limit)) in inr (record {
                  quick = again.quick;
                  used_is = omega (arith, used, one);
                  limit = omega (arith, limit, one);
                  several = again.several;
                  why = again.why;
                })
          ];
          alone = λ one. omega arith;
          covered = costs.covered;
          cost_is = omega (arith, some, is);
        };
      }))

  -- bytes came that the top range's UIDs explain, or the branch was disturbed
  module _ (silences bads spent : ℕ) (top : Span) (below : List Span) (f : Finds present new.state (found_uids a))
      (costs : CostsSearching a.search present (found_uids a) s.row silences bads spent top below base)
      (quick : 30 ≤ bonus → a.search ≡ Quick) (rows : 30 ≤ bonus → (s.row + 1 ≡ new.row) × (new.row ≤ 7)) where
    abbrev apart : Phase
    apart = search_apart a.search (bads + 1) (spent_more spent) top below

    -- several UIDs, of which two devices are left, or the branch was disturbed now or before
    apart-several : (top.lo == top.hi) ≡ false
        → (2 ≤ left_in present (found_uids a) top) ⊎ (30 ≤ costs.reserve + bonus)
        → Affords present (total + bonus) new (to_phase a apart)
    apart-several several why = goes_on apart f
        (subst (λ n. Cheaper a.search present new (found_uids a) (base + bonus)
        (search_apart a.search (bads + 1) n top below)) (sym (spent-one spent fits.0))
        (apart-costs present (found_uids a) top set.ascending new below costs.ranges (costs.reserve + bonus) several why
        costs.covered a.search (base + bonus) (bads + 1) spent fits.0 fits.1))
      where
        fits : (spent ≤ 9) × (base + bonus + 2 * spent ≡ costs.ranges + (costs.reserve + bonus))
        fits = let few = costs.few in let is = costs.cost_is in elim costs.either [
          | inl first ↦ let used = first.used_is in elim first.spent_is [
            | inl same ↦ (omega (arith, few, same), omega (arith, is, used, same))
            | inr one ↦ absurd (true≢false (sym (eq-eqb top.lo top.hi one.1) ∙ several))
          ]
          | inr again ↦ let limit = again.limit in let used = again.used_is in
              (omega (arith, few, limit), omega (arith, is, used))
        ]

    -- one UID alone: the branch was disturbed
    apart-one : top.lo ≡ top.hi → 30 ≤ bonus → Affords present (total + bonus) new (to_phase a apart)
    apart-one one paid = goes_on apart f
        (subst (λ q. Cheaper q present new (found_uids a) (base + bonus)
        (search_apart q (bads + 1) (spent_more spent) top below)) (sym (quick paid))
        (alone-costs present (found_uids a) top new below costs.ranges costs.used (base + bonus) (bads + 1)
        (spent_more spent) one
        (let before = costs.alone one in let next = (rows paid).0 in omega (arith, before, next)) (rows paid).1 fits.0
        fits.1 costs.covered))
      where
        fits : (costs.used ≤ 4) × (costs.ranges + 2 ≤ base + bonus)
        fits = let few = costs.few in let is = costs.cost_is in elim costs.either [
          | inl first ↦ let used = first.used_is in (omega (arith, few, used), omega (arith, few, used, is, paid))
          | inr again ↦ absurd (true≢false (sym (eq-eqb top.lo top.hi one) ∙ again.several))
        ]

    -- two are left, or the branch was disturbed
    apart-affords : (2 ≤ left_in present (found_uids a) top) ⊎ (30 ≤ bonus)
        → Affords present (total + bonus) new (to_phase a apart)
    apart-affords (inl two) = apart-several (two-several present (found_uids a) top set.ascending two) (inl two)
    apart-affords (inr paid) = elim (cases_Bool (top.lo == top.hi)) [
      | inl one ↦ apart-one (eqb-true top.lo top.hi one) paid
      | inr several ↦ apart-several several (inr (omega (arith, paid)))
    ]

    -- it spells a UID
    spelt-affords : (u : ℕ) → SpellsNew present (found_uids a) top (One u)
        ⊎ ((2 ≤ left_in present (found_uids a) top) ⊎ (30 ≤ bonus))
        → (top.lo ≡ top.hi → is_new (found_uids a) top u ≡ true → has present u ≡ true)
        → Affords present (total + bonus) new
        (to_phase a (search_read a.search (found_uids a) (bads + 1) (spent_more spent) top below u))
    spelt-affords u answer present_alone =
        cond_both (is_new (found_uids a) top u && is_soon a.search top (spent_more spent)) _ _
        (λ p. Affords present (total + bonus) new (to_phase a p)) muted (λ old. refused old answer costs.either)
      where
        same : (v : ℕ) → One u ≡ One v → u ≡ v
        same v p = cc

        both : (new_uid fresh : Bool) → new_uid ≡ true → fresh ≡ true → (new_uid && fresh) ≡ false → ⊥
        both true true p q never = true≢false never
        both false fresh p q never = true≢false (sym p)
        both true false p q never = true≢false (sym q)

        -- a new device is muted unless the range was asked too often
        refused : (is_new (found_uids a) top u && is_soon a.search top (spent_more spent)) ≡ false
            → SpellsNew present (found_uids a) top (One u)
            ⊎ ((2 ≤ left_in present (found_uids a) top) ⊎ (30 ≤ bonus))
            → IsFirstTime a.search silences spent costs.used top
            ⊎ IsAskedAgain a.search present (found_uids a) silences spent costs.used costs.reserve top
            → Affords present (total + bonus) new (to_phase a apart)
        refused old (inr why) either = apart-affords why
        refused old (inl spells) (inr again) = apart-several again.several (elim again.why [
          | inl two ↦ inl two
          | inr some ↦ inr (omega (arith, some))
        ])
        refused old (inl spells) (inl first) = absurd (both (is_new (found_uids a) top u) _
            (ap (is_new (found_uids a) top) (same spells.uid spells.heard) ∙ spells.new) soon old)
          where
            soon : is_soon a.search top (spent_more spent) ≡ true
            soon = elim first.spent_is [
              | inl is ↦ let few = costs.few in
                  subst (λ n. is_soon a.search top n ≡ true) (sym (spent-one spent (omega (arith, few, is))))
                  (soon-early a.search top spent (omega (arith, few, is)))
              | inr one ↦ soon-alone a.search top (spent_more spent) one.1
            ]

        -- so few branches aren't paid for yet
        used_few : is_soon a.search top (spent_more spent) ≡ true
            → IsFirstTime a.search silences spent costs.used top
            ⊎ IsAskedAgain a.search present (found_uids a) silences spent costs.used costs.reserve top → costs.used ≤ 4
        used_few is (inl first) = let few = costs.few in let used = first.used_is in omega (arith, few, used)
        used_few is (inr again) =
            let few = costs.few in let limit = again.limit in let used = again.used_is in
            let early = early-soon top spent again.several
            (subst (λ n. is_soon Quick top n ≡ true) (spent-one spent (omega (arith, few, limit)))
            (subst (λ q. is_soon q top (spent_more spent) ≡ true) again.quick is)) in omega (arith, used, early)

        spelt : is_new (found_uids a) top u ≡ true → SpellsNew present (found_uids a) top (One u)
            ⊎ ((2 ≤ left_in present (found_uids a) top) ⊎ (30 ≤ bonus))
            → (has present u ≡ true) ⊎ (((top.lo == top.hi) ≡ false)
            × ((2 ≤ left_in present (found_uids a) top) ⊎ (30 ≤ costs.reserve + bonus)))
        spelt fresh (inl spells) = inl (ap (has present) (same spells.uid spells.heard) ∙ spells.here)
        spelt fresh (inr (inl two)) = inr (two-several present (found_uids a) top set.ascending two, inl two)
        spelt fresh (inr (inr paid)) = elim (cases_Bool (top.lo == top.hi)) [
          | inl one ↦ inl (present_alone (eqb-true top.lo top.hi one) fresh)
          | inr several ↦ inr (several, inr (omega (arith, paid)))
        ]

        muted : (is_new (found_uids a) top u && is_soon a.search top (spent_more spent)) ≡ true
            → Affords present (total + bonus) new
            (to_phase a (MutingRead u 0 (spare_at a.search top (bads + 1)) (bads + 1) top below))
        muted wanted =
            let parts = and_parts (is_new (found_uids a) top u) _ wanted in
            let few = used_few parts.1 costs.either in let is = costs.cost_is in
            let some : 10 ≤ costs.ranges = Covers-some present (found_uids a) top below costs.ranges costs.covered in
            goes_on (MutingRead u 0 (spare_at a.search top (bads + 1)) (bads + 1) top below) f (record {
              left = costs.ranges + (costs.reserve + bonus) - 10;
              saves = omega (arith, few, is, some);
              costs = record {
                ranges = costs.ranges;
                reserve = costs.reserve + bonus;
                few = omega arith;
                new = parts.0;
                lost = λ here. omega arith;
                spelt = spelt parts.0 answer;
                covered = costs.covered;
                cost_is = omega (arith, some);
              };
            })

  -- a branch of the top range
  pub searching-affords : (silences bads spent : ℕ) (top : Span) (below : List Span) (h : Heard) → h ≢ Failed
      → (30 ≤ bonus → a.search ≡ Quick)
      → (is_disturbed_branch (due_in present s.state.muted top.lo top.hi) h ≡ true
      → (30 ≤ bonus) × (s.row + 1 ≡ new.row) × (new.row ≤ 7))
      → (30 ≤ bonus → is_disturbed_branch (due_in present s.state.muted top.lo top.hi) h ≡ true)
      → Finds present s.state (found_uids a) → NoisyStep present s.state (Branch top.lo top.hi) h new.state
      → CostsSearching a.search present (found_uids a) s.row silences bads spent top below base
      → Affords present (total + bonus) new (branch_heard a silences bads spent top below h)
  searching-affords silences bads spent top below h sound quick disturbed only f step costs =
      of_heard h sound disturbed only step.0
    where
      finds : Finds present new.state (found_uids a)
      finds = Finds-keeps present (found_uids a) s.state new.state (λ u muted. step.1 u ∙ muted) f

      Is : Heard → Type 0
      Is k = is_disturbed_branch (due_in present s.state.muted top.lo top.hi) k ≡ true

      answer : (k : Heard) → k ≢ Silent → k ≢ Failed → (Is k → (30 ≤ bonus) × (s.row + 1 ≡ new.row) × (new.row ≤ 7))
          → SpellsNew present (found_uids a) top k ⊎ ((2 ≤ left_in present (found_uids a) top) ⊎ (30 ≤ bonus))
      answer k loud sound paid = elim (answered present (found_uids a) s.state top k set loud sound f) [
        | inl spells ↦ inl spells
        | inr (inl two) ↦ inr (inl two)
        | inr (inr is) ↦ inr (inr (paid is).0)
      ]

      why : (k : Heard) → ((u : ℕ) → k ≡ One u → ⊥)
          → SpellsNew present (found_uids a) top k ⊎ ((2 ≤ left_in present (found_uids a) top) ⊎ (30 ≤ bonus))
          → (2 ≤ left_in present (found_uids a) top) ⊎ (30 ≤ bonus)
      why k noise (inl spells) = absurd (noise spells.uid spells.heard)
      why k noise (inr either) = either

      of_heard : (k : Heard) → k ≢ Failed → (Is k → (30 ≤ bonus) × (s.row + 1 ≡ new.row) × (new.row ≤ 7))
          → (30 ≤ bonus → Is k) → MayHearInNoise present top.lo top.hi k
          → Affords present (total + bonus) new (branch_heard a silences bads spent top below k)
      of_heard Silent sound paid only may = silent-affords silences bads spent top below finds costs
      of_heard (One u) sound paid only may =
          spelt-affords silences bads spent top below finds costs quick
          (λ some. ((paid (only some)).1, (paid (only some)).2)) u
          (answer (One u) (λ p. cc) sound paid) (alone-present present (found_uids a) top u may)
      of_heard Failed sound paid only may = absurd (sound refl)
      of_heard (Acked ack) sound paid only may =
          apart-affords silences bads spent top below finds costs quick
          (λ some. ((paid (only some)).1, (paid (only some)).2))
          (why (Acked ack) (λ u p. cc) (answer (Acked ack) (λ p. cc) sound paid))
      of_heard Noise sound paid only may =
          apart-affords silences bads spent top below finds costs quick
          (λ some. ((paid (only some)).1, (paid (only some)).2))
          (why Noise (λ u p. cc) (answer Noise (λ p. cc) sound paid))

  -- a mute of what the top range spelt is lost
  read_lost-affords : (u tries spare bads : ℕ) (top : Span) (below : List Span) (h : Heard) → is_acked h ≡ false
      → Finds present s.state (found_uids a) → NoisyStep present s.state (Mute u) h new.state
      → CostsRead present s (found_uids a) u tries top below base
      → Affords present (total + bonus) new (to_phase a (mute_lost a.search u tries spare bads top below))
  read_lost-affords u tries spare bads top below h lost f step costs =
      let few = costs.few in let is = costs.cost_is in
      let some = read-some present s (found_uids a) u tries top below base costs in
      goes_on (mute_lost a.search u tries spare bads top below)
      (Finds-keeps present (found_uids a) s.state new.state (mute-keeps present s.state new.state u h step) f)
      (cond_both ((tries + 1) == TRIES) _ _ (Cheaper a.search present new (found_uids a) (base + bonus))
      (λ five. let last = eqb-true (tries + 1) TRIES five in let why = apart last costs.spelt in
      apart-costs present (found_uids a) top set.ascending new below costs.ranges (costs.reserve + bonus) why.0
      (elim why.1 [ inl two ↦ inl two | inr paid ↦ inr (omega (arith, paid)) ]) costs.covered a.search (base + bonus)
      bads 9 (omega arith) (omega (arith, is, last)))
      (λ fewer. let other : tries + 1 ≡ TRIES → ⊥ = eqb-false (tries + 1) TRIES fewer in
      let less : tries + 1 ≤ 4 = grind (arith, other, few) in record {
        left = base - 2;
        saves = omega (arith, few, is, some);
        costs = record {
          ranges = costs.ranges;
          reserve = costs.reserve;
          few = less;
          new = costs.new;
          lost = λ here. let one_more = (lost-mute present s.state new.state u h lost step here).0 in
              let so_far = costs.lost here in omega (arith, one_more, so_far);
          spelt = costs.spelt;
          covered = costs.covered;
          cost_is = omega (arith, few, is, some);
        };
      }))
    where
      apart : tries + 1 ≡ TRIES → (has present u ≡ true) ⊎ (((top.lo == top.hi) ≡ false)
          × ((2 ≤ left_in present (found_uids a) top) ⊎ (30 ≤ costs.reserve)))
          → ((top.lo == top.hi) ≡ false) × ((2 ≤ left_in present (found_uids a) top) ⊎ (30 ≤ costs.reserve))
      apart five (inl here) =
          let few = (lost-mute present s.state new.state u h lost step here).1 in let so_far = costs.lost here in
          absurd (omega (arith, five, few, so_far))
      apart five (inr why) = why

  -- its reply is garbled
  read_garbled-affords : (u tries spare bads : ℕ) (top : Span) (below : List Span) (h : Heard) → is_acked h ≡ false
      → 30 ≤ bonus → Finds present s.state (found_uids a) → NoisyStep present s.state (Mute u) h new.state
      → CostsRead present s (found_uids a) u tries top below base
      → Affords present (total + bonus) new
      (to_phase a (cond (nat_lt 0 spare) (MutingRead u tries (spare - 1) bads top below)
      (mute_lost a.search u tries spare bads top below)))
  read_garbled-affords u tries spare bads top below h lost paid f step costs =
      cond_both (nat_lt 0 spare) _ _ (λ p. Affords present (total + bonus) new (to_phase a p))
      (λ spares. goes_on (MutingRead u tries (spare - 1) bads top below)
      (Finds-keeps present (found_uids a) s.state new.state (mute-keeps present s.state new.state u h step) f)
      (record {
        left = base;
        saves = omega (arith, paid);
        costs = record {
          ranges = costs.ranges;
          reserve = costs.reserve;
          few = costs.few;
          new = costs.new;
          lost = λ here. let one_more = (lost-mute present s.state new.state u h lost step here).0 in
              let so_far = costs.lost here in omega (arith, one_more, so_far);
          spelt = costs.spelt;
          covered = costs.covered;
          cost_is = costs.cost_is;
        };
      }))
      (λ counts. read_lost-affords u tries spare bads top below h lost f step costs)

  -- a mute of what the top range spelt
  pub read-affords : (u tries spare bads : ℕ) (top : Span) (below : List Span) (h : Heard) → h ≢ Failed
      → ((has_bytes h && not (is_acked h)) ≡ true → 30 ≤ bonus)
      → Finds present s.state (found_uids a) → NoisyStep present s.state (Mute u) h new.state
      → CostsRead present s (found_uids a) u tries top below base
      → Affords present (total + bonus) new (mute_heard a u tries spare bads top below h)
  read-affords u tries spare bads top below (Acked ack) sound paid f step costs =
      let acked = acked-mute present s.state new.state u ack step in let tried = costs.few in let is = costs.cost_is in
      to_found-affords present set few total base bonus s new a within kept room u ack (Searching 0 0 0 top below)
      acked.0 acked.1
      (mute-keeps present s.state new.state u (Acked ack) step) f
      (λ more grows now one_more.
      let pays = Covers-device present (found_uids a) more grows u top below costs.ranges acked.0
      (new-left (found_uids a) top u costs.new) now costs.covered in let fewer = pays.1 in
      record {
        left = pays.0;
        saves = omega arith;
        costs = record {
          ranges = pays.0;
          used = 0;
          reserve = 0;
          few = omega arith;
          either = inl (record { used_is = refl; spent_is = inl refl });
          alone = λ one. omega arith;
          covered = pays.2;
          cost_is = omega arith;
        };
      })
  read-affords u tries spare bads top below Failed sound paid f step costs = absurd (sound refl)
  read-affords u tries spare bads top below Silent sound paid f step costs =
      read_lost-affords u tries spare bads top below Silent refl f step costs
  read-affords u tries spare bads top below (One v) sound paid f step costs =
      read_garbled-affords u tries spare bads top below (One v) refl (paid refl) f step costs
  read-affords u tries spare bads top below Noise sound paid f step costs =
      read_garbled-affords u tries spare bads top below Noise refl (paid refl) f step costs
