-- What an exchange of a sweep pays, on a noisy line too.
use Rattle.rdm_agent.proofs.Common.{◌≡◌, ℕ, ◌+◌, ◌-◌, ◌*◌, ◌<◌, ◌≤◌, true, false, ◌&&◌, not, List, ◌∷◌, length, refl}
use Rattle.rdm_agent.proofs.Common.{inl, inr, true≢false, arith, ◌==◌, nat_lt, ◌≢◌, cond_both, and_parts, eqb-false}
use Rattle.rdm_agent.proofs.Common.{ltb-true, length-map, has, IsDeviceSet, MOST_DEVICES, Span, whole, Heard, sym, ◌∙◌}
use Rattle.rdm_agent.proofs.Common.{Branch, Mute, Failed, Silent, One, Acked, Noise, Phase, AgentState, cond}
use Rattle.rdm_agent.proofs.Common.{found_uids, is_new, is_one, is_whole, is_wanted, is_last, counted, sweep_suspecting}
use Rattle.rdm_agent.proofs.Common.{choose, to_phase, sweep_on, sweep_silent, sweep_apart, sweep_heard, swept_heard}
use Rattle.rdm_agent.proofs.Common.{believed_silent, believed_apart, Sweeping, MutingSwept, Search, Ended, None, Some}
use Rattle.rdm_agent.proofs.Common.{TRIES, Belief, Sweep, sweep_on_after, sweep_split, sweep_spelt, counted_spelt}
use Rattle.rdm_agent.proofs.Common.{sweep_limit, limit_of}
use Rattle.rdm_agent.proofs.Common.{counted_silent, hearing, is_stray, Checking, search_whole, bads_aside}
use Rattle.rdm_agent.proofs.Common.{swept_lost, is_in_vain, BAD_ANSWERS, cases_Bool, eqb-true, subst}
use Rattle.rdm_agent.proofs.Common.{NoisyStep, has_bytes, is_acked, due_in, give_up, is_broadcast, Bool}
use Rattle.rdm_wire.specs.Noisy.{is_disturbed_branch, MayHearInNoise}
use Rattle.rdm_agent.specs.declared.belief.Part.{Part}
use Rattle.rdm_agent.specs.declared.belief.Part.TheVariants as parts
use Rattle.rdm_agent.specs.Machine.{to_apart, fifth_silence, put_apart, given_up, asks_on, is_turn_over, badly_alone}
use Rattle.rdm_agent.specs.Machine.{found_belief, spare_of_answer}
use Rattle.rdm_agent.specs.Beliefs.{is_suspect, end_answered}
use Rattle.rdm_agent.specs.Apart.{without, has_room, ask_turn, next_gap, set_apart}
use Rattle.rdm_agent.proofs.SweepRuns.{stray-is}
use Rattle.rdm_agent.proofs.SuspectLemmas.{choose-vain, silent-vain, apart-vain, answered-vain}
use Rattle.rdm_agent.proofs.SuspectLemmas.{hearing-vain, ask_turn-vain, gap-vain, set_apart-vain}
use Rattle.rdm_agent.proofs.SuspectLemmas.{found_belief-vain, give_up-vain}
use Rattle.rdm_agent.proofs.Choices.{IsChosen, chosen}
use Rattle.rdm_agent.proofs.CorruptLemmas.{is_new-device}
use Rattle.rdm_agent.proofs.Potential.{unfound, is_left, left_in, sweep_cost, CostsSweeping, CostsSwept, Finds, Affords}
use Rattle.rdm_agent.proofs.Potential.{Watched, with_aside, IsVain, paid_limit}
use Rattle.std.proofs.Math.Nat.{min-le_left}
use Rattle.rdm_agent.proofs.LeftLemmas.{no_more, no_more_than}
use Rattle.rdm_agent.proofs.CoverLemmas.{one_uid}
use Rattle.rdm_agent.proofs.PaidLemmas.{Cheaper, CountsOneMore, mute-keeps, acked-mute, lost-mute, alone-present}
use Rattle.rdm_agent.proofs.PaidLemmas.{Finds-keeps, to_phase-affords, to_found-affords, answered}

-- no more than was paid for
pub limit-paid : (found apart : ℕ) → sweep_limit found apart ≤ paid_limit found apart
limit-paid found apart = let least = min-le_left apart (found + 2) in omega (arith, least)

-- what is still needed after an exchange
pub record Pays (present found : List ℕ) (aside credit made cost : ℕ) : Type 0 where
  pub more : ℕ
  pub below : made ≤ paid_limit (length found) aside + 5 + more
  pub enough : sweep_cost present found + 120 * aside + 2 + 2 * more + credit ≤ cost + 2 * made

-- the same after so many bad answers in a row of one UID alone, which saved this
pub record Saved (present found : List ℕ) (aside bads made cost : ℕ) : Type 0 where
  pub credit : ℕ
  pub saved : bads ≤ bads_aside → 30 * bads ≤ credit
  pub pays : Pays present found aside credit made cost

-- a mute that isn't acknowledged
module _ (present : List ℕ) (s new : Watched) (u tries : ℕ) (h : Heard) (lost : is_acked h ≡ false)
    (step : NoisyStep present s.state (Mute u) h new.state)
    (so_far : has present u ≡ true → tries ≤ s.state.lost_mutes) where
  pub one-lost : has present u ≡ true → tries + 1 ≤ new.state.lost_mutes
  one-lost here = let one_more = (lost-mute present s.state new.state u h lost step here).0 in
      let before = so_far here in omega (arith, one_more, before)

  -- after the fifth it isn't present
  pub all-lost : tries + 1 ≡ TRIES → has present u ≡ true → ⊥
  all-lost all here = let most = (lost-mute present s.state new.state u h lost step here).1 in
      let before = so_far here in omega (arith, all, most, before)

  pub lost-vain : tries + 1 ≡ TRIES → IsVain present (Some u)
  lost-vain all v is = elim (cases_Bool (has present v)) [
    | inl here ↦ absurd (all-lost all (subst (λ (w : ℕ). has present w ≡ true) (sym (eqb-true u v is)) here))
    | inr absent ↦ absent
  ]

module _ (search : Search) (present : List ℕ) (line : Watched) (found : List ℕ) (cost : ℕ) where
  -- the steady search begins
  begins-costs : (made silences credit : ℕ) → silences ≤ 4 → Pays present found line.aside credit made cost
      → Cheaper search present line found cost (search_whole silences)
  begins-costs made silences credit few pays =
      let below = pays.below in let enough = pays.enough in let fewer = all_left in
      record {
        left = 10 + left_in present found whole * 740 - 2 * silences;
        saves = omega arith;
        costs = record {
          ranges = 10 + left_in present found whole * 740;
          used = silences;
          reserve = 0;
          few = omega arith;
          either = inl (record { used_is = refl; spent_is = inl refl });
          alone = λ one. omega arith;
          covered = (48, 0, refl, omega arith, tt);
          cost_is = omega arith;
        };
      }
    where
      all_left : left_in present found whole ≤ length (unfound present found)
      all_left = no_more (λ u. not (has found u)) (is_left found whole) present
          (λ u left. (and_parts _ (not (has found u)) left).1)

  asks-costs : (made silences bads credit : ℕ) (last : Span) (c : Sweep)
      → made < paid_limit (length found) line.aside → bads ≤ line.row → (bads ≤ 3 → 30 * bads ≤ credit)
      → Pays present found line.aside credit made cost → IsChosen made silences bads last c
      → IsVain present c.belief.suspect → Cheaper search present line found cost (Sweeping c)
  asks-costs made silences bads credit last c under in_row saved pays is vain =
      let enough = pays.enough in let same = is.made_is in let few = is.asks.few in
      record {
        left = cost - 2;
        saves = let below = pays.below in omega arith;
        costs = record {
          credit = credit;
          few = omega arith;
          below = omega arith;
          enough = omega arith;
          saved = λ fewer. elim is.bads_are [
            | inl again ↦ let as_many = again.1 in let some = saved (omega (arith, as_many, fewer)) in
                omega (arith, as_many, some)
            | inr other ↦ let zero = other.1 in omega (arith, zero)
          ];
          alone = λ one. elim is.bads_are [
            | inl again ↦ let as_many = again.1 in omega (arith, as_many, in_row)
            | inr other ↦ let zero = other.1 in omega (arith, zero)
          ];
          vain = vain;
        };
      }

  pub on-costs : (sweep : Sweep) (last : Span) (silences bads credit limit : ℕ) (b : Belief) → silences ≤ 4
      → bads ≤ line.row → (bads ≤ 3 → 30 * bads ≤ credit) → limit ≤ paid_limit (length found) line.aside
      → IsVain present b.suspect → Pays present found line.aside credit sweep.made cost
      → Cheaper search present line found cost (sweep_on_after sweep last silences bads limit b)
  on-costs sweep last silences bads credit limit b few in_row saved most vain pays =
      cond_both (nat_lt sweep.made limit) _ _ (Cheaper search present line found cost)
      (λ goes. let under : sweep.made < limit = ltb-true sweep.made limit goes in
      asks-costs sweep.made silences bads credit last (choose sweep.made silences bads last b)
      (omega (arith, under, most)) in_row saved pays (chosen sweep.made silences bads last b (omega (arith, few)))
      (choose-vain present sweep.made silences bads last b vain))
      (λ out. cond_both (is_whole last) silences 0
      (λ m. Cheaper search present line found cost (search_whole m))
      (λ all. begins-costs sweep.made silences credit few pays)
      (λ other. begins-costs sweep.made 0 credit (omega arith) pays))

  -- what was asked collided, and then a range was silent so often
  pub split-costs : (sweep : Sweep) (last : Span) (silences limit : ℕ) → silences ≤ 4
      → limit ≤ paid_limit (length found) line.aside
      → IsVain present sweep.belief.suspect → Pays present found line.aside 0 sweep.made cost
      → Cheaper search present line found cost (sweep_split sweep last silences limit)
  split-costs sweep last silences limit few most vain pays =
      cond_both (is_last sweep.question.part && is_in_vain sweep.belief) _ _
      (Cheaper search present line found cost)
      (λ found_nothing. begins-costs sweep.made 0 0 (omega arith) pays)
      (λ goes. on-costs sweep last silences 0 0 limit
      (believed_apart sweep.question.part sweep.question.range sweep.silences sweep.belief) few (omega arith)
      (λ none. omega arith) most
      (apart-vain present sweep.question.part sweep.question.range sweep.silences sweep.belief vain) pays)

module _ (present : List ℕ) (set : IsDeviceSet present) (few : length present ≤ MOST_DEVICES) (total base bonus : ℕ)
    (s new : Watched) (a : AgentState) (within : 2 * a.frames + base ≤ total) (kept : new.aside ≡ s.aside)
    (room : length a.apart ≤ new.aside) where
  abbrev After : AgentState → Type 0
  After b = Affords present (total + bonus) new b

  -- if this branch was disturbed it is one more in a row, seven are the most, and it pays for itself
  abbrev IsRow : Span → Heard → Type 0
  IsRow r h = is_disturbed_branch (due_in present s.state.muted r.lo r.hi) h ≡ true
      → (s.row + 1 ≡ new.row) × (new.row ≤ 7) × (30 ≤ bonus)

  pub many : length a.found ≡ length (found_uids a)
  many = sym (length-map a.found (λ d. d.uid))

  pub limit_room : limit_of a ≤ paid_limit (length (found_uids a)) new.aside
  limit_room = let paid = limit-paid (length a.found) (length a.apart) in omega (arith, many, room, paid)

  pub goes_on : (phase : Phase) → Finds present new.state (found_uids a)
      → Cheaper a.search present new (found_uids a) (base + bonus) phase → After (to_phase a phase)
  goes_on phase f cheaper = to_phase-affords present set few total base bonus s new a within kept room phase f cheaper

  -- and these are set apart, no more than this
  goes_on-apart : (us : List ℕ) (more : Bool) (aside : ℕ) (phase : Phase) → length us ≤ aside
      → Finds present new.state (found_uids a)
      → Cheaper a.search present (with_aside aside new) (found_uids a) (base + bonus) phase
      → After (to_apart a us more phase)
  goes_on-apart us more aside phase fit f cheaper = let saves = cheaper.saves in record {
    aside = aside;
    room = fit;
    cost = cheaper.left;
    costs = cheaper.costs;
    within = omega arith;
    finds = f;
  }

  -- a sweep after an exchange that found nobody
  module _ (sweep : Sweep) (f : Finds present new.state (found_uids a))
      (pays : Pays present (found_uids a) new.aside 0 sweep.made (base + bonus)) where
    -- the sweep goes on, whatever it believes
    saving : (silences bads credit : ℕ) (b : Belief) → silences ≤ 4 → bads ≤ new.row
        → (bads ≤ 3 → 30 * bads ≤ credit) → IsVain present b.suspect
        → Pays present (found_uids a) new.aside credit sweep.made (base + bonus)
        → After (to_phase a (sweep_on sweep silences bads (limit_of a) b))
    saving silences bads credit b few in_row saved vain pays =
        goes_on _ f
        (on-costs a.search present new (found_uids a) (base + bonus) sweep sweep.question.range silences bads credit
        (limit_of a) b few in_row saved limit_room vain pays)

    onward : (silences : ℕ) (b : Belief) → silences ≤ 4 → IsVain present b.suspect
        → After (to_phase a (sweep_on sweep silences 0 (limit_of a) b))
    onward silences b few vain = saving silences 0 0 b few (omega arith) (λ none. omega arith) vain pays

    -- what it asked was silent for the fifth time
    fifth-affords : (part : Part) → After (fifth_silence part a sweep)
    fifth-affords part = of_part part
      where
        above : After (cond (is_whole sweep.question.range) (to_phase a (Ended None))
            (to_phase a (sweep_on sweep 0 0 (limit_of a) (next_gap (sweep.belief.top + 1) a.apart sweep.belief))))
        above = cond_both (is_whole sweep.question.range) _ _ After
            (λ all. goes_on (Ended None) f
            (let below = pays.below in let enough = pays.enough in
            record { left = 0; saves = omega arith; costs = refl }))
            (λ gap. onward 0 (next_gap (sweep.belief.top + 1) a.apart sweep.belief) (omega arith)
            (gap-vain present (sweep.belief.top + 1) a.apart sweep.belief))

        fewer : length (without sweep.question.range.hi a.apart) ≤ new.aside
        fewer = let most : length (without sweep.question.range.hi a.apart) ≤ length a.apart =
            no_more_than (λ v. not (v == sweep.question.range.hi)) a.apart in omega (arith, most, room)

        of_part : (part : Part) → After (fifth_silence part a sweep)
        of_part parts.Apart = goes_on-apart (without sweep.question.range.hi a.apart) a.more new.aside _ fewer f
            (on-costs a.search present (with_aside new.aside new) (found_uids a) (base + bonus) sweep
            sweep.question.range 0 0 0
            (sweep_limit (length a.found) (length (without sweep.question.range.hi a.apart)))
            (ask_turn (without sweep.question.range.hi a.apart) sweep.belief.turn sweep.belief)
            (omega arith) (omega arith) (λ none. omega arith)
            (let paid = limit-paid (length a.found) (length (without sweep.question.range.hi a.apart)) in
            omega (arith, many, fewer, paid))
            (ask_turn-vain present (without sweep.question.range.hi a.apart) sweep.belief.turn sweep.belief) pays)
        of_part parts.Fresh = above
        of_part parts.Lower = above
        of_part parts.Rest = above
        of_part parts.All = above
        of_part parts.Whole = above
        of_part parts.End = above
        of_part parts.Spelt = above

    module _ (vain : IsVain present sweep.belief.suspect) where
      silent-affords : sweep.silences ≤ 4 → After (sweep_silent a sweep)
      silent-affords few = cond_both ((sweep.silences + 1) == TRIES) _ _ After
          (λ five. fifth-affords sweep.question.part)
          (λ other. let not_five = eqb-false (sweep.silences + 1) TRIES other in
          onward (sweep.silences + 1) (believed_silent sweep.question.part sweep.question.range sweep.belief)
          (grind (arith, few, not_five))
          (silent-vain present sweep.question.part sweep.question.range sweep.belief vain))

      -- one UID that was asked alone is given up, or set apart
      aside-affords : (u : ℕ) → bads_aside ≤ new.row
          → Saved present (found_uids a) new.aside bads_aside sweep.made (base + bonus) → After (put_apart a sweep u)
      aside-affords u in_row save = cond_both (is_broadcast u) _ _ After (λ broadcast. given)
          (λ own. cond_both (has_room a.apart) _ _ After
          (λ space. goes_on-apart (u ∷ a.apart) a.more (new.aside + 1) _ (omega arith) f
          (on-costs a.search present (with_aside (new.aside + 1) new) (found_uids a) (base + bonus) sweep
          sweep.question.range 0 bads_aside 0 (sweep_limit (length a.found) (length (u ∷ a.apart)))
          (set_apart u (u ∷ a.apart) sweep.belief) (omega arith) in_row (λ fewer. absurd (omega (arith, fewer)))
          (let most = limit-paid (length a.found) (length (u ∷ a.apart)) in omega (arith, many, room, most))
          (set_apart-vain present u (u ∷ a.apart) sweep.belief) paid))
          (λ full. goes_on-apart a.apart true new.aside _ room f
          (on-costs a.search present (with_aside new.aside new) (found_uids a) (base + bonus) sweep
          sweep.question.range 0 bads_aside 0 (limit_of a) (give_up u sweep.belief) (omega arith) in_row
          (λ fewer. absurd (omega (arith, fewer))) limit_room (give_up-vain present u sweep.belief vain) pays)))
        where
          given : After (to_phase a (given_up (limit_of a) sweep u))
          given = saving 0 bads_aside 0 (give_up u sweep.belief) (omega arith) in_row
              (λ fewer. absurd (omega (arith, fewer))) (give_up-vain present u sweep.belief vain) pays

          -- what its four bad answers saved
          paid : Pays present (found_uids a) (new.aside + 1) 0 sweep.made (base + bonus)
          paid = let most = save.pays.below in let enough = save.pays.enough in let some = save.saved (omega arith) in
              record { more = save.pays.more; below = omega arith; enough = omega arith }

      -- what it asked was answered badly. If that was one UID alone, each such branch in a row was disturbed
      apart-affords : (sweep.question.range.lo ≡ sweep.question.range.hi
          → (sweep.bads + 1 ≤ new.row) × (new.row ≤ 7)
          × Saved present (found_uids a) new.aside (sweep.bads + 1) sweep.made (base + bonus))
          → After (sweep_apart a sweep)
      apart-affords rows = cond_both (is_one sweep.question.range) _ _ After
          (λ one. alone (rows (eqb-true sweep.question.range.lo sweep.question.range.hi one)))
          (λ several. goes_on _ f
          (split-costs a.search present new (found_uids a) (base + bonus) sweep sweep.question.range 0 (limit_of a)
          (omega arith) limit_room vain pays))
        where
          SavedNow : Type 0
          SavedNow = Saved present (found_uids a) new.aside (sweep.bads + 1) sweep.made (base + bonus)

          on : sweep.bads + 1 ≤ new.row → SavedNow → (b : Belief) → IsVain present b.suspect
              → After (to_phase a (sweep_on sweep 0 (sweep.bads + 1) (limit_of a) b))
          on in_row save b hides = saving 0 (sweep.bads + 1) save.credit b (omega arith) in_row
              (λ fewer. save.saved (omega (arith, fewer))) hides save.pays

          aside : sweep.bads + 1 ≤ new.row → SavedNow
              → After (cond ((sweep.bads + 1) == bads_aside) (put_apart a sweep sweep.question.range.hi)
              (to_phase a (sweep_on sweep 0 (sweep.bads + 1) (limit_of a) (end_answered sweep.belief))))
          aside in_row save = cond_both ((sweep.bads + 1) == bads_aside) _ _ After
              (λ is. let four = eqb-true (sweep.bads + 1) bads_aside is in
              aside-affords sweep.question.range.hi (omega (arith, four, in_row))
              (subst (λ n. Saved present (found_uids a) new.aside n sweep.made (base + bonus)) four save))
              (λ again. on in_row save (end_answered sweep.belief) (answered-vain present sweep.belief vain))

          of_part : sweep.bads + 1 ≤ new.row → SavedNow → (part : Part)
              → After (asks_on part a sweep (sweep.bads + 1))
          of_part in_row save parts.Apart =
              on in_row save
              (cond (is_turn_over a.apart sweep (sweep.bads + 1))
              (ask_turn a.apart (sweep.belief.turn + 1) sweep.belief) sweep.belief)
              (cond_both (is_turn_over a.apart sweep (sweep.bads + 1)) _ _ (λ (b : Belief). IsVain present b.suspect)
              (λ over. ask_turn-vain present a.apart (sweep.belief.turn + 1) sweep.belief) (λ again. vain))
          of_part in_row save parts.Fresh = aside in_row save
          of_part in_row save parts.Lower = aside in_row save
          of_part in_row save parts.Rest = aside in_row save
          of_part in_row save parts.All = aside in_row save
          of_part in_row save parts.Whole = aside in_row save
          of_part in_row save parts.End = aside in_row save
          of_part in_row save parts.Spelt = aside in_row save

          alone : (sweep.bads + 1 ≤ new.row) × (new.row ≤ 7) × SavedNow
              → After (badly_alone a sweep (sweep.bads + 1))
          alone rows = let in_row = rows.0 in let most = rows.1 in
              cond_both ((sweep.bads + 1) == BAD_ANSWERS) _ _ After
              (λ all. absurd (let eight = eqb-true (sweep.bads + 1) BAD_ANSWERS all in
              omega (arith, eight, in_row, most)))
              (λ fewer. of_part in_row rows.2 sweep.question.part)

  -- the range is branched
  module _ (sweep : Sweep) (f : Finds present new.state (found_uids a))
      (costs : CostsSweeping present s.row s.aside (found_uids a) sweep base) where
    paid : Pays present (found_uids a) new.aside 0 (sweep.made + 1) (base + bonus)
    paid = let below = costs.below in let enough = costs.enough in
        record { more = 0; below = omega arith; enough = omega arith }

    saves : 30 ≤ bonus → Saved present (found_uids a) new.aside (sweep.bads + 1) (sweep.made + 1) (base + bonus)
    saves some = let below = costs.below in let enough = costs.enough in record {
      credit = costs.credit + 30;
      saved = λ four. let before = costs.saved (omega (arith, four)) in omega (arith, before);
      pays = record { more = 0; below = omega arith; enough = omega (arith, some, enough, kept) };
    }

    heard-vain : (u : ℕ) → IsVain present (hearing u sweep.belief).suspect
    heard-vain u = hearing-vain present u sweep.belief costs.vain

    -- one UID alone was answered badly once more
    abbrev OneMore : Type 0
    OneMore = sweep.question.range.lo ≡ sweep.question.range.hi → (sweep.bads + 1 ≤ new.row) × (new.row ≤ 7)
        × Saved present (found_uids a) new.aside (sweep.bads + 1) (sweep.made + 1) (base + bonus)

    spelt-affords : (u : ℕ) → MayHearInNoise present sweep.question.range.lo sweep.question.range.hi (One u)
        → (is_wanted (found_uids a) (counted_spelt u sweep) u ≡ false → OneMore)
        → After (sweep_spelt a (counted_spelt u sweep) u)
    spelt-affords u may rows =
        cond_both (is_wanted (found_uids a) (counted_spelt u sweep) u) _ _ After muted
        (λ refused. cond_both (is_stray (found_uids a) a.apart (counted_spelt u sweep) u) _ _ After checked
        (λ split. apart-affords (counted_spelt u sweep) f paid (heard-vain u) (rows refused)))
      where
        checked : is_stray (found_uids a) a.apart (counted_spelt u sweep) u ≡ true
            → After (to_phase a (Checking u 0 (counted_spelt u sweep)))
        checked stray =
            let under = costs.below in let enough = costs.enough in
            goes_on (Checking u 0 (counted_spelt u sweep)) f (record {
              left = base - 2;
              saves = omega arith;
              costs = record {
                new = (stray-is (found_uids a) a.apart (counted_spelt u sweep) u stray).new;
                few = omega arith;
                below = omega arith;
                enough = omega arith;
                vain = heard-vain u;
              };
            })

        muted : is_wanted (found_uids a) (counted_spelt u sweep) u ≡ true → After
            (to_phase a (MutingSwept u 0 (spare_of_answer (counted_spelt u sweep)) (counted_spelt u sweep)))
        muted wanted =
            let fresh = (and_parts (is_new (found_uids a) sweep.question.range u) _ wanted).0 in
            let under = costs.below in let enough = costs.enough in
            goes_on (MutingSwept u 0 (spare_of_answer (counted_spelt u sweep)) (counted_spelt u sweep)) f (record {
              left = base - 2;
              saves = omega arith;
              costs = record {
                more = 0;
                few = omega arith;
                below = omega arith;
                enough = omega arith;
                new = (is_new-device (found_uids a) sweep.question.range u fresh).new;
                lost = λ here. omega arith;
                alone = λ one. alone-present present (found_uids a) sweep.question.range u may one fresh;
                vain = heard-vain u;
              };
            })

    -- what isn't a new device's text was disturbed
    disturbs : (h : Heard) → h ≢ Silent → h ≢ Failed → IsRow sweep.question.range h
        → Finds present s.state (found_uids a)
        → ((u : ℕ) → h ≡ One u → has present u ≡ true → is_new (found_uids a) sweep.question.range u ≡ true → ⊥)
        → OneMore
    disturbs h loud sound rows before refused one =
        elim (answered present (found_uids a) s.state sweep.question.range h set loud sound before) [
          | inl spells ↦ absurd (refused spells.uid spells.heard spells.here spells.new)
          | inr (inl two) ↦ absurd (let most = one_uid present (found_uids a) sweep.question.range (omega (arith, one))
              set.ascending in omega (arith, two, most))
          | inr (inr is) ↦ let next = (rows is).0 in let so_far = costs.alone one in
              (omega (arith, so_far, next), (rows is).1, saves (rows is).2)
        ]

  -- what is new and isn't muted was muted in vain
  refused-absent : (sweep : Sweep) (u : ℕ) → IsVain present sweep.belief.suspect
      → is_wanted (found_uids a) sweep u ≡ false → has present u ≡ true
      → is_new (found_uids a) sweep.question.range u ≡ true → ⊥
  refused-absent sweep u vain refused here fresh = elim (cases_Bool (is_suspect sweep.belief.suspect u)) [
    | inl is ↦ true≢false (sym here ∙ vain u is)
    | inr other ↦ true≢false (sym (wanted fresh other) ∙ refused)
  ]
    where
      wanted : is_new (found_uids a) sweep.question.range u ≡ true → is_suspect sweep.belief.suspect u ≡ false
          → is_wanted (found_uids a) sweep u ≡ true
      wanted fresh other = rw (fresh, other) refl

  pub sweeping-affords : (sweep : Sweep) (h : Heard) → h ≢ Failed
      → IsRow sweep.question.range h → Finds present s.state (found_uids a) → NoisyStep present s.state
      (Branch sweep.question.range.lo sweep.question.range.hi) h new.state
      → CostsSweeping present s.row s.aside (found_uids a) sweep base → After (sweep_heard a sweep h)
  sweeping-affords sweep h sound disturbed f step costs = of_heard h sound disturbed step.0
    where
      finds : Finds present new.state (found_uids a)
      finds = Finds-keeps present (found_uids a) s.state new.state (λ u muted. step.1 u ∙ muted) f

      same : (u v : ℕ) → One u ≡ One v → u ≡ v
      same u v p = cc

      noisy : (k : Heard) → k ≢ Silent → k ≢ Failed → ((u : ℕ) → k ≡ One u → ⊥) → IsRow sweep.question.range k
          → After (sweep_apart a (counted sweep))
      noisy k loud sound noise rows =
          apart-affords (counted sweep) finds (paid sweep finds costs) costs.vain
          (disturbs sweep finds costs k loud sound rows f (λ u is here fresh. noise u is))

      of_heard : (k : Heard) → k ≢ Failed → IsRow sweep.question.range k
          → MayHearInNoise present sweep.question.range.lo sweep.question.range.hi k → After (sweep_heard a sweep k)
      of_heard Silent sound rows may =
          silent-affords (counted_silent sweep) finds (paid sweep finds costs) costs.vain costs.few
      of_heard (One u) sound rows may =
          spelt-affords sweep finds costs u may
          (λ refused. disturbs sweep finds costs (One u) (λ p. cc) sound rows f
          (λ v is here fresh. refused-absent (counted_spelt u sweep) u (heard-vain sweep finds costs u) refused
          (subst (λ (w : ℕ). has present w ≡ true) (sym (same u v is)) here)
          (subst (λ (w : ℕ). is_new (found_uids a) sweep.question.range w ≡ true) (sym (same u v is)) fresh)))
      of_heard Failed sound rows may = absurd (sound refl)
      of_heard (Acked ack) sound rows may = noisy (Acked ack) (λ p. cc) sound (λ u p. cc) rows
      of_heard Noise sound rows may = noisy Noise (λ p. cc) sound (λ u p. cc) rows

  -- what it spelt is muted
  lost-affords : (u tries spare : ℕ) (sweep : Sweep) (h : Heard) → is_acked h ≡ false
      → Finds present s.state (found_uids a) → NoisyStep present s.state (Mute u) h new.state
      → CostsSwept present s (found_uids a) u tries sweep base
      → After (swept_lost a u tries spare (counted sweep))
  lost-affords u tries spare sweep h lost f step costs =
      let few = costs.few in let under = costs.below in let enough = costs.enough in
      cond_both ((tries + 1) == TRIES) _ _ After
      (λ five. let all = eqb-true (tries + 1) TRIES five in
      apart-affords (sweep_suspecting u (counted sweep)) finds
      (record { more = costs.more; below = omega arith; enough = omega arith })
      (lost-vain present s new u tries h lost step costs.lost all)
      (λ one. absurd (all-lost present s new u tries h lost step costs.lost all (costs.alone one))))
      (λ fewer. let other : tries + 1 ≡ TRIES → ⊥ = eqb-false (tries + 1) TRIES fewer in
      let less : tries + 1 ≤ 4 = grind (arith, other, few) in
      goes_on (MutingSwept u (tries + 1) spare (counted sweep)) finds (record {
        left = base - 2;
        saves = omega arith;
        costs = record {
          more = costs.more;
          few = less;
          below = omega arith;
          enough = omega arith;
          new = costs.new;
          lost = one-lost present s new u tries h lost step costs.lost;
          alone = costs.alone;
          vain = costs.vain;
        };
      }))
    where
      finds : Finds present new.state (found_uids a)
      finds = Finds-keeps present (found_uids a) s.state new.state (mute-keeps present s.state new.state u h step) f

  -- its reply is garbled
  garbled-affords : (u tries spare : ℕ) (sweep : Sweep) (h : Heard) → is_acked h ≡ false → 30 ≤ bonus
      → Finds present s.state (found_uids a) → NoisyStep present s.state (Mute u) h new.state
      → CostsSwept present s (found_uids a) u tries sweep base
      → After (cond (nat_lt 0 spare) (to_phase a (MutingSwept u tries (spare - 1) (counted sweep)))
      (swept_lost a u tries spare (counted sweep)))
  garbled-affords u tries spare sweep h lost paid f step costs =
      cond_both (nat_lt 0 spare) _ _ After
      (λ spares. let few = costs.few in let under = costs.below in let enough = costs.enough in
      goes_on (MutingSwept u tries (spare - 1) (counted sweep))
      (Finds-keeps present (found_uids a) s.state new.state (mute-keeps present s.state new.state u h step) f)
      (record {
        left = base;
        saves = omega (arith, paid);
        costs = record {
          more = costs.more + 1;
          few = few;
          below = omega arith;
          enough = omega arith;
          new = costs.new;
          lost = λ here. let more = one-lost present s new u tries h lost step costs.lost here in omega (arith, more);
          alone = costs.alone;
          vain = costs.vain;
        };
      }))
      (λ counts. lost-affords u tries spare sweep h lost f step costs)

  pub swept-affords : (u tries spare : ℕ) (sweep : Sweep) (h : Heard) → h ≢ Failed
      → ((has_bytes h && not (is_acked h)) ≡ true → 30 ≤ bonus)
      → Finds present s.state (found_uids a) → NoisyStep present s.state (Mute u) h new.state
      → CostsSwept present s (found_uids a) u tries sweep base → After (swept_heard a u tries spare sweep h)
  swept-affords u tries spare sweep (Acked ack) sound paid f step costs =
      let acked = acked-mute present s.state new.state u ack step in
      to_found-affords present set few total base bonus s new a within kept room u ack
      (sweep_on (counted sweep) 0 0 (sweep_limit (length a.found + 1) (length a.apart)) after) acked.0 acked.1
      (mute-keeps present s.state new.state u (Acked ack) step) f
      (λ more grows now one_more. onward_found more one_more)
    where
      after : Belief
      after = found_belief sweep.question.part u a.apart sweep

      onward_found : (more : List ℕ) → CountsOneMore present (found_uids a) u more
          → Cheaper a.search present new more (base + bonus)
          (sweep_on (counted sweep) 0 0 (sweep_limit (length a.found + 1) (length a.apart)) after)
      onward_found more (inl old) = absurd (true≢false (sym old.0 ∙ costs.new))
      onward_found more (inr one_more) =
          let longer = one_more.0 in let fewer = one_more.1 in let few = costs.few in let under = costs.below in
          let enough = costs.enough in
          on-costs a.search present new more (base + bonus) (counted sweep) sweep.question.range 0 0 0
          (sweep_limit (length a.found + 1) (length a.apart)) after (omega arith) (omega arith) (λ none. omega arith)
          (let paid = limit-paid (length a.found + 1) (length a.apart) in omega (arith, many, longer, room, paid))
          (found_belief-vain present sweep.question.part u a.apart sweep costs.vain)
          (record { more = costs.more; below = omega arith; enough = omega arith })
  swept-affords u tries spare sweep Failed sound paid f step costs = absurd (sound refl)
  swept-affords u tries spare sweep Silent sound paid f step costs =
      lost-affords u tries spare sweep Silent refl f step costs
  swept-affords u tries spare sweep (One v) sound paid f step costs =
      garbled-affords u tries spare sweep (One v) refl (paid refl) f step costs
  swept-affords u tries spare sweep Noise sound paid f step costs =
      garbled-affords u tries spare sweep Noise refl (paid refl) f step costs
