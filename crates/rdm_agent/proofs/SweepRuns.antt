-- An agent that sweeps stands after its exchanges.
use Rattle.rdm_agent.proofs.Common.{◌≡◌, ℕ, ◌+◌, ◌-◌, ◌<◌, ◌≤◌, Bool, true, false, cond, List, [], ◌∷◌, ◌++◌, length}
use Rattle.rdm_agent.proofs.Common.{None, Some, Option, refl, sym, ◌∙◌, subst, arith, ◌≢◌, ◌==◌, ◌&&◌, ◌||◌, not}
use Rattle.rdm_agent.proofs.Common.{nat_lt, nat_le, cond_both, and_parts, eqb-true, eqb-false, eq-eqb, leb-true}
use Rattle.rdm_agent.proofs.Common.{or_right, ltb-true, not-true, true≢false, is_broadcast, IsDevice, Span, whole}
use Rattle.rdm_agent.proofs.Common.{Heard, Seen, is_acked, acked_by, Branch, Mute, Acked, Failed, Silent, One, Noise}
use Rattle.rdm_agent.proofs.Common.{known_of, Phase, AgentState, to_phase, found_uids, is_new, is_wanted, counted}
use Rattle.rdm_agent.proofs.Common.{sweep_suspecting, sweep_on, sweep_silent, sweep_apart, believed_silent}
use Rattle.rdm_agent.proofs.Common.{sweep_heard, swept_heard, MutingSwept, Ended, Kind, TRIES, Sweep, Belief}
use Rattle.rdm_agent.proofs.Common.{Checking, counted_silent, counted_spelt, sweep_spelt, hearing, hushing, is_stray}
use Rattle.rdm_agent.proofs.Common.{is_one, is_whole, Search, Quick, has_bytes, swept_lost, has, is_within, IsCorrupt}
use Rattle.rdm_agent.proofs.Common.{IsCorruptBy, BAD_ANSWERS, answers_in_a_row, bads_aside, append-nil}
use Rattle.rdm_agent.specs.declared.belief.Part.{Part}
use Rattle.rdm_agent.specs.declared.belief.Part.TheVariants as parts
use Rattle.rdm_agent.specs.declared.fault.AgentFault.TheVariants.{Corrupt}
use Rattle.rdm_agent.proofs.Common.{sweep_limit, limit_of}
use Rattle.rdm_agent.specs.Machine.{is_outside, to_apart, fifth_silence, put_apart, asks_on, found_belief}
use Rattle.rdm_agent.specs.Machine.{spare_of_answer}
use Rattle.rdm_agent.specs.Apart.{without, has_room, ask_turn, next_gap}
use Rattle.rdm_agent.specs.Beliefs.{last_uid, end_answered}
use Rattle.rdm_agent.proofs.Choices.{same_range}
use Rattle.rdm_agent.proofs.Members.{first_part}
use Rattle.rdm_agent.proofs.OneDevice.{NotFailed}
use Rattle.rdm_agent.proofs.FoundLemmas.{IsFound-all_reported}
use Rattle.rdm_agent.specs.Cause.{WasBad}
use Rattle.rdm_agent.proofs.BadLemmas.{WereBad, WereBad-push, WereBad-without}
use Rattle.rdm_agent.proofs.Rows.{AnswersOf, NotCorrupt, answered, answers-lost, several-none, none-answers, acked-none}
use Rattle.rdm_agent.proofs.Rows.{silent-none, none-row}
use Rattle.rdm_agent.proofs.CorruptLemmas.{is_new-device, corrupt-reply, corrupt-mutes}
use Rattle.rdm_agent.proofs.UnderWay.{EndsWith-none, EndsWith-push, EndsWith-succession, lost-acks_none}
use Rattle.rdm_agent.proofs.UnderWay.{InSuccession-fewer}
use Rattle.rdm_agent.proofs.SearchPhase.{search-branch, search-lost, search-acked, search-given_up, search-next}
use Rattle.rdm_agent.proofs.SweepPhase.{EndsSilent, on-phase, split-phase}
use Rattle.rdm_agent.proofs.RunLemmas.{exchange, few_more, WasSpelt-push, WasSpelt-succession, to_phase-stands}
use Rattle.rdm_agent.proofs.RunLemmas.{to_found-stands, reported-same, read_is}
use Rattle.rdm_agent.proofs.Invariant.{IsSweeping, IsMutingSwept, WasSpelt, Searches, InPhase, RunInvariant}

-- a UID that was spelt is a device's
pub is_muting_swept-device : (search : Search) (known : List ℕ) (u tries spare : ℕ) (sweep : Sweep) (x : List Seen)
    (found : List ℕ) → IsMutingSwept search known u tries spare sweep x found → IsDevice u
is_muting_swept-device search known u tries spare sweep x found p =
    let new = is_new-device found sweep.question.range u p.new in let to = new.to in let end = p.range.1 in
    record { in_range = omega arith; own = new.own }

-- a sweep with this belief
abbrev pub believing : Belief → Sweep → Sweep
believing b sweep = record sweep { belief = b }

-- a UID that is checked may be a device's, and the range that spelt it is of several UIDs
pub record IsStray (found : List ℕ) (r : Span) (u : ℕ) : Type 0 where
  pub device : IsDevice u
  pub new : has found u ≡ false
  pub several : r.lo ≡ r.hi → ⊥

pub stray-is : (found apart : List ℕ) (sweep : Sweep) (u : ℕ) → is_stray found apart sweep u ≡ true
    → IsStray found sweep.question.range u
stray-is found apart sweep u stray =
    let both = and_parts (is_outside found apart sweep u) _ stray in
    let device = and_parts (nat_le u last_uid) (not (is_broadcast u))
    (and_parts (nat_le u last_uid && not (is_broadcast u)) _ both.0).0 in
    let small : u ≤ last_uid = leb-true u last_uid device.0 in
    let outside = and_parts (not (is_within sweep.question.range.lo sweep.question.range.hi u)) _
    (and_parts (nat_le u last_uid && not (is_broadcast u)) _ both.0).1 in
    record {
      new = not-true (has found u) (and_parts (not (has found u)) _ outside.1).0;
      device = record { in_range = omega (arith, small); own = not-true (is_broadcast u) device.1 };
      several = eqb-false sweep.question.range.lo sweep.question.range.hi
          (not-true (is_one sweep.question.range) (and_parts (not (is_one sweep.question.range)) _ both.1).0);
    }

module _ (kind : Kind) (known : List ℕ) (budget : ℕ) (x : List Seen) (a : AgentState)
    (s : RunInvariant kind known budget x a) (goes : nat_lt a.frames a.budget ≡ true) where
  -- after an exchange that acknowledges nothing
  module _ (e : Seen) (none : acked_by e ≡ None) where
    abbrev After : AgentState → Type 0
    After b = RunInvariant kind known budget (x ++ e ∷ []) b

    stands : (q : Phase) → InPhase a.search kind known budget q (x ++ e ∷ []) (found_uids a) → After (to_phase a q)
    stands q holds = to_phase-stands kind known budget x a s goes e q
        (reported-same kind known budget x a s goes e none) holds

    stands_apart : (us : List ℕ) (more : Bool) (q : Phase) → WereBad us (x ++ e ∷ [])
        → InPhase a.search kind known budget q (x ++ e ∷ []) (found_uids a) → After (to_apart a us more q)
    stands_apart us more q bad holds = let is = stands q holds in record {
      budget_is = is.budget_is;
      frames_are = is.frames_are;
      within = is.within;
      reports = is.reports;
      first = is.first;
      bad = bad;
      phase = is.phase;
    }

    module _ (searches : Searches (known_of kind known) None whole [] (x ++ e ∷ []) (found_uids a))
        (quick : a.search ≡ Quick) where
      -- the sweep goes on, whatever it believes
      onward : (sweep : Sweep) (silences bads limit : ℕ) (b : Belief) → silences < TRIES → bads < BAD_ANSWERS
          → EndsSilent silences sweep.question.range (x ++ e ∷ []) → AnswersOf sweep.question.range bads (x ++ e ∷ [])
          → InPhase a.search kind known budget (sweep_on sweep silences bads limit b) (x ++ e ∷ [])
          (found_uids a)
      onward sweep silences bads limit b few few_bads silent answers =
          on-phase a.search kind known budget (x ++ e ∷ []) (found_uids a) searches quick sweep sweep.question.range
          silences bads limit b few few_bads silent answers

      -- what it asked was silent for the fifth time
      fifth-stands : (sweep : Sweep) → EndsSilent TRIES sweep.question.range (x ++ e ∷ [])
          → ((u : ℕ) → answers_in_a_row u (x ++ e ∷ []) ≡ 0) → (part : Part) → After (fifth_silence part a sweep)
      fifth-stands sweep five no_answers part = of_part part
        where
          fresh : (limit : ℕ) (b : Belief) → InPhase a.search kind known budget (sweep_on sweep 0 0 limit b)
              (x ++ e ∷ []) (found_uids a)
          fresh limit b = onward sweep 0 0 limit b (omega arith) (omega arith) (EndsWith-none _ (x ++ e ∷ []))
              (none-answers sweep.question.range (x ++ e ∷ []) no_answers)

          above : After (cond (is_whole sweep.question.range) (to_phase a (Ended None))
              (to_phase a (sweep_on sweep 0 0 (limit_of a)
              (next_gap (sweep.belief.top + 1) a.apart sweep.belief))))
          above = cond_both (is_whole sweep.question.range) _ _ After
              (λ all. stands (Ended None) (search-next a.search kind known budget whole [] x e (found_uids a) searches
              (EndsWith-succession (subst (λ (r : Span). EndsSilent TRIES r (x ++ e ∷ []))
              (same_range sweep.question.range whole all) five))
              (λ r. subst (λ q. NotCorrupt q r 0 (x ++ e ∷ [])) (sym quick) (none-row r (x ++ e ∷ []) no_answers))))
              (λ gap. stands _ (fresh _ (next_gap (sweep.belief.top + 1) a.apart sweep.belief)))

          of_part : (part : Part) → After (fifth_silence part a sweep)
          of_part parts.Apart = stands_apart (without sweep.question.range.hi a.apart) a.more _
              (WereBad-without sweep.question.range.hi a.apart (x ++ e ∷ []) (WereBad-push a.apart x e s.bad))
              (fresh _ (ask_turn (without sweep.question.range.hi a.apart) sweep.belief.turn sweep.belief))
          of_part parts.Fresh = above
          of_part parts.Lower = above
          of_part parts.Rest = above
          of_part parts.All = above
          of_part parts.Whole = above
          of_part parts.End = above
          of_part parts.Spelt = above

      -- what it asked was answered badly
      badly-stands : (sweep : Sweep) → sweep.bads < BAD_ANSWERS
          → AnswersOf sweep.question.range (sweep.bads + 1) (x ++ e ∷ [])
          → (sweep.question.range.lo ≡ sweep.question.range.hi → sweep.bads + 1 ≡ BAD_ANSWERS
          → IsCorrupt sweep.question.range.lo (x ++ e ∷ [])) → After (sweep_apart a sweep)
      badly-stands sweep few answers corrupt = cond_both (is_one sweep.question.range) _ _ After
          (λ alone. let one = eqb-true sweep.question.range.lo sweep.question.range.hi alone in
          cond_both ((sweep.bads + 1) == BAD_ANSWERS) _ _ After
          (λ all. ended one (eqb-true (sweep.bads + 1) BAD_ANSWERS all))
          (λ fewer. again one (less (eqb-false (sweep.bads + 1) BAD_ANSWERS fewer)) sweep.question.part))
          (λ several. stands _ (split-phase a.search kind known budget (x ++ e ∷ []) (found_uids a) searches quick sweep
          sweep.question.range 0 (limit_of a) (omega arith) (EndsWith-none _ (x ++ e ∷ []))
          (several-none sweep.question.range (sweep.bads + 1) (x ++ e ∷ []) answers
          (eqb-false sweep.question.range.lo sweep.question.range.hi several))))
        where
          less : (sweep.bads + 1 ≡ BAD_ANSWERS → ⊥) → sweep.bads + 1 < BAD_ANSWERS
          less other = grind (arith, few, other)

          ended : sweep.question.range.lo ≡ sweep.question.range.hi → sweep.bads + 1 ≡ BAD_ANSWERS
              → After (to_phase a (Ended (Some (Corrupt sweep.question.range.lo))))
          ended one all = stands (Ended (Some (Corrupt sweep.question.range.lo))) (record {
            before = x;
            last = e;
            whole = refl;
            no_failure = first_part NotFailed x (e ∷ []) searches.under_way.no_failure;
            certified = (
              subst (λ q. IsCorruptBy q sweep.question.range.lo (x ++ e ∷ [])) (sym quick)
                  (corrupt one all, (let many = answers.own one in omega (arith, many, all))),
              IsFound-all_reported (x ++ e ∷ []) (found_uids a) searches.under_way.is_found,
            );
          })

          on : (bads : ℕ) → bads ≡ sweep.bads + 1 → bads < BAD_ANSWERS → (limit : ℕ) (b : Belief)
              → InPhase a.search kind known budget (sweep_on sweep 0 bads limit b) (x ++ e ∷ [])
              (found_uids a)
          on bads is fewer limit b = onward sweep 0 bads limit b (omega arith) fewer (EndsWith-none _ (x ++ e ∷ []))
              (subst (λ n. AnswersOf sweep.question.range n (x ++ e ∷ [])) (sym is) answers)

          was_bad : sweep.question.range.lo ≡ sweep.question.range.hi → sweep.bads + 1 ≡ bads_aside
              → WasBad sweep.question.range.hi (x ++ e ∷ [])
          was_bad one four = record {
            before = x ++ e ∷ [];
            after = [];
            whole = sym (append-nil (x ++ e ∷ []));
            often = let many = answers.own one in
                subst (λ u. 4 ≤ answers_in_a_row u (x ++ e ∷ [])) one (omega (arith, many, four));
          }

          aside : sweep.question.range.lo ≡ sweep.question.range.hi → sweep.bads + 1 ≡ bads_aside
              → After (put_apart a sweep sweep.question.range.hi)
          aside one four =
              cond_both (is_broadcast sweep.question.range.hi) _ _ After
              (λ no_device. stands _ (on bads_aside (sym four) (omega arith) _ _))
              (λ device. cond_both (has_room a.apart) _ _ After
              (λ room. stands_apart (sweep.question.range.hi ∷ a.apart) a.more _
              (was_bad one four, WereBad-push a.apart x e s.bad) (on bads_aside (sym four) (omega arith) _ _))
              (λ full. stands_apart a.apart true _ (WereBad-push a.apart x e s.bad)
              (on bads_aside (sym four) (omega arith) _ _)))

          other : sweep.question.range.lo ≡ sweep.question.range.hi → sweep.bads + 1 < BAD_ANSWERS
              → After (cond ((sweep.bads + 1) == bads_aside)
              (put_apart a sweep sweep.question.range.hi)
              (to_phase a (sweep_on sweep 0 (sweep.bads + 1) (limit_of a) (end_answered sweep.belief))))
          other one fewer = cond_both ((sweep.bads + 1) == bads_aside) _ _ After
              (λ four. aside one (eqb-true (sweep.bads + 1) bads_aside four))
              (λ not_yet. stands _ (on (sweep.bads + 1) refl fewer _ (end_answered sweep.belief)))

          again : sweep.question.range.lo ≡ sweep.question.range.hi → sweep.bads + 1 < BAD_ANSWERS → (part : Part)
              → After (asks_on part a sweep (sweep.bads + 1))
          again one fewer parts.Apart = stands _ (on (sweep.bads + 1) refl fewer _ _)
          again one fewer parts.Fresh = other one fewer
          again one fewer parts.Lower = other one fewer
          again one fewer parts.Rest = other one fewer
          again one fewer parts.All = other one fewer
          again one fewer parts.Whole = other one fewer
          again one fewer parts.End = other one fewer
          again one fewer parts.Spelt = other one fewer

  -- the range is branched
  module _ (sweep : Sweep) (p : IsSweeping a.search (known_of kind known) sweep x (found_uids a)) where
    abbrev branched : Heard → Seen
    branched h = exchange (Branch sweep.question.range.lo sweep.question.range.hi) h

    branches : (busy : Option ℕ) (h : Heard) → h ≢ Failed
        → Searches (known_of kind known) busy whole [] (x ++ branched h ∷ []) (found_uids a)
    branches busy h sound = search-branch (known_of kind known) whole [] x (found_uids a) busy
        sweep.question.range.lo sweep.question.range.hi h p.searches sound

    -- and something came that isn't muted
    apart-stands : (b : Belief) (h : Heard) → h ≢ Failed → h ≢ Silent → has_bytes h ≡ true
        → (sweep.bads + 1 ≡ BAD_ANSWERS → (u : ℕ) → h ≡ One u → is_new (found_uids a) sweep.question.range u ≡ false)
        → RunInvariant kind known budget (x ++ branched h ∷ []) (sweep_apart a (counted (believing b sweep)))
    apart-stands b h sound loud bytes refused =
        badly-stands (branched h) refl (branches None h sound) p.quick (counted (believing b sweep)) p.few_bads
        (answered sweep.question.range sweep.bads x h bytes p.row)
        (λ one all. corrupt-reply sweep.question.range x (found_uids a) h p.searches.under_way.is_found sound loud
        (refused all) one)

    silent-stands : RunInvariant kind known budget (x ++ branched Silent ∷ []) (sweep_silent a (counted_silent sweep))
    silent-stands = cond_both ((sweep.silences + 1) == TRIES) _ _ (After (branched Silent) refl)
        (λ five. fifth-stands (branched Silent) refl searches p.quick (counted_silent sweep)
        (subst (λ n. EndsSilent n sweep.question.range (x ++ branched Silent ∷ []))
        (eqb-true (sweep.silences + 1) TRIES five) more) no_answers sweep.question.part)
        (λ fewer. stands (branched Silent) refl _ (onward (branched Silent) refl searches p.quick (counted_silent sweep)
        (sweep.silences + 1) 0 _ (believed_silent sweep.question.part sweep.question.range (hushing sweep.belief))
        (few_more sweep.silences p.asks.few (eqb-false (sweep.silences + 1) TRIES fewer)) (omega arith) more
        (none-answers sweep.question.range (x ++ branched Silent ∷ []) no_answers)))
      where
        searches : Searches (known_of kind known) None whole [] (x ++ branched Silent ∷ []) (found_uids a)
        searches = branches None Silent (λ q. cc)

        more : EndsSilent (sweep.silences + 1) sweep.question.range (x ++ branched Silent ∷ [])
        more = EndsWith-push (branched Silent) p.silent (refl, refl)

        no_answers : (u : ℕ) → answers_in_a_row u (x ++ branched Silent ∷ []) ≡ 0
        no_answers u = silent-none u x sweep.question.range.lo sweep.question.range.hi

    spelt-stands : (u : ℕ)
        → RunInvariant kind known budget (x ++ branched (One u) ∷ []) (sweep_spelt a (counted_spelt u sweep) u)
    spelt-stands u = cond_both (is_wanted (found_uids a) (counted_spelt u sweep) u) _ _ (After (branched (One u)) refl)
        (λ wanted. stands (branched (One u)) refl
        (MutingSwept u 0 (spare_of_answer (counted_spelt u sweep)) (counted_spelt u sweep)) (record {
          n = 0;
          quick = p.quick;
          searches = branches (Some u) (One u) sound;
          range = p.asks.range;
          few = omega arith;
          new = (and_parts (is_new (found_uids a) sweep.question.range u) _ wanted).0;
          spelt = record { before = x; mutes = []; whole = refl; many = refl; lost = tt };
          some = omega arith;
          exact = λ all. (refl, rw (eq-eqb (sweep.bads + 1) BAD_ANSWERS all) refl);
          few_bads = p.few_bads;
          answers = answers;
        }))
        (λ refused. cond_both (is_stray (found_uids a) a.apart (counted_spelt u sweep) u) _ _
        (After (branched (One u)) refl)
        (λ stray. let is = stray-is (found_uids a) a.apart (counted_spelt u sweep) u stray in
        stands (branched (One u)) refl (Checking u 0 (counted_spelt u sweep)) (record {
          quick = p.quick;
          searches = branches None (One u) sound;
          device = is.device;
          few = omega arith;
          silent = EndsWith-none _ (x ++ branched (One u) ∷ []);
          none = several-none sweep.question.range (sweep.bads + 1) (x ++ branched (One u) ∷ []) answers is.several;
        }))
        (λ split. apart-stands (hearing u sweep.belief) (One u) sound (λ q. cc) refl (λ all v is.
        subst (λ (w : ℕ). is_new (found_uids a) sweep.question.range w ≡ false) (same v is)
        (not_new _ _ _ (eq-eqb (sweep.bads + 1) BAD_ANSWERS all) refused))))
      where
        sound : One u ≡ Failed → ⊥
        sound q = cc

        same : (v : ℕ) → One u ≡ One v → u ≡ v
        same v q = cc

        answers : AnswersOf sweep.question.range (sweep.bads + 1) (x ++ branched (One u) ∷ [])
        answers = answered sweep.question.range sweep.bads x (One u) refl p.row

        not_new : (new heard last : Bool) → last ≡ true → (new && (not heard || last)) ≡ false → new ≡ false
        not_new false heard last is never = refl
        not_new true heard last is never = absurd (true≢false (sym (or_right (not heard) last is) ∙ never))

    pub sweeping-stands : (h : Heard) → h ≢ Failed
        → RunInvariant kind known budget (x ++ branched h ∷ []) (sweep_heard a sweep h)
    sweeping-stands Silent sound = silent-stands
    sweeping-stands (One u) sound = spelt-stands u
    sweeping-stands Failed sound = absurd (sound refl)
    sweeping-stands (Acked ack) sound = apart-stands sweep.belief (Acked ack) sound (λ q. cc) refl (λ all u q. cc)
    sweeping-stands Noise sound = apart-stands sweep.belief Noise sound (λ q. cc) refl (λ all u q. cc)

  -- a mute of what the range spelt is lost
  module _ (u tries spare : ℕ) (sweep : Sweep) (h : Heard) (sound : h ≢ Failed) (lost : is_acked h ≡ false)
      (p : IsMutingSwept a.search (known_of kind known) u tries spare sweep x (found_uids a)) where
    abbrev muted : Seen
    muted = exchange (Mute u) h

    abbrev After_mute : AgentState → Type 0
    After_mute b = RunInvariant kind known budget (x ++ muted ∷ []) b

    goes_on : (q : Phase) → InPhase a.search kind known budget q (x ++ muted ∷ []) (found_uids a)
        → After_mute (to_phase a q)
    goes_on q holds = stands muted (lost-acks_none u h lost) q holds

    searches : Searches (known_of kind known) (Some u) whole [] (x ++ muted ∷ []) (found_uids a)
    searches = search-lost (known_of kind known) whole [] x (found_uids a) u h p.searches
        (read_is kind known budget x a s goes u p.n sweep.question.range p.spelt) sound lost

    spelt : WasSpelt u (p.n + 1) sweep.question.range (x ++ muted ∷ [])
    spelt = WasSpelt-push u p.n sweep.question.range x h lost p.spelt

    answers : AnswersOf sweep.question.range (sweep.bads + 1) (x ++ muted ∷ [])
    answers = answers-lost sweep.question.range (sweep.bads + 1) x u h lost p.answers

    -- and muted again
    again : (t now : ℕ) → t < TRIES → t ≤ p.n + 1
        → (sweep.bads + 1 ≡ BAD_ANSWERS → (p.n + 1 ≡ t) × (now ≡ 0))
        → IsMutingSwept a.search (known_of kind known) u t now (counted sweep) (x ++ muted ∷ []) (found_uids a)
    again t now few some exact = record {
      n = p.n + 1;
      quick = p.quick;
      searches = searches;
      range = p.range;
      few = few;
      new = p.new;
      spelt = spelt;
      some = some;
      exact = exact;
      few_bads = p.few_bads;
      answers = answers;
    }

    lost-stands : After_mute (swept_lost a u tries spare (counted sweep))
    lost-stands = cond_both ((tries + 1) == TRIES) _ _ After_mute
        (λ last. given_up (eqb-true (tries + 1) TRIES last))
        (λ fewer. goes_on (MutingSwept u (tries + 1) spare (counted sweep))
        (again (tries + 1) spare (few_more tries p.few (eqb-false (tries + 1) TRIES fewer))
        (let some = p.some in omega arith)
        (λ all. let exact = p.exact all in let counts = exact.0 in (omega (arith, counts), exact.1))))
      where
        given_up : tries + 1 ≡ TRIES → After_mute (sweep_apart a (sweep_suspecting u (counted sweep)))
        given_up last = badly-stands muted (lost-acks_none u h lost)
            (search-given_up (known_of kind known) whole [] (x ++ muted ∷ []) (found_uids a) u
            (is_muting_swept-device a.search (known_of kind known) u tries spare sweep x (found_uids a) p)
            (InSuccession-fewer TRIES (p.n + 1) (let some = p.some in omega (arith, some, last))
            (WasSpelt-succession u (p.n + 1) sweep.question.range (x ++ muted ∷ []) spelt)) searches)
            p.quick (sweep_suspecting u (counted sweep)) p.few_bads answers
            (λ one all. corrupt-mutes sweep.question.range u (x ++ muted ∷ []) (found_uids a)
            searches.under_way.no_failure (is_new-device (found_uids a) sweep.question.range u p.new)
            (subst (λ n. WasSpelt u n sweep.question.range (x ++ muted ∷ [])) (five all) spelt) one)
          where
            five : sweep.bads + 1 ≡ BAD_ANSWERS → p.n + 1 ≡ TRIES
            five all = let counts = (p.exact all).0 in omega (arith, counts, last)

    garbled-stands : After_mute (cond (nat_lt 0 spare) (to_phase a (MutingSwept u tries (spare - 1) (counted sweep)))
        (swept_lost a u tries spare (counted sweep)))
    garbled-stands = cond_both (nat_lt 0 spare) _ _ After_mute
        (λ spares. let some : 0 < spare = ltb-true 0 spare spares in
        goes_on (MutingSwept u tries (spare - 1) (counted sweep))
        (again tries (spare - 1) p.few (let least = p.some in omega arith)
        (λ all. absurd (let none = (p.exact all).1 in omega (arith, some, none)))))
        (λ counts. lost-stands)

  pub swept-stands : (u tries spare : ℕ) (sweep : Sweep) (h : Heard) → h ≢ Failed
      → IsMutingSwept a.search (known_of kind known) u tries spare sweep x (found_uids a)
      → RunInvariant kind known budget (x ++ exchange (Mute u) h ∷ []) (swept_heard a u tries spare sweep h)
  swept-stands u tries spare sweep (Acked ack) sound p =
      to_found-stands kind known budget x a s goes u ack
      (sweep_on (counted sweep) 0 0 (sweep_limit (length a.found + 1) (length a.apart))
      (found_belief sweep.question.part u a.apart sweep))
      p.searches.under_way.no_failure p.searches.under_way.is_found
      (λ more is_found grows here. on-phase a.search kind known budget (x ++ exchange (Mute u) (Acked ack) ∷ []) more
      (search-acked (known_of kind known) whole [] x (found_uids a) u ack more
      (is_muting_swept-device a.search (known_of kind known) u tries spare sweep x (found_uids a) p) p.searches
      (read_is kind known budget x a s goes u p.n sweep.question.range p.spelt) is_found grows here)
      p.quick (counted sweep) sweep.question.range 0 0
      (sweep_limit (length a.found + 1) (length a.apart)) (found_belief sweep.question.part u a.apart sweep)
      (omega arith) (omega arith) (EndsWith-none _ (x ++ exchange (Mute u) (Acked ack) ∷ []))
      (none-answers sweep.question.range (x ++ exchange (Mute u) (Acked ack) ∷ []) (λ v. acked-none v x u ack)))
  swept-stands u tries spare sweep Failed sound p = absurd (sound refl)
  swept-stands u tries spare sweep Silent sound p = lost-stands u tries spare sweep Silent sound refl p
  swept-stands u tries spare sweep (One v) sound p = garbled-stands u tries spare sweep (One v) sound refl p
  swept-stands u tries spare sweep Noise sound p = garbled-stands u tries spare sweep Noise sound refl p
