-- An agent that checks a UID, or mutes one that answers for others, stands after its exchanges.
use Rattle.rdm_agent.proofs.Common.{◌≡◌, ℕ, ◌+◌, ◌-◌, ◌<◌, ◌≤◌, true, false, List, [], ◌∷◌, ◌++◌, length, None, Some}
use Rattle.rdm_agent.proofs.Common.{refl}
use Rattle.rdm_agent.proofs.Common.{sym, ◌∙◌, subst, arith, ◌≢◌, ◌==◌, nat_lt, cond, cond_both, eqb-true}
use Rattle.rdm_agent.proofs.Common.{eqb-false}
use Rattle.rdm_agent.proofs.Common.{and_parts, whole, Heard, Seen, is_acked, Branch, Mute, Acked, Failed, Silent, One}
use Rattle.rdm_agent.proofs.Common.{Noise, known_of, Phase, AgentState, to_phase, found_uids, unassigned, counted}
use Rattle.rdm_agent.proofs.Common.{counted_silent, sweep_suspecting, sweep_on, sweep_split, is_checked_again}
use Rattle.rdm_agent.proofs.Common.{check_silent, check_heard, stray_found, stray_heard, MutingStray, Kind, TRIES}
use Rattle.rdm_agent.proofs.Common.{Sweep}
use Rattle.rdm_agent.proofs.Common.{answers_in_a_row, garbled_mutes, stray_lost, sweep_limit, limit_of}
use Rattle.rdm_agent.proofs.Rows.{none-answers, other-none, acked-none, lost-same}
use Rattle.rdm_agent.proofs.UnderWay.{EndsWith-none, EndsWith-push, lost-acks_none, InSuccession-fewer}
use Rattle.rdm_agent.proofs.SearchPhase.{search-branch, search-lost, search-acked, search-given_up}
use Rattle.rdm_agent.proofs.SweepPhase.{EndsSilent, on-phase, split-phase}
use Rattle.rdm_agent.proofs.RunLemmas.{exchange, few_more, WasSpelt-push, WasSpelt-succession, to_phase-stands}
use Rattle.rdm_agent.proofs.RunLemmas.{to_found-stands, reported-same, read_is}
use Rattle.rdm_agent.proofs.Invariant.{IsChecking, IsMutingStray, WasSpelt, Searches, InPhase, RunInvariant}

-- the range without devices is of two UIDs
pub two_unassigned : unassigned.lo ≡ unassigned.hi → ⊥
two_unassigned same = omega (arith, same)

module _ (kind : Kind) (known : List ℕ) (budget : ℕ) (x : List Seen) (a : AgentState)
    (s : RunInvariant kind known budget x a) (goes : nat_lt a.frames a.budget ≡ true) where
  -- that range is branched
  abbrev check : Heard → Seen
  check h = exchange (Branch unassigned.lo unassigned.hi) h

  checked : (h : Heard) (q : Phase) → InPhase a.search kind known budget q (x ++ check h ∷ []) (found_uids a)
      → RunInvariant kind known budget (x ++ check h ∷ []) (to_phase a q)
  checked h q holds = to_phase-stands kind known budget x a s goes (check h) q
      (reported-same kind known budget x a s goes (check h) refl) holds

  branches : (u silences : ℕ) (h : Heard) → h ≢ Failed
      → IsChecking a.search (known_of kind known) u silences x (found_uids a)
      → Searches (known_of kind known) None whole [] (x ++ check h ∷ []) (found_uids a)
  branches u silences h sound p =
      search-branch (known_of kind known) whole [] x (found_uids a) None unassigned.lo unassigned.hi h p.searches sound

  none_check : (h : Heard) (w : ℕ) → answers_in_a_row w (x ++ check h ∷ []) ≡ 0
  none_check h w = other-none w x unassigned.lo unassigned.hi h (λ lo hi. two_unassigned (lo ∙ sym hi))

  -- something else came
  loud-stands : (u silences : ℕ) (sweep : Sweep) (h : Heard) → h ≢ Failed
      → IsChecking a.search (known_of kind known) u silences x (found_uids a)
      → RunInvariant kind known budget (x ++ check h ∷ [])
      (to_phase a (sweep_split (counted sweep) unassigned 0 (limit_of a)))
  loud-stands u silences sweep h sound p =
      checked h _ (split-phase a.search kind known budget (x ++ check h ∷ []) (found_uids a)
      (branches u silences h sound p) p.quick (counted sweep) unassigned 0 (limit_of a) (omega arith)
      (EndsWith-none _ (x ++ check h ∷ [])) (none_check h))

  quiet-stands : (u silences : ℕ) (sweep : Sweep)
      → IsChecking a.search (known_of kind known) u silences x (found_uids a)
      → RunInvariant kind known budget (x ++ check Silent ∷ [])
      (to_phase a (check_silent u silences (counted_silent sweep) (limit_of a)))
  quiet-stands u silences sweep p =
      cond_both (is_checked_again (counted_silent sweep).belief silences) _ _
      (λ q. RunInvariant kind known budget (x ++ check Silent ∷ []) (to_phase a q))
      (λ again. checked Silent _ (record {
        quick = p.quick;
        searches = branches u silences Silent silent_sound p;
        device = p.device;
        few = first again;
        silent = more;
        none = none_check Silent;
      }))
      (λ split. checked Silent _ (split-phase a.search kind known budget (x ++ check Silent ∷ []) (found_uids a)
      (branches u silences Silent silent_sound p) p.quick (counted_silent sweep) unassigned (silences + 1)
      (limit_of a) (let few = p.few in omega arith) more (none_check Silent)))
    where
      silent_sound : Silent ≡ Failed → ⊥
      silent_sound q = cc

      more : EndsSilent (silences + 1) unassigned (x ++ check Silent ∷ [])
      more = EndsWith-push (check Silent) p.silent (refl, refl)

      first : is_checked_again (counted_silent sweep).belief silences ≡ true → silences + 1 < 2
      first again = let none : silences ≡ 0 = eqb-true silences 0 (and_parts (silences == 0) _ again).0 in
          omega (arith, none)

  spelt-stands : (u silences v : ℕ) (sweep : Sweep)
      → IsChecking a.search (known_of kind known) u silences x (found_uids a)
      → RunInvariant kind known budget (x ++ check (One v) ∷ [])
      (to_phase a (cond (v == u) (MutingStray u 0 garbled_mutes (counted sweep))
      (sweep_split (counted sweep) unassigned 0 (limit_of a))))
  spelt-stands u silences v sweep p =
      cond_both (v == u) _ _ (λ q. RunInvariant kind known budget (x ++ check (One v) ∷ []) (to_phase a q))
      (λ same. checked (One v) _ (record {
        n = 0;
        quick = p.quick;
        searches = search-branch (known_of kind known) whole [] x (found_uids a) (Some u) unassigned.lo unassigned.hi
            (One v) p.searches sound;
        device = p.device;
        few = omega arith;
        spelt = subst (λ (w : ℕ). WasSpelt w 0 unassigned (x ++ check (One v) ∷ [])) (eqb-true v u same) (record {
          before = x;
          mutes = [];
          whole = refl;
          many = refl;
          lost = tt;
        });
        some = omega arith;
        none = none_check (One v);
      }))
      (λ other. loud-stands u silences sweep (One v) sound p)
    where
      sound : One v ≡ Failed → ⊥
      sound q = cc

  pub checking-stands : (u silences : ℕ) (sweep : Sweep) (h : Heard) → h ≢ Failed
      → IsChecking a.search (known_of kind known) u silences x (found_uids a)
      → RunInvariant kind known budget (x ++ exchange (Branch unassigned.lo unassigned.hi) h ∷ [])
      (check_heard a u silences sweep h)
  checking-stands u silences sweep Silent sound p = quiet-stands u silences sweep p
  checking-stands u silences sweep (One v) sound p = spelt-stands u silences v sweep p
  checking-stands u silences sweep Failed sound p = absurd (sound refl)
  checking-stands u silences sweep (Acked ack) sound p = loud-stands u silences sweep (Acked ack) sound p
  checking-stands u silences sweep Noise sound p = loud-stands u silences sweep Noise sound p

  -- a mute of the UID that it spelt is lost
  module _ (u tries : ℕ) (sweep : Sweep) (h : Heard) (sound : h ≢ Failed) (lost : is_acked h ≡ false)
      (p : IsMutingStray a.search (known_of kind known) u tries x (found_uids a)) where
    abbrev muted : Seen
    muted = exchange (Mute u) h

    goes_on : (q : Phase) → InPhase a.search kind known budget q (x ++ muted ∷ []) (found_uids a)
        → RunInvariant kind known budget (x ++ muted ∷ []) (to_phase a q)
    goes_on q holds =
        to_phase-stands kind known budget x a s goes muted q
        (reported-same kind known budget x a s goes muted (lost-acks_none u h lost)) holds

    searches : Searches (known_of kind known) (Some u) whole [] (x ++ muted ∷ []) (found_uids a)
    searches = search-lost (known_of kind known) whole [] x (found_uids a) u h p.searches
        (read_is kind known budget x a s goes u p.n unassigned p.spelt) sound lost

    spelt : WasSpelt u (p.n + 1) unassigned (x ++ muted ∷ [])
    spelt = WasSpelt-push u p.n unassigned x h lost p.spelt

    none : (w : ℕ) → answers_in_a_row w (x ++ muted ∷ []) ≡ 0
    none w = lost-same w x u h lost ∙ p.none w

    -- and muted again
    again : (t : ℕ) → t < TRIES → t ≤ p.n + 1
        → IsMutingStray a.search (known_of kind known) u t (x ++ muted ∷ []) (found_uids a)
    again t few some = record {
      n = p.n + 1;
      quick = p.quick;
      searches = searches;
      device = p.device;
      few = few;
      spelt = spelt;
      some = some;
      none = none;
    }

    lost-stands : (spare : ℕ) → RunInvariant kind known budget (x ++ muted ∷ [])
        (to_phase a (stray_lost u tries spare (counted sweep) (limit_of a)))
    lost-stands spare =
        cond_both ((tries + 1) == TRIES) _ _ (λ q. RunInvariant kind known budget (x ++ muted ∷ []) (to_phase a q))
        (λ last. goes_on _ (given_up (eqb-true (tries + 1) TRIES last)))
        (λ fewer. goes_on (MutingStray u (tries + 1) spare (counted sweep))
        (again (tries + 1) (few_more tries p.few (eqb-false (tries + 1) TRIES fewer))
        (let some = p.some in omega arith)))
      where
        given_up : tries + 1 ≡ TRIES → InPhase a.search kind known budget
            (sweep_split (sweep_suspecting u (counted sweep)) unassigned 0 (limit_of a)) (x ++ muted ∷ [])
            (found_uids a)
        given_up last =
            split-phase a.search kind known budget (x ++ muted ∷ []) (found_uids a)
            (search-given_up (known_of kind known) whole [] (x ++ muted ∷ []) (found_uids a) u p.device
            (InSuccession-fewer TRIES (p.n + 1) (let some = p.some in omega (arith, some, last))
            (WasSpelt-succession u (p.n + 1) unassigned (x ++ muted ∷ []) spelt)) searches)
            p.quick (sweep_suspecting u (counted sweep)) unassigned 0 (limit_of a) (omega arith)
            (EndsWith-none _ (x ++ muted ∷ [])) none

    garbled-stands : (spare : ℕ) → RunInvariant kind known budget (x ++ muted ∷ [])
        (to_phase a (cond (nat_lt 0 spare) (MutingStray u tries (spare - 1) (counted sweep))
        (stray_lost u tries spare (counted sweep) (limit_of a))))
    garbled-stands spare =
        cond_both (nat_lt 0 spare) _ _ (λ q. RunInvariant kind known budget (x ++ muted ∷ []) (to_phase a q))
        (λ spares. goes_on (MutingStray u tries (spare - 1) (counted sweep))
        (again tries p.few (let some = p.some in omega arith)))
        (λ counts. lost-stands spare)

  pub stray-stands : (u tries spare : ℕ) (sweep : Sweep) (h : Heard) → h ≢ Failed
      → IsMutingStray a.search (known_of kind known) u tries x (found_uids a)
      → RunInvariant kind known budget (x ++ exchange (Mute u) h ∷ []) (stray_heard a u tries spare sweep h)
  stray-stands u tries spare sweep (Acked ack) sound p =
      to_found-stands kind known budget x a s goes u ack
      (sweep_on (counted sweep) 0 0 (sweep_limit (length a.found + 1) (length a.apart)) (stray_found sweep.belief))
      p.searches.under_way.no_failure p.searches.under_way.is_found
      (λ more is_found grows here. on-phase a.search kind known budget (x ++ exchange (Mute u) (Acked ack) ∷ []) more
      (search-acked (known_of kind known) whole [] x (found_uids a) u ack more p.device p.searches
      (read_is kind known budget x a s goes u p.n unassigned p.spelt) is_found grows here)
      p.quick (counted sweep) sweep.question.range 0 0
      (sweep_limit (length a.found + 1) (length a.apart)) (stray_found sweep.belief) (omega arith) (omega arith)
      (EndsWith-none _ (x ++ exchange (Mute u) (Acked ack) ∷ []))
      (none-answers sweep.question.range (x ++ exchange (Mute u) (Acked ack) ∷ []) (λ v. acked-none v x u ack)))
  stray-stands u tries spare sweep Failed sound p = absurd (sound refl)
  stray-stands u tries spare sweep Silent sound p = lost-stands u tries sweep Silent sound refl p spare
  stray-stands u tries spare sweep (One v) sound p = garbled-stands u tries sweep (One v) sound refl p spare
  stray-stands u tries spare sweep Noise sound p = garbled-stands u tries sweep Noise sound refl p spare
