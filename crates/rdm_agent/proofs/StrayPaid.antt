-- What a check and its mutes pay on an honest line: only a device of the range without devices answers there.
use Rattle.rdm_agent.proofs.Common.{◌≡◌, ℕ, ◌+◌, ◌-◌, ◌*◌, ◌≤◌, true, not, cond, List, [], ◌∷◌}
use Rattle.rdm_agent.proofs.Common.{length, refl, sym, ap, ◌∙◌, subst, inl, inr, true≢false, arith, filter, ◌==◌}
use Rattle.rdm_agent.proofs.Common.{◌≢◌, nat_le, cond_both, and_parts, eqb-true, eqb-false, leb-true, has}
use Rattle.rdm_agent.proofs.Common.{is_within, IsDevice, IsDeviceSet, MOST_DEVICES, Span, Heard}
use Rattle.rdm_agent.proofs.Common.{due_in, Branch, Mute, Failed, Silent, One, Acked}
use Rattle.rdm_agent.proofs.Common.{Noise, AgentState, found_uids, unassigned, counted}
use Rattle.rdm_agent.proofs.Common.{counted_silent, sweep_on, sweep_split, to_phase}
use Rattle.rdm_agent.proofs.Common.{is_checked_again, check_silent, check_heard, stray_found, stray_heard, Checking}
use Rattle.rdm_agent.proofs.Common.{MutingStray, TRIES, Sweep, garbled_mutes, stray_lost, sweep_limit, limit_of}
use Rattle.rdm_agent.proofs.Potential.{is_left, left_in, CostsChecking, CostsStray, Finds, Affords}
use Rattle.rdm_agent.proofs.Members.{member}
use Rattle.rdm_agent.proofs.LeftLemmas.{first_passes, left-halves}
use Rattle.rdm_agent.proofs.CoverLemmas.{one_uid}
use Rattle.rdm_agent.proofs.SuspectLemmas.{stray-vain}
use Rattle.rdm_agent.proofs.SweepPaid.{on-costs, limit-paid, split-costs, many, limit_room, goes_on}
use Rattle.rdm_agent.proofs.SweepPaid.{one-lost, all-lost, lost-vain}
use Rattle.rdm_agent.proofs.PaidLemmas.{Cheaper, CountsOneMore, SpellsNew, mute-keeps, acked-mute}
use Rattle.rdm_agent.proofs.PaidLemmas.{Finds-keeps, answered, to_found-affords}
use Rattle.rdm_agent.proofs.Potential.{Watched}
use Rattle.rdm_agent.proofs.Common.{false, NoisyStep, has_bytes, is_acked, ◌&&◌, nat_lt, ◌⊎◌, ◌-◌, sweep_suspecting}
use Rattle.rdm_wire.specs.Noisy.{is_disturbed_branch}

-- the range of the greatest UID alone, which no device has
abbrev greatest_alone : Span
greatest_alone = record { lo = 0xffffffffffff; hi = 0xffffffffffff }

none_greatest : (present found : List ℕ) → IsDeviceSet present → left_in present found greatest_alone ≡ 0
none_greatest present found set = by_list (filter (is_left found greatest_alone) present) refl
  where
    no_device : IsDevice 0xffffffffffff → ⊥
    no_device d = true≢false d.own

    greatest : (v : ℕ) → is_left found greatest_alone v ≡ true → v ≡ 0xffffffffffff
    greatest v left =
        let within = and_parts (nat_le 0xffffffffffff v) (nat_le v 0xffffffffffff)
        (and_parts (is_within 0xffffffffffff 0xffffffffffff v) (not (has found v)) left).0 in
        let least = leb-true 0xffffffffffff v within.0 in let most = leb-true v 0xffffffffffff within.1 in
        omega (arith, least, most)

    by_list : (us : List ℕ) → filter (is_left found greatest_alone) present ≡ us
        → length (filter (is_left found greatest_alone) present) ≡ 0
    by_list [] is = ap length is
    by_list (v ∷ vs) is =
        let passes = first_passes (is_left found greatest_alone) present vs v is in
        absurd (no_device (subst (λ (w : ℕ). IsDevice w) (greatest v passes.0)
        (member IsDevice present v set.devices passes.1)))

-- so at most one device is in the range without devices
no_pair : (present found : List ℕ) → IsDeviceSet present → 2 ≤ left_in present found unassigned → ⊥
no_pair present found set two =
    let halves = left-halves present found 0xfffffffffffe 0xfffffffffffe 0xffffffffffff (omega arith) (omega arith) in
    let one = one_uid present found (record { lo = 0xfffffffffffe; hi = 0xfffffffffffe }) (omega arith) set.ascending in
    let none = none_greatest present found set in
    omega (arith, two, halves, one, none)

module _ (present : List ℕ) (set : IsDeviceSet present) (few : length present ≤ MOST_DEVICES) (total base bonus : ℕ)
    (s new : Watched) (a : AgentState) (within : 2 * a.frames + base ≤ total) (kept : new.aside ≡ s.aside)
    (room : length a.apart ≤ new.aside) where
  -- the range without devices is branched
  loud-affords : (u silences : ℕ) (sweep : Sweep) → Finds present new.state (found_uids a)
      → CostsChecking present s.aside (found_uids a) u silences sweep base
      → Affords present (total + bonus) new (to_phase a (sweep_split (counted sweep) unassigned 0 (limit_of a)))
  loud-affords u silences sweep f costs =
      let under = costs.below in let enough = costs.enough in let once = costs.few in
      goes_on present set few total base bonus s new a within kept room _ f
      (split-costs a.search present new (found_uids a) (base + bonus) (counted sweep) unassigned 0 (limit_of a)
      (omega arith) (limit_room present set few total base bonus s new a within kept room) costs.vain
      (record { more = 0; below = omega arith; enough = omega arith }))

  quiet-affords : (u silences : ℕ) (sweep : Sweep) → Finds present new.state (found_uids a)
      → CostsChecking present s.aside (found_uids a) u silences sweep base
      → Affords present (total + bonus) new
      (to_phase a (check_silent u silences (counted_silent sweep) (limit_of a)))
  quiet-affords u silences sweep f costs =
      cond_both (is_checked_again (counted_silent sweep).belief silences) _ _
      (λ p. Affords present (total + bonus) new (to_phase a p)) again
      (λ split. let under = costs.below in let enough = costs.enough in let once = costs.few in
      goes_on present set few total base bonus s new a within kept room _ f
      (split-costs a.search present new (found_uids a) (base + bonus) (counted_silent sweep) unassigned (silences + 1)
      (limit_of a) (omega arith) (limit_room present set few total base bonus s new a within kept room) costs.vain
      (record { more = 0; below = omega arith; enough = omega arith })))
    where
      again : is_checked_again (counted_silent sweep).belief silences ≡ true
          → Affords present (total + bonus) new (to_phase a (Checking u (silences + 1) (counted_silent sweep)))
      again is =
          let none : silences ≡ 0 = eqb-true silences 0 (and_parts (silences == 0) _ is).0 in
          let under = costs.below in let enough = costs.enough in
          goes_on present set few total base bonus s new a within kept room
          (Checking u (silences + 1) (counted_silent sweep)) f
          (record {
            left = base - 2;
            saves = omega arith;
            costs = record {
              new = costs.new;
              few = omega (arith, none);
              below = omega (arith, none, under);
              enough = omega arith;
              vain = costs.vain;
            };
          })

  spelt-affords : (u silences v : ℕ) (sweep : Sweep) → Finds present new.state (found_uids a)
      → CostsChecking present s.aside (found_uids a) u silences sweep base
      → SpellsNew present (found_uids a) unassigned (One v) ⊎ (30 ≤ bonus)
      → Affords present (total + bonus) new (to_phase a (cond (v == u) (MutingStray u 0 garbled_mutes (counted sweep))
      (sweep_split (counted sweep) unassigned 0 (limit_of a))))
  spelt-affords u silences v sweep f costs answer =
      cond_both (v == u) _ _ (λ p. Affords present (total + bonus) new (to_phase a p)) (λ is. muted is answer)
      (λ other. loud-affords u silences sweep f costs)
    where
      same : (w : ℕ) → One v ≡ One w → v ≡ w
      same w p = cc

      muted : (v == u) ≡ true → SpellsNew present (found_uids a) unassigned (One v) ⊎ (30 ≤ bonus)
          → Affords present (total + bonus) new (to_phase a (MutingStray u 0 garbled_mutes (counted sweep)))
      muted is (inl one) =
          let at : one.uid ≡ u = sym (same one.uid one.heard) ∙ eqb-true v u is in
          let under = costs.below in let enough = costs.enough in let once = costs.few in
          goes_on present set few total base bonus s new a within kept room
          (MutingStray u 0 garbled_mutes (counted sweep)) f
          (record {
            left = base - 2;
            saves = omega arith;
            costs = record {
              more = 0;
              extra = 0;
              few = omega arith;
              below = omega arith;
              enough = omega arith;
              new = costs.new;
              why = inl (ap (has present) (sym at) ∙ one.here);
              lost = λ here. omega arith;
              vain = costs.vain;
            };
          })
      muted is (inr paid) =
          let under = costs.below in let enough = costs.enough in let once = costs.few in
          goes_on present set few total base bonus s new a within kept room
          (MutingStray u 0 garbled_mutes (counted sweep)) f
          (record {
            left = base + 2;
            saves = omega (arith, paid);
            costs = record {
              more = 0;
              extra = 2;
              few = omega arith;
              below = omega arith;
              enough = omega arith;
              new = costs.new;
              why = inr (omega arith);
              lost = λ here. omega arith;
              vain = costs.vain;
            };
          })

  pub checking-affords : (u silences : ℕ) (sweep : Sweep) (h : Heard) → h ≢ Failed
      → (is_disturbed_branch (due_in present s.state.muted unassigned.lo unassigned.hi) h ≡ true → 30 ≤ bonus)
      → Finds present s.state (found_uids a)
      → NoisyStep present s.state (Branch unassigned.lo unassigned.hi) h new.state
      → CostsChecking present s.aside (found_uids a) u silences sweep base
      → Affords present (total + bonus) new (check_heard a u silences sweep h)
  checking-affords u silences sweep h sound paid f step costs = of_heard h sound paid
    where
      finds : Finds present new.state (found_uids a)
      finds = Finds-keeps present (found_uids a) s.state new.state (λ u muted. step.1 u ∙ muted) f

      Is : Heard → Type 0
      Is k = is_disturbed_branch (due_in present s.state.muted unassigned.lo unassigned.hi) k ≡ true

      one : (k : Heard) → k ≢ Silent → k ≢ Failed → (Is k → 30 ≤ bonus)
          → SpellsNew present (found_uids a) unassigned k ⊎ (30 ≤ bonus)
      one k loud sound paid = elim (answered present (found_uids a) s.state unassigned k set loud sound f) [
        | inl spelt ↦ inl spelt
        | inr (inl two) ↦ absurd (no_pair present (found_uids a) set two)
        | inr (inr is) ↦ inr (paid is)
      ]

      of_heard : (k : Heard) → k ≢ Failed → (Is k → 30 ≤ bonus)
          → Affords present (total + bonus) new (check_heard a u silences sweep k)
      of_heard Silent sound paid = quiet-affords u silences sweep finds costs
      of_heard (One v) sound paid =
          spelt-affords u silences v sweep finds costs (one (One v) (λ p. cc) sound paid)
      of_heard Failed sound paid = absurd (sound refl)
      of_heard (Acked ack) sound paid = loud-affords u silences sweep finds costs
      of_heard Noise sound paid = loud-affords u silences sweep finds costs

  -- the UID that it spelt is muted
  lost-affords : (u tries spare : ℕ) (sweep : Sweep) (h : Heard) → is_acked h ≡ false
      → Finds present s.state (found_uids a) → NoisyStep present s.state (Mute u) h new.state
      → CostsStray present s (found_uids a) u tries sweep base
      → Affords present (total + bonus) new (to_phase a (stray_lost u tries spare (counted sweep) (limit_of a)))
  lost-affords u tries spare sweep h lost f step costs =
      let under = costs.below in let enough = costs.enough in let some = costs.few in
      goes_on present set few total base bonus s new a within kept room _
      (Finds-keeps present (found_uids a) s.state new.state (mute-keeps present s.state new.state u h step) f)
      (cond_both ((tries + 1) == TRIES) _ _ (Cheaper a.search present new (found_uids a) (base + bonus))
      (λ five. let all = eqb-true (tries + 1) TRIES five in let extra = noise all costs.why in
      split-costs a.search present new (found_uids a) (base + bonus) (sweep_suspecting u (counted sweep)) unassigned 0
      (limit_of a) (omega arith) (limit_room present set few total base bonus s new a within kept room)
      (lost-vain present s new u tries h lost step costs.lost all)
      (record { more = costs.more + costs.extra; below = omega arith; enough = omega arith }))
      (λ fewer. let other : tries + 1 ≡ TRIES → ⊥ = eqb-false (tries + 1) TRIES fewer in
      let less : tries + 1 ≤ 4 = grind (arith, other, some) in
      record {
        left = base - 2;
        saves = omega arith;
        costs = record {
          more = costs.more;
          extra = costs.extra;
          few = less;
          below = omega arith;
          enough = omega arith;
          new = costs.new;
          why = costs.why;
          lost = one-lost present s new u tries h lost step costs.lost;
          vain = costs.vain;
        };
      }))
    where
      noise : tries + 1 ≡ TRIES → (has present u ≡ true) ⊎ (2 ≤ costs.extra) → 2 ≤ costs.extra
      noise all (inl here) = absurd (all-lost present s new u tries h lost step costs.lost all here)
      noise all (inr extra) = extra

  -- its reply is garbled
  garbled-affords : (u tries spare : ℕ) (sweep : Sweep) (h : Heard) → is_acked h ≡ false → 30 ≤ bonus
      → Finds present s.state (found_uids a) → NoisyStep present s.state (Mute u) h new.state
      → CostsStray present s (found_uids a) u tries sweep base
      → Affords present (total + bonus) new
      (to_phase a (cond (nat_lt 0 spare) (MutingStray u tries (spare - 1) (counted sweep))
      (stray_lost u tries spare (counted sweep) (limit_of a))))
  garbled-affords u tries spare sweep h lost paid f step costs =
      cond_both (nat_lt 0 spare) _ _ (λ p. Affords present (total + bonus) new (to_phase a p))
      (λ spares. let under = costs.below in let enough = costs.enough in
      goes_on present set few total base bonus s new a within kept room
      (MutingStray u tries (spare - 1) (counted sweep))
      (Finds-keeps present (found_uids a) s.state new.state (mute-keeps present s.state new.state u h step) f)
      (record {
        left = base;
        saves = omega (arith, paid);
        costs = record {
          more = costs.more + 1;
          extra = costs.extra;
          few = costs.few;
          below = omega arith;
          enough = omega arith;
          new = costs.new;
          why = costs.why;
          lost = λ here. let more = one-lost present s new u tries h lost step costs.lost here in omega (arith, more);
          vain = costs.vain;
        };
      }))
      (λ counts. lost-affords u tries spare sweep h lost f step costs)

  pub stray-affords : (u tries spare : ℕ) (sweep : Sweep) (h : Heard) → h ≢ Failed
      → ((has_bytes h && not (is_acked h)) ≡ true → 30 ≤ bonus)
      → Finds present s.state (found_uids a) → NoisyStep present s.state (Mute u) h new.state
      → CostsStray present s (found_uids a) u tries sweep base
      → Affords present (total + bonus) new (stray_heard a u tries spare sweep h)
  stray-affords u tries spare sweep (Acked ack) sound paid f step costs =
      let acked = acked-mute present s.state new.state u ack step in
      to_found-affords present set few total base bonus s new a within kept room u ack
      (sweep_on (counted sweep) 0 0 (sweep_limit (length a.found + 1) (length a.apart)) (stray_found sweep.belief))
      acked.0 acked.1
      (mute-keeps present s.state new.state u (Acked ack) step) f
      (λ more grows now one_more. onward more one_more)
    where
      onward : (more : List ℕ) → CountsOneMore present (found_uids a) u more
          → Cheaper a.search present new more (base + bonus)
          (sweep_on (counted sweep) 0 0 (sweep_limit (length a.found + 1) (length a.apart)) (stray_found sweep.belief))
      onward more (inl old) = absurd (true≢false (sym old.0 ∙ costs.new))
      onward more (inr one_more) =
          let longer = one_more.0 in let fewer = one_more.1 in let some = costs.few in let under = costs.below in
          let enough = costs.enough in
          let counts = many present set few total base bonus s new a within kept room in
          on-costs a.search present new more (base + bonus) (counted sweep) sweep.question.range 0 0
          0 (sweep_limit (length a.found + 1) (length a.apart)) (stray_found sweep.belief) (omega arith) (omega arith)
          (λ none. omega arith)
          (let paid = limit-paid (length a.found + 1) (length a.apart) in omega (arith, counts, longer, room, paid))
          (stray-vain present sweep.belief costs.vain)
          (record { more = costs.more; below = omega arith; enough = omega arith })
  stray-affords u tries spare sweep Failed sound paid f step costs = absurd (sound refl)
  stray-affords u tries spare sweep Silent sound paid f step costs =
      lost-affords u tries spare sweep Silent refl f step costs
  stray-affords u tries spare sweep (One v) sound paid f step costs =
      garbled-affords u tries spare sweep (One v) refl (paid refl) f step costs
  stray-affords u tries spare sweep Noise sound paid f step costs =
      garbled-affords u tries spare sweep Noise refl (paid refl) f step costs
