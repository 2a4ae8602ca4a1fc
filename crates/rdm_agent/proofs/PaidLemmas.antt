-- What an exchange on an honest line pays.
use Rattle.rdm_agent.proofs.Common.{◌≡◌, ℕ, ◌+◌, ◌-◌, ◌*◌, ◌<◌, ◌≤◌, Bool, true, false, ◌&&◌, not, cond, List, [], ◌∷◌}
use Rattle.rdm_agent.proofs.Common.{length, Some, refl, sym, ap, ◌∙◌, subst, inl, inr, true≢false, arith, filter}
use Rattle.rdm_agent.proofs.Common.{nat_lt, ◌==◌, ◌⊎◌, ◌≢◌, MatchBool, and_parts, and_from, cases_Bool, cond_both}
use Rattle.rdm_agent.proofs.Common.{or_cases, or_right, or_left, eqb-true, eqb-false, eq-eqb, ltb-true, ltb-false, has}
use Rattle.rdm_agent.proofs.Common.{is_within, is_broadcast, with_uid, IsAscending, IsDevice, IsDeviceSet, uids_of}
use Rattle.rdm_agent.proofs.Common.{with_device, MOST_DEVICES, uids_of-with_device, device_from, Span, whole, Heard}
use Rattle.rdm_agent.proofs.Common.{LineState, KeepsMuted, LineCounts, due_in, is_acked}
use Rattle.rdm_agent.proofs.Common.{Mute, Failed, Silent, One, Acked, Noise, MuteAck, Phase, AgentState}
use Rattle.rdm_agent.proofs.Common.{to_phase, to_found, split, search_from, search_below, is_new, found_uids}
use Rattle.rdm_agent.proofs.Common.{known_heard, heard_by_phase, Unmuting}
use Rattle.rdm_agent.proofs.Common.{Ended, TRIES, Search, Steady, Quick, TooMany}
use Rattle.rdm_agent.proofs.Potential.{Ahead, sweep_cost, unfound, is_left, left_in, Covers, Costs, CostsKnown}
use Rattle.rdm_agent.proofs.Potential.{Finds, Affords}
use Rattle.rdm_agent.proofs.Members.{member}
use Rattle.rdm_agent.proofs.Sets.{length-with_uid}
use Rattle.rdm_agent.proofs.LeftLemmas.{no_more, no_more_than, one_fewer, first_passes}
use Rattle.rdm_agent.proofs.CoverLemmas.{Covers-found, Covers-split, Covers-halves}
use Rattle.rdm_agent.proofs.Common.{known_lost, Searching, MutingKnown}
use Rattle.rdm_agent.proofs.Potential.{Watched}
use Rattle.rdm_agent.proofs.Common.{NoisyStep, MuteMovesInNoise, has_bytes, lower_half, upper_half}
use Rattle.rdm_wire.specs.Noisy.{is_disturbed_branch, MayHearInNoise}
use Rattle.rdm_agent.proofs.CorruptLemmas.{is_new-device}
use Rattle.rdm_agent.specs.Apart.{without}
use Rattle.rdm_wire.proofs.SetLemmas.{has-with_uid}

-- a phase that costs an exchange less
pub record Cheaper (search : Search) (present : List ℕ) (line : Watched) (found : List ℕ) (cost : ℕ)
    (phase : Phase) : Type 0 where
  pub left : ℕ
  pub saves : left + 2 ≤ cost
  pub costs : Costs search present line found phase left

-- the known UIDs that are left are muted, and then the search begins
pub search_from-costs : (search : Search) (present found : List ℕ) (line : Watched) (cost : ℕ) (known : List ℕ)
    (n : ℕ) → 10 * length known + n + 2 ≤ cost → Ahead search present found n → line.aside ≡ 0
    → Cheaper search present line found cost (search_from search known)
search_from-costs Steady present found line cost [] n enough ahead none =
    record {
      left = n;
      saves = omega arith;
      costs = record {
        ranges = n;
        used = 0;
        reserve = 0;
        few = omega arith;
        either = inl (record { used_is = refl; spent_is = inl refl });
        alone = λ one. omega arith;
        covered = ahead;
        cost_is = omega arith;
      };
    }
search_from-costs Quick present found line cost [] n enough ahead none =
    record {
      left = n;
      saves = omega arith;
      costs = record {
        credit = 0;
        few = omega arith;
        below = omega arith;
        enough = omega (arith, ahead, none);
        saved = λ fewer. omega arith;
        alone = λ one. omega arith;
        vain = λ u is. absurd (true≢false (sym is));
      };
    }
search_from-costs search present found line cost (u ∷ known) n enough ahead none =
    record {
      left = 10 + 10 * length known + n;
      saves = omega arith;
      costs = record { ranges = n; none_aside = none; few = omega arith; ahead = ahead; cost_is = omega arith };
    }

-- the next range is searched, or none is left
pub search_below-costs : (search : Search) (present found : List ℕ) (line : Watched) (cost : ℕ) (below : List Span)
    (n : ℕ) → n + 2 ≤ cost → Covers present found below n → Cheaper search present line found cost (search_below below)
search_below-costs search present found line cost [] n enough covered = record {
  left = 0;
  saves = omega arith;
  costs = refl;
}
search_below-costs search present found line cost (r ∷ rs) n enough covered =
    record {
      left = n;
      saves = enough;
      costs = record {
        ranges = n;
        used = 0;
        reserve = 0;
        few = omega arith;
        either = inl (record { used_is = refl; spent_is = inl refl });
        alone = λ one. omega arith;
        covered = covered;
        cost_is = omega arith;
      };
    }

-- a range of several UIDs is split. Two devices that are left in it pay for that, or else what is in reserve does
pub split-costs : (search : Search) (present found : List ℕ) (line : Watched) (cost : ℕ) (top : Span)
    (below : List Span) (n reserve : ℕ) → IsAscending present → (top.lo == top.hi) ≡ false
    → (2 ≤ left_in present found top) ⊎ (30 ≤ reserve) → n + reserve ≤ cost + 18
    → Covers present found (top ∷ below) n
    → Cheaper search present line found cost (split top below)
split-costs search present found line cost top below n reserve ascending several why enough covered =
    cond_both (top.lo == top.hi) _ _ (Cheaper search present line found cost)
    (λ one. absurd (true≢false (sym one ∙ several))) (λ two. halves why)
  where
    goes : (m : ℕ) → m + 2 ≤ cost → Covers present found (lower_half top ∷ upper_half top ∷ below) m
        → Cheaper search present line found cost (Searching 0 0 0 (lower_half top) (upper_half top ∷ below))
    goes m saves covers = record {
      left = m;
      saves = saves;
      costs = record {
        ranges = m;
        used = 0;
        reserve = 0;
        few = omega arith;
        either = inl (record { used_is = refl; spent_is = inl refl });
        alone = λ one. omega arith;
        covered = covers;
        cost_is = omega arith;
      };
    }

    halves : (2 ≤ left_in present found top) ⊎ (30 ≤ reserve)
        → Cheaper search present line found cost (Searching 0 0 0 (lower_half top) (upper_half top ∷ below))
    halves (inl two) = let halved = Covers-split present found top below n ascending two covered in
        let pays = halved.2 in goes halved.1 (omega (arith, pays, enough)) halved.3
    halves (inr some) =
        let halved = Covers-halves present found top below n (eqb-false top.lo top.hi several) covered in
        let pays = halved.1 in goes halved.0 (omega (arith, pays, enough, some)) halved.2

-- a device that is acknowledged is found already, or one more is found and one fewer left
abbrev pub CountsOneMore : List ℕ → List ℕ → ℕ → List ℕ → Type 0
CountsOneMore present found u more =
    ((has found u ≡ true) × (more ≡ found))
    ⊎ ((length more ≡ length found + 1) × (length (unfound present more) + 1 ≤ length (unfound present found)))

-- what is enough for the search stays so
Ahead-found : (search : Search) (present found more : List ℕ) (u : ℕ)
    → ((v : ℕ) → has found v ≡ true → has more v ≡ true) → CountsOneMore present found u more → (n : ℕ)
    → Ahead search present found n → Ahead search present more n
Ahead-found Steady present found more u grows one_more n ahead =
    Covers-found present found more grows (whole ∷ []) n ahead
Ahead-found Quick present found more u grows (inl same) n ahead =
    subst (λ us. sweep_cost present us ≤ n) (sym same.1) ahead
Ahead-found Quick present found more u grows (inr one_more) n ahead =
    let longer = one_more.0 in let fewer = one_more.1 in omega (arith, ahead, longer, fewer)

-- what a mute of a device, or of an absent UID, leaves on a noisy line
abbrev AfterMute : Bool → ℕ → LineState → Heard → LineState → Type 0
AfterMute b u s h new =
    MatchBool b (MuteMovesInNoise u s h new) ((is_acked h ≡ false) × KeepsMuted u s new × LineCounts new 0 0 0)

-- a mute unmutes nobody
pub mute-keeps : (present : List ℕ) (s new : LineState) (u : ℕ) (h : Heard) → NoisyStep present s (Mute u) h new
    → (v : ℕ) → s.muted v ≡ true → new.muted v ≡ true
mute-keeps present s new u h step v muted = elim (cases_Bool (u == v)) [
  | inl is ↦ of_same (eqb-true u v is)
  | inr other ↦ step.0 v other ∙ muted
]
  where
    at_own : s.muted u ≡ true → (b : Bool) → AfterMute b u s h new → new.muted u ≡ true
    at_own before true (inl acked) = acked.1
    at_own before true (inr (lost, inl now, counts)) = now
    at_own before true (inr (lost, inr kept, counts)) = kept ∙ before
    at_own before false absent = absent.1 ∙ before

    of_same : u ≡ v → new.muted v ≡ true
    of_same is =
        subst (λ (w : ℕ). new.muted w ≡ true) is
        (at_own (subst (λ (w : ℕ). s.muted w ≡ true) (sym is) muted) (has present u) step.1)

-- who acknowledges is present, and muted
pub acked-mute : (present : List ℕ) (s new : LineState) (u : ℕ) (ack : MuteAck)
    → NoisyStep present s (Mute u) (Acked ack) new → (has present u ≡ true) × (new.muted u ≡ true)
acked-mute present s new u ack step = by_presence (has present u) step.1
  where
    by_presence : (b : Bool) → AfterMute b u s (Acked ack) new → (b ≡ true) × (new.muted u ≡ true)
    by_presence true (inl acked) = (refl, acked.1)
    by_presence true (inr lost) = absurd (true≢false lost.0)
    by_presence false absent = absurd (true≢false absent.0)

-- a device's mute that is lost is one more in a row, and no more than four
pub lost-mute : (present : List ℕ) (s new : LineState) (u : ℕ) (h : Heard) → is_acked h ≡ false
    → NoisyStep present s (Mute u) h new → has present u ≡ true
    → (new.lost_mutes ≡ s.lost_mutes + 1) × (s.lost_mutes + 1 ≤ 4)
lost-mute present s new u h lost step here =
    of_moves (subst (λ b. AfterMute b u s h new) here step.1)
  where
    of_moves : MuteMovesInNoise u s h new → (new.lost_mutes ≡ s.lost_mutes + 1) × (s.lost_mutes + 1 ≤ 4)
    of_moves (inl acked) = absurd (true≢false (sym acked.0 ∙ lost))
    of_moves (inr lost) = (lost.2.mutes, lost.2.few_mutes)

-- what is found stays so while no device is unmuted
pub Finds-keeps : (present found : List ℕ) (s new : LineState) → ((u : ℕ) → s.muted u ≡ true → new.muted u ≡ true)
    → Finds present s found → Finds present new found
Finds-keeps present found s new keeps f = record {
  devices = f.devices;
  muted = λ u here. keeps u (f.muted u here);
  counted = f.counted;
}

-- what may be a new device of a range is left there, and a device that is left may be new
pub new-left : (found : List ℕ) (r : Span) (u : ℕ) → is_new found r u ≡ true → is_left found r u ≡ true
new-left found r u new =
    let parts = and_parts (not (is_broadcast u) && is_within r.lo r.hi u) (not (has found u)) new in
    and_from (is_within r.lo r.hi u) (not (has found u))
    (and_parts (not (is_broadcast u)) (is_within r.lo r.hi u) parts.0).1 parts.1

left-new : (found : List ℕ) (r : Span) (u : ℕ) → IsDevice u → is_left found r u ≡ true → is_new found r u ≡ true
left-new found r u device left = let parts = and_parts (is_within r.lo r.hi u) (not (has found u)) left in
    and_from (not (is_broadcast u) && is_within r.lo r.hi u) (not (has found u))
    (and_from (not (is_broadcast u)) (is_within r.lo r.hi u) (ap not device.own) parts.0) parts.1

-- what came spells a device that isn't found yet
pub record SpellsNew (present found : List ℕ) (top : Span) (h : Heard) : Type 0 where
  pub uid : ℕ
  pub heard : h ≡ One uid
  pub here : has present uid ≡ true
  pub new : is_new found top uid ≡ true

-- whether a device of the range is to answer a branch
abbrev is_due : LineState → Span → ℕ → Bool
is_due s top u = is_within top.lo top.hi u && not (s.muted u)

-- what comes after a branch spells a new device, or two devices are left, or the branch was disturbed
pub answered : (present found : List ℕ) (s : LineState) (top : Span) (h : Heard) → IsDeviceSet present → h ≢ Silent
    → h ≢ Failed → Finds present s found
    → SpellsNew present found top h ⊎ ((2 ≤ left_in present found top)
    ⊎ (is_disturbed_branch (due_in present s.muted top.lo top.hi) h ≡ true))
answered present found s top h set loud sound f = by_due (due_in present s.muted top.lo top.hi) refl
  where
    -- a device that is found is muted, and so not due
    absent : (u : ℕ) (b : Bool) → has found u ≡ b → not (s.muted u) ≡ true → not b ≡ true
    absent u false new due = refl
    absent u true there due = absurd (true≢false (sym due ∙ ap not (f.muted u there)))

    due_left : (u : ℕ) → is_due s top u ≡ true → is_left found top u ≡ true
    due_left u due =
        let parts = and_parts (is_within top.lo top.hi u) (not (s.muted u)) due in
        and_from (is_within top.lo top.hi u) (not (has found u)) parts.0 (absent u (has found u) refl parts.1)

    bytes : (k : Heard) → k ≢ Silent → k ≢ Failed → has_bytes k ≡ true
    bytes Silent loud sound = absurd (loud refl)
    bytes Failed loud sound = absurd (sound refl)
    bytes (One v) loud sound = refl
    bytes (Acked ack) loud sound = refl
    bytes Noise loud sound = refl

    -- the text of the one that is due, or else disturbed
    own_text : (u : ℕ) (k : Heard) → k ≢ Silent → k ≢ Failed → (k ≡ One u) ⊎ (is_disturbed_branch (u ∷ []) k ≡ true)
    own_text u Silent loud sound = absurd (loud refl)
    own_text u Failed loud sound = absurd (sound refl)
    own_text u (Acked ack) loud sound = inr refl
    own_text u Noise loud sound = inr refl
    own_text u (One v) loud sound = elim (cases_Bool (u == v)) [
      | inl same ↦ inl (ap One (sym (eqb-true u v same)))
      | inr other ↦ inr (ap not other)
    ]

    by_due : (due : List ℕ) → filter (is_due s top) present ≡ due → SpellsNew present found top h
        ⊎ ((2 ≤ left_in present found top) ⊎ (is_disturbed_branch due h ≡ true))
    by_due [] is = inr (inr (bytes h loud sound))
    by_due (u ∷ []) is = elim (own_text u h loud sound) [
      | inl heard ↦ let first = first_passes (is_due s top) present [] u is in inl (record {
        uid = u;
        heard = heard;
        here = first.1;
        new = left-new found top u (member IsDevice present u set.devices first.1) (due_left u first.0);
      })
      | inr disturbed ↦ inr (inr disturbed)
    ]
    by_due (u ∷ v ∷ us) is = let two : 2 ≤ length (filter (is_due s top) present) =
        rw is (omega arith) in let fewer = no_more (is_left found top) (is_due s top) present due_left in
        inr (inl (omega arith))

-- what the branch of one UID alone spells is a device
pub alone-present : (present found : List ℕ) (top : Span) (u : ℕ) → MayHearInNoise present top.lo top.hi (One u)
    → top.lo ≡ top.hi → is_new found top u ≡ true → has present u ≡ true
alone-present present found top u may one fresh = elim (cases_Bool (has present u)) [
  | inl here ↦ here
  | inr absent ↦ absurd (may one (subst (λ (v : ℕ). has present v ≡ false) is absent) (ap One is))
]
  where
    is : u ≡ top.lo
    is = let device = is_new-device found top u fresh in let from = device.from in let to = device.to in
        omega (arith, one, from, to)

module _ (present found : List ℕ) (u : ℕ) (here : has present u ≡ true) (absent : has found u ≡ false) where
  -- where one more is found, one fewer isn't
  unfound-fewer : length (unfound present (with_uid u found)) + 1 ≤ length (unfound present found)
  unfound-fewer = one_fewer (λ v. not (has found v)) (λ v. not (has (with_uid u found) v)) present u stricter
      (ap not absent) (ap not (has-with_uid u found u ∙ or_left (u == u) (has found u) (eq-eqb u u refl))) here
    where
      by_found : (v : ℕ) (b : Bool) → has found v ≡ b → not (has (with_uid u found) v) ≡ true → not b ≡ true
      by_found v false out still = refl
      by_found v true in_it still =
          absurd (true≢false (sym still ∙ ap not (has-with_uid u found v ∙ or_right (v == u) (has found v) in_it)))

      stricter : (v : ℕ) → not (has (with_uid u found) v) ≡ true → not (has found v) ≡ true
      stricter v still = by_found v (has found v) refl still

  -- and there is room for it
  has_room : (s : LineState) → length present ≤ MOST_DEVICES → Finds present s found → length found < MOST_DEVICES
  has_room s few f = let counted = f.counted in let fewer = unfound-fewer in omega arith

  Finds-more : (s new : LineState) → new.muted u ≡ true → ((v : ℕ) → s.muted v ≡ true → new.muted v ≡ true)
      → Finds present s found → Finds present new (with_uid u found)
  Finds-more s new muted keeps f = record {
    devices = λ v there. of_either (λ (w : ℕ). has present w ≡ true) v here (λ old. f.devices v old) there;
    muted = λ v there. of_either (λ (w : ℕ). new.muted w ≡ true) v muted (λ old. keeps v (f.muted v old)) there;
    counted = let counted = f.counted in let fewer = unfound-fewer in let longer = length-with_uid u found absent in
        omega arith;
  }
    where
      of_either : (P : ℕ → Type 0) (v : ℕ) → P u → (has found v ≡ true → P v) → has (with_uid u found) v ≡ true → P v
      of_either P v at old there = elim (or_cases (v == u) (has found v) (sym (has-with_uid u found v) ∙ there)) [
        | inl is ↦ subst P (sym (eqb-true v u is)) at
        | inr before ↦ old before
      ]

module _ (present : List ℕ) (set : IsDeviceSet present) (few : length present ≤ MOST_DEVICES) (total base bonus : ℕ)
    (s new : Watched) (a : AgentState) (within : 2 * a.frames + base ≤ total) (kept : new.aside ≡ s.aside)
    (room : length a.apart ≤ new.aside) where
  -- the phase goes on
  pub to_phase-affords : (phase : Phase) → Finds present new.state (found_uids a)
      → Cheaper a.search present new (found_uids a) (base + bonus) phase
      → Affords present (total + bonus) new (to_phase a phase)
  to_phase-affords phase f cheaper =
      let saves = cheaper.saves in
      record {
        aside = new.aside;
        room = room;
        cost = cheaper.left;
        costs = cheaper.costs;
        within = omega arith;
        finds = f;
      }

  -- a device is found
  pub to_found-affords : (u : ℕ) (ack : MuteAck) (phase : Phase) → has present u ≡ true → new.state.muted u ≡ true
      → ((v : ℕ) → s.state.muted v ≡ true → new.state.muted v ≡ true) → Finds present s.state (found_uids a)
      → ((more : List ℕ) → ((v : ℕ) → has (found_uids a) v ≡ true → has more v ≡ true) → has more u ≡ true
      → CountsOneMore present (found_uids a) u more → Cheaper a.search present new more (base + bonus) phase)
      → Affords present (total + bonus) new (to_found a (device_from u ack) phase)
  to_found-affords u ack phase here muted keeps f onward =
      cond_both (has (found_uids a) u) _ _ P at_old
      (λ absent. cond_both (nat_lt (length (found_uids a)) MOST_DEVICES) _ _ P (at_new absent) (at_full absent))
    where
      P : AgentState → Type 0
      P b = Affords present (total + bonus) new b

      at_old : has (found_uids a) u ≡ true → P (to_phase a phase)
      at_old old =
          to_phase-affords phase (Finds-keeps present (found_uids a) s.state new.state keeps f)
          (onward (found_uids a) (λ v there. there) old (inl (old, refl)))

      grown : uids_of (with_device (device_from u ack) a.found) ≡ with_uid u (found_uids a)
      grown = uids_of-with_device (device_from u ack) a.found

      at_new : has (found_uids a) u ≡ false → nat_lt (length (found_uids a)) MOST_DEVICES ≡ true
          → P (record {
            budget = a.budget;
            frames = a.frames + 1;
            search = a.search;
            found = with_device (device_from u ack) a.found;
            apart = without u a.apart;
            more = a.more;
            phase = phase;
          })
      at_new absent space =
          let cheaper = onward (with_uid u (found_uids a))
          (λ v there. has-with_uid u (found_uids a) v ∙ or_right (v == u) (has (found_uids a) v) there)
          (has-with_uid u (found_uids a) u ∙ or_left (u == u) (has (found_uids a) u) (eq-eqb u u refl))
          (inr (length-with_uid u (found_uids a) absent, unfound-fewer present (found_uids a) u here absent)) in
          let saves = cheaper.saves in
          let fewer : length (without u a.apart) ≤ length a.apart = no_more_than (λ v. not (v == u)) a.apart in record {
            aside = new.aside;
            room = omega (arith, fewer, room);
            cost = cheaper.left;
            costs = subst (λ us. Costs a.search present new us phase cheaper.left) (sym grown) cheaper.costs;
            within = omega arith;
            finds = subst (Finds present new.state) (sym grown)
                (Finds-more present (found_uids a) u here absent s.state new.state muted keeps f);
          }

      at_full : has (found_uids a) u ≡ false → nat_lt (length (found_uids a)) MOST_DEVICES ≡ false
          → P (to_phase a (Ended (Some TooMany)))
      at_full absent full =
          let room = has_room present (found_uids a) u here absent s.state few f in
          let none = ltb-false (length (found_uids a)) MOST_DEVICES full in absurd (omega arith)

  -- an unmute
  pub unmuting-affords : (more : ℕ) (known : List ℕ) (h : Heard) → Finds present s.state (found_uids a)
      → Costs a.search present s (found_uids a) (Unmuting more known) base
      → Affords present (total + bonus) new (heard_by_phase a (Unmuting more known) h)
  unmuting-affords more known h f costs = to_phase-affords
      (cond (nat_lt 1 more) (Unmuting (more - 1) known) (search_from a.search known)) finds
      (cond_both (nat_lt 1 more) _ _ (Cheaper a.search present new (found_uids a) (base + bonus)) goes_on ends)
    where
      finds : Finds present new.state (found_uids a)
      finds = record {
        devices = f.devices;
        muted = λ u there. absurd (true≢false (sym there ∙ ap (λ us. has us u) costs.none_found));
        counted = f.counted;
      }

      goes_on : nat_lt 1 more ≡ true
          → Cheaper a.search present new (found_uids a) (base + bonus) (Unmuting (more - 1) known)
      goes_on two = let above : 1 < more = ltb-true 1 more two in let is = costs.cost_is in
          record {
            left = base - 2;
            saves = omega arith;
            costs = record {
              ranges = costs.ranges;
              none_aside = let none = costs.none_aside in omega (arith, none, kept);
              some = omega arith;
              none_found = costs.none_found;
              ahead = costs.ahead;
              cost_is = omega arith;
            };
          }

      ends : nat_lt 1 more ≡ false
          → Cheaper a.search present new (found_uids a) (base + bonus) (search_from a.search known)
      ends one = let some = costs.some in let is = costs.cost_is in
          search_from-costs a.search present (found_uids a) new (base + bonus) known costs.ranges (omega arith)
          costs.ahead (let none = costs.none_aside in omega (arith, none, kept))

  -- a mute of a known UID that is lost
  known_lost-affords : (u tries spare : ℕ) (known : List ℕ) (h : Heard) → Finds present s.state (found_uids a)
      → NoisyStep present s.state (Mute u) h new.state
      → CostsKnown a.search present (found_uids a) s.aside tries known base
      → Affords present (total + bonus) new (to_phase a (known_lost a.search u tries spare known))
  known_lost-affords u tries spare known h f step costs =
      let few = costs.few in let is = costs.cost_is in
      to_phase-affords (known_lost a.search u tries spare known)
      (Finds-keeps present (found_uids a) s.state new.state (mute-keeps present s.state new.state u h step) f)
      (cond_both ((tries + 1) == TRIES) _ _ (Cheaper a.search present new (found_uids a) (base + bonus))
      (λ five. search_from-costs a.search present (found_uids a) new (base + bonus) known costs.ranges (omega arith)
      costs.ahead (let none = costs.none_aside in omega (arith, none, kept)))
      (λ fewer. let other : tries + 1 ≡ TRIES → ⊥ = eqb-false (tries + 1) TRIES fewer in
      let less : tries + 1 ≤ 4 = grind (arith, other, few) in
      record {
        left = base - 2;
        saves = omega arith;
        costs = record {
          ranges = costs.ranges;
          none_aside = let none = costs.none_aside in omega (arith, none, kept);
          few = less;
          ahead = costs.ahead;
          cost_is = omega arith;
        };
      }))

  -- its reply is garbled
  known_garbled-affords : (u tries spare : ℕ) (known : List ℕ) (h : Heard) → 30 ≤ bonus
      → Finds present s.state (found_uids a) → NoisyStep present s.state (Mute u) h new.state
      → CostsKnown a.search present (found_uids a) s.aside tries known base
      → Affords present (total + bonus) new (to_phase a (cond (nat_lt 0 spare) (MutingKnown u tries (spare - 1) known)
      (known_lost a.search u tries spare known)))
  known_garbled-affords u tries spare known h paid f step costs =
      cond_both (nat_lt 0 spare) _ _ (λ p. Affords present (total + bonus) new (to_phase a p))
      (λ spares. to_phase-affords (MutingKnown u tries (spare - 1) known)
      (Finds-keeps present (found_uids a) s.state new.state (mute-keeps present s.state new.state u h step) f)
      (record {
        left = base;
        saves = omega (arith, paid);
        costs = subst (λ n. CostsKnown a.search present (found_uids a) n tries known base) (sym kept) costs;
      }))
      (λ counts. known_lost-affords u tries spare known h f step costs)

  -- a mute of a known UID
  pub known-affords : (u tries spare : ℕ) (known : List ℕ) (h : Heard) → h ≢ Failed
      → ((has_bytes h && not (is_acked h)) ≡ true → 30 ≤ bonus) → Finds present s.state (found_uids a)
      → NoisyStep present s.state (Mute u) h new.state
      → CostsKnown a.search present (found_uids a) s.aside tries known base
      → Affords present (total + bonus) new (known_heard a u tries spare known h)
  known-affords u tries spare known (Acked ack) sound paid f step costs =
      let acked = acked-mute present s.state new.state u ack step in let few = costs.few in let is = costs.cost_is in
      to_found-affords u ack (search_from a.search known) acked.0 acked.1
      (mute-keeps present s.state new.state u (Acked ack) step) f
      (λ more grows now one_more. search_from-costs a.search present more new (base + bonus) known costs.ranges
      (omega arith) (Ahead-found a.search present (found_uids a) more u grows one_more costs.ranges costs.ahead)
      (let none = costs.none_aside in omega (arith, none, kept)))
  known-affords u tries spare known Failed sound paid f step costs = absurd (sound refl)
  known-affords u tries spare known Silent sound paid f step costs =
      known_lost-affords u tries spare known Silent f step costs
  known-affords u tries spare known (One v) sound paid f step costs =
      known_garbled-affords u tries spare known (One v) (paid refl) f step costs
  known-affords u tries spare known Noise sound paid f step costs =
      known_garbled-affords u tries spare known Noise (paid refl) f step costs
