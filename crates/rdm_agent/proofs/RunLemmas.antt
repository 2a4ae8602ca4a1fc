-- An agent that ran stands after its exchanges.
use Rattle.rdm_agent.proofs.Common.{◌≡◌, ℕ, ◌+◌, ◌-◌, ◌<◌, ◌≤◌, true, false, cond, List, [], ◌∷◌, ◌++◌, length, take}
use Rattle.rdm_agent.proofs.Common.{None, Some, refl, sym, ap, ◌∙◌, subst, append_assoc, append-nil, arith, ◌≢◌, ◌==◌}
use Rattle.rdm_agent.proofs.Common.{nat_lt, AllByRecursion, cond_both, or_left, or_right, eq-eqb, eqb-true, eqb-false}
use Rattle.rdm_agent.proofs.Common.{ltb-true, ltb-false, length_push, has, set_of, with_uid, IsDevice, MOST_DEVICES}
use Rattle.rdm_agent.proofs.Common.{once, uids_of, with_device, Device, uids_of-with_device, Span, Asked, Heard, Seen}
use Rattle.rdm_agent.proofs.Common.{is_acked, Unmute, Branch, Mute, Acked, Failed, Silent, One, Noise, MuteAck}
use Rattle.rdm_agent.proofs.Common.{acked_by, device_from, read_in, reported, InSuccession, IsSilentBranch, IsLostMute}
use Rattle.rdm_agent.proofs.Common.{known_of, Phase, AgentState, heard_by_phase, branch_heard, known_heard, mute_heard}
use Rattle.rdm_agent.proofs.Common.{to_phase, to_found, search_from, is_new, found_uids, Unmuting}
use Rattle.rdm_agent.proofs.Common.{MutingKnown, Searching, MutingRead, Ended, Kind, TooMany, TRIES}
use Rattle.rdm_agent.proofs.Common.{Search, Steady, Quick, has_bytes, is_soon, spare_at, spent_more, search_apart}
use Rattle.rdm_agent.proofs.Common.{search_silent, search_read, known_lost, mute_lost, Bool, ◌&&◌, and_parts}
use Rattle.rdm_agent.proofs.Common.{true≢false}
use Rattle.rdm_agent.proofs.Rows.{Answered, answered-by, answered-lost}
use Rattle.rdm_agent.specs.Run.{read_by}
use Rattle.rdm_agent.proofs.OneDevice.{NotFailed}
use Rattle.rdm_agent.proofs.Pushes.{All-push, read-push_none, has-at}
use Rattle.rdm_agent.proofs.Stacks.{IsStack-ends}
use Rattle.rdm_agent.proofs.BadLemmas.{WereBad-push, WereBad-without}
use Rattle.rdm_agent.proofs.FoundLemmas.{IsFound-reported, IsFound-has, found-again, found-new, found-reports}
use Rattle.rdm_agent.proofs.FoundLemmas.{found-one_too_many}
use Rattle.rdm_agent.proofs.FirstAcked.{AsFirstAcked-push, AsFirstAcked-new}
use Rattle.rdm_agent.proofs.UnmutePhase.{unmuting-push, unmuted}
use Rattle.rdm_agent.proofs.KnownPhase.{known-lost, known-acked, known-given_up, known-next}
use Rattle.rdm_agent.proofs.UnderWay.{EndsWith-none, EndsWith-push, EndsWith-succession, lost-acks_none}
use Rattle.rdm_agent.proofs.UnderWay.{EndsWith-fewer, InSuccession-fewer}
use Rattle.rdm_agent.proofs.SearchPhase.{search-branch, search-lost, search-acked, search-given_up, search-next}
use Rattle.rdm_agent.proofs.SearchPhase.{search-apart}
use Rattle.rdm_agent.proofs.CorruptLemmas.{is_new-device, corrupt-reply, corrupt-mutes, lost_no_branches}
use Rattle.rdm_agent.proofs.CorruptLemmas.{not_corrupt-several, sound-silent, sound-acked}
use Rattle.rdm_agent.proofs.Invariant.{EndsWith, IsFound, MutesKnown, Searches, IsUnmuting, IsMutingKnown, IsSearching}
use Rattle.rdm_agent.proofs.Invariant.{IsMutingRead, WasSpelt, InPhase, RunInvariant}
use Rattle.rdm_agent.specs.Apart.{without}
use Rattle.rdm_wire.proofs.SetLemmas.{has-with_uid}

-- an exchange
abbrev pub exchange : Asked → Heard → Seen
exchange asked h = record { asked = asked; heard = h }

pub few_more : (n : ℕ) → n < TRIES → (n + 1 ≡ TRIES → ⊥) → n + 1 < TRIES
few_more n few fewer = grind arith

-- one more mute of what was spelt is lost
pub WasSpelt-push : (u tries : ℕ) (top : Span) (x : List Seen) (h : Heard) → is_acked h ≡ false → WasSpelt u tries top x
    → WasSpelt u (tries + 1) top (x ++ exchange (Mute u) h ∷ [])
WasSpelt-push u tries top x h lost w = record {
  before = w.before;
  mutes = w.mutes ++ exchange (Mute u) h ∷ [];
  whole = ap (λ l. l ++ exchange (Mute u) h ∷ []) w.whole
      ∙ append_assoc w.before (exchange (Branch top.lo top.hi) (One u) ∷ w.mutes) (exchange (Mute u) h ∷ []);
  many = length_push w.mutes (exchange (Mute u) h) ∙ ap (λ n. n + 1) w.many;
  lost = All-push (IsLostMute u) w.mutes (exchange (Mute u) h) w.lost (refl, lost);
}

pub WasSpelt-succession : (u n : ℕ) (top : Span) (x : List Seen) → WasSpelt u n top x → InSuccession n (IsLostMute u) x
WasSpelt-succession u n top x w = record {
  front = w.before ++ exchange (Branch top.lo top.hi) (One u) ∷ [];
  run = w.mutes;
  back = [];
  whole = w.whole ∙ sym (append_assoc w.before (exchange (Branch top.lo top.hi) (One u) ∷ []) w.mutes)
      ∙ sym (append-nil ((w.before ++ exchange (Branch top.lo top.hi) (One u) ∷ []) ++ w.mutes));
  many = w.many;
  each = w.lost;
}

-- a UID that was spelt is a device's
pub is_muting_read-device : (search : Search) (known : List ℕ) (u tries spare bads : ℕ) (top : Span) (below : List Span)
    (x : List Seen) (found : List ℕ) → IsMutingRead search known u tries spare bads top below x found → IsDevice u
is_muting_read-device search known u tries spare bads top below x found p =
    let new = is_new-device found top u p.new in let to = new.to in
    let end = (IsStack-ends top below p.searches.stack).1 in record { in_range = omega arith; own = new.own }

-- what one UID alone spelt is always soon enough
pub soon-alone : (search : Search) (top : Span) (spent : ℕ) → top.lo ≡ top.hi → is_soon search top spent ≡ true
soon-alone Steady top spent one = refl
soon-alone Quick top spent one = rw (eq-eqb top.lo top.hi one) refl

module _ (kind : Kind) (known : List ℕ) (budget : ℕ) (x : List Seen) (a : AgentState)
    (s : RunInvariant kind known budget x a) (goes : nat_lt a.frames a.budget ≡ true) where
  counted : (e : Seen) → (a.frames + 1 ≡ length (x ++ e ∷ [])) × (length (x ++ e ∷ []) ≤ budget)
  counted e = let longer = length_push x e in let same = s.budget_is in let frames = s.frames_are in
      let below : a.frames < a.budget = ltb-true a.frames a.budget goes in (omega arith, omega arith)

  -- nothing is found, and the phase goes on
  pub to_phase-stands : (e : Seen) (phase : Phase) → (found_uids a) ≡ reported (x ++ e ∷ [])
      → InPhase a.search kind known budget phase (x ++ e ∷ []) (found_uids a)
      → RunInvariant kind known budget (x ++ e ∷ []) (to_phase a phase)
  to_phase-stands e phase reports p = record {
    budget_is = s.budget_is;
    frames_are = (counted e).0;
    within = (counted e).1;
    reports = reports;
    first = AsFirstAcked-push x e a.found s.first;
    bad = WereBad-push a.apart x e s.bad;
    phase = p;
  }

  -- without an acknowledgement the same is reported
  pub reported-same : (e : Seen) → acked_by e ≡ None → (found_uids a) ≡ reported (x ++ e ∷ [])
  reported-same e none =
      s.reports ∙ ap (λ us. set_of (take MOST_DEVICES (once us))) (sym (read-push_none acked_by x e none))

  -- an acknowledgement comes
  pub to_found-stands : (u : ℕ) (ack : MuteAck) (phase : Phase) → AllByRecursion NotFailed x → IsFound x (found_uids a)
      → ((more : List ℕ) → IsFound (x ++ exchange (Mute u) (Acked ack) ∷ []) more
      → ((v : ℕ) → has (found_uids a) v ≡ true → has more v ≡ true) → has more u ≡ true
      → InPhase a.search kind known budget phase (x ++ exchange (Mute u) (Acked ack) ∷ []) more)
      → RunInvariant kind known budget (x ++ exchange (Mute u) (Acked ack) ∷ []) (to_found a (device_from u ack) phase)
  to_found-stands u ack phase sound f onward =
      cond_both (has (found_uids a) u) _ _ P at_old
      (λ new. cond_both (nat_lt (length (found_uids a)) MOST_DEVICES) _ _ P (at_new new) (at_full new))
    where
      e : Seen
      e = exchange (Mute u) (Acked ack)

      P : AgentState → Type 0
      P b = RunInvariant kind known budget (x ++ exchange (Mute u) (Acked ack) ∷ []) b

      at_old : has (found_uids a) u ≡ true → P (to_phase a phase)
      at_old old = let is_found : IsFound (x ++ e ∷ []) (found_uids a) = found-again x (found_uids a) e f u refl old in
          to_phase-stands e phase (IsFound-reported (x ++ e ∷ []) (found_uids a) is_found)
          (onward (found_uids a) is_found (λ v here. here) old)

      d : Device
      d = device_from u ack

      grown : uids_of (with_device d a.found) ≡ with_uid u (found_uids a)
      grown = uids_of-with_device d a.found

      at_new : has (found_uids a) u ≡ false → nat_lt (length (found_uids a)) MOST_DEVICES ≡ true
          → P (record {
            budget = a.budget;
            frames = a.frames + 1;
            search = a.search;
            found = with_device d a.found;
            apart = without u a.apart;
            more = a.more;
            phase = phase;
          })
      at_new new space =
          let is_found : IsFound (x ++ e ∷ []) (with_uid u (found_uids a)) = found-new x (found_uids a) e f u refl new
          (ltb-true (length (found_uids a)) MOST_DEVICES space) in record {
            budget_is = s.budget_is;
            frames_are = (counted e).0;
            within = (counted e).1;
            reports = grown ∙ IsFound-reported (x ++ e ∷ []) (with_uid u (found_uids a)) is_found;
            first = AsFirstAcked-new x e d a.found refl (IsFound-has x (found_uids a) f u ∙ new) s.first;
            bad = WereBad-without u a.apart (x ++ e ∷ []) (WereBad-push a.apart x e s.bad);
            phase = subst (λ us. InPhase a.search kind known budget phase (x ++ e ∷ []) us) (sym grown)
                (onward (with_uid u (found_uids a)) is_found (λ v here. has-with_uid u (found_uids a) v
                ∙ or_right (v == u) (has (found_uids a) v) here)
                (has-with_uid u (found_uids a) u ∙ or_left (u == u) (has (found_uids a) u) (eq-eqb u u refl)));
          }

      at_full : has (found_uids a) u ≡ false → nat_lt (length (found_uids a)) MOST_DEVICES ≡ false
          → P (to_phase a (Ended (Some TooMany)))
      at_full new full =
          to_phase-stands e (Ended (Some TooMany)) (found-reports x (found_uids a) e f u refl new all) (record {
            before = x;
            last = e;
            whole = refl;
            no_failure = sound;
            certified = found-one_too_many x (found_uids a) e f u ack refl new all;
          })
        where
          all : length (found_uids a) ≡ MOST_DEVICES
          all = let room = f.room in let least = ltb-false (length (found_uids a)) MOST_DEVICES full in omega arith

  -- an unmute
  pub unmuting-stands : (more : ℕ) (left : List ℕ) (h : Heard) → h ≢ Failed
      → InPhase a.search kind known budget (Unmuting more left) x (found_uids a)
      → RunInvariant kind known budget (x ++ exchange Unmute h ∷ []) (heard_by_phase a (Unmuting more left) h)
  unmuting-stands more left h sound p =
      to_phase-stands (exchange Unmute h) (cond (nat_lt 1 more) (Unmuting (more - 1) left) (search_from a.search left))
      (reported-same (exchange Unmute h) refl)
      (cond_both (nat_lt 1 more) _ _ (λ q. InPhase a.search kind known budget q (x ++ exchange Unmute h ∷ [])
      (found_uids a))
      (λ two. let above : 1 < more = ltb-true 1 more two in (omega arith, pushed))
      (λ one. known-next kind known budget a.search left (x ++ exchange Unmute h ∷ []) (found_uids a)
      (unmuted (known_of kind known) left (x ++ exchange Unmute h ∷ []) (found_uids a) (at_end one))))
    where
      pushed : IsUnmuting (known_of kind known) (more - 1) left (x ++ exchange Unmute h ∷ []) (found_uids a)
      pushed = unmuting-push (known_of kind known) more left x (found_uids a) h p.0 sound p.1

      at_end : nat_lt 1 more ≡ false
          → IsUnmuting (known_of kind known) 0 left (x ++ exchange Unmute h ∷ []) (found_uids a)
      at_end one = subst (λ n. IsUnmuting (known_of kind known) n left (x ++ exchange Unmute h ∷ []) (found_uids a))
          (let few : more ≤ 1 = ltb-false 1 more one in let none : more - 1 ≡ 0 = omega arith in none) pushed

  -- a known UID is muted
  known_lost-stands : (u tries spare : ℕ) (left : List ℕ) (h : Heard) → h ≢ Failed → is_acked h ≡ false
      → IsMutingKnown (known_of kind known) u tries left x (found_uids a)
      → RunInvariant kind known budget (x ++ exchange (Mute u) h ∷ [])
      (to_phase a (known_lost a.search u tries spare left))
  known_lost-stands u tries spare left h sound lost p =
      to_phase-stands e (known_lost a.search u tries spare left) (reported-same e (lost-acks_none u h lost))
      (cond_both ((tries + 1) == TRIES) _ _ (λ q. InPhase a.search kind known budget q (x ++ e ∷ []) (found_uids a))
      (λ five. known-next kind known budget a.search left (x ++ e ∷ []) (found_uids a)
      (known-given_up (known_of kind known) u left (x ++ e ∷ []) (found_uids a) muting
      (EndsWith-succession (subst (λ n. EndsWith n (IsLostMute u) (x ++ e ∷ [])) (eqb-true (tries + 1) TRIES five)
      ends))))
      (λ fewer. record {
        muting = muting;
        few = few_more tries p.few (eqb-false (tries + 1) TRIES fewer);
        lost = ends;
      }))
    where
      e : Seen
      e = exchange (Mute u) h

      muting : MutesKnown (known_of kind known) (Some u) (u ∷ left) (x ++ e ∷ []) (found_uids a)
      muting = known-lost (known_of kind known) u left x (found_uids a) p.muting h sound lost

      ends : EndsWith (tries + 1) (IsLostMute u) (x ++ e ∷ [])
      ends = EndsWith-push e p.lost (refl, lost)

  -- bytes came that aren't its acknowledgement
  known_garbled-stands : (u tries spare : ℕ) (left : List ℕ) (h : Heard) → h ≢ Failed → is_acked h ≡ false
      → IsMutingKnown (known_of kind known) u tries left x (found_uids a)
      → RunInvariant kind known budget (x ++ exchange (Mute u) h ∷ [])
      (to_phase a (cond (nat_lt 0 spare) (MutingKnown u tries (spare - 1) left)
      (known_lost a.search u tries spare left)))
  known_garbled-stands u tries spare left h sound lost p =
      cond_both (nat_lt 0 spare) _ _
      (λ q. RunInvariant kind known budget (x ++ exchange (Mute u) h ∷ []) (to_phase a q))
      (λ spares. to_phase-stands (exchange (Mute u) h) (MutingKnown u tries (spare - 1) left)
      (reported-same (exchange (Mute u) h) (lost-acks_none u h lost)) (record {
        muting = known-lost (known_of kind known) u left x (found_uids a) p.muting h sound lost;
        few = p.few;
        lost = EndsWith-fewer tries (EndsWith-push (exchange (Mute u) h) p.lost (refl, lost));
      }))
      (λ counts. known_lost-stands u tries spare left h sound lost p)

  pub known-stands : (u tries spare : ℕ) (left : List ℕ) (h : Heard) → h ≢ Failed
      → IsMutingKnown (known_of kind known) u tries left x (found_uids a)
      → RunInvariant kind known budget (x ++ exchange (Mute u) h ∷ []) (known_heard a u tries spare left h)
  known-stands u tries spare left (Acked ack) sound p =
      to_found-stands u ack (search_from a.search left) p.muting.under_way.no_failure p.muting.under_way.is_found
      (λ more is_found grows here. known-next kind known budget a.search left (x ++ exchange (Mute u) (Acked ack) ∷ [])
      more (known-acked (known_of kind known) u left x (found_uids a) p.muting ack more is_found grows here))
  known-stands u tries spare left Failed sound p = absurd (sound refl)
  known-stands u tries spare left Silent sound p = known_lost-stands u tries spare left Silent sound refl p
  known-stands u tries spare left (One v) sound p = known_garbled-stands u tries spare left (One v) sound refl p
  known-stands u tries spare left Noise sound p = known_garbled-stands u tries spare left Noise sound refl p

  -- the top range is branched, and something came
  apart-stands : (silences bads spent : ℕ) (top : Span) (below : List Span) (h : Heard) → h ≢ Failed → h ≢ Silent
      → has_bytes h ≡ true → (top.lo ≡ top.hi → (u : ℕ) → h ≡ One u → is_new (found_uids a) top u ≡ false)
      → IsSearching a.search (known_of kind known) silences bads top below x (found_uids a)
      → RunInvariant kind known budget (x ++ exchange (Branch top.lo top.hi) h ∷ [])
      (to_phase a (search_apart a.search (bads + 1) spent top below))
  apart-stands silences bads spent top below h sound loud bytes refused p =
      to_phase-stands e (search_apart a.search (bads + 1) spent top below) (reported-same e refl)
      (search-apart a.search kind known budget (bads + 1) spent top below x e (found_uids a)
      (search-branch (known_of kind known) top below x (found_uids a) None top.lo top.hi h p.searches sound)
      (answered-by a.search top bads x h bytes p.not_corrupt)
      (λ one none. corrupt-reply top x (found_uids a) h p.searches.under_way.is_found sound loud (refused one) one)
      (λ several u c. not_corrupt-several u (x ++ e ∷ []) x [] top.lo top.hi h refl tt several c))
    where
      e : Seen
      e = exchange (Branch top.lo top.hi) h

  silent-stands : (silences bads spent : ℕ) (top : Span) (below : List Span)
      → IsSearching a.search (known_of kind known) silences bads top below x (found_uids a)
      → RunInvariant kind known budget (x ++ exchange (Branch top.lo top.hi) Silent ∷ [])
      (to_phase a (search_silent silences spent top below))
  silent-stands silences bads spent top below p =
      to_phase-stands e (search_silent silences spent top below) (reported-same e refl)
      (cond_both ((silences + 1) == TRIES) _ _ (λ q. InPhase a.search kind known budget q (x ++ e ∷ []) (found_uids a))
      (λ five. search-next a.search kind known budget top below x e (found_uids a) searches
      (EndsWith-succession (subst (λ n. EndsWith n (IsSilentBranch top.lo top.hi) (x ++ e ∷ []))
      (eqb-true (silences + 1) TRIES five) ends)) (λ r. sound-silent a.search r x top.lo top.hi))
      (λ fewer. record {
        searches = searches;
        few = few_more silences p.few (eqb-false (silences + 1) TRIES fewer);
        silent = ends;
        not_corrupt = sound-silent a.search top x top.lo top.hi;
      }))
    where
      e : Seen
      e = exchange (Branch top.lo top.hi) Silent

      sound : Silent ≡ Failed → ⊥
      sound q = cc

      searches : Searches (known_of kind known) None top below (x ++ e ∷ []) (found_uids a)
      searches = search-branch (known_of kind known) top below x (found_uids a) None top.lo top.hi Silent p.searches
          sound

      ends : EndsWith (silences + 1) (IsSilentBranch top.lo top.hi) (x ++ e ∷ [])
      ends = EndsWith-push e p.silent (refl, refl)

  spelt-stands : (silences bads spent : ℕ) (top : Span) (below : List Span) (u : ℕ)
      → IsSearching a.search (known_of kind known) silences bads top below x (found_uids a)
      → RunInvariant kind known budget (x ++ exchange (Branch top.lo top.hi) (One u) ∷ [])
      (to_phase a (search_read a.search (found_uids a) (bads + 1) spent top below u))
  spelt-stands silences bads spent top below u p =
      cond_both (is_new (found_uids a) top u && is_soon a.search top spent) _ _
      (λ q. RunInvariant kind known budget (x ++ e ∷ []) (to_phase a q))
      (λ muted. to_phase-stands e (MutingRead u 0 (spare_at a.search top (bads + 1)) (bads + 1) top below)
      (reported-same e refl) (record {
        n = 0;
        searches = search-branch (known_of kind known) top below x (found_uids a) (Some u) top.lo top.hi (One u)
            p.searches sound;
        few = omega arith;
        new = (and_parts (is_new (found_uids a) top u) _ muted).0;
        spelt = record { before = x; mutes = []; whole = refl; many = refl; lost = tt };
        counted = refl;
        spared = omega arith;
        answered = answered-by a.search top bads x (One u) refl p.not_corrupt;
      }))
      (λ old. apart-stands silences bads spent top below (One u) sound loud refl
      (λ one v is. subst (λ (w : ℕ). is_new (found_uids a) top w ≡ false) (same v is)
      (not_new (is_new (found_uids a) top u) (is_soon a.search top spent) (soon-alone a.search top spent one) old)) p)
    where
      e : Seen
      e = exchange (Branch top.lo top.hi) (One u)

      sound : One u ≡ Failed → ⊥
      sound q = cc

      loud : One u ≡ Silent → ⊥
      loud q = cc

      same : (v : ℕ) → One u ≡ One v → u ≡ v
      same v q = cc

      not_new : (new soon : Bool) → soon ≡ true → (new && soon) ≡ false → new ≡ false
      not_new false soon is never = refl
      not_new true soon is never = absurd (true≢false (sym is ∙ never))

  pub searching-stands : (silences bads spent : ℕ) (top : Span) (below : List Span) (h : Heard) → h ≢ Failed
      → IsSearching a.search (known_of kind known) silences bads top below x (found_uids a)
      → RunInvariant kind known budget (x ++ exchange (Branch top.lo top.hi) h ∷ [])
      (branch_heard a silences bads spent top below h)
  searching-stands silences bads spent top below Silent sound p =
      silent-stands silences bads (spent_more spent) top below p
  searching-stands silences bads spent top below (One u) sound p =
      spelt-stands silences bads (spent_more spent) top below u p
  searching-stands silences bads spent top below Failed sound p = absurd (sound refl)
  searching-stands silences bads spent top below (Acked ack) sound p =
      apart-stands silences bads (spent_more spent) top below (Acked ack) sound (λ q. cc) refl (λ one u q. cc) p
  searching-stands silences bads spent top below Noise sound p =
      apart-stands silences bads (spent_more spent) top below Noise sound (λ q. cc) refl (λ one u q. cc) p

  -- what the top range spelt is muted
  pub read_is : (u tries : ℕ) (top : Span) → WasSpelt u tries top x → has (read_in x) u ≡ true
  read_is u tries top w =
      subst (λ l. has (read_in l) u ≡ true) (sym w.whole)
      (has-at read_by w.before (exchange (Branch top.lo top.hi) (One u)) w.mutes u refl)

  mute_lost-stands : (u tries spare bads : ℕ) (top : Span) (below : List Span) (h : Heard) → h ≢ Failed
      → is_acked h ≡ false
      → IsMutingRead a.search (known_of kind known) u tries spare bads top below x (found_uids a)
      → RunInvariant kind known budget (x ++ exchange (Mute u) h ∷ [])
      (to_phase a (mute_lost a.search u tries spare bads top below))
  mute_lost-stands u tries spare bads top below h sound lost p =
      to_phase-stands e (mute_lost a.search u tries spare bads top below) (reported-same e (lost-acks_none u h lost))
      (cond_both ((tries + 1) == TRIES) _ _ (λ q. InPhase a.search kind known budget q (x ++ e ∷ []) (found_uids a))
      (λ last. given_up (eqb-true (tries + 1) TRIES last))
      (λ fewer. record {
        n = p.n + 1;
        searches = searches;
        few = few_more tries p.few (eqb-false (tries + 1) TRIES fewer);
        new = p.new;
        spelt = spelt;
        counted = let counted = p.counted in omega arith;
        spared = p.spared;
        answered = answered;
      }))
    where
      e : Seen
      e = exchange (Mute u) h

      searches : Searches (known_of kind known) (Some u) top below (x ++ e ∷ []) (found_uids a)
      searches = search-lost (known_of kind known) top below x (found_uids a) u h p.searches
          (read_is u p.n top p.spelt) sound lost

      spelt : WasSpelt u (p.n + 1) top (x ++ e ∷ [])
      spelt = WasSpelt-push u p.n top x h lost p.spelt

      answered : Answered a.search top bads (x ++ e ∷ [])
      answered = answered-lost a.search top bads x u h lost p.answered

      five_at : tries + 1 ≡ TRIES → spare_at a.search top bads ≡ 0 → WasSpelt u TRIES top (x ++ e ∷ [])
      five_at last none =
          let counted = p.counted in let spared = p.spared in
          let all : p.n + 1 ≡ TRIES = omega (arith, last, none, counted, spared) in
          subst (λ n. WasSpelt u n top (x ++ e ∷ [])) all spelt

      given_up : tries + 1 ≡ TRIES
          → InPhase a.search kind known budget (search_apart a.search bads 10 top below) (x ++ e ∷ []) (found_uids a)
      given_up last = search-apart a.search kind known budget bads 10 top below x e (found_uids a)
          (search-given_up (known_of kind known) top below (x ++ e ∷ []) (found_uids a) u
          (is_muting_read-device a.search (known_of kind known) u tries spare bads top below x (found_uids a) p)
          (InSuccession-fewer TRIES (p.n + 1)
          (let counted = p.counted in let spared = p.spared in omega (arith, last, counted, spared))
          (WasSpelt-succession u (p.n + 1) top (x ++ e ∷ []) spelt)) searches)
          answered
          (λ one none. corrupt-mutes top u (x ++ e ∷ []) (found_uids a) searches.under_way.no_failure
          (is_new-device (found_uids a) top u p.new) (five_at last none) one)
          (λ several w c. not_corrupt-several w (x ++ e ∷ []) spelt.before spelt.mutes top.lo top.hi (One u) spelt.whole
          (lost_no_branches u spelt.mutes spelt.lost) several c)

  -- bytes came that aren't its acknowledgement
  mute_garbled-stands : (u tries spare bads : ℕ) (top : Span) (below : List Span) (h : Heard) → h ≢ Failed
      → is_acked h ≡ false
      → IsMutingRead a.search (known_of kind known) u tries spare bads top below x (found_uids a)
      → RunInvariant kind known budget (x ++ exchange (Mute u) h ∷ [])
      (to_phase a (cond (nat_lt 0 spare) (MutingRead u tries (spare - 1) bads top below)
      (mute_lost a.search u tries spare bads top below)))
  mute_garbled-stands u tries spare bads top below h sound lost p =
      cond_both (nat_lt 0 spare) _ _ (λ q. RunInvariant kind known budget (x ++ e ∷ []) (to_phase a q))
      (λ spares. let some : 0 < spare = ltb-true 0 spare spares in let counted = p.counted in let spared = p.spared in
      to_phase-stands e (MutingRead u tries (spare - 1) bads top below) (reported-same e (lost-acks_none u h lost))
      (record {
        n = p.n + 1;
        searches = search-lost (known_of kind known) top below x (found_uids a) u h p.searches
            (read_is u p.n top p.spelt) sound lost;
        few = p.few;
        new = p.new;
        spelt = WasSpelt-push u p.n top x h lost p.spelt;
        counted = omega (arith, some, counted);
        spared = omega (arith, spared);
        answered = answered-lost a.search top bads x u h lost p.answered;
      }))
      (λ counts. mute_lost-stands u tries spare bads top below h sound lost p)
    where
      e : Seen
      e = exchange (Mute u) h

  pub muting-stands : (u tries spare bads : ℕ) (top : Span) (below : List Span) (h : Heard) → h ≢ Failed
      → IsMutingRead a.search (known_of kind known) u tries spare bads top below x (found_uids a)
      → RunInvariant kind known budget (x ++ exchange (Mute u) h ∷ []) (mute_heard a u tries spare bads top below h)
  muting-stands u tries spare bads top below (Acked ack) sound p =
      to_found-stands u ack (Searching 0 0 0 top below) p.searches.under_way.no_failure p.searches.under_way.is_found
      (λ more is_found grows here. record {
        searches = search-acked (known_of kind known) top below x (found_uids a) u ack more
            (is_muting_read-device a.search (known_of kind known) u tries spare bads top below x (found_uids a) p)
            p.searches (read_is u p.n top p.spelt) is_found grows here;
        few = omega arith;
        silent = EndsWith-none _ (x ++ exchange (Mute u) (Acked ack) ∷ []);
        not_corrupt = sound-acked a.search top u p.n ack top x p.spelt;
      })
  muting-stands u tries spare bads top below Failed sound p = absurd (sound refl)
  muting-stands u tries spare bads top below Silent sound p =
      mute_lost-stands u tries spare bads top below Silent sound refl p
  muting-stands u tries spare bads top below (One v) sound p =
      mute_garbled-stands u tries spare bads top below (One v) sound refl p
  muting-stands u tries spare bads top below Noise sound p =
      mute_garbled-stands u tries spare bads top below Noise sound refl p
