-- The mutes of known UIDs, up to the search.
use Rattle.rdm_agent.proofs.Common.{◌≡◌, ℕ, true, false, List, [], ◌∷◌, ◌++◌, length, None, Some, refl, sym, ap, ◌∙◌}
use Rattle.rdm_agent.proofs.Common.{subst, inl, inr, true≢false, append_assoc, arith, ◌⊎◌, ◌==◌, AllByRecursion}
use Rattle.rdm_agent.proofs.Common.{eqb-true, or_cases, has, whole, Heard, Seen, is_acked, Mute, Acked, MuteAck}
use Rattle.rdm_agent.proofs.Common.{muted_uid, muted_by, muted_in, is_branch, InSuccession, IsLostMute, known_of}
use Rattle.rdm_agent.proofs.Common.{search_from, first_phase, Kind, Search, Steady, Quick, TRIES}
use Rattle.rdm_agent.proofs.OneDevice.{NotFailed}
use Rattle.rdm_agent.proofs.Pushes.{All-push, has-front, has-at, no_branch-before}
use Rattle.rdm_agent.proofs.Stacks.{IsStack-whole}
use Rattle.rdm_agent.proofs.CorruptLemmas.{sound-no_branch}
use Rattle.rdm_agent.proofs.FoundLemmas.{found-same}
use Rattle.rdm_agent.proofs.UnderWay.{EndsWith-none, named-mute, lost-acks_none, under_way-lost, under_way-acked}
use Rattle.rdm_agent.proofs.UnderWay.{under_way-given_up, under_way-next_begun}
use Rattle.rdm_agent.proofs.Invariant.{IsFound, MutesKnown, Searches, InPhase}

five_muted : (u : ℕ) (x : List Seen) → InSuccession TRIES (IsLostMute u) x → has (muted_in x) u ≡ true
five_muted u x s = by_run s.run s.many s.each s.whole
  where
    by_run : (run : List Seen) → length run ≡ TRIES → AllByRecursion (IsLostMute u) run → x ≡ s.front ++ run ++ s.back
        → has (muted_in x) u ≡ true
    by_run [] five each whole = absurd (omega (arith, five))
    by_run (e ∷ run) five each whole =
        subst (λ l. has (muted_in l) u ≡ true) (sym (whole ∙ append_assoc s.front (e ∷ run) s.back))
        (has-at muted_by s.front e (run ++ s.back) u (ap muted_uid each.0.0))

module _ (known : List ℕ) (u : ℕ) (left : List ℕ) (x : List Seen) (found : List ℕ)
    (m : MutesKnown known (Some u) (u ∷ left) x found) where
  -- a mute of u is lost
  pub known-lost : (h : Heard) → NotFailed (record { asked = Mute u; heard = h }) → is_acked h ≡ false
      → MutesKnown known (Some u) (u ∷ left) (x ++ record { asked = Mute u; heard = h } ∷ []) found
  known-lost h sound lost = record {
    under_way = under_way-lost known x found u h m.under_way sound
        (found-same x found e m.under_way.is_found (lost-acks_none u h lost))
        (named-mute known x u h (inl m.are_known.0));
    no_branch = All-push (λ d. is_branch d ≡ false) x e m.no_branch refl;
    devices = m.devices;
    are_known = m.are_known;
    others_muted =
        λ v k. elim (m.others_muted v k)
        [ inl muted ↦ inl (has-front muted_by x (e ∷ []) v muted) | inr rest ↦ inr rest ];
  }
    where
      e : Seen
      e = record { asked = Mute u; heard = h }

  -- u is done, where it was muted
  others : (y : List Seen) → ((v : ℕ) → has (muted_in x) v ≡ true → has (muted_in y) v ≡ true)
      → has (muted_in y) u ≡ true → (v : ℕ) → has known v ≡ true → (has (muted_in y) v ≡ true) ⊎ (has left v ≡ true)
  others y grows here v k = elim (m.others_muted v k) [
    | inl muted ↦ inl (grows v muted)
    | inr rest ↦ elim (or_cases (v == u) (has left v) rest) [
      | inl is ↦ inl (subst (λ (w : ℕ). has (muted_in y) w ≡ true) (sym (eqb-true v u is)) here)
      | inr later ↦ inr later
    ]
  ]

  -- one is acknowledged
  pub known-acked : (ack : MuteAck) (more : List ℕ)
      → IsFound (x ++ record { asked = Mute u; heard = Acked ack } ∷ []) more
      → ((v : ℕ) → has found v ≡ true → has more v ≡ true) → has more u ≡ true
      → MutesKnown known None left (x ++ record { asked = Mute u; heard = Acked ack } ∷ []) more
  known-acked ack more is_found grows here = record {
    under_way = under_way-acked known x found u ack more m.devices.0 m.under_way is_found grows here
        (named-mute known x u (Acked ack) (inl m.are_known.0));
    no_branch = All-push (λ d. is_branch d ≡ false) x e m.no_branch refl;
    devices = m.devices.1;
    are_known = m.are_known.1;
    others_muted =
        others (x ++ e ∷ []) (λ v muted. has-front muted_by x (e ∷ []) v muted) (has-at muted_by x e [] u refl);
  }
    where
      e : Seen
      e = record { asked = Mute u; heard = Acked ack }

  -- five were lost
  pub known-given_up : InSuccession TRIES (IsLostMute u) x → MutesKnown known None left x found
  known-given_up five = record {
    under_way = under_way-given_up known u x found m.devices.0 five m.under_way;
    no_branch = m.no_branch;
    devices = m.devices.1;
    are_known = m.are_known.1;
    others_muted = others x (λ v muted. muted) (five_muted u x five);
  }

-- where no known UID is left the search begins, of either kind
module _ (kind : Kind) (known : List ℕ) (budget : ℕ) (x : List Seen) (found : List ℕ)
    (m : MutesKnown (known_of kind known) None [] x found) where
  searches : Searches (known_of kind known) None whole [] x found
  searches = record {
    under_way = m.under_way;
    known_first = λ v k. elim (m.others_muted v k) [
      | inl muted ↦ subst (λ l. has (muted_in l) v ≡ true) (sym (no_branch-before x m.no_branch)) muted
      | inr none ↦ absurd (true≢false (sym none))
    ];
    stack = IsStack-whole;
    cleared = λ v below. absurd (omega (arith, below));
  }

  begins : (search : Search) → InPhase search kind known budget (first_phase search) x found
  begins Steady = record {
    searches = searches;
    few = omega arith;
    silent = EndsWith-none _ x;
    not_corrupt = sound-no_branch Steady whole x m.no_branch;
  }
  begins Quick = record {
    quick = refl;
    searches = searches;
    asks = record {
      range = (omega arith, omega arith);
      few = omega arith;
      last = λ five. inl refl;
      apart = λ alone. absurd (true≢false (sym alone));
    };
    silent = EndsWith-none _ x;
    few_bads = omega arith;
    row = sound-no_branch Quick whole x m.no_branch;
  }

-- the next known UID is muted, or the search begins
pub known-next : (kind : Kind) (known : List ℕ) (budget : ℕ) (search : Search) (left : List ℕ) (x : List Seen)
    (found : List ℕ) → MutesKnown (known_of kind known) None left x found
    → InPhase search kind known budget (search_from search left) x found
known-next kind known budget search [] x found m = begins kind known budget x found m search
known-next kind known budget search (u ∷ left) x found m = record {
  muting = record {
    under_way = under_way-next_begun (known_of kind known) u x found m.under_way;
    no_branch = m.no_branch;
    devices = m.devices;
    are_known = m.are_known;
    others_muted = m.others_muted;
  };
  few = omega arith;
  lost = EndsWith-none _ x;
}
