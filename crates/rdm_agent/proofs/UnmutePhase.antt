-- The three unmutes, with which a run begins.
use Rattle.rdm_agent.proofs.Common.{◌≡◌, ℕ, ◌-◌, ◌≤◌, false, true, List, [], ◌∷◌, ◌++◌, length, map, take, Option, None}
use Rattle.rdm_agent.proofs.Common.{refl, sym, ap, ◌∙◌, subst, inr, true≢false, arith, filter_map, replicate}
use Rattle.rdm_agent.proofs.Common.{AllByRecursion, length_push, has, IsDevice, Heard, Seen, Unmute, muted_uid}
use Rattle.rdm_agent.proofs.Common.{asks_range, muted_by, is_branch, UNMUTES, none-some}
use Rattle.rdm_agent.proofs.OneDevice.{NotFailed}
use Rattle.rdm_agent.proofs.Pushes.{All-push, All-at}
use Rattle.rdm_agent.proofs.Sets.{each_member}
use Rattle.rdm_agent.proofs.FoundLemmas.{found-same}
use Rattle.rdm_agent.proofs.Invariant.{IsUnmuting, MutesKnown}

-- an exchange that unmutes
abbrev pub IsUnmute : Seen → Type 0
IsUnmute e = e.asked ≡ Unmute

-- one more unmute
pub unmuting-push : (known : List ℕ) (more : ℕ) (left : List ℕ) (x : List Seen) (found : List ℕ) (h : Heard) → 1 ≤ more
    → NotFailed (record { asked = Unmute; heard = h }) → IsUnmuting known more left x found
    → IsUnmuting known (more - 1) left (x ++ record { asked = Unmute; heard = h } ∷ []) found
unmuting-push known more left x found h some sound s = record {
  unmutes = All-push IsUnmute x (record { asked = Unmute; heard = h }) s.unmutes refl;
  no_failure = All-push NotFailed x (record { asked = Unmute; heard = h }) s.no_failure sound;
  counted = let longer = length_push x (record { asked = Unmute; heard = h }) in let counted = s.counted in omega arith;
  is_found = found-same x found (record { asked = Unmute; heard = h }) s.is_found refl;
  left_is = s.left_is;
  devices = s.devices;
}

three_unmutes : (x : List Seen) → length x ≡ UNMUTES → AllByRecursion IsUnmute x
    → take UNMUTES (map (λ e. e.asked) x) ≡ replicate UNMUTES Unmute
three_unmutes (a ∷ b ∷ c ∷ x) three all = rw (all.0, all.1.0, all.1.1.0) refl
three_unmutes [] three all = absurd (omega (arith, three))
three_unmutes (a ∷ []) three all = absurd (omega (arith, three))
three_unmutes (a ∷ b ∷ []) three all = absurd (omega (arith, three))

-- unmutes mute nobody, and branch no range
none_read : (f : Seen → Option ℕ) → ((e : Seen) → IsUnmute e → f e ≡ None) → (x : List Seen) → AllByRecursion IsUnmute x
    → filter_map f x ≡ []
none_read f none [] all = refl
none_read f none (e ∷ x) all = rw (none e all.0) (none_read f none x all.1)

mutes_none : (e : Seen) → IsUnmute e → muted_by e ≡ None
mutes_none e is = ap muted_uid is

pub no_branches : (x : List Seen) → AllByRecursion IsUnmute x → AllByRecursion (λ e. is_branch e ≡ false) x
no_branches [] all = tt
no_branches (e ∷ x) all = (ap asks_range all.0, no_branches x all.1)

-- after the third unmute the known UIDs are left
pub unmuted : (known left : List ℕ) (x : List Seen) (found : List ℕ) → IsUnmuting known 0 left x found
    → MutesKnown known None left x found
unmuted known left x found s = record {
  under_way = record {
    begun = three_unmutes x (let counted = s.counted in omega arith) s.unmutes;
    no_failure = s.no_failure;
    is_found = s.is_found;
    tried = λ u muted. absurd (true≢false
        (sym muted ∙ ap (λ us. has us u) (none_read muted_by mutes_none x s.unmutes)));
    named = λ front back e whole u
        mutes. absurd (none-some u (sym (mutes_none e (All-at IsUnmute x front back e s.unmutes whole)) ∙ mutes));
  };
  no_branch = no_branches x s.unmutes;
  devices = subst (λ us. AllByRecursion IsDevice us) (sym s.left_is) s.devices;
  are_known = subst (λ us. AllByRecursion (λ u. has known u ≡ true) us) (sym s.left_is)
      (each_member (λ u. has known u ≡ true) known (λ u here. here));
  others_muted = λ u here. inr (subst (λ us. has us u ≡ true) (sym s.left_is) here);
}
