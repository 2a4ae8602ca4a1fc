-- Each muted UID was tried, as far as no exchange mutes another one.
use Rattle.std.proofs.Common.{◌≡◌, ℕ, ◌<◌, ◌^◌, Bool, true, false, ◌||◌, not, List, [], ◌∷◌, ◌++◌, None, refl, sym, ap}
use Rattle.std.proofs.Common.{◌∙◌, subst, inl, inr, true≢false}
use Rattle.std.specs.List.{AllByRecursion}
use Rattle.std.proofs.lemmas.List.Elements.{filter_map-append}
use Rattle.std.proofs.lemmas.Bool.{or_cases, not-true}
use Rattle.rdm_wire.specs.Uid.{set_of, is_broadcast}
use Rattle.rdm_wire.specs.Honest.{Asked, Seen}
use Rattle.rdm_wire.specs.Honest.Asked.{Unmute, Branch, Mute, Other}
use Rattle.rdm_agent.specs.Run.{acked_in, muted_in, muted_by, muted_uid}
use Rattle.rdm_agent.specs.Certificate.{IsTried}
use Rattle.rdm_agent.proofs.Members.{first_part, last_part}
use Rattle.rdm_agent.proofs.Pushes.{read-push_none, read-push_some, All-push}
use Rattle.rdm_agent.proofs.Sets.{has-set_of}
use Rattle.rdm_explain.specs.declared.uids.Uids.{Uids}
use Rattle.rdm_explain.specs.Certificates.{AreTried}
use Rattle.rdm_explain.specs.body.Trees.{in_tree, Holds}
use Rattle.rdm_explain.specs.body.Trying.{lows, tried_points, asks_untried, mutes_untried}
use Rattle.rdm_explain.proofs.TriedLemmas.{WasTried, tried_is, is_tried}

pub tried_shorter : (w x y : List Seen) → AreTried w (x ++ y) → AreTried w x
tried_shorter w x y all =
    first_part (IsTried (set_of (acked_in w)) w) (muted_in x) (muted_in y)
    (subst (λ l. AllByRecursion (IsTried (set_of (acked_in w)) w) l) (filter_map-append muted_by x y) all)

to_tried : (w : List Seen) (u : ℕ) → IsTried (set_of (acked_in w)) w u → WasTried w u
to_tried w u t = elim t.tried [
  | inl acked ↦ inl (sym (has-set_of (acked_in w) u) ∙ acked)
  | inr five ↦ inr five
]

of_tried : (w : List Seen) (u : ℕ) → u < 2 ^ 48 → is_broadcast u ≡ false → WasTried w u
    → IsTried (set_of (acked_in w)) w u
of_tried w u range own t = record {
  device = record { in_range = range; own = own };
  tried = elim t [
    | inl acked ↦ inl (has-set_of (acked_in w) u ∙ acked)
    | inr five ↦ inr five
  ];
}

neither : (a b : Bool) → (a || not b) ≡ false → (a ≡ false) × (b ≡ true)
neither true b e = absurd (true≢false e)
neither false true e = (refl, refl)
neither false false e = absurd (true≢false e)

pub tried_ends : (w x : List Seen) (t : Uids) (e : Seen) → Holds (lows (tried_points w)) t → mutes_untried t e ≡ true
    → AreTried w (x ++ e ∷ []) → ⊥
tried_ends w x t e holds = by_asked e.asked refl
  where
    last : (u : ℕ) → e.asked ≡ Mute u → AreTried w (x ++ e ∷ []) → IsTried (set_of (acked_in w)) w u
    last u is all =
        (last_part (IsTried (set_of (acked_in w)) w) (muted_in x) (u ∷ [])
        (subst (λ l. AllByRecursion (IsTried (set_of (acked_in w)) w) l)
        (read-push_some muted_by x e u (ap muted_uid is)) all)).0

    by_asked : (a : Asked) → e.asked ≡ a → asks_untried t a ≡ true → AreTried w (x ++ e ∷ []) → ⊥
    by_asked Unmute is now all = true≢false (sym now)
    by_asked (Branch lo hi) is now all = true≢false (sym now)
    by_asked Other is now all = true≢false (sym now)
    by_asked (Mute u) is now all =
        let one = last u is all in
        elim (or_cases (is_broadcast u) (not (in_tree t u)) now) [
          | inl many ↦ true≢false (sym many ∙ one.device.own)
          | inr other ↦ true≢false (sym (holds u ∙ is_tried w u (to_tried w u one)) ∙ not-true (in_tree t u) other)
        ]

pub tried_goes_on : (w x : List Seen) (t : Uids) (e : Seen) → Holds (lows (tried_points w)) t
    → ((u : ℕ) → e.asked ≡ Mute u → u < 2 ^ 48) → mutes_untried t e ≡ false → AreTried w x → AreTried w (x ++ e ∷ [])
tried_goes_on w x t e holds range = by_asked e.asked refl
  where
    same : muted_uid e.asked ≡ None → AreTried w x → AreTried w (x ++ e ∷ [])
    same none all =
        subst (λ l. AllByRecursion (IsTried (set_of (acked_in w)) w) l) (sym (read-push_none muted_by x e none)) all

    by_asked : (a : Asked) → e.asked ≡ a → asks_untried t a ≡ false → AreTried w x → AreTried w (x ++ e ∷ [])
    by_asked Unmute is now all = same (ap muted_uid is) all
    by_asked (Branch lo hi) is now all = same (ap muted_uid is) all
    by_asked Other is now all = same (ap muted_uid is) all
    by_asked (Mute u) is now all =
        let both = neither (is_broadcast u) (in_tree t u) now in
        subst (λ l. AllByRecursion (IsTried (set_of (acked_in w)) w) l)
        (sym (read-push_some muted_by x e u (ap muted_uid is)))
        (All-push (IsTried (set_of (acked_in w)) w) (muted_in x) u all
        (of_tried w u (range u is) both.0 (tried_is w u (sym (holds u) ∙ both.1))))
