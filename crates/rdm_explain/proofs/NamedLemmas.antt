-- Which UIDs exchanges mute, by what was known and read before.
use Rattle.std.proofs.Common.{◌≡◌, ℕ, Bool, true, false, ◌||◌, List, [], ◌∷◌, ◌++◌}
use Rattle.std.proofs.Common.{refl, sym, ap, ◌∙◌, inl, inr, true≢false}
use Rattle.std.specs.Prelude.{◌⊎◌}
use Rattle.std.specs.List.{AllByRecursion, before_first}
use Rattle.std.proofs.lemmas.Bool.{or_cases, not-true, not-false}
use Rattle.std.proofs.lemmas.Option.{none-some, same_Some}
use Rattle.rdm_wire.specs.Uid.{has}
use Rattle.rdm_wire.proofs.EachAfterLemmas.{EachAfter-push}
use Rattle.rdm_wire.specs.Honest.{Asked, Seen}
use Rattle.rdm_wire.specs.Honest.Asked.{Unmute, Branch, Mute, Other}
use Rattle.rdm_agent.specs.Run.{muted_uid, read_in, is_branch}
use Rattle.rdm_agent.specs.Certificate.{MutesNamed}
use Rattle.rdm_explain.specs.declared.uids.Uids.{Uids}
use Rattle.rdm_explain.specs.Certificates.{MutesAreNamed}
use Rattle.rdm_explain.specs.body.Trees.{in_tree}
use Rattle.rdm_explain.specs.body.Naming.{asks_other, mutes_other}
use Rattle.rdm_agent.proofs.Pushes.{before_branch-cons}

-- the tree has the known UIDs and those that were read
abbrev pub Names : List ℕ → List Seen → Uids → Type 0
Names known x t = (u : ℕ) → in_tree t u ≡ (has known u || has (read_in x) u)

or_of : (a b : Bool) → (a ≡ true) ⊎ (b ≡ true) → (a || b) ≡ true
or_of true b e = refl
or_of false b (inl e) = absurd (true≢false (sym e))
or_of false b (inr e) = e

pub unread_ends : (known : List ℕ) (x : List Seen) (t : Uids) (e : Seen) → Names known x t → mutes_other t e ≡ true
    → MutesAreNamed known (x ++ e ∷ []) → ⊥
unread_ends known x t e names = by_asked e.asked refl
  where
    by_asked : (a : Asked) → e.asked ≡ a → asks_other t a ≡ true → MutesAreNamed known (x ++ e ∷ []) → ⊥
    by_asked Unmute is now all = true≢false (sym now)
    by_asked (Branch lo hi) is now all = true≢false (sym now)
    by_asked Other is now all = true≢false (sym now)
    by_asked (Mute u) is now all =
        true≢false (sym (names u ∙ or_of (has known u) (has (read_in x) u) (all x [] e refl u (ap muted_uid is)))
        ∙ not-true (in_tree t u) now)

pub unread_goes_on : (known : List ℕ) (x : List Seen) (t : Uids) (e : Seen) → Names known x t
    → mutes_other t e ≡ false → MutesAreNamed known x → MutesAreNamed known (x ++ e ∷ [])
unread_goes_on known x t e names other all =
    EachAfter-push (MutesNamed known) x e all (by_asked e.asked refl other)
  where
    by_asked : (a : Asked) → e.asked ≡ a → asks_other t a ≡ false → MutesNamed known x e
    by_asked Unmute is now = λ v muted. absurd (none-some v (sym (ap muted_uid is) ∙ muted))
    by_asked (Branch lo hi) is now = λ v muted. absurd (none-some v (sym (ap muted_uid is) ∙ muted))
    by_asked Other is now = λ v muted. absurd (none-some v (sym (ap muted_uid is) ∙ muted))
    by_asked (Mute u) is now = λ v muted.
        let same : u ≡ v = same_Some u v (sym (ap muted_uid is) ∙ muted) in
        or_cases (has known v) (has (read_in x) v)
        (sym (names v) ∙ ap (in_tree t) (sym same) ∙ not-false (in_tree t u) now)

-- what stands before the first branch
pub before_branch : (x : List Seen) (e : Seen) (y : List Seen) → AllByRecursion (λ d. is_branch d ≡ false) x
    → is_branch e ≡ true → before_first is_branch (x ++ e ∷ y) ≡ x
before_branch [] e y none is = before_branch-cons e y ∙ rw is refl
before_branch (d ∷ x) e y none is =
    before_branch-cons d (x ++ e ∷ y) ∙ rw none.0 (ap (λ l. d ∷ l) (before_branch x e y none.1 is))
