-- What clients have read of the published views, and what they found themselves.
use Rattle.rdm_lanes.proofs.Common.{◌≡◌, ℕ, ◌<◌, ◌≤◌, List, [], ◌∷◌, ◌++◌, length, take, map, fold, Some, refl, sym, ap}
use Rattle.rdm_lanes.proofs.Common.{◌∙◌, subst, inl, inr, slice_get, length-append, arith, ◌⊎◌, cases_lt, fold-append}
use Rattle.rdm_lanes.proofs.Common.{map-append, IsPrefix, DeviceView, LogState, OutcomeValue, Ghosts, RingOutcome}
use Rattle.rdm_lanes.proofs.Common.{ClientEnd, value_in, values_in, opening_view, last_view}
use Rattle.rdm_lanes.proofs.Common.{last_view_run, RisesAbove, AreViews, all_views, found_after, last_found, Publishing}
use Rattle.rdm_lanes.proofs.Common.{Publishes}
use Rattle.rdm_lanes.specs.Publishing.{IsPublished, BeginOne}
use Rattle.rdm_lanes.proofs.Fronts.{prefix_shorter}

-- what a client found, after one outcome more
pub nothing_found : last_found (values_in []) ≡ opening_view
unfolding last_found values_in
nothing_found = refl

pub found_more : (items : List RingOutcome) (item : RingOutcome)
    → last_found (values_in (items ++ item ∷ [])) ≡ found_after (last_found (values_in items)) (value_in item)
unfolding last_found values_in
found_more items item =
    ap (λ (vs : List OutcomeValue). fold found_after opening_view vs) (map-append value_in items (item ∷ []))
    ∙ fold-append found_after opening_view (map value_in items) (value_in item ∷ [])

-- the last of views whose runs rise
abbrev last_of : DeviceView → List DeviceView → DeviceView
last_of first views = fold (λ (before v : DeviceView). v) first views

not_earlier : (first : DeviceView) (views : List DeviceView) → RisesAbove first.run views
    → first.run ≤ (last_of first views).run
not_earlier first [] rise = omega arith
not_earlier first (v ∷ views) rise = let rest = not_earlier v views rise.1 in omega (arith, rest, rise.0)

rises_on : (first : DeviceView) (views : List DeviceView) (v : DeviceView) (rest : List DeviceView)
    → RisesAbove first.run (views ++ v ∷ rest) → (last_of first views).run < (last_of first (views ++ v ∷ rest)).run
rises_on first [] v rest rise = let after = not_earlier v rest rise.1 in omega (arith, after, rise.0)
rises_on first (w ∷ views) v rest rise = rises_on w views v rest rise.1

later_with : (views : List DeviceView) (v : DeviceView) (rest : List DeviceView) → AreViews views
    → AreViews (views ++ v ∷ rest) → last_view_run views < last_view_run (views ++ v ∷ rest)
unfolding last_view
later_with views v rest are all =
    let same : all.later ≡ are.later
    ++ v ∷ rest = tail (sym all.begin ∙ ap (λ (l : List DeviceView). l ++ v ∷ rest) are.begin) in
    subst (λ (l : List DeviceView). (last_of opening_view l).run < (last_of opening_view (l ++ v ∷ rest)).run)
    (sym are.begin) (rises_on opening_view are.later v rest (subst (RisesAbove 0) same all.rise))
  where
    tail : {xs ys : List DeviceView} → opening_view ∷ xs ≡ opening_view ∷ ys → xs ≡ ys
    tail e = cc

later_longer : (shown read rest : List DeviceView) → shown ++ rest ≡ read → AreViews shown → AreViews read
    → length shown < length read → last_view_run shown < last_view_run read
later_longer shown read [] is a b less = absurd (omega (arith, less, ap length is, length-append shown []))
later_longer shown read (v ∷ rest) is a b less =
    subst (λ (l : List DeviceView). last_view_run shown < last_view_run l) is
    (later_with shown v rest a (subst AreViews (sym is) b))

-- of two beginnings of one list, the one whose last run isn't later begins the other
pub begin_one_list : (shown read all : List DeviceView) → AreViews shown → AreViews read → IsPrefix shown all
    → IsPrefix read all → BeginOne shown read
begin_one_list shown read all a b p q = record {
  all = all;
  shown_begins = p;
  read_begins = q;
  early = λ few. by_length few (cases_lt (length shown) (length read));
}
  where
    by_length : last_view_run read ≤ last_view_run shown → (length shown < length read) ⊎ (length read ≤ length shown)
        → IsPrefix read shown
    by_length few (inl less) =
        let between = prefix_shorter shown read all p q (omega (arith, less)) in
        absurd (omega (arith, few, later_longer shown read between.0 between.1 a b less))
    by_length few (inr fits) = prefix_shorter read shown all q p fits

-- what readers may read begins all views of the log
pub take_prefix : (xs ys : List DeviceView) → xs ≡ take (length xs) ys → IsPrefix xs ys
take_prefix [] ys is = (ys, refl)
take_prefix (x ∷ xs) [] is = absurd (omega (arith, ap length is))
take_prefix (x ∷ xs) (y ∷ ys) is =
    let rest = take_prefix xs ys (cc is) in
    let same : x ≡ y = cc is in
    (rest.0, cc (same, rest.1))

pub published_of : (k : LogState) (p : Publishing) → Publishes k p → IsPublished (all_views k.entries) p.shown
published_of k p is = record {
  begin = take_prefix p.shown (all_views k.entries) is.showing.begin;
  lacks_one = is.showing.lacks_one;
}

module _ {J : Type 0} {h : Ghosts J} {C A : Type 0} where
  -- while they are compared: those before `at` are
  pub record ReadBefore (shown : List DeviceView) (at : ℕ) (ends : List (ClientEnd J C A h)) : Type 0 where
    pub each : (i : ℕ) (e : ClientEnd J C A h) → i < at → slice_get ends i ≡ Some e → BeginOne shown e.views
