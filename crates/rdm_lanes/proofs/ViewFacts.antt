-- Views, whose runs rise.
use Rattle.rdm_lanes.proofs.Common.{◌≡◌, ◌<◌, ◌≤◌, zero, suc, List, [], ◌∷◌, ◌++◌, Some, None, slice_get, refl, ap}
use Rattle.rdm_lanes.proofs.Common.{subst, fold, inl, inr, arith, ◌⊎◌, fold-append, DeviceView, slice_get-push}
use Rattle.rdm_lanes.proofs.Common.{opening_view, last_view, last_view_run, RisesAbove, AreViews, NoneLater}
use Rattle.rdm_log.proofs.LogLemmas.Indices.{IsPushed}

-- the view that was added is the last
pub last_added : (views : List DeviceView) (v : DeviceView) → last_view (views ++ v ∷ []) ≡ v
unfolding last_view
last_added views v = fold-append (λ (before x : DeviceView). x) opening_view views (v ∷ [])

abbrev last_of : DeviceView → List DeviceView → DeviceView
last_of first views = fold (λ (before v : DeviceView). v) first views

rises_more : (first : DeviceView) (views : List DeviceView) (v : DeviceView) → RisesAbove first.run views
    → (last_of first views).run < v.run → RisesAbove first.run (views ++ v ∷ [])
rises_more first [] v rise less = (less, tt)
rises_more first (w ∷ views) v rise less = (rise.0, rises_more w views v rise.1 less)

-- a view of a later run may be added
pub views_more : (views : List DeviceView) (v : DeviceView) → AreViews views → last_view_run views < v.run
    → AreViews (views ++ v ∷ [])
unfolding last_view
views_more views v are less = record {
  later = are.later ++ v ∷ [];
  begin = ap (λ l. l ++ v ∷ []) are.begin;
  rise = rises_more opening_view are.later v are.rise
      (subst (λ l. (last_of opening_view l).run < v.run) are.begin less);
}

pub opening_views : AreViews (opening_view ∷ [])
opening_views = record { later = []; begin = refl; rise = tt }

-- none is later than the last
pub none_later_opening : NoneLater (opening_view ∷ [])
unfolding last_view
none_later_opening zero v at = let same : opening_view ≡ v = cc in omega (arith, ap (λ (w : DeviceView). w.run) same)
none_later_opening (suc i) v at = absurd (no_view at)
  where
    no_view : None ≡ Some v → ⊥
    no_view e = cc

pub none_later_more : (views : List DeviceView) (v : DeviceView) → NoneLater views → last_view_run views < v.run
    → NoneLater (views ++ v ∷ [])
none_later_more views v none less i w at = by_index (slice_get-push views v i w at)
  where
    last : last_view_run (views ++ v ∷ []) ≡ v.run
    last = ap (λ (x : DeviceView). x.run) (last_added views v)

    by_index : (slice_get views i ≡ Some w) ⊎ IsPushed views v i w → w.run ≤ last_view_run (views ++ v ∷ [])
    by_index (inl before) = omega (arith, none i w before, less, last)
    by_index (inr here) = omega (arith, ap (λ (x : DeviceView). x.run) here.is, last)

pub last_opening : last_view (opening_view ∷ []) ≡ opening_view
unfolding last_view
last_opening = refl
