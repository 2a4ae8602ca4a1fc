-- How both ends of each client's rings are compared, one client after the other.
use Rattle.rdm_lanes.proofs.Common.{◌≡◌, ◌≢◌, ℕ, zero, suc, ◌+◌, ◌-◌, ◌<◌, ◌≤◌, Bool, true, false, true≢false, List, []}
use Rattle.rdm_lanes.proofs.Common.{◌∷◌, ◌++◌, map, length, drop, Some, None, refl, sym, ap, ◌∙◌, slice_get, inl, inr}
use Rattle.rdm_lanes.proofs.Common.{⊎_elim, append-nil, length-append, arith, ◌||◌, slice_set, list_any, AllByRecursion}
use Rattle.rdm_lanes.proofs.Common.{cases_lt, slice_get_within, get_or_from_slice_get, length-set, length-map}
use Rattle.rdm_lanes.proofs.Common.{map-append, filter-append, known_items, LogState, Ghosts, ClientCall, Submit}
use Rattle.rdm_lanes.proofs.Common.{Discover, Leave, RingOutcome, Lane, ClientEnd, is_work, work_in, value_in}
use Rattle.rdm_lanes.proofs.Common.{values_in, ArePair, LaneFits, AllFit, is_leave, end_rings, PairUp, Agrees, AllAgree}
use Rattle.rdm_lanes.proofs.Common.{AllShowSame}
use Rattle.rtrb.specs.Ring.{sent as pushed, received as popped}
use Rattle.rdm_lanes.specs.body.Leaves.{leave_if}
use Rattle.rdm_lanes.specs.Lanes.{AllHaveLeft}
use Rattle.rdm_lanes.specs.Ends.{left_in, AllRead, ShowsSame}
use Rattle.rdm_lanes.proofs.LaneLemmas.{get-set}

work_parts : (xs ys : List ClientCall) → work_in (xs ++ ys) ≡ work_in xs ++ work_in ys
unfolding work_in
work_parts xs ys = filter-append is_work xs ys

value_parts : (xs ys : List RingOutcome) → values_in (xs ++ ys) ≡ values_in xs ++ values_in ys
unfolding values_in
value_parts xs ys = map-append value_in xs ys

-- after a leave nothing was sent
all_work : (xs : List ClientCall) → AllByRecursion (λ x. is_work x ≡ true) (work_in xs)
unfolding work_in
all_work [] = tt
all_work (Submit request ∷ xs) = (refl, all_work xs)
all_work (Discover kind ∷ xs) = (refl, all_work xs)
all_work (Leave ∷ xs) = all_work xs

no_more : (left : Bool) (x : ClientCall) (xs ys : List ClientCall) → x ∷ (xs ++ ys) ≡ leave_if left → ys ≡ []
no_more true x xs ys is = last xs ys (rest is)
  where
    rest : x ∷ (xs ++ ys) ≡ Leave ∷ [] → xs ++ ys ≡ []
    rest e = cc

    last : (xs ys : List ClientCall) → xs ++ ys ≡ [] → ys ≡ []
    last [] ys e = e
    last (z ∷ xs) ys e = cc
no_more false x xs ys is = cc

work_no_leave : (x : ClientCall) → is_work x ≡ true → is_leave x ≡ false
work_no_leave (Submit request) is = refl
work_no_leave (Discover kind) is = refl
work_no_leave Leave is = cc

nothing_after : (work xs ys : List ClientCall) (left : Bool) → AllByRecursion (λ x. is_work x ≡ true) work
    → xs ++ ys ≡ work ++ leave_if left → list_any is_leave xs ≡ true → ys ≡ []
nothing_after work [] ys left all is has = absurd (true≢false (sym has))
nothing_after [] (x ∷ xs) ys left all is has = no_more left x xs ys is
nothing_after (w ∷ work) (x ∷ xs) ys left all is has =
    let same : x ≡ w = cc in
    let rest : xs ++ ys ≡ work ++ leave_if left = cc in
    let later : list_any is_leave xs
    ≡ true = sym (ap (λ (b : Bool). b || list_any is_leave xs) (work_no_leave x (rw same all.0))) ∙ has in
    nothing_after work xs ys left all.1 rest later

-- what is left in a ring, as its free slots show it
drop_front : {X : Type 0} (xs ys : List X) → drop (length xs) (xs ++ ys) ≡ ys
drop_front [] ys = refl
drop_front (x ∷ xs) ys = drop_front xs ys

pub left_is : {X : Type 0} (past popped left : List X) (free capacity : ℕ) → past ≡ popped ++ left
    → free + length past ≡ capacity + length popped → left ≡ drop (length past - (capacity - free)) past
left_is past popped left free capacity whole slots =
    let long : length past ≡ length popped + length left = ap length whole ∙ length-append popped left in
    let at : length past - (capacity - free) ≡ length popped = omega (arith, long, slots) in
    rw (at, whole) (sym (drop_front popped left))

below : (i at : ℕ) → i < at + 1 → i ≢ at → i < at
below i at low apart =
    ⊎_elim (λ (l : i < at). l) (λ (g : at ≤ i). absurd (apart (omega (arith, low, g)))) (cases_lt i at)

pub get_map : {X Y : Type 0} (f : X → Y) (xs : List X) (i : ℕ) (x : X) → slice_get xs i ≡ Some x
    → slice_get (map f xs) i ≡ Some (f x)
get_map f [] i x e = absurd (no_item e)
  where
    no_item : None ≡ Some x → ⊥
    no_item e = cc
get_map f (y ∷ xs) zero x e = let same : y ≡ x = cc in rw same refl
get_map f (y ∷ xs) (suc i) x e = get_map f xs i x e

pub map_get : {X Y : Type 0} (f : X → Y) (xs : List X) (i : ℕ) (y : Y) → slice_get (map f xs) i ≡ Some y → (x : X)
    × (slice_get xs i ≡ Some x) × (f x ≡ y)
map_get f [] i y e = absurd (no_item e)
  where
    no_item : None ≡ Some y → ⊥
    no_item e = cc
map_get f (x ∷ xs) zero y e = (x, refl, cc)
map_get f (x ∷ xs) (suc i) y e = map_get f xs i y e

pub within_get : {X : Type 0} (xs : List X) (i : ℕ) → i < length xs → (x : X) × (slice_get xs i ≡ Some x)
within_get [] i low = absurd (omega (arith, low))
within_get (x ∷ xs) zero low = (x, refl)
within_get (x ∷ xs) (suc i) low = within_get xs i (omega (arith, low))

module _ {J : Type 0} {h : Ghosts J} {C A : Type 0} where
  -- while the ends are compared: those before `at` are settled, the others are still pairs
  pub record Comparing (k : LogState) (first : List Lane) (before : List (ClientEnd J C A h)) (lanes : List Lane)
      (ends : List (ClientEnd J C A h)) (at : ℕ) : Type 0 where
    pub long : length ends ≡ length lanes
    pub lanes_long : length lanes ≡ length first
    pub same_left : (i : ℕ) (a b : Lane) → slice_get first i ≡ Some a → slice_get lanes i ≡ Some b → b.left ≡ a.left
    pub settled : (i : ℕ) (e : ClientEnd J C A h) → i < at → slice_get ends i ≡ Some e → Agrees i k e
    pub read : (i : ℕ) (lane : Lane) (e : ClientEnd J C A h) → i < at → slice_get lanes i ≡ Some lane
        → slice_get ends i ≡ Some e → lane.left ≡ true → left_in e.calls ≡ []
    pub pairs : (i : ℕ) (lane : Lane) (e : ClientEnd J C A h) → at ≤ i → slice_get lanes i ≡ Some lane
        → slice_get ends i ≡ Some e → ArePair (end_rings e) lane × LaneFits i k lane
    pub show_same : AllShowSame before ends

  shows_same : (a : ClientEnd J C A h) → ShowsSame a a
  shows_same a = record {
    sent_are = refl;
    got_are = refl;
    unspent_is = refl;
    views_are = refl;
    calls_slots = refl;
    replies_slots = refl;
  }

  shows_same_join : (a b d : ClientEnd J C A h) → ShowsSame a b → ShowsSame b d → ShowsSame a d
  shows_same_join a b d p q = record {
    sent_are = q.sent_are ∙ p.sent_are;
    got_are = q.got_are ∙ p.got_are;
    unspent_is = q.unspent_is ∙ p.unspent_is;
    views_are = q.views_are ∙ p.views_are;
    calls_slots = q.calls_slots ∙ p.calls_slots;
    replies_slots = q.replies_slots ∙ p.replies_slots;
  }

  pub comparing_none : (k : LogState) (lanes : List Lane) (ends : List (ClientEnd J C A h)) → AllFit k lanes
      → PairUp lanes ends → Comparing k lanes ends lanes ends 0
  comparing_none k lanes ends all pairs = record {
    long = sym (length-map ends end_rings) ∙ pairs.long;
    lanes_long = refl;
    same_left = λ i a b p q. let e = get_or_from_slice_get lanes i a b p in
        let f = get_or_from_slice_get lanes i b b q in ap (λ (l : Lane). l.left) (sym f ∙ e);
    settled = λ i e low at. absurd (omega (arith, low));
    read = λ i lane e low at there left. absurd (omega (arith, low));
    pairs = λ i lane e low here there.
        (pairs.each i lane (end_rings e) here (get_map end_rings ends i e there), all.each i lane here);
    show_same = record {
      long = refl;
      each = λ i a b p q. let e = get_or_from_slice_get ends i a b p in let f = get_or_from_slice_get ends i b b q in
          rw (sym e ∙ f) (shows_same b);
    };
  }

  settles : (c : ℕ) (k : LogState) (lane : Lane) (e : ClientEnd J C A h) → LaneFits c k lane
      → pushed e.calls ≡ popped lane.calls ++ left_in e.calls
      → popped e.replies ++ known_items e.replies ≡ pushed lane.replies → Agrees c k e
  settles c k lane e f put got = record {
    sent_are = ap work_in put ∙ work_parts (popped lane.calls) (left_in e.calls)
        ∙ ap (λ (xs : List ClientCall). xs ++ work_in (left_in e.calls)) (f.calls_are ∙ append-nil _);
    got_are = rw (sym (value_parts (popped e.replies) (known_items e.replies)), got) f.moved_are;
  }

  reads : (c : ℕ) (k : LogState) (lane : Lane) (e : ClientEnd J C A h) → LaneFits c k lane
      → pushed e.calls ≡ popped lane.calls ++ left_in e.calls → lane.left ≡ true → left_in e.calls ≡ []
  reads c k lane e f put left =
      nothing_after (work_in (pushed e.calls)) (popped lane.calls) (left_in e.calls) e.left (all_work (pushed e.calls))
      (sym put ∙ e.counted.leave_is_last) (sym f.left_is ∙ left)

  pub comparing_more : (k : LogState) (first : List Lane) (before : List (ClientEnd J C A h)) (lanes : List Lane)
      (ends : List (ClientEnd J C A h)) (at : ℕ) (l m : Lane) (e d : ClientEnd J C A h)
      → Comparing k first before lanes ends at → slice_get lanes at ≡ Some l → slice_get ends at ≡ Some e
      → pushed d.calls ≡ popped l.calls ++ left_in d.calls
      → popped d.replies ++ known_items d.replies ≡ pushed l.replies → ShowsSame e d → m.left ≡ l.left
      → Comparing k first before (slice_set lanes at m) (slice_set ends at d) (at + 1)
  comparing_more k first before lanes ends at l m e d is lane_here end_here put got same left = record {
    long = length-set ends at d ∙ is.long ∙ sym (length-set lanes at m);
    lanes_long = length-set lanes at m ∙ is.lanes_long;
    same_left = λ i a b in_first in_lanes.
        elim (get-set lanes at i m b in_lanes) [
          | inl q ↦ ap (λ (x : Lane). x.left) (sym q.1) ∙ left ∙ is.same_left at a l (rw (sym q.0) in_first) lane_here
          | inr q ↦ is.same_left i a b in_first q.1
        ];
    settled = λ i x low there.
        elim (get-set ends at i d x there) [
          | inl q ↦ rw (q.0, sym q.1) (settles at k l d ((is.pairs at l e (omega arith) lane_here end_here).1) put got)
          | inr q ↦ let apart = q.0 in is.settled i x (below i at low q.0) q.1
        ];
    read = λ i x y low in_lanes in_ends has.
        elim (get-set lanes at i m x in_lanes) [
          | inl q ↦ elim (get-set ends at i d y in_ends) [
            | inl p ↦ rw (sym p.1)
                (reads at k l d ((is.pairs at l e (omega arith) lane_here end_here).1) put
                (sym left ∙ ap (λ (z : Lane). z.left) q.1 ∙ has))
            | inr p ↦ absurd (p.0 q.0)
          ]
          | inr q ↦ elim (get-set ends at i d y in_ends) [
            | inl p ↦ absurd (q.0 p.0)
            | inr p ↦ is.read i x y (below i at low q.0) q.1 p.1 has
          ]
        ];
    pairs = λ i x y high in_lanes in_ends.
        elim (get-set lanes at i m x in_lanes) [
          | inl q ↦ absurd (omega (arith, q.0, high))
          | inr q ↦ elim (get-set ends at i d y in_ends) [
            | inl p ↦ absurd (omega (arith, p.0, high))
            | inr p ↦ is.pairs i x y (omega (arith, high)) q.1 p.1
          ]
        ];
    show_same = record {
      long = length-set ends at d ∙ is.show_same.long;
      each = λ i a b in_before in_ends.
          elim (get-set ends at i d b in_ends) [
            | inl q ↦ rw (sym q.1)
                (shows_same_join a e d (is.show_same.each at a e (rw (sym q.0) in_before) end_here) same)
            | inr q ↦ is.show_same.each i a b in_before q.1
          ];
    };
  }

  pub all_compared : (k : LogState) (first : List Lane) (before : List (ClientEnd J C A h)) (lanes : List Lane)
      (ends : List (ClientEnd J C A h)) (at : ℕ)
      → length first ≤ at → Comparing k first before lanes ends at → AllAgree k ends
  all_compared k first before lanes ends at all is = record {
    each = λ i e here. is.settled i e (omega (arith, slice_get_within ends i e here, is.long, is.lanes_long, all)) here;
  }

  pub all_read : (k : LogState) (first : List Lane) (before : List (ClientEnd J C A h)) (lanes : List Lane)
      (ends : List (ClientEnd J C A h)) (at : ℕ)
      → length first ≤ at → Comparing k first before lanes ends at → AllHaveLeft first → AllRead ends
  all_read k first before lanes ends at all is left = record {
    each = λ i e here.
        let within = slice_get_within ends i e here in
        let lane = within_get lanes i (omega (arith, within, is.long)) in
        let old = within_get first i (omega (arith, within, is.long, is.lanes_long)) in
        is.read i lane.0 e (omega (arith, within, is.long, is.lanes_long, all)) lane.1 here
        (is.same_left i old.0 lane.0 old.1 lane.1 ∙ left.each i old.0 old.1);
  }
