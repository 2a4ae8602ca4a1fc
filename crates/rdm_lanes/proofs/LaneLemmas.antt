-- How the lanes of a worker agree with the log, as it grows.
use Rattle.rdm_lanes.proofs.Common.{◌≡◌, ◌≢◌, ℕ, ◌≤◌, zero, suc, get_or, List, [], ◌∷◌, ◌++◌, map, length, Option, Some}
use Rattle.rdm_lanes.proofs.Common.{None, refl, sym, ap, ◌∙◌, subst, slice_get, inl, inr, append-nil, append_assoc}
use Rattle.rdm_lanes.proofs.Common.{arith, filter, ◌⊎◌, slice_set, length-set, slice_get_within, get_or_from_slice_get}
use Rattle.rdm_lanes.proofs.Common.{slice_get-get_or, EachAfter, Opening, Entry, joins, places, LogState, grown, Legal}
use Rattle.rdm_lanes.proofs.Common.{MayFollow, is_answer_to, OutcomeValue, outcome_of, ClientCall, Lane, told_values}
use Rattle.rdm_lanes.proofs.Common.{uncollected_values, values_in, FitsBut, AllFit, SameLane, SameLanes}
use Rattle.rdm_lanes.proofs.Common.{lane_places, NoExchange, IsOnlyTold, StepsFor, Worker, ◌<◌, slice_get_read}
use Rattle.std.specs.Prelude.{vec_len}
use Rattle.rtrb.specs.Ring.{sent as pushed}
use Rattle.rdm_lanes.proofs.GrowthLemmas.{Untouched, calls_untouched, told_grows, uncollected_grows, requests_untouched}
use Rattle.rdm_lanes.proofs.GrowthLemmas.{asks_untouched, tells_untouched, no_collects}

-- a block that doesn't touch a client
pub waits : (c : ℕ) (old new : LogState) (block : List Entry) → new ≡ grown old block → Legal new.opening new.entries
    → Untouched c block → IsOnlyTold c old new
waits c old new block is legal all =
    rw is (untouched (subst (λ (k : LogState). EachAfter (MayFollow k.opening) k.entries) is legal.each))
  where
    o : Opening
    o = old.opening

    untouched : EachAfter (MayFollow o) (old.entries ++ block) → IsOnlyTold c old (grown old block)
    untouched each = record {
      calls_are = calls_untouched c old.entries block all;
      more = map (outcome_of (old.entries ++ block)) (filter (is_answer_to o c (old.entries ++ block)) block);
      told_more = told_grows o old.entries block each c
          ∙ ap (λ (xs : List Entry). told_values o c old.entries ++ map (outcome_of (old.entries ++ block)) xs)
          (tells_untouched o (old.entries ++ block) c block all);
      uncollected_more = uncollected_grows o old.entries block each c (no_collects c block all);
      requests_are = requests_untouched o old.entries block each c all;
      asks_are = asks_untouched o old.entries block each c all;
    }

-- the lane of a client that waits
pub fits_waits : (pending : List ClientCall) (c : ℕ) (old new : LogState) (lane : Lane) → FitsBut pending c old lane
    → IsOnlyTold c old new → FitsBut pending c new lane
fits_waits pending c old new lane f w = record {
  calls_are = f.calls_are ∙ ap (λ (xs : List ClientCall). xs ++ pending) (sym w.calls_are);
  moved_are =
      ap (λ (vs : List (Option OutcomeValue)). map (λ (v : OutcomeValue). Some v) (values_in (pushed lane.replies))
      ++ vs) w.uncollected_more
      ∙ sym (append_assoc (map (λ (v : OutcomeValue). Some v) (values_in (pushed lane.replies)))
      (uncollected_values old.opening c old.entries) w.more)
      ∙ ap (λ (vs : List (Option OutcomeValue)). vs ++ w.more) f.moved_are
      ∙ sym w.told_more;
  requests_are = f.requests_are ∙ sym w.requests_are;
  asks_are = f.asks_are ∙ sym w.asks_are;
  left_is = f.left_is;
}

pub waits_same : (c : ℕ) (k : LogState) → IsOnlyTold c k k
waits_same c k = record {
  calls_are = refl;
  more = [];
  told_more = sym (append-nil _);
  uncollected_more = sym (append-nil _);
  requests_are = refl;
  asks_are = refl;
}

pub waits_join : (c : ℕ) (a b d : LogState) → IsOnlyTold c a b → IsOnlyTold c b d → IsOnlyTold c a d
waits_join c a b d p q = record {
  calls_are = q.calls_are ∙ p.calls_are;
  more = p.more ++ q.more;
  told_more = q.told_more ∙ ap (λ (vs : List (Option OutcomeValue)). vs ++ q.more) p.told_more
      ∙ append_assoc (told_values a.opening c a.entries) p.more q.more;
  uncollected_more =
      q.uncollected_more ∙ ap (λ (vs : List (Option OutcomeValue)). vs ++ q.more) p.uncollected_more
      ∙ append_assoc (uncollected_values a.opening c a.entries) p.more q.more;
  requests_are = q.requests_are ∙ p.requests_are;
  asks_are = q.asks_are ∙ p.asks_are;
}

-- the clients that have joined are the same where nobody joined
pub grown_places : (old new : LogState) (block : List Entry) → new ≡ grown old block
    → joins new.entries ≡ joins old.entries → places new.opening new.entries ≡ places old.opening old.entries
grown_places old new block is nobody = rw (nobody, ap (λ (k : LogState). k.opening) is) refl

pub places_stay : (old new : LogState) → NoExchange old new
    → places new.opening new.entries ≡ places old.opening old.entries
places_stay old new line = grown_places old new line.block line.grows line.nobody_joined

-- all lanes, where no client does anything
pub all_wait : (old new : LogState) (lanes : List Lane) → AllFit old lanes
    → places new.opening new.entries ≡ places old.opening old.entries → ((c : ℕ) → IsOnlyTold c old new)
    → AllFit new lanes
all_wait old new lanes all same w = record {
  each = λ i lane at. fits_waits [] i old new lane (all.each i lane at) (w i);
  clients_are = same ∙ all.clients_are;
  nobody_else = λ c out. (w c).calls_are ∙ all.nobody_else c out;
}

-- an index of a list that was written
pub get-set : {X : Type 0} (xs : List X) (at i : ℕ) (y x : X) → slice_get (slice_set xs at y) i ≡ Some x
    → ((i ≡ at) × (y ≡ x)) ⊎ ((i ≢ at) × (slice_get xs i ≡ Some x))
get-set [] at i y x e = let out = slice_get_within (slice_set [] at y) i x e in absurd (omega (arith, out))
get-set (z ∷ xs) zero zero y x e = inl (refl, get_or_from_slice_get (y ∷ xs) 0 x y e)
get-set (z ∷ xs) zero (suc i) y x e = inr ((λ q. omega (arith, q)), e)
get-set (z ∷ xs) (suc at) zero y x e = inr ((λ q. omega (arith, q)), e)
get-set (z ∷ xs) (suc at) (suc i) y x e =
    elim (get-set xs at i y x e) [ inl p ↦ inl (ap suc p.0, p.1) | inr p ↦ inr ((λ q. p.0 (omega (arith, q))), p.1) ]

-- the places of the lanes, one of which was written
pub places_set : (lanes : List Lane) (at : ℕ) (a b : Lane) → slice_get lanes at ≡ Some a → b.places ≡ a.places
    → map lane_places (slice_set lanes at b) ≡ map lane_places lanes
places_set [] at a b here same = absurd (no_item here)
  where
    no_item : None ≡ Some a → ⊥
    no_item e = cc
places_set (l ∷ lanes) zero a b here same =
    let is : l ≡ a = cc in
    ap (λ (n : ℕ). n ∷ map lane_places lanes) (same ∙ ap lane_places (sym is))
places_set (l ∷ lanes) (suc at) a b here same = ap (λ (ns : List ℕ). l.places ∷ ns) (places_set lanes at a b here same)

-- a step for one client, whose lane was written
pub lane_here : (w : Worker) (at : ℕ) (lane : Lane) → at < vec_len w.lanes → lane ≡ get_or w.lanes.items at lane
    → slice_get w.lanes.items at ≡ Some lane
lane_here w at lane within is =
    slice_get_read w.lanes.items (length w.lanes.items) at lane refl (omega (arith, within, w.lanes.ok.0)) is

pub all_set : (at : ℕ) (old new : LogState) (lanes : List Lane) (mine lane : Lane) → AllFit old lanes
    → slice_get lanes at ≡ Some mine → StepsFor at old mine new lane → AllFit new (slice_set lanes at lane)
all_set at old new lanes mine lane all here s = record {
  each = λ i m found.
      elim (get-set lanes at i lane m found) [
        | inl e ↦ rw (e.0, sym e.1) s.fits
        | inr e ↦ fits_waits [] i old new m (all.each i m e.1) (s.others i e.0)
      ];
  clients_are = places_stay old new s.line ∙ all.clients_are ∙ sym (places_set lanes at mine lane here s.rings.2);
  nobody_else = λ c out.
      let beyond : length lanes ≤ c = omega (arith, out, length-set lanes at lane) in
      (s.others c (λ e. omega (arith, e, beyond, slice_get_within lanes at mine here))).calls_are
      ∙ all.nobody_else c beyond;
}

-- the same rings
pub same_lane_join : (a b d : Lane) → SameLane a b → SameLane b d → SameLane a d
same_lane_join a b d p q = (
  ((q.0.0.0 ∙ p.0.0.0, q.0.0.1 ∙ p.0.0.1, q.0.0.2 ∙ p.0.0.2, q.0.0.3 ∙ p.0.0.3), q.0.1 ∙ p.0.1),
  ((q.1.0.0 ∙ p.1.0.0, q.1.0.1 ∙ p.1.0.1, q.1.0.2 ∙ p.1.0.2, q.1.0.3 ∙ p.1.0.3), q.1.1 ∙ p.1.1),
  q.2 ∙ p.2,
)

pub same_lane : (a : Lane) → SameLane a a
same_lane a = (((refl, refl, refl, refl), refl), ((refl, refl, refl, refl), refl), refl)

pub same_lanes : (xs : List Lane) → SameLanes xs xs
same_lanes xs = record {
  long = refl;
  each = λ i a b p q. let e = get_or_from_slice_get xs i a b p in let f = get_or_from_slice_get xs i b b q in
      rw (sym e ∙ f) (same_lane b);
}

pub same_lanes_set : (xs : List Lane) (at : ℕ) (a b : Lane) → slice_get xs at ≡ Some a → SameLane a b
    → SameLanes xs (slice_set xs at b)
same_lanes_set xs at a b here same = record {
  long = length-set xs at b;
  each = λ i x y in_xs in_set.
      elim (get-set xs at i b y in_set) [
        | inl e ↦ let f = get_or_from_slice_get xs at a x here in let g = get_or_from_slice_get xs i x x in_xs in
            rw (sym e.1, sym g, e.0, f) same
        | inr e ↦ let f = get_or_from_slice_get xs i x y in_xs in let g = get_or_from_slice_get xs i y y e.1 in
            rw (sym f ∙ g) (same_lane y)
      ];
}

pub same_lanes_join : (xs ys zs : List Lane) → SameLanes xs ys → SameLanes ys zs → SameLanes xs zs
same_lanes_join xs ys zs p q = record {
  long = q.long ∙ p.long;
  each = λ i a d at there.
      let y = get_or ys i d in
      let in_ys = slice_get-get_or ys i d (omega (arith, slice_get_within xs i a at, p.long)) in
      same_lane_join a y d (p.each i a y at in_ys) (q.each i y d in_ys there);
}
