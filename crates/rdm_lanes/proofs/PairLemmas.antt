-- For whoever drives clients by hand: their rings stay the worker's, so that `ViewWorker::end` may compare them. A
-- client's calls say that it is the same client, the worker's work that its lanes are the same, and `RingClient::end`
-- that its rings are. `pairs_kept_on` joins these, for clients and for what is left of them.
use Rattle.rdm_lanes.proofs.Common.{◌≡◌, ℕ, List, map, get_or, Some, refl, sym, ◌∙◌}
use Rattle.rdm_lanes.proofs.Common.{slice_get, inl, inr, arith, slice_set, length-map, length-set, slice_get_within}
use Rattle.rdm_lanes.proofs.Common.{slice_get-get_or, get_or_from_slice_get, SameConsumer, Ghosts, Lane, RingClient}
use Rattle.rdm_lanes.proofs.Common.{ClientEnd, SameClient, SameLane, SameLanes, end_rings, PairUp, Rings, ArePair}
use Rattle.rdm_lanes.proofs.Common.{client_rings, ClientsPair}
use Rattle.rtrb.specs.Ring.{SameProducer}
use Rattle.rdm_lanes.specs.Pairs.{RingsPair}
use Rattle.rdm_lanes.specs.body.Seats.{SameRings}
use Rattle.rdm_lanes.proofs.EndLemmas.{map_get}
use Rattle.rdm_lanes.proofs.LaneLemmas.{get-set, same_lanes}

rings_on : (a b : Rings) (l m : Lane) → ArePair a l → SameProducer a.0 b.0 × SameConsumer a.1 b.1 → SameLane l m
    → ArePair b m
rings_on a b l m p s t = (
  (
    t.0.0.0 ∙ p.0.0 ∙ sym s.0.0.0,
    t.0.0.1 ∙ p.0.1 ∙ sym s.0.0.1,
    t.0.0.2 ∙ p.0.2 ∙ sym s.0.0.2,
    t.0.0.3 ∙ p.0.3
        ∙ sym s.0.0.3,
  ),
  (
    s.1.0.0 ∙ p.1.0 ∙ sym t.1.0.0,
    s.1.0.1 ∙ p.1.1 ∙ sym t.1.0.1,
    s.1.0.2 ∙ p.1.2 ∙ sym t.1.0.2,
    s.1.0.3 ∙ p.1.3
        ∙ sym t.1.0.3,
  ),
)

-- the clients were lent, and the worker has worked
pub pairs_kept_on : (lanes news : List Lane) (old new : List Rings) → RingsPair lanes old → SameLanes lanes news
    → SameRings old new → RingsPair news new
pairs_kept_on lanes news old new p s same = record {
  long = same.long ∙ p.long ∙ sym s.long;
  each = λ i m b in_news in_new.
      let l = get_or lanes i m in
      let in_lanes = slice_get-get_or lanes i m (omega (arith, slice_get_within news i m in_news, s.long)) in
      let a = get_or old i b in
      let in_old = slice_get-get_or old i b (omega (arith, slice_get_within new i b in_new, same.long)) in
      rings_on a b l m (p.each i l a in_lanes in_old) (same.each i a b in_old in_new) (s.each i l m in_lanes in_news);
}

same_at : (all : List Rings) (i : ℕ) (a b : Rings) → slice_get all i ≡ Some a → slice_get all i ≡ Some b → a ≡ b
same_at all i a b e f = sym (get_or_from_slice_get all i a b e) ∙ get_or_from_slice_get all i b b f

-- nobody was lent anything
pub same_rings : (all : List Rings) → SameRings all all
same_rings all = record {
  long = refl;
  each = λ i a b e f. rw (same_at all i a b e f) (((refl, refl, refl, refl), refl), ((refl, refl, refl, refl), refl));
}

module _ {J : Type 0} {h : Ghosts J} {C A : Type 0} where
  -- one client made a call
  pub same_rings_set : (clients : List (RingClient J C A h)) (at : ℕ) (c d : RingClient J C A h)
      → slice_get clients at ≡ Some c → SameClient c d
      → SameRings (map client_rings clients) (map client_rings (slice_set clients at d))
  same_rings_set clients at c d here same = record {
    long = length-map (slice_set clients at d) client_rings ∙ length-set clients at d
        ∙ sym (length-map clients client_rings);
    each = λ i a b in_old in_new.
        let x = map_get client_rings clients i a in_old in
        let y = map_get client_rings (slice_set clients at d) i b in_new in
        elim (get-set clients at i d y.0 y.1) [
          | inl q ↦ let mine : x.0 ≡ c = one clients at x.0 c (rw (sym q.0) x.1) here in
              rw (sym x.2, sym y.2, mine, sym q.1) same
          | inr q ↦ let mine : x.0 ≡ y.0 = one clients i x.0 y.0 x.1 q.1 in
              rw (sym x.2, sym y.2, mine) (((refl, refl, refl, refl), refl), ((refl, refl, refl, refl), refl))
        ];
  }
    where
      one : (xs : List (RingClient J C A h)) (i : ℕ) (v w : RingClient J C A h) → slice_get xs i ≡ Some v
          → slice_get xs i ≡ Some w → v ≡ w
      one xs i v w e f = sym (get_or_from_slice_get xs i v w e) ∙ get_or_from_slice_get xs i w w f

  pub client_called : (lanes : List Lane) (clients : List (RingClient J C A h)) (at : ℕ) (c d : RingClient J C A h)
      → ClientsPair lanes clients → slice_get clients at ≡ Some c → SameClient c d
      → ClientsPair lanes (slice_set clients at d)
  client_called lanes clients at c d pairs here same =
      pairs_kept_on lanes lanes (map client_rings clients) (map client_rings (slice_set clients at d)) pairs
      (same_lanes lanes) (same_rings_set clients at c d here same)

  -- the worker has worked
  pub worker_worked : (lanes news : List Lane) (clients : List (RingClient J C A h)) → ClientsPair lanes clients
      → SameLanes lanes news → ClientsPair news clients
  worker_worked lanes news clients pairs same =
      pairs_kept_on lanes news (map client_rings clients) (map client_rings clients) pairs same
      (same_rings (map client_rings clients))

  -- the clients have ended
  pub clients_ended : (lanes : List Lane) (clients : List (RingClient J C A h)) (ends : List (ClientEnd J C A h))
      → ClientsPair lanes clients → map end_rings ends ≡ map client_rings clients → PairUp lanes ends
  clients_ended lanes clients ends pairs same = rw same pairs
