-- Bodies and clients in their seats, and what is left of them.
use Rattle.rdm_lanes.proofs.Common.{◌≡◌, ℕ, ◌+◌, ◌<◌, ◌≤◌, List, [], ◌∷◌, ◌++◌, length, map, take, drop, get_or, remove}
use Rattle.rdm_lanes.proofs.Common.{Some, slice_get, Vec, vec_capacity, refl, sym, ap, ◌∙◌, subst, append_assoc}
use Rattle.rdm_lanes.proofs.Common.{length-append, arith, slice_index_or, Global, map-append, length-map}
use Rattle.rdm_lanes.proofs.Common.{slice_get_within, get_or_from_slice_get, Ghosts, Lane, RingClient}
use Rattle.rdm_lanes.proofs.Common.{ClientEnd, SameLanes, end_rings, AllShowSame, AreNew, Rings}
use Rattle.rdm_lanes.proofs.Common.{client_rings}
use Rattle.rdm_lanes.specs.declared.opening.seat.Seat.{Seat}
use Rattle.rtrb.specs.Ring.{producer_capacity, consumer_capacity}
use Rattle.rdm_lanes.specs.Ends.{AllHaveSlots}
use Rattle.rdm_lanes.specs.body.Seats.{seat_rings, SeatsPair, SameSeats, SameRings, RingsHaveSlots}
use Rattle.rdm_lanes.proofs.EndLemmas.{get_map, map_get, within_get}
use Rattle.rdm_lanes.proofs.PairLemmas.{pairs_kept_on}

-- a first element that was removed
pub remove_first : {X : Type 0} (xs : List X) (x : X) (rest : List X) → 0 < length xs → x ≡ slice_index_or xs 0 x
    → rest ≡ remove xs 0 → xs ≡ x ∷ rest
remove_first [] x rest some is left = absurd (omega (arith, some))
remove_first (y ∷ xs) x rest some is left = rw (is, left) refl

two_slots : (n m k : ℕ) → m ≡ n → k ≡ n → ◌≡◌ {A = ℕ × ℕ} (m, k) (n, n)
two_slots n m k e f = rw (e, f) refl

module _ {J : Type 0} {h : Ghosts J} {C A : Type 0} where
  -- the rings of new clients have as many slots as were asked for
  pub new_slots : (n : ℕ) (places : List ℕ) (clients : List (RingClient J C A h)) → AreNew n places clients
      → RingsHaveSlots n (map client_rings clients)
  new_slots n places clients new = record {
    each = λ i r here.
        let client = map_get client_rings clients i r here in
        let p = within_get places i (omega (arith, slice_get_within clients i client.0 client.1, new.long)) in
        subst (λ (q : Rings). (producer_capacity q.0 ≡ n) × (consumer_capacity q.1 ≡ n)) client.2
        ((new.each i p.0 client.0 p.1 client.1).slots);
  }

module _ {J : Type 0} {h : Ghosts J} {B C A : Type 0} where
  pub whole : (seats left : List (Seat J B C A h)) → length left ≡ length seats
      → take (length seats) (left ++ drop (length left) seats) ≡ left
  whole [] [] e = refl
  whole [] (y ∷ left) e = absurd (omega (arith, e))
  whole (x ∷ seats) [] e = absurd (omega (arith, e))
  whole (x ∷ seats) (y ∷ left) e = ap (λ (xs : List (Seat J B C A h)). y ∷ xs) (whole seats left (omega (arith, e)))

  -- a slice of all seats that was written
  pub same_seats_in : (seats left : List (Seat J B C A h)) (n : ℕ) → n ≡ length seats → SameSeats seats left
      → SameSeats seats (take n (left ++ drop (length left) seats))
  same_seats_in seats left n is same = rw (is, whole seats left same.long) same

  -- while the bodies are seated
  pub record Seating (first : List (RingClient J C A h)) (bodies : List B) (clients : List (RingClient J C A h))
      (seats : Vec (Seat J B C A h) Global) : Type 0 where
    pub rings : map seat_rings seats.items ++ map client_rings clients ≡ map client_rings first
    pub one_each : length bodies ≡ length clients
    pub long : length seats.items + length clients ≡ length first
    pub fits : length first ≤ vec_capacity seats

  pub seat_none : (clients : List (RingClient J C A h)) (bodies : List B) (room : Vec (Seat J B C A h) Global)
      → room.items ≡ [] → length bodies ≡ length clients → length bodies ≤ vec_capacity room
      → Seating clients bodies clients room
  seat_none clients bodies room none same fits = record {
    rings = rw none refl;
    one_each = same;
    long = rw none (omega arith);
    fits = omega (arith, same, fits);
  }

  pub seat_more : (first : List (RingClient J C A h)) (bodies others : List B)
      (clients rest : List (RingClient J C A h)) (seats new : Vec (Seat J B C A h) Global) (body : B)
      (client : RingClient J C A h)
      → Seating first bodies clients seats → bodies ≡ body ∷ others → clients ≡ client ∷ rest
      → new.items ≡ seats.items ++ record { body = body; client = client } ∷ []
      → vec_capacity new ≡ vec_capacity seats → Seating first others rest new
  seat_more first bodies others clients rest seats new body client is b c items capacity = record {
    rings =
        ap (λ (xs : List (Seat J B C A h)). map seat_rings xs ++ map client_rings rest) items
        ∙ ap (λ (rs : List Rings). rs ++ map client_rings rest)
        (map-append seat_rings seats.items (record { body = body; client = client } ∷ []))
        ∙ append_assoc (map seat_rings seats.items) (client_rings client ∷ []) (map client_rings rest)
        ∙ ap (λ (xs : List (RingClient J C A h)). map seat_rings seats.items ++ map client_rings xs) (sym c)
        ∙ is.rings;
    one_each = omega (arith, is.one_each, ap length b, ap length c);
    long = omega (
      arith,
      is.long,
      ap length c,
      ap length items
          ∙ length-append seats.items (record { body = body; client = client } ∷ []),
    );
    fits = omega (arith, is.fits, capacity);
  }

  -- while they are taken apart
  pub record Unseating (first seats : List (Seat J B C A h)) (bodies : Vec B Global)
      (ends : Vec (ClientEnd J C A h) Global) : Type 0 where
    pub rings : map end_rings ends.items ++ map seat_rings seats ≡ map seat_rings first
    pub bodies_long : length bodies.items + length seats ≡ length first
    pub ends_long : length ends.items + length seats ≡ length first
    pub bodies_fit : length first ≤ vec_capacity bodies
    pub ends_fit : length first ≤ vec_capacity ends

  pub unseat_none : (seats : List (Seat J B C A h)) (bodies : Vec B Global) (ends : Vec (ClientEnd J C A h) Global)
      → bodies.items ≡ [] → ends.items ≡ [] → length seats ≤ vec_capacity bodies → length seats ≤ vec_capacity ends
      → Unseating seats seats bodies ends
  unseat_none seats bodies ends b e fit_bodies fit_ends = record {
    rings = rw e refl;
    bodies_long = rw b (omega arith);
    ends_long = rw e (omega arith);
    bodies_fit = fit_bodies;
    ends_fit = fit_ends;
  }

  pub unseat_more : (first seats rest : List (Seat J B C A h)) (bodies more : Vec B Global)
      (ends new : Vec (ClientEnd J C A h) Global) (seat : Seat J B C A h) (end : ClientEnd J C A h)
      → Unseating first seats bodies ends → seats ≡ seat ∷ rest → more.items ≡ bodies.items ++ seat.body ∷ []
      → vec_capacity more ≡ vec_capacity bodies → new.items ≡ ends.items ++ end ∷ []
      → vec_capacity new ≡ vec_capacity ends
      → end.calls ≡ seat.client.calls → end.replies ≡ seat.client.replies → Unseating first rest more new
  unseat_more first seats rest bodies more ends new seat end is here b b_capacity e e_capacity calls replies = record {
    rings =
        ap (λ (xs : List (ClientEnd J C A h)). map end_rings xs ++ map seat_rings rest) e
        ∙ ap (λ (rs : List Rings). rs ++ map seat_rings rest) (map-append end_rings ends.items (end ∷ []))
        ∙ append_assoc (map end_rings ends.items) (end_rings end ∷ []) (map seat_rings rest)
        ∙ ap (λ (r : Rings). map end_rings ends.items ++ r ∷ map seat_rings rest) (both calls replies)
        ∙ ap (λ (xs : List (Seat J B C A h)). map end_rings ends.items ++ map seat_rings xs) (sym here)
        ∙ is.rings;
    bodies_long =
        omega (arith, is.bodies_long, ap length here, ap length b ∙ length-append bodies.items (seat.body ∷ []));
    ends_long = omega (arith, is.ends_long, ap length here, ap length e ∙ length-append ends.items (end ∷ []));
    bodies_fit = omega (arith, is.bodies_fit, b_capacity);
    ends_fit = omega (arith, is.ends_fit, e_capacity);
  }
    where
      both : end.calls ≡ seat.client.calls → end.replies ≡ seat.client.replies → end_rings end ≡ seat_rings seat
      both p q = rw (p, q) refl

  -- the rings are still the same, and pairs, once the bodies and the worker have run
  seats_rings : (seats left : List (Seat J B C A h)) → SameSeats seats left
      → SameRings (map seat_rings seats) (map seat_rings left)
  seats_rings seats left same = record {
    long = length-map left seat_rings ∙ same.long ∙ sym (length-map seats seat_rings);
    each = λ i a b in_old in_new.
        let x = map_get seat_rings seats i a in_old in
        let y = map_get seat_rings left i b in_new in
        let kept = same.each i y.0 (slice_get_within seats i x.0 x.1) in
        let was : get_or seats i y.0 ≡ x.0 = get_or_from_slice_get seats i x.0 y.0 x.1 in
        let now : get_or left i y.0 ≡ y.0 = get_or_from_slice_get left i y.0 y.0 y.1 in
        rw (sym x.2, sym y.2) (rw (was, now) at kept);
  }

  pub pairs_kept : (lanes news : List Lane) (seats left : List (Seat J B C A h)) → SeatsPair lanes seats
      → SameLanes lanes news → SameSeats seats left → SeatsPair news left
  pairs_kept lanes news seats left p s same =
      pairs_kept_on lanes news (map seat_rings seats) (map seat_rings left) p s (seats_rings seats left same)

  -- the rings of new clients keep as many slots to their ends
  pub slots_kept : (n : ℕ) (clients : List (RingClient J C A h)) (seats left : List (Seat J B C A h))
      (before after : List (ClientEnd J C A h)) → map seat_rings seats ≡ map client_rings clients → SameSeats seats left
      → map end_rings before ≡ map seat_rings left → AllShowSame before after
      → RingsHaveSlots n (map client_rings clients)
      → AllHaveSlots n after
  slots_kept n clients seats left before after seated same ends show_same has = record {
    each = λ i e here.
        let b = within_get before i (omega (arith, slice_get_within after i e here, show_same.long)) in
        let kept = show_same.each i b.0 e b.1 here in
        let in_left = subst (λ (rs : List Rings). slice_get rs i ≡ Some (end_rings b.0)) ends
        (get_map end_rings before i b.0 b.1) in
        let rings = seats_rings seats left same in
        let w = within_get (map seat_rings seats) i
        (omega (arith, slice_get_within (map seat_rings left) i (end_rings b.0) in_left, rings.long)) in
        let ran = rings.each i w.0 (end_rings b.0) w.1 in_left in
        let first = has.each i w.0 (subst (λ (rs : List Rings). slice_get rs i ≡ Some w.0) seated w.1) in
        two_slots n (producer_capacity e.calls) (consumer_capacity e.replies)
        (kept.calls_slots ∙ ran.0.1 ∙ first.0) (kept.replies_slots ∙ ran.1.1 ∙ first.1);
  }
