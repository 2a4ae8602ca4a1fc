-- How clients that were driven by hand are ended, one after the other.
use Rattle.rdm_lanes.proofs.Common.{◌≡◌, ◌+◌, ◌≤◌, List, [], ◌∷◌, ◌++◌, length, map, Vec, vec_capacity, refl, sym, ap}
use Rattle.rdm_lanes.proofs.Common.{◌∙◌, append_assoc, length-append, arith, Global, map-append, Ghosts, RingClient}
use Rattle.rdm_lanes.proofs.Common.{ClientEnd, end_rings, Rings, client_rings}

module _ {J : Type 0} {h : Ghosts J} {C A : Type 0} where
  pub record Ending (first clients : List (RingClient J C A h)) (ends : Vec (ClientEnd J C A h) Global) : Type 0 where
    pub rings : map end_rings ends.items ++ map client_rings clients ≡ map client_rings first
    pub long : length ends.items + length clients ≡ length first
    pub fits : length first ≤ vec_capacity ends

  pub end_none : (clients : List (RingClient J C A h)) (ends : Vec (ClientEnd J C A h) Global) → ends.items ≡ []
      → length clients ≤ vec_capacity ends → Ending clients clients ends
  end_none clients ends none fits = record { rings = rw none refl; long = rw none (omega arith); fits = fits }

  pub end_more : (first clients rest : List (RingClient J C A h)) (ends new : Vec (ClientEnd J C A h) Global)
      (client : RingClient J C A h) (end : ClientEnd J C A h)
      → Ending first clients ends → clients ≡ client ∷ rest → new.items ≡ ends.items ++ end ∷ []
      → vec_capacity new ≡ vec_capacity ends
      → end.calls ≡ client.calls → end.replies ≡ client.replies → Ending first rest new
  end_more first clients rest ends new client end is here e capacity calls replies = record {
    rings =
        ap (λ (xs : List (ClientEnd J C A h)). map end_rings xs ++ map client_rings rest) e
        ∙ ap (λ (rs : List Rings). rs ++ map client_rings rest) (map-append end_rings ends.items (end ∷ []))
        ∙ append_assoc (map end_rings ends.items) (end_rings end ∷ []) (map client_rings rest)
        ∙ ap (λ (r : Rings). map end_rings ends.items ++ r ∷ map client_rings rest) (both calls replies)
        ∙ ap (λ (xs : List (RingClient J C A h)). map end_rings ends.items ++ map client_rings xs) (sym here)
        ∙ is.rings;
    long = omega (arith, is.long, ap length here, ap length e ∙ length-append ends.items (end ∷ []));
    fits = omega (arith, is.fits, capacity);
  }
    where
      both : end.calls ≡ client.calls → end.replies ≡ client.replies → end_rings end ≡ client_rings client
      both p q = rw (p, q) refl
