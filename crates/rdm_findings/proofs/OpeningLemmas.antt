-- The text of an opening is that of no other one.
use Rattle.std.proofs.Common.{◌≡◌, ℕ, Bool, true, false, if◌then◌else◌, List, ◌++◌, Option, Some, None, drop}
use Rattle.std.proofs.Common.{slice_index, codes, All, IfSome, refl, sym, ap, ◌∙◌, append_assoc, arith}
use Rattle.std.proofs.lemmas.List.{append_cancel_left}
use Rattle.rdm_wire.specs.declared.device.Device.{Device}
use Rattle.rdm_agent.specs.declared.kind.Kind.{Kind}
use Rattle.rdm_agent.specs.declared.kind.Kind.TheVariants.{Full, Incremental}
use Rattle.rdm_agent.specs.declared.search.Search.{Search}
use Rattle.rdm_agent.specs.declared.search.Search.TheVariants.{Steady, Quick}
use Rattle.rdm_log.specs.log.BrokenKeys.{none_open}
use Rattle.rdm_reports.specs.OpeningText.{list_member, truth_member, search_member, controller_members, uid_element}
use Rattle.rdm_reports.specs.OpeningText.{binding_member}
use Rattle.rdm_reports.specs.LogText.{number_member, kind_member}
use Rattle.rdm_reports.specs.OpeningText.{client_members, found_members, next_members}
use Rattle.rdm_reports.specs.OpeningText.{device_element, discovery_opening, session_opening}
use Rattle.rdm_findings.specs.SameLines.{Has64Bits, Has48Bits, FitsDevice, FitsOpening, shown}
use Rattle.rdm_findings.specs.declared.line.DiscoveryOpening.{DiscoveryOpening}
use Rattle.rdm_findings.specs.declared.line.SessionOpening.{SessionOpening}
use Rattle.rdm_findings.proofs.PieceLemmas.{Ends, IsOwn, Owns, both, of, same_text, number, word, pair, uid, uids, list}
use Rattle.rdm_findings.proofs.PieceLemmas.{list_of_numbers}
use Rattle.rdm_findings.proofs.EntryLemmas.{kind}

-- the first code of a text
abbrev first : List ℕ → ℕ
first text = slice_index text 0

binding : IsOwn (λ b. binding_member b ++ codes "}") (λ b. IfSome b Has48Bits)
binding = record { own = one; ends = last }
  where
    one : Owns (λ b. binding_member b ++ codes "}") (λ b. IfSome b Has48Bits)
    one None None r s f g h e d = (refl, ap (drop 1) h)
    one (Some u) (Some v) r s f g h e d =
        let x = (both (uid (codes "binding")) (same_text (codes "}") refl)).own (u, tt) (v, tt) r s (f, tt)
        (g, tt) h e d in
        (ap (λ (p : ℕ × Unit {0}). Some p.0) x.0, x.1)
    one a b r s f g h e d = absurd (omega (arith, ap first h))

    last : (b : Option ℕ) (r : List ℕ) → Ends r → Ends (binding_member b ++ codes "}" ++ r)
    last None r e = refl
    last (Some u) r e = refl

device : IsOwn device_element FitsDevice
device =
    of (both (both (uids (codes "{\"uid\":\"") refl) (pair (codes "control"))) binding)
    (λ p. record { uid = p.0.0; control = p.0.1; binding = p.1 })
    (λ (d : Device). ((d.uid, d.control), d.binding)) (λ d. refl) (λ d f. ((f.0, f.1), f.2))

list_of_devices : (key : List ℕ) → IsOwn (list_member key device_element) (All FitsDevice)
list_of_devices key = list key device_element FitsDevice device.own (λ d r s f e h. absurd (omega (arith, ap first h)))

list_of_uids : (key : List ℕ) → IsOwn (list_member key uid_element) (All Has48Bits)
list_of_uids key =
    list key uid_element Has48Bits (uids (codes "\"") refl).own (λ u r s f e h. absurd (omega (arith, ap first h)))

search : IsOwn search_member (λ a. Unit {0})
search = record { own = one; ends = last }
  where
    one : Owns search_member (λ a. Unit {0})
    one Steady Steady r s f g h e d =
        (refl, ((word (codes "search")).own (codes "steady") (codes "steady") r s refl refl h e d).1)
    one Quick Quick r s f g h e d =
        (refl, ((word (codes "search")).own (codes "quick") (codes "quick") r s refl refl h e d).1)
    one a b r s f g h e d = absurd (omega (arith, ap (λ (l : List ℕ). slice_index l 11) h))

    last : (a : Search) (r : List ℕ) → Ends r → Ends (search_member a ++ r)
    last Steady r e = refl
    last Quick r e = refl

truth : (key : List ℕ) → IsOwn (truth_member key) (λ value. Unit {0})
truth key = record { own = one; ends = λ value r e. refl }
  where
    start : List ℕ
    start = codes ",\"" ++ key ++ codes "\":"

    by_value : (a b : Bool) (r s : List ℕ) → (if a then codes "true" else codes "false") ++ r
        ≡ (if b then codes "true" else codes "false") ++ s → (a ≡ b) × (r ≡ s)
    by_value true true r s h = (refl, append_cancel_left (codes "true") r s h)
    by_value false false r s h = (refl, append_cancel_left (codes "false") r s h)
    by_value a b r s h = absurd (omega (arith, ap first h))

    one : Owns (truth_member key) (λ value. Unit {0})
    one a b r s f g h e d =
        by_value a b r s (append_cancel_left start _ _ (sym (append_assoc start _ r) ∙ h ∙ append_assoc start _ s))

-- the beginning of an opening: the controller
pub opening : IsOwn (λ (p : Unit {0} × ((ℕ × ℕ) × Search)).
    codes "{\"entry\":\"opening\"" ++ controller_members p.1.0.0 p.1.0.1 p.1.1)
    (λ (p : Unit {0} × ((ℕ × ℕ) × Search)). Unit {0} × ((Has48Bits p.1.0.0 × Has64Bits p.1.0.1) × Unit {0}))
opening =
    both (same_text (codes "{\"entry\":\"opening\"") refl)
    (both (both (uid (codes "source")) (number (codes "budget"))) search)

pub discovery : IsOwn (λ (o : DiscoveryOpening). discovery_opening o.source o.search o.kind o.known o.budget)
    (λ (o : DiscoveryOpening). Has48Bits o.source × All Has48Bits o.known × Has64Bits o.budget)
discovery =
    of (both (both (both opening kind) (list_of_uids (codes "known"))) (same_text (codes "}\n") refl))
    (λ p. record {
      source = p.0.0.0.1.0.0;
      search = p.0.0.0.1.1;
      kind = p.0.0.1;
      known = p.0.1;
      budget = p.0.0.0.1.0.1;
    })
    (λ (o : DiscoveryOpening). ((((tt, ((o.source, o.budget), o.search)), o.kind), o.known), tt)) (λ o. refl)
    (λ o f. ((((tt, ((f.0, f.2), tt)), tt), f.1), tt))

pub own_session : (o p : SessionOpening) (r s : List ℕ) → FitsOpening o.opening → FitsOpening p.opening
    → Has64Bits o.first → Has64Bits p.first
    → session_opening o.opening o.first ++ r ≡ session_opening p.opening p.first ++ s → Ends r → Ends s
    → (shown o ≡ shown p) × (r ≡ s)
own_session o p r s f g m n h e d =
    let one = (both (both (both (both (both opening (both (both (number (codes "greatest"))
    (list_of_numbers (codes "places"))) (both (truth (codes "paused")) (truth (codes "closed")))))
    (both (list_of_devices (codes "devices")) (number (codes "devices_run"))))
    (both (both (number (codes "next_request")) (number (codes "next_ask")))
    (both (number (codes "next_run")) (number (codes "next_tn"))))) (number (codes "number")))
    (same_text (codes "}\n") refl)).own (parts o) (parts p) r s
    ((((((tt, ((f.0, f.2), tt)), ((f.1, f.3), (tt, tt))), (f.4, f.5)), ((f.6, f.7), (f.8, f.9))), m), tt)
    ((((((tt, ((g.0, g.2), tt)), ((g.1, g.3), (tt, tt))), (g.4, g.5)), ((g.6, g.7), (g.8, g.9))), n), tt) h e d in
    (ap make one.0, one.1)
  where
    Parts : Type 0
    Parts = (((((Unit {0} × ((ℕ × ℕ) × Search)) × ((ℕ × List ℕ) × (Bool × Bool))) × (List Device × ℕ))
        × ((ℕ × ℕ) × (ℕ × ℕ))) × ℕ) × Unit {0}

    parts : SessionOpening → Parts
    parts s =
        let o = s.opening in (
          (
            (
              (
                ((tt, ((o.source, o.budget), o.search)), ((o.greatest, o.places.items), (o.paused, o.closed))),
                (o.devices, o.devices_run),
              ),
              ((o.next_request, o.next_ask), (o.next_run, o.next_tn)),
            ),
            s.first,
          ),
          tt,
        )

    make : Parts → SessionOpening
    make p = record {
      opening = record {
        source = p.0.0.0.0.0.1.0.0;
        greatest = p.0.0.0.0.1.0.0;
        budget = p.0.0.0.0.0.1.0.1;
        search = p.0.0.0.0.0.1.1;
        places = record { items = p.0.0.0.0.1.0.1 };
        paused = p.0.0.0.0.1.1.0;
        closed = p.0.0.0.0.1.1.1;
        devices = p.0.0.0.1.0;
        devices_run = p.0.0.0.1.1;
        broken = none_open;
        next_request = p.0.0.1.0.0;
        next_ask = p.0.0.1.0.1;
        next_run = p.0.0.1.1.0;
        next_tn = p.0.0.1.1.1;
      };
      first = p.0.1;
    }

-- no text is of an opening of either kind
pub other_opening : (o : DiscoveryOpening) (p : SessionOpening) (r s : List ℕ) → Has48Bits o.source → Has64Bits o.budget
    → FitsOpening p.opening → discovery_opening o.source o.search o.kind o.known o.budget ++ r
    ≡ session_opening p.opening p.first ++ s → ⊥
other_opening o p r s f g i h =
    let q = p.opening in
    let one = opening.own (tt, ((o.source, o.budget), o.search)) (tt, ((q.source, q.budget), q.search)) _ _
    (tt, ((f, g), tt)) (tt, ((i.0, i.2), tt))
    (sym (four (codes "{\"entry\":\"opening\"" ++ controller_members o.source o.budget o.search) (kind_member o.kind)
    (list_member (codes "known") uid_element o.known) (codes "}\n") r) ∙ h
    ∙ six (codes "{\"entry\":\"opening\"" ++ controller_members q.source q.budget q.search) (client_members q)
    (found_members q) (next_members q) (number_member (codes "number") p.first) (codes "}\n") s)
    (kind.ends o.kind _ refl) refl in
    absurd (omega (arith, sym (kind_third o.kind _) ∙ ap (λ (l : List ℕ). slice_index l 2) one.1))
  where
    four : (a b c d r : List ℕ) → (((a ++ b) ++ c) ++ d) ++ r ≡ a ++ (b ++ (c ++ (d ++ r)))
    four a b c d r = simp append_assoc

    six : (a b c d e f r : List ℕ) → (((((a ++ b) ++ c) ++ d) ++ e) ++ f) ++ r
        ≡ a ++ (b ++ (c ++ (d ++ (e ++ (f ++ r)))))
    six a b c d e f r = simp append_assoc

    kind_third : (k : Kind) (r : List ℕ) → slice_index (kind_member k ++ r) 2 ≡ 100
    kind_third Full r = refl
    kind_third Incremental r = refl
