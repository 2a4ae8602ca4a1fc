-- Clients and lanes that are opened one after the other, and the log of their joins.
use Rattle.rdm_lanes.proofs.Common.{◌≡◌, ℕ, zero, suc, ◌+◌, ◌-◌, ◌<◌, ◌≤◌, Bool, true, false, List, [], ◌∷◌, ◌++◌, map}
use Rattle.rdm_lanes.proofs.Common.{length, take, get_or, sum, Some, None, Result, Ok, Err, refl, sym, ap, ◌∙◌, subst}
use Rattle.rdm_lanes.proofs.Common.{slice_get, inl, inr, length-append, arith, nat_lt, nat_le, unwrap_or, if◌then◌else◌}
use Rattle.rdm_lanes.proofs.Common.{nat_tests, AllByRecursion, slice_get_within, length-map, take_more, Global}
use Rattle.rdm_lanes.proofs.Common.{Producer, Consumer, Setup, ClientId, Opening, Entry, Join, Refuse, joins, accepts}
use Rattle.rdm_lanes.proofs.Common.{asks, finishes, answers, sends, cames, traded, collectors, exchanges, answers_to}
use Rattle.rdm_lanes.proofs.Common.{awaited, is_closed, is_paused, places, LogState, grown, is_full_log, free_entries}
use Rattle.rdm_lanes.proofs.Common.{Legal, GrowsBy, UnlessFull, slice_get-push, Ghosts, ClientCall, RingOutcome}
use Rattle.rdm_lanes.proofs.Common.{RingClient, Lane, work_in, calls_by, IsCounted, told_values, uncollected_values}
use Rattle.rdm_lanes.proofs.Common.{values_in, OperatorCall, switches, effective, IsOperated, IsBetweenTurns, LaneFits}
use Rattle.rdm_lanes.proofs.Common.{AllFit, lane_places, Rings, ArePair, client_rings, ClientsPair, join_entries}
use Rattle.rdm_lanes.proofs.Common.{opened_with, AreNew, AreNewWith, HoldNothing, answered_of, opening_view, runs_found}
use Rattle.rdm_lanes.proofs.Common.{views_found, all_views, Publishing, NoneLater, Publishes}
use Rattle.std.proofs.lemmas.List.{length-take-le}
use Rattle.rtrb.specs.Ring.{sent as pushed, received as popped}
use Rattle.rdm_log.specs.declared.fault.JoinFault.{JoinFault}
use Rattle.rdm_log.specs.declared.fault.JoinFault.TheVariants as join_faults
use Rattle.rdm_log.specs.log.History.{reserved}
use Rattle.rdm_log.specs.log.Refusals.{join_fault_at}
use Rattle.rdm_log.specs.log.LogState.{opened}
use Rattle.rdm_log.specs.promises.Blocks.{JoinLogs, JoinAdds}
use Rattle.rdm_lanes.specs.declared.fault.OpenFault.TheVariants.{TooManyClients, NoPlaces}
use Rattle.rdm_lanes.specs.Opened.{places_fault, IsFullFor}
use Rattle.rdm_lanes.specs.body.Opening.{IsNewWith}
use Rattle.rdm_lanes.proofs.LaneLemmas.{waits, fits_waits}
use Rattle.rdm_lanes.proofs.LineLemmas.{AllOffLine, is_off_line, NoSwitch, is_switch, served_off, exchanges_off}
use Rattle.rdm_lanes.proofs.LineLemmas.{awaited_off, closed_stays, paused_stays, switches_off, is_refusal}
use Rattle.rdm_lanes.proofs.LineLemmas.{rightly_without}
use Rattle.rdm_lanes.proofs.GrowthLemmas.{Untouched, touches, calls_untouched}
use Rattle.rdm_lanes.proofs.FoundLemmas.{quiet_views}
use Rattle.rdm_lanes.proofs.ShowingLemmas.{showing_all}
use Rattle.rdm_lanes.proofs.ViewFacts.{none_later_opening}
use Rattle.rdm_lanes.proofs.EndLemmas.{within_get, map_get}

-- a client's counts at first
module _ {P Q : Type 0} where
  pub counted_new : (calls : Producer ClientCall Global P) (replies : Consumer RingOutcome Global Q) → pushed calls ≡ []
      → popped replies ≡ [] → IsCounted calls replies 0 0 false
  unfolding work_in
  counted_new calls replies none nothing = record {
    sent_is = rw none refl;
    collected_is = rw nothing refl;
    leave_is_last = rw none refl;
  }

-- where the places show no fault there are few clients
not_less : (m n : ℕ) → nat_lt m n ≡ false → n ≤ m
not_less m n is = grind (arith, nat_tests)

pub few_places : (greatest : ℕ) (ps : List ℕ) → places_fault greatest ps ≡ None → length ps ≤ 16
few_places greatest ps fault = by_test (nat_lt 16 (length ps)) refl fault
  where
    by_test : (b : Bool) → nat_lt 16 (length ps) ≡ b
        → (if b then Some TooManyClients else (if nat_lt greatest (sum ps) then Some NoPlaces else None)) ≡ None
        → length ps ≤ 16
    by_test true is e = cc
    by_test false is e = not_less 16 (length ps) is

-- the default doesn't matter within a list
pub get_within : (xs : List ℕ) (i d e : ℕ) → i < length xs → get_or xs i d ≡ get_or xs i e
get_within [] i d e low = absurd (omega (arith, low))
get_within (x ∷ xs) zero d e low = refl
get_within (x ∷ xs) (suc i) d e low = get_within xs i d e (omega (arith, low))

-- of lists of one length, the last elements
at_end : {X : Type 0} (xs : List X) (y : X) (i : ℕ) (x : X) → i ≡ length xs → slice_get (xs ++ y ∷ []) i ≡ Some x
    → x ≡ y
at_end xs y i x is e =
    elim (slice_get-push xs y i x e) [ inl h ↦ absurd (omega (arith, slice_get_within xs i x h, is)) | inr p ↦ p.is ]

before_end : {X : Type 0} (xs : List X) (y : X) (i : ℕ) (x : X) → i < length xs → slice_get (xs ++ y ∷ []) i ≡ Some x
    → slice_get xs i ≡ Some x
before_end xs y i x low e =
    elim (slice_get-push xs y i x e) [ inl h ↦ h | inr p ↦ absurd (omega (arith, p.index, low)) ]

module _ {J : Type 0} {h : Ghosts J} {C A : Type 0} where
  -- a client more
  pub new_more : (ring : ℕ) (ps : List ℕ) (clients : List (RingClient J C A h)) (lanes : List Lane) (p : ℕ)
      (client : RingClient J C A h) (lane : Lane) → AreNewWith ring ps clients lanes → IsNewWith ring p client lane
      → AreNewWith ring (ps ++ p ∷ []) (clients ++ client ∷ []) (lanes ++ lane ∷ [])
  new_more ring ps clients lanes p client lane all new = record {
    clients_long =
        length-append clients (client ∷ []) ∙ ap (λ (n : ℕ). n + 1) all.clients_long ∙ sym (length-append ps (p ∷ []));
    lanes_long =
        length-append lanes (lane ∷ []) ∙ ap (λ (n : ℕ). n + 1) all.lanes_long ∙ sym (length-append ps (p ∷ []));
    each = λ i q c l in_ps in_clients in_lanes.
        elim (slice_get-push ps p i q in_ps) [
          | inl h ↦
              let low = slice_get_within ps i q h in
              all.each i q c l h (before_end clients client i c (omega (arith, low, all.clients_long)) in_clients)
              (before_end lanes lane i l (omega (arith, low, all.lanes_long)) in_lanes)
          | inr e ↦
              let cs = at_end clients client i c (e.index ∙ sym all.clients_long) in_clients in
              let ls = at_end lanes lane i l (e.index ∙ sym all.lanes_long) in_lanes in
              rw (e.is, cs, ls) new
        ];
  }

  pub new_at : (ring : ℕ) (ps : List ℕ) (clients : List (RingClient J C A h)) (lanes : List Lane) (i p : ℕ)
      (client : RingClient J C A h) (lane : Lane) → i < length ps → p ≡ get_or ps i p
      → AreNewWith ring (take i ps) clients lanes → IsNewWith ring p client lane
      → AreNewWith ring (take (i + 1) ps) (clients ++ client ∷ []) (lanes ++ lane ∷ [])
  new_at ring ps clients lanes i p client lane low is all new =
      rw (take_more ps i p low, sym is) (new_more ring (take i ps) clients lanes p client lane all new)

  pub new_hold_nothing : (ring : ℕ) (ps : List ℕ) (clients : List (RingClient J C A h)) (lanes : List Lane)
      → AreNewWith ring ps clients lanes → HoldNothing clients
  new_hold_nothing ring ps clients lanes all = record {
    each = λ i client here.
        let low = slice_get_within clients i client here in
        let p = within_get ps i (omega (arith, low, all.clients_long)) in
        let lane = within_get lanes i (omega (arith, low, all.clients_long, all.lanes_long)) in
        let new = (all.each i p.0 client lane.0 p.1 here lane.1).new in
        (rw new.empty refl, rw new.empty refl);
  }

  pub new_clients : (ring : ℕ) (ps : List ℕ) (clients : List (RingClient J C A h)) (lanes : List Lane)
      → AreNewWith ring ps clients lanes → AreNew ring ps clients
  new_clients ring ps clients lanes all = record {
    long = all.clients_long;
    each = λ i p client at here.
        let lane = within_get lanes i (omega (arith, slice_get_within ps i p at, all.lanes_long)) in
        (all.each i p client lane.0 at here lane.1).new;
  }

  pub new_pairs : (ring : ℕ) (ps : List ℕ) (clients : List (RingClient J C A h)) (lanes : List Lane)
      → AreNewWith ring ps clients lanes → ClientsPair lanes clients
  new_pairs ring ps clients lanes all = record {
    long = length-map clients client_rings ∙ all.clients_long ∙ sym all.lanes_long;
    each = λ i lane rings in_lanes in_rings.
        let found = map_get client_rings clients i rings in_rings in
        let p = within_get ps i (omega (arith, slice_get_within lanes i lane in_lanes, all.lanes_long)) in
        subst (λ (r : Rings). ArePair r lane) found.2 ((all.each i p.0 found.0 lane p.1 found.1 in_lanes).pair);
  }

  -- the clients that are left once the last is taken
  pub hold_front : (xs : List (RingClient J C A h)) (client : RingClient J C A h) → HoldNothing (xs ++ client ∷ [])
      → HoldNothing xs
  hold_front xs client all = record { each = λ i x here. all.each i x (push_left xs client i x here) }
    where
      push_left : (xs : List (RingClient J C A h)) (client : RingClient J C A h) (i : ℕ) (x : RingClient J C A h)
          → slice_get xs i ≡ Some x → slice_get (xs ++ client ∷ []) i ≡ Some x
      push_left [] client i x e = absurd (no_item e)
        where
          no_item : None ≡ Some x → ⊥
          no_item e = cc
      push_left (y ∷ xs) client zero x e = e
      push_left (y ∷ xs) client (suc i) x e = push_left xs client i x e

  pub hold_last : (xs : List (RingClient J C A h)) (client : RingClient J C A h) → HoldNothing (xs ++ client ∷ [])
      → (client.desk.requests ≡ []) × (client.desk.asks ≡ [])
  hold_last xs client all = all.each (length xs) client (last_of xs client)
    where
      last_of : (xs : List (RingClient J C A h)) (client : RingClient J C A h)
          → slice_get (xs ++ client ∷ []) (length xs) ≡ Some client
      last_of [] client = refl
      last_of (y ∷ xs) client = last_of xs client

-- the joins in a log
pub join_more : (m : ℕ) (ps : List ℕ) (p : ℕ)
    → join_entries m (ps ++ p ∷ []) ≡ join_entries m ps ++ Join (record { 0 = m + length ps }) p ∷ []
join_more m [] p = ap (λ (n : ℕ). Join (record { 0 = n }) p ∷ []) (omega arith)
join_more m (q ∷ ps) p =
    ap (λ (es : List Entry). Join (record { 0 = m }) q ∷ es)
    (join_more (m + 1) ps p
    ∙ ap (λ (n : ℕ). join_entries (m + 1) ps ++ Join (record { 0 = n }) p ∷ []) (omega arith))

pub joins_of : (m : ℕ) (ps : List ℕ) → joins (join_entries m ps) ≡ ps
unfolding joins
joins_of m [] = refl
joins_of m (p ∷ ps) = ap (λ (qs : List ℕ). p ∷ qs) (joins_of (m + 1) ps)

joins_each : (P : Entry → Type 0) → ((c : ClientId) (n : ℕ) → P (Join c n)) → (m : ℕ) (ps : List ℕ)
    → AllByRecursion P (join_entries m ps)
joins_each P each m [] = tt
joins_each P each m (p ∷ ps) = (each _ p, joins_each P each (m + 1) ps)

joins_off : (ps : List ℕ) → AllOffLine (join_entries 0 ps)
joins_off ps = joins_each (λ e. is_off_line e ≡ true) (λ c n. refl) 0 ps

joins_no_switch : (ps : List ℕ) → NoSwitch (join_entries 0 ps)
joins_no_switch ps = joins_each (λ e. is_switch e ≡ false) (λ c n. refl) 0 ps

joins_untouched : (c : ℕ) (ps : List ℕ) → Untouched c (join_entries 0 ps)
joins_untouched c ps = joins_each (λ e. touches c e ≡ false) (λ d n. refl) 0 ps

nothing_seen : views_found [] ≡ []
unfolding runs_found answers
nothing_seen = refl

-- readers may read the opening view, which is all that there is
pub publishes_opened : (setup : Setup) (keeps : Bool) (room : ℕ) (ps : List ℕ) (p : Publishing)
    → p.shown ≡ opening_view ∷ [] → p.added ≡ opening_view ∷ [] → Publishes (opened_with setup keeps room ps) p
publishes_opened setup keeps room ps p shown added = record {
  no_run = refl;
  no_devices = refl;
  showing = showing_all (all_views (join_entries 0 ps)) p (subst NoneLater (sym all) none_later_opening)
      (shown ∙ sym all) (added ∙ sym all);
}
  where
    all : all_views (join_entries 0 ps) ≡ opening_view ∷ []
    all = ap (λ vs. opening_view ∷ vs)
        (quiet_views [] (join_entries 0 ps) (joins_off ps)
        (joins_each (λ e. answered_of e ≡ None) (λ c n. refl) 0 ps) ∙ nothing_seen)

-- a session in which clients have joined
abbrev pub empty_log : Setup → Bool → ℕ → LogState
empty_log setup keeps room = record {
  opening = opened setup;
  entries = [];
  room = room;
  gone = 0;
  keeps = keeps;
}

served_empty : (setup : Setup) (keeps : Bool) (room : ℕ) → IsBetweenTurns (empty_log setup keeps room)
unfolding awaited
served_empty setup keeps room = record {
  answered = refl;
  no_call_lost = record {
    rightly = λ front back c call cause at. absurd (not_empty front (Refuse c call cause) back at);
  };
}
  where
    not_empty : (front : List Entry) (x : Entry) (back : List Entry) → [] ≡ front ++ x ∷ back → ⊥
    not_empty [] x back e = cc
    not_empty (y ∷ front) x back e = cc

pub served_opened : (setup : Setup) (keeps : Bool) (room : ℕ) (ps : List ℕ)
    → IsBetweenTurns (opened_with setup keeps room ps)
served_opened setup keeps room ps =
    served_off (empty_log setup keeps room) (opened_with setup keeps room ps) (join_entries 0 ps) refl (joins_off ps)
    (rightly_without (opened setup) [] (join_entries 0 ps)
    (joins_each (λ e. is_refusal e ≡ false) (λ c n. refl) 0 ps)) (served_empty setup keeps room)

closed_nothing : (setup : Setup) → is_closed (opened setup) [] ≡ false
unfolding is_closed
closed_nothing setup = refl

exchanges_nothing : exchanges [] ≡ []
unfolding exchanges traded sends cames
exchanges_nothing = refl

pub open_opened : (setup : Setup) (keeps : Bool) (room : ℕ) (ps : List ℕ)
    → is_closed (opened_with setup keeps room ps).opening (opened_with setup keeps room ps).entries ≡ false
open_opened setup keeps room ps =
    closed_stays (opened setup) [] (join_entries 0 ps) (joins_no_switch ps) ∙ closed_nothing setup

paused_nothing : (setup : Setup) → is_paused (opened setup) [] ≡ false
unfolding is_paused
paused_nothing setup = refl

pub not_paused_opened : (setup : Setup) (keeps : Bool) (room : ℕ) (ps : List ℕ)
    → is_paused (opened_with setup keeps room ps).opening (opened_with setup keeps room ps).entries ≡ false
not_paused_opened setup keeps room ps =
    paused_stays (opened setup) [] (join_entries 0 ps) (joins_no_switch ps) ∙ paused_nothing setup

no_switches : switches [] ≡ []
unfolding switches
no_switches = refl

pub no_switches_opened : (setup : Setup) (keeps : Bool) (room : ℕ) (ps : List ℕ)
    → switches (opened_with setup keeps room ps).entries ≡ []
no_switches_opened setup keeps room ps = switches_off [] (join_entries 0 ps) (joins_no_switch ps) ∙ no_switches

-- the operator's calls at first
no_effects : effective [] ≡ []
unfolding effective
no_effects = refl

pub operated_opened : (setup : Setup) (keeps : Bool) (room : ℕ) (ps : List ℕ) (calls : List OperatorCall) → calls ≡ []
    → IsOperated (opened_with setup keeps room ps) calls
operated_opened setup keeps room ps calls none = record {
  not_paused = refl;
  not_closed = refl;
  switched = no_switches_opened setup keeps room ps ∙ sym (ap effective none ∙ no_effects);
}

pub no_exchanges_opened : (setup : Setup) (keeps : Bool) (room : ℕ) (ps : List ℕ)
    → exchanges (opened_with setup keeps room ps).entries ≡ []
no_exchanges_opened setup keeps room ps =
    exchanges_off [] (join_entries 0 ps) (joins_off ps) ∙ exchanges_nothing

fits_empty : (c p : ℕ) (setup : Setup) (keeps : Bool) (room : ℕ) (lane : Lane) → popped lane.calls ≡ []
    → pushed lane.replies ≡ [] → lane.requests ≡ 0 → lane.asks ≡ 0 → lane.left ≡ false
    → LaneFits c (empty_log setup keeps room) lane
unfolding work_in calls_by told_values uncollected_values values_in answers_to accepts asks finishes answers collectors
fits_empty c p setup keeps room lane got pushed_none no_requests no_asks left = record {
  calls_are = rw got refl;
  moved_are = rw pushed_none refl;
  requests_are = no_requests;
  asks_are = no_asks;
  left_is = rw got left;
}

no_calls : (c : ℕ) → calls_by c [] ≡ []
unfolding calls_by
no_calls c = refl

lanes_places : {J : Type 0} {h : Ghosts J} {C A : Type 0} (ring : ℕ) (ps : List ℕ) (clients : List (RingClient J C A h))
    (lanes : List Lane) → AreNewWith ring ps clients lanes → ps ≡ map lane_places lanes
lanes_places ring ps clients lanes all =
    same_list ps (map lane_places lanes) (sym (length-map lanes lane_places ∙ all.lanes_long)) (λ i p q in_ps in_lanes.
    let found = map_get lane_places lanes i q in_lanes in
    let low = slice_get_within ps i p in_ps in
    let client = within_get clients i (omega (arith, low, all.clients_long)) in
    sym ((all.each i p client.0 found.0 in_ps client.1 found.1).has_places) ∙ found.2)
  where
    same_list : (xs ys : List ℕ) → length xs ≡ length ys
        → ((i x y : ℕ) → slice_get xs i ≡ Some x → slice_get ys i ≡ Some y → x ≡ y) → xs ≡ ys
    same_list [] [] long each = refl
    same_list [] (y ∷ ys) long each = absurd (omega (arith, long))
    same_list (x ∷ xs) [] long each = absurd (omega (arith, long))
    same_list (x ∷ xs) (y ∷ ys) long each =
        rw (each 0 x y refl refl, same_list xs ys (omega (arith, long)) (λ i a b p q. each (suc i) a b p q)) refl

pub fits_opened : {J : Type 0} {h : Ghosts J} {C A : Type 0} (setup : Setup) (keeps : Bool) (room ring : ℕ)
    (ps : List ℕ) (clients : List (RingClient J C A h)) (lanes : List Lane)
    → Legal (opened setup) (join_entries 0 ps) → AreNewWith ring ps clients lanes
    → AllFit (opened_with setup keeps room ps) lanes
fits_opened setup keeps room ring ps clients lanes legal all = record {
  each = λ i lane here.
      let low = slice_get_within lanes i lane here in
      let p = within_get ps i (omega (arith, low, all.lanes_long)) in
      let client = within_get clients i (omega (arith, low, all.lanes_long, all.clients_long)) in
      let new = all.each i p.0 client.0 lane p.1 client.1 here in
      fits_waits [] i (empty_log setup keeps room) (opened_with setup keeps room ps) lane
      (fits_empty i p.0 setup keeps room lane new.nothing_received new.nothing_moved new.no_requests new.no_asks
      new.not_received)
      (waits i (empty_log setup keeps room) (opened_with setup keeps room ps) (join_entries 0 ps) refl legal
      (joins_untouched i ps));
  clients_are = joins_of 0 ps ∙ lanes_places ring ps clients lanes all;
  nobody_else = λ c out. calls_untouched c [] (join_entries 0 ps) (joins_untouched c ps) ∙ no_calls c;
}

-- one client joins
joined_adds : (o : Opening) (h : List Entry) (n : ℕ) (c : ClientId) (block : List Entry) → o.places.items ≡ []
    → JoinAdds o h n (Ok c) block → block ≡ Join (record { 0 = length (joins h) }) n ∷ []
joined_adds o h n c block none adds =
    adds.2 ∙ ap (λ (i : ℕ). Join (record { 0 = i }) n ∷ []) (adds.1 ∙ ap (λ (xs : List ℕ). length (xs ++ joins h)) none)

join_unless : (b : Bool) (k : LogState) (n : ℕ) (c : ClientId) (block : List Entry)
    → UnlessFull b ((Ok c ≡ Err join_faults.LogFull) × (block ≡ [])) (JoinAdds k.opening k.entries n (Ok c) block)
    → JoinAdds k.opening k.entries n (Ok c) block
join_unless true k n c block adds = absurd (never adds.0)
  where
    never : Ok c ≡ Err join_faults.LogFull → ⊥
    never e = cc
join_unless false k n c block adds = adds

pub joined_next : (first old new : LogState) (r : Result ClientId JoinFault) (c : ClientId) (ps : List ℕ) (i p : ℕ)
    → first.opening.places.items ≡ [] → r ≡ Ok c → GrowsBy old (JoinLogs old p r) new → i < length ps
    → p ≡ get_or ps i p
    → old ≡ record first { entries = join_entries 0 (take i ps) } → new ≡ record first {
      entries = join_entries 0 (take (i + 1) ps);
    }
joined_next first old new r c ps i p none is g low at before = by_result (rw is at g)
  where
    by_result : GrowsBy old (JoinLogs old p (Ok c)) new → new ≡ record first {
      entries = join_entries 0 (take (i + 1) ps);
    }
    by_result g =
        let block : g.block
        ≡ Join (record { 0 = length (joins old.entries) }) p ∷ [] =
        joined_adds old.opening old.entries p c g.block
        (ap (λ (k : LogState). k.opening.places.items) before ∙ none)
        (join_unless (is_full_log old) old p c g.block g.adds) in
        let count : length (joins old.entries)
        ≡ length (take i ps) = ap length (ap (λ (k : LogState). joins k.entries) before ∙ joins_of 0 (take i ps)) in
        g.grows
        ∙ ap (λ (b : List Entry). grown old b) (block ∙ ap (λ (m : ℕ). Join (record { 0 = m }) p ∷ []) count)
        ∙ ap (λ (k : LogState). grown k (Join (record { 0 = length (take i ps) }) p ∷ [])) before
        ∙ ap (λ (es : List Entry). record first { entries = es })
        (sym (ap (join_entries 0) (take_more ps i p low ∙ ap (λ (q : ℕ). take i ps ++ q ∷ []) (sym at))
        ∙ join_more 0 (take i ps) p
        ∙ ap (λ (m : ℕ). join_entries 0 (take i ps) ++ Join (record { 0 = m }) p ∷ []) (omega arith)))

-- how many entries are free while clients join
no_accepts : (m : ℕ) (ps : List ℕ) → accepts (join_entries m ps) ≡ []
unfolding accepts
no_accepts m [] = refl
no_accepts m (p ∷ ps) = no_accepts (m + 1) ps

no_asks : (m : ℕ) (ps : List ℕ) → asks (join_entries m ps) ≡ []
unfolding asks
no_asks m [] = refl
no_asks m (p ∷ ps) = no_asks (m + 1) ps

no_finishes : (m : ℕ) (ps : List ℕ) → finishes (join_entries m ps) ≡ []
unfolding finishes
no_finishes m [] = refl
no_finishes m (p ∷ ps) = no_finishes (m + 1) ps

no_answers : (m : ℕ) (ps : List ℕ) → answers (join_entries m ps) ≡ []
unfolding answers
no_answers m [] = refl
no_answers m (p ∷ ps) = no_answers (m + 1) ps

no_collectors : (m : ℕ) (ps : List ℕ) → collectors (join_entries m ps) ≡ []
unfolding collectors
no_collectors m [] = refl
no_collectors m (p ∷ ps) = no_collectors (m + 1) ps

joins_long : (m : ℕ) (ps : List ℕ) → length (join_entries m ps) ≡ length ps
joins_long m [] = refl
joins_long m (p ∷ ps) = ap suc (joins_long (m + 1) ps)

nothing_awaited : awaited [] ≡ false
unfolding awaited
nothing_awaited = refl

closed_by_opening : (o : Opening) → is_closed o [] ≡ o.closed
unfolding is_closed
closed_by_opening o = refl

joins_reserve : (o : Opening) (ps : List ℕ) → o.closed ≡ false → reserved o (join_entries 0 ps) ≡ 1
joins_reserve o ps open_ =
    rw (
      closed_stays o [] (join_entries 0 ps) (joins_no_switch ps) ∙ closed_by_opening o ∙ open_,
      awaited_off [] (join_entries 0 ps) (joins_off ps) ∙ nothing_awaited,
      no_accepts 0 ps,
      no_asks 0 ps,
      no_finishes 0 ps,
      no_answers 0 ps,
      no_collectors 0 ps,
    ) refl

free_for_joins : (first old : LogState) (ps : List ℕ) (i : ℕ) → first.opening.closed ≡ false → i ≤ length ps
    → old ≡ record first { entries = join_entries 0 (take i ps) } → free_entries old ≡ first.room - i - 1
free_for_joins first old ps i open_ low is =
    let long : length (join_entries 0 (take i ps)) ≡ i = joins_long 0 (take i ps) ∙ length-take-le i ps low in
    ap free_entries is ∙ rw (long, joins_reserve first.opening (take i ps) open_) refl

pub still_free : (first old : LogState) (ps : List ℕ) (i : ℕ) → first.opening.closed ≡ false → i < length ps
    → old ≡ record first { entries = join_entries 0 (take i ps) } → is_full_log old ≡ false → i + 4 ≤ first.room
still_free first old ps i open_ low is free =
    let count = free_for_joins first old ps i open_ (omega (arith, low)) is in
    omega (arith, count, not_less (free_entries old) 3 free)

pub full_then : (first old : LogState) (ps : List ℕ) (i : ℕ) → first.opening.closed ≡ false → i < length ps
    → old ≡ record first { entries = join_entries 0 (take i ps) } → is_full_log old ≡ true → IsFullFor first.room ps
full_then first old ps i open_ low is full =
    let count = free_for_joins first old ps i open_ (omega (arith, low)) is in
    let less = is_less (free_entries old) 3 full in
    ((λ none. omega (arith, low, ap length none)), omega (arith, count, less, low))
  where
    is_less : (m n : ℕ) → nat_lt m n ≡ true → m < n
    is_less m n is = grind (arith, nat_tests)

-- a join that isn't refused finds three free entries, and one that finds them isn't refused for the log
join_not_full : (b : Bool) (k : LogState) (n : ℕ) (c : ClientId) (block : List Entry) → is_full_log k ≡ b
    → UnlessFull b ((Ok c ≡ Err join_faults.LogFull) × (block ≡ [])) (JoinAdds k.opening k.entries n (Ok c) block)
    → is_full_log k ≡ false
join_not_full true k n c block is adds = absurd (never adds.0)
  where
    never : Ok c ≡ Err join_faults.LogFull → ⊥
    never e = cc
join_not_full false k n c block is adds = is

pub joined_with_room : (old new : LogState) (p : ℕ) (r : Result ClientId JoinFault) (c : ClientId) → r ≡ Ok c
    → GrowsBy old (JoinLogs old p r) new → is_full_log old ≡ false
joined_with_room old new p r c is g = by_result (rw is at g)
  where
    by_result : GrowsBy old (JoinLogs old p (Ok c)) new → is_full_log old ≡ false
    by_result g = join_not_full (is_full_log old) old p c g.block refl g.adds

never_full : (closed : Bool) (places : List ℕ) (greatest n : ℕ)
    → join_faults.LogFull ≡ unwrap_or (join_fault_at closed places greatest n) join_faults.NoMemory → ⊥
never_full true places greatest n e = cc
never_full false places greatest n e = by_tests (nat_le 16 (length places)) (nat_lt greatest (sum places + n)) e
  where
    by_tests : (x y : Bool)
        → join_faults.LogFull
        ≡ unwrap_or (if x then Some join_faults.TooManyClients else (if y then Some join_faults.NoPlaces else None))
        join_faults.NoMemory → ⊥
    by_tests true y e = cc
    by_tests false true e = cc
    by_tests false false e = cc

refused_full : (b : Bool) (k : LogState) (n : ℕ) (r : Result ClientId JoinFault) (block : List Entry)
    → r ≡ Err join_faults.LogFull → is_full_log k ≡ b
    → UnlessFull b ((r ≡ Err join_faults.LogFull) × (block ≡ [])) (JoinAdds k.opening k.entries n r block)
    → is_full_log k ≡ true
refused_full true k n r block is full adds = full
refused_full false k n r block is full adds =
    absurd (never_full (is_closed k.opening k.entries) (places k.opening k.entries) k.opening.greatest n
    (rw is at adds).0)

pub refused_as_full : (old new : LogState) (p : ℕ) (r : Result ClientId JoinFault) → r ≡ Err join_faults.LogFull
    → GrowsBy old (JoinLogs old p r) new → is_full_log old ≡ true
refused_as_full old new p r is g = refused_full (is_full_log old) old p r g.block is refl g.adds
