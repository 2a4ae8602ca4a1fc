-- What a client of a session over a simulated line is told of discoveries, by the laws of the session's log.
use Rattle.rdm_lanes.proofs.Common.{◌≡◌, ℕ, Bool, true, false, true≢false, List, [], ◌∷◌, ◌++◌, length, ◌≤◌, Option}
use Rattle.rdm_lanes.proofs.Common.{Some, None, refl, sym, ap, ◌∙◌, subst, inl, inr, append-nil, append_assoc, arith}
use Rattle.rdm_lanes.proofs.Common.{◌⊎◌, ◌||◌, ◌==◌, option_map, nat_le, if◌then◌else◌, eqb-true, uids_of, Device}
use Rattle.rdm_lanes.proofs.Common.{AgentFault, Setup, Call, Cause, ClientId, Opening, Entry, Refuse, Answer}
use Rattle.rdm_lanes.proofs.Common.{outstanding_discoveries, is_closed, places, next_ask, ask_fault_at, LogState}
use Rattle.rdm_lanes.proofs.Common.{answer_devices, Discovered, is_closed_refusal, is_client, never_begun}
use Rattle.rdm_lanes.proofs.Common.{refused_outcome, outcome_of, DiscoveryValue, Ghosts, ClientEnd}
use Rattle.std.proofs.lemmas.Bool.{and_parts}
use Rattle.rdm_wire.specs.Uid.{has}
use Rattle.rdm_line.specs.Scenes.{uids_of_scene}
use Rattle.rdm_line.specs.Sim.{SimState}
use Rattle.rdm_log.specs.declared.entry.Call.TheVariants as calls
use Rattle.rdm_log.specs.declared.fault.WorkFault.TheVariants as work_faults
use Rattle.rdm_log.specs.log.Refusals.{number_of_work_fault, IsRefused}
use Rattle.rdm_log.proofs.PromiseLemmas.NothingAfterClose.{closed_more}
use Rattle.rdm_scenes.specs.Scenes.{IsLossyScene, IsStayingScene, IsCalmScene}
use Rattle.rdm_scenes.specs.Reports.{IsLogOver, AnswersAreTheDevices, AnswersFollowTheDevices, FaultsFollowAClose}
use Rattle.rdm_scenes.proofs.SceneLemmas.{are_the_devices, follow_the_devices}
use Rattle.rdm_scenes.proofs.CalmLemmas.{faults_follow, follow_by_default}
use Rattle.rdm_lanes.specs.OverThreads.{IsEnough, IsByDefault, HasGot, IsEndOver, GetsTheDevices, GetsNoFault}
use Rattle.rdm_lanes.specs.OverThreads.{GetsTheChanging}
use Rattle.rdm_lanes.proofs.GrowthLemmas.{tells}
use Rattle.rdm_lanes.proofs.ToldLemmas.{IsToldBy, told_by, IsAnswered, IsRefusedByClose, discovery_of}
use Rattle.rdm_log.proofs.PromiseLemmas.ClosedEvents.{stays_closed}

-- a discover that was refused by a close came after one
ask_closed : (b : Bool) (ps : List ℕ) (outstanding next c : ℕ)
    → option_map number_of_work_fault (ask_fault_at b ps outstanding next c) ≡ Some 1 → b ≡ true
ask_closed true ps outstanding next c is = refl
ask_closed false ps outstanding next c is =
    absurd (other (nat_le (length ps) c) (nat_le 4 outstanding || nat_le 18446744073709551614 next) is)
  where
    other : (x y : Bool)
        → option_map number_of_work_fault
        (if x then Some work_faults.UnknownClient else (if y then Some work_faults.Full else None)) ≡ Some 1 → ⊥
    other true y e = cc
    other false true e = cc
    other false false e = cc

refused_closed : (o : Opening) (front : List Entry) (c : ℕ) (client : Option ClientId) (call : Call) (cause : Cause)
    (number : Option ℕ) (done : Discovered) → is_closed_refusal c (Refuse client call cause) ≡ true
    → refused_outcome call ≡ Some (DiscoveryValue number done) → IsRefused o front client call cause.0
    → is_closed o front ≡ true
refused_closed o front c (Some d) (calls.Discover kind) cause number done own is refused =
    let one : cause.0 ≡ 1 = eqb-true cause.0 1 (and_parts (cause.0 == 1) (is_client c (Some d)) own).0 in
    ask_closed (is_closed o front) (places o front) (outstanding_discoveries o d.0 front) (next_ask o front) d.0
    (refused ∙ ap (λ (n : ℕ). Some n) one)
refused_closed o front c None (calls.Discover kind) cause number done own is refused = absurd refused
refused_closed o front c client (calls.Submit request) cause number done own is refused = absurd (no_ask is)
  where
    no_ask : refused_outcome (calls.Submit request) ≡ Some (DiscoveryValue number done) → ⊥
    no_ask e = cc
refused_closed o front c client (calls.Join n) cause number done own is refused = absurd (no_ask is)
  where
    no_ask : refused_outcome (calls.Join n) ≡ Some (DiscoveryValue number done) → ⊥
    no_ask e = cc

-- the session's log is one over the line, and a client's end
module _ {J : Type 0} {h : Ghosts J} {C A : Type 0} (setup : Setup) (room : ℕ) (ps : List ℕ) (s t : SimState)
    (k : LogState) (c : ℕ) (e : ClientEnd J C A h) (over : IsEndOver setup room ps s t k c e) where
  log_over : IsLogOver s t k
  log_over = record { legal = over.session.legal; steps = over.session.steps }

  told_of : (number : Option ℕ) (done : Discovered) → HasGot e number done
      → IsToldBy k.opening k.entries c (DiscoveryValue number done)
  told_of number done got = told_by k c e (DiscoveryValue number done) got.0 over.agrees got.1

  -- an outcome of a discovery is that of an Answer, or of a discovery that was never begun
  by_outcome : {X : Type 0} (number : Option ℕ) (done : Discovered) → HasGot e number done
      → ((front back : List Entry) (n r : ℕ) → k.entries ≡ front ++ Answer n r done.fault ∷ back
      → done.devices ≡ answer_devices r k.entries → X) → (done ≡ never_begun → X) → X
  by_outcome {X} number done got answered never =
      by_kind (discovery_of k.entries told.front told.back told.entry number done told.is)
    where
      told : IsToldBy k.opening k.entries c (DiscoveryValue number done)
      told = told_of number done got

      by_kind : IsAnswered k.entries told.front told.back told.entry number done ⊎ IsRefusedByClose told.entry done → X
      by_kind (inl a) =
          answered told.front told.back a.n a.run (told.whole ∙ ap (λ (x : Entry). told.front ++ x ∷ told.back) a.is)
          a.devices
      by_kind (inr a) = never a.never

  begun : (done : Discovered) → done.fault ≡ None → done ≡ never_begun → ⊥
  begun done fault never = aborted (sym fault ∙ ap (λ (d : Discovered). d.fault) never)
    where
      aborted : None ≡ never_begun.fault → ⊥
      aborted e = cc

  without_fault : (front back : List Entry) (n r : ℕ) (fault : Option AgentFault) → fault ≡ None
      → k.entries ≡ front ++ Answer n r fault ∷ back → k.entries ≡ front ++ Answer n r None ∷ back
  without_fault front back n r fault none whole =
      whole ∙ ap (λ (f : Option AgentFault). front ++ Answer n r f ∷ back) none

  -- exactly the devices
  pub gets_devices : IsStayingScene s → GetsTheDevices s e
  gets_devices is number done got fault = by_outcome number done got
      (λ front back n r whole devices. ap uids_of devices
      ∙ exact.exactly front back n r (without_fault front back n r done.fault fault whole))
      (λ never. absurd (begun done fault never))
    where
      exact : AnswersAreTheDevices s k
      exact = are_the_devices s t k log_over is

  -- those that are always there, and none that never is
  pub gets_changing : IsLossyScene s → GetsTheChanging s e
  gets_changing is = record {
    staying = λ number done u got fault always. by_outcome number done got
        (λ front back n r whole devices. ap (λ (ds : List Device). has (uids_of ds) u) devices
        ∙ follow.staying front back n r u (without_fault front back n r done.fault fault whole) always)
        (λ never. absurd (begun done fault never));
    no_stranger = λ number done u got there. by_outcome number done got
        (λ front back n r whole devices. follow.no_stranger front back n r done.fault u whole
        (sym (ap (λ (ds : List Device). has (uids_of ds) u) devices) ∙ there))
        (λ never. absurd (nobody u (sym (ap (λ (d : Discovered). has (uids_of d.devices) u) never) ∙ there)));
  }
    where
      follow : AnswersFollowTheDevices s k
      follow = follow_the_devices s t k log_over is

      nobody : (u : ℕ) → has (uids_of never_begun.devices) u ≡ true → ⊥
      nobody u e = cc

  -- Nobody closes a session in threads. So no outcome has a fault, if only a close causes one.
  gets_no_other : FaultsFollowAClose k → GetsNoFault e
  gets_no_other follow number done got =
      by_kind (discovery_of k.entries told.front told.back told.entry number done told.is)
    where
      told : IsToldBy k.opening k.entries c (DiscoveryValue number done)
      told = told_of number done got

      open_ : (front back : List Entry) (x : Entry) → k.entries ≡ front ++ x ∷ back → is_closed k.opening front ≡ true
          → ⊥
      open_ front back x whole closed =
          true≢false (sym
          (subst (λ (l : List Entry). is_closed k.opening l ≡ true) (sym whole)
          (stays_closed k.opening front (x ∷ back) closed)) ∙ over.session.not_closed)

      by_fault : (n r : ℕ) (fault : Option AgentFault) → k.entries ≡ told.front ++ Answer n r fault ∷ told.back
          → fault ≡ None
      by_fault n r None whole = refl
      by_fault n r (Some fault) whole =
          absurd (open_ told.front told.back (Answer n r (Some fault)) whole
          (follow told.front told.back n r fault whole))

      by_kind : IsAnswered k.entries told.front told.back told.entry number done ⊎ IsRefusedByClose told.entry done
          → done.fault ≡ None
      by_kind (inl a) =
          by_fault a.n a.run done.fault (told.whole ∙ ap (λ (x : Entry). told.front ++ x ∷ told.back) a.is)
      by_kind (inr a) =
          let entry : Entry = Refuse a.client a.call a.cause in
          let whole : k.entries ≡ told.front ++ entry ∷ told.back = told.whole
          ∙ ap (λ (x : Entry). told.front ++ x ∷ told.back) a.is in
          let own : is_closed_refusal c entry
          ≡ true = subst (λ (x : Entry). tells k.opening c k.entries x ≡ true) a.is told.own in
          let outcome : refused_outcome a.call
          ≡ Some (DiscoveryValue number done) =
          subst (λ (x : Entry). outcome_of k.entries x ≡ Some (DiscoveryValue number done)) a.is told.is in
          absurd (open_ told.front told.back entry whole
          (refused_closed k.opening told.front c a.client a.call a.cause number done own outcome
          (over.session.legal.each told.front told.back entry whole).1))

  -- no device is known when a session begins
  few : length (uids_of k.opening.devices) ≤ length (uids_of_scene s.devices)
  few =
      let nobody : length (uids_of k.opening.devices)
      ≡ 0 = ap (λ (o : Opening). length (uids_of o.devices)) over.session.opening_is in
      omega (arith, nobody)

  budget_is : k.opening.budget ≡ setup.config.budget
  budget_is = ap (λ (o : Opening). o.budget) over.session.opening_is

  pub gets_no_fault : IsCalmScene s → IsEnough setup s → GetsNoFault e
  gets_no_fault is enough = gets_no_other (faults_follow s t k log_over is over.session.promised.in_bound (record {
    few = few;
    budgeted = rw over.session.opening_is enough;
  }))

  pub gets_none_by_default : IsCalmScene s → IsByDefault setup → GetsNoFault e
  gets_none_by_default is default =
      gets_no_other (follow_by_default s t k log_over is over.session.promised.in_bound (record {
        few = few;
        budget = budget_is ∙ default.0;
        search = ap (λ (o : Opening). o.search) over.session.opening_is ∙ default.1;
      }))
