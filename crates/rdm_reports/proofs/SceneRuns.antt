-- Discovery runs on a simulated line are runs of that line, and so honest.
use Rattle.std.proofs.Common.{◌≡◌, ◌≢◌, ℕ, zero, suc, ◌+◌, ◌<◌, ◌≤◌, ◌^◌, Bool, true, false, cond, List, [], ◌∷◌}
use Rattle.std.proofs.Common.{length, map, Result, Option, Some, None, refl, sym, ap, ◌∙◌, subst, inl, inr, replicate}
use Rattle.std.proofs.Common.{arith, true≢false}
use Rattle.std.specs.Prelude.{◌&&◌, ◌==◌, MatchBool, IfOk, IfErr, IsOkAnd, nat_lt}
use Rattle.std.specs.List.{AllByRecursion}
use Rattle.std.specs.List.Sorted.{IsPermutation}
use Rattle.std.proofs.lemmas.Bool.{lt-ltb}
use Rattle.std.proofs.lemmas.List.{length-map}
use Rattle.std.proofs.lemmas.List.Sorted.{list_any-IsPermutation, length_permutation}
use Rattle.rdm_wire.specs.Uid.{has, IsDeviceSet}
use Rattle.rdm_wire.specs.Devices.{uids_of}
use Rattle.rdm_wire.specs.declared.device.Device.{Device}
use Rattle.rdm_wire.specs.Honest.{Asked, Seen, HonestTrace}
use Rattle.rdm_wire.specs.Honest.Asked.{Unmute, Branch, Mute, Other}
use Rattle.rdm_wire.specs.Honest.Heard.{Failed}
use Rattle.rdm_wire.specs.HonestOver.{HonestOver}
use Rattle.rdm_wire.specs.Frames.{heard_in, heard_bytes, asked_in, one_or_noise, acked_or_noise}
use Rattle.rdm_wire.specs.Packet.{fields_at}
use Rattle.rdm_wire.specs.Reading.{text_read, ack_read}
use Rattle.rdm_wire.specs.declared.mute_ack.MuteAck.{MuteAck}
use Rattle.rdm_wire.proofs.HonestOverLemmas.{trace-over}
use Rattle.rdm_join.specs.Exchange.{seen_event, bytes_heard}
use Rattle.rdm_agent.specs.Machine.{AgentState, Runs, start_by, next_of, fault_of, found_uids}
use Rattle.rdm_agent.specs.Calls.{run_result}
use Rattle.rdm_agent.specs.Bound.{enough_by, IsCalm}
use Rattle.rdm_agent.specs.Statements.{IsInEach, IsInOne}
use Rattle.rdm_agent.specs.declared.kind.Kind.{Kind}
use Rattle.rdm_agent.specs.declared.search.Search.{Search}
use Rattle.rdm_agent.specs.declared.search.Search.TheVariants.{Steady, Quick}
use Rattle.rdm_agent.specs.declared.fault.AgentFault.{AgentFault}
use Rattle.rdm_agent.proofs.CallLemmas.{next_none, runs-own}
use Rattle.rdm_agent.proofs.HonestRuns.{finds_all_by, finds_staying_by, finds_no_stranger_by}
use Rattle.rdm_agent.proofs.BoundRuns.{ends_in_bound_by}
use Rattle.rdm_line.specs.Events.{Exchange}
use Rattle.rdm_line.specs.Scenes.{IsScene, Stays, present_at, uids_of_scene}
use Rattle.rdm_line.specs.Sim.{SimState, SimStep, FailsOnly, Exchanges, is_among, counted, next_exchange, last_exchange}
use Rattle.rdm_line.specs.SimSteps.{Step, AreSteps, LosesFew, NoFiveSuccessive, present_in, seen_in}
use Rattle.rdm_line.specs.declared.scene.Scene.{Scene}
use Rattle.rdm_line.specs.declared.scene.SceneDevice.{SceneDevice}
use Rattle.rdm_line.proofs.LeavesLemmas.{Leaves, acts_leave}
use Rattle.rdm_line.proofs.StepLemmas.{keeps_numbers}
use Rattle.rdm_line.proofs.HonestRuns.{honest_run}
use Rattle.rdm_line.proofs.LossLemmas.{few_losses}
use Rattle.rdm_line.proofs.PresenceLemmas.{all_present}
use Rattle.rdm_reports.specs.Discovery.{Drives, IsDiscovery}
use Rattle.rdm_reports.specs.SceneDiscovery.{IsStartOf, IsSceneDiscovery, WasPresent, IsTrueReport, FindsAllOf}
use Rattle.rdm_reports.specs.SceneDiscovery.{HasNoFault, IsHonestReport}

-- the steps that the line made
pub record IsTraced (s : SimState) (xs : List Exchange) (new : SimState) : Type 0 where
  pub steps : List Step
  pub steps_are : AreSteps s steps new
  pub same : map (λ (x : Step). x.exchange) steps ≡ xs

pub traced : (source n : ℕ) (a b : AgentState) (s new : SimState) (xs : List Exchange)
    → Drives SimState SimStep source n a s xs b new → IsTraced s xs new
traced source n a b s new [] d = record { steps = []; steps_are = d.1; same = refl }
traced source n a b s new (x ∷ xs) d =
    let rest = traced source (n + 1) d.0 b d.1 new xs d.4 in record {
      steps = record { before = s; exchange = x } ∷ rest.steps;
      steps_are = (refl, d.1, subst (λ y. SimStep s y d.1) d.3 d.2.steps, rest.steps_are);
      same = ap (λ ys. x ∷ ys) rest.same;
    }

-- what a step leaves
step_leaves : (x : Step) (next : SimState) → SimStep x.before x.exchange next → Leaves x.before next
step_leaves x next step = by_rule (is_among x.before.exchanges x.before.fails) step.rule
  where
    by_rule : (t : Bool) → MatchBool t (FailsOnly x.before x.exchange.1 next) (Exchanges x.before x.exchange next)
        → Leaves x.before next
    by_rule true h = subst (Leaves x.before) (sym h.only) (record {
      exchanges = refl;
      present = λ i. refl;
      from = λ u. refl;
    })
    by_rule false h = acts_leave x.before next _ h.reply h.acts

-- the devices present at n exchanges from i on
abbrev pub present_during : List SceneDevice → ℕ → ℕ → List (List ℕ)
present_during devices i zero = []
present_during devices i (suc n) = present_at devices i ∷ present_during devices (i + 1) n

same_during : (ds es : List SceneDevice) (i n : ℕ) → ((k : ℕ) → present_at ds k ≡ present_at es k)
    → present_during ds i n ≡ present_during es i n
same_during ds es i zero same = refl
same_during ds es i (suc n) same = rw (same i) (ap (λ l. present_at es i ∷ l) (same_during ds es (i + 1) n same))

present_steps : (steps : List Step) (s new : SimState) (i : ℕ) → AreSteps s steps new → s.exchanges ≡ i
    → i + length steps < 2 ^ 64 → map present_in steps ≡ present_during s.devices i (length steps)
present_steps [] s new i run is few = refl
present_steps (x ∷ steps) s new i run is few =
    let own : x.before.exchanges ≡ i = ap (λ (t : SimState). t.exchanges) run.0 ∙ is in
    let here : present_in x ≡ present_at s.devices i = ap (present_at x.before.devices) own
    ∙ ap (λ (t : SimState). present_at t.devices i) run.0 in
    let left = step_leaves x run.1 run.2 in
    let next : run.1.exchanges ≡ i + 1 = left.exchanges ∙ ap next_exchange own
    ∙ ap (λ t. cond t (i + 1) i) (lt-ltb i last_exchange (omega arith)) in
    let later = present_steps steps run.1 new (i + 1) run.3 next (omega arith) in
    let devices : (k : ℕ)
    → present_at run.1.devices k ≡ present_at s.devices k =
    λ k. left.present k ∙ ap (λ (t : SimState). present_at t.devices k) run.0 in
    rw here (ap (λ l. present_at s.devices i ∷ l)
    (later ∙ same_during run.1.devices s.devices (i + 1) (length steps) devices))

-- how the steps are seen
seen_steps : (steps : List Step) → map seen_in steps ≡ map seen_event (map (λ (x : Step). x.exchange) steps)
seen_steps [] = refl
seen_steps (x ∷ steps) = ap (λ l. seen_in x ∷ l) (seen_steps steps)

many_steps : (steps : List Step) → length (map (λ (x : Step). x.exchange) steps) ≡ length steps
many_steps [] = refl
many_steps (x ∷ steps) = ap suc (many_steps steps)

-- a device that is always present is in each set, and one that is in a set was present
in_each : (devices : List SceneDevice) (u i n : ℕ) → ((k : ℕ) → i ≤ k → k < i + n → has (present_at devices k) u ≡ true)
    → IsInEach u (present_during devices i n)
in_each devices u i zero all = tt
in_each devices u i (suc n) all =
    (all i (omega arith) (omega arith), in_each devices u (i + 1) n (λ k low high. all k (omega arith) (omega arith)))

in_one : (devices : List SceneDevice) (u i n : ℕ) → IsInOne u (present_during devices i n) → (k : ℕ) × (k < i + n)
    × (has (present_at devices k) u ≡ true)
in_one devices u i zero one = absurd one
in_one devices u i (suc n) (inl here) = (i, omega arith, here)
in_one devices u i (suc n) (inr later) =
    let rest = in_one devices u (i + 1) n later in let below : rest.0 < i + 1 + n = rest.1 in
    (rest.0, omega arith, rest.2)

-- where all stay, each set is that of all
staying_during : (devices : List SceneDevice) (i n : ℕ) → AllByRecursion Stays devices
    → present_during devices i n ≡ replicate n (uids_of_scene devices)
staying_during devices i zero all = refl
staying_during devices i (suc n) all =
    rw (all_present devices i all) (ap (λ l. uids_of_scene devices ∷ l) (staying_during devices (i + 1) n all))

-- a run that made an exchange was made on a scene's devices
scene_of : (steps : List Step) (s new : SimState) → AreSteps s steps new → (length steps ≡ 0 → ⊥) → IsScene s.devices
scene_of [] s new run some = absurd (some refl)
scene_of (x ∷ steps) s new run some = subst (λ (t : SimState). IsScene t.devices) run.0 run.2.sound.scene

-- bytes aren't heard as a failure
no_failure_heard : (s tn : ℕ) (asked : Asked) (bytes : List ℕ) → heard_bytes s tn asked bytes ≢ Failed
no_failure_heard s tn asked [] h = cc
no_failure_heard s tn (Branch lo hi) (b ∷ bs) h = by_option (text_read (b ∷ bs)) h
  where
    by_option : (o : Option ℕ) → one_or_noise o ≢ Failed
    by_option None e = cc
    by_option (Some u) e = cc
no_failure_heard s tn (Mute u) (b ∷ bs) h = by_option (ack_read u s tn (b ∷ bs)) h
  where
    by_option : (o : Option MuteAck) → acked_or_noise o ≢ Failed
    by_option None e = cc
    by_option (Some u) e = cc
no_failure_heard s tn Unmute (b ∷ bs) h = cc
no_failure_heard s tn Other (b ∷ bs) h = cc

-- where nothing is to fail, nothing fails
never_fails : (steps : List Step) (s new : SimState) → AreSteps s steps new → s.fails ≡ []
    → AllByRecursion (λ (e : Seen). e.heard ≢ Failed) (map seen_in steps)
never_fails [] s new run none = tt
never_fails (x ∷ steps) s new run none =
    by_rule (is_among x.before.exchanges x.before.fails) refl run.2.rule
    (λ later. never_fails steps run.1 new run.3 later)
  where
    no_fails : x.before.fails ≡ []
    no_fails = ap (λ (t : SimState). t.fails) run.0 ∙ none

    not_among : is_among x.before.exchanges x.before.fails ≡ false
    not_among = ap (is_among x.before.exchanges) no_fails ∙ and_false (nat_lt x.before.exchanges last_exchange)
      where
        and_false : (b : Bool) → (b && false) ≡ false
        and_false true = refl
        and_false false = refl

    by_rule : (t : Bool) → is_among x.before.exchanges x.before.fails ≡ t
        → MatchBool t (FailsOnly x.before x.exchange.1 run.1) (Exchanges x.before x.exchange run.1)
        → (run.1.fails ≡ [] → AllByRecursion (λ (e : Seen). e.heard ≢ Failed) (map seen_in steps))
        → AllByRecursion (λ (e : Seen). e.heard ≢ Failed) (map seen_in (x ∷ steps))
    by_rule true is h rest = absurd (true≢false (sym is ∙ not_among))
    by_rule false is h rest =
        let keeps = keeps_numbers x.before.exchanges (counted x.before) run.1 _ h.reply h.acts in (
          λ failed. no_failure_heard (fields_at x.exchange.0.items).source (fields_at x.exchange.0.items).tn
              (asked_in x.exchange.0.items) _ (sym (ap (λ e. heard_in x.exchange.0.items (bytes_heard e)) h.heard)
              ∙ failed),
          rest (keeps.fails ∙ no_fails),
        )

-- what a report is, with its fault or without
ok_of : (o : Option AgentFault) (s : List Device) (P : List Device → Type 0) → (o ≡ None → P s)
    → IfOk (run_result o s) P
ok_of None s P h = h refl
ok_of (Some fault) s P h = tt

err_of : (o : Option AgentFault) (s : List Device) (P : AgentFault × List Device → Type 0)
    → ((fault : AgentFault) → P (fault, s)) → IfErr (run_result o s) P
err_of None s P h = tt
err_of (Some fault) s P h = h fault

is_ok_of : (o : Option AgentFault) (s : List Device) (P : List Device → Type 0) → o ≡ None → P s
    → IsOkAnd (run_result o s) P
is_ok_of None s P is h = h
is_ok_of (Some fault) s P is h = cc

-- whatever the search, some exchange is needed
needs_some : (search : Search) (present : List ℕ) (kind : Kind) (known : List ℕ) (budget : ℕ)
    → enough_by search present kind known ≤ budget → 0 < budget
needs_some Steady present kind known budget enough = omega arith
needs_some Quick present kind known budget enough = omega arith

module _ (scene : Scene) (search : Search) (kind : Kind) (known : List ℕ) (budget : ℕ)
    (found : Result (List Device) (AgentFault × List Device)) (n : ℕ)
    (d : IsSceneDiscovery scene search kind known budget found n) where
  abbrev last : AgentState
  last = d.discovery.last

  abbrev seen : List Seen
  seen = map seen_event d.discovery.driven.exchanges

  many : length d.steps ≡ n
  many = sym (many_steps d.steps) ∙ ap length d.exchanges ∙ d.discovery.driven.many

  seen_is : map seen_in d.steps ≡ seen
  seen_is = seen_steps d.steps ∙ ap (map seen_event) d.exchanges

  over : LosesFew d.steps → HonestOver (present_during scene.devices 0 n) seen
  over few = subst (HonestOver (present_during scene.devices 0 n)) seen_is
      (subst (λ sets. HonestOver sets (map seen_in d.steps)) sets (honest_run d.before d.after d.steps d.steps_are few))
    where
      sets : map present_in d.steps ≡ present_during scene.devices 0 n
      sets = present_steps d.steps d.before d.after 0 d.steps_are d.begins.exchanges
          (let count : length d.steps ≡ n = many in let most : n < 2 ^ 64 = d.countable in omega arith)
          ∙ ap (present_during d.before.devices 0) many ∙ ap (λ ds. present_during ds 0 n) d.begins.devices

  runs : Runs (start_by search kind known budget) seen last
  runs = runs-own kind known budget seen last d.discovery.driven.run

  end : next_of last ≡ None
  end = next_none last d.discovery.ended

  -- of a run that made no exchange
  none_made : length d.steps ≡ 0 → last ≡ start_by search kind known budget
  none_made none =
      first d.discovery.driven.exchanges d.discovery.driven.drives
      (sym (ap length d.exchanges) ∙ many_steps d.steps ∙ none)
    where
      first : (xs : List Exchange)
          → Drives SimState SimStep scene.source 0 (start_by search kind known budget) d.before xs last d.after
          → length xs ≡ 0 → last ≡ start_by search kind known budget
      first [] drives none = drives.0
      first (x ∷ xs) drives none = cc

  scene_is : (length d.steps ≡ 0 → ⊥) → IsScene scene.devices
  scene_is some = subst IsScene d.begins.devices (scene_of d.steps d.before d.after d.steps_are some)

  trace : LosesFew d.steps → AllByRecursion Stays scene.devices → IsScene scene.devices
      → HonestTrace (uids_of_scene scene.devices) seen
  trace few stay is_scene =
      (trace-over (uids_of_scene scene.devices) seen is_scene.uids).1
      (subst (λ sets. HonestOver sets seen) (staying_during scene.devices 0 n stay
      ∙ ap (λ k. replicate k (uids_of_scene scene.devices)) seen_many) (over few))
    where
      seen_many : n ≡ length seen
      seen_many = sym d.discovery.driven.many ∙ sym (length-map d.discovery.driven.exchanges seen_event)

  -- a run without fault made an exchange
  made_some : fault_of last.phase ≡ None → length d.steps ≡ 0 → ⊥
  made_some fault none =
      let begun = ap (λ (a : AgentState). fault_of a.phase) (none_made none) in let never = sym fault ∙ begun in cc

  -- and one with a budget did
  made_one : 0 < budget → length d.steps ≡ 0 → ⊥
  made_one some none =
      let asks = ap next_of (sym (none_made none)) ∙ end in begun (nat_lt 0 budget) (lt-ltb 0 budget some) asks
    where
      begun : (t : Bool) → t ≡ true → cond t (Some Unmute) None ≡ None → ⊥
      begun true is h = cc
      begun false is h = cc

  true_report : LosesFew d.steps → IsTrueReport scene.devices n found
  true_report few = record {
    finds_staying = λ u always. subst (λ r. IfOk r (λ s. has (uids_of s) u ≡ true)) (sym d.discovery.report)
        (ok_of (fault_of last.phase) last.found (λ s. has (uids_of s) u ≡ true)
        (λ fault. finds_staying_by search kind known budget seen last set runs (present_during scene.devices 0 n) u
        end fault (over few) (in_each scene.devices u 0 n
        (λ k low high. let below : k < 0 + n = high in always k (omega arith)))));
    no_stranger =
        λ u. subst (λ r. IfOk r (λ s. has (uids_of s) u ≡ true → WasPresent scene.devices n u)) (sym d.discovery.report)
        (ok_of (fault_of last.phase) last.found (λ s. has (uids_of s) u ≡ true → WasPresent scene.devices n u)
        (λ fault here. was u here));
    no_stranger_in_fault =
        λ u. subst (λ r. IfErr r (λ e. has (uids_of e.1) u ≡ true → WasPresent scene.devices n u))
        (sym d.discovery.report)
        (err_of (fault_of last.phase) last.found (λ e. has (uids_of e.1) u ≡ true → WasPresent scene.devices n u)
        (λ fault here. was u here));
  }
    where
      set : IsDeviceSet known
      set = d.discovery.driven.run.devices

      was : (u : ℕ) → has (found_uids last) u ≡ true → WasPresent scene.devices n u
      was u here =
          let one = in_one scene.devices u 0 n
          (finds_no_stranger_by search kind known budget seen last set runs (present_during scene.devices 0 n) u
          (over few) here) in
          let low : one.0 < 0 + n = one.1 in
          (one.0, omega arith, one.2)

  finds_them : LosesFew d.steps → FindsAllOf scene.devices found
  finds_them few stay = subst (λ r. IfOk r (λ s. uids_of s ≡ uids_of_scene scene.devices)) (sym d.discovery.report)
      (ok_of (fault_of last.phase) last.found (λ s. uids_of s ≡ uids_of_scene scene.devices)
      (λ fault. finds_all_by search kind known budget seen last d.discovery.driven.run.devices runs
      (uids_of_scene scene.devices) end fault (trace few stay (scene_is (made_some fault)))))

  without_fault : LosesFew d.steps → HasNoFault scene search kind known budget found
  without_fault few stay no_fails enough =
      subst (λ r. IsOkAnd r (λ s. uids_of s ≡ uids_of_scene scene.devices)) (sym d.discovery.report)
      (is_ok_of (fault_of last.phase) last.found (λ s. uids_of s ≡ uids_of_scene scene.devices) no_fault
      (finds_all_by search kind known budget seen last d.discovery.driven.run.devices runs (uids_of_scene scene.devices)
      end no_fault honest))
    where
      is_scene : IsScene scene.devices
      is_scene = scene_is (made_one (needs_some search (uids_of_scene scene.devices) kind known budget enough))

      honest : HonestTrace (uids_of_scene scene.devices) seen
      honest = trace few stay is_scene

      empty : (xs ys : List ℕ) → IsPermutation xs ys → xs ≡ [] → ys ≡ []
      empty xs [] same none = refl
      empty xs (y ∷ ys) same none = let long = length_permutation xs (y ∷ ys) same ∙ ap length none in cc

      calm : IsCalm (uids_of_scene scene.devices) seen
      calm = record {
        honest = honest;
        few = let most : length scene.devices ≤ 1024 = is_scene.few in
            omega (arith, length-map scene.devices (λ (e : SceneDevice). e.device.uid));
        no_failure =
            subst (AllByRecursion (λ (e : Seen). e.heard ≢ Failed)) seen_is
            (never_fails d.steps d.before d.after d.steps_are
            (empty scene.fails.items d.before.fails d.begins.fails no_fails));
      }

      no_fault : fault_of last.phase ≡ None
      no_fault = (ends_in_bound_by search kind known budget seen last d.discovery.driven.run.devices runs
          (uids_of_scene scene.devices) calm enough).no_fault end

  pub honest_report : LosesFew d.steps → IsHonestReport scene search kind known budget found n
  honest_report few = record { devices = true_report few; all = finds_them few; no_fault = without_fault few }

-- a run on a line of a scene
pub on_scene : (scene : Scene) (search : Search) (kind : Kind) (known : List ℕ) (budget n : ℕ)
    (found : Result (List Device) (AgentFault × List Device)) (before after : SimState) → IsStartOf scene before
    → IsDiscovery SimState SimStep scene.source search kind known budget before after found n → n < 2 ^ 64
    → IsSceneDiscovery scene search kind known budget found n
on_scene scene search kind known budget n found before after begins discovery countable =
    let steps = traced scene.source 0 (start_by search kind known budget) discovery.last before after
    discovery.driven.exchanges discovery.driven.drives in record {
      before = before;
      begins = begins;
      after = after;
      discovery = discovery;
      countable = countable;
      steps = steps.steps;
      steps_are = steps.steps_are;
      exchanges = steps.same;
    }

-- the same with what holds of the discovery's exchanges
pub on_scene_with : (scene : Scene) (search : Search) (kind : Kind) (known : List ℕ) (budget n : ℕ)
    (found : Result (List Device) (AgentFault × List Device)) (before after : SimState) (P : List Exchange → Type 0)
    → IsStartOf scene before
    → (discovery : IsDiscovery SimState SimStep scene.source search kind known budget before after found n)
    × P discovery.driven.exchanges → n < 2 ^ 64
    → (run : IsSceneDiscovery scene search kind known budget found n) × P run.discovery.driven.exchanges
unfolding on_scene
on_scene_with scene search kind known budget n found before after P begins (discovery, holds) countable =
    (on_scene scene search kind known budget n found before after begins discovery countable, holds)

-- losses without five numbers in a row are few
pub loses_few : (scene : Scene) (search : Search) (kind : Kind) (known : List ℕ) (budget n : ℕ)
    (found : Result (List Device) (AgentFault × List Device))
    (d : IsSceneDiscovery scene search kind known budget found n) → NoFiveSuccessive scene.losses.items
    → LosesFew d.steps
loses_few scene search kind known budget n found d few =
    few_losses d.before d.after d.steps d.steps_are (λ i all. few i
    (λ j lt. list_any-IsPermutation (λ v. (i + j) == v) scene.losses.items d.before.losses d.begins.losses ∙ all j lt))
