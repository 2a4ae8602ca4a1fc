-- Runs of the simulated line are honest.
use Rattle.std.proofs.Common.{◌≡◌, ℕ, ◌+◌, ◌<◌, ◌≤◌, Bool, true, false, cond, List, [], ◌∷◌, ◌++◌, length, map, Option}
use Rattle.std.proofs.Common.{Some, None, refl, sym, ap, ◌∙◌, subst, inl, inr, true≢false, append-nil, append_assoc}
use Rattle.std.proofs.Common.{length-append, arith}
use Rattle.std.specs.Prelude.{◌⊎◌, ◌==◌, ◌&&◌, nat_le, nat_lt, is_some, option_map, option_and_then, MatchBool}
use Rattle.std.specs.List.{AllByRecursion}
use Rattle.std.proofs.lemmas.Bool.{or_cases, and_parts, cases_Bool, leb-true, ltb-true, lt-ltb, le-leb}
use Rattle.std.proofs.lemmas.List.{length-map}
use Rattle.std.proofs.lemmas.List.Folds.{list_any-append}
use Rattle.std.proofs.lemmas.Option.{same_Some}
use Rattle.rdm_wire.specs.Uid.{has, IsDeviceSet}
use Rattle.rdm_wire.specs.Honest.{LineState, before_run}
use Rattle.rdm_wire.specs.HonestOver.{ComeAndLeave, ChainOver, HonestOver}
use Rattle.rdm_wire.specs.Frames.{heard_in}
use Rattle.rdm_join.specs.Exchange.{bytes_heard}
use Rattle.rdm_line.specs.Scenes.{IsScene, device_at, is_present, is_before, present_at}
use Rattle.rdm_line.specs.Sim.{SimState, IsSoundState, FailsOnly, Exchanges, is_among, next_exchange, last_exchange}
use Rattle.rdm_line.specs.SimSound.{from_of}
use Rattle.rdm_line.specs.SimSteps.{Step, AreSteps, present_in, seen_in, LosesBranch, LosesMute, NeverFive, LosesFew}
use Rattle.rdm_line.specs.declared.scene.SceneDevice.{SceneDevice}
use Rattle.rdm_line.proofs.SoundLemmas.{IsDeviceAt, device_at_is}
use Rattle.rdm_line.proofs.PresenceLemmas.{present_set, present_is, muted_among}
use Rattle.rdm_line.proofs.LeavesLemmas.{Leaves, acts_leave}
use Rattle.rdm_line.proofs.HonestSteps.{line_state, HonestAfter, honest_after}

-- the last n steps so far are of this kind
record Trails (P : Step → Type 0) (done : List Step) (n : ℕ) : Type 0 where
  front : List Step
  lasts : List Step
  split : done ≡ front ++ lasts
  size : length lasts ≡ n
  each : AllByRecursion P lasts

trails_none : (P : Step → Type 0) (done : List Step) → Trails P done 0
trails_none P done = record { front = done; lasts = []; split = sym (append-nil done); size = refl; each = tt }

all-pushed : (P : Step → Type 0) (xs : List Step) (x : Step) → AllByRecursion P xs → P x
    → AllByRecursion P (xs ++ x ∷ [])
all-pushed P [] x all here = (here, tt)
all-pushed P (y ∷ ys) x all here = (all.0, all-pushed P ys x all.1 here)

trails_more : (P : Step → Type 0) (done : List Step) (n : ℕ) (x : Step) → Trails P done n → P x
    → Trails P (done ++ x ∷ []) (n + 1)
trails_more P done n x t here = record {
  front = t.front;
  lasts = t.lasts ++ x ∷ [];
  split = ap (λ l. l ++ x ∷ []) t.split ∙ append_assoc t.front t.lasts (x ∷ []);
  size = length-append t.lasts (x ∷ []) ∙ ap (λ k. k + 1) t.size;
  each = all-pushed P t.lasts x t.each here;
}

trails_after : (P : Step → Type 0) (done : List Step) (n k : ℕ) (x : Step) → Trails P done n → (k ≡ 0)
    ⊎ ((k ≡ n + 1) × P x) → Trails P (done ++ x ∷ []) k
trails_after P done n k x t (inl is) = subst (Trails P (done ++ x ∷ [])) (sym is) (trails_none P (done ++ x ∷ []))
trails_after P done n k x t (inr more) =
    subst (Trails P (done ++ x ∷ [])) (sym more.0) (trails_more P done n x t more.1)

regrouped : (a b c : List Step) (x : Step) → (a ++ b) ++ x ∷ c ≡ (a ++ (b ++ x ∷ [])) ++ c
regrouped a b c x = simp append_assoc

-- there is room for one more
room : (P : Step → Type 0) (done rest : List Step) (n : ℕ) (x : Step) → NeverFive P (done ++ x ∷ rest) → Trails P done n
    → n ≤ 4 → P x → n + 1 ≤ 4
room P done rest n x never t few here = elim (four n few) [
  | inl below ↦ omega arith
  | inr is ↦ absurd (never t.front (t.lasts ++ x ∷ []) rest
      (ap (λ l. l ++ x ∷ rest) t.split ∙ regrouped t.front t.lasts rest x)
      (length-append t.lasts (x ∷ []) ∙ ap (λ k. k + 1) (t.size ∙ is)) (all-pushed P t.lasts x t.each here))
]
  where
    four : (k : ℕ) → k ≤ 4 → (k < 4) ⊎ (k ≡ 4)
    four k h = grind arith

-- where a run stands: last is the set at exchange k, the one before the next
record Tracks (done : List Step) (s : SimState) (k : ℕ) (earlier last : List ℕ) (ls : LineState) : Type 0 where
  last_is : last ≡ present_at s.devices k
  low : k ≤ s.exchanges
  high : s.exchanges ≤ k + 1
  came : (u from : ℕ) → has earlier u ≡ true → from_of s.devices u ≡ Some from → from ≤ k
  muted : (u : ℕ) → ls.muted u ≡ muted_among last s.muted u
  branches : Trails LosesBranch done ls.lost_branches
  mutes : Trails LosesMute done ls.lost_mutes
  few_branches : ls.lost_branches ≤ 4
  few_mutes : ls.lost_mutes ≤ 4

-- a device that is present now, and wasn't at an earlier exchange, came since
came_since : (d : SceneDevice) (k i : ℕ) → k ≤ i → is_present i d ≡ true → is_present k d ≡ false → k < d.from
came_since d k i le now then =
    elim (cases_at d.from k) [ inl late ↦ late | inr early ↦ absurd (true≢false (sym (there early) ∙ then)) ]
  where
    cases_at : (a b : ℕ) → (b < a) ⊎ (a ≤ b)
    cases_at a b = grind arith

    before : (o : Option ℕ) → is_before i o ≡ true → is_before k o ≡ true
    before None h = refl
    before (Some end) h = let p : i < end = ltb-true i end h in lt-ltb k end (omega arith)

    there : d.from ≤ k → is_present k d ≡ true
    there early =
        ap (λ t. t && is_before k d.until) (le-leb d.from k early)
        ∙ before d.until (and_parts (nat_le d.from i) (is_before i d.until) now).1

found_of : (ds : List SceneDevice) (i u : ℕ) → IsScene ds → has (present_at ds i) u ≡ true → (d : SceneDevice)
    × (device_at i ds u ≡ Some d)
found_of ds i u scene here = by_option (device_at i ds u) refl
  where
    by_option : (o : Option SceneDevice) → device_at i ds u ≡ o → (d : SceneDevice) × (device_at i ds u ≡ Some d)
    by_option None is = absurd (true≢false (sym here ∙ present_is ds i u scene.uids.ascending ∙ ap is_some is))
    by_option (Some d) is = (d, is)

-- a present device came by then
came_by : (ds : List SceneDevice) (i u from : ℕ) → IsScene ds → has (present_at ds i) u ≡ true
    → from_of ds u ≡ Some from → from ≤ i
came_by ds i u from scene here f =
    let found = found_of ds i u scene here in
    let at = device_at_is i u ds found.0 scene found.1 in
    let is : found.0.from ≡ from = same_Some _ _ (sym (ap (option_map (λ (e : SceneDevice). e.from)) at.found) ∙ f) in
    let early : found.0.from ≤ i = leb-true found.0.from i (and_parts (nat_le found.0.from i) _ at.present).0 in
    omega arith

moves : (done : List Step) (s : SimState) (k : ℕ) (earlier last : List ℕ) (ls : LineState) → IsSoundState s
    → Tracks done s k earlier last ls
    → ComeAndLeave earlier last (present_at s.devices s.exchanges) ls
    (line_state (present_at s.devices s.exchanges) s.muted ls.lost_branches ls.lost_mutes ls.unmutes)
moves done s k earlier last ls sound t = record {
  stays = λ u was is. ap (λ b. b && has s.muted u) is ∙ sym (ap (λ b. b && has s.muted u) was) ∙ sym (t.muted u);
  comes = comes;
  leaves = λ u gone. ap (λ b. b && has s.muted u) gone;
  lost_branches = refl;
  lost_mutes = refl;
  unmutes = refl;
}
  where
    comes : (u : ℕ) → has last u ≡ false → has (present_at s.devices s.exchanges) u ≡ true → (has earlier u ≡ false)
        × (muted_among (present_at s.devices s.exchanges) s.muted u ≡ false)
    comes u was is =
        let found = found_of s.devices s.exchanges u sound.scene is in
        let at = device_at_is s.exchanges u s.devices found.0 sound.scene found.1 in
        let late : k < found.0.from = came_since found.0 k s.exchanges t.low at.present (not_then found.0 at) in (
          elim (cases_Bool (has earlier u)) [
            | inl was_there
                ↦ absurd (let early : found.0.from ≤ k = t.came u found.0.from was_there (from_at found.0 at) in
                omega arith)
            | inr differs ↦ differs
          ],
          elim (cases_Bool (has s.muted u)) [
            | inl was_muted
                ↦ absurd (let early : found.0.from < s.exchanges = sound.came u found.0.from was_muted
                (from_at found.0 at) in let next : s.exchanges ≤ k + 1 = t.high in omega arith)
            | inr differs ↦ ap (λ b. b && has s.muted u) is ∙ differs
          ],
        )
      where
        from_at : (d : SceneDevice) → IsDeviceAt s.exchanges u s.devices d → from_of s.devices u ≡ Some d.from
        from_at d at = ap (option_map (λ (e : SceneDevice). e.from)) at.found

        not_then : (d : SceneDevice) → IsDeviceAt s.exchanges u s.devices d → is_present k d ≡ false
        not_then d at = elim (cases_Bool (is_present k d)) [
          | inl then ↦ absurd (true≢false
              (sym (there then) ∙ sym (present_is s.devices k u sound.scene.uids.ascending)
              ∙ sym (ap (λ us. has us u) t.last_is) ∙ was))
          | inr differs ↦ differs
        ]
          where
            there : is_present k d ≡ true → is_some (device_at k s.devices u) ≡ true
            there is = ap is_some
                (ap (option_and_then (λ e. cond (is_present k e) (Some e) None)) at.found
                ∙ ap (λ b. cond b (Some d) None) is)

-- the next exchange's number
next_low : (i : ℕ) → i ≤ next_exchange i
next_low i = by_test (nat_lt i last_exchange)
  where
    by_test : (t : Bool) → i ≤ cond t (i + 1) i
    by_test true = omega arith
    by_test false = omega arith

next_high : (i : ℕ) → next_exchange i ≤ i + 1
next_high i = by_test (nat_lt i last_exchange)
  where
    by_test : (t : Bool) → cond t (i + 1) i ≤ i + 1
    by_test true = omega arith
    by_test false = omega arith

-- where the run stands after a step
tracks_after : (done : List Step) (x : Step) (next : SimState) (k : ℕ) (earlier last : List ℕ) (ls : LineState)
    → IsSoundState x.before → Tracks done x.before k earlier last ls → Leaves x.before next
    → (after : HonestAfter x next ls.lost_branches ls.lost_mutes ls.unmutes)
    → Tracks (done ++ x ∷ []) next x.before.exchanges (present_in x ++ earlier) (present_in x)
    (line_state (present_in x) next.muted after.lost_branches after.lost_mutes after.unmutes)
tracks_after done x next k earlier last ls sound t leaves after = record {
  last_is = sym (leaves.present x.before.exchanges);
  low = subst (λ n. x.before.exchanges ≤ n) (sym leaves.exchanges) (next_low x.before.exchanges);
  high = subst (λ n. n ≤ x.before.exchanges + 1) (sym leaves.exchanges) (next_high x.before.exchanges);
  came = λ u from h
      f. elim (or_cases (has (present_in x) u) (has earlier u)
      (sym (list_any-append (λ v. u == v) (present_in x) earlier) ∙ h)) [
        | inl here ↦ came_by x.before.devices x.before.exchanges u from sound.scene here (sym (leaves.from u) ∙ f)
        | inr before ↦ let early : from ≤ k = t.came u from before (sym (leaves.from u) ∙ f) in
            let low : k ≤ x.before.exchanges = t.low in omega arith
      ];
  muted = λ u. refl;
  branches = trails_after LosesBranch done ls.lost_branches after.lost_branches x t.branches after.branches;
  mutes = trails_after LosesMute done ls.lost_mutes after.lost_mutes x t.mutes after.mutes;
  few_branches = after.few_branches;
  few_mutes = after.few_mutes;
}

-- the rest of a run
chain : (done rest : List Step) (s new : SimState) (k : ℕ) (earlier last : List ℕ) (ls : LineState)
    → AreSteps s rest new
    → LosesFew (done ++ rest) → Tracks done s k earlier last ls
    → ChainOver earlier last ls (map present_in rest) (map seen_in rest)
chain done [] s new k earlier last ls run few t = tt
chain done (x ∷ rest) s new k earlier last ls run few t =
    by_rule (is_among x.before.exchanges x.before.fails) refl run.2.rule
    (λ after tracks. chain (done ++ x ∷ []) rest run.1 new x.before.exchanges (present_in x ++ earlier) (present_in x)
    after run.3 few_after tracks)
  where
    tracks : Tracks done x.before k earlier last ls
    tracks = subst (λ r. Tracks done r k earlier last ls) (sym run.0) t

    sound : IsSoundState x.before
    sound = run.2.sound

    few_after : LosesFew ((done ++ x ∷ []) ++ rest)
    few_after = subst LosesFew (sym (append_assoc done (x ∷ []) rest)) few

    moved : LineState
    moved = line_state (present_in x) x.before.muted ls.lost_branches ls.lost_mutes ls.unmutes

    by_rule : (fails : Bool) → is_among x.before.exchanges x.before.fails ≡ fails
        → MatchBool fails (FailsOnly x.before x.exchange.1 run.1) (Exchanges x.before x.exchange run.1)
        → ((after : LineState) → Tracks (done ++ x ∷ []) run.1 x.before.exchanges (present_in x ++ earlier)
        (present_in x) after → ChainOver (present_in x ++ earlier) (present_in x) after (map present_in rest)
        (map seen_in rest))
        → ChainOver earlier last ls (map present_in (x ∷ rest)) (map seen_in (x ∷ rest))
    by_rule true is h go_on = (
      moved,
      moves done x.before k earlier last ls sound tracks,
      inl (ap (λ e. heard_in x.exchange.0.items (bytes_heard e)) h.failed),
    )
    by_rule false is h go_on =
        let after = honest_after x run.1 ls.lost_branches ls.lost_mutes ls.unmutes sound h
        (room LosesBranch done rest ls.lost_branches x few.branches tracks.branches tracks.few_branches)
        (room LosesMute done rest ls.lost_mutes x few.mutes tracks.mutes tracks.few_mutes) in
        let leaves = acts_leave x.before run.1 _ h.reply h.acts in (
          moved,
          moves done x.before k earlier last ls sound tracks,
          inr (
            line_state (present_in x) run.1.muted after.lost_branches after.lost_mutes after.unmutes,
            after.step,
            go_on _ (tracks_after done x run.1 k earlier last ls sound tracks leaves after),
          ),
        )

-- each set is a device set
sets_of_run : (xs : List Step) (s new : SimState) → AreSteps s xs new → AllByRecursion IsDeviceSet (map present_in xs)
sets_of_run [] s new run = tt
sets_of_run (x ∷ xs) s new run =
    (present_set x.before.devices x.before.exchanges run.2.sound.scene, sets_of_run xs run.1 new run.3)

pub honest_run : (s new : SimState) (xs : List Step) → AreSteps s xs new → LosesFew xs
    → HonestOver (map present_in xs) (map seen_in xs)
honest_run s new [] run few = record {
  one_each = refl;
  devices = tt;
  muted = λ u. false;
  present = λ u h. absurd (true≢false (sym h));
  chain = tt;
}
honest_run s new (x ∷ xs) run few = record {
  one_each = length-map (x ∷ xs) present_in ∙ sym (length-map (x ∷ xs) seen_in);
  devices = sets_of_run (x ∷ xs) s new run;
  muted = muted_among (present_in x) x.before.muted;
  present = λ u h. (and_parts (has (present_in x) u) (has x.before.muted u) h).0;
  chain = chain [] (x ∷ xs) s new x.before.exchanges (present_in x) (present_in x)
      (before_run (muted_among (present_in x) x.before.muted)) run few
      (subst (λ r. Tracks [] r x.before.exchanges (present_in x) (present_in x)
      (before_run (muted_among (present_in x) x.before.muted))) run.0 (record {
        last_is = refl;
        low = omega arith;
        high = omega arith;
        came = λ u from h f. came_by x.before.devices x.before.exchanges u from run.2.sound.scene h f;
        muted = λ u. refl;
        branches = trails_none LosesBranch [];
        mutes = trails_none LosesMute [];
        few_branches = omega arith;
        few_mutes = omega arith;
      }));
}
