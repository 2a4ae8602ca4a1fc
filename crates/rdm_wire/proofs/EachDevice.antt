-- A line that is honest to a set of devices is honest to each of them, and so is a noisy one.
use Rattle.std.proofs.Common.{◌≡◌, ℕ, ◌+◌, ◌≤◌, Bool, true, false, ◌&&◌, not, cond, List, [], ◌∷◌, refl, sym, ap, ◌∙◌}
use Rattle.std.proofs.Common.{subst, inl, inr, true≢false, arith}
use Rattle.std.specs.Prelude.{◌⊎◌, ◌==◌, MatchBool, filter}
use Rattle.std.proofs.lemmas.Bool.{eqb-true, eq-eqb, cases_Bool, or_cases}
use Rattle.rdm_wire.specs.Uid.{has, is_within}
use Rattle.rdm_wire.specs.Honest.{Asked, Heard, Seen, LineState, HonestStep, HonestToStep, HonestTrace, HonestTo, Chain}
use Rattle.rdm_wire.specs.Honest.{LineCounts, KeepsMuted, UnmuteMoves, due_in, lost_after, is_silent, is_acked}
use Rattle.rdm_wire.specs.Honest.{before_run}
use Rattle.rdm_wire.specs.Honest.Asked.{Unmute, Branch, Mute, Other}
use Rattle.rdm_wire.specs.Honest.Heard.{Silent}
use Rattle.rdm_wire.specs.Noisy.{NoisyStep, NoisyToStep, NoisyTrace, NoisyTo}

-- a device that is due is one of those due
lost_le : (test other : ℕ → Bool) (present : List ℕ) (u : ℕ) (h : Heard) (a b : ℕ) → test u ≡ other u
    → has present u ≡ true → a ≤ b → lost_after (filter other (u ∷ [])) h a ≤ lost_after (filter test present) h b
lost_le test other [] u h a b same here le = absurd (true≢false (sym here))
lost_le test other (p ∷ present) u h a b same here le =
    by_test (λ rest. lost_le test other present u h a b same rest le) (cases_Bool (other u)) (cases_Bool (test p))
  where
    cond_le : (c : Bool) → cond c (a + 1) 0 ≤ cond c (b + 1) 0
    cond_le true = omega arith
    cond_le false = omega arith

    in_rest : other u ≡ true → test p ≡ false → ((u == p) ≡ true) ⊎ (has present u ≡ true) → has present u ≡ true
    in_rest due after (inl is) = absurd (true≢false (sym due ∙ sym same ∙ ap test (eqb-true u p is) ∙ after))
    in_rest due after (inr rest) = rest

    by_test : (has present u ≡ true → lost_after (filter other (u ∷ [])) h a ≤ lost_after (filter test present) h b)
        → (other u ≡ true) ⊎ (other u ≡ false) → (test p ≡ true) ⊎ (test p ≡ false)
        → lost_after (filter other (u ∷ [])) h a ≤ lost_after (filter test (p ∷ present)) h b
    by_test onward (inr no_due) _ = rw no_due (omega arith)
    by_test onward (inl due) (inl front) = rw (due, front) (cond_le (is_silent h))
    by_test onward (inl due) (inr after) =
        rw after (onward (in_rest due after (or_cases (u == p) (has present u) here)))

-- the counts of a line that follows the rules for u alone are no higher
pub record IsBelow (u : ℕ) (t s : LineState) : Type 0 where
  pub muted : t.muted u ≡ s.muted u
  pub branches : t.lost_branches ≤ s.lost_branches
  pub lost : t.lost_mutes ≤ s.lost_mutes
  pub unmutes : t.unmutes ≡ s.unmutes

pub same_below : (u : ℕ) (s : LineState) → IsBelow u s s
same_below u s = record { muted = refl; branches = omega arith; lost = omega arith; unmutes = refl }

-- the rules for all devices, or for one
abbrev pub Rules : Type 1
Rules = LineState → Asked → Heard → LineState → Type 0

-- a step by the rules for one device, to a state that is below
pub record Below (OneStep : Rules) (u : ℕ) (t new : LineState) (a : Asked) (h : Heard) : Type 0 where
  pub state : LineState
  pub below : IsBelow u state new
  pub step : OneStep t a h state

with_counts : LineState → ℕ → ℕ → ℕ → LineState
with_counts new b m n = record { muted = new.muted; lost_branches = b; lost_mutes = m; unmutes = n }

counted : (new : LineState) (b m n : ℕ) → b ≤ 4 → m ≤ 4 → LineCounts (with_counts new b m n) b m n
unfolding with_counts
counted new b m n p q = record { branches = refl; mutes = refl; unmutes = refl; few_branches = p; few_mutes = q }

is_below : (u : ℕ) (new : LineState) (b m n c d e : ℕ) → LineCounts new c d e → b ≤ c → m ≤ d → n ≡ e
    → IsBelow u (with_counts new b m n) new
unfolding with_counts
is_below u new b m n c d e counts p q r = record {
  muted = refl;
  branches = le_along counts.branches p;
  lost = le_along counts.mutes q;
  unmutes = r ∙ sym counts.unmutes;
}
  where
    le_along : {x y z : ℕ} → z ≡ y → x ≤ y → x ≤ z
    le_along w k = rw w k

below_branch : (present : List ℕ) (u lo hi : ℕ) (s t new : LineState) (h : Heard) → has present u ≡ true → IsBelow u t s
    → ((v : ℕ) → KeepsMuted v s new)
    → LineCounts new (lost_after (due_in present s.muted lo hi) h s.lost_branches) 0 0
    → Below (HonestToStep u) u t new (Branch lo hi) h
unfolding with_counts
below_branch present u lo hi s t new h here under keeps counts = record {
  state = with_counts new lost 0 0;
  below = is_below u new lost 0 0 _ 0 0 counts few (omega arith) refl;
  step = (keeps u ∙ sym under.muted, counted new lost 0 0 (few_lost few counts.few_branches) (omega arith));
}
  where
    lost : ℕ
    lost = lost_after (due_in (u ∷ []) t.muted lo hi) h t.lost_branches

    few : lost ≤ lost_after (due_in present s.muted lo hi) h s.lost_branches
    few = lost_le (λ v. is_within lo hi v && not (s.muted v)) (λ v. is_within lo hi v && not (t.muted v)) present u h
        t.lost_branches s.lost_branches
        (ap (λ b. is_within lo hi u && not b) (sym under.muted)) here under.branches

    few_lost : {x y : ℕ} → x ≤ y → y ≤ 4 → x ≤ 4
    few_lost p q = omega arith

below_unmute : (u : ℕ) (s t new : LineState) (h : Heard) → IsBelow u t s
    → ((v : ℕ) → UnmuteMoves v s new) × LineCounts new 0 0 (s.unmutes + 1) → Below (HonestToStep u) u t new Unmute h
unfolding with_counts
below_unmute u s t new h under step = record {
  state = with_counts new 0 0 (t.unmutes + 1);
  below = is_below u new 0 0 (t.unmutes + 1) 0 0 (s.unmutes + 1) step.1 (omega arith) (omega arith)
      (ap (λ n. n + 1) under.unmutes);
  step = (
    record {
      fewer = λ m. under.muted ∙ (step.0 u).fewer m;
      third = λ three. (step.0 u).third (subst (λ n. 3 ≤ n + 1) under.unmutes three);
    },
    counted new 0 0 (t.unmutes + 1) (omega arith) (omega arith),
  );
}

below_other : (u : ℕ) (s t new : LineState) (h : Heard) → IsBelow u t s
    → ((v : ℕ) → KeepsMuted v s new) × LineCounts new 0 0 0 → Below (HonestToStep u) u t new Other h
unfolding with_counts
below_other u s t new h under step = record {
  state = with_counts new 0 0 0;
  below = is_below u new 0 0 0 0 0 0 step.1 (omega arith) (omega arith) refl;
  step = (step.0 u ∙ sym under.muted, counted new 0 0 0 (omega arith) (omega arith));
}

-- mutes, by what may be heard if they aren't acknowledged
module _ (Lost : Heard → Type 0) where
  -- a mute of a device that may answer it
  abbrev Moves : ℕ → LineState → Heard → LineState → Type 0
  Moves u old heard new =
      ((is_acked heard ≡ true) × (new.muted u ≡ true) × LineCounts new 0 0 0)
      ⊎ (Lost heard × ((new.muted u ≡ true) ⊎ KeepsMuted u old new) × LineCounts new 0 (old.lost_mutes + 1) 0)

  -- a mute of a present device, or of another UID
  abbrev MovesOf : Bool → ℕ → LineState → Heard → LineState → Type 0
  MovesOf b u old heard new =
      MatchBool b (Moves u old heard new) (Lost heard × KeepsMuted u old new × LineCounts new 0 0 0)

  -- the state below, and the step to it, by the rules for u alone
  abbrev MovesBelow : Bool → ℕ → LineState → LineState → Heard → Type 0
  MovesBelow b u t new h =
      (state : LineState) × IsBelow u state new
      × MatchBool b (Moves u t h state) (KeepsMuted u t state × LineCounts state 0 0 0)

  below_own_mute : (u : ℕ) (s t new : LineState) (h : Heard) → IsBelow u t s → Moves u s h new
      → MovesBelow true u t new h
  unfolding with_counts
  below_own_mute u s t new h under (inl acked) = (
    with_counts new 0 0 0,
    is_below u new 0 0 0 0 0 0 acked.2 (omega arith) (omega arith) refl,
    inl (acked.0, acked.1, counted new 0 0 0 (omega arith) (omega arith)),
  )
  below_own_mute u s t new h under (inr lost) = let le = under.lost in let few = lost.2.few_mutes in (
    with_counts new 0 (t.lost_mutes + 1) 0,
    is_below u new 0 (t.lost_mutes + 1) 0 0 (s.lost_mutes + 1) 0 lost.2 (omega arith) (omega arith) refl,
    inr (lost.0, kept lost.1, counted new 0 (t.lost_mutes + 1) 0 (omega arith) (omega arith)),
  )
    where
      kept : (new.muted u ≡ true) ⊎ KeepsMuted u s new → (new.muted u ≡ true) ⊎ (new.muted u ≡ t.muted u)
      kept (inl muted) = inl muted
      kept (inr as_before) = inr (as_before ∙ sym under.muted)

  below_other_mute : (b : Bool) (u v : ℕ) (s t new : LineState) (h : Heard) → KeepsMuted u s new → IsBelow u t s
      → MovesOf b v s h new → MovesBelow false u t new h
  unfolding with_counts
  below_other_mute b u v s t new h keeps under moves = of_count (count b moves)
    where
      count : (b : Bool) → MovesOf b v s h new → (m : ℕ) × LineCounts new 0 m 0
      count true (inl acked) = (0, acked.2)
      count true (inr lost) = (s.lost_mutes + 1, lost.2)
      count false absent = (0, absent.2)

      of_count : (m : ℕ) × LineCounts new 0 m 0 → MovesBelow false u t new h
      of_count c = (
        with_counts new 0 0 0,
        is_below u new 0 0 0 0 c.0 0 c.1 (omega arith) (omega arith) refl,
        (keeps ∙ sym under.muted, counted new 0 0 0 (omega arith) (omega arith)),
      )

  below_mute : (present : List ℕ) (u v : ℕ) (s t new : LineState) (h : Heard) (b : Bool) → (u == v) ≡ b
      → has present u ≡ true → IsBelow u t s
      → ((w : ℕ) → (v == w) ≡ false → KeepsMuted w s new) × MovesOf (has present v) v s h new → MovesBelow b u t new h
  below_mute present u v s t new h true is here under step =
      let same = eqb-true u v is in
      below_own_mute u s t new h under
      (subst (λ w. Moves w s h new) (sym same)
      (subst (λ b. MovesOf b v s h new) (ap (λ w. has present w) (sym same) ∙ here) step.1))
  below_mute present u v s t new h false other here under step =
      below_other_mute (has present v) u v s t new h (step.0 u (other_way (cases_Bool (v == u)))) under step.1
    where
      other_way : ((v == u) ≡ true) ⊎ ((v == u) ≡ false) → (v == u) ≡ false
      other_way (inl is) = absurd (true≢false (sym (eq-eqb u v (sym (eqb-true v u is))) ∙ other))
      other_way (inr isnt) = isnt

-- a step by the honest rules
pub below_step : (present : List ℕ) (u : ℕ) (s t new : LineState) (a : Asked) (h : Heard) → has present u ≡ true
    → IsBelow u t s → HonestStep present s a h new → Below (HonestToStep u) u t new a h
below_step present u s t new (Branch lo hi) h here under step =
    below_branch present u lo hi s t new h here under step.1 step.2
below_step present u s t new (Mute v) h here under step =
    let m = below_mute (λ k. k ≡ Silent) present u v s t new h (u == v) refl here under step in
    record { state = m.0; below = m.1; step = m.2 }
below_step present u s t new Unmute h here under step = below_unmute u s t new h under step
below_step present u s t new Other h here under step = below_other u s t new h under step

-- a step by those of a noisy line
pub noisy_below_step : (present : List ℕ) (u : ℕ) (s t new : LineState) (a : Asked) (h : Heard) → has present u ≡ true
    → IsBelow u t s → NoisyStep present s a h new → Below (NoisyToStep u) u t new a h
noisy_below_step present u s t new (Branch lo hi) h here under step =
    let b = below_branch present u lo hi s t new h here under step.1 step.2 in
    record { state = b.state; below = b.below; step = b.step }
noisy_below_step present u s t new (Mute v) h here under step =
    let m = below_mute (λ k. is_acked k ≡ false) present u v s t new h (u == v) refl here under step in
    record { state = m.0; below = m.1; step = m.2 }
noisy_below_step present u s t new Unmute h here under step =
    let b = below_unmute u s t new h under step in record { state = b.state; below = b.below; step = b.step }
noisy_below_step present u s t new Other h here under step =
    let b = below_other u s t new h under step in record { state = b.state; below = b.below; step = b.step }

-- consecutive steps
to_one : (AllStep OneStep : Rules) (u : ℕ)
    → ((s t new : LineState) (a : Asked) (h : Heard) → IsBelow u t s → AllStep s a h new → Below OneStep u t new a h)
    → (s t : LineState) (x : List Seen) → IsBelow u t s → Chain AllStep s x → Chain OneStep t x
to_one AllStep OneStep u below s t [] under c = tt
to_one AllStep OneStep u below s t (e ∷ x) under (inl failed) = inl failed
to_one AllStep OneStep u below s t (e ∷ x) under (inr step) =
    let b = below s t step.0 e.asked e.heard under step.1 in
    inr (b.state, b.step, to_one AllStep OneStep u below step.0 b.state x b.below step.2)

pub honest_to_each : (present : List ℕ) (u : ℕ) (x : List Seen) → has present u ≡ true → HonestTrace present x
    → HonestTo u x
honest_to_each present u x here honest = (
  honest.1,
  to_one (HonestStep present) (HonestToStep u) u (λ s t new a h. below_step present u s t new a h here)
      (before_run honest.1) (before_run honest.1) x (same_below u (before_run honest.1)) honest.2,
)

pub noisy_to_each : (present : List ℕ) (u : ℕ) (x : List Seen) → has present u ≡ true → NoisyTrace present x
    → NoisyTo u x
noisy_to_each present u x here noisy = (
  noisy.1,
  to_one (NoisyStep present) (NoisyToStep u) u (λ s t new a h. noisy_below_step present u s t new a h here)
      (before_run noisy.1) (before_run noisy.1) x (same_below u (before_run noisy.1)) noisy.2,
)
