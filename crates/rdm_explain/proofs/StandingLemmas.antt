-- What is known of a device's state decides whether the line was honest to it.
use Rattle.std.proofs.Common.{◌≡◌, ℕ, ◌+◌, ◌<◌, ◌≤◌, Bool, true, false, ◌&&◌, ◌||◌, not, List, [], ◌∷◌, cond, refl, sym}
use Rattle.std.proofs.Common.{ap, ◌∙◌, subst, inl, inr, true≢false, arith}
use Rattle.std.specs.Prelude.{◌⊎◌, ◌≢◌, ◌==◌, nat_le, fold, MatchBool, if◌then◌else◌}
use Rattle.std.proofs.lemmas.Bool.{cases_Bool, or_cases, and_parts, and_from, leb-true, leb-false, le-leb}
use Rattle.std.proofs.lemmas.Bool.{or_left, or_right}
use Rattle.rdm_wire.specs.Uid.{is_within}
use Rattle.rdm_wire.specs.Honest.{Asked, Heard, Seen, LineState, HonestToStep, HonestTo, Chain, LineCounts, due_in}
use Rattle.rdm_wire.specs.Honest.{lost_after, KeepsMuted, MuteMoves, UnmuteMoves, is_acked, is_silent, before_run}
use Rattle.rdm_wire.specs.Honest.Asked.{Unmute, Branch, Mute, Other}
use Rattle.rdm_wire.specs.Honest.Heard.{Failed, Silent, One, Acked, Noise}
use Rattle.rdm_explain.specs.declared.standing.Standing.{Standing}
use Rattle.rdm_explain.specs.body.Standings.{is_alive, with_counts, after_branch, after_mute, after_unmute, after_asked}
use Rattle.rdm_explain.specs.body.Standings.{stopped_at, after_heard, after_either, after, at_start, standing}
use Rattle.rdm_wire.proofs.NoisyLemmas.{has_failed}

-- it is muted in s, and may be; or unmuted
abbrev pub May : Standing → ℕ → LineState → Type 0
May p u s =
    ((s.muted u ≡ true) × (p.muted ≡ true) × (s.lost_branches ≡ 0))
    ⊎ ((s.muted u ≡ false) × (p.unmuted ≡ true) × (s.lost_branches ≡ p.lost_branches))

-- s is one of the states that p allows
pub record Allows (p : Standing) (u : ℕ) (s : LineState) : Type 0 where
  pub may : May p u s
  pub mutes : s.lost_mutes ≡ p.lost_mutes
  pub unmutes : s.unmutes ≡ p.unmutes

-- such a state, with the device muted or not
abbrev pub state_of : Standing → Bool → ℕ → LineState
state_of p m b = record { muted = λ v. m; lost_branches = b; lost_mutes = p.lost_mutes; unmutes = p.unmutes }

muted_state : (p : Standing) (u : ℕ) → p.muted ≡ true → Allows p u (state_of p true 0)
muted_state p u m = record { may = inl (refl, m, refl); mutes = refl; unmutes = refl }

pub unmuted_state : (p : Standing) (u : ℕ) → p.unmuted ≡ true → Allows p u (state_of p false p.lost_branches)
unmuted_state p u m = record { may = inr (refl, m, refl); mutes = refl; unmutes = refl }

some_state : (p : Standing) (u : ℕ) → is_alive p ≡ true → (s : LineState) × Allows p u s
some_state p u alive =
    elim (or_cases p.muted p.unmuted alive) [
      | inl m ↦ (state_of p true 0, muted_state p u m)
      | inr m ↦ (state_of p false p.lost_branches, unmuted_state p u m)
    ]

alive_of : (p : Standing) (u : ℕ) (s : LineState) → Allows p u s → is_alive p ≡ true
alive_of p u s a =
    elim a.may [ inl m ↦ or_left p.muted p.unmuted m.1 | inr m ↦ or_right p.muted p.unmuted m.1 ]

-- how many replies are lost in a row, of a device that is muted or not
muted_lost : (w m : Bool) (u n : ℕ) (h : Heard) → m ≡ true → lost_after (cond (w && not m) (u ∷ []) []) h n ≡ 0
muted_lost true true u n h e = refl
muted_lost true false u n h e = cc
muted_lost false m u n h e = refl

unmuted_lost : (w m : Bool) (u n : ℕ) (h : Heard) → m ≡ false
    → lost_after (cond (w && not m) (u ∷ []) []) h n ≡ (if w && is_silent h then n + 1 else 0)
unmuted_lost true true u n h e = cc
unmuted_lost true false u n h e = refl
unmuted_lost false m u n h e = refl

-- after a branch
branch_keeps : (u lo hi : ℕ) (p : Standing) (s new : LineState) (h : Heard) → Allows p u s → KeepsMuted u s new
    → LineCounts new (lost_after (due_in (u ∷ []) s.muted lo hi) h s.lost_branches) 0 0
    → Allows (after_branch p (if is_within lo hi u && is_silent h then p.lost_branches + 1 else 0)) u new
branch_keeps u lo hi p s new h a keeps counts = record {
  may = of_may a.may;
  mutes = counts.mutes;
  unmutes = counts.unmutes;
}
  where
    of_may : May p u s
        → May (after_branch p (if is_within lo hi u && is_silent h then p.lost_branches + 1 else 0)) u new
    of_may (inl m) =
        inl (keeps ∙ m.0, m.1, counts.branches ∙ muted_lost (is_within lo hi u) (s.muted u) u s.lost_branches h m.0)
    of_may (inr m) =
        let lost : lost_after (due_in (u ∷ []) s.muted lo hi) h s.lost_branches
        ≡ (if is_within lo hi u && is_silent h then p.lost_branches + 1 else 0)
        = unmuted_lost (is_within lo hi u) (s.muted u) u s.lost_branches h m.0
        ∙ ap (λ n. if is_within lo hi u && is_silent h then n + 1 else 0) m.2 in
        inr (
          keeps ∙ m.0,
          and_from p.unmuted (nat_le (if is_within lo hi u && is_silent h then p.lost_branches + 1 else 0) 4) m.1
              (le-leb _ 4 (subst (λ n. n ≤ 4) lost counts.few_branches)),
          counts.branches ∙ lost,
        )

abbrev pub Before : ℕ → Standing → Asked → Heard → LineState → Type 0
Before u p asked h new = (s : LineState) × Allows p u s × HonestToStep u s asked h new

branch_back : (u lo hi : ℕ) (p : Standing) (new : LineState) (h : Heard)
    → Allows (after_branch p (if is_within lo hi u && is_silent h then p.lost_branches + 1 else 0)) u new
    → Before u p (Branch lo hi) h new
branch_back u lo hi p new h a = of_may a.may
  where
    of_may : May (after_branch p (if is_within lo hi u && is_silent h then p.lost_branches + 1 else 0)) u new
        → Before u p (Branch lo hi) h new
    of_may (inl m) =
        let lost : lost_after (due_in (u ∷ []) (λ v. true) lo hi) h 0 ≡ 0
        = muted_lost (is_within lo hi u) true u 0 h refl in (
          state_of p true 0,
          muted_state p u m.1,
          (
            m.0,
            record {
              branches = m.2 ∙ sym lost;
              mutes = a.mutes;
              unmutes = a.unmutes;
              few_branches = rw lost (omega arith);
              few_mutes = omega arith;
            },
          ),
        )
    of_may (inr m) =
        let b = if is_within lo hi u && is_silent h then p.lost_branches + 1 else 0 in
        let both = and_parts p.unmuted (nat_le b 4) m.1 in
        let lost : lost_after (due_in (u ∷ []) (λ v. false) lo hi) h p.lost_branches
        ≡ (if is_within lo hi u && is_silent h then p.lost_branches + 1 else 0)
        = unmuted_lost (is_within lo hi u) false u p.lost_branches h refl in (
          state_of p false p.lost_branches,
          unmuted_state p u both.0,
          (
            m.0,
            record {
              branches = m.2 ∙ sym lost;
              mutes = a.mutes;
              unmutes = a.unmutes;
              few_branches = subst (λ n. n ≤ 4) (sym lost) (leb-true _ 4 both.1);
              few_mutes = omega arith;
            },
          ),
        )

-- after an exchange that doesn't ask it
quiet_keeps : (u : ℕ) (p : Standing) (s new : LineState) → Allows p u s → KeepsMuted u s new → LineCounts new 0 0 0
    → Allows (with_counts p 0 0 0) u new
quiet_keeps u p s new a keeps counts = record {
  may = of_may a.may;
  mutes = counts.mutes;
  unmutes = counts.unmutes;
}
  where
    of_may : May p u s → May (with_counts p 0 0 0) u new
    of_may (inl m) = inl (keeps ∙ m.0, m.1, counts.branches)
    of_may (inr m) = inr (keeps ∙ m.0, m.1, counts.branches)

abbrev Quiet : ℕ → Standing → LineState → Type 0
Quiet u p new = (s : LineState) × Allows p u s × (KeepsMuted u s new × LineCounts new 0 0 0)

quiet_back : (u : ℕ) (p : Standing) (new : LineState) → Allows (with_counts p 0 0 0) u new → Quiet u p new
quiet_back u p new a = of_may a.may
  where
    counts : new.lost_branches ≡ 0 → LineCounts new 0 0 0
    counts b = record {
      branches = b;
      mutes = a.mutes;
      unmutes = a.unmutes;
      few_branches = omega arith;
      few_mutes = omega arith;
    }

    of_may : May (with_counts p 0 0 0) u new → Quiet u p new
    of_may (inl m) = (state_of p true 0, muted_state p u m.1, (m.0, counts m.2))
    of_may (inr m) = (state_of p false p.lost_branches, unmuted_state p u m.1, (m.0, counts m.2))

-- after a mute of it
acked_keeps : (u : ℕ) (p : Standing) (s new : LineState) (h : Heard) → is_acked h ≡ true → Allows p u s
    → new.muted u ≡ true → LineCounts new 0 0 0 → Allows (after_mute p h) u new
acked_keeps u p s new h acked a muted counts = rw acked (record {
  may = inl (muted, alive_of p u s a, counts.branches);
  mutes = counts.mutes;
  unmutes = counts.unmutes;
})

silent_keeps : (u : ℕ) (p : Standing) (s new : LineState) → Allows p u s
    → (new.muted u ≡ true) ⊎ KeepsMuted u s new → LineCounts new 0 (s.lost_mutes + 1) 0
    → Allows (after_mute p Silent) u new
silent_keeps u p s new a moves counts =
    let few : nat_le (p.lost_mutes + 1) 4 ≡ true = le-leb _ 4 (subst (λ n. n + 1 ≤ 4) a.mutes counts.few_mutes) in
    rw few (record {
      may = of_moves moves;
      mutes = counts.mutes ∙ ap (λ n. n + 1) a.mutes;
      unmutes = counts.unmutes;
    })
  where
    of_may : KeepsMuted u s new → May p u s
        → May (record (with_counts p 0 (p.lost_mutes + 1) 0) { muted = is_alive p }) u new
    of_may keeps (inl m) = inl (keeps ∙ m.0, alive_of p u s a, counts.branches)
    of_may keeps (inr m) = inr (keeps ∙ m.0, m.1, counts.branches)

    of_moves : (new.muted u ≡ true) ⊎ KeepsMuted u s new
        → May (record (with_counts p 0 (p.lost_mutes + 1) 0) { muted = is_alive p }) u new
    of_moves (inl muted) = inl (muted, alive_of p u s a, counts.branches)
    of_moves (inr keeps) = of_may keeps a.may

mute_keeps : (u : ℕ) (p : Standing) (s new : LineState) (h : Heard) → Allows p u s → MuteMoves u s h new
    → Allows (after_mute p h) u new
mute_keeps u p s new h a (inl acked) = acked_keeps u p s new h acked.0 a acked.1 acked.2
mute_keeps u p s new h a (inr silent) =
    subst (λ k. Allows (after_mute p k) u new) (sym silent.0) (silent_keeps u p s new a silent.1 silent.2)

abbrev Muted : ℕ → Standing → Heard → LineState → Type 0
Muted u p h new = (s : LineState) × Allows p u s × MuteMoves u s h new

acked_back : (u : ℕ) (p : Standing) (new : LineState) (h : Heard) → is_acked h ≡ true
    → Allows (record (with_counts p 0 0 0) { muted = is_alive p; unmuted = false }) u new → Muted u p h new
acked_back u p new h acked a = of_may a.may
  where
    of_may : May (record (with_counts p 0 0 0) { muted = is_alive p; unmuted = false }) u new → Muted u p h new
    of_may (inl m) =
        let some = some_state p u m.1 in (
          some.0,
          some.1,
          inl (
            acked,
            m.0,
            record {
              branches = m.2;
              mutes = a.mutes;
              unmutes = a.unmutes;
              few_branches = omega arith;
              few_mutes = omega arith;
            },
          ),
        )
    of_may (inr m) = absurd (true≢false (sym m.1))

silent_back : (u : ℕ) (p : Standing) (new : LineState) → p.lost_mutes + 1 ≤ 4
    → Allows (record (with_counts p 0 (p.lost_mutes + 1) 0) { muted = is_alive p }) u new → Muted u p Silent new
silent_back u p new few a = of_may a.may
  where
    counts : (s : LineState) → Allows p u s → new.lost_branches ≡ 0 → LineCounts new 0 (s.lost_mutes + 1) 0
    counts s is b = record {
      branches = b;
      mutes = a.mutes ∙ ap (λ n. n + 1) (sym is.mutes);
      unmutes = a.unmutes;
      few_branches = omega arith;
      few_mutes = subst (λ n. n + 1 ≤ 4) (sym is.mutes) few;
    }

    of_may : May (record (with_counts p 0 (p.lost_mutes + 1) 0) { muted = is_alive p }) u new → Muted u p Silent new
    of_may (inl m) =
        let some = some_state p u m.1 in
        (some.0, some.1, inr (refl, inl m.0, counts some.0 some.1 m.2))
    of_may (inr m) =
        let is = unmuted_state p u m.1 in
        (state_of p false p.lost_branches, is, inr (refl, inr m.0, counts _ is m.2))

none_back : (u : ℕ) (p : Standing) (new : LineState) (h : Heard)
    → Allows (record (with_counts p 0 0 0) { muted = false; unmuted = false }) u new → Muted u p h new
none_back u p new h a = elim a.may [ inl m ↦ absurd (true≢false (sym m.1)) | inr m ↦ absurd (true≢false (sym m.1)) ]

mute_back : (u : ℕ) (p : Standing) (new : LineState) (h : Heard) → Allows (after_mute p h) u new → Muted u p h new
mute_back u p new Failed a = none_back u p new Failed a
mute_back u p new (One v) a = none_back u p new (One v) a
mute_back u p new Noise a = none_back u p new Noise a
mute_back u p new (Acked ack) a = acked_back u p new (Acked ack) refl a
mute_back u p new Silent a = by_few (cases_Bool (nat_le (p.lost_mutes + 1) 4))
  where
    by_few : (nat_le (p.lost_mutes + 1) 4 ≡ true) ⊎ (nat_le (p.lost_mutes + 1) 4 ≡ false) → Muted u p Silent new
    by_few (inl few) = silent_back u p new (leb-true _ 4 few) (rw few at a)
    by_few (inr many) = none_back u p new Silent (rw many at a)

-- after an unmute
unmute_keeps : (u : ℕ) (p : Standing) (s new : LineState) → Allows p u s → UnmuteMoves u s new
    → LineCounts new 0 0 (s.unmutes + 1) → Allows (after_unmute p) u new
unmute_keeps u p s new a moves counts = by_third (cases_Bool (nat_le 3 (p.unmutes + 1))) (cases_Bool (new.muted u))
  where
    same : new.unmutes ≡ p.unmutes + 1
    same = counts.unmutes ∙ ap (λ n. n + 1) a.unmutes

    was_muted : s.muted u ≡ true → May p u s → p.muted ≡ true
    was_muted m (inl is) = is.1
    was_muted m (inr is) = absurd (true≢false (sym m ∙ is.0))

    by_third : (nat_le 3 (p.unmutes + 1) ≡ true) ⊎ (nat_le 3 (p.unmutes + 1) ≡ false)
        → (new.muted u ≡ true) ⊎ (new.muted u ≡ false) → Allows (after_unmute p) u new
    by_third (inl third) m =
        rw third (record {
          may = inr (
            moves.third (subst (λ n. 3 ≤ n + 1) (sym a.unmutes) (leb-true 3 _ third)),
            alive_of p u s a,
            counts.branches,
          );
          mutes = counts.mutes;
          unmutes = same;
        })
    by_third (inr fewer) (inl m) =
        rw fewer (record {
          may = inl (m, was_muted (moves.fewer m) a.may, counts.branches);
          mutes = counts.mutes;
          unmutes = same;
        })
    by_third (inr fewer) (inr m) =
        rw fewer (record { may = inr (m, alive_of p u s a, counts.branches); mutes = counts.mutes; unmutes = same })

unmute_back : (u : ℕ) (p : Standing) (new : LineState) (h : Heard) → Allows (after_unmute p) u new
    → Before u p Unmute h new
unmute_back u p new h a = by_third (cases_Bool (nat_le 3 (p.unmutes + 1)))
  where
    counts : (s : LineState) → Allows p u s → new.lost_branches ≡ 0 → new.lost_mutes ≡ 0 → new.unmutes ≡ p.unmutes + 1
        → LineCounts new 0 0 (s.unmutes + 1)
    counts s is b m n = record {
      branches = b;
      mutes = m;
      unmutes = n ∙ ap (λ k. k + 1) (sym is.unmutes);
      few_branches = omega arith;
      few_mutes = omega arith;
    }

    unmuted : (s : LineState) → Allows p u s → new.muted u ≡ false → new.lost_branches ≡ 0 → new.lost_mutes ≡ 0
        → new.unmutes ≡ p.unmutes + 1 → Before u p Unmute h new
    unmuted s is off b m n = (
      s,
      is,
      (
        record {
          fewer = λ on. absurd (true≢false (sym on ∙ off));
          third = λ late. off;
        },
        counts s is b m n,
      ),
    )

    after_third : Allows (record (with_counts p 0 0 (p.unmutes + 1)) { muted = false; unmuted = is_alive p }) u new
        → Before u p Unmute h new
    after_third b =
        elim b.may [
          | inl m ↦ absurd (true≢false (sym m.1))
          | inr m ↦ let some = some_state p u m.1 in unmuted some.0 some.1 m.0 m.2 b.mutes b.unmutes
        ]

    before_third : (3 ≤ p.unmutes + 1 → ⊥)
        → Allows (record (with_counts p 0 0 (p.unmutes + 1)) { unmuted = is_alive p }) u new → Before u p Unmute h new
    before_third early b =
        elim b.may [
          | inl m ↦ let is = muted_state p u m.1 in (
            state_of p true 0,
            is,
            (
              record { fewer = λ on. refl; third = λ late. absurd (early late) },
              counts _ is m.2 b.mutes b.unmutes,
            ),
          )
          | inr m ↦ let some = some_state p u m.1 in unmuted some.0 some.1 m.0 m.2 b.mutes b.unmutes
        ]

    by_third : (nat_le 3 (p.unmutes + 1) ≡ true) ⊎ (nat_le 3 (p.unmutes + 1) ≡ false) → Before u p Unmute h new
    by_third (inl third) = after_third (rw third at a)
    by_third (inr early) =
        let below : p.unmutes + 1 < 3 = leb-false 3 _ early in
        before_third (λ late. omega arith) (rw early at a)

-- after each exchange
pub keeps : (u : ℕ) (p : Standing) (s new : LineState) (a : Asked) (h : Heard) → Allows p u s → HonestToStep u s a h new
    → Allows (after_asked u p a h) u new
keeps u p s new Unmute h is step = unmute_keeps u p s new is step.0 step.1
keeps u p s new (Branch lo hi) h is step = branch_keeps u lo hi p s new h is step.0 step.1
keeps u p s new Other h is step = quiet_keeps u p s new is step.0 step.1
keeps u p s new (Mute v) h is step = by_test (u == v) step
  where
    by_test : (b : Bool) → MatchBool b (MuteMoves u s h new) (KeepsMuted u s new × LineCounts new 0 0 0)
        → Allows (if b then after_mute p h else with_counts p 0 0 0) u new
    by_test true moves = mute_keeps u p s new h is moves
    by_test false moves = quiet_keeps u p s new is moves.0 moves.1

pub back : (u : ℕ) (p : Standing) (new : LineState) (a : Asked) (h : Heard) → Allows (after_asked u p a h) u new
    → Before u p a h new
back u p new Unmute h is = unmute_back u p new h is
back u p new (Branch lo hi) h is = branch_back u lo hi p new h is
back u p new Other h is = quiet_back u p new is
back u p new (Mute v) h is = by_test (u == v) is
  where
    by_test : (b : Bool) → Allows (if b then after_mute p h else with_counts p 0 0 0) u new
        → (s : LineState) × Allows p u s × MatchBool b (MuteMoves u s h new) (KeepsMuted u s new × LineCounts new 0 0 0)
    by_test true moves = mute_back u p new h moves
    by_test false moves = quiet_back u p new moves

-- whether it has stopped
pub goes_on : (u : ℕ) (p : Standing) (a : Asked) (h : Heard) → (after_asked u p a h).stopped ≡ p.stopped
goes_on u p Unmute h = by_third (nat_le 3 (p.unmutes + 1))
  where
    by_third : (b : Bool)
        → (if b then record (with_counts p 0 0 (p.unmutes + 1)) { muted = false; unmuted = is_alive p }
        else record (with_counts p 0 0 (p.unmutes + 1)) { unmuted = is_alive p }).stopped ≡ p.stopped
    by_third true = refl
    by_third false = refl
goes_on u p (Branch lo hi) h = refl
goes_on u p Other h = refl
goes_on u p (Mute v) h = by_test (u == v)
  where
    by_silent : (b : Bool) → (if b then record (with_counts p 0 (p.lost_mutes + 1) 0) { muted = is_alive p }
        else record (with_counts p 0 0 0) { muted = false; unmuted = false }).stopped ≡ p.stopped
    by_silent true = refl
    by_silent false = refl

    by_acked : (b : Bool) → (if b then record (with_counts p 0 0 0) { muted = is_alive p; unmuted = false }
        else (if is_silent h && nat_le (p.lost_mutes + 1) 4
        then record (with_counts p 0 (p.lost_mutes + 1) 0) { muted = is_alive p }
        else record (with_counts p 0 0 0) { muted = false; unmuted = false })).stopped ≡ p.stopped
    by_acked true = refl
    by_acked false = by_silent (is_silent h && nat_le (p.lost_mutes + 1) 4)

    by_test : (b : Bool) → (if b then after_mute p h else with_counts p 0 0 0).stopped ≡ p.stopped
    by_test true = by_acked (is_acked h)
    by_test false = refl

after_stopped : (u : ℕ) (p : Standing) (x : List Seen) → p.stopped ≡ true → fold (after u) p x ≡ p
after_stopped u p [] stopped = refl
after_stopped u p (e ∷ x) stopped =
    let same : after u p e ≡ p = ap (λ b. after_either u b p e.asked e.heard) stopped in
    ap (λ q. fold (after u) q x) same ∙ after_stopped u p x stopped

not_failed : (u : ℕ) (p : Standing) (a : Asked) (h : Heard) → h ≢ Failed → after_heard u p a h ≡ after_asked u p a h
not_failed u p a Failed ok = absurd (ok refl)
not_failed u p a Silent ok = refl
not_failed u p a (One v) ok = refl
not_failed u p a (Acked ack) ok = refl
not_failed u p a Noise ok = refl

pub after_failure : (u : ℕ) (p : Standing) (e : Seen) → p.stopped ≡ false → e.heard ≡ Failed
    → after u p e ≡ stopped_at p
after_failure u p e on failed =
    ap (λ b. after_either u b p e.asked e.heard) on ∙ ap (λ h. after_heard u p e.asked h) failed

pub after_other : (u : ℕ) (p : Standing) (e : Seen) → p.stopped ≡ false → e.heard ≢ Failed
    → after u p e ≡ after_asked u p e.asked e.heard
after_other u p e on ok = ap (λ b. after_either u b p e.asked e.heard) on ∙ not_failed u p e.asked e.heard ok

after_failing : (u : ℕ) (p : Standing) (e : Seen) (x : List Seen) → p.stopped ≡ false → e.heard ≡ Failed
    → is_alive (fold (after u) p (e ∷ x)) ≡ is_alive p
after_failing u p e x on failed =
    ap (λ q. is_alive (fold (after u) q x)) (after_failure u p e on failed)
    ∙ ap is_alive (after_stopped u (stopped_at p) x refl)

complete : (u : ℕ) (p : Standing) (s : LineState) (x : List Seen) → p.stopped ≡ false → Allows p u s
    → Chain (HonestToStep u) s x → is_alive (fold (after u) p x) ≡ true
complete u p s [] on is chain = alive_of p u s is
complete u p s (e ∷ x) on is chain =
    by_heard (λ new i c. complete u (after_asked u p e.asked e.heard) new x (goes_on u p e.asked e.heard ∙ on) i c)
    (has_failed e.heard) chain
  where
    by_heard : ((new : LineState) → Allows (after_asked u p e.asked e.heard) u new → Chain (HonestToStep u) new x
        → is_alive (fold (after u) (after_asked u p e.asked e.heard) x) ≡ true)
        → (e.heard ≡ Failed) ⊎ (e.heard ≢ Failed)
        → (e.heard ≡ Failed) ⊎ ((new : LineState) × HonestToStep u s e.asked e.heard new × Chain (HonestToStep u) new x)
        → is_alive (fold (after u) p (e ∷ x)) ≡ true
    by_heard later (inl failed) c = after_failing u p e x on failed ∙ alive_of p u s is
    by_heard later (inr ok) (inl failed) = absurd (ok failed)
    by_heard later (inr ok) (inr c) =
        ap (λ q. is_alive (fold (after u) q x)) (after_other u p e on ok)
        ∙ later c.0 (keeps u p s c.0 e.asked e.heard is c.1) c.2

abbrev Possible : ℕ → Standing → List Seen → Type 0
Possible u p x = (s : LineState) × Allows p u s × Chain (HonestToStep u) s x

sound : (u : ℕ) (p : Standing) (x : List Seen) → p.stopped ≡ false → is_alive (fold (after u) p x) ≡ true
    → Possible u p x
sound u p [] on alive = let some = some_state p u alive in (some.0, some.1, tt)
sound u p (e ∷ x) on alive =
    by_heard (λ still. sound u (after_asked u p e.asked e.heard) x (goes_on u p e.asked e.heard ∙ on) still)
    (has_failed e.heard)
  where
    by_heard : (is_alive (fold (after u) (after_asked u p e.asked e.heard) x) ≡ true
        → Possible u (after_asked u p e.asked e.heard) x)
        → (e.heard ≡ Failed) ⊎ (e.heard ≢ Failed) → Possible u p (e ∷ x)
    by_heard follow (inl failed) =
        let some = some_state p u (sym (after_failing u p e x on failed) ∙ alive) in (some.0, some.1, inl failed)
    by_heard follow (inr ok) =
        let later = follow (sym (ap (λ q. is_alive (fold (after u) q x)) (after_other u p e on ok)) ∙ alive) in
        let before = back u p later.0 e.asked e.heard later.1 in
        (before.0, before.1, inr (later.0, before.2, later.2))

-- the states before a run
pub at_start_is : (u : ℕ) (s : LineState) → Allows at_start u s → s ≡ before_run s.muted
at_start_is u s a = by_counts s.lost_branches s.lost_mutes s.unmutes (of_may a.may) a.mutes a.unmutes
  where
    of_may : May at_start u s → s.lost_branches ≡ 0
    of_may (inl m) = m.2
    of_may (inr m) = m.2

    by_counts : (b m n : ℕ) → b ≡ 0 → m ≡ 0 → n ≡ 0
        → record { muted = s.muted; lost_branches = b; lost_mutes = m; unmutes = n } ≡ before_run s.muted
    by_counts b m n p q r = rw (p, q, r) refl

pub start_allows : (u : ℕ) (muted : ℕ → Bool) → Allows at_start u (before_run muted)
start_allows u muted = record { may = by_muted (cases_Bool (muted u)); mutes = refl; unmutes = refl }
  where
    by_muted : (muted u ≡ true) ⊎ (muted u ≡ false) → May at_start u (before_run muted)
    by_muted (inl m) = inl (m, refl, refl)
    by_muted (inr m) = inr (m, refl, refl)

pub honest_alive : (u : ℕ) (x : List Seen) → HonestTo u x → is_alive (standing u x) ≡ true
honest_alive u x h = complete u at_start (before_run h.0) x refl (start_allows u h.0) h.1

pub alive_honest : (u : ℕ) (x : List Seen) → is_alive (standing u x) ≡ true → HonestTo u x
alive_honest u x alive =
    let some = sound u at_start x refl alive in
    (some.0.muted, subst (λ s. Chain (HonestToStep u) s x) (at_start_is u some.0 some.1) some.2)

-- a state that isn't possible stays so
dead_branch : (p : Standing) (b : ℕ) → is_alive (after_branch p b) ≡ true → is_alive p ≡ true
dead_branch p b alive =
    elim (or_cases p.muted (p.unmuted && nat_le b 4) alive) [
      | inl m ↦ or_left p.muted p.unmuted m
      | inr m ↦ or_right p.muted p.unmuted (and_parts p.unmuted (nat_le b 4) m).0
    ]

alive_again : (p : Standing) (b : Bool) → (is_alive p || b) ≡ true → (b ≡ true → is_alive p ≡ true) → is_alive p ≡ true
alive_again p b e so = elim (or_cases (is_alive p) b e) [ inl a ↦ a | inr c ↦ so c ]

alive_before_asked : (u : ℕ) (p : Standing) (a : Asked) (h : Heard) → is_alive (after_asked u p a h) ≡ true
    → is_alive p ≡ true
alive_before_asked u p Unmute h = by_third (nat_le 3 (p.unmutes + 1))
  where
    by_third : (b : Bool)
        → is_alive (if b then record (with_counts p 0 0 (p.unmutes + 1)) { muted = false; unmuted = is_alive p }
        else record (with_counts p 0 0 (p.unmutes + 1)) { unmuted = is_alive p }) ≡ true → is_alive p ≡ true
    by_third true alive = alive
    by_third false alive =
        elim (or_cases p.muted (is_alive p) alive) [ inl m ↦ or_left p.muted p.unmuted m | inr a ↦ a ]
alive_before_asked u p (Branch lo hi) h = dead_branch p _
alive_before_asked u p Other h = λ alive. alive
alive_before_asked u p (Mute v) h = by_test (u == v)
  where
    by_silent : (b : Bool) → is_alive (if b then record (with_counts p 0 (p.lost_mutes + 1) 0) { muted = is_alive p }
        else record (with_counts p 0 0 0) { muted = false; unmuted = false }) ≡ true → is_alive p ≡ true
    by_silent true alive = alive_again p p.unmuted alive (λ m. or_right p.muted p.unmuted m)
    by_silent false alive = absurd (true≢false (sym alive))

    by_acked : (b : Bool) → is_alive (if b then record (with_counts p 0 0 0) { muted = is_alive p; unmuted = false }
        else (if is_silent h && nat_le (p.lost_mutes + 1) 4
        then record (with_counts p 0 (p.lost_mutes + 1) 0) { muted = is_alive p }
        else record (with_counts p 0 0 0) { muted = false; unmuted = false })) ≡ true → is_alive p ≡ true
    by_acked true alive = alive_again p false alive (λ m. absurd (true≢false (sym m)))
    by_acked false alive = by_silent (is_silent h && nat_le (p.lost_mutes + 1) 4) alive

    by_test : (b : Bool) → is_alive (if b then after_mute p h else with_counts p 0 0 0) ≡ true → is_alive p ≡ true
    by_test true alive = by_acked (is_acked h) alive
    by_test false alive = alive

alive_before : (u : ℕ) (p : Standing) (e : Seen) → is_alive (after u p e) ≡ true → is_alive p ≡ true
alive_before u p e = by_stopped p.stopped
  where
    by_heard : (e.heard ≡ Failed) ⊎ (e.heard ≢ Failed) → is_alive (after_heard u p e.asked e.heard) ≡ true
        → is_alive p ≡ true
    by_heard (inl failed) alive = rw failed at alive
    by_heard (inr ok) alive =
        alive_before_asked u p e.asked e.heard (sym (ap is_alive (not_failed u p e.asked e.heard ok)) ∙ alive)

    by_stopped : (b : Bool) → is_alive (after_either u b p e.asked e.heard) ≡ true → is_alive p ≡ true
    by_stopped true alive = alive
    by_stopped false alive = by_heard (has_failed e.heard) alive

pub alive_through : (u : ℕ) (p : Standing) (x : List Seen) → is_alive (fold (after u) p x) ≡ true → is_alive p ≡ true
alive_through u p [] alive = alive
alive_through u p (e ∷ x) alive = alive_before u p e (alive_through u (after u p e) x alive)
