-- An exchange after which a device may be in no state breaks a rule.
use Rattle.std.proofs.Common.{◌≡◌, ℕ, ◌+◌, ◌<◌, Bool, true, false, ◌&&◌, ◌||◌, List, [], ◌∷◌, ◌++◌, refl, sym, ap, ◌∙◌}
use Rattle.std.proofs.Common.{subst, inl, inr, true≢false, arith}
use Rattle.std.specs.Prelude.{◌⊎◌, ◌≢◌, ◌==◌, nat_le, if◌then◌else◌}
use Rattle.std.proofs.lemmas.Bool.{cases_Bool, and_parts, leb-false, eqb-true, or_left, or_right}
use Rattle.rdm_wire.specs.Uid.{is_within}
use Rattle.rdm_wire.specs.Honest.{Asked, Heard, Seen, is_acked, is_silent}
use Rattle.rdm_wire.specs.Honest.Asked.{Unmute, Branch, Mute, Other}
use Rattle.rdm_wire.specs.Honest.Heard.{Failed, Silent, One, Acked, Noise}
use Rattle.rdm_explain.specs.declared.standing.Standing.{Standing}
use Rattle.rdm_explain.specs.Rules.{EndsWith, EndsBy, IsSilentAround, IsSilentMute, IsGarbledMute}
use Rattle.rdm_explain.specs.body.Standings.{is_alive, with_counts, after_branch, after_mute, after_asked, after}
use Rattle.rdm_explain.specs.body.Watching.{rule_heard, rule_by}
use Rattle.rdm_explain.proofs.EndLemmas.{ends_none, ends_more, ends_fewer}
use Rattle.rdm_explain.proofs.StandingLemmas.{after_failure, after_other}
use Rattle.rdm_wire.proofs.NoisyLemmas.{has_failed}

abbrev pub exchange_of : Asked → Heard → Seen
exchange_of a h = record { asked = a; heard = h }

-- the replies that the standing counts as lost are the last ones
pub record Streaks (u : ℕ) (x : List Seen) (p : Standing) : Type 0 where
  pub branches : EndsWith p.lost_branches (IsSilentAround u) x
  pub mutes : EndsWith p.lost_mutes (IsSilentMute u) x

none : (u : ℕ) (x : List Seen) (p : Standing) → p.lost_branches ≡ 0 → p.lost_mutes ≡ 0 → Streaks u x p
none u x p b m = record {
  branches = subst (λ n. EndsWith n (IsSilentAround u) x) (sym b) (ends_none _ x);
  mutes = subst (λ n. EndsWith n (IsSilentMute u) x) (sym m) (ends_none _ x);
}

silent_is : (h : Heard) → is_silent h ≡ true → h ≡ Silent
silent_is Failed e = cc
silent_is Silent e = refl
silent_is (One v) e = cc
silent_is (Acked ack) e = cc
silent_is Noise e = cc

around : (u lo hi : ℕ) (h : Heard) → (is_within lo hi u && is_silent h) ≡ true
    → IsSilentAround u (exchange_of (Branch lo hi) h)
around u lo hi h e =
    let both = and_parts (is_within lo hi u) (is_silent h) e in
    record { lo = lo; hi = hi; asked = refl; within = both.0; silent = silent_is h both.1 }

ends_branch : (u lo hi : ℕ) (x : List Seen) (p : Standing) (h : Heard) → Streaks u x p
    → Streaks u (x ++ exchange_of (Branch lo hi) h ∷ []) (after_asked u p (Branch lo hi) h)
ends_branch u lo hi x p h ends = by_test (is_within lo hi u && is_silent h) refl
  where
    by_test : (b : Bool) → (is_within lo hi u && is_silent h) ≡ b
        → Streaks u (x ++ exchange_of (Branch lo hi) h ∷ []) (after_branch p (if b then p.lost_branches + 1 else 0))
    by_test true e = record {
      branches = ends_more _ _ x _ ends.branches (around u lo hi h e);
      mutes = ends_none _ _;
    }
    by_test false e = none u _ _ refl refl

ends_mute : (u v : ℕ) (x : List Seen) (p : Standing) (h : Heard) → Streaks u x p
    → Streaks u (x ++ exchange_of (Mute v) h ∷ []) (after_asked u p (Mute v) h)
ends_mute u v x p h ends = by_test (u == v) refl
  where
    e : Seen
    e = exchange_of (Mute v) h

    by_silent : (b : Bool) → u ≡ v → (is_silent h && nat_le (p.lost_mutes + 1) 4) ≡ b
        → Streaks u (x ++ e ∷ []) (if b then record (with_counts p 0 (p.lost_mutes + 1) 0) { muted = is_alive p }
        else record (with_counts p 0 0 0) { muted = false; unmuted = false })
    by_silent true same is = record {
      branches = ends_none _ _;
      mutes = ends_more _ _ x e ends.mutes
          (ap (λ w. Mute w) (sym same), silent_is h (and_parts (is_silent h) (nat_le (p.lost_mutes + 1) 4) is).0);
    }
    by_silent false same is = none u _ _ refl refl

    by_acked : (b : Bool) → u ≡ v
        → Streaks u (x ++ e ∷ []) (if b then record (with_counts p 0 0 0) { muted = is_alive p; unmuted = false }
        else (if is_silent h && nat_le (p.lost_mutes + 1) 4
        then record (with_counts p 0 (p.lost_mutes + 1) 0) { muted = is_alive p }
        else record (with_counts p 0 0 0) { muted = false; unmuted = false }))
    by_acked true same = none u _ _ refl refl
    by_acked false same = by_silent (is_silent h && nat_le (p.lost_mutes + 1) 4) same refl

    by_test : (b : Bool) → (u == v) ≡ b
        → Streaks u (x ++ e ∷ []) (if b then after_mute p h else with_counts p 0 0 0)
    by_test true is = by_acked (is_acked h) (eqb-true u v is)
    by_test false is = none u _ _ refl refl

ends_asked : (u : ℕ) (x : List Seen) (p : Standing) (a : Asked) (h : Heard) → Streaks u x p
    → Streaks u (x ++ exchange_of a h ∷ []) (after_asked u p a h)
ends_asked u x p Unmute h ends = by_third (nat_le 3 (p.unmutes + 1))
  where
    by_third : (b : Bool) → Streaks u (x ++ exchange_of Unmute h ∷ [])
        (if b then record (with_counts p 0 0 (p.unmutes + 1)) { muted = false; unmuted = is_alive p }
        else record (with_counts p 0 0 (p.unmutes + 1)) { unmuted = is_alive p })
    by_third true = none u _ _ refl refl
    by_third false = none u _ _ refl refl
ends_asked u x p (Branch lo hi) h ends = ends_branch u lo hi x p h ends
ends_asked u x p (Mute v) h ends = ends_mute u v x p h ends
ends_asked u x p Other h ends = none u _ _ refl refl

-- unless the line has failed
abbrev pub StreaksUnlessStopped : ℕ → List Seen → Standing → Type 0
StreaksUnlessStopped u x p = p.stopped ≡ false → Streaks u x p

stays_stopped : (u : ℕ) (p : Standing) (e : Seen) → p.stopped ≡ true → after u p e ≡ p
stays_stopped u p e is = rw is refl

pub ends_after : (u : ℕ) (x : List Seen) (p : Standing) (e : Seen) → StreaksUnlessStopped u x p
    → StreaksUnlessStopped u (x ++ e ∷ []) (after u p e)
ends_after u x p e ends on = by_stopped (cases_Bool p.stopped) (has_failed e.heard)
  where
    by_stopped : (p.stopped ≡ true) ⊎ (p.stopped ≡ false) → (e.heard ≡ Failed) ⊎ (e.heard ≢ Failed)
        → Streaks u (x ++ e ∷ []) (after u p e)
    by_stopped (inl stopped) h =
        absurd (true≢false (sym stopped ∙ ap (λ q. q.stopped) (sym (stays_stopped u p e stopped)) ∙ on))
    by_stopped (inr running) (inl failed) =
        absurd (true≢false (ap (λ q. q.stopped) (sym (after_failure u p e running failed)) ∙ on))
    by_stopped (inr running) (inr ok) =
        subst (λ q. Streaks u (x ++ e ∷ []) q) (sym (after_other u p e running ok))
        (ends_asked u x p e.asked e.heard (ends running))

abbrev Dies : ℕ → Standing → Asked → Heard → Type 0
Dies u p a h = is_alive (after_asked u p a h) ≡ false

dies_branch : (u lo hi : ℕ) (x : List Seen) (p : Standing) (h : Heard) → is_alive p ≡ true → Streaks u x p
    → Dies u p (Branch lo hi) h → EndsWith 5 (IsSilentAround u) (x ++ exchange_of (Branch lo hi) h ∷ [])
dies_branch u lo hi x p h alive ends = by_test (is_within lo hi u && is_silent h) refl
  where
    few_dies : (m n : Bool) → (m || n) ≡ true → (m || (n && true)) ≡ false → ⊥
    few_dies true n a d = true≢false d
    few_dies false true a d = true≢false d
    few_dies false false a d = true≢false (sym a)

    by_few : (b : Bool) → nat_le (p.lost_branches + 1) 4 ≡ b → (is_within lo hi u && is_silent h) ≡ true
        → (p.muted || (p.unmuted && b)) ≡ false → EndsWith 5 (IsSilentAround u) (x ++ exchange_of (Branch lo hi) h ∷ [])
    by_few true e is dead = absurd (few_dies p.muted p.unmuted alive dead)
    by_few false e is dead =
        let many : 4 < p.lost_branches + 1 = leb-false _ 4 e in
        ends_fewer 5 (p.lost_branches + 1) _ _ (omega arith) (ends_more _ _ x _ ends.branches (around u lo hi h is))

    by_test : (b : Bool) → (is_within lo hi u && is_silent h) ≡ b
        → is_alive (after_branch p (if b then p.lost_branches + 1 else 0)) ≡ false
        → EndsWith 5 (IsSilentAround u) (x ++ exchange_of (Branch lo hi) h ∷ [])
    by_test true is dead = by_few (nat_le (p.lost_branches + 1) 4) refl is dead
    by_test false is dead = absurd (few_dies p.muted p.unmuted alive dead)

unmute_lives : (u : ℕ) (p : Standing) (h : Heard) → is_alive p ≡ true → Dies u p Unmute h → ⊥
unmute_lives u p h alive = by_third (nat_le 3 (p.unmutes + 1))
  where
    by_third : (b : Bool)
        → is_alive (if b then record (with_counts p 0 0 (p.unmutes + 1)) { muted = false; unmuted = is_alive p }
        else record (with_counts p 0 0 (p.unmutes + 1)) { unmuted = is_alive p }) ≡ false → ⊥
    by_third true dead = true≢false (sym alive ∙ dead)
    by_third false dead = true≢false (sym (or_right p.muted (is_alive p) alive) ∙ dead)

garbled : (u v : ℕ) (x : List Seen) (h : Heard) → u ≡ v → h ≢ Failed → h ≢ Silent → is_acked h ≡ false
    → EndsWith 1 (IsGarbledMute u) (x ++ exchange_of (Mute v) h ∷ [])
garbled u v x h same ok loud not_acked = record {
  front = x;
  last = exchange_of (Mute v) h ∷ [];
  whole = refl;
  many = refl;
  each = (
    record { asked = ap (λ w. Mute w) (sym same); not_failed = ok; not_silent = loud; not_acked = not_acked },
    tt,
  );
}

dies_mute : (u v : ℕ) (x : List Seen) (p : Standing) (h : Heard) → is_alive p ≡ true → Streaks u x p → h ≢ Failed
    → Dies u p (Mute v) h → EndsBy u (rule_heard (Mute v) h) (x ++ exchange_of (Mute v) h ∷ [])
dies_mute u v x p h alive ends ok = by_test (u == v) refl
  where
    by_few : (b : Bool) → nat_le (p.lost_mutes + 1) 4 ≡ b → u ≡ v
        → is_alive (if b then record (with_counts p 0 (p.lost_mutes + 1) 0) { muted = is_alive p }
        else record (with_counts p 0 0 0) { muted = false; unmuted = false }) ≡ false
        → EndsWith 5 (IsSilentMute u) (x ++ exchange_of (Mute v) Silent ∷ [])
    by_few true e same dead = absurd (true≢false (sym (or_left (is_alive p) p.unmuted alive) ∙ dead))
    by_few false e same dead =
        let many : 4 < p.lost_mutes + 1 = leb-false _ 4 e in
        ends_fewer 5 (p.lost_mutes + 1) _ _ (omega arith)
        (ends_more _ _ x _ ends.mutes (ap (λ w. Mute w) (sym same), refl))

    by_heard : (k : Heard) → k ≢ Failed → u ≡ v → is_alive (after_mute p k) ≡ false
        → EndsBy u (rule_heard (Mute v) k) (x ++ exchange_of (Mute v) k ∷ [])
    by_heard Failed fine same dead = absurd (fine refl)
    by_heard (One w) fine same dead = garbled u v x (One w) same fine (λ e. cc) refl
    by_heard Noise fine same dead = garbled u v x Noise same fine (λ e. cc) refl
    by_heard (Acked ack) fine same dead = absurd (true≢false (sym (or_left (is_alive p) false alive) ∙ dead))
    by_heard Silent fine same dead = by_few (nat_le (p.lost_mutes + 1) 4) refl same dead

    by_test : (b : Bool) → (u == v) ≡ b → is_alive (if b then after_mute p h else with_counts p 0 0 0) ≡ false
        → EndsBy u (rule_heard (Mute v) h) (x ++ exchange_of (Mute v) h ∷ [])
    by_test true is dead = by_heard h ok (eqb-true u v is) dead
    by_test false is dead = absurd (true≢false (sym alive ∙ dead))

dies_asked : (u : ℕ) (x : List Seen) (p : Standing) (a : Asked) (h : Heard) → is_alive p ≡ true → Streaks u x p
    → h ≢ Failed → Dies u p a h → EndsBy u (rule_heard a h) (x ++ exchange_of a h ∷ [])
dies_asked u x p Unmute h alive ends ok dead = absurd (unmute_lives u p h alive dead)
dies_asked u x p (Branch lo hi) h alive ends ok dead = dies_branch u lo hi x p h alive ends dead
dies_asked u x p (Mute v) h alive ends ok dead = dies_mute u v x p h alive ends ok dead
dies_asked u x p Other h alive ends ok dead = absurd (true≢false (sym alive ∙ dead))

pub breaks_rule : (u : ℕ) (x : List Seen) (p : Standing) (e : Seen) → is_alive p ≡ true → StreaksUnlessStopped u x p
    → is_alive (after u p e) ≡ false → EndsBy u (rule_by e) (x ++ e ∷ [])
breaks_rule u x p e alive ends dead = by_stopped (cases_Bool p.stopped) (has_failed e.heard)
  where
    by_stopped : (p.stopped ≡ true) ⊎ (p.stopped ≡ false) → (e.heard ≡ Failed) ⊎ (e.heard ≢ Failed)
        → EndsBy u (rule_by e) (x ++ e ∷ [])
    by_stopped (inl stopped) h =
        absurd (true≢false (sym alive ∙ ap is_alive (sym (stays_stopped u p e stopped)) ∙ dead))
    by_stopped (inr running) (inl failed) =
        absurd (true≢false (sym alive ∙ ap is_alive (sym (after_failure u p e running failed)) ∙ dead))
    by_stopped (inr running) (inr ok) =
        dies_asked u x p e.asked e.heard alive (ends running) ok
        (ap is_alive (sym (after_other u p e running ok)) ∙ dead)
