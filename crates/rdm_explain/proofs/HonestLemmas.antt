-- On a line that is honest to devices, one of them is due if an exchange is answered.
use Rattle.std.proofs.Common.{◌≡◌, ℕ, Bool, true, false, ◌&&◌, not, List, [], ◌∷◌, ◌++◌, refl, sym, ap, ◌∙◌, subst, inl}
use Rattle.std.proofs.Common.{inr, true≢false}
use Rattle.std.specs.Prelude.{◌⊎◌, ◌≢◌, ◌==◌, MatchBool, filter}
use Rattle.std.specs.List.{AllByRecursion}
use Rattle.std.proofs.lemmas.List.{map-append}
use Rattle.std.proofs.lemmas.Bool.{cases_Bool, and_parts, not-true, eq-eqb}
use Rattle.rdm_wire.specs.Uid.{has, is_within}
use Rattle.rdm_wire.specs.Honest.{Asked, Heard, Seen, LineState, HonestStep, HonestTrace, Chain, LineCounts, MayReply}
use Rattle.rdm_wire.specs.Honest.{HonestToStep, MuteMoves, KeepsMuted, due_in, before_run, is_acked}
use Rattle.rdm_wire.specs.Honest.Asked.{Unmute, Branch, Mute, Other}
use Rattle.rdm_wire.specs.Honest.Heard.{Silent}
use Rattle.rdm_wire.proofs.EachDevice.{IsBelow, below_step, same_below}
use Rattle.rdm_agent.proofs.Members.{member}
use Rattle.rdm_agent.proofs.Sets.{has-head, has-rest}
use Rattle.rdm_explain.specs.declared.exchange.Exchange.{Exchange}
use Rattle.rdm_explain.specs.Exchanges.{seen_of, seen_all}
use Rattle.rdm_explain.specs.Garbled.{StaysMuted}
use Rattle.rdm_explain.specs.Strays.{Leads, MayBeUnmuted, IsMuted, NobodyIsDue, IsStray}
use Rattle.rdm_explain.specs.Certificates.{NoFailure}

-- the state after some exchanges, and a way to it for each device
record Led (present : List ℕ) (s : LineState) (front rest : List Seen) : Type 0 where
  state : LineState
  chain : Chain (HonestStep present) state rest
  way : (u : ℕ) (t : LineState) → has present u ≡ true → IsBelow u t s
      → (end : LineState) × IsBelow u end state × Leads u t front end

led : (present : List ℕ) (s : LineState) (front rest : List Seen) → NoFailure front
    → Chain (HonestStep present) s (front ++ rest) → Led present s front rest
led present s [] rest ok chain = record { state = s; chain = chain; way = λ u t here below. (t, below, refl) }
led present s (e ∷ front) rest ok chain =
    elim chain [
      | inl failed ↦ absurd (ok.0 failed)
      | inr step ↦
          let r = led present step.0 front rest ok.1 step.2 in record {
            state = r.state;
            chain = r.chain;
            way = λ u t here below.
                let b = below_step present u s t step.0 e.asked e.heard here below step.1 in
                let w = r.way u b.state here b.below in (w.0, w.1, (b.state, b.step, w.2));
          }
    ]

-- a device that passes a test
record Passing (f : ℕ → Bool) (us : List ℕ) : Type 0 where
  uid : ℕ
  there : has us uid ≡ true
  passes : f uid ≡ true

some_pass : (f : ℕ → Bool) (us : List ℕ) → (filter f us ≡ [] → ⊥) → Passing f us
some_pass f [] none = absurd (none refl)
some_pass f (u ∷ us) none = by_test (cases_Bool (f u)) (λ rest. some_pass f us rest)
  where
    by_test : (f u ≡ true) ⊎ (f u ≡ false) → ((filter f us ≡ [] → ⊥) → Passing f us) → Passing f (u ∷ us)
    by_test (inl passes) later = record { uid = u; there = has-head u us; passes = passes }
    by_test (inr fails) later =
        let p = later (λ empty. none (rw fails empty)) in
        record { uid = p.uid; there = has-rest u us p.uid p.there; passes = p.passes }

silent_of : (due : List ℕ) (h : Heard) → due ≡ [] → MayReply due h → h ≡ Silent
silent_of due h empty may = subst (λ l. MayReply l h) empty may

-- an honest step keeps a device muted, if it isn't an unmute
step_keeps : (u : ℕ) (old new : LineState) (a : Asked) (h : Heard) → a ≢ Unmute → HonestToStep u old a h new
    → old.muted u ≡ true → new.muted u ≡ true
step_keeps u old new Unmute h other step is = absurd (other refl)
step_keeps u old new Other h other step is = step.0 ∙ is
step_keeps u old new (Branch lo hi) h other step is = step.0 ∙ is
step_keeps u old new (Mute v) h other step is = by_uid (u == v) step
  where
    by_uid : (b : Bool) → MatchBool b (MuteMoves u old h new) (KeepsMuted u old new × LineCounts new 0 0 0)
        → new.muted u ≡ true
    by_uid true (inl acked) = acked.1
    by_uid true (inr silent) = elim silent.1 [ inl muted ↦ muted | inr keeps ↦ keeps ∙ is ]
    by_uid false keeps = keeps.0 ∙ is

-- one that acknowledges its mute is muted
step_mutes : (u : ℕ) (old new : LineState) (a : Asked) (h : Heard) → a ≡ Mute u → is_acked h ≡ true
    → HonestToStep u old a h new → new.muted u ≡ true
step_mutes u old new a h is acked step =
    by_uid (u == u) (eq-eqb u u refl) (subst (λ b. HonestToStep u old b h new) is step)
  where
    by_uid : (b : Bool) → b ≡ true → MatchBool b (MuteMoves u old h new) (KeepsMuted u old new × LineCounts new 0 0 0)
        → new.muted u ≡ true
    by_uid true same (inl moves) = moves.1
    by_uid true same (inr silent) = absurd (true≢false (sym acked ∙ ap is_acked silent.0))
    by_uid false same keeps = absurd (true≢false (sym same))

kept : (u : ℕ) (s : LineState) (x : List Seen) (end : LineState) → AllByRecursion (λ (e : Seen). e.asked ≢ Unmute) x
    → s.muted u ≡ true → Leads u s x end → end.muted u ≡ true
kept u s [] end none is same = ap (λ t. t.muted u) (sym same) ∙ is
kept u s (e ∷ x) end none is leads =
    kept u leads.0 x end none.1 (step_keeps u s leads.0 e.asked e.heard none.0 leads.1 is) leads.2

muted_at : (u : ℕ) (s : LineState) (front : List Seen) (e : Seen) (back : List Seen) (end : LineState)
    → e.asked ≡ Mute u → is_acked e.heard ≡ true → AllByRecursion (λ (d : Seen). d.asked ≢ Unmute) back
    → Leads u s (front ++ e ∷ back) end → end.muted u ≡ true
muted_at u s [] e back end asked acked none leads =
    kept u leads.0 back end none (step_mutes u s leads.0 e.asked e.heard asked acked leads.1) leads.2
muted_at u s (d ∷ front) e back end asked acked none leads =
    muted_at u leads.0 front e back end asked acked none leads.2

-- a device that stays muted can't be unmuted on a line that is honest to it
stays_muted : (u : ℕ) (x : List Seen) → StaysMuted u x → MayBeUnmuted u x → ⊥
stays_muted u x is may =
    true≢false (sym (muted_at u (before_run may.muted) is.front is.mute is.back may.end is.asked is.acked is.no_unmute
    (subst (λ l. Leads u (before_run may.muted) l may.end) is.whole may.leads)) ∙ may.unmuted)

-- Nobody of these devices is due, and yet the exchange is answered. In this state each device of the lists that must be
-- muted is
pub no_step : (us ps present : List ℕ) (x : List Seen) (s new : LineState) (a : Asked) (h : Heard)
    → ((u : ℕ) → has present u ≡ true → (has us u ≡ true) ⊎ (has ps u ≡ true))
    → ((u : ℕ) → has present u ≡ true → has us u ≡ true → (MayBeUnmuted u x → ⊥) → s.muted u ≡ true)
    → ((u : ℕ) → has present u ≡ true → StaysMuted u x → s.muted u ≡ true)
    → h ≢ Silent → NobodyIsDue us ps x a → HonestStep present s a h new → ⊥
no_step us ps present x s new Unmute h listed known stay loud nobody step = nobody
no_step us ps present x s new Other h listed known stay loud nobody step = nobody
no_step us ps present x s new (Mute u) h listed known stay loud nobody step = by_present (has present u) refl step.1
  where
    by_present : (b : Bool) → has present u ≡ b
        → MatchBool b (MuteMoves u s h new) ((h ≡ Silent) × KeepsMuted u s new × LineCounts new 0 0 0) → ⊥
    by_present true here moves = elim (listed u here) [
      | inl stays ↦ true≢false (sym stays ∙ nobody.0)
      | inr passes ↦ true≢false (sym passes ∙ nobody.1)
    ]
    by_present false here silent = loud silent.0
no_step us ps present x s new (Branch lo hi) h listed known stay loud nobody step = by_due due
  where
    test : ℕ → Bool
    test v = is_within lo hi v && not (s.muted v)

    due : Passing test present
    due = some_pass test present (λ empty. loud (silent_of (due_in present s.muted lo hi) h empty step.0))

    is_muted : (u : ℕ) → has present u ≡ true → is_within lo hi u ≡ true → (has us u ≡ true) ⊎ (has ps u ≡ true)
        → s.muted u ≡ true
    is_muted u there within (inl stays) =
        known u there stays (member (λ v. is_within lo hi v ≡ true → IsMuted v x) us u nobody.0 stays within).muted
    is_muted u there within (inr passes) =
        stay u there (member (λ v. is_within lo hi v ≡ true → StaysMuted v x) ps u nobody.1 passes within)

    by_due : Passing test present → ⊥
    by_due p =
        let both = and_parts (is_within lo hi p.uid) (not (s.muted p.uid)) p.passes in
        true≢false (sym (is_muted p.uid p.there both.0 (listed p.uid p.there)) ∙ not-true (s.muted p.uid) both.1)

-- a device is muted, if it can't be unmuted in a state that is reached
pub muted_if : (u : ℕ) (x : List Seen) (muted : ℕ → Bool) (s end : LineState) → IsBelow u end s
    → Leads u (before_run muted) x end → (MayBeUnmuted u x → ⊥) → s.muted u ≡ true
muted_if u x muted s end below leads never = by_state (cases_Bool (s.muted u))
  where
    by_state : (s.muted u ≡ true) ⊎ (s.muted u ≡ false) → s.muted u ≡ true
    by_state (inl is) = is
    by_state (inr isnt) =
        absurd (never (record { muted = muted; end = end; leads = leads; unmuted = below.muted ∙ isnt }))

pub stray_dishonest : (us ps present : List ℕ) (xs : List Exchange) (at : ℕ) → IsStray us ps xs at
    → ((u : ℕ) → has present u ≡ true → (has us u ≡ true) ⊎ (has ps u ≡ true)) → HonestTrace present (seen_all xs) → ⊥
stray_dishonest us ps present xs at s listed honest = by_chain l.chain
  where
    x : List Seen
    x = seen_all s.front

    rest : List Seen
    rest = seen_of s.exchange ∷ seen_all s.back

    first : LineState
    first = before_run honest.1

    whole : seen_all xs ≡ x ++ rest
    whole = ap seen_all s.whole ∙ map-append seen_of s.front (s.exchange ∷ s.back)

    l : Led present first x rest
    l = led present first x rest s.no_failure (subst (λ k. Chain (HonestStep present) first k) whole honest.2)

    known : (u : ℕ) → has present u ≡ true → (MayBeUnmuted u x → ⊥) → l.state.muted u ≡ true
    known u there never =
        let w = l.way u first there (same_below u first) in muted_if u x honest.1 l.state w.0 w.1 w.2 never

    by_chain : Chain (HonestStep present) l.state rest → ⊥
    by_chain (inl failed) = s.not_failed failed
    by_chain (inr step) =
        no_step us ps present x l.state step.0 (seen_of s.exchange).asked (seen_of s.exchange).heard listed
        (λ u there is. known u there) (λ u there is. known u there (stays_muted u x is)) s.not_silent s.nobody step.1
