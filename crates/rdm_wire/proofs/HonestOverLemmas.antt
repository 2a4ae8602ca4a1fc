-- The line of one fixed set of devices is the line of changing sets that are all the same.
use Rattle.std.proofs.Common.{◌≡◌, ◌↔◌, inl, inr, ℕ, zero, suc, ◌+◌, Bool, true, false, ◌&&◌, ◌||◌, not, cond, List, []}
use Rattle.std.proofs.Common.{◌∷◌, ◌++◌, length, refl, sym, ap, ◌∙◌, subst, true≢false, MatchBool}
use Rattle.std.specs.Prelude.{◌⊎◌, ◌==◌, filter, replicate}
use Rattle.std.specs.List.{AllByRecursion}
use Rattle.std.proofs.Math.Bool.{or-true}
use Rattle.std.proofs.lemmas.List.{length-replicate}
use Rattle.std.proofs.lemmas.Bool.{eqb-true, eq-eqb, cases_Bool}
use Rattle.rdm_wire.specs.Uid.{has, is_within, IsDeviceSet}
use Rattle.rdm_wire.specs.Honest.{Asked, Heard, Seen, LineState, HonestStep, HonestTrace, Chain, LineCounts, KeepsMuted}
use Rattle.rdm_wire.specs.Honest.{MuteMoves, UnmuteMoves, MayReply, lost_after, due_in, before_run}
use Rattle.rdm_wire.specs.Honest.Asked.{Unmute, Branch, Mute, Other}
use Rattle.rdm_wire.specs.Honest.Heard.{Silent}
use Rattle.rdm_wire.specs.HonestOver.{HonestOver, ChainOver, ComeAndLeave}

module _ (p : List ℕ) where
  -- the state in which nobody but those present is muted
  abbrev within : LineState → LineState
  within s = record {
    muted = λ u. has p u && s.muted u;
    lost_branches = s.lost_branches;
    lost_mutes = s.lost_mutes;
    unmutes = s.unmutes;
  }

  counts_within : (new : LineState) (b m n : ℕ) → LineCounts new b m n → LineCounts (within new) b m n
  counts_within new b m n c = record {
    branches = c.branches;
    mutes = c.mutes;
    unmutes = c.unmutes;
    few_branches = c.few_branches;
    few_mutes = c.few_mutes;
  }

  keeps_within : (u : ℕ) (old new : LineState) → KeepsMuted u old new → KeepsMuted u (within old) (within new)
  keeps_within u old new keeps = ap (λ b. has p u && b) keeps

  muted_within : (u : ℕ) (new : LineState) → has p u ≡ true → new.muted u ≡ true → (has p u && new.muted u) ≡ true
  muted_within u new here muted = rw (here, muted) refl

  -- two tests that agree on a list's elements keep the same of it
  filter_same : (f g : ℕ → Bool) (us : List ℕ) → ((u : ℕ) → has us u ≡ true → f u ≡ g u) → filter f us ≡ filter g us
  filter_same f g [] same = refl
  filter_same f g (u ∷ us) same =
      ap (λ b. cond b (u ∷ filter f us) (filter f us)) (same u (ap (λ b. b || has us u) (eq-eqb u u refl)))
      ∙ ap (λ l. cond (g u) (u ∷ l) l)
      (filter_same f g us (λ v h. same v (ap (λ b. (v == u) || b) h ∙ or-true (v == u))))

  due_within : (s : LineState) (lo hi : ℕ) → due_in p (within s).muted lo hi ≡ due_in p s.muted lo hi
  due_within s lo hi = filter_same _ _ p (λ u h. ap (λ b. is_within lo hi u && not (b && s.muted u)) h)

  mute_within : (u : ℕ) (old new : LineState) (heard : Heard) → has p u ≡ true → MuteMoves u old heard new
      → MuteMoves u (within old) heard (within new)
  mute_within u old new heard here (inl acked) =
      inl (acked.0, muted_within u new here acked.1, counts_within new 0 0 0 acked.2)
  mute_within u old new heard here (inr lost) =
      inr (lost.0, moved lost.1, counts_within new 0 (old.lost_mutes + 1) 0 lost.2)
    where
      moved : (new.muted u ≡ true) ⊎ KeepsMuted u old new → ((within new).muted u ≡ true)
          ⊎ KeepsMuted u (within old) (within new)
      moved (inl muted) = inl (muted_within u new here muted)
      moved (inr keeps) = inr (keeps_within u old new keeps)

  unmute_within : (u : ℕ) (old new : LineState) → UnmuteMoves u old new → UnmuteMoves u (within old) (within new)
  unmute_within u old new moves = by_test (cases_Bool (has p u))
    where
      by_test : (has p u ≡ true) ⊎ (has p u ≡ false) → UnmuteMoves u (within old) (within new)
      by_test (inl here) = record {
        fewer = λ m. rw here (moves.fewer (rw here at m));
        third = λ n. rw here (moves.third n);
      }
      by_test (inr away) = record { fewer = λ m. absurd (true≢false (sym (rw away at m))); third = λ n. rw away refl }

  -- a step of the line is a step of those present alone
  step_within : (old new : LineState) (asked : Asked) (heard : Heard) → HonestStep p old asked heard new
      → HonestStep p (within old) asked heard (within new)
  step_within old new (Branch lo hi) heard step =
      let due = sym (due_within old lo hi) in (
        subst (λ d. MayReply d heard) due step.0,
        (λ u. keeps_within u old new (step.1 u)),
        subst (λ d. LineCounts (within new) (lost_after d heard old.lost_branches) 0 0) due
            (counts_within new _ 0 0 step.2),
      )
  step_within old new (Mute u) heard step =
      ((λ v other. keeps_within v old new (step.0 v other)), by_test (has p u) refl step.1)
    where
      by_test : (b : Bool) → has p u ≡ b
          → MatchBool b (MuteMoves u old heard new) ((heard ≡ Silent) × KeepsMuted u old new × LineCounts new 0 0 0)
          → MatchBool b (MuteMoves u (within old) heard (within new))
          ((heard ≡ Silent) × KeepsMuted u (within old) (within new) × LineCounts (within new) 0 0 0)
      by_test true here moves = mute_within u old new heard here moves
      by_test false away silent = (silent.0, keeps_within u old new silent.1, counts_within new 0 0 0 silent.2)
  step_within old new Unmute heard step =
      ((λ u. unmute_within u old new (step.0 u)), counts_within new 0 0 (old.unmutes + 1) step.1)
  step_within old new Other heard step = ((λ u. keeps_within u old new (step.0 u)), counts_within new 0 0 0 step.1)

  -- nobody comes or leaves
  stays_same : (earlier : List ℕ) (s : LineState) → ComeAndLeave earlier p p (within s) (within s)
  stays_same earlier s = record {
    stays = λ u was is. refl;
    comes = λ u was is. absurd (true≢false (sym is ∙ was));
    leaves = λ u away. rw away refl;
    lost_branches = refl;
    lost_mutes = refl;
    unmutes = refl;
  }

  chain_over : (earlier : List ℕ) (s : LineState) (x : List Seen) → Chain (HonestStep p) s x
      → ChainOver earlier p (within s) (replicate (length x) p) x
  chain_over earlier s [] chain = tt
  chain_over earlier s (e ∷ x) (inl failed) = (within s, stays_same earlier s, inl failed)
  chain_over earlier s (e ∷ x) (inr step) = (
    within s,
    stays_same earlier s,
    inr (within step.0, step_within s step.0 e.asked e.heard step.1, chain_over (p ++ earlier) step.0 x step.2),
  )

  -- the other way round: nobody but those present is muted
  abbrev Outside : LineState → Type 0
  Outside s = (u : ℕ) → has p u ≡ false → s.muted u ≡ false

  same_state : (earlier : List ℕ) (s moved : LineState) → Outside s → ComeAndLeave earlier p p s moved → moved ≡ s
  same_state earlier s moved out moves = λ i. record {
    muted = λ u. same u i;
    lost_branches = moves.lost_branches i;
    lost_mutes = moves.lost_mutes i;
    unmutes = moves.unmutes i;
  }
    where
      same : (u : ℕ) → moved.muted u ≡ s.muted u
      same u = by_test (cases_Bool (has p u))
        where
          by_test : (has p u ≡ true) ⊎ (has p u ≡ false) → moved.muted u ≡ s.muted u
          by_test (inl here) = moves.stays u here here
          by_test (inr away) = moves.leaves u away ∙ sym (out u away)

  still_outside : (old new : LineState) (asked : Asked) (heard : Heard) → Outside old → HonestStep p old asked heard new
      → Outside new
  still_outside old new (Branch lo hi) heard out step u away = step.1 u ∙ out u away
  still_outside old new (Mute v) heard out step u away = by_test (v == u) refl
    where
      absent : (b : Bool) → has p v ≡ b → b ≡ false
          → MatchBool b (MuteMoves v old heard new) ((heard ≡ Silent) × KeepsMuted v old new × LineCounts new 0 0 0)
          → new.muted v ≡ old.muted v
      absent true is no' silent = absurd (true≢false no')
      absent false is no' silent = silent.1

      by_test : (b : Bool) → (v == u) ≡ b → new.muted u ≡ false
      by_test false other = step.0 u other ∙ out u away
      by_test true same =
          let is : v ≡ u = eqb-true v u same in
          let here : has p v ≡ false = ap (has p) is ∙ away in
          subst (λ w. new.muted w ≡ false) is (absent (has p v) refl here step.1 ∙ out v here)
  still_outside old new Unmute heard out step u away = by_test (cases_Bool (new.muted u))
    where
      by_test : (new.muted u ≡ true) ⊎ (new.muted u ≡ false) → new.muted u ≡ false
      by_test (inl muted) = absurd (true≢false (sym ((step.0 u).fewer muted) ∙ out u away))
      by_test (inr unmuted) = unmuted
  still_outside old new Other heard out step u away = step.0 u ∙ out u away

  chain_of : (earlier : List ℕ) (s : LineState) (x : List Seen) → Outside s
      → ChainOver earlier p s (replicate (length x) p) x → Chain (HonestStep p) s x
  chain_of earlier s [] out chain = tt
  chain_of earlier s (e ∷ x) out (moved, moves, inl failed) = inl failed
  chain_of earlier s (e ∷ x) out (moved, moves, inr step) =
      let first = subst (λ t. HonestStep p t e.asked e.heard step.0) (same_state earlier s moved out moves) step.1 in
      inr (step.0, first, chain_of (p ++ earlier) step.0 x (still_outside s step.0 e.asked e.heard out first) step.2)

  all_same : (n : ℕ) → IsDeviceSet p → AllByRecursion IsDeviceSet (replicate n p)
  all_same zero devices = tt
  all_same (suc n) devices = (devices, all_same n devices)

  to_over : (x : List Seen) → HonestTrace p x → HonestOver (replicate (length x) p) x
  to_over [] trace = record {
    one_each = refl;
    devices = tt;
    muted = λ u. false;
    present = λ u h. absurd (true≢false (sym h));
    chain = tt;
  }
  to_over (e ∷ x) trace = record {
    one_each = length-replicate (length (e ∷ x)) p;
    devices = all_same (length (e ∷ x)) trace.0;
    muted = λ u. has p u && trace.1 u;
    present = λ u h. both u h;
    chain = chain_over p (before_run trace.1) (e ∷ x) trace.2;
  }
    where
      both : (u : ℕ) → (has p u && trace.1 u) ≡ true → has p u ≡ true
      both u h = by_test (has p u) h
        where
          by_test : (b : Bool) → (b && trace.1 u) ≡ true → b ≡ true
          by_test true h = refl
          by_test false h = h

  of_over : (x : List Seen) → IsDeviceSet p → HonestOver (replicate (length x) p) x → HonestTrace p x
  of_over [] devices over = (devices, (λ u. false), tt)
  of_over (e ∷ x) devices over = (devices, over.muted, chain_of p (before_run over.muted) (e ∷ x) out over.chain)
    where
      out : Outside (before_run over.muted)
      out u away = by_test (cases_Bool (over.muted u))
        where
          by_test : (over.muted u ≡ true) ⊎ (over.muted u ≡ false) → over.muted u ≡ false
          by_test (inl muted) = absurd (true≢false (sym (over.present u muted) ∙ away))
          by_test (inr unmuted) = unmuted

-- both ways
pub trace-over : (p : List ℕ) (x : List Seen) → IsDeviceSet p → HonestTrace p x ↔ HonestOver (replicate (length x) p) x
trace-over p x devices = (to_over p x, of_over p x devices)
