-- What a line on which one device follows the rules, noisy or not, shows of a run.
use Rattle.rdm_agent.proofs.Common.{◌≡◌, ℕ, ◌+◌, ◌≤◌, Bool, true, false, List, [], ◌∷◌, ◌++◌, length, suc, map, take}
use Rattle.rdm_agent.proofs.Common.{append_assoc, Some, refl, sym, ap, ◌∙◌, subst, inl, inr, true≢false, arith, ◌⊎◌}
use Rattle.rdm_agent.proofs.Common.{◌≢◌, ◌==◌, MatchBool, AllByRecursion, eqb-true, eq-eqb, cases_Bool, has, is_within}
use Rattle.rdm_agent.proofs.Common.{IsDevice, Asked, Heard, Seen, LineState, NoisyToStep, NoisyTo, HonestTo, Chain}
use Rattle.rdm_agent.proofs.Common.{LineCounts, due_in, lost_after, KeepsMuted, MuteMovesInNoise, is_acked, before_run}
use Rattle.rdm_agent.proofs.Common.{Unmute, Branch, Mute, Other, Failed, Silent, muted_uid, muted_by, muted_in}
use Rattle.rdm_agent.proofs.Common.{InSuccession, IsSilentBranch, IsLostMute, SearchShows, IsTried, IsCleared, Kind}
use Rattle.rdm_agent.proofs.Common.{TRIES}
use Rattle.rdm_wire.proofs.NoisyLemmas.{honest_to_is_noisy}
use Rattle.rdm_agent.proofs.Pushes.{has-front}
use Rattle.rdm_agent.proofs.Members.{heads, tails, has-put, has-first, member, first_part, last_part}

abbrev pub NotFailed : Seen → Type 0
NotFailed e = e.heard ≢ Failed

-- a device that is muted after a step was so before it, or the step asks it
moved-mute : (u v : ℕ) (s new : LineState) (h : Heard) (b : Bool) → (u == v) ≡ b
    → MatchBool b (MuteMovesInNoise u s h new) (KeepsMuted u s new × LineCounts new 0 0 0) → new.muted u ≡ true
    → (s.muted u ≡ true) ⊎ (muted_uid (Mute v) ≡ Some u)
moved-mute u v s new h true e step m = inr (ap Some (sym (eqb-true u v e)))
moved-mute u v s new h false e step m = inl (sym step.0 ∙ m)

moved : (u : ℕ) (s new : LineState) (a : Asked) (h : Heard) → NoisyToStep u s a h new → new.muted u ≡ true
    → (s.muted u ≡ true) ⊎ (muted_uid a ≡ Some u)
moved u s new Unmute h step m = inl (step.0.fewer m)
moved u s new (Branch lo hi) h step m = inl (sym step.0 ∙ m)
moved u s new (Mute v) h step m = moved-mute u v s new h (u == v) refl step m
moved u s new Other h step m = inl (sym step.0 ∙ m)

-- the state that a part of a chain leads to
pub record Reached (u : ℕ) (s : LineState) (front rest : List Seen) : Type 0 where
  pub state : LineState
  pub chain : Chain (NoisyToStep u) state rest
  pub muted : state.muted u ≡ true → (s.muted u ≡ true) ⊎ (has (muted_in front) u ≡ true)

onward : (u : ℕ) (s new : LineState) (e : Seen) (front rest : List Seen) → NoisyToStep u s e.asked e.heard new
    → Reached u new front rest → Reached u s (e ∷ front) rest
onward u s new e front rest step r = record { state = r.state; chain = r.chain; muted = λ m. was (r.muted m) }
  where
    now : (s.muted u ≡ true) ⊎ (muted_uid e.asked ≡ Some u) → (s.muted u ≡ true) ⊎ (has (muted_in (e ∷ front)) u ≡ true)
    now (inl before) = inl before
    now (inr asked) = inr (has-first (muted_uid e.asked) (muted_in front) u asked)

    was : (new.muted u ≡ true) ⊎ (has (muted_in front) u ≡ true) → (s.muted u ≡ true)
        ⊎ (has (muted_in (e ∷ front)) u ≡ true)
    was (inl here) = now (moved u s new e.asked e.heard step here)
    was (inr later) = inr (has-put (muted_uid e.asked) (muted_in front) u later)

pub reached : (u : ℕ) (s : LineState) (front rest : List Seen) → AllByRecursion NotFailed front
    → Chain (NoisyToStep u) s (front ++ rest) → Reached u s front rest
reached u s [] rest ok c = record { state = s; chain = c; muted = λ m. inl m }
reached u s (e ∷ front) rest ok c =
    elim c [
      | inl failed ↦ absurd (ok.0 failed)
      | inr step ↦ onward u s step.0 e front rest step.1
          (reached u step.0 front rest ok.1 step.2)
    ]

-- a step at what is known of its exchange
step_at : (u : ℕ) (s new : LineState) (a b : Asked) (h k : Heard) → a ≡ b → h ≡ k → NoisyToStep u s a h new
    → NoisyToStep u s b k new
step_at u s new a b h k p q step =
    subst (λ x. NoisyToStep u s x k new) p (subst (λ y. NoisyToStep u s a y new) q step)

-- a lost reply of an unmuted device
pub record LostBranch (u : ℕ) (s new : LineState) : Type 0 where
  pub muted : new.muted u ≡ false
  pub more : new.lost_branches ≡ s.lost_branches + 1
  pub few : s.lost_branches + 1 ≤ 4

lost_branch : (u lo hi : ℕ) (s new : LineState) → is_within lo hi u ≡ true → s.muted u ≡ false
    → NoisyToStep u s (Branch lo hi) Silent new → LostBranch u s new
lost_branch u lo hi s new within unmuted step = record {
  muted = moves.0 ∙ unmuted;
  more = moves.1.branches;
  few = moves.1.few_branches;
}
  where
    due : due_in (u ∷ []) s.muted lo hi ≡ u ∷ []
    due = rw (within, unmuted) refl

    moves : KeepsMuted u s new × LineCounts new (s.lost_branches + 1) 0 0
    moves = subst (λ d. KeepsMuted u s new × LineCounts new (lost_after d Silent s.lost_branches) 0 0) due step

-- no more than four are lost in a row
pub silences : (u lo hi : ℕ) (s : LineState) (run rest : List Seen) → is_within lo hi u ≡ true → s.muted u ≡ false
    → AllByRecursion (IsSilentBranch lo hi) run → Chain (NoisyToStep u) s (run ++ rest)
    → (length run ≡ 0) ⊎ (s.lost_branches + length run ≤ 4)
silences u lo hi s [] rest within unmuted each c = inl refl
silences u lo hi s (e ∷ run) rest within unmuted each c =
    elim c [
      | inl failed ↦ absurd (not_both e.heard each.0.1 failed)
      | inr step ↦ let l = lost_branch u lo hi s step.0 within unmuted
          (step_at u s step.0 e.asked (Branch lo hi) e.heard Silent each.0.0 each.0.1 step.1) in
          inr (longer s.lost_branches step.0.lost_branches (length run) l.more l.few
          (silences u lo hi step.0 run rest within l.muted each.1 step.2))
    ]
  where
    not_both : (h : Heard) → h ≡ Silent → h ≡ Failed → ⊥
    not_both h p q = cc

    longer : (a b n : ℕ) → b ≡ a + 1 → a + 1 ≤ 4 → (n ≡ 0) ⊎ (b + n ≤ 4) → a + suc n ≤ 4
    longer a b n more few (inl none) = omega arith
    longer a b n more few (inr rest) = omega arith

-- a mute of a device that isn't acknowledged is lost
pub record LostMute (s new : LineState) : Type 0 where
  pub more : new.lost_mutes ≡ s.lost_mutes + 1
  pub few : s.lost_mutes + 1 ≤ 4

lost_mute : (u : ℕ) (s new : LineState) (h : Heard) → is_acked h ≡ false → NoisyToStep u s (Mute u) h new
    → LostMute s new
lost_mute u s new h lost step =
    of_moves (subst (λ b. MatchBool b (MuteMovesInNoise u s h new) (KeepsMuted u s new × LineCounts new 0 0 0))
    (eq-eqb u u refl) step)
  where
    of_moves : MuteMovesInNoise u s h new → LostMute s new
    of_moves m = elim m [
      | inl acked ↦ absurd (true≢false (sym acked.0 ∙ lost))
      | inr unacked ↦ record { more = unacked.2.mutes; few = unacked.2.few_mutes }
    ]

pub mutes : (u : ℕ) (s : LineState) (run rest : List Seen) → AllByRecursion (IsLostMute u) run
    → AllByRecursion NotFailed run → Chain (NoisyToStep u) s (run ++ rest)
    → (length run ≡ 0) ⊎ (s.lost_mutes + length run ≤ 4)
mutes u s [] rest each ok c = inl refl
mutes u s (e ∷ run) rest each ok c =
    elim c [
      | inl failed ↦ absurd (ok.0 failed)
      | inr step ↦ let l = lost_mute u s step.0 e.heard each.0.1
          (step_at u s step.0 e.asked (Mute u) e.heard e.heard each.0.0 refl step.1) in
          inr (longer s.lost_mutes step.0.lost_mutes (length run) l.more l.few
          (mutes u step.0 run rest each.1 ok.1 step.2))
    ]
  where
    longer : (a b n : ℕ) → b ≡ a + 1 → a + 1 ≤ 4 → (n ≡ 0) ⊎ (b + n ≤ 4) → a + suc n ≤ 4
    longer a b n more few (inl none) = omega arith
    longer a b n more few (inr rest) = omega arith

-- after three unmutes nobody is muted
pub record Begun (u : ℕ) (x rest : List Seen) : Type 0 where
  pub state : LineState
  pub muted : state.muted u ≡ false
  pub chain : Chain (NoisyToStep u) state rest

pub begin : (u : ℕ) (m : ℕ → Bool) (a b c : Seen) (rest : List Seen) → a.asked ≡ Unmute → b.asked ≡ Unmute
    → c.asked ≡ Unmute → AllByRecursion NotFailed (a ∷ b ∷ c ∷ [])
    → Chain (NoisyToStep u) (before_run m) (a ∷ b ∷ c ∷ rest) → Begun u (a ∷ b ∷ c ∷ rest) rest
begin u m a b c rest pa pb pc ok chain =
    elim chain [
      | inl failed ↦ absurd (ok.0 failed)
      | inr one ↦ elim one.2 [
        | inl failed ↦ absurd (ok.1.0 failed)
        | inr two ↦ elim two.2 [
          | inl failed ↦ absurd (ok.1.1.0 failed)
          | inr three ↦
              let first = step_at u (before_run m) one.0 a.asked Unmute a.heard a.heard pa refl one.1 in
              let second = step_at u one.0 two.0 b.asked Unmute b.heard b.heard pb refl two.1 in
              let third = step_at u two.0 three.0 c.asked Unmute c.heard c.heard pc refl three.1 in
              record {
                state = three.0;
                muted = third.0.third (three_made one.0.unmutes two.0.unmutes first.1.unmutes second.1.unmutes);
                chain = three.2;
              }
        ]
      ]
    ]
  where
    three_made : (p q : ℕ) → p ≡ 0 + 1 → q ≡ p + 1 → 3 ≤ q + 1
    three_made p q e f = omega arith

no_branch : (q : Asked) (lo hi : ℕ) → q ≡ Unmute → q ≡ Branch lo hi → ⊥
no_branch q lo hi p r = cc

-- a run of branches doesn't begin at an unmute
peel : (lo hi : ℕ) (e : Seen) (xs front run back : List Seen) → e.asked ≡ Unmute
    → AllByRecursion (IsSilentBranch lo hi) run → length run ≡ TRIES → e ∷ xs ≡ front ++ (run ++ back)
    → (others : List Seen) × (xs ≡ others ++ (run ++ back))
peel lo hi e xs [] [] back p each five whole = absurd (zero_is_five five)
  where
    zero_is_five : length {A = Seen} [] ≡ TRIES → ⊥
    zero_is_five h = omega arith
peel lo hi e xs [] (r ∷ run) back p each five whole =
    absurd (no_branch e.asked lo hi p (ap (λ x. x.asked) (heads whole) ∙ each.0.0))
peel lo hi e xs (f ∷ front) run back p each five whole = (front, tails whole)

-- five mutes of the device in a row aren't lost
pub five_mutes : (u : ℕ) (s : LineState) (x : List Seen) → AllByRecursion NotFailed x → Chain (NoisyToStep u) s x
    → InSuccession TRIES (IsLostMute u) x → ⊥
five_mutes u s x ok chain five =
    too_many (mutes u r.state five.run five.back five.each (first_part NotFailed five.run five.back after) r.chain)
  where
    whole : x ≡ five.front ++ (five.run ++ five.back)
    whole = five.whole ∙ append_assoc five.front five.run five.back

    all : AllByRecursion NotFailed (five.front ++ (five.run ++ five.back))
    all = subst (λ l. AllByRecursion NotFailed l) whole ok

    after : AllByRecursion NotFailed (five.run ++ five.back)
    after = last_part NotFailed five.front (five.run ++ five.back) all

    r : Reached u s five.front (five.run ++ five.back)
    r = reached u s five.front (five.run ++ five.back) (first_part NotFailed five.front (five.run ++ five.back) all)
        (subst (λ l. Chain (NoisyToStep u) s l) whole chain)

    too_many : (length five.run ≡ 0) ⊎ (r.state.lost_mutes + length five.run ≤ 4) → ⊥
    too_many (inl none) = let many = five.many in omega arith
    too_many (inr few) = let many = five.many in omega arith

-- a device in a range that was silent five times in a row was muted before, after the three unmutes
cleared_muted : (u : ℕ) (x rest : List Seen) → AllByRecursion NotFailed rest → Begun u x rest → (lo hi : ℕ)
    → is_within lo hi u ≡ true → (front run back : List Seen) → rest ≡ front ++ (run ++ back) → length run ≡ TRIES
    → AllByRecursion (IsSilentBranch lo hi) run → has (muted_in rest) u ≡ true
cleared_muted u x rest ok begun lo hi within front run back whole five each = by_muted (cases_Bool (r.state.muted u))
  where
    all : AllByRecursion NotFailed (front ++ (run ++ back))
    all = subst (λ l. AllByRecursion NotFailed l) whole ok

    r : Reached u begun.state front (run ++ back)
    r = reached u begun.state front (run ++ back) (first_part NotFailed front (run ++ back) all)
        (subst (λ l. Chain (NoisyToStep u) begun.state l) whole begun.chain)

    too_many : (length run ≡ 0) ⊎ (r.state.lost_branches + length run ≤ 4) → ⊥
    too_many (inl none) = omega arith
    too_many (inr few) = omega arith

    in_front : (begun.state.muted u ≡ true) ⊎ (has (muted_in front) u ≡ true) → has (muted_in rest) u ≡ true
    in_front (inl before) = absurd (true≢false (sym before ∙ begun.muted))
    in_front (inr inside) =
        subst (λ l. has (muted_in l) u ≡ true) (sym whole) (has-front muted_by front (run ++ back) u inside)

    by_muted : (r.state.muted u ≡ true) ⊎ (r.state.muted u ≡ false) → has (muted_in rest) u ≡ true
    by_muted (inl muted) = in_front (r.muted muted)
    by_muted (inr unmuted) = absurd (too_many (silences u lo hi r.state run back within unmuted each r.chain))

-- a muted device is acknowledged
tried_found : (u : ℕ) (s : List ℕ) (x : List Seen) (t : LineState) → AllByRecursion NotFailed x
    → Chain (NoisyToStep u) t x → IsTried s x u → has s u ≡ true
tried_found u s x t ok chain tried =
    elim tried.tried [ inl found ↦ found | inr five ↦ absurd (five_mutes u t x ok chain five) ]

-- a cleared device is in the set
cleared_found : (u : ℕ) (s : List ℕ) (m : ℕ → Bool) (x : List Seen)
    → take 3 (map (λ (e : Seen). e.asked) x) ≡ Unmute ∷ Unmute ∷ Unmute ∷ [] → AllByRecursion NotFailed x
    → AllByRecursion (IsTried s x) (muted_in x) → Chain (NoisyToStep u) (before_run m) x → IsCleared x u
    → has s u ≡ true
cleared_found u s m [] unmutes ok tried chain cleared = absurd (short unmutes)
  where
    short : ◌≡◌ {A = List Asked} [] (Unmute ∷ Unmute ∷ Unmute ∷ []) → ⊥
    short h = cc
cleared_found u s m (a ∷ []) unmutes ok tried chain cleared = absurd (short a.asked unmutes)
  where
    short : (q : Asked) → q ∷ [] ≡ Unmute ∷ Unmute ∷ Unmute ∷ [] → ⊥
    short q h = cc
cleared_found u s m (a ∷ b ∷ []) unmutes ok tried chain cleared = absurd (short a.asked b.asked unmutes)
  where
    short : (p q : Asked) → p ∷ q ∷ [] ≡ Unmute ∷ Unmute ∷ Unmute ∷ [] → ⊥
    short p q h = cc
cleared_found u s m (a ∷ b ∷ c ∷ rest) unmutes ok tried chain cleared =
    tried_found u s (a ∷ b ∷ c ∷ rest) (before_run m) ok chain
    (member (IsTried s (a ∷ b ∷ c ∷ rest)) (muted_in (a ∷ b ∷ c ∷ rest)) u tried in_all)
  where
    pa : a.asked ≡ Unmute
    pa = heads unmutes

    pb : b.asked ≡ Unmute
    pb = heads (tails unmutes)

    pc : c.asked ≡ Unmute
    pc = heads (tails (tails unmutes))

    five : InSuccession TRIES (IsSilentBranch cleared.lo cleared.hi) (a ∷ b ∷ c ∷ rest)
    five = cleared.silent

    one : (others : List Seen) × (b ∷ c ∷ rest ≡ others ++ (five.run ++ five.back))
    one = peel cleared.lo cleared.hi a (b ∷ c ∷ rest) five.front five.run five.back pa five.each five.many
        (five.whole ∙ append_assoc five.front five.run five.back)

    two : (others : List Seen) × (c ∷ rest ≡ others ++ (five.run ++ five.back))
    two = peel cleared.lo cleared.hi b (c ∷ rest) one.0 five.run five.back pb five.each five.many one.1

    three : (others : List Seen) × (rest ≡ others ++ (five.run ++ five.back))
    three = peel cleared.lo cleared.hi c rest two.0 five.run five.back pc five.each five.many two.1

    in_rest : has (muted_in rest) u ≡ true
    in_rest = cleared_muted u (a ∷ b ∷ c ∷ rest) rest ok.1.1.1
        (begin u m a b c rest pa pb pc (ok.0, (ok.1.0, (ok.1.1.0, tt))) chain) cleared.lo cleared.hi cleared.within
        three.0 five.run five.back three.1 five.many five.each

    in_all : has (muted_in (a ∷ b ∷ c ∷ rest)) u ≡ true
    in_all = has-put (muted_uid a.asked) (muted_in (b ∷ c ∷ rest)) u
        (has-put (muted_uid b.asked) (muted_in (c ∷ rest)) u (has-put (muted_uid c.asked) (muted_in rest) u in_rest))

-- if a device follows the rules of a noisy line, a certificate's set has it
pub found_in_noise : (kind : Kind) (known : List ℕ) (x : List Seen) (s : List ℕ) (u : ℕ) → IsDevice u
    → SearchShows kind known x s → NoisyTo u x → has s u ≡ true
found_in_noise kind known x s u device c noisy =
    elim (c.cleared u device.in_range) [
      | inl h ↦ h
      | inr cleared ↦ cleared_found u s noisy.0 x c.unmutes c.no_failure c.tried noisy.1 cleared
    ]

-- so it has each device to which the line is honest
pub found : (kind : Kind) (known : List ℕ) (x : List Seen) (s : List ℕ) (u : ℕ) → IsDevice u
    → SearchShows kind known x s → HonestTo u x → has s u ≡ true
found kind known x s u device c honest = found_in_noise kind known x s u device c (honest_to_is_noisy u x honest)
