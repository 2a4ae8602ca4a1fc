-- The sample runs are an honest line's, but not if five replies in a row are lost.
use Rattle.rdm_agent.proofs.Common.{◌≡◌, ℕ, zero, suc, ◌+◌, ◌≤◌, Bool, false, List, [], ◌∷◌, ◌++◌, length, take, drop}
use Rattle.rdm_agent.proofs.Common.{refl, inl, inr, arith, ◌==◌, ◌⊎◌, AllByRecursion, Seen, LineState, HonestStep}
use Rattle.rdm_agent.proofs.Common.{HonestTrace, NoisyTrace, NoisyTo, Chain, LineCounts, due_in, before_run, Unmute}
use Rattle.rdm_agent.proofs.Common.{Mute, Heard, Silent, Failed, is_acked, ◌≢◌, sample_uid, sample_run, all_branch}
use Rattle.rdm_agent.proofs.Common.{exchange, Branch}
use Rattle.std.proofs.Common.{replicate}
use Rattle.rdm_agent.specs.SampleRun.{lossy_run}
use Rattle.rdm_agent.proofs.OneDevice.{NotFailed, Begun, begin, silences, five_mutes}
use Rattle.rdm_wire.proofs.EachDevice.{noisy_to_each}
use Rattle.rdm_wire.proofs.NoisyLemmas.{honest_is_noisy}

-- nobody is muted, and the device is
abbrev pub none_muted : ℕ → Bool
none_muted u = false

abbrev pub one_muted : ℕ → Bool
one_muted u = sample_uid == u

-- a line that lost this many branch replies and acknowledgements in a row, and was unmuted this often
abbrev pub line : (ℕ → Bool) → ℕ → ℕ → ℕ → LineState
line muted branches mutes unmutes = record {
  muted = muted;
  lost_branches = branches;
  lost_mutes = mutes;
  unmutes = unmutes;
}

pub counts : (muted : ℕ → Bool) (b m n : ℕ) → b ≤ 4 → m ≤ 4 → LineCounts (line muted b m n) b m n
counts muted b m n few_branches few_mutes = record {
  branches = refl;
  mutes = refl;
  unmutes = refl;
  few_branches = few_branches;
  few_mutes = few_mutes;
}

-- a line with these devices may go on so
abbrev pub Goes : List ℕ → LineState → List Seen → Type 0
Goes present s x = Chain (HonestStep present) s x

-- unmutes
pub unmutes : (present : List ℕ) (n left : ℕ) (x : List Seen) → ((m : ℕ) → Goes present (line none_muted 0 0 m) x)
    → Goes present (line none_muted 0 0 n) (replicate left (exchange Unmute Silent) ++ x)
unmutes present n zero x onward = onward n
unmutes present n (suc left) x onward =
    inr (
      line none_muted 0 0 (n + 1),
      (
        (λ u. record { fewer = λ m. m; third = λ h. refl }),
        counts none_muted 0 0 (n + 1) (omega arith) (omega arith),
      ),
      unmutes present (n + 1) left x onward,
    )

-- branches of a range where nobody unmuted is
pub silent : (present : List ℕ) (muted : ℕ → Bool) (lo hi left : ℕ) (x : List Seen) → due_in present muted lo hi ≡ []
    → Goes present (line muted 0 0 0) x → Goes present (line muted 0 0 0)
    (replicate left (exchange (Branch lo hi) Silent) ++ x)
silent present muted lo hi zero x nobody onward = onward
silent present muted lo hi (suc left) x nobody onward =
    inr (
      line muted 0 0 0,
      (rw nobody refl, (λ u. refl), rw nobody (counts muted 0 0 0 (omega arith) (omega arith))),
      silent present muted lo hi left x nobody onward,
    )

-- branches whose reply is lost, and mutes whose acknowledgement is

lost_branches : (k n left : ℕ) (x : List Seen) → k + left ≤ 4
    → ((j m : ℕ) → Goes (sample_uid ∷ []) (line none_muted j 0 m) x)
    → Goes (sample_uid ∷ []) (line none_muted k 0 n) (replicate left (exchange all_branch Silent) ++ x)
lost_branches k n zero x few onward = onward k n
lost_branches k n (suc left) x few onward =
    inr (
      line none_muted (k + 1) 0 0,
      (inr refl, (λ u. refl), counts none_muted (k + 1) 0 0 (omega arith) (omega arith)),
      lost_branches (k + 1) 0 left x (omega arith) onward,
    )

lost_mutes : (k left : ℕ) (x : List Seen) → k + left ≤ 4 → ((j : ℕ) → Goes (sample_uid ∷ []) (line none_muted 0 j 0) x)
    → Goes (sample_uid ∷ []) (line none_muted 0 k 0) (replicate left (exchange (Mute sample_uid) Silent) ++ x)
lost_mutes k zero x few onward = onward k
lost_mutes k (suc left) x few onward =
    inr (
      line none_muted 0 (k + 1) 0,
      ((λ v other. refl), inr (refl, inr refl, counts none_muted 0 (k + 1) 0 (omega arith) (omega arith))),
      lost_mutes (k + 1) left x (omega arith) onward,
    )

-- up to four replies of each kind may be lost in a row
pub lossy_honest : (branches mutes : ℕ) → branches ≤ 4 → mutes ≤ 4
    → HonestTrace (sample_uid ∷ []) (lossy_run branches mutes)
lossy_honest branches mutes few_branches few_mutes = (
  record { devices = (record { in_range = omega arith; own = refl }, tt); ascending = (tt, tt) },
  none_muted,
  unmutes (sample_uid ∷ []) 0 3 _ (λ n. lost_branches 0 n branches _ few (λ j m. inr (
    line none_muted 0 0 0,
    (inl refl, (λ u. refl), counts none_muted 0 0 0 (omega arith) (omega arith)),
    lost_mutes 0 mutes _ none_lost (λ k. inr (
      line one_muted 0 0 0,
      ((λ v other. other), inl (refl, refl, counts one_muted 0 0 0 (omega arith) (omega arith))),
      silent (sample_uid ∷ []) one_muted 0 0xffffffffffff 5 [] refl tt,
    )),
  ))),
)
  where
    few : 0 + branches ≤ 4
    few = omega arith

    none_lost : 0 + mutes ≤ 4
    none_lost = omega arith

never_failed : (n : ℕ) (e : Seen) (x : List Seen) → NotFailed e → AllByRecursion NotFailed x
    → AllByRecursion NotFailed (replicate n e ++ x)
never_failed zero e x one all = all
never_failed (suc n) e x one all = (one, never_failed n e x one all)

pub sample-not_failed : AllByRecursion NotFailed sample_run
sample-not_failed =
    never_failed 3 (exchange Unmute Silent) (drop 3 sample_run) (λ h. cc)
    ((λ h. cc), ((λ h. cc), never_failed 5 (exchange all_branch Silent) [] (λ h. cc) tt))

-- five of either kind may not, not even on a noisy line

pub five_branches_lost : NoisyTrace (sample_uid ∷ []) (lossy_run 5 0) → ⊥
five_branches_lost noisy = too_many b.state.lost_branches
    (silences sample_uid 0 0xffffffffffff b.state (replicate 5 (exchange all_branch Silent)) (drop 8 (lossy_run 5 0))
    refl b.muted ((refl, refl), ((refl, refl), ((refl, refl), ((refl, refl), ((refl, refl), tt))))) b.chain)
  where
    one : NoisyTo sample_uid (lossy_run 5 0)
    one = noisy_to_each (sample_uid ∷ []) sample_uid (lossy_run 5 0) refl noisy

    b : Begun sample_uid (lossy_run 5 0) (drop 3 (lossy_run 5 0))
    b = begin sample_uid one.0 (exchange Unmute Silent) (exchange Unmute Silent) (exchange Unmute Silent)
        (drop 3 (lossy_run 5 0)) refl refl refl ((λ h. cc), ((λ h. cc), ((λ h. cc), tt))) one.1

    too_many : (n : ℕ) → (length (replicate 5 (exchange all_branch Silent)) ≡ 0)
        ⊎ (n + length (replicate 5 (exchange all_branch Silent)) ≤ 4) → ⊥
    too_many n (inl none) = absurd (omega (arith, none))
    too_many n (inr few) = absurd (omega (arith, few))

pub five_mutes_unacked : (heard : Heard) → heard ≢ Failed → is_acked heard ≡ false
    → NoisyTrace (sample_uid ∷ []) (replicate 5 (exchange (Mute sample_uid) heard)) → ⊥
five_mutes_unacked heard sound unacked noisy = five_mutes sample_uid (before_run one.0) five all_sound one.1 (record {
  front = [];
  run = five;
  back = [];
  whole = refl;
  many = refl;
  each = ((refl, unacked), ((refl, unacked), ((refl, unacked), ((refl, unacked), ((refl, unacked), tt)))));
})
  where
    five : List Seen
    five = replicate 5 (exchange (Mute sample_uid) heard)

    one : NoisyTo sample_uid five
    one = noisy_to_each (sample_uid ∷ []) sample_uid five refl noisy

    all_sound : AllByRecursion NotFailed five
    all_sound = (sound, (sound, (sound, (sound, (sound, tt)))))

pub five_mutes_lost : HonestTrace (sample_uid ∷ []) (lossy_run 0 5) → ⊥
five_mutes_lost honest = five_mutes sample_uid (before_run one.0) (lossy_run 0 5) sound one.1 (record {
  front = take 4 (lossy_run 0 5);
  run = replicate 5 (exchange (Mute sample_uid) Silent);
  back = drop 9 (lossy_run 0 5);
  whole = refl;
  many = refl;
  each = ((refl, refl), ((refl, refl), ((refl, refl), ((refl, refl), ((refl, refl), tt)))));
})
  where
    one : NoisyTo sample_uid (lossy_run 0 5)
    one = noisy_to_each (sample_uid ∷ []) sample_uid (lossy_run 0 5) refl
        (honest_is_noisy (sample_uid ∷ []) (lossy_run 0 5) honest)

    sound : AllByRecursion NotFailed (lossy_run 0 5)
    sound = never_failed 3 (exchange Unmute Silent) (drop 3 (lossy_run 0 5)) (λ h. cc) (
      (λ h. cc),
      never_failed 5 (exchange (Mute sample_uid) Silent) (drop 9 (lossy_run 0 5)) (λ h. cc)
          ((λ h. cc), never_failed 5 (exchange all_branch Silent) [] (λ h. cc) tt),
    )
