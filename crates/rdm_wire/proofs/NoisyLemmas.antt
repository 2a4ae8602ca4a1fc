-- An honest line is a noisy one of which no exchange was disturbed, and the other way round.
use Rattle.std.proofs.Common.{◌≡◌, ◌↔◌, ℕ, ◌+◌, ◌≤◌, Bool, true, false, ◌&&◌, not, cond, List, [], ◌∷◌, refl}
use Rattle.std.proofs.Common.{sym, ap, ◌∙◌, subst, inl, inr, true≢false, arith}
use Rattle.std.specs.Prelude.{◌⊎◌, ◌≢◌, ◌==◌, MatchBool, nat_le}
use Rattle.std.proofs.lemmas.Bool.{eqb-true, eq-eqb, cases_Bool, and_parts, or_parts, leb-true}
use Rattle.rdm_wire.specs.Uid.{has, is_within}
use Rattle.rdm_wire.specs.Honest.{Asked, Heard, Seen, LineState, HonestStep, HonestToStep, HonestTrace, HonestTo, Chain}
use Rattle.rdm_wire.specs.Honest.{LineCounts, KeepsMuted, MayReply, MuteMoves, due_in, is_acked, before_run}
use Rattle.rdm_wire.specs.Honest.Asked.{Unmute, Branch, Mute, Other}
use Rattle.rdm_wire.specs.Honest.Heard.{Failed, Silent, One, Acked, Noise}
use Rattle.rdm_wire.specs.Noisy.{NoisyStep, NoisyToStep, NoisyTrace, NoisyTo, NoisyTraceWith, MayHearInNoise}
use Rattle.rdm_wire.specs.Noisy.{MuteMovesInNoise, has_bytes, is_disturbed, is_disturbed_branch, disturbed_in}

silence_acks_nothing : (h : Heard) → h ≡ Silent → is_acked h ≡ false
silence_acks_nothing h silent = ap is_acked silent

-- each step of an honest line is one of a noisy line

-- nobody is due to answer the branch of one absent UID alone
nobody_due : (present : List ℕ) (muted : ℕ → Bool) (u : ℕ) → has present u ≡ false → due_in present muted u u ≡ []
nobody_due [] muted u absent = refl
nobody_due (v ∷ present) muted u absent = rw (outside (cases_Bool (is_within u u v)))
    (nobody_due present muted u (or_parts (u == v) (has present u) absent).1)
  where
    outside : (is_within u u v ≡ true) ⊎ (is_within u u v ≡ false) → is_within u u v ≡ false
    outside (inr isnt) = isnt
    outside (inl within) =
        absurd (true≢false (sym (eq-eqb u v (same within)) ∙ (or_parts (u == v) (has present u) absent).0))
      where
        same : is_within u u v ≡ true → u ≡ v
        same within =
            let both = and_parts (nat_le u v) (nat_le v u) within in
            let above : u ≤ v = leb-true u v both.0 in let below : v ≤ u = leb-true v u both.1 in omega arith

reply_in_noise : (present : List ℕ) (muted : ℕ → Bool) (lo hi : ℕ) (h : Heard)
    → MayReply (due_in present muted lo hi) h → MayHearInNoise present lo hi h
reply_in_noise present muted lo hi h reply = λ alone absent. not_one
    (subst (λ due. MayReply due h) (nobody_due present muted lo absent)
    (subst (λ top. MayReply (due_in present muted lo top) h) (sym alone) reply))
  where
    not_one : h ≡ Silent → h ≢ One lo
    not_one silent one = cc

pub mute_in_noise : (u : ℕ) (s new : LineState) (h : Heard) → MuteMoves u s h new → MuteMovesInNoise u s h new
mute_in_noise u s new h (inl acked) = inl acked
mute_in_noise u s new h (inr silent) = inr (silence_acks_nothing h silent.0, silent.1, silent.2)

mute_by : (b : Bool) (u : ℕ) (s new : LineState) (h : Heard)
    → MatchBool b (MuteMoves u s h new) ((h ≡ Silent) × KeepsMuted u s new × LineCounts new 0 0 0)
    → MatchBool b (MuteMovesInNoise u s h new) ((is_acked h ≡ false) × KeepsMuted u s new × LineCounts new 0 0 0)
mute_by true u s new h moves = mute_in_noise u s new h moves
mute_by false u s new h silent = (silence_acks_nothing h silent.0, silent.1, silent.2)

pub step_in_noise : (present : List ℕ) (s : LineState) (a : Asked) (h : Heard) (new : LineState)
    → HonestStep present s a h new → NoisyStep present s a h new
step_in_noise present s (Branch lo hi) h new step =
    (reply_in_noise present s.muted lo hi h step.0, step.1, step.2)
step_in_noise present s (Mute u) h new step = (step.0, mute_by (has present u) u s new h step.1)
step_in_noise present s Unmute h new step = step
step_in_noise present s Other h new step = step

to_mute_by : (b : Bool) (u : ℕ) (s new : LineState) (h : Heard)
    → MatchBool b (MuteMoves u s h new) (KeepsMuted u s new × LineCounts new 0 0 0)
    → MatchBool b (MuteMovesInNoise u s h new) (KeepsMuted u s new × LineCounts new 0 0 0)
to_mute_by true u s new h moves = mute_in_noise u s new h moves
to_mute_by false u s new h keeps = keeps

to_step_in_noise : (u : ℕ) (s : LineState) (a : Asked) (h : Heard) (new : LineState) → HonestToStep u s a h new
    → NoisyToStep u s a h new
to_step_in_noise u s (Branch lo hi) h new step = step
to_step_in_noise u s (Mute v) h new step = to_mute_by (u == v) u s new h step
to_step_in_noise u s Unmute h new step = step
to_step_in_noise u s Other h new step = step

chain_by : (Less More : LineState → Asked → Heard → LineState → Type 0)
    → ((s : LineState) (a : Asked) (h : Heard) (new : LineState) → Less s a h new → More s a h new) → (s : LineState)
    → (x : List Seen) → Chain Less s x → Chain More s x
chain_by Less More each s [] chain = tt
chain_by Less More each s (e ∷ x) (inl failed) = inl failed
chain_by Less More each s (e ∷ x) (inr step) =
    inr (step.0, each s e.asked e.heard step.0 step.1, chain_by Less More each step.0 x step.2)

pub honest_is_noisy : (present : List ℕ) (x : List Seen) → HonestTrace present x → NoisyTrace present x
honest_is_noisy present x honest = (
  honest.0,
  honest.1,
  chain_by (HonestStep present) (NoisyStep present) (step_in_noise present) (before_run honest.1) x honest.2,
)

pub honest_to_is_noisy : (u : ℕ) (x : List Seen) → HonestTo u x → NoisyTo u x
honest_to_is_noisy u x honest = (
  honest.0,
  chain_by (HonestToStep u) (NoisyToStep u) (to_step_in_noise u) (before_run honest.0) x honest.1,
)

-- an exchange of an honest line isn't disturbed

reply_undisturbed : (due : List ℕ) (h : Heard) → MayReply due h → is_disturbed_branch due h ≡ false
reply_undisturbed [] h silent = ap has_bytes silent
reply_undisturbed (u ∷ []) h (inl own) = rw own (ap not (eq-eqb u u refl))
reply_undisturbed (u ∷ []) h (inr silent) = rw silent refl
reply_undisturbed (u ∷ v ∷ us) h reply = refl

acked_undisturbed : (h : Heard) → is_acked h ≡ true → (has_bytes h && not (is_acked h)) ≡ false
acked_undisturbed Failed acked = absurd (true≢false (sym acked))
acked_undisturbed Silent acked = absurd (true≢false (sym acked))
acked_undisturbed (One u) acked = absurd (true≢false (sym acked))
acked_undisturbed (Acked ack) acked = refl
acked_undisturbed Noise acked = absurd (true≢false (sym acked))

silent_undisturbed : (h : Heard) → h ≡ Silent → (has_bytes h && not (is_acked h)) ≡ false
silent_undisturbed h silent = rw silent refl

mute_undisturbed : (b : Bool) (u : ℕ) (s new : LineState) (h : Heard)
    → MatchBool b (MuteMoves u s h new) ((h ≡ Silent) × KeepsMuted u s new × LineCounts new 0 0 0)
    → (has_bytes h && not (is_acked h)) ≡ false
mute_undisturbed true u s new h (inl acked) = acked_undisturbed h acked.0
mute_undisturbed true u s new h (inr silent) = silent_undisturbed h silent.0
mute_undisturbed false u s new h silent = silent_undisturbed h silent.0

step_undisturbed : (present : List ℕ) (s : LineState) (a : Asked) (h : Heard) (new : LineState)
    → HonestStep present s a h new → is_disturbed present s a h ≡ false
step_undisturbed present s (Branch lo hi) h new step = reply_undisturbed (due_in present s.muted lo hi) h step.0
step_undisturbed present s (Mute u) h new step = mute_undisturbed (has present u) u s new h step.1
step_undisturbed present s Unmute h new step = refl
step_undisturbed present s Other h new step = refl

-- neither the first nor a later one
sum_zero : (b : Bool) (n : ℕ) → b ≡ false → n ≡ 0 → cond b 1 0 + n ≡ 0
sum_zero true n first rest = absurd (true≢false first)
sum_zero false n first rest = omega (arith, rest)

none_disturbed : (present : List ℕ) (s : LineState) (x : List Seen) (chain : Chain (HonestStep present) s x)
    → disturbed_in present s x (chain_by (HonestStep present) (NoisyStep present) (step_in_noise present) s x chain) ≡ 0
unfolding chain_by
none_disturbed present s [] chain = refl
none_disturbed present s (e ∷ x) (inl failed) = refl
none_disturbed present s (e ∷ x) (inr step) =
    sum_zero (is_disturbed present s e.asked e.heard) _
    (step_undisturbed present s e.asked e.heard step.0 step.1) (none_disturbed present step.0 x step.2)

-- an exchange of a noisy line that isn't disturbed is one of an honest line, unless it failed

honest_reply : (due : List ℕ) (h : Heard) → h ≢ Failed → is_disturbed_branch due h ≡ false → MayReply due h
honest_reply [] Failed ok quiet = absurd (ok refl)
honest_reply [] Silent ok quiet = refl
honest_reply [] (One v) ok quiet = absurd (true≢false quiet)
honest_reply [] (Acked ack) ok quiet = absurd (true≢false quiet)
honest_reply [] Noise ok quiet = absurd (true≢false quiet)
honest_reply (u ∷ []) Failed ok quiet = absurd (ok refl)
honest_reply (u ∷ []) Silent ok quiet = inr refl
honest_reply (u ∷ []) (One v) ok quiet = by_test (cases_Bool (u == v))
  where
    by_test : ((u == v) ≡ true) ⊎ ((u == v) ≡ false) → MayReply (u ∷ []) (One v)
    by_test (inl own) = inl (ap One (sym (eqb-true u v own)))
    by_test (inr other) = absurd (true≢false (sym (ap not other) ∙ quiet))
honest_reply (u ∷ []) (Acked ack) ok quiet = absurd (true≢false quiet)
honest_reply (u ∷ []) Noise ok quiet = absurd (true≢false quiet)
honest_reply (u ∷ v ∷ us) h ok quiet = tt

silent_if_lost : (h : Heard) → h ≢ Failed → (has_bytes h && not (is_acked h)) ≡ false → is_acked h ≡ false → h ≡ Silent
silent_if_lost Failed ok quiet lost = absurd (ok refl)
silent_if_lost Silent ok quiet lost = refl
silent_if_lost (One v) ok quiet lost = absurd (true≢false quiet)
silent_if_lost (Acked ack) ok quiet lost = absurd (true≢false lost)
silent_if_lost Noise ok quiet lost = absurd (true≢false quiet)

honest_mute : (b : Bool) (u : ℕ) (s new : LineState) (h : Heard) → h ≢ Failed
    → (has_bytes h && not (is_acked h)) ≡ false
    → MatchBool b (MuteMovesInNoise u s h new) ((is_acked h ≡ false) × KeepsMuted u s new × LineCounts new 0 0 0)
    → MatchBool b (MuteMoves u s h new) ((h ≡ Silent) × KeepsMuted u s new × LineCounts new 0 0 0)
honest_mute true u s new h ok quiet (inl acked) = inl acked
honest_mute true u s new h ok quiet (inr lost) = inr (silent_if_lost h ok quiet lost.0, lost.1, lost.2)
honest_mute false u s new h ok quiet absent = (silent_if_lost h ok quiet absent.0, absent.1, absent.2)

honest_step : (present : List ℕ) (s : LineState) (a : Asked) (h : Heard) (new : LineState) → h ≢ Failed
    → is_disturbed present s a h ≡ false → NoisyStep present s a h new → HonestStep present s a h new
honest_step present s (Branch lo hi) h new ok quiet step =
    (honest_reply (due_in present s.muted lo hi) h ok quiet, step.1, step.2)
honest_step present s (Mute u) h new ok quiet step = (step.0, honest_mute (has present u) u s new h ok quiet step.1)
honest_step present s Unmute h new ok quiet step = step
honest_step present s Other h new ok quiet step = step

pub has_failed : (h : Heard) → (h ≡ Failed) ⊎ (h ≢ Failed)
has_failed Failed = inl refl
has_failed Silent = inr (λ e. cc)
has_failed (One u) = inr (λ e. cc)
has_failed (Acked ack) = inr (λ e. cc)
has_failed Noise = inr (λ e. cc)

pub both_zero : (b : Bool) (n : ℕ) → cond b 1 0 + n ≡ 0 → (b ≡ false) × (n ≡ 0)
both_zero true n sum = absurd (omega (arith, sum))
both_zero false n sum = (refl, omega (arith, sum))

honest_chain : (present : List ℕ) (s : LineState) (x : List Seen) (chain : Chain (NoisyStep present) s x)
    → disturbed_in present s x chain ≡ 0 → Chain (HonestStep present) s x
honest_chain present s [] chain quiet = tt
honest_chain present s (e ∷ x) (inl failed) quiet = inl failed
honest_chain present s (e ∷ x) (inr step) quiet =
    by_failure (has_failed e.heard) (honest_chain present step.0 x step.2 both.1)
  where
    both : (is_disturbed present s e.asked e.heard ≡ false) × (disturbed_in present step.0 x step.2 ≡ 0)
    both = both_zero (is_disturbed present s e.asked e.heard) (disturbed_in present step.0 x step.2) quiet

    by_failure : (e.heard ≡ Failed) ⊎ (e.heard ≢ Failed) → Chain (HonestStep present) step.0 x
        → Chain (HonestStep present) s (e ∷ x)
    by_failure (inl failed) rest = inl failed
    by_failure (inr ok) rest = inr (step.0, honest_step present s e.asked e.heard step.0 ok both.0 step.1, rest)

pub honest_undisturbed : (present : List ℕ) (x : List Seen) → HonestTrace present x ↔ NoisyTraceWith present 0 x
unfolding honest_is_noisy chain_by
honest_undisturbed present x = (
  (λ honest. (honest_is_noisy present x honest, none_disturbed present (before_run honest.1) x honest.2)),
  (λ noisy. (noisy.0.0, noisy.0.1, honest_chain present (before_run noisy.0.1) x noisy.0.2 noisy.1)),
)
