-- What a line with a set of devices, noisy or not, shows of a run.
use Rattle.rdm_agent.proofs.Common.{◌≡◌, ℕ, Bool, true, false, List, [], ◌∷◌, Option, Some, None, refl, sym, ap, ◌∙◌}
use Rattle.rdm_agent.proofs.Common.{subst, inl, inr, true≢false, MatchBool, cons_option, has, Asked, Heard, Seen}
use Rattle.rdm_agent.proofs.Common.{LineState, NoisyStep, Chain, LineCounts, KeepsMuted, MuteMovesInNoise, Unmute}
use Rattle.rdm_agent.proofs.Common.{Mute, Other, Failed, Silent, One, Acked, Noise, MuteAck, is_acked, acked_uid}
use Rattle.rdm_agent.proofs.Common.{acked_in, FailureIsLast, Branch, none-some}
use Rattle.rdm_agent.proofs.Members.{put-has}

-- only a present device acknowledges
acked-mute : (present : List ℕ) (s new : LineState) (u v : ℕ) (ack : MuteAck) (b : Bool) → has present v ≡ b
    → MatchBool b (MuteMovesInNoise v s (Acked ack) new)
    ((is_acked (Acked ack) ≡ false) × KeepsMuted v s new × LineCounts new 0 0 0)
    → Some v ≡ Some u → has present u ≡ true
acked-mute present s new u v ack true e step p = subst (λ o. of_option o) p e
  where
    of_option : Option ℕ → Type 0
    of_option None = Unit {0}
    of_option (Some w) = has present w ≡ true
acked-mute present s new u v ack false e step p = absurd (true≢false step.0)

pub acked_present : (present : List ℕ) (s new : LineState) (u : ℕ) (a : Asked) (h : Heard)
    → NoisyStep present s a h new → acked_uid a h ≡ Some u → has present u ≡ true
acked_present present s new u (Mute v) (Acked ack) step p =
    acked-mute present s new u v ack (has present v) refl step.1 p
acked_present present s new u (Mute v) Failed step p = absurd (none-some u p)
acked_present present s new u (Mute v) Silent step p = absurd (none-some u p)
acked_present present s new u (Mute v) (One w) step p = absurd (none-some u p)
acked_present present s new u (Mute v) Noise step p = absurd (none-some u p)
acked_present present s new u Unmute h step p = absurd (none-some u p)
acked_present present s new u (Branch lo hi) h step p = absurd (none-some u p)
acked_present present s new u Other h step p = absurd (none-some u p)

-- a failure acknowledges nothing
pub failed_none : (a : Asked) (h : Heard) → h ≡ Failed → acked_uid a h ≡ None
failed_none Unmute h failed = refl
failed_none (Branch lo hi) h failed = refl
failed_none (Mute u) h failed = ap (acked_uid (Mute u)) failed
failed_none Other h failed = refl

-- where nothing stands after a failure, each acknowledged UID is present: no phantom is reported
pub present_from : (present : List ℕ) (s : LineState) (x : List Seen) (u : ℕ) → FailureIsLast x
    → Chain (NoisyStep present) s x → has (acked_in x) u ≡ true → has present u ≡ true
present_from present s [] u ok c h = absurd (true≢false (sym h))
present_from present s (e ∷ x) u ok c h =
    elim c [
      | inl failed
          ↦ absurd (true≢false
          (sym (subst (λ l. has (acked_in (e ∷ l)) u ≡ true) (ok [] x e refl failed) h)
          ∙ ap (λ o. has (cons_option o []) u) (failed_none e.asked e.heard failed)))
      | inr step ↦ elim (put-has (acked_uid e.asked e.heard) (acked_in x) u h) [
        | inl here ↦ acked_present present s step.0 u e.asked e.heard step.1 here
        | inr later ↦ present_from present step.0 x u
            (λ front back d whole failed. ok (e ∷ front) back d (ap (λ l. e ∷ l) whole) failed) step.2 later
      ]
    ]
