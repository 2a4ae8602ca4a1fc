-- What is found, as acknowledgements come.
use Rattle.rdm_agent.proofs.Common.{◌≡◌, ℕ, ◌+◌, ◌<◌, true, false, List, [], ◌∷◌, ◌++◌, length, take, None, Some, refl}
use Rattle.rdm_agent.proofs.Common.{sym, ap, ◌∙◌, arith, length_push, has, set_of, with_uid, MOST_DEVICES, once, Seen}
use Rattle.rdm_agent.proofs.Common.{Mute, Acked, MuteAck, acked_by, acked_in, reported, AllReported}
use Rattle.std.proofs.lemmas.List.{take_all, take_at}
use Rattle.rdm_agent.specs.Cause.{IsOneTooMany}
use Rattle.rdm_agent.proofs.Pushes.{read-push_none, read-push_some}
use Rattle.rdm_agent.proofs.Sets.{has-set_of, set_of-push, set_of-again, set_of-once, once-again, once-new}
use Rattle.rdm_agent.proofs.Sets.{length-with_uid}
use Rattle.rdm_agent.proofs.Invariant.{IsFound}

-- there is room for all acknowledged UIDs
pub IsFound-all_reported : (x : List Seen) (found : List ℕ) → IsFound x found → AllReported x
IsFound-all_reported x found f = let room = f.room in let counted = f.counted in omega arith

-- the found UIDs are those that are reported
pub IsFound-reported : (x : List Seen) (found : List ℕ) → IsFound x found → found ≡ reported x
IsFound-reported x found f =
    f.set ∙ sym (ap set_of (take_all MOST_DEVICES (once (acked_in x)) (IsFound-all_reported x found f))
    ∙ set_of-once (acked_in x))

-- a UID is acknowledged exactly when it is found
pub IsFound-has : (x : List Seen) (found : List ℕ) → IsFound x found → (u : ℕ) → has (acked_in x) u ≡ has found u
IsFound-has x found f u = sym (has-set_of (acked_in x) u) ∙ ap (λ us. has us u) (sym f.set)

module _ (x : List Seen) (found : List ℕ) (e : Seen) (f : IsFound x found) where
  -- without an acknowledgement nothing is found
  pub found-same : acked_by e ≡ None → IsFound (x ++ e ∷ []) found
  found-same none = let same = read-push_none acked_by x e none in
      record {
        set = f.set ∙ ap set_of (sym same);
        counted = f.counted ∙ ap (λ us. length (once us)) (sym same);
        room = f.room;
      }

  -- nor by that of a UID that is found
  pub found-again : (u : ℕ) → acked_by e ≡ Some u → has found u ≡ true → IsFound (x ++ e ∷ []) found
  found-again u some here = let more = read-push_some acked_by x e u some in record {
    set = f.set ∙ sym (ap set_of more ∙ set_of-again (acked_in x) u (IsFound-has x found f u ∙ here));
    counted = f.counted ∙ ap length (sym (ap once more ∙ once-again (acked_in x) u (IsFound-has x found f u ∙ here)));
    room = f.room;
  }

  -- another is found
  pub found-new : (u : ℕ) → acked_by e ≡ Some u → has found u ≡ false → length found < MOST_DEVICES
      → IsFound (x ++ e ∷ []) (with_uid u found)
  found-new u some new space = record {
    set = ap (λ us. with_uid u us) f.set ∙ sym (ap set_of more ∙ set_of-push (acked_in x) u);
    counted = counted_on (length-with_uid u found new) f.counted
        (ap (λ us. length (once us)) more ∙ ap length (once-new (acked_in x) u (IsFound-has x found f u ∙ new))
        ∙ length_push (once (acked_in x)) u);
    room = let longer = length-with_uid u found new in omega arith;
  }
    where
      more : acked_in (x ++ e ∷ []) ≡ acked_in x ++ u ∷ []
      more = read-push_some acked_by x e u some

      counted_on : {a b c d : ℕ} → a ≡ b + 1 → b ≡ c → d ≡ c + 1 → a ≡ d
      counted_on p q r = omega arith

  -- one too many isn't reported
  pub found-reports : (u : ℕ) → acked_by e ≡ Some u → has found u ≡ false → length found ≡ MOST_DEVICES
      → found ≡ reported (x ++ e ∷ [])
  found-reports u some new full = f.set ∙ sym (ap set_of first ∙ set_of-once (acked_in x))
    where
      first : take MOST_DEVICES (once (acked_in (x ++ e ∷ []))) ≡ once (acked_in x)
      first = ap (λ us. take MOST_DEVICES (once us)) (read-push_some acked_by x e u some)
          ∙ ap (λ us. take MOST_DEVICES us) (once-new (acked_in x) u (IsFound-has x found f u ∙ new))
          ∙ take_at (once (acked_in x)) (u ∷ []) MOST_DEVICES (sym f.counted ∙ full)

  -- and ends the run
  pub found-one_too_many : (u : ℕ) (ack : MuteAck) → e ≡ record { asked = Mute u; heard = Acked ack }
      → has found u ≡ false → length found ≡ MOST_DEVICES → IsOneTooMany (x ++ e ∷ [])
  found-one_too_many u ack is new full = record {
    before = x;
    last = record { asked = Mute u; heard = Acked ack };
    uid = u;
    whole = ap (λ d. x ++ d ∷ []) is;
    asked = refl;
    acked = refl;
    full = ap length (sym f.set) ∙ full;
    another = IsFound-has x found f u ∙ new;
  }
