-- What an exchange after the unmutes keeps.
use Rattle.rdm_agent.proofs.Common.{◌≡◌, ℕ, true, false, List, [], ◌∷◌, ◌++◌, ◌+◌, Option, None, Some, refl, sym, ap}
use Rattle.rdm_agent.proofs.Common.{◌∙◌, subst, inl, inr, true≢false, append_assoc, append-nil, ◌⊎◌, length_push, has}
use Rattle.rdm_agent.proofs.Common.{IsDevice, Heard, Seen, is_acked, Branch, Mute, Acked, Failed, Silent, One, Noise}
use Rattle.rdm_agent.proofs.Common.{MuteAck, EachAfter-push, acked_uid, muted_by, read_in, InSuccession, IsLostMute}
use Rattle.rdm_agent.proofs.Common.{IsTried, MutesNamed, TRIES, length, AllByRecursion, arith, ◌≤◌, zero, suc}
use Rattle.rdm_agent.proofs.Common.{cases_lt, none-some, same_Some}
use Rattle.rdm_agent.proofs.OneDevice.{NotFailed}
use Rattle.rdm_agent.proofs.Pushes.{All-push, push-has, begun-push, IsTried-push}
use Rattle.rdm_agent.proofs.Invariant.{EndsWith, IsFound, IsUnderWay}

-- the last exchanges, as one more comes
pub EndsWith-none : (P : Seen → Type 0) (x : List Seen) → EndsWith 0 P x
EndsWith-none P x = record { front = x; run = []; whole = sym (append-nil x); many = refl; each = tt }

pub EndsWith-push : {n : ℕ} {P : Seen → Type 0} {x : List Seen} (e : Seen) → EndsWith n P x → P e
    → EndsWith (n + 1) P (x ++ e ∷ [])
EndsWith-push {n} {P} e s p = record {
  front = s.front;
  run = s.run ++ e ∷ [];
  whole = ap (λ l. l ++ e ∷ []) s.whole ∙ append_assoc s.front s.run (e ∷ []);
  many = length_push s.run e ∙ ap (λ m. m + 1) s.many;
  each = All-push P s.run e s.each p;
}

pub EndsWith-fewer : {P : Seen → Type 0} {x : List Seen} (n : ℕ) → EndsWith (n + 1) P x → EndsWith n P x
EndsWith-fewer {P} {x} n s = by_run s.run s.whole s.many s.each
  where
    by_run : (run : List Seen) → x ≡ s.front ++ run → length run ≡ n + 1 → AllByRecursion P run → EndsWith n P x
    by_run [] whole many each = absurd (omega (arith, many))
    by_run (e ∷ run) whole many each = record {
      front = s.front ++ e ∷ [];
      run = run;
      whole = whole ∙ sym (append_assoc s.front (e ∷ []) run);
      many = omega (arith, many);
      each = each.1;
    }

pub EndsWith-succession : {n : ℕ} {P : Seen → Type 0} {x : List Seen} → EndsWith n P x → InSuccession n P x
EndsWith-succession s = record {
  front = s.front;
  run = s.run;
  back = [];
  whole = s.whole ∙ sym (append-nil (s.front ++ s.run));
  many = s.many;
  each = s.each;
}

-- fewer in a row
InSuccession-one_fewer : {P : Seen → Type 0} {x : List Seen} (n : ℕ) → InSuccession (suc n) P x → InSuccession n P x
InSuccession-one_fewer {P} {x} n s = by_run s.run s.whole s.many s.each
  where
    by_run : (run : List Seen) → x ≡ s.front ++ run ++ s.back → length run ≡ suc n → AllByRecursion P run
        → InSuccession n P x
    by_run [] whole many each = absurd (omega (arith, many))
    by_run (e ∷ run) whole many each = record {
      front = s.front ++ e ∷ [];
      run = run;
      back = s.back;
      whole = whole ∙ ap (λ l. l ++ s.back) (sym (append_assoc s.front (e ∷ []) run));
      many = omega (arith, many);
      each = each.1;
    }

pub InSuccession-fewer : {P : Seen → Type 0} {x : List Seen} (m n : ℕ) → m ≤ n → InSuccession n P x
    → InSuccession m P x
InSuccession-fewer {P} {x} m zero less s = subst (λ k. InSuccession k P x) (let none : 0 ≡ m = omega arith in none) s
InSuccession-fewer {P} {x} m (suc n) less s = elim (cases_lt m (suc n)) [
  | inl lower ↦ InSuccession-fewer m n (omega (arith, lower)) (InSuccession-one_fewer n s)
  | inr same ↦ subst (λ k. InSuccession k P x) (let all : suc n ≡ m = omega (arith, same, less) in all) s
]

-- a mute that is lost acknowledges nothing
pub lost-acks_none : (u : ℕ) (h : Heard) → is_acked h ≡ false → acked_uid (Mute u) h ≡ None
lost-acks_none u (Acked ack) lost = absurd (true≢false lost)
lost-acks_none u Failed lost = refl
lost-acks_none u Silent lost = refl
lost-acks_none u (One v) lost = refl
lost-acks_none u Noise lost = refl

-- a mute of a UID that is known, or was read
pub named-mute : (known : List ℕ) (x : List Seen) (u : ℕ) (h : Heard) → (has known u ≡ true)
    ⊎ (has (read_in x) u ≡ true) → MutesNamed known x (record { asked = Mute u; heard = h })
named-mute known x u h was v p =
    subst (λ (w : ℕ). (has known w ≡ true) ⊎ (has (read_in x) w ≡ true)) (same_Some u v p) was

module _ (known : List ℕ) (x : List Seen) (found : List ℕ) where
  -- what one more exchange keeps: later and more are what is busy and found after it
  pushed : (busy later : Option ℕ) (more : List ℕ) (e : Seen) → IsUnderWay known busy x found → NotFailed e
      → IsFound (x ++ e ∷ []) more → ((u : ℕ) → has found u ≡ true → has more u ≡ true)
      → ((u : ℕ) → (busy ≡ Some u) ⊎ (muted_by e ≡ Some u) → (later ≡ Some u) ⊎ IsTried more (x ++ e ∷ []) u)
      → MutesNamed known x e → IsUnderWay known later (x ++ e ∷ []) more
  pushed busy later more e w sound is_found grows moved named = record {
    begun = begun-push x (e ∷ []) w.begun;
    no_failure = All-push NotFailed x e w.no_failure sound;
    is_found = is_found;
    tried = λ u h. elim (push-has muted_by x e u h) [
      | inl before ↦ elim (w.tried u before) [
        | inl was ↦ moved u (inl was)
        | inr tried ↦ inr (IsTried-push more (e ∷ []) (grows u) tried)
      ]
      | inr last ↦ moved u (inr last)
    ];
    named = EachAfter-push (MutesNamed known) x e w.named named;
  }

  -- a branch
  pub under_way-branch : (busy : Option ℕ) (lo hi : ℕ) (h : Heard) → IsUnderWay known None x found
      → NotFailed (record { asked = Branch lo hi; heard = h })
      → IsFound (x ++ record { asked = Branch lo hi; heard = h } ∷ []) found
      → IsUnderWay known busy (x ++ record { asked = Branch lo hi; heard = h } ∷ []) found
  under_way-branch busy lo hi h w sound is_found =
      pushed None busy found (record { asked = Branch lo hi; heard = h }) w sound is_found (λ u here. here)
      (λ u was. absurd (nobody u was)) (λ u was. absurd (none-some u was))
    where
      nobody : (u : ℕ) → (None ≡ Some u) ⊎ (None ≡ Some u) → ⊥
      nobody u (inl p) = none-some u p
      nobody u (inr p) = none-some u p

  -- a mute that is lost
  pub under_way-lost : (u : ℕ) (h : Heard) → IsUnderWay known (Some u) x found
      → NotFailed (record { asked = Mute u; heard = h })
      → IsFound (x ++ record { asked = Mute u; heard = h } ∷ []) found
      → MutesNamed known x (record { asked = Mute u; heard = h })
      → IsUnderWay known (Some u) (x ++ record { asked = Mute u; heard = h } ∷ []) found
  under_way-lost u h w sound is_found named = pushed (Some u) (Some u) found (record { asked = Mute u; heard = h }) w
      sound is_found (λ v here. here) (λ v was. inl (elim was [ inl p ↦ p | inr p ↦ p ])) named

  -- one that is acknowledged
  pub under_way-acked : (u : ℕ) (ack : MuteAck) (more : List ℕ) → IsDevice u → IsUnderWay known (Some u) x found
      → IsFound (x ++ record { asked = Mute u; heard = Acked ack } ∷ []) more
      → ((v : ℕ) → has found v ≡ true → has more v ≡ true) → has more u ≡ true
      → MutesNamed known x (record { asked = Mute u; heard = Acked ack })
      → IsUnderWay known None (x ++ record { asked = Mute u; heard = Acked ack } ∷ []) more
  under_way-acked u ack more device w is_found grows here named =
      pushed (Some u) None more (record { asked = Mute u; heard = Acked ack }) w sound is_found grows
      (λ v was. inr (tried v (elim was [ inl p ↦ p | inr p ↦ p ]))) named
    where
      sound : Acked ack ≡ Failed → ⊥
      sound p = cc

      tried : (v : ℕ) → Some u ≡ Some v → IsTried more (x ++ record { asked = Mute u; heard = Acked ack } ∷ []) v
      tried v p =
          subst (λ (w : ℕ). IsTried more (x ++ record { asked = Mute u; heard = Acked ack } ∷ []) w) (same_Some u v p)
          (record { device = device; tried = inl here })

-- what is given up was lost five times
pub under_way-given_up : (known : List ℕ) (u : ℕ) (x : List Seen) (found : List ℕ) → IsDevice u
    → InSuccession TRIES (IsLostMute u) x → IsUnderWay known (Some u) x found → IsUnderWay known None x found
under_way-given_up known u x found device five w = record {
  begun = w.begun;
  no_failure = w.no_failure;
  is_found = w.is_found;
  tried = λ v h. elim (w.tried v h) [
    | inl busy ↦ inr (subst (λ (w : ℕ). IsTried found x w) (same_Some u v busy)
        (record { device = device; tried = inr five }))
    | inr tried ↦ inr tried
  ];
  named = w.named;
}

-- the next one has begun
pub under_way-next_begun : (known : List ℕ) (u : ℕ) (x : List Seen) (found : List ℕ) → IsUnderWay known None x found
    → IsUnderWay known (Some u) x found
under_way-next_begun known u x found w = record {
  begun = w.begun;
  no_failure = w.no_failure;
  is_found = w.is_found;
  tried = λ v h. elim (w.tried v h) [ inl nobody ↦ absurd (none-some v nobody) | inr tried ↦ inr tried ];
  named = w.named;
}
