-- No honest line whose devices come and leave has a garbled exchange.
use Rattle.std.proofs.Common.{◌≡◌, ℕ, Bool, true, false, ◌||◌, List, [], ◌∷◌, ◌++◌, refl, sym, ap, ◌∙◌, subst, inl, inr}
use Rattle.std.proofs.Common.{true≢false}
use Rattle.std.proofs.Math.Bool.{or-true}
use Rattle.std.specs.Prelude.{◌⊎◌, ◌≢◌, ◌==◌}
use Rattle.std.specs.List.{AllByRecursion}
use Rattle.rdm_wire.specs.Uid.{has, is_broadcast, IsDeviceSet}
use Rattle.rdm_wire.specs.Honest.{Asked, Heard, Seen, LineState, HonestStep, before_run, is_acked}
use Rattle.rdm_wire.specs.Honest.Asked.{Unmute, Branch, Mute, Other}
use Rattle.rdm_wire.specs.Honest.Heard.{Failed, Silent, One}
use Rattle.rdm_wire.specs.HonestOver.{ComeAndLeave, HonestOver, ChainOver, first_set}
use Rattle.rdm_explain.specs.declared.exchange.Exchange.{Exchange}
use Rattle.rdm_explain.specs.Exchanges.{seen_of, seen_all}
use Rattle.rdm_explain.specs.Garbled.{StaysMuted, IsNoAnswer, IsGarbled}
use Rattle.rdm_explain.proofs.StrayLemmas.{NoFailure}
use Rattle.rdm_explain.proofs.GarbledLemmas.{Waits, step_keeps, step_mutes, not_answered, seen_whole, cons_head}
use Rattle.rdm_explain.proofs.GarbledLemmas.{cons_tail}

-- a device that was there and is muted, unless it has left, and stays so to the end of these exchanges
pub record IsMutedOver (earlier last : List ℕ) (muted : ℕ → Bool) (u : ℕ) (x : List Seen) : Type 0 where
  pub now : has last u ≡ true → muted u ≡ true
  pub was : has earlier u ≡ true
  pub no_unmute : AllByRecursion (λ (e : Seen). e.asked ≢ Unmute) x

-- it is, or it will acknowledge its mute in these exchanges
abbrev pub WillBeMutedOver : List ℕ → List ℕ → (ℕ → Bool) → ℕ → List Seen → Type 0
WillBeMutedOver earlier last muted u x = IsMutedOver earlier last muted u x ⊎ StaysMuted u x

-- what must hold before the last exchange, for it not to be an answer
abbrev WaitsOver : List ℕ → List ℕ → (ℕ → Bool) → List Seen → Asked → Heard → Type 0
WaitsOver earlier last muted x (Branch lo hi) h =
    (lo ≡ hi) × ((h ≢ One lo) ⊎ (WillBeMutedOver earlier last muted lo x ⊎ (is_broadcast lo ≡ true)))
WaitsOver earlier last muted x (Mute u) h = is_acked h ≡ false
WaitsOver earlier last muted x Unmute h = ⊥
WaitsOver earlier last muted x Other h = ⊥

first_waits : (earlier last : List ℕ) (muted : ℕ → Bool) (x : List Seen) (a : Asked) (h : Heard) → IsNoAnswer x a h
    → WaitsOver earlier last muted x a h
first_waits earlier last muted x Unmute h wrong = wrong
first_waits earlier last muted x Other h wrong = wrong
first_waits earlier last muted x (Mute u) h wrong = wrong
first_waits earlier last muted x (Branch lo hi) h (same, inl other) = (same, inl other)
first_waits earlier last muted x (Branch lo hi) h (same, inr (inl later)) = (same, inr (inl (inr later)))
first_waits earlier last muted x (Branch lo hi) h (same, inr (inr broadcast)) = (same, inr (inr broadcast))

-- a device that has left doesn't come back, so those that are there stay muted
pub still_there : (earlier last present : List ℕ) (old moved : LineState) (u : ℕ)
    → ComeAndLeave earlier last present old moved → (has last u ≡ true → old.muted u ≡ true)
    → has earlier u ≡ true → has present u ≡ true → moved.muted u ≡ true
still_there earlier last present old moved u changes now was there = by_last (has last u) refl
  where
    by_last : (b : Bool) → has last u ≡ b → moved.muted u ≡ true
    by_last true before = changes.stays u before there ∙ now before
    by_last false absent = absurd (true≢false (sym was ∙ (changes.comes u absent there).0))

in_both : (us vs : List ℕ) (u : ℕ) → has vs u ≡ true → has (us ++ vs) u ≡ true
in_both [] vs u is = is
in_both (v ∷ us) vs u is = ap (λ b. (u == v) || b) (in_both us vs u is) ∙ or-true (u == v)

in_first : (us vs : List ℕ) (u : ℕ) → has us u ≡ true → has (us ++ vs) u ≡ true
in_first [] vs u is = absurd (true≢false (sym is))
in_first (v ∷ us) vs u is = by_test (u == v) is (λ h. in_first us vs u h)
  where
    by_test : (b : Bool) → (b || has us u) ≡ true → (has us u ≡ true → has (us ++ vs) u ≡ true)
        → (b || has (us ++ vs) u) ≡ true
    by_test true h rest = refl
    by_test false h rest = rest h

pub step_waits : (earlier last present : List ℕ) (old moved new : LineState) (u : ℕ) (e : Seen) (x : List Seen)
    → ComeAndLeave earlier last present old moved → HonestStep present moved e.asked e.heard new
    → WillBeMutedOver earlier last old.muted u (e ∷ x)
    → WillBeMutedOver (present ++ earlier) present new.muted u x
step_waits earlier last present old moved new u e x changes step (inl is) = inl (record {
  now = λ there.
      step_keeps present moved new u e.asked e.heard is.no_unmute.0 step
      (still_there earlier last present old moved u changes is.now is.was there);
  was = in_both present earlier u is.was;
  no_unmute = is.no_unmute.1;
})
step_waits earlier last present old moved new u e x changes step (inr later) = by_front later.front later.whole
  where
    by_front : (front : List Seen) → e ∷ x ≡ front ++ later.mute ∷ later.back
        → WillBeMutedOver (present ++ earlier) present new.muted u x
    by_front [] whole =
        let here : e ≡ later.mute = cons_head _ _ _ _ whole in
        let rest : x ≡ later.back = cons_tail _ _ _ _ whole in
        let muted = step_mutes present moved new u e.asked e.heard (ap (λ s. s.asked) here ∙ later.asked)
        (ap (λ s. is_acked s.heard) here ∙ later.acked) step in
        inl (record {
          now = λ there. muted.1;
          was = in_first present earlier u muted.0;
          no_unmute = subst (λ l. AllByRecursion (λ (s : Seen). s.asked ≢ Unmute) l) (sym rest) later.no_unmute;
        })
    by_front (y ∷ front) whole = inr (record {
      front = front;
      mute = later.mute;
      back = later.back;
      whole = cons_tail _ _ _ _ whole;
      asked = later.asked;
      acked = later.acked;
      no_unmute = later.no_unmute;
    })

next_waits : (earlier last present : List ℕ) (old moved new : LineState) (e : Seen) (x : List Seen) (a : Asked)
    (h : Heard) → ComeAndLeave earlier last present old moved → HonestStep present moved e.asked e.heard new
    → WaitsOver earlier last old.muted (e ∷ x) a h → WaitsOver (present ++ earlier) present new.muted x a h
next_waits earlier last present old moved new e x Unmute h changes step waits = waits
next_waits earlier last present old moved new e x Other h changes step waits = waits
next_waits earlier last present old moved new e x (Mute u) h changes step waits = waits
next_waits earlier last present old moved new e x (Branch lo hi) h changes step (same, inl other) = (same, inl other)
next_waits earlier last present old moved new e x (Branch lo hi) h changes step (same, inr (inl later)) =
    (same, inr (inl (step_waits earlier last present old moved new lo e x changes step later)))
next_waits earlier last present old moved new e x (Branch lo hi) h changes step (same, inr (inr broadcast)) =
    (same, inr (inr broadcast))

-- before the last exchange devices leave and come, too
last_waits : (earlier last present : List ℕ) (old moved : LineState) (a : Asked) (h : Heard)
    → ComeAndLeave earlier last present old moved → WaitsOver earlier last old.muted [] a h
    → Waits present moved.muted [] a h
last_waits earlier last present old moved Unmute h changes waits = waits
last_waits earlier last present old moved Other h changes waits = waits
last_waits earlier last present old moved (Mute u) h changes waits = waits
last_waits earlier last present old moved (Branch lo hi) h changes (same, inl other) = (same, inl other)
last_waits earlier last present old moved (Branch lo hi) h changes (same, inr (inr broadcast)) =
    (same, inr (inr broadcast))
last_waits earlier last present old moved (Branch lo hi) h changes (same, inr (inl (inr later))) =
    (same, inr (inl (inr later)))
last_waits earlier last present old moved (Branch lo hi) h changes (same, inr (inl (inl is))) = (
  same,
  inr (inl (inl (record {
    now = λ there. still_there earlier last present old moved lo changes is.now is.was there;
    no_unmute = tt;
  }))),
)

in_chain_over : (earlier last : List ℕ) (s : LineState) (sets : List (List ℕ)) (front : List Seen) (e : Seen)
    (rest : List Seen) → AllByRecursion IsDeviceSet sets → NoFailure front → e.heard ≢ Failed → e.heard ≢ Silent
    → WaitsOver earlier last s.muted front e.asked e.heard → ChainOver earlier last s sets (front ++ e ∷ rest) → ⊥
in_chain_over earlier last s [] [] e rest all ok fine loud waits chain = chain
in_chain_over earlier last s [] (x ∷ front) e rest all ok fine loud waits chain = chain
in_chain_over earlier last s (present ∷ sets) [] e rest all ok fine loud waits (moved, changes, inl failed) =
    fine failed
in_chain_over earlier last s (present ∷ sets) [] e rest all ok fine loud waits (moved, changes, inr step) =
    not_answered present moved step.0 e.asked e.heard all.0 loud
    (last_waits earlier last present s moved e.asked e.heard changes waits) step.1
in_chain_over earlier last s (present ∷ sets) (x ∷ front) e rest all ok fine loud waits (moved, changes, inl failed) =
    ok.0 failed
in_chain_over earlier last s (present ∷ sets) (x ∷ front) e rest all ok fine loud waits (moved, changes, inr step) =
    in_chain_over (present ++ earlier) present step.0 sets front e rest all.1 ok.1 fine loud
    (next_waits earlier last present s moved step.0 x front e.asked e.heard changes step.1 waits) step.2

pub garbled_dishonest_over : (sets : List (List ℕ)) (xs : List Exchange) (at : ℕ) → IsGarbled xs at
    → HonestOver sets (seen_all xs) → ⊥
garbled_dishonest_over sets xs at g honest =
    in_chain_over (first_set sets) (first_set sets) (before_run honest.muted) sets (seen_all g.front)
    (seen_of g.exchange) (seen_all g.back) honest.devices g.no_failure g.garbled.not_failed g.garbled.not_silent
    (first_waits (first_set sets) (first_set sets) honest.muted (seen_all g.front) (seen_of g.exchange).asked
    (seen_of g.exchange).heard g.garbled.no_answer)
    (subst (λ l. ChainOver (first_set sets) (first_set sets) (before_run honest.muted) sets l) (seen_whole xs at g)
    honest.chain)
