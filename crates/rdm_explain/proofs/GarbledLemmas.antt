-- The first garbled exchange, and that no honest line has one.
use Rattle.std.proofs.Common.{◌≡◌, ℕ, ◌+◌, ◌<◌, ◌≤◌, Bool, true, false, ◌&&◌, ◌||◌, not, List, [], ◌∷◌, ◌++◌, refl, sym}
use Rattle.std.proofs.Common.{ap, ◌∙◌, subst, inl, inr, true≢false, arith, length, take, drop, get_or, length-append}
use Rattle.std.specs.Prelude.{◌⊎◌, ◌≢◌, ◌==◌, nat_le, filter, MatchBool, if◌then◌else◌}
use Rattle.std.specs.List.{AllByRecursion}
use Rattle.std.proofs.lemmas.List.{map-append, take_at, get_or_at, drop_more, take-append-drop}
use Rattle.std.proofs.lemmas.List.{length-take-le}
use Rattle.std.proofs.lemmas.Bool.{and_parts, and_from, or_cases, cases_lt, eqb-true, eq-eqb, leb-true, not-true}
use Rattle.std.proofs.Math.Bool.{or-true}
use Rattle.rdm_wire.specs.Uid.{has, is_broadcast, is_within, IsAscending, IsDevice, IsDeviceSet}
use Rattle.rdm_wire.specs.Honest.{Asked, Heard, Seen, LineState, HonestStep, HonestTrace, Chain, MayReply, MuteMoves}
use Rattle.rdm_wire.specs.Honest.{KeepsMuted, LineCounts, due_in, before_run, is_acked}
use Rattle.rdm_agent.proofs.LeftLemmas.{at_most_one}
use Rattle.rdm_wire.specs.Honest.Asked.{Unmute, Branch, Mute, Other}
use Rattle.rdm_wire.specs.Honest.Heard.{Failed, Silent, One, Acked, Noise}
use Rattle.rdm_explain.specs.declared.exchange.Exchange.{Exchange}
use Rattle.rdm_explain.specs.Exchanges.{seen_of, seen_all}
use Rattle.rdm_explain.specs.Garbled.{StaysMuted, IsNoAnswer, IsGarbledExchange, IsGarbled}
use Rattle.rdm_explain.specs.body.Garbling.{stays_muted, is_wrong_reply, is_no_acknowledgement, is_garbled_by}
use Rattle.rdm_explain.specs.body.Garbling.{is_garbled}
use Rattle.rdm_explain.proofs.ElementLemmas.{own_elements}
use Rattle.rdm_explain.proofs.MutedLemmas.{muted_is, muted_test}
use Rattle.rdm_explain.proofs.StrayLemmas.{NoFailure, failed_in}

pub cons_head : {X : Type 0} (x y : X) (xs ys : List X) → x ∷ xs ≡ y ∷ ys → x ≡ y
cons_head x y xs ys e = cc

pub cons_tail : {X : Type 0} (x y : X) (xs ys : List X) → x ∷ xs ≡ y ∷ ys → xs ≡ ys
cons_tail x y xs ys e = cc

nil_cons : {X : Type 0} (x : X) (xs : List X) → [] ≡ x ∷ xs → ⊥
nil_cons x xs e = cc

one_is : (u v : ℕ) → One v ≡ One u → v ≡ u
one_is u v e = cc

-- bytes that u mustn't send
record WrongReply (u : ℕ) (x : List Seen) (h : Heard) : Type 0 where
  not_failed : h ≢ Failed
  not_silent : h ≢ Silent
  wrong : (h ≢ One u) ⊎ (StaysMuted u x ⊎ (is_broadcast u ≡ true))

wrong_reply : (u : ℕ) (x : List Seen) (h : Heard) → is_wrong_reply (stays_muted x u) u h ≡ true → WrongReply u x h
wrong_reply u x Failed is = absurd (true≢false (sym is))
wrong_reply u x Silent is = absurd (true≢false (sym is))
wrong_reply u x (One v) is = record {
  not_failed = λ e. cc;
  not_silent = λ e. cc;
  wrong = elim (or_cases (stays_muted x u) (not (v == u) || is_broadcast u) is) [
    | inl muted ↦ inr (inl (muted_is u x muted))
    | inr rest ↦ elim (or_cases (not (v == u)) (is_broadcast u) rest) [
      | inl other ↦ inl (λ e. true≢false (sym (eq-eqb v u (one_is u v e)) ∙ not-true (v == u) other))
      | inr broadcast ↦ inr (inr broadcast)
    ]
  ];
}
wrong_reply u x (Acked ack) is = record { not_failed = λ e. cc; not_silent = λ e. cc; wrong = inl (λ e. cc) }
wrong_reply u x Noise is = record { not_failed = λ e. cc; not_silent = λ e. cc; wrong = inl (λ e. cc) }

of_wrong : (u : ℕ) (x : List Seen) (h : Heard) → h ≢ Failed → h ≢ Silent
    → (h ≢ One u) ⊎ (StaysMuted u x ⊎ (is_broadcast u ≡ true)) → is_wrong_reply (stays_muted x u) u h ≡ true
of_wrong u x Failed fine loud wrong = absurd (fine refl)
of_wrong u x Silent fine loud wrong = absurd (loud refl)
of_wrong u x (One v) fine loud (inl other) = by_test (v == u) refl
  where
    by_test : (b : Bool) → (v == u) ≡ b → (stays_muted x u || (not b || is_broadcast u)) ≡ true
    by_test true is = absurd (other (ap (λ w. One w) (eqb-true v u is)))
    by_test false is = or-true (stays_muted x u)
of_wrong u x (One v) fine loud (inr (inl muted)) =
    ap (λ b. b || (not (v == u) || is_broadcast u)) (muted_test u x muted)
of_wrong u x (One v) fine loud (inr (inr broadcast)) =
    ap (λ b. stays_muted x u || (not (v == u) || b)) broadcast
    ∙ ap (λ b. stays_muted x u || b) (or-true (not (v == u))) ∙ or-true (stays_muted x u)
of_wrong u x (Acked ack) fine loud wrong = refl
of_wrong u x Noise fine loud wrong = refl

-- bytes that don't answer this
record Garbles (x : List Seen) (a : Asked) (h : Heard) : Type 0 where
  not_failed : h ≢ Failed
  not_silent : h ≢ Silent
  no_answer : IsNoAnswer x a h

unacked : (x : List Seen) (u : ℕ) (h : Heard) → is_no_acknowledgement h ≡ true → Garbles x (Mute u) h
unacked x u Failed is = absurd (true≢false (sym is))
unacked x u Silent is = absurd (true≢false (sym is))
unacked x u (One v) is = record { not_failed = λ e. cc; not_silent = λ e. cc; no_answer = refl }
unacked x u (Acked ack) is = absurd (true≢false (sym is))
unacked x u Noise is = record { not_failed = λ e. cc; not_silent = λ e. cc; no_answer = refl }

of_unacked : (h : Heard) → h ≢ Failed → h ≢ Silent → is_acked h ≡ false → is_no_acknowledgement h ≡ true
of_unacked Failed fine loud wrong = absurd (fine refl)
of_unacked Silent fine loud wrong = absurd (loud refl)
of_unacked (One v) fine loud wrong = refl
of_unacked (Acked ack) fine loud wrong = absurd (true≢false wrong)
of_unacked Noise fine loud wrong = refl

garbles : (x : List Seen) (a : Asked) (h : Heard) → is_garbled_by (stays_muted x) a h ≡ true → Garbles x a h
garbles x Unmute h holds = absurd (true≢false (sym holds))
garbles x Other h holds = absurd (true≢false (sym holds))
garbles x (Mute u) h holds = unacked x u h holds
garbles x (Branch lo hi) h holds =
    let both = and_parts (lo == hi) (is_wrong_reply (stays_muted x lo) lo h) holds in
    let reply = wrong_reply lo x h both.1 in record {
      not_failed = reply.not_failed;
      not_silent = reply.not_silent;
      no_answer = (eqb-true lo hi both.0, reply.wrong);
    }

of_garbles : (x : List Seen) (a : Asked) (h : Heard) → h ≢ Failed → h ≢ Silent → IsNoAnswer x a h
    → is_garbled_by (stays_muted x) a h ≡ true
of_garbles x Unmute h fine loud wrong = absurd wrong
of_garbles x Other h fine loud wrong = absurd wrong
of_garbles x (Mute u) h fine loud wrong = of_unacked h fine loud wrong
of_garbles x (Branch lo hi) h fine loud wrong =
    and_from (lo == hi) (is_wrong_reply (stays_muted x lo) lo h) (eq-eqb lo hi wrong.0)
    (of_wrong lo x h fine loud wrong.1)

-- the test decides
pub garbled_is : (x : List Seen) (e : Seen) → is_garbled (stays_muted x) e ≡ true → IsGarbledExchange x e
garbled_is x e is =
    let g = garbles x e.asked e.heard is in
    record { not_failed = g.not_failed; not_silent = g.not_silent; no_answer = g.no_answer }

pub is_garbled_of : (x : List Seen) (e : Seen) → IsGarbledExchange x e → is_garbled (stays_muted x) e ≡ true
is_garbled_of x e g = of_garbles x e.asked e.heard g.not_failed g.not_silent g.no_answer

-- by the set of muted devices
pub same_test : (f g : ℕ → Bool) (e : Seen) → ((u : ℕ) → f u ≡ g u) → is_garbled f e ≡ is_garbled g e
same_test f g e same = by_asked e.asked e.heard
  where
    by_asked : (a : Asked) (h : Heard) → is_garbled_by f a h ≡ is_garbled_by g a h
    by_asked Unmute h = refl
    by_asked Other h = refl
    by_asked (Mute u) h = refl
    by_asked (Branch lo hi) h = ap (λ b. (lo == hi) && is_wrong_reply b lo h) (same lo)

-- at an index
pub garbled_at : (xs : List Exchange) (at : ℕ) (e : Exchange) → at < length xs → e ≡ get_or xs at e
    → NoFailure (seen_all (take at xs)) → is_garbled (stays_muted (seen_all (take at xs))) (seen_of e) ≡ true
    → IsGarbled xs at
garbled_at xs at e within read ok holds = record {
  front = take at xs;
  exchange = e;
  back = drop (at + 1) xs;
  whole = sym (take-append-drop at xs)
      ∙ ap (λ l. take at xs ++ l) (drop_more xs at e within ∙ ap (λ x. x ∷ drop (at + 1) xs) (sym read));
  index = length-take-le at xs (omega arith);
  no_failure = ok;
  garbled = garbled_is (seen_all (take at xs)) (seen_of e) holds;
}

same_exchange : (xs : List Exchange) (at : ℕ) (e : Exchange) → e ≡ get_or xs at e → (g : IsGarbled xs at)
    → g.exchange ≡ e
same_exchange xs at e read g =
    sym (read ∙ ap (λ l. get_or l at e) g.whole ∙ get_or_at g.front g.exchange g.back e at g.index)

same_front : (xs : List Exchange) (at : ℕ) (g : IsGarbled xs at) → g.front ≡ take at xs
same_front xs at g = sym (ap (take at) g.whole ∙ take_at g.front (g.exchange ∷ g.back) at g.index)

pub at_garbled : (xs : List Exchange) (at : ℕ) (e : Exchange) → e ≡ get_or xs at e → IsGarbled xs at
    → is_garbled (stays_muted (seen_all (take at xs))) (seen_of e) ≡ true
at_garbled xs at e read g =
    subst (λ l. is_garbled (stays_muted (seen_all l)) (seen_of e) ≡ true) (same_front xs at g)
    (subst (λ x. is_garbled (stays_muted (seen_all g.front)) (seen_of x) ≡ true) (same_exchange xs at e read g)
    (is_garbled_of (seen_all g.front) (seen_of g.exchange) g.garbled))

-- a garbled exchange is within the list
pub garbled_within : (xs : List Exchange) (at : ℕ) → IsGarbled xs at → at < length xs
garbled_within xs at g =
    let long : length xs ≡ length g.front + length (g.exchange ∷ g.back)
    = ap length g.whole ∙ length-append g.front (g.exchange ∷ g.back) in
    omega (arith, long, g.index)

-- none comes with a failure or after it
pub none_after : (xs : List Exchange) (at : ℕ) (e : Exchange) → at < length xs → e ≡ get_or xs at e
    → (seen_of e).heard ≡ Failed → (j : ℕ) → at ≤ j → IsGarbled xs j → ⊥
none_after xs at e within read failed j more g = by_order (cases_lt at j)
  where
    by_order : (at < j) ⊎ (j ≤ at) → ⊥
    by_order (inl later) =
        failed_in xs j at e later within (ap (λ x. (seen_of x).heard) (sym read) ∙ failed)
        (subst (λ l. NoFailure (seen_all l)) (same_front xs j g) g.no_failure)
    by_order (inr less) =
        let same : j ≡ at = omega (arith, more, less) in
        let here = subst (IsGarbled xs) same g in
        here.garbled.not_failed (ap (λ x. (seen_of x).heard) (same_exchange xs at e read here) ∙ failed)

-- of devices at most one has a given UID, and it replies with its text or is silent
one_reply : (t : ℕ → Bool) (us : List ℕ) (u : ℕ) (h : Heard) → IsAscending us → ((v : ℕ) → t v ≡ true → v ≡ u)
    → h ≢ Silent → h ≢ One u → MayReply (filter t us) h → ⊥
one_reply t [] u h asc only loud other = loud
one_reply t (v ∷ us) u h asc only loud other =
    by_test (t v) refl (at_most_one t (v ∷ us) u asc only) (one_reply t us u h asc.1 only loud other)
  where
    by_rest : (l : List ℕ) → length (v ∷ l) ≤ 1 → v ≡ u → MayReply (v ∷ l) h → ⊥
    by_rest [] few same (inl its) = other (its ∙ ap (λ w. One w) same)
    by_rest [] few same (inr silent) = loud silent
    by_rest (w ∷ l) few same may = omega arith

    by_test : (b : Bool) → t v ≡ b → length (if b then v ∷ filter t us else filter t us) ≤ 1
        → (MayReply (filter t us) h → ⊥) → MayReply (if b then v ∷ filter t us else filter t us) h → ⊥
    by_test true passes few rest may = by_rest (filter t us) few (only v passes) may
    by_test false fails few rest may = rest may

within_itself : (u v : ℕ) → is_within u u v ≡ true → v ≡ u
within_itself u v is =
    let both = and_parts (nat_le u v) (nat_le v u) is in
    let low : u ≤ v = leb-true u v both.0 in
    let high : v ≤ u = leb-true v u both.1 in omega (arith, low, high)

after_mute : (present : List ℕ) (old new : LineState) (u : ℕ) (h : Heard) (b : Bool) → h ≢ Silent → is_acked h ≡ false
    → MatchBool b (MuteMoves u old h new) ((h ≡ Silent) × KeepsMuted u old new × LineCounts new 0 0 0) → ⊥
after_mute present old new u h true loud wrong (inl acked) = true≢false (sym acked.0 ∙ wrong)
after_mute present old new u h true loud wrong (inr silent) = loud silent.0
after_mute present old new u h false loud wrong absent = loud absent.0

-- no device is due after a branch of one that is muted
none_pass : (t : ℕ → Bool) (us : List ℕ) → AllByRecursion (λ v. t v ≡ false) us → filter t us ≡ []
none_pass t [] all = refl
none_pass t (v ∷ us) all = rw (all.0, none_pass t us all.1) refl

none_due : (present us : List ℕ) (muted : ℕ → Bool) (u : ℕ) → (has present u ≡ true → muted u ≡ true)
    → AllByRecursion (λ v. has present v ≡ true) us
    → AllByRecursion (λ v. (is_within u u v && not (muted v)) ≡ false) us
none_due present [] muted u is all = tt
none_due present (v ∷ us) muted u is all = (by_within (is_within u u v) refl, none_due present us muted u is all.1)
  where
    by_within : (b : Bool) → is_within u u v ≡ b → (b && not (muted v)) ≡ false
    by_within false outside = refl
    by_within true within =
        let same : v ≡ u = within_itself u v within in
        ap not (ap muted same ∙ is (subst (λ k. has present k ≡ true) same all.0))

muted_silent : (present : List ℕ) (muted : ℕ → Bool) (lo hi : ℕ) (h : Heard) → lo ≡ hi
    → (has present lo ≡ true → muted lo ≡ true) → MayReply (due_in present muted lo hi) h → h ≡ Silent
muted_silent present muted lo hi h same is may =
    subst (λ l. MayReply l h)
    (ap (λ k. due_in present muted lo k) (sym same)
    ∙ none_pass (λ v. is_within lo lo v && not (muted v)) present
    (none_due present present muted lo is (own_elements [] present))) may

-- a device that is muted, and stays so to the end of these exchanges
pub record IsMutedFor (present : List ℕ) (muted : ℕ → Bool) (u : ℕ) (x : List Seen) : Type 0 where
  pub now : has present u ≡ true → muted u ≡ true
  pub no_unmute : AllByRecursion (λ (e : Seen). e.asked ≢ Unmute) x

-- it is, or it will acknowledge its mute in these exchanges
abbrev pub WillBeMuted : List ℕ → (ℕ → Bool) → ℕ → List Seen → Type 0
WillBeMuted present muted u x = IsMutedFor present muted u x ⊎ StaysMuted u x

-- an honest step keeps a device muted, if it isn't an unmute
pub step_keeps : (present : List ℕ) (old new : LineState) (u : ℕ) (a : Asked) (h : Heard) → a ≢ Unmute
    → HonestStep present old a h new → old.muted u ≡ true → new.muted u ≡ true
step_keeps present old new u Unmute h other step is = absurd (other refl)
step_keeps present old new u Other h other step is = step.0 u ∙ is
step_keeps present old new u (Branch lo hi) h other step is = step.1 u ∙ is
step_keeps present old new u (Mute v) h other step is = by_uid (v == u) refl
  where
    by_present : (b : Bool) → v ≡ u
        → MatchBool b (MuteMoves v old h new) ((h ≡ Silent) × KeepsMuted v old new × LineCounts new 0 0 0)
        → new.muted u ≡ true
    by_present true same (inl acked) = ap new.muted (sym same) ∙ acked.1
    by_present true same (inr silent) = elim silent.1 [
      | inl muted ↦ ap new.muted (sym same) ∙ muted
      | inr keeps ↦ ap new.muted (sym same) ∙ keeps ∙ ap old.muted same ∙ is
    ]
    by_present false same absent = ap new.muted (sym same) ∙ absent.1 ∙ ap old.muted same ∙ is

    by_uid : (b : Bool) → (v == u) ≡ b → new.muted u ≡ true
    by_uid false apart = step.0 u apart ∙ is
    by_uid true same = by_present (has present v) (eqb-true v u same) step.1

-- a device that acknowledges its mute is there, and is muted
pub step_mutes : (present : List ℕ) (old new : LineState) (u : ℕ) (a : Asked) (h : Heard) → a ≡ Mute u
    → is_acked h ≡ true → HonestStep present old a h new → (has present u ≡ true) × (new.muted u ≡ true)
step_mutes present old new u a h is acked step =
    by_present (has present u) refl (subst (λ b. HonestStep present old b h new) is step).1
  where
    unsilent : h ≡ Silent → ⊥
    unsilent silent = true≢false (sym (sym (ap is_acked silent) ∙ acked))

    by_present : (b : Bool) → has present u ≡ b
        → MatchBool b (MuteMoves u old h new) ((h ≡ Silent) × KeepsMuted u old new × LineCounts new 0 0 0)
        → (has present u ≡ true) × (new.muted u ≡ true)
    by_present true there (inl moves) = (there, moves.1)
    by_present true there (inr silent) = absurd (unsilent silent.0)
    by_present false there absent = absurd (unsilent absent.0)

step_waits : (present : List ℕ) (old new : LineState) (u : ℕ) (e : Seen) (x : List Seen)
    → HonestStep present old e.asked e.heard new → WillBeMuted present old.muted u (e ∷ x)
    → WillBeMuted present new.muted u x
step_waits present old new u e x step (inl is) = inl (record {
  now = λ there. step_keeps present old new u e.asked e.heard is.no_unmute.0 step (is.now there);
  no_unmute = is.no_unmute.1;
})
step_waits present old new u e x step (inr later) = by_front later.front later.whole
  where
    by_front : (front : List Seen) → e ∷ x ≡ front ++ later.mute ∷ later.back → WillBeMuted present new.muted u x
    by_front [] whole =
        let here : e ≡ later.mute = cons_head _ _ _ _ whole in
        let rest : x ≡ later.back = cons_tail _ _ _ _ whole in
        inl (record {
          now = λ there.
              (step_mutes present old new u e.asked e.heard (ap (λ s. s.asked) here ∙ later.asked)
              (ap (λ s. is_acked s.heard) here ∙ later.acked) step).1;
          no_unmute = subst (λ l. AllByRecursion (λ (s : Seen). s.asked ≢ Unmute) l) (sym rest) later.no_unmute;
        })
    by_front (y ∷ front) whole = inr (record {
      front = front;
      mute = later.mute;
      back = later.back;
      whole = cons_tail _ _ _ _ whole;
      asked = later.asked;
      acked = later.acked;
      no_unmute = later.no_unmute;
    })

pub at_end : (present : List ℕ) (muted : ℕ → Bool) (u : ℕ) → WillBeMuted present muted u []
    → has present u ≡ true → muted u ≡ true
at_end present muted u (inl is) = is.now
at_end present muted u (inr later) = absurd (no_middle later.front later.mute later.back later.whole)
  where
    no_middle : (front : List Seen) (e : Seen) (back : List Seen) → [] ≡ front ++ e ∷ back → ⊥
    no_middle [] e back is = nil_cons e back is
    no_middle (y ∷ front) e back is = nil_cons y (front ++ e ∷ back) is

-- what must hold before the last exchange, for it not to be an answer
abbrev pub Waits : List ℕ → (ℕ → Bool) → List Seen → Asked → Heard → Type 0
Waits present muted x (Branch lo hi) h =
    (lo ≡ hi) × ((h ≢ One lo) ⊎ (WillBeMuted present muted lo x ⊎ (is_broadcast lo ≡ true)))
Waits present muted x (Mute u) h = is_acked h ≡ false
Waits present muted x Unmute h = ⊥
Waits present muted x Other h = ⊥

first_waits : (present : List ℕ) (muted : ℕ → Bool) (x : List Seen) (a : Asked) (h : Heard) → IsNoAnswer x a h
    → Waits present muted x a h
first_waits present muted x Unmute h wrong = wrong
first_waits present muted x Other h wrong = wrong
first_waits present muted x (Mute u) h wrong = wrong
first_waits present muted x (Branch lo hi) h (same, inl other) = (same, inl other)
first_waits present muted x (Branch lo hi) h (same, inr (inl later)) = (same, inr (inl (inr later)))
first_waits present muted x (Branch lo hi) h (same, inr (inr broadcast)) = (same, inr (inr broadcast))

next_waits : (present : List ℕ) (old new : LineState) (e : Seen) (x : List Seen) (a : Asked) (h : Heard)
    → HonestStep present old e.asked e.heard new → Waits present old.muted (e ∷ x) a h → Waits present new.muted x a h
next_waits present old new e x Unmute h step waits = waits
next_waits present old new e x Other h step waits = waits
next_waits present old new e x (Mute u) h step waits = waits
next_waits present old new e x (Branch lo hi) h step (same, inl other) = (same, inl other)
next_waits present old new e x (Branch lo hi) h step (same, inr (inl later)) =
    (same, inr (inl (step_waits present old new lo e x step later)))
next_waits present old new e x (Branch lo hi) h step (same, inr (inr broadcast)) = (same, inr (inr broadcast))

-- no device has a broadcast UID
not_broadcast : (us : List ℕ) (u : ℕ) → AllByRecursion IsDevice us → has us u ≡ true → is_broadcast u ≡ false
not_broadcast [] u all is = absurd (true≢false (sym is))
not_broadcast (v ∷ us) u all is = by_test (u == v) refl is (λ h. not_broadcast us u all.1 h)
  where
    by_test : (b : Bool) → (u == v) ≡ b → (b || has us u) ≡ true → (has us u ≡ true → is_broadcast u ≡ false)
        → is_broadcast u ≡ false
    by_test true same h rest = ap is_broadcast (eqb-true u v same) ∙ all.0.own
    by_test false other h rest = rest h

pub not_answered : (present : List ℕ) (old new : LineState) (a : Asked) (h : Heard) → IsDeviceSet present → h ≢ Silent
    → Waits present old.muted [] a h → HonestStep present old a h new → ⊥
not_answered present old new Unmute h set loud wrong step = wrong
not_answered present old new Other h set loud wrong step = wrong
not_answered present old new (Mute u) h set loud wrong step =
    after_mute present old new u h (has present u) loud wrong step.1
not_answered present old new (Branch lo hi) h set loud (same, inl other) step =
    one_reply (λ v. is_within lo hi v && not (old.muted v)) present lo h set.ascending
    (λ v passes. within_itself lo v (subst (λ x. is_within lo x v ≡ true) (sym same)
    (and_parts (is_within lo hi v) (not (old.muted v)) passes).0))
    loud other step.0
not_answered present old new (Branch lo hi) h set loud (same, inr (inr broadcast)) step =
    loud (muted_silent present old.muted lo hi h same
    (λ there. absurd (true≢false (sym broadcast ∙ not_broadcast present lo set.devices there))) step.0)
not_answered present old new (Branch lo hi) h set loud (same, inr (inl muted)) step =
    loud (muted_silent present old.muted lo hi h same (at_end present old.muted lo muted) step.0)

-- with the same devices at each exchange
in_chain : (present : List ℕ) (s : LineState) (front : List Seen) (e : Seen) (rest : List Seen) → IsDeviceSet present
    → NoFailure front → e.heard ≢ Failed → e.heard ≢ Silent → Waits present s.muted front e.asked e.heard
    → Chain (HonestStep present) s (front ++ e ∷ rest) → ⊥
in_chain present s [] e rest set ok fine loud waits (inl failed) = fine failed
in_chain present s [] e rest set ok fine loud waits (inr step) =
    not_answered present s step.0 e.asked e.heard set loud waits step.1
in_chain present s (x ∷ front) e rest set ok fine loud waits (inl failed) = ok.0 failed
in_chain present s (x ∷ front) e rest set ok fine loud waits (inr step) =
    in_chain present step.0 front e rest set ok.1 fine loud
    (next_waits present s step.0 x front e.asked e.heard step.1 waits) step.2

pub seen_whole : (xs : List Exchange) (at : ℕ) (g : IsGarbled xs at)
    → seen_all xs ≡ seen_all g.front ++ seen_of g.exchange ∷ seen_all g.back
seen_whole xs at g = ap seen_all g.whole ∙ map-append seen_of g.front (g.exchange ∷ g.back)

pub garbled_dishonest : (present : List ℕ) (xs : List Exchange) (at : ℕ) → IsGarbled xs at
    → HonestTrace present (seen_all xs) → ⊥
garbled_dishonest present xs at g honest =
    in_chain present (before_run honest.1) (seen_all g.front) (seen_of g.exchange) (seen_all g.back) honest.0
    g.no_failure g.garbled.not_failed g.garbled.not_silent
    (first_waits present honest.1 (seen_all g.front) (seen_of g.exchange).asked (seen_of g.exchange).heard
    g.garbled.no_answer)
    (subst (λ l. Chain (HonestStep present) (before_run honest.1) l) (seen_whole xs at g) honest.2)
