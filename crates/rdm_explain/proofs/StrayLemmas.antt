-- What is known of devices decides whether an exchange is stray.
use Rattle.std.proofs.Common.{◌≡◌, ℕ, zero, suc, ◌+◌, ◌<◌, ◌≤◌, Bool, true, false, not, List, [], ◌∷◌, ◌++◌, refl, sym}
use Rattle.std.proofs.Common.{ap, ◌∙◌, subst, inl, inr, true≢false, arith, length, take, drop, Option, Some, None}
use Rattle.std.proofs.Common.{get_or, length-append}
use Rattle.std.specs.Prelude.{◌⊎◌, ◌≢◌, ◌==◌, ◌||◌, ◌&&◌, fold, if◌then◌else◌}
use Rattle.std.specs.List.{AllByRecursion}
use Rattle.std.proofs.lemmas.List.{map-append, take_more, take_at, get_or_at, drop_more, take-append-drop}
use Rattle.std.proofs.lemmas.List.{length-take-le}
use Rattle.std.proofs.lemmas.Bool.{cases_Bool, or_cases, or_parts, and_parts, and_from, cases_lt}
use Rattle.std.proofs.lemmas.Bool.{not-true, not_from_false}
use Rattle.rdm_wire.specs.Uid.{has, is_within}
use Rattle.rdm_wire.specs.Honest.{Asked, Heard, Seen, LineState, before_run, is_silent}
use Rattle.rdm_wire.specs.Honest.Asked.{Unmute, Branch, Mute, Other}
use Rattle.rdm_wire.specs.Honest.Heard.{Failed, Silent, One, Acked, Noise}
use Rattle.rdm_explain.specs.declared.exchange.Exchange.{Exchange}
use Rattle.rdm_explain.specs.declared.rule.Breach.{Breach}
use Rattle.rdm_explain.specs.Exchanges.{seen_of, seen_all}
use Rattle.rdm_explain.specs.Garbled.{StaysMuted}
use Rattle.rdm_explain.specs.Strays.{Leads, MayBeUnmuted, IsMuted, NobodyIsDue, IsStray}
use Rattle.rdm_explain.specs.declared.standing.Standing.{Standing}
use Rattle.rdm_explain.specs.declared.watch.Watch.{Watch}
use Rattle.rdm_explain.specs.body.Standings.{is_alive, after, after_asked, at_start, standing, is_failing}
use Rattle.rdm_explain.specs.body.Watching.{uids_watched, Watches, is_muted, is_quiet_one, is_listed, are_quiet}
use Rattle.rdm_explain.specs.body.Watching.{are_muted, is_stray_by, is_stray}
use Rattle.rdm_explain.specs.body.Garbling.{stays_muted}
use Rattle.rdm_explain.proofs.MutedLemmas.{muted_is, muted_test}
use Rattle.rdm_explain.proofs.StandingLemmas.{Allows, keeps, back, after_other, goes_on, start_allows, at_start_is}
use Rattle.rdm_explain.proofs.StandingLemmas.{state_of, unmuted_state, alive_honest}
use Rattle.rdm_explain.proofs.EndLemmas.{all_append}
use Rattle.rdm_explain.proofs.WatchLemmas.{WatchesAll, Known}

abbrev pub NoFailure : List Seen → Type 0
NoFailure x = AllByRecursion (λ (e : Seen). e.heard ≢ Failed) x

-- the states that exchanges lead to
lead_keeps : (u : ℕ) (p : Standing) (s : LineState) (x : List Seen) (end : LineState) → p.stopped ≡ false → NoFailure x
    → Allows p u s → Leads u s x end → Allows (fold (after u) p x) u end
lead_keeps u p s [] end on ok is same = subst (Allows p u) same is
lead_keeps u p s (e ∷ x) end on ok is leads =
    subst (λ q. Allows (fold (after u) q x) u end) (sym (after_other u p e on ok.0))
    (lead_keeps u (after_asked u p e.asked e.heard) leads.0 x end (goes_on u p e.asked e.heard ∙ on) ok.1
    (keeps u p s leads.0 e.asked e.heard is leads.1) leads.2)

lead_back : (u : ℕ) (p : Standing) (x : List Seen) (end : LineState) → p.stopped ≡ false → NoFailure x
    → Allows (fold (after u) p x) u end → (s : LineState) × Allows p u s × Leads u s x end
lead_back u p [] end on ok is = (end, is, refl)
lead_back u p (e ∷ x) end on ok is =
    let later = lead_back u (after_asked u p e.asked e.heard) x end (goes_on u p e.asked e.heard ∙ on) ok.1
    (subst (λ q. Allows (fold (after u) q x) u end) (after_other u p e on ok.0) is) in
    let before = back u p later.0 e.asked e.heard later.1 in
    (before.0, before.1, (later.0, before.2, later.2))

unmuted_of : (u : ℕ) (x : List Seen) → NoFailure x → MayBeUnmuted u x → (standing u x).unmuted ≡ true
unmuted_of u x ok m =
    elim (lead_keeps u at_start (before_run m.muted) x m.end refl ok (start_allows u m.muted) m.leads).may
    [ inl k ↦ absurd (true≢false (sym k.0 ∙ m.unmuted)) | inr k ↦ k.1 ]

of_unmuted : (u : ℕ) (x : List Seen) → NoFailure x → (standing u x).unmuted ≡ true → MayBeUnmuted u x
of_unmuted u x ok holds =
    let p = standing u x in
    let end = state_of p false p.lost_branches in
    let start = lead_back u at_start x end refl ok (unmuted_state p u holds) in record {
      muted = start.0.muted;
      end = end;
      leads = subst (λ s. Leads u s x end) (at_start_is u start.0 start.1) start.2;
      unmuted = refl;
    }

-- whether a device is known to be muted
known_muted : (xs : List Exchange) (w : Watch) → NoFailure (seen_all xs) → Watches xs w → is_muted w ≡ true
    → IsMuted w.uid (seen_all xs)
known_muted xs w ok is holds = by_breach w.breach is
  where
    both : (w.standing.muted ≡ true) × (not w.standing.unmuted ≡ true)
    both = and_parts w.standing.muted (not w.standing.unmuted) holds

    by_breach : (o : Option Breach) → Known xs w o → IsMuted w.uid (seen_all xs)
    by_breach None known = record {
      honest = alive_honest w.uid (seen_all xs) (ap is_alive (sym known.0) ∙ known.1);
      muted = λ m. true≢false (sym (ap (λ p. p.unmuted) known.0 ∙ unmuted_of w.uid (seen_all xs) ok m)
          ∙ not-true w.standing.unmuted both.1);
    }
    by_breach (Some b) known =
        absurd (true≢false (sym (ap (λ m. m || w.standing.unmuted) both.0) ∙ known.1))

muted_known : (xs : List Exchange) (w : Watch) → NoFailure (seen_all xs) → Watches xs w
    → IsMuted w.uid (seen_all xs) → is_muted w ≡ true
muted_known xs w ok is m = by_breach w.breach is
  where
    p : Standing
    p = w.standing

    by_unmuted : p ≡ standing w.uid (seen_all xs) → is_alive p ≡ true → (p.unmuted ≡ true) ⊎ (p.unmuted ≡ false)
        → is_muted w ≡ true
    by_unmuted same alive (inl holds) =
        absurd (m.muted (of_unmuted w.uid (seen_all xs) ok (ap (λ q. q.unmuted) (sym same) ∙ holds)))
    by_unmuted same alive (inr no_more) =
        and_from p.muted (not p.unmuted)
        (elim (or_cases p.muted p.unmuted alive)
        [ inl holds ↦ holds | inr holds ↦ absurd (true≢false (sym holds ∙ no_more)) ])
        (not_from_false p.unmuted no_more)

    by_breach : (o : Option Breach) → Known xs w o → is_muted w ≡ true
    by_breach None known = by_unmuted known.0 known.1 (cases_Bool p.unmuted)
    by_breach (Some b) known = absurd (known.0.never m.honest)

-- whether nobody of a list is due
abbrev Nobody : List Exchange → ℕ → ℕ → List ℕ → Type 0
Nobody xs lo hi us = AllByRecursion (λ (u : ℕ). is_within lo hi u ≡ true → IsMuted u (seen_all xs)) us

quiet_nobody : (xs : List Exchange) (lo hi : ℕ) (ws : List Watch) → NoFailure (seen_all xs)
    → AllByRecursion (Watches xs) ws → are_quiet lo hi ws ≡ true → Nobody xs lo hi (uids_watched ws)
quiet_nobody xs lo hi [] ok all holds = tt
quiet_nobody xs lo hi (w ∷ ws) ok all holds =
    let both = and_parts (is_quiet_one lo hi w) (are_quiet lo hi ws) holds in (
      λ within. known_muted xs w ok all.0 (sym (ap (λ b. if b then is_muted w else true) within) ∙ both.0),
      quiet_nobody xs lo hi ws ok all.1 both.1,
    )

nobody_quiet : (xs : List Exchange) (lo hi : ℕ) (ws : List Watch) → NoFailure (seen_all xs)
    → AllByRecursion (Watches xs) ws → Nobody xs lo hi (uids_watched ws) → are_quiet lo hi ws ≡ true
nobody_quiet xs lo hi [] ok all none = refl
nobody_quiet xs lo hi (w ∷ ws) ok all none =
    and_from (is_quiet_one lo hi w) (are_quiet lo hi ws) (by_within (is_within lo hi w.uid) none.0)
    (nobody_quiet xs lo hi ws ok all.1 none.1)
  where
    by_within : (b : Bool) → (b ≡ true → IsMuted w.uid (seen_all xs)) → (if b then is_muted w else true) ≡ true
    by_within true muted = muted_known xs w ok all.0 (muted refl)
    by_within false muted = refl

-- whether a UID is in the list
listed : (u : ℕ) (ws : List Watch) → is_listed u ws ≡ has (uids_watched ws) u
listed u [] = refl
listed u (w ∷ ws) = ap (λ b. (u == w.uid) || b) (listed u ws)

-- whether each of a list that comes or leaves stays muted
abbrev AllStay : List Seen → ℕ → ℕ → List ℕ → Type 0
AllStay x lo hi ps = AllByRecursion (λ (u : ℕ). is_within lo hi u ≡ true → StaysMuted u x) ps

-- the test by which devices stay muted is right
abbrev pub Knows : (ℕ → Bool) → List Seen → Type 0
Knows muted x = (u : ℕ) → muted u ≡ stays_muted x u

muted_stay : (x : List Seen) (lo hi : ℕ) (muted : ℕ → Bool) (ps : List ℕ) → Knows muted x
    → are_muted lo hi muted ps ≡ true → AllStay x lo hi ps
muted_stay x lo hi muted [] known holds = tt
muted_stay x lo hi muted (u ∷ ps) known holds =
    let both = and_parts (if is_within lo hi u then muted u else true) (are_muted lo hi muted ps) holds in (
      λ within. muted_is u x (sym (known u) ∙ sym (ap (λ b. if b then muted u else true) within) ∙ both.0),
      muted_stay x lo hi muted ps known both.1,
    )

stay_muted : (x : List Seen) (lo hi : ℕ) (muted : ℕ → Bool) (ps : List ℕ) → Knows muted x → AllStay x lo hi ps
    → are_muted lo hi muted ps ≡ true
stay_muted x lo hi muted [] known stay = refl
stay_muted x lo hi muted (u ∷ ps) known stay =
    and_from (if is_within lo hi u then muted u else true) (are_muted lo hi muted ps)
    (by_within (is_within lo hi u) stay.0) (stay_muted x lo hi muted ps known stay.1)
  where
    by_within : (b : Bool) → (b ≡ true → StaysMuted u x) → (if b then muted u else true) ≡ true
    by_within true is = known u ∙ muted_test u x (is refl)
    by_within false is = refl

-- an exchange that is stray by what is known
record StrayBy (xs : List Exchange) (ws : List Watch) (ps : List ℕ) (a : Asked) (h : Heard) : Type 0 where
  not_silent : h ≢ Silent
  nobody : NobodyIsDue (uids_watched ws) ps (seen_all xs) a

loud : (h : Heard) → not (is_silent h) ≡ true → h ≢ Silent
loud h holds silent = true≢false (sym (ap is_silent silent) ∙ not-true (is_silent h) holds)

stray_by : (xs : List Exchange) (ws : List Watch) (ps : List ℕ) (muted : ℕ → Bool) (a : Asked) (h : Heard)
    → NoFailure (seen_all xs) → AllByRecursion (Watches xs) ws → Knows muted (seen_all xs)
    → is_stray_by ws ps muted a h ≡ true → StrayBy xs ws ps a h
stray_by xs ws ps muted Unmute h ok all known holds = absurd (true≢false (sym holds))
stray_by xs ws ps muted Other h ok all known holds = absurd (true≢false (sym holds))
stray_by xs ws ps muted (Mute u) h ok all known holds =
    let both = and_parts (not (is_silent h)) (not (is_listed u ws) && not (has ps u)) holds in
    let neither = and_parts (not (is_listed u ws)) (not (has ps u)) both.1 in record {
      not_silent = loud h both.0;
      nobody = (sym (listed u ws) ∙ not-true (is_listed u ws) neither.0, not-true (has ps u) neither.1);
    }
stray_by xs ws ps muted (Branch lo hi) h ok all known holds =
    let both = and_parts (not (is_silent h)) (are_quiet lo hi ws && are_muted lo hi muted ps) holds in
    let each = and_parts (are_quiet lo hi ws) (are_muted lo hi muted ps) both.1 in record {
      not_silent = loud h both.0;
      nobody = (
        quiet_nobody xs lo hi ws ok all each.0,
        muted_stay (seen_all xs) lo hi muted ps known each.1,
      );
    }

silence_of : (h : Heard) → h ≢ Silent → is_silent h ≡ false
silence_of Failed other = refl
silence_of Silent other = absurd (other refl)
silence_of (One u) other = refl
silence_of (Acked ack) other = refl
silence_of Noise other = refl

by_stray : (xs : List Exchange) (ws : List Watch) (ps : List ℕ) (muted : ℕ → Bool) (a : Asked) (h : Heard)
    → NoFailure (seen_all xs) → AllByRecursion (Watches xs) ws → Knows muted (seen_all xs) → h ≢ Silent
    → NobodyIsDue (uids_watched ws) ps (seen_all xs) a → is_stray_by ws ps muted a h ≡ true
by_stray xs ws ps muted Unmute h ok all known other nobody = absurd nobody
by_stray xs ws ps muted Other h ok all known other nobody = absurd nobody
by_stray xs ws ps muted (Mute u) h ok all known other nobody =
    and_from (not (is_silent h)) (not (is_listed u ws) && not (has ps u))
    (not_from_false (is_silent h) (silence_of h other))
    (and_from (not (is_listed u ws)) (not (has ps u)) (not_from_false (is_listed u ws) (listed u ws ∙ nobody.0))
    (not_from_false (has ps u) nobody.1))
by_stray xs ws ps muted (Branch lo hi) h ok all known other nobody =
    and_from (not (is_silent h)) (are_quiet lo hi ws && are_muted lo hi muted ps)
    (not_from_false (is_silent h) (silence_of h other))
    (and_from (are_quiet lo hi ws) (are_muted lo hi muted ps) (nobody_quiet xs lo hi ws ok all nobody.0)
    (stay_muted (seen_all xs) lo hi muted ps known nobody.1))

-- at an index
pub stray_at : (us ps : List ℕ) (xs : List Exchange) (at : ℕ) (e : Exchange) (ws : List Watch) (muted : ℕ → Bool)
    → at < length xs → e ≡ get_or xs at e → NoFailure (seen_all (take at xs)) → WatchesAll (take at xs) us ws
    → Knows muted (seen_all (take at xs)) → (seen_of e).heard ≢ Failed → is_stray ws ps muted (seen_of e) ≡ true
    → IsStray us ps xs at
stray_at us ps xs at e ws muted within read ok all known fine holds =
    let s = stray_by (take at xs) ws ps muted (seen_of e).asked (seen_of e).heard ok all.watches known holds in record {
      front = take at xs;
      exchange = e;
      back = drop (at + 1) xs;
      whole = sym (take-append-drop at xs)
          ∙ ap (λ l. take at xs ++ l) (drop_more xs at e within ∙ ap (λ x. x ∷ drop (at + 1) xs) (sym read));
      index = length-take-le at xs (omega arith);
      no_failure = ok;
      not_failed = fine;
      not_silent = s.not_silent;
      nobody = subst (λ l. NobodyIsDue l ps (seen_all (take at xs)) (seen_of e).asked) all.same s.nobody;
    }

pub at_stray : (us ps : List ℕ) (xs : List Exchange) (at : ℕ) (e : Exchange) (ws : List Watch) (muted : ℕ → Bool)
    → e ≡ get_or xs at e → NoFailure (seen_all (take at xs)) → WatchesAll (take at xs) us ws
    → Knows muted (seen_all (take at xs)) → IsStray us ps xs at → is_stray ws ps muted (seen_of e) ≡ true
at_stray us ps xs at e ws muted read ok all known s =
    subst (λ x. is_stray ws ps muted (seen_of x) ≡ true) same
    (by_stray (take at xs) ws ps muted (seen_of s.exchange).asked (seen_of s.exchange).heard ok all.watches known
    s.not_silent
    (subst (λ l. NobodyIsDue l ps (seen_all (take at xs)) (seen_of s.exchange).asked) (sym all.same) nobody))
  where
    same : s.exchange ≡ e
    same = sym (read ∙ ap (λ l. get_or l at e) s.whole ∙ get_or_at s.front s.exchange s.back e at s.index)

    front : s.front ≡ take at xs
    front = sym (ap (take at) s.whole ∙ take_at s.front (s.exchange ∷ s.back) at s.index)

    nobody : NobodyIsDue us ps (seen_all (take at xs)) (seen_of s.exchange).asked
    nobody = subst (λ l. NobodyIsDue us ps (seen_all l) (seen_of s.exchange).asked) front s.nobody

-- a stray exchange is within the list
pub stray_within : (us ps : List ℕ) (xs : List Exchange) (at : ℕ) → IsStray us ps xs at → at < length xs
stray_within us ps xs at s =
    let long : length xs ≡ length s.front + length (s.exchange ∷ s.back)
    = ap length s.whole ∙ length-append s.front (s.exchange ∷ s.back) in
    omega (arith, long, s.index)

pub failed_in : (xs : List Exchange) (j at : ℕ) (e : Exchange) → at < j → at < length xs
    → (seen_of (get_or xs at e)).heard ≡ Failed → NoFailure (seen_all (take j xs)) → ⊥
failed_in [] j at e less within failed ok = absurd (omega arith)
failed_in (x ∷ xs) zero at e less within failed ok = absurd (omega arith)
failed_in (x ∷ xs) (suc j) zero e less within failed ok = ok.0 failed
failed_in (x ∷ xs) (suc j) (suc at) e less within failed ok =
    failed_in xs j at e (omega arith) (omega arith) failed ok.1

-- none comes with a failure or after it
pub none_after : (us ps : List ℕ) (xs : List Exchange) (at : ℕ) (e : Exchange) → at < length xs → e ≡ get_or xs at e
    → (seen_of e).heard ≡ Failed → (j : ℕ) → at ≤ j → IsStray us ps xs j → ⊥
none_after us ps xs at e within read failed j more s = by_order (cases_lt at j)
  where
    front : s.front ≡ take j xs
    front = sym (ap (take j) s.whole ∙ take_at s.front (s.exchange ∷ s.back) j s.index)

    by_order : (at < j) ⊎ (j ≤ at) → ⊥
    by_order (inl later) =
        failed_in xs j at e later within (ap (λ x. (seen_of x).heard) (sym read) ∙ failed)
        (subst (λ l. NoFailure (seen_all l)) front s.no_failure)
    by_order (inr less) =
        let same_index : j ≡ at = omega (arith, more, less) in
        let same : s.exchange ≡ e
        = sym (read ∙ ap (λ l. get_or l at e) s.whole
        ∙ get_or_at s.front s.exchange s.back e at (s.index ∙ same_index)) in
        s.not_failed (ap (λ x. (seen_of x).heard) same ∙ failed)

-- after an exchange that neither failed nor is stray
pub no_failure_more : (xs : List Exchange) (at : ℕ) (e : Exchange) → at < length xs → e ≡ get_or xs at e
    → (seen_of e).heard ≢ Failed → NoFailure (seen_all (take at xs)) → NoFailure (seen_all (take (at + 1) xs))
no_failure_more xs at e within read fine ok =
    subst (λ l. NoFailure (seen_all l)) (sym (take_more xs at e within ∙ ap (λ x. take at xs ++ x ∷ []) (sym read)))
    (subst NoFailure (sym (map-append seen_of (take at xs) (e ∷ [])))
    (all_append (λ (s : Seen). s.heard ≢ Failed) (seen_all (take at xs)) (seen_of e ∷ []) ok (fine, tt)))

-- what is known of failures by this index: no exchange before it has failed, or none from it on is stray
pub record Fails (us ps : List ℕ) (xs : List Exchange) (at : ℕ) (failed : Bool) : Type 0 where
  pub ok : failed ≡ false → NoFailure (seen_all (take at xs))
  pub never : failed ≡ true → (j : ℕ) → at ≤ j → IsStray us ps xs j → ⊥

-- the same, with the exchange at this index
pub record FailsHere (us ps : List ℕ) (xs : List Exchange) (at : ℕ) (e : Exchange) (failed : Bool) : Type 0 where
  pub ok : failed ≡ false → NoFailure (seen_all (take at xs)) × ((seen_of e).heard ≢ Failed)
  pub never : failed ≡ true → (j : ℕ) → at ≤ j → IsStray us ps xs j → ⊥

pub none_failed : (us ps : List ℕ) (xs : List Exchange) → Fails us ps xs 0 false
none_failed us ps xs = record { ok = λ fine. tt; never = λ failed. absurd (true≢false (sym failed)) }

is_failed : (h : Heard) → is_failing h ≡ true → h ≡ Failed
is_failed Failed is = refl
is_failed Silent is = absurd (true≢false (sym is))
is_failed (One u) is = absurd (true≢false (sym is))
is_failed (Acked ack) is = absurd (true≢false (sym is))
is_failed Noise is = absurd (true≢false (sym is))

not_failed : (h : Heard) → is_failing h ≡ false → h ≢ Failed
not_failed h isnt failed = true≢false (sym (ap is_failing failed) ∙ isnt)

pub fails_here : (us ps : List ℕ) (xs : List Exchange) (at : ℕ) (e : Exchange) (old new : Bool) → at < length xs
    → e ≡ get_or xs at e → new ≡ (old || is_failing (seen_of e).heard) → Fails us ps xs at old
    → FailsHere us ps xs at e new
fails_here us ps xs at e old new within read is was = record {
  ok = λ fine.
      let both = or_parts old (is_failing (seen_of e).heard) (sym is ∙ fine) in
      (was.ok both.0, not_failed (seen_of e).heard both.1);
  never = λ failed. by_cause (or_cases old (is_failing (seen_of e).heard) (sym is ∙ failed));
}
  where
    by_cause : (old ≡ true) ⊎ (is_failing (seen_of e).heard ≡ true) → (j : ℕ) → at ≤ j → IsStray us ps xs j → ⊥
    by_cause (inl before) = was.never before
    by_cause (inr now) = none_after us ps xs at e within read (is_failed (seen_of e).heard now)

pub fails_more : (us ps : List ℕ) (xs : List Exchange) (at : ℕ) (e : Exchange) (failed : Bool) → at < length xs
    → e ≡ get_or xs at e → FailsHere us ps xs at e failed → Fails us ps xs (at + 1) failed
fails_more us ps xs at e failed within read here = record {
  ok = λ fine. no_failure_more xs at e within read (here.ok fine).1 (here.ok fine).0;
  never = λ over j more. here.never over j (omega (arith, more));
}

-- the test of an exchange is right
pub test_stray : (us ps : List ℕ) (xs : List Exchange) (at : ℕ) (e : Exchange) (ws : List Watch) (muted : ℕ → Bool)
    (failed b : Bool) → at < length xs → e ≡ get_or xs at e → FailsHere us ps xs at e failed
    → WatchesAll (take at xs) us ws → Knows muted (seen_all (take at xs))
    → b ≡ (not failed && is_stray ws ps muted (seen_of e)) → b ≡ true → IsStray us ps xs at
test_stray us ps xs at e ws muted failed b within read here all known is holds =
    let both = and_parts (not failed) (is_stray ws ps muted (seen_of e)) (sym is ∙ holds) in
    let ok = here.ok (not-true failed both.0) in
    stray_at us ps xs at e ws muted within read ok.0 all known ok.1 both.1

pub stray_test : (us ps : List ℕ) (xs : List Exchange) (at : ℕ) (e : Exchange) (ws : List Watch) (muted : ℕ → Bool)
    (failed b : Bool) → e ≡ get_or xs at e → FailsHere us ps xs at e failed → WatchesAll (take at xs) us ws
    → Knows muted (seen_all (take at xs)) → b ≡ (not failed && is_stray ws ps muted (seen_of e))
    → IsStray us ps xs at → b ≡ true
stray_test us ps xs at e ws muted failed b read here all known is s = by_failed (cases_Bool failed)
  where
    by_failed : (failed ≡ true) ⊎ (failed ≡ false) → b ≡ true
    by_failed (inl over) = absurd (here.never over at (omega arith) s)
    by_failed (inr fine) =
        is
        ∙ and_from (not failed) (is_stray ws ps muted (seen_of e)) (not_from_false failed fine)
        (at_stray us ps xs at e ws muted read (here.ok fine).0 all known s)
