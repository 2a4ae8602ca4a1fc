-- What is known of the devices of a list stays right with each exchange.
use Rattle.std.proofs.Common.{◌≡◌, ℕ, zero, suc, ◌+◌, ◌<◌, Bool, true, false, List, [], ◌∷◌, ◌++◌, refl, sym, ap, ◌∙◌}
use Rattle.std.proofs.Common.{subst, append-nil, append_assoc, true≢false, arith, length, take, drop, map, Option, Some}
use Rattle.std.proofs.Common.{None, get_or}
use Rattle.std.specs.Prelude.{◌==◌, ◌&&◌, nat_le, MatchOption, fold, set, if◌then◌else◌}
use Rattle.std.specs.List.{AllByRecursion}
use Rattle.std.proofs.lemmas.List.{map-append, take-append-le, take_all, length_push, take_at, take_more}
use Rattle.std.proofs.lemmas.List.{length-take-le}
use Rattle.std.proofs.lemmas.List.Sums.{fold-append}
use Rattle.rdm_wire.specs.Uid.{is_within}
use Rattle.rdm_wire.specs.Honest.{Asked, Heard, Seen, HonestTo, is_acked, is_silent}
use Rattle.rdm_wire.specs.Honest.Asked.{Unmute, Branch, Mute, Other}
use Rattle.rdm_wire.specs.Honest.Heard.{Failed, Silent, One, Acked, Noise}
use Rattle.rdm_explain.specs.declared.exchange.Exchange.{Exchange}
use Rattle.rdm_explain.specs.declared.rule.Breach.{Breach}
use Rattle.rdm_explain.specs.declared.standing.Standing.{Standing}
use Rattle.rdm_explain.specs.declared.watch.Watch.{Watch}
use Rattle.rdm_explain.specs.Exchanges.{seen_of, seen_all}
use Rattle.rdm_explain.specs.Rules.{FirstBreach, IsFirstBreach, EndsBy, AreFirstBreaches, uids_of_findings}
use Rattle.rdm_explain.specs.body.Standings.{is_alive, with_counts, after_branch, after_mute, after_asked, after_heard}
use Rattle.rdm_explain.specs.body.Standings.{after_either, after, at_start, standing}
use Rattle.rdm_explain.specs.body.Watching.{uids_watched, with_standing, heard_with, heard_by, watch_of, finding_of}
use Rattle.rdm_explain.specs.body.Watching.{rule_by, IsCounted, Watches}
use Rattle.rdm_explain.proofs.StandingLemmas.{honest_alive, alive_honest, alive_through}
use Rattle.rdm_explain.proofs.EndLemmas.{ends_none}
use Rattle.rdm_explain.proofs.RuleLemmas.{StreaksUnlessStopped, ends_after, breaks_rule}

-- one more exchange
seen_push : (xs : List Exchange) (e : Exchange) → seen_all (xs ++ e ∷ []) ≡ seen_all xs ++ seen_of e ∷ []
seen_push xs e = map-append seen_of xs (e ∷ [])

standing_push : (u : ℕ) (x : List Seen) (e : Seen) → standing u (x ++ e ∷ []) ≡ after u (standing u x) e
standing_push u x e = fold-append (after u) at_start x (e ∷ [])

-- the lost replies are the last ones
ends_fold : (u : ℕ) (front x : List Seen) (p : Standing) → StreaksUnlessStopped u front p
    → StreaksUnlessStopped u (front ++ x) (fold (after u) p x)
ends_fold u front [] p ends = subst (λ l. StreaksUnlessStopped u l p) (sym (append-nil front)) ends
ends_fold u front (e ∷ x) p ends =
    subst (λ l. StreaksUnlessStopped u l (fold (after u) (after u p e) x)) (append_assoc front (e ∷ []) x)
    (ends_fold u (front ++ e ∷ []) x (after u p e) (ends_after u front p e ends))

ends_all : (u : ℕ) (x : List Seen) → StreaksUnlessStopped u x (standing u x)
ends_all u x = ends_fold u [] x at_start (λ on. record { branches = ends_none _ []; mutes = ends_none _ [] })

-- what isn't honest stays so
never_again : (u : ℕ) (x : List Seen) (e : Seen) → (HonestTo u x → ⊥) → HonestTo u (x ++ e ∷ []) → ⊥
never_again u x e never honest =
    never (alive_honest u x (alive_through u (standing u x) (e ∷ [])
    (ap is_alive (sym (standing_push u x e)) ∙ honest_alive u (x ++ e ∷ []) honest)))

breach_stays : (u : ℕ) (xs : List Exchange) (e : Exchange) (b : Breach) → IsFirstBreach u xs b
    → IsFirstBreach u (xs ++ e ∷ []) b
breach_stays u xs e b is = record {
  within = let more = length_push xs e in omega (arith, is.within);
  before = subst (λ l. HonestTo u (seen_all l)) (sym before_is) is.before;
  here = λ h. is.here (subst (λ l. HonestTo u (seen_all l)) here_is h);
  never = λ h. never_again u (seen_all xs) (seen_of e) is.never (subst (HonestTo u) (seen_push xs e) h);
  rule = subst (λ l. EndsBy u b.rule (seen_all l)) (sym here_is) is.rule;
}
  where
    before_is : take b.at (xs ++ e ∷ []) ≡ take b.at xs
    before_is = take-append-le b.at xs (e ∷ []) (omega (arith, is.within))

    here_is : take (b.at + 1) (xs ++ e ∷ []) ≡ take (b.at + 1) xs
    here_is = take-append-le (b.at + 1) xs (e ∷ []) (omega (arith, is.within))

new_breach : (u : ℕ) (xs : List Exchange) (e : Exchange) → is_alive (standing u (seen_all xs)) ≡ true
    → is_alive (after u (standing u (seen_all xs)) (seen_of e)) ≡ false
    → IsFirstBreach u (xs ++ e ∷ []) (record { at = length xs; rule = rule_by (seen_of e) })
new_breach u xs e alive dead = record {
  within = let more = length_push xs e in omega (arith, more);
  before = subst (λ l. HonestTo u (seen_all l)) (sym (take_at xs (e ∷ []) (length xs) refl)) (alive_honest u _ alive);
  here = λ h. never (subst (λ l. HonestTo u (seen_all l)) whole h);
  never = never;
  rule = subst (λ l. EndsBy u (rule_by (seen_of e)) (seen_all l)) (sym whole)
      (subst (EndsBy u (rule_by (seen_of e))) (sym (seen_push xs e))
      (breaks_rule u (seen_all xs) (standing u (seen_all xs)) (seen_of e) alive (ends_all u (seen_all xs)) dead));
}
  where
    whole : take (length xs + 1) (xs ++ e ∷ []) ≡ xs ++ e ∷ []
    whole = take_all (length xs + 1) (xs ++ e ∷ []) (let more = length_push xs e in omega (arith, more))

    never : HonestTo u (seen_all (xs ++ e ∷ [])) → ⊥
    never h = true≢false (sym (honest_alive u _ (subst (HonestTo u) (seen_push xs e) h))
        ∙ ap is_alive (standing_push u (seen_all xs) (seen_of e)) ∙ dead)

-- what is known of a device, by its breach
abbrev pub Known : List Exchange → Watch → Option Breach → Type 0
Known xs w o =
    MatchOption o ((w.standing ≡ standing w.uid (seen_all xs)) × (is_alive w.standing ≡ true))
    (λ b. IsFirstBreach w.uid xs b × (is_alive w.standing ≡ false))

watches_more : (xs : List Exchange) (e : Exchange) (w : Watch) → Watches xs w
    → Watches (xs ++ e ∷ []) (heard_by (length xs) (seen_of e) w)
watches_more xs e w is = by_breach w.breach refl is
  where
    s : Seen
    s = seen_of e

    b : Breach
    b = record { at = length xs; rule = rule_by s }

    p : Standing
    p = standing w.uid (seen_all xs)

    next : after w.uid p s ≡ standing w.uid (seen_all (xs ++ e ∷ []))
    next = sym (standing_push w.uid (seen_all xs) s) ∙ ap (standing w.uid) (sym (seen_push xs e))

    known_after : (q : Standing) (t : Bool) → is_alive q ≡ t → q ≡ after w.uid p s → is_alive p ≡ true
        → Known (xs ++ e ∷ []) (with_standing b w q) (if t then None else Some b)
    known_after q true now is alive = (is ∙ next, now)
    known_after q false now is alive = (new_breach w.uid xs e alive (sym (ap is_alive is) ∙ now), now)

    by_breach : (o : Option Breach) → w.breach ≡ o → Known xs w o
        → Watches (xs ++ e ∷ []) (heard_with (length xs) s w o)
    by_breach (Some c) has known = rw has (breach_stays w.uid xs e c known.0, known.1)
    by_breach None has known =
        known_after (after w.uid w.standing s) (is_alive (after w.uid w.standing s)) refl
        (ap (λ q. after w.uid q s) known.0) (sym (ap is_alive known.0) ∙ known.1)

-- the same of all devices
all_watch_more : (xs : List Exchange) (e : Exchange) (ws : List Watch) → AllByRecursion (Watches xs) ws
    → AllByRecursion (Watches (xs ++ e ∷ [])) (map (heard_by (length xs) (seen_of e)) ws)
all_watch_more xs e [] all = tt
all_watch_more xs e (w ∷ ws) all = (watches_more xs e w all.0, all_watch_more xs e ws all.1)

all_watch_start : (us : List ℕ) → AllByRecursion (Watches []) (map watch_of us)
all_watch_start [] = tt
all_watch_start (u ∷ us) = ((refl, refl), all_watch_start us)

-- the devices stay the same
same_uid : (at : ℕ) (e : Seen) (w : Watch) (o : Option Breach) → (heard_with at e w o).uid ≡ w.uid
same_uid at e w None = refl
same_uid at e w (Some _) = refl

same_uids : (at : ℕ) (e : Seen) (ws : List Watch) → uids_watched (map (heard_by at e) ws) ≡ uids_watched ws
same_uids at e [] = refl
same_uids at e (w ∷ ws) = rw (same_uid at e w w.breach, same_uids at e ws) refl

start_uids : (us : List ℕ) → uids_watched (map watch_of us) ≡ us
start_uids [] = refl
start_uids (u ∷ us) = ap (λ l. u ∷ l) (start_uids us)

-- what is counted grows by one at most
counted_asked : (u n : ℕ) (b : Option Breach) (p : Standing) (a : Asked) (h : Heard)
    → IsCounted n (record { uid = u; standing = p; breach = b })
    → IsCounted (n + 1) (record { uid = u; standing = after_asked u p a h; breach = b })
counted_asked u n b p Unmute h c = by_third (nat_le 3 (p.unmutes + 1))
  where
    by_third : (t : Bool) → IsCounted (n + 1) (record {
      uid = u;
      standing = if t then record (with_counts p 0 0 (p.unmutes + 1)) { muted = false; unmuted = is_alive p }
          else record (with_counts p 0 0 (p.unmutes + 1)) { unmuted = is_alive p };
      breach = b;
    })
    by_third true = record { branches = omega arith; mutes = omega arith; unmutes = omega (arith, c.unmutes) }
    by_third false = record { branches = omega arith; mutes = omega arith; unmutes = omega (arith, c.unmutes) }
counted_asked u n b p (Branch lo hi) h c = by_silence (is_within lo hi u && is_silent h)
  where
    by_silence : (t : Bool) → IsCounted (n + 1) (record {
      uid = u;
      standing = after_branch p (if t then p.lost_branches + 1 else 0);
      breach = b;
    })
    by_silence true = record { branches = omega (arith, c.branches); mutes = omega arith; unmutes = omega arith }
    by_silence false = record { branches = omega arith; mutes = omega arith; unmutes = omega arith }
counted_asked u n b p (Mute v) h c = by_uid (u == v)
  where
    by_heard : (acked lost : Bool) → IsCounted (n + 1) (record {
      uid = u;
      standing = if acked then record (with_counts p 0 0 0) { muted = is_alive p; unmuted = false }
          else (if lost then record (with_counts p 0 (p.lost_mutes + 1) 0) { muted = is_alive p }
          else record (with_counts p 0 0 0) { muted = false; unmuted = false });
      breach = b;
    })
    by_heard true lost = record { branches = omega arith; mutes = omega arith; unmutes = omega arith }
    by_heard false true = record { branches = omega arith; mutes = omega (arith, c.mutes); unmutes = omega arith }
    by_heard false false = record { branches = omega arith; mutes = omega arith; unmutes = omega arith }

    by_uid : (t : Bool)
        → IsCounted (n + 1) (record {
          uid = u;
          standing = if t then after_mute p h else with_counts p 0 0 0;
          breach = b;
        })
    by_uid true = by_heard (is_acked h) (is_silent h && nat_le (p.lost_mutes + 1) 4)
    by_uid false = record { branches = omega arith; mutes = omega arith; unmutes = omega arith }
counted_asked u n b p Other h c = record { branches = omega arith; mutes = omega arith; unmutes = omega arith }

counted_later : (n : ℕ) (w : Watch) → IsCounted n w → IsCounted (n + 1) w
counted_later n w c = record {
  branches = omega (arith, c.branches);
  mutes = omega (arith, c.mutes);
  unmutes = omega (arith, c.unmutes);
}

counted_heard : (at n : ℕ) (e : Seen) (w : Watch) → IsCounted n w → IsCounted (n + 1) (heard_by at e w)
counted_heard at n e w c = by_breach w.breach
  where
    b : Option Breach
    b = if is_alive (after w.uid w.standing e) then None else Some (record { at = at; rule = rule_by e })

    With : Standing → Type 0
    With p = IsCounted (n + 1) (record { uid = w.uid; standing = p; breach = b })

    same : With w.standing
    same = record {
      branches = omega (arith, c.branches);
      mutes = omega (arith, c.mutes);
      unmutes = omega (arith, c.unmutes);
    }

    asked : With (after_asked w.uid w.standing e.asked e.heard)
    asked = counted_asked w.uid n b w.standing e.asked e.heard
        (record { branches = c.branches; mutes = c.mutes; unmutes = c.unmutes })

    by_heard : (h : Heard) → With (after_asked w.uid w.standing e.asked h)
        → With (after_heard w.uid w.standing e.asked h)
    by_heard Failed is = record { branches = same.branches; mutes = same.mutes; unmutes = same.unmutes }
    by_heard Silent is = is
    by_heard (One v) is = is
    by_heard (Acked ack) is = is
    by_heard Noise is = is

    by_stopped : (t : Bool) → With (after_either w.uid t w.standing e.asked e.heard)
    by_stopped true = same
    by_stopped false = by_heard e.heard asked

    by_breach : (o : Option Breach) → IsCounted (n + 1) (heard_with at e w o)
    by_breach (Some x) = counted_later n w c
    by_breach None = by_stopped w.standing.stopped

abbrev pub AllCounted : ℕ → List Watch → Type 0
AllCounted n ws = AllByRecursion (IsCounted n) ws

all_counted_more : (at n : ℕ) (e : Seen) (ws : List Watch) → AllCounted n ws
    → AllCounted (n + 1) (map (heard_by at e) ws)
all_counted_more at n e [] all = tt
all_counted_more at n e (w ∷ ws) all = (counted_heard at n e w all.0, all_counted_more at n e ws all.1)

all_counted_start : (us : List ℕ) → AllCounted 0 (map watch_of us)
all_counted_start [] = tt
all_counted_start (u ∷ us) =
    (record { branches = omega arith; mutes = omega arith; unmutes = omega arith }, all_counted_start us)

-- one device after the other hears it
pub next_unheard : (f : Watch → Watch) (ws : List Watch) (i : ℕ) (w : Watch) → i < length ws
    → get_or (map f (take i ws) ++ drop i ws) i w ≡ get_or ws i w
next_unheard f [] i w within = absurd (omega arith)
next_unheard f (x ∷ ws) zero w within = refl
next_unheard f (x ∷ ws) (suc i) w within = next_unheard f ws i w (omega arith)

one_more : (f : Watch → Watch) (ws : List Watch) (i : ℕ) (w : Watch) → i < length ws
    → set (map f (take i ws) ++ drop i ws) i (f (get_or ws i w)) ≡ map f (take (suc i) ws) ++ drop (suc i) ws
one_more f [] i w within = absurd (omega arith)
one_more f (x ∷ ws) zero w within = refl
one_more f (x ∷ ws) (suc i) w within = ap (λ l. f x ∷ l) (one_more f ws i w (omega arith))

pub one_more_heard : (f : Watch → Watch) (ws : List Watch) (i : ℕ) (w : Watch) → i < length ws
    → set (map f (take i ws) ++ drop i ws) i (f (get_or ws i w)) ≡ map f (take (i + 1) ws) ++ drop (i + 1) ws
one_more_heard f ws i w within =
    subst (λ n. set (map f (take i ws) ++ drop i ws) i (f (get_or ws i w)) ≡ map f (take n ws) ++ drop n ws) next
    (one_more f ws i w within)
  where
    next : suc i ≡ i + 1
    next = omega arith

-- what is known of the devices of a list is right
pub record WatchesAll (xs : List Exchange) (us : List ℕ) (ws : List Watch) : Type 0 where
  pub watches : AllByRecursion (Watches xs) ws
  pub same : uids_watched ws ≡ us
  pub counted : AllCounted (length xs) ws

pub none_heard : (us : List ℕ) → WatchesAll [] us (map watch_of us)
none_heard us = record { watches = all_watch_start us; same = start_uids us; counted = all_counted_start us }

-- after one more exchange
pub heard : (xs : List Exchange) (us : List ℕ) (at : ℕ) (e : Exchange) (old new : List Watch) → at < length xs
    → e ≡ get_or xs at e → WatchesAll (take at xs) us old → new ≡ map (heard_by at (seen_of e)) old
    → WatchesAll (take (at + 1) xs) us new
heard xs us at e old new within read all is =
    subst (λ x. WatchesAll x us new) (sym whole) (subst (WatchesAll (take at xs ++ e ∷ []) us) (sym is) (record {
      watches = subst (λ j. AllByRecursion (Watches (take at xs ++ e ∷ [])) (map (heard_by j (seen_of e)) old)) long
          (all_watch_more (take at xs) e old all.watches);
      same = same_uids at (seen_of e) old ∙ all.same;
      counted = subst (λ n. AllCounted n (map (heard_by at (seen_of e)) old)) (sym (length_push (take at xs) e))
          (all_counted_more at (length (take at xs)) (seen_of e) old all.counted);
    }))
  where
    long : length (take at xs) ≡ at
    long = length-take-le at xs (omega arith)

    whole : take (at + 1) xs ≡ take at xs ++ e ∷ []
    whole = take_more xs at e within ∙ ap (λ x. take at xs ++ x ∷ []) (sym read)

-- what is found is what is known
found : (xs : List Exchange) (w : Watch) (o : Option Breach) → Known xs w o → FirstBreach w.uid xs o
found xs w None known = alive_honest w.uid (seen_all xs) (ap is_alive (sym known.0) ∙ known.1)
found xs w (Some b) known = known.0

pub all_found : (xs : List Exchange) (ws : List Watch) → AllByRecursion (Watches xs) ws
    → AreFirstBreaches xs (map finding_of ws)
all_found xs [] all = tt
all_found xs (w ∷ ws) all = (found xs w w.breach all.0, all_found xs ws all.1)

pub found_uids : (ws : List Watch) → uids_of_findings (map finding_of ws) ≡ uids_watched ws
found_uids [] = refl
found_uids (w ∷ ws) = ap (λ l. w.uid ∷ l) (found_uids ws)

-- the same of the first n devices
pub first_found : (xs : List Exchange) (n : ℕ) (ws : List Watch) → AllByRecursion (Watches xs) ws
    → AreFirstBreaches xs (map finding_of (take n ws))
first_found xs zero ws all = tt
first_found xs (suc n) [] all = tt
first_found xs (suc n) (w ∷ ws) all = (found xs w w.breach all.0, first_found xs n ws all.1)

pub first_uids : (n : ℕ) (ws : List Watch) → uids_of_findings (map finding_of (take n ws)) ≡ take n (uids_watched ws)
first_uids zero ws = refl
first_uids (suc n) [] = refl
first_uids (suc n) (w ∷ ws) = ap (λ l. w.uid ∷ l) (first_uids n ws)
