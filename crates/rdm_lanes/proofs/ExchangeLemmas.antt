-- An exchange with the line: a frame is taken, and what came is delivered.
use Rattle.rdm_lanes.proofs.Common.{◌≡◌, ℕ, ◌+◌, true, false, true≢false, List, [], ◌∷◌, ◌++◌, length, Option, Some}
use Rattle.rdm_lanes.proofs.Common.{None, Result, Ok, Err, refl, sym, ap, ◌∙◌, subst, length-append, append-nil}
use Rattle.rdm_lanes.proofs.Common.{append_assoc, ArrayVec, EachAfter, LineEvent, Exchange, Makes, Owner, Entry, Send}
use Rattle.rdm_lanes.proofs.Common.{Came, LogFull, sends, cames, joins, exchanges, awaited, LogState, grown}
use Rattle.rdm_lanes.proofs.Common.{is_full_log, NoSend, Legal, MayFollow, GrowsBy, AllResults, front, awaited-push}
use Rattle.rdm_lanes.proofs.Common.{legal_facts, exchange_count, Exchanged, SameSwitches, NoCallLost, IsBetweenTurns}
use Rattle.rdm_lanes.proofs.Common.{NoExchange, IsOnlyTold, views_found, GainOneAtMost, inl, arith}
use Rattle.rdm_log.specs.declared.fault.NotAsked.{NotAsked}
use Rattle.rdm_log.specs.promises.Blocks.{TakeLogs, DeliverAdds}
use Rattle.rdm_log.proofs.LogLemmas.LegalFacts.{sent_evenly}
use Rattle.rdm_lanes.specs.declared.worker.working.Attempt.{Attempt}
use Rattle.rdm_lanes.specs.declared.worker.working.Attempt.TheVariants.{Exchanged as MadeOne, NothingToSend}
use Rattle.rdm_lanes.specs.declared.worker.working.Attempt.TheVariants.{LogFull as NoRoom}
use Rattle.rdm_lanes.specs.body.Steps.{Attempted, Did}
use Rattle.rdm_lanes.proofs.FoundLemmas.{exchange_views}
use Rattle.rdm_lanes.proofs.LaneLemmas.{waits, waits_join, waits_same}
use Rattle.rdm_lanes.proofs.LineLemmas.{traded_one, exchanges_off, results_off, results_no_join, results_no_switch}
use Rattle.rdm_lanes.proofs.LineLemmas.{joins_stay, switches_stay, awaited_off, none_lost_grows, rightly_without}
use Rattle.rdm_lanes.proofs.LineLemmas.{results_no_refusal, grown_join, line_same, switches_same}
use Rattle.rdm_log.proofs.PromiseLemmas.EntriesOf.{results_each}
use Rattle.rdm_lanes.proofs.GrowthLemmas.{touches}

-- nothing was taken
same_state : (old new : LogState) (block : List Entry) → block ≡ [] → new ≡ grown old block → new ≡ old
same_state old new block none is =
    is ∙ ap (λ (b : List Entry). grown old b) none
    ∙ ap (λ (h : List Entry). record old { entries = h }) (append-nil old.entries)

-- one exchange
pub record IsExchange (old new : LogState) (frame : ArrayVec ℕ) (event : LineEvent) : Type 0 where
  pub served : IsBetweenTurns new
  pub block : List Entry
  pub grows : new ≡ grown old block
  pub nobody_joined : joins new.entries ≡ joins old.entries
  pub added : exchanges new.entries ≡ exchanges old.entries ++ (frame, event) ∷ []
  pub found : GainOneAtMost (views_found old.entries) (views_found new.entries)
  pub switches : SameSwitches old new
  pub wait : (c : ℕ) → IsOnlyTold c old new

delivered : (old mid new : LogState) (owner : Owner) (frame : ArrayVec ℕ) (event : LineEvent) (results : List Entry)
    → mid ≡ grown old (Send owner frame ∷ []) → new ≡ grown mid (Came event ∷ results) → AllResults results
    → Legal mid.opening mid.entries → Legal new.opening new.entries → IsBetweenTurns old
    → IsExchange old new frame event
delivered old mid new owner frame event results sent came all legal_mid legal_new s = record {
  served = record {
    answered = ap (λ (k : LogState). awaited k.entries) whole ∙ not_awaited;
    no_call_lost =
        subst NoCallLost (sym grew_all)
        (none_lost_grows old (Send owner frame ∷ Came event ∷ results) s.no_call_lost
        (rightly_without old.opening old.entries (Send owner frame ∷ Came event ∷ results)
        (refl, (refl, results_no_refusal results all))));
  };
  block = Send owner frame ∷ Came event ∷ results;
  grows = grew_all;
  nobody_joined =
      ap (λ (k : LogState). joins k.entries) grew_all
      ∙ joins_stay h (Send owner frame ∷ Came event ∷ results) (refl, (refl, results_no_join results all));
  added = ap (λ (k : LogState). exchanges k.entries) whole
      ∙ exchanges_off ((h ++ Send owner frame ∷ []) ++ Came event ∷ []) results (results_off results all)
      ∙ traded_one h owner frame event even;
  found = subst (λ (k : LogState). GainOneAtMost (views_found h) (views_found k.entries)) (sym whole)
      (exchange_views old.opening h owner frame event results
      (subst (λ (k : LogState). EachAfter (MayFollow k.opening) k.entries) whole legal_new.each) all);
  switches = switches_stay old new (Send owner frame ∷ Came event ∷ results) grew_all
      (refl, (refl, results_no_switch results all));
  wait = λ c. waits_join c old mid new (waits c old mid (Send owner frame ∷ []) sent legal_mid (refl, tt))
      (waits c mid new (Came event ∷ results) came legal_new
      (refl, results_each (λ e. touches c e ≡ false) (λ n status len. refl, λ n run fault. refl) results all));
}
  where
    h : List Entry
    h = old.entries

    whole : new ≡ record old { entries = ((h ++ Send owner frame ∷ []) ++ Came event ∷ []) ++ results }
    whole = came ∙ ap (λ (k : LogState). grown k (Came event ∷ results)) sent
        ∙ ap (λ (xs : List Entry). record old { entries = xs })
        (sym (append_assoc (h ++ Send owner frame ∷ []) (Came event ∷ []) results))

    grew_all : new ≡ grown old (Send owner frame ∷ Came event ∷ results)
    grew_all = grown_join old mid new (Send owner frame ∷ []) (Came event ∷ results) sent came

    not_awaited : awaited (((h ++ Send owner frame ∷ []) ++ Came event ∷ []) ++ results) ≡ false
    not_awaited =
        awaited_off ((h ++ Send owner frame ∷ []) ++ Came event ∷ []) results (results_off results all)
        ∙ awaited-push (h ++ Send owner frame ∷ []) (Came event)

    each_mid : EachAfter (MayFollow old.opening) (h ++ Send owner frame ∷ [])
    each_mid = subst (λ (k : LogState). EachAfter (MayFollow k.opening) k.entries) sent legal_mid.each

    even : length (sends h) ≡ length (cames h)
    even = sent_evenly old.opening h (legal_facts old.opening h (front old.opening h (Send owner frame ∷ []) each_mid))
        s.answered

awaits_sent : (old mid : LogState) (owner : Owner) (frame : ArrayVec ℕ) → mid ≡ grown old (Send owner frame ∷ [])
    → awaited mid.entries ≡ true
awaits_sent old mid owner frame sent =
    ap (λ (k : LogState). awaited k.entries) sent ∙ awaited-push old.entries (Send owner frame)

answered : (old mid new : LogState) (owner : Owner) (frame : ArrayVec ℕ) (event : LineEvent)
    (r : Result (Unit {0}) (NotAsked × LineEvent)) → mid ≡ grown old (Send owner frame ∷ [])
    → GrowsBy mid (DeliverAdds mid event r) new
    → Legal mid.opening mid.entries → Legal new.opening new.entries → IsBetweenTurns old
    → IsExchange old new frame event
answered old mid new owner frame event (Ok x) sent g legal_mid legal_new s =
    delivered old mid new owner frame event g.adds.1.results sent
    (g.grows ∙ ap (λ (b : List Entry). grown mid b) g.adds.1.whole) g.adds.1.each legal_mid legal_new s
answered old mid new owner frame event (Err e) sent g legal_mid legal_new s =
    absurd (true≢false (sym (awaits_sent old mid owner frame sent) ∙ g.adds.0))

pub exchange_made : (old mid new : LogState) (frame : ArrayVec ℕ) (event : LineEvent)
    (t : Result (Option (ArrayVec ℕ)) LogFull) (r : Result (Unit {0}) (NotAsked × LineEvent)) → t ≡ Ok (Some frame)
    → GrowsBy old (TakeLogs old t) mid
    → GrowsBy mid (DeliverAdds mid event r) new → Legal mid.opening mid.entries → Legal new.opening new.entries
    → IsBetweenTurns old → IsExchange old new frame event
exchange_made old mid new frame event t r is taken g legal_mid legal_new s = by_result (rw is at taken)
  where
    by_result : GrowsBy old (TakeLogs old (Ok (Some frame))) mid → IsExchange old new frame event
    by_result t =
        let adds = t.adds.1 in
        answered old mid new adds.0 frame event r (t.grows ∙ ap (λ (b : List Entry). grown old b) adds.2) g legal_mid
        legal_new s

-- steps of the line, one after the other
module _ {L : Type 0} (step : L → Exchange → L → Type 0) where
  pub makes-join : (xs ys : List Exchange) (a b d : L) → Makes L step a xs b → Makes L step b ys d
      → Makes L step a (xs ++ ys) d
  makes-join [] ys a b d e f = subst (λ (z : L). Makes L step z ys d) e f
  makes-join (x ∷ xs) ys a b d e f = (e.0, e.1, makes-join xs ys e.0 b d e.2 f)

  pub exchanged_none : (a : L) (old new : LogState) → NoExchange old new → Exchanged step a old a new
  exchanged_none a old new s = record {
    block = s.block;
    grows = s.grows;
    nobody_joined = s.nobody_joined;
    made = [];
    added = s.same ∙ sym (append-nil _);
    steps = refl;
  }

  pub exchanged_join : (a b d : L) (k m n : LogState) → Exchanged step a k b m → Exchanged step b m d n
      → Exchanged step a k d n
  exchanged_join a b d k m n x y = record {
    block = x.block ++ y.block;
    grows = grown_join k m n x.block y.block x.grows y.grows;
    nobody_joined = y.nobody_joined ∙ x.nobody_joined;
    made = x.made ++ y.made;
    added = y.added ∙ ap (λ (xs : List Exchange). xs ++ y.made) x.added
        ∙ append_assoc (exchanges k.entries) x.made y.made;
    steps = makes-join x.made y.made a b d x.steps y.steps;
  }

-- how many exchanges there are
one_more : (old new : LogState) (frame : ArrayVec ℕ) (event : LineEvent) → IsExchange old new frame event
    → exchange_count new ≡ exchange_count old + 1
one_more old new frame event x = ap length x.added ∙ length-append (exchanges old.entries) ((frame, event) ∷ [])

pub no_more : (old new : LogState) → NoExchange old new → exchange_count new ≡ exchange_count old
no_more old new s = ap length s.same

-- what an attempt at an exchange comes to
module _ {L : Type 0} (step : L → Exchange → L → Type 0) where
  attempted_not : (a : L) (old new : LogState) (attempt : Attempt) → new ≡ old → IsBetweenTurns old
      → Did attempt old new → Attempted step a old a new attempt
  attempted_not a old new attempt same s did = record {
    exchanged = exchanged_none step a old new (rw same (line_same old));
    one = omega (arith, ap exchange_count same);
    did = did;
    found = inl (ap (λ (k : LogState). views_found k.entries) same);
    switches = rw same (switches_same old);
    served = subst IsBetweenTurns (sym same) s;
    wait = λ c. rw same (waits_same c old);
  }

  pub attempted_full : (a : L) (old new : LogState) (r : Result (Option (ArrayVec ℕ)) LogFull) (fault : LogFull)
      → r ≡ Err fault → GrowsBy old (TakeLogs old r) new → IsBetweenTurns old → Attempted step a old a new NoRoom
  attempted_full a old new r fault is g s = by_result (rw is at g)
    where
      by_result : GrowsBy old (TakeLogs old (Err fault)) new → Attempted step a old a new NoRoom
      by_result g =
          let same = same_state old new g.block g.adds.1 g.grows in
          attempted_not a old new NoRoom same s (ap is_full_log same ∙ g.adds.0)

  pub attempted_nothing : (a : L) (old new : LogState) (r : Result (Option (ArrayVec ℕ)) LogFull) → r ≡ Ok None
      → GrowsBy old (TakeLogs old r) new → IsBetweenTurns old → Attempted step a old a new NothingToSend
  attempted_nothing a old new r is g s = by_result (rw is at g)
    where
      by_result : GrowsBy old (TakeLogs old (Ok None)) new → Attempted step a old a new NothingToSend
      by_result g =
          let adds = g.adds.1 in
          let same = same_state old new g.block adds.1 g.grows in
          attempted_not a old new NothingToSend same s
          (subst (λ (k : LogState). NoSend k.opening k.entries) (sym same) adds.0)

  pub attempted_one : (a b : L) (old new : LogState) (frame : ArrayVec ℕ) (event : LineEvent)
      → IsExchange old new frame event → step a (frame, event) b → Attempted step a old b new MadeOne
  attempted_one a b old new frame event x s = record {
    exchanged = record {
      block = x.block;
      grows = x.grows;
      nobody_joined = x.nobody_joined;
      made = (frame, event) ∷ [];
      added = x.added;
      steps = (b, s, refl);
    };
    one = omega (arith, one_more old new frame event x);
    did = one_more old new frame event x;
    found = x.found;
    switches = x.switches;
    served = x.served;
    wait = x.wait;
  }
