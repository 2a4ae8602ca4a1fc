-- The exchanges of a run follow one another in a legal log.
use Rattle.std.proofs.Common.{◌≡◌, ℕ, Bool, true, false, true≢false, List, [], ◌∷◌, ◌++◌, map, length, take, drop, zip}
use Rattle.std.proofs.Common.{Some, None, refl, sym, ap, ◌∙◌, subst, inl, inr, append-nil, append_assoc, arith}
use Rattle.std.specs.Prelude.{filter, ◌⊎◌, ◌==◌, ◌||◌}
use Rattle.std.specs.List.{AllByRecursion, list_any}
use Rattle.std.proofs.lemmas.Bool.{cases_Bool, eq-eqb, eqb-true}
use Rattle.std.proofs.lemmas.List.{map-append}
use Rattle.std.proofs.lemmas.List.Elements.{filter-append}
use Rattle.arrayvec.specs.ArrayVec.{ArrayVec}
use Rattle.rdm_wire.specs.Lists.{EachAfter}
use Rattle.rdm_wire.specs.Honest.{Seen}
use Rattle.rdm_join.specs.Exchange.{seen_event}
use Rattle.rdm_join.specs.declared.event.LineEvent.{LineEvent}
use Rattle.rdm_line.specs.Events.{Exchange}
use Rattle.rdm_log.specs.declared.entry.Owner.{Owner}
use Rattle.rdm_log.specs.declared.entry.Owner.TheVariants as owners
use Rattle.rdm_log.specs.declared.entry.Opening.{Opening}
use Rattle.rdm_log.specs.declared.entry.Entry.{Entry}
use Rattle.rdm_log.specs.declared.entry.Entry.TheVariants.{Join, Refuse, Accept, Ask, Send, Came, Finish, Answer}
use Rattle.rdm_log.specs.declared.entry.Entry.TheVariants.{Collect, Pause, Resume, Close}
use Rattle.rdm_log.specs.log.Entries.{Sending, OwnedExchange, traded_of, Answered, sending_of, answered_of, sends}
use Rattle.rdm_log.specs.log.Entries.{traded, answers, is_run, cames}
use Rattle.rdm_log.specs.log.Entries.{exchange_of, exchanges}
use Rattle.rdm_log.specs.log.Runs.{has_begun, open_run, next_run, run_exchanges, seen_of}
use Rattle.rdm_log.specs.log.MaySend.{MaySendRun}
use Rattle.rdm_log.specs.log.Legal.{MayFollow}
use Rattle.rdm_log.proofs.LogLemmas.LegalFacts.{along, legal_facts, sent_evenly}
use Rattle.rdm_log.proofs.LogLemmas.PushLemmas.{sends-push, answers-push}
use Rattle.rdm_log.proofs.LogLemmas.RunLemmas.{sent_begins, open_run_same, last_run_same, same_runs_sent}
use Rattle.rdm_log.proofs.LogLemmas.RunFacts.{open_is, is_open, run_facts, opened_by}
use Rattle.rdm_scenes.specs.Exchanges.{RunPart}

abbrev pub NoneOf : ℕ → List Sending → Type 0
NoneOf r ss = AllByRecursion (λ s. is_run r s.owner ≡ false) ss

abbrev pub AllOf : ℕ → List Sending → Type 0
AllOf r ss = AllByRecursion (λ s. is_run r s.owner ≡ true) ss

-- the frames of a run follow one another, and the last of them is the last frame unless the run is over
pub record SendsPart (r : ℕ) (h : List Entry) : Type 0 where
  pub before : List Sending
  pub during : List Sending
  pub after : List Sending
  pub whole : sends h ≡ before ++ (during ++ after)
  pub others_before : NoneOf r before
  pub own : AllOf r during
  pub others_after : NoneOf r after
  pub over : (after ≡ []) ⊎ (open_run h ≡ Some r → ⊥)

all_push : {X : Type 0} (P : X → Type 0) (xs : List X) (x : X) → AllByRecursion P xs → P x
    → AllByRecursion P (xs ++ x ∷ [])
all_push P [] x all p = (p, tt)
all_push P (y ∷ xs) x all p = (all.0, all_push P xs x all.1 p)

none_any : (r : ℕ) (ss : List Sending) → list_any (λ (s : Sending). is_run r s.owner) ss ≡ false → NoneOf r ss
none_any r [] none = tt
none_any r (s ∷ ss) none = by_test (none_any r ss) (is_run r s.owner) refl
  where
    by_test : (list_any (λ (s : Sending). is_run r s.owner) ss ≡ false → NoneOf r ss) → (b : Bool)
        → is_run r s.owner ≡ b → NoneOf r (s ∷ ss)
    by_test rest true is =
        absurd (true≢false (sym (ap (λ (b : Bool). b || list_any (λ (s : Sending). is_run r s.owner) ss) is) ∙ none))
    by_test rest false is =
        (is, rest (sym (ap (λ (b : Bool). b || list_any (λ (s : Sending). is_run r s.owner) ss) is) ∙ none))

-- an entry that sends nothing
unsent : (r : ℕ) (h : List Entry) (e : Entry) → sending_of e ≡ None
    → (open_run (h ++ e ∷ []) ≡ Some r → open_run h ≡ Some r) → SendsPart r h → SendsPart r (h ++ e ∷ [])
unsent r h e none stays p = record {
  before = p.before;
  during = p.during;
  after = p.after;
  whole = rw none at (sends-push h e) ∙ p.whole;
  others_before = p.others_before;
  own = p.own;
  others_after = p.others_after;
  over = elim p.over [ inl q ↦ inl q | inr q ↦ inr (λ is. q (stays is)) ];
}

stays_open : (r : ℕ) (h : List Entry) (e : Entry) → sending_of e ≡ None → answered_of e ≡ None
    → open_run (h ++ e ∷ []) ≡ Some r → open_run h ≡ Some r
stays_open r h e sent answer is =
    sym (open_run_same h (h ++ e ∷ []) (rw sent at (sends-push h e)) (rw answer at (answers-push h e))) ∙ is

any_front : {X : Type 0} (p : X → Bool) (xs : List X) (x : X) → list_any p (xs ++ x ∷ []) ≡ false
    → list_any p xs ≡ false
any_front p [] x none = refl
any_front p (y ∷ xs) x none = by_test (any_front p xs x) (p y) refl
  where
    by_test : (list_any p (xs ++ x ∷ []) ≡ false → list_any p xs ≡ false) → (b : Bool) → p y ≡ b
        → list_any p (y ∷ xs) ≡ false
    by_test rest true is = absurd (true≢false (sym (ap (λ (b : Bool). b || list_any p (xs ++ x ∷ [])) is) ∙ none))
    by_test rest false is =
        ap (λ (b : Bool). b || list_any p xs) is
        ∙ rest (sym (ap (λ (b : Bool). b || list_any p (xs ++ x ∷ [])) is) ∙ none)

answered_open : (r : ℕ) (h : List Entry) (e : Entry) (b : Answered) → sending_of e ≡ None → answered_of e ≡ Some b
    → open_run (h ++ e ∷ []) ≡ Some r → open_run h ≡ Some r
answered_open r h e b sent answer is =
    let o = open_is (h ++ e ∷ []) r is in
    is_open h r (record {
      last = sym (last_run_same h (h ++ e ∷ []) (rw sent at (sends-push h e))) ∙ o.last;
      left = any_front (λ (a : Answered). a.run == r) (answers h) b
          (ap (list_any (λ (a : Answered). a.run == r)) (sym (rw answer at (answers-push h e))) ∙ o.left);
    })

-- a frame that isn't the run's
other_sent : (r : ℕ) (h : List Entry) (owner : Owner) (frame : ArrayVec ℕ) → is_run r owner ≡ false
    → (open_run (h ++ Send owner frame ∷ []) ≡ Some r → ⊥) → SendsPart r h → SendsPart r (h ++ Send owner frame ∷ [])
other_sent r h owner frame other over p =
    let s : Sending = record { owner = owner; frame = frame } in
    record {
      before = p.before;
      during = p.during;
      after = p.after ++ s ∷ [];
      whole = sends-push h (Send owner frame) ∙ ap (λ (ss : List Sending). ss ++ s ∷ []) p.whole
          ∙ append_assoc p.before (p.during ++ p.after) (s ∷ [])
          ∙ ap (λ (ss : List Sending). p.before ++ ss) (append_assoc p.during p.after (s ∷ []));
      others_before = p.others_before;
      own = p.own;
      others_after = all_push (λ (s : Sending). is_run r s.owner ≡ false) p.after s p.others_after other;
      over = inr over;
    }

-- its first, and a later one
first_sent : (r : ℕ) (h : List Entry) (frame : ArrayVec ℕ) → NoneOf r (sends h)
    → SendsPart r (h ++ Send (owners.Run r) frame ∷ [])
first_sent r h frame none =
    let s : Sending = record { owner = owners.Run r; frame = frame } in
    record {
      before = sends h;
      during = s ∷ [];
      after = [];
      whole = sends-push h (Send (owners.Run r) frame);
      others_before = none;
      own = (eq-eqb r r refl, tt);
      others_after = tt;
      over = inl refl;
    }

later_sent : (r : ℕ) (h : List Entry) (frame : ArrayVec ℕ) → open_run h ≡ Some r → SendsPart r h
    → SendsPart r (h ++ Send (owners.Run r) frame ∷ [])
later_sent r h frame goes p = by_over p.over
  where
    s : Sending
    s = record { owner = owners.Run r; frame = frame }

    by_over : (p.after ≡ []) ⊎ (open_run h ≡ Some r → ⊥) → SendsPart r (h ++ Send (owners.Run r) frame ∷ [])
    by_over (inl none) = record {
      before = p.before;
      during = p.during ++ s ∷ [];
      after = [];
      whole =
          sends-push h (Send (owners.Run r) frame)
          ∙ ap (λ (ss : List Sending). ss ++ s ∷ [])
          (p.whole ∙ ap (λ (ss : List Sending). p.before ++ (p.during ++ ss)) none)
          ∙ append_assoc p.before (p.during ++ []) (s ∷ [])
          ∙ ap (λ (ss : List Sending). p.before ++ (ss ++ s ∷ [])) (append-nil p.during)
          ∙ ap (λ (ss : List Sending). p.before ++ ss) (sym (append-nil (p.during ++ s ∷ [])));
      others_before = p.others_before;
      own = all_push (λ (s : Sending). is_run r s.owner ≡ true) p.during s p.own (eq-eqb r r refl);
      others_after = tt;
      over = inl refl;
    }
    by_over (inr never) = absurd (never goes)

sent_begun : (r : ℕ) (h : List Entry) → list_any (λ (s : Sending). is_run r s.owner) (sends h) ≡ has_begun r h
unfolding sends has_begun
sent_begun r h = sent_begins r h

not_begun : (o : Opening) (h : List Entry) (r : ℕ) → EachAfter (MayFollow o) h → r ≡ next_run o h → NoneOf r (sends h)
not_begun o h r each number = by_begun (has_begun r h) refl
  where
    by_begun : (b : Bool) → has_begun r h ≡ b → NoneOf r (sends h)
    by_begun true is = absurd (omega (arith, ((run_facts o h each).begun_below r is).1, number))
    by_begun false is = none_any r (sends h) (sent_begun r h ∙ is)

-- each entry keeps the parts
parts_step : (o : Opening) (h : List Entry) (e : Entry) → EachAfter (MayFollow o) h → ((r : ℕ) → SendsPart r h)
    → MayFollow o h e → (r : ℕ) → SendsPart r (h ++ e ∷ [])
parts_step o h (Send (owners.Request n) frame) each p may r =
    other_sent r h (owners.Request n) frame refl
    (λ is. none_open
    (sym (may.1.no_run)
    ∙ sym ((same_runs_sent h n frame (sent_evenly o h (legal_facts o h each) may.1.not_awaited)).same_open) ∙ is))
    (p r)
  where
    none_open : None ≡ Some r → ⊥
    none_open e = cc
parts_step o h (Send (owners.Run q) frame) each p may r = by_owner (cases_Bool (r == q))
  where
    opened : open_run (h ++ Send (owners.Run q) frame ∷ []) ≡ Some q
    opened = opened_by o h q frame (run_facts o h each) may.1

    by_owner : ((r == q) ≡ true) ⊎ ((r == q) ≡ false) → SendsPart r (h ++ Send (owners.Run q) frame ∷ [])
    by_owner (inl same) =
        subst (λ (q : ℕ). MaySendRun o h q frame → SendsPart r (h ++ Send (owners.Run q) frame ∷ []))
        (eqb-true r q same) own_sent may.1
      where
        own_sent : MaySendRun o h r frame → SendsPart r (h ++ Send (owners.Run r) frame ∷ [])
        own_sent m =
            elim m.turn [
              | inl begins ↦ first_sent r h frame (not_begun o h r each begins.number)
              | inr goes_on ↦
                  later_sent r h frame goes_on (p r)
            ]
    by_owner (inr other) =
        other_sent r h (owners.Run q) frame other
        (λ is. true≢false (sym (eq-eqb r q (some_same (sym is ∙ opened))) ∙ other)) (p r)
      where
        some_same : {a b : ℕ} → Some a ≡ Some b → a ≡ b
        some_same e = cc
parts_step o h (Answer n q fault) each p may r =
    unsent r h (Answer n q fault) refl
    (answered_open r h (Answer n q fault) (record { number = n; run = q; fault = fault }) refl refl) (p r)
parts_step o h (Join c n) each p may r = unsent r h (Join c n) refl (stays_open r h (Join c n) refl refl) (p r)
parts_step o h (Refuse c call cause) each p may r =
    unsent r h (Refuse c call cause) refl (stays_open r h (Refuse c call cause) refl refl) (p r)
parts_step o h (Accept c n request) each p may r =
    unsent r h (Accept c n request) refl (stays_open r h (Accept c n request) refl refl) (p r)
parts_step o h (Ask c n kind) each p may r =
    unsent r h (Ask c n kind) refl (stays_open r h (Ask c n kind) refl refl) (p r)
parts_step o h (Came event) each p may r = unsent r h (Came event) refl (stays_open r h (Came event) refl refl) (p r)
parts_step o h (Finish n status len) each p may r =
    unsent r h (Finish n status len) refl (stays_open r h (Finish n status len) refl refl) (p r)
parts_step o h (Collect c) each p may r = unsent r h (Collect c) refl (stays_open r h (Collect c) refl refl) (p r)
parts_step o h Pause each p may r = unsent r h Pause refl (stays_open r h Pause refl refl) (p r)
parts_step o h Resume each p may r = unsent r h Resume refl (stays_open r h Resume refl refl) (p r)
parts_step o h Close each p may r = unsent r h Close refl (stays_open r h Close refl refl) (p r)

no_sends : sends [] ≡ []
unfolding sends
no_sends = refl

pub sends_parts : (o : Opening) (h : List Entry) → EachAfter (MayFollow o) h → (r : ℕ) → SendsPart r h
sends_parts o h each =
    along o (λ (k : List Entry). (r : ℕ) → SendsPart r k)
    (λ r. record {
      before = [];
      during = [];
      after = [];
      whole = no_sends;
      others_before = tt;
      own = tt;
      others_after = tt;
      over = inl refl;
    }) (λ k e before p may. parts_step o k e before p may) h each

-- the exchanges with them
abbrev of_run : ℕ → List OwnedExchange → List OwnedExchange
of_run r ts = filter (λ (t : OwnedExchange). is_run r t.owner) ts

-- of frames that are all the run's, and of frames that none is
all_own : (r : ℕ) (ss : List Sending) (es : List LineEvent) → AllOf r ss
    → of_run r (map traded_of (zip ss es)) ≡ map traded_of (zip ss es)
all_own r [] es all = refl
all_own r (s ∷ ss) [] all = refl
all_own r (s ∷ ss) (e ∷ es) all =
    rw all.0 (ap (λ (ts : List OwnedExchange). traded_of (s, e) ∷ ts) (all_own r ss es all.1))

none_own : (r : ℕ) (ss : List Sending) (es : List LineEvent) → NoneOf r ss → of_run r (map traded_of (zip ss es)) ≡ []
none_own r [] es all = refl
none_own r (s ∷ ss) [] all = refl
none_own r (s ∷ ss) (e ∷ es) all = rw all.0 (none_own r ss es all.1)

abbrev none_came : List LineEvent
none_came = []

zip_nil : (ss : List Sending) → zip ss none_came ≡ []
zip_nil [] = refl
zip_nil (s ∷ ss) = refl

zip_parts : (us vs : List Sending) (es : List LineEvent)
    → zip (us ++ vs) es ≡ zip us (take (length us) es) ++ zip vs (drop (length us) es)
zip_parts [] vs es = refl
zip_parts (a ∷ us) vs [] = sym (zip_nil vs)
zip_parts (a ∷ us) vs (e ∷ es) = ap (λ (ps : List (Sending × LineEvent)). (a, e) ∷ ps) (zip_parts us vs es)

seen_twice : (ts : List OwnedExchange) → map seen_of ts ≡ map seen_event (map exchange_of ts)
seen_twice [] = refl
seen_twice (t ∷ ts) = ap (λ (xs : List Seen). seen_event (t.frame, t.event) ∷ xs) (seen_twice ts)

pub run_part : (o : Opening) (h : List Entry) → EachAfter (MayFollow o) h → (r : ℕ) → RunPart r h
unfolding exchanges traded run_exchanges
run_part o h each r = record {
  before = map exchange_of first;
  during = map exchange_of middle;
  after = map exchange_of last;
  whole = ap (map exchange_of) all ∙ map-append exchange_of first (middle ++ last)
      ∙ ap (λ (xs : List Exchange). map exchange_of first ++ xs) (map-append exchange_of middle last);
  own = ap (map seen_of) mine ∙ seen_twice middle;
}
  where
    p : SendsPart r h
    p = sends_parts o h each r

    rest : List LineEvent
    rest = drop (length p.before) (cames h)

    first : List OwnedExchange
    first = map traded_of (zip p.before (take (length p.before) (cames h)))

    middle : List OwnedExchange
    middle = map traded_of (zip p.during (take (length p.during) rest))

    last : List OwnedExchange
    last = map traded_of (zip p.after (drop (length p.during) rest))

    all : map traded_of (zip (sends h) (cames h)) ≡ first ++ (middle ++ last)
    all =
        ap (λ (ss : List Sending). map traded_of (zip ss (cames h))) p.whole
        ∙ ap (map traded_of) (zip_parts p.before (p.during ++ p.after) (cames h))
        ∙ map-append traded_of (zip p.before (take (length p.before) (cames h))) (zip (p.during ++ p.after) rest)
        ∙ ap (λ (ts : List OwnedExchange). first ++ ts)
        (ap (map traded_of) (zip_parts p.during p.after rest)
        ∙ map-append traded_of (zip p.during (take (length p.during) rest))
        (zip p.after (drop (length p.during) rest)))

    mine : of_run r (map traded_of (zip (sends h) (cames h))) ≡ middle
    mine =
        ap (of_run r) all
        ∙ filter-append (λ (t : OwnedExchange). is_run r t.owner) first (middle ++ last)
        ∙ ap (λ (ts : List OwnedExchange). ts ++ of_run r (middle ++ last))
        (none_own r p.before (take (length p.before) (cames h)) p.others_before)
        ∙ filter-append (λ (t : OwnedExchange). is_run r t.owner) middle last
        ∙ ap (λ (ts : List OwnedExchange). of_run r middle ++ ts)
        (none_own r p.after (drop (length p.during) rest) p.others_after)
        ∙ append-nil (of_run r middle)
        ∙ all_own r p.during (take (length p.during) rest) p.own
