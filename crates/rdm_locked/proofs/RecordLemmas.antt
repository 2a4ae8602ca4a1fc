-- Comparing a log's exchanges with a record.
use Rattle.std.proofs.Common.{◌≡◌, ℕ, ◌+◌, ◌<◌, ◌≤◌, List, [], ◌∷◌, ◌++◌, length, map, drop, get_or, refl, ap, sym, ◌∙◌}
use Rattle.std.proofs.Common.{None, arith, length-append}
use Rattle.std.specs.Prelude.{◌↔◌, Bool, ◌==◌, zip}
use Rattle.std.specs.Bool.{Decides}
use Rattle.std.proofs.lemmas.Bool.{eqb-true}
use Rattle.std.proofs.lemmas.List.{at_drop_more, append_assoc, map-append}
use Rattle.std.proofs.Math.ListN.{drop_of_length-le}
use Rattle.arrayvec.specs.ArrayVec.{ArrayVec}
use Rattle.rdm_join.specs.declared.event.LineEvent.{LineEvent}
use Rattle.rdm_log.specs.declared.entry.Owner.{Owner}
use Rattle.rdm_log.specs.declared.entry.Entry.{Entry}
use Rattle.rdm_log.specs.declared.entry.Entry.TheVariants.{Join, Refuse, Accept, Ask, Send, Came, Finish, Answer}
use Rattle.rdm_log.specs.declared.entry.Entry.TheVariants.{Collect, Pause, Resume, Close}
use Rattle.rdm_log.specs.declared.entry.Opening.{Opening}
use Rattle.rdm_log.specs.log.Entries.{Sending, came_of, sending_of, traded_of, cames, sends, traded, exchange_of}
use Rattle.rdm_log.specs.log.Entries.{exchanges}
use Rattle.rdm_log.specs.log.Legal.{Legal}
use Rattle.rdm_log.proofs.LogLemmas.LegalFacts.{legal_facts}
use Rattle.rdm_log.specs.promises.Headline.{Begins}
use Rattle.rdm_locked.specs.body.Frames.{frames_in}
use Rattle.rdm_locked.specs.Exchanges.{in_record, recorded, Records}
use Rattle.rdm_line.specs.Events.{Makes, Exchange as LineExchange}
use Rattle.rdm_locked.specs.declared.exchange.Exchange.{Exchange}

-- an entry that is no Came, and no Send
pub no_came : (e : Entry) → ((event : LineEvent) → e ≡ Came event → ⊥) → came_of e ≡ None
no_came (Came event) other = absurd (other event refl)
no_came (Join c n) other = refl
no_came (Refuse c call cause) other = refl
no_came (Accept c n request) other = refl
no_came (Ask c n kind) other = refl
no_came (Send owner frame) other = refl
no_came (Finish n status len) other = refl
no_came (Answer n run fault) other = refl
no_came (Collect c) other = refl
no_came Pause other = refl
no_came Resume other = refl
no_came Close other = refl

pub no_send : (e : Entry) → ((owner : Owner) (frame : ArrayVec ℕ) → e ≡ Send owner frame → ⊥) → sending_of e ≡ None
no_send (Send owner frame) other = absurd (other owner frame refl)
no_send (Join c n) other = refl
no_send (Refuse c call cause) other = refl
no_send (Accept c n request) other = refl
no_send (Ask c n kind) other = refl
no_send (Came event) other = refl
no_send (Finish n status len) other = refl
no_send (Answer n run fault) other = refl
no_send (Collect c) other = refl
no_send Pause other = refl
no_send Resume other = refl
no_send Close other = refl

-- what comes from the i-th entry on
pub cames_skip : (h : List Entry) (i : ℕ) (e : Entry) → i < length h → e ≡ get_or h i e → came_of e ≡ None
    → cames (drop i h) ≡ cames (drop (i + 1) h)
unfolding cames
cames_skip h i e within is other = at_drop_more cames h i e within ∙ ap (λ x. cames (x ∷ drop (i + 1) h)) (sym is)
    ∙ rw other refl

pub cames_next : (h : List Entry) (i : ℕ) (e : Entry) (event : LineEvent) → i < length h → e ≡ get_or h i e
    → e ≡ Came event → cames (drop i h) ≡ event ∷ cames (drop (i + 1) h)
unfolding cames
cames_next h i e event within is came = at_drop_more cames h i e within
    ∙ ap (λ x. cames (x ∷ drop (i + 1) h)) (sym is ∙ came)

pub frames_skip : (h : List Entry) (i : ℕ) (e : Entry) → i < length h → e ≡ get_or h i e → sending_of e ≡ None
    → frames_in (drop i h) ≡ frames_in (drop (i + 1) h)
unfolding sends
frames_skip h i e within is other = at_drop_more frames_in h i e within
    ∙ ap (λ x. frames_in (x ∷ drop (i + 1) h)) (sym is) ∙ rw other refl

pub frames_next : (h : List Entry) (i : ℕ) (e : Entry) (owner : Owner) (frame : ArrayVec ℕ) → i < length h
    → e ≡ get_or h i e → e ≡ Send owner frame → frames_in (drop i h) ≡ frame ∷ frames_in (drop (i + 1) h)
unfolding sends
frames_next h i e owner frame within is sent = at_drop_more frames_in h i e within
    ∙ ap (λ x. frames_in (x ∷ drop (i + 1) h)) (sym is ∙ sent)

-- nothing comes from the end on
pub cames_end : (h : List Entry) (i : ℕ) → length h ≤ i → cames (drop i h) ≡ []
unfolding cames
cames_end h i past = rw (drop_of_length-le h past) refl

pub frames_end : (h : List Entry) (i : ℕ) → length h ≤ i → frames_in (drop i h) ≡ []
unfolding sends
frames_end h i past = rw (drop_of_length-le h past) refl

module _ {X : Type 0} where
  abbrev head_of : X → List X → X
  head_of d [] = d
  head_of d (x ∷ xs) = x

  abbrev tail_of : List X → List X
  tail_of [] = []
  tail_of (x ∷ xs) = xs

  -- lists that are compared element by element
  pub same_heads : (x y : X) (xs ys : List X) → (x ∷ xs) ≡ (y ∷ ys) → x ≡ y
  same_heads x y xs ys same = ap (head_of x) same

  pub same_next : {P : Type 0} (x y : X) (xs ys : List X) → x ≡ y → P ↔ ((x ∷ xs) ≡ (y ∷ ys)) → P ↔ (xs ≡ ys)
  same_next x y xs ys first both = (λ p. ap tail_of (both.0 p), λ rest. both.1 (rw (first, rest) refl))

  -- and lists of which one begins with the other
  pub begins_heads : (x y : X) (xs ys : List X) → Begins (y ∷ ys) (x ∷ xs) → x ≡ y
  begins_heads x y xs ys begins = ap (head_of x) begins.whole

  pub begins_next : {P : Type 0} (x y : X) (xs ys : List X) → x ≡ y → P ↔ Begins (y ∷ ys) (x ∷ xs) → P ↔ Begins ys xs
  begins_next x y xs ys first both = (
    (λ p. let b = both.0 p in record { rest = b.rest; whole = ap tail_of b.whole }),
    (λ b. both.1 (record { rest = b.rest; whole = rw (first, b.whole) refl })),
  )

  cons_more : (x y : X) (xs ys : List X) → x ≡ y → xs ≡ ys → (x ∷ xs) ≡ (y ∷ ys)
  cons_more x y xs ys first later = rw (first, later) refl

  begins_more : (x y : X) (xs ys : List X) → x ≡ y → Begins ys xs → Begins (y ∷ ys) (x ∷ xs)
  begins_more x y xs ys first b = record { rest = b.rest; whole = rw (first, b.whole) refl }

  -- the end of a record, from which f takes such elements
  module _ {E : Type 0} where
    pub not_longer : (f : E → X) (x : X) (xs : List X) (left : List E) → length left ≡ 0 → (x ∷ xs) ≡ map f left → ⊥
    not_longer f x xs [] none same = cc
    not_longer f x xs (y ∷ left) none same = omega arith

    pub same_end : {P : Type 0} (f : E → X) (left : List E) (b : Bool) → P ↔ ([] ≡ map f left) → b ≡ (length left == 0)
        → Decides b P
    same_end f [] b both is = (λ yes. both.1 refl, λ p. is)
    same_end f (y ∷ left) b both is = (
      λ yes. absurd (let none =
          eqb-true (length (y ∷ left)) 0 (sym is ∙ yes) in omega arith),
      λ p. let same = both.0 p in cc,
    )

    pub begins_none : (f : E → X) (xs : List X) (left : List E) → length left ≡ 0 → Begins (map f left) xs
    begins_none f xs [] none = record { rest = xs; whole = refl }
    begins_none f xs (y ∷ left) none = absurd (omega arith)

    pub begins_end : {P : Type 0} (f : E → X) (left : List E) (b : Bool) → P ↔ Begins (map f left) []
        → b ≡ (length left == 0) → Decides b P
    begins_end f [] b both is = (λ yes. both.1 (record { rest = []; whole = refl }), λ p. is)
    begins_end f (y ∷ left) b both is = (
      λ yes. absurd (let none =
          eqb-true (length (y ∷ left)) 0 (sym is ∙ yes) in omega arith),
      λ p. let same = (both.0 p).whole in cc,
    )

-- a log's exchanges are those of a record exactly if its events are, and its frames begin with the record's
exchanges_split : (ss : List Sending) (es : List LineEvent) (xs : List Exchange) → length es ≤ length ss
    → map exchange_of (map traded_of (zip ss es)) ≡ recorded xs → (es ≡ map (λ x. x.event) xs)
    × Begins (map (λ x. x.frame) xs) (map (λ s. s.frame) ss)
exchanges_split ss [] [] few same = (refl, record { rest = map (λ s. s.frame) ss; whole = refl })
exchanges_split [] [] (x ∷ xs) few same = cc
exchanges_split (s ∷ ss) [] (x ∷ xs) few same = cc
exchanges_split [] (e ∷ es) xs few same = absurd (omega arith)
exchanges_split (s ∷ ss) (e ∷ es) [] few same = cc
exchanges_split (s ∷ ss) (e ∷ es) (x ∷ xs) few same =
    let first = same_heads (s.frame, e) (x.frame, x.event) _ _ same in
    let later = exchanges_split ss es xs (omega arith) (ap tail_of same) in (
      cons_more e x.event _ _ (ap (λ p. p.1) first) later.0,
      begins_more s.frame x.frame _ _
          (ap (λ p. p.0) first) later.1,
    )

pub exchanges_joined : (ss : List Sending) (es : List LineEvent) (xs : List Exchange) → es ≡ map (λ x. x.event) xs
    → Begins (map (λ x. x.frame) xs) (map (λ s. s.frame) ss) → map exchange_of (map traded_of (zip ss es)) ≡ recorded xs
exchanges_joined [] [] [] same begins = refl
exchanges_joined (s ∷ ss) [] [] same begins = refl
exchanges_joined ss (e ∷ es) [] same begins = cc
exchanges_joined ss [] (x ∷ xs) same begins = cc
exchanges_joined [] (e ∷ es) (x ∷ xs) same begins = let whole = begins.whole in cc
exchanges_joined (s ∷ ss) (e ∷ es) (x ∷ xs) same begins =
    let event : e ≡ x.event = same_heads e x.event _ _ same in
    let frame : s.frame ≡ x.frame = begins_heads s.frame x.frame _ _ begins in
    rw (event, frame) (ap (λ ys. (x.frame, x.event) ∷ ys) (exchanges_joined ss es xs (ap tail_of same)
    (record { rest = begins.rest; whole = ap tail_of begins.whole })))

pub exchanges_decided : (o : Opening) (h : List Entry) (xs : List Exchange) → Legal o h
    → (exchanges h ≡ recorded xs) ↔ ((cames h ≡ map (λ x. x.event) xs)
    × Begins (map (λ x. x.frame) xs) (frames_in h))
unfolding traded exchanges
exchanges_decided o h xs legal =
    let facts = legal_facts o h legal.each in (
      exchanges_split (sends h) (cames h) xs (omega (arith, facts.exchanges)),
      λ both. exchanges_joined (sends h) (cames h) xs both.0 both.1,
    )

-- a line's exchanges, with one more
makes_push : (L : Type 0) (step : L → LineExchange → L → Type 0) (a : L) (xs : List LineExchange) (b : L)
    (x : LineExchange) (c : L) → Makes L step a xs b → step b x c → Makes L step a (xs ++ x ∷ []) c
makes_push L step a [] b x c made last = (c, (rw made at last), refl)
makes_push L step a (y ∷ ys) b x c made last = (made.0, made.1, makes_push L step made.0 ys b x c made.2 last)

-- a turn with an exchange, and one without
pub records_more : (L : Type 0) (step : L → LineExchange → L → Type 0) (a : L) (old : List Exchange) (b : L)
    (new : List Exchange) (turns : ℕ) (x : Exchange) (c : L) → Records L step a old b new turns → step b (in_record x) c
    → Records L step a old c (new ++ x ∷ []) (turns + 1)
records_more L step a old b new turns x c before last = record {
  made = before.made ++ x ∷ [];
  appended = rw before.appended (append_assoc old before.made (x ∷ []));
  steps = rw (map-append in_record before.made (x ∷ [])) (makes_push L step a (recorded before.made) b
      (in_record x) c before.steps last);
  few = omega (arith, before.few, length-append before.made (x ∷ []));
}

pub records_later : (L : Type 0) (step : L → LineExchange → L → Type 0) (a : L) (old : List Exchange) (b : L)
    (new : List Exchange) (turns : ℕ) → Records L step a old b new turns → Records L step a old b new (turns + 1)
records_later L step a old b new turns before = record {
  made = before.made;
  appended = before.appended;
  steps = before.steps;
  few = omega (arith, before.few);
}
