-- First in, first out, for requests and for discoveries.
use Rattle.rdm_log.proofs.Common.{◌≡◌, ℕ, zero, suc, ◌+◌, ◌-◌, ◌≤◌, Bool, true, false, List, [], ◌∷◌, ◌++◌, length}
use Rattle.rdm_log.proofs.Common.{take, drop, map, filter, Some, None, Option, slice_get, refl, sym, ap}
use Rattle.rdm_log.proofs.Common.{◌∙◌, arith, ◌==◌, cond, cons_option, range_with_len, map-append, take-append-drop}
use Rattle.rdm_log.proofs.Common.{length-take-le, filter-append, same_Some, slice_get-map, filter_map, Opening, Entry}
use Rattle.rdm_log.proofs.Common.{Finish, Answer, Accepted, AskedDiscovery, Finished, Answered, finished_of}
use Rattle.rdm_log.proofs.Common.{answered_of}
use Rattle.rdm_log.proofs.Common.{accepts, asks, finishes, answers, client_of_request, client_of_discovery}
use Rattle.rdm_log.proofs.Common.{is_client_of, is_answer_to, answers_to, Legal, numbers_accepted, numbers_asked}
use Rattle.rdm_log.proofs.Common.{Begins}
use Rattle.rdm_log.specs.promises.Headline.{numbers_finished, InOrder}
use Rattle.rdm_log.specs.promises.Discoveries.{numbers_answered, AnsweredInOrder}
use Rattle.rdm_log.proofs.PromiseLemmas.Numbers.{range_parts, numbers_by_index}
use Rattle.rdm_log.proofs.LogLemmas.LegalFacts.{LogFacts, legal_facts}
use Rattle.rdm_log.proofs.LogLemmas.AskFacts.{AskFacts, ask_facts}

-- the numbers of what began and of what ended
pub accepted_in_order : (o : Opening) (h : List Entry) → LogFacts o h
    → numbers_accepted (accepts h) ≡ range_with_len o.next_request (length (accepts h))
accepted_in_order o h facts = numbers_by_index (λ a. a.number) (accepts h) o.next_request facts.accept_numbers

pub finished_in_order : (o : Opening) (h : List Entry) → LogFacts o h
    → numbers_finished (finishes h) ≡ range_with_len o.next_request (length (finishes h))
finished_in_order o h facts = numbers_by_index (λ f. f.number) (finishes h) o.next_request facts.finish_numbers

pub asked_in_order : (o : Opening) (h : List Entry) → AskFacts o h
    → numbers_asked (asks h) ≡ range_with_len o.next_ask (length (asks h))
asked_in_order o h facts = numbers_by_index (λ a. a.number) (asks h) o.next_ask facts.ask_numbers

pub answered_in_order : (o : Opening) (h : List Entry) → AskFacts o h
    → numbers_answered (answers h) ≡ range_with_len o.next_ask (length (answers h))
answered_in_order o h facts = numbers_by_index (λ b. b.number) (answers h) o.next_ask facts.answer_numbers

range_begins : (a m n : ℕ) → m ≤ n → Begins (range_with_len a m) (range_with_len a n)
range_begins a m n within = record { rest = range_with_len (a + m) (n - m); whole = range_parts a m n within }

-- what a test keeps, if it goes by what is made of each element
kept_by : {X Y : Type 0} (f : X → Option Y) (p : X → Bool) (q : Y → Bool)
    → ((x : X) (y : Y) → f x ≡ Some y → p x ≡ q y) → (xs : List X)
    → filter_map f (filter p xs) ≡ filter q (filter_map f xs)
kept_by f p q agree [] = refl
kept_by {X} {Y} f p q agree (x ∷ xs) = by_tests (f x) refl (p x) refl (kept_by f p q agree xs)
  where
    by_tests : (y : Option Y) → f x ≡ y → (t : Bool) → p x ≡ t
        → filter_map f (filter p xs) ≡ filter q (filter_map f xs)
        → filter_map f (cond t (x ∷ filter p xs) (filter p xs)) ≡ filter q (cons_option y (filter_map f xs))
    by_tests None none true passes later = rw none later
    by_tests None none false fails later = later
    by_tests (Some y) some true passes later =
        rw (some, sym (agree x y some) ∙ passes) (ap (λ l. y ∷ l) later)
    by_tests (Some y) some false fails later = rw (sym (agree x y some) ∙ fails) later

-- two lists that agree at each index
same_numbers : {A E : Type 0} (number : A → ℕ) (ended : E → ℕ) (q : A → Bool) (p : E → Bool)
    → (es : List E) (rs : List A) → length es ≡ length rs
    → ((i : ℕ) (e : E) (a : A) → slice_get es i ≡ Some e → slice_get rs i ≡ Some a → (ended e ≡ number a)
    × (p e ≡ q a)) → map ended (filter p es) ≡ map number (filter q rs)
same_numbers number ended q p [] [] even at = refl
same_numbers number ended q p [] (a ∷ rs) even at = absurd (omega arith)
same_numbers number ended q p (e ∷ es) [] even at = absurd (omega arith)
same_numbers number ended q p (e ∷ es) (a ∷ rs) even at =
    let here = at 0 e a refl refl in
    by_test (p e) (q a) here.1 here.0
    (same_numbers number ended q p es rs (omega arith) (λ i f b x y. at (suc i) f b x y))
  where
    by_test : (s t : Bool) → s ≡ t → ended e ≡ number a → map ended (filter p es) ≡ map number (filter q rs)
        → map ended (cond s (e ∷ filter p es) (filter p es)) ≡ map number (cond t (a ∷ filter q rs) (filter q rs))
    by_test true true same n later = rw (n, later) refl
    by_test true false same n later = cc
    by_test false true same n later = cc
    by_test false false same n later = later

pub taken_index : {X : Type 0} (n : ℕ) (xs : List X) (i : ℕ) (x : X) → slice_get (take n xs) i ≡ Some x
    → slice_get xs i ≡ Some x
taken_index zero xs i x e = cc
taken_index (suc n) [] i x e = cc
taken_index (suc n) (y ∷ xs) zero x e = e
taken_index (suc n) (y ∷ xs) (suc i) x e = taken_index n xs i x e

-- of what began under numbers from `first` on, and of what ended under them, each client's
begins_by : {A E : Type 0} (c first : ℕ) (client number : A → ℕ) (ended : E → ℕ) (rs : List A) (es : List E)
    → length es ≤ length rs → ((i : ℕ) (a : A) → slice_get rs i ≡ Some a → number a ≡ first + i)
    → ((i : ℕ) (e : E) → slice_get es i ≡ Some e → ended e ≡ first + i)
    → Begins (map ended (filter (λ e. is_client_of c (slice_get (map client rs) (ended e - first))) es))
    (map number (filter (λ a. c == client a) rs))
begins_by {A} {E} c first client number ended rs es within numbers ends = record {
  rest = map number (filter own later);
  whole = sym (ap (λ l. map number (filter own l)) (take-append-drop (length es) rs))
      ∙ ap (map number) (filter-append own earlier later) ∙ map-append number (filter own earlier) (filter own later)
      ∙ ap (λ l. l ++ map number (filter own later)) (sym (same_numbers number ended own known es earlier even agree));
}
  where
    own : A → Bool
    own a = c == client a

    known : E → Bool
    known e = is_client_of c (slice_get (map client rs) (ended e - first))

    earlier : List A
    earlier = take (length es) rs

    later : List A
    later = drop (length es) rs

    even : length es ≡ length earlier
    even = sym (length-take-le (length es) rs within)

    agree : (i : ℕ) (e : E) (a : A) → slice_get es i ≡ Some e → slice_get earlier i ≡ Some a → (ended e ≡ number a)
        × (known e ≡ own a)
    agree i e a at_e at_a =
        let here : slice_get rs i ≡ Some a = taken_index (length es) rs i a at_a in
        let index : ended e - first ≡ i = omega (arith, ends i e at_e) in (
          ends i e at_e ∙ sym (numbers i a here),
          ap (λ n. is_client_of c (slice_get (map client rs) n)) index
              ∙ rw (slice_get-map client rs i, here) refl,
        )

-- a client's Finishes and Answers, by the clients of their requests and discoveries
finishes_to : (o : Opening) (c : ℕ) (h : List Entry)
    → finishes (answers_to o c h) ≡ filter (λ f. is_client_of c (client_of_request o h f.number)) (finishes h)
unfolding finishes answers_to
finishes_to o c h =
    kept_by finished_of (is_answer_to o c h) (λ (f : Finished). is_client_of c (client_of_request o h f.number)) agree h
  where
    agree : (e : Entry) (f : Finished) → finished_of e ≡ Some f
        → is_answer_to o c h e ≡ is_client_of c (client_of_request o h f.number)
    agree (Finish n status len) f is =
        ap (λ (g : Finished). is_client_of c (client_of_request o h g.number))
        (same_Some (record { number = n; status = status; len = len }) f is)
    agree _ f is = cc

replies_to : (o : Opening) (c : ℕ) (h : List Entry)
    → answers (answers_to o c h) ≡ filter (λ b. is_client_of c (client_of_discovery o h b.number)) (answers h)
unfolding answers answers_to
replies_to o c h =
    kept_by answered_of (is_answer_to o c h) (λ (b : Answered). is_client_of c (client_of_discovery o h b.number)) agree
    h
  where
    agree : (e : Entry) (b : Answered) → answered_of e ≡ Some b
        → is_answer_to o c h e ≡ is_client_of c (client_of_discovery o h b.number)
    agree (Answer n run fault) b is =
        ap (λ (x : Answered). is_client_of c (client_of_discovery o h x.number))
        (same_Some (record { number = n; run = run; fault = fault }) b is)
    agree _ b is = cc

pub in_order : (o : Opening) (h : List Entry) → Legal o h → InOrder o h
in_order o h legal =
    let facts = legal_facts o h legal.each in
    record {
      numbered = accepted_in_order o h facts;
      all = rw (accepted_in_order o h facts, finished_in_order o h facts)
          (range_begins o.next_request (length (finishes h)) (length (accepts h)) facts.finished_within);
      each = λ c. rw (finishes_to o c h)
          (begins_by c o.next_request (λ (a : Accepted). a.client) (λ (a : Accepted). a.number)
          (λ (f : Finished). f.number) (accepts h) (finishes h) facts.finished_within facts.accept_numbers
          facts.finish_numbers);
    }

pub asks_in_order : (o : Opening) (h : List Entry) → Legal o h → AnsweredInOrder o h
asks_in_order o h legal =
    let facts = ask_facts o h legal.each in
    record {
      numbered = asked_in_order o h facts;
      all = rw (asked_in_order o h facts, answered_in_order o h facts)
          (range_begins o.next_ask (length (answers h)) (length (asks h)) facts.answered_within);
      each = λ c. rw (replies_to o c h)
          (begins_by c o.next_ask (λ (a : AskedDiscovery). a.client) (λ (a : AskedDiscovery). a.number)
          (λ (b : Answered). b.number) (asks h) (answers h) facts.answered_within facts.ask_numbers
          facts.answer_numbers);
    }
