-- Each accepted request has exactly one result, and each discovery exactly one answer.
use Rattle.rdm_log.proofs.Common.{◌≡◌, ℕ, ◌+◌, ◌-◌, ◌<◌, ◌≤◌, List, [], length, filter, drop, sym, ap, ◌∙◌, arith, inl}
use Rattle.rdm_log.proofs.Common.{inr, length-drop, ◌⊎◌, ◌==◌, Contains, range_with_len, cases_lt, Opening, Entry}
use Rattle.rdm_log.proofs.Common.{accepts, asks, finishes, answers, Legal}
use Rattle.std.proofs.lemmas.List.FromFn.{length-range_with_len, get_or-range_with_len}
use Rattle.rdm_log.specs.promises.Headline.{OneResult}
use Rattle.rdm_log.specs.promises.Discoveries.{OneAnswer}
use Rattle.rdm_log.proofs.PromiseLemmas.Numbers.{count_outside, count_within}
use Rattle.rdm_log.proofs.LogLemmas.LegalFacts.{legal_facts}
use Rattle.rdm_log.proofs.LogLemmas.AskFacts.{ask_facts}
use Rattle.rdm_log.proofs.PromiseLemmas.InOrder.{accepted_in_order, finished_in_order, asked_in_order}
use Rattle.rdm_log.proofs.PromiseLemmas.InOrder.{answered_in_order}

-- a number among the first m from a
record IsAmong (a m n : ℕ) : Type 0 where
  from : a ≤ n
  to : n < a + m

among : (a m n : ℕ) → IsAmong a m n ⊎ ((n < a) ⊎ (a + m ≤ n))
among a m n = by_tests (cases_lt n a) (cases_lt n (a + m))
  where
    by_tests : (n < a) ⊎ (a ≤ n) → (n < a + m) ⊎ (a + m ≤ n) → IsAmong a m n ⊎ ((n < a) ⊎ (a + m ≤ n))
    by_tests (inl below) _ = inr (inl below)
    by_tests (inr from) (inl to) = inl (record { from = from; to = to })
    by_tests (inr from) (inr above) = inr (inr above)

-- how often a number occurs among the first m from a: at most once
abbrev count : (a m n : ℕ) → ℕ
count a m n = length (filter (λ k. n == k) (range_with_len a m))

at_most_one : (a m n : ℕ) → count a m n ≤ 1
at_most_one a m n = by_index (among a m n)
  where
    by_index : IsAmong a m n ⊎ ((n < a) ⊎ (a + m ≤ n)) → count a m n ≤ 1
    by_index (inl is) = omega (arith, count_within n a m is.from is.to)
    by_index (inr out) = omega (arith, count_outside n a m out)

-- if it does, it is among the first l, if these are no fewer
contained : (a m l n : ℕ) → m ≤ l → 0 < count a m n → Contains (range_with_len a l) n
contained a m l n within some = by_index (among a m n)
  where
    by_index : IsAmong a m n ⊎ ((n < a) ⊎ (a + m ≤ n)) → Contains (range_with_len a l) n
    by_index (inl is) = (
      n - a,
      omega (arith, length-range_with_len a l, is.from, is.to),
      get_or-range_with_len a l (n - a) n (omega (arith, is.from, is.to)) ∙ omega (arith, is.from),
    )
    by_index (inr out) = absurd (omega (arith, count_outside n a m out))

-- each of the first l occurs once among the first m, if none is left of them
once : {X : Type 0} (a m n : ℕ) (xs : List X) → drop m xs ≡ [] → Contains (range_with_len a (length xs)) n
    → count a m n ≡ 1
once a m n xs none has =
    let within : has.0 < length xs = omega (arith, has.1, length-range_with_len a (length xs)) in
    let is : n ≡ a + has.0 = sym has.2 ∙ get_or-range_with_len a (length xs) has.0 n within in
    let all : length xs ≤ m = omega (arith, length-drop m xs, ap length none) in
    count_within n a m (omega arith) (omega arith)

pub one_result : (o : Opening) (h : List Entry) → Legal o h → OneResult o h
one_result o h legal =
    let facts = legal_facts o h legal.each in
    let done = length (finishes h) in
    record {
      at_most_one = λ n. rw (finished_in_order o h facts) (at_most_one o.next_request done n);
      accepted = λ n some. rw (accepted_in_order o h facts)
          (contained o.next_request done (length (accepts h)) n facts.finished_within
          (rw (finished_in_order o h facts) at some));
      exactly_one = λ closed idle n has. rw (finished_in_order o h facts)
          (once o.next_request done n (accepts h) (legal.settled.all_closed closed idle).0
          (rw (accepted_in_order o h facts) at has));
    }

pub one_answer : (o : Opening) (h : List Entry) → Legal o h → OneAnswer o h
one_answer o h legal =
    let facts = ask_facts o h legal.each in
    let done = length (answers h) in
    record {
      at_most_one = λ n. rw (answered_in_order o h facts) (at_most_one o.next_ask done n);
      asked = λ n some. rw (asked_in_order o h facts)
          (contained o.next_ask done (length (asks h)) n facts.answered_within
          (rw (answered_in_order o h facts) at some));
      exactly_one = λ closed idle n has. rw (answered_in_order o h facts)
          (once o.next_ask done n (asks h) (legal.settled.all_closed closed idle).1
          (rw (asked_in_order o h facts) at has));
    }
