-- The counts and numbers of discoveries in a log in which each entry may follow those before it.
use Rattle.rdm_log.proofs.Common.{◌≡◌, ℕ, ◌+◌, ◌≤◌, ◌<◌, List, [], ◌∷◌, ◌++◌, length, Option, Some, None, slice_get}
use Rattle.rdm_log.proofs.Common.{refl, sym, ◌∙◌, arith, length-append, none-some, slice_get_within, length_push}
use Rattle.rdm_log.proofs.Common.{EachAfter, Kind, AgentFault, ClientId, Opening, Entry, Ask, Answer, AskedDiscovery}
use Rattle.rdm_log.proofs.Common.{Answered, asked_of, answered_of, joins, asks, answers, next_client, unanswered}
use Rattle.rdm_log.proofs.Common.{MayAnswer, MayFollow}
use Rattle.rdm_log.proofs.LogLemmas.PushLemmas.{joins-append, asks-push, answers-push}
use Rattle.rdm_log.specs.declared.work.Work.TheVariants as works
use Rattle.rdm_log.proofs.LogLemmas.RefusalLemmas.{work_passes}
use Rattle.rdm_log.proofs.LogLemmas.LegalFacts.{along}
use Rattle.rdm_log.proofs.LogLemmas.Indices.{slice_get-drop, each_index_push}
use Rattle.rdm_log.proofs.LogLemmas.LegalFacts.{more_clients}

pub record AskFacts (o : Opening) (h : List Entry) : Type 0 where
  -- no more Answers than Asks
  pub answered_within : length (answers h) ≤ length (asks h)
  -- numbers rise by one from the opening's
  pub ask_numbers : (i : ℕ) (a : AskedDiscovery) → slice_get (asks h) i ≡ Some a → a.number ≡ o.next_ask + i
  pub answer_numbers : (i : ℕ) (b : Answered) → slice_get (answers h) i ≡ Some b → b.number ≡ o.next_ask + i
  -- each discovery is of a client that had joined
  pub askers : (i : ℕ) (a : AskedDiscovery) → slice_get (asks h) i ≡ Some a → a.client < next_client o h

-- the i-th unanswered discovery: its index among the Asks, and its number
pub unanswered_index : (h : List Entry) (i : ℕ) (a : AskedDiscovery) → slice_get (unanswered h) i ≡ Some a
    → slice_get (asks h) (length (answers h) + i) ≡ Some a
unanswered_index h i a at = sym (slice_get-drop (length (answers h)) (asks h) i) ∙ at

pub unanswered_within : (h : List Entry) (i : ℕ) (a : AskedDiscovery) → slice_get (unanswered h) i ≡ Some a
    → length (answers h) + i < length (asks h)
unanswered_within h i a at = slice_get_within (asks h) (length (answers h) + i) a (unanswered_index h i a at)

pub unanswered_number : (o : Opening) (h : List Entry) → AskFacts o h → (i : ℕ) (a : AskedDiscovery)
    → slice_get (unanswered h) i ≡ Some a → a.number ≡ o.next_ask + (length (answers h) + i)
unanswered_number o h facts i a at = facts.ask_numbers (length (answers h) + i) a (unanswered_index h i a at)

facts_of_empty : (o : Opening) → AskFacts o []
unfolding asks answers
facts_of_empty o = record {
  answered_within = omega arith;
  ask_numbers = λ i a at. absurd (none-some a at);
  answer_numbers = λ i b at. absurd (none-some b at);
  askers = λ i a at. absurd (none-some a at);
}

-- each entry keeps the facts: others, an Ask, an Answer
facts_other : (o : Opening) (h : List Entry) (e : Entry) → asked_of e ≡ None → answered_of e ≡ None → AskFacts o h
    → AskFacts o (h ++ e ∷ [])
facts_other o h e ask answer facts = record {
  answered_within = rw (asks-push h e, ask, answers-push h e, answer) facts.answered_within;
  ask_numbers = rw (asks-push h e, ask) facts.ask_numbers;
  answer_numbers = rw (answers-push h e, answer) facts.answer_numbers;
  askers = rw (asks-push h e, ask) (λ i a at. omega (arith, facts.askers i a at, more_clients o h e));
}

facts_ask : (o : Opening) (h : List Entry) (c : ClientId) (n : ℕ) (kind : Kind) → AskFacts o h
    → MayFollow o h (Ask c n kind) → AskFacts o (h ++ Ask c n kind ∷ [])
facts_ask o h c n kind facts may = record {
  answered_within = rw (more, answers-push h e) (omega (arith, facts.answered_within, length_push (asks h) a));
  ask_numbers = rw more (each_index_push (λ i b. b.number ≡ o.next_ask + i) (asks h) a facts.ask_numbers may.2);
  answer_numbers = rw (answers-push h e) facts.answer_numbers;
  askers = rw more
      (each_index_push (λ i b. b.client < next_client o (h ++ e ∷ [])) (asks h) a
      (λ i b at. omega (arith, facts.askers i b at, more_clients o h e))
      (omega (arith, (work_passes o h c.0 (works.Discover kind) may.1).known, more_clients o h e)));
}
  where
    e : Entry
    e = Ask c n kind

    a : AskedDiscovery
    a = record { client = c.0; number = n; kind = kind }

    more : asks (h ++ e ∷ []) ≡ asks h ++ a ∷ []
    more = asks-push h e

facts_answer : (o : Opening) (h : List Entry) (n r : ℕ) (fault : Option AgentFault) → AskFacts o h
    → MayAnswer o h n r fault → AskFacts o (h ++ Answer n r fault ∷ [])
facts_answer o h n r fault facts may = record {
  answered_within =
      rw (asks-push h e, more)
      (omega (arith, length_push (answers h) b, unanswered_within h 0 may.asked may.oldest));
  ask_numbers = rw (asks-push h e) facts.ask_numbers;
  answer_numbers =
      rw more (each_index_push (λ i x. x.number ≡ o.next_ask + i) (answers h) b facts.answer_numbers
      (omega (arith, may.number, unanswered_number o h facts 0 may.asked may.oldest)));
  askers = rw (asks-push h e) (λ i a at. omega (arith, facts.askers i a at, more_clients o h e));
}
  where
    e : Entry
    e = Answer n r fault

    b : Answered
    b = record { number = n; run = r; fault = fault }

    more : answers (h ++ e ∷ []) ≡ answers h ++ b ∷ []
    more = answers-push h e

facts_step : (o : Opening) (h : List Entry) (e : Entry) → EachAfter (MayFollow o) h → AskFacts o h → MayFollow o h e
    → AskFacts o (h ++ e ∷ [])
facts_step o h (Ask c n kind) each facts may = facts_ask o h c n kind facts may
facts_step o h (Answer n r fault) each facts may = facts_answer o h n r fault facts may
facts_step o h e each facts may = facts_other o h e refl refl facts

-- the facts of each such log
pub ask_facts : (o : Opening) (h : List Entry) → EachAfter (MayFollow o) h → AskFacts o h
ask_facts o h each = along o (λ k. AskFacts o k) (facts_of_empty o) (facts_step o) h each
