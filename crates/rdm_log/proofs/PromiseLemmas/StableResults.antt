-- What no later entry changes: the results of finished requests, and the outcomes of a client's answers.
use Rattle.rdm_log.proofs.Common.{◌≡◌, ℕ, zero, suc, ◌+◌, ◌<◌, Bool, true, false, filter, inl, inr, Option, List, []}
use Rattle.rdm_log.proofs.Common.{◌∷◌, ◌++◌, length, Some, None, slice_get, refl, sym, ap, ◌∙◌, arith, ◌≢◌, ◌⊎◌}
use Rattle.rdm_log.proofs.Common.{cases_Bool, ne_eqb, false≢true, eqb-true, slice_get_within, get_or_from_slice_get}
use Rattle.rdm_log.proofs.Common.{Contains, EachAfter, Status, Opening, Entry, Send, Came, Finish, Answer, finished_of}
use Rattle.rdm_log.proofs.Common.{sending_of, came_of, finishes, result, is_client_of, is_answer_to, answers_to}
use Rattle.rdm_log.proofs.Common.{collects_by, uncollected, MayFollow, AgentFault}
use Rattle.rdm_log.specs.declared.entry.Owner.TheVariants as owners
use Rattle.rdm_log.proofs.LogLemmas.Indices.{slice_get-drop, filter_map_has}
use Rattle.rdm_log.proofs.LogLemmas.PushLemmas.{sends-push, cames-push}
use Rattle.rdm_log.proofs.LogLemmas.ExchangeLemmas.{result_same, result_sent, result_came_other}
use Rattle.rdm_log.proofs.LogLemmas.LegalFacts.{LogFacts, IsAwaited, IsRunAwaited, legal_facts, unfinished_number}
use Rattle.rdm_log.proofs.LogLemmas.LegalFacts.{sent_evenly}

result_other : (h : List Entry) (e : Entry) (n : ℕ) → sending_of e ≡ None → came_of e ≡ None
    → result n (h ++ e ∷ []) ≡ result n h
result_other h e n send came = result_same h (h ++ e ∷ []) n (rw send at (sends-push h e)) (rw came at (cames-push h e))

-- an entry changes no result but the oldest unfinished request's
pub result_step : (o : Opening) (h : List Entry) (e : Entry) → EachAfter (MayFollow o) h → MayFollow o h e → (n : ℕ)
    → n ≢ o.next_request + length (finishes h) → result n (h ++ e ∷ []) ≡ result n h
result_step o h (Came event) each may n other = by_owner (facts.waits may.1)
  where
    facts : LogFacts o h
    facts = legal_facts o h each

    by_owner : IsAwaited h ⊎ IsRunAwaited h → result n (h ++ Came event ∷ []) ≡ result n h
    by_owner (inl w) =
        result_came_other h (record { owner = owners.Request w.accepted.number; frame = w.frame }) event n w.unanswered
        (ne_eqb n w.accepted.number
        (λ same. other (omega (arith, same, unfinished_number o h facts 0 w.accepted w.oldest))))
    by_owner (inr w) =
        result_came_other h (record { owner = owners.Run w.run; frame = w.frame }) event n w.unanswered refl
result_step o h (Send (owners.Request m) frame) each may n other =
    result_sent h (owners.Request m) frame n (sent_evenly o h (legal_facts o h each) may.1.not_awaited)
result_step o h (Send (owners.Run r) frame) each may n other =
    result_sent h (owners.Run r) frame n (sent_evenly o h (legal_facts o h each) may.1.not_awaited)
result_step o h e each may n other = result_other h e n refl refl

-- the element at an index is contained
pub contains_from_get : {X : Type 0} (xs : List X) (i : ℕ) (x : X) → slice_get xs i ≡ Some x → Contains xs x
contains_from_get xs i x at = (i, slice_get_within xs i x at, get_or_from_slice_get xs i x x at)

-- the client that a test passes
pub client_is : (c : ℕ) (client : Option ℕ) → is_client_of c client ≡ true → client ≡ Some c
client_is c None is = absurd (false≢true is)
client_is c (Some d) is = ap (λ x. Some x) (sym (eqb-true c d is))

-- what a filter keeps is in the list, and passes the test
pub filter_has : {X : Type 0} (p : X → Bool) (xs : List X) (i : ℕ) (x : X) → slice_get (filter p xs) i ≡ Some x
    → (j : ℕ) × (slice_get xs j ≡ Some x) × (p x ≡ true)
filter_has p [] i x at = cc
filter_has {X} p (y ∷ xs) i x at = by_test (cases_Bool (p y)) (filter_has p xs)
  where
    later : (j : ℕ) × (slice_get xs j ≡ Some x) × (p x ≡ true) → (j : ℕ) × (slice_get (y ∷ xs) j ≡ Some x)
        × (p x ≡ true)
    later found = (suc found.0, found.1, found.2)

    at_index : p y ≡ true → (i : ℕ) → slice_get (y ∷ filter p xs) i ≡ Some x
        → ((i : ℕ) (x : X) → slice_get (filter p xs) i ≡ Some x → (j : ℕ) × (slice_get xs j ≡ Some x) × (p x ≡ true))
        → (j : ℕ) × (slice_get (y ∷ xs) j ≡ Some x) × (p x ≡ true)
    at_index passes zero here has = let same : y ≡ x = cc in (0, here, rw same at passes)
    at_index passes (suc i) here has = later (has i x here)

    by_test : (p y ≡ true) ⊎ (p y ≡ false)
        → ((i : ℕ) (x : X) → slice_get (filter p xs) i ≡ Some x → (j : ℕ) × (slice_get xs j ≡ Some x) × (p x ≡ true))
        → (j : ℕ) × (slice_get (y ∷ xs) j ≡ Some x) × (p x ≡ true)
    by_test (inl passes) has = at_index passes i (rw passes at at) has
    by_test (inr fails) has = later (has i x (rw fails at at))

-- a client's answer is a Finish of a finished request, or an Answer
pub record IsFinish (o : Opening) (h : List Entry) (x : Entry) : Type 0 where
  pub number : ℕ
  pub status : Status
  pub len : ℕ
  pub is : x ≡ Finish number status len
  pub finished : number < o.next_request + length (finishes h)

pub record IsReply (x : Entry) : Type 0 where
  pub number : ℕ
  pub run : ℕ
  pub fault : Option AgentFault
  pub is : x ≡ Answer number run fault

pub answer_at : (o : Opening) (h : List Entry) → LogFacts o h → (c j : ℕ) (x : Entry) → slice_get h j ≡ Some x
    → is_answer_to o c h x ≡ true → IsFinish o h x ⊎ IsReply x
unfolding finishes
answer_at o h facts c j (Finish n status len) at answers = inl (record {
  number = n;
  status = status;
  len = len;
  is = refl;
  finished =
      by_index (filter_map_has finished_of h j (Finish n status len)
      (record { number = n; status = status; len = len }) at refl);
})
  where
    by_index : (i : ℕ) × (slice_get (finishes h) i ≡ Some (record { number = n; status = status; len = len }))
        → n < o.next_request + length (finishes h)
    by_index found =
        omega (arith, facts.finish_numbers found.0 _ found.1, slice_get_within (finishes h) found.0 _ found.1)
answer_at o h facts c j (Answer n r fault) at answers = inr (record { number = n; run = r; fault = fault; is = refl })
answer_at o h facts c j _ at answers = absurd (false≢true answers)

pub uncollected_found : (o : Opening) (h : List Entry) (c i : ℕ) (x : Entry) → slice_get (uncollected o c h) i ≡ Some x
    → (j : ℕ) × (slice_get h j ≡ Some x) × (is_answer_to o c h x ≡ true)
unfolding answers_to
uncollected_found o h c i x at =
    filter_has (is_answer_to o c h) h (length (collects_by c h) + i) x
    (sym (slice_get-drop (length (collects_by c h)) (answers_to o c h) i) ∙ at)

pub uncollected_answer : (o : Opening) (h : List Entry) → LogFacts o h → (c i : ℕ) (x : Entry)
    → slice_get (uncollected o c h) i ≡ Some x → IsFinish o h x ⊎ IsReply x
uncollected_answer o h facts c i x at =
    let found = uncollected_found o h c i x at in answer_at o h facts c found.0 x found.1 found.2
