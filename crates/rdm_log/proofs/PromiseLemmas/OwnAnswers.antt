-- Each result is the joined answer of the request's own exchanges.
use Rattle.rdm_log.proofs.Common.{◌≡◌, ℕ, ◌+◌, ◌<◌, ◌≤◌, Bool, true, false, List, [], ◌∷◌, ◌++◌, length, take, map}
use Rattle.rdm_log.proofs.Common.{Option, Some, None, slice_get, if◌then◌else◌, refl, sym, ap, ◌∙◌, inl, inr, arith}
use Rattle.rdm_log.proofs.Common.{append-nil, append_assoc, length-append, ◌≢◌, ◌&&◌, ◌==◌, option_map, false≢true}
use Rattle.rdm_log.proofs.Common.{none-some, same_Some, slice_get-map, length_push, EachAfter, LineEvent, Reply, Status}
use Rattle.rdm_log.proofs.Common.{Completed, FailedToSend, Joined, Opening, Entry, Finish, Finished, OwnedExchange}
use Rattle.rdm_log.proofs.Common.{verdict_on, of_request, verdicts, result, IsClosing, FitsResult, MayFinish, MayFollow}
use Rattle.rdm_log.proofs.Common.{Legal, finishes}
use Rattle.std.proofs.Common.{Result, Ok, Err}
use Rattle.std.specs.Prelude.{not}
use Rattle.rdm_wire.specs.declared.request.TheConstants.{QUEUED_MESSAGE}
use Rattle.rdm_join.specs.declared.verdict.TheConstants.{ALL_SUB_DEVICES}
use Rattle.rdm_wire.specs.Responses.{decoded, code_of_class}
use Rattle.rdm_wire.specs.declared.response.Response.{Response}
use Rattle.rdm_wire.specs.declared.response.PacketFault.{PacketFault}
use Rattle.rdm_wire.specs.declared.response.PacketFault.TheVariants as faults
use Rattle.rdm_wire.specs.declared.response.AckType.{AckType}
use Rattle.rdm_wire.specs.declared.response.AckType.TheVariants.{Ack, Timer, Nack, Overflow}
use Rattle.rdm_join.specs.declared.verdict.Sent.{Sent}
use Rattle.rdm_join.specs.declared.event.LineEvent.TheVariants.{Failed}
use Rattle.rdm_join.specs.declared.verdict.Judged.{Judged}
use Rattle.rdm_join.specs.declared.verdict.Judged.TheVariants.{Whole, Part, Ended}
use Rattle.rdm_join.specs.declared.status.Status.TheVariants.{NoMemory}
use Rattle.rdm_join.specs.declared.status.Status.TheVariants as statuses
use Rattle.rdm_join.specs.Verdict.{answers_class, verdict_of_type, verdict_of_packet, verdict_of_bytes, verdict}
use Rattle.rdm_join.specs.Verdict.{sent_by}
use Rattle.rdm_join.specs.Result.{decides, decides_option, IsResult}
use Rattle.rdm_join.proofs.Determined.{meets, only}
use Rattle.rdm_log.specs.log.MayFinish.{FitsJoined}
use Rattle.rdm_log.proofs.LogLemmas.Grows.{front}
use Rattle.rdm_log.proofs.LogLemmas.PushLemmas.{finishes-append, finishes-push, sends-push, cames-push}
use Rattle.rdm_log.proofs.LogLemmas.ExchangeLemmas.{result_same}
use Rattle.rdm_log.proofs.LogLemmas.LegalFacts.{legal_facts, unfinished_number}
use Rattle.rdm_log.proofs.PromiseLemmas.StableResults.{result_step}
use Rattle.rdm_log.specs.promises.Headline.{OwnAnswer, OwnAnswers}

-- no event has the status NoMemory
abbrev is_no_memory : Status → Bool
is_no_memory NoMemory = true
is_no_memory _ = false

abbrev wants_memory : Judged → Bool
wants_memory (Ended s) = is_no_memory s
wants_memory _ = false

record IsFromLine (v : Judged) : Type 0 where
  without : wants_memory v ≡ false

with_status : (s : Status) → is_no_memory s ≡ false → IsFromLine (Ended s)
with_status s other = record { without = other }

either : (b : Bool) (v w : Judged) → IsFromLine v → IsFromLine w → IsFromLine (if b then v else w)
either true v w one other = one
either false v w one other = other

of_type : (r : Response) (ack : AckType) → IsFromLine (verdict_of_type r ack)
of_type r Overflow =
    either (code_of_class r.class == 0x21) (Part r) (Ended statuses.InvalidResponse) (record { without = refl })
    (with_status statuses.InvalidResponse refl)
of_type r Ack = record { without = refl }
of_type r Timer = record { without = refl }
of_type r Nack = record { without = refl }

of_tests : (a b c d e f : Bool) (v : Judged) → IsFromLine v → IsFromLine (
    if a then Ended statuses.TransactionMismatch
    else (if b then Ended statuses.SubDeviceMismatch
    else (if c then Ended statuses.SourceMismatch
    else (if d then Ended statuses.DestMismatch
    else (if e then Ended statuses.ClassMismatch
    else (if f then Ended statuses.InvalidResponse
    else v))))))
of_tests true b c d e f v from = with_status statuses.TransactionMismatch refl
of_tests false true c d e f v from = with_status statuses.SubDeviceMismatch refl
of_tests false false true d e f v from = with_status statuses.SourceMismatch refl
of_tests false false false true e f v from = with_status statuses.DestMismatch refl
of_tests false false false false true f v from = with_status statuses.ClassMismatch refl
of_tests false false false false false true v from = with_status statuses.InvalidResponse refl
of_tests false false false false false false v from = from

of_packet : (sent : Sent) (packet : Result Response PacketFault) → IsFromLine (verdict_of_packet sent packet)
of_packet sent (Ok r) =
    of_tests
    (not (r.tn == sent.tn))
    (not (r.sub_device == sent.sub_device) && not (sent.sub_device == ALL_SUB_DEVICES)
    && not (sent.pid == QUEUED_MESSAGE))
    (not (r.source == sent.target))
    (not (r.dest == sent.source))
    (not (answers_class sent r.class))
    (not (r.pid == sent.pid) && not (sent.pid == QUEUED_MESSAGE))
    (verdict_of_type r r.ack)
    (of_type r r.ack)
of_packet sent (Err faults.TooShort) = with_status statuses.TooShort refl
of_packet sent (Err faults.WrongStart) = with_status statuses.WrongStart refl
of_packet sent (Err faults.WrongSubStart) = with_status statuses.WrongSubStart refl
of_packet sent (Err faults.LengthMismatch) = with_status statuses.LengthMismatch refl
of_packet sent (Err faults.ParamLengthMismatch) = with_status statuses.ParamLengthMismatch refl
of_packet sent (Err faults.Checksum) = with_status statuses.Checksum refl
of_packet sent (Err faults.InvalidClass) = with_status statuses.InvalidClass refl
of_packet sent (Err faults.InvalidResponseType) = with_status statuses.InvalidResponseType refl

of_bytes : (sent : Sent) (bytes : List ℕ) → IsFromLine (verdict_of_bytes sent bytes)
of_bytes sent [] = with_status statuses.Timeout refl
of_bytes sent (b ∷ bs) = of_packet sent (decoded (b ∷ bs))

of_event : (sent : Sent) (event : LineEvent) → IsFromLine (verdict sent event)
of_event sent Failed = with_status FailedToSend refl
of_event sent (Reply bytes) = either _ _ _ (with_status _ refl) (of_bytes sent bytes.items)

-- what a verdict decides: never NoMemory, and data only with status Completed
record IsAnswer (j : Joined) : Type 0 where
  remembered : is_no_memory j.status ≡ false
  no_data : j.status ≢ Completed → j.data_ ≡ []

one_of : (b : Bool) (one other j : Joined) → (if b then Some one else Some other) ≡ Some j → IsAnswer one
    → IsAnswer other → IsAnswer j
one_of true one other j e is_one is_other = rw (same_Some one j e) at is_one
one_of false one other j e is_one is_other = rw (same_Some other j e) at is_other

one_or_none : (b : Bool) (one j : Joined) → (if b then Some one else None) ≡ Some j → IsAnswer one → IsAnswer j
one_or_none true one j e is = rw (same_Some one j e) at is
one_or_none false one j e is = absurd (none-some j e)

no_answer_data : (s : Status) → is_no_memory s ≡ false → IsAnswer (record { status = s; data_ = []; head = None })
no_answer_data s not = record { remembered = not; no_data = λ other. refl }

decided_answer : (before : List Judged) (v : Judged) (j : Joined) → IsFromLine v → decides before v ≡ Some j
    → IsAnswer j
decided_answer before (Ended s) j from e = rw (same_Some _ j e) at (no_answer_data s from.without)
decided_answer before (Whole r) j from e = one_of _ _ _ j e (no_answer_data _ refl) (record {
  remembered = refl;
  no_data = λ other. absurd (other refl);
})
decided_answer before (Part r) j from e = one_or_none _ _ j e (no_answer_data _ refl)

decided_at : (before : List Judged) (ts : List OwnedExchange) (i : ℕ) (j : Joined)
    → decides_option before (slice_get (map verdict_on ts) i) ≡ Some j → IsAnswer j
decided_at before ts i j e = by_index (slice_get ts i) (rw (slice_get-map verdict_on ts i) at e)
  where
    by_index : (t : Option OwnedExchange) → decides_option before (option_map verdict_on t) ≡ Some j → IsAnswer j
    by_index None e = absurd (none-some j e)
    by_index (Some t) e = decided_answer before (verdict_on t) j (of_event (sent_by t.frame.items) t.event) e

result_is_answer : (h : List Entry) (n : ℕ) (j : Joined) → IsResult (verdicts n h) j → IsAnswer j
unfolding verdicts
result_is_answer h n j is = decided_at (take is.at (verdicts n h)) (of_request n h) is.at j is.here

no_memory_differs : (s : Status) → is_no_memory s ≡ false → s ≡ NoMemory → ⊥
no_memory_differs s other is = false≢true (sym other ∙ ap is_no_memory is)

fits_answer : (o : Opening) (h : List Entry) (n : ℕ) (status : Status) (len : ℕ) (r : Option Joined) → result n h ≡ r
    → FitsResult (IsClosing o h) r status len → OwnAnswer o h n status len
unfolding result
fits_answer o h n status len None is fits = record {
  decided = λ j decides. absurd (none-some j (sym is ∙ only (verdicts n h) j decides));
  undecided = λ none. (fits.1, fits.2, fits.0.closed, fits.0.not_awaited);
  no_memory = λ memory. absurd (no_memory_differs FailedToSend refl (sym fits.1 ∙ memory));
  no_data = λ other. fits.2;
}
fits_answer o h n status len (Some k) is fits = record {
  decided = λ j decides. rw (same_Some k j (sym is ∙ only (verdicts n h) j decides)) at fits;
  undecided = λ none. absurd (none k decides_k);
  no_memory = by_fit_memory fits;
  no_data = by_fit_data fits;
}
  where
    decides_k : IsResult (verdicts n h) k
    decides_k = meets (verdicts n h) k is

    answer : IsAnswer k
    answer = result_is_answer h n k decides_k

    by_fit_memory : FitsJoined k status len → status ≡ NoMemory → (j : Joined) × IsResult (verdicts n h) j
        × (j.status ≡ Completed) × (j.data_ ≢ [])
    by_fit_memory (inl own) memory = absurd (no_memory_differs k.status answer.remembered (sym own.0 ∙ memory))
    by_fit_memory (inr wanted) memory = (k, decides_k, wanted.1, wanted.2)

    by_fit_data : FitsJoined k status len → status ≢ Completed → len ≡ 0
    by_fit_data (inl own) other = own.1 ∙ ap length (answer.no_data (λ completed. other (own.0 ∙ completed)))
    by_fit_data (inr wanted) other = wanted.3

-- what follows changes no finished request's result
more_finishes : (h : List Entry) (e : Entry) → length (finishes h) ≤ length (finishes (h ++ e ∷ []))
more_finishes h e =
    omega (arith, ap length (finishes-append h (e ∷ [])), length-append (finishes h) (finishes (e ∷ [])))

pub finished_stays : (o : Opening) (h more : List Entry) (n : ℕ) → EachAfter (MayFollow o) (h ++ more)
    → n < o.next_request + length (finishes h) → result n (h ++ more) ≡ result n h
finished_stays o h [] n each finished = rw append-nil refl
finished_stays o h (e ∷ more) n each finished =
    rw (append_assoc h (e ∷ []) more) at (finished_stays o (h ++ e ∷ []) more n (rw (append_assoc h (e ∷ []) more) each)
    (omega (arith, more_finishes h e)))
    ∙ result_step o h e (front o h (e ∷ more) each) (each h more e refl) n (λ same. omega arith)

result_stays : (o : Opening) (h : List Entry) → Legal o h
    → (before back : List Entry) (n : ℕ) (status : Status) (len : ℕ) → h ≡ before ++ Finish n status len ∷ back
    → result n h ≡ result n before
result_stays o h legal before back n status len is =
    ap (result n) (is ∙ sym (append_assoc before (e ∷ []) back)) ∙ finished_stays o (before ++ e ∷ []) back n all within
    ∙ result_same before (before ++ e ∷ []) n (sends-push before e) (cames-push before e)
  where
    e : Entry
    e = Finish n status len

    all : EachAfter (MayFollow o) ((before ++ e ∷ []) ++ back)
    all = rw (append_assoc before (e ∷ []) back, ← is) legal.each

    may : MayFinish o before n status len
    may = legal.each before back e is

    f : Finished
    f = record { number = n; status = status; len = len }

    within : n < o.next_request + length (finishes (before ++ e ∷ []))
    within = let facts = legal_facts o before (front o before (e ∷ []) (front o (before ++ e ∷ []) back all)) in
        omega (
          arith,
          may.number,
          unfinished_number o before facts 0 may.accepted may.oldest,
          ap length (finishes-push before e),
          length_push (finishes before) f,
        )

pub own_answers : (o : Opening) (h : List Entry) → Legal o h → OwnAnswers o h
own_answers o h legal = record {
  each = λ front back n status len is. let may = legal.each front back (Finish n status len) is in
      fits_answer o front n status len (result n front) refl may.fits;
  stays = result_stays o h legal;
}
