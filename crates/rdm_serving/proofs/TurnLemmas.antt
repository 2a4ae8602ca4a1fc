-- How many turns the clients of a session that was served need.
use Rattle.std.proofs.Common.{◌≡◌, ℕ, zero, suc, ◌+◌, ◌*◌, ◌<◌, ◌≤◌, List, [], ◌∷◌, length, get_or}
use Rattle.std.proofs.Common.{refl, sym, ap, ◌∙◌, arith}
use Rattle.std.specs.List.{All}
use Rattle.std.proofs.lemmas.List.{length-map}
use Rattle.std.proofs.lemmas.List.Elements.{All-nil, All-cons, All-head, All-tail}
use Rattle.rdm_client.specs.declared.told.Told.{Told}
use Rattle.rdm_files.specs.declared.session.call.ClientCall.{ClientCall}
use Rattle.rdm_files.specs.declared.session.call.ClientCall.TheVariants.{Submit, Discover}
use Rattle.rdm_files.specs.declared.session.client.ClientFile.{ClientFile}
use Rattle.rdm_serving.specs.Serving.{IsInTurns}
use Rattle.rdm_reports.specs.SessionReport.{AllSettled, IsSettled, is_request, is_ask, indices_of}
use Rattle.rdm_reports.specs.declared.outcomes.Discovered.{Discovered}
use Rattle.rdm_reports.specs.declared.outcomes.Outcomes.{Outcomes}

-- the requests and the discoveries are all calls
all_indices : (n : ℕ) (calls : List ClientCall)
    → length (indices_of is_request n calls) + length (indices_of is_ask n calls) ≡ length calls
all_indices n [] = refl
all_indices n (Submit request ∷ calls) = let rest = all_indices (n + 1) calls in omega (arith, rest)
all_indices n (Discover kind ∷ calls) = let rest = all_indices (n + 1) calls in omega (arith, rest)

-- a settled client has as many outcomes as calls
one_outcome_each : (calls : List ClientCall) (o : Outcomes) → IsSettled calls o
    → length o.requests.items + length o.discoveries.items ≡ length calls
one_outcome_each calls o settled =
    let requests : length o.requests.items ≡ length (indices_of is_request 0 calls) =
    sym (length-map o.requests.items (λ (t : Told). t.tag)) ∙ ap length settled.requests in
    let discoveries : length o.discoveries.items ≡ length (indices_of is_ask 0 calls) =
    sym (length-map o.discoveries.items (λ (d : Discovered). d.tag)) ∙ ap length settled.discoveries in
    let all = all_indices 0 calls in
    omega (arith, requests, discoveries, all)

-- so where all clients are settled, none has fewer outcomes than calls
pub none_lacks : (clients : List ClientFile) (outcomes : List Outcomes) (i : ℕ) (c : ClientFile) (o : Outcomes)
    → i < length clients → i < length outcomes → c ≡ get_or clients i c → o ≡ get_or outcomes i o
    → AllSettled clients outcomes → length c.calls.items ≤ length o.requests.items + length o.discoveries.items
none_lacks [] outcomes i c o lt few at there settled = absurd (omega (arith, lt))
none_lacks (k ∷ cs) [] i c o lt few at there settled = absurd settled
none_lacks (k ∷ cs) (p ∷ os) zero c o lt few at there settled =
    let many = one_outcome_each k.calls.items p settled.0 in rw (at, there) (omega (arith, many))
none_lacks (k ∷ cs) (p ∷ os) (suc i) c o lt few at there settled =
    none_lacks cs os i c o (omega (arith, lt)) (omega (arith, few)) at there settled.1

pub calls_in_turns : (clients : List ClientFile) (outcomes : List Outcomes) (turns : ℕ) → AllSettled clients outcomes
    → All (IsInTurns turns) outcomes → All (λ (c : ClientFile). 2 * length c.calls.items ≤ turns) clients
calls_in_turns [] [] turns settled in_turns = All-nil (λ (c : ClientFile). 2 * length c.calls.items ≤ turns)
calls_in_turns [] (o ∷ os) turns settled in_turns = absurd settled
calls_in_turns (c ∷ cs) [] turns settled in_turns = absurd settled
calls_in_turns (c ∷ cs) (o ∷ os) turns (here, later) in_turns =
    let own = All-head (IsInTurns turns) o os in_turns in
    let many = one_outcome_each c.calls.items o here in
    All-cons (λ (c : ClientFile). 2 * length c.calls.items ≤ turns) c cs (omega (arith, own.counted, own.few, many))
    (calls_in_turns cs os turns later (All-tail (IsInTurns turns) o os in_turns))
