use Rattle.rdm_queue.proofs.Common.{◌≡◌, Some, slice_get, length, sym, subst, refl, Client, state_of, asked_of}
use Rattle.rdm_queue.proofs.BodyLemmas.FieldLemmas.{found_at, fault_of, ask_fault_of}
use Rattle.rdm_queue.proofs.BodyLemmas.RingSteps.{fewer_sets}
use Rattle.rdm_queue.proofs.queue.Queue.first_fault.Goals.{In-Some}
use Rattle.rdm_queue.proofs.queue.Queue.first_fault.Goals as goal

-- the client, at its index
abbrev client : In-Some → Client
client c = c.in-Some.own.now

at : (c : In-Some) → slice_get c.self.inside.clients.items c.args.client.0 ≡ Some (client c)
at c =
    subst (λ n. slice_get c.self.inside.clients.items n ≡ Some (client c)) c.from.ensures
    (found_at c.self.inside.clients.items c.deref.result.now c.from.result (client c) c.deref.ensures.0
    c.in-Some.ensures.lookup.3.0 c.in-Some.ensures.lookup.1)

pub has_most_requests-requires : goal.has_most_requests-requires
has_most_requests-requires c =
    let found = (goal.at.has_most_requests-requires c).In-Some in
    fewer_sets c.self.inside.clients.items c.args.client.0 (client found) c.self.invariant.0.rings.sets (at found)

pub returns-in-Submit : goal.returns-in-Submit
returns-in-Submit c =
    let found = (goal.at.returns-in-Submit c).In-Some in
    rw (← c.self.view_is, c.in-Submit.is, c.full_if.ensures, c.has_most_requests.ensures)
    (sym (fault_of (state_of c.self.inside) c.self.inside.clients.items c.args.client.0 (client found)
    c.self.invariant.0 refl refl (at found) c.if-self.false))

pub returns-in-Discover : goal.returns-in-Discover
returns-in-Discover c =
    let found = (goal.at.returns-in-Discover c).In-Some in
    let count : c.asked_by.result ≡ length (asked_of c.args.client.0 (state_of c.self.inside)) =
    rw (← c.self.view_is) at c.asked_by.ensures.value in
    rw (← c.self.view_is, c.in-Discover.is, c.full_if-in-Discover.ensures, c.has_most_discoveries.ensures, count)
    (sym (ask_fault_of (state_of c.self.inside) c.self.inside.clients.items c.args.client.0 (client found)
    c.self.invariant.0 refl refl (at found) c.if-self.false))
