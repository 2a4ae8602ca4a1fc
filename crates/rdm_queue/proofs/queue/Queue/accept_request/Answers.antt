use Rattle.rdm_queue.proofs.Common.{List, get_or, set, refl, Client, state_of, accepts_request}
use Rattle.rdm_queue.proofs.Common.{accepted_as, ◌∙◌, arith}
use Rattle.rdm_queue.proofs.BodyLemmas.FieldLemmas.{written}
use Rattle.rdm_queue.proofs.BodyLemmas.OldestLemmas.{owners_accept, owners_fit}
use Rattle.rdm_queue.proofs.BodyLemmas.RingFields.{AreClientsOf, own_clients, CanAccept, can_accept, clients-accept}
use Rattle.rdm_queue.proofs.queue.Queue.accept_request.Goals.{After-index-deref_mut-from, After-accept}
use Rattle.rdm_queue.proofs.queue.Queue.accept_request.Goals as goal

-- the client, which has capacity for the request
abbrev client : After-index-deref_mut-from → Client
client c = get_or c.deref_mut.result.now c.from.result c.index-deref_mut-from.result

can : (c : After-index-deref_mut-from)
    → CanAccept (state_of c.self.inside) c.self.inside.clients.items c.args.client.0 (client c)
can c =
    can_accept (state_of c.self.inside) c.self.inside.clients.items c.deref_mut.result.now c.args.client.0 c.from.result
    c.index-deref_mut-from.result (own_clients c.self.inside c.self.invariant.0)
    (rw (← c.self.view_is) at c.requires) c.from.ensures c.deref_mut.ensures.value

pub accept-requires : goal.accept-requires
accept-requires c = (can c).room

-- the clients afterwards
accepted : (c : After-accept)
    → AreClientsOf (accepts_request (state_of c.self.inside) c.args.client.0 c.args.request)
    (set c.self.inside.clients.items c.from.result c.accept.new.self)
accepted c =
    clients-accept (state_of c.self.inside) c.self.inside.clients.items c.args.client.0 c.from.result _
    c.accept.new.self c.args.request (own_clients c.self.inside c.self.invariant.0)
    (can c.before) c.from.ensures c.accept.ensures

pub push_back_reserved-requires : goal.push_back_reserved-requires
push_back_reserved-requires c =
    let fits = owners_fit (state_of c.self.inside) _ c.self.inside.owners.items _ c.args.client.0 c.args.request
    (accepted (goal.at.push_back_reserved-requires c).After-accept).kept c.self.invariant.1 in
    omega (arith, c.self.inside.owners.ok.0)

pub invariant_of-self : goal.invariant_of-self
invariant_of-self c =
    let clients : List Client = c.self.inside.clients.items in
    let are = accepted (goal.at.invariant_of-self c).After-accept in
    let owners = c.self.invariant.1 in
    rw (
      written clients c.deref_mut.result.now c.from.result c.accept.new.self c.deref_mut.ensures.value,
      are.places,
      are.waiting,
      are.owed,
      are.flags,
    ) (
      are.kept,
      record {
        each = owners_accept (state_of c.self.inside).waiting
            (accepted_as (state_of c.self.inside) c.args.client.0 c.args.request) c.self.inside.owners.items _
            owners.each c.push_back_reserved.ensures.items;
        enough = c.push_back_reserved.ensures.capacity ∙ owners.enough;
      },
    )

pub returns-clause-accepted : goal.returns-clause-accepted
returns-clause-accepted c =
    let clients : List Client = c.self.inside.clients.items in
    let are = accepted (goal.at.returns-clause-accepted c).After-accept in
    rw (
      ← c.self.view_is,
      written clients c.deref_mut.result.now c.from.result c.accept.new.self c.deref_mut.ensures.value,
      are.places,
      are.waiting,
      are.owed,
      are.flags,
    ) refl
