use Rattle.rdm_queue.proofs.Common.{◌≡◌, [], ◌∷◌, ◌++◌, None, sym, ◌∙◌, refl, length-map, Client, state_of}
use Rattle.rdm_queue.proofs.Common.{first_join_fault, joins_client}
use Rattle.rdm_queue.proofs.BodyLemmas.RingFields.{AreClientsOf, own_clients, clients-join}
use Rattle.rdm_queue.proofs.queue.Queue.join_client.Goals as goal

-- no fault refuses the client, and the clients with it
passes : (c : goal.After-push) → first_join_fault (state_of c.self.inside) c.args.places ≡ None
passes c = rw (← c.self.view_is) at (sym c.join_fault.ensures ∙ c.in_default.is)

joined : (c : goal.After-push)
    → AreClientsOf (joins_client (state_of c.self.inside) c.args.places)
    (c.self.inside.clients.items ++ c.in-Ok.client ∷ [])
joined c =
    clients-join (state_of c.self.inside) c.self.inside.clients.items c.in-Ok.client c.args.places
    (own_clients c.self.inside c.self.invariant.0) c.in-Ok.ensures (passes c)

pub invariant_of-self : goal.invariant_of-self
invariant_of-self c =
    let are = joined c in rw (c.push.ensures.items, are.places, are.waiting, are.owed, are.flags)
    (are.kept, c.self.invariant.1)

pub returns-clause-joined : goal.returns-clause-joined
returns-clause-joined c =
    let are = joined c in
    rw (← c.self.view_is) (
      passes c,
      c.len.ensures.value ∙ sym (length-map c.self.inside.clients.items (λ (k : Client). k.places)),
      rw (c.push.ensures.items, are.places, are.waiting, are.owed, are.flags) refl,
    )
