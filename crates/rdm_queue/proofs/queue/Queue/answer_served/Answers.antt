use Rattle.rdm_queue.proofs.Common.{◌≡◌, List, length, get_or, set, Some, slice_get, ap, refl, arith, Client}
use Rattle.rdm_queue.proofs.Common.{AskedDiscovery, state_of, asked_is, run_is, QueueState, one_less, answers_oldest}
use Rattle.rdm_queue.proofs.BodyLemmas.FieldLemmas.{written}
use Rattle.rdm_queue.proofs.BodyLemmas.RingFields.{AreClientsOf, own_clients}
use Rattle.rdm_queue.proofs.BodyLemmas.AnswerLemmas.{oldest_served, asked_rest, asked_within, CanAnswer, can_answer}
use Rattle.rdm_queue.proofs.BodyLemmas.AnswerLemmas.{serves_less, clients-answer}
use Rattle.rdm_queue.proofs.queue.Queue.answer_served.Goals.{After-remove-asked, After-found}
use Rattle.rdm_queue.proofs.queue.Queue.answer_served.Goals as goal

-- the oldest discovery
oldest : (c : After-remove-asked)
    → slice_get (state_of c.self.inside).asked 0 ≡ Some (asked_is c.remove-asked.result)
oldest c =
    oldest_served c.self.inside c.remove-asked.result (run_is c.args.run.now) c.self.invariant.0
    (rw (← c.self.view_is) at c.requires) c.remove-asked.ensures.value

pub bounds-deref_mut-from : goal.bounds-deref_mut-from
bounds-deref_mut-from c =
    let within = asked_within (state_of c.self.inside) c.self.inside.clients.items (asked_is c.remove-asked.result)
    (own_clients c.self.inside c.self.invariant.0) (oldest (goal.at.bounds-deref_mut-from c).After-remove-asked) in
    let same = ap (λ l. length l) c.deref_mut.ensures.value in
    let converted = c.from.ensures in
    omega arith

-- its client, and the capacity for its answer
abbrev asked : After-found → AskedDiscovery
asked c = asked_is c.remove-asked.result

abbrev client : After-found → Client
client c = get_or c.deref_mut.result.now c.from.result c.index-deref_mut-from.result

can : (c : After-found)
    → CanAnswer (state_of c.self.inside) c.self.inside.clients.items (asked c) (client c)
can c =
    can_answer (state_of c.self.inside) c.self.inside.clients.items c.deref_mut.result.now (asked c) c.from.result
    c.index-deref_mut-from.result (own_clients c.self.inside c.self.invariant.0)
    (oldest (goal.at.answer-requires-clause-sets c).After-remove-asked) c.from.ensures c.deref_mut.ensures.value

pub answer-requires-clause-sets : goal.answer-requires-clause-sets
answer-requires-clause-sets c = (can c).sets

pub answer-requires-clause-room : goal.answer-requires-clause-room
answer-requires-clause-room c = (can c).room

pub answer-requires-clause-set_room : goal.answer-requires-clause-set_room
answer-requires-clause-set_room c = (can c).set_room

-- the queue and its clients after the answer
abbrev next : goal.After-self-2-1 → QueueState
next c =
    record (answers_oldest (state_of c.self.inside) (asked_is c.remove-asked.result) c.args.run.now.number
    c.args.fault.now c.self.inside.agent.found) { run = one_less (run_is c.args.run.now) }

answered : (c : goal.After-self-2-1)
    → AreClientsOf (next c) (set c.self.inside.clients.items c.from.result c.answer.new.self)
answered c =
    clients-answer (state_of c.self.inside) c.self.inside.clients.items c.from.result _ c.answer.new.self
    (asked_is c.remove-asked.result) c.args.run.now.number c.args.fault.now c.self.inside.agent.found
    (one_less (run_is c.args.run.now)) (own_clients c.self.inside c.self.invariant.0)
    (can (goal.at.returns c).After-found)
    (serves_less (state_of c.self.inside) c.self.inside.clients.items (run_is c.args.run.now) c.self.invariant.0
    (rw (← c.self.view_is) at c.requires))
    c.from.ensures (rw c.found.ensures.value at c.answer.ensures)

pub invariant_of-self : goal.invariant_of-self
invariant_of-self c =
    let clients : List Client = c.self.inside.clients.items in
    let are = answered c in
    rw (
      written clients c.deref_mut.result.now c.from.result c.answer.new.self c.deref_mut.ensures.value,
      are.places,
      are.waiting,
      are.owed,
      are.flags,
      asked_rest c.self.inside.asked.items c.remove-asked.new.self.items c.remove-asked.ensures.items,
      c.one_less-self-inside.ensures,
    ) (are.kept, c.self.invariant.1)

pub returns : goal.returns
returns c =
    let clients : List Client = c.self.inside.clients.items in
    let are = answered c in
    rw (← c.self.view_is) (
      asked_is c.remove-asked.result,
      (can (goal.at.returns c).After-found).oldest,
      refl,
      rw (
        written clients c.deref_mut.result.now c.from.result c.answer.new.self c.deref_mut.ensures.value,
        are.places,
        are.waiting,
        are.owed,
        are.flags,
        asked_rest c.self.inside.asked.items c.remove-asked.new.self.items c.remove-asked.ensures.items,
        c.one_less-self-inside.ensures,
      ) refl,
    )
