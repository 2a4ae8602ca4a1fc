use Rattle.rdm_queue.proofs.Common.{◌≡◌, List, [], length, get_or, set, Some, None, refl, sym, ap, ◌∙◌, arith, Aborted}
use Rattle.rdm_queue.proofs.Common.{Client, AskedDiscovery, state_of, asked_is, QueueState, answers_oldest}
use Rattle.rdm_queue.proofs.BodyLemmas.FieldLemmas.{written}
use Rattle.rdm_queue.proofs.BodyLemmas.RingFields.{AreClientsOf, own_clients}
use Rattle.rdm_queue.proofs.BodyLemmas.AnswerLemmas.{nonempty, oldest_asked, asked_rest, asked_within, CanAnswer}
use Rattle.rdm_queue.proofs.BodyLemmas.AnswerLemmas.{can_answer, serves_none, clients-answer}
use Rattle.rdm_queue.proofs.queue.Queue.answer_unserved.Goals.{After-index-deref_mut-from}
use Rattle.rdm_queue.proofs.queue.Queue.answer_unserved.Goals as goal

pub bounds-deref_mut-from : goal.bounds-deref_mut-from
bounds-deref_mut-from c =
    let some = nonempty c.self.inside.asked.items (sym c.is_empty.ensures ∙ c.if-is_empty.false) in
    let within = asked_within (state_of c.self.inside) c.self.inside.clients.items (asked_is c.remove-asked.result)
    (own_clients c.self.inside c.self.invariant.0)
    (oldest_asked c.self.inside c.remove-asked.result some c.remove-asked.ensures.value) in
    let same = ap (λ l. length l) c.deref_mut.ensures.value in
    let converted = c.from.ensures in
    omega arith

-- the oldest discovery, its client, and the capacity for its answer
abbrev asked : After-index-deref_mut-from → AskedDiscovery
asked c = asked_is c.remove-asked.result

abbrev client : After-index-deref_mut-from → Client
client c = get_or c.deref_mut.result.now c.from.result c.index-deref_mut-from.result

can : (c : After-index-deref_mut-from)
    → CanAnswer (state_of c.self.inside) c.self.inside.clients.items (asked c) (client c)
can c =
    let some = nonempty c.self.inside.asked.items (sym c.is_empty.ensures ∙ c.if-is_empty.false) in
    can_answer (state_of c.self.inside) c.self.inside.clients.items c.deref_mut.result.now (asked c) c.from.result
    c.index-deref_mut-from.result (own_clients c.self.inside c.self.invariant.0)
    (oldest_asked c.self.inside c.remove-asked.result some c.remove-asked.ensures.value)
    c.from.ensures c.deref_mut.ensures.value

pub answer_aborted-requires-clause-sets : goal.answer_aborted-requires-clause-sets
answer_aborted-requires-clause-sets c =
    (can (goal.at.answer_aborted-requires-clause-sets c).After-index-deref_mut-from).sets

pub answer_aborted-requires-clause-room : goal.answer_aborted-requires-clause-room
answer_aborted-requires-clause-room c =
    (can (goal.at.answer_aborted-requires-clause-room c).After-index-deref_mut-from).room

pub answer_aborted-requires-clause-set_room : goal.answer_aborted-requires-clause-set_room
answer_aborted-requires-clause-set_room c =
    (can (goal.at.answer_aborted-requires-clause-set_room c).After-index-deref_mut-from).set_room

-- the queue and its clients after the answer
abbrev next : goal.After-self-1 → QueueState
next c =
    record (answers_oldest (state_of c.self.inside) (asked_is c.remove-asked.result) 0 (Some Aborted) []) {
      run = None;
    }

answered : (c : goal.After-self-1)
    → AreClientsOf (next c) (set c.self.inside.clients.items c.from.result c.answer_aborted.new.self)
answered c =
    let before = can (goal.at.invariant_of-self c).After-index-deref_mut-from in
    clients-answer (state_of c.self.inside) c.self.inside.clients.items c.from.result _ c.answer_aborted.new.self
    (asked_is c.remove-asked.result) 0 (Some Aborted) [] None (own_clients c.self.inside c.self.invariant.0) before
    (serves_none (state_of c.self.inside) (asked_is c.remove-asked.result) (rw (← c.self.view_is) at c.requires)
    before.oldest)
    c.from.ensures c.answer_aborted.ensures

pub invariant_of-self : goal.invariant_of-self
invariant_of-self c =
    let clients : List Client = c.self.inside.clients.items in
    let are = answered c in
    let none : (state_of c.self.inside).run ≡ None = rw (← c.self.view_is) at c.requires in
    rw (
      written clients c.deref_mut.result.now c.from.result c.answer_aborted.new.self c.deref_mut.ensures.value,
      are.places,
      are.waiting,
      are.owed,
      are.flags,
      asked_rest c.self.inside.asked.items c.remove-asked.new.self.items c.remove-asked.ensures.items,
      none,
    ) (are.kept, c.self.invariant.1)

pub returns-clause-ended : goal.returns-clause-ended
returns-clause-ended c =
    let clients : List Client = c.self.inside.clients.items in
    let are = answered c in
    let none : (state_of c.self.inside).run ≡ None = rw (← c.self.view_is) at c.requires in
    record {
      closing = sym c.is_closing.ensures ∙ c.if-not-is_closing.false;
      asked = asked_is c.remove-asked.result;
      oldest = rw (← c.self.view_is) (can (goal.at.returns-clause-ended c).After-index-deref_mut-from).oldest;
      entry_is = refl;
      new_is = rw (← c.self.view_is)
          (rw (
            written clients c.deref_mut.result.now c.from.result c.answer_aborted.new.self c.deref_mut.ensures.value,
            are.places,
            are.waiting,
            are.owed,
            are.flags,
            asked_rest c.self.inside.asked.items c.remove-asked.new.self.items c.remove-asked.ensures.items,
            none,
          ) refl);
    }
