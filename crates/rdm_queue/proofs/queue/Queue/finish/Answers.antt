use Rattle.rdm_queue.proofs.Common.{◌≡◌, ◌<◌, List, length, get_or, set, None, refl, sym, ap, ◌∙◌, subst, arith, Client}
use Rattle.rdm_queue.proofs.Common.{Finish, completion_value, state_of, QueueState, finishes_oldest, owed_for}
use Rattle.rdm_log.specs.log.Broken.{key_of_first, is_end_flagged}
use Rattle.rdm_queue.specs.body.State.{flag_at_end}
use Rattle.rdm_queue.proofs.BodyLemmas.FieldLemmas.{written}
use Rattle.rdm_queue.proofs.BodyLemmas.OldestLemmas.{oldest_within, owners_finish}
use Rattle.rdm_queue.proofs.BodyLemmas.RingSteps.{entry-finish}
use Rattle.rdm_queue.proofs.BodyLemmas.RingFields.{AreClientsOf, own_clients, CanFinish, can_finish, clients-finish}
use Rattle.rdm_queue.proofs.queue.Queue.finish.Goals.{After-index-deref_mut-at}
use Rattle.rdm_queue.proofs.queue.Queue.finish.Goals as goal

-- the client's index
within : (c : goal.After-deref_mut) → c.args.at < length c.deref_mut.result.now
within c =
    subst (λ (ks : List Client). c.args.at < length ks) (sym c.deref_mut.ensures.value)
    (oldest_within (state_of c.self.inside) c.self.inside.clients.items c.args.at c.self.invariant.0
    (rw (← c.self.view_is) at c.requires.oldest))

pub offset_bounds-deref_mut-at : goal.offset_bounds-deref_mut-at
offset_bounds-deref_mut-at c = let below = within c in omega (arith, c.deref_mut.type_inv)

pub bounds-deref_mut-at : goal.bounds-deref_mut-at
bounds-deref_mut-at c = within c

-- the client, which has the oldest request and capacity for its outcome
abbrev client : After-index-deref_mut-at → Client
client c = get_or c.deref_mut.result.now c.args.at c.index-deref_mut-at.result

can : (c : After-index-deref_mut-at)
    → CanFinish (state_of c.self.inside) c.self.inside.clients.items c.requires.oldest.0 (client c)
can c =
    can_finish (state_of c.self.inside) c.self.inside.clients.items c.deref_mut.result.now c.requires.oldest.0 c.args.at
    c.index-deref_mut-at.result (own_clients c.self.inside c.self.invariant.0)
    (rw (← c.self.view_is) at c.requires.oldest.1) c.requires.oldest.2 c.deref_mut.ensures.value

pub finish_oldest-requires-clause-some : goal.finish_oldest-requires-clause-some
finish_oldest-requires-clause-some c = (can c).some

pub finish_oldest-requires-clause-room : goal.finish_oldest-requires-clause-room
finish_oldest-requires-clause-room c = (can c).room

-- the queue and its clients after the finish
abbrev next : goal.After-self-2-1 → QueueState
next c =
    finishes_oldest (state_of c.self.inside) (owed_for (completion_value c.args.done) c.requires.oldest.0)

key_is : (c : goal.After-self-2-1) → c.args.key ≡ key_of_first (state_of c.self.inside).waiting
key_is c = c.requires.key ∙ ap (λ (t : QueueState). key_of_first t.waiting) (sym c.self.view_is)

flag_is : (c : goal.After-self-2-1)
    → c.end-may_be_incomplete.result ≡ flag_at_end (state_of c.self.inside) (completion_value c.args.done)
flag_is c =
    c.end-may_be_incomplete.ensures.flagged
    ∙ ap (λ key. is_end_flagged key c.args.done.status c.args.done.reply c.self.inside.broken) (key_is c)

finished : (c : goal.After-self-2-1)
    → AreClientsOf (next c) (set c.self.inside.clients.items c.args.at c.finish_oldest.new.self)
finished c =
    clients-finish (state_of c.self.inside) c.self.inside.clients.items c.args.at _ c.finish_oldest.new.self c.args.done
    c.end-may_be_incomplete.result c.finish_oldest.result c.requires.oldest.0
    (own_clients c.self.inside c.self.invariant.0)
    (can (goal.at.returns c).After-index-deref_mut-at) c.requires.oldest.2 (flag_is c) c.finish_oldest.ensures

removed : (c : goal.After-self-2-1) → (state_of c.self.inside).decided ≡ None
removed c = ap (λ (t : QueueState). t.decided) c.self.view_is ∙ c.requires.removed

pub invariant_of-self : goal.invariant_of-self
invariant_of-self c =
    let clients : List Client = c.self.inside.clients.items in
    let are = finished c in
    rw (
      written clients c.deref_mut.result.now c.args.at c.finish_oldest.new.self c.deref_mut.ensures.value,
      are.places,
      are.waiting,
      are.owed,
      are.flags,
      c.reset.ensures.stands,
      removed c,
      c.end-may_be_incomplete.ensures.ended,
      key_is c,
    ) (
      are.kept,
      record {
        each = owners_finish (state_of c.self.inside).waiting c.self.inside.owners.items _ c.self.invariant.1.each
            c.pop_front.ensures.rest;
        enough = c.pop_front.ensures.capacity ∙ c.self.invariant.1.enough;
      },
    )

pub returns : goal.returns
returns c =
    let clients : List Client = c.self.inside.clients.items in
    let before = can (goal.at.returns c).After-index-deref_mut-at in
    let are = finished c in
    record {
      finished = rw (← c.self.view_is) (
        c.requires.oldest.0,
        before.oldest,
        c.finish_oldest.ensures.entry_is
            ∙ ap (λ n. Finish n c.args.done.status (length c.args.done.bytes.items))
            (sym (entry-finish (state_of c.self.inside) clients _ c.finish_oldest.new.self c.args.done
            c.end-may_be_incomplete.result c.finish_oldest.result c.requires.oldest.0 c.self.invariant.0.rings before.at
            c.finish_oldest.ensures
            before.oldest)),
        rw (
          written clients c.deref_mut.result.now c.args.at c.finish_oldest.new.self c.deref_mut.ensures.value,
          are.places,
          are.waiting,
          are.owed,
          are.flags,
          c.reset.ensures.stands,
          removed c,
          c.end-may_be_incomplete.ensures.ended,
          key_is c,
        ) refl,
      );
    }
