use Rattle.rdm_queue.proofs.Common.{[], refl, first_state}
use Rattle.rdm_queue.proofs.BodyLemmas.FieldLemmas.{first_kept, waiting_are}
use Rattle.rdm_queue.proofs.queue.Queue.new.Goals as goal

pub invariant_of-result : goal.invariant_of-result
invariant_of-result c =
    rw (
      c.new_in.ensures,
      c.new.ensures.stands,
      c.new_in-2.ensures,
      c.start.ensures.state,
      c.new-3.ensures,
      c.new-4.ensures,
      waiting_are (first_state c.args.setup) [] (first_kept c.args.setup c.requires.config_is),
    )
    (first_kept c.args.setup c.requires.config_is, record { each = c.requires.empty; enough = c.requires.room })

pub returns : goal.returns
returns c = rw (
  c.new_in.ensures,
  c.new.ensures.stands,
  c.new_in-2.ensures,
  c.start.ensures.state,
  c.new-3.ensures,
  c.new-4.ensures,
  waiting_are (first_state c.args.setup) [] (first_kept c.args.setup c.requires.config_is),
) refl
