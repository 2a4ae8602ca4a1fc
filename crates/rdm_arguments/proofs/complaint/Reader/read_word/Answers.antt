use Rattle.std.proofs.Common.{[], ◌∷◌}
use Rattle.rdm_arguments.proofs.complaint.Reader.read_word.Goals as goal

pub returns-in-Some-clause-true_after : goal.returns-in-Some-clause-true_after
returns-in-Some-clause-true_after c = c.value_after.ensures c.args.self.now.command.now.name.now (c.args.word ∷ [])
