use Rattle.std.proofs.Common.{[], ◌∷◌}
use Rattle.rdm_arguments.proofs.complaint.Reader.read_option.Goals as goal

pub returns-in-Some-split_once-clause-true_after : goal.returns-in-Some-split_once-clause-true_after
returns-in-Some-split_once-clause-true_after c =
    c.wrong_value.ensures c.args.self.now.command.now.name.now (c.args.word ∷ [])
