use Rattle.std.proofs.Common.{arith}
use Rattle.rdm_arguments.proofs.CommandLemmas.{one_more}
use Rattle.rdm_arguments.proofs.commands.command_of.Goals as goal

pub arguments-preserved : goal.arguments-preserved
arguments-preserved c =
    one_more c.arguments.command c.in_ok-command.command c.args.rule.now.name.now c.args.rule.now.arguments.now
    c.arguments.argument-index _ _ (omega arith) c.arguments.invariant c.in_ok-command.ensures.app c.arg.ensures.rule
    c.in_ok-command.ensures.local
