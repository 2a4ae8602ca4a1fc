use Rattle.std.proofs.Common.{arith}
use Rattle.clap.specs.Words.{app_of}
use Rattle.rdm_arguments.specs.Arguments.{program}
use Rattle.rdm_arguments.proofs.CommandLemmas.{with_commands_of, no_command, one_command_more, all_commands}
use Rattle.rdm_arguments.proofs.commands.commands.Goals as goal

pub commands-init : goal.commands-init
commands-init c = no_command _ program c.program-parser.ensures

pub commands-preserved : goal.commands-preserved
commands-preserved c = one_command_more c.commands.parser c.in_ok-command.command c.in_ok-parser.parser program _
    c.commands.rule-index _ (omega arith) c.commands.invariant c.in_ok-parser.ensures c.in_ok-command.ensures.app
    c.in_ok-command.ensures.local

pub returns : goal.returns
unfolding with_commands_of
returns c = all_commands (app_of c.commands.parser) program _ c.commands.rule-index (omega arith) c.commands.invariant
