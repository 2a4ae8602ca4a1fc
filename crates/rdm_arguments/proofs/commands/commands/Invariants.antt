-- the program has the commands so far
use Rattle.std.proofs.Common.{◌≡◌, take}
use Rattle.clap.specs.Words.{app_of}
use Rattle.rdm_arguments.specs.Arguments.{program}
use Rattle.rdm_arguments.proofs.CommandLemmas.{with_commands_of}
use Rattle.rdm_arguments.proofs.commands.commands.Given as goal

abbrev pub invariant-commands : goal.invariant-commands
invariant-commands l = app_of l.parser ≡ with_commands_of program (take l.rule-index l.rule-items)
