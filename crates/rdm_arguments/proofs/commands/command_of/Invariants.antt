use Rattle.std.proofs.Common.{take}
use Rattle.rdm_arguments.proofs.CommandLemmas.{HasAll}
use Rattle.rdm_arguments.proofs.commands.command_of.Given as goal

abbrev pub invariant-arguments : goal.invariant-arguments
invariant-arguments l = HasAll l.command l.rule.name.now (take l.argument-index l.rule.arguments.now)
