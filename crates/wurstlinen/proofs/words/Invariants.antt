use Rattle.std.proofs.Common.{◌≡◌, map, take}
use Rattle.std.specs.Prelude.{string_bytes}
use Rattle.rdm_arguments.specs.Arguments.{texts_of}
use Rattle.wurstlinen.proofs.words.Given as goal

abbrev pub invariant-loop-arg : goal.invariant-loop-arg
invariant-loop-arg l = texts_of l.words.items ≡ map string_bytes (take l.arg-index l.args)
