-- The bytes of answers.
use Rattle.std.specs.Prelude.{ℕ, List}
use Rattle.rdm_port.specs.declared.answer.Answer.{Answer}
use Rattle.rdm_port.specs.declared.answer.Answer.TheVariants.{Line, Lines}

-- the bytes of an answer
abbrev pub answer_bytes : Answer → List ℕ
answer_bytes (Line line) = line.items
answer_bytes (Lines lines) = lines.items
