-- What was consumed so far has no line break.
use Rattle.std.proofs.Common.{◌≢◌, ℕ, List, All}
use Rattle.std.specs.Io.KnownBytes.{Consumes}
use Rattle.rdm_line.proofs.stream.skip_line.Given as goal

abbrev pub invariant-rest : goal.invariant-rest
invariant-rest g l =
    (text : List ℕ) × All (λ b. b ≢ 10) text
    × Consumes (g.R.Read.remaining l.initial.reader) (g.R.Read.remaining l.reader) text
