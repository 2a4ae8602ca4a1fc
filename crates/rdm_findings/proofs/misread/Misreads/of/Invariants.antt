use Rattle.std.proofs.Common.{◌≡◌, ℕ, take}
use Rattle.std.specs.List.{position}
use Rattle.rdm_findings.specs.Mentions.{is_misread, misread_in}
use Rattle.rdm_findings.proofs.misread.Misreads.of.Given as goal

abbrev pub invariant-loop-at : goal.invariant-loop-at
invariant-loop-at l = (u : ℕ) → misread_in l.found u ≡ position (is_misread u) (take l.at l.exchanges)
