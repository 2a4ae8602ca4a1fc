use Rattle.rdm_log.proofs.Common.{refl, accepts, sends, cames, finishes, traded, of_request, verdicts, result}
unfoldable use Rattle.rdm_log.specs.log.Broken.{after_entries}
use Rattle.rdm_log.proofs.laws.logs.broken_answers_are_flagged.Goals as goal

pub returns : goal.returns
unfolding accepts sends cames finishes traded of_request verdicts result after_entries
returns c = record { lost = refl; rest = refl; again = refl }
