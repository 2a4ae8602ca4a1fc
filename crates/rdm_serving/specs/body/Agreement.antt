-- How what is left of a session agrees with its file.
use Rattle.std.specs.Prelude.{◌≡◌}
use Rattle.std.specs.List.{All}
use Rattle.rdm_files.specs.declared.session.file.SessionFile.{SessionFile}
use Rattle.rdm_log.specs.log.LogState.{stored}
use Rattle.rdm_reports.specs.SessionReport.{AllSettled}
use Rattle.rdm_serving.specs.LoggedCalls.{HasCalls}
use Rattle.rdm_serving.specs.LoggedOutcomes.{IsLogOf}
use Rattle.rdm_serving.specs.Serving.{IsInTurns, IsSetUp}
use Rattle.rdm_serving.specs.declared.serving.Served.{Served}

-- The file's calls have all their outcomes. The log has these outcomes, exactly the file's clients and calls, and the
-- file's set-up. All of the log's entries are stored. Each client made enough turns, and not too many.
pub record AgreesWith (file : SessionFile) (s : Served) : Type 0 where
  pub settled : AllSettled file.clients.items s.outcomes.items
  pub logged : IsLogOf s.session.opening s.session.entries s.outcomes.items
  pub called : HasCalls s.session.entries file.clients.items
  pub set_up : IsSetUp file.source file.budget file.search s.session
  pub whole : stored s.session ≡ s.session.entries
  pub client_turns : All (IsInTurns file.turns) s.outcomes.items
