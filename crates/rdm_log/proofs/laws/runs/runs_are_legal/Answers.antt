use Rattle.rdm_log.proofs.SampleLemmas.RunsLegal.{found}
use Rattle.rdm_log.proofs.SampleLemmas.FailedRuns.{failed}
use Rattle.rdm_log.proofs.laws.runs.runs_are_legal.Goals as goal

pub returns : goal.returns
returns c = record { found = found; failed = failed }
