use Rattle.test_trials.proofs.LawLemmas.{log_over_rings}
use Rattle.test_trials.proofs.tests.laws.rings.serves_in.Goals as goal

pub returns : goal.returns
returns g c = (
  c.in-Ok-ended.end.line,
  log_over_rings _ _ _ c.args.line c.in-Ok-ended.end.line c.in-Ok-ended.end.session
      c.in-Ok-ended.ensures.over.session,
)
