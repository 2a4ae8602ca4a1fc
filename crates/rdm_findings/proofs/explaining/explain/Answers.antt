use Rattle.rdm_findings.proofs.explaining.explain.Goals as goal

pub returns-in-Ok : goal.returns-in-Ok
returns-in-Ok c = record {
  findings = c.in_ok-found.found;
  finds = c.in_ok-found.ensures;
  prints = c.in-Ok.ensures;
  breaks = c.is_broken.ensures;
}
