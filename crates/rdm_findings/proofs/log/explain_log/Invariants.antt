use Rattle.rdm_findings.proofs.LogLemmas.{IsSoFar}
use Rattle.rdm_findings.proofs.log.explain_log.Given as goal

abbrev pub invariant-lines : goal.invariant-lines
invariant-lines g l =
    IsSoFar l.form l.present l.passing (g.R.Read.remaining l.fn.reader) (g.R.Read.remaining l.reader)
    (g.W.Write.contents l.fn.writer) (g.W.Write.contents l.writer) l.reading l.any l.broken l.number
