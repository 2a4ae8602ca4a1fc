use Rattle.std.proofs.Common.{rules}
use Rattle.std.specs.Prelude.{None, is_some}
use Rattle.rdm_arguments.specs.declared.job.Job.TheVariants.{Discover, Run}
use Rattle.rdm_port.specs.Program.{Answers, IsLoggedWith}
use Rattle.rdm_port.proofs.LoggedLemmas.{done_logged, fault_logged, fault_logged_none}
use Rattle.rdm_port.proofs.performing.answer.Goals as goal

pub returns-in-Ok-Discover-clause-ok : goal.returns-in-Ok-Discover-clause-ok
returns-in-Ok-Discover-clause-ok g c =
    done_logged c.answer_discover.result c.args.job (Discover c.in-Ok-Discover.discovery)
    (λ j. Answers _ g.L.Line.step (g.O.Opens.opens c.args.opener.now) j (g.R.Read.remaining c.args.reader.now)
    None)
    c.args.log.now c.answer_discover.new.log (search rules) c.answer_discover.ensures.ok

pub returns-in-Ok-Run-clause-ok : goal.returns-in-Ok-Run-clause-ok
returns-in-Ok-Run-clause-ok g c =
    done_logged c.answer_run.result c.args.job (Run c.in-Ok-Run.session)
    (λ j. Answers _ g.L.Line.step (g.O.Opens.opens c.args.opener.now) j (g.R.Read.remaining c.args.reader.now)
    None)
    c.args.log.now c.answer_run.new.log (search rules) c.answer_run.ensures.ok

pub returns-in-Ok-Discover-clause-logged : goal.returns-in-Ok-Discover-clause-logged
returns-in-Ok-Discover-clause-logged g c =
    fault_logged c.answer_discover.result c.args.job (Discover c.in-Ok-Discover.discovery)
    (λ command. IsLoggedWith _ g.L.Line.step (g.O.Opens.opens c.args.opener.now) command
    (g.R.Read.remaining c.args.reader.now))
    c.args.log.now c.answer_discover.new.log (search rules) c.answer_discover.ensures.logged

pub returns-in-Ok-Run-clause-logged : goal.returns-in-Ok-Run-clause-logged
returns-in-Ok-Run-clause-logged g c =
    fault_logged c.answer_run.result c.args.job (Run c.in-Ok-Run.session)
    (λ command. IsLoggedWith _ g.L.Line.step (g.O.Opens.opens c.args.opener.now) command
    (g.R.Read.remaining c.args.reader.now))
    c.args.log.now c.answer_run.new.log (search rules)
    (fault_logged_none c.answer_run.result (is_some c.in-Ok-Run.session.log) c.args.log.now
    c.answer_run.new.log c.answer_run.ensures.logged)
