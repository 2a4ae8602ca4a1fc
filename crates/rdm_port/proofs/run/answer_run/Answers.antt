use Rattle.std.specs.Prelude.{is_some}
use Rattle.std.proofs.lemmas.Result.{on_err_weaker}
use Rattle.rdm_port.proofs.LoggedLemmas.{opened_same}
use Rattle.rdm_port.proofs.RunLemmas.{served_then}
use Rattle.rdm_port.proofs.run.answer_run.Goals as goal

pub answer_served-requires : goal.answer_served-requires
answer_served-requires g c = let (file, reads, by, set) = c.in-Ok.ensures.served in by.whole

pub returns-in-Ok-clause-ok : goal.returns-in-Ok-clause-ok
returns-in-Ok-clause-ok g c =
    let (file, reads, by, set) = c.in-Ok.ensures.served in
    served_then _ (g.O.Opens.opens c.args.opener.now) c.args.job.streams (g.R.Read.remaining c.args.reader.now) file
    c.answer_served.result c.args.job.port c.in-Ok.served (is_some c.args.job.log) c.args.log.now
    c.serve_file.new.log c.answer_served.new.log c.in-Ok.ensures.begins reads c.in-Ok.ensures.opened by set
    c.answer_served.ensures.text c.answer_served.ensures.status c.answer_served.ensures.logged

pub returns-in-Ok-clause-logged : goal.returns-in-Ok-clause-logged
returns-in-Ok-clause-logged g c =
    on_err_weaker c.answer_served.result
    (λ same. opened_same (is_some c.args.job.log) c.args.log.now c.serve_file.new.log c.answer_served.new.log
    c.in-Ok.ensures.opened same) c.answer_served.ensures.unlogged
