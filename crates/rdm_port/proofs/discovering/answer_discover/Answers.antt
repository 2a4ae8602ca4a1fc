use Rattle.std.proofs.Common.{◌≡◌, List, [], ℕ, Option, subst, refl, inl}
use Rattle.std.specs.Prelude.{is_some}
use Rattle.clap.specs.Words.{Text}
use Rattle.rdm_agent.specs.declared.kind.Kind.{Kind}
use Rattle.rdm_agent.specs.declared.search.Search.{Search}
use Rattle.rdm_line.specs.Events.{Exchange}
use Rattle.rdm_arguments.specs.declared.job.DiscoverJob.{DiscoverJob}
use Rattle.rdm_reports.specs.Report.{report_text, report_status}
use Rattle.rdm_reports.specs.declared.discovery.Discovery.{Discovery}
use Rattle.rdm_port.specs.Outcome.{kind_of, search_of}
use Rattle.rdm_port.specs.Program.{Discovers, IsRun}
use Rattle.rdm_port.proofs.LoggedLemmas.{report_logged, memory_logged}
use Rattle.rdm_port.proofs.discovering.answer_discover.Goals as goal

-- the report of a run, whether there is memory for it or not
reported : (L : Type 0) (step : L → Exchange → L → Type 0) (opens : Text → Text → L → Type 0) (job : DiscoverJob)
    (known : Option (List ℕ)) (run : Discovery) (logged : List ℕ) (search : Search) (kind : Kind)
    → search ≡ search_of job.quick → kind ≡ kind_of job.incremental
    → IsRun L step opens job.line search kind known run.found run.frames logged
    → Discovers L step opens job known (report_text run.found run.frames) logged (report_status run.found)
reported L step opens job known run logged search kind searched of_kind ran = record {
  found = run.found;
  frames = run.frames;
  run = subst (λ k. IsRun L step opens job.line (search_of job.quick) k known run.found run.frames logged) of_kind
      (subst (λ s. IsRun L step opens job.line s kind known run.found run.frames logged) searched ran);
  prints = refl;
  ends = refl;
}

pub returns-in-Err-clause-logged : goal.returns-in-Err-clause-logged
returns-in-Err-clause-logged g c = ([], inl refl, c.in-Err.ensures.logged)

pub returns-in-Ok-clause-ok : goal.returns-in-Ok-clause-ok
returns-in-Ok-clause-ok g c =
    let job = c.args.job.now in
    let known = g.R.Read.remaining c.args.reader.now in
    let opens = g.O.Opens.opens c.args.opener.now in
    let run = c.in-Ok.run' in
    let (logged, ran, has) = c.in-Ok.ensures.ok in
    report_logged c.answered.result (Discovers _ g.L.Line.step opens job known) (report_text run.found run.frames)
    logged (report_status run.found) (is_some job.log) c.args.log.now c.run_on.new.log has
    (reported _ g.L.Line.step opens job known run logged c.search_of-search.result c.kind_of-kind.result
    c.search_of-search.ensures c.kind_of-kind.ensures ran) c.answered.ensures.text c.answered.ensures.status

pub returns-in-Ok-clause-logged : goal.returns-in-Ok-clause-logged
returns-in-Ok-clause-logged g c =
    let job = c.args.job.now in
    let known = g.R.Read.remaining c.args.reader.now in
    let opens = g.O.Opens.opens c.args.opener.now in
    let run = c.in-Ok.run' in
    let (logged, ran, has) = c.in-Ok.ensures.ok in
    memory_logged c.answered.result (Discovers _ g.L.Line.step opens job known) (report_text run.found run.frames)
    logged (report_status run.found) (is_some job.log) c.args.log.now c.run_on.new.log has
    (reported _ g.L.Line.step opens job known run logged c.search_of-search.result c.kind_of-kind.result
    c.search_of-search.ensures c.kind_of-kind.ensures ran) c.answered.ensures.memory
