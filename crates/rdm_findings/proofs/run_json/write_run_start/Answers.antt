use Rattle.rdm_reports.proofs.WritingLemmas.{three_written}
use Rattle.rdm_findings.proofs.run_json.write_run_start.Goals as goal

pub returns-in_ok-write-in-Json : goal.returns-in_ok-write-in-Json
returns-in_ok-write-in-Json c =
    rw c.in-Json.is
    (three_written c.write_start.result c.args.text.now.items c.write_members.new.text.items c.write.new.text.items
    c.write_start.new.text.items _ _ _ c.in_ok-write_members-in-Json.ensures c.in_ok-write-in-Json.ensures
    c.write_start.ensures)
