use Rattle.std.proofs.Common.{◌≡◌, ◌++◌, OnOk, subst}
use Rattle.rdm_reports.proofs.WritingLemmas.{three_written}
use Rattle.rdm_findings.specs.Explained.{bytes_text, devices_text}
use Rattle.rdm_findings.specs.Orders.{order_finding, order_of}
use Rattle.rdm_findings.specs.RunJson.{run_end}
use Rattle.rdm_findings.specs.declared.mention.RunFacts.{RunFacts}
use Rattle.rdm_findings.proofs.explaining.write_others.Goals as goal

pub returns : goal.returns
returns c =
    subst (λ (facts : RunFacts). OnOk c.write_end.result (c.write_end.new.text.items ≡ c.args.text.now.items
    ++ (devices_text c.args.form facts c.args.exchanges.now c.args.found.now
    ++ bytes_text c.args.form c.args.head.now c.args.exchanges.now c.args.found.now
    ++ (order_finding c.args.form (order_of c.args.head.now c.args.exchanges.now c.args.found.now)
    ++ run_end c.args.form))))
    c.facts_of-facts.ensures
    (three_written c.write_end.result c.args.text.now.items c.write_judged.new.text.items
    c.write_bytes.new.text.items c.write_end.new.text.items _ _ _ c.in_ok-write_judged.ensures
    c.in_ok-write_bytes.ensures c.write_end.ensures)
