use Rattle.rdm_port.proofs.LoggedLemmas.{answer_printed, fault_printed}
use Rattle.rdm_port.proofs.performing.print.Goals as goal

pub returns-clause-ok : goal.returns-clause-ok
returns-clause-ok g c = answer_printed c.args.answer c.to_print-to_print.result c.after_log.result c.args.log.now _ _ _
    c.to_print-to_print.ensures.ok c.after_log.ensures.text c.after_log.ensures.status c.write_answer.ensures

pub returns-clause-fault : goal.returns-clause-fault
returns-clause-fault g c = fault_printed c.args.answer c.to_print-to_print.result c.after_log.result c.args.log.now _
    _ _
    c.to_print-to_print.ensures.fault c.after_log.ensures.text c.after_log.ensures.status c.write_answer.ensures
