use Rattle.std.proofs.Common.{◌∙◌, length, ap}
use Rattle.std.proofs.lemmas.List.{length-map}
use Rattle.rdm_log.specs.log.Entries.{exchanges}
use Rattle.rdm_locked.specs.Exchanges.{in_record}
use Rattle.rdm_serving.proofs.serving.locked.finish.Goals as goal

pub returns-in-Ok-clause-exchanges : goal.returns-in-Ok-clause-exchanges
unfolding exchanges
returns-in-Ok-clause-exchanges g c = ap length c.in-Ok.ensures.exchanges ∙ length-map c.args.record.now in_record
