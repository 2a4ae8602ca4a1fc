use Rattle.rdm_lanes.proofs.ReadLemmas.{begin_one_list}
use Rattle.rdm_lanes.proofs.worker.compared.begin_one.Goals as goal

pub returns : goal.returns
returns g c =
    begin_one_list c.args.shown.now c.args.read.now c.longer.result c.len.ensures.views c.len-2.ensures.views
    c.longer.ensures.this c.longer.ensures.that
