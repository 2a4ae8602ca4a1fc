use Rattle.rdm_lanes.proofs.Common.{◌∙◌, sym, length-map, end_rings}
use Rattle.rdm_lanes.proofs.FirstLemmas.{ends_shown_first}
use Rattle.rdm_lanes.proofs.ReadLemmas.{published_of}
use Rattle.rdm_lanes.proofs.worker.compared.ViewWorker+J+Shown+J+R.end.Goals as goal

pub returns-clause-published : goal.returns-clause-published
returns-clause-published g c =
    let me = c.args.self in
    rw (c.again.ensures, c.front-2.ensures) (published_of me.server.session me.views me.publishes)

pub returns-clause-shown_first : goal.returns-clause-shown_first
returns-clause-shown_first g c =
    let me = c.args.self in
    let long = c.compared-session.ensures.show_same.long
    ∙ (sym (length-map c.args.ends.items end_rings) ∙ c.requires.pairs.long) in
    rw (c.again.ensures, c.front-2.ensures)
    (ends_shown_first me.server.session me.server.lanes.items c.compared-session.result.1.items me.views.shown
    me.server.fits c.compared-session.ensures.agree long me.shown_first)

pub returns-clause-unspent : goal.returns-clause-unspent
returns-clause-unspent g c = record { each = λ i e at. e.own }
