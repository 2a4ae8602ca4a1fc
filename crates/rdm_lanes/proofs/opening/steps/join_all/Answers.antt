use Rattle.std.proofs.Common.{Err, get_or, inr, ap, refl, ◌∙◌, arith}
use Rattle.rdm_lanes.proofs.OpenLemmas.{joined_next, get_within, joined_with_room, still_free, refused_as_full}
use Rattle.rdm_lanes.proofs.OpenLemmas.{full_then}
use Rattle.rdm_lanes.proofs.opening.steps.join_all.Goals as goal

pub loop-n-preserved : goal.loop-n-preserved
loop-n-preserved c =
    let places = c.args.places.now in
    let i = c.loop-n.n-index in
    let free = joined_with_room c.loop-n.session c.join_client.new.self (get_or places i 0) c.join_client.result
    c.in-Ok.field-0 c.in-Ok.is c.join_client.ensures.adds in (
      joined_next c.args.session.now c.loop-n.session c.join_client.new.self c.join_client.result c.in-Ok.field-0 places
          i (get_or places i 0) c.requires.no_clients c.in-Ok.is c.join_client.ensures.adds c.loop-n-test.true
          (get_within places i 0 (get_or places i 0) c.loop-n-test.true) c.loop-n.invariant.0,
      inr (omega (
        arith,
        still_free c.args.session.now c.loop-n.session places i c.requires.not_closed c.loop-n-test.true
            c.loop-n.invariant.0 free,
      )),
    )

pub returns-in-Err-LogFull-clause-fault : goal.returns-in-Err-LogFull-clause-fault
returns-in-Err-LogFull-clause-fault c =
    let places = c.args.places.now in
    let i = c.loop-n.n-index in
    let full = refused_as_full c.loop-n.session c.join_client.new.self (get_or places i 0) c.join_client.result
    (c.in-Err-LogFull.is ∙ ap (λ x. Err x) c.in-Err-LogFull.field-0-is) c.join_client.ensures.adds in
    inr (
      refl,
      full_then c.args.session.now c.loop-n.session places i c.requires.not_closed c.loop-n-test.true
          c.loop-n.invariant.0 full,
    )
