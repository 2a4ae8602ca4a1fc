use Rattle.std.proofs.Common.{◌∙◌, ◌≡◌, length, sym, arith}
use Rattle.std.proofs.lemmas.List.{length-map}
use Rattle.rdm_lanes.specs.Pairs.{client_rings}
use Rattle.rdm_lanes.proofs.SeatLemmas.{new_slots}
use Rattle.rdm_lanes.proofs.SessionLemmas.{session_over, nothing_exchanged, same_keeping}
use Rattle.rdm_lanes.proofs.session.run_session_with.Goals as goal

pub returns-in-Ok-clause-over : goal.returns-in-Ok-clause-over
returns-in-Ok-clause-over g c =
    let lanes = c.in-Ok.lanes in
    let opened = c.in-Ok.ensures.opened in
    let ended = c.lanes_in_threads.ensures in
    let end = c.lanes_in_threads.result in
    let log = c.args.log in
    let first = lanes.worker.server.session in
    let long : length lanes.worker.server.lanes.items ≡ length c.args.places.now =
    sym opened.pairs.long ∙ length-map lanes.clients.items client_rings ∙ opened.clients.long in
    let none = nothing_exchanged c.args.setup log.keeps log.room c.args.places.now first opened.session in
    record {
      session = session_over g.X.Line.step c.args.setup log.keeps log.room c.args.places.now c.args.line end.line first
          end.session ended.fits.0 opened.session ended.exchanged ended.served ended.legal ended.promised ended.switches
          (ended.fits.1 ∙ long) ended.fits.2;
      ended = rw c.requires.one_each at ended.ended;
      slots_are = ended.slots c.args.ring
          (new_slots c.args.ring c.args.places.now lanes.clients.items opened.clients);
      in_turns = ended.turns;
      all_turns = ended.all_turns;
      exchanges = omega (arith, none, ended.exchanges);
    }

pub returns-in-Ok-clause-kept : goal.returns-in-Ok-clause-kept
returns-in-Ok-clause-kept g c =
    same_keeping g.X.Line.step c.args.setup c.args.log.keeps c.args.log.room c.args.places.now c.args.line
    c.lanes_in_threads.result.line c.in-Ok.lanes.worker.server.session c.lanes_in_threads.result.session
    c.in-Ok.ensures.opened.session c.lanes_in_threads.ensures.exchanged
