use Rattle.rdm_queue.proofs.Common.{sym, refl, accepted_is}
use Rattle.rdm_queue.proofs.queue.Queue.take_request.Goals as goal

pub returns-clause-frame : goal.returns-clause-frame
returns-clause-frame c =
    let oldest = rw (← c.self.view_is, c.in_ok-oldest.was) at (sym c.oldest.ensures) in
    record {
      accepted = accepted_is c.in_ok-oldest.field-0-0 c.in_ok-oldest.oldest.now;
      oldest = rw (← c.self.view_is) oldest;
      owner_is = refl;
      packet = rw (← c.self.view_is) c.encode_request-frame.ensures.packet;
      new_is = rw (← c.self.view_is) refl;
    }
