use Rattle.rdm_queue.proofs.Common.{arith}
use Rattle.std.proofs.lemmas.Bool.{leb-true}
use Rattle.rdm_queue.proofs.BodyLemmas.SessionLemmas.{ample_room}
use Rattle.rdm_queue.proofs.session.Session.has_ample_room.Goals as goal

pub returns : goal.returns
returns c = λ is.
    rw (← c.self.view_is)
    (ample_room c.self.inside.controller c.self.inside.log c.most_reserved.result c.self.invariant
    c.most_reserved.ensures.most
    (omega (arith, leb-true _ _ is, c.unused.ensures)))
