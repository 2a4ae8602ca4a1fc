use Rattle.std.proofs.Common.{◌∙◌, ap}
use Rattle.rdm_wire.specs.Frames.{seen_exchange}
use Rattle.rdm_join.specs.Exchange.{bytes_heard}
use Rattle.rdm_explain.proofs.FrameLemmas.{seen_alike}
use Rattle.rdm_explain.proofs.exchange.read_exchange.Goals as goal

pub returns : goal.returns
returns c =
    seen_alike c.as_slice.result.now _ _ _ _ (bytes_heard c.args.event.now) c.read_frame-sent.ensures.asked
    c.read_frame-sent.ensures.heard c.read_event-heard.ensures
    ∙ ap (λ f. seen_exchange f (bytes_heard c.args.event.now)) c.as_slice.ensures.value
