-- Exchanges as the honest line sees them.
use Rattle.std.specs.Prelude.{List, map}
use Rattle.rdm_wire.specs.Honest.{Asked, Heard, Seen}
use Rattle.rdm_wire.specs.Honest.Asked.{Unmute, Branch, Mute, Other}
use Rattle.rdm_wire.specs.Honest.Heard.{Failed, Silent, One, Acked, Noise}
use Rattle.rdm_explain.specs.declared.exchange.Asked.{Asked as AskedValue}
use Rattle.rdm_explain.specs.declared.exchange.Asked.TheVariants as asks
use Rattle.rdm_explain.specs.declared.exchange.Heard.{Heard as HeardValue}
use Rattle.rdm_explain.specs.declared.exchange.Heard.TheVariants as hears
use Rattle.rdm_explain.specs.declared.exchange.Exchange.{Exchange}

-- what a frame asks
abbrev pub asked_of : AskedValue → Asked
asked_of asks.Unmute = Unmute
asked_of (asks.Branch lo hi) = Branch lo hi
asked_of (asks.Mute u) = Mute u
asked_of asks.Other = Other

-- what was heard
abbrev pub heard_of : HeardValue → Heard
heard_of hears.Failed = Failed
heard_of hears.Silent = Silent
heard_of (hears.One u) = One u
heard_of (hears.Acked ack) = Acked ack
heard_of hears.Noise = Noise

-- an exchange
abbrev pub seen_of : Exchange → Seen
seen_of e = record { asked = asked_of e.asked; heard = heard_of e.heard }

-- exchanges, in order
abbrev pub seen_all : List Exchange → List Seen
seen_all xs = map seen_of xs
