use Rattle.std.proofs.Common.{sym, ◌∙◌}
use Rattle.rdm_locked.proofs.RecordLemmas.{exchanges_decided}
use Rattle.rdm_locked.proofs.exchange.has_exchanges.Goals as goal

pub returns-then-has_events : goal.returns-then-has_events
returns-then-has_events c =
    let both = exchanges_decided c.args.log.now.opening c.args.log.now.entries c.args.exchanges.now c.requires.legal in
    let events = (rw (c.entries.ensures.stored ∙ c.requires.whole) at c.has_events.ensures) in
    let frames = (rw (c.entries-then-has_events.ensures.stored ∙ c.requires.whole) at c.begins_with_frames.ensures) in
    (λ yes. both.1 (events.0 c.if-has_events.true, frames.0 yes), λ same. frames.1 (both.0 same).1)

pub returns-else-has_events : goal.returns-else-has_events
returns-else-has_events c =
    let both = exchanges_decided c.args.log.now.opening c.args.log.now.entries c.args.exchanges.now c.requires.legal in
    let events = (rw (c.entries.ensures.stored ∙ c.requires.whole) at c.has_events.ensures) in
    (λ yes. absurd (let no = sym yes ∙ c.if-has_events.false in cc), λ same. events.1 (both.0 same).0)
