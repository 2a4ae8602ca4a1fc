use Rattle.std.proofs.Common.{◌≡◌, ap, ◌∙◌}
use Rattle.rdm_log.specs.log.Entries.{exchanges}
use Rattle.rdm_locked.specs.Exchanges.{recorded}
use Rattle.test_trials.proofs.LawLemmas.{log_over_record}
use Rattle.test_trials.proofs.tests.laws.mutex.serves_on.Goals as goal

pub returns-in-Ok-finish : goal.returns-in-Ok-finish
returns-in-Ok-finish g c =
    let same : exchanges c.in-Ok-finish.field-0.session.entries
    ≡ recorded c.asks.new.made.items = c.in-Ok-finish.ensures.exchanges ∙ ap recorded c.deref.ensures.value in (
      c.asks.new.line,
      log_over_record c.args.line c.asks.new.line c.in-Ok-finish.field-0.session c.asks.new.made.items
          c.in-Ok-finish.ensures.legal same c.asks.ensures,
    )
