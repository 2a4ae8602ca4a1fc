use Rattle.std.proofs.lemmas.Result.{on_ok_weaker}
use Rattle.rdm_serving.proofs.LoggedLemmas.{noted_ask}
use Rattle.rdm_serving.proofs.serving.script.Script.collected.Goals as goal

pub returns-in-Ok-new-clause-notes : goal.returns-in-Ok-new-clause-notes
returns-in-Ok-new-clause-notes c =
    on_ok_weaker c.note.result (λ more. noted_ask c.args.collected c.in-Some-Ask.field-0 c.in-Some-Ask.told
    c.args.self.now.outcomes c.note.new.self.outcomes c.in-Ok-new.discovered c.in-Some-Ask.is
    c.in-Some-Ask.field-0-is
    (record { tag = c.in-Ok-new.ensures.tag; fault = c.in-Ok-new.ensures.fault; uids = c.in-Ok-new.ensures.uids }) more
    c.note.ensures.requests) c.note.ensures.noted
