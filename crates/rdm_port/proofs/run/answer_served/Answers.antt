use Rattle.std.proofs.Common.{◌≡◌, ◌∙◌, List, ap, subst}
use Rattle.rdm_log.specs.declared.entry.Opening.{Opening}
use Rattle.rdm_log.specs.declared.entry.Entry.{Entry}
use Rattle.rdm_log.specs.log.LogState.{LogState as Kept}
use Rattle.rdm_reports.specs.OpeningText.{session_log}
use Rattle.rdm_reports.specs.Writing.{LogState, Logs}
use Rattle.rdm_port.proofs.run.answer_served.Goals as goal

-- the log of a session, by parts that are those of what it kept
logs_of : (old new : LogState) (k : Kept) (opening : Opening) (entries : List Entry)
    → opening ≡ k.opening → entries ≡ k.entries
    → Logs old new (session_log opening 0 entries) → Logs old new (session_log k.opening 0 k.entries)
logs_of old new k opening entries same_opening same_entries logs =
    subst (λ o. Logs old new (session_log o 0 k.entries)) same_opening
    (subst (λ e. Logs old new (session_log opening 0 e)) same_entries logs)

pub returns-clause-logged : goal.returns-clause-logged
returns-clause-logged g c =
    let same : c.log-kept.result.now ≡ c.args.served.session = c.log-kept.ensures.log in
    logs_of c.args.log.now c.write_log.new.log c.args.served.session c.opening.result.now
    c.all_entries-entries.result.now (c.opening.ensures ∙ ap (λ (k : Kept). k.opening) same)
    (c.all_entries-entries.ensures ∙ ap (λ (k : Kept). k.entries) same) c.write_log.ensures
