use Rattle.std.proofs.Common.{◌≡◌, sym, subst}
use Rattle.clap.specs.Words.{app_of}
use Rattle.rdm_arguments.specs.Arguments.{IsGiven, texts_of}
use Rattle.rdm_arguments.specs.declared.job.WordsFault.TheVariants.{Words}
use Rattle.rdm_arguments.proofs.ArgumentLemmas.{found_is, refused_ask}
use Rattle.rdm_arguments.proofs.job.parse_words.Goals as goal

pub returns-in-Ok-try_get_matches_from-clause-words : goal.returns-in-Ok-try_get_matches_from-clause-words
returns-in-Ok-try_get_matches_from-clause-words c is job asked =
    let found = found_is (app_of c.in-Ok.command) (texts_of c.args.words.now) c.in-Ok-try_get_matches_from.matches
    c.in-Ok.ensures c.in-Ok-try_get_matches_from.ensures.matches in
    c.given.ensures.words is job (subst (λ given. IsGiven given job) (sym found) asked.1)

pub returns-in-Err-clause-words : goal.returns-in-Err-clause-words
returns-in-Err-clause-words c is =
    let fault : c.fault_of.result ≡ Words = cc in
    refused_ask (app_of c.in-Ok.command) (texts_of c.args.words.now) c.in-Err.error c.fault_of.result c.in-Ok.ensures
    c.in-Err.ensures.kinds c.fault_of.ensures.words fault
