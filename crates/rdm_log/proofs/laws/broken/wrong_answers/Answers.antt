use Rattle.rdm_log.proofs.Common.{sym, inl, inr, false≢true, accepts, sends, cames, finishes, traded, of_request}
use Rattle.rdm_log.proofs.Common.{verdicts, result, asks, answers, has_begun, entries_before_run, last_run}
use Rattle.rdm_log.proofs.Common.{run_exchanges, awaited, is_closed}
use Rattle.rdm_log.proofs.laws.broken.wrong_answers.Goals as goal

pub returns : goal.returns
unfolding accepts finishes sends cames traded of_request verdicts result awaited is_closed asks answers has_begun
    entries_before_run last_run run_exchanges
returns c = record {
  status = λ may. elim may.fits [ inl own ↦ let s = own.0 in cc | inr wanted ↦ let s = wanted.0 in cc ];
  length = λ may. elim may.fits [ inl own ↦ let s = own.1 in cc | inr wanted ↦ let s = wanted.0 in cc ];
  memory = λ may. elim may.fits [ inl own ↦ let s = own.0 in cc | inr wanted ↦ let s = wanted.1 in cc ];
  unsent = λ may. false≢true may.fits.0.closed;
  awaited = λ may. false≢true (sym may.fits.0.not_awaited);
}
