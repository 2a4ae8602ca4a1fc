use Rattle.rdm_log.proofs.Common.{refl, inl, inr, arith, false≢true, joins, accepts, sends, cames, finishes, collectors}
use Rattle.rdm_log.proofs.Common.{traded, of_request, verdicts, result, asks, answers, has_begun, entries_before_run}
use Rattle.rdm_log.proofs.Common.{last_run, run_exchanges, awaited, is_paused, is_closed, answers_to, sample_request}
use Rattle.rdm_log.proofs.laws.broken.wrong_parts.Goals as goal

pub returns : goal.returns
unfolding joins accepts finishes collectors sends cames traded of_request verdicts result awaited is_paused is_closed
    answers_to asks answers has_begun entries_before_run last_run run_exchanges
returns c = record {
  both = record {
    accepted = record { client = 0; number = 0; request = sample_request };
    oldest = refl;
    number = refl;
    fits = inl (refl, refl);
  };
  last_alone = λ may. elim may.fits [ inl own ↦ let s = own.1 in omega arith | inr wanted ↦ let s = wanted.0 in cc ];
  first_alone = λ may. false≢true may.fits.0.closed;
}
