use Rattle.rdm_log.proofs.Common.{[], ◌∷◌, refl, joins, accepts, sends, cames, finishes, collectors, traded, of_request}
use Rattle.rdm_log.proofs.Common.{verdicts, result, asks, answers, has_begun, entries_before_run, last_run}
use Rattle.rdm_log.proofs.Common.{run_exchanges, awaited, is_paused, is_closed, answers_to, Join, Accept, Send, Came}
use Rattle.rdm_log.proofs.Common.{Finish, Collect, Close, Reply, Timeout, sample_request, sample_frame, join_only}
use Rattle.rdm_log.proofs.Common.{accepted_one, sent_one, finished_one, collected_one, closed_log, logged_with}
use Rattle.rdm_log.specs.declared.entry.Owner.TheVariants as owners
use Rattle.rdm_log.proofs.SampleLemmas.SampleLegal.{may_send}
use Rattle.rdm_log.proofs.laws.explained.sample_is_explained.Goals as goal

pub returns : goal.returns
unfolding joins accepts finishes sends cames collectors traded of_request verdicts result awaited is_paused is_closed
    answers_to asks answers has_begun entries_before_run last_run run_exchanges
returns c = λ none empty. (
  logged_with join_only,
  record { block = Join (record { 0 = 0 }) 1 ∷ []; adds = (refl, refl, refl); grows = refl },
  (
    logged_with accepted_one,
    record { block = Accept (record { 0 = 0 }) 0 sample_request ∷ []; adds = (refl, refl, refl); grows = refl },
    (
      logged_with sent_one,
      record {
        block = Send (owners.Request 0) (record { items = sample_frame }) ∷ [];
        adds = (refl, (owners.Request 0, may_send.1, refl));
        grows = refl;
      },
      (
        logged_with finished_one,
        record {
          block = Came (Reply (record { items = [] })) ∷ Finish 0 Timeout 0 ∷ [];
          adds = (refl, record { results = Finish 0 Timeout 0 ∷ []; whole = refl; each = (refl, tt) }, (tt, (tt, tt)));
          grows = refl;
        },
        (
          logged_with collected_one,
          record {
            block = Collect (record { 0 = 0 }) ∷ [];
            adds = (record { entry = Finish 0 Timeout 0; oldest = refl; told = rw empty refl }, refl);
            grows = refl;
          },
          (
            logged_with closed_log,
            record { block = Close ∷ []; adds = record { results = []; whole = refl; each = tt }; grows = refl },
            refl,
          ),
        ),
      ),
    ),
  ),
)
