use Rattle.rdm_log.proofs.Common.{[], ◌∷◌, Some, refl, joins, accepts, sends, cames, finishes, collectors, traded}
use Rattle.rdm_log.proofs.Common.{of_request, verdicts, result, asks, answers, has_begun, entries_before_run, last_run}
use Rattle.rdm_log.proofs.Common.{run_exchanges, awaited, is_paused, is_closed, answers_to, unmute_frame, Full}
use Rattle.rdm_log.proofs.Common.{Incremental, LineFailed, Aborted, Join, Ask, Send, Came, Answer, Collect, Close}
use Rattle.rdm_log.proofs.Common.{join_only, logged_with, first_client, source, asked_one, begun_run, asked_during}
use Rattle.rdm_log.proofs.Common.{answered_failed, aborted_log, inl, inr}
use Rattle.rdm_join.specs.declared.event.LineEvent.TheVariants.{Failed}
use Rattle.rdm_log.specs.declared.entry.Owner.TheVariants as owners
use Rattle.rdm_log.specs.samples.SampleRuns.{collected_failed}
use Rattle.rdm_log.proofs.SampleLemmas.FailedRuns.{may_begin}
use Rattle.rdm_log.proofs.laws.explained.failing_run_is_explained.Goals as goal

pub returns : goal.returns
unfolding joins accepts finishes sends cames collectors traded of_request verdicts result awaited is_paused is_closed
    answers_to asks answers has_begun entries_before_run last_run run_exchanges
returns c = λ set empty. (
  logged_with join_only,
  record { block = Join first_client 1 ∷ []; adds = (refl, refl, refl); grows = refl },
  (
    logged_with asked_one,
    record { block = Ask first_client 0 Full ∷ []; adds = (refl, refl, refl); grows = refl },
    (
      logged_with begun_run,
      record {
        block = Send (owners.Run 1) (record { items = unmute_frame source 0 }) ∷ [];
        adds = (refl, (owners.Run 1, may_begin, refl));
        grows = refl;
      },
      (
        logged_with asked_during,
        record { block = Ask first_client 1 Incremental ∷ []; adds = (refl, refl, refl); grows = refl },
        (
          logged_with answered_failed,
          record {
            block = Came Failed ∷ Answer 0 1 (Some LineFailed) ∷ [];
            adds = (
              refl,
              record { results = Answer 0 1 (Some LineFailed) ∷ []; whole = refl; each = (refl, tt) },
              (
                tt,
                (
                  λ present run. absurd (elim run [
                    | inl calm ↦ calm.calm.no_failure.0 refl
                    | inr noisy ↦ noisy.1.noisy.no_failure.0 refl
                  ]),
                  tt,
                ),
              ),
            );
            grows = refl;
          },
          (
            logged_with aborted_log,
            record {
              block = Close ∷ Answer 1 0 (Some Aborted) ∷ [];
              adds = record { results = Answer 1 0 (Some Aborted) ∷ []; whole = refl; each = (refl, tt) };
              grows = refl;
            },
            (
              logged_with aborted_log,
              record { block = []; adds = (refl, refl); grows = refl },
              (
                logged_with collected_failed,
                record {
                  block = Collect first_client ∷ [];
                  adds = (record { entry = Answer 0 1 (Some LineFailed); oldest = refl; told = rw empty refl }, refl);
                  grows = refl;
                },
                refl,
              ),
            ),
          ),
        ),
      ),
    ),
  ),
)
