-- What no later entry changes: the outcomes of a client's answers.
use Rattle.rdm_log.proofs.Common.{◌≡◌, ℕ, true, List, ◌++◌, Option, Some, slice_get, refl, ap, ◌∙◌, inl, inr, ◌⊎◌, ◌==◌}
use Rattle.rdm_log.proofs.Common.{eq-eqb, list_any_at, Contains, EachAfter, Device, AgentFault, Opening, Entry, Answer}
use Rattle.rdm_log.proofs.Common.{Answered, answered_of, answers, is_answered, answer_devices, is_answer_to}
use Rattle.rdm_log.proofs.Common.{uncollected, MayFollow, outcome_of, completion_of, RequestValue, DiscoveryValue}
use Rattle.rdm_log.proofs.LogLemmas.Grows.{front}
use Rattle.rdm_log.proofs.LogLemmas.Indices.{filter_map_has}
use Rattle.rdm_log.proofs.LogLemmas.LegalFacts.{legal_facts}
use Rattle.rdm_log.proofs.PromiseLemmas.StableResults.{contains_from_get, IsFinish, IsReply, uncollected_found}
use Rattle.rdm_log.proofs.PromiseLemmas.StableResults.{uncollected_answer}
use Rattle.rdm_log.proofs.PromiseLemmas.OwnAnswers.{finished_stays}
use Rattle.rdm_log.proofs.PromiseLemmas.RunsAnswer.{exchanges_stay}
use Rattle.rdm_log.proofs.PromiseLemmas.OutcomeLemmas.{named}

-- the devices of an answered run don't change
pub devices_stay : (o : Opening) (h more : List Entry) (r : ℕ) → EachAfter (MayFollow o) (h ++ more)
    → is_answered r h ≡ true → answer_devices r (h ++ more) ≡ answer_devices r h
devices_stay o h more r each is = rw (exchanges_stay o h more r each is) refl

pub outcome_stays : (o : Opening) (h more : List Entry) (c i : ℕ) (x : Entry) → EachAfter (MayFollow o) (h ++ more)
    → slice_get (uncollected o c h) i ≡ Some x → outcome_of (h ++ more) x ≡ outcome_of h x
outcome_stays o h more c i x each at = by_kind (uncollected_answer o h (legal_facts o h (front o h more each)) c i x at)
  where
    found : (j : ℕ) × (slice_get h j ≡ Some x) × (is_answer_to o c h x ≡ true)
    found = uncollected_found o h c i x at

    by_kind : IsFinish o h x ⊎ IsReply x → outcome_of (h ++ more) x ≡ outcome_of h x
    by_kind (inl f) =
        rw f.is (ap (λ r. Some (RequestValue (Some f.number) (completion_of f.status r)))
        (finished_stays o h more f.number each f.finished))
    by_kind (inr f) =
        rw f.is
        (ap (λ (ds : List Device).
        Some (DiscoveryValue (Some f.number) (record { run = f.run; fault = f.fault; devices = ds })))
        (devices_stay o h more f.run each
        (named h found.0 f.number f.run f.fault (found.1 ∙ ap (λ y. Some y) f.is))))
