-- How a reply changes the oldest request.
use Rattle.rdm_queue.proofs.Common.{◌≡◌, ◌<◌, List, [], ◌∷◌, length, slice_get, Option, Some, None, refl, ◌∙◌, inl, inr}
use Rattle.rdm_queue.proofs.Common.{◌⊎◌, Judged, Status, Joined, result_of, ended, JoinerStanding, StandsAt, Entry}
use Rattle.rdm_queue.proofs.Common.{Accepted, QueueState, GivesResult, StandingAt, IsStanding, end_of_oldest, owed_next}
use Rattle.rdm_queue.proofs.Common.{owed_for, finish_of, finishes_oldest}
use Rattle.rdm_join.specs.declared.status.Status.TheVariants.{NoMemory}
use Rattle.rdm_join.specs.declared.joiner.Step.TheVariants.{More, Done}
use Rattle.rdm_join.specs.JoinerStanding.{step_of, head_of_standing}
use Rattle.rdm_join.specs.body.Standing.{standing_at}
use Rattle.rdm_queue.specs.body.State.{fresh_joiner, IsFinished}

-- the completion of a joiner that has a result
abbrev pub CompletesAs : Status → JoinerStanding → Joined → Type 0
CompletesAs status s done =
    (done ≡ record { status = status; data_ = s.data_; head = head_of_standing s })
    ⊎ ((done ≡ ended NoMemory) × (0 < length s.data_))

gives : (status : Status) (j done : Joined) (s : JoinerStanding) (vs : List Judged) → status ≡ j.status
    → s ≡ standing_at (Some j) vs → CompletesAs status s done → GivesResult j done
gives status j done s vs same at (inl own) = inl (own ∙ rw (same, at) refl)
gives status j done s vs same at (inr wanted) = inr (wanted.0, rw at at wanted.1)

-- decided, with this completion
pub heard_done : (vs : List Judged) (status : Status) (s : JoinerStanding) (done : Joined)
    → Done status ≡ step_of (result_of vs) → StandsAt vs s → CompletesAs status s done
    → IsStanding vs (Some done) fresh_joiner
heard_done vs status s done step at completes = by_result (result_of vs) step at
  where
    by_result : (o : Option Joined) → Done status ≡ step_of o → s ≡ standing_at o vs
        → StandingAt o vs (Some done) fresh_joiner
    by_result None h p = absurd (no h)
      where
        no : Done status ≡ More → ⊥
        no h = cc
    by_result (Some j) h p = (done, gives status j done s vs (of_done h) p completes, refl, refl)
      where
        of_done : Done status ≡ Done j.status → status ≡ j.status
        of_done h = cc

-- the oldest request, finished with its end, which was removed
pub finished_so : (s removed new : QueueState) (done : Joined) (entry : Entry) → end_of_oldest s ≡ Some done
    → removed ≡ record s { decided = None } → (a : Accepted) × (slice_get removed.waiting 0 ≡ Some a)
    × (entry ≡ finish_of (owed_for done a)) × (new ≡ finishes_oldest removed (owed_for done a)) → IsFinished s entry new
finished_so s removed new done entry end is finished = record {
  owed = owed_for done finished.0;
  was_due = rw end (of_first s.waiting (rw is at finished.1));
  entry_is = finished.2;
  new_is = finished.3 ∙ rw is refl;
}
  where
    of_first : (ws : List Accepted) → slice_get ws 0 ≡ Some finished.0
        → owed_next (Some done) ws ≡ Some (owed_for done finished.0)
    of_first [] at = cc
    of_first (w ∷ ws) at = let same : w ≡ finished.0 = cc in rw same refl
