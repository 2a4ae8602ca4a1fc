-- What the calls of `Inside` change, and what they keep.
use Rattle.std.specs.Prelude.{◌≡◌, ◌+◌, List, [], ◌∷◌, ◌++◌, length, Some}
use Rattle.std.specs.List.{sum_by}
use Rattle.rdm_log.specs.declared.entry.ClientId.{ClientId}
use Rattle.rdm_log.specs.declared.entry.Entry.{Entry}
use Rattle.rdm_log.specs.declared.outcome.Outcome.{Outcome}
use Rattle.rdm_log.specs.log.History.{next_client}
use Rattle.rdm_log.specs.log.Legal.{Legal}
use Rattle.rdm_log.specs.promises.Blocks.{CollectAdds, GrowsBy}
use Rattle.rdm_log.specs.promises.Promised.{Promised}
use Rattle.rdm_locked.specs.Calls.{count_calls}
use Rattle.rdm_locked.specs.Clients.{AllAgree, got}
use Rattle.rdm_locked.specs.declared.inside.Inside.{Inside}
use Rattle.rdm_locked.specs.declared.inside.finish.SessionEnd.{SessionEnd}
use Rattle.rdm_locked.specs.declared.share.CallShare.{CallShare}

module _ {L : Type 0} where
  -- nobody joined or left
  pub record SameClients (old new : Inside L) : Type 0 where
    pub joined : new.joined ≡ old.joined
    pub left : new.left ≡ old.left

  -- the log grew by a block for which this holds, and nobody joined or left
  pub record AddsOnly (Adds : List Entry → Type 0) (old new : Inside L) : Type 0 where
    pub adds : GrowsBy old.session Adds new.session
    pub clients : SameClients old new

  -- this was the client's oldest uncollected outcome; it was collected, and the call was counted in a share, which
  -- knows the outcome
  pub record IsCollected (client : ClientId) (outcome : Outcome) (old : Inside L) (before : CallShare L)
      (new : Inside L) (after : CallShare L) : Type 0 where
    pub adds : GrowsBy old.session (CollectAdds old.session.opening old.session.entries client (Some outcome))
        new.session
    pub counted : after.count ≡ before.count + 1
    pub made : after.history.items ≡ before.history.items ++ got client outcome ∷ []

  -- The session was taken out, with one share for each client that joined. The shares add up to the calls in its log,
  -- which is legal and keeps all that clients are promised.
  pub record IsTakenOut (inside : Inside L) (shares : List (CallShare L)) (end : SessionEnd) : Type 0 where
    pub session : end.session ≡ inside.session
    pub joined : length shares ≡ inside.joined
    pub each : length shares ≡ next_client end.session.opening end.session.entries
    pub calls : end.calls ≡ sum_by (λ s. s.count) shares
    pub counted : end.calls ≡ count_calls end.session.entries
    pub agree : AllAgree end.session shares
    pub legal : Legal end.session.opening end.session.entries
    pub promised : Promised end.session
