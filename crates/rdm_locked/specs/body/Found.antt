-- What is known of clients' lists while their shares are merged at the end. A share that is merged gets a mark behind
-- its calls, so no other one has the same list.
use Rattle.std.specs.Prelude.{◌≡◌, ◌<◌, ℕ, List, [], ◌++◌, map, length, eqb, slice_index_or}
use Rattle.std.specs.List.{AllByRecursion, IsDistinct}
use Rattle.rdm_locked.specs.Clients.{client_of, made_by}
use Rattle.rdm_locked.specs.body.Own.{AreCallsOf}
use Rattle.rdm_locked.specs.declared.history.LoggedCall.{LoggedCall}
use Rattle.rdm_locked.specs.declared.share.CallShare.{CallShare}

-- the list of a client; none is empty
abbrev pub list_of : List (List LoggedCall) → ℕ → List LoggedCall
list_of lists c = slice_index_or lists c []

module _ {L : Type 0} where
  -- the share had what its client's list had, which has a mark since then
  pub record IsMerged (old now : List (List LoggedCall)) (s : CallShare L) : Type 0 where
    pub below : client_of s < length old
    pub had : list_of old (client_of s) ≡ made_by s
    pub marked : AreCallsOf (client_of s) (list_of now (client_of s)) → ⊥

  -- of all shares these are left, and the others were merged; a list without a mark is as it was
  pub record AreMerged (old now : List (List LoggedCall)) (all left : List (CallShare L)) : Type 0 where
    pub merged : List (CallShare L)
    pub is : all ≡ left ++ merged
    pub each : AllByRecursion (IsMerged old now) merged
    pub apart : IsDistinct eqb (map client_of merged)
    pub long : length now ≡ length old
    pub others : (c : ℕ) → AreCallsOf c (list_of now c) → list_of now c ≡ list_of old c
