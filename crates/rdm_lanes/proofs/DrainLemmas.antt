-- A log whose entries were handed out says what it said.
use Rattle.rdm_lanes.proofs.Common.{◌≡◌, List, LogState, OperatorCall, Lane}
use Rattle.rdm_lanes.proofs.Common.{IsBetweenTurns, LaneFits, AllFit, IsOperated}

-- the same opening and the same entries
pub record SameHistory (old new : LogState) : Type 0 where
  pub opening : new.opening ≡ old.opening
  pub entries : new.entries ≡ old.entries

fits_on : (old new : LogState) → SameHistory old new → (c : _) (lane : Lane) → LaneFits c old lane → LaneFits c new lane
fits_on old new same c lane f = record {
  calls_are = rw same.entries f.calls_are;
  moved_are = rw (same.opening, same.entries) f.moved_are;
  requests_are = rw (same.opening, same.entries) f.requests_are;
  asks_are = rw (same.opening, same.entries) f.asks_are;
  left_is = f.left_is;
}

pub all_fit_on : (old new : LogState) → SameHistory old new → (lanes : List Lane) → AllFit old lanes
    → AllFit new lanes
all_fit_on old new same lanes f = record {
  each = λ i lane at. fits_on old new same i lane (f.each i lane at);
  clients_are = rw (same.opening, same.entries) f.clients_are;
  nobody_else = λ c out. rw same.entries (f.nobody_else c out);
}

pub served_on : (old new : LogState) → SameHistory old new → IsBetweenTurns old → IsBetweenTurns new
served_on old new same s = record {
  answered = rw same.entries s.answered;
  no_call_lost = record {
    rightly = λ front back c call cause at. rw same.opening
        (s.no_call_lost.rightly front back c call cause (rw same.entries at at));
  };
}

pub operated_on : (old new : LogState) → SameHistory old new → (calls : List OperatorCall) → IsOperated old calls
    → IsOperated new calls
operated_on old new same calls is = record {
  not_paused = rw same.opening is.not_paused;
  not_closed = rw same.opening is.not_closed;
  switched = rw same.entries is.switched;
}
