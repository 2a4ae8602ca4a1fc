-- What handles hold, and how calls change them.
use Rattle.std.specs.Prelude.{◌≡◌, ◌≢◌, ℕ, Bool, true, false, ◌&&◌, ◌==◌}
use denote.RattleType.{RattleType}
use Rattle.rdm_handles.specs.Rows.{controller_row, session_row, log_row, discovery_row}
use Rattle.rdm_handles.specs.declared.handle.Handle.{Handle}
use Rattle.rdm_handles.specs.declared.status.TheConstants as status

-- a kind of handle: its number, and what an open one holds
pub record HandleKind : Type 1 where
  pub number : ℕ
  pub row : RattleType
  pub held : Handle → row.Denot

abbrev pub a_controller : HandleKind
a_controller = record { number = 1; row = controller_row; held = λ h. h.controller }

abbrev pub a_session : HandleKind
a_session = record { number = 2; row = session_row; held = λ h. h.session }

abbrev pub a_log : HandleKind
a_log = record { number = 3; row = log_row; held = λ h. h.log }

abbrev pub a_discovery : HandleKind
a_discovery = record { number = 4; row = discovery_row; held = λ h. h.discovery }

-- whether a handle is open, and of the kind with this number
abbrev pub is_open_as : ℕ → Handle → Bool
is_open_as number h = h.is_open && (h.kind == number)

-- whether a handle holds a value of this kind
abbrev pub holds : HandleKind → Handle → Bool
holds kind h = is_open_as kind.number h

-- A call that needs a handle of this kind, with its status. Any other handle is refused and unchanged. One of this kind
-- is open afterwards too.
abbrev pub StaysOpen : HandleKind → Handle → Handle → ℕ → Type 0
StaysOpen kind before after result =
    (holds kind before ≡ false → (result ≡ status.NOT_OPEN) × (after ≡ before))
    × (holds kind before ≡ true → holds kind after ≡ true)

-- the same for a call that doesn't change what the handle holds
abbrev pub Reads : HandleKind → Handle → Handle → ℕ → Type 0
Reads kind before after result = StaysOpen kind before after result × (kind.held after ≡ kind.held before)

-- the same for a call that is always done, with what it then writes, and what it leaves unchanged if it is refused
abbrev pub Reports : HandleKind → Handle → Handle → ℕ → Type 0 → Type 0 → Type 0
Reports kind before after result written unchanged =
    Reads kind before after result × ((holds kind before ≡ true → (result ≡ status.DONE) × written)
    × (holds kind before ≡ false → unchanged))

-- a call that closes a handle of this kind, and leaves any other unchanged
abbrev pub Closes : HandleKind → Handle → Handle → Type 0
Closes kind before after =
    (holds kind before ≡ true → after.is_open ≡ false) × (holds kind before ≡ false → after ≡ before)

-- a call that opens a closed handle as one of this kind, and leaves an open one of any kind unchanged
abbrev pub Opens : HandleKind → Handle → Handle → ℕ → Type 0
Opens kind before after result =
    (before.is_open ≡ true → result ≡ status.ALREADY_OPEN)
    × ((result ≢ status.DONE → after ≡ before) × (result ≡ status.DONE → holds kind after ≡ true))
