-- Whether bytes came that no honest line allows, as a test.
use Rattle.std.specs.Prelude.{ℕ, Bool, true, false, ◌&&◌, ◌||◌, not, List, fold, ◌==◌}
use Rattle.rdm_wire.specs.Uid.{is_broadcast}
use Rattle.rdm_wire.specs.Honest.{Asked, Heard, Seen, is_acked}
use Rattle.rdm_wire.specs.Honest.Asked.{Unmute, Branch, Mute, Other}
use Rattle.rdm_wire.specs.Honest.Heard.{Failed, Silent, One, Acked, Noise}

-- whether u stays muted with one more exchange, by whether it was muted before
abbrev pub muted_after : ℕ → Bool → Asked → Heard → Bool
muted_after u before Unmute heard = false
muted_after u before (Branch lo hi) heard = before
muted_after u before (Mute v) heard = (is_acked heard && (u == v)) || before
muted_after u before Other heard = before

abbrev pub muted_with : ℕ → Bool → Seen → Bool
muted_with u before e = muted_after u before e.asked e.heard

-- whether u acknowledged a mute, and no unmute came after that
abbrev pub stays_muted : List Seen → ℕ → Bool
stays_muted x u = fold (muted_with u) false x

-- whether bytes came that aren't the text of u, or that are although u is muted, or no device's
abbrev pub is_wrong_reply : Bool → ℕ → Heard → Bool
is_wrong_reply muted u Failed = false
is_wrong_reply muted u Silent = false
is_wrong_reply muted u (One v) = muted || (not (v == u) || is_broadcast u)
is_wrong_reply muted u (Acked ack) = true
is_wrong_reply muted u Noise = true

-- whether bytes came that don't acknowledge a mute
abbrev pub is_no_acknowledgement : Heard → Bool
is_no_acknowledgement Failed = false
is_no_acknowledgement Silent = false
is_no_acknowledgement (One v) = true
is_no_acknowledgement (Acked ack) = false
is_no_acknowledgement Noise = true

abbrev pub is_garbled_by : (ℕ → Bool) → Asked → Heard → Bool
is_garbled_by muted (Branch lo hi) heard = (lo == hi) && is_wrong_reply (muted lo) lo heard
is_garbled_by muted Unmute heard = false
is_garbled_by muted (Mute u) heard = is_no_acknowledgement heard
is_garbled_by muted Other heard = false

-- whether an exchange is garbled, by which UIDs are muted
abbrev pub is_garbled : (ℕ → Bool) → Seen → Bool
is_garbled muted e = is_garbled_by muted e.asked e.heard
