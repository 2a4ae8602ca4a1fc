-- What is known of one device's state after some exchanges.
use Rattle.std.specs.Prelude.{ℕ, ◌+◌, Bool, true, false, ◌&&◌, ◌||◌, List, fold, ◌==◌, nat_le, if◌then◌else◌}
use Rattle.rdm_wire.specs.Uid.{is_within}
use Rattle.rdm_wire.specs.Honest.{Asked, Heard, Seen, is_silent, is_acked}
use Rattle.rdm_wire.specs.Honest.Asked.{Unmute, Branch, Mute, Other}
use Rattle.rdm_wire.specs.Honest.Heard.{Failed, Silent, One, Acked, Noise}
use Rattle.rdm_explain.specs.declared.standing.Standing.{Standing}

-- whether the device may be in some state
abbrev pub is_alive : Standing → Bool
is_alive p = p.muted || p.unmuted

-- counts after an exchange
abbrev pub with_counts : Standing → ℕ → ℕ → ℕ → Standing
with_counts p b m n = record {
  muted = p.muted;
  unmuted = p.unmuted;
  lost_branches = b;
  lost_mutes = m;
  unmutes = n;
  stopped = p.stopped;
}

-- after a branch by which b replies of it would be lost in a row
abbrev pub after_branch : Standing → ℕ → Standing
after_branch p b = record (with_counts p b 0 0) { unmuted = p.unmuted && nat_le b 4 }

-- after a mute of the device
abbrev pub after_mute : Standing → Heard → Standing
after_mute p heard =
    if is_acked heard then record (with_counts p 0 0 0) { muted = is_alive p; unmuted = false }
    else (if is_silent heard && nat_le (p.lost_mutes + 1) 4
    then record (with_counts p 0 (p.lost_mutes + 1) 0) { muted = is_alive p }
    else record (with_counts p 0 0 0) { muted = false; unmuted = false })

-- after an unmute
abbrev pub after_unmute : Standing → Standing
after_unmute p =
    if nat_le 3 (p.unmutes + 1) then record (with_counts p 0 0 (p.unmutes + 1)) { muted = false; unmuted = is_alive p }
    else record (with_counts p 0 0 (p.unmutes + 1)) { unmuted = is_alive p }

-- after an exchange that didn't fail
abbrev pub after_asked : ℕ → Standing → Asked → Heard → Standing
after_asked u p Unmute heard = after_unmute p
after_asked u p (Branch lo hi) heard =
    after_branch p (if is_within lo hi u && is_silent heard then p.lost_branches + 1 else 0)
after_asked u p (Mute v) heard = if u == v then after_mute p heard else with_counts p 0 0 0
after_asked u p Other heard = with_counts p 0 0 0

-- after a failure, which ends the run
abbrev pub stopped_at : Standing → Standing
stopped_at p = record p { stopped = true }

abbrev pub after_heard : ℕ → Standing → Asked → Heard → Standing
after_heard u p asked Failed = stopped_at p
after_heard u p asked Silent = after_asked u p asked Silent
after_heard u p asked (One v) = after_asked u p asked (One v)
after_heard u p asked (Acked ack) = after_asked u p asked (Acked ack)
after_heard u p asked Noise = after_asked u p asked Noise

abbrev pub after_either : ℕ → Bool → Standing → Asked → Heard → Standing
after_either u true p asked heard = p
after_either u false p asked heard = after_heard u p asked heard

-- after an exchange
abbrev pub after : ℕ → Standing → Seen → Standing
after u p e = after_either u p.stopped p e.asked e.heard

-- whether the line failed
abbrev pub is_failing : Heard → Bool
is_failing Failed = true
is_failing Silent = false
is_failing (One v) = false
is_failing (Acked ack) = false
is_failing Noise = false

-- before a run
abbrev pub at_start : Standing
at_start = record { muted = true; unmuted = true; lost_branches = 0; lost_mutes = 0; unmutes = 0; stopped = false }

-- after some exchanges of a run
abbrev pub standing : ℕ → List Seen → Standing
standing u xs = fold (after u) at_start xs
