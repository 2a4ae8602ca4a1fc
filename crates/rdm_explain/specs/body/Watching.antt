-- What is known of the devices of a list, exchange by exchange, and whether it shows that an exchange is stray.
use Rattle.std.specs.Prelude.{◌≡◌, ℕ, ◌≤◌, Bool, true, false, ◌&&◌, not, ◌==◌, List, map, Option, Some, None}
use Rattle.std.specs.Prelude.{MatchOption, if◌then◌else◌}
use Rattle.std.specs.List.{list_any, list_all}
use Rattle.rdm_wire.specs.Uid.{has, is_within}
use Rattle.rdm_wire.specs.Honest.{Asked, Heard, Seen, is_silent}
use Rattle.rdm_wire.specs.Honest.Asked.{Unmute, Branch, Mute, Other}
use Rattle.rdm_wire.specs.Honest.Heard.{Silent}
use Rattle.rdm_explain.specs.declared.rule.Rule.{Rule}
use Rattle.rdm_explain.specs.declared.rule.Rule.TheVariants.{SilentBranches, SilentMutes, GarbledMute}
use Rattle.rdm_explain.specs.declared.rule.Breach.{Breach}
use Rattle.rdm_explain.specs.declared.rule.DeviceFinding.{DeviceFinding}
use Rattle.rdm_explain.specs.declared.exchange.Exchange.{Exchange}
use Rattle.rdm_explain.specs.declared.standing.Standing.{Standing}
use Rattle.rdm_explain.specs.declared.watch.Watch.{Watch}
use Rattle.rdm_explain.specs.Exchanges.{seen_all}
use Rattle.rdm_explain.specs.Rules.{IsFirstBreach}
use Rattle.rdm_explain.specs.body.Standings.{is_alive, after, at_start, standing}

abbrev pub rule_heard : Asked → Heard → Rule
rule_heard (Branch lo hi) heard = SilentBranches
rule_heard Unmute Silent = SilentMutes
rule_heard (Mute u) Silent = SilentMutes
rule_heard Other Silent = SilentMutes
rule_heard _ _ = GarbledMute

-- the rule that an exchange breaks, if it breaks one
abbrev pub rule_by : Seen → Rule
rule_by e = rule_heard e.asked e.heard

-- before the first exchange
abbrev pub watch_of : ℕ → Watch
watch_of u = record { uid = u; standing = at_start; breach = None }

-- a device that broke no rule before, with this state now; if it may be in no state, this is its first breach
abbrev pub with_standing : Breach → Watch → Standing → Watch
with_standing b w p = record { uid = w.uid; standing = p; breach = if is_alive p then None else Some b }

abbrev pub heard_with : ℕ → Seen → Watch → Option Breach → Watch
heard_with at e w (Some _) = w
heard_with at e w None = with_standing (record { at = at; rule = rule_by e }) w (after w.uid w.standing e)

-- a device after an exchange, the one at this index
abbrev pub heard_by : ℕ → Seen → Watch → Watch
heard_by at e w = heard_with at e w w.breach

-- what it counts is at most this
pub record IsCounted (n : ℕ) (w : Watch) : Type 0 where
  pub branches : w.standing.lost_branches ≤ n
  pub mutes : w.standing.lost_mutes ≤ n
  pub unmutes : w.standing.unmutes ≤ n

-- the devices, in order
abbrev pub uids_watched : List Watch → List ℕ
uids_watched ws = map (λ (w : Watch). w.uid) ws

abbrev pub finding_of : Watch → DeviceFinding
finding_of w = record { uid = w.uid; breach = w.breach }

-- what is known after these exchanges is right: the state of a device that broke no rule, or its first breach
abbrev pub Watches : List Exchange → Watch → Type 0
Watches xs w =
    MatchOption w.breach
    ((w.standing ≡ standing w.uid (seen_all xs)) × (is_alive w.standing ≡ true))
    (λ b. IsFirstBreach w.uid xs b × (is_alive w.standing ≡ false))

-- whether the device is known to be muted
abbrev pub is_muted : Watch → Bool
is_muted w = w.standing.muted && not w.standing.unmuted

-- whether the device is outside of the range, or known to be muted
abbrev pub is_quiet_one : ℕ → ℕ → Watch → Bool
is_quiet_one lo hi w = if is_within lo hi w.uid then is_muted w else true

-- whether each device is
abbrev pub are_quiet : ℕ → ℕ → List Watch → Bool
are_quiet lo hi ws = list_all (λ w. is_quiet_one lo hi w) ws

-- whether a device of the list has this UID
abbrev pub is_listed : ℕ → List Watch → Bool
is_listed u ws = list_any (λ w. u == w.uid) ws

-- whether each device of a list is outside of the range, or stays muted
abbrev pub are_muted : ℕ → ℕ → (ℕ → Bool) → List ℕ → Bool
are_muted lo hi muted ps = list_all (λ u. if is_within lo hi u then muted u else true) ps

abbrev pub is_stray_by : List Watch → List ℕ → (ℕ → Bool) → Asked → Heard → Bool
is_stray_by ws ps muted (Branch lo hi) heard =
    not (is_silent heard) && (are_quiet lo hi ws && are_muted lo hi muted ps)
is_stray_by ws ps muted Unmute heard = false
is_stray_by ws ps muted (Mute u) heard = not (is_silent heard) && (not (is_listed u ws) && not (has ps u))
is_stray_by ws ps muted Other heard = false

-- whether an exchange that didn't fail is stray, by which devices that come or leave stay muted
abbrev pub is_stray : List Watch → List ℕ → (ℕ → Bool) → Seen → Bool
is_stray ws ps muted e = is_stray_by ws ps muted e.asked e.heard
