-- The rules of a line that is honest to one device, and where a device breaks one first. The device is on the line
-- during the whole run. Losses are counted for it alone.
use Rattle.std.specs.Prelude.{◌≡◌, ◌≢◌, ℕ, ◌+◌, ◌<◌, true, false, List, ◌++◌, length, take, map, Option, Some, None}
use Rattle.std.specs.List.{AllByRecursion}
use Rattle.rdm_wire.specs.Uid.{is_within, IsDevice}
use Rattle.rdm_wire.specs.Honest.{Seen, HonestTo, is_acked}
use Rattle.rdm_wire.specs.Honest.Asked.{Branch, Mute}
use Rattle.rdm_wire.specs.Honest.Heard.{Silent, Failed}
use Rattle.rdm_explain.specs.declared.exchange.Exchange.{Exchange}
use Rattle.rdm_explain.specs.declared.rule.Rule.{Rule}
use Rattle.rdm_explain.specs.declared.rule.Rule.TheVariants.{SilentBranches, SilentMutes, GarbledMute}
use Rattle.rdm_explain.specs.declared.rule.Breach.{Breach}
use Rattle.rdm_explain.specs.declared.rule.DeviceFinding.{DeviceFinding}
use Rattle.rdm_explain.specs.Exchanges.{seen_all}

-- the last n exchanges have P
pub record EndsWith (n : ℕ) (P : Seen → Type 0) (x : List Seen) : Type 0 where
  pub front : List Seen
  pub last : List Seen
  pub whole : x ≡ front ++ last
  pub many : length last ≡ n
  pub each : AllByRecursion P last

-- a branch of a range with u, and no byte came
pub record IsSilentAround (u : ℕ) (e : Seen) : Type 0 where
  pub lo : ℕ
  pub hi : ℕ
  pub asked : e.asked ≡ Branch lo hi
  pub within : is_within lo hi u ≡ true
  pub silent : e.heard ≡ Silent

-- a mute of u, and no byte came
abbrev pub IsSilentMute : ℕ → Seen → Type 0
IsSilentMute u e = (e.asked ≡ Mute u) × (e.heard ≡ Silent)

-- a mute of u, and bytes came that don't acknowledge it
pub record IsGarbledMute (u : ℕ) (e : Seen) : Type 0 where
  pub asked : e.asked ≡ Mute u
  pub not_failed : e.heard ≢ Failed
  pub not_silent : e.heard ≢ Silent
  pub not_acked : is_acked e.heard ≡ false

-- the last exchanges are those that the rule forbids: five silent branches in a row around u, five silent mutes of u in
-- a row, or a mute of u that was answered by other bytes, maybe another device's. That u was unmuted in the silent
-- branches follows, since the line is no longer honest to u
abbrev pub EndsBy : ℕ → Rule → List Seen → Type 0
EndsBy u SilentBranches x = EndsWith 5 (IsSilentAround u) x
EndsBy u SilentMutes x = EndsWith 5 (IsSilentMute u) x
EndsBy u GarbledMute x = EndsWith 1 (IsGarbledMute u) x

-- the line was honest to u before this exchange and isn't with it, since the exchange breaks this rule
pub record IsFirstBreach (u : ℕ) (xs : List Exchange) (b : Breach) : Type 0 where
  pub within : b.at < length xs
  pub before : HonestTo u (seen_all (take b.at xs))
  pub here : HonestTo u (seen_all (take (b.at + 1) xs)) → ⊥
  pub never : HonestTo u (seen_all xs) → ⊥
  pub rule : EndsBy u b.rule (seen_all (take (b.at + 1) xs))

-- u followed the rules, or its first breach
abbrev pub FirstBreach : ℕ → List Exchange → Option Breach → Type 0
FirstBreach u xs None = HonestTo u (seen_all xs)
FirstBreach u xs (Some b) = IsFirstBreach u xs b

-- each finding is that of its device
abbrev pub AreFirstBreaches : List Exchange → List DeviceFinding → Type 0
AreFirstBreaches xs found = AllByRecursion (λ (f : DeviceFinding). FirstBreach f.uid xs f.breach) found

-- the devices of the findings, in order
abbrev pub uids_of_findings : List DeviceFinding → List ℕ
uids_of_findings found = map (λ (f : DeviceFinding). f.uid) found

-- by this finding a device followed the rules
pub record Followed (f : DeviceFinding) : Type 0 where
  pub device : IsDevice f.uid
  pub honest : f.breach ≡ None
