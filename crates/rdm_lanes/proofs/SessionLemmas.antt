-- A whole session, from its opening to its end.
use Rattle.rdm_lanes.proofs.Common.{◌≡◌, ℕ, Bool, List, ◌++◌, length, sym, ap, ◌∙◌, subst, arith, Exchange, Makes}
use Rattle.rdm_lanes.proofs.Common.{Setup, joins, exchanges, is_closed, is_paused, LogState, Legal, Lane}
use Rattle.rdm_lanes.proofs.Common.{exchange_count, Exchanged, SameSwitches, IsBetweenTurns, AllFit, opened_with}
use Rattle.rdm_log.specs.promises.Promised.{Promised}
use Rattle.rdm_lanes.specs.Sessions.{SessionOver}
use Rattle.rdm_lanes.specs.Operators.{switches as switches_in}
use Rattle.rdm_lanes.proofs.OpenLemmas.{open_opened, no_switches_opened, not_paused_opened, no_exchanges_opened}
use Rattle.rdm_lanes.proofs.OpenLemmas.{joins_of}

pub session_over : {L : Type 0} (step : L → Exchange → L → Type 0) (setup : Setup) (keeps : Bool) (room : ℕ)
    (places : List ℕ) (before after : L) (first k : LogState) (lanes : List Lane)
    → first ≡ opened_with setup keeps room places
    → Exchanged step before first after k
    → IsBetweenTurns k → Legal k.opening k.entries → Promised k → SameSwitches first k → length lanes ≡ length places
    → AllFit k lanes → SessionOver step setup room places before after k
session_over {L} step setup keeps room places before after first k lanes is x served legal promised switches long
    fits =
    record {
      opening_is = ap (λ (s : LogState). s.opening) (x.grows) ∙ ap (λ (s : LogState). s.opening) is;
      room_is = ap (λ (s : LogState). s.room) (x.grows) ∙ ap (λ (s : LogState). s.room) is;
      clients_are = x.nobody_joined ∙ ap (λ (s : LogState). joins s.entries) is ∙ joins_of 0 places;
      nobody_else = λ c out. fits.nobody_else c (omega (arith, out, long));
      legal = legal;
      answered = served.answered;
      nothing_switched =
          switches.switches_are ∙ ap (λ (s : LogState). switches_in s.entries) is
          ∙ no_switches_opened setup keeps room places;
      not_paused =
          switches.paused ∙ ap (λ (s : LogState). is_paused s.opening s.entries) is
          ∙ not_paused_opened setup keeps room places;
      not_closed =
          switches.closed ∙ ap (λ (s : LogState). is_closed s.opening s.entries) is
          ∙ open_opened setup keeps room places;
      no_call_lost = served.no_call_lost;
      promised = promised;
      steps = subst (λ (xs : List Exchange). Makes L step before xs after)
          (sym (x.added
          ∙ ap (λ (xs : List Exchange). xs ++ x.made)
          (ap (λ (s : LogState). exchanges s.entries) is ∙ no_exchanges_opened setup keeps room places))) x.steps;
    }

pub nothing_exchanged : (setup : Setup) (keeps : Bool) (room : ℕ) (places : List ℕ) (first : LogState)
    → first ≡ opened_with setup keeps room places → exchange_count first ≡ 0
nothing_exchanged setup keeps room places first is =
    ap exchange_count is ∙ ap length (no_exchanges_opened setup keeps room places)

-- the log keeps what it kept, and nothing was handed out
pub same_keeping : {L : Type 0} (step : L → Exchange → L → Type 0) (setup : Setup) (keeps : Bool) (room : ℕ)
    (places : List ℕ) (before after : L) (first k : LogState) → first ≡ opened_with setup keeps room places
    → Exchanged step before first after k → (k.keeps ≡ keeps) × (k.gone ≡ 0)
same_keeping step setup keeps room places before after first k is x = (
  ap (λ (s : LogState). s.keeps) x.grows ∙ ap (λ (s : LogState). s.keeps) is,
  ap (λ (s : LogState). s.gone) x.grows ∙ ap (λ (s : LogState). s.gone) is,
)
