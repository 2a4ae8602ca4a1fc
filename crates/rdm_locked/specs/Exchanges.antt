-- The record that a worker writes of its exchanges.
use Rattle.std.specs.Prelude.{◌≡◌, ℕ, ◌≤◌, List, ◌++◌, length, map}
use Rattle.rdm_line.specs.Events.{Makes, Exchange as LineExchange}
use Rattle.rdm_locked.specs.declared.exchange.Exchange.{Exchange}

-- an exchange of a record, as an exchange of the line
abbrev pub in_record : Exchange → LineExchange
in_record x = (x.frame, x.event)

-- the exchanges of a record
abbrev pub recorded : List Exchange → List LineExchange
recorded xs = map in_record xs

-- The record grew from old to new by the exchanges that the line made from a to b, each by its own step. There are at
-- most as many as turns.
pub record Records (L : Type 0) (step : L → LineExchange → L → Type 0) (a : L) (old : List Exchange) (b : L)
    (new : List Exchange) (turns : ℕ) : Type 0 where
  pub made : List Exchange
  pub appended : new ≡ old ++ made
  pub steps : Makes L step a (recorded made) b
  pub few : length made ≤ turns
