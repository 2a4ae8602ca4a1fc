use Rattle.rdm_agent.proofs.Runs.{asks_in_order_by, ends_at_failure_by, ends_at_budget_by, goes_on_soundly_by}
use Rattle.rdm_agent.proofs.Runs.{finds_acknowledged_by, few_open_ranges_by}
use Rattle.rdm_agent.proofs.laws.run_asks_in_order.Goals as goal

pub returns : goal.returns
returns c = record {
  in_order = asks_in_order_by;
  ends_at_failure = ends_at_failure_by;
  ends_at_budget = ends_at_budget_by;
  goes_on = goes_on_soundly_by;
  acknowledged = finds_acknowledged_by;
  few_ranges =
      few_open_ranges_by;
}
