use Rattle.rdm_agent.proofs.BoundRuns.{default_suffices, quick_suffices, quick_sizes_suffice, ends_by_default}
use Rattle.rdm_agent.proofs.laws.default_budget_suffices.Goals as goal

pub returns : goal.returns
returns c = record {
  most = default_suffices;
  ends = ends_by_default;
  quick = quick_suffices;
  quick_sizes = quick_sizes_suffice;
}
