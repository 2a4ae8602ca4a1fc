use Rattle.rdm_agent.proofs.HonestRuns.{finds_staying_by, finds_no_stranger_by}
use Rattle.rdm_agent.proofs.laws.changing_devices.Goals as goal

pub returns : goal.returns
returns c = record { staying = finds_staying_by; no_stranger = finds_no_stranger_by }
