use Rattle.rdm_port.specs.Program.{has_log}
use Rattle.rdm_port.proofs.LoggedLemmas.{unknown_log}
use Rattle.rdm_port.proofs.performing.perform.Goals as goal

pub returns : goal.returns
returns g c = let h = c.carry_out-status.ensures in
    (h.0, h.1, h.2, h.3, h.4, unknown_log (has_log c.args.job) _ h.1 h.2 h.3 (rw c.new-log.ensures at h.5), h.6)
