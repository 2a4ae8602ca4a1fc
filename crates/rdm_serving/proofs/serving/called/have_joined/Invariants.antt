use Rattle.std.proofs.Common.{◌≡◌, drop, map}
use Rattle.std.specs.Prelude.{filter_map}
use Rattle.rdm_log.specs.log.Entries.{join_of}
use Rattle.rdm_files.specs.declared.session.client.ClientFile.{ClientFile}
use Rattle.rdm_serving.proofs.serving.called.have_joined.Given as goal

abbrev pub invariant-entries : goal.invariant-entries
invariant-entries l =
    filter_map join_of (drop l.entry-index l.entries) ≡ map (λ (c : ClientFile). c.places) l.left
    → filter_map join_of l.entries ≡ map (λ (c : ClientFile). c.places) l.clients
