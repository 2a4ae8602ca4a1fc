use Rattle.rdm_files.proofs.FormLemmas.{passed}
use Rattle.rdm_files.proofs.session.client.ClientFormForm.read.Goals as goal

pub returns-in_err-places : goal.returns-in_err-places
returns-in_err-places c =
    passed _ _ _ c.from_residual.ensures.1 (λ other client h. c.in_err-places.ensures other client.places h.places)

pub returns-in_err-calls : goal.returns-in_err-calls
returns-in_err-calls c =
    passed _ _ _ c.from_residual-in_err-calls.ensures.1
    (λ other client h. c.in_err-calls.ensures other client.calls.items h.calls)
