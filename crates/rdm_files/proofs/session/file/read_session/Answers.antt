use Rattle.rdm_files.proofs.FormLemmas.{passed}
use Rattle.rdm_files.proofs.session.file.read_session.Goals as goal

pub returns-in_err-scene : goal.returns-in_err-scene
returns-in_err-scene c =
    passed _ _ _ c.from_residual.ensures.1
    (λ other file h. c.in_err-scene.ensures other (file.scene, file.source, file.budget) h.line)

pub returns-in_err-clients : goal.returns-in_err-clients
returns-in_err-clients c =
    passed _ _ _ c.from_residual-in_err-clients.ensures.1
    (λ other file h. c.in_err-clients.ensures other file.clients.items h.clients)

pub returns-in_err-ring : goal.returns-in_err-ring
returns-in_err-ring c =
    passed _ _ _ c.from_residual-in_err-ring.ensures.1 (λ other file h. c.in_err-ring.ensures other file.ring h.ring)

pub returns-in_err-search : goal.returns-in_err-search
returns-in_err-search c =
    passed _ _ _ c.from_residual-in_err-search.ensures.1 (λ other f h. c.in_err-search.ensures other f.search h.search)

pub returns-in_err-log : goal.returns-in_err-log
returns-in_err-log c =
    passed _ _ _ c.from_residual-in_err-log.ensures.1 (λ other file h. c.in_err-log.ensures other file.log h.log)

pub returns-in_err-turns : goal.returns-in_err-turns
returns-in_err-turns c =
    passed _ _ _ c.from_residual-in_err-turns.ensures.1 (λ other f h. c.in_err-turns.ensures other f.turns h.turns)
