use Rattle.std.proofs.Common.{sym, ap, ◌∙◌}
use Rattle.rdm_explain.specs.Exchanges.{asked_of, heard_of}
use Rattle.rdm_findings.specs.HeardUids.{heard_uid}
use Rattle.rdm_findings.proofs.heard.heard_by.Goals as goal

pub returns-in-Branch : goal.returns-in-Branch
returns-in-Branch c =
    c.spelt.ensures c.in-Branch.lo c.in-Branch.hi
    ∙ ap (λ a. heard_uid (asked_of a) (heard_of c.args.exchange.now.heard)) (sym c.in-Branch.is)
