use denote.Param.Send.{IsSend}
use Rattle.rdm_ledger.specs.contracts.book.Blank.{the_row}
use Rattle.rdm_ledger.proofs.Steps.{blank_keyless}

pub send : IsSend the_row
send = record { owned = λ d vs. ((λ vss. (tt, ((λ uss. (tt, tt)), tt))), blank_keyless d.name); leaving = λ k f vs. tt }
