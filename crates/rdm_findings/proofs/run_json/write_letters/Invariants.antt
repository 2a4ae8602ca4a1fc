use Rattle.std.proofs.Common.{◌≡◌, ◌++◌, take}
use Rattle.std.specs.Prelude.{map}
use Rattle.rdm_findings.specs.RunJson.{exchange_letter}
use Rattle.rdm_findings.proofs.run_json.write_letters.Given as goal

abbrev pub invariant-exchanges : goal.invariant-exchanges
invariant-exchanges l =
    l.text.items ≡ l.initial.text.items ++ map exchange_letter (take l.exchange-index l.exchanges)
