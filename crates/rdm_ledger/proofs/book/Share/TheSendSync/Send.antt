use base.Stored.{coded_list}
use denote.RattleType.{RattleType}
use denote.Param.Send.{IsSend}
use Rattle.rdm_ledger.specs.declared.book.Named.{Ghosts}
use Rattle.rdm_ledger.specs.contracts.book.Share.{the_row}
use Rattle.rdm_ledger.proofs.Steps.{share_keyless}

pub send : (T L : RattleType) (g : Ghosts L.Denot) → IsSend (the_row T L g)
send T L g = record {
  owned = λ d vs. (
    (λ vss. (
      tt,
      (
        (λ uss.
            (tt, tt)),
        tt,
      ),
    )),
    share_keyless (coded_list T.coded).code g.lists d.index d.items,
  );
  leaving = λ k f vs. tt;
}
