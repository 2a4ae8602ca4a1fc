use Rattle.rdm_log.proofs.LogLemmas.KeyLemmas.{opens_own, closes_own, opens_none_else, closes_none_else}
use Rattle.rdm_log.proofs.laws.logs.open_keys_stay.Goals as goal

pub returns : goal.returns
returns c = record {
  opened = opens_own;
  closed = closes_own;
  stays = opens_none_else;
  stays_too = closes_none_else;
}
