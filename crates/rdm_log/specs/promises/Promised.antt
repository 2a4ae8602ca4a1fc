-- All that clients are promised, for one log.
use Rattle.std.specs.Prelude.{List}
use Rattle.rdm_log.specs.declared.entry.Opening.{Opening}
use Rattle.rdm_log.specs.declared.entry.Entry.{Entry}
use Rattle.rdm_log.specs.log.LogState.{LogState}
use Rattle.rdm_log.specs.promises.Headline.{OneResult, OwnRequests, OwnAnswers, InOrder, FullRefuses}
use Rattle.rdm_log.specs.promises.Headline.{NothingAfterClose}
use Rattle.rdm_log.specs.promises.Discoveries.{DiscoveriesPromised}
use Rattle.rdm_log.specs.promises.LogInBound.{InBound}

-- What clients are promised for each legal log, however its runs search.
pub record LegalPromised (o : Opening) (h : List Entry) : Type 0 where
  -- each accepted request is finished at most once, and exactly once when the queue is closed and awaits no reply
  pub one_result : OneResult o h
  -- each frame that is sent for a request is that request's packet
  pub own_requests : OwnRequests o h
  -- each Finish reports the joined answer of its request's own exchanges
  pub own_answers : OwnAnswers o h
  -- requests finish in the order in which they were accepted
  pub in_order : InOrder o h
  -- a client whose queue is full is refused, and only such a client is refused as full
  pub full_refuses : FullRefuses o h
  -- after a close nobody joins, nothing is accepted and no frame is sent
  pub nothing_after_close : NothingAfterClose o h
  -- all that is promised about discoveries
  pub discoveries : DiscoveriesPromised o h

-- All that clients are promised for the log of a session: what each legal log promises, and the bound.
pub record Promised (k : LogState) : Type 0 where
  pub log : LegalPromised k.opening k.entries
  -- a run on a calm line, whose budget suffices, is answered without fault unless the queue is closed; so is a quick
  -- one on a noisy line
  pub in_bound : InBound k
