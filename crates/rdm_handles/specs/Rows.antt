-- The logic's descriptions of what handles hold.
use denote.RattleType.{RattleType}
use Rattle.rdm_queue.specs.contracts.controller.Controller as controller
use Rattle.rdm_queue.specs.contracts.session.Session as session
use Rattle.rdm_log.specs.contracts.log.Log as log
use Rattle.rdm_handles.specs.contracts.discovery.Discovery as discovery

-- that of a controller
abbrev pub controller_row : RattleType
controller_row = controller.the_row

-- that of a discovery run without a queue
abbrev pub discovery_row : RattleType
discovery_row = discovery.the_row

-- that of a session
abbrev pub session_row : RattleType
session_row = session.the_row

-- that of a log
abbrev pub log_row : RattleType
log_row = log.the_row
