-- How a session with ring buffers ends.
use Rattle.std.specs.Prelude.{◌≡◌, ◌≢◌, ℕ, true, length}
use Rattle.rdm_client.specs.declared.worker_end.WorkerEnd.TheVariants.{AllLeft, Turns, LogFull}
use Rattle.rdm_log.specs.log.LogState.{is_full_log}
use Rattle.rdm_log.specs.log.MaySend.{NoSend}
use Rattle.rdm_lanes.specs.declared.views.history.ViewHistory.{Ghosts}
use Rattle.rdm_lanes.specs.declared.session.together.LanesEnd.{LanesEnd}
use Rattle.rdm_lanes.specs.Ends.{AllAgree, AllRead, AllHoldTheirOwn}
use Rattle.rdm_lanes.specs.Publishing.{IsPublished}
use Rattle.rdm_lanes.specs.Views.{all_views}
use Rattle.rdm_lanes.specs.ViewsRead.{AllViewsRead, AllShownFirst}

module _ {J B X C A : Type 0} {h : Ghosts J} where
  -- The end of a session with this many bodies. Its log agrees with the end of each client. If all have left, no call
  -- is left in a ring, and no frame may be sent. If the worker ended with LogFull, the log is full. There is one end
  -- and one body for each of the bodies that were given, and both ends of all rings could be compared (`matched`).
  -- Each client has as many callbacks left as own calls without an outcome. The published views are a prefix of the
  -- log's, and are all of them unless the turns ran out. What the clients read agrees with them.
  pub record IsEnded (bodies : ℕ) (end : LanesEnd J B X C A h) : Type 0 where
    pub agree : AllAgree end.session end.ends.items
    pub all_left : end.worker ≡ AllLeft → AllRead end.ends.items × NoSend end.session.opening end.session.entries
    pub full : end.worker ≡ LogFull → is_full_log end.session ≡ true
    pub one_each : (length end.ends.items ≡ bodies) × (length end.bodies.items ≡ bodies)
    pub unspent : AllHoldTheirOwn end.ends.items
    pub matched : end.matched ≡ true
    pub published : IsPublished (all_views end.session.entries) end.published
    pub all_published : end.worker ≢ Turns → end.published ≡ all_views end.session.entries
    pub views : AllViewsRead end.published end.ends.items
    pub shown_first : AllShownFirst end.published end.ends.items
