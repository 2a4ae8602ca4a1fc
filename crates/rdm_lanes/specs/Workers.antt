-- A worker, an operator and a history, as contracts see them.
use Rattle.std.specs.Prelude.{◌≡◌, ℕ, Bool, List}
use Rattle.logbook.specs.Pages.{Book}
use Rattle.std.specs.declared.alloc.Global.{Global}
use Rattle.rtrb.specs.declared.AnyItems.{AnyItems}
use Rattle.rtrb.specs.declared.consumer.Consumer.{Consumer}
use Rattle.rtrb.specs.Ring.{sent as pushed, received as popped, IsPair}
use Rattle.rdm_log.specs.log.LogState.{LogState}
use Rattle.rdm_lanes.specs.declared.call.OperatorCall.{OperatorCall}
use Rattle.rdm_lanes.specs.declared.worker.lane.Lane.{Lane}
use Rattle.rdm_lanes.specs.declared.worker.operator.Operator.{Operator}
use Rattle.left_right.specs.declared.Absorb.{Ghosts as Absorbs}
use Rattle.rdm_lanes.specs.declared.views.history.ViewHistory.{Ghosts}
use Rattle.rdm_lanes.specs.declared.views.publishing.Shown.{Shown}
use Rattle.rdm_lanes.specs.declared.worker.view_worker.ViewWorker.{ViewWorker}
use Rattle.rdm_lanes.specs.declared.views.history.BlankHistory.{BlankHistory}
use Rattle.rdm_client.specs.declared.view.DeviceView.{DeviceView}
use Rattle.rdm_lanes.specs.Views.{all_views}

module _ {J T R : Type 0} {h : Ghosts J} {v : Absorbs T (Shown J) (List DeviceView)} where
  -- the worker's session, by its log
  abbrev pub session_of : ViewWorker J T R h v → LogState
  session_of worker = worker.server.session

  -- how many turns its last call of `work` made
  abbrev pub turns_made_of : ViewWorker J T R h v → ℕ
  turns_made_of worker = worker.turns_made

  -- its ends of the clients' rings, in the clients' order
  abbrev pub lanes_of : ViewWorker J T R h v → List Lane
  lanes_of worker = worker.server.lanes.items

  -- its end of the operator's ring
  abbrev pub operator_ring : ViewWorker J T R h v → Consumer OperatorCall Global AnyItems
  operator_ring worker = worker.server.operator

  -- the operator's calls that it received, in order
  abbrev pub received_by : ViewWorker J T R h v → List OperatorCall
  received_by worker = popped (operator_ring worker)

  -- the operator's ring is the worker's
  abbrev pub OperatorPairs : Operator → ViewWorker J T R h v → Type 0
  OperatorPairs operator worker = IsPair operator.calls (operator_ring worker)

  -- whether the operator's leave was received
  abbrev pub operator_has_left : ViewWorker J T R h v → Bool
  operator_has_left worker = worker.server.operator_left

  -- the views that clients may read, in order
  abbrev pub published_by : ViewWorker J T R h v → List DeviceView
  published_by worker = worker.views.shown

  -- all views of the session's log are published
  abbrev pub HasPublishedAll : ViewWorker J T R h v → Type 0
  HasPublishedAll worker = published_by worker ≡ all_views worker.server.session.entries

-- what the operator sent, in order
abbrev pub called_by : Operator → List OperatorCall
called_by operator = pushed operator.calls

-- whether it has left
abbrev pub has_left : Operator → Bool
has_left operator = operator.left

-- the book of a history in which nothing was shown yet
abbrev pub book_of : BlankHistory → Book
book_of history = history.seen.book
