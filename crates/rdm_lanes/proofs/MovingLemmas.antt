-- What a client's outcomes leave, while they are moved.
use Rattle.rdm_lanes.proofs.Common.{◌≡◌, ◌≢◌, ℕ, true≢false, false, Some, refl, sym, LogState, Lane, IsBetweenTurns}
use Rattle.rdm_lanes.proofs.Common.{LaneFits, SameLane, MovesFor, ◌+◌, true, ClientId, GrowsBy, CollectAdds, Legal}
use Rattle.rtrb.specs.Ring.{known_free}
use Rattle.rdm_log.specs.declared.outcome.Outcome.{Outcome}
use Rattle.rdm_log.specs.declared.outcome.OutcomeKind.TheVariants as kinds
use Rattle.rdm_log.specs.promises.Outcomes.{oldest_kind}
use Rattle.rdm_lanes.specs.body.Doing.{MayMoveOne, MovesOne}
use Rattle.rdm_lanes.proofs.LaneLemmas.{waits_join, same_lane, same_lane_join}
use Rattle.rdm_lanes.proofs.LineLemmas.{line_join, switches_join}
use Rattle.rdm_lanes.proofs.ServeLemmas.{steps_for_none}
use Rattle.rdm_lanes.proofs.CollectLemmas.{collects_none, collects_join, collects_switches}
use Rattle.rdm_lanes.proofs.StepLemmas.{collects, collect_step}

pub moves_none : (c : ℕ) (k : LogState) (lane next : Lane) → LaneFits c k next → IsBetweenTurns k → SameLane lane next
    → MovesFor c k lane k next
moves_none c k lane next f s same = record {
  step = steps_for_none c k lane next f s same;
  collects = collects_none k;
}

pub moves_same : (c : ℕ) (k : LogState) (lane : Lane) → LaneFits c k lane → IsBetweenTurns k → MovesFor c k lane k lane
moves_same c k lane f s = moves_none c k lane lane f s (same_lane lane)

pub moves_nothing : (c : ℕ) (k new : LogState) (lane : Lane) → MayMoveOne c k lane → new ≡ k
    → oldest_kind k.opening k.entries c ≢ Some kinds.Request → MovesOne c k lane false new lane
moves_nothing c k new lane may same kind =
    rw same (record {
      moves = moves_same c k lane may.fits may.served;
      moved = λ is. absurd (true≢false (sym is));
      kept = λ is. (refl, refl);
      none = λ is. kind;
    })

pub moves_more : (c : ℕ) (a b d : LogState) (x y z : Lane) → MovesFor c a x b y → MovesFor c b y d z
    → MovesFor c a x d z
moves_more c a b d x y z p q = record {
  step = record {
    fits = q.step.fits;
    served = q.step.served;
    others = λ n apart. waits_join n a b d (p.step.others n apart) (q.step.others n apart);
    line = line_join a b d p.step.line q.step.line;
    switches = switches_join a b d p.step.switches q.step.switches;
    rings = same_lane_join x y z p.step.rings q.step.rings;
  };
  collects = collects_join a b d p.collects q.collects;
}

-- one outcome was collected, and put on the ring
pub moves_one : (old new : LogState) (d : ClientId) (outcome : Outcome) (lane next : Lane)
    → GrowsBy old (CollectAdds old.opening old.entries d (Some outcome)) new → Legal new.opening new.entries
    → IsBetweenTurns old → LaneFits d.0 new next → SameLane lane next
    → known_free lane.replies ≡ known_free next.replies + 1 → MovesOne d.0 old lane true new next
moves_one old new d outcome lane next adds legal served fits rings slot =
    let step = collect_step old new d outcome adds legal in
    let grew = collects old new d outcome adds in
    record {
      moves = record {
        step = record {
          fits = fits;
          served = step.served served;
          others = step.wait;
          line = step.line;
          switches = collects_switches old new grew;
          rings = rings;
        };
        collects = grew;
      };
      moved = λ is. slot;
      kept = λ is. absurd (true≢false is);
      none = λ is. absurd (true≢false is);
    }
