use Rattle.std.proofs.Common.{◌≡◌, ◌+◌, true, false, length, inl, inr, sym, ap, subst, ◌∙◌, arith}
use Rattle.rdm_join.specs.Result.{head_of}
use Rattle.rdm_join.specs.JoinerStanding.{JoinerStanding, IsOpen}
use Rattle.rdm_join.specs.body.Standing.{allows_whole}
use Rattle.rdm_join.proofs.StandingLemmas.{HasRoom, HasNoRoom, whole_refused, whole_joined, no_room, room, joined_items}
use Rattle.rdm_join.proofs.joiner.Joiner.add_whole.Goals as goal
use Rattle.rdm_join.proofs.joiner.Joiner.add_whole.Goals.{then-not-allows_whole-via-then-not-allows_whole}
use Rattle.rdm_join.proofs.joiner.Joiner.add_whole.Goals.{then-not-allows_whole-via-else-not-allows_whole+then-is_err}

pub returns-then-not-allows_whole : goal.returns-then-not-allows_whole
returns-then-not-allows_whole c =
    let old : JoinerStanding = record { stage = c.self.inside.stage; data_ = c.self.inside.joined.items } in
    elim c.then-not-allows_whole.branch [
      | then-not-allows_whole-via-then-not-allows_whole w ↦
          let no_whole : allows_whole old.stage (head_of c.args.whole.now)
          ≡ false = grind (arith, w.if-not-allows_whole.true, c.allows_whole.ensures, c.head_of-head.ensures) in
          let moves = whole_refused old c.args.whole.now (subst IsOpen (sym c.self.view_is) c.requires)
          (inl no_whole) in
          rw (c.end.ensures.stands, c.end.ensures.step, ← c.self.view_is) moves
      | then-not-allows_whole-via-else-not-allows_whole+then-is_err w ↦
          let long = no_room w.try_extend_from_slice.result (length old.data_ + length w.deref.result.now) 65535
          w.try_extend_from_slice.ensures.variant (sym w.is_err.ensures.value ∙ w.if-is_err.true) in
          let too_long : HasNoRoom old c.args.whole.now = rw w.deref.ensures.0 at long in
          let moves = whole_refused old c.args.whole.now (subst IsOpen (sym c.self.view_is) c.requires)
          (inr too_long) in
          rw (c.end.ensures.stands, c.end.ensures.step, ← c.self.view_is) moves
    ]

pub returns : goal.returns
returns c =
    let old : JoinerStanding = record { stage = c.self.inside.stage; data_ = c.self.inside.joined.items } in
    let no_error = sym c.is_err.ensures.value ∙ c.if-is_err.false in
    let has_room = room c.try_extend_from_slice.result (length old.data_ + length c.deref.result.now) 65535
    c.try_extend_from_slice.ensures.variant no_error in
    let fits : HasRoom old c.args.whole.now = rw c.deref.ensures.0 at has_room in
    let items = joined_items c.try_extend_from_slice.result _ c.try_extend_from_slice.ensures.ok no_error in
    let allowed : allows_whole old.stage (head_of c.args.whole.now)
    ≡ true = grind (arith, c.if-not-allows_whole.false, c.allows_whole.ensures, c.head_of-head.ensures) in
    let moves = whole_joined old c.args.whole.now (subst IsOpen (sym c.self.view_is) c.requires) allowed fits in
    let reopened = ap (λ (s : JoinerStanding). s.data_) c.self-2.view_is in
    rw (reopened, items, c.deref.ensures.0, c.head_of-head.ensures, ← c.self.view_is) moves
