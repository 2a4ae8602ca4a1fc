use Rattle.std.proofs.Common.{◌≡◌, ◌+◌, length, Some, None, inl, inr, sym, subst, ◌∙◌}
use Rattle.rdm_join.specs.Result.{head_of}
use Rattle.rdm_join.specs.JoinerStanding.{JoinerStanding, IsOpen}
use Rattle.rdm_join.specs.body.Standing.{stage_with_part}
use Rattle.rdm_join.proofs.StandingLemmas.{HasRoom, HasNoRoom, part_refused, part_joined, no_room, room, joined_items}
use Rattle.rdm_join.proofs.joiner.Joiner.add_part.Goals as goal

pub returns-in_default : goal.returns-in_default
returns-in_default c =
    let old : JoinerStanding = record { stage = c.self.inside.stage; data_ = c.self.inside.joined.items } in
    let no_stage : stage_with_part old.stage (head_of c.args.part.now) ≡ None = cc in
    let moves = part_refused old c.args.part.now (subst IsOpen (sym c.self.view_is) c.requires) (inl no_stage) in
    rw (c.end.ensures.stands, c.end.ensures.step, ← c.self.view_is) moves

pub returns-then-is_err : goal.returns-then-is_err
returns-then-is_err c =
    let old : JoinerStanding = record { stage = c.self.inside.stage; data_ = c.self.inside.joined.items } in
    let error = sym c.is_err.ensures.value ∙ c.if-is_err.true in
    let long = no_room c.try_extend_from_slice.result (length old.data_ + length c.deref.result.now) 65535
    c.try_extend_from_slice.ensures.variant error in
    let too_long : HasNoRoom old c.args.part.now = rw c.deref.ensures.0 at long in
    let moves = part_refused old c.args.part.now (subst IsOpen (sym c.self.view_is) c.requires) (inr too_long) in
    rw (c.end-then-is_err.ensures.stands, c.end-then-is_err.ensures.step, ← c.self.view_is) moves

pub returns : goal.returns
returns c =
    let old : JoinerStanding = record { stage = c.self.inside.stage; data_ = c.self.inside.joined.items } in
    let no_error = sym c.is_err.ensures.value ∙ c.if-is_err.false in
    let has_room = room c.try_extend_from_slice.result (length old.data_ + length c.deref.result.now) 65535
    c.try_extend_from_slice.ensures.variant no_error in
    let fits : HasRoom old c.args.part.now = rw c.deref.ensures.0 at has_room in
    let items = joined_items c.try_extend_from_slice.result _ c.try_extend_from_slice.ensures.ok no_error in
    let stage : stage_with_part old.stage (head_of c.args.part.now) ≡ Some c.in-Some.stage = cc in
    let moves = part_joined old c.args.part.now c.in-Some.stage (subst IsOpen (sym c.self.view_is) c.requires) stage
    fits in
    rw (items, c.deref.ensures.0, ← c.self.view_is) moves
