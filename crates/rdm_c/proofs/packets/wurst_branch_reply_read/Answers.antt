use Rattle.std.proofs.Common.{◌≡◌, refl, ◌∙◌}
use Rattle.rdm_wire.specs.declared.branch.BranchReply.{BranchReply}
use Rattle.rdm_wire.specs.declared.branch.BranchReply.TheVariants.{One, Collision}
use Rattle.rdm_c.proofs.packets.wurst_branch_reply_read.Goals as goal

pub returns-in-One-clause-each : goal.returns-in-One-clause-each
returns-in-One-clause-each c u text =
    let is : ◌≡◌ {A = BranchReply} (One c.in-One.one) (One u) = (c.in-One.ensures.one u).1 text in
    let same : c.in-One.one ≡ u = cc in
    (refl, c.number.ensures.value ∙ same)

pub returns-in-Collision-clause-each : goal.returns-in-Collision-clause-each
returns-in-Collision-clause-each c u text = absurd (no ((c.in-Collision.ensures.one u).1 text))
  where
    no : ◌≡◌ {A = BranchReply} Collision (One u) → ⊥
    no is = cc
