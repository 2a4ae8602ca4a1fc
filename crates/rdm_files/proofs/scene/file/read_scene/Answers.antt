use Rattle.std.proofs.Common.{subst, sym, codes, [], ℕ}
use Rattle.serde_json.specs.View.{view}
use Rattle.rdm_line.specs.declared.collision.Collision.{Collision}
use Rattle.rdm_files.specs.Forms.{IsListOf, MayHave}
use Rattle.rdm_files.specs.SceneFiles.{IsCollision, IsExchange, AreDevices, AreKnown, any_length}
use Rattle.rdm_files.proofs.FormLemmas.{passed, by_default}
use Rattle.rdm_files.proofs.scene.file.read_scene.Goals as goal

pub returns-in_err-collisions : goal.returns-in_err-collisions
returns-in_err-collisions c =
    passed _ _ _ c.from_residual-in_err-collisions.ensures.1
    (λ other f h. c.in_err-collisions.ensures other f.scene.collisions.items
    (by_default (codes "collisions") (IsListOf Collision IsCollision 0 any_length) _ _ (view c.args.value.now)
    f.scene.collisions.items (sym c.new-2.ensures) h.collisions))

pub returns-in_err-losses : goal.returns-in_err-losses
returns-in_err-losses c =
    passed _ _ _ c.from_residual-in_err-losses.ensures.1
    (λ other f h. c.in_err-losses.ensures other f.scene.losses.items
    (by_default (codes "losses") (IsListOf ℕ IsExchange 0 any_length) _ _ (view c.args.value.now)
    f.scene.losses.items (sym c.new-3.ensures) h.losses))

pub returns-in_err-fails : goal.returns-in_err-fails
returns-in_err-fails c =
    passed _ _ _ c.from_residual-in_err-fails.ensures.1
    (λ other f h. c.in_err-fails.ensures other f.scene.fails.items
    (by_default (codes "fails") (IsListOf ℕ IsExchange 0 any_length) _ _ (view c.args.value.now) f.scene.fails.items
    (sym c.new-4.ensures) h.fails))

pub returns-in_err-budget : goal.returns-in_err-budget
returns-in_err-budget c =
    passed _ _ _ c.from_residual-in_err-budget.ensures.1 (λ other f h. c.in_err-budget.ensures other f.budget h.budget)

pub returns : goal.returns
returns c = record {
  source = c.in_ok-source.ensures;
  devices = by_default (codes "devices") AreDevices _ _ (view c.args.value.now) c.in_ok-devices.devices c.new.ensures
      c.in_ok-devices.ensures;
  collisions = subst (λ cs. MayHave (codes "collisions") (IsListOf Collision IsCollision 0 any_length) []
      (view c.args.value.now) cs) (sym c.into_vec.ensures)
      (by_default (codes "collisions") (IsListOf Collision IsCollision 0 any_length) _ _ (view c.args.value.now)
      c.in_ok-collisions.collisions c.new-2.ensures c.in_ok-collisions.ensures);
  losses = subst (λ ns. MayHave (codes "losses") (IsListOf ℕ IsExchange 0 any_length) [] (view c.args.value.now) ns)
      (sym c.into_vec-2.ensures) (by_default (codes "losses") (IsListOf ℕ IsExchange 0 any_length) _ _
      (view c.args.value.now) c.in_ok-losses.losses c.new-3.ensures c.in_ok-losses.ensures);
  fails = subst (λ ns. MayHave (codes "fails") (IsListOf ℕ IsExchange 0 any_length) [] (view c.args.value.now) ns)
      (sym c.into_vec-3.ensures) (by_default (codes "fails") (IsListOf ℕ IsExchange 0 any_length) _ _
      (view c.args.value.now) c.in_ok-fails.fails c.new-4.ensures c.in_ok-fails.ensures);
  known = by_default (codes "known") AreKnown _ _ (view c.args.value.now) c.in_ok-known.known c.new-5.ensures
      c.in_ok-known.ensures;
  budget = c.in_ok-budget.ensures;
}
